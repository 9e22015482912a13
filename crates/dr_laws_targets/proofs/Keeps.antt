-- Each kind of move keeps that targets that count show their cuts and stand in their groups.
use Rattle.std.proofs.Common.{ℕ, ◌≡◌, ◌≢◌, ◌∙◌, sym, refl, Bool, Option, subst}
use Rattle.dr_ids.specs.declared.names.Member.{Member}
use Rattle.dr_model.specs.Histories.{Write, histories, lists}
use Rattle.dr_model.specs.Control.{Control, World}
use Rattle.dr_model.specs.Moves.{Move, Hold, target}
use Rattle.dr_model.specs.Sessions.{Session}
use Rattle.dr_model.specs.Table.{Row, Table, table}
use Rattle.dr_model.specs.Rows.{after, next_row}
use Rattle.dr_model.specs.Groups.{In}
use Rattle.dr_model.specs.Attempts.{InAttempt}
use Rattle.dr_model.specs.Laws.{SoundBut}
use Rattle.dr_model.specs.Allowed.{Allowed, MayHold}
use Rattle.dr_model.specs.Cuts.{Cuts, cuts, cut_for}
use Rattle.dr_laws_cuts.specs.Sound.{SoundCuts}
use Rattle.dr_facts.proofs.Tables.{at_cases}
use Rattle.dr_laws_cuts.proofs.Told.{holds-new}
use Rattle.dr_laws_closed.specs.Moments.{Standing, moments, standing}
use Rattle.dr_laws_closed.specs.Closing.{Closing}
use Rattle.dr_laws_closed.specs.Next.{next_standing}
use Rattle.dr_laws_targets.specs.Committeds.{committeds, next_committed}
use Rattle.dr_laws_targets.specs.Counted.{CountedIn, TargetsShowCuts}
use Rattle.dr_laws_targets.proofs.Holds.{RowHolds, AllHold, all-hold, counted-of, stands-on, held-on}
use Rattle.dr_laws_targets.proofs.Turns.{other-stands, other-committed, turns}
use Rattle.dr_laws_targets.proofs.Commits.{committed-held, committed-then}

module _ (starts : Option ℕ) (w : World) (sound : SoundBut starts w) (kept : SoundCuts w) (old : TargetsShowCuts w) where
  abbrev k : Control
  k = w.control

  abbrev T : Table
  T = table w

  abbrev write : ℕ → Write
  write = (histories w.events).write

  abbrev c : Cuts
  c = cuts w.events

  abbrev g : Standing
  g = standing w.events

  abbrev l : Standing
  l = committeds w.events

  was : AllHold write k.sessions T c g l
  was = all-hold write k.sessions T c g l old

  module _ (m : Move) (may : Allowed write T m) (a : InAttempt k m) where
    abbrev G : Standing
    G = next_standing m (k.volume (target m)) g

    abbrev L : Standing
    L = next_committed m (k.volume (target m)) l

    others : (x : Session) (q : Member) → In x k.sessions → In q x.members → q.c.0 ≢ target m → RowHolds write c G L x.number q.a.0 (T q.c.0)
    others x q i here ne = stands-on write c g l x.number q.a.0 _ _ _ G L (other-stands k sound.groups sound.attempts g m a x q i here ne) (other-committed k sound.groups sound.attempts l m a x q i here ne) _ _ _ _ (was x q i here)

    all-then : AllHold write k.sessions (after write T m) c G L
    all-then x q i here = at_cases (λ u (r : Row). q.c.0 ≡ u → RowHolds write c G L x.number q.a.0 r) T (target m) (next_row write m T)
        (λ e. turns starts w sound kept g l x q i here m may a e (subst (λ u. RowHolds write c g l x.number q.a.0 (T u)) e (was x q i here)))
        (λ u ne e. subst (λ u. RowHolds write c G L x.number q.a.0 (T u)) e (others x q i here (λ is. ne (sym e ∙ is))))
        q.c.0 refl

    -- beside what is cut
    pub moved : CountedIn write k.sessions (after write T m) c G L
    moved = counted-of write k.sessions (after write T m) c G L all-then (committed-then w l old.committed sound.groups sound.attempts m may a)

  -- a hold is the first of its volume for its number, so those that count show other cuts
  pub held : Closing w → (v s n : ℕ) (first : Bool) → MayHold T v n → CountedIn write k.sessions (after write T (Hold v s n first)) (cut_for s n v (lists w.events) c) g l
  held closing v s n first may = counted-of write k.sessions (after write T (Hold v s n first)) (cut_for s n v (lists w.events) c) g l
      (λ x q i here. held-on write c (moments w.events) g l closing.whole v s n (lists w.events) (holds-new write T sound.rows c kept.laws.cut (Hold v s n first) may) x.number q.a.0 _ _ _ _ _ _ _ (row x q i here))
      (committed-held w l old.committed v s n first)
    where
      row : (x : Session) (q : Member) → In x k.sessions → In q x.members → RowHolds write c g l x.number q.a.0 (after write T (Hold v s n first) q.c.0)
      row x q i here = at_cases (λ u (r : Row). RowHolds write c g l x.number q.a.0 (T u) → RowHolds write c g l x.number q.a.0 r) T v (next_row write (Hold v s n first) T) (λ o. o) (λ u ne o. o) q.c.0 (was x q i here)
