-- What may come in a sound world keeps that targets that count show their cuts and stand in their groups: a move, and the first hold of an
-- attempt, done or counted as done in a stop.
use Rattle.std.proofs.Common.{ℕ, ◌≡◌, refl, ◌∙◌, ap, sym, true, List, ◌++◌, Option, subst}
use Rattle.dr_model.specs.declared.event.Event.{Event}
use Rattle.dr_model.specs.Histories.{Write, histories, lists}
use Rattle.dr_model.specs.Control.{World}
use Rattle.dr_model.specs.Moves.{Move, Hold, target, told, told_in_stop}
use Rattle.dr_model.specs.Sessions.{Session, changed, begun}
use Rattle.dr_model.specs.Table.{Table, table}
use Rattle.dr_model.specs.Rows.{after}
use Rattle.dr_model.specs.Laws.{SoundBut}
use Rattle.dr_model.specs.Allowed.{May, MayOpen}
use Rattle.dr_model.specs.Cuts.{cuts, cut_for, next_cuts}
use Rattle.dr_laws_cuts.specs.Sound.{SoundCuts, MovedTo}
use Rattle.dr_laws_cuts.proofs.Told.{TellsNoCut}
use Rattle.dr_laws_closed.specs.Moments.{standing}
use Rattle.dr_laws_closed.specs.Closing.{Closing}
use Rattle.dr_laws_closed.specs.Next.{next_standing}
use Rattle.dr_laws_closed.specs.Silent.{Silent}
use Rattle.dr_laws_closed.proofs.Told.{ToldOf, told-of, stopped-of}
use Rattle.dr_laws_closed.proofs.Keeps.{no-other-cut}
use Rattle.dr_laws_targets.specs.Committeds.{committeds, next_committed}
use Rattle.dr_laws_targets.specs.Counted.{CountedIn, TargetsShowCuts}
use Rattle.dr_laws_targets.proofs.Told.{committeds-told, committeds-stopped}
use Rattle.dr_laws_targets.proofs.Quiet.{counted-world}
use Rattle.dr_laws_targets.proofs.Keeps.{moved, held}
use Rattle.dr_laws_targets.proofs.Regrouped.{counted-begun}

module _ (starts : Option ℕ) (w : World) (sound : SoundBut starts w) (kept : SoundCuts w) (closing : Closing w) (old : TargetsShowCuts w) (x : World) where
  abbrev write : ℕ → Write
  write = (histories w.events).write

  -- where a move leads, with what is told of it
  leads : (m : Move) → MovedTo w x m → ToldOf w.events x.events m (w.control.volume (target m)) → committeds x.events ≡ next_committed m (w.control.volume (target m)) (committeds w.events) → (us : List Session) → x.control.sessions ≡ us
      → CountedIn write us (after write (table w) m) (next_cuts (lists w.events) m (cuts w.events)) (next_standing m (w.control.volume (target m)) (standing w.events)) (next_committed m (w.control.volume (target m)) (committeds w.events)) → TargetsShowCuts x
  leads m to tell commit us sessions new = counted-world x write us (after write (table w) m) (next_cuts (lists w.events) m (cuts w.events)) (next_standing m (w.control.volume (target m)) (standing w.events))
      (next_committed m (w.control.volume (target m)) (committeds w.events)) to.writes sessions to.rows tell.cut tell.stand commit new

  moves : (m : Move) → TellsNoCut m → May w m → MovedTo w x m → ToldOf w.events x.events m (w.control.volume (target m)) → committeds x.events ≡ next_committed m (w.control.volume (target m)) (committeds w.events) → x.control.sessions ≡ w.control.sessions → TargetsShowCuts x
  moves m other may to tell commit sessions = leads m to tell commit w.control.sessions sessions
      (subst (λ c. CountedIn write w.control.sessions (after write (table w) m) c (next_standing m (w.control.volume (target m)) (standing w.events)) (next_committed m (w.control.volume (target m)) (committeds w.events)))
      (sym (no-other-cut (lists w.events) m (cuts w.events) other)) (moved starts w sound kept old m may.allowed may.group))

  keeps : (m : Move) → May w m → MovedTo w x m → ToldOf w.events x.events m (w.control.volume (target m)) → committeds x.events ≡ next_committed m (w.control.volume (target m)) (committeds w.events) → x.control.sessions ≡ w.control.sessions → TargetsShowCuts x
  keeps (Hold v s n first) may to tell commit sessions = leads (Hold v s n first) to tell commit w.control.sessions sessions (held starts w sound kept old closing v s n first may.allowed)
  keeps m may to tell commit sessions = moves m refl may to tell commit sessions

  opens : (v s n : ℕ) → MayOpen w v s n → MovedTo w x (Hold v s n true) → ToldOf w.events x.events (Hold v s n true) (w.control.volume v) → committeds x.events ≡ committeds w.events → x.control.sessions ≡ changed s begun w.control.sessions → TargetsShowCuts x
  opens v s n may to tell commit sessions =
      let U : Table = after write (table w) (Hold v s n true) in
      leads (Hold v s n true) to tell commit (changed s begun w.control.sessions) sessions
      (counted-begun write w.control.sessions U (cut_for s n v (lists w.events) (cuts w.events)) (standing w.events) (committeds w.events) s sound.groups.once (held starts w sound kept old closing v s n true may.allowed))

  pub may-done : (m : Move) → May w m → MovedTo w x m → x.control.sessions ≡ w.control.sessions → x.events ≡ w.events ++ told m (w.control.volume (target m)) → TargetsShowCuts x
  may-done m may to sessions is = keeps m may to (told-of w.events x.events m (w.control.volume (target m)) is) (ap committeds is ∙ committeds-told w.events m (w.control.volume (target m))) sessions

  pub may-stop : (m : Move) → May w m → MovedTo w x m → x.control.sessions ≡ w.control.sessions → (more : List Event) → Silent more → x.events ≡ w.events ++ (told_in_stop m (w.control.volume (target m)) ++ more) → TargetsShowCuts x
  may-stop m may to sessions more quiet is = keeps m may to (stopped-of w.events x.events more m (w.control.volume (target m)) quiet is) (ap committeds is ∙ committeds-stopped w.events more m (w.control.volume (target m)) quiet) sessions

  pub open-done : (v s n : ℕ) → MayOpen w v s n → MovedTo w x (Hold v s n true) → x.control.sessions ≡ changed s begun w.control.sessions → x.events ≡ w.events ++ told (Hold v s n true) (w.control.volume v) → TargetsShowCuts x
  open-done v s n may to sessions is = opens v s n may to (told-of w.events x.events (Hold v s n true) (w.control.volume v) is) (ap committeds is ∙ committeds-told w.events (Hold v s n true) (w.control.volume v)) sessions

  pub open-stop : (v s n : ℕ) → MayOpen w v s n → MovedTo w x (Hold v s n true) → x.control.sessions ≡ changed s begun w.control.sessions → (more : List Event) → Silent more → x.events ≡ w.events ++ (told_in_stop (Hold v s n true) (w.control.volume v) ++ more) → TargetsShowCuts x
  open-stop v s n may to sessions more quiet is = opens v s n may to (stopped-of w.events x.events more (Hold v s n true) (w.control.volume v) quiet is) (ap committeds is ∙ committeds-stopped w.events more (Hold v s n true) (w.control.volume v) quiet) sessions
