-- An attempt begins: no member of its session can go back, nor has any floor its number; and what was flashed in other sessions stays.
use Rattle.std.proofs.Common.{ℕ, ◌≡◌, ◌≢◌, ◌≤◌, ◌+◌, ◌⊎◌, inl, inr, ap, sym, ◌∙◌, subst, arith, false, List, ◌∷◌, ◌++◌, Some, option_map}
use Rattle.dr_ids.specs.declared.names.Member.{Member}
use Rattle.dr_ids.specs.declared.refusal.PhaseName.{PhaseName}
use Rattle.dr_ids.specs.declared.refusal.PhaseName.TheVariants as phase
use Rattle.dr_model.specs.declared.event.Event.{Event}
use Rattle.dr_model.specs.declared.event.Event.TheVariants.{Begin}
use Rattle.dr_model.specs.Phases as phases
use Rattle.dr_model.specs.Sessions.{Session, Mirror, changed, begun}
use Rattle.dr_model.specs.Control.{Control}
use Rattle.dr_model.specs.Entries.{fields_at}
use Rattle.dr_model.specs.Groups.{In, Groups}
use Rattle.dr_model.specs.Attempts.{NoneRevertible, role_of, roles, seen, seen_in, phase_of, Attempts}
use Rattle.dr_facts.proofs.Lists.{from-map, to-map}
use Rattle.dr_laws_sessions.specs.Frames.{Became}
use Rattle.dr_laws_sessions.proofs.Changes.{same-session, changed-in}
use Rattle.dr_laws_sessions.proofs.Volumes.{idle-quiet}
use Rattle.dr_laws_attempts.proofs.Tables.{quiet-unflashed}
use Rattle.dr_laws_sound.proofs.Listed.{NoBegins}
use Rattle.dr_laws_commits.proofs.Journal.{NoneOf, none-of}
use Rattle.dr_laws_commits.proofs.WereFlashed.{AllFields, members_seen, WereFlashed}
use Rattle.dr_laws_commits.proofs.Stills.{SameTarget, were_flashed-still}
use Rattle.dr_laws_commits.proofs.Tables.{were_flashed-none}

-- the session of which an attempt begins
abbrev session_of : Event → ℕ
session_of (Begin s n) = s
session_of e = 0

none-other : (s i n : ℕ) (more : List Event) → s ≢ i → NoBegins more → NoneOf s (Begin i n ∷ more)
none-other s i n more ne none k (inl is) = ne (ap session_of is)
none-other s i n more ne none k (inr h) = none-of s more none k h

-- attempt n of session i begins, and then come these events; targets show what they did
module _ (k : Control) (groups : Groups k) (law : Attempts k) (i n : ℕ) (x : Session) (r : Mirror) (listed : In x k.sessions) (number : x.number ≡ i) (has : x.mirror ≡ Some r) (idle : r.master.phase ≡ phase.Idle) (S : AllFields) (same : (v : ℕ) → SameTarget (fields_at k v) (S v))
    (events more : List Event) (none : NoBegins more) (old : (x : Session) → In x k.sessions → WereFlashed k.flight (fields_at k) events x) where
  plain : NoneRevertible (seen_in k x)
  plain = quiet-unflashed (roles k) x (idle-quiet x r has idle) (law.sessions x listed)

  each : (m : Member) → In m x.members → (S m.c.0).revertible ≡ false
  each m here = (same m.c.0).revertible ∙ plain (seen (roles k) m) (to-map (seen (roles k)) x.members m here)

  none-open : NoneRevertible (members_seen S (begun x))
  none-open u h = let o = from-map (seen (λ v. role_of (S v))) x.members u h in (λ j. (o.is j).revertible) ∙ each o.from o.here

  coordinates : phase_of (begun x).mirror ≡ phase.Coordinating
  coordinates = ap (λ o. phase_of (option_map (λ (q : Mirror). record q { master = phases.begun q.master }) o)) has

  unreached : (m : Member) → In m x.members → x.last + 1 ≤ (S m.c.0).floor → ⊥
  unreached m here high =
      let low : (fields_at k m.c.0).floor ≤ x.last = ((law.sessions x listed).numbers.each (seen (roles k) m) (to-map (seen (roles k)) x.members m here)).floor in
      let is : (S m.c.0).floor ≡ (fields_at k m.c.0).floor = (same m.c.0).floor in
      absurd (omega arith)

  were_flashed-new : WereFlashed k.flight S (events ++ Begin i n ∷ more) (begun x)
  were_flashed-new = were_flashed-none k.flight S (events ++ Begin i n ∷ more) (begun x) none-open each (λ early m here high. unreached m here high) (λ e. apart-lost (sym coordinates ∙ e)) (λ e. apart (sym coordinates ∙ e))
    where
      apart-lost : ◌≡◌ {A = PhaseName} phase.Coordinating phase.Lost → ⊥
      apart-lost e = cc

      apart : ◌≡◌ {A = PhaseName} phase.Coordinating phase.Committing → ⊥
      apart e = cc

  pub were_flashed-begun : (y : Session) → In y (changed i begun k.sessions) → WereFlashed k.flight S (events ++ Begin i n ∷ more) y
  were_flashed-begun y j = by (changed-in i begun k.sessions y groups.once j)
    where
      by : (In y k.sessions × (y.number ≢ i)) ⊎ Became i begun k.sessions y → WereFlashed k.flight S (events ++ Begin i n ∷ more) y
      by (inl o) = were_flashed-still k.flight k.flight (fields_at k) S events (Begin i n ∷ more) y (λ m here. here) (λ j. k.flight.epoch y.number) (λ m here. same m.c.0) (none-other y.number i n more o.1 none) (old y o.0)
      by (inr b) = subst (WereFlashed k.flight S (events ++ Begin i n ∷ more)) (sym (b.is ∙ ap begun (same-session k.sessions b.from x groups.once b.listed listed (b.number ∙ sym number)))) were_flashed-new
