-- A change of the table of sessions keeps the laws of closed cuts.
use Rattle.std.proofs.Common.{◌≡◌, ◌<◌, ◌≤◌, ◌⊎◌, arith, inl, inr, refl, ap, sym, ◌∙◌, true, List, subst}
use Rattle.dr_ids.specs.declared.names.Member.{Member}
use Rattle.dr_ids.specs.declared.refusal.PhaseName.TheVariants as phase
use Rattle.dr_model.specs.Histories.{Lists}
use Rattle.dr_model.specs.Control.{Control, Pending}
use Rattle.dr_model.specs.Entries.{fields_at}
use Rattle.dr_model.specs.Sessions.{Session}
use Rattle.dr_model.specs.Phases as phases
use Rattle.dr_model.specs.Messages.{Flight}
use Rattle.dr_model.specs.Groups.{In, IsOrderFor, Groups}
use Rattle.dr_model.specs.Attempts.{phase_of, roles, seen, Attempts}
use Rattle.dr_model.specs.Flights.{IsEarly, IsPast, Flights}
use Rattle.dr_model.specs.Cuts.{Cuts}
use Rattle.dr_laws_sessions.specs.Frames.{Quiet}
use Rattle.dr_laws_sessions.proofs.Silent.{quiet-silent}
use Rattle.dr_facts.proofs.Lists.{to-map}
use Rattle.dr_laws_attempts.proofs.Tables.{quiet-unflashed}
use Rattle.dr_laws_closed.specs.Moments.{Moments, Standing}
use Rattle.dr_laws_closed.specs.Closing.{Whole, RecordsWhole, AwaitsFlash, SealedWhole, RevertibleWhole, MemberCounts, StandsAsMember, Members, ClosingIn}
use Rattle.dr_laws_closed.specs.Regroups.{WasIn, Stays, Rests, Regroups, EasesFlight}
use Rattle.dr_laws_closed.proofs.Counts.{does-count}
use Rattle.dr_logic.proofs.Truth.{false_true}

module _ (k : Control) (us : List Session) (later : Flight) (groups : Groups k) (law : Attempts k) (then_groups : Groups (record k { sessions = us; flight = later })) (then_law : Attempts (record k { sessions = us; flight = later }))
    (then_flights : Flights (record k { sessions = us; flight = later })) (turn : Regroups k.sessions us) (eases : EasesFlight k.sessions k.flight later)
    (ps : List Pending) (now : Lists) (c : Cuts) (M : Moments) (g : Standing) (old : ClosingIn k.sessions k.flight (fields_at k) ps now c M g) where
  idle-quiet : (y : Session) → phase_of y.mirror ≡ phase.Idle → Quiet y
  idle-quiet y idle r has = ap phase_of (sym has) ∙ idle

  silent : {P : Type 0} (y : Session) (m : Member) → In y us → In m y.members → phase_of y.mirror ≡ phase.Idle → (fields_at k m.a.0).recording ≡ true → P
  silent y m i here idle rec = absurd (false_true (quiet-silent (record k { sessions = us; flight = later }) y m then_groups i (idle-quiet y idle) here) rec)

  -- where it is Idle no flash is awaited, but where all floors forbid it
  over : {P : Type 0} (y : Session) (m : Member) → In y us → In m y.members → phase_of y.mirror ≡ phase.Idle → AwaitsFlash later y → (fields_at k m.c.0).floor < y.last → P
  over y m i here idle (inl early) low = absurd (subst IsEarly idle early)
  over y m i here idle (inr flies) low =
      let high : y.last ≤ (fields_at k m.c.0).floor = (then_flights.each y i).flashes y.last flies.one flies.is (subst (λ p. IsPast p y.last y.last) (sym idle) (inr tt)) (seen (roles k) m) (to-map (seen (roles k)) y.members m here) in
      absurd (omega arith)

  awaited-before : (y : Session) (m : Member) (s : Stays k.sessions y m) → AwaitsFlash later y → AwaitsFlash k.flight s.was.session
  awaited-before y m s (inl early) = inl (s.phase.early early)
  awaited-before y m s (inr flies) = eases s.was.session flies.one s.was.listed (subst (λ j. IsOrderFor later j phases.Flash s.was.session.last flies.one) s.number (subst (λ j. IsOrderFor later y.number phases.Flash j flies.one) s.last flies.is))

  whole-on : (y : Session) (m : Member) (s : Stays k.sessions y m) → Whole c M s.was.session.number s.was.session.last m.a.0 → Whole c M y.number y.last m.a.0
  whole-on y m s w = subst (λ j. Whole c M j y.last m.a.0) (sym s.number) (subst (λ j. Whole c M s.was.session.number j m.a.0) (sym s.last) w)

  records-then : Members us (RecordsWhole (fields_at k) c M)
  records-then y m i here rec = by (turn y m i here)
    where
      by : Stays k.sessions y m ⊎ Rests k.sessions y m → Whole c M y.number y.last m.a.0
      by (inl s) = whole-on y m s (old.records s.was.session m s.was.listed s.was.here rec)
      by (inr r) = silent y m i here r.idle rec

  sealed-then : Members us (SealedWhole (fields_at k) later c M)
  sealed-then y m i here awaited low to is = by (turn y m i here)
    where
      by : Stays k.sessions y m ⊎ Rests k.sessions y m → Whole c M y.number y.last m.a.0
      by (inl s) = whole-on y m s (old.sealed s.was.session m s.was.listed s.was.here (awaited-before y m s awaited) (subst (λ j. (fields_at k m.c.0).floor < j) s.last low) to (is ∙ s.last))
      by (inr r) = over y m i here r.idle awaited low

  revertible-then : Members us (RevertibleWhole (fields_at k) c M)
  revertible-then y m i here rev = by (turn y m i here)
    where
      by : Stays k.sessions y m ⊎ Rests k.sessions y m → Whole c M y.number y.last m.a.0
      by (inl s) = whole-on y m s (old.revertible s.was.session m s.was.listed s.was.here rev)
      by (inr r) = absurd (false_true (quiet-unflashed (roles k) y (idle-quiet y r.idle) (then_law.sessions y i) (seen (roles k) m) (to-map (seen (roles k)) y.members m here)) rev)

  -- a target that counts is that of a member of its session, before and after
  members-then : StandsAsMember us (fields_at k) g
  members-then z n x h =
      let o = old.members z n x h in
      let counts = does-count n (fields_at k o.member.c.0) o.counts in
      let t = (then_law.volumes o.member.c.0).counted counts in
      let b = (law.volumes o.member.c.0).counted counts in
      let at-old = (groups.lone.one o.member.c.0 b.session o.session b.member o.member b.listed o.listed b.here o.here (inr (inr (sym b.is))) (inr (inr refl))).0 in
      let same : t.member ≡ o.member = one o t.member t.is (turn t.session t.member t.listed t.here) in
      record {
        session = t.session;
        listed = t.listed;
        number = t.number ∙ (sym b.number ∙ (at-old ∙ o.number));
        member = o.member;
        here = subst (λ q. In q t.session.members) same t.here;
        is = o.is;
        counts = o.counts;
      }
    where
      was-one : (o : MemberCounts k.sessions (fields_at k) z n x) (q : Member) → q.c.0 ≡ o.member.c.0 → WasIn k.sessions q → q ≡ o.member
      was-one o q e w = (groups.lone.one o.member.c.0 w.session o.session q o.member w.listed o.listed w.here o.here (inr (inr (sym e))) (inr (inr refl))).1

      one : (o : MemberCounts k.sessions (fields_at k) z n x) (q : Member) → q.c.0 ≡ o.member.c.0 → {y : Session} → Stays k.sessions y q ⊎ Rests k.sessions y q → q ≡ o.member
      one o q e (inl s) = was-one o q e s.was
      one o q e (inr r) = elim r.target [
        | inl w ↦ was-one o q e w
        | inr none ↦ absurd (none o.session o.member o.listed o.here (sym e))
      ]

  pub closing-regrouped : ClosingIn us later (fields_at k) ps now c M g
  closing-regrouped = record { held = old.held; free = old.free; records = records-then; sealed = sealed-then; revertible = revertible-then; whole = old.whole; members = members-then }
