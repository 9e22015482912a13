-- Each kind of move keeps what the flashes of a journal have to do with sessions.
use Rattle.std.proofs.Common.{◌≡◌, ◌≤◌, ◌⊎◌, inl, inr, refl, ap, sym, subst, arith, true, false, List, [], ◌∷◌, ◌++◌, Some}
use Rattle.std.proofs.Math.Path.{fun_ext}
use Rattle.dr_logic.specs.Tables.{at}
use Rattle.dr_ids.specs.declared.names.Member.{Member}
use Rattle.dr_ids.specs.declared.refusal.PhaseName.{PhaseName}
use Rattle.dr_ids.specs.declared.refusal.PhaseName.TheVariants as phase
use Rattle.dr_model.specs.declared.event.Event.{Event}
use Rattle.dr_model.specs.Layout.{Fields}
use Rattle.dr_model.specs.Phases as phases
use Rattle.dr_model.specs.Messages.{Message}
use Rattle.dr_model.specs.Sessions.{Session}
use Rattle.dr_model.specs.Control.{Control}
use Rattle.dr_model.specs.Moves.{Move, RaiseFloor, Flash, Commit, Revert, target, fields_left, next_fields}
use Rattle.dr_model.specs.Entries.{fields_at}
use Rattle.dr_model.specs.Groups.{In, Groups, Due}
use Rattle.dr_model.specs.Attempts.{Any, Seen, SomeCommitted, AllFlashed, role_of, roles, seen, all_seen, seen_in, phase_of, owed_of, reports_of, InPhase, Attempts, InAttempt}
use Rattle.dr_model.specs.Flights.{IsEarly, IsAwaited, MayTake, may_have_sent, owed_after, reports_after, shown_in, Flights}
use Rattle.dr_facts.proofs.Lists.{in-second, to-map}
use Rattle.dr_facts.proofs.Tables.{at_cases}
use Rattle.dr_laws_attempts.proofs.Dues.{owed-works, sent-early}
use Rattle.dr_laws_attempts.proofs.Moves.{at_map, at-place, keeps}
use Rattle.dr_laws_closed.proofs.Fields.{was-revertible}
use Rattle.dr_laws_sound.proofs.Listed.{NoBegins}
use Rattle.dr_laws_commits.specs.Flashed.{FlashedIn, AllFlashedIn}
use Rattle.dr_laws_commits.proofs.Journal.{none-of, stays}
use Rattle.dr_laws_commits.proofs.WereFlashed.{AllFields, members_seen, ToldOf, IsBound, WereFlashed}
use Rattle.dr_laws_commits.proofs.Turns.{turning-settles}

-- no revert was asked for before the last flash
early-works : (p : PhaseName) → IsEarly p → phases.work_in p ≡ Some phases.Revert → ⊥
early-works phase.Coordinating early e = cc
early-works phase.Releasing early e = cc
early-works phase.Draining early e = cc
early-works phase.Flashing early e = cc
early-works p early e = early

early-sent : (p : PhaseName) → IsEarly p → may_have_sent p phases.Revert ≡ true → ⊥
early-sent phase.Coordinating early e = cc
early-sent phase.Releasing early e = cc
early-sent phase.Draining early e = cc
early-sent phase.Flashing early e = cc
early-sent p early e = early

module _ (k : Control) (law : Attempts k) (flights : Flights k) (x : Session) (i : In x k.sessions) where
  early-never : IsEarly (phase_of x.mirror) → (q : Member) → In q x.members → Due k.flight x q.server.0 phases.Revert x.last → ⊥
  early-never early q here (inl owes) = early-works (phase_of x.mirror) early (owed-works x q.server.0 phases.Revert x.last owes)
  early-never early q here (inr coming) =
      early-sent (phase_of x.mirror) early (sent-early k.flight x.number (phase_of x.mirror) x.last (owed_of x.mirror) (reports_of x.mirror) (seen_in k x) (flights.each x i) (seen (roles k) q) (to-map (seen (roles k)) x.members q here) phases.Revert coming early)

  -- where one that can't go back was reported, or an order to commit is in flight, all were flashed
  pub bound-flashed : IsBound k.flight x → AllFlashed x.last (seen_in k x)
  bound-flashed (inl told) = by told.1
    where
      by : In (record { sequence = x.last; revertible = false }) (reports_of x.mirror) ⊎ Any (λ (m : Message). IsAwaited k.flight x.number phase.Lost x.last (owed_of x.mirror) m × In (record { sequence = x.last; revertible = false }) (shown_in m.body)) k.flight.messages → AllFlashed x.last (seen_in k x)
      by (inl reported) = ((subst (λ p. InPhase p x.last (owed_of x.mirror) (reports_of x.mirror) (seen_in k x)) told.0 (law.sessions x i).phase).after reported).1
      by (inr any) =
          ((subst (λ p. (ms : List Message) → MayTake k.flight x.number p x.last (owed_of x.mirror) ms → InPhase p x.last (owed_after ms (owed_of x.mirror)) (reports_after ms (reports_of x.mirror)) (seen_in k x)) told.0 (flights.each x i).replies (any.one ∷ []) (any.is.0, tt)).after
          (in-second (reports_of x.mirror) (shown_in any.one.body) _ any.is.1)).1
  bound-flashed (inr flies) = (flights.each x i).commits flies.one flies.is

-- a flash tells of itself
abbrev pub TellsFlash : List Event → Move → Type 0
TellsFlash events (Flash v u p s n) = FlashedIn events s n p
TellsFlash events m = Unit {0}

-- a move that may come, and what it tells
module _ (k : Control) (groups : Groups k) (law : Attempts k) (flights : Flights k) (m : Move) (a : InAttempt k m) (events more : List Event) (none : NoBegins more) where
  abbrev F : AllFields
  F = fields_at k

  abbrev new : Fields
  new = fields_left m (k.volume (target m))

  abbrev then_at : AllFields
  then_at = at F (target m) new

  module _ (x : Session) (i : In x k.sessions) (old : WereFlashed k.flight F events x) (tells : TellsFlash (events ++ more) m) where
    abbrev Was : Member → Type 0
    Was q = FlashedIn (events ++ more) x.number x.last q.a.0

    on : (q : Member) → FlashedIn events x.number x.last q.a.0 → Was q
    on q h = stays events more x.number x.last q.a.0 (none-of x.number more none) h

    -- one that can go back could, or is flashed
    turned-by : (m : Move) → InAttempt k m → TellsFlash (events ++ more) m → (q : Member) → In q x.members → q.c.0 ≡ target m → (fields_left m (k.volume (target m))).revertible ≡ true → Was q
    turned-by (Flash v u p s n) a tells q here e rev = at-place k groups law (λ z r. FlashedIn (events ++ more) z.number z.last r.a.0) v a.place.session a.place.member a.place.listed a.place.here (inr (inr (sym a.target)))
        (subst (λ j. FlashedIn (events ++ more) j a.place.session.last a.place.member.a.0) (sym a.place.number) (subst (λ j. FlashedIn (events ++ more) s j a.place.member.a.0) a.last (subst (FlashedIn (events ++ more) s n) (sym a.place.is) tells)))
        x q i here (inr (inr (sym e)))
    turned-by m a tells q here e rev = on q (old.turned q here (subst (λ v. (F v).revertible ≡ true) (sym e) (was-revertible m (k.volume (target m)) tt rev)))

    turned-then : (q : Member) → In q x.members → (then_at q.c.0).revertible ≡ true → Was q
    turned-then q here = at_cases (λ v y. q.c.0 ≡ v → y.revertible ≡ true → Was q) F (target m) new
        (λ e rev. turned-by m a tells q here e rev)
        (λ v ne e rev. on q (old.turned q here (subst (λ v. (F v).revertible ≡ true) (sym e) rev)))
        q.c.0 refl

    -- a floor comes to the number only where one that could go back is committed or reverted, or by the order to revert, which comes later
    reached-by : (m : Move) → InAttempt k m → IsEarly (phase_of x.mirror) → (q : Member) → In q x.members → q.c.0 ≡ target m → x.last ≤ (fields_left m (k.volume (target m))).floor → (x.last ≤ (F (target m)).floor) ⊎ ((F (target m)).revertible ≡ true)
    reached-by (RaiseFloor v n) a early q here e low =
        let r = a x q i here e in
        let under : n ≤ x.last = r.low in
        let over : x.last ≤ n = low in
        absurd (early-never k law flights x i early q here (subst (Due k.flight x q.server.0 phases.Revert) (let same : n ≡ x.last = omega arith in same) r.due))
    reached-by (Commit v p s n) a early q here e low = inr a.revertible
    reached-by (Revert v p s n) a early q here e low = inr a.revertible
    reached-by m a early q here e low = inl low

    reached-then : IsEarly (phase_of x.mirror) → (q : Member) → In q x.members → x.last ≤ (then_at q.c.0).floor → Was q
    reached-then early q here = at_cases (λ v y. q.c.0 ≡ v → x.last ≤ y.floor → Was q) F (target m) new
        (λ e low. by e (reached-by m a early q here e low))
        (λ v ne e low. on q (old.reached early q here (subst (λ v. x.last ≤ (F v).floor) (sym e) low)))
        q.c.0 refl
      where
        by : q.c.0 ≡ target m → (x.last ≤ (F (target m)).floor) ⊎ ((F (target m)).revertible ≡ true) → Was q
        by e (inl low) = on q (old.reached early q here (subst (λ v. x.last ≤ (F v).floor) (sym e) low))
        by e (inr rev) = on q (old.turned q here (subst (λ v. (F v).revertible ≡ true) (sym e) rev))

    commits-then : phase_of x.mirror ≡ phase.Committing → AllFlashedIn (events ++ more) x x.last
    commits-then e q here = on q (old.commits e q here)

    -- what members show then
    seen-then : members_seen then_at x ≡ all_seen (at (roles k) (target m) (role_of (next_fields m k.volume))) x.members
    seen-then = ap (λ T. all_seen T x.members) (fun_ext (λ u. at_map role_of F (target m) new u))

    abbrev Settles : List Seen → Type 0
    Settles us = Any (λ (v : Seen). v.revertible ≡ true) us ⊎ ToldOf k.flight x true → SomeCommitted x.last us ⊎ IsBound k.flight x → AllFlashedIn (events ++ more) x x.last

    settles-then : Settles (members_seen then_at x)
    settles-then = subst Settles (sym seen-then)
        (turning-settles k.flight x.number (phase_of x.mirror) x.last (owed_of x.mirror) (reports_of x.mirror) (seen_in k x) (all_seen (at (roles k) (target m) (role_of (next_fields m k.volume))) x.members)
        (record { numbers = (law.sessions x i).numbers; follows = (law.sessions x i).follows }) (ToldOf k.flight x true) (IsBound k.flight x) (AllFlashedIn (events ++ more) x x.last) commits-then
        (λ can settling q here. on q (old.settles can settling q here)) (λ flies. inr flies) (bound-flashed k law flights x i) ((keeps k groups law flights m a).turns x i))

    pub were_flashed-moved : WereFlashed k.flight then_at (events ++ more) x
    were_flashed-moved = record { turned = turned-then; reached = reached-then; commits = commits-then; settles = settles-then }
