-- What an `@run` leaves that is refused, but by the stop of a server; and with it each step, and each step of a run.
use Rattle.std.proofs.Common.{ℕ, zero, suc, ◌≡◌, inl, inr, refl, ap, sym, ◌∙◌, subst, Bool, true, false, cond, List, [], ◌∷◌, Option, Some, None, Result, Ok, Err, nat_eq}
use Rattle.dr_ids.specs.declared.names.Member.{Member}
use Rattle.dr_ids.specs.declared.refusal.PhaseName.{PhaseName}
use Rattle.dr_ids.specs.declared.refusal.Refusal.{Refusal}
use Rattle.dr_ids.specs.declared.refusal.Refusal.TheVariants.{OutOfOrder, JournalFull, Syntax}
use Rattle.dr_ids.specs.declared.refusal.Kind.TheVariants.{Session as OfSession}
use Rattle.dr_model.specs.declared.said.Said.TheVariants.{Refused}
use Rattle.dr_model.specs.declared.step.Step.{Step}
use Rattle.dr_model.specs.declared.step.Step.TheVariants.{Run, Compare, Image}
use Rattle.dr_model.specs.Control.{World}
use Rattle.dr_model.specs.Carry.{carry}
use Rattle.dr_model.specs.Refusals.{unknown}
use Rattle.dr_model.specs.PairEntries.{is_copying}
use Rattle.dr_model.specs.Sessions.{Session, session_in, members_in}
use Rattle.dr_model.specs.SessionEntries.{members_on}
use Rattle.dr_model.specs.SessionPlans.{asking}
use Rattle.dr_model.specs.PlanParts.{Plan, only_says}
use Rattle.dr_model.specs.Plans.{drain_plan, has_room, has_room_for, step_plan}
use Rattle.dr_model.specs.Carried.{carried_out, said, masters_lost}
use Rattle.dr_model.specs.Forming.{Part, Way, stays, ends, goes_on, unless_refused, after_part, part_refusal, refusal_said, part, drains, is_draining, ask, next_asked, master_in, phase_in, has_committed, still_left, turn_by, turns, most_turns, form_refusal, form_in, formed, form_said, form_answer}
use Rattle.dr_model.specs.Runs.{Task, run, compared, imaged}
use Rattle.dr_model.specs.Limits.{image_events}
use Rattle.dr_model.specs.PlantImage.{Volume as ListedVolume}
use Rattle.dr_laws_sound.specs.Stops.{refused_stop}
use Rattle.dr_laws_sound.specs.RefusedSteps.{HasFormed, Stays, Drains, Asks, DrainEnds, AskEnds, StaysRefused, RefusedStay}
use Rattle.dr_laws_sound.proofs.ChecksFirst.{on-stays}
use Rattle.dr_laws_sound.proofs.RefusedPlans.{Refuses, LeavesWorld, leaves_world-says, never-refused, phase-accepts, case-leaves_world}
use Rattle.dr_laws_sound.proofs.AcknowledgingSteps.{if-plan}
use Rattle.dr_laws_sound.proofs.Parts.{compared-case}
use Rattle.dr_laws_sound.proofs.RefusedWrites.{drain-left, asking-left}
use Rattle.dr_laws_sound.proofs.RefusedSteps.{step-left, lost-stays, after-refused, one-stays}

module _ (s : ℕ) where
  -- what was shown of a way so far: where it isn't refused, what may follow it follows from its world; where it is, it ends there
  record Ran (w : World) (x : Way) : Type 0 where
    goes : x.refusal ≡ None → (r : Refusal) (u : World) → HasFormed s r x.world u → HasFormed s r w u
    ends : (r : Refusal) → x.refusal ≡ Some r → refused_stop (Some r) ≡ None → HasFormed s r w x.world

  ran-stays : (w : World) (o : Option Refusal) → Ran w (record { parts = []; world = w; refusal = o })
  ran-stays w o = record { goes = λ none r u h. h; ends = λ r e other. Stays w }

  ran-then : (w u : World) (xs : List Part) (o : Option Refusal) (more : World → Way) → Ran w (record { parts = xs; world = u; refusal = o }) → ((v : World) → Ran v (more v)) → Ran w (goes_on xs u o more)
  ran-then w u xs None more first rest = record {
    goes = λ none r x h. first.goes refl r x ((rest u).goes none r x h);
    ends = λ r e other. first.goes refl r _ ((rest u).ends r e other);
  }
  ran-then w u xs (Some q) more first rest = record { goes = λ none. absurd cc; ends = λ r e other. first.ends r e other }

  ran-if : (w : World) (b : Bool) (x y : Way) → Ran w x → Ran w y → Ran w (cond b x y)
  ran-if w true x y p q = p
  ran-if w false x y p q = q

  -- one plan
  ran-part : (w : World) (p : Plan) → (part_refusal w p ≡ None → (r : Refusal) (u : World) → HasFormed s r (after_part w p) u → HasFormed s r w u) → ((r : Refusal) → Refuses w p r → HasFormed s r w (after_part w p)) → Ran w (part w p)
  ran-part w p goes ends = by (has_room w.events)
    where
      by : (b : Bool) → Ran w (cond b (record { parts = record { world = w; plan = p } ∷ []; world = after_part w p; refusal = part_refusal w p }) (record { parts = []; world = w; refusal = Some JournalFull }))
      by true = record { goes = goes; ends = λ r e other. ends r (record { says = e; other = other }) }
      by false = ran-stays w (Some JournalFull)

  -- in a world where no server went off no master is lost
  formed-after : (r : Refusal) (w u : World) → u.control.on ≡ w.control.on → HasFormed s r w u → HasFormed s r w (masters_lost w u)
  formed-after r w u on h = subst (HasFormed s r w) (sym (lost-stays w u on)) h

  stays-after : (r : Refusal) (w u : World) → u ≡ w → HasFormed s r w (masters_lost w u)
  stays-after r w u is = formed-after r w u (ap (λ (x : World). x.control.on) is) (subst (HasFormed s r w) (sym is) (Stays w))

  drain-ends : (w : World) (a : ℕ) (r : Refusal) → Refuses w (drain_plan w.control a None) r → HasFormed s r w (after_part w (drain_plan w.control a None))
  drain-ends w a r refused = elim (drain-left w a None r refused) [
    | inl is ↦ stays-after r w _ is
    | inr sent ↦ formed-after r w _ (on-stays w _ _ sent.leads) (DrainEnds w _ a sent)
  ]

  ask-ends : (w : World) (server : ℕ) (r : Refusal) → Refuses w (asking w.control s server true) r → HasFormed s r w (after_part w (asking w.control s server true))
  ask-ends w server r refused = elim (asking-left w s true r server refused) [
    | inl is ↦ stays-after r w _ is
    | inr ordered ↦ formed-after r w _ (on-stays w _ _ ordered.carried.leads) (AskEnds w _ server ordered)
  ]

  ran-drain : (w : World) (a : ℕ) → Ran w (part w (drain_plan w.control a None))
  ran-drain w a = ran-part w (drain_plan w.control a None) (λ none r u h. Drains w u a none h) (drain-ends w a)

  ran-asking : (w : World) (server : ℕ) → Ran w (part w (asking w.control s server true))
  ran-asking w server = ran-part w (asking w.control s server true) (λ none r u h. Asks w u server none h) (ask-ends w server)

  ran-drains : (w : World) (ms : List Member) → Ran w (drains w ms)
  unfolding drains
  ran-drains w [] = ran-stays w None
  ran-drains w (m ∷ ms) =
      let x : Way = part w (drain_plan w.control m.a.0 None) in
      ran-if w (is_copying m.a.0 w.control) _ _ (ran-then w x.world x.parts x.refusal (λ v. drains v ms) (ran-drain w m.a.0) (λ v. ran-drains v ms)) (ran-drains w ms)

  ran-ask : (w : World) (p : PhaseName) (ms : List Member) (server : ℕ) → Ran w (ask w s p ms server)
  ran-ask w p ms server =
      let x : Way = cond (is_draining p) (drains w (members_on server ms)) (stays w) in
      ran-then w x.world x.parts x.refusal (λ v. part v (asking v.control s server true)) (ran-if w (is_draining p) _ _ (ran-drains w (members_on server ms)) (ran-stays w None)) (λ v. ran-asking v server)

  ran-turn : (w : World) (p : PhaseName) (ms : List Member) (o : Option ℕ) (more : World → Way) → ((v : World) → Ran v (more v)) → Ran w (turn_by w s p ms o more)
  ran-turn w p ms None more go = ran-stays w (Some (OutOfOrder p))
  ran-turn w p ms (Some server) more go = let y : Way = ask w s p ms server in ran-then w y.world y.parts y.refusal more (ran-ask w p ms server) go

  ran-turns : (bound : ℕ) (w : World) (left : ℕ) (committed : Bool) → Ran w (turns bound w s left committed)
  unfolding turns
  ran-turns zero w left committed = ran-if w (nat_eq left 0) _ _ (ran-stays w None) (ran-stays w (Some (OutOfOrder (phase_in w.control s))))
  ran-turns (suc bound) w left committed = ran-if w (nat_eq left 0) _ _ (ran-stays w None)
      (ran-turn w (phase_in w.control s) (members_in (session_in w.control.sessions s)) (next_asked (master_in w.control s)) _
      (λ v. ran-turns bound v (still_left committed (phase_in v.control s) left) (has_committed committed (phase_in w.control s) (phase_in v.control s))))

  ran-formed : (w : World) (n : ℕ) → Ran w (formed w s n)
  ran-formed w n = ran-if w (has_room w.events) _ _ (by (session_in w.control.sessions s)) (ran-stays w (Some JournalFull))
    where
      unrefused : (o : Option Refusal) (x : Way) → Ran w x → Ran w (unless_refused o w x)
      unrefused None x a = a
      unrefused (Some r) x a = ran-stays w (Some r)

      by : (o : Option Session) → Ran w (form_in w s n o)
      by None = ran-stays w (Some (unknown OfSession))
      by (Some x) = unrefused (form_refusal n x.mirror) _ (ran-turns (most_turns n) w n false)

  -- what its line says is its refusal
  way-refused : (x : Way) (r : Refusal) → part_refusal x.world (only_says (form_said s x.world.control x.refusal)) ≡ Some r → x.refusal ≡ Some r
  unfolding carry
  way-refused x r e = by x.refusal e
    where
      by : (o : Option Refusal) → refusal_said (form_answer s x.world.control.sessions o) ≡ Some r → o ≡ Some r
      by None h = let none : None ≡ Some r = sym (phase-accepts (session_in x.world.control.sessions s)) ∙ h in absurd cc
      by (Some q) h = h

run-stays : (w : World) (line : ℕ) (vs : List ListedVolume) (s n : ℕ) → StaysRefused w (record { line = line; asked = Ok (Run s n); listed = vs })
run-stays w line vs s n r e other =
    let x : Way = formed w s n in
    let p : Plan = only_says (form_said s x.world.control x.refusal) in
    let same : (carried_out x.world p).0 ≡ x.world = leaves_world-says x.world (form_said s x.world.control x.refusal) r (record { says = e; other = other }) in
    record {
      left = x.world;
      leaves = (refl, (ran-formed s w n).ends r (way-refused s x r e) other);
      after = after-refused x.world line p r e (ap (λ (u : World). u.control.on) same) ∙ ap (λ u. said u line (Refused r)) same;
    }

-- a comparison
compare-stays : (w : World) (line : ℕ) (vs : List ListedVolume) (v u : ℕ) → StaysRefused w (record { line = line; asked = Ok (Compare v u); listed = vs })
compare-stays w line vs v u r e other =
    let p : Plan = compared w v u in
    let still : LeavesWorld w p = case-leaves_world w line (Ok (Compare v u)) p (compared-case w line (Ok (Compare v u)) v u) refl in
    let same : (carried_out w p).0 ≡ w = still r (record { says = e; other = other }) in
    record { left = w; leaves = refl; after = after-refused w line p r e (ap (λ (x : World). x.control.on) same) ∙ ap (λ x. said x line (Refused r)) same }

-- an image
image-stays : (w : World) (line : ℕ) (vs : List ListedVolume) → StaysRefused w (record { line = line; asked = Ok Image; listed = vs })
image-stays w line vs r e other =
    let p : Plan = imaged w vs in
    let still : LeavesWorld w p = if-plan (LeavesWorld w) (λ q. leaves_world-says w (Refused q)) (has_room_for image_events w.events) _ _ (never-refused w _ (λ k. refl) refl) (leaves_world-says w (Refused JournalFull)) in
    let same : (carried_out w p).0 ≡ w = still r (record { says = e; other = other }) in
    record { left = w; leaves = refl; after = after-refused w line p r e (ap (λ (x : World). x.control.on) same) ∙ ap (λ x. said x line (Refused r)) same }

-- each step
asked-stays : (w : World) (line : ℕ) (vs : List ListedVolume) (asked : Result Step ℕ) → StaysRefused w (record { line = line; asked = asked; listed = vs })
asked-stays w line vs (Err column) r e other =
    let x = one-stays w line (Err column) (only_says (Refused (Syntax column))) refl (leaves_world-says w (Refused (Syntax column))) r (record { says = e; other = other }) in
    record { left = x.0; leaves = x.1.0; after = x.1.1 }
asked-stays w line vs (Ok (Run s n)) r e other = run-stays w line vs s n r e other
asked-stays w line vs (Ok (Compare v u)) r e other = compare-stays w line vs v u r e other
asked-stays w line vs (Ok Image) r e other = image-stays w line vs r e other
asked-stays w line vs (Ok step) r e other =
    let x = one-stays w line (Ok step) (step_plan w.control w.events line step) refl (step-left w line step refl) r (record { says = e; other = other }) in
    record { left = x.0; leaves = x.1.0; after = x.1.1 }

pub refused-step : (w : World) (t : Task) → StaysRefused w t
refused-step w t = asked-stays w t.line t.listed t.asked

-- and each step of a run
pub refused-run : (tasks : List Task) → RefusedStay tasks
refused-run tasks before rest t is = refused-step (run before) t
