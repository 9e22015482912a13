-- A step that is refused, but by the stop of a server, changes nothing but what `Leaves` names: by the plan of each step.
use Rattle.std.proofs.Common.{ℕ, ◌+◌, ◌≡◌, inl, inr, refl, ap, sym, ◌∙◌, subst, ◌||◌, Bool, true, false, cond, Some, None, Result, Ok}
use Rattle.dr_ids.specs.declared.refusal.Refusal.{Refusal}
use Rattle.dr_ids.specs.declared.refusal.Refusal.TheVariants.{JournalFull, NoGroup}
use Rattle.dr_model.specs.declared.said.Said.{Said}
use Rattle.dr_model.specs.declared.said.Said.TheVariants.{Refused}
use Rattle.dr_model.specs.Carried.{losing}
use Rattle.dr_model.specs.declared.step.Step.{Step}
use Rattle.dr_model.specs.declared.step.Step.TheVariants.{Write, Apply, Drain, Exchange, Deliver, Recover, Run}
use Rattle.dr_model.specs.Control.{World}
use Rattle.dr_model.specs.Carry.{dropped}
use Rattle.dr_model.specs.PlanParts.{Plan, refuses}
use Rattle.dr_model.specs.Plans.{plan_of, step_plan, has_room}
use Rattle.dr_model.specs.Carried.{carried_out, answered, said, masters_lost, after_plan}
use Rattle.dr_model.specs.Forming.{refusal_said, part_refusal}
use Rattle.dr_model.specs.Runs.{own_course}
use Rattle.dr_facts.proofs.Sessions.{losing-none}
use Rattle.dr_laws_sound.specs.RefusedSteps.{is_by_volume, is_off, with_issued, Leaves}
use Rattle.dr_laws_sound.proofs.ChecksFirst.{on-stays}
use Rattle.dr_laws_sound.proofs.RefusedPlans.{Refuses, case-leaves_world}
use Rattle.dr_laws_sound.proofs.Cases.{of-case}
use Rattle.dr_laws_sound.proofs.RefusedWrites.{says-left, write-left, applied-left, drain-left, exchange-left, deliver-left, recover-left}

-- ---- each step

-- what a step whose plan is that one leaves
abbrev pub Left : World → Step → Plan → Type 0
Left w step p = (r : Refusal) → Refuses w p r → Leaves w (Ok step) r (carried_out w p).0

plan-left : (w : World) (line : ℕ) (step : Step) → own_course (Ok step) ≡ None → Left w step (plan_of w.control w.events line step)
plan-left w line (Write v t offset len bytes) one = write-left w v t offset len bytes
plan-left w line (Apply n) one = applied-left w n
plan-left w line (Drain a most) one = drain-left w a most
plan-left w line (Exchange s name reply) one = λ r. exchange-left w s reply r name
plan-left w line (Deliver n) one = deliver-left w n
plan-left w line (Recover s) one = recover-left w s
plan-left w line (Run s n) one = absurd cc
plan-left w line step one = case-leaves_world w line (Ok step) (plan_of w.control w.events line step) (of-case w.control w.events line step) refl

-- a step without room
kept-full : (w : World) (step : Step) → own_course (Ok step) ≡ None → Leaves w (Ok step) JournalFull w
kept-full w (Write v t offset len bytes) one = refl
kept-full w (Apply n) one = refl
kept-full w (Drain a most) one = inl refl
kept-full w (Exchange s name reply) one = inl refl
kept-full w (Deliver n) one = inl refl
kept-full w (Recover s) one = refl
kept-full w (Run s n) one = absurd cc
kept-full w _ one = refl

refused-left : (w : World) (step : Step) (q : Refusal) → Leaves w (Ok step) q w → Left w step (refuses q)
refused-left w step q kept = λ r. says-left w q r (λ u. Leaves w (Ok step) r u) (λ e. subst (λ q. Leaves w (Ok step) q w) e kept)

pub step-left : (w : World) (line : ℕ) (step : Step) → own_course (Ok step) ≡ None → Left w step (step_plan w.control w.events line step)
step-left w line step one = by (has_room w.events)
  where
    by : (room : Bool) → Left w step (cond room (plan_of w.control w.events line step) (refuses JournalFull))
    by true = plan-left w line step one
    by false = refused-left w step JournalFull (kept-full w step one)

-- ---- and with its answer

-- what is left has the servers on that were on
pub left-on : (w : World) (asked : Result Step ℕ) → own_course asked ≡ None → (r : Refusal) (u : World) → Leaves w asked r u → u.control.on ≡ w.control.on
left-on w (Ok (Write v t offset len bytes)) one r u is = ap (λ (x : World). x.control.on) is ∙ by (is_by_volume r) (is_off r)
  where
    x : World
    x = with_issued w v t offset len bytes

    by : (a b : Bool) → (cond (a || b) (cond a (dropped x (w.control.issued + 1)) x) w).control.on ≡ w.control.on
    by true b = refl
    by false true = refl
    by false false = refl
left-on w (Ok (Apply n)) one r u is = ap (λ (x : World). x.control.on) is ∙ by (is_by_volume r)
  where
    by : (a : Bool) → (cond a (dropped w n) w).control.on ≡ w.control.on
    by true = refl
    by false = refl
left-on w (Ok (Drain a most)) one r u (inl is) = ap (λ (x : World). x.control.on) is
left-on w (Ok (Drain a most)) one r u (inr sent) = on-stays w u _ sent.leads
left-on w (Ok (Exchange s name reply)) one r u (inl is) = ap (λ (x : World). x.control.on) is
left-on w (Ok (Exchange s name reply)) one r u (inr ordered) = on-stays w u _ ordered.order.carried.leads
left-on w (Ok (Deliver n)) one r u (inl is) = ap (λ (x : World). x.control.on) is
left-on w (Ok (Deliver n)) one r u (inr delivered) = on-stays w u _ delivered.carried.leads
left-on w (Ok (Recover s)) one r u is = recovered-on r is
  where
    recovered-on : (r : Refusal) → Leaves w (Ok (Recover s)) r u → u.control.on ≡ w.control.on
    recovered-on (NoGroup d) leads = on-stays w u _ leads
    recovered-on _ is = ap (λ (x : World). x.control.on) is
left-on w (Ok (Run s n)) one r u is = absurd cc
left-on w _ one r u is = ap (λ (x : World). x.control.on) is

refused-says : (a : Said) (r : Refusal) → refusal_said a ≡ Some r → a ≡ Refused r
refused-says (Refused q) r e = let is : q ≡ r = cc in ap (λ q. Refused q) is
refused-says a r e = absurd cc

-- a world where no server went off loses no master
pub lost-stays : (w u : World) → u.control.on ≡ w.control.on → masters_lost w u ≡ u
lost-stays w u on =
    ap (λ (on : ℕ → Bool). record u { control = losing on u.control }) (sym on) ∙ ap (λ k. record u { control = k }) (losing-none u.control)

pub after-refused : (w : World) (line : ℕ) (p : Plan) (r : Refusal) → part_refusal w p ≡ Some r → (carried_out w p).0.control.on ≡ w.control.on → masters_lost w (after_plan w line p) ≡ said (carried_out w p).0 line (Refused r)
unfolding after_plan
after-refused w line p r e on =
    lost-stays w (said (carried_out w p).0 line (answered p (carried_out w p).0.control (carried_out w p).1)) on
    ∙ ap (said (carried_out w p).0 line) (refused-says (answered p (carried_out w p).0.control (carried_out w p).1) r e)

-- a step of one plan
pub one-stays : (w : World) (line : ℕ) (asked : Result Step ℕ) (p : Plan) → own_course asked ≡ None → ((r : Refusal) → Refuses w p r → Leaves w asked r (carried_out w p).0)
    → (r : Refusal) → Refuses w p r → (u : World) × (Leaves w asked r u × (masters_lost w (after_plan w line p) ≡ said u line (Refused r)))
one-stays w line asked p one leaves r refused =
    let x : Leaves w asked r (carried_out w p).0 = leaves r refused in
    ((carried_out w p).0, (x, after-refused w line p r refused.says (left-on w asked one r (carried_out w p).0 x)))
