use Rattle.std.proofs.Common.{◌≡◌, ◌<◌, ◌≤◌, ◌+◌, ◌∙◌, refl, sym, ap, subst, arith, take, length, Ok, inl}
use Rattle.std.specs.Option.{option_copied}
use Rattle.dr_model.specs.Limits.{most_events}
use Rattle.dr_model.specs.Lines.{tasks_read}
use Rattle.dr_model.specs.Control.{World}
use Rattle.dr_steps.specs.Here.{here}
use Rattle.dr_top.proofs.ReachLemmas.{reached-sound, reached-counted, reached-issued, reached-room, reached-few, steps-next, tasks-count, step-at, some-step, below-full, at-full}
use Rattle.dr_plant.specs.State.{PlantState}
use Rattle.dr_model.specs.Listed.{task_on}
use Rattle.dr_top.specs.Carried.{StepsLead}
use Rattle.dr_top.specs.Followed.{StepWants}
use Rattle.dr_top.proofs.LeadLemmas.{led-none, led-more, reached-led, none-taken}
use Rattle.dr_top.proofs.WantLemmas.{step-wants}
use Rattle.dr_top.proofs.carry.carry_steps.Goals as goal

pub loop-i-init : goal.loop-i-init
loop-i-init g c = record {
  led = led-none _ _ _ refl;
  still = λ first. refl;
  ready = c.requires.ready;
  faults = λ f h. h;
  room = c.requires.room;
}

pub unwrap-step-requires : goal.unwrap-step-requires
unwrap-step-requires g c = some-step c.args.line.now c.loop-i.i c.step.result (let lt = c.loop-i-test.true in let len = c.len-i-end.ensures in omega (arith, lt, len)) c.step.ensures

pub carry_task-requires-clause-sound : goal.carry_task-requires-clause-sound
carry_task-requires-clause-sound g c =
    reached-sound _ (reached-led _ _ _ _ c.requires.reached c.loop-i.invariant.led)

pub carry_task-requires-clause-counted : goal.carry_task-requires-clause-counted
carry_task-requires-clause-counted g c =
    reached-counted _ (reached-led _ _ _ _ c.requires.reached c.loop-i.invariant.led)

pub carry_task-requires-clause-count : goal.carry_task-requires-clause-count
carry_task-requires-clause-count g c =
    let few = reached-issued _ (reached-led _ _ _ _ c.requires.reached c.loop-i.invariant.led) in
    let room = c.loop-i.invariant.room in
    omega (arith, few, room)

pub carry_task-requires-clause-few : goal.carry_task-requires-clause-few
carry_task-requires-clause-few g c =
    reached-few (g.P.Plant.state c.loop-i.plant) c.loop-i.config c.loop-i.tables c.loop-i.journal.events
    (reached-led _ _ _ _ c.requires.reached c.loop-i.invariant.led)

pub carry_task-requires-clause-written : goal.carry_task-requires-clause-written
carry_task-requires-clause-written g c =
    step-at c.args.line.now c.loop-i.i c.unwrap-step.result.now (let lt = c.loop-i-test.true in let len = c.len-i-end.ensures in omega (arith, lt, len))
    (sym (sym c.step.ensures ∙ ap option_copied c.unwrap-step.ensures)) c.requires.written

pub loop-i-preserved : goal.loop-i-preserved
loop-i-preserved g c =
    let lt : c.loop-i.i < length c.args.line.now = let lt = c.loop-i-test.true in let len = c.len-i-end.ensures in omega (arith, lt, len) in
    let s = c.unwrap-step.result.now in
    let v = here (g.P.Plant.state c.loop-i.plant) c.loop-i.config c.loop-i.tables c.loop-i.journal.events in
    let reached = reached-led _ v _ _ c.requires.reached c.loop-i.invariant.led in
    let d = (g.P.Plant.state c.loop-i.plant).block in
    let e = (g.P.Plant.state c.carry_task.new.plant).block in
    let u = here (g.P.Plant.state c.carry_task.new.plant) c.carry_task.new.config c.carry_task.new.tables c.carry_task.new.journal.events in
    let w = here (g.P.Plant.state c.args.plant.now) c.args.config.now c.args.tables.now c.args.journal.now.events in
    let asked = take c.loop-i.i (tasks_read c.args.number (Ok c.args.line.now)) in
    record {
      led = subst (λ xs. StepsLead w xs u e) (sym (steps-next c.args.number c.args.line.now c.loop-i.i s lt (sym c.step.ensures ∙ ap option_copied c.unwrap-step.ensures)))
          (led-more w v u asked d e c.args.number (Ok s) c.loop-i.invariant.led c.in-Ok.ensures.task c.in-Ok.ensures.lists (λ own. ap (λ (x : PlantState). x.block) (c.in-Ok.ensures.still own)));
      still = λ first. absurd (let n : c.loop-i.i + 1 ≡ 0 = first in omega (arith, n));
      ready = c.in-Ok.ensures.ready;
      faults = λ f h. c.in-Ok.ensures.faults f (c.loop-i.invariant.faults f h);
      room = subst (λ (w : World). length w.events ≤ most_events) c.in-Ok.ensures.task (reached-room v (task_on v d c.args.number (Ok s)) reached c.in-Ok.ensures.lists (below-full _ (sym c.is_full.ensures ∙ c.if-is_full.false)));
    }

pub returns-then-is_full-clause-goes : goal.returns-then-is_full-clause-goes
returns-then-is_full-clause-goes g c =
    let lt = c.loop-i-test.true in
    let len = c.len-i-end.ensures in
    let count = tasks-count c.args.number c.args.line.now in
    record {
      done = c.loop-i.i;
      within = omega (arith, lt, len, count);
      led = c.loop-i.invariant.led;
      still = λ none. c.loop-i.invariant.still (none-taken c.loop-i.i (tasks_read c.args.number (Ok c.args.line.now)) (omega (arith, lt, len, count)) none);
      ends = (omega (arith, lt, len, count), at-full _ (sym c.is_full.ensures ∙ c.if-is_full.true) c.loop-i.invariant.room);
    }

pub returns-clause-goes : goal.returns-clause-goes
returns-clause-goes g c =
    let far = c.loop-i.auto.i-end in
    let end = c.loop-i-test.false in
    let len = c.len-i-end.ensures in
    let count = tasks-count c.args.number c.args.line.now in
    record {
      done = c.loop-i.i;
      within = omega (arith, far, len, count);
      led = c.loop-i.invariant.led;
      still = λ none. c.loop-i.invariant.still (none-taken c.loop-i.i (tasks_read c.args.number (Ok c.args.line.now)) (omega (arith, far, len, count)) none);
      ends = omega (arith, far, end, len, count);
    }

pub returns-in_default-clause-goes : goal.returns-in_default-clause-goes
returns-in_default-clause-goes g c =
    let lt = c.loop-i-test.true in
    let len = c.len-i-end.ensures in
    let count = tasks-count c.args.number c.args.line.now in
    let w = here (g.P.Plant.state c.args.plant.now) c.args.config.now c.args.tables.now c.args.journal.now.events in
    let v = here (g.P.Plant.state c.loop-i.plant) c.loop-i.config c.loop-i.tables c.loop-i.journal.events in
    let asked = take c.loop-i.i (tasks_read c.args.number (Ok c.args.line.now)) in
    let blocks = ap (λ (x : PlantState). x.block) c.in_default.ensures.same_plant in
    record {
      done = c.loop-i.i;
      within = omega (arith, lt, len, count);
      led = subst (λ x. StepsLead w asked x (g.P.Plant.state c.carry_task.new.plant).block) (sym c.in_default.ensures.same) (subst (λ device. StepsLead w asked v device) (sym blocks) c.loop-i.invariant.led);
      still = λ none. blocks ∙ c.loop-i.invariant.still (none-taken c.loop-i.i (tasks_read c.args.number (Ok c.args.line.now)) (omega (arith, lt, len, count)) none);
      ends = inl (subst (λ x. StepWants c.loop-i.i (tasks_read c.args.number (Ok c.args.line.now)) x) (sym c.in_default.ensures.same)
          (step-wants c.args.number c.args.line.now c.loop-i.i c.unwrap-step.result.now v c.loop-i.journal.spare (sym c.step.ensures ∙ ap option_copied c.unwrap-step.ensures) c.in_default.ensures.wanted));
    }
