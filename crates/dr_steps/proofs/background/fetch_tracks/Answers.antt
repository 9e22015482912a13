use Rattle.std.proofs.Common.{arith, sym, ap, ◌∙◌, ◌≡◌, [], ◌∷◌, Some, None, refl}
use Rattle.dr_model.specs.Carry.{carry}
use Rattle.dr_model.specs.Entries.{times, fetch_next}
use Rattle.dr_steps.specs.Here.{here, rest_of}
use Rattle.dr_steps.proofs.LandLemmas.{exact, told-through, ready-after, refused-by}
use Rattle.dr_steps.proofs.BackgroundLemmas.{carried-next, carried-failed, pass-later}
use Rattle.dr_model.specs.Refusals.{stopped}
use Rattle.dr_steps.proofs.background.fetch_tracks.Goals as goal
use Rattle.dr_gcopy.proofs.SendLemmas.{same-server}
use Rattle.dr_model.proofs.CarryLemmas.{carry-none}
use Rattle.dr_logic.proofs.Results.{err-always}

pub loop-init : goal.loop-init
loop-init g c = record {
  so_far = carry-none (here (g.P.Plant.state c.args.plant.now) c.args.config.now c.args.tables.now c.args.journal.now.events);
  rest = c.requires.ready.rest;
  fit = c.requires.fit;
  unarmed = λ q none. none;
  on = refl;
  faults = refl;
  room = omega arith;
}

pub copy_step-requires-clause-running : goal.copy_step-requires-clause-running
copy_step-requires-clause-running g c = (λ i. c.loop.invariant.on i (same-server (g.P.Plant.state c.loop.plant) (g.P.Plant.state c.args.plant.now) c.args.config.now c.args.t.0 i)) ∙ c.requires.running

pub returns-in_err-copy_step-clause-carried : goal.returns-in_err-copy_step-clause-carried
returns-in_err-copy_step-clause-carried g c =
    let s = g.P.Plant.state c.args.plant.now in let x = g.P.Plant.state c.loop.plant in let y = g.P.Plant.state c.copy_step.new.plant in
    let t = c.args.config.now in let h = c.args.tables.now in let e = c.in_err-copy_step.field-0.0 in
    let w = here s t h c.args.journal.now.events in let v = here x t h c.loop.journal.events in let u = here y t h c.copy_step.new.journal.events in
    let ds = fetch_next c.args.t.0 ∷ [] in
    carried-failed w v c.loop.counter ds c.loop.invariant.so_far c.args.count u e (let lt = c.loop-test.true in omega (arith, lt)) (exact x u (Some e) v ds (pass-later s x c.requires.ready.reads c.loop.invariant.unarmed) (c.in_err-copy_step.ensures.carried (rest_of h c.loop.journal.events)))
    ∙ (λ i. (u, sym (refused-by c.from_residual.result e c.from_residual.ensures.0 c.from_residual.ensures.1) i))

pub returns-in_err-copy_step-clause-ready : goal.returns-in_err-copy_step-clause-ready
returns-in_err-copy_step-clause-ready g c =
    let s = g.P.Plant.state c.args.plant.now in let x = g.P.Plant.state c.loop.plant in let y = g.P.Plant.state c.copy_step.new.plant in
    let t = c.args.config.now in let h = c.args.tables.now in let e = c.in_err-copy_step.field-0.0 in
    let w = here s t h c.args.journal.now.events in let v = here x t h c.loop.journal.events in let u = here y t h c.copy_step.new.journal.events in
    let ds = fetch_next c.args.t.0 ∷ [] in
    ready-after t s y h c.copy_step.new.journal.events c.requires.ready.reads c.in_err-copy_step.ensures.rest (λ q none. c.in_err-copy_step.ensures.unarmed q (c.loop.invariant.unarmed q none))
    (told-through h v u ds (Some e) (exact x u (Some e) v ds (pass-later s x c.requires.ready.reads c.loop.invariant.unarmed) (c.in_err-copy_step.ensures.carried (rest_of h c.loop.journal.events)))
    (told-through h w v (times c.loop.counter ds) None c.loop.invariant.so_far c.requires.ready.told))

pub returns-in_err-copy_step-clause-refused : goal.returns-in_err-copy_step-clause-refused
returns-in_err-copy_step-clause-refused g c =
    err-always c.from_residual.result (refused-by c.from_residual.result c.in_err-copy_step.field-0.0 c.from_residual.ensures.0 c.from_residual.ensures.1 ∙ c.in_err-copy_step.ensures.refused
    ∙ ap (λ n. Some (stopped n)) (same-server (g.P.Plant.state c.loop.plant) (g.P.Plant.state c.args.plant.now) c.args.config.now c.args.t.0))

pub loop-preserved : goal.loop-preserved
loop-preserved g c =
    let s = g.P.Plant.state c.args.plant.now in let x = g.P.Plant.state c.loop.plant in let y = g.P.Plant.state c.copy_step.new.plant in
    let t = c.args.config.now in let h = c.args.tables.now in
    let w = here s t h c.args.journal.now.events in let v = here x t h c.loop.journal.events in let u = here y t h c.copy_step.new.journal.events in
    let ds = fetch_next c.args.t.0 ∷ [] in
    record {
      so_far = carried-next w v c.loop.counter ds c.loop.invariant.so_far u (exact x u None v ds (pass-later s x c.requires.ready.reads c.loop.invariant.unarmed) (c.in_ok-copy_step.ensures.carried (rest_of h c.loop.journal.events)));
      rest = c.in_ok-copy_step.ensures.rest;
      fit = c.in_ok-copy_step.ensures.fit;
      unarmed = λ q none. c.in_ok-copy_step.ensures.unarmed q (c.loop.invariant.unarmed q none);
      on = c.in_ok-copy_step.ensures.on ∙ c.loop.invariant.on;
      faults = c.in_ok-copy_step.ensures.faults ∙ c.loop.invariant.faults;
      room = let a = c.in_ok-copy_step.ensures.room_left in let b = c.loop.invariant.room in omega (arith, a, b);
    }

pub returns-clause-carried : goal.returns-clause-carried
returns-clause-carried g c =
    let s = g.P.Plant.state c.args.plant.now in let t = c.args.config.now in let h = c.args.tables.now in
    let ds = fetch_next c.args.t.0 ∷ [] in
    let all : c.args.count ≡ c.loop.counter = (let e = c.loop.auto.counter-end in let f = c.loop-test.false in omega (arith, e, f)) in
    ap (λ n. carry (here s t h c.args.journal.now.events) (times n ds)) all ∙ c.loop.invariant.so_far

pub returns-clause-ready : goal.returns-clause-ready
returns-clause-ready g c =
    let s = g.P.Plant.state c.args.plant.now in let x = g.P.Plant.state c.loop.plant in let t = c.args.config.now in let h = c.args.tables.now in
    let ds = fetch_next c.args.t.0 ∷ [] in
    ready-after t s x h c.loop.journal.events c.requires.ready.reads c.loop.invariant.rest (λ q none. c.loop.invariant.unarmed q none)
    (told-through h (here s t h c.args.journal.now.events) (here x t h c.loop.journal.events) (times c.loop.counter ds) None c.loop.invariant.so_far c.requires.ready.told)
