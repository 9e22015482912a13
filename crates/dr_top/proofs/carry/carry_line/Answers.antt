use Rattle.std.proofs.Common.{refl, arith, inr}
use Rattle.dr_steps.specs.Here.{here}
use Rattle.dr_top.proofs.LeadLemmas.{led-none}
use Rattle.dr_top.proofs.carry.carry_line.Goals as goal

pub returns-in-Err-2-clause-goes : goal.returns-in-Err-2-clause-goes
returns-in-Err-2-clause-goes g c = record { done = 0; within = omega arith; led = let w = here (g.P.Plant.state c.args.plant.now) c.args.config.now c.args.tables.now c.args.journal.now.events in led-none w w (g.P.Plant.state c.args.plant.now).block refl; still = λ none. refl; ends = inr refl }

pub returns-in-Err-Refused-Syntax-clause-ready : goal.returns-in-Err-Refused-Syntax-clause-ready
returns-in-Err-Refused-Syntax-clause-ready g c = record {
  rest = c.requires.ready.rest;
  reads = c.requires.ready.reads;
  told = c.carry_fault.ensures.told c.args.tables.now c.requires.ready.told;
}
