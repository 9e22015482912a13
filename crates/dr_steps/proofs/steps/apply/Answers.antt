use Rattle.std.proofs.Common.{◌∙◌, ap, sym}
use Rattle.std.specs.List.{find}
use Rattle.dr_host.specs.Writes.{has_number}
use Rattle.dr_steps.specs.Here.{here}
use Rattle.dr_steps.proofs.StepLemmas.{applied-unknown, applied-there, applied-lands}
use Rattle.dr_steps.proofs.RelationLemmas.{relations-fit, partners-fit}
use Rattle.dr_steps.proofs.steps.apply.Goals as goal

pub returns-then-not-is_pending-clause-step : goal.returns-then-not-is_pending-clause-step
returns-then-not-is_pending-clause-step g c line =
    applied-unknown (g.P.Plant.state c.args.plant.now) c.args.config.now c.args.tables.now c.args.journal.now.events line c.args.w (sym c.if-not-is_pending.ensures)

pub carry_write-requires-clause-found : goal.carry_write-requires-clause-found
carry_write-requires-clause-found g c = ap (λ n. find (has_number n) c.args.tables.now.host.pending) c.pending_write-write.ensures.named ∙ c.pending_write-write.ensures.found

pub carry_write-requires-clause-there : goal.carry_write-requires-clause-there
carry_write-requires-clause-there g c =
    applied-there (g.P.Plant.state c.args.plant.now) c.args.config.now c.args.tables.now c.args.journal.now.events 0 c.args.w c.requires.sound c.pending_write-write.result c.pending_write-write.ensures.found

pub carry_write-requires-clause-fit : goal.carry_write-requires-clause-fit
carry_write-requires-clause-fit g c = relations-fit (g.P.Plant.state c.args.plant.now) c.args.config.now c.args.tables.now c.args.journal.now.events c.requires.sound

pub carry_write-requires-clause-partners : goal.carry_write-requires-clause-partners
carry_write-requires-clause-partners g c = partners-fit (g.P.Plant.state c.args.plant.now) c.args.config.now c.args.tables.now c.args.journal.now.events c.requires.sound

pub returns-clause-step : goal.returns-clause-step
returns-clause-step g c line =
    applied-lands (g.P.Plant.state c.args.plant.now) c.args.config.now c.args.tables.now c.args.journal.now.events line c.args.w c.requires.ready.reads
    (here (g.P.Plant.state c.carry_write.new.plant) c.args.config.now c.carry_write.new.tables c.carry_write.new.journal.events) c.carry_write.result c.pending_write-write.result c.pending_write-write.ensures.found c.carry_write.ensures.carried c.carry_write.ensures.says
