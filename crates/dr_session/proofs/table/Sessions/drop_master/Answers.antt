use Rattle.std.proofs.Common.{ap}
use Rattle.dr_model.specs.Sessions as model
use Rattle.dr_model.specs.Sessions.{Session, mirror_in}
use Rattle.dr_session.specs.Kept.{KeptSession}
use Rattle.dr_session.proofs.PlaceLemmas.{changed-table, stays-keyed}
use Rattle.dr_session.proofs.table.Sessions.drop_master.Goals as goal

pub invariant_of-self : goal.invariant_of-self
invariant_of-self c = stays-keyed c.self.inside.table.entries c.in-Some-place_of.i c.index_mut.result.now c.drop_master.new.self c.self.invariant c.index_mut.ensures.value (ap (λ (k : KeptSession). k.session.number) c.drop_master.ensures)

pub returns-in-Some-place_of-clause-dropped : goal.returns-in-Some-place_of-clause-dropped
returns-in-Some-place_of-clause-dropped c = changed-table c.self.inside.table.entries c.args.self.now c.args.s.0 c.in-Some-place_of.i c.index_mut.result.now c.drop_master.new.self model.unmirrored c.self.view_is c.in-Some-place_of.ensures.place c.index_mut.ensures.value c.drop_master.ensures
