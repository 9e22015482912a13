use Rattle.std.proofs.Common.{ap}
use Rattle.dr_model.specs.Sessions as model
use Rattle.dr_model.specs.Sessions.{Session, mirror_in}
use Rattle.dr_session.specs.Kept.{KeptSession}
use Rattle.dr_session.proofs.PlaceLemmas.{changed-table, stays-keyed}
use Rattle.dr_session.proofs.table.Sessions.set_paused.Goals as goal

pub invariant_of-self : goal.invariant_of-self
invariant_of-self c = stays-keyed c.self.inside.table.entries c.in-Some.i c.index_mut.result.now c.set_paused.new.self c.self.invariant c.index_mut.ensures.value (ap (λ (k : KeptSession). k.session.number) c.set_paused.ensures)

pub returns-in-Some-clause-paused : goal.returns-in-Some-clause-paused
returns-in-Some-clause-paused c = changed-table c.self.inside.table.entries c.args.self.now c.args.s.0 c.in-Some.i c.index_mut.result.now c.set_paused.new.self (model.paused c.args.on) c.self.view_is c.in-Some.ensures.place c.index_mut.ensures.value c.set_paused.ensures
