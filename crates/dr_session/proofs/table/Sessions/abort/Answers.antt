use Rattle.std.proofs.Common.{Option, ap, sym, ◌∙◌}
use Rattle.dr_model.specs.Phases as phases
use Rattle.dr_model.specs.Sessions as model
use Rattle.dr_model.specs.Sessions.{Session, mirror_in}
use Rattle.dr_session.proofs.PlaceLemmas.{found-in, changed-table, stays-keyed, same-table, on-ok, on-err}
use Rattle.dr_session.proofs.table.Sessions.abort.Goals as goal

pub invariant_of-self : goal.invariant_of-self
invariant_of-self c = stays-keyed c.self.inside.table.entries c.in-Some.i c.index_mut.result.now c.abort.new.self c.self.invariant c.index_mut.ensures.value c.abort.ensures.named

pub returns-clause-refused : goal.returns-clause-refused
returns-clause-refused c = c.abort.ensures.refused ∙ ap (λ (x : Option Session). model.abort_refusal (mirror_in x)) (sym (found-in c.self.inside.table.entries c.args.self.now c.args.s.0 c.in-Some.i c.index_mut.result.now c.self.view_is c.in-Some.ensures.place c.index_mut.ensures.value))

pub returns-clause-aborted : goal.returns-clause-aborted
returns-clause-aborted c = on-ok c.abort.result (λ is. changed-table c.self.inside.table.entries c.args.self.now c.args.s.0 c.in-Some.i c.index_mut.result.now c.abort.new.self (model.with_master phases.aborted) c.self.view_is c.in-Some.ensures.place c.index_mut.ensures.value is) c.abort.ensures.aborted

pub returns-clause-same : goal.returns-clause-same
returns-clause-same c = on-err c.abort.result (λ is. same-table c.self.inside.table.entries c.args.self.now c.in-Some.i c.index_mut.result.now c.abort.new.self c.self.view_is c.index_mut.ensures.value is) c.abort.ensures.same
