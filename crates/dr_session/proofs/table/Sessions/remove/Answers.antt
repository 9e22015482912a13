use Rattle.std.proofs.Common.{Option, ap, sym, ◌∙◌}
use Rattle.dr_model.specs.Sessions as model
use Rattle.dr_model.specs.Sessions.{Session, mirror_in}
use Rattle.dr_session.proofs.PlaceLemmas.{found-in, none-in, changed-sessions, stays-keyed, absent-sessions}
use Rattle.dr_session.proofs.table.Sessions.remove.Goals as goal

pub remove-requires : goal.remove-requires
remove-requires c = sym (ap (λ (x : Option Session). model.busy (mirror_in x)) (found-in c.self.inside.table.entries c.args.self.now c.args.s.0 c.in-Some.i c.index_mut.result.now c.self.view_is c.in-Some.ensures.place c.index_mut.ensures.value)) ∙ c.requires

pub invariant_of-self : goal.invariant_of-self
invariant_of-self c = stays-keyed c.self.inside.table.entries c.in-Some.i c.index_mut.result.now c.remove.new.self c.self.invariant c.index_mut.ensures.value (ap (λ (x : Session). x.number) c.remove.ensures)

pub returns-in-Some : goal.returns-in-Some
returns-in-Some c = changed-sessions c.self.inside.table.entries c.args.self.now c.args.s.0 c.in-Some.i c.index_mut.result.now c.remove.new.self (model.without_member c.args.a.0) c.self.view_is c.in-Some.ensures.place c.index_mut.ensures.value c.remove.ensures

pub returns-in_default : goal.returns-in_default
returns-in_default c = absent-sessions c.args.self.now c.args.s.0 (model.without_member c.args.a.0) (none-in c.self.inside.table.entries c.args.self.now c.args.s.0 c.self.view_is c.in_default.ensures.none)
