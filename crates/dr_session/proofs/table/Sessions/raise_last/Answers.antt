use Rattle.std.proofs.Common.{Option, ap, sym, ◌∙◌}
use Rattle.dr_model.specs.Sessions as model
use Rattle.dr_model.specs.Sessions.{Session, mirror_in}
use Rattle.dr_session.specs.Kept.{KeptSession}
use Rattle.dr_session.proofs.PlaceLemmas.{found-in, changed-table, stays-keyed}
use Rattle.dr_session.proofs.table.Sessions.raise_last.Goals as goal

pub raise-requires : goal.raise-requires
raise-requires c = sym (ap (λ (x : Option Session). model.busy (mirror_in x)) (found-in c.self.inside.table.entries c.args.self.now c.args.s.0 c.in-Some.i c.index_mut.result.now c.self.view_is c.in-Some.ensures.place c.index_mut.ensures.value)) ∙ c.requires.idle

pub invariant_of-self : goal.invariant_of-self
invariant_of-self c = stays-keyed c.self.inside.table.entries c.in-Some.i c.index_mut.result.now c.raise.new.self c.self.invariant c.index_mut.ensures.value (ap (λ (k : KeptSession). k.session.number) c.raise.ensures)

pub returns-in-Some : goal.returns-in-Some
returns-in-Some c = changed-table c.self.inside.table.entries c.args.self.now c.args.s.0 c.in-Some.i c.index_mut.result.now c.raise.new.self (model.raised c.args.n) c.self.view_is c.in-Some.ensures.place c.index_mut.ensures.value c.raise.ensures
