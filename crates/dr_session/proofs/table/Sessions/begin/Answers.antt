use Rattle.std.proofs.Common.{◌≡◌, ◌+◌, Some, Option, option_map, ap, sym, ◌∙◌}
use Rattle.dr_model.specs.Sessions as model
use Rattle.dr_model.specs.Sessions.{Session, mirror_in}
use Rattle.dr_session.proofs.PlaceLemmas.{found-in, changed-table, stays-keyed, same-table, on-ok, on-err, if-ok}
use Rattle.dr_session.proofs.table.Sessions.begin.Goals as goal

pub invariant_of-self : goal.invariant_of-self
invariant_of-self c = stays-keyed c.self.inside.table.entries c.in-Some.i c.index_mut.result.now c.begin.new.self c.self.invariant c.index_mut.ensures.value c.begin.ensures.named

pub returns-clause-refused : goal.returns-clause-refused
returns-clause-refused c = c.begin.ensures.refused ∙ ap (λ (x : Option Session). model.begin_refusal (mirror_in x)) (sym (found-in c.self.inside.table.entries c.args.self.now c.args.s.0 c.in-Some.i c.index_mut.result.now c.self.view_is c.in-Some.ensures.place c.index_mut.ensures.value))

pub returns-clause-number : goal.returns-clause-number
returns-clause-number c = if-ok (λ n. n ≡ c.index_mut.result.now.session.last + 1) _ c.begin.result (λ n is. ap (λ (x : Option Session). option_map (λ x. x.last + 1) x) (found-in c.self.inside.table.entries c.args.self.now c.args.s.0 c.in-Some.i c.index_mut.result.now c.self.view_is c.in-Some.ensures.place c.index_mut.ensures.value) ∙ ap (λ n. Some n) (sym is)) c.begin.ensures.number

pub returns-clause-begun : goal.returns-clause-begun
returns-clause-begun c = on-ok c.begin.result (λ is. changed-table c.self.inside.table.entries c.args.self.now c.args.s.0 c.in-Some.i c.index_mut.result.now c.begin.new.self model.begun c.self.view_is c.in-Some.ensures.place c.index_mut.ensures.value is) c.begin.ensures.begun

pub returns-clause-same : goal.returns-clause-same
returns-clause-same c = on-err c.begin.result (λ is. same-table c.self.inside.table.entries c.args.self.now c.in-Some.i c.index_mut.result.now c.begin.new.self c.self.view_is c.index_mut.ensures.value is) c.begin.ensures.same
