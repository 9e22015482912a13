use Rattle.std.proofs.Common.{ap, ◌∙◌}
use Rattle.dr_model.specs.Sessions as model
use Rattle.dr_model.specs.Sessions.{Session, mirror_in}
use Rattle.dr_session.specs.Kept.{KeptSession}
use Rattle.dr_session.proofs.PlaceLemmas.{found-in, changed-sessions, stays-keyed, same-sessions, joined-known, on-ok, on-err}
use Rattle.dr_session.proofs.table.Sessions.join.Goals as goal

pub invariant_of-self : goal.invariant_of-self
invariant_of-self c = stays-keyed c.self.inside.table.entries c.in-Some.i c.index_mut.result.now c.join.new.self c.self.invariant c.index_mut.ensures.value c.join.ensures.named

pub returns-in-Some-clause-joined : goal.returns-in-Some-clause-joined
returns-in-Some-clause-joined c = on-ok c.join.result (λ is. changed-sessions c.self.inside.table.entries c.args.self.now c.args.s.0 c.in-Some.i c.index_mut.result.now c.join.new.self (model.joined_by c.args.l.0) c.self.view_is c.in-Some.ensures.place c.index_mut.ensures.value (ap (λ (k : KeptSession). k.session) is) ∙ joined-known c.args.self.now.sessions c.args.s.0 c.args.l.0 c.index_mut.result.now.session (found-in c.self.inside.table.entries c.args.self.now c.args.s.0 c.in-Some.i c.index_mut.result.now c.self.view_is c.in-Some.ensures.place c.index_mut.ensures.value)) c.join.ensures.joined

pub returns-in-Some-clause-same : goal.returns-in-Some-clause-same
returns-in-Some-clause-same c = on-err c.join.result (λ is. same-sessions c.self.inside.table.entries c.args.self.now c.in-Some.i c.index_mut.result.now c.join.new.self c.self.view_is c.index_mut.ensures.value (ap (λ (k : KeptSession). k.session) is)) c.join.ensures.same
