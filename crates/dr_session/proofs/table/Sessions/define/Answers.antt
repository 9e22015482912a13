use Rattle.std.proofs.Common.{[], ◌∷◌, ◌++◌, ap, ◌∙◌}
use Rattle.dr_session.specs.Kept.{SessionTable}
use Rattle.dr_session.specs.Places.{sessions_in}
use Rattle.dr_session.proofs.PlaceLemmas.{sessions-push, keyed-after, lookup-absent, on-ok, on-err}
use Rattle.dr_session.proofs.table.Sessions.define.Goals as goal

pub invariant_of-self : goal.invariant_of-self
invariant_of-self c = keyed-after c.self.inside.table.entries c.define.new.table.entries c.args.s.0 c.args.session c.define.result c.define.ensures.added c.define.ensures.same c.self.invariant c.requires.named

pub returns-clause-defined : goal.returns-clause-defined
returns-clause-defined c = on-ok c.define.result (λ is. ap sessions_in is ∙ (sessions-push c.self.inside.table.entries c.args.s.0 c.args.session ∙ ap (λ (u : SessionTable). u.sessions ++ c.args.session.session ∷ []) c.self.view_is)) c.define.ensures.added

pub returns-clause-same : goal.returns-clause-same
returns-clause-same c = on-err c.define.result (λ is. ap sessions_in is ∙ ap (λ (u : SessionTable). u.sessions) c.self.view_is) c.define.ensures.same

pub define-requires : goal.define-requires
define-requires c = lookup-absent c.args.s.0 c.self.inside.table.entries c.args.self.now c.self.invariant c.self.view_is c.requires.absent
