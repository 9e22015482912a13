use Rattle.std.proofs.Common.{ap, ◌∙◌}
use Rattle.dr_host.specs.Writes.{Writes, has_landed}
use Rattle.dr_host.proofs.Each.{found-is}
use Rattle.dr_host.proofs.host.Host.landed_on.Goals as goal

pub returns-clause-pending : goal.returns-clause-pending
returns-clause-pending c = found-is (has_landed c.args.config.now c.args.s.0) c.deref.result.now c.args.self.now.pending c.in_ok-pending.pending.now (c.deref.ensures.value ∙ ap (λ (h : Writes). h.pending) c.self.view_is) c.in_ok-pending.ensures
