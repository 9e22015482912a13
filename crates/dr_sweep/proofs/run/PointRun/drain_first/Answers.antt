use Rattle.std.proofs.Common.{sym, ◌∙◌}
use Rattle.std.proofs.lemmas.Result.{IfOk-weaker, err_from_is_err_and}
use Rattle.dr_sweep.specs.Seen.{run_seen}
use Rattle.dr_sweep.proofs.TurnLemmas.{halts-none}
use Rattle.dr_sweep.proofs.WayLemmas.{first-drained, first-none-drained}
use Rattle.dr_sweep.proofs.run.PointRun.drain_first.Goals as goal

pub returns-then-not-is_draining-clause-adds : goal.returns-then-not-is_draining-clause-adds
returns-then-not-is_draining-clause-adds c = first-none-drained (run_seen c.args.self.now) c.args.s.0 c.args.server.0 c.args.phase c.args.parts.now.items (sym c.if-not-is_draining.ensures)

pub returns-in_err-members-clause-fails : goal.returns-in_err-members-clause-fails
returns-in_err-members-clause-fails c =
    let out = err_from_is_err_and c.from_residual.result c.from_residual.ensures.1 in
    rw (out.1, out.2) (λ began ls done ran. halts-none began ls done c.args.s.0 (run_seen c.args.self.now))

pub returns-clause-adds : goal.returns-clause-adds
returns-clause-adds c =
    IfOk-weaker c.drain_members.result _ _
    (λ on adds. first-drained (run_seen c.args.self.now) c.args.s.0 c.args.server.0 c.args.phase (run_seen c.drain_members.new.self) c.args.parts.now.items c.drain_members.new.parts.items c.deref.result.now on (sym c.if-not-is_draining.ensures) (c.deref.ensures.value ∙ c.in_ok-members.ensures) adds)
    c.drain_members.ensures.adds
