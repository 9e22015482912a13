use Rattle.std.proofs.Common.{◌++◌, ap, ◌∙◌}
use Rattle.std.proofs.lemmas.Result.{err_from_is_err_and}
use Rattle.dr_sweep.specs.Comes.{seen}
use Rattle.dr_sweep.specs.Moments.{members_after}
use Rattle.dr_sweep.specs.Seen.{run_seen}
use Rattle.dr_sweep.proofs.run.PointRun.recover_line.Goals as goal

pub returns-in_err-carry_line-clause-fails : goal.returns-in_err-carry_line-clause-fails
returns-in_err-carry_line-clause-fails c =
    let out = err_from_is_err_and c.from_residual.result c.from_residual.ensures.1 in
    rw (out.1, out.2) c.in_err-carry_line.ensures.fails

pub returns-clause-adds : goal.returns-clause-adds
returns-clause-adds c =
    let w = seen (run_seen c.carry_line.new.self) in
    c.in_ok-push_members.ensures ∙ ap (λ ms. c.args.members.now.items ++ ms) (c.members_after.ensures ∙ ap (λ s. members_after s w) c.in_ok-session.ensures)
