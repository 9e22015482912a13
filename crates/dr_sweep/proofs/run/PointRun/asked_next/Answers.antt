use Rattle.std.proofs.Common.{sym}
use Rattle.dr_sweep.specs.Seen.{run_seen}
use Rattle.dr_sweep.proofs.AskedNames.{next-asked, unsaid}
use Rattle.dr_sweep.proofs.run.PointRun.asked_next.Goals as goal

pub returns-in_err-server-clause-none : goal.returns-in_err-server-clause-none
unfolding run_seen
returns-in_err-server-clause-none c is = let r = run_seen c.args.self.now in sym (c.in_err-server.ensures.next r.plant r.events)

pub returns-in_err-name-clause-none : goal.returns-in_err-name-clause-none
unfolding run_seen
returns-in_err-name-clause-none c is =
    let r = run_seen c.args.self.now in
    absurd (unsaid r c.requires.lines.began c.requires.lines.ls c.requires.lines.done c.requires.lines.ran c.server_name.result.now _ (c.server_name.ensures r.plant r.events) c.in_err-name.ensures)

pub returns-clause-next : goal.returns-clause-next
unfolding run_seen
returns-clause-next c =
    let r = run_seen c.args.self.now in
    next-asked r c.requires.lines.began c.requires.lines.ls c.requires.lines.done c.requires.lines.ran c.args.s.0 _ c.server_name.result.now c.in_ok-name.name (sym (c.in_ok-server.ensures.next r.plant r.events)) (c.server_name.ensures r.plant r.events) c.in_ok-name.ensures
