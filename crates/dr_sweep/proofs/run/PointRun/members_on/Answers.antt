use Rattle.std.proofs.Common.{length, ◌∙◌, ap, arith, ◌<◌, ◌≤◌}
use Rattle.std.proofs.lemmas.List.{take_all}
use Rattle.dr_model.specs.SessionEntries.{members_on}
use Rattle.dr_sweep.specs.Comes.{seen}
use Rattle.dr_sweep.specs.Seen.{run_seen}
use Rattle.dr_sweep.specs.Moments.{members_of}
use Rattle.dr_sweep.proofs.WayLemmas.{members-more}
use Rattle.dr_sweep.proofs.run.PointRun.members_on.Goals as goal

pub loop-i-preserved : goal.loop-i-preserved
loop-i-preserved c =
    let ms = members_of (seen (run_seen c.args.self.now)).control c.args.s.0 in
    let low : c.loop-i.i < length ms = (let count = c.member_count-i-end.ensures in let test = c.loop-i-test.true in omega (arith, count, test)) in
    members-more c.args.server.0 ms c.loop-i.i low c.loop-i.members.items c.push_if_on.new.members.items c.member_at.result c.member_at.ensures c.loop-i.invariant c.in_ok-push_if_on.ensures

pub returns : goal.returns
returns c =
    let ms = members_of (seen (run_seen c.args.self.now)).control c.args.s.0 in
    let past : length ms ≤ c.loop-i.i = (let count = c.member_count-i-end.ensures in let test = c.loop-i-test.false in omega (arith, count, test)) in
    c.loop-i.invariant ∙ ap (members_on c.args.server.0) (take_all c.loop-i.i ms past)
