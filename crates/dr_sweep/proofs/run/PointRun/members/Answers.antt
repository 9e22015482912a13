use Rattle.std.proofs.Common.{◌≡◌, ◌<◌, length, arith}
use Rattle.dr_model.specs.SessionEntries.{counts_at}
use Rattle.dr_sweep.specs.Comes.{seen}
use Rattle.dr_sweep.specs.Moments.{members_of}
use Rattle.dr_sweep.specs.Seen.{run_seen}
use Rattle.dr_sweep.proofs.ReadLemmas.{counted-more, counted-low, members-made}
use Rattle.dr_sweep.proofs.run.PointRun.members.Goals as goal

pub loop-i-preserved : goal.loop-i-preserved
unfolding run_seen
loop-i-preserved c =
    let r = run_seen c.args.self.now in
    let k = (seen r).control in
    let all : c.member_count-all.result ≡ length (members_of k c.args.s.0) = c.member_count-all.ensures r.plant r.events in
    let low : c.loop-i.i < length (members_of k c.args.s.0) = (let test = c.loop-i-test.true in omega (arith, all, test)) in
    record {
      same = counted-more (counts_at c.args.s.0 k) (members_of k c.args.s.0) c.loop-i.i c.counts.result c.loop-i.counted c.one_if-counted.result low c.counts.ensures c.one_if-counted.ensures c.loop-i.invariant.same;
      low = counted-low c.counts.result c.loop-i.i c.loop-i.counted c.one_if-counted.result c.one_if-counted.ensures c.loop-i.invariant.low;
    }

pub returns : goal.returns
unfolding run_seen
returns c =
    let r = run_seen c.args.self.now in
    let k = (seen r).control in
    members-made k c.args.s.0 c.loop-i.counted c.member_count-all.result c.loop-i.i c.loop-i.invariant.same (c.member_count-all.ensures r.plant r.events) (let test = c.loop-i-test.false in omega (arith, test))
