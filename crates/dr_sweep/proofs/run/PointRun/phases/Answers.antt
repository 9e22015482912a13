use Rattle.std.proofs.Common.{◌≡◌, length, arith}
use Rattle.dr_sweep.specs.Comes.{seen}
use Rattle.dr_sweep.specs.Seen.{run_seen}
use Rattle.dr_sweep.proofs.ReadLemmas.{phases-more, phases-all}
use Rattle.dr_sweep.proofs.run.PointRun.phases.Goals as goal

pub loop-phase-preserved : goal.loop-phase-preserved
loop-phase-preserved c =
    let k = (seen (run_seen c.args.self.now)).control in
    let size = c.len.ensures in
    let ok = c.loop-phase.phases.ok in
    let at : c.len.result ≡ length c.loop-phase.phases.items = omega (arith, size, ok) in
    let more = phases-more k k.sessions c.loop-phase.phases.items c.push.new.self.items c.len.result c.phase_at.result c.in-Some.phase at c.loop-phase.invariant.same c.in_ok-push.ensures.items c.phase_at.ensures c.in-Some.is in
    record { same = more.same; within = more.within }

pub loop-phase-smaller : goal.loop-phase-smaller
loop-phase-smaller c =
    let k = (seen (run_seen c.args.self.now)).control in
    let size = c.len.ensures in
    let ok = c.loop-phase.phases.ok in
    let at : c.len.result ≡ length c.loop-phase.phases.items = omega (arith, size, ok) in
    let more = phases-more k k.sessions c.loop-phase.phases.items c.push.new.self.items c.len.result c.phase_at.result c.in-Some.phase at c.loop-phase.invariant.same c.in_ok-push.ensures.items c.phase_at.ensures c.in-Some.is in
    more.fewer

pub returns : goal.returns
returns c =
    let k = (seen (run_seen c.args.self.now)).control in
    let size = c.len.ensures in
    let ok = c.loop-phase.phases.ok in
    let at : c.len.result ≡ length c.loop-phase.phases.items = omega (arith, size, ok) in
    phases-all k k.sessions c.loop-phase.phases.items c.len.result c.phase_at.result at c.loop-phase.invariant.same c.phase_at.ensures c.in_default.not-Some
