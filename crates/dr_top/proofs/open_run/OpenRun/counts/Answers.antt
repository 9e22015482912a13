use Rattle.std.proofs.Common.{sym, subst}
use Rattle.dr_top.specs.Carried.{Reached}
use Rattle.dr_top.specs.OpenRuns.{RunProgress, shown}
use Rattle.dr_top.proofs.OpenLemmas.{run-reached, target-placed}
use Rattle.dr_top.proofs.open_run.OpenRun.counts.Goals as goal

pub peek_head-requires-clause-defined : goal.peek_head-requires-clause-defined
peek_head-requires-clause-defined g c =
    let s = g.P.Plant.state c.args.plant.now in
    let r : RunProgress = record { config = c.self.inside.config; tables = c.self.inside.tables; lines = c.self.inside.lines; bytes = c.self.inside.bytes } in
    let reached = subst (λ (x : RunProgress). Reached (shown s x c.requires.events)) (sym c.self.view_is) (run-reached s c.args.self.now c.requires.events c.requires.is) in
    target-placed s r c.requires.events reached c.args.s.0 c.args.i c.in_ok-m.m (sym c.in_ok-m.ensures.value)
