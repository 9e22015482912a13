use Rattle.std.proofs.Common.{◌<◌, length, sym, subst}
use Rattle.std.specs.Prelude.{IfSome}
use Rattle.dr_top.specs.Carried.{Reached}
use Rattle.dr_top.specs.OpenRuns.{RunProgress, shown}
use Rattle.dr_top.proofs.OpenLemmas.{run-reached, asked-placed}
use Rattle.dr_top.proofs.open_run.OpenRun.asked_next.Goals as goal

pub returns-clause-known : goal.returns-clause-known
returns-clause-known c =
    let run = c.requires in
    let r : RunProgress = record { config = c.self.inside.config; tables = c.self.inside.tables; lines = c.self.inside.lines; bytes = c.self.inside.bytes } in
    let reached = subst (λ (x : RunProgress). Reached (shown run.plant x run.events)) (sym c.self.view_is) (run-reached run.plant c.args.self.now run.events run.is) in
    subst (λ (x : RunProgress). IfSome c.next_asked.result (λ a. a.0 < length x.config.names)) c.self.view_is
    (asked-placed run.plant r run.events reached c.args.s.0 c.next_asked.result c.next_asked.ensures.next)
