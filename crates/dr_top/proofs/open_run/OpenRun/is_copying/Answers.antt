use Rattle.std.proofs.Common.{sym, ap}
use Rattle.std.specs.Prelude.{is_some}
use Rattle.dr_top.proofs.open_run.OpenRun.is_copying.Goals as goal

pub peek_head-requires-clause-defined : goal.peek_head-requires-clause-defined
peek_head-requires-clause-defined g c = sym (ap is_some c.in-Some.ensures.place)
