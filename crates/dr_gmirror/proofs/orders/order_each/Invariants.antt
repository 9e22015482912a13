use Rattle.std.proofs.Common.{take, Ok}
use Rattle.dr_master.specs.Seen.{work_of}
use Rattle.dr_model.specs.Sessions.{session_in, members_in}
use Rattle.dr_model.specs.SessionEntries.{members_on}
use Rattle.dr_gmirror.specs.Ordered.{Ordered}
use Rattle.dr_gmirror.proofs.orders.order_each.Given as goal

abbrev pub invariant-loop-at : goal.invariant-loop-at
invariant-loop-at g l = record {
  -- the order was carried out on the members so far
  ordered : Ordered (g.P.Plant.state l.fn.plant) (g.P.Plant.state l.plant) l.config l.fn.journal l.journal l.fn.ss.sessions l.ss.sessions (work_of l.order.kind) l.s.0 l.order.n (members_on l.server.0 (take l.at (members_in (session_in l.fn.ss.sessions l.s.0)))) (Ok l.waits);
}
