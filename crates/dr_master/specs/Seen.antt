-- What the model sees of the master's types.
use Rattle.std.specs.Prelude.{ℕ, Bool, ◌+◌, ◌==◌, ◌&&◌, nat_le, List, length, take}
use Rattle.std.specs.Int.{bit_at}
use Rattle.dr_master.specs.declared.orders.OrderKind.{OrderKind}
use Rattle.dr_master.specs.declared.orders.OrderKind.TheVariants as kind
use Rattle.dr_master.specs.declared.orders.Order.{Order}
use Rattle.dr_master.specs.declared.reports.Report.{Report}
use Rattle.dr_master.specs.declared.reports.Reply.{Reply}
use Rattle.dr_master.specs.declared.reports.Reply.TheVariants as reply
use Rattle.dr_model.specs.Phases as model
use Rattle.dr_model.specs.Decisions.{Shown, shown_by}

-- the servers of a set of bits: bit k, counted from the lowest, is server k
abbrev pub servers_in : ℕ → List ℕ
servers_in bits = model.servers_where (λ k. bit_at bits k == 1)

-- what a report says: the first numbers and flags, as many as it counts
abbrev pub shown_in : Report → List Shown
shown_in r = take r.count (shown_by r.seqs r.revertible)

-- a reply
abbrev pub reply_of : Reply → model.Reply
reply_of reply.Done = model.Done
reply_of reply.NotYet = model.NotYet
reply_of (reply.Report r) = model.Reported (shown_in r)

-- how many members a reply speaks of
abbrev pub count_in : Reply → ℕ
count_in (reply.Report r) = r.count
count_in r = 0

-- whether the master awaits this reply, and all reports together speak of 64 members at most
abbrev pub is_expected : model.Master → ℕ → Reply → Bool
is_expected m s r = model.awaits m s (reply_of r) && nat_le (length m.reports + count_in r) 64

-- the kind of an order
abbrev pub work_of : OrderKind → model.Work
work_of kind.Hold = model.Hold
work_of kind.Release = model.Release
work_of kind.Seal = model.Seal
work_of kind.Flash = model.Flash
work_of kind.Commit = model.Commit
work_of kind.Revert = model.Revert
work_of kind.Finish = model.Finish
work_of kind.Report = model.Report

-- an order
abbrev pub order_of : Order → model.Order
order_of o = record { work = work_of o.kind; number = o.n }
