use Rattle.std.proofs.Common.{◌≡◌, ◌-◌, take, drop}
use Rattle.std.specs.List.{fold}
use Rattle.dr_model.specs.Text.{heard}
use Rattle.dr_list.specs.Seen.{heard_seen}
use Rattle.dr_list.proofs.lines.hear_between.Given as goal

abbrev pub invariant-loop-i : goal.invariant-loop-i
invariant-loop-i l = fold heard (heard_seen l.told) (take (l.to - l.i) (drop l.i l.journal.events)) ≡ fold heard (heard_seen l.fn.told) (take (l.to - l.from) (drop l.from l.journal.events))
