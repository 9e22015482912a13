use Rattle.std.proofs.Common.{◌≡◌, take}
use Rattle.std.specs.List.{fold}
use Rattle.dr_list.specs.Seen.{heard_seen}
use Rattle.dr_model.specs.Text.{heard, untold}
use Rattle.dr_sweep.proofs.reach.told_before.Given as goal

abbrev pub invariant-loop-i : goal.invariant-loop-i
invariant-loop-i l = heard_seen l.told ≡ fold heard untold (take l.i l.journal.events)
