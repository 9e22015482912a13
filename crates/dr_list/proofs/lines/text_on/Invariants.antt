use Rattle.std.proofs.Common.{◌≡◌, ◌++◌, drop}
use Rattle.std.specs.List.{fold}
use Rattle.dr_model.specs.Text.{heard, text_from}
use Rattle.dr_list.specs.Seen.{heard_seen}
use Rattle.dr_list.proofs.lines.text_on.Given as goal

abbrev pub invariant-loop-i : goal.invariant-loop-i
invariant-loop-i l = record {
  text : l.out.items ++ text_from (heard_seen l.told) (drop l.i l.journal.events) ≡ text_from (heard_seen l.fn.told) (drop l.from l.journal.events);
  told : fold heard (heard_seen l.told) (drop l.i l.journal.events) ≡ fold heard (heard_seen l.fn.told) (drop l.from l.journal.events);
}
