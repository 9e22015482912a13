use Rattle.std.proofs.Common.{◌≡◌, ◌≤◌, ◌+◌, ◌-◌, length}
use Rattle.dr_model.specs.LineWords.{words_behind}
use Rattle.dr_model.specs.Grammar.{read_words, start_of}
use Rattle.dr_script.proofs.line.read_words.Given as goal

abbrev pub invariant-loop-word : goal.invariant-loop-word
invariant-loop-word l = record {
  within : l.at ≤ length l.line;
  rest : read_words (length l.line + 1) (record { place = l.place; items = l.items.items }) (words_behind l.at l.line) ≡ read_words (length l.line + 1) (start_of l.fn.command) (words_behind l.fn.from l.line);
}

abbrev pub decreases-loop-word : goal.decreases-loop-word
decreases-loop-word l = length l.line - l.at
