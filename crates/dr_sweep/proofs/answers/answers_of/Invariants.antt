use Rattle.std.proofs.Common.{◌≡◌, take}
use Rattle.std.specs.List.{filter_map}
use Rattle.dr_sweep.specs.Answers.{answer_in}
use Rattle.dr_sweep.proofs.answers.answers_of.Given as goal

abbrev pub invariant-loop-place : goal.invariant-loop-place
invariant-loop-place l = l.answers.items ≡ filter_map (answer_in l.before) (take l.place l.journal.events)
