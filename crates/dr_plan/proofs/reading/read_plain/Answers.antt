use Rattle.std.proofs.Common.{ap, ◌∙◌}
use Rattle.dr_script.proofs.WrittenLemmas.{line_written}
use Rattle.dr_plan.specs.Above.{unless}
use Rattle.dr_plan.proofs.reading.read_plain.Goals as goal

pub keep-requires : goal.keep-requires
keep-requires c = line_written c.args.line.now c.read_steps.new.steps (c.in_ok-column.ensures ∙ ap (λ fault. unless fault c.read_steps.new.steps) c.in_default.is)
