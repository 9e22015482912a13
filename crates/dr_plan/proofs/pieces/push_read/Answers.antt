use Rattle.std.proofs.Common.{ap, ◌∙◌}
use Rattle.dr_script.proofs.WrittenLemmas.{line_written}
use Rattle.dr_plan.specs.Above.{unless}
use Rattle.dr_plan.proofs.pieces.push_read.Goals as goal

pub push_tried-requires : goal.push_tried-requires
push_tried-requires c = line_written c.args.line.now c.read_steps.new.steps (c.in_ok-read_steps.ensures ∙ ap (λ fault. unless fault c.read_steps.new.steps) c.in-None.is)
