use Rattle.std.proofs.Common.{◌&&◌, ◌∙◌}
use Rattle.dr_steps.proofs.locate.are_named.Goals as goal

pub returns : goal.returns
returns c x h events = c.both.ensures ∙ (λ i. c.is_named.ensures x h events i && c.is_named-2.ensures x h events i)
