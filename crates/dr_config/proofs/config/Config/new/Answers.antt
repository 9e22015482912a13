use Rattle.std.proofs.Common.{◌∙◌, ap, not, List, Bool}
use Rattle.dr_config.specs.Links.{is_down}
use Rattle.dr_config.proofs.LinkLaws.{none-down}
use Rattle.dr_config.proofs.Sound.{sound-empty}
use Rattle.dr_config.proofs.config.Config.new.Goals as goal

pub invariant_of-result : goal.invariant_of-result
invariant_of-result c =
    rw (c.new.ensures.empty, c.new-2.ensures, c.new-3.ensures.empty, c.none_down.ensures) sound-empty

pub returns-clause-links : goal.returns-clause-links
returns-clause-links c = λ x y. ap (λ (rows : List (List Bool)). not (is_down rows x y)) c.none_down.ensures ∙ ap not (none-down x y)
