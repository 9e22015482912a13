use Rattle.std.proofs.Common.{sym, ◌∙◌, ap, ◌∷◌, ◌+◌, take}
use Rattle.dr_model.specs.PlantImage.{is_space, words}
use Rattle.dr_image.proofs.SpaceLemmas.{parts-at, parts-none}
use Rattle.dr_image.proofs.words.split_word.Goals as goal
use Rattle.dr_logic.proofs.Lists.{to_the_end}

pub returns-in-Some : goal.returns-in-Some
returns-in-Some c =
    parts-at is_space c.args.line.now c.in-Some.place (sym c.in-Some.ensures)
    ∙ ap (λ rest. take c.in-Some.place c.args.line.now ∷ words rest) (sym (to_the_end c.args.line.now (c.in-Some.place + 1)))

pub returns-in-None : goal.returns-in-None
returns-in-None c = parts-none is_space c.args.line.now (sym c.in-None.ensures)
