use Rattle.std.proofs.Common.{sym, ap, ◌∙◌, ◌∷◌}
use Rattle.dr_image.specs.Lines.{only, words_after}
use Rattle.dr_image.proofs.SpaceLemmas.{only-more}
use Rattle.dr_image.proofs.words.last_word.Goals as goal

pub returns-in-Some : goal.returns-in-Some
returns-in-Some c =
    sym (ap only c.in_ok-word.ensures ∙ ap (λ rest. only (c.in_ok-word.word.now ∷ words_after rest)) c.in-Some.is ∙ only-more c.in_ok-word.word.now c.in-Some.field-0.now)
