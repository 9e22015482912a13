use Rattle.std.proofs.Common.{◌≡◌, ◌+◌, length, drop, [], arith, ap, ◌∷◌, sym, ◌∙◌}
use Rattle.std.proofs.lemmas.Grind.{common_steps}
use Rattle.std.specs.Str.Lines.{lines}
use Rattle.dr_logic.proofs.Lists.{to_the_end}
use Rattle.dr_io.proofs.LineLemmas.{line-ended, line-unended}
use Rattle.dr_io.proofs.text_lines.split_line.Goals as goal

pub returns-in-Some-clause-lines : goal.returns-in-Some-clause-lines
returns-in-Some-clause-lines c =
    let end = c.in-Some.end in
    line-ended c.args.text.now end (sym c.line_end.ensures.value ∙ c.in-Some.is)
    ∙ (λ i. sym c.without_return.ensures i ∷ lines (sym (to_the_end c.args.text.now (end + 1)) i))

pub returns-in-None-clause-lines : goal.returns-in-None-clause-lines
returns-in-None-clause-lines c =
    let nothing : drop (length c.args.text.now) c.args.text.now ≡ [] = grind (arith, common_steps) in
    line-unended c.args.text.now (sym c.line_end.ensures.value ∙ c.in-None.is) c.requires
    ∙ ap (λ rest. c.args.text.now ∷ lines rest) (sym (to_the_end c.args.text.now (length c.args.text.now) ∙ nothing))
