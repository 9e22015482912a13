use Rattle.std.proofs.Common.{◌∷◌, [], ◌++◌, ◌+◌, List, ℕ, ap, sym, ◌∙◌}
use Rattle.std.specs.Prelude.{codes}
use Rattle.std.proofs.lemmas.Result.{on_ok_weaker}
use Rattle.dr_gen.specs.Trial.{ended, round_lines, tried_again}
use Rattle.dr_gen.proofs.print.push_round.Goals as goal

pub returns-in-Exchange-clause-text : goal.returns-in-Exchange-clause-text
unfolding round_lines
returns-in-Exchange-clause-text c =
    let before : List ℕ = c.args.text.now in
    on_ok_weaker c.push_line.result
    (λ is. is ∙ ap (λ w. before ++ ended ((codes "@exchange 01 " ++ w) ∷ [])) c.server_word.ensures ∙ ap (λ r. before ++ ended (round_lines r ++ tried_again (c.args.writes.now + 1) r)) (sym c.in-Exchange.is))
    c.push_line.ensures
