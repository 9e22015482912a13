use Rattle.std.proofs.Common.{ℕ, [], ◌∷◌, ◌++◌, List, ap, ◌∙◌, arith}
use Rattle.dr_rows.specs.Table.{column_name}
use Rattle.dr_rows.proofs.RangeLemmas.{each-more}
use Rattle.dr_rows.proofs.compare.lettered.Goals as goal

pub loop-column-preserved : goal.loop-column-preserved
loop-column-preserved c =
    let at = c.loop-column.column in
    let name : ℕ → List ℕ = λ column. column_name column ++ c.args.letter.now in
    c.in_ok-add_lettered.ensures ∙ ap (λ cells. cells ++ name at ∷ []) c.loop-column.invariant ∙ each-more name [] 0 at at (omega arith)
