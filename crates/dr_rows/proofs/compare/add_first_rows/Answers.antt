use Rattle.std.proofs.Common.{ℕ, [], ◌∷◌, ◌++◌, List, ap, ◌∙◌, arith}
use Rattle.dr_rows.specs.Compare.{first_row}
use Rattle.dr_rows.proofs.RangeLemmas.{each-more}
use Rattle.dr_rows.proofs.compare.add_first_rows.Goals as goal

pub loop-which-preserved : goal.loop-which-preserved
loop-which-preserved c =
    let at = c.loop-which.which in
    let before = c.loop-which.table.items in
    let row : ℕ → List (List ℕ) = first_row c.args.first.now c.args.second.now c.args.disaster in
    c.in_ok-push.ensures.items ∙ ap (λ (of : List (List ℕ)). before ++ of ∷ []) c.in_ok-first_row.ensures ∙ ap (λ rows. rows ++ row at ∷ []) c.loop-which.invariant
    ∙ each-more row c.args.table.now.items 0 at at (omega arith)
