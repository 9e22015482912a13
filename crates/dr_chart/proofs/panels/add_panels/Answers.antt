use Rattle.std.proofs.Common.{ℕ, [], ◌∷◌, ◌++◌, List, ap, sym, map, ◌∙◌, arith, append_assoc}
use Rattle.std.specs.List.{range_with_len}
use Rattle.std.proofs.lemmas.List.FromFn.{map-range_with_len_more}
use Rattle.dr_chart.specs.Panels.{Panel, panel_of}
use Rattle.dr_chart.proofs.panels.add_panels.Goals as goal

pub loop-which-preserved : goal.loop-which-preserved
loop-which-preserved c =
    let at = c.loop-which.which in
    let f : ℕ → Panel = panel_of c.args.plan.now c.args.asks c.args.rows.now c.args.disaster in
    let before : List Panel = map f (range_with_len 0 at) in
    c.in_ok-push.ensures.items ∙ ap (λ p. c.loop-which.found.items ++ p ∷ []) c.in_ok-panel_of.ensures ∙ ap (λ ps. ps ++ f at ∷ []) c.loop-which.invariant
    ∙ append_assoc c.args.found.now.items before (f at ∷ []) ∙ ap (λ ps. c.args.found.now.items ++ ps) (sym (map-range_with_len_more f 0 at at (omega arith)))
