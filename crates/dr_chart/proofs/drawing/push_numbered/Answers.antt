use Rattle.std.proofs.Common.{ℕ, ◌+◌, List, ◌++◌, ap, ◌∙◌, sym, arith}
use Rattle.dr_chart.specs.Panels.{Panel}
use Rattle.dr_chart.specs.Picture.{panel_at}
use Rattle.dr_chart.proofs.NumberedLemmas.{none_left_by, said-by}
use Rattle.dr_chart.proofs.drawing.push_numbered.Goals as goal

pub loop-i-preserved : goal.loop-i-preserved
loop-i-preserved c =
    let sheet = c.args.sheet in
    let says : ℕ → Panel → List ℕ = panel_at sheet.name.now sheet.plan.now sheet.asks sheet.rows.now sheet.frame in
    let at = c.loop-i.i in
    said-by says (c.args.above + at) (c.args.above + (at + 1)) at c.args.panels.now c.index-panels-i.result c.loop-i.text c.push_panel_at.new.text (omega arith) c.loop-i-test.true
    (c.in_ok-push_panel_at.ensures ∙ ap (λ p. c.loop-i.text ++ says (c.args.above + at) p) c.index-panels-i.is) ∙ c.loop-i.invariant

pub returns : goal.returns
returns c =
    let sheet = c.args.sheet in
    sym (none_left_by (panel_at sheet.name.now sheet.plan.now sheet.asks sheet.rows.now sheet.frame) (c.args.above + c.loop-i.i) c.loop-i.i c.args.panels.now c.loop-i.text (omega arith)) ∙ c.loop-i.invariant
