use Rattle.std.proofs.Common.{ℕ, ◌++◌, List, ap, map, ◌∙◌}
use Rattle.std.proofs.lemmas.Result.{on_ok_weaker}
use Rattle.dr_rows.specs.Outcome.{Outcome}
use Rattle.dr_chart.specs.Picture.{drawn, head_text}
use Rattle.dr_rows.proofs.TextLemmas.{pieces}
use Rattle.dr_chart.proofs.drawing.push_filled.Goals as goal

pub returns : goal.returns
returns c =
    let t0 = c.args.text.now in
    let sheet = c.args.sheet in
    let rows : List Outcome = map (λ row. row.now) c.args.rows.now in
    let head : ℕ → ℕ → List ℕ = λ disaster which. head_text sheet.name.now sheet.plan.now sheet.asks disaster which rows in
    let t1 = c.push_head.new.text in
    on_ok_weaker c.push_drawn.result
    (λ e. pieces t0 (head c.args.panel.now.disaster c.args.panel.now.which) t1 (drawn sheet.plan.now sheet.frame c.args.panel.now.columns) c.push_drawn.new.text
    (c.in_ok-push_head.ensures ∙ ap (λ d. t0 ++ head d c.which.result) c.disaster.ensures ∙ ap (λ w. t0 ++ head c.args.panel.now.disaster w) c.which.ensures)
    (e ∙ ap (λ cs. t1 ++ drawn sheet.plan.now sheet.frame cs) c.columns.ensures))
    c.push_drawn.ensures
