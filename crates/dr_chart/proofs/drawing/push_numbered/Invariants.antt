use Rattle.std.proofs.Common.{◌≡◌, ◌+◌, ◌++◌, drop}
use Rattle.dr_chart.specs.Picture.{panel_at, numbered}
use Rattle.dr_chart.proofs.drawing.push_numbered.Given as goal

-- the text with what is said of those that are left is the first text with what is said of all
abbrev pub invariant-loop-i : goal.invariant-loop-i
invariant-loop-i l =
    l.text ++ numbered (panel_at l.sheet.name.now l.sheet.plan.now l.sheet.asks l.sheet.rows.now l.sheet.frame) (l.above + l.i) (drop l.i l.panels)
    ≡ l.fn.text ++ numbered (panel_at l.sheet.name.now l.sheet.plan.now l.sheet.asks l.sheet.rows.now l.sheet.frame) l.above l.panels
