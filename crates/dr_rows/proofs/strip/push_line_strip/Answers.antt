use Rattle.std.proofs.Common.{ℕ, ◌+◌, ◌++◌, ◌∷◌, [], List, ap, ◌∙◌}
use Rattle.std.specs.Prelude.{codes}
use Rattle.std.proofs.lemmas.Result.{on_ok_weaker}
use Rattle.dr_rows.specs.Strip.{gap_column, line_strip, server_columns, step_text}
use Rattle.dr_rows.proofs.TextLemmas.{pieces}
use Rattle.dr_rows.proofs.strip.push_line_strip.Goals as goal

pub returns : goal.returns
unfolding line_strip
returns c =
    let t0 = c.args.text.now in
    let t1 = c.push_gap_column.new.text in
    let t2 = c.push_server_columns.new.text in
    let t3 = c.append.new.self in
    let t4 = c.append-2.new.self in
    let gap : List ℕ = gap_column c.args.plan.now c.args.signs.now c.args.disaster (c.args.place + 1) in
    let columns : List ℕ = server_columns c.args.plan.now c.args.signs.now c.args.disaster c.args.place in
    let step : List ℕ = step_text c.args.plan.now c.args.place in
    on_ok_weaker c.append-3.result
    (pieces t0 (gap ++ columns ++ codes "  " ++ step) t4 (10 ∷ []) c.append-3.new.self
    (pieces t0 (gap ++ columns ++ codes "  ") t3 step t4
    (pieces t0 (gap ++ columns) t2 (codes "  ") t3 (pieces t0 gap t1 columns t2 c.in_ok-push_gap_column.ensures c.in_ok-push_server_columns.ensures) c.in_ok-append.ensures.ok)
    (c.in_ok-append-2.ensures.ok ∙ ap (λ l. t3 ++ l) c.step_text.ensures)))
    c.append-3.ensures.ok
