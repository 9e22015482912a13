use Rattle.std.proofs.Common.{ℕ, ◌++◌, List}
use Rattle.std.specs.Prelude.{codes}
use Rattle.std.proofs.lemmas.Result.{on_ok_weaker}
use Rattle.dr_chart.specs.Picture.{bold_text, escaped, text_end}
use Rattle.dr_rows.proofs.TextLemmas.{pieces}
use Rattle.dr_chart.proofs.heads.push_bold.Goals as goal

pub returns : goal.returns
unfolding bold_text
returns c =
    let t0 = c.args.text.now in
    let p1 : List ℕ = codes "<text x='60' y='14' font-size='13' font-weight='bold'>" in
    let t1 = c.append.new.self in
    let p2 : List ℕ = escaped c.args.first.now in
    let t2 = c.push_escaped.new.text in
    let p3 : List ℕ = escaped c.args.second.now in
    let t3 = c.push_escaped-2.new.text in
    let p4 : List ℕ = text_end in
    let t4 = c.push_text_end.new.text in
    on_ok_weaker c.push_text_end.result (pieces t0 (p1 ++ p2 ++ p3) t3 p4 t4 (pieces t0 (p1 ++ p2) t2 p3 t3 (pieces t0 (p1) t1 p2 t2 c.in_ok-append.ensures.ok c.in_ok-push_escaped.ensures) c.in_ok-push_escaped-2.ensures)) c.push_text_end.ensures
