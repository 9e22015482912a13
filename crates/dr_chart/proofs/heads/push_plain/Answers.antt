use Rattle.std.proofs.Common.{ℕ, ◌++◌, List}
use Rattle.std.specs.Prelude.{codes}
use Rattle.std.proofs.lemmas.Result.{on_ok_weaker}
use Rattle.dr_chart.specs.Picture.{plain_text, escaped, text_end}
use Rattle.dr_rows.proofs.TextLemmas.{pieces}
use Rattle.dr_chart.proofs.heads.push_plain.Goals as goal

pub returns : goal.returns
unfolding plain_text
returns c =
    let t0 = c.args.text.now in
    let p1 : List ℕ = codes "<text x='60' y='46'>" in
    let t1 = c.append.new.self in
    let p2 : List ℕ = escaped c.args.said.now in
    let t2 = c.push_escaped.new.text in
    let p3 : List ℕ = text_end in
    let t3 = c.push_text_end.new.text in
    on_ok_weaker c.push_text_end.result (pieces t0 (p1 ++ p2) t2 p3 t3 (pieces t0 (p1) t1 p2 t2 c.in_ok-append.ensures.ok c.in_ok-push_escaped.ensures)) c.push_text_end.ensures
