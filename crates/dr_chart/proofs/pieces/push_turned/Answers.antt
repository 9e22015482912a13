use Rattle.std.proofs.Common.{ℕ, ◌++◌, List}
use Rattle.std.specs.Prelude.{codes}
use Rattle.std.specs.Fmt.{decimal}
use Rattle.std.proofs.lemmas.Result.{on_ok_weaker}
use Rattle.dr_chart.specs.Picture.{turned}
use Rattle.dr_rows.proofs.TextLemmas.{pieces}
use Rattle.dr_chart.proofs.pieces.push_turned.Goals as goal

pub returns : goal.returns
unfolding turned
returns c =
    let t0 = c.args.text.now in
    let p1 : List ℕ = codes "<text transform='translate(" in
    let t1 = c.append.new.self in
    let p2 : List ℕ = decimal c.args.x in
    let t2 = c.push_total.new.text in
    let p3 : List ℕ = codes " " in
    let t3 = c.append-2.new.self in
    let p4 : List ℕ = decimal c.args.y in
    let t4 = c.push_total-2.new.text in
    let p5 : List ℕ = codes ") rotate(-90)' font-size='10'" in
    let t5 = c.append-3.new.self in
    on_ok_weaker c.append-3.result (pieces t0 (p1 ++ p2 ++ p3 ++ p4) t4 p5 t5 (pieces t0 (p1 ++ p2 ++ p3) t3 p4 t4 (pieces t0 (p1 ++ p2) t2 p3 t3 (pieces t0 (p1) t1 p2 t2 c.in_ok-append.ensures.ok c.in_ok-push_total.ensures) c.in_ok-append-2.ensures.ok) c.in_ok-push_total-2.ensures)) c.append-3.ensures.ok
