use Rattle.std.proofs.Common.{ℕ, ◌++◌, ◌∷◌, [], List}
use Rattle.std.specs.Prelude.{codes}
use Rattle.std.specs.Fmt.{decimal}
use Rattle.std.proofs.lemmas.Result.{on_ok_weaker}
use Rattle.dr_chart.specs.Picture.{counts_text}
use Rattle.dr_rows.proofs.TextLemmas.{pieces}
use Rattle.dr_chart.proofs.heads.push_counts.Goals as goal

pub returns : goal.returns
unfolding counts_text
returns c =
    let t0 = c.args.text.now in
    let p1 : List ℕ = codes "<text x='60' y='30'>" in
    let t1 = c.append.new.self in
    let p2 : List ℕ = decimal c.args.points in
    let t2 = c.push_number.new.text in
    let p3 : List ℕ = codes " points, " in
    let t3 = c.append-2.new.self in
    let p4 : List ℕ = decimal c.args.broken in
    let t4 = c.push_number-2.new.text in
    let p5 : List ℕ = codes " broken, " in
    let t5 = c.append-3.new.self in
    let p6 : List ℕ = decimal c.args.none in
    let t6 = c.push_number-3.new.text in
    let p7 : List ℕ = codes " without a group, " in
    let t7 = c.append-4.new.self in
    let p8 : List ℕ = decimal c.args.short in
    let t8 = c.push_number-4.new.text in
    let p9 : List ℕ = codes " with members that don't count</text>" ++ 10 ∷ [] in
    let t9 = c.append-5.new.self in
    on_ok_weaker c.append-5.result (pieces t0 (p1 ++ p2 ++ p3 ++ p4 ++ p5 ++ p6 ++ p7 ++ p8) t8 p9 t9 (pieces t0 (p1 ++ p2 ++ p3 ++ p4 ++ p5 ++ p6 ++ p7) t7 p8 t8 (pieces t0 (p1 ++ p2 ++ p3 ++ p4 ++ p5 ++ p6) t6 p7 t7 (pieces t0 (p1 ++ p2 ++ p3 ++ p4 ++ p5) t5 p6 t6 (pieces t0 (p1 ++ p2 ++ p3 ++ p4) t4 p5 t5 (pieces t0 (p1 ++ p2 ++ p3) t3 p4 t4 (pieces t0 (p1 ++ p2) t2 p3 t3 (pieces t0 (p1) t1 p2 t2 c.in_ok-append.ensures.ok c.in_ok-push_number.ensures) c.in_ok-append-2.ensures.ok) c.in_ok-push_number-2.ensures) c.in_ok-append-3.ensures.ok) c.in_ok-push_number-3.ensures) c.in_ok-append-4.ensures.ok) c.in_ok-push_number-4.ensures)) c.append-5.ensures.ok
