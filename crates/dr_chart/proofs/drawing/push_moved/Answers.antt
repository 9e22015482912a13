use Rattle.std.proofs.Common.{ℕ, ◌++◌, ◌∷◌, [], List}
use Rattle.std.specs.Prelude.{codes}
use Rattle.std.specs.Fmt.{decimal}
use Rattle.std.proofs.lemmas.Result.{on_ok_weaker}
use Rattle.dr_chart.specs.Picture.{moved}
use Rattle.dr_rows.proofs.TextLemmas.{pieces}
use Rattle.dr_chart.proofs.drawing.push_moved.Goals as goal

pub returns : goal.returns
unfolding moved
returns c =
    let t0 = c.args.text.now in
    let p1 : List ℕ = codes "<g transform='translate(0 " in
    let t1 = c.append.new.self in
    let p2 : List ℕ = decimal c.args.y in
    let t2 = c.push_total.new.text in
    let p3 : List ℕ = codes ")'>" ++ 10 ∷ [] in
    let t3 = c.append-2.new.self in
    on_ok_weaker c.append-2.result (pieces t0 (p1 ++ p2) t2 p3 t3 (pieces t0 (p1) t1 p2 t2 c.in_ok-append.ensures.ok c.in_ok-push_total.ensures)) c.append-2.ensures.ok
