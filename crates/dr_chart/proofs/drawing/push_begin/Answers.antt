use Rattle.std.proofs.Common.{ℕ, ◌++◌, ◌∷◌, [], List}
use Rattle.std.specs.Prelude.{codes}
use Rattle.std.proofs.lemmas.Result.{on_ok_weaker}
use Rattle.dr_chart.specs.Picture.{attribute, begin_text}
use Rattle.dr_rows.proofs.TextLemmas.{pieces}
use Rattle.dr_chart.proofs.drawing.push_begin.Goals as goal

pub returns : goal.returns
unfolding begin_text
returns c =
    let t0 = c.args.text.now in
    let p1 : List ℕ = codes "<svg xmlns='http://www.w3.org/2000/svg'" in
    let t1 = c.append.new.self in
    let p2 : List ℕ = attribute (codes "width") c.args.wide in
    let t2 = c.push_attribute.new.text in
    let p3 : List ℕ = attribute (codes "height") c.args.high in
    let t3 = c.push_attribute-2.new.text in
    let p4 : List ℕ = codes " font-family='sans-serif' font-size='12' fill='#333333'>" ++ 10 ∷ [] in
    let t4 = c.append-2.new.self in
    on_ok_weaker c.append-2.result (pieces t0 (p1 ++ p2 ++ p3) t3 p4 t4 (pieces t0 (p1 ++ p2) t2 p3 t3 (pieces t0 (p1) t1 p2 t2 c.in_ok-append.ensures.ok c.in_ok-push_attribute.ensures) c.in_ok-push_attribute-2.ensures)) c.append-2.ensures.ok
