use Rattle.std.proofs.Common.{◌++◌, ◌∷◌, []}
use Rattle.std.specs.Prelude.{codes}
use Rattle.std.proofs.lemmas.Result.{on_ok_weaker}
use Rattle.dr_rows.specs.Kinds.{counted, counts}
use Rattle.dr_rows.proofs.TextLemmas.{pieces}
use Rattle.dr_rows.proofs.disasters.push_counts.Goals as goal

pub returns : goal.returns
unfolding counts
returns c =
    let t0 = c.args.text.now in
    let t1 = c.append.new.self in
    let t2 = c.push_count.new.text in
    let t3 = c.push_count-2.new.text in
    let t4 = c.push_count-3.new.text in
    let a = counted c.args.points (codes " points, at most ") in
    let b = counted c.args.most (codes " lost, ") in
    let d = counted c.args.broken (codes " broken, ") in
    let e = counted c.args.refused (codes " with refusals" ++ 10 ∷ []) in
    on_ok_weaker c.push_count-4.result
    (pieces t0 (codes ": " ++ a ++ b ++ d) t4 e c.push_count-4.new.text
    (pieces t0 (codes ": " ++ a ++ b) t3 d t4
    (pieces t0 (codes ": " ++ a) t2 b t3 (pieces t0 (codes ": ") t1 a t2 c.in_ok-append.ensures.ok c.in_ok-push_count.ensures) c.in_ok-push_count-2.ensures) c.in_ok-push_count-3.ensures))
    c.push_count-4.ensures
