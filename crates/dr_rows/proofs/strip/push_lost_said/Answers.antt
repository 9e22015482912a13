use Rattle.std.proofs.Common.{◌++◌}
use Rattle.std.specs.Prelude.{codes}
use Rattle.std.proofs.lemmas.Result.{on_ok_weaker}
use Rattle.dr_rows.specs.Strip.{lost_said, wide_number}
use Rattle.dr_rows.proofs.TextLemmas.{pieces}
use Rattle.dr_rows.proofs.strip.push_lost_said.Goals as goal

pub returns : goal.returns
unfolding lost_said
returns c =
    let t0 = c.args.text.now in
    let t1 = c.append.new.self in
    let t2 = c.push_wide_number.new.text in
    let t3 = c.append-2.new.self in
    let t4 = c.push_wide_number-2.new.text in
    let gap = wide_number c.args.greatest c.args.gap in
    let most = wide_number c.args.greatest c.args.most in
    on_ok_weaker c.append-3.result
    (pieces t0 (codes " | " ++ gap ++ codes " lost, worst " ++ most) t4 (codes " |") c.append-3.new.self
    (pieces t0 (codes " | " ++ gap ++ codes " lost, worst ") t3 most t4
    (pieces t0 (codes " | " ++ gap) t2 (codes " lost, worst ") t3 (pieces t0 (codes " | ") t1 gap t2 c.in_ok-append.ensures.ok c.in_ok-push_wide_number.ensures) c.in_ok-append-2.ensures.ok)
    c.in_ok-push_wide_number-2.ensures))
    c.append-3.ensures.ok
