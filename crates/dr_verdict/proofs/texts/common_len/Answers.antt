use Rattle.std.proofs.Common.{◌==◌, drop, arith}
use Rattle.std.proofs.lemmas.List.{length-drop}
use Rattle.std.proofs.lemmas.List.Sums.{common_prefix_len-le}
use Rattle.dr_verdict.proofs.texts.common_len.Goals as goal

pub returns-else-at-printed-clause-value : goal.returns-else-at-printed-clause-value
returns-else-at-printed-clause-value c =
    let at = c.loop-at.at in
    let none_left = (common_prefix_len-le (λ x y. x == y) (drop at c.args.wanted.now) (drop at c.args.printed.now)).1 in
    omega (arith, c.loop-at.invariant.2, none_left, length-drop at c.args.printed.now)
