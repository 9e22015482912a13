use Rattle.std.proofs.Common.{◌≤◌, ◌^◌, length, arith}
use Rattle.std.proofs.Math.Nat.{pow-le-pow_right}
use Rattle.dr_script.proofs.values.read_sequence.Goals as goal

pub overflow_cast-result : goal.overflow_cast-result
overflow_cast-result c =
    let short : length c.args.word.now ≤ 8 = omega arith in
    let wide : 16 ^ length c.args.word.now ≤ 16 ^ 8 = pow-le-pow_right (omega arith) short in
    let below = c.in_ok-number.ensures.below in
    omega arith
