use Rattle.std.proofs.Common.{ℕ, ◌+◌, get_or, arith}
use Rattle.std.proofs.lemmas.Nat.{ones-le}
use Rattle.dr_lanes.proofs.Vectors.{four_is}
use Rattle.dr_lanes.proofs.ones_in_four.Goals as goal

pub overflow_cast-result-2 : goal.overflow_cast-result-2
overflow_cast-result-2 c =
    let r = c.requires in
    let at = c.args.at in
    let few = λ (k : ℕ). ones-le 64 (get_or c.args.a.now k 0) (c.type_inv.a k).fits in
    rw four_is record { fits = omega (arith, few at, few (at + 1), few (at + 2), few (at + 3)) }

pub returns : goal.returns
returns c = let r = c.requires in rw four_is (omega arith)
