use Rattle.std.proofs.Common.{◌≡◌, ◌≤◌, ◌+◌, ◌∙◌, ap, sym, subst, arith}
use Rattle.std.specs.Vec.{vec_len, vec_capacity}
use Rattle.dr_model.specs.Log.{memory_for}
use Rattle.dr_model.proofs.MemoryLemmas.{memory-none}
use Rattle.dr_model.proofs.journal.Journal.new.Goals as goal

pub invariant_of-result : goal.invariant_of-result
invariant_of-result c =
    let len = c.new.ensures.len in
    let none : vec_len c.new.result + 0 ≡ 0 = omega (arith, len) in
    (omega (arith, len), subst (λ n. n ≤ vec_capacity c.new.result) (sym (ap memory_for none ∙ memory-none)) (omega arith))
