use Rattle.std.proofs.Common.{◌≡◌, ◌+◌, ◌++◌, ◌∙◌, ap, sym, arith}
use Rattle.std.specs.List.{flat_map, range_with_len}
use Rattle.dr_lost.proofs.SetLemmas.{range-more}
use Rattle.dr_sweep.specs.Parts.{disaster_parts}
use Rattle.dr_sweep.proofs.parts.parts_of.Goals as goal

pub loop-disaster-preserved : goal.loop-disaster-preserved
loop-disaster-preserved c =
    let n = c.loop-disaster.disaster in
    let f = disaster_parts c.args.plan.now in
    let same : 0 + n ≡ n = omega arith in
    c.in_ok-push_disaster.ensures
    ∙ ap (λ xs. xs ++ f n) c.loop-disaster.invariant
    ∙ sym (range-more f 0 n ∙ ap (λ k. flat_map f (range_with_len 0 n) ++ f k) same)
