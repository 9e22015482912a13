use Rattle.std.proofs.Common.{◌≡◌, ◌+◌, ◌++◌, ◌∷◌, ◌∙◌, ap, sym, arith, append_assoc}
use Rattle.std.specs.List.{flat_map, range_with_len}
use Rattle.dr_lost.proofs.SetLemmas.{range-more}
use Rattle.dr_sweep.specs.Parts.{step_parts}
use Rattle.dr_sweep.specs.declared.parts.Part.TheVariants.{Between}
use Rattle.dr_sweep.proofs.parts.push_disaster.Goals as goal

pub loop-place-preserved : goal.loop-place-preserved
loop-place-preserved c =
    let old = c.args.parts.now.items in
    let n = c.loop-place.place in
    let f = step_parts c.args.plan.now c.args.disaster in
    let same : 0 + n ≡ n = omega arith in
    c.in_ok-push_step.ensures
    ∙ ap (λ xs. xs ++ f n) c.loop-place.invariant
    ∙ append_assoc old (Between c.args.disaster 0 ∷ flat_map f (range_with_len 0 n)) (f n)
    ∙ ap (λ xs. old ++ Between c.args.disaster 0 ∷ xs) (sym (range-more f 0 n ∙ ap (λ k. flat_map f (range_with_len 0 n) ++ f k) same))
