use Rattle.std.proofs.Common.{ℕ, ◌+◌, bit_and, w64, arith, refl, sym, subst, List}
use Rattle.std.specs.Int.{bit_not}
use Rattle.std.specs.Simd.Lanes.{put_chunk}
use Rattle.dr_lanes.proofs.Vectors.{four}
use Rattle.dr_lanes.proofs.Merges.{Merged, merged-four, merged-all, zip2_of_map, and_not_is_difference}
use Rattle.dr_lanes.proofs.and_not_into.Goals as goal

abbrev cleared : ℕ → ℕ → ℕ
cleared x y = bit_and x (bit_not w64 y)

pub lanes-preserved : goal.lanes-preserved
lanes-preserved c =
    let m = merged-four cleared c.args.a.now c.args.b.now c.lanes.a c.lanes.at (omega arith) (omega arith) c.lanes.invariant.merged in
    let is = zip2_of_map bit_and (bit_not w64) (four c.lanes.at c.lanes.a) (four c.lanes.at c.args.b.now) in
    let n = subst (λ (xs : List ℕ). Merged cleared c.args.a.now c.args.b.now (put_chunk c.lanes.at c.lanes.a xs) (c.lanes.at + 4)) (sym is) m in
    record { within = omega (arith, n.sized); merged = n }

pub returns : goal.returns
returns c =
    let each = merged-all cleared c.args.a.now c.args.b.now c.rest.a c.rest.at refl c.requires (omega arith) c.rest.invariant.merged in
    record { words = each; bits = and_not_is_difference _ _ _ (λ k. (c.type_inv.b k).fits) each }
