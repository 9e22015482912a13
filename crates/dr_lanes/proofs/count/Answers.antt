use Rattle.std.proofs.Common.{ℕ, length, arith, ◌∙◌, sym, ap, ◌+◌, ◌*◌, ◌≡◌, get_or}
use Rattle.std.proofs.lemmas.Nat.{ones-le}
use Rattle.dr_lanes.specs.Words.{is_set}
use Rattle.dr_lanes.proofs.Members.{how_many, len-bits_of}
use Rattle.dr_lanes.proofs.Counts.{counted-one, counted-four, counted-none}
use Rattle.dr_lanes.proofs.count.Goals as goal

pub lanes-init : goal.lanes-init
lanes-init c = record { within = omega arith; few = omega arith; so_far = counted-none c.args.a.now }

pub lanes-preserved : goal.lanes-preserved
lanes-preserved c =
    let w = λ (k : ℕ). (c.type_inv.a k).fits in
    let at = c.lanes.at in
    let few_0 = ones-le 64 (get_or c.args.a.now at 0) (w at) in
    let few_1 = ones-le 64 (get_or c.args.a.now (at + 1) 0) (w (at + 1)) in
    let few_2 = ones-le 64 (get_or c.args.a.now (at + 2) 0) (w (at + 2)) in
    let few_3 = ones-le 64 (get_or c.args.a.now (at + 3) 0) (w (at + 3)) in
    record {
      within = omega arith;
      few = omega arith;
      so_far = ap (λ n. c.lanes.ones + n) c.ones_in_four-ones.ensures ∙ counted-four c.args.a.now at c.lanes.ones w c.lanes.invariant.so_far;
    }

pub rest-preserved : goal.rest-preserved
rest-preserved c = record {
  within = omega arith;
  few = let few = ones-le 64 (get_or c.args.a.now c.rest.at 0) (c.type_inv.a c.rest.at).fits in omega arith;
  so_far = counted-one c.args.a.now c.rest.at c.rest.ones (c.type_inv.a c.rest.at).fits c.rest.invariant.so_far;
}

pub returns : goal.returns
returns c =
    let all : c.rest.at ≡ length c.args.a.now = omega arith in
    c.rest.invariant.so_far ∙ ap (λ n. how_many (is_set c.args.a.now) 0 (64 * n)) all ∙ sym (len-bits_of c.args.a.now)
