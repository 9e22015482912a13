use Rattle.std.proofs.Common.{◌≡◌, ℕ, ◌+◌, ◌*◌, ◌-◌, ◌<◌, Bool, false, get_or, arith, sym, ◌∙◌, ap, cond}
use Rattle.dr_bits.specs.Tracks.{number_of}
use Rattle.dr_bits.proofs.Bytes.{number_of_none, number_of_half, number_of_more, bit_below_two, from_bool_is}
use Rattle.dr_bits.proofs.byte_at.Goals as goal

pub loop-done-init : goal.loop-done-init
loop-done-init c = sym (number_of_none _ _)

pub overflow_mul-byte : goal.overflow_mul-byte
overflow_mul-byte c =
    let e = c.loop-done.invariant in
    let half = number_of_half (λ t. get_or c.args.flags.now t false) (c.args.at + (8 - c.loop-done.done)) c.loop-done.done c.loop-done-test.true in
    omega arith

pub overflow_add-byte : goal.overflow_add-byte
overflow_add-byte c =
    let e = c.loop-done.invariant in
    let half = number_of_half (λ t. get_or c.args.flags.now t false) (c.args.at + (8 - c.loop-done.done)) c.loop-done.done c.loop-done-test.true in
    let flag : Bool = get_or c.args.flags.now (c.args.at + (7 - c.loop-done.done)) false in
    let bit : c.from.result ≡ cond flag 1 0 = c.from.ensures ∙ from_bool_is flag in
    let low = bit_below_two flag in
    omega arith

-- one flag more, below those that are done
one_more : (f : ℕ → Bool) (at done byte : ℕ) → done < 8 → byte ≡ number_of f (at + (8 - done)) done → 2 * byte + cond (f (at + (7 - done))) 1 0 ≡ number_of f (at + (8 - (done + 1))) (done + 1)
one_more f at done byte few so_far =
    let here : at + (8 - (done + 1)) ≡ at + (7 - done) = omega arith in
    let next : (at + (7 - done)) + 1 ≡ at + (8 - done) = omega arith in
    sym (
    ap (λ t. number_of f t (done + 1)) here
    ∙ number_of_more f (at + (7 - done)) done
    ∙ ap (λ t. cond (f (at + (7 - done))) 1 0 + 2 * number_of f t done) next
    ∙ ap (λ n. cond (f (at + (7 - done))) 1 0 + 2 * n) (sym so_far)
    ∙ omega arith)

pub loop-done-preserved : goal.loop-done-preserved
loop-done-preserved c =
    ap (λ n. 2 * c.loop-done.byte + n) (c.from.ensures ∙ from_bool_is _)
    ∙ one_more (λ t. get_or c.args.flags.now t false) c.args.at c.loop-done.done c.loop-done.byte c.loop-done-test.true c.loop-done.invariant
