use Rattle.std.proofs.Common.{ℕ, ◌≡◌, ◌<◌, ◌+◌, ◌*◌, ◌/◌, ◌%◌, ◌^◌, get_or, arith, subst, w64}
use Rattle.std.specs.Int.{trailing_zeros}
use Rattle.dr_lanes.specs.Words.{bits_of, IsNextFrom}
use Rattle.dr_lanes.proofs.Lowest.{lowest_of, next-in_word, clear-up_to, none_is_left}
use Rattle.dr_lanes.proofs.next_set.Goals as goal

pub returns-then-first-a : goal.returns-then-first-a
returns-then-first-a c =
    none_is_left c.args.a.now c.args.from (c.args.from / 64) c.if-first-a.true (λ j above below. absurd (omega arith))

pub returns-then-rest-ne0 : goal.returns-then-rest-ne0
returns-then-rest-ne0 c =
    let from = c.args.from in
    let at : ℕ = from / 64 in
    let s : ℕ = from % 64 in
    let w = get_or c.args.a.now at 0 in
    let is = next-in_word c.args.a.now from at s (trailing_zeros w64 (w / 2 ^ s)) (omega arith) (λ j above below. absurd (omega arith)) (lowest_of w s (c.type_inv.a at).fits (let ne = c.if-rest-ne0.true in omega arith)) in
    let place : 64 * at + s ≡ from = omega arith in
    subst (λ (k : ℕ). IsNextFrom (bits_of c.args.a.now) from (k + trailing_zeros w64 (w / 2 ^ s))) place is

pub returns-then-at-a : goal.returns-then-at-a
returns-then-at-a c =
    let from = c.args.from in
    let at = c.next_word-at.result in
    let w = get_or c.args.a.now at 0 in
    let clear = clear-up_to c.args.a.now from (from / 64) (from % 64) at (omega arith) (omega arith) c.if-rest-ne0.false c.next_word-at.ensures.zero in
    let whole : w / 2 ^ 0 ≡ w = omega arith in
    let some : 0 < w = c.next_word-at.ensures.found c.if-at-a.true in
    let past = c.next_word-at.ensures.within in
    let is = next-in_word c.args.a.now from at 0 (trailing_zeros w64 (w / 2 ^ 0)) (omega arith) (λ j above below. clear j above (omega arith)) (lowest_of w 0 (c.type_inv.a at).fits (omega arith)) in
    let place : 64 * at + 0 ≡ at * 64 = omega arith in
    subst (λ (k : ℕ). IsNextFrom (bits_of c.args.a.now) from (k + trailing_zeros w64 w)) place (
    subst (λ (v : ℕ). IsNextFrom (bits_of c.args.a.now) from (64 * at + 0 + trailing_zeros w64 v)) whole is)

pub returns-else-at-a : goal.returns-else-at-a
returns-else-at-a c =
    let from = c.args.from in
    none_is_left c.args.a.now from c.next_word-at.result c.if-at-a.false
    (clear-up_to c.args.a.now from (from / 64) (from % 64) c.next_word-at.result (omega arith) (omega arith) c.if-rest-ne0.false c.next_word-at.ensures.zero)
