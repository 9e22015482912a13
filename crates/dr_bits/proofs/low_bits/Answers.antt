use Rattle.std.proofs.Common.{ℕ, ◌-◌, ◌^◌, ◌≡◌, ◌∙◌, ap, sym, arith, nat_eq, nat_lt, inl, inr}
use Rattle.std.specs.Int.{bit_at}
use Rattle.std.proofs.lemmas.Nat.{one_shl}
use Rattle.std.proofs.lemmas.Nat.Bits.{bit_at_ones, bit_at_ones_above}
use Rattle.std.proofs.lemmas.Bool.Decides.{leb_tells}
use Rattle.dr_bits.specs.Membership.{lt_true, lt_false}
use Rattle.dr_bits.proofs.low_bits.Goals as goal

-- the lowest n bits, and no other
ones_below : (n i : ℕ) → nat_eq (bit_at (2 ^ n - 1) i) 1 ≡ nat_lt i n
ones_below n i = elim (leb_tells n i) as (λ _. nat_eq (bit_at (2 ^ n - 1) i) 1 ≡ nat_lt i n) [
  | inl p ↦ ap (λ b. nat_eq b 1) (bit_at_ones_above n i p.1) ∙ sym (lt_false i n p.1)
  | inr p ↦ ap (λ b. nat_eq b 1) (bit_at_ones n i p.1) ∙ sym (lt_true i n p.1)
]

pub returns-then-n-lt64 : goal.returns-then-n-lt64
returns-then-n-lt64 c i low =
    ap (λ p. nat_eq (bit_at (p - 1) i) 1) (one_shl c.args.n 64 c.if-n-lt64.true) ∙ ones_below c.args.n i

pub returns-else-n-lt64 : goal.returns-else-n-lt64
returns-else-n-lt64 c i low = let many = c.if-n-lt64.false in ones_below 64 i ∙ lt_true i 64 low ∙ sym (lt_true i c.args.n (omega arith))
