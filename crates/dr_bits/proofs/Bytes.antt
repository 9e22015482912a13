-- The laws of the bytes of a set: a set in range comes back from them.
use Rattle.std.proofs.Common.{ℕ, zero, suc, ◌≡◌, ◌<◌, ◌≤◌, ◌+◌, ◌*◌, ◌/◌, ◌%◌, ◌^◌, Bool, true, false, List, length, get_or, arith, ◌∙◌, ap, refl, nat_eq, cond, add-one}
use Rattle.std.specs.Int.{from_bool}
use Rattle.std.specs.FinSet.{contains}
use Rattle.std.proofs.Math.Nat.{pow-le-pow_right}
use Rattle.std.proofs.lemmas.List.FromFn.{get_or-map-range_with_len, fill_by_all, length-map-range_with_len}
use Rattle.dr_bits.specs.Tracks.{Tracks, IsInRange, number_of, bytes_of, bit_in, of_bytes}
pub use Rattle.dr_bits.specs.Numbers.{bit_below_two, number_of-bit, number_of_below}
use Rattle.dr_bits.specs.Membership.{contains-of_test_below}
use Rattle.dr_bits.proofs.Laws.{same_in_range, in_range-of_test}

pub from_bool_is : (b : Bool) → from_bool b ≡ cond b 1 0
from_bool_is true = refl
from_bool_is false = refl

pub number_of_more : (f : ℕ → Bool) (t n : ℕ) → number_of f t (n + 1) ≡ cond (f t) 1 0 + 2 * number_of f (t + 1) n
unfolding number_of
number_of_more f t n = rw add-one refl

pub number_of_none : (f : ℕ → Bool) (t : ℕ) → number_of f t 0 ≡ 0
unfolding number_of
number_of_none f t = refl

pow_at_most : (n : ℕ) → n < 8 → 2 ^ n ≤ 128
pow_at_most n few = let low : n ≤ 7 = omega arith in pow-le-pow_right {n = 2} (omega arith) {i = n} {j = 7} low

-- fewer than eight answers leave room for one more in a byte
pub number_of_half : (f : ℕ → Bool) (t n : ℕ) → n < 8 → number_of f t n < 128
number_of_half f t n few = let p : 2 ^ n ≤ 2 ^ 7 = pow_at_most n few in omega (arith, number_of_below f t n)

-- two tests that answer alike over these tracks give one number
pub number_of_same : (f g : ℕ → Bool) (t n : ℕ) → ((k : ℕ) → t ≤ k → k < t + n → f k ≡ g k) → number_of f t n ≡ number_of g t n
unfolding number_of
number_of_same f g t zero same = refl
number_of_same f g t (suc n) same = (λ i. cond (same t (omega arith) (omega arith) i) 1 0 + 2 * number_of_same f g (t + 1) n (λ k from to. same k (omega arith) (omega arith)) i)

-- 32 bytes that tell a set's members are that set's bytes
pub bytes_of_is : (s : Tracks) (xs : List ℕ) → length xs ≡ 32 → ((k : ℕ) → k < 32 → get_or xs k 0 ≡ number_of (contains s) (8 * k) 8) → xs ≡ bytes_of s
unfolding bytes_of
bytes_of_is s xs sized same = fill_by_all (λ k. number_of (contains s) (8 * k) 8) xs 32 0 sized same

pub length-bytes_of : (s : Tracks) → length (bytes_of s) ≡ 32
unfolding bytes_of
length-bytes_of s = length-map-range_with_len (λ k. number_of (contains s) (8 * k) 8) 0 32

-- bit t of a set's bytes says whether t is a member
pub bit_in-bytes_of : (s : Tracks) (t : ℕ) → t < 256 → bit_in (bytes_of s) t ≡ contains s t
unfolding bytes_of
bit_in-bytes_of s t low =
    ap (λ byte. nat_eq ((byte / 2 ^ (t % 8)) % 2) 1) (get_or-map-range_with_len (λ k. number_of (contains s) (8 * k) 8) 0 32 (t / 8) (t / 8) 0 (omega arith) (omega arith))
    ∙ number_of-bit (contains s) (8 * (t / 8)) 8 (t % 8) (omega arith)
    ∙ ap (contains s) (let e : 8 * (t / 8) + t % 8 ≡ t = omega arith in e)

-- a set in range comes back from its bytes
pub of_bytes-bytes_of : (s : Tracks) → IsInRange s → of_bytes (bytes_of s) ≡ s
of_bytes-bytes_of s in_s = same_in_range _ s (in_range-of_test _) in_s
    (λ t low. contains-of_test_below (bit_in (bytes_of s)) t low ∙ bit_in-bytes_of s t low)
