-- What words of 64 bits stand for: the set of the bits that are set in them.
use Rattle.std.specs.Prelude.{ℕ, ◌≡◌, ◌<◌, ◌≤◌, ◌*◌, ◌/◌, ◌%◌, Bool, true, false, List, length, nat_eq, filter}
use Rattle.std.specs.List.{range_with_len, slice_index}
use Rattle.std.specs.Int.{bit_at}
use Rattle.std.specs.Ordering.{nat_cmp}
use Rattle.std.specs.FinSet.{FinSet, contains, from_list}

-- a finite set of numbers
abbrev pub Bits : Type 0
Bits = FinSet nat_cmp

-- whether bit k of the words is set: bit k mod 64, counted from the lowest, of word k / 64. None past the last word is set
abbrev pub is_set : List ℕ → ℕ → Bool
is_set words k = nat_eq (bit_at (slice_index words (k / 64)) (k % 64)) 1

-- the set of the bits that are set
unfoldable pub bits_of : List ℕ → Bits
bits_of words = from_list (filter (is_set words) (range_with_len 0 (64 * length words)))

-- no member of the set is `from` or more
abbrev pub HasNoneFrom : Bits → ℕ → Type 0
HasNoneFrom s from = (k : ℕ) → from ≤ k → contains s k ≡ false

-- k is the lowest member of the set that isn't below `from`
abbrev pub IsNextFrom : Bits → ℕ → ℕ → Type 0
IsNextFrom s from k = record {
  not_below : from ≤ k;
  member : contains s k ≡ true;
  none_between : (j : ℕ) → from ≤ j → j < k → contains s j ≡ false;
}
