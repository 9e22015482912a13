-- What a set of tracks is, and how 32 bytes tell one.
use Rattle.std.specs.Prelude.{ℕ, zero, suc, ◌≡◌, ◌<◌, ◌≤◌, ◌+◌, ◌-◌, ◌*◌, ◌/◌, ◌%◌, ◌^◌, Bool, true, false, List, map, nat_lt, nat_eq, cond, Option, None, Some, length}
use Rattle.std.specs.List.{range_with_len, slice_index_or}
use Rattle.std.specs.Ordering.{nat_cmp}
use Rattle.std.specs.FinSet.{FinSet, contains, empty, insert}

-- a finite set of track numbers
abbrev pub Tracks : Type 0
Tracks = FinSet nat_cmp

-- the tracks below n that pass the test f
unfoldable pub passing : (ℕ → Bool) → ℕ → Tracks
passing f zero = empty
passing f (suc n) = cond (f n) (insert (passing f n) n) (passing f n)

-- the tracks below 256 that pass the test f
unfoldable pub of_test : (ℕ → Bool) → Tracks
of_test f = passing f 256

-- the tracks below n, of those below 256
abbrev pub first : ℕ → Tracks
first n = of_test (λ t. nat_lt t n)

-- no track from t on is a member
abbrev pub NoneFrom : Tracks → ℕ → Type 0
NoneFrom s t = (k : ℕ) → t ≤ k → contains s k ≡ false

-- every member is below 256
abbrev pub IsInRange : Tracks → Type 0
IsInRange s = NoneFrom s 256

-- k is a member, not below t, and lower than every other such member
abbrev pub IsLowestFrom : Tracks → ℕ → ℕ → Type 0
IsLowestFrom s t k = record {
  from : t ≤ k;
  in_range : k < 256;
  member : contains s k ≡ true;
  lowest : (j : ℕ) → t ≤ j → j < k → contains s j ≡ false;
}

-- the number whose n bits, from the lowest, are what f answers from t on
unfoldable pub number_of : (ℕ → Bool) → ℕ → ℕ → ℕ
number_of f t zero = 0
number_of f t (suc n) = cond (f t) 1 0 + 2 * number_of f (t + 1) n

-- the four words of a set: bit k mod 64, counted from the lowest, of word k / 64 says whether k is a member
unfoldable pub words_of : Tracks → List ℕ
words_of s = map (λ k. number_of (contains s) (64 * k) 64) (range_with_len 0 4)

-- four numbers that each fit a word
abbrev pub AreFourWords : List ℕ → Type 0
AreFourWords words = record {
  four : length words ≡ 4;
  fit : (k : ℕ) → slice_index_or words k 0 < 2 ^ 64;
}

-- the 32 bytes of a set: a bit for each track, the lowest track in the lowest bit of the first byte
unfoldable pub bytes_of : Tracks → List ℕ
bytes_of s = map (λ k. number_of (contains s) (8 * k) 8) (range_with_len 0 32)

-- bit t mod 8, counted from the lowest, of byte t / 8
abbrev pub bit_in : List ℕ → ℕ → Bool
bit_in b t = nat_eq ((slice_index_or b (t / 8) 0 / 2 ^ (t % 8)) % 2) 1

-- the set that 32 bytes tell
abbrev pub of_bytes : List ℕ → Tracks
of_bytes b = of_test (bit_in b)

-- the first of n tracks from t on that passes the test f
unfoldable pub lowest_in : (ℕ → Bool) → ℕ → ℕ → Option ℕ
lowest_in f t zero = None
lowest_in f t (suc n) = cond (f t) (Some t) (lowest_in f (t + 1) n)

-- the lowest member that isn't below t, where there is one
unfoldable pub lowest_from : Tracks → ℕ → Option ℕ
lowest_from s t = lowest_in (contains s) t (256 - t)
