-- A row that is lengthened, or has another number at a track; a table with another row.
use Rattle.std.proofs.Common.{◌≡◌, ℕ, ◌-◌, ◌<◌, ◌≤◌, sym, ap, ◌∙◌, Bool, true, false, cond, nat_eq, List, [], ◌++◌, length, replicate, take, slice_index, slice_set, get_or, Option, Some, Result, Ok, Err, OnOk, OnErr, Vec, get_or-set_same, get_or-set_other, arith}
use Rattle.std.proofs.lemmas.Bool.Decides.{nat_tests}
use Rattle.std.proofs.lemmas.Grind.{common_steps}
use Rattle.std.specs.Option.{option_map_or}
use Rattle.std.specs.Map.{lookup}
use Rattle.std.specs.declared.alloc.Global.{Global}
use Rattle.dr_logic.specs.Tables.{at, at2}
use Rattle.dr_facts.proofs.Tables.{at_cases, at_id, at2_at}
use Rattle.dr_lost.specs.Rows.{cells}

resized-read : (xs : List ℕ) (k n i : ℕ) → k ≡ length xs → k ≤ n → get_or (take n xs ++ replicate (n - k) 0) i 0 ≡ get_or xs i 0
resized-read xs k n i e h = grind (arith, common_steps)

-- zeros at the end of a row aren't seen
pub row-resized : (xs : List ℕ) (k n : ℕ) → k ≡ length xs → k ≤ n → slice_index (take n xs ++ replicate (n - k) 0) ≡ slice_index xs
row-resized xs k n e h = λ d i. resized-read xs k n i e h d

-- a row with another number at a track
pub row-set : (xs : List ℕ) (i n : ℕ) → i < length xs → slice_index (slice_set xs i n) ≡ at (slice_index xs) i n
row-set xs i n h = λ d q. at_cases (λ q y. get_or (slice_set xs i n) q 0 ≡ y) (slice_index xs) i n (get_or-set_same xs i n 0 h) (λ q ne. get_or-set_other xs i q n 0 ne) q d

-- a row as its numbers are read; one that doesn't stand is empty
abbrev shown : Option (Vec ℕ Global) → ℕ → ℕ
shown r i = slice_index (option_map_or (λ (row : Vec ℕ Global). row.items) r []) i

module _ (old new : List (ℕ × Vec ℕ Global)) (v : ℕ) (row : Vec ℕ Global) (is : (q : ℕ) → lookup (nat_eq q) new ≡ cond (nat_eq v q) (Some row) (lookup (nat_eq q) old)) where
  there : (b : Bool) (q : ℕ) → nat_eq v q ≡ b → cells new q ≡ shown (cond b (Some row) (lookup (nat_eq q) old))
  there b q e = ap shown (is q ∙ ap (λ b. cond b (Some row) (lookup (nat_eq q) old)) e)

  -- the table with a row in the place of a volume's
  pub cells-put : cells new ≡ at (cells old) v (slice_index row.items)
  cells-put = λ d q. at_cases (λ q (f : ℕ → ℕ). cells new q ≡ f) (cells old) v (slice_index row.items) (there true v (grind (arith, nat_tests))) (λ q ne. there false q (grind (arith, nat_tests))) q d

  -- the table with another number at a track of the volume
  pub cells-set : (t n : ℕ) → slice_index row.items ≡ at (cells old v) t n → cells new ≡ at2 (cells old) v t n
  cells-set t n e = cells-put ∙ ap (at (cells old) v) e ∙ sym (at2_at (cells old) v t n)

-- the same where a row that was found is changed, and that may fail
pub cells-written : {A E : Type 0} (r : Result A E) (old new : List (ℕ × Vec ℕ Global)) (v t n : ℕ) (had row : Vec ℕ Global) → Some had ≡ lookup (nat_eq v) old
    → ((q : ℕ) → lookup (nat_eq q) new ≡ cond (nat_eq v q) (Some row) (lookup (nat_eq q) old))
    → OnOk r (slice_index row.items ≡ at (slice_index had.items) t n) → OnOk r (cells new ≡ at2 (cells old) v t n)
cells-written (Ok x) old new v t n had row found is e = cells-set old new v row is t n (e ∙ ap (λ r. at (shown r) t n) found)
cells-written (Err x) old new v t n had row found is e = tt

pub cells-kept : {A E : Type 0} (r : Result A E) (old new : List (ℕ × Vec ℕ Global)) (v : ℕ) (had row : Vec ℕ Global) → Some had ≡ lookup (nat_eq v) old
    → ((q : ℕ) → lookup (nat_eq q) new ≡ cond (nat_eq v q) (Some row) (lookup (nat_eq q) old))
    → OnErr r (slice_index row.items ≡ slice_index had.items) → OnErr r (cells new ≡ cells old)
cells-kept (Ok x) old new v had row found is e = tt
cells-kept (Err x) old new v had row found is e = cells-put old new v row is ∙ ap (at (cells old) v) (e ∙ ap shown found) ∙ (λ d q. at_id (cells old) v q d)
