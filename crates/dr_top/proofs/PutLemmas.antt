-- A piece that is put in several calls.
use Rattle.std.proofs.Common.{ℕ, ◌≡◌, ◌≤◌, ◌<◌, ◌+◌, ◌-◌, List, ◌++◌, length, take, drop, ap, ◌∙◌, arith, false, ◌≢◌, ◌&&◌, nat_lt, nat_eq}
use Rattle.std.proofs.lemmas.Bool.Decides.{nat_tests}
use Rattle.std.proofs.lemmas.Grind.{common_steps}
use Rattle.dr_io.proofs.Pieces.{pieces_written}

pub all_taken : {X : Type 0} (xs : List X) (n : ℕ) → length xs ≤ n → take n xs ≡ xs
all_taken xs n h = grind (arith, common_steps)

-- a call that took nothing
pub given_none : (out piece : List ℕ) (done taken : ℕ) → taken ≡ 0 → (out ++ take done piece) ++ take taken (take (length piece - done) (drop done piece)) ≡ out ++ take done piece
given_none out piece done taken none = pieces_written out piece done taken ∙ ap (λ n. out ++ take n piece) (let e : done + taken ≡ done = omega arith in e)

-- a call that took something
pub some-taken : (wanted taken : ℕ) → taken ≢ 0 → (nat_lt 0 wanted && nat_eq taken 0) ≡ false
some-taken wanted taken some = grind (arith, nat_tests, some)

pub some-left : (piece : List ℕ) (done : ℕ) → done < length piece → 0 < length (take (length piece - done) (drop done piece))
some-left piece done lt = grind (arith, common_steps, lt)
