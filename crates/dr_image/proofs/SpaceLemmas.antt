-- A line is cut at its first space.
use Rattle.std.proofs.Common.{ℕ, ◌≡◌, ◌+◌, List, [], ◌∷◌, take, drop, length, refl, ap, ◌∙◌, arith, Bool, true, false, cond, nat_lt, Some, None}
use Rattle.std.proofs.lemmas.Bool.Decides.{nat_tests}
use Rattle.std.proofs.lemmas.List.Splits.{slice_split_first}
use Rattle.std.specs.List.{position, position_or_len, slice_split, onto_first}
use Rattle.dr_model.specs.PlantImage.{is_space, words}
use Rattle.dr_image.specs.Lines.{only}
use Rattle.dr_logic.proofs.Choices.{not_chosen, chosen}
use Rattle.dr_logic.proofs.Lists.{uncut}

-- bytes are cut at the first that passes
pub parts-at : (p : ℕ → Bool) (xs : List ℕ) (i : ℕ) → position p xs ≡ Some i → slice_split p xs ≡ take i xs ∷ slice_split p (drop (i + 1) xs)
parts-at p xs i h =
    let at = chosen (nat_lt (position_or_len p xs) (length xs)) (position_or_len p xs) i h in
    let within = at.0 in
    slice_split_first p xs 0 (grind (arith, nat_tests, within)) ∙ ap (λ n. take n xs ∷ slice_split p (drop (n + 1) xs)) at.1

pub parts-none : (p : ℕ → Bool) (xs : List ℕ) → position p xs ≡ None → slice_split p xs ≡ xs ∷ []
parts-none p xs h =
    let past = not_chosen (nat_lt (position_or_len p xs) (length xs)) (position_or_len p xs) h in
    uncut p xs (grind (arith, nat_tests, past))

only_onto : (word : List ℕ) (b : ℕ) (parts : List (List ℕ)) → only (word ∷ onto_first b parts) ≡ None
only_onto word b [] = refl
only_onto word b (part ∷ parts) = refl

-- a word with more behind it is not the only one
pub only-more : (word line : List ℕ) → only (word ∷ words line) ≡ None
only-more word [] = refl
only-more word (b ∷ bs) =
    elim (is_space b) as (λ v. only (word ∷ cond v ([] ∷ words bs) (onto_first b (words bs))) ≡ None) [ true ↦ refl | false ↦ only_onto word b (words bs) ]
