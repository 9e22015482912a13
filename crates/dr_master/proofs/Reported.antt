-- Reports one after another.
use Rattle.std.proofs.Common.{◌≡◌, ℕ, zero, suc, ◌+◌, ◌≤◌, Bool, List, [], ◌∷◌, ◌++◌, length, take, refl, sym, ◌∙◌, ap, arith}
use Rattle.std.proofs.lemmas.List.{length-take, length-map}
use Rattle.std.proofs.lemmas.Slice.Zip.{length-zip}
use Rattle.std.proofs.lemmas.Slice.{take-put_mid}
use borrow.Rule.Slice.PartMut.{put_mid}
use Rattle.std.proofs.lemmas.Grind.{common_steps}
use Rattle.dr_model.specs.Decisions.{shown_by}

-- the first members are those that the first numbers and flags show
pub take-shown_by : (n : ℕ) (numbers : List ℕ) (flags : List Bool) → take n (shown_by numbers flags) ≡ shown_by (take n numbers) (take n flags)
take-shown_by zero numbers flags = refl
take-shown_by (suc n) [] flags = refl
take-shown_by (suc n) (m ∷ numbers) [] = refl
take-shown_by (suc n) (m ∷ numbers) (g ∷ flags) = ap (λ xs. (record { sequence = m; revertible = g }) ∷ xs) (take-shown_by n numbers flags)

shown_by-append : (ms ns : List ℕ) (fs gs : List Bool) → length ms ≡ length fs → shown_by (ms ++ ns) (fs ++ gs) ≡ shown_by ms fs ++ shown_by ns gs
shown_by-append [] ns [] gs equal = refl
shown_by-append [] ns (f ∷ fs) gs equal = absurd (omega arith)
shown_by-append (m ∷ ms) ns [] gs equal = absurd (omega arith)
shown_by-append (m ∷ ms) ns (f ∷ fs) gs equal = ap (λ xs. (record { sequence = m; revertible = f }) ∷ xs) (shown_by-append ms ns fs gs (omega arith))

-- two reports in one
pub joined : (ms ns os : List ℕ) (fs gs hs : List Bool) (a b : ℕ) → a ≤ length ms → a ≤ length fs → take (a + b) os ≡ take a ms ++ take b ns → take (a + b) hs ≡ take a fs ++ take b gs → take (a + b) (shown_by os hs) ≡ take a (shown_by ms fs) ++ take b (shown_by ns gs)
joined ms ns os fs gs hs a b low also numbers flags =
    let equal : length (take a ms) ≡ length (take a fs) = grind (arith, common_steps) in
    take-shown_by (a + b) os hs
    ∙ ((λ i. shown_by (numbers i) (flags i))
    ∙ (shown_by-append (take a ms) (take b ns) (take a fs) (take b gs) equal
    ∙ sym (λ i. take-shown_by a ms fs i ++ take-shown_by b ns gs i)))

-- a report speaks of as many members as it counts
pub length-shown : (count : ℕ) (numbers : List ℕ) (flags : List Bool) → count ≤ length numbers → count ≤ length flags → length (take count (shown_by numbers flags)) ≡ count
length-shown count numbers flags low also = grind (arith, common_steps, length-take, length-map, length-zip)

-- the first elements after others were laid behind a of them
pub laid : {X : Type 0} (a k n b : ℕ) (xs ys zs : List X) → a ≡ n → ys ≡ zs → length ys ≡ b → a ≤ length xs → take (n + b) (put_mid a k xs ys) ≡ take n xs ++ zs
laid a k n b xs ys zs at_n is long within = take-put_mid a k xs ys (n + b) (omega arith) within ∙ λ i. take (at_n i) xs ++ is i
