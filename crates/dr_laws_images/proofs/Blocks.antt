-- A device by its kept blocks: it reads as the device itself, in its record and in its tracks.
use Rattle.std.proofs.Common.{ℕ, zero, suc, ◌≡◌, ◌≢◌, ◌<◌, ◌≤◌, ◌+◌, List, [], ◌∷◌, ◌++◌, length, refl, ap, ◌∙◌, sym, arith, Bool, true, false, cond, nat_eq, nat_lt}
use Rattle.std.specs.Prelude.{All, replicate}
use Rattle.std.specs.List.{slice_index_or}
use Rattle.std.specs.FinSet.{contains}
use Rattle.std.proofs.lemmas.Bool.{and_parts, eqb-true, eq-eqb, false_from_ne_true}
use Rattle.std.proofs.lemmas.Bool.Decides.{nat_tests}
use Rattle.std.proofs.lemmas.List.Elements.{All-nil, All-cons, All-append, All-weaker}
use Rattle.dr_logic.specs.Bytes.{zeros}
use Rattle.dr_ids.specs.Sizes.{blocks_of, track_block}
use Rattle.dr_model.specs.Text.{trimmed}
use Rattle.dr_model.specs.Layout.{Blocks, Fields, fields, fields_of, staged, staged_of, chosen, slot_chosen, slot_begin, physical, is_staged}
use Rattle.dr_model.specs.PlantImage.{Kept, block_in}
use Rattle.dr_model.specs.Listed.{kept_if, kept_blocks}
use Rattle.dr_image.specs.Shown.{is_zero}
use Rattle.dr_image.proofs.SoundLemmas.{zero-trimmed}

-- ---- blocks by number

in-front : (bs cs : List Kept) (k : ℕ) → All (λ c. c.index ≢ k) cs → block_in (bs ++ cs) k ≡ block_in bs k
in-front [] [] k other = refl
in-front [] (c ∷ cs) k other = ap (λ x. cond x c.bytes (block_in cs k)) (false_from_ne_true _ (λ e. other zero c (omega arith) (eqb-true c.index k e))) ∙ in-front [] cs k (λ i d w. other (suc i) d (omega arith))
in-front (b ∷ bs) cs k other = ap (λ x. cond (nat_eq b.index k) b.bytes x) (in-front bs cs k other)

behind : (bs cs : List Kept) (k : ℕ) → All (λ b. b.index ≢ k) bs → block_in (bs ++ cs) k ≡ block_in cs k
behind [] cs k other = refl
behind (b ∷ bs) cs k other = ap (λ x. cond x b.bytes (block_in (bs ++ cs) k)) (false_from_ne_true _ (λ e. other zero b (omega arith) (eqb-true b.index k e))) ∙ behind bs cs k (λ i d w. other (suc i) d (omega arith))

-- a block of which no byte is left is all zero
all-zero : (bs : List ℕ) → is_zero bs ≡ true → bs ≡ replicate (length bs) 0
all-zero [] e = refl
all-zero (b ∷ bs) e = let p = and_parts (nat_eq b 0) (is_zero bs) e in λ i. eqb-true b 0 p.0 i ∷ all-zero bs p.1 i

zero-block : (bs : List ℕ) → length bs ≡ 64 → trimmed bs ≡ [] → zeros ≡ bs
unfolding zeros
zero-block bs whole e = sym (all-zero bs (zero-trimmed bs e) ∙ ap (λ n. replicate n 0) whole)

kept-here : (k : ℕ) (bytes rest : List ℕ) → length bytes ≡ 64 → trimmed bytes ≡ rest → block_in (kept_if k bytes rest) k ≡ bytes
kept-here k bytes [] whole is = zero-block bytes whole is
kept-here k bytes (b ∷ bs) whole is = ap (λ x. cond x bytes zeros) (eq-eqb k k refl)

kept-low : (n : ℕ) (blocks : Blocks) → All (λ b. b.index < n) (kept_blocks n blocks)
kept-low zero blocks = All-nil (λ (b : Kept). b.index < zero)
kept-low (suc n) blocks = All-append (λ (b : Kept). b.index < suc n) (kept_blocks n blocks) _ (All-weaker (λ (b : Kept). b.index < n) (λ (b : Kept). b.index < suc n) (λ b lt. omega arith) (kept_blocks n blocks) (kept-low n blocks)) (one (trimmed (blocks n)))
  where
    one : (rest : List ℕ) → All (λ b. b.index < suc n) (kept_if n (blocks n) rest)
    one [] = All-nil (λ (b : Kept). b.index < suc n)
    one (c ∷ cs) = All-cons (λ (b : Kept). b.index < suc n) _ [] (omega arith) (All-nil (λ (b : Kept). b.index < suc n))

kept-one : (n : ℕ) (bytes rest : List ℕ) (k : ℕ) → k < n → All (λ b. b.index ≢ k) (kept_if n bytes rest)
kept-one n bytes [] k lt = All-nil (λ (b : Kept). b.index ≢ k)
kept-one n bytes (c ∷ cs) k lt = All-cons (λ (b : Kept). b.index ≢ k) _ [] (λ e. omega arith) (All-nil (λ (b : Kept). b.index ≢ k))

-- what is kept of so many blocks of 64 bytes reads as these blocks
pub kept-reads : (n : ℕ) (blocks : Blocks) → ((k : ℕ) → k < n → length (blocks k) ≡ 64) → (k : ℕ) → k < n → block_in (kept_blocks n blocks) k ≡ blocks k
kept-reads zero blocks whole k lt = absurd (omega arith)
kept-reads (suc n) blocks whole k lt = by (nat_lt k n) refl (kept-reads n blocks (λ j less. whole j (omega arith)) k)
  where
    by : (b : Bool) → nat_lt k n ≡ b → (k < n → block_in (kept_blocks n blocks) k ≡ blocks k) → block_in (kept_blocks n blocks ++ kept_if n (blocks n) (trimmed (blocks n))) k ≡ blocks k
    by true e rest =
        let low : k < n = grind (arith, nat_tests, e) in
        in-front (kept_blocks n blocks) _ k (kept-one n (blocks n) (trimmed (blocks n)) k low) ∙ rest low
    by false e rest =
        let last : n ≡ k = (let high : n ≤ k = grind (arith, nat_tests, e) in omega arith) in
        behind (kept_blocks n blocks) _ k (All-weaker (λ (b : Kept). b.index < n) (λ (b : Kept). b.index ≢ k) (λ b less e. omega arith) (kept_blocks n blocks) (kept-low n blocks))
        ∙ (ap (λ j. block_in (kept_if n (blocks n) (trimmed (blocks n))) j) (sym last) ∙ (kept-here n (blocks n) (trimmed (blocks n)) (whole n (omega arith)) refl ∙ ap blocks last))

-- ---- devices that are the same in their first blocks

-- six blocks, by number
abbrev pick : List (List ℕ) → Blocks
pick bs k = slice_index_or bs k []

abbrev six : Blocks → List (List ℕ)
six x = x 0 ∷ x 1 ∷ x 2 ∷ x 3 ∷ x 4 ∷ x 5 ∷ []

fields-six : (n : ℕ) (x : Blocks) → fields_of n x ≡ fields_of n (pick (six x))
unfolding fields_of
fields-six n x = refl

staged-six : (n : ℕ) (x : Blocks) → staged_of n x ≡ staged_of n (pick (six x))
unfolding staged_of
staged-six n x = refl

-- they say the same, and each of their tracks is the same
module _ (n : ℕ) (x y : Blocks) (same : (k : ℕ) → k < blocks_of n → x k ≡ y k) where
  pub slot-same : slot_chosen x ≡ slot_chosen y
  slot-same = ap (λ (b : List ℕ). slot_chosen (λ k. b)) (same 0 (omega arith))

  begin-low : (b : Bool) (k : ℕ) → k < 6 → slot_begin b + k < blocks_of n
  begin-low true k lt = omega arith
  begin-low false k lt = omega arith

  chosen-same : (k : ℕ) → k < 6 → chosen x k ≡ chosen y k
  chosen-same k lt = same (slot_begin (slot_chosen x) + k) (begin-low (slot_chosen x) k lt) ∙ ap (λ b. y (slot_begin b + k)) slot-same

  slots-same : six (chosen x) ≡ six (chosen y)
  slots-same = λ i. chosen-same 0 (omega arith) i ∷ chosen-same 1 (omega arith) i ∷ chosen-same 2 (omega arith) i ∷ chosen-same 3 (omega arith) i ∷ chosen-same 4 (omega arith) i ∷ chosen-same 5 (omega arith) i ∷ []

  pub fields-same : fields n x ≡ fields n y
  fields-same = fields-six n (chosen x) ∙ (ap (λ bs. fields_of n (pick bs)) slots-same ∙ sym (fields-six n (chosen y)))

  pub staged-same : staged n x ≡ staged n y
  staged-same = staged-six n (chosen x) ∙ (ap (λ bs. staged_of n (pick bs)) slots-same ∙ sym (staged-six n (chosen y)))

  pub track-same : (t : ℕ) → t < n → physical n x t ≡ physical n y t
  unfolding physical
  track-same t lt = λ i. cond (is_staged (staged-same i) t) (chosen-same 5 (omega arith) i) (cond (contains (let f : Fields = fields-same i in f.blank) t) zeros (same (track_block t) (omega arith) i))
