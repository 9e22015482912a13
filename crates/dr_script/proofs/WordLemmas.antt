-- A line is cut at its gaps.
use Rattle.std.proofs.Common.{ℕ, suc, ◌≡◌, ◌<◌, ◌≤◌, ◌+◌, ◌-◌, List, [], ◌∷◌, take, drop, length, refl, ap, ◌∙◌, sym, arith, true, false, not, cond, get_or}
use Rattle.std.proofs.lemmas.Grind.{common_steps}
use Rattle.std.proofs.lemmas.List.Sums.{passes_at_first}
use Rattle.std.proofs.lemmas.List.Splits.{slice_split-cons_yes, slice_split-cons_no}
use Rattle.std.specs.List.{position_or_len, slice_split, onto_first}
use Rattle.std.proofs.lemmas.Bool.{not-true}
use Rattle.dr_model.specs.LineWords.{Word, is_gap, words_from, words_behind}
use Rattle.dr_script.specs.Pieces.{is_ink}

moved : (c n : ℕ) (pieces : List (List ℕ)) → c ≡ n → words_from c pieces ≡ words_from n pieces
moved c n pieces e = ap (λ m. words_from m pieces) e

-- gaps at the front give no words
pub skip : (xs : List ℕ) (c : ℕ) → words_from c (slice_split is_gap xs) ≡ words_from (c + position_or_len is_ink xs) (slice_split is_gap (drop (position_or_len is_ink xs) xs))
unfolding words_from
skip [] c = refl
skip (x ∷ xs) c =
    let n = position_or_len is_ink xs in
    let next : 1 + n ≡ suc n = omega arith in
    elim (is_gap x) as (λ b. is_gap x ≡ b → words_from c (cond b ([] ∷ slice_split is_gap xs) (onto_first x (slice_split is_gap xs)))
    ≡ words_from (c + cond (not (not b)) (1 + position_or_len is_ink xs) 0) (slice_split is_gap (drop (cond (not (not b)) (1 + position_or_len is_ink xs) 0) (x ∷ xs)))) [
      | true ↦ λ e. skip xs (c + 1) ∙ moved (c + 1 + n) (c + (1 + n)) (slice_split is_gap (drop n xs)) (omega arith)
          ∙ ap (λ k. words_from (c + (1 + n)) (slice_split is_gap (drop k (x ∷ xs)))) (sym next)
      | false ↦ λ e. moved c (c + 0) (onto_first x (slice_split is_gap xs)) (omega arith) ∙ ap (words_from (c + 0)) (sym (slice_split-cons_no is_gap x xs e))
    ] refl

word : ℕ → List ℕ → Word
word c bs = record { column = c; bytes = bs }

first_bytes : List Word → List ℕ
first_bytes [] = []
first_bytes (w ∷ ws) = w.bytes

head_is : (c b : ℕ) (bs cs : List ℕ) (xs ys : List Word) → word c bs ∷ xs ≡ word c cs ∷ ys → (bs ≡ cs) × (xs ≡ ys)
unfolding word first_bytes
head_is c b bs cs xs ys e = (ap first_bytes e, (cc))

-- a byte more before the first piece
longer : (c x : ℕ) (pieces : List (List ℕ)) (bs : List ℕ) (ws : List Word) → words_from (c + 1) (onto_first x pieces) ≡ word (c + 1) bs ∷ ws → (b : ℕ) → words_from c (onto_first b (onto_first x pieces)) ≡ word c (b ∷ bs) ∷ ws
unfolding words_from word
longer c x [] bs ws e b =
    let parts = head_is (c + 1) b (x ∷ []) bs [] ws e in
    (λ i. word c (b ∷ parts.0 i) ∷ parts.1 i)
longer c x (p ∷ ps) bs ws e b =
    let parts = head_is (c + 1) b (x ∷ p) bs (words_from (c + 1 + length p + 2) ps) ws e in
    (λ i. word c (b ∷ parts.0 i) ∷ (moved (c + suc (length p) + 2) (c + 1 + length p + 2) ps (omega arith) ∙ parts.1) i)

-- the first piece is the first word
pub first_word : (bs : List ℕ) (c b : ℕ) → words_from c (onto_first b (slice_split is_gap bs))
    ≡ record { column = c; bytes = b ∷ take (position_or_len is_gap bs) bs } ∷ words_from (c + 1 + position_or_len is_gap bs) (slice_split is_gap (drop (position_or_len is_gap bs) bs))
unfolding words_from word
first_word [] c b = refl
first_word (x ∷ xs) c b =
    let n = position_or_len is_gap xs in
    let next : 1 + n ≡ suc n = omega arith in
    elim (is_gap x) as (λ v. is_gap x ≡ v → words_from c (onto_first b (cond v ([] ∷ slice_split is_gap xs) (onto_first x (slice_split is_gap xs))))
    ≡ word c (b ∷ take (cond (not v) (1 + n) 0) (x ∷ xs)) ∷ words_from (c + 1 + cond (not v) (1 + n) 0) (slice_split is_gap (drop (cond (not v) (1 + n) 0) (x ∷ xs)))) [
      | true ↦ λ e. ap (λ ws. word c (b ∷ []) ∷ ws) (moved (c + 0 + 2) (c + 1 + 0 + 1) (slice_split is_gap xs) (omega arith) ∙ ap (words_from (c + 1 + 0)) (sym (slice_split-cons_yes is_gap x xs e)))
      | false ↦ λ e. longer c x (slice_split is_gap xs) (x ∷ take n xs) (words_from (c + 1 + 1 + n) (slice_split is_gap (drop n xs))) (first_word xs (c + 1) x) b
          ∙ ap (λ ws. word c (b ∷ x ∷ take n xs) ∷ ws) (moved (c + 1 + 1 + n) (c + 1 + (1 + n)) (slice_split is_gap (drop n xs)) (omega arith))
          ∙ ap (λ k. word c (b ∷ take k (x ∷ xs)) ∷ words_from (c + 1 + (1 + n)) (slice_split is_gap (drop k (x ∷ xs)))) (sym next)
    ] refl

pub nonempty : (xs : List ℕ) (c : ℕ) → 0 < length xs → is_gap (get_or xs 0 0) ≡ false
    → (0 < position_or_len is_gap xs) × (words_from c (slice_split is_gap xs) ≡ record { column = c; bytes = take (position_or_len is_gap xs) xs } ∷ words_from (c + position_or_len is_gap xs) (slice_split is_gap (drop (position_or_len is_gap xs) xs)))
unfolding word
nonempty [] c lt e = absurd (omega arith)
nonempty (b ∷ bs) c lt e =
    let n = position_or_len is_gap bs in
    let len : position_or_len is_gap (b ∷ bs) ≡ 1 + n = (let e' : is_gap b ≡ false = e in ap (λ v. cond (not v) (1 + n) 0) e') in
    let len' : position_or_len is_gap (b ∷ bs) ≡ suc n = len ∙ (let s : 1 + n ≡ suc n = omega arith in s) in (
      (omega (arith, len)),
      ap (words_from c) (slice_split-cons_no is_gap b bs e) ∙ first_word bs c b
          ∙ ap (λ ws. word c (b ∷ take n bs) ∷ ws) (moved (c + 1 + n) (c + suc n) (slice_split is_gap (drop n bs)) (omega arith))
          ∙ ap (λ k. word c (take k (b ∷ bs)) ∷ words_from (c + k) (slice_split is_gap (drop k (b ∷ bs)))) (sym len'),
    )

none_here : (c : ℕ) → words_from c (slice_split is_gap []) ≡ []
unfolding words_from
none_here c = refl

-- what is found behind a place, where a word stands there
pub record Found (line : List ℕ) (start end : ℕ) (words : List Word) : Type 0 where
  pub some : start < end
  pub within : end ≤ length line
  pub word : words ≡ record { column = start + 1; bytes = take (end - start) (drop start line) } ∷ words_behind end line

skipped : (line : List ℕ) (at gap : ℕ) → gap ≡ position_or_len is_ink (drop at line) → words_behind at line ≡ words_behind (at + gap) line
unfolding words_behind
skipped line at gap e =
    skip (drop at line) (at + 1)
    ∙ ap (λ n. words_from (at + 1 + n) (slice_split is_gap (drop n (drop at line)))) (sym e)
    ∙ moved (at + 1 + gap) (at + gap + 1) (slice_split is_gap (drop gap (drop at line))) (omega arith)
    ∙ ap (λ xs. words_from (at + gap + 1) (slice_split is_gap xs)) (let d : drop gap (drop at line) ≡ drop (at + gap) line = grind (arith, common_steps) in d)

nothing_behind : (line : List ℕ) (at : ℕ) → length line ≤ at → words_behind at line ≡ []
unfolding words_behind
nothing_behind line at le = ap (λ xs. words_from (at + 1) (slice_split is_gap xs)) (let d : drop at line ≡ [] = grind (arith, common_steps) in d) ∙ none_here (at + 1)

skipped_to : (line : List ℕ) (at start : ℕ) → start ≡ at + position_or_len is_ink (drop at line) → words_behind at line ≡ words_behind start line
skipped_to line at start e = skipped line at (position_or_len is_ink (drop at line)) refl ∙ ap (λ n. words_behind n line) (sym e)

pub none_found : (line : List ℕ) (at start : ℕ) → start ≡ at + position_or_len is_ink (drop at line) → start ≡ length line → words_behind at line ≡ []
none_found line at start e all = skipped_to line at start e ∙ nothing_behind line start (omega arith)

word_behind : (line : List ℕ) (start len : ℕ) → start < length line → is_gap (get_or line start 0) ≡ false → len ≡ position_or_len is_gap (drop start line)
    → (0 < len) × (words_behind start line ≡ record { column = start + 1; bytes = take len (drop start line) } ∷ words_behind (start + len) line)
unfolding words_behind word
word_behind line start len lt ink e =
    let first : is_gap (get_or (drop start line) 0 0) ≡ false = (let d : get_or (drop start line) 0 0 ≡ get_or line start 0 = grind (arith, common_steps) in ap is_gap d ∙ ink) in
    let n = nonempty (drop start line) (start + 1) (let d : length (drop start line) ≡ length line - start = grind (arith, common_steps) in omega arith) first in (
      (rw e n.0),
      n.1 ∙ ap (λ k. word (start + 1) (take k (drop start line)) ∷ words_from (start + 1 + k) (slice_split is_gap (drop k (drop start line)))) (sym e)
          ∙ ap (λ ws. word (start + 1) (take len (drop start line)) ∷ ws) (moved (start + 1 + len) (start + len + 1) (slice_split is_gap (drop len (drop start line))) (omega arith)
          ∙ ap (λ xs. words_from (start + len + 1) (slice_split is_gap xs)) (let d : drop len (drop start line) ≡ drop (start + len) line = grind (arith, common_steps) in d)),
    )

pub found : (line : List ℕ) (at start end : ℕ) → at ≤ length line → start ≡ at + position_or_len is_ink (drop at line) → start ≤ length line → (start ≡ length line → ⊥)
    → end ≡ start + position_or_len is_gap (drop start line) → end ≤ length line → Found line start end (words_behind at line)
found line at start end le e short some f within =
    let lt : start < length line = omega arith in
    let size : length (drop at line) ≡ length line - at = grind (arith, common_steps) in
    let ink : is_ink (get_or (drop at line) (position_or_len is_ink (drop at line)) 0) ≡ true = passes_at_first is_ink (drop at line) 0 (omega arith) in
    let there : get_or (drop at line) (position_or_len is_ink (drop at line)) 0 ≡ get_or line (at + position_or_len is_ink (drop at line)) 0 = grind (arith, common_steps) in
    let no : is_gap (get_or line start 0) ≡ false = not-true (is_gap (get_or line start 0)) (ap is_ink (ap (λ n. get_or line n 0) e ∙ sym there) ∙ ink) in
    let w = word_behind line start (position_or_len is_gap (drop start line)) lt no refl in
    let long = w.0 in
    let d : position_or_len is_gap (drop start line) ≡ end - start = omega arith in
    record {
      some = omega arith;
      within = within;
      word = skipped_to line at start e ∙ w.1 ∙ (λ i. record { column = start + 1; bytes = take (d i) (drop start line) } ∷ words_behind (sym f i) line);
    }
