-- A text that comes in pieces.
use Rattle.std.proofs.Common.{ℕ, suc, ◌≡◌, ◌+◌, List, [], ◌∷◌, ◌++◌, length, take, drop, drop-cons, add-one, get_or, take-append-drop, refl, ap, ◌∙◌, sym, subst, arith, Bool, true, false, not, cond, nat_lt, Some, None, Option, append_assoc, append-nil}
use Rattle.std.specs.Prelude.{All, Err}
use Rattle.std.specs.List.{position, position_or_len, slice_split, onto_first}
use Rattle.std.proofs.lemmas.Bool.Decides.{nat_tests}
use Rattle.std.proofs.lemmas.List.Elements.{All-nil, All-cons, All-append}
use Rattle.std.proofs.lemmas.List.Quantifiers.{position-Some}
use Rattle.std.proofs.lemmas.List.Splits.{slice_split_at, slice_split_none}
use Rattle.std.proofs.lemmas.List.{take_all, nil_from_length}
use Rattle.dr_model.specs.PlantImage.{Volume, Stage, Ended, Bad, State, has_source, sourced, checked, is_line_feed, by_stage, or_bad, step, reads, reading, begin, finished}
use Rattle.dr_image.specs.Reader.{reads_on}
use Rattle.dr_logic.proofs.Choices.{not_chosen, chosen}

abbrev pub NoLineFeed : List ℕ → Type 0
NoLineFeed bs = All (λ b. is_line_feed b ≡ false) bs

-- a list that is cut has a first part
split_first : (p : ℕ → Bool) (xs : List ℕ) → (a : List ℕ) × (rest : List (List ℕ)) × (slice_split p xs ≡ a ∷ rest)
split_first p [] = ([], [], refl)
split_first p (x ∷ xs) =
    let s = split_first p xs in
    elim (p x) as (λ v. (a : List ℕ) × (rest : List (List ℕ)) × (cond v ([] ∷ slice_split p xs) (onto_first x (slice_split p xs)) ≡ a ∷ rest)) [
      | true ↦ ([], slice_split p xs, refl)
      | false ↦ (x ∷ s.0, s.1, ap (onto_first x) s.2)
    ]

-- a line with more behind it
pub reads-line : (s : State) (line text : List ℕ) → reads s (line ∷ slice_split is_line_feed text) ≡ reads (step s line) (slice_split is_line_feed text)
unfolding reads
reads-line s line text = let f = split_first is_line_feed text in ap (λ ps. reads s (line ∷ ps)) f.2 ∙ sym (ap (reads (step s line)) f.2)

front_none : (p : ℕ → Bool) (xs : List ℕ) → All (λ x. p x ≡ false) (take (position_or_len p xs) xs)
front_none p [] = All-nil (λ x. p x ≡ false)
front_none p (x ∷ xs) =
    elim (p x) as (λ v. p x ≡ v → All (λ y. p y ≡ false) (take (cond (not v) (1 + position_or_len p xs) 0) (x ∷ xs))) [
      | true ↦ λ e. All-nil (λ y. p y ≡ false)
      | false ↦ λ e.
          let n : ℕ = position_or_len p xs in
          let one : 1 + n ≡ suc n = omega arith in
          subst (λ (k : ℕ). All (λ y. p y ≡ false) (take k (x ∷ xs))) (sym one) (All-cons (λ y. p y ≡ false) x (take n xs) e (front_none p xs))
    ] refl

-- what stands before the first line feed has none
pub before_feed : (rest : List ℕ) (end : ℕ) → position is_line_feed rest ≡ Some end → NoLineFeed (take end rest)
before_feed rest end e =
    let n : ℕ = position_or_len is_line_feed rest in
    let is = chosen (nat_lt n (length rest)) n end e in
    subst (λ (k : ℕ). NoLineFeed (take k rest)) is.1 (front_none is_line_feed rest)

pub without_feed : (rest : List ℕ) → position is_line_feed rest ≡ None → NoLineFeed rest
without_feed rest e =
    let n : ℕ = position_or_len is_line_feed rest in
    let past = not_chosen (nat_lt n (length rest)) n e in
    subst NoLineFeed ((take_all n rest (grind (arith, nat_tests, past)))) (front_none is_line_feed rest)

feed_is : (b : ℕ) → is_line_feed b ≡ true → b ≡ 10
feed_is b e = grind (arith, nat_tests)

-- a text up to its first line feed, and behind it
cut_at : (rest : List ℕ) (end : ℕ) → position is_line_feed rest ≡ Some end → rest ≡ take end rest ++ 10 ∷ drop (end + 1) rest
cut_at rest end e =
    let at = position-Some is_line_feed rest end 0 e in
    sym (take-append-drop end rest) ∙ ap (λ t. take end rest ++ t)
    (drop-cons rest end 0 at.0 ∙ ap (λ b. b ∷ drop (suc end) rest) (feed_is (get_or rest end 0) at.1) ∙ ap (λ n. 10 ∷ drop n rest) (sym (add-one end)))

-- one line more is taken
pub line-turn : (s : State) (partial rest later : List ℕ) (end : ℕ) → NoLineFeed partial → position is_line_feed rest ≡ Some end
    → reads_on (step s (partial ++ take end rest)) [] (drop (end + 1) rest ++ later) ≡ reads_on s partial (rest ++ later)
unfolding reads_on
line-turn s partial rest later end plain e =
    let line : List ℕ = partial ++ take end rest in
    let text : List ℕ = drop (end + 1) rest ++ later in
    let whole : partial ++ (rest ++ later) ≡ line ++ 10 ∷ text =
    ap (λ r. partial ++ (r ++ later)) (cut_at rest end e) ∙ ap (λ r. partial ++ r) (append_assoc (take end rest) (10 ∷ drop (end + 1) rest) later) ∙ sym (append_assoc partial (take end rest) (10 ∷ text)) in
    sym (ap (λ t. reads s (slice_split is_line_feed t)) whole
    ∙ ap (reads s) (slice_split_at is_line_feed line 10 text (All-append (λ b. is_line_feed b ≡ false) partial (take end rest) plain (before_feed rest end e)) refl)
    ∙ reads-line s line text)

-- what is kept of an unfinished line
pub keep-turn : (s : State) (partial rest later : List ℕ) → reads_on s (partial ++ rest) later ≡ reads_on s partial (rest ++ later)
unfolding reads_on
keep-turn s partial rest later = ap (λ t. reads s (slice_split is_line_feed t)) (append_assoc partial rest later)

-- the end of the text
pub reads-end : (s : State) (partial : List ℕ) → NoLineFeed partial → reads_on s partial [] ≡ finished s s.stage partial
unfolding reads_on reads
reads-end s partial plain = ap (λ t. reads s (slice_split is_line_feed t)) (append-nil partial) ∙ ap (reads s) (slice_split_none is_line_feed partial plain)

pub reads-begin : (rest : List ℕ) → reads_on begin [] rest ≡ reading rest
unfolding reads_on reading
reads-begin rest = refl

-- once bad, a text stays bad at that line
pub reads-bad : (s : State) (parts : List (List ℕ)) → s.stage ≡ Bad → reads s parts ≡ Err s.line
unfolding reads step
reads-bad s [] bad = refl
reads-bad s (last ∷ []) bad = ap (λ g. finished s g last) bad
reads-bad s (line ∷ next ∷ more) bad =
    ap (λ g. reads (or_bad s (by_stage g s line)) (next ∷ more)) bad ∙ reads-bad (record s { stage = Bad }) (next ∷ more) refl

-- so nil_from_length of it need be kept
pub skip-turn : (s : State) (partial rest later : List ℕ) → s.stage ≡ Bad → reads_on s partial later ≡ reads_on s partial (rest ++ later)
unfolding reads_on
skip-turn s partial rest later bad = reads-bad s (slice_split is_line_feed (partial ++ later)) bad ∙ sym (reads-bad s (slice_split is_line_feed (partial ++ (rest ++ later))) bad)

-- the place of the first volume without its source
abbrev pub unsourced : List Volume → Option ℕ
unsourced vs = position (λ v. not (has_source vs v)) vs

-- a text that ends as it should, judged by its sources
pub finished-is : (s : State) (stage : Stage) (partial : List ℕ) (seen : Option ℕ) → stage ≡ Ended → length partial ≡ 0 → unsourced s.volumes ≡ seen → finished s stage partial ≡ sourced s.volumes seen
unfolding checked
finished-is s stage partial seen ends empty is =
    ap (λ g. finished s g partial) ends ∙ ap (finished s Ended) (nil_from_length partial empty) ∙ ap (sourced s.volumes) is
