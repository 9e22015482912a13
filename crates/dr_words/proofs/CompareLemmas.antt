-- What clap makes of words that have the form of a comparison.
use Rattle.std.proofs.Common.{◌≡◌, ◌&&◌, Bool, true, false, not, List, [], ◌∷◌, length, map, Option, None, nat_le, ◌≤◌, codes, refl, sym, ap, subst, arith}
use Rattle.std.specs.Prelude.{String, string_bytes}
use Rattle.std.specs.Str.{bytes_eq}
use Rattle.std.specs.declared.alloc.Global.{Global}
use Rattle.std.proofs.lemmas.Bool.{and_parts}
use Rattle.std.proofs.lemmas.Bool.Decides.{nat_tests}
use Rattle.clap.specs.Words.{Text, subcommand_of, takes}
use Rattle.clap.proofs.OnLiterals.{clap_on_literals}
use Rattle.dr_logic.proofs.Lists.{same_bytes}
use Rattle.dr_logic.proofs.Truth.{false_true}
use Rattle.dr_words.specs.Line.{is_option}
use Rattle.dr_words.specs.Compare.{Compared, are_names, comparison_of, has_form, met_comparison, names_said}
use Rattle.dr_words.specs.Sweep.{has_option}
use Rattle.dr_words.specs.SweepLine.{sweep_line}
use Rattle.dr_words.proofs.LineLemmas.{no_dashes, no_hyphen}
use Rattle.dr_words.proofs.SweepLemmas.{split}

-- Clap takes the words, and its matches say this comparison.
abbrev pub IsTakenAs : List Text → Option Compared → Type 0
IsTakenAs words comparison = (takes sweep_line words ≡ true) × (met_comparison (subcommand_of sweep_line words) ≡ comparison)

two_taken : (a b : Text) → is_option a ≡ false → is_option b ≡ false → IsTakenAs (codes "compare" ∷ a ∷ b ∷ []) (names_said (a ∷ b ∷ []))
unfolding clap_on_literals
two_taken a b pa pb = rw (no_hyphen a pa, no_dashes a pa, no_hyphen a pa, no_hyphen b pb, no_dashes b pb, no_hyphen b pb) (refl, refl)

three_taken : (a b c : Text) → is_option a ≡ false → is_option b ≡ false → is_option c ≡ false → IsTakenAs (codes "compare" ∷ a ∷ b ∷ c ∷ []) (names_said (a ∷ b ∷ c ∷ []))
unfolding clap_on_literals
three_taken a b c pa pb pc = rw (no_hyphen a pa, no_dashes a pa, no_hyphen a pa, no_hyphen b pb, no_dashes b pb, no_hyphen b pb, no_hyphen c pc, no_dashes c pc, no_hyphen c pc) (refl, refl)

names_taken : (words : List (String Global)) → has_option words ≡ false → 2 ≤ length words → length words ≤ 3 → IsTakenAs (codes "compare" ∷ map string_bytes words) (names_said (map string_bytes words))
names_taken [] none some few = absurd (omega (arith, some))
names_taken (a ∷ []) none some few = absurd (omega (arith, some))
names_taken (a ∷ b ∷ []) none some few =
    let p = split a (b ∷ []) none in let q = split b [] p.1 in
    two_taken (string_bytes a) (string_bytes b) p.0 q.0
names_taken (a ∷ b ∷ c ∷ []) none some few =
    let p = split a (b ∷ c ∷ []) none in let q = split b (c ∷ []) p.1 in let r = split c [] q.1 in
    three_taken (string_bytes a) (string_bytes b) (string_bytes c) p.0 q.0 r.0
names_taken (a ∷ b ∷ c ∷ d ∷ rest) none some few = absurd (omega (arith, few))

-- Fewer words than two, or more than three, name no files.
no_names : (words : List (String Global)) → (nat_le 2 (length words) && nat_le (length words) 3) ≡ false → names_said (map string_bytes words) ≡ None
no_names [] other = refl
no_names (a ∷ []) other = refl
no_names (a ∷ b ∷ []) other = false_true other refl
no_names (a ∷ b ∷ c ∷ []) other = false_true other refl
no_names (a ∷ b ∷ c ∷ d ∷ rest) other = refl

-- Clap takes words that have a comparison's form for the comparison that they name.
pub taken_as : (words : List (String Global)) → has_form words ≡ true → IsTakenAs (map string_bytes words) (comparison_of words)
taken_as [] form = false_true refl form
taken_as (name ∷ rest) form = go (has_option rest) refl (and_parts _ _ both.1)
  where
    both : (bytes_eq (string_bytes name) (codes "compare") ≡ true) × (are_names rest ≡ true)
    both = and_parts (bytes_eq (string_bytes name) (codes "compare")) (are_names rest) form

    go : (o : Bool) → has_option rest ≡ o → ((nat_le 2 (length rest) && nat_le (length rest) 3) ≡ true) × (not (has_option rest) ≡ true)
        → IsTakenAs (map string_bytes (name ∷ rest)) (comparison_of (name ∷ rest))
    go true hyphen counted = false_true (ap not hyphen) counted.1
    go false plain counted =
        let sized = and_parts (nat_le 2 (length rest)) (nat_le (length rest) 3) counted.0 in
        let some : 2 ≤ length rest = grind (arith, nat_tests, sized.0) in
        let few : length rest ≤ 3 = grind (arith, nat_tests, sized.1) in
        rw (both.0, plain)
        (subst (λ w. IsTakenAs (w ∷ map string_bytes rest) (names_said (map string_bytes rest))) (sym (same_bytes (string_bytes name) (codes "compare") both.0))
        (names_taken rest plain some few))

-- Words of another form name no comparison.
pub formless : (words : List (String Global)) → has_form words ≡ false → comparison_of words ≡ None
formless [] form = refl
formless (name ∷ rest) form = go (bytes_eq (string_bytes name) (codes "compare")) refl (has_option rest) refl form
  where
    plain_form : (b : Bool) → (b && not false) ≡ false → b ≡ false
    plain_form true h = false_true h refl
    plain_form false h = refl

    go : (s : Bool) → bytes_eq (string_bytes name) (codes "compare") ≡ s → (o : Bool) → has_option rest ≡ o
        → (s && ((nat_le 2 (length rest) && nat_le (length rest) 3) && not o)) ≡ false → comparison_of (name ∷ rest) ≡ None
    go false compare o is form = rw compare refl
    go true compare true hyphen form = rw (compare, hyphen) refl
    go true compare false plain form = rw (compare, plain) (no_names rest (plain_form _ form))
