-- A word that begins with a hyphen spells no value.
use Rattle.std.proofs.Common.{◌≡◌, ◌&&◌, ◌==◌, ◌-◌, ◌^◌, ℕ, Bool, cond, true, false, [], ◌∷◌, length, Option, None, nat_le, refl, sym, ap, subst, eqb-true}
use Rattle.std.specs.Option.{option_map}
use Rattle.clap.specs.Words.{Text}
use Rattle.dr_logic.proofs.Truth.{false_true}
use Rattle.dr_ids.specs.Spelling.{all_digits, but_zero, hex_word, number_word, session_word, spelled, up_to}
use Rattle.dr_ids.specs.declared.names.SessionId.{SessionId}
use Rattle.dr_words.specs.Line.{is_option}

hyphen_hex : (rest : Text) → spelled 16 (45 ∷ rest) ≡ None
unfolding all_digits
hyphen_hex rest = refl

hyphen_decimal : (rest : Text) → spelled 10 (45 ∷ rest) ≡ None
unfolding all_digits
hyphen_decimal rest = refl

either_none : {A : Type 0} (b : Bool) (x : Option A) → x ≡ None → cond b x None ≡ None
either_none true x none = none
either_none false x none = refl

abbrev session_from : Option ℕ → Option SessionId
session_from number = option_map (λ n. record { 0 = n }) (but_zero number)

pub hyphen_session : (word : Text) → is_option word ≡ true → session_word word ≡ None
hyphen_session [] hyphen = false_true refl hyphen
hyphen_session (first ∷ rest) hyphen =
    let none : hex_word 2 (45 ∷ rest) ≡ None = either_none (length (45 ∷ rest) == 2) (spelled 16 (45 ∷ rest)) (hyphen_hex rest) in
    subst (λ n. session_word (n ∷ rest) ≡ None) (sym (eqb-true first 45 hyphen)) (ap session_from none)

pub hyphen_number : (word : Text) → is_option word ≡ true → number_word (2 ^ 32 - 1) word ≡ None
hyphen_number [] hyphen = false_true refl hyphen
hyphen_number (first ∷ rest) hyphen =
    subst (λ n. number_word (2 ^ 32 - 1) (n ∷ rest) ≡ None) (sym (eqb-true first 45 hyphen))
    (either_none (nat_le 1 (length (45 ∷ rest)) && nat_le (length (45 ∷ rest)) 10) (up_to (2 ^ 32 - 1) (spelled 10 (45 ∷ rest))) (ap (up_to (2 ^ 32 - 1)) (hyphen_decimal rest)))
