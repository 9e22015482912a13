-- What the readers of words need on digits.
use Rattle.std.proofs.Common.{◌≡◌, ℕ, ◌<◌, ◌≤◌, ◌+◌, ◌*◌, ◌^◌, List, [], ◌∷◌, length, take, true, false, get_or, arith, rules, Option, Some, None, if◌then◌else◌, Bool, refl, ◌==◌, ◌&&◌, nat_le, map, sym, ap, ◌∙◌}
use Rattle.std.proofs.Math.Nat.{pow-le-pow_left, pow-le-pow_right}
use Rattle.std.proofs.lemmas.Bool.Decides.{nat_tests}
use Rattle.std.proofs.lemmas.Grind.{common_steps}
use Rattle.std.proofs.lemmas.Int.Digits.{digits_value-lt, digits_value_more, digits_more}
use Rattle.std.proofs.lemmas.List.Folds.{list_all_at}
use Rattle.std.proofs.lemmas.List.FromFn.{get_or-map-range_with_len}
use Rattle.std.specs.Char.{digit_value, is_digit}
use Rattle.std.specs.List.{range_with_len}
use Rattle.std.specs.Str.Parse.{AllDigits, digits_value}
use Rattle.dr_ids.specs.Spelling.{all_digits, digit_in, hex_word, number_word, spelled, up_to, upper_digit}

-- A word that passes the test is all digits, and the other way round.
pub digits_each : (radix : ℕ) (word : List ℕ) → all_digits radix word ≡ true → AllDigits radix word
unfolding all_digits
digits_each radix [] h = tt
digits_each radix (c ∷ word) h = grind (arith, common_steps, digits_each radix word)

pub digits_all : (radix : ℕ) (word : List ℕ) → AllDigits radix word → all_digits radix word ≡ true
unfolding all_digits
digits_all radix [] h = search rules
digits_all radix (c ∷ word) h = grind (arith, common_steps, digits_all radix word h.1)

-- Ten digits at most, in a radix of 16 at most, spell a number of 64 bits.
pub digits_fit : (radix : ℕ) (word : List ℕ) → radix ≤ 16 → length word ≤ 10 → AllDigits radix word → digits_value radix word < 2 ^ 64
digits_fit radix word low short digits =
    let below : digits_value radix word < radix ^ length word = digits_value-lt radix word digits in
    let wide : radix ^ length word ≤ 16 ^ length word = pow-le-pow_left low (length word) in
    let long : 16 ^ length word ≤ 16 ^ 10 = pow-le-pow_right (omega arith) short in
    omega arith

-- One digit more still fits.
pub digit_fits : (radix : ℕ) (word : List ℕ) (i : ℕ) → radix ≤ 16 → length word ≤ 10 → i < length word → AllDigits radix (take i word) → digit_value (get_or word i 0) < radix → digits_value radix (take i word) * radix + digit_value (get_or word i 0) < 2 ^ 64
digit_fits radix word i low short within digits digit =
    let size : length (take (i + 1) word) ≤ 10 = grind (arith, common_steps) in
    let fits : digits_value radix (take (i + 1) word) < 2 ^ 64 = digits_fit radix (take (i + 1) word) low size (digits_more radix word i within digits digit) in
    rw (digits_value_more radix word i within) at fits

-- A word with a byte that is no digit spells nothing.
pub spelled_none : (radix : ℕ) (word : List ℕ) (i : ℕ) → i < length word → is_digit (get_or word i 0) radix ≡ false → spelled radix word ≡ None
unfolding all_digits
spelled_none radix word i within odd = rw (list_all_at (λ digit. is_digit digit radix) word i 0 within odd)

pub spelled_some : (radix : ℕ) (word : List ℕ) → AllDigits radix word → spelled radix word ≡ Some (digits_value radix word)
spelled_some radix word digits = rw (digits_all radix word digits)

-- A byte that has no value in the radix is no digit; the value of one that has is below the radix.
pub no_digit : (radix c : ℕ) → None ≡ digit_in radix c → is_digit c radix ≡ false
no_digit radix c none = grind (arith, common_steps, none)

pub digit_below : (radix c value : ℕ) → Some value ≡ digit_in radix c → digit_value c < radix
digit_below radix c value is = grind (arith, common_steps, is)

pub digit_is : (radix c value : ℕ) → Some value ≡ digit_in radix c → value ≡ digit_value c
digit_is radix c value is = grind (arith, common_steps, is)

-- A choice between a value and none that gives a value passed its test.
chosen : (test : Bool) (x : Option ℕ) (n : ℕ) → (if test then x else None) ≡ Some n → (test ≡ true) × (x ≡ Some n)
chosen true x n is = (refl, is)
chosen false x n is = absurd (cc)

-- What a word spells is below the radix to the power of its length.
pub spelled_below : (radix : ℕ) (word : List ℕ) (n : ℕ) → spelled radix word ≡ Some n → n < radix ^ length word
spelled_below radix word n is =
    let parts = chosen (all_digits radix word) (Some (digits_value radix word)) n is in
    let number : n ≡ digits_value radix word = cc in
    rw number (digits_value-lt radix word (digits_each radix word parts.0))

-- What a word of so many hexadecimal digits spells is below 16 to that power.
pub hex_word_below : (digits : ℕ) (word : List ℕ) (n : ℕ) → hex_word digits word ≡ Some n → n < 16 ^ digits
hex_word_below digits word n is =
    let parts = chosen (length word == digits) (spelled 16 word) n is in
    let size : length word ≡ digits = grind (arith, nat_tests, parts.0) in
    rw (← size) (spelled_below 16 word n parts.1)

pub at_most_up_to : (most : ℕ) (o : Option ℕ) (n : ℕ) → up_to most o ≡ Some n → n ≤ most
at_most_up_to most None n is = absurd (cc)
at_most_up_to most (Some m) n is =
    let parts = chosen (nat_le m most) (Some m) n is in
    let same : m ≡ n = cc in
    grind (arith, nat_tests, parts.0)

-- What a word spells as a number is at most what is allowed.
pub number_word_at_most : (most : ℕ) (word : List ℕ) (n : ℕ) → number_word most word ≡ Some n → n ≤ most
number_word_at_most most word n is =
    at_most_up_to most (spelled 10 word) n (chosen (nat_le 1 (length word) && nat_le (length word) 10) (up_to most (spelled 10 word)) n is).1

-- The digit that is written for a number below 16 reads back as that number.
pub digit_in-upper_digit : (n : ℕ) → n < 16 → digit_in 16 (upper_digit n) ≡ Some n
digit_in-upper_digit n low = grind (arith, common_steps, nat_tests)

-- The table of the values of hexadecimal digits, by each byte: 255 for one that is no digit.
abbrev value_or_255 : ℕ → ℕ
value_or_255 c = if is_digit c 16 then digit_value c else 255

unfoldable pub hex_values : List ℕ
hex_values = map value_or_255 (range_with_len 0 256)

value-small : (c : ℕ) → is_digit c 16 ≡ true → digit_value c < 16
value-small c digit = grind (arith, common_steps, digit)

-- A byte has the value that stands in the table, and none where 255 stands there.
pub digit_in-none : (c : ℕ) → c < 256 → get_or hex_values c 0 ≡ 255 → None ≡ digit_in 16 c
unfolding hex_values
digit_in-none c byte none = by (is_digit c 16) (value-small c) (sym (get_or-map-range_with_len value_or_255 0 256 c c 0 byte (omega arith)) ∙ none)
  where
    by : (b : Bool) → (b ≡ true → digit_value c < 16) → (if b then digit_value c else 255) ≡ 255 → None ≡ (if b then Some (digit_value c) else None)
    by true small is = let low : digit_value c < 16 = small refl in absurd (omega arith)
    by false small is = refl

pub digit_in-some : (c : ℕ) → c < 256 → (get_or hex_values c 0 ≡ 255 → ⊥) → Some (get_or hex_values c 0) ≡ digit_in 16 c
unfolding hex_values
digit_in-some c byte some = by (is_digit c 16) (get_or hex_values c 0) (get_or-map-range_with_len value_or_255 0 256 c c 0 byte (omega arith)) some
  where
    by : (b : Bool) (v : ℕ) → v ≡ (if b then digit_value c else 255) → (v ≡ 255 → ⊥) → Some v ≡ (if b then Some (digit_value c) else None)
    by true v is some = ap Some is
    by false v is some = absurd (some is)
