-- Which words spell a number, a volume, a logical subsystem or a session, and which one.
use Rattle.std.specs.Prelude.{ℕ, ◌/◌, ◌%◌, Bool, true, ◌&&◌, ◌==◌, nat_le, if◌then◌else◌, List, [], ◌∷◌, ◌++◌, length, Option, Some, None}
use Rattle.std.specs.Char.{digit_value, is_digit}
use Rattle.std.specs.Fmt.{digit_glyph}
use Rattle.std.specs.List.{list_all}
use Rattle.std.specs.Option.{option_map}
use Rattle.std.specs.Str.Parse.{digits_value}
use Rattle.dr_ids.specs.declared.names.Lss.{Lss}
use Rattle.dr_ids.specs.declared.names.SessionId.{SessionId}
use Rattle.dr_ids.specs.declared.names.VolumeId.{VolumeId}

-- The value of a digit in the radix; letters count in either case.
abbrev pub digit_in : ℕ → ℕ → Option ℕ
digit_in radix digit = if is_digit digit radix then Some (digit_value digit) else None

-- The upper-case hexadecimal digit of a number below 16.
abbrev pub upper_digit : ℕ → ℕ
upper_digit n = digit_glyph true n

-- Each byte is a digit in the radix.
unfoldable pub all_digits : ℕ → List ℕ → Bool
all_digits radix word = list_all (λ digit. is_digit digit radix) word

-- The number that a word of digits spells; none for any other word.
abbrev pub spelled : ℕ → List ℕ → Option ℕ
spelled radix word = if all_digits radix word then Some (digits_value radix word) else None

-- The number that a word of exactly so many hexadecimal digits spells.
abbrev pub hex_word : ℕ → List ℕ → Option ℕ
hex_word digits word = if length word == digits then spelled 16 word else None

-- A volume is written in four hexadecimal digits.
abbrev pub volume_word : List ℕ → Option VolumeId
volume_word word = option_map (λ n. record { 0 = n }) (hex_word 4 word)

-- A logical subsystem is written in two hexadecimal digits.
abbrev pub lss_word : List ℕ → Option Lss
lss_word word = option_map (λ n. record { 0 = n }) (hex_word 2 word)

-- The number, unless it is 0.
abbrev pub but_zero : Option ℕ → Option ℕ
but_zero None = None
but_zero (Some n) = if n == 0 then None else Some n

-- A session is written in two hexadecimal digits that aren't both 0.
abbrev pub session_word : List ℕ → Option SessionId
session_word word = option_map (λ n. record { 0 = n }) (but_zero (hex_word 2 word))

-- The number, unless it is above `most`.
abbrev pub up_to : ℕ → Option ℕ → Option ℕ
up_to most None = None
up_to most (Some n) = if nat_le n most then Some n else None

-- A number is written in one to ten decimal digits, of which the first may be 0, and is at most `most`.
abbrev pub number_word : ℕ → List ℕ → Option ℕ
number_word most word =
    if nat_le 1 (length word) && nat_le (length word) 10 then up_to most (spelled 10 word) else None

-- Two upper-case hexadecimal digits for a byte, four for two bytes.
abbrev pub hex2 : ℕ → List ℕ
hex2 n = upper_digit (n / 16) ∷ upper_digit (n % 16) ∷ []

-- a number in four upper-case hexadecimal digits
abbrev pub hex4 : ℕ → List ℕ
hex4 n = hex2 (n / 256) ++ hex2 (n % 256)
