-- Parts of lines that the reader's small functions speak of.
use Rattle.std.specs.Prelude.{◌≡◌, ℕ, ◌+◌, ◌-◌, Bool, not, List, [], ◌∷◌, take, drop, replicate, Option, Some, None, if◌then◌else◌}
use Rattle.dr_model.specs.LineWords.{Word, words_behind, is_gap}
use Rattle.dr_script.specs.declared.words.Extent.{Extent}

-- a byte of a word
abbrev pub is_ink : ℕ → Bool
is_ink b = not (is_gap b)

-- the bytes of a word of a line
abbrev pub word_bytes : List ℕ → Extent → List ℕ
word_bytes line word = take (word.end - word.start) (drop word.start line)

-- the first of the words, and those behind it; none where there are no words
abbrev pub IsNext : List Word → List ℕ → Option Extent → Type 0
IsNext words line None = words ≡ []
IsNext words line (Some word) = words ≡ record { column = word.start + 1; bytes = word_bytes line word } ∷ words_behind word.end line

-- what was read, where a word could stand
abbrev pub kept : {A : Type 0} → Bool → A → Option A
kept stands read = if stands then Some read else None

-- 24 zero bytes
unfoldable pub empty_name : List ℕ
empty_name = replicate 24 0
