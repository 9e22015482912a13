use Rattle.std.specs.Prelude.{ℕ, List, [], ◌∷◌, Bool, false, not, Option, None, Some, ◌-◌, ◌<◌, ◌^◌, length, take, if◌then◌else◌, nat_eq, codes}
use Rattle.std.specs.Borrow.{Bor}
use Rattle.std.specs.List.{ends_with, filter_map, list_any}
use Rattle.std.specs.Option.{option_or}
use Rattle.std.specs.Str.{bytes_eq, trim_end}
use Rattle.std.specs.Str.Lines.{lines}
use Rattle.std.specs.Str.Parse.{IsNumeral, digits_value, without_leading_plus}

-- what stands before this ending of a file's name; none where it has another
abbrev pub name_before : List ℕ → List ℕ → Option (List ℕ)
name_before file ending = if ends_with nat_eq file ending then Some (take (length file - length ending) file) else None

-- the names of the scripts among the files of these names
abbrev pub script_names : List (List ℕ) → List (List ℕ)
script_names files = filter_map (λ file. name_before file (codes ".dscli")) files

-- the name is one of these
abbrev pub is_known : List ℕ → List (Bor (List ℕ)) → Bool
is_known name names = list_any (λ known. bytes_eq known.now name) names

-- a name that was found is none of these
abbrev pub lacks : Option (List ℕ) → List (Bor (List ℕ)) → Bool
lacks None names = false
lacks (Some name) names = not (is_known name names)

-- a file of this name belongs to a script, and none of these scripts is it
abbrev pub is_stray : List ℕ → List (Bor (List ℕ)) → Bool
is_stray file names = lacks (option_or (option_or (name_before file (codes ".out")) (name_before file (codes ".status"))) (name_before file (codes ".words"))) names

-- the number that stands in a text; what is white at its end doesn't count
abbrev pub status_of : List ℕ → ℕ
status_of text = digits_value 10 (without_leading_plus (trim_end text))

-- there is such a number, and it is below 256
abbrev pub IsStatus : List ℕ → Type 0
IsStatus text = IsNumeral 10 (without_leading_plus (trim_end text)) × (status_of text < 2 ^ 8)

-- the words that a scenario's run is given, by the text of its file of words: the lines of it; `run` where there is no file
abbrev pub words_of : Option (List ℕ) → List (List ℕ)
words_of None = codes "run" ∷ []
words_of (Some text) = lines text
