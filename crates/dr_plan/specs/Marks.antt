-- What a line of a plan says that begins with `#sweep`.
use Rattle.std.specs.Prelude.{ℕ, Bool, not, List, [], ◌∷◌, length, filter, nat_eq, Option, Some, None, codes, if◌then◌else◌}
use Rattle.std.specs.List.{slice_split, starts_with}
use Rattle.std.specs.Option.{option_map}
use Rattle.std.specs.Str.{bytes_eq}
use Rattle.dr_model.specs.declared.step.Name.{Name}
use Rattle.dr_model.specs.LineWords.{◌>>=◌, is_gap, name_word, span_word, decimal_word}
use Rattle.dr_plan.specs.declared.marks.Mark.{Mark}
use Rattle.dr_plan.specs.declared.marks.Mark.TheVariants.{Lose, Use, AtMost, Here, Then, Refused}

-- the line is one of the plan's own, and a comment in a script
abbrev pub is_mark : List ℕ → Bool
is_mark line = starts_with nat_eq line (codes "#sweep")

-- the piece between two gaps is a word
abbrev pub is_filled : List ℕ → Bool
is_filled piece = not (nat_eq (length piece) 0)

-- the words of a line; spaces and tabs stand between
abbrev pub words : List ℕ → List (List ℕ)
words line = filter is_filled (slice_split is_gap line)

-- the names that words say; none where one of them is no name
unfoldable pub names_said : List (List ℕ) → Option (List Name)
names_said [] = Some []
names_said (word ∷ rest) = name_word word >>= λ name. names_said rest >>= λ names. Some (name ∷ names)

-- `lose NAME ..`
abbrev pub lose_said : List (List ℕ) → Option Mark
lose_said [] = None
lose_said (word ∷ rest) = option_map Lose (names_said (word ∷ rest))

-- `RANGE for RANGE`, under a name or none
abbrev pub ranges_said : Option Name → List ℕ → List ℕ → List ℕ → Option Mark
ranges_said name first between second =
    if bytes_eq between (codes "for") then (span_word first >>= λ a. span_word second >>= λ b. Some (Use name a b)) else None

-- `use RANGE for RANGE`, or `use NAME RANGE for RANGE`
abbrev pub use_said : List (List ℕ) → Option Mark
use_said (first ∷ between ∷ second ∷ []) = ranges_said None first between second
use_said (word ∷ first ∷ between ∷ second ∷ []) = name_word word >>= λ name. ranges_said (Some name) first between second
use_said _ = None

-- `at most N`
abbrev pub bound_said : List (List ℕ) → Option Mark
bound_said (most ∷ number ∷ []) = if bytes_eq most (codes "most") then option_map AtMost (decimal_word number) else None
bound_said _ = None

-- a word with nothing after it
abbrev pub alone : Mark → List (List ℕ) → Option Mark
alone mark [] = Some mark
alone mark _ = None

-- what the words after `#sweep` say
abbrev pub mark_said : List (List ℕ) → Option Mark
mark_said [] = None
mark_said (word ∷ rest) =
    if bytes_eq word (codes "lose") then lose_said rest
    else if bytes_eq word (codes "use") then use_said rest
    else if bytes_eq word (codes "at") then bound_said rest
    else if bytes_eq word (codes "here") then alone Here rest
    else if bytes_eq word (codes "then") then alone Then rest
    else if bytes_eq word (codes "refused") then alone Refused rest
    else None

-- what words say, of which the first is `#sweep`
abbrev pub mark_in : List (List ℕ) → Option Mark
mark_in [] = None
mark_in (word ∷ rest) = if bytes_eq word (codes "#sweep") then mark_said rest else None

-- what the line says
unfoldable pub mark_of : List ℕ → Option Mark
mark_of line = mark_in (words line)
