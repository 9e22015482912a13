-- The comparison of two plans that words name.
use Rattle.std.specs.Prelude.{ℕ, Bool, ◌&&◌, false, not, List, [], ◌∷◌, length, map, nat_le, Option, Some, None, String, string_bytes, codes, if◌then◌else◌, option_and_then}
use Rattle.std.specs.Str.{bytes_eq}
use Rattle.std.specs.declared.alloc.Global.{Global}
use Rattle.clap.specs.Words.{Row, Text, all_of}
use Rattle.dr_words.specs.Sweep.{has_option}
use Rattle.dr_words.specs.declared.compare.ComparedView.{ComparedView}
use Rattle.dr_words.specs.declared.compare.ComparedView.TheVariants.{Table, Picture}

-- Two plans that are compared, by the names of their files.
pub record Compared : Type 0 where
  pub view : ComparedView
  pub first : List ℕ
  pub second : List ℕ

-- the word that asks for charts
abbrev pub asks_picture : List ℕ → Bool
asks_picture word = bytes_eq word (codes "picture")

-- the words after `compare`: two names, or `picture` and two names; so `picture` is no name of a first file
abbrev pub names_said : List (List ℕ) → Option Compared
names_said (first ∷ second ∷ []) = if asks_picture first then None else Some (record { view = Table; first = first; second = second })
names_said (word ∷ first ∷ second ∷ []) = if asks_picture word then Some (record { view = Picture; first = first; second = second }) else None
names_said words = None

-- `compare` and these words, of which none begins with a hyphen; no other words name a comparison
abbrev pub comparison_of : List (String Global) → Option Compared
comparison_of [] = None
comparison_of (name ∷ rest) = if bytes_eq (string_bytes name) (codes "compare") then (if has_option rest then None else names_said (map string_bytes rest)) else None

-- ---- how clap sees it

-- two or three words, of which none begins with a hyphen
abbrev pub are_names : List (String Global) → Bool
are_names words = nat_le 2 (length words) && nat_le (length words) 3 && not (has_option words)

-- `compare` with them
abbrev pub has_form : List (String Global) → Bool
has_form [] = false
has_form (name ∷ rest) = bytes_eq (string_bytes name) (codes "compare") && are_names rest

-- the comparison in what was found for `compare`
abbrev pub names_in : List Row → Option Compared
names_in rows = option_and_then names_said (all_of (codes "files") rows)

-- that of the subcommand that was met
abbrev pub met_comparison : Option (Text × List Row) → Option Compared
met_comparison None = None
met_comparison (Some p) = names_in p.1
