use Rattle.std.specs.Prelude.{ℕ, List, ◌++◌, Option, None, Some, codes, decimal}
use Rattle.dr_verdict.specs.declared.verdict.Verdict.{Verdict}
use Rattle.dr_verdict.specs.declared.verdict.Verdict.TheVariants.{Agrees, LineDiffers, StatusDiffers}

-- the line that says where the scenario of this name differs
abbrev pub line_of : List ℕ → Verdict → Option (List ℕ)
line_of name Agrees = None
line_of name (LineDiffers line) = Some (name ++ (codes ": line " ++ (decimal line ++ codes " of the output differs")))
line_of name (StatusDiffers wanted found) = Some (name ++ (codes ": status " ++ (decimal found ++ (codes " and not " ++ decimal wanted))))
