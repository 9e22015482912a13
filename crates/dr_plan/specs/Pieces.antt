-- The script of a point in pieces: before the disaster, in it, and after it.
use Rattle.std.specs.Prelude.{◌≡◌, ℕ, List, [], ◌∷◌, ◌++◌, length, map, nat_le, Option, Some, None, if◌then◌else◌}
use Rattle.std.specs.List.{slice_get}
use Rattle.std.specs.Str.Lines.{lines}
use Rattle.dr_model.specs.declared.step.Name.{Name}
use Rattle.dr_model.specs.LineWords.{◌>>=◌}
use Rattle.dr_plan.specs.declared.points.Torn.{Torn}
use Rattle.dr_plan.specs.declared.points.Point.{Point}
use Rattle.dr_plan.specs.declared.points.Point.TheVariants.{Cut, Gap}
use Rattle.dr_plan.specs.Points.{stop_line, fuse_lines, others, lines_before, text_of}
use Rattle.dr_plan.specs.Sweep.{Sweep}

-- The lines of a point's script in pieces, without those of the recovery.
pub record Pieces : Type 0 where
  pub front : List (List ℕ)  -- the set-up, the tried steps before, and for a stop within a step the lines that arm fuses
  pub strike : List (List ℕ)  -- the tried step that is cut short; none for a stop between steps
  pub stops : List (List ℕ)  -- the stops of the servers that are lost then

-- a stop within a tried step
abbrev pub cut_pieces : Sweep → List Name → ℕ → ℕ → Torn → List ℕ → Option Pieces
cut_pieces plan names place server torn writes =
    slice_get names server >>= λ name. slice_get plan.tried place >>= λ tried.
    Some (record { front = lines_before plan place ++ fuse_lines names server torn writes; strike = tried.text ∷ []; stops = map stop_line (others server names) })

-- a stop after that many tried steps
abbrev pub gap_pieces : Sweep → List Name → ℕ → Option Pieces
gap_pieces plan names place = if nat_le place (length plan.tried) then Some (record { front = lines_before plan place; strike = []; stops = map stop_line names }) else None

-- the pieces of the script of a point; none where the plan has no such point
unfoldable pub pieces_of : Sweep → Point → Option Pieces
pieces_of plan (Cut disaster place server torn writes) = slice_get plan.loses disaster >>= λ names. cut_pieces plan names place server torn writes
pieces_of plan (Gap disaster place) = slice_get plan.loses disaster >>= λ names. gap_pieces plan names place

-- all lines of the script
abbrev pub lines_in : Sweep → Pieces → List (List ℕ)
lines_in plan p = p.front ++ (p.strike ++ (p.stops ++ plan.recovery))

-- the text of these lines, which reads as them
abbrev pub IsTextOf : List (List ℕ) → List ℕ → Type 0
IsTextOf ls text = (text ≡ text_of ls) × (lines text ≡ ls)

-- three texts are those of pieces
pub record AreTexts (front strike stops : List ℕ) (p : Pieces) : Type 0 where
  pub front_is : IsTextOf p.front front
  pub strike_is : IsTextOf p.strike strike
  pub stops_are : IsTextOf p.stops stops

-- The texts of pieces.
pub record PieceTexts : Type 0 where
  pub front : List ℕ
  pub strike : List ℕ
  pub stops : List ℕ

-- the texts of pieces, or none where there are none
abbrev pub AreCutUp : Option Pieces → Option PieceTexts → Type 0
AreCutUp pieces None = pieces ≡ None
AreCutUp pieces (Some x) = (p : Pieces) × (pieces ≡ Some p) × AreTexts x.front x.strike x.stops p

-- the texts of the pieces of a point's script, or none where the plan has no such point
abbrev pub IsCutUp : Sweep → Point → Option PieceTexts → Type 0
IsCutUp plan point made = AreCutUp (pieces_of plan point) made

-- the script of texts: the recovery's lines come after them
abbrev pub joined : List (List ℕ) → PieceTexts → List ℕ
joined recovery x = ((x.front ++ x.strike) ++ x.stops) ++ text_of recovery
