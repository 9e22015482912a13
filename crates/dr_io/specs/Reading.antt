-- How a line is read piece by piece.
use Rattle.std.specs.Prelude.{◌≡◌, ℕ, ◌+◌, ◌≤◌, List, [], ◌++◌, take, drop, length, nat_lt, if◌then◌else◌, Option, Some, Bool, true, false, Result, Ok, Err}
use Rattle.std.specs.List.{position}
use Rattle.std.specs.Str.Lines.{strip_carriage_return}
use Rattle.dr_logic.specs.Counts.{Rose}
use Rattle.dr_io.specs.Given.{Took, TookAll}
use Rattle.dr_io.specs.Lines.{is_line_end, IsOpen, most_told}
use Rattle.dr_io.specs.declared.streams.Failed.{Failed}

-- the most bytes of a line that are kept: one more than are told, since the last may be a carriage return before the line's end
abbrev pub most_kept : ℕ
most_kept = 1026

-- what is told of a line that ended, by the bytes of it that were kept
abbrev pub told_of : List ℕ → List ℕ
told_of kept = if nat_lt most_told (length kept) then take most_told kept else strip_carriage_return kept

-- a line ended in the bytes ahead: it is told, and what follows it is ahead
pub record EndsLine (ahead kept ahead_after kept_after : List ℕ) : Type 0 where
  pub at : ℕ
  pub found : position is_line_end ahead ≡ Some at
  pub rest : ahead_after ≡ drop (at + 1) ahead
  pub told : kept_after ≡ told_of (take most_kept (kept ++ take at ahead))

-- no line ends in the bytes ahead: all are kept
pub record KeepsAll (ahead kept ahead_after kept_after : List ℕ) : Type 0 where
  pub unended : IsOpen ahead
  pub rest : ahead_after ≡ []
  pub keeps : kept_after ≡ take most_kept (kept ++ ahead)

-- by whether the line ended in this piece
abbrev pub CutsLine : List ℕ → List ℕ → List ℕ → List ℕ → Bool → Type 0
CutsLine ahead kept ahead_after kept_after true = EndsLine ahead kept ahead_after kept_after
CutsLine ahead kept ahead_after kept_after false = KeepsAll ahead kept ahead_after kept_after

module _ {S : Type 0} (left : S → Option (List ℕ)) (faults : S → ℕ) (old new : S) where
  -- a piece of n bytes was taken, and none only at the end
  pub record Fills (after : List ℕ) (room n : ℕ) : Type 0 where
    pub count : length after ≡ n
    pub fits : n ≤ room
    pub took : Took left old new after
    pub ends : n ≡ 0 → TookAll left new []
    pub steady : faults new ≡ faults old

  -- the source failed and gave none
  pub record Fails (after : List ℕ) : Type 0 where
    pub none : after ≡ []
    pub took : Took left old new []
    pub rose : Rose (faults old) (faults new)

  -- by what the call answers
  abbrev pub FillsBy : List ℕ → ℕ → Result ℕ Failed → Type 0
  FillsBy after room (Ok n) = Fills after room n
  FillsBy after room (Err f) = Fails after
