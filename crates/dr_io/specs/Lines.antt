-- A script that is read line by line.
use Rattle.std.specs.Prelude.{◌≡◌, ℕ, ◌+◌, ◌<◌, ◌≤◌, ◌⊎◌, Bool, ◌==◌, List, [], ◌∷◌, ◌++◌, take, length, Option, Some, None, Result, Ok, Err}
use Rattle.std.specs.List.{position}
use Rattle.std.specs.Str.Lines.{strip_carriage_return}
use Rattle.dr_logic.specs.Counts.{Rose}
use Rattle.dr_io.specs.Given.{Took, TookAll}
use Rattle.dr_io.specs.declared.streams.Failed.{Failed}
use Rattle.dr_io.specs.declared.line_reader.ReadingEnd.{ReadingEnd}
use Rattle.dr_io.specs.declared.line_reader.ReadingEnd.TheVariants.{AtEnd, PastLimit, ByFault}
use Rattle.dr_io.specs.declared.line_reader.Taken.{Taken}
use Rattle.dr_io.specs.declared.line_reader.Taken.TheVariants.{Line, End, TooLong}

-- the most bytes that a script may have
abbrev pub most_bytes : ℕ
most_bytes = 16777216

-- the most lines that a script may have, blank ones and comments included
abbrev pub most_lines : ℕ
most_lines = 100000

-- the most bytes of a piece that is taken at once
abbrev pub most_piece : ℕ
most_piece = 4096

-- the most bytes of a line that are told: one more than a line may have
abbrev pub most_told : ℕ
most_told = 1025

-- the byte that ends a line: a line feed
abbrev pub is_line_end : ℕ → Bool
is_line_end b = b == 10

-- no line ends in these bytes
abbrev pub IsOpen : List ℕ → Type 0
IsOpen bytes = position is_line_end bytes ≡ None

-- How far the reading is: the bytes that were taken and stand in no line that was given, how many bytes were taken and how
-- many lines given in all, the line that was given last, and how the reading ended, where it did.
pub record Progress : Type 0 where
  pub ahead : List ℕ
  pub taken : ℕ
  pub given : ℕ
  pub line : List ℕ
  pub over : Option ReadingEnd

-- a reading before its first call
abbrev pub begun : Progress
begun = record { ahead = []; taken = 0; given = 0; line = []; over = None }

-- what is answered once the reading is over
abbrev pub end_answer : ReadingEnd → Result Taken Failed
end_answer AtEnd = Ok End
end_answer PastLimit = Ok TooLong
end_answer ByFault = Err (record {})

-- the next line, with its end
pub record IsEndedLine (all : List ℕ) (after : Progress) : Type 0 where
  pub front : List ℕ
  pub unended : IsOpen front
  pub cut : all ≡ front ++ 10 ∷ after.ahead
  pub line : after.line ≡ take most_told (strip_carriage_return front)
  pub goes_on : after.over ≡ None

module _ {S : Type 0} (left : S → Option (List ℕ)) (faults : S → ℕ) (old new : S) where
  -- the last line, which has no end: nothing lies behind it
  pub record IsLastLine (all : List ℕ) (after : Progress) : Type 0 where
    pub unended : IsOpen all
    pub some : 0 < length all
    pub none : after.ahead ≡ []
    pub line : after.line ≡ take most_told all
    pub nothing_left : TookAll left new []
    pub over : after.over ≡ Some AtEnd

  -- one line more, within the limits
  pub record GivesLine (before after : Progress) (all : List ℕ) : Type 0 where
    pub given : after.given ≡ before.given + 1
    pub few : after.given ≤ most_lines
    pub bytes : after.taken ≤ most_bytes
    pub kept : faults new ≡ faults old
    pub line : IsEndedLine all after ⊎ IsLastLine all after

  -- the end of the input, with no line begun
  pub record GivesEnd (before after : Progress) (all : List ℕ) : Type 0 where
    pub given : after.given ≡ before.given
    pub none : all ≡ []
    pub bytes : after.taken ≤ most_bytes
    pub kept : faults new ≡ faults old
    pub nothing_left : TookAll left new []
    pub over : after.over ≡ Some AtEnd

  -- there are as many lines as there may be, and something behind them
  pub record HasTooManyLines (after : Progress) (all : List ℕ) : Type 0 where
    pub full : after.given ≡ most_lines
    pub some : 0 < length all
    pub piece : length all ≤ most_piece
    pub bytes : after.taken ≤ most_bytes

  -- one byte past the limit was taken, in a line that doesn't end before it
  pub record HasTooManyBytes (after : Progress) (all : List ℕ) : Type 0 where
    pub front : List ℕ
    pub byte : ℕ
    pub cut : all ≡ front ++ byte ∷ []
    pub unended : IsOpen front
    pub bytes : after.taken ≡ most_bytes + 1

  -- a limit is passed, and the reading is over
  pub record GivesTooLong (before after : Progress) (all : List ℕ) : Type 0 where
    pub given : after.given ≡ before.given
    pub kept : faults new ≡ faults old
    pub over : after.over ≡ Some PastLimit
    pub why : HasTooManyLines after all ⊎ HasTooManyBytes after all

  -- the source failed, and the line that was begun is dropped
  pub record GivesFault (before after : Progress) (all : List ℕ) : Type 0 where
    pub given : after.given ≡ before.given
    pub unended : IsOpen all
    pub bytes : after.taken ≤ most_bytes
    pub rose : Rose (faults old) (faults new)
    pub over : after.over ≡ Some ByFault

  -- by what the call answers
  abbrev pub Gives : Progress → Progress → List ℕ → Result Taken Failed → Type 0
  Gives before after all (Ok Line) = GivesLine before after all
  Gives before after all (Ok End) = GivesEnd before after all
  Gives before after all (Ok TooLong) = GivesTooLong before after all
  Gives before after all (Err f) = GivesFault before after all

  -- a call takes these bytes, and goes on from those ahead
  pub record Reads (before after : Progress) (result : Result Taken Failed) : Type 0 where
    pub bytes : List ℕ
    pub took : Took left old new bytes
    pub taken : after.taken ≡ before.taken + length bytes
    pub gives : Gives before after (before.ahead ++ bytes) result

  -- once the reading is over, nothing changes
  pub record StaysOver (over : ReadingEnd) (before after : Progress) (result : Result Taken Failed) : Type 0 where
    pub source : new ≡ old
    pub reader : after ≡ before
    pub answer : result ≡ end_answer over

  -- by whether the reading was over before
  abbrev pub NextBy : Option ReadingEnd → Progress → Progress → Result Taken Failed → Type 0
  NextBy None before after result = Reads before after result
  NextBy (Some over) before after result = StaysOver over before after result

  -- what a call gives
  abbrev pub IsNext : Progress → Progress → Result Taken Failed → Type 0
  IsNext before after result = NextBy before.over before after result
