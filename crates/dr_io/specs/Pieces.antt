-- A text that is taken piece by piece, within limits.
use Rattle.std.specs.Prelude.{◌≡◌, ℕ, ◌+◌, ◌-◌, ◌<◌, ◌≤◌, ◌⊎◌, Bool, false, not, ◌||◌, nat_lt, if◌then◌else◌, List, [], ◌++◌, length, slice_get, Option, Some, None, Result, Ok, Err}
use Rattle.std.specs.List.{count_by}
use Rattle.std.specs.Str.Lines.{lines}
use Rattle.dr_logic.specs.Counts.{Rose}
use Rattle.dr_io.specs.Given.{TookAll}
use Rattle.dr_io.specs.Lines.{is_line_end}
use Rattle.dr_io.specs.declared.streams.Failed.{Failed}
use Rattle.dr_io.specs.declared.limits.Limits.{Limits}
use Rattle.dr_io.specs.declared.amount.Amount.{Amount}
use Rattle.dr_io.specs.declared.line_reader.ReadingEnd.{ReadingEnd}
use Rattle.dr_io.specs.declared.line_reader.ReadingEnd.TheVariants.{AtEnd, PastLimit, ByFault}
use Rattle.dr_io.specs.declared.piece_reader.TakenPiece.{TakenPiece}
use Rattle.dr_io.specs.declared.piece_reader.TakenPiece.TheVariants.{Piece, End, TooLong}

-- a line is begun behind a piece with this last byte; behind an empty one, where a line was begun before it
abbrev pub opened : Option ℕ → Bool → Bool
opened None before = before
opened (Some byte) before = not (is_line_end byte)

-- how much is taken with a piece more
abbrev pub more : Amount → List ℕ → Amount
more amount piece = record {
  bytes = amount.bytes + length piece;
  ended = amount.ended + count_by is_line_end piece;
  begun = opened (slice_get piece (length piece - 1)) amount.begun;
}

-- how much a text is
abbrev pub amount_of : List ℕ → Amount
amount_of text = more (record { bytes = 0; ended = 0; begun = false }) text

-- how many lines that is: those that ended, and the one that is begun
abbrev pub lines_of : Amount → ℕ
lines_of amount = amount.ended + (if amount.begun then 1 else 0)

-- that is more than may be taken
abbrev pub exceeds : Limits → Amount → Bool
exceeds limits amount = nat_lt limits.bytes amount.bytes || nat_lt limits.lines (lines_of amount)

-- How far the taking is: what the last call took, how much was taken in all, how much may be, and how the reading ended,
-- where it did.
pub record PieceProgress : Type 0 where
  pub piece : List ℕ
  pub amount : Amount
  pub limits : Limits
  pub over : Option ReadingEnd

-- a reading before its first call
abbrev pub nothing_taken : Limits → PieceProgress
nothing_taken limits = record { piece = []; amount = amount_of []; limits = limits; over = None }

-- this text was taken in all
abbrev pub HasTaken : List ℕ → PieceProgress → Type 0
HasTaken text progress = progress.amount ≡ amount_of text

-- what is answered once the reading is over
abbrev pub piece_answer : ReadingEnd → Result TakenPiece Failed
piece_answer AtEnd = Ok End
piece_answer PastLimit = Ok TooLong
piece_answer ByFault = Err (record {})

-- the text is within both limits; a last line without a line feed counts as one
pub record IsWithin (limits : Limits) (text : List ℕ) : Type 0 where
  pub bytes : length text ≤ limits.bytes
  pub lines : length (lines text) ≤ limits.lines

-- the text has passed a limit
abbrev pub IsPast : Limits → List ℕ → Type 0
IsPast limits text = (limits.bytes < length text) ⊎ (limits.lines < length (lines text))

module _ {S : Type 0} (left : S → Option (List ℕ)) (faults : S → ℕ) (old new : S) where
  -- a piece, and what was taken with it is within the limits
  pub record GivesPiece (text : List ℕ) (after : PieceProgress) : Type 0 where
    pub some : 0 < length after.piece
    pub within : IsWithin after.limits (text ++ after.piece)
    pub kept : faults new ≡ faults old
    pub goes_on : after.over ≡ None

  -- the end of the input, and all that was taken is within the limits
  pub record GivesEnd (text : List ℕ) (after : PieceProgress) : Type 0 where
    pub none : after.piece ≡ []
    pub nothing_left : TookAll left new []
    pub within : IsWithin after.limits text
    pub kept : faults new ≡ faults old
    pub over : after.over ≡ Some AtEnd

  -- what was taken before is within the limits, and with this piece passes one; that of bytes by one byte at most
  pub record GivesTooLong (text : List ℕ) (after : PieceProgress) : Type 0 where
    pub within : IsWithin after.limits text
    pub past : IsPast after.limits (text ++ after.piece)
    pub bytes : length (text ++ after.piece) ≤ after.limits.bytes + 1
    pub kept : faults new ≡ faults old
    pub over : after.over ≡ Some PastLimit

  -- the source failed, and gave nothing
  pub record GivesFault (text : List ℕ) (after : PieceProgress) : Type 0 where
    pub none : after.piece ≡ []
    pub within : IsWithin after.limits text
    pub rose : Rose (faults old) (faults new)
    pub over : after.over ≡ Some ByFault

  -- by what the call answers, where this text was taken before
  abbrev pub Takes : List ℕ → PieceProgress → Result TakenPiece Failed → Type 0
  Takes text after (Ok Piece) = GivesPiece text after
  Takes text after (Ok End) = GivesEnd text after
  Takes text after (Ok TooLong) = GivesTooLong text after
  Takes text after (Err failed) = GivesFault text after

  -- once the reading is over, the source is left alone, and nothing is taken
  pub record StaysOver (over : ReadingEnd) (before after : PieceProgress) (result : Result TakenPiece Failed) : Type 0 where
    pub source : new ≡ old
    pub reader : after ≡ record before { piece = [] }
    pub answer : result ≡ piece_answer over

  -- by whether the reading was over before
  abbrev pub IsPieceBy : Option ReadingEnd → List ℕ → PieceProgress → PieceProgress → Result TakenPiece Failed → Type 0
  IsPieceBy None text before after result = Takes text after result
  IsPieceBy (Some over) text before after result = StaysOver over before after result

  -- what a call answers, where this text was taken before
  abbrev pub IsPiece : List ℕ → PieceProgress → PieceProgress → Result TakenPiece Failed → Type 0
  IsPiece text before after result = IsPieceBy before.over text before after result
