-- How a call of the program ends.
use Rattle.std.specs.Prelude.{◌≡◌, ℕ, ◌+◌, ◌<◌, ◌≤◌, ◌⊎◌, Bool, true, false, ◌||◌, not, List, [], ◌∷◌, ◌++◌, length, map, nat_eq, Option, codes}
use Rattle.std.specs.List.{list_any}
use Rattle.std.specs.Str.Lines.{lines}
use Rattle.dr_logic.specs.Counts.{Counted, Rose}
use Rattle.dr_plant.specs.State.{PlantState}
use Rattle.dr_model.specs.declared.event.Event.{Event}
use Rattle.dr_model.specs.declared.event.Event.TheVariants.{Answer}
use Rattle.dr_model.specs.Control.{World}
use Rattle.dr_model.specs.Listed.{as_asked}
use Rattle.dr_io.specs.Lines.{most_bytes, most_lines, most_piece, IsOpen}
use Rattle.dr_model.specs.Lines.{tasks}
use Rattle.dr_model.specs.Runs.{Task}
use Rattle.dr_model.specs.Text.{text}
use Rattle.dr_top.specs.Cut.{IsClosed}
use Rattle.dr_top.specs.Stands.{Stands}
use Rattle.dr_top.specs.Followed.{IsHalted, IsThrough, IsFull, LacksMemory, GavePrefix}
use Rattle.dr_io.specs.Given.{Gave, GavePart, Took, TookAll}
use Rattle.dr_top.specs.declared.status.Status.{Status}
use Rattle.dr_top.specs.declared.status.Status.TheVariants.{Done, DoneRefused, Usage, ReadFault, WriteFault, NoMemory, TooLong, BadImage, Contradiction, NoMembers}

-- the usage line, with its line feed
abbrev pub usage_line : List ℕ
usage_line = codes "usage: drsim run | recover SS | trial N | convert" ++ 10 ∷ []

-- an answer that is neither ok nor held
abbrev pub is_refusal : Event → Bool
is_refusal (Answer line code a b c) = not (nat_eq code 0 || nat_eq code 100)
is_refusal _ = false

-- a journal has one
abbrev pub has_refusal : List Event → Bool
has_refusal events = list_any is_refusal events

-- the number that the process ends with
abbrev pub code_of : Status → ℕ
code_of Done = 0
code_of DoneRefused = 1
code_of Usage = 2
code_of ReadFault = 3
code_of WriteFault = 4
code_of NoMemory = 5
code_of TooLong = 6
code_of BadImage = 7
code_of Contradiction = 8
code_of NoMembers = 9

-- the statuses that a fault of the source, and of the sink, gives
abbrev pub is_read_fault : Status → Bool
is_read_fault ReadFault = true
is_read_fault _ = false

-- the status of a fault of the sink
abbrev pub is_write_fault : Status → Bool
is_write_fault WriteFault = true
is_write_fault _ = false

module _ {K : Type 0} (written : K → Option (List ℕ)) (write_faults : K → ℕ) where
  -- words that are no command: the usage line, a front of it where the sink failed, and nothing where there was no memory to read them
  abbrev pub EndsUsage : K → K → Status → Type 0
  EndsUsage sink sink' Usage = Gave written sink sink' usage_line × (write_faults sink' ≡ write_faults sink)
  EndsUsage sink sink' NoMemory = sink' ≡ sink
  EndsUsage sink sink' WriteFault = GavePart written sink sink' usage_line × Rose (write_faults sink) (write_faults sink')
  EndsUsage sink sink' _ = ⊥

  module _ {S J : Type 0} (source source' : S) (sink sink' : K) where
    -- nothing was read or carried out
    pub record IsUsage (status : Status) (journal journal' : J) (s s' : PlantState) : Type 0 where
      pub source_same : source' ≡ source
      pub plant_same : s' ≡ s
      pub journal_same : journal' ≡ journal
      pub ends : EndsUsage sink sink' status

module _ {S K : Type 0} (left : S → Option (List ℕ)) (written : K → Option (List ℕ)) (source source' : S) (sink sink' : K) where
  -- All that the source had was taken, it is within the limits, and all its steps were carried out, and their answers
  -- printed.
  pub record IsWhole (taken : List ℕ) (steps : List Task) (w : World) : Type 0 where
    pub all : TookAll left source taken
    pub bytes : length taken ≤ most_bytes
    pub lines : length (lines taken) ≤ most_lines
    pub asked : map as_asked steps ≡ tasks taken
    pub gave : Gave written sink sink' (text w.events)

  -- The lines that were taken whole were carried out, and their answers printed; behind them lies what is no whole line.
  pub record IsUpTo (taken : List ℕ) (steps : List Task) (w : World) (ahead : List ℕ) : Type 0 where
    pub whole : List ℕ
    pub cut : taken ≡ whole ++ ahead
    pub closed : IsClosed whole
    pub few : length (lines whole) ≤ most_lines
    pub asked : map as_asked steps ≡ tasks whole
    pub gave : Gave written sink sink' (text w.events)

  -- A line was cut off.
  pub record IsCutOff (taken : List ℕ) (steps : List Task) (w : World) : Type 0 where
    pub ahead : List ℕ
    pub up_to : IsUpTo taken steps w ahead
    pub unended : IsOpen ahead
    pub bytes : length taken ≤ most_bytes

  -- One byte past the limit was taken, in a line that doesn't end before it.
  pub record HasTooManyBytes (taken : List ℕ) (steps : List Task) (w : World) : Type 0 where
    pub front : List ℕ
    pub byte : ℕ
    pub up_to : IsUpTo taken steps w (front ++ byte ∷ [])
    pub unended : IsOpen front
    pub bytes : length taken ≡ most_bytes + 1

  -- Behind as many lines as there may be more bytes were taken, in one piece.
  pub record HasTooManyLines (taken : List ℕ) (steps : List Task) (w : World) : Type 0 where
    pub ahead : List ℕ
    pub up_to : IsUpTo taken steps w ahead
    pub full : length (lines up_to.whole) ≡ most_lines
    pub some : 0 < length ahead
    pub piece : length ahead ≤ most_piece
    pub bytes : length taken ≤ most_bytes

  -- A step found the journal full.
  pub record HasFullJournal (taken : List ℕ) (steps : List Task) (w : World) : Type 0 where
    pub halted : IsHalted left source taken steps w
    pub full : IsFull halted.done halted.tasks w
    pub gave : Gave written sink sink' (text w.events)

  -- The sink failed after all steps of a line, or after those before one that found the journal full.
  pub record HasWriteFault (taken : List ℕ) (steps : List Task) (w : World) : Type 0 where
    pub halted : IsHalted left source taken steps w
    pub through : IsThrough halted.done halted.tasks w
    pub gave : GavePrefix written sink sink' halted.start w

  -- Memory was wanting within a line. When it is can't be said, for no clause counts what an allocator refuses. Where it is, can: at a step
  -- that asks for memory, in a journal that isn't full, and not in place of a refusal; at the reading of the line; or at the text of its
  -- answers. The answers of the lines before were printed, and of this line none.
  pub record HasNoMemory (taken : List ℕ) (steps : List Task) (w : World) : Type 0 where
    pub halted : IsHalted left source taken steps w
    pub place : LacksMemory halted.done halted.tasks w
    pub gave : Gave written sink sink' (text halted.start.events)

  -- There was no memory to read the program's words: nothing was taken, carried out or put.
  pub record HasNotBegun (taken : List ℕ) (steps : List Task) : Type 0 where
    pub source_same : source' ≡ source
    pub sink_same : sink' ≡ sink
    pub none_taken : taken ≡ []
    pub no_step : steps ≡ []

  -- why a run ended with its status, which steps were carried out, and what was printed
  abbrev pub Ends : Status → List ℕ → List Task → World → Type 0
  Ends Done taken steps w = IsWhole taken steps w × (has_refusal w.events ≡ false)
  Ends DoneRefused taken steps w = IsWhole taken steps w × (has_refusal w.events ≡ true)
  Ends Usage taken steps w = ⊥
  Ends ReadFault taken steps w = IsCutOff taken steps w
  Ends WriteFault taken steps w = HasWriteFault taken steps w
  Ends NoMemory taken steps w = HasNoMemory taken steps w ⊎ HasNotBegun taken steps
  Ends BadImage taken steps w = ⊥
  Ends Contradiction taken steps w = ⊥
  Ends NoMembers taken steps w = ⊥
  Ends TooLong taken steps w = HasTooManyBytes taken steps w ⊎ HasTooManyLines taken steps w ⊎ HasFullJournal taken steps w

  module _ (read_faults : S → ℕ) (write_faults : K → ℕ) where
    -- A count of source or sink rose exactly where the status says so.
    pub record CountsStreams (status : Status) : Type 0 where
      pub reads : Counted (is_read_fault status) (read_faults source) (read_faults source')
      pub writes : Counted (is_write_fault status) (write_faults sink) (write_faults sink')

    -- Bytes were taken from the source, and steps of them carried out, which lead to this world.
    pub record Ran (status : Status) (steps : List Task) (world : World) : Type 0 where
      pub taken : List ℕ
      pub took : Took left source source' taken
      pub ends : Ends status taken steps world
      pub streams : CountsStreams status

    -- A run: steps of what was taken were carried out, and this is how it stands.
    pub record IsRun (status : Status) (events : List Event) (s s' : PlantState) : Type 0 where
      pub world : World
      pub steps : List Task
      pub ran : Ran status steps world
      pub stands : Stands steps world events s s'
