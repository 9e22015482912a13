-- Where a run stands that ended within a line, and what was printed.
use Rattle.std.specs.Prelude.{◌≡◌, ℕ, ◌+◌, ◌<◌, ◌≤◌, ◌⊎◌, List, [], ◌∷◌, ◌++◌, length, map, take, drop, slice_get, Option, Some}
use Rattle.std.specs.List.{fold}
use Rattle.std.specs.Str.Lines.{lines}
use Rattle.dr_model.specs.declared.event.Event.{Event}
use Rattle.dr_model.specs.Control.{World}
use Rattle.dr_model.specs.Listed.{as_asked}
use Rattle.dr_model.specs.Limits.{most_events}
use Rattle.dr_model.specs.Lines.{tasks, tasks_from}
use Rattle.dr_model.specs.Runs.{Task, after_tasks, run}
use Rattle.dr_model.specs.Text.{text, text_from, heard, untold}
use Rattle.dr_io.specs.Lines.{IsOpen, most_bytes, most_lines, most_piece}
use Rattle.dr_steps.specs.Wants.{WantsMemory}
use Rattle.dr_top.specs.Cut.{IsClosed, IsEnded}
use Rattle.dr_io.specs.Given.{Gave, TookAll}

-- the text of the events from a place on
abbrev pub text_since : List Event → ℕ → List ℕ
text_since events from = text_from (fold heard untold (take from events)) (drop from events)

module _ {S : Type 0} (left : S → Option (List ℕ)) (source : S) where
  -- the last line, which has no end: nothing lies behind it, and the source had no more
  pub record IsLast (taken line ahead : List ℕ) : Type 0 where
    pub unended : IsOpen line
    pub some : 0 < length line
    pub none : ahead ≡ []
    pub all : TookAll left source taken

  -- A run that stands in a line: so many of its steps were carried out, after all lines before it. At most one piece was
  -- taken behind it. What was taken is within the limits of bytes, and its lines up to this one within that of lines.
  pub record IsHalted (taken : List ℕ) (steps : List Task) (w : World) : Type 0 where
    pub before : List ℕ
    pub line : List ℕ
    pub ahead : List ℕ
    pub cut : taken ≡ before ++ (line ++ ahead)
    pub closed : IsClosed before
    pub one : IsEnded line ⊎ IsLast taken line ahead
    pub near : length ahead ≤ most_piece
    pub few : length (lines (before ++ line)) ≤ most_lines
    pub bytes : length taken ≤ most_bytes
    pub earlier : List Task
    pub later : List Task
    pub both : steps ≡ earlier ++ later
    pub asked : map as_asked earlier ≡ tasks before
    pub start : World
    pub begins : run earlier ≡ start
    pub tasks : List Task
    pub are : tasks_from (length (lines before) + 1) (lines line) ≡ tasks
    pub done : ℕ
    pub within : done ≤ length tasks
    pub carried : map as_asked later ≡ take done tasks
    pub leads : after_tasks start later ≡ w

-- the next step found the journal full
abbrev pub IsFull : ℕ → List Task → World → Type 0
IsFull done tasks w = (done < length tasks) × (length w.events ≡ most_events)

-- all steps of a line were carried out, or the next one found the journal full
abbrev pub IsThrough : ℕ → List Task → World → Type 0
IsThrough done tasks w = (done ≡ length tasks) ⊎ IsFull done tasks w

-- The next step wanted memory: there was none for its room in the journal, which isn't full, nor is its memory enough for that room by its
-- size; or for a row of a table, and its plan is no refusal.
pub record StepWants (done : ℕ) (tasks : List Task) (w : World) : Type 0 where
  pub task : Task
  pub next : slice_get tasks done ≡ Some task
  pub wants : WantsMemory w task.asked (length w.events)

-- These are all steps of those lines that stand before the next one, where the first has this number.
pub record IsNextLine (number : ℕ) (ls : List (List ℕ)) (done : ℕ) : Type 0 where
  pub before : List (List ℕ)
  pub line : List ℕ
  pub later : List (List ℕ)
  pub cut : ls ≡ before ++ line ∷ later
  pub carried : done ≡ length (tasks_from number before)

-- The place in some lines where memory was wanting: the next step, or the reading of the next line.
abbrev pub LacksWithin : ℕ → List (List ℕ) → ℕ → World → Type 0
LacksWithin number ls done w = StepWants done (tasks_from number ls) w ⊎ IsNextLine number ls done

-- The place where memory was wanting: the next step; or the reading of the line, of which no step was carried out; or the text of the
-- line's answers, where all its steps were carried out, or those before one that found the journal full.
abbrev pub LacksMemory : ℕ → List Task → World → Type 0
LacksMemory done tasks w = StepWants done tasks w ⊎ (done ≡ 0) ⊎ IsThrough done tasks w

-- the sink was given all text up to a world, and a front of that from there on
pub record GavePrefix {K : Type 0} (written : K → Option (List ℕ)) (sink sink' : K) (start w : World) : Type 0 where
  pub rest : List ℕ
  pub says : text w.events ≡ text start.events ++ rest
  pub part : ℕ
  pub within : part ≤ length rest
  pub gave : Gave written sink sink' (text start.events ++ take part rest)
