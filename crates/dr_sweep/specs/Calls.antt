-- How a call of the program ends.
use Rattle.std.specs.Prelude.{◌≡◌, ℕ, ◌⊎◌, List, [], ◌∷◌, ◌++◌, codes, Option, Some, None, Err}
use Rattle.std.specs.Fmt.{decimal}
use Rattle.std.specs.Option.{option_and_then}
use Rattle.std.specs.Str.Lines.{lines}
use Rattle.dr_logic.specs.Counts.{Counted, Rose}
use Rattle.dr_io.specs.Given.{Gave, GavePart}
use Rattle.dr_model.specs.declared.event.Event.{Event}
use Rattle.dr_plan.specs.declared.points.Point.TheVariants.{Cut, Gap}
use Rattle.dr_plan.specs.declared.points.Torn.{Torn}
use Rattle.dr_plan.specs.declared.reason.Reason.{Reason}
use Rattle.dr_plan.specs.Outcome.{IsFirstBad, IsNone}
use Rattle.dr_plan.specs.Parts.{IsPlan}
use Rattle.dr_plan.specs.Points.{script_of, calm_script}
use Rattle.dr_plan.specs.Reading.{sweep_of}
use Rattle.dr_plan.specs.Reasons.{reason_text}
use Rattle.dr_plan.specs.Sweep.{Sweep}
use Rattle.dr_rows.specs.Calm.{Calm}
use Rattle.dr_rows.specs.Findings.{has_finding}
use Rattle.dr_rows.specs.Outcome.{Outcome}
use Rattle.dr_sweep.specs.declared.call.Reply.{Reply}
use Rattle.dr_sweep.specs.Calm.{calm_of}
use Rattle.dr_sweep.specs.Comes.{RunsTooLong, RunsWhole}
use Rattle.dr_sweep.specs.declared.ending.Ending.{Ending}
use Rattle.dr_sweep.specs.declared.ending.Ending.TheVariants.{Done, Finding, Usage, ReadFault, WriteFault, NoMemory, TooLong, BadPlan}
use Rattle.dr_sweep.specs.declared.printing.Asked.{Asked}
use Rattle.dr_sweep.specs.declared.printing.Asked.TheVariants.{Rows, Script}
use Rattle.dr_sweep.specs.declared.printing.NamedPoint.{NamedPoint}
use Rattle.dr_sweep.specs.declared.printing.NamedPoint.TheVariants.{Cut as NamedCut, Gap as NamedGap}
use Rattle.dr_sweep.specs.declared.printing.View.{View}
use Rattle.dr_sweep.specs.Ending.{is_read_fault, is_write_fault, finding_ending}
use Rattle.dr_sweep.specs.Apart.{HaltsApart, IsTakenApart}
use Rattle.dr_sweep.specs.Parts.{AreSwept, FailsPart, FindsCounts, parts_of}
use Rattle.dr_sweep.specs.Printing.{says, asked_of}
use Rattle.dr_top.specs.Offline.{IsTaken, HasTakenSome, HasTakenTooMuch}
use Rattle.dr_words.specs.declared.sweep.SweepCommand.{SweepCommand}

-- the usage line, with its line feed
abbrev pub usage_line : List ℕ
usage_line = codes "usage: sweep [rows | picture | json | script LINE[.PART] SERVER WRITE TORN [DISASTER] | script LINE[.PART] gap [DISASTER] | compare [picture] A B]" ++ 10 ∷ []

-- what is put of a text that is no plan
abbrev pub bad_line_text : ℕ → Reason → List ℕ
bad_line_text line reason = codes "bad plan line " ++ decimal line ++ codes ": " ++ reason_text reason ++ 10 ∷ []

-- what the calm run of a plan comes to
pub record IsCalm (plan : Sweep) (calm : Calm) : Type 0 where
  pub events : List Event
  pub runs : RunsWhole (calm_script plan) events
  pub is : calm ≡ calm_of plan events

-- the text on the calm run of a plan, and on all rows of the one that is tried; a sweep ends as its findings say
pub record IsShown (plan tried : Sweep) (view : View) (text : List ℕ) (ending : Ending) : Type 0 where
  pub calm : Calm
  pub before : IsCalm plan calm
  pub rows : List Outcome
  pub are : AreSwept tried (parts_of tried) rows
  pub says_so : text ≡ says view plan tried calm rows
  pub ends : ending ≡ finding_ending (has_finding tried calm rows)

-- a text to be put of the calm run and rows, and how a call ends that has put it
abbrev pub IsReply : Sweep → Sweep → View → Calm → List Outcome → Reply → Type 0
IsReply plan tried view calm rows reply = (reply.text ≡ says view plan tried calm rows) × (reply.ending ≡ finding_ending (has_finding tried calm rows))

-- the script of a point, or the usage line
abbrev pub IsScript : Option (List ℕ) → List ℕ → Ending → Type 0
IsScript None text ending = (text ≡ usage_line) × (ending ≡ Usage)
IsScript (Some script) text ending = (text ≡ script) × (ending ≡ Done)

-- the script of a device write that is named, with its counts; none if it has no row
abbrev pub IsCutScript : Sweep → ℕ → ℕ → ℕ → ℕ → Torn → Option (List ℕ) → Type 0
IsCutScript plan disaster place server write torn script =
    (counts : Option (List ℕ)) × FindsCounts plan disaster place server write counts × (script ≡ option_and_then (λ writes. script_of plan (Cut disaster place server torn writes)) counts)

-- the script of a point that is named; none if there is no such point
abbrev pub IsScriptOf : Sweep → Option NamedPoint → Option (List ℕ) → Type 0
IsScriptOf plan None script = script ≡ None
IsScriptOf plan (Some (NamedGap disaster place)) script = script ≡ script_of plan (Gap disaster place)
IsScriptOf plan (Some (NamedCut disaster place server write torn)) script = IsCutScript plan disaster place server write torn script

-- what is to be put of a plan, and of the one that is tried, for what is asked, and how a call ends that has put it
abbrev pub IsAnswer : Sweep → Sweep → Asked → List ℕ → Ending → Type 0
IsAnswer plan tried (Rows view) text ending = IsShown plan tried view text ending
IsAnswer plan tried (Script named) text ending = (script : Option (List ℕ)) × IsScriptOf tried named script × IsScript script text ending

-- why there is nothing to print: the calm run of a plan, or a point of the one that is tried
abbrev pub FailsLong : Sweep → Sweep → Type 0
FailsLong plan tried = RunsTooLong (calm_script plan) ⊎ FailsPart tried

module _ {K : Type 0} (written : K → Option (List ℕ)) (sink sink' : K) where
  -- an answer was put
  pub record HasPut (plan tried : Sweep) (asked : Asked) (ending : Ending) : Type 0 where
    pub text : List ℕ
    pub is : IsAnswer plan tried asked text ending
    pub gave : Gave written sink sink' text

  -- a front of one was put
  pub record HasPutPart (plan tried : Sweep) (asked : Asked) : Type 0 where
    pub text : List ℕ
    pub ending : Ending
    pub is : IsAnswer plan tried asked text ending
    pub gave : GavePart written sink sink' text

  -- by the ending, what was put of a plan and the one that is tried
  abbrev pub AnswersBy : Sweep → Sweep → Asked → Ending → Type 0
  AnswersBy plan tried asked Done = HasPut plan tried asked Done
  AnswersBy plan tried asked Finding = HasPut plan tried asked Finding
  AnswersBy plan tried asked Usage = HasPut plan tried asked Usage
  AnswersBy plan tried asked ReadFault = ⊥
  AnswersBy plan tried asked WriteFault = HasPutPart plan tried asked
  AnswersBy plan tried asked NoMemory = sink' ≡ sink
  AnswersBy plan tried asked TooLong = FailsLong plan tried × (sink' ≡ sink)
  AnswersBy plan tried asked BadPlan = ⊥

  -- nothing is put if the tried steps of a plan couldn't be taken apart
  abbrev pub LeavesBy : Sweep → Ending → Type 0
  LeavesBy plan NoMemory = sink' ≡ sink
  LeavesBy plan TooLong = HaltsApart plan × (sink' ≡ sink)
  LeavesBy plan _ = ⊥

  -- of a text that is no plan the line was put that says so, or a front of it
  abbrev pub BadBy : ℕ → Reason → Ending → Type 0
  BadBy line reason BadPlan = Gave written sink sink' (bad_line_text line reason)
  BadBy line reason WriteFault = GavePart written sink sink' (bad_line_text line reason)
  BadBy line reason NoMemory = sink' ≡ sink
  BadBy line reason _ = ⊥

  module _ (faults : K → ℕ) where
    -- a text was put, and the call ends so; or a front of it was, where the sink failed
    abbrev pub Puts : List ℕ → Ending → Ending → Type 0
    Puts text end WriteFault = GavePart written sink sink' text × Rose (faults sink) (faults sink')
    Puts text end result = (end ≡ result) × Gave written sink sink' text × (faults sink' ≡ faults sink)

    -- words that are no command: the usage line; nothing where there was no memory to read them
    abbrev pub EndsUsage : Ending → Type 0
    EndsUsage NoMemory = sink' ≡ sink
    EndsUsage result = Puts usage_line Usage result

    -- the count of the sink rose exactly where the ending says so
    abbrev pub CountsSink : Ending → Type 0
    CountsSink result = Counted (is_write_fault result) (faults sink) (faults sink')

    -- how a call ends that has read a plan, with the one that is tried
    abbrev pub EndsOn : Sweep → Sweep → Asked → Ending → Type 0
    EndsOn plan tried asked result = AnswersBy plan tried asked result × CountsSink result

    -- each `@run` that is tried was taken apart, and that was answered; or it couldn't be
    abbrev pub EndsApart : Sweep → SweepCommand → Ending → Type 0
    EndsApart plan command result = ((tried : Sweep) × IsTakenApart plan tried × EndsOn plan tried (asked_of tried command) result) ⊎ (LeavesBy plan result × CountsSink result)

    -- how one ends that has read a text whose first bad line that is, for this reason
    abbrev pub EndsBad : ℕ → Reason → Ending → Type 0
    EndsBad line reason result = BadBy line reason result × CountsSink result

    -- lines are a plan, and this is what became of it
    pub record OfPlan (lines : List (List ℕ)) (command : SweepCommand) (result : Ending) : Type 0 where
      pub plan : Sweep
      pub is : IsPlan lines plan
      pub ends : EndsApart plan command result

    -- lines are none: with this line the lines so far begin no plan, and the reason is that of the lines up to it
    pub record OfBadLine (lines : List (List ℕ)) (result : Ending) : Type 0 where
      pub line : ℕ
      pub reason : Reason
      pub first : IsFirstBad lines line
      pub reads : sweep_of lines ≡ Err (record { line = line; reason = reason })
      pub none : IsNone lines
      pub ends : EndsBad line reason result

    -- lines are a plan or none, or there was no memory to read them
    abbrev pub EndsText : List (List ℕ) → SweepCommand → Ending → Type 0
    EndsText lines command result = OfPlan lines command result ⊎ OfBadLine lines result ⊎ ((result ≡ NoMemory) × (sink' ≡ sink))

module _ {S K : Type 0} (left : S → Option (List ℕ)) (written : K → Option (List ℕ)) (source source' : S) (sink sink' : K) (read_faults : S → ℕ) (write_faults : K → ℕ) where
  -- all that the source had was taken, within the limits of a script, and this is what became of it
  pub record OfText (command : SweepCommand) (result : Ending) : Type 0 where
    pub text : List ℕ
    pub taken : IsTaken left source source' text
    pub ends : EndsText written sink sink' write_faults (lines text) command result

  -- by the ending: if the text wasn't read to its end, nothing was put
  abbrev pub EndsSweep : SweepCommand → Ending → Type 0
  EndsSweep command ReadFault = HasTakenSome left source source' × (sink' ≡ sink)
  EndsSweep command NoMemory = HasTakenSome left source source' × (sink' ≡ sink)
  EndsSweep command TooLong = OfText command TooLong ⊎ (HasTakenTooMuch left source source' × (sink' ≡ sink))
  EndsSweep command result = OfText command result

  -- A call for a command. A count of source or sink rose exactly where the ending says so.
  pub record IsSweep (command : SweepCommand) (result : Ending) : Type 0 where
    pub ends : EndsSweep command result
    pub reads : Counted (is_read_fault result) (read_faults source) (read_faults source')
    pub writes : Counted (is_write_fault result) (write_faults sink) (write_faults sink')
