-- How a call ends that compares two plans.
use Rattle.std.specs.Prelude.{◌≡◌, ℕ, ◌⊎◌, Bool, ◌||◌, List, ◌++◌, codes, Option, Result, Ok, Err}
use Rattle.std.specs.Str.Lines.{lines}
use Rattle.dr_chart.specs.Picture.{compared_picture}
use Rattle.dr_plan.specs.Outcome.{IsFirstBad, IsNone}
use Rattle.dr_plan.specs.Parts.{IsPlan}
use Rattle.dr_plan.specs.Reading.{sweep_of}
use Rattle.dr_plan.specs.Sweep.{Sweep}
use Rattle.dr_plan.specs.declared.reason.Reason.{Reason}
use Rattle.dr_rows.specs.Compare.{Swept, comparison}
use Rattle.dr_rows.specs.Findings.{has_finding}
use Rattle.dr_sweep.specs.Apart.{HaltsApart, IsTakenApart}
use Rattle.dr_sweep.specs.Calls.{FailsLong, IsCalm, Puts, bad_line_text}
use Rattle.dr_sweep.specs.Ending.{ending_of, fault_ending, finding_ending}
use Rattle.dr_sweep.specs.Parts.{AreSwept, parts_of}
use Rattle.dr_sweep.specs.declared.call.Reply.{Reply}
use Rattle.dr_sweep.specs.declared.comparing.Unread.{Unread}
use Rattle.dr_sweep.specs.declared.comparing.Unread.TheVariants.{NotRead as Untaken, BadLine}
use Rattle.dr_sweep.specs.declared.ending.Ending.{Ending}
use Rattle.dr_sweep.specs.declared.ending.Ending.TheVariants.{NoMemory, BadPlan}
use Rattle.dr_sweep.specs.declared.fault.PointFault.{PointFault}
use Rattle.dr_sweep.specs.declared.fault.PointFault.TheVariants.{NoMemory as PointMemory, TooLong as PointLong}
use Rattle.dr_top.specs.Offline.{IsTaken, NotTaken}
use Rattle.dr_top.specs.declared.offline.NotRead.TheVariants.{NoMemory as OnMemory}
use Rattle.dr_words.specs.Compare.{Compared}
use Rattle.dr_words.specs.declared.compare.ComparedView.{ComparedView}
use Rattle.dr_words.specs.declared.compare.ComparedView.TheVariants.{Table, Picture}

-- ---- what is put

-- what is printed of two sweeps, by the names of their files
abbrev pub says_both : ComparedView → List ℕ → Swept → List ℕ → Swept → List ℕ
says_both Table name a other b = comparison a b
says_both Picture name a other b = compared_picture name a other b

-- a sweep has a finding
abbrev pub has_found : Swept → Bool
has_found swept = has_finding swept.plan swept.calm swept.rows

-- how a call ends that has put it: one of both has a finding, or none has
abbrev pub both_ending : Swept → Swept → Ending
both_ending a b = finding_ending (has_found a || has_found b)

-- a text to be put of two sweeps, and how a call ends that has put it
abbrev pub IsReplyTo : Compared → Swept → Swept → Reply → Type 0
IsReplyTo asked a b reply = (reply.text ≡ says_both asked.view asked.first a asked.second b) × (reply.ending ≡ both_ending a b)

-- what is put of a text that is no plan, after a letter that says which one it is
abbrev pub bad_plan_text : List ℕ → ℕ → Reason → List ℕ
bad_plan_text letter line reason = letter ++ bad_line_text line reason

-- ---- what a sweep of a plan comes to

-- the plan with each `@run` that is tried taken apart, the calm run, and all rows
pub record IsSwept (plan : Sweep) (swept : Swept) : Type 0 where
  pub apart : IsTakenApart plan swept.plan
  pub before : IsCalm plan swept.calm
  pub are : AreSwept swept.plan (parts_of swept.plan) swept.rows

-- why it comes to nothing
abbrev pub FailsSwept : Sweep → PointFault → Type 0
FailsSwept plan PointMemory = Unit {0}
FailsSwept plan PointLong = HaltsApart plan ⊎ ((tried : Sweep) × IsTakenApart plan tried × FailsLong plan tried)

-- ---- a plan is read

-- lines are no plan: with this line the lines so far begin none, and the reason is that of the lines up to it
pub record IsBadAt (lines : List (List ℕ)) (line : ℕ) (reason : Reason) : Type 0 where
  pub first : IsFirstBad lines line
  pub reads : sweep_of lines ≡ Err (record { line = line; reason = reason })
  pub none : IsNone lines

-- what lines are read as: a plan or none, or there was no memory to read them
abbrev pub ReadsLines : List (List ℕ) → Result Sweep Unread → Type 0
ReadsLines lines (Ok plan) = IsPlan lines plan
ReadsLines lines (Err (BadLine line reason)) = IsBadAt lines line reason
ReadsLines lines (Err (Untaken fault)) = fault ≡ OnMemory

module _ {S : Type 0} (left : S → Option (List ℕ)) (source source' : S) (faults : S → ℕ) where
  -- all that the source had was taken, within the limits of a script
  pub record IsWhole (text : List ℕ) : Type 0 where
    pub taken : IsTaken left source source' text
    pub kept : faults source' ≡ faults source

  -- the text of the source is a plan, or it is none, or it couldn't be taken to its end
  abbrev pub ReadsPlan : Result Sweep Unread → Type 0
  ReadsPlan (Ok plan) = (text : List ℕ) × IsWhole text × IsPlan (lines text) plan
  ReadsPlan (Err (Untaken fault)) = NotTaken left source source' faults fault
  ReadsPlan (Err (BadLine line reason)) = (text : List ℕ) × IsWhole text × IsBadAt (lines text) line reason

-- ---- how a call ends

module _ {K : Type 0} (written : K → Option (List ℕ)) (sink sink' : K) (faults : K → ℕ) where
  -- a text was made and put, and the call ends so, or a front of it was put; nothing was if there was no memory to make it
  abbrev pub PutsMade : List ℕ → Ending → Ending → Type 0
  PutsMade text end NoMemory = sink' ≡ sink
  PutsMade text end result = Puts written sink sink' faults text end result

  -- there is no plan: nothing was put, or the line that says by a letter which one is none, and why
  abbrev pub EndsUnread : List ℕ → Unread → Ending → Type 0
  EndsUnread letter (Untaken fault) result = (result ≡ ending_of fault) × (sink' ≡ sink)
  EndsUnread letter (BadLine line reason) result = PutsMade (bad_plan_text letter line reason) BadPlan result

  -- the sweep of a plan came to nothing, and nothing was put
  pub record EndsUnswept (plan : Sweep) (result : Ending) : Type 0 where
    pub fault : PointFault
    pub why : FailsSwept plan fault
    pub ends : result ≡ fault_ending fault
    pub none : sink' ≡ sink

  -- both plans were swept, and what is asked for was put
  pub record EndsSwept (asked : Compared) (plan other : Sweep) (result : Ending) : Type 0 where
    pub first : Swept
    pub of_first : IsSwept plan first
    pub second : Swept
    pub of_second : IsSwept other second
    pub put : PutsMade (says_both asked.view asked.first first asked.second second) (both_ending first second) result

  -- how a call ends that has read both plans
  abbrev pub EndsBoth : Compared → Sweep → Sweep → Ending → Type 0
  EndsBoth asked plan other result = EndsUnswept plan result ⊎ EndsUnswept other result ⊎ EndsSwept asked plan other result

  module _ {B : Type 0} (left : B → Option (List ℕ)) (source source' : B) (read_faults : B → ℕ) where
    -- the second source has no plan
    pub record EndsAtSecond (result : Ending) : Type 0 where
      pub fault : Unread
      pub reads : ReadsPlan left source source' read_faults (Err fault)
      pub ends : EndsUnread (codes "B: ") fault result

    -- it has one
    pub record EndsAfterBoth (asked : Compared) (plan : Sweep) (result : Ending) : Type 0 where
      pub other : Sweep
      pub reads : ReadsPlan left source source' read_faults (Ok other)
      pub ends : EndsBoth asked plan other result

    -- how a call ends that has read the first plan
    abbrev pub EndsWith : Compared → Sweep → Ending → Type 0
    EndsWith asked plan result = EndsAtSecond result ⊎ EndsAfterBoth asked plan result

module _ {A B K : Type 0} (first_left : A → Option (List ℕ)) (second_left : B → Option (List ℕ)) (written : K → Option (List ℕ)) (first first' : A) (second second' : B) (sink sink' : K) (first_faults : A → ℕ) (second_faults : B → ℕ) (write_faults : K → ℕ) where
  -- the first source has no plan, and the second one is left alone
  pub record EndsAtFirst (result : Ending) : Type 0 where
    pub fault : Unread
    pub reads : ReadsPlan first_left first first' first_faults (Err fault)
    pub alone : second' ≡ second
    pub ends : EndsUnread written sink sink' write_faults (codes "A: ") fault result

  -- it has one
  pub record EndsAfterFirst (asked : Compared) (result : Ending) : Type 0 where
    pub plan : Sweep
    pub reads : ReadsPlan first_left first first' first_faults (Ok plan)
    pub ends : EndsWith written sink sink' write_faults second_left second second' second_faults asked plan result

  -- A call that compares two plans: the text of each source is read as a plan, and of both sweeps that is put which is asked for.
  abbrev pub IsCompared : Compared → Ending → Type 0
  IsCompared asked result = EndsAtFirst result ⊎ EndsAfterFirst asked result
