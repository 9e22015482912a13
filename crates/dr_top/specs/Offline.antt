-- How `recover` ends: what recovery makes of a plant image, whatever plant and run it is of.
use Rattle.std.specs.Prelude.{◌≡◌, ℕ, ◌+◌, ◌≤◌, false, List, [], ◌∷◌, ◌++◌, length, Option, codes, Result, Ok, Err}
use Rattle.std.specs.Fmt.{decimal}
use Rattle.dr_logic.specs.Counts.{Counted, Rose}
use Rattle.dr_plant.specs.State.{PlantState}
use Rattle.dr_model.specs.PlantImage.{Volume, reading}
use Rattle.dr_io.specs.Given.{Gave, GavePart, Took, TookAll}
use Rattle.dr_io.specs.Lines.{most_bytes, most_lines}
use Rattle.dr_io.specs.Pieces.{IsWithin, IsPast}
use Rattle.dr_io.specs.declared.limits.Limits.{Limits}
use Rattle.dr_report.specs.Found.{found_in}
use Rattle.dr_report.specs.declared.found.Found.{Found}
use Rattle.dr_report.specs.declared.found.Found.TheVariants.{Lines, Contradiction as Disagree, NoMembers as Nobody}
use Rattle.dr_image.specs.Reader.{Reader, will_read}
use Rattle.dr_top.specs.declared.offline.NotRead.{NotRead}
use Rattle.dr_top.specs.declared.offline.NotRead.TheVariants.{ReadFault as OnSource, TooLong as PastLimit, NoMemory as OnMemory}
use Rattle.dr_top.specs.declared.report.Report.{Report}
use Rattle.dr_top.specs.Outcome.{is_read_fault, is_write_fault}
use Rattle.dr_top.specs.declared.status.Status.{Status}
use Rattle.dr_top.specs.declared.status.Status.TheVariants.{Done, DoneRefused, Usage, ReadFault, WriteFault, NoMemory, TooLong, BadImage, Contradiction, NoMembers}

-- the first bad line of a text that is no image's
abbrev pub bad_report : ℕ → Report
bad_report n = record { status = BadImage; text = codes "bad image line " ++ decimal n ++ 10 ∷ [] }

-- two numbers that no run leaves behind
abbrev pub contradiction_report : ℕ → ℕ → Report
contradiction_report a b = record { status = Contradiction; text = codes "contradiction " ++ (decimal a ++ (codes " " ++ (decimal b ++ 10 ∷ []))) }

-- no volume counts
abbrev pub no_members_report : Report
no_members_report = record { status = NoMembers; text = codes "no members" ++ 10 ∷ [] }

-- of what recovery finds in an image
abbrev pub found_report : Found → Report
found_report (Lines text) = record { status = Done; text = text }
found_report (Disagree a b) = contradiction_report a b
found_report Nobody = no_members_report

-- of what a text reads as
abbrev pub report_by : ℕ → Result (List Volume) ℕ → Report
report_by s (Ok vs) = found_report (found_in vs s)
report_by s (Err n) = bad_report n

-- of a text
abbrev pub report_text : ℕ → List ℕ → Report
report_text s text = report_by s (reading text)

-- how many bytes and lines a script may have, and an image too
abbrev pub script_limits : Limits
script_limits = record { bytes = most_bytes; lines = most_lines }

module _ {S : Type 0} (left : S → Option (List ℕ)) (source source' : S) where
  -- all that the source had was taken, within the limits
  pub record IsTaken (text : List ℕ) : Type 0 where
    pub took : Took left source source' text
    pub all : TookAll left source text
    pub within : IsWithin script_limits text

  -- what was taken is within the limits
  pub record HasTakenSome : Type 0 where
    pub text : List ℕ
    pub took : Took left source source' text
    pub within : IsWithin script_limits text

  -- what was taken passes a limit, that of bytes by one byte at most
  pub record HasTakenTooMuch : Type 0 where
    pub text : List ℕ
    pub took : Took left source source' text
    pub past : IsPast script_limits text
    pub bytes : length text ≤ most_bytes + 1

  module _ (faults : S → ℕ) where
    -- why a text wasn't taken to its end, and what was taken of it
    abbrev pub NotTaken : NotRead → Type 0
    NotTaken OnSource = HasTakenSome × Rose (faults source) (faults source')
    NotTaken PastLimit = HasTakenTooMuch × (faults source' ≡ faults source)
    NotTaken OnMemory = HasTakenSome × (faults source' ≡ faults source)

    -- a text was taken to its end, and this is all of it
    abbrev pub TakesText : Result (List ℕ) NotRead → Type 0
    TakesText (Ok text) = IsTaken text × (faults source' ≡ faults source)
    TakesText (Err fault) = NotTaken fault

    module _ (image : Reader) where
      -- the text of an image was taken to its end, and the reader has all of it
      pub record HasReadAll : Type 0 where
        pub text : List ℕ
        pub taken : IsTaken text
        pub works : image.failed ≡ false
        pub reads : will_read image [] ≡ reading text
        pub kept : faults source' ≡ faults source

      -- how the reading of an image ended
      abbrev pub Reads : Result (Unit {0}) NotRead → Type 0
      Reads (Ok x) = HasReadAll
      Reads (Err fault) = NotTaken fault

module _ {K : Type 0} (written : K → Option (List ℕ)) (sink sink' : K) where
  -- a report was put with its status, or a front of it
  abbrev pub Reports : (K → ℕ) → Report → Status → Type 0
  Reports faults r WriteFault = GavePart written sink sink' r.text × Rose (faults sink) (faults sink')
  Reports faults r status = (r.status ≡ status) × Gave written sink sink' r.text × (faults sink' ≡ faults sink)

module _ {S K : Type 0} (left : S → Option (List ℕ)) (written : K → Option (List ℕ)) (source source' : S) (sink sink' : K) where
  -- the report of all that the source had was put
  pub record HasReported (s : ℕ) (status : Status) : Type 0 where
    pub text : List ℕ
    pub taken : IsTaken left source source' text
    pub is : (report_text s text).status ≡ status
    pub gave : Gave written sink sink' (report_text s text).text

  -- a front of it was put
  pub record HasReportedPart (s : ℕ) : Type 0 where
    pub text : List ℕ
    pub taken : IsTaken left source source' text
    pub gave : GavePart written sink sink' (report_text s text).text

  -- why `recover` ended with its status, and what was put: at a fault of the source, past a limit and without memory nothing
  abbrev pub EndsOffline : ℕ → Status → Type 0
  EndsOffline s Done = HasReported s Done
  EndsOffline s DoneRefused = ⊥
  EndsOffline s Usage = ⊥
  EndsOffline s ReadFault = HasTakenSome left source source' × (sink' ≡ sink)
  EndsOffline s WriteFault = HasReportedPart s
  EndsOffline s NoMemory = HasTakenSome left source source' × (sink' ≡ sink)
  EndsOffline s TooLong = HasTakenTooMuch left source source' × (sink' ≡ sink)
  EndsOffline s BadImage = HasReported s BadImage
  EndsOffline s Contradiction = HasReported s Contradiction
  EndsOffline s NoMembers = HasReported s NoMembers

  -- A call of `recover`: nothing is carried out on the plant, and the journal is told nothing. A count of source or sink rose exactly where
  -- the status says so.
  pub record IsOffline {J : Type 0} (read_faults : S → ℕ) (write_faults : K → ℕ) (s : ℕ) (status : Status) (journal journal' : J) (plant plant' : PlantState) : Type 0 where
    pub ends : EndsOffline s status
    pub reads : Counted (is_read_fault status) (read_faults source) (read_faults source')
    pub writes : Counted (is_write_fault status) (write_faults sink) (write_faults sink')
    pub plant_same : plant' ≡ plant
    pub journal_same : journal' ≡ journal
