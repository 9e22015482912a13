-- What is printed of a sweep.
use Rattle.std.specs.Prelude.{ℕ, zero, suc, ◌+◌, Bool, ◌&&◌, List, ◌++◌, length, nat_eq, position, slice_get, Option, Some, None, option_map, if◌then◌else◌}
use Rattle.std.specs.List.{flat_map}
use Rattle.dr_model.specs.LineWords.{◌>>=◌}
use Rattle.dr_chart.specs.Picture.{picture}
use Rattle.dr_plan.specs.declared.points.Torn.{Torn}
use Rattle.dr_plan.specs.declared.points.Torn.TheVariants.{Unchanged, Zeros, Ones}
use Rattle.dr_plan.specs.Sweep.{Sweep, Tried}
use Rattle.dr_rows.specs.Calm.{Calm}
use Rattle.dr_rows.specs.Json.{json_text}
use Rattle.dr_rows.specs.Line.{heading, row_lines}
use Rattle.dr_rows.specs.Outcome.{Outcome}
use Rattle.dr_rows.specs.Report.{report}
use Rattle.dr_sweep.specs.Parts.{IsOf}
use Rattle.dr_sweep.specs.Reach.{server_of}
use Rattle.dr_sweep.specs.declared.parts.Part.TheVariants.{Within}
use Rattle.dr_sweep.specs.declared.printing.Asked.{Asked}
use Rattle.dr_sweep.specs.declared.printing.Asked.TheVariants.{Rows, Script}
use Rattle.dr_sweep.specs.declared.printing.NamedPoint.{NamedPoint}
use Rattle.dr_sweep.specs.declared.printing.NamedPoint.TheVariants.{Cut, Gap}
use Rattle.dr_sweep.specs.declared.printing.View.{View}
use Rattle.dr_sweep.specs.declared.printing.View.TheVariants.{Report, Table, Picture, Json}
use Rattle.dr_words.specs.declared.sweep.PlanLine.{PlanLine}
use Rattle.dr_words.specs.declared.sweep.SweepCommand.{SweepCommand}
use Rattle.dr_words.specs.declared.sweep.SweepCommand.TheVariants.{Report as OnReport, Rows as OnRows, Picture as OnPicture, Json as OnJson, CutScript, GapScript}
use Rattle.dr_words.specs.declared.sweep.TornBytes.{TornBytes}
use Rattle.dr_words.specs.declared.sweep.TornBytes.TheVariants.{Unchanged as Stays, Zeros as Fills0, Ones as Fills1}

-- a heading, and a line for each loss of each row
abbrev pub rows_text : Sweep → List Outcome → List ℕ
rows_text plan rows = heading ++ flat_map (row_lines plan) rows

-- what is printed of a plan's calm run, and of the rows of the plan that is tried
abbrev pub says : View → Sweep → Sweep → Calm → List Outcome → List ℕ
says Report plan tried calm rows = report plan tried calm rows
says Table plan tried calm rows = rows_text tried rows
says Picture plan tried calm rows = picture tried rows
says Json plan tried calm rows = json_text plan tried calm rows

-- the place of what is counted from 1
abbrev pub place_of : ℕ → Option ℕ
place_of zero = None
place_of (suc n) = Some n

-- the words `none`, `00` and `01` say what they do in a plan
abbrev pub torn_of : TornBytes → Torn
torn_of Stays = Unchanged
torn_of Fills0 = Zeros
torn_of Fills1 = Ones

-- the tried step is the line of the plan that was named, or the part of it
abbrev pub is_at : PlanLine → Tried → Bool
is_at line t = nat_eq t.line line.line && nat_eq t.part line.part

-- the place among the tried steps of the line that was named, or of the part
abbrev pub tried_at : Sweep → PlanLine → Option ℕ
tried_at plan line = position (is_at line) plan.tried

-- the line is that from which on steps are tried
abbrev pub is_here : Sweep → PlanLine → Bool
is_here plan line = nat_eq line.line (length plan.setup + 1) && nat_eq line.part 0

-- how many tried steps come before the gap that the line names: none before the first gap, else those up to the step of that name
abbrev pub gap_at : Sweep → PlanLine → Option ℕ
gap_at plan line = if is_here plan line then Some 0 else option_map (λ n. n + 1) (tried_at plan line)

-- the point that the words `LINE SERVER WRITE TORN DISASTER` name: disasters are counted from 1
abbrev pub cut_of : Sweep → ℕ → PlanLine → List ℕ → ℕ → TornBytes → Option NamedPoint
cut_of plan disaster line server write torn =
    place_of disaster >>= λ d. tried_at plan line >>= λ p. slice_get plan.loses d >>= λ names. server_of names server >>= λ x. Some (Cut d p x write (torn_of torn))

-- the point that the words `LINE gap DISASTER` name
abbrev pub gap_of : Sweep → ℕ → PlanLine → Option NamedPoint
gap_of plan disaster line = place_of disaster >>= λ d. gap_at plan line >>= λ p. Some (Gap d p)

-- what a command asks for
abbrev pub asked_of : Sweep → SweepCommand → Asked
asked_of plan OnReport = Rows Report
asked_of plan OnRows = Rows Table
asked_of plan OnPicture = Rows Picture
asked_of plan OnJson = Rows Json
asked_of plan (CutScript disaster line server write torn) = Script (cut_of plan disaster line server write torn)
asked_of plan (GapScript disaster line) = Script (gap_of plan disaster line)

-- a device write that is asked for is in a tried step, of a server of its disaster
abbrev pub AsksOf : Sweep → Asked → Type 0
AsksOf plan (Script (Some (Cut disaster place server write torn))) = IsOf plan (Within disaster place server)
AsksOf plan _ = Unit {0}
