-- The answers of the recovery's steps.
use Rattle.std.specs.Prelude.{ℕ, ◌-◌, List, slice_get, nat_le, Option, Some, None, if◌then◌else◌}
use Rattle.std.specs.List.{filter_map}
use Rattle.std.specs.Option.{option_and_then}
use Rattle.dr_model.specs.declared.event.Event.{Event}
use Rattle.dr_model.specs.declared.event.Event.TheVariants.{Answer as Answered}
use Rattle.dr_rows.specs.declared.row.Answer.{Answer}

-- the answer that an event is, if its line comes after that one; lines are counted from there on
abbrev pub answer_in : ℕ → Event → Option Answer
answer_in before (Answered line code a b c) = if nat_le line before then None else Some (record { line = line - before; code = code; a = a; b = b; c = c })
answer_in before _ = None

-- the answer that the event at a place is
abbrev pub answer_at : ℕ → List Event → ℕ → Option Answer
answer_at before events place = option_and_then (answer_in before) (slice_get events place)

-- the answers of the steps in the lines after that one, in order
abbrev pub answers_of : ℕ → List Event → List Answer
answers_of before events = filter_map (answer_in before) events
