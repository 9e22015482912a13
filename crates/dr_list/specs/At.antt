-- What the event at a place of a journal tells, if there is one.
use Rattle.std.specs.Prelude.{ℕ, List, [], Option, Some, None}
use Rattle.dr_model.specs.declared.event.Event.{Event}
use Rattle.dr_model.specs.Text.{Heard, line_text, heard}

-- the line of such an event
abbrev pub line_told : Heard → Option Event → List ℕ
line_told told None = []
line_told told (Some e) = line_text told e

-- what it adds to what was told
abbrev pub heard_at : Heard → Option Event → Heard
heard_at told None = told
heard_at told (Some e) = heard told e
