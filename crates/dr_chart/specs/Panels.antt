-- The panels of a picture, and what they share.
use Rattle.std.specs.Prelude.{ℕ, ◌-◌, ◌*◌, Bool, ◌||◌, true, false, List, [], ◌∷◌, ◌++◌, length, map, filter, fold, take, max, min, nat_eq, nat_lt, codes, if◌then◌else◌}
use Rattle.std.specs.List.{flat_map, list_any, range_with_len}
use Rattle.dr_plan.specs.Sweep.{Sweep}
use Rattle.dr_rows.specs.Compare.{Swept}
use Rattle.dr_rows.specs.Kinds.{rows_of}
use Rattle.dr_rows.specs.Outcome.{Outcome}
use Rattle.dr_rows.specs.Places.{most_lost}
use Rattle.dr_rows.specs.Strip.{step_text}
use Rattle.dr_rows.specs.Words.{gap_place, place_name}
use Rattle.dr_chart.specs.Columns.{columns, stretches}
use Rattle.dr_chart.specs.declared.columns.Column.{Column}
use Rattle.dr_chart.specs.declared.columns.Mark.{Mark}
use Rattle.dr_chart.specs.declared.columns.Mark.TheVariants.{Group, NoGroup, NoSession, Torn, Broken, Short}
use Rattle.dr_chart.specs.declared.panels.Frame.{Frame}

-- A panel: what is shown of a disaster and a use.
pub record Panel : Type 0 where
  pub disaster : ℕ
  pub which : ℕ  -- the place of the use
  pub columns : List Column

-- the panel of a disaster and a use
abbrev pub panel_of : Sweep → Bool → List Outcome → ℕ → ℕ → Panel
panel_of plan asks rows disaster which = record { disaster = disaster; which = which; columns = columns plan asks which (rows_of disaster rows) }

-- those of a disaster
abbrev pub disaster_panels : Sweep → Bool → List Outcome → ℕ → List Panel
disaster_panels plan asks rows disaster = map (panel_of plan asks rows disaster) (range_with_len 0 (length plan.uses))

-- those of all disasters, in the plan's order
abbrev pub panels : Sweep → Bool → List Outcome → List Panel
panels plan asks rows = flat_map (disaster_panels plan asks rows) (range_with_len 0 (length plan.loses))

-- ---- what they share

-- the most writes that are lost to a use in any row
abbrev pub highest : Sweep → List Outcome → ℕ
highest plan rows = fold max 0 (map (λ which. most_lost which rows) (range_with_len 0 (length plan.uses)))

-- a text of more than 40 bytes is cut there
abbrev pub cut_short : List ℕ → List ℕ
cut_short text = if nat_lt 40 (length text) then take 40 text ++ codes ".." else text

-- what stands in a stretch: the text of its step; before the first one `here`
abbrev pub stretch_text : Sweep → ℕ → List ℕ
stretch_text plan stretch = if nat_eq stretch 0 then codes "here" else cut_short (step_text plan (stretch - 1))

-- the label of a stretch: its number in the plan, with the part, and that text
abbrev pub label : Sweep → ℕ → List ℕ
label plan stretch = place_name (gap_place plan stretch) ++ codes " " ++ stretch_text plan stretch

-- how long the longest label is
abbrev pub longest : Sweep → ℕ
longest plan = fold max 0 (map (λ stretch. length (label plan stretch)) (range_with_len 0 (stretches plan)))

-- the scale of a plan's panels, if that many writes are lost at most, and how deep their labels go, if the longest has so many bytes: six units a byte
abbrev pub framed : Sweep → ℕ → ℕ → Frame
framed plan most longest = record { most = most; stretches = stretches plan; depth = 6 * max 20 (min 56 longest) }

-- the same by what the plan's rows lose, and by its own labels
abbrev pub frame_of : Sweep → List Outcome → Frame
frame_of plan rows = framed plan (highest plan rows) (longest plan)

-- those of one of two plans, at the scale of both
abbrev pub shared_frame : Swept → Swept → Sweep → Frame
shared_frame a b plan = framed plan (max (highest a.plan a.rows) (highest b.plan b.rows)) (max (longest a.plan) (longest b.plan))

-- ---- which colours and bars occur

-- the colour is that of groups with that number modulo 6
abbrev pub is_group : ℕ → Mark → Bool
is_group n (Group m) = nat_eq n m
is_group n _ = false

-- it is that of no group
abbrev pub is_no_group : Mark → Bool
is_no_group NoGroup = true
is_no_group _ = false

-- it is that of no session
abbrev pub is_no_session : Mark → Bool
is_no_session NoSession = true
is_no_session _ = false

-- it is that of torn bytes which decide
abbrev pub is_torn : Mark → Bool
is_torn Torn = true
is_torn _ = false

-- the column has that colour, or that bar below
abbrev pub has_mark : Mark → Column → Bool
has_mark (Group n) column = is_group n column.mark
has_mark NoGroup column = is_no_group column.mark
has_mark NoSession column = is_no_session column.mark
has_mark Torn column = is_torn column.mark
has_mark Broken column = column.broken
has_mark Short column = column.short

-- some column of the panels has it
abbrev pub occurs : List Panel → Mark → Bool
occurs panels mark = list_any (λ (p : Panel). list_any (has_mark mark) p.columns) panels

-- all colours and bars
abbrev pub marks : List Mark
marks = Group 1 ∷ Group 2 ∷ Group 3 ∷ Group 4 ∷ Group 5 ∷ Group 0 ∷ NoGroup ∷ NoSession ∷ Torn ∷ Broken ∷ Short ∷ []

-- those that occur
abbrev pub occurring : List Panel → List Mark
occurring panels = filter (occurs panels) marks

-- those that occur in the panels of one plan or of another
abbrev pub occurring_in_both : List Panel → List Panel → List Mark
occurring_in_both panels others = filter (λ mark. occurs panels mark || occurs others mark) marks
