-- The picture as a text. Lengths are units of the picture, and those of columns are hundredths of it.
use Rattle.std.specs.Prelude.{ℕ, ◌+◌, ◌-◌, ◌*◌, ◌/◌, Bool, ◌&&◌, true, false, List, [], ◌∷◌, ◌++◌, length, count_by, max, min, nat_eq, nat_lt, Option, Some, None, codes, if◌then◌else◌}
use Rattle.std.specs.Fmt.{decimal}
use Rattle.std.specs.List.{flat_map, range_with_len, slice_get}
use Rattle.std.specs.Option.{option_map_or}
use Rattle.dr_plan.specs.Sweep.{Sweep}
use Rattle.dr_rows.specs.declared.row.SessionPhase.{SessionPhase}
use Rattle.dr_rows.specs.Compare.{Swept}
use Rattle.dr_rows.specs.Cells.{no_group, phase_said, use_head}
use Rattle.dr_rows.specs.Findings.{asks_recovery, has_no_group}
use Rattle.dr_rows.specs.Kinds.{lost_at_once, rows_of, servers_of, worst_line}
use Rattle.dr_rows.specs.Outcome.{Outcome, is_broken, lacks_members}
use Rattle.dr_chart.specs.Panels.{Panel, frame_of, label, occurring, occurring_in_both, panels, shared_frame}
use Rattle.dr_chart.specs.declared.columns.Column.{Column}
use Rattle.dr_chart.specs.declared.columns.Mark.{Mark}
use Rattle.dr_chart.specs.declared.columns.Mark.TheVariants.{Group, NoGroup, NoSession, Torn, Broken, Short}
use Rattle.dr_chart.specs.declared.panels.Frame.{Frame}

-- what is said of each of some things, by its number; the first one has that number
abbrev pub numbered : {X : Type 0} → (ℕ → X → List ℕ) → ℕ → List X → List ℕ
numbered says i [] = []
numbered says i (x ∷ more) = says i x ++ numbered says (i + 1) more

-- ---- texts and marks

-- A byte as XML takes it: `<`, `>` and `&` are escaped, a control byte is a space, and what is no ASCII is shown as U+FFFD.
abbrev pub shown : ℕ → List ℕ
shown b =
    if nat_eq b 60 then codes "&lt;"
    else if nat_eq b 62 then codes "&gt;"
    else if nat_eq b 38 then codes "&amp;"
    else if nat_lt b 32 then codes " "
    else if nat_lt 126 b then codes "&#xFFFD;"
    else b ∷ []

-- a text that XML takes as no mark
abbrev pub escaped : List ℕ → List ℕ
escaped text = flat_map shown text

-- an attribute that is a number
abbrev pub attribute : List ℕ → ℕ → List ℕ
attribute name n = codes " " ++ name ++ codes "='" ++ decimal n ++ codes "'"

-- a rectangle
unfoldable pub rect_text : ℕ → ℕ → ℕ → ℕ → List ℕ → List ℕ
rect_text x y width height paint =
    codes "<rect" ++ attribute (codes "x") x ++ attribute (codes "y") y ++ attribute (codes "width") width ++ attribute (codes "height") height ++ codes " " ++ paint ++ (codes "/>" ++ 10 ∷ [])

-- the begin of a text that is read from below
unfoldable pub turned : ℕ → ℕ → List ℕ
turned x y = codes "<text transform='translate(" ++ decimal x ++ codes " " ++ decimal y ++ codes ") rotate(-90)' font-size='10'"

-- the end of a text
abbrev pub text_end : List ℕ
text_end = codes "</text>" ++ 10 ∷ []

-- the colours of groups, by their numbers modulo 6
abbrev pub palette : ℕ → List ℕ
palette n =
    if nat_eq n 0 then codes "fill='#9c755f'"
    else if nat_eq n 1 then codes "fill='#4e79a7'"
    else if nat_eq n 2 then codes "fill='#59a14f'"
    else if nat_eq n 3 then codes "fill='#edc948'"
    else if nat_eq n 4 then codes "fill='#b07aa1'"
    else codes "fill='#76b7b2'"

-- how a mark is painted; if no session is asked, white with a border
abbrev pub paint : Mark → List ℕ
paint (Group n) = palette n
paint NoGroup = codes "fill='#bbbbbb'"
paint NoSession = codes "fill='#ffffff' stroke='#999999' stroke-width='50'"
paint Torn = codes "fill='#e31a1c'"
paint Broken = codes "fill='#000000'"
paint Short = codes "fill='#888888'"

-- ---- where columns stand

-- what is left of 820 units if each stretch has 15 of them
abbrev pub spare : ℕ → ℕ
spare stretches = 82000 - 1500 * stretches

-- how wide the picture is: 900 units, or more if its stretches need it
abbrev pub width : ℕ → ℕ
width stretches = 80 + (1500 * stretches + spare stretches) / 100

-- the part of what is left that so many columns of all have
abbrev pub share : ℕ → ℕ → ℕ → ℕ
share left i count = left * i / max 1 count

-- where the stretch with that number begins, if so many columns of all stand before it
abbrev pub edge : Frame → ℕ → ℕ → ℕ → ℕ
edge f count stretch i = 6000 + 1500 * stretch + share (spare f.stretches) i count

-- how many columns stand before a stretch
abbrev pub columns_before : List Column → ℕ → ℕ
columns_before columns stretch = count_by (λ (c : Column). nat_lt c.stretch stretch) columns

-- where a stretch begins
abbrev pub border : Frame → List Column → ℕ → ℕ
border f columns stretch = edge f (length columns) stretch (columns_before columns stretch)

-- how many columns it has
abbrev pub columns_within : List Column → ℕ → ℕ
columns_within columns stretch = columns_before columns (stretch + 1) - columns_before columns stretch

-- how wide it is; a number past the largest of 32 bits is that one
abbrev pub span : Frame → List Column → ℕ → ℕ
span f columns stretch = min (border f columns (stretch + 1) - border f columns stretch) 4294967295

-- where the column with that number begins: the columns of a stretch share it alike
abbrev pub column_begin : Frame → List Column → ℕ → Column → ℕ
column_begin f columns i column = border f columns column.stretch + share (span f columns column.stretch) (i - columns_before columns column.stretch) (columns_within columns column.stretch)

-- how wide it is; a little of it lies below the next one
abbrev pub breadth : Frame → List Column → Column → ℕ
breadth f columns column = span f columns column.stretch / max 1 (columns_within columns column.stretch) + 40

-- how high so many lost writes are, up to 160 units
abbrev pub rise : Frame → ℕ → ℕ
rise f lost = 16000 * lost / max 1 f.most

-- ---- columns

-- what stands above: that high, and a little more, so that its colour is seen if nothing is lost
unfoldable pub body_text : ℕ → ℕ → ℕ → List ℕ → List ℕ
body_text x breadth high paint = rect_text x (16000 - high) breadth (high + 300) paint

-- a bar below a column
unfoldable pub bar_text : ℕ → ℕ → ℕ → Bool → Mark → List ℕ
bar_text x y breadth has mark = if has then rect_text x y breadth 400 (paint mark) else []

-- a column in its colour, and the bars below it: black if a row is broken, grey if fewer members count than there are
abbrev pub column_text : Frame → ℕ → ℕ → Column → List ℕ
column_text f x breadth column =
    body_text x breadth (rise f column.lost) (paint column.mark) ++ bar_text x 16500 breadth column.broken Broken ++ bar_text x 17000 breadth column.short Short

-- the column of that number
abbrev pub column_at : Frame → List Column → ℕ → Column → List ℕ
column_at f columns i column = column_text f (column_begin f columns i column) (breadth f columns column) column

-- all columns, in hundredths of a unit
abbrev pub columns_text : Frame → List Column → List ℕ
columns_text f columns = (codes "<g transform='translate(0 120) scale(.01)'>" ++ 10 ∷ []) ++ numbered (column_at f columns) 0 columns ++ (codes "</g>" ++ 10 ∷ [])

-- ---- phases

-- both are the same phase of the same session
abbrev pub is_same_phase : Option SessionPhase → Option SessionPhase → Bool
is_same_phase (Some p) (Some q) = nat_eq p.session q.session && nat_eq p.phase q.phase
is_same_phase None None = true
is_same_phase _ _ = false

-- the phase of a column
abbrev pub phase_of : Option Column → Option SessionPhase
phase_of None = None
phase_of (Some column) = column.phase

-- the phase of the column before that number
abbrev pub phase_before : List Column → ℕ → Option SessionPhase
phase_before columns i = if nat_eq i 0 then None else phase_of (slice_get columns (i - 1))

-- the name of a phase, above the columns
unfoldable pub phase_text : ℕ → SessionPhase → List ℕ
phase_text x phase = turned x 114 ++ codes " fill='#666666'>" ++ phase_said phase ++ text_end

-- the phase of the first session, if it isn't that of the column before
abbrev pub phase_at : Frame → List Column → ℕ → Column → List ℕ
phase_at f columns i column =
    if is_same_phase (phase_before columns i) column.phase then [] else option_map_or (phase_text (column_begin f columns i column / 100 + 8)) column.phase []

-- all changes of the phase
abbrev pub phases_text : Frame → List Column → List ℕ
phases_text f columns = numbered (phase_at f columns) 0 columns

-- ---- stretches

-- a label that ends at that place
unfoldable pub label_text : ℕ → List ℕ → List ℕ
label_text x label = turned x 306 ++ codes " text-anchor='end'>" ++ escaped label ++ text_end

-- the dotted line at the end of a stretch
unfoldable pub dots_text : ℕ → List ℕ
dots_text x = codes "<path d='M" ++ decimal x ++ (codes " 120V300' stroke='#999999' stroke-dasharray='2 2'/>" ++ 10 ∷ [])

-- both, of the stretch between two places
abbrev pub stretch_marks : Sweep → ℕ → ℕ → ℕ → List ℕ
stretch_marks plan stretch begin end = label_text ((begin + end) / 200 + 3) (label plan stretch) ++ dots_text (end / 100)

-- both, of the stretch of that number
abbrev pub stretch_at : Sweep → Frame → List Column → ℕ → List ℕ
stretch_at plan f columns stretch = stretch_marks plan stretch (border f columns stretch) (border f columns (stretch + 1))

-- those of all stretches
abbrev pub stretches_text : Sweep → Frame → List Column → List ℕ
stretches_text plan f columns = flat_map (stretch_at plan f columns) (range_with_len 0 f.stretches)

-- ---- heads and axes

-- two texts, in bold letters
unfoldable pub bold_text : List ℕ → List ℕ → List ℕ
bold_text first second = codes "<text x='60' y='14' font-size='13' font-weight='bold'>" ++ escaped first ++ escaped second ++ text_end

-- the disaster's servers, and the use; a name stands before them, which is empty if one plan is drawn
abbrev pub servers_text : List ℕ → Sweep → ℕ → ℕ → List ℕ
servers_text name plan disaster which = bold_text (name ++ lost_at_once (servers_of plan disaster)) (use_head plan which)

-- how many rows there are, and how many of them are broken, have no group, and have members that don't count
unfoldable pub counts_text : ℕ → ℕ → ℕ → ℕ → List ℕ
counts_text points broken none short =
    codes "<text x='60' y='30'>" ++ decimal points ++ codes " points, " ++ decimal broken ++ codes " broken, " ++ decimal none ++ codes " without a group, " ++ decimal short
    ++ (codes " with members that don't count</text>" ++ 10 ∷ [])

-- the same of some rows
abbrev pub counts_of : Bool → ℕ → List Outcome → List ℕ
counts_of asks which rows = counts_text (length rows) (count_by (is_broken which) rows) (count_by (has_no_group asks) rows) (count_by lacks_members rows)

-- a text below the counts
unfoldable pub plain_text : List ℕ → List ℕ
plain_text text = codes "<text x='60' y='46'>" ++ escaped text ++ text_end

-- the worst of some rows, with the words that show it
abbrev pub worst_text : Sweep → ℕ → List Outcome → List ℕ
worst_text plan which rows = plain_text (worst_line plan which rows)

-- the head of a panel
abbrev pub head_text : List ℕ → Sweep → Bool → ℕ → ℕ → List Outcome → List ℕ
head_text name plan asks disaster which rows = servers_text name plan disaster which ++ counts_of asks which rows ++ worst_text plan which rows

-- a line across the panel, with a number
unfoldable pub line_text : ℕ → ℕ → ℕ → List ℕ
line_text y right n =
    codes "<g transform='translate(0 " ++ decimal y ++ codes ")'><path d='M60 0H" ++ decimal right ++ codes "' stroke='#dddddd'/><text x='54' y='4' text-anchor='end'>" ++ decimal n
    ++ (codes "</text></g>" ++ 10 ∷ [])

-- the same in its place
abbrev pub grid_text : Frame → ℕ → List ℕ
grid_text f n = line_text (280 - rise f n / 100) (width f.stretches - 20) n

-- a line at half the height, if that is a number of its own
abbrev pub half_text : Frame → List ℕ
half_text f = if nat_lt 1 f.most then grid_text f (f.most / 2) else []

-- what the axes say
unfoldable pub titles_text : List ℕ
titles_text =
    (codes "<text transform='translate(20 200) rotate(-90)' text-anchor='middle'>writes lost</text>" ++ 10 ∷ [])
    ++ (codes "<text transform='translate(20 306) rotate(-90)' text-anchor='end'>lines of the plan</text>" ++ 10 ∷ [])

-- the axes
abbrev pub axes_text : Frame → List ℕ
axes_text f = titles_text ++ grid_text f 0 ++ half_text f ++ grid_text f (max 1 f.most)

-- ---- panels

-- how much higher a panel begins than the next one
abbrev pub height : Frame → ℕ
height f = 330 + f.depth

-- where the panel with that number begins
abbrev pub top : Frame → ℕ → ℕ
top f place = 40 + height f * place

-- what is drawn of columns
abbrev pub drawn : Sweep → Frame → List Column → List ℕ
drawn plan f columns = axes_text f ++ columns_text f columns ++ phases_text f columns ++ stretches_text plan f columns

-- a head and what is drawn below it
abbrev pub filled : List ℕ → Sweep → Bool → Frame → ℕ → ℕ → List Column → List Outcome → List ℕ
filled name plan asks f disaster which columns rows = head_text name plan asks disaster which rows ++ drawn plan f columns

-- a panel, with the rows of its disaster
abbrev pub panel_text : List ℕ → Sweep → Bool → List Outcome → Frame → Panel → List ℕ
panel_text name plan asks rows f panel = filled name plan asks f panel.disaster panel.which panel.columns (rows_of panel.disaster rows)

-- the begin of what is moved down by that
unfoldable pub moved : ℕ → List ℕ
moved y = codes "<g transform='translate(0 " ++ decimal y ++ (codes ")'>" ++ 10 ∷ [])

-- its end
unfoldable pub moved_end : List ℕ
moved_end = codes "</g>" ++ 10 ∷ []

-- the panel with that number, in its place
abbrev pub panel_at : List ℕ → Sweep → Bool → List Outcome → Frame → ℕ → Panel → List ℕ
panel_at name plan asks rows f place panel = moved (top f place) ++ panel_text name plan asks rows f panel ++ moved_end

-- ---- the legend

-- the groups of a colour, by their numbers modulo 6
abbrev pub group_words : ℕ → List ℕ
group_words n =
    if nat_eq n 0 then codes "group 6, 12 .."
    else if nat_eq n 1 then codes "group 1, 7 .."
    else if nat_eq n 2 then codes "group 2, 8 .."
    else if nat_eq n 3 then codes "group 3, 9 .."
    else if nat_eq n 4 then codes "group 4, 10 .."
    else codes "group 5, 11 .."

-- what a mark says
abbrev pub mark_words : Mark → List ℕ
mark_words (Group n) = group_words n
mark_words NoGroup = no_group true
mark_words NoSession = no_group false
mark_words Torn = codes "the torn bytes decide"
mark_words Broken = codes "broken: a write is held without one on which it depends"
mark_words Short = codes "fewer members count than there are"

-- a line with a paint and what it says, at that height
unfoldable pub entry_text : ℕ → List ℕ → List ℕ → List ℕ
entry_text y paint words =
    codes "<g transform='translate(60 " ++ decimal y ++ codes ")'><g transform='scale(.01)'>" ++ rect_text 0 0 1200 1200 paint ++ codes "</g><text x='18' y='11'>" ++ words
    ++ (codes "</text></g>" ++ 10 ∷ [])

-- that of a mark with the number of its line below the panels
abbrev pub mark_at : ℕ → ℕ → Mark → List ℕ
mark_at below i mark = entry_text (below + 18 * i) (paint mark) (mark_words mark)

-- ---- all

-- the title, in a picture of that size
unfoldable pub begin_text : ℕ → ℕ → List ℕ
begin_text wide high =
    codes "<svg xmlns='http://www.w3.org/2000/svg'" ++ attribute (codes "width") wide ++ attribute (codes "height") high
    ++ (codes " font-family='sans-serif' font-size='12' fill='#333333'>" ++ 10 ∷ [])

-- the ground and the title
unfoldable pub title_text : List ℕ
title_text =
    (codes "<title>what a disaster costs, at each moment of the plan</title>" ++ 10 ∷ []) ++ (codes "<rect width='100%' height='100%' fill='#ffffff'/>" ++ 10 ∷ [])
    ++ (codes "<text x='60' y='24' font-size='17'>What a disaster costs, at each moment of the plan</text>" ++ 10 ∷ [])

-- panels, and a legend of the marks that occur in them
abbrev pub panels_text : Sweep → Bool → List Outcome → Frame → List Panel → List Mark → List ℕ
panels_text plan asks rows f panels found =
    begin_text (width f.stretches) (top f (length panels) + 18 * length found + 16) ++ title_text ++ numbered (panel_at [] plan asks rows f) 0 panels
    ++ numbered (mark_at (top f (length panels))) 0 found ++ (codes "</svg>" ++ 10 ∷ [])

-- the same with those marks
abbrev pub drawn_panels : Sweep → Bool → List Outcome → List Panel → List ℕ
drawn_panels plan asks rows panels = panels_text plan asks rows (frame_of plan rows) panels (occurring panels)

-- the picture of a plan's rows: a panel for each disaster and use
abbrev pub picture : Sweep → List Outcome → List ℕ
picture plan rows = drawn_panels plan (asks_recovery plan) rows (panels plan (asks_recovery plan) rows)

-- ---- two plans

-- the panels of a plan, of which so many stand above, each headed with a name
abbrev pub named_panels : List ℕ → Sweep → List Outcome → Frame → ℕ → List Panel → List ℕ
named_panels name plan rows f above panels = numbered (panel_at (name ++ codes ": ") plan (asks_recovery plan) rows f) above panels

-- the panels of one plan and then of another, each by its name and in its frame, and a legend of the marks that occur in them
abbrev pub both_text : List ℕ → Swept → Frame → List Panel → List ℕ → Swept → Frame → List Panel → List Mark → List ℕ
both_text name a f panels other b g others found =
    begin_text (max (width f.stretches) (width g.stretches)) (top f (length panels + length others) + 18 * length found + 16) ++ title_text
    ++ named_panels name a.plan a.rows f 0 panels ++ named_panels other b.plan b.rows g (length panels) others
    ++ numbered (mark_at (top f (length panels + length others))) 0 found ++ (codes "</svg>" ++ 10 ∷ [])

-- the same with those marks, at the scale of both
abbrev pub drawn_both : List ℕ → Swept → List Panel → List ℕ → Swept → List Panel → List ℕ
drawn_both name a panels other b others =
    both_text name a (shared_frame a b a.plan) panels other b (shared_frame a b b.plan) others (occurring_in_both panels others)

-- the picture of two sweeps: all panels of the first one and then all of the second, each headed with the name of its file
abbrev pub compared_picture : List ℕ → Swept → List ℕ → Swept → List ℕ
compared_picture name a other b =
    drawn_both name a (panels a.plan (asks_recovery a.plan) a.rows) other b (panels b.plan (asks_recovery b.plan) b.rows)
