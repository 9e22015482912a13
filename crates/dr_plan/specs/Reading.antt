-- How a plan is read line by line, and why a line can't stand where it stands.
use Rattle.std.specs.Prelude.{ℕ, ◌+◌, Bool, true, false, ◌&&◌, ◌||◌, List, [], ◌∷◌, ◌++◌, length, map, nat_eq, nat_le, nat_lt, Option, Some, None, Result, Ok, Err, if◌then◌else◌}
use Rattle.std.specs.List.{list_any}
use Rattle.std.specs.Option.{option_or}
use Rattle.std.specs.Str.{bytes_eq}
use Rattle.dr_model.specs.declared.step.Name.{Name}
use Rattle.dr_model.specs.declared.step.Step.{Step}
use Rattle.dr_model.specs.declared.grammar.Item.{Item}
use Rattle.dr_model.specs.declared.grammar.Span.{Span}
use Rattle.dr_model.specs.Grammar.{line_of}
use Rattle.dr_model.specs.LineText.{name_text, step_text}
use Rattle.dr_model.specs.LineWords.{paired, span_len}
use Rattle.dr_plan.specs.declared.marks.Mark.{Mark}
use Rattle.dr_plan.specs.declared.marks.Mark.TheVariants.{Lose, Use, AtMost, Here, Then, Refused}
use Rattle.dr_plan.specs.declared.reason.Reason.{Reason}
use Rattle.dr_plan.specs.declared.reason.Reason.TheVariants.{HereMayStand, ServerTwice, ManyDisasters, ManyServers, ManyUses, UnknownServer, UnequalRanges, UnknownVolume, OtherSize, Syntax, NoLineFollows, Missing}
use Rattle.dr_plan.specs.declared.reason.Lack.TheVariants.{Lose as LackLose, Use as LackUse, Here as LackHere, Then as LackThen}
use Rattle.dr_plan.specs.declared.stages.Stage.{Stage}
use Rattle.dr_plan.specs.declared.stages.Stage.TheVariants.{Start, Losing, Using, Bounded, Trying, Recovering}
use Rattle.dr_plan.specs.declared.above.VolumeSize.{VolumeSize}
use Rattle.dr_plan.specs.declared.reading.Reading.{Reading}
use Rattle.dr_plan.specs.Above.{unless, is_among, servers_in, volumes_in, tracks_of}
use Rattle.dr_plan.specs.Marks.{is_mark, mark_of}
use Rattle.dr_plan.specs.Sweep.{Sweep, Use as HostUse, Tried, empty, most_disasters, most_servers, most_uses}

-- ---- stages

-- how far a plan is after such a line; none where it can't stand there
abbrev pub stage_after : Mark → Stage → Option Stage
stage_after (Lose servers) Start = Some Losing
stage_after (Lose servers) Losing = Some Losing
stage_after (Use name first second) Losing = Some Using
stage_after (Use name first second) Using = Some Using
stage_after (AtMost n) Using = Some Bounded
stage_after Here Using = Some Trying
stage_after Here Bounded = Some Trying
stage_after Then Trying = Some Recovering
stage_after Refused stage = Some stage
stage_after _ _ = None

-- ---- what a line's own words may be wrong in

-- of the names of a disaster, after those before them: each comes once, and is that of a server that lines above define
unfoldable pub servers_fault : List Name → List Name → List Name → Option Reason
servers_fault known before [] = None
servers_fault known before (name ∷ rest) =
    if is_among name before then Some (ServerTwice name)
    else if is_among name known then servers_fault known (before ++ name ∷ []) rest
    else Some (UnknownServer name)

-- of two volumes, by how many tracks lines above give them
abbrev pub sizes_fault : ℕ → ℕ → Option ℕ → Option ℕ → Option Reason
sizes_fault first second None n = Some (UnknownVolume first)
sizes_fault first second (Some m) None = Some (UnknownVolume second)
sizes_fault first second (Some m) (Some n) = if nat_eq m n then None else Some (OtherSize first second)

-- of a pair, by the sizes that lines above give volumes
abbrev pub pair_fault : List VolumeSize → Item → Option Reason
pair_fault sizes pair = sizes_fault pair.first pair.second (tracks_of sizes pair.first) (tracks_of sizes pair.second)

-- the first fault of pairs
unfoldable pub pairs_fault : List VolumeSize → List Item → Option Reason
pairs_fault sizes [] = None
pairs_fault sizes (pair ∷ rest) = option_or (pair_fault sizes pair) (pairs_fault sizes rest)

-- ---- uses

-- both lines of `use` say the same name, or none
abbrev pub is_same_use : Option Name → Option Name → Bool
is_same_use None None = true
is_same_use (Some a) (Some b) = bytes_eq (name_text a) (name_text b)
is_same_use _ _ = false

-- some use has that name
abbrev pub has_use : List HostUse → Option Name → Bool
has_use uses name = list_any (λ (u : HostUse). is_same_use u.name name) uses

-- a use after a line of that name with these pairs
abbrev pub joined : Option Name → List Item → HostUse → HostUse
joined name pairs u = if is_same_use u.name name then record u { pairs = u.pairs ++ pairs } else u

-- pairs join the use of that name, or are a use more
abbrev pub with_pairs : List HostUse → Option Name → List Item → List HostUse
with_pairs uses name pairs = if has_use uses name then map (joined name pairs) uses else uses ++ record { name = name; pairs = pairs } ∷ []

-- ---- what a line adds

-- a comment of the plan's own stands in the set-up and in the recovery; among tried lines it makes no step
abbrev pub with_line : Stage → List ℕ → Sweep → Sweep
with_line Trying line plan = plan
with_line Recovering line plan = record plan { recovery = plan.recovery ++ line ∷ [] }
with_line _ line plan = record plan { setup = plan.setup ++ line ∷ [] }

-- the tried steps of a line of several, of which the first is that part
unfoldable pub parts_from : ℕ → ℕ → List Step → List Tried
parts_from number part [] = []
parts_from number part (step ∷ steps) = record { line = number; part = part; text = step_text step } ∷ parts_from number (part + 1) steps

-- the tried steps of a line with that number, by its steps
abbrev pub tried_steps : ℕ → List ℕ → List Step → List Tried
tried_steps number line [] = []
tried_steps number line (step ∷ []) = record { line = number; part = 0; text = line } ∷ []
tried_steps number line steps = parts_from number 1 steps

-- a line with these steps belongs to the part in which it stands
abbrev pub kept : Stage → ℕ → List ℕ → List Step → Sweep → Sweep
kept Trying number line steps plan = record plan { tried = plan.tried ++ tried_steps number line steps }
kept stage number line steps plan = with_line stage line plan

-- a disaster more, of few servers
abbrev pub lost_names : List Name → List ℕ → Sweep → Result Sweep Reason
lost_names servers line plan =
    unless (servers_fault (servers_in plan.setup) [] servers) (record plan { loses = plan.loses ++ servers ∷ []; setup = plan.setup ++ line ∷ [] })

-- a disaster more
abbrev pub lost_too : List Name → List ℕ → Sweep → Result Sweep Reason
lost_too servers line plan =
    if nat_lt (length plan.loses) most_disasters
    then (if nat_le (length servers) most_servers then lost_names servers line plan else Err ManyServers)
    else Err ManyDisasters

-- pairs more, of ranges of equal length
abbrev pub used_pairs : Option Name → List Item → List ℕ → Sweep → Result Sweep Reason
used_pairs name pairs line plan =
    unless (pairs_fault (volumes_in plan.setup) pairs) (record plan { uses = with_pairs plan.uses name pairs; setup = plan.setup ++ line ∷ [] })

-- ranges more
abbrev pub used_too : Option Name → Span → Span → List ℕ → Sweep → Result Sweep Reason
used_too name first second line plan =
    if has_use plan.uses name || nat_lt (length plan.uses) most_uses
    then (if nat_eq (span_len first) (span_len second) then used_pairs name (paired first second) line plan else Err UnequalRanges)
    else Err ManyUses

-- what a line of the plan's own with that number adds
abbrev pub noted : ℕ → Stage → Mark → List ℕ → Sweep → Result Sweep Reason
noted number stage (Lose servers) line plan = lost_too servers line plan
noted number stage (Use name first second) line plan = used_too name first second line plan
noted number stage (AtMost n) line plan = Ok (record plan { bound = Some n; setup = plan.setup ++ line ∷ [] })
noted number stage Here line plan = Ok plan
noted number stage Then line plan = Ok (record plan { then_line = number })
noted number stage Refused line plan = Ok (record (with_line stage line plan) { announced = plan.announced ++ (number + 1) ∷ [] })

-- the line announces a refusal in the next one
abbrev pub announces : Mark → Bool
announces Refused = true
announces _ = false

-- ---- a line

-- a reading in that stage, after what the line of the plan's own added
abbrev pub moved : Mark → Stage → Result Sweep Reason → Result Reading Reason
moved mark stage (Ok plan) = Ok (record { stage = stage; waits = announces mark; plan = plan })
moved mark stage (Err reason) = Err reason

-- after a line of the plan's own, by the stage that it leads to
abbrev pub marked_in : ℕ → Reading → List ℕ → Mark → Option Stage → Result Reading Reason
marked_in number r line mark None = Err (HereMayStand r.stage)
marked_in number r line mark (Some stage) = moved mark stage (noted number r.stage mark line r.plan)

-- after a line of the plan's own, by what it says
abbrev pub marked : ℕ → Reading → List ℕ → Option Mark → Result Reading Reason
marked number r line None = Err (HereMayStand r.stage)
marked number r line (Some mark) = marked_in number r line mark (stage_after mark r.stage)

-- after any other line, by its steps; an announcement waits for a line with some
abbrev pub plain : ℕ → Reading → List ℕ → Result (List Step) ℕ → Result Reading Reason
plain number r line (Err column) = Err (Syntax column)
plain number r line (Ok steps) =
    if r.waits && nat_eq (length steps) 0 then Err NoLineFollows else Ok (record r { waits = false; plan = kept r.stage number line steps r.plan })

-- a reading after the line with that number; or why it can't stand there
unfoldable pub read_on : ℕ → Reading → List ℕ → Result Reading Reason
read_on number r line =
    if is_mark line then (if r.waits then Err NoLineFollows else marked number r line (mark_of line)) else plain number r line (line_of line)

-- ---- all lines

-- a bad line, and why it is bad
pub record Bad : Type 0 where
  pub line : ℕ
  pub reason : Reason

-- what is missing after the last line
abbrev pub lacking : Stage → Option Reason
lacking Start = Some (Missing LackLose)
lacking Losing = Some (Missing LackUse)
lacking Using = Some (Missing LackHere)
lacking Bounded = Some (Missing LackHere)
lacking Trying = Some (Missing LackThen)
lacking Recovering = None

-- what is missing after a reading: the line of an announcement, or one of the plan's own
abbrev pub missing : Reading → Option Reason
missing r = if r.waits then Some NoLineFollows else lacking r.stage

-- after the last line, whose number is one less, a plan has all its parts; or it is bad for what is missing
abbrev pub finished_by : ℕ → Sweep → Option Reason → Result Sweep Bad
finished_by number plan None = Ok plan
finished_by number plan (Some reason) = Err (record { line = number; reason = reason })

-- the plan that was read before the line with that number, which isn't there
abbrev pub finished : ℕ → Reading → Result Sweep Bad
finished number r = finished_by number r.plan (missing r)

-- What the lines from that number on make of a reading: the plan; or the first line that can't stand where it stands, and why. Where one
-- is missing, that is the one after the last.
unfoldable pub read_lines : ℕ → Reading → List (List ℕ) → Result Sweep Bad
read_lines number r [] = finished number r
read_lines number r (line ∷ rest) =
    elim (read_on number r line) as (λ _. Result Sweep Bad) [ Err reason ↦ Err (record { line = number; reason = reason }) | Ok next ↦ read_lines (number + 1) next rest ]

-- a reading before the first line
abbrev pub begun : Reading
begun = record { stage = Start; waits = false; plan = empty }

-- the plan that lines are, or its first bad line, counted from 1
abbrev pub sweep_of : List (List ℕ) → Result Sweep Bad
sweep_of lines = read_lines 1 begun lines
