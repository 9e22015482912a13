-- The cells of a row.
use Rattle.std.specs.Prelude.{ℕ, Bool, ◌+◌, ◌/◌, ◌||◌, List, [], ◌∷◌, ◌++◌, length, count_by, find, nat_eq, nat_lt, Option, is_some, codes, if◌then◌else◌}
use Rattle.std.specs.Fmt.{decimal}
use Rattle.std.specs.List.{join_by, list_any, slice_get}
use Rattle.std.specs.Option.{option_map_or}
use Rattle.dr_ids.specs.Spelling.{hex2}
use Rattle.dr_lost.specs.declared.broken.Broken.{Broken}
use Rattle.dr_model.specs.declared.step.Name.{Name}
use Rattle.dr_model.specs.LineText.{name_text, torn_text}
use Rattle.dr_model.specs.LineWords.{◌>>=◌}
use Rattle.dr_model.specs.Text.{group_decision, phase_word}
use Rattle.dr_plan.specs.Points.{torn_word}
use Rattle.dr_plan.specs.Sweep.{Sweep, Use as HostUse}
use Rattle.dr_plan.specs.declared.points.Torn.{Torn}
use Rattle.dr_rows.specs.declared.row.Answer.{Answer}
use Rattle.dr_rows.specs.declared.row.Members.{Members}
use Rattle.dr_rows.specs.declared.row.SessionPhase.{SessionPhase}
use Rattle.dr_rows.specs.Outcome.{Outcome, Loss, groups_in, is_refused}

-- what is said of each of some things, with a space between them; a dash where there are none
abbrev pub listed : {X : Type 0} → (X → List ℕ) → List X → List ℕ
listed says [] = codes "-"
listed says (x ∷ more) = join_by says (codes " ") (x ∷ more)

-- the number of a group that came back
abbrev pub group_said : Answer → List ℕ
group_said a = decimal a.b

-- the decision that it came back with
abbrev pub decision_said : Answer → List ℕ
decision_said a = group_decision (a.a / 256) a.b a.c

-- the groups of a row
abbrev pub group_cell : Outcome → List ℕ
group_cell row = listed group_said (groups_in row)

-- their decisions
abbrev pub decision_cell : Outcome → List ℕ
decision_cell row = listed decision_said (groups_in row)

-- what is said where no group came back, by whether one was asked for
abbrev pub no_group : Bool → List ℕ
no_group asks = if asks then codes "no group" else codes "no session asked"

-- what came back: the groups of these answers with their decisions, or none
abbrev pub kind_of : Bool → List Answer → List ℕ
kind_of asks [] = no_group asks
kind_of asks (a ∷ more) = codes "group " ++ listed group_said (a ∷ more) ++ codes " " ++ listed decision_said (a ∷ more)

-- what came back at a point
unfoldable pub kind : Bool → Outcome → List ℕ
kind asks row = kind_of asks (groups_in row)

-- a cell in which a comma stands is quoted
abbrev pub quoted : List ℕ → List ℕ
quoted cell = if list_any (λ b. nat_eq b 44) cell then 34 ∷ cell ++ 34 ∷ [] else cell

-- the name of a disaster's server, by their places
abbrev pub server_name : Sweep → ℕ → ℕ → List ℕ
server_name plan disaster server = option_map_or name_text (slice_get plan.loses disaster >>= λ names. slice_get names server) []

-- the name of the use at a place, where it has one
abbrev pub name_at : Sweep → ℕ → Option Name
name_at plan which = slice_get plan.uses which >>= λ (u : HostUse). u.name

-- the same as a text, or a dash
abbrev pub use_name : Sweep → ℕ → List ℕ
use_name plan which = option_map_or name_text (name_at plan which) (codes "-")

-- `none`, `00` or `01`
abbrev pub torn_cell : Torn → List ℕ
torn_cell torn = torn_text (torn_word torn)

-- a session, and the phase of its master; `none` where it has no master
abbrev pub phase_said : SessionPhase → List ℕ
phase_said p = hex2 p.session ++ codes ":" ++ phase_word p.phase

-- how many members count, and how many there are
abbrev pub members_said : Members → List ℕ
members_said m = decimal m.counted ++ codes "/" ++ decimal m.all

-- a write by its number
abbrev pub write_said : ℕ → List ℕ
write_said w = codes "w" ++ decimal w

-- the newest write, or a dash
abbrev pub newest_cell : Option ℕ → List ℕ
newest_cell newest = option_map_or write_said newest (codes "-")

-- two dots after lost writes where there are more than these
abbrev pub more_said : Bool → List ℕ
more_said more = if more then codes " .." else []

-- the least of the lost writes, or a dash
abbrev pub least_cell : Loss → List ℕ
least_cell loss = listed write_said loss.least ++ more_said (nat_lt (length loss.least) loss.count)

-- the write that is held, and the lost one on which it depends
abbrev pub broken_said : Broken → List ℕ
broken_said b = write_said b.held ++ codes " on " ++ write_said b.lost

-- the same where there is one, or a dash
abbrev pub broken_cell : Option Broken → List ℕ
broken_cell broken = option_map_or broken_said broken (codes "-")

-- how many answers are refusals
abbrev pub refused_count : List Answer → ℕ
refused_count answers = count_by is_refused answers

-- the line of the first refusal, by its number in the plan, or a dash
abbrev pub first_refused_cell : Sweep → List Answer → List ℕ
first_refused_cell plan answers = option_map_or (λ (a : Answer). decimal (plan.then_line + a.line)) (find is_refused answers) (codes "-")

-- a use has a name
abbrev pub is_named : HostUse → Bool
is_named u = is_some u.name

-- the plan has a use with a name, or more than one
abbrev pub names_uses : Sweep → Bool
names_uses plan = nat_lt 1 (length plan.uses) || list_any is_named plan.uses

-- the line that stands before what is said of the use at a place, if the plan names uses
abbrev pub use_head : Sweep → ℕ → List ℕ
use_head plan which = if names_uses plan then codes "use " ++ use_name plan which ++ 10 ∷ [] else []
