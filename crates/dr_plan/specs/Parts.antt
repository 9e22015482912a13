-- A plan in the words of the one who writes it.
use Rattle.std.specs.Prelude.{◌≡◌, ℕ, ◌+◌, ◌≤◌, Bool, true, false, not, List, [], ◌∷◌, ◌++◌, length, map, filter, fold, Option, Some, None, Ok, All}
use Rattle.dr_model.specs.declared.grammar.Item.{Item}
use Rattle.dr_model.specs.declared.grammar.Span.{Span}
use Rattle.dr_model.specs.declared.step.Name.{Name}
use Rattle.dr_model.specs.declared.step.Step.{Step}
use Rattle.dr_model.specs.Grammar.{line_of}
use Rattle.dr_model.specs.LineText.{name_fits}
use Rattle.dr_model.specs.LineWords.{paired, span_len}
use Rattle.dr_plan.specs.declared.marks.Mark.{Mark}
use Rattle.dr_plan.specs.declared.marks.Mark.TheVariants.{Lose, Use, AtMost, Here, Then, Refused}
use Rattle.dr_plan.specs.Above.{is_among, defines_server, tracks_in, line_steps, steps_of}
use Rattle.dr_plan.specs.Marks.{is_mark, mark_of}
use Rattle.dr_plan.specs.Reading.{announces, tried_steps, with_pairs}
use Rattle.dr_plan.specs.Sweep.{Sweep, Use as HostUse, Tried, texts, most_disasters, most_servers, most_uses, is_unbroken}

-- ---- the plan's own lines

-- the line is one of the plan's own, and says this
abbrev pub IsMark : List ℕ → Mark → Type 0
IsMark line mark = (is_mark line ≡ true) × (mark_of line ≡ Some mark)

-- what a line of the plan's own says isn't an announcement
abbrev pub is_structural : Option Mark → Bool
is_structural None = true
is_structural (Some mark) = not (announces mark)

-- what the lines say that begin with `#sweep`, in order, without the announcements
abbrev pub marks_in : List (List ℕ) → List (Option Mark)
marks_in lines = filter is_structural (map mark_of (filter is_mark lines))

-- a line of `use`
pub record Ranges : Type 0 where
  pub name : Option Name
  pub first : Span
  pub second : Span

-- what it says
abbrev pub use_mark : Ranges → Mark
use_mark r = Use r.name r.first r.second

-- its pairs of volumes, one by one
abbrev pub pairs_of : Ranges → List Item
pairs_of r = paired r.first r.second

-- the line of the bound, where there is one
abbrev pub bound_marks : Option ℕ → List Mark
bound_marks None = []
bound_marks (Some n) = AtMost n ∷ []

-- uses with one line more: lines of one name are one use, and those without a name are one
abbrev pub with_ranges : List HostUse → Ranges → List HostUse
with_ranges uses r = with_pairs uses r.name (pairs_of r)

-- the uses of lines, in the order in which their names first come
abbrev pub uses_of : List Ranges → List HostUse
uses_of lines = fold with_ranges [] lines

-- ---- what they name

-- a line that says this stands among lines, after those
abbrev pub StandsAfter : List (List ℕ) → List (List ℕ) → Mark → Type 0
StandsAfter lines above mark = (line : List ℕ) × (below : List (List ℕ)) × (lines ≡ above ++ line ∷ below) × IsMark line mark

-- no name comes twice
abbrev pub ComeOnce : List Name → Type 0
ComeOnce names = (before after : List Name) (name : Name) → names ≡ before ++ name ∷ after → is_among name before ≡ false

-- lines define both volumes, with as many tracks
abbrev pub AreAlike : List (List ℕ) → Item → Type 0
AreAlike above pair = (tracks : ℕ) × (tracks_in above pair.first ≡ Some tracks) × (tracks_in above pair.second ≡ Some tracks)

-- The set-up says the disasters, after them the volumes that are used, and last the bound. What these name is defined by lines above
-- them; no disaster names a server twice, or more than eight, and ranges are of equal length.
pub record IsSetup (plan : Sweep) : Type 0 where
  pub used : List Ranges
  pub marks : marks_in plan.setup ≡ map Some (map Lose plan.loses ++ map use_mark used ++ bound_marks plan.bound)
  pub uses : plan.uses ≡ uses_of used
  pub some_lost : 1 ≤ length plan.loses
  pub few_lost : length plan.loses ≤ most_disasters
  pub few_servers : All (λ (names : List Name). length names ≤ most_servers) plan.loses
  pub some_used : 1 ≤ length used
  pub few_used : length plan.uses ≤ most_uses
  pub once : All ComeOnce plan.loses
  pub servers : (above : List (List ℕ)) (names : List Name) → StandsAfter plan.setup above (Lose names) → All (λ name. defines_server above name ≡ true) names
  pub lengths : All (λ (r : Ranges). span_len r.first ≡ span_len r.second) used
  pub volumes : (above : List (List ℕ)) (r : Ranges) → StandsAfter plan.setup above (use_mark r) → All (AreAlike above) (pairs_of r)

-- ---- lines of steps

-- the line stands in the grammar; a comment does, and so does a line of the plan's own
abbrev pub IsRead : List ℕ → Type 0
IsRead line = (steps : List Step) × (line_of line ≡ Ok steps)

-- a line of one step
abbrev pub IsOneStep : List ℕ → Type 0
IsOneStep line = (step : Step) × (line_of line ≡ Ok (step ∷ []))

-- the steps that are tried of lines, of which the first has that number
unfoldable pub tried_from : ℕ → List (List ℕ) → List Tried
tried_from number [] = []
tried_from number (line ∷ rest) = tried_steps number line (line_steps line) ++ tried_from (number + 1) rest

-- these are tried for lines of which the first has that number: they have the same steps, one by one
pub record Tries (number : ℕ) (between : List (List ℕ)) (tried : List Tried) : Type 0 where
  pub apart : tried ≡ tried_from number between
  pub one : All (λ (t : Tried). IsOneStep t.text) tried
  pub steps : steps_of (texts tried) ≡ steps_of between

-- ---- announcements

-- the first of these lines has a step
abbrev pub BeginWithStep : List (List ℕ) → Type 0
BeginWithStep [] = ⊥
BeginWithStep (line ∷ rest) = (step : Step) × (steps : List Step) × (line_of line ≡ Ok (step ∷ steps))

-- the number after that of a line, where it is one of the plan's own that announces a refusal
abbrev pub announced_by : ℕ → Bool → Option Mark → List ℕ
announced_by number true (Some Refused) = (number + 1) ∷ []
announced_by number _ _ = []

-- the numbers of the lines after announcements, of lines of which the first has that number
unfoldable pub announced_from : ℕ → List (List ℕ) → List ℕ
announced_from number [] = []
announced_from number (line ∷ rest) = announced_by number (is_mark line) (mark_of line) ++ announced_from (number + 1) rest

-- ---- the plan

-- These lines are this plan: its set-up, `here`, lines whose steps are tried, `then`, and its recovery. After each announcement stands a
-- line with a step.
pub record IsPlan (lines : List (List ℕ)) (plan : Sweep) : Type 0 where
  pub begin : List ℕ
  pub between : List (List ℕ)
  pub end : List ℕ
  pub cut : lines ≡ (plan.setup ++ begin ∷ between) ++ end ∷ plan.recovery
  pub begins : IsMark begin Here
  pub ends : IsMark end Then
  pub setup : IsSetup plan
  pub unmarked : marks_in between ≡ []
  pub unmarked_after : marks_in plan.recovery ≡ []
  pub read : All IsRead lines
  pub tries : Tries (length plan.setup + 2) between plan.tried
  pub place : plan.then_line ≡ length plan.setup + 2 + length between
  pub announced : plan.announced ≡ announced_from 1 lines
  pub followed : (above below : List (List ℕ)) (line : List ℕ) → lines ≡ above ++ line ∷ below → IsMark line Refused → BeginWithStep below

-- what holds of each plan: it has one to eight disasters, of at most eight names that a line can say and each of which comes once, and at
-- most eight uses, no line feed stands in a line, and what is tried is one step a line
pub record IsSweep (plan : Sweep) : Type 0 where
  pub some_lost : 1 ≤ length plan.loses
  pub few_lost : length plan.loses ≤ most_disasters
  pub few_servers : All (λ (names : List Name). length names ≤ most_servers) plan.loses
  pub once : All ComeOnce plan.loses
  pub fit : All (All (λ (name : Name). name_fits name ≡ true)) plan.loses
  pub few_used : length plan.uses ≤ most_uses
  pub setup : All (λ line. is_unbroken line ≡ true) plan.setup
  pub tried : All (λ (t : Tried). is_unbroken t.text ≡ true) plan.tried
  pub one : All (λ (t : Tried). IsOneStep t.text) plan.tried
  pub recovery : All (λ line. is_unbroken line ≡ true) plan.recovery
