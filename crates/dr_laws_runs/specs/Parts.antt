-- An `@run` is its drains and exchanges, carried out as lines of one step each.
use Rattle.std.specs.Prelude.{◌≡◌, ℕ, ◌⊎◌, true, List, [], ◌∷◌, ◌++◌, drop, length, Option, Some, None, Ok}
use Rattle.dr_ids.specs.declared.refusal.PhaseName.{PhaseName}
use Rattle.dr_ids.specs.declared.refusal.Refusal.{Refusal}
use Rattle.dr_ids.specs.declared.refusal.Refusal.TheVariants.{OutOfOrder, JournalFull}
use Rattle.dr_model.specs.declared.event.Event.{Event}
use Rattle.dr_model.specs.declared.said.Said.{Said}
use Rattle.dr_model.specs.declared.step.Step.{Step}
use Rattle.dr_model.specs.Answers.{answer}
use Rattle.dr_model.specs.Control.{World}
use Rattle.dr_model.specs.Carried.{carried_out, answered}
use Rattle.dr_model.specs.Plans.{plan, has_room}
use Rattle.dr_model.specs.Forming.{Part, Way, after_part, part_refusal, formed}
use Rattle.dr_model.specs.Runs.{Task, own_course, after_task, after_tasks}

-- ---- the steps of parts

-- A step asks for a part: where the journal has room, the part's plan is what the step table has for it.
pub record AsksFor (step : Step) (x : Part) : Type 0 where
  pub one : own_course (Ok step) ≡ None
  pub plan_is : (events : List Event) (line : ℕ) → has_room events ≡ true → plan x.world.control events line (Ok step) ≡ x.plan

-- these tasks ask for these parts, one by one, each in a line of its own
abbrev pub AskForAll : List Task → List Part → Type 0
AskForAll [] [] = Unit {0}
AskForAll (t ∷ ts) (x ∷ xs) = ((step : Step) × (t.asked ≡ Ok step) × AsksFor step x) × AskForAll ts xs
AskForAll _ _ = ⊥

-- the journal has room for each of these steps
abbrev pub HasRoomFor : World → List Task → Type 0
HasRoomFor w [] = Unit {0}
HasRoomFor w (t ∷ ts) = (has_room w.events ≡ true) × HasRoomFor (after_task w t) ts

-- ---- what is told

-- what a part tells, without an answer
abbrev pub told_by : Part → List Event
told_by x = drop (length x.world.events) (after_part x.world x.plan).events

-- its answer, as a line's
abbrev pub said_by : Part → Said
said_by x = let ends = carried_out x.world x.plan in answered x.plan ends.0.control ends.1

-- what parts tell as lines: each is answered
abbrev pub told_in_lines : List Task → List Part → List Event
told_in_lines (t ∷ ts) (x ∷ xs) = told_by x ++ answer t.line (said_by x) ∷ told_in_lines ts xs
told_in_lines _ _ = []

-- what they tell in an `@run`
abbrev pub told_in_run : List Part → List Event
told_in_run [] = []
told_in_run (x ∷ xs) = told_by x ++ told_in_run xs

-- ---- their answers

-- each of some parts is ok
abbrev pub AllOk : List Part → Type 0
AllOk [] = Unit {0}
AllOk (x ∷ xs) = (part_refusal x.world x.plan ≡ None) × AllOk xs

-- The last part is refused as the line is; or it is ok, and the line ends as nobody is left to ask, or the journal is full, or it is ok.
pub data LastIs : Option Refusal → Option Refusal → Type 0 where
  AsRun : (r : Option Refusal) → LastIs r r
  NobodyLeft : (phase : PhaseName) → LastIs None (Some (OutOfOrder phase))
  NoRoom : LastIs None (Some JournalFull)

-- of the parts of a way each but the last is ok
pub record AnsweredAs (parts : List Part) (refusal : Option Refusal) : Type 0 where
  pub before : List Part
  pub last : Part
  pub cut : parts ≡ before ++ last ∷ []
  pub ok : AllOk before
  pub is : LastIs (part_refusal last.world last.plan) refusal

-- ---- the law

-- Carried out as lines, the parts lead to the world of the `@run`, but for the journal: that tells the same with the answers of the parts.
pub record AreTheRun (w : World) (x : Way) (ts : List Task) : Type 0 where
  pub control : (after_tasks w ts).control ≡ x.world.control
  pub contents : (after_tasks w ts).contents ≡ x.world.contents
  pub told : (after_tasks w ts).events ≡ w.events ++ told_in_lines ts x.parts
  pub run_told : x.world.events ≡ w.events ++ told_in_run x.parts

abbrev pub RunIsItsParts : World → ℕ → ℕ → List Task → Type 0
RunIsItsParts w s n ts = AskForAll ts (formed w s n).parts → HasRoomFor w ts → AreTheRun w (formed w s n) ts

-- a run that has parts is answered as these are
abbrev pub PartsAreAnswered : World → ℕ → ℕ → Type 0
PartsAreAnswered w s n = ((formed w s n).parts ≡ []) ⊎ AnsweredAs (formed w s n).parts (formed w s n).refusal
