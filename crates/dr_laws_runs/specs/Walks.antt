-- How far lines of one step each come on the way of an `@run`, part by part.
use Rattle.std.specs.Prelude.{◌≡◌, ℕ, ◌≤◌, Bool, true, false, List, [], ◌++◌, length, None}
use Rattle.dr_model.specs.declared.event.Event.{Event}
use Rattle.dr_model.specs.declared.step.Step.{Step}
use Rattle.dr_model.specs.declared.step.Step.TheVariants.{Drain, Exchange}
use Rattle.dr_model.specs.declared.step.Name.{Name}
use Rattle.dr_model.specs.Control.{World}
use Rattle.dr_model.specs.Forming.{Part, Way}
use Rattle.dr_model.specs.Histories.{histories}
use Rattle.dr_model.specs.Plans.{has_room}
use Rattle.dr_model.specs.Runs.{Task, after_tasks}
use Rattle.dr_laws_runs.specs.Parts.{AskForAll, HasRoomFor}

-- a world with another journal
abbrev pub with_events : World → List Event → World
with_events w es = record w { events = es }

-- the second world differs from the first in its journal alone, which has more events and the same histories
pub record TellsMore (v u : World) : Type 0 where
  pub is : u ≡ with_events v u.events
  pub alike : histories u.events ≡ histories v.events
  pub longer : length v.events ≤ length u.events

-- the steps of which an `@run` of session s is made
pub data IsPartOf (s : ℕ) : Step → Type 0 where
  ADrain : (volume : ℕ) → IsPartOf s (Drain volume None)
  AnExchange : (name : Name) → IsPartOf s (Exchange s name true)

-- These lines ask for the first of some parts, and the journal has room for each. Only if it has none for one more, parts are left out.
pub record AskForFirst (u : World) (ts : List Task) (parts : List Part) : Type 0 where
  pub asked : List Part
  pub left : List Part
  pub cut : parts ≡ asked ++ left
  pub asks : AskForAll ts asked
  pub room : HasRoomFor u ts
  pub whole : has_room (after_tasks u ts).events ≡ true → left ≡ []

-- they ask for all, the way isn't refused, and they lead to where it leads
pub record GoThrough (u u' : World) (ts : List Task) (x : Way) : Type 0 where
  pub asks : AskForAll ts x.parts
  pub room : HasRoomFor u ts
  pub unrefused : x.refusal ≡ None
  pub leads : TellsMore x.world u'

-- they ask for the first parts, and the way is refused, if the journal has room for one more
pub record StopWithin (u : World) (ts : List Task) (x : Way) : Type 0 where
  pub first : AskForFirst u ts x.parts
  pub refused : has_room (after_tasks u ts).events ≡ true → x.refusal ≡ None → ⊥

-- by whether the way goes on after them
abbrev pub Walk : Bool → World → World → List Task → Way → Type 0
Walk true u u' ts x = GoThrough u u' ts x
Walk false u u' ts x = StopWithin u ts x
