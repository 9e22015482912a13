-- What the number in an answer counts: what was done in the step, by the events that it told.
use Rattle.std.specs.Prelude.{◌≡◌, ◌==◌, ℕ, Bool, false, List, [], ◌∷◌, ◌++◌, filter, length, None, Ok, is_some, if◌then◌else◌}
use Rattle.dr_model.specs.declared.event.Event.{Event}
use Rattle.dr_model.specs.declared.event.Event.TheVariants.{Sent, Copied, Back}
use Rattle.dr_model.specs.declared.said.Addition.{Addition}
use Rattle.dr_model.specs.declared.said.Addition.TheVariants.{Counted}
use Rattle.dr_model.specs.declared.said.Said.TheVariants.{Done}
use Rattle.dr_model.specs.declared.step.Step.{Step}
use Rattle.dr_model.specs.declared.step.Step.TheVariants.{Drain, Copy, Destage}
use Rattle.dr_model.specs.Answers.{answer}
use Rattle.dr_model.specs.Control.{World}
use Rattle.dr_model.specs.Entries.{fields_at}
use Rattle.dr_model.specs.Runs.{Task, after_task, run}
use Rattle.dr_laws_sound.specs.Acknowledged.{said_in}

-- how many events of a list are so
abbrev pub count : (Event → Bool) → List Event → ℕ
count is events = length (filter is events)

-- volume a sent a track
abbrev pub is_sent_by : ℕ → Event → Bool
is_sent_by a (Sent v q u) = v == a
is_sent_by a e = false

-- target t took a track of its source
abbrev pub is_copied_to : ℕ → Event → Bool
is_copied_to t (Copied v q) = v == t
is_copied_to t e = false

-- a source took a track back from target t
abbrev pub is_back_from : ℕ → Event → Bool
is_back_from t (Back v q u) = u == t
is_back_from t e = false

-- From w to u a step on line n told some events between those of w and its answer. Its answer is `ok K`, and K of them are so.
pub record CountsTold (w u : World) (n : ℕ) (said : Addition) (is : Event → Bool) : Type 0 where
  pub told : List Event
  pub events : u.events ≡ (w.events ++ told) ++ answer n (Done said) ∷ []
  pub counts : said ≡ Counted (count is told)

-- Volume v had a track staged, and the answer is `ok 1`, or none, and it is `ok 0`; and it has none now.
pub record Destages (w u : World) (said : Addition) (v : ℕ) : Type 0 where
  pub counts : said ≡ Counted (if is_some (w.control.volume v).staged then 1 else 0)
  pub left : (u.control.volume v).staged ≡ None

-- What a step on line n counts, which led from w to u with this answer. A drain of a: the tracks that a sent. A copy of target t: the tracks that t took,
-- or, if t is restored, those that its source took back. A destage of v: one, if a track was staged on v.
abbrev pub Counts : World → World → ℕ → Addition → Step → Type 0
Counts w u n said (Drain a most) = CountsTold w u n said (is_sent_by a)
Counts w u n said (Copy t most) = CountsTold w u n said (if (fields_at w.control t).reversing then is_back_from t else is_copied_to t)
Counts w u n said (Destage v) = Destages w u said v
Counts w u n said step = Unit {0}

-- each step of a run that is answered ok counts so
abbrev pub CountsAreOfSteps : List Task → Type 0
CountsAreOfSteps tasks =
    (before behind : List Task) (t : Task) (s : Step) (said : Addition) → tasks ≡ before ++ t ∷ behind → t.asked ≡ Ok s → said_in (run before) t ≡ Done said
    → Counts (run before) (after_task (run before) t) t.line said s
