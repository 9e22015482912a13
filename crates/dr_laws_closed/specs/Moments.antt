-- What a journal says of the last cut of each attempt and of the group that it flashed, event by event.
use Rattle.std.specs.Prelude.{ℕ, Bool, true, false, ◌&&◌, List, [], nat_eq, if◌then◌else◌}
use Rattle.std.specs.List.{fold}
use Rattle.dr_logic.specs.Tables.{at2}
use Rattle.dr_model.specs.declared.event.Event.{Event}
use Rattle.dr_model.specs.declared.event.Event.TheVariants.{Cut, Flashed, Reverted, Left}
use Rattle.dr_model.specs.Histories.{Lists, Histories, no_history, after_event}

-- for each session and number, what all volumes held at the last cut of that attempt
abbrev pub Moments : Type 0
Moments = ℕ → ℕ → Lists

-- before the first event no attempt has cut anything
abbrev pub no_moments : Moments
no_moments = λ s n v t. []

-- the histories of a journal with its moments
pub record Memory : Type 0 where
  pub history : Histories
  pub moments : Moments

-- what is known before the first event
abbrev pub no_memory : Memory
no_memory = record { history = no_history; moments = no_moments }

-- a cut is the last one of its attempt, until another comes
abbrev pub moments_after : Memory → Event → Moments
moments_after p (Cut s n a) = at2 p.moments s n p.history.now
moments_after p e = p.moments

-- after one event more
abbrev pub memory_event : Memory → Event → Memory
memory_event p e = record { history = after_event p.history e; moments = moments_after p e }

-- after a journal
unfoldable pub memory : List Event → Memory
memory events = fold memory_event no_memory events

-- the moments that a journal gives
abbrev pub moments : List Event → Moments
moments events = (memory events).moments

-- for each session and number, whether a primary stands in the group that was flashed
abbrev pub Standing : Type 0
Standing = ℕ → ℕ → ℕ → Bool

-- before the first event
abbrev pub none_stands : Standing
none_stands = λ s n a. false

-- two entries of such a table are one
abbrev pub is_one : ℕ → ℕ → ℕ → ℕ → ℕ → ℕ → Bool
is_one s n a z k x = nat_eq z s && (nat_eq k n && nat_eq x a)

-- primary a joins the group of attempt n
abbrev pub joins : Standing → ℕ → ℕ → ℕ → Standing
joins g s n a = λ z k x. if is_one s n a z k x then true else g z k x

-- it stands there no more
abbrev pub falls : Standing → ℕ → ℕ → ℕ → Standing
falls g s n a = λ z k x. if is_one s n a z k x then false else g z k x

-- it stands in no group of session s any more
abbrev pub leaves : Standing → ℕ → ℕ → Standing
leaves g s a = λ z k x. if nat_eq z s && nat_eq x a then false else g z k x

-- what an event makes of the groups
abbrev pub standing_event : Standing → Event → Standing
standing_event g (Flashed s n a b c) = joins g s n a
standing_event g (Reverted s n a c) = falls g s n a
standing_event g (Left s a) = leaves g s a
standing_event g e = g

-- the groups after a journal
unfoldable pub standing : List Event → Standing
standing events = fold standing_event none_stands events
