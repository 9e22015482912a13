-- Along a journal no volume is cut twice for one number.
use Rattle.std.specs.Prelude.{◌≡◌, ℕ, List, [], ◌∷◌, None}
use Rattle.dr_model.specs.declared.event.Event.{Event}
use Rattle.dr_model.specs.declared.event.Event.TheVariants.{Cut}
use Rattle.dr_model.specs.Histories.{no_history, lists}
use Rattle.dr_model.specs.Moves.{Move, Hold}
use Rattle.dr_model.specs.Cuts.{Cuts, Past, CutAt, cuts, no_cuts, past_event}

-- before the first event
abbrev pub no_past : Past
no_past = record { history = no_history; cuts = no_cuts }

-- the volume wasn't cut for the number before
abbrev pub IsNew : Past → Event → Type 0
IsNew p (Cut s n a) = p.cuts.by n a ≡ None
IsNew p e = Unit {0}

-- each of some events, one after another
unfoldable pub AllNew : Past → List Event → Type 0
AllNew p [] = Unit {0}
AllNew p (e ∷ es) = IsNew p e × AllNew (past_event p e) es

-- along a journal
abbrev pub CutOnce : List Event → Type 0
CutOnce events = AllNew no_past events

-- an event that cuts no volume, and a list of such
abbrev pub NoCut : Event → Type 0
NoCut (Cut s n a) = ⊥
NoCut e = Unit {0}

-- none of some events
abbrev pub NoCuts : List Event → Type 0
NoCuts [] = Unit {0}
NoCuts (e ∷ es) = NoCut e × NoCuts es

-- the last place of a journal where volume a is cut for attempt n: it is session s's, and what is held of the cut are the lists there
pub record LastCutAt (events : List Event) (s n a : ℕ) : Type 0 where
  pub place : CutAt events s n a
  pub held : (t : ℕ) → (cuts events).held n a t ≡ lists place.before a t
  pub last : (z : ℕ) → CutAt place.behind z n a → ⊥

-- a hold is the first of its volume for its number
abbrev pub HoldsNew : Cuts → Move → Type 0
HoldsNew c (Hold v s n first) = c.by n v ≡ None
HoldsNew c m = Unit {0}
