-- The group that an attempt of a session has flashed, and when the cuts of its members are closed: by places of the journal.
use Rattle.std.specs.Prelude.{◌≡◌, ℕ, List, ◌∷◌, ◌++◌}
use Rattle.dr_model.specs.declared.event.Event.{Event}
use Rattle.dr_model.specs.declared.event.Event.TheVariants.{Begin, Flashed, Reverted, Left}
use Rattle.dr_model.specs.Groups.{In}
use Rattle.dr_model.specs.Histories.{lists}
use Rattle.dr_model.specs.Cuts.{CutAt}

-- Primary a stands in the group of attempt n of session s: the target of its member was flashed, and since then that wasn't taken
-- back, nor did the target leave the session.
pub record InGroup (events : List Event) (s n a : ℕ) : Type 0 where
  pub before : List Event
  pub behind : List Event
  pub from : ℕ
  pub target : ℕ
  pub is : events ≡ before ++ Flashed s n a from target ∷ behind
  pub stands : (c : ℕ) → In (Reverted s n a c) behind → ⊥
  pub stays : In (Left s a) behind → ⊥

-- the last place where any volume is cut for attempt n of session s
pub record LastCut (events : List Event) (s n : ℕ) : Type 0 where
  pub volume : ℕ
  pub place : CutAt events s n volume
  pub last : (v : ℕ) → CutAt place.behind s n v → ⊥

-- each cut stands behind the begin of its attempt
abbrev pub AllBegun : List Event → Type 0
AllBegun events = (s n a : ℕ) → (c : CutAt events s n a) → In (Begin s n) c.before

-- The cuts of attempt n of session s are closed. Each member of the group was cut, behind the begin of the attempt; and all cuts are of
-- one moment: each is what its volume held at the last of them, on every track.
pub record ClosedCuts (events : List Event) (s n : ℕ) : Type 0 where
  pub cut : (a : ℕ) → InGroup events s n a → CutAt events s n a
  pub begins : (a : ℕ) → InGroup events s n a → (c : CutAt events s n a) → In (Begin s n) c.before
  pub last : (a : ℕ) → InGroup events s n a → LastCut events s n
  pub moment : (a : ℕ) → InGroup events s n a → (c : CutAt events s n a) (p : LastCut events s n) → (t : ℕ) → lists c.before a t ≡ lists p.place.before a t
