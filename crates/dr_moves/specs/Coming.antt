-- What an entry comes to, what that asks, and what it leaves.
use Rattle.std.specs.Prelude.{◌≡◌, ◌≢◌, ◌⊎◌, ℕ, ◌<◌, ◌+◌, Bool, true, false, length, Option, Some, None, is_some, Result, OnOk, OnErr}
use Rattle.dr_ids.specs.declared.refusal.Refusal.{Refusal}
use Rattle.dr_plant.specs.State.{PlantState}
use Rattle.dr_config.specs.Table.{ConfigTable, place_of}
use Rattle.dr_model.specs.Histories.{Write}
use Rattle.dr_model.specs.Log.{Log}
use Rattle.dr_model.specs.Moves as machine
use Rattle.dr_model.specs.Refusals.{stopped}
use Rattle.dr_model.specs.Moves.{Hold, target, fields_left, carried, told, Carried}
use Rattle.dr_model.specs.Carry as machine_next
use Rattle.dr_model.specs.Carry.{Make, OpenAttempt, Entry}
use Rattle.dr_volume.specs.Update.{IsAsBefore, IsMoved, OthersStay}
use Rattle.dr_volume.specs.View.{Rest, volume_seen, track_seen}
use Rattle.dr_moves.specs.Acts.{act_of, act_news, act_told}
use Rattle.dr_moves.specs.Beside.{heard, Takes, is_unchanged}
use Rattle.dr_moves.specs.Checks.{is_stop}
use Rattle.dr_moves.specs.Entered.{is_calm}
use Rattle.dr_moves.specs.Heard.{if_counts}
use Rattle.dr_moves.specs.Here.{world_seen, armed_in, refusal_of}
use Rattle.dr_moves.specs.Turns.{Advances, Halts}
use Rattle.dr_moves.specs.Made.{IsAt, May, Kept, Came}
use Rattle.dr_moves.specs.Moves.{move_of}
use Rattle.dr_moves.specs.declared.beside.News.{News}
use Rattle.dr_moves.specs.declared.beside.News.TheVariants.{Begun}
use Rattle.dr_moves.specs.declared.beside.Nothing.{Nothing}
use Rattle.dr_moves.specs.declared.carrying.Next.{Next}
use Rattle.dr_moves.specs.declared.carrying.Next.TheVariants.{Pass, Do, Bring, Open, Perform, End}
use Rattle.dr_moves.specs.declared.performing.Act.{Act}
use Rattle.dr_moves.specs.declared.performing.Act.TheVariants.{EndFreeze}

-- what an entry comes to, as the machine knows it
abbrev pub next_of : Next → machine_next.Next
next_of Pass = machine_next.Pass
next_of (Do m) = machine_next.Do (Make (move_of m))
next_of (Bring m u t) = machine_next.Do (Make (move_of m))
next_of (Open v k n) = machine_next.Do (OpenAttempt v.0 k.0 n)
next_of (Perform a) = machine_next.Do (act_of a)
next_of (End r) = machine_next.End r

-- what is heard of it where it is done
abbrev pub done_news : Next → Option News
done_news (Open v k n) = Some (Begun k)
done_news (Perform a) = act_news a
done_news _ = None

-- and where it was stopped and counts as done
abbrev pub stop_news : Next → Option News
stop_news (Open v k n) = Some (Begun k)
stop_news _ = None

-- the move may come, carries that track, and lands no host write
pub record MayMake (s : PlantState) (c : ConfigTable) (m : machine.Move) (t : Carried) : Type 0 where
  pub may : May s c m
  pub calm : is_calm m ≡ true
  pub carries : (write : ℕ → Write) → carried m (volume_seen s c) (track_seen s c) write ≡ t

-- the track that it carries can be read
pub record MayBring (s : PlantState) (c : ConfigTable) (m : machine.Move) (u t : ℕ) : Type 0 where
  pub make : MayMake s c m (Some (t, track_seen s c u t))
  pub defined : is_some (place_of c u) ≡ true
  pub running : s.on (volume_seen s c u).server ≡ true
  pub within : t < (volume_seen s c u).tracks

-- what is heard of the act can be heard; no freeze ends in a plan, which leaves the configuration
abbrev pub MayPerform : (News → Type 0) → Act → Type 0
MayPerform takes (EndFreeze l m) = ⊥
MayPerform takes a = Takes takes (act_news a)

-- what it asks where such news can be heard: of a move, that it may come with its track; of a refusal, that it is no stop
abbrev pub MayComeBy : (News → Type 0) → PlantState → ConfigTable → Next → Type 0
MayComeBy takes s c Pass = Unit {0}
MayComeBy takes s c (Do m) = MayMake s c (move_of m) None
MayComeBy takes s c (Bring m u t) = MayBring s c (move_of m) u.0 t
MayComeBy takes s c (Open v k n) = May s c (Hold v.0 k.0 n true) × takes (Begun k)
MayComeBy takes s c (Perform a) = MayPerform takes a
MayComeBy takes s c (End r) = is_stop (Some r) ≡ false

-- the same where nothing lies beside
abbrev pub MayCome : PlantState → ConfigTable → Next → Type 0
MayCome s c next = MayComeBy is_unchanged s c next

-- From s to u that move was made, and nothing else.
pub record WentBy (s u : PlantState) (c : ConfigTable) (m : machine.Move) (t : Carried) : Type 0 where
  pub at : IsAt u c
  pub on : u.on ≡ s.on
  pub moved : IsMoved s u c (target m) (fields_left m (volume_seen s c (target m))) t
  pub others : OthersStay s u c (target m)

-- From s to u what an entry came to was done.
abbrev pub Went : PlantState → PlantState → ConfigTable → Next → Type 0
Went s u c Pass = u ≡ s
Went s u c (Do m) = WentBy s u c (move_of m) None
Went s u c (Bring m v t) = WentBy s u c (move_of m) (Some (t, track_seen s c v.0 t))
Went s u c (Open v k n) = WentBy s u c (Hold v.0 k.0 n true) None
Went s u c (Perform a) = u ≡ s
Went s u c (End r) = ⊥

-- From s to u that move was cut short: its volume was moved where it counts as done, and every other is as before.
pub record CutBy (s u : PlantState) (c : ConfigTable) (counts : Bool) (m : machine.Move) (t : Carried) : Type 0 where
  pub came : Came counts s u c (target m) (fields_left m (volume_seen s c (target m))) t
  pub others : OthersStay s u c (target m)

-- From s to u what an entry came to was cut short; a refusal does nothing, and nothing else is cut short.
abbrev pub CutIn : PlantState → PlantState → ConfigTable → Bool → Next → Type 0
CutIn s u c counts (Do m) = CutBy s u c counts (move_of m) None
CutIn s u c counts (Bring m v t) = CutBy s u c counts (move_of m) (Some (t, track_seen s c v.0 t))
CutIn s u c counts (Open v k n) = CutBy s u c counts (Hold v.0 k.0 n true) None
CutIn s u c counts (End r) = u ≡ s
CutIn s u c counts _ = ⊥

-- It was cut short, and what lies beside has heard of it where it counts.
pub record CutSo {B : Type 0} (after : News → B → B) (s u : PlantState) (x y : B) (c : ConfigTable) (next : Next) : Type 0 where
  pub counts : Bool
  pub cut : CutIn s u c counts next
  pub heard : y ≡ heard after (if_counts counts (stop_news next)) x

-- it doesn't move volume q
abbrev pub NotTarget : Next → ℕ → Type 0
NotTarget (Do m) q = q ≢ target (move_of m)
NotTarget (Bring m u t) q = q ≢ target (move_of m)
NotTarget (Open v k n) q = q ≢ v.0
NotTarget _ q = Unit {0}

-- how many events it tells
abbrev pub cost_of : Next → PlantState → ConfigTable → ℕ
cost_of (Do m) s c = length (told (move_of m) (volume_seen s c (target (move_of m))))
cost_of (Bring m u t) s c = length (told (move_of m) (volume_seen s c (target (move_of m))))
cost_of (Open v k n) s c = 2
cost_of (Perform a) s c = length (act_told a)
cost_of _ s c = 0

-- and at most, also where a server stops in it
abbrev pub most_of : Next → PlantState → ConfigTable → ℕ
most_of (Do m) s c = cost_of (Do m) s c + 1
most_of (Bring m u t) s c = cost_of (Bring m u t) s c + 1
most_of (Open v k n) s c = 3
most_of (Perform a) s c = cost_of (Perform a) s c
most_of _ s c = 0

-- what it ends with: a server has stopped, or it is the entry's own refusal
abbrev pub RefusedAs : PlantState → ConfigTable → Next → Option Refusal → Type 0
RefusedAs s c (Do m) r = r ≡ Some (stopped (volume_seen s c (target (move_of m))).server)
RefusedAs s c (Bring m u t) r = (r ≡ Some (stopped (volume_seen s c u.0).server)) ⊎ (r ≡ Some (stopped (volume_seen s c (target (move_of m))).server))
RefusedAs s c (Open v k n) r = r ≡ Some (stopped (volume_seen s c v.0).server)
RefusedAs s c (End why) r = r ≡ Some why
RefusedAs s c _ r = ⊥

-- it is no refusal, so that nothing but a stop can end the entries
abbrev pub GoesOn : Next → Type 0
GoesOn (End r) = ⊥
GoesOn _ = Unit {0}

-- The call did what an entry came to: each entry that comes to that leads on, or ends all. What lies beside was x, and is y;
-- so many events were told at most.
pub record ActedBeside {B : Type 0} (after : News → B → B) (rest : B → Rest → Rest) (x y : B) (s u : PlantState) (c : ConfigTable) (old new : Log) (next : Next) (most : ℕ) (result : Result (Unit {0}) Refusal) : Type 0 where
  pub advances : OnOk result ((r : Rest) (d : Entry) → d (world_seen s c (rest x r) old.events).control ≡ next_of next → Advances (world_seen s c (rest x r) old.events) d (world_seen u c (rest y r) new.events))
  pub halts : OnErr result ((r : Rest) (d : Entry) → d (world_seen s c (rest x r) old.events).control ≡ next_of next → Halts (armed_in s) (world_seen s c (rest x r) old.events) d (world_seen u c (rest y r) new.events) (refusal_of result))
  pub went : OnOk result (Went s u c next)
  pub heard : OnOk result (y ≡ heard after (done_news next) x)
  pub cut : OnErr result (CutSo after s u x y c next)
  pub kept : Kept s u c old new most (is_stop (refusal_of result)) result
  pub refused : OnErr result (RefusedAs s c next (refusal_of result))
  pub room_left : OnOk result (old.spare ≡ new.spare + cost_of next s c)
  pub others : (q : ℕ) → NotTarget next q → IsAsBefore s u c q

-- the same where nothing lies beside
abbrev pub Acted : PlantState → PlantState → ConfigTable → Log → Log → Next → Result (Unit {0}) Refusal → Type 0
Acted s u c old new next result = ActedBeside {B = Nothing} (λ n x. x) (λ x r. r) (record {}) (record {}) s u c old new next (cost_of next s c + 1) result
