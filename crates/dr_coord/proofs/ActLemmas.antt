-- What an entry of an attempt comes to; checks before it; and what a hold leaves.
use Rattle.std.proofs.Common.{ℕ, ◌≡◌, ◌≢◌, ◌≤◌, ◌+◌, arith, ◌⊎◌, inl, inr, Bool, true, false, List, [], ◌∷◌, refl, sym, ◌∙◌, ap, subst, Option, None, Some}
use Rattle.std.specs.Prelude.{nat_lt, is_some, if◌then◌else◌, Result, Ok, Err, OnOk, OnErr}
use Rattle.std.specs.Option.{option_or}
use Rattle.dr_ids.specs.declared.names.SessionId.{SessionId}
use Rattle.dr_ids.specs.declared.names.VolumeId.{VolumeId}
use Rattle.dr_ids.specs.declared.refusal.Refusal.{Refusal}
use Rattle.dr_plant.specs.State.{PlantState}
use Rattle.dr_config.specs.Table.{ConfigTable, place_of}
use Rattle.dr_model.specs.declared.event.Event.{Event}
use Rattle.dr_model.specs.Control.{Control, World}
use Rattle.dr_model.specs.Pairs.{records, is_engaged}
use Rattle.dr_model.specs.Moves.{Hold, Free, Finish}
use Rattle.dr_model.specs.Carry as machine
use Rattle.dr_model.specs.Carry.{Make, OpenAttempt, Pass, Do}
use Rattle.dr_model.specs.Log.{Log}
use Rattle.dr_model.specs.PairEntries.{refuse_if}
use Rattle.dr_model.specs.SessionEntries.{last_of, hold_refusal, stale_refusal, hold_on, hold_entries, free_on, is_past, finish_on}
use Rattle.dr_volume.specs.Update.{OthersStay}
use Rattle.dr_volume.specs.View.{Rest, volume_seen}
use Rattle.dr_moves.specs.Beside.{heard}
use Rattle.dr_moves.specs.Checks.{Checked, is_stop}
use Rattle.dr_moves.specs.Coming.{next_of, done_news, MayComeBy, CutSo, NotTarget, RefusedAs, cost_of, most_of, ActedBeside}
use Rattle.dr_moves.specs.Heard.{if_counts}
use Rattle.dr_moves.specs.Here.{world_seen, armed_in, refusal_of}
use Rattle.dr_moves.specs.Made.{IsPrimary, Kept}
use Rattle.dr_moves.specs.Turns.{Leads, Fails}
use Rattle.dr_moves.specs.declared.beside.News.{News}
use Rattle.dr_moves.specs.declared.beside.News.TheVariants.{Begun}
use Rattle.dr_moves.specs.declared.carrying.Next.{Next}
use Rattle.dr_moves.proofs.KeptLemmas.{kept-more}
use Rattle.dr_moves.proofs.TurnLemmas.{ok-along, err-along}
use Rattle.dr_moves.proofs.EntryLemmas.{ends-clear, ends-why}
use Rattle.dr_coord.specs.Changes.{hold_next, HoldHeard, void_on}
use Rattle.dr_facts.proofs.Refusals.{none-both}

or-some : (a b : Option Refusal) (e : Refusal) → option_or a b ≡ Some e → (a ≡ Some e) ⊎ ((a ≡ None) × (b ≡ Some e))
or-some None b e is = inr (refl, is)
or-some (Some d) b e is = inl is

pub two-checked : (w : World) (why also : Control → Option Refusal) (o : Option Refusal) → o ≡ option_or (why w.control) (also w.control) → Checked w (refuse_if why ∷ refuse_if also ∷ []) o
two-checked w why also None is = λ armed u r ds more.
    let none = none-both (why w.control) (also w.control) (sym is) in
    ends-clear armed u r w why (refuse_if also ∷ ds) none.0 (ends-clear armed u r w also ds none.1 more)
two-checked w why also (Some e) is = λ armed ds. elim (or-some (why w.control) (also w.control) e (sym is)) [
  | inl first ↦ ends-why armed w why e (refuse_if also ∷ ds) first
  | inr second ↦ ends-clear armed w (Some e) w why (refuse_if also ∷ ds) second.0 (ends-why armed w also e ds second.1)
]

hold-is : (recorded first : Bool) (a : VolumeId) (k : SessionId) (n : ℕ) → ◌≡◌ {A = machine.Next} (if recorded then Pass else Do (if first then OpenAttempt a.0 k.0 n else Make (Hold a.0 k.0 n false))) (next_of (hold_next recorded first a k n))
hold-is true first a k n = refl
hold-is false true a k n = refl
hold-is false false a k n = refl

-- the entries of an attempt, by what the primary's fields say
module _ (s : PlantState) (t : ConfigTable) (r : Rest) (events : List Event) (v : ℕ) where
  abbrev w : World
  w = world_seen s t r events

  pub free-skips : (volume_seen s t v).fields.coordination ≡ false → free_on v w.control ≡ Pass
  free-skips is = ap (λ b. if b then Do (Make (Free v)) else Pass) is

  pub free-comes : (volume_seen s t v).fields.coordination ≡ true → free_on v w.control ≡ Do (Make (Free v))
  free-comes is = ap (λ b. if b then Do (Make (Free v)) else Pass) is

  pub finish-skips : (n : ℕ) → is_past n (volume_seen s t v).fields ≡ true → finish_on v n w.control ≡ Pass
  finish-skips n is = ap (λ b. if b then Pass else Do (Make (Finish v n))) is

  pub finish-comes : (n : ℕ) → is_past n (volume_seen s t v).fields ≡ false → finish_on v n w.control ≡ Do (Make (Finish v n))
  finish-comes n is = ap (λ b. if b then Pass else Do (Make (Finish v n))) is

  pub void-skips : is_engaged (volume_seen s t v).fields ≡ false → void_on v w.control ≡ Pass
  void-skips is = ap (λ b. if b then Do (Make (Finish v 0)) else Pass) is

  pub void-comes : is_engaged (volume_seen s t v).fields ≡ true → void_on v w.control ≡ Do (Make (Finish v 0))
  void-comes is = ap (λ b. if b then Do (Make (Finish v 0)) else Pass) is

-- a hold
hold-comes : (w : World) (recorded first : Bool) (a : VolumeId) (k : SessionId) (n : ℕ) → recorded ≡ records n (w.control.volume a.0).fields → nat_lt (last_of w.control k.0) n ≡ first → hold_on k.0 a.0 n w.control ≡ next_of (hold_next recorded first a k n)
hold-comes w recorded first a k n is so =
    ap (λ b. if b then Pass else Do (if nat_lt (last_of w.control k.0) n then OpenAttempt a.0 k.0 n else Make (Hold a.0 k.0 n false))) (sym is)
    ∙ ap (λ b. if recorded then Pass else Do (if b then OpenAttempt a.0 k.0 n else Make (Hold a.0 k.0 n false))) so
    ∙ hold-is recorded first a k n

-- what it asks, and the room that it needs
pub hold-may : (takes : News → Type 0) (s : PlantState) (c : ConfigTable) (recorded first : Bool) (a : VolumeId) (k : SessionId) (n : ℕ) → is_some (place_of c a.0) ≡ true → s.on (volume_seen s c a.0).server ≡ true → IsPrimary s c a.0 → (first ≡ true → takes (Begun k)) → MayComeBy takes s c (hold_next recorded first a k n)
hold-may takes s c true first a k n defined running part hears = tt
hold-may takes s c false true a k n defined running part hears = (record { defined = defined; running = running; asks = part }, hears refl)
hold-may takes s c false false a k n defined running part hears = record { may = record { defined = defined; running = running; asks = part }; calm = refl; carries = λ write. refl }

pub hold-most : (s : PlantState) (c : ConfigTable) (recorded first : Bool) (a : VolumeId) (k : SessionId) (n m : ℕ) → (if first then 3 else 2) ≤ m → most_of (hold_next recorded first a k n) s c ≤ m
hold-most s c true first a k n m h = omega arith
hold-most s c false true a k n m h = omega (arith, h)
hold-most s c false false a k n m h = omega (arith, h)

-- it moves no other volume
hold-others : (recorded first : Bool) (a : VolumeId) (k : SessionId) (n q : ℕ) → q ≢ a.0 → NotTarget (hold_next recorded first a k n) q
hold-others true first a k n q ne = tt
hold-others false true a k n q ne = ne
hold-others false false a k n q ne = ne

-- and it is cut short by a stop alone
hold-stops : (s : PlantState) (c : ConfigTable) (recorded first : Bool) (a : VolumeId) (k : SessionId) (n : ℕ) (e : Refusal) → RefusedAs s c (hold_next recorded first a k n) (Some e) → is_stop (Some e) ≡ true
hold-stops s c true first a k n e is = absurd is
hold-stops s c false true a k n e is = ap is_stop is
hold-stops s c false false a k n e is = ap is_stop is

hold-only-stops : (X : Type 0) (s : PlantState) (c : ConfigTable) (recorded first : Bool) (a : VolumeId) (k : SessionId) (n : ℕ) (res : Result (Unit {0}) Refusal) → OnErr res (RefusedAs s c (hold_next recorded first a k n) (refusal_of res)) → is_stop (refusal_of res) ≡ false → OnErr res X
hold-only-stops X s c recorded first a k n (Ok x) is calm = tt
hold-only-stops X s c recorded first a k n (Err e) is calm = absurd (let never : true ≡ false = sym (hold-stops s c recorded first a k n e is) ∙ calm in cc)

-- what is heard of it
module _ {B : Type 0} (after : News → B → B) (x y : B) (s u : PlantState) (c : ConfigTable) (a : VolumeId) (k : SessionId) (n before left : ℕ) where
  heard-done : (recorded first : Bool) → y ≡ heard after (done_news (hold_next recorded first a k n)) x → before ≡ left + cost_of (hold_next recorded first a k n) s c → HoldHeard after x y k first recorded before left (Ok tt)
  heard-done true first is spent = record { begun = false; only = λ no. absurd (let never : false ≡ true = no in cc); heard = is; done = λ no. absurd (let never : true ≡ false = no in cc); room_left = omega (arith, spent) }
  heard-done false true is spent = record { begun = true; only = λ so. refl; heard = is; done = λ so. refl; room_left = omega (arith, spent) }
  heard-done false false is spent = record { begun = false; only = λ so. so; heard = is; done = λ so. refl; room_left = omega (arith, spent) }

  none-heard : (counts : Bool) → y ≡ heard after (if_counts counts None) x → y ≡ x
  none-heard true is = is
  none-heard false is = is

  heard-cut : (recorded first : Bool) (e : Refusal) → CutSo after s u x y c (hold_next recorded first a k n) → HoldHeard after x y k first recorded before left (Err e)
  heard-cut true first e cut = absurd cut.cut
  heard-cut false true e cut = record { begun = cut.counts; only = λ so. refl; heard = cut.heard; done = tt; room_left = tt }
  heard-cut false false e cut = record { begun = false; only = λ so. so; heard = none-heard cut.counts cut.heard; done = tt; room_left = tt }

  hold-heard : (recorded first : Bool) (res : Result (Unit {0}) Refusal) → OnOk res (y ≡ heard after (done_news (hold_next recorded first a k n)) x) → OnErr res (CutSo after s u x y c (hold_next recorded first a k n)) → OnOk res (before ≡ left + cost_of (hold_next recorded first a k n) s c) → HoldHeard after x y k first recorded before left res
  hold-heard recorded first (Ok z) is cut spent = heard-done recorded first is spent
  hold-heard recorded first (Err e) is cut spent = heard-cut recorded first e cut

-- a call that did what the hold comes to
module _ {B : Type 0} (after : News → B → B) (rest : B → Rest → Rest) (x y : B) (s u : PlantState) (c : ConfigTable) (old new : Log) (a : VolumeId) (k : SessionId) (n : ℕ) (first : Bool) (next : Next)
    (is : next ≡ hold_next (records n (volume_seen s c a.0).fields) first a k n) (res : Result (Unit {0}) Refusal) (acted : ActedBeside after rest x y s u c old new next (most_of next s c) res) where
  abbrev recorded : Bool
  recorded = records n (volume_seen s c a.0).fields

  by : ActedBeside after rest x y s u c old new (hold_next recorded first a k n) (most_of (hold_next recorded first a k n) s c) res
  by = subst (λ z. ActedBeside after rest x y s u c old new z (most_of z s c) res) is acted

  abbrev was : Rest → World
  was r = world_seen s c (rest x r) old.events

  abbrev now : Rest → World
  now r = world_seen u c (rest y r) new.events

  pub acted-kept : Kept s u c old new (if first then 3 else 2) (is_stop (refusal_of res)) res
  acted-kept = kept-more s u c old new (most_of (hold_next recorded first a k n) s c) (if first then 3 else 2) res (hold-most s c recorded first a k n (if first then 3 else 2) (omega arith)) by.kept

  pub acted-heard : HoldHeard after x y k first recorded old.spare new.spare res
  acted-heard = hold-heard after x y s u c a k n old.spare new.spare recorded first res by.heard by.cut by.room_left

  pub acted-others : OthersStay s u c a.0
  acted-others q ne = by.others q (hold-others recorded first a k n q ne)

  pub acted-unchanged : (X : Type 0) → is_stop (refusal_of res) ≡ false → OnErr res X
  acted-unchanged X calm = hold-only-stops X s c recorded first a k n res by.refused calm

  pub acted-leads : (b : ℕ) → ((r : Rest) → None ≡ option_or (hold_refusal a.0 b (was r).control) (stale_refusal a.0 n (was r).control)) → OnOk res ((r : Rest) → nat_lt (last_of (was r).control k.0) n ≡ first → Leads (was r) (hold_entries k.0 a.0 b n) (now r))
  acted-leads b clear = ok-along res by.advances (λ goes r so armed w e ds more.
      two-checked (was r) (hold_refusal a.0 b) (stale_refusal a.0 n) None (clear r) armed w e (hold_on k.0 a.0 n ∷ ds)
      (goes r (hold_on k.0 a.0 n) (hold-comes (was r) recorded first a k n refl so) armed w e ds more))

  pub acted-fails : (b : ℕ) → ((r : Rest) → None ≡ option_or (hold_refusal a.0 b (was r).control) (stale_refusal a.0 n (was r).control)) → OnErr res ((r : Rest) → nat_lt (last_of (was r).control k.0) n ≡ first → Fails (armed_in s) (was r) (hold_entries k.0 a.0 b n) (now r) (refusal_of res))
  acted-fails b clear = err-along res by.halts by.halts (λ ends _ r so ds.
      two-checked (was r) (hold_refusal a.0 b) (stale_refusal a.0 n) None (clear r) (armed_in s) (now r) (refusal_of res) (hold_on k.0 a.0 n ∷ ds)
      (ends r (hold_on k.0 a.0 n) (hold-comes (was r) recorded first a k n refl so) ds))
