-- What stays: where one volume moved, and along two calls in a row.
use Rattle.std.proofs.Common.{ℕ, Bool, true, false, ◌≡◌, ◌≤◌, ◌+◌, ◌⊎◌, refl, sym, ap, subst, ◌∙◌, arith, length, None, Some}
use Rattle.std.specs.Prelude.{◌&&◌, nat_lt, is_some, max, Result, Ok, Err, OnOk}
use Rattle.dr_logic.specs.Counts.{Counted}
use Rattle.dr_ids.specs.declared.refusal.Refusal.{Refusal}
use Rattle.dr_plant.specs.State.{PlantState}
use Rattle.dr_config.specs.Table.{ConfigTable, StandsFor}
use Rattle.dr_model.specs.Layout.{Fields}
use Rattle.dr_model.specs.Log.{Log}
use Rattle.dr_model.specs.Control.{Volume}
use Rattle.dr_model.specs.Moves.{Carried}
use Rattle.dr_volume.specs.Update.{IsAsBefore, IsMovedKeeping, OthersStay}
use Rattle.dr_moves.specs.Aside.{KeepsAside, AsideFits}
use Rattle.dr_moves.specs.Fit.{LeavesFit}
use Rattle.dr_moves.specs.Here.{armed_in, IsAtRest}
use Rattle.dr_moves.specs.Made.{IsAt, Kept}
use Rattle.dr_moves.proofs.FitLemmas.{fit-same, fit-after}
use Rattle.dr_moves.proofs.GateLemmas.{rest-after}

pub at-after : {keeps : Bool} (s u : PlantState) (c : ConfigTable) (v : ℕ) (f : Fields) (t : Carried) → IsAsBefore s u c v ⊎ IsMovedKeeping keeps s u c v f t → OthersStay s u c v → IsAt s c → StandsFor c u → LeavesFit s c v f → IsAt u c
at-after s u c v f t how others at stands leaves = record {
  rest = rest-after c s u v f t at.rest stands how others;
  fit = fit-after s u c v f t at.fit leaves how others;
}

-- what fits in the larger of two rooms
pub max-left : (a b n : ℕ) → max a b ≤ n → a ≤ n
max-left a b n h = grind (arith, h)

pub max-right : (a b n : ℕ) → max a b ≤ n → b ≤ n
max-right a b n h = grind (arith, h)

pub room-left : (a b m n : ℕ) → m ≡ n + a → m ≤ n + max a b
room-left a b m n e = grind (arith, e)

pub room-right : (a b m n : ℕ) → m ≤ n + b → m ≤ n + max a b
room-right a b m n h = grind (arith, h)

pub room-one : (a b m n : ℕ) → m ≤ n + 1 → m ≤ n + max a (b + 1)
room-one a b m n h = grind (arith, h)

-- nothing has moved
pub aside-same : (s u : PlantState) (c : ConfigTable) → ((q : ℕ) → IsAsBefore s u c q) → AsideFits s c → AsideFits u c
aside-same s u c same fit = record { aside = λ q. subst (λ (x : Volume). KeepsAside x.fields) (sym (same q).volume) (fit.aside q) }

-- a server went off at a read
pub kept-gone : (s u : PlantState) (c : ConfigTable) (old new : Log) (most : ℕ) {E : Type 0} (why : E) → 1 ≤ most → IsAt s c → ((q : ℕ) → IsAsBefore s u c q) → IsAtRest u c → ((q : ℕ) → s.read_fuse q ≡ None → u.read_fuse q ≡ None) → Counted true s.faults u.faults
    → old.spare ≤ new.spare + 1 → length new.events + new.spare ≡ length old.events + old.spare → Kept s u c old new most true {E = E} (Err why)
kept-gone s u c old new most why one at same rest unarmed faults room spare = record {
  at = record { rest = rest; fit = fit-same s u c same at.fit };
  aside = aside-same s u c same;
  unarmed = unarmed;
  faults = faults;
  on = tt;
  room = omega (arith, one, room);
  spare = spare;
}

-- in more room
pub kept-more : (s u : PlantState) (c : ConfigTable) (old new : Log) (few most : ℕ) {counts : Bool} {E : Type 0} (res : Result (Unit {0}) E) → few ≤ most → Kept s u c old new few counts res → Kept s u c old new most counts res
kept-more s u c old new few most res le kept = record {
  at = kept.at;
  aside = kept.aside;
  unarmed = kept.unarmed;
  faults = kept.faults;
  on = kept.on;
  room = let h = kept.room in omega (arith, h, le);
  spare = kept.spare;
}

-- what stays along two calls in a row
pub kept-then : (s m u : PlantState) (c : ConfigTable) (old mid new : Log) (a b most : ℕ) {counts : Bool} (res : Result (Unit {0}) Refusal) → Kept s m c old mid a false {E = Refusal} (Ok tt) → Kept m u c mid new b counts res
    → old.spare ≤ new.spare + most → Kept s u c old new most counts res
kept-then s m u c old mid new a b most {counts = counts} res first second room = record {
  at = second.at;
  aside = λ fit. second.aside (first.aside fit);
  unarmed = λ q none. second.unarmed q (first.unarmed q none);
  faults = let same : m.faults ≡ s.faults = first.faults in subst (λ n. Counted counts n u.faults) same second.faults;
  on = along res second.on;
  room = room;
  spare = second.spare ∙ first.spare;
}
  where
    along : (r : Result (Unit {0}) Refusal) → OnOk r (u.on ≡ m.on) → OnOk r (u.on ≡ s.on)
    along (Ok x) on = on ∙ first.on
    along (Err e) on = tt

pub before-then : (s t u : PlantState) (c : ConfigTable) (q : ℕ) → IsAsBefore s t c q → IsAsBefore t u c q → IsAsBefore s u c q
before-then s t u c q a b = record { volume = b.volume ∙ a.volume; tracks = b.tracks ∙ a.tracks; saved = b.saved ∙ a.saved }

-- no fuse is armed later that wasn't
pub wider-armed : (s u : PlantState) → ((q : ℕ) → s.read_fuse q ≡ None → u.read_fuse q ≡ None) → (q : ℕ) → armed_in u q ≡ true → armed_in s q ≡ true
wider-armed s u unarmed q h =
    elim (s.read_fuse q) as (λ o. s.read_fuse q ≡ o → armed_in s q ≡ true) [
      | None ↦ λ none. absurd (let later : armed_in u q ≡ false = ap (λ o. nat_lt q 8 && is_some o) (unarmed q none) ∙ either_no (nat_lt q 8) in cc)
      | Some n ↦ λ some. ap (λ o. nat_lt q 8 && is_some o) some ∙ either_yes (nat_lt q 8) (is_some (u.read_fuse q)) h
    ] refl
  where
    either_no : (b : Bool) → (b && false) ≡ false
    either_no true = refl
    either_no false = refl

    either_yes : (b x : Bool) → (b && x) ≡ true → (b && true) ≡ true
    either_yes true x h = refl
    either_yes false x h = h
