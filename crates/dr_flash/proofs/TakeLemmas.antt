-- A target takes a track of its source, or notes that it changes: no volume shows anything new.
use Rattle.std.proofs.Common.{ℕ, ◌≡◌, ◌⊎◌, inl, inr, ◌≤◌, ◌<◌, ◌+◌, true, false, List, length, arith, refl, sym, ◌∙◌, ap, subst, Some, None}
use Rattle.std.specs.Prelude.{Result, Ok, Err, OnOk, is_err}
use Rattle.std.specs.FinSet.{contains}
use Rattle.dr_ids.specs.declared.refusal.Refusal.{Refusal}
use Rattle.dr_plant.specs.State.{PlantState}
use Rattle.dr_config.specs.Table.{ConfigTable}
use Rattle.dr_logic.specs.Counts.{Counted}
use Rattle.dr_model.specs.Carry.{Entry, now}
use Rattle.dr_model.specs.Control.{Volume}
use Rattle.dr_model.specs.Histories.{Write}
use Rattle.dr_model.specs.Log.{Log}
use Rattle.dr_model.specs.Moves.{Move, Keep, Fetch, target, fields_left, carried, told}
use Rattle.dr_model.specs.ReadStops.{GoesOff}
use Rattle.dr_model.specs.Refusals.{stopped}
use Rattle.dr_model.specs.Relations.{fetched, noted}
use Rattle.dr_volume.specs.Update.{IsAsBefore, IsMoved, OthersStay}
use Rattle.dr_volume.specs.View.{Rest, volume_seen, track_seen}
use Rattle.dr_moves.specs.Entered.{is_calm, Entered}
use Rattle.dr_moves.specs.Fit.{RelationsFit}
use Rattle.dr_moves.specs.Here.{world_seen, armed_in, IsAtRest}
use Rattle.dr_moves.specs.Made.{IsAt, IsTarget, Asks, room_for, Kept}
use Rattle.dr_moves.proofs.KeptLemmas.{kept-gone, kept-more}
use Rattle.dr_moves.proofs.TurnLemmas.{halts-gone}
use Rattle.dr_flash.specs.Keeping.{Takes, Unseen}
use Rattle.dr_flash.specs.Views.{AllShow, HoldsTrack}
use Rattle.dr_flash.proofs.ShowLemmas.{show-same, show-either, taken-shows, taken-held}

-- a move of v that shows nothing new, and tells an event at most
module _ (s u : PlantState) (c : ConfigTable) (old new : Log) (m : Move) (v : ℕ) (aims : target m ≡ v) (few : room_for m (volume_seen s c v) ≤ 2) (one : length (told m (volume_seen s c v)) ≤ 1) (show : AllShow s u c) where
  abbrev x : Volume
  x = volume_seen s c (target m)

  few-at : room_for m x ≤ 2
  few-at = subst (λ q. room_for m (volume_seen s c q) ≤ 2) (sym aims) few

  room-one : old.spare ≡ new.spare + length (told m x) → old.spare ≤ new.spare + 1
  room-one left = let one : length (told m x) ≤ 1 = subst (λ q. length (told m (volume_seen s c q)) ≤ 1) (sym aims) one in omega (arith, left, one)

  pub unseen-by : (res : Result (Unit {0}) Refusal) → Entered s u c old.events new.events m (target m) res → Kept s u c old new (room_for m x) (is_err res) res → OthersStay s u c (target m) → OnOk res (old.spare ≡ new.spare + length (told m x))
      → Unseen s u c old new (now m) v (volume_seen s c v).server res
  unseen-by (Ok a) entered kept others left = record {
    advances = entered.advances;
    halts = tt;
    refused = tt;
    kept = kept-more s u c old new (room_for m x) 2 (Ok a) few-at kept;
    others = subst (λ q. OthersStay s u c q) aims others;
    show = show;
    room_left = room-one left;
  }
  unseen-by (Err e) entered kept others left = record {
    advances = tt;
    halts = entered.halts;
    refused = entered.refused ∙ ap (λ q. Some (stopped (volume_seen s c q).server)) aims;
    kept = kept-more s u c old new (room_for m x) 2 (Err e) few-at kept;
    others = subst (λ q. OthersStay s u c q) aims others;
    show = show;
    room_left = tt;
  }

-- a server that went off at a read before it
pub unseen-gone : (s u : PlantState) (c : ConfigTable) (old new : Log) (d : Entry) (q server : ℕ) (why : Refusal) → IsAt s c → Some why ≡ Some (stopped server) → ((r : Rest) → GoesOff (armed_in s) (world_seen u c r new.events) (Some why) (world_seen s c r old.events))
    → ((p : ℕ) → IsAsBefore s u c p) → IsAtRest u c → ((p : ℕ) → s.read_fuse p ≡ None → u.read_fuse p ≡ None) → Counted true s.faults u.faults → old.spare ≤ new.spare + 1 → length new.events + new.spare ≡ length old.events + old.spare
    → Unseen s u c old new d q server (Err why)
unseen-gone s u c old new d q server why at stops gone same rest unarmed faults room spare = record {
  advances = tt;
  halts = λ r. halts-gone (armed_in s) (world_seen s c r old.events) (world_seen u c r new.events) (Some why) d (gone r);
  refused = stops;
  kept = kept-gone s u c old new 2 why (omega arith) at same rest unarmed faults room spare;
  others = λ p ne. same p;
  show = show-same s u c same;
  room_left = tt;
}

-- what a move is that takes track k of v's source, which reads so, and what it leaves
pub record IsTaking (s : PlantState) (c : ConfigTable) (v k : ℕ) (bytes : List ℕ) (m : Move) : Type 0 where
  pub aims : target m ≡ v
  pub calm : is_calm m ≡ true
  pub carries : (write : ℕ → Write) → carried m (volume_seen s c) (track_seen s c) write ≡ Some (k, bytes)
  pub few : room_for m (volume_seen s c v) ≤ 2
  pub one : length (told m (volume_seen s c v)) ≤ 1
  pub shows : (u : PlantState) → OthersStay s u c v → IsAsBefore s u c v ⊎ IsMoved s u c v (fields_left m (volume_seen s c v)) (Some (k, bytes)) → AllShow s u c
  pub held : (u : PlantState) → OthersStay s u c v → IsMoved s u c v (fields_left m (volume_seen s c v)) (Some (k, bytes)) → HoldsTrack u c k v

pub takes-asks : (s : PlantState) (c : ConfigTable) (v k : ℕ) (m : Move) → Takes m v k → Asks s c m → (k < (volume_seen s c v).tracks) × IsTarget s c v
takes-asks s c v k m (inl is) asks = subst (λ z. Asks s c z) is asks
takes-asks s c v k m (inr is) asks = subst (λ z. Asks s c z) is asks

module _ (s : PlantState) (c : ConfigTable) (v k : ℕ) (bytes : List ℕ) (fit : RelationsFit s c) (related : IsTarget s c v) (missing : contains (volume_seen s c v).fields.own k ≡ false) (are : bytes ≡ track_seen s c (volume_seen s c v).fields.source k) where
  abbrev y : Volume
  y = volume_seen s c v

  pub is-taking : (m : Move) → Takes m v k → IsTaking s c v k bytes m
  is-taking m (inl is) = subst (IsTaking s c v k bytes) (sym is) (record {
    aims = refl;
    calm = refl;
    carries = λ write. ap (λ b. Some (k, b)) (sym are);
    few = omega arith;
    one = omega arith;
    shows = λ u others either. show-either s u c v (fields_left (Keep v k) y) (Some (k, bytes)) others either (λ moved. taken-shows s u c v fit related others (noted (fetched y.fields k) k) refl refl k refl refl bytes moved missing are);
    held = λ u others moved. taken-held s u c v fit related others (noted (fetched y.fields k) k) refl refl k refl refl bytes moved;
  })
  is-taking m (inr is) = subst (IsTaking s c v k bytes) (sym is) (record {
    aims = refl;
    calm = refl;
    carries = λ write. ap (λ b. Some (k, b)) (sym are);
    few = omega arith;
    one = omega arith;
    shows = λ u others either. show-either s u c v (fields_left (Fetch v k) y) (Some (k, bytes)) others either (λ moved. taken-shows s u c v fit related others (fetched y.fields k) refl refl k refl refl bytes moved missing are);
    held = λ u others moved. taken-held s u c v fit related others (fetched y.fields k) refl refl k refl refl bytes moved;
  })
