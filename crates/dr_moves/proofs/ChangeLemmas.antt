-- A change of a volume is its move, from what was made of it and told; what it asks, and what stays.
use Rattle.std.proofs.Common.{ℕ, ◌≡◌, ◌≤◌, ◌+◌, ◌++◌, ◌⊎◌, inl, inr, Bool, true, false, not, [], ◌∷◌, length, arith, refl, sym, ◌∙◌, ap, subst, None, Some}
use Rattle.std.proofs.lemmas.List.{length-append}
use Rattle.std.specs.Prelude.{if◌then◌else◌, Result, Ok, Err, is_err}
use mathlib.Core.Bool.{beq}
use Rattle.dr_ids.specs.declared.names.ServerId.{ServerId}
use Rattle.dr_plant.specs.State.{PlantState}
use Rattle.dr_logic.specs.Counts.{risen}
use Rattle.dr_config.specs.Table.{ConfigTable, StandsFor}
use Rattle.dr_model.specs.declared.event.Event.TheVariants.{Stopped}
use Rattle.dr_model.specs.Histories.{Write, histories}
use Rattle.dr_model.specs.Layout.{Fields}
use Rattle.dr_model.specs.Lawful.{IsLawful}
use Rattle.dr_model.specs.Log.{Log}
use Rattle.dr_model.specs.Control.{Volume}
use Rattle.dr_model.specs.Moves.{Move, Carried, target, fields_left, carried, told, told_in_stop, landed, keeps_staged}
use Rattle.dr_model.specs.Carry.{update}
use Rattle.dr_model.specs.ReadStops.{GoesOff}
use Rattle.dr_model.specs.Refusals.{stopped}
use Rattle.dr_volume.specs.Update.{EndsAs, IsAsBefore, IsMoved, OthersStay}
use Rattle.dr_volume.specs.View.{Rest, volume_seen, track_seen}
use Rattle.dr_moves.specs.Here.{world_seen, armed_in}
use Rattle.dr_moves.specs.Made.{IsAt, May, room_for, after_stop, Made, Kept}
use Rattle.dr_moves.specs.Moves.{volume_with}
use Rattle.dr_moves.specs.Ready.{StandsReady, Ready, Stayed}
use Rattle.dr_moves.specs.Turns.{told_in_stop as told_stopped}
use Rattle.dr_moves.specs.declared.acts.Stop.{Stop}
use Rattle.dr_moves.proofs.AsideLemmas.{aside-kept, aside-after}
use Rattle.dr_moves.proofs.KeptLemmas.{at-after, max-left, max-right, room-left, room-right}
use Rattle.dr_moves.proofs.MoveFits.{MoveFits, fits-by}
use Rattle.dr_moves.proofs.MoveRows.{next-row, told-row, stop-row}
use Rattle.dr_moves.proofs.MoveTracks.{below, within-by}
use Rattle.dr_moves.proofs.PlaceLaws.{seen-lawful}
use Rattle.dr_moves.proofs.TurnMade.{turn-done, turn-stopped, came-by}

-- a move of v that may come
module _ (s : PlantState) (c : ConfigTable) (m : Move) (v : ℕ) (t : Carried) (write : ℕ → Write) (is_target : target m ≡ v) (at : IsAt s c) (may : May s c m) (carries : carried m (volume_seen s c) (track_seen s c) write ≡ t) where
  may-fits : MoveFits s c v (fields_left m (volume_seen s c v)) t
  may-fits =
      let lawful = seen-lawful s c (target m) may.defined (at.rest.sizes (target m)) at.rest.stands in
      fits-by s c at.fit m v (fields_left m (volume_seen s c v)) t write is_target refl carries (subst (λ q. IsLawful (volume_seen s c q).tracks (volume_seen s c q).fields) is_target lawful) may.asks

  -- finds v ready
  pub ready-by : Ready s c v m t
  ready-by = record {
    ready = subst (StandsReady s c) is_target (record { stands = at.rest.stands; defined = may.defined; running = may.running; size = at.rest.sizes (target m) });
    below = below s c at.rest.sizes m may.asks;
    lawful = may-fits.lawful;
    covers = may-fits.covers;
    within = within-by s c m v t write is_target carries may.asks;
  }

  -- and leaves all at rest and fitting
  pub kept-by : (u : PlantState) (old new : Log) (server : ℕ) (res : Result (Unit {0}) Stop) → IsAsBefore s u c v ⊎ IsMoved s u c v (fields_left m (volume_seen s c v)) t → OthersStay s u c v
      → Stayed s u c old new server (room_for m (volume_seen s c v)) res → Kept s u c old new (room_for m (volume_seen s c (target m))) (is_err res) res
  kept-by u old new server res either others stayed = record {
    at = at-after s u c v (fields_left m (volume_seen s c v)) t either others at stayed.stands may-fits.leaves;
    aside = λ fit. aside-after s u c v (fields_left m (volume_seen s c v)) t fit (aside-kept m (volume_seen s c v) (at.fit.apart v) (fit.aside v)) either others;
    unarmed = stayed.unarmed;
    faults = stayed.faults;
    on = stayed.on;
    room = subst (λ q. old.spare ≤ new.spare + room_for m (volume_seen s c q)) (sym is_target) stayed.room;
    spare = stayed.spare;
  }

-- the fields that a move leaves of a volume, and what it tells, by what was seen of it
pub record Rows (m : Move) (x : Volume) (f : Fields) (y : Volume) : Type 0 where
  pub next : f ≡ fields_left m x
  pub done : told m y ≡ told m x
  pub in_stop : told_in_stop m y ≡ told_in_stop m x

-- by what was read of it
pub rows-by : (m : Move) (x : Volume) (n : ℕ) (read f g : Fields) → x.tracks ≡ n → read ≡ x.fields → f ≡ fields_left m (volume_with n read)
    → told m (volume_with n g) ≡ told m (volume_with n read) → told_in_stop m (volume_with n g) ≡ told_in_stop m (volume_with n read) → Rows m x f (volume_with n g)
rows-by m x n read f g size shows next done in_stop = record {
  next = next ∙ next-row m x n read size shows;
  done = done ∙ told-row m x n read size shows;
  in_stop = in_stop ∙ stop-row m x n read size shows;
}

-- there is room for it
module _ (m : Move) (x : Volume) (f : Fields) (y : Volume) (old new : Log) (rows : Rows m x f y) where
  pub done-room : room_for m x ≤ old.spare → length (told m y) ≤ old.spare
  done-room room = subst (λ es. length es ≤ old.spare) (sym rows.done) (max-left (length (told m x)) (length (told_in_stop m x) + 1) old.spare room)

  pub stop-room : room_for m x ≤ old.spare → length (told_in_stop m y) + 1 ≤ old.spare
  stop-room room = subst (λ es. length es + 1 ≤ old.spare) (sym rows.in_stop) (max-right (length (told m x)) (length (told_in_stop m x) + 1) old.spare room)

  pub done-left : old.spare ≡ new.spare + length (told m y) → old.spare ≡ new.spare + length (told m x)
  done-left is = subst (λ es. old.spare ≡ new.spare + length es) rows.done is

  -- what stays where it was done, and where its server stopped in it
  pub stayed-done : (s u : PlantState) (c : ConfigTable) (server : ℕ) → StandsFor c u → ((q : ℕ) → s.read_fuse q ≡ None → u.read_fuse q ≡ None) → u.faults ≡ s.faults → u.on ≡ s.on
      → new.events ≡ old.events ++ told m y → old.spare ≡ new.spare + length (told m y) → Stayed s u c old new server (room_for m x) {E = Stop} (Ok tt)
  stayed-done s u c server stands unarmed faults on tells left = record {
    stands = stands;
    unarmed = unarmed;
    faults = faults;
    on = on;
    off = tt;
    room = room-left (length (told m x)) (length (told_in_stop m x) + 1) old.spare new.spare (done-left left);
    spare =
        let e : length new.events ≡ length old.events + length (told m y) = ap length tells ∙ length-append old.events (told m y) in
        omega (arith, e, left);
  }

  pub stayed-stopped : (s u : PlantState) (c : ConfigTable) (server : ℕ) (stop : Stop) → StandsFor c u → ((q : ℕ) → s.read_fuse q ≡ None → u.read_fuse q ≡ None) → u.faults ≡ risen s.faults → u.on server ≡ false
      → old.spare ≤ new.spare + (length (told_in_stop m y) + 1) → length new.events + new.spare ≡ length old.events + old.spare → Stayed s u c old new server (room_for m x) {E = Stop} (Err stop)
  stayed-stopped s u c server stop stands unarmed faults off most sum = record {
    stands = stands;
    unarmed = unarmed;
    faults = omega (arith, faults);
    on = tt;
    off = off;
    room = room-right (length (told m x)) (length (told_in_stop m x) + 1) old.spare new.spare (subst (λ es. old.spare ≤ new.spare + (length es + 1)) rows.in_stop most);
    spare = sum;
  }

-- what was made of it
module _ (s u : PlantState) (c : ConfigTable) (old new : Log) (m : Move) (v : ℕ) (f : Fields) (t : Carried) (y : Volume) (is_target : target m ≡ v) (keeps : keeps_staged m ≡ true) (ready : Ready s c v m t)
    (carries : carried m (volume_seen s c) (track_seen s c) (histories old.events).write ≡ t) (rows : Rows m (volume_seen s c v) f y) where
  pub made-done : ((r : Rest) → EndsAs (world_seen u c r old.events) false (update (world_seen s c r old.events) v f t)) → IsMoved s u c v f t → OthersStay s u c v → new.events ≡ old.events ++ told m y → Made s u c old new m v t (Ok tt)
  made-done ends is others tells = record {
    turned = λ r. turn-done s u c m v f t old.events new.events is_target keeps ready.ready.running rows.next carries r (ends r) (tells ∙ ap (λ es. old.events ++ es) rows.done);
    came = subst (λ g. IsMoved s u c v g t) rows.next is;
    others = others;
    server = tt;
  }

  pub either-left : IsAsBefore s u c v ⊎ IsMoved s u c v f t → IsAsBefore s u c v ⊎ IsMoved s u c v (fields_left m (volume_seen s c v)) t
  either-left either = subst (λ g. IsAsBefore s u c v ⊎ IsMoved s u c v g t) rows.next either

  -- the server stopped in it, or at a read before it
  pub made-stopped : (server : ServerId) (was now : Bool) → (volume_seen s c v).server ≡ server.0 → was ≡ (volume_seen s c v).slot → now ≡ (volume_seen u c v).slot
      → ((r : Rest) → ((not (beq now was) ≡ false) × GoesOff (armed_in s) (world_seen u c r new.events) (Some (stopped (volume_seen s c v).server)) (world_seen s c r old.events)) ⊎ EndsAs (world_seen u c r old.events) true (update (world_seen s c r old.events) v f t))
      → IsAsBefore s u c v ⊎ IsMoved s u c v f t → OthersStay s u c v → new.events ≡ old.events ++ told_stopped (not (beq now was)) m y server.0
      → Made s u c old new m v t (Err (record { server = server; counts = not (beq now was) }))
  made-stopped server was now at is_was is_now ends either others tells = record {
    turned = λ r. elim (ends r) [
      | inl off ↦ inl (off.0, subst (λ n. GoesOff (armed_in s) (world_seen u c r new.events) (Some (stopped n)) (world_seen s c r old.events)) at off.1)
      | inr stops ↦ inr
          (turn-stopped s u c m v f t old.events new.events is_target keeps ready.ready.running rows.next carries r was now stops is_was is_now
          (tells ∙ (λ i. old.events ++ (if not (beq now was) then rows.in_stop i ++ Stopped (sym at i) (landed m) ∷ [] else Stopped (sym at i) 0 ∷ [])))
          ∙ ap (λ n. (world_seen u c (after_stop m (not (beq now was)) r) new.events, Some n)) at)
    ];
    came = came-by s u c v (fields_left m (volume_seen s c v)) t was now is_was is_now (either-left either);
    others = others;
    server = sym at;
  }
