-- A move for the machine, from what was made of its volume.
use Rattle.std.proofs.Common.{ℕ, ◌≡◌, ◌⊎◌, inl, inr, Bool, true, false, not, List, [], ◌∷◌, ◌++◌, cond, refl, sym, ◌∙◌, ap, subst, Some, None}
use Rattle.std.specs.Prelude.{if◌then◌else◌}
use mathlib.Core.Bool.{beq}
use Rattle.dr_plant.specs.State.{PlantState}
use Rattle.dr_config.specs.Table.{ConfigTable}
use Rattle.dr_model.specs.declared.event.Event.{Event}
use Rattle.dr_model.specs.declared.event.Event.TheVariants.{Stopped}
use Rattle.dr_model.specs.Histories.{histories}
use Rattle.dr_model.specs.Layout.{Fields}
use Rattle.dr_model.specs.Control.{Volume, World}
use Rattle.dr_model.specs.Moves.{Move, Carried, target, fields_left, carried, told, told_in_stop, landed, keeps_staged}
use Rattle.dr_model.specs.Carry.{Turn, turn, update, update_keeping, finished, cut_short, Ended}
use Rattle.dr_volume.specs.Update.{EndsAs, IsAsBefore, IsMoved}
use Rattle.dr_volume.specs.View.{Rest, world, volume_seen, track_seen}
use Rattle.dr_moves.specs.Here.{world_seen}
use Rattle.dr_moves.specs.Made.{after_done, after_stop, Came}
use Rattle.dr_moves.proofs.ReadLemmas.{on-running}
use Rattle.dr_moves.proofs.MadeLemmas.{done-by}

module _ (s u : PlantState) (c : ConfigTable) (m : Move) (v : ℕ) (f : Fields) (t : Carried) (before after : List Event) (is_target : target m ≡ v) (keeps : keeps_staged m ≡ true) (on : s.on (volume_seen s c v).server ≡ true)
    (next : f ≡ fields_left m (volume_seen s c v)) (carries : carried m (volume_seen s c) (track_seen s c) (histories before).write ≡ t) (r : Rest) where
  abbrev x : Volume
  x = volume_seen s c v

  abbrev w : World
  w = world_seen s c r before

  abbrev e : Ended
  e = update w v f t

  abbrev ended_at : ℕ → Ended → Turn
  ended_at q e =
      if not (w.control.on (volume_seen s c q).server) then (w, None)
      else if e.stopped then (cut_short e.world m (volume_seen s c q) e.done, Some (volume_seen s c q).server)
      else (finished e.world m (volume_seen s c q), None)

  abbrev left : World
  left = world u c (record r { events = before })

  turn-is : turn w m ≡ (if e.stopped then (cut_short e.world m x e.done, Some x.server) else (finished e.world m x, None))
  unfolding turn
  turn-is =
      (λ i. ended_at (is_target i) (update_keeping (keeps i) w (is_target i) (fields_left m (volume_seen s c (is_target i))) (carried m (volume_seen s c) (track_seen s c) (histories before).write)))
      ∙ (λ i. ended_at v (update w v (sym next i) (carries i)))
      ∙ ap (λ b. cond (not b) (w, None) (cond e.stopped (cut_short e.world m x e.done, Some x.server) (finished e.world m x, None))) (on-running s x.server on)

  pub turn-done : EndsAs left false e → after ≡ before ++ told m x → turn w m ≡ (world_seen u c (after_done m r) after, None)
  turn-done ends is =
      turn-is
      ∙ ap (λ b. cond b (cut_short e.world m x e.done, Some x.server) (finished e.world m x, None)) (sym ends.stopped)
      ∙ ap (λ (z : World). (finished z m x, None)) (sym ends.world)
      ∙ ap (λ es. (world_seen u c (after_done m r) es, None)) (sym is)

  cut-is : (b : Bool) → after ≡ before ++ (if b then told_in_stop m x ++ Stopped x.server (landed m) ∷ [] else Stopped x.server 0 ∷ []) → cut_short left m x b ≡ world_seen u c (after_stop m b r) after
  cut-is true is = ap (λ es. world_seen u c (after_stop m true r) es) (sym is)
  cut-is false is = ap (λ es. world_seen u c (after_stop m false r) es) (sym is)

  pub turn-stopped : (was now : Bool) → EndsAs left true e → was ≡ x.slot → now ≡ (volume_seen u c v).slot
      → after ≡ before ++ (if not (beq now was) then told_in_stop m x ++ Stopped x.server (landed m) ∷ [] else Stopped x.server 0 ∷ [])
      → turn w m ≡ (world_seen u c (after_stop m (not (beq now was)) r) after, Some x.server)
  turn-stopped was now ends is_was is_now is =
      turn-is
      ∙ ap (λ b. cond b (cut_short e.world m x e.done, Some x.server) (finished e.world m x, None)) (sym ends.stopped)
      ∙ ap (λ b. (cut_short e.world m x b, Some x.server)) (done-by w left v f t was now ends is_was is_now)
      ∙ ap (λ (z : World). (cut_short z m x (not (beq now was)), Some x.server)) (sym ends.world)
      ∙ ap (λ (z : World). (z, Some x.server)) (cut-is (not (beq now was)) is)

-- a move counts as done where the slot is another one
other-slot : (b : Bool) → not (beq (not b) b) ≡ true
other-slot true = refl
other-slot false = refl

same-slot : (b : Bool) → not (beq b b) ≡ false
same-slot true = refl
same-slot false = refl

pub came-by : (s u : PlantState) (c : ConfigTable) (v : ℕ) (f : Fields) (t : Carried) (was now : Bool) → was ≡ (volume_seen s c v).slot → now ≡ (volume_seen u c v).slot
    → IsAsBefore s u c v ⊎ IsMoved s u c v f t → Came (not (beq now was)) s u c v f t
came-by s u c v f t was now is_was is_now (inl same) =
    subst (λ b. Came b s u c v f t) (sym ((λ i. not (beq ((is_now ∙ ap (λ (x : Volume). x.slot) same.volume) i) (is_was i))) ∙ same-slot (volume_seen s c v).slot)) same
came-by s u c v f t was now is_was is_now (inr is) =
    subst (λ b. Came b s u c v f t) (sym ((λ i. not (beq ((is_now ∙ ap (λ (x : Volume). x.slot) is.volume) i) (is_was i))) ∙ other-slot (volume_seen s c v).slot)) is

-- whether or not it counts
pub came-either : (b : Bool) (s u : PlantState) (c : ConfigTable) (v : ℕ) (f : Fields) (t : Carried) → Came b s u c v f t → IsAsBefore s u c v ⊎ IsMoved s u c v f t
came-either true s u c v f t came = inr came
came-either false s u c v f t came = inl came
