-- What becomes of a target, one move of it or nothing: what that asks, and what it leaves.
use Rattle.std.proofs.Common.{ℕ, ◌≡◌, ◌≤◌, true, arith, length, refl, sym, ◌∙◌, ap, subst, Some}
use Rattle.std.specs.Prelude.{is_some, Result, Ok, Err, OnErr}
use Rattle.dr_ids.specs.declared.names.SessionId.{SessionId}
use Rattle.dr_ids.specs.declared.names.VolumeId.{VolumeId}
use Rattle.dr_ids.specs.declared.refusal.Refusal.{Refusal}
use Rattle.dr_plant.specs.State.{PlantState}
use Rattle.dr_config.specs.Table.{ConfigTable, place_of}
use Rattle.dr_model.specs.Moves.{told}
use Rattle.dr_model.specs.Refusals.{stopped}
use Rattle.dr_volume.specs.Update.{OthersStay, IsAsBefore}
use Rattle.dr_volume.specs.View.{volume_seen}
use Rattle.dr_moves.specs.Aside.{AsideFits}
use Rattle.dr_moves.specs.Coming.{MayCome, NotTarget, RefusedAs, cost_of}
use Rattle.dr_moves.specs.Here.{refusal_of}
use Rattle.dr_moves.specs.Moves.{move_of}
use Rattle.dr_moves.specs.declared.carrying.Next.{Next}
use Rattle.dr_moves.specs.declared.carrying.Next.TheVariants.{Pass, Do}
use Rattle.dr_moves.specs.declared.moves.Move.TheVariants as move
use Rattle.dr_revert.specs.Turns.{Turns}

module _ (s : PlantState) (c : ConfigTable) (v : ℕ) where
  pub turn-may : (next : Next) → Turns s c v next → MayCome s c next
  turn-may Pass turns = tt
  turn-may (Do m) turns = turns.make
  turn-may _ turns = absurd turns

  pub turn-few : (next : Next) → Turns s c v next → cost_of next s c ≤ 1
  turn-few Pass turns = omega arith
  turn-few (Do m) turns = subst (λ q. length (told (move_of m) (volume_seen s c q)) ≤ 1) (sym turns.aims) turns.few
  turn-few _ turns = absurd turns

  pub turn-refused : (next : Next) → Turns s c v next → (r : Result (Unit {0}) Refusal) → OnErr r (RefusedAs s c next (refusal_of r)) → OnErr r (refusal_of r ≡ Some (stopped (volume_seen s c v).server))
  turn-refused next turns (Ok x) refused = tt
  turn-refused Pass turns (Err e) refused = absurd refused
  turn-refused (Do m) turns (Err e) refused = refused ∙ ap (λ q. Some (stopped (volume_seen s c q).server)) turns.aims
  turn-refused _ turns (Err e) refused = absurd turns

  pub turn-others : (u : PlantState) (next : Next) → Turns s c v next → ((q : ℕ) → NotTarget next q → IsAsBefore s u c q) → OthersStay s u c v
  turn-others u Pass turns same q ne = same q tt
  turn-others u (Do m) turns same q ne = same q (λ e. ne (e ∙ turns.aims))
  turn-others u _ turns same q ne = absurd turns

-- the four moves of a target
module _ (s : PlantState) (c : ConfigTable) (v : VolumeId) (defined : is_some (place_of c v.0) ≡ true) (running : s.on (volume_seen s c v.0).server ≡ true) where
  pub flash-turns : (u a : VolumeId) (k : SessionId) (n : ℕ) → (volume_seen s c v.0).fields.related ≡ true → Turns s c v.0 (Do (move.Flash v u a k n))
  flash-turns u a k n related = record { aims = refl; make = record { may = record { defined = defined; running = running; asks = related }; calm = refl; carries = λ w. refl }; few = omega arith }

  pub commit-turns : (a : VolumeId) (k : SessionId) (n : ℕ) → (volume_seen s c v.0).fields.revertible ≡ true → Turns s c v.0 (Do (move.Commit v a k n))
  commit-turns a k n revertible = record { aims = refl; make = record { may = record { defined = defined; running = running; asks = revertible }; calm = refl; carries = λ w. refl }; few = omega arith }

  pub revert-turns : (a : VolumeId) (k : SessionId) (n : ℕ) → AsideFits s c → (volume_seen s c v.0).fields.revertible ≡ true → Turns s c v.0 (Do (move.Revert v a k n))
  revert-turns a k n aside revertible = record { aims = refl; make = record { may = record { defined = defined; running = running; asks = (revertible, aside.aside v.0 revertible) }; calm = refl; carries = λ w. refl }; few = omega arith }

  pub floor-turns : (n : ℕ) → Turns s c v.0 (Do (move.RaiseFloor v n))
  floor-turns n = record { aims = refl; make = record { may = record { defined = defined; running = running; asks = tt }; calm = refl; carries = λ w. refl }; few = omega arith }
