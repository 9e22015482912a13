-- The track that a move brings, notes or carries is one of its volume.
use Rattle.std.proofs.Common.{ℕ, ◌≡◌, ◌<◌, ◌≤◌, arith, subst}
use Rattle.std.specs.Prelude.{IfSome}
use Rattle.dr_plant.specs.State.{PlantState}
use Rattle.dr_config.specs.Table.{ConfigTable}
use Rattle.dr_model.specs.Histories.{Write}
use Rattle.dr_model.specs.Moves.{Move, Land, Overwrite, Keep, Note, Fetch, Restore, Store, Unsync, Mirror, LandBoth, Carried, target, carried}
use Rattle.dr_volume.specs.View.{volume_seen, track_seen}
use Rattle.dr_moves.specs.Made.{Asks}
use Rattle.dr_moves.specs.Moves.{IsBelow}

module _ (s : PlantState) (c : ConfigTable) (few : (v : ℕ) → (volume_seen s c v).tracks ≤ 256) where
  pub below : (m : Move) → Asks s c m → IsBelow 256 m
  below (Land w v t) asks = let few = few v in let lt : t < (volume_seen s c v).tracks = asks in omega (arith, few, lt)
  below (Overwrite w v t) asks = let few = few v in let lt : t < (volume_seen s c v).tracks = asks.0 in omega (arith, few, lt)
  below (Keep v t) asks = let few = few v in let lt : t < (volume_seen s c v).tracks = asks.0 in omega (arith, few, lt)
  below (Note v t) asks = let few = few v in let lt : t < (volume_seen s c v).tracks = asks.0 in omega (arith, few, lt)
  below (Fetch v t) asks = let few = few v in let lt : t < (volume_seen s c v).tracks = asks.0 in omega (arith, few, lt)
  below (Restore v t u) asks = let few = few v in let lt : t < (volume_seen s c v).tracks = asks in omega (arith, few, lt)
  below (Store v t u last) asks = let few = few v in let lt : t < (volume_seen s c v).tracks = asks.0 in omega (arith, few, lt)
  below (Unsync v t) asks = let few = few v in let lt : t < (volume_seen s c v).tracks = asks.0 in omega (arith, few, lt)
  below (Mirror v t u w) asks = let few = few v in let lt : t < (volume_seen s c v).tracks = asks in omega (arith, few, lt)
  below (LandBoth w v t) asks = let few = few v in let lt : t < (volume_seen s c v).tracks = asks.0 in omega (arith, few, lt)
  below m asks = tt

module _ (s : PlantState) (c : ConfigTable) where
  within : (m : Move) (write : ℕ → Write) → Asks s c m → IfSome (carried m (volume_seen s c) (track_seen s c) write) (λ x. x.0 < (volume_seen s c (target m)).tracks)
  within (Land w v t) write asks = asks
  within (Overwrite w v t) write asks = asks.0
  within (Keep v t) write asks = asks.0
  within (Fetch v t) write asks = asks.0
  within (Restore v t u) write asks = asks
  within (Store v t u last) write asks = asks.0
  within (Mirror v t u w) write asks = asks
  within (LandBoth w v t) write asks = asks.0
  within m write asks = tt

  pub within-by : (m : Move) (v : ℕ) (t : Carried) (write : ℕ → Write) → target m ≡ v → carried m (volume_seen s c) (track_seen s c) write ≡ t → Asks s c m → IfSome t (λ x. x.0 < (volume_seen s c v).tracks)
  within-by m v t write is_target carries asks =
      subst (λ (t : Carried). IfSome t (λ x. x.0 < (volume_seen s c v).tracks)) carries
      (subst (λ v. IfSome (carried m (volume_seen s c) (track_seen s c) write) (λ x. x.0 < (volume_seen s c v).tracks)) is_target (within m write asks))
