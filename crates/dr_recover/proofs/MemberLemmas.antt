-- What is done with one member: its secondary is taken over, and its target becomes what was decided.
use Rattle.std.proofs.Common.{◌≡◌, Bool, true, false, arith, List, refl, ap}
use Rattle.std.specs.Prelude.{if◌then◌else◌, is_some}
use Rattle.std.proofs.lemmas.Bool.{and_parts}
use Rattle.dr_ids.specs.declared.names.Member.{Member}
use Rattle.dr_ids.specs.declared.names.SessionId.{SessionId}
use Rattle.dr_ids.specs.declared.names.VolumeId.{VolumeId}
use Rattle.dr_ids.specs.declared.refusal.Decision.{Decision}
use Rattle.dr_ids.specs.declared.refusal.Decision.TheVariants.{NoMember, Nothing, RevertAll, CommitRest, RevertSome, Impossible}
use Rattle.dr_plant.specs.State.{PlantState}
use Rattle.dr_config.specs.Table.{ConfigTable, place_of}
use Rattle.dr_model.specs.declared.event.Event.{Event}
use Rattle.dr_model.specs.Carry.{Make, Pass, Do, now}
use Rattle.dr_model.specs.Layout.{is_part}
use Rattle.dr_model.specs.Moves.{TakeOver}
use Rattle.dr_model.specs.RecoveryPlans.{take_over_on, settle_on}
use Rattle.dr_model.specs.SessionEntries.{is_flashed}
use Rattle.dr_volume.specs.View.{Rest, volume_seen}
use Rattle.dr_moves.specs.Here.{world_seen}
use Rattle.dr_moves.specs.Aside.{AsideFits}
use Rattle.dr_moves.specs.Coming.{next_of}
use Rattle.dr_moves.specs.Moves.{move_of}
use Rattle.dr_moves.specs.declared.carrying.Next.TheVariants as next
use Rattle.dr_moves.specs.declared.moves.Move.{Move}
use Rattle.dr_moves.specs.declared.moves.Move.TheVariants as move
use Rattle.dr_revert.specs.Turns.{Turns}
use Rattle.dr_revert.proofs.TargetLemmas.{commit-turns, revert-turns}
use Rattle.dr_recover.specs.Settled.{settled_by}

module _ (s : PlantState) (t : ConfigTable) (r : Rest) (events : List Event) (m : Member) where
  pub take-skips : is_part (volume_seen s t m.b.0).fields.secondary ≡ false → take_over_on m (world_seen s t r events).control ≡ Pass
  take-skips is = ap (λ b. if b then Do (Make (TakeOver m.b.0)) else Pass) is

  pub take-comes : is_part (volume_seen s t m.b.0).fields.secondary ≡ true → take_over_on m (world_seen s t r events).control ≡ now (TakeOver m.b.0) (world_seen s t r events).control
  take-comes is = ap (λ b. if b then Do (Make (TakeOver m.b.0)) else Pass) is

  when : (b : Bool) (x : Move) → (if b then Do (Make (move_of x)) else Pass) ≡ next_of (if b then next.Do x else next.Pass)
  when true x = refl
  when false x = refl

  -- the entry of a target, from what becomes of it
  pub settle-next : (k : SessionId) (d : Decision) → settle_on k.0 d m (world_seen s t r events).control ≡ next_of (settled_by k d m (volume_seen s t m.c.0).fields)
  settle-next k (CommitRest n) = when (is_flashed n (volume_seen s t m.c.0).fields) (move.Commit m.c m.a k n)
  settle-next k (RevertAll n) = when (is_flashed n (volume_seen s t m.c.0).fields) (move.Revert m.c m.a k n)
  settle-next k (RevertSome o n) = when (is_flashed n (volume_seen s t m.c.0).fields) (move.Revert m.c m.a k n)
  settle-next k NoMember = refl
  settle-next k (Nothing n) = refl
  settle-next k (Impossible a b) = refl

-- a secondary that is taken over is one move of it
pub take-turns : (s : PlantState) (t : ConfigTable) (v : VolumeId) → is_some (place_of t v.0) ≡ true → s.on (volume_seen s t v.0).server ≡ true → is_part (volume_seen s t v.0).fields.secondary ≡ true → Turns s t v.0 (next.Do (move.TakeOver v))
take-turns s t v defined running secondary = record { aims = refl; make = record { may = record { defined = defined; running = running; asks = secondary }; calm = refl; carries = λ w. refl }; few = omega arith }

-- what was decided is a move of the target, or nothing
module _ (s : PlantState) (t : ConfigTable) (m : Member) (defined : is_some (place_of t m.c.0) ≡ true) (running : s.on (volume_seen s t m.c.0).server ≡ true) (aside : AsideFits s t) where
  turns-if : (b : Bool) (x : Move) → (b ≡ true → Turns s t m.c.0 (next.Do x)) → Turns s t m.c.0 (if b then next.Do x else next.Pass)
  turns-if true x turns = turns refl
  turns-if false x turns = tt

  pub settle-turns : (k : SessionId) (d : Decision) → Turns s t m.c.0 (settled_by k d m (volume_seen s t m.c.0).fields)
  settle-turns k (CommitRest n) = turns-if _ _ (λ is. commit-turns s t m.c defined running m.a k n (and_parts (volume_seen s t m.c.0).fields.revertible _ is).0)
  settle-turns k (RevertAll n) = turns-if _ _ (λ is. revert-turns s t m.c defined running m.a k n aside (and_parts (volume_seen s t m.c.0).fields.revertible _ is).0)
  settle-turns k (RevertSome o n) = turns-if _ _ (λ is. revert-turns s t m.c defined running m.a k n aside (and_parts (volume_seen s t m.c.0).fields.revertible _ is).0)
  settle-turns k NoMember = tt
  settle-turns k (Nothing n) = tt
  settle-turns k (Impossible a b) = tt
