-- What follows a stop in two calls, one after the other.
use Rattle.std.proofs.Common.{ℕ, ◌≡◌, ◌≤◌, ◌+◌, [], ◌∷◌, refl, ◌∙◌, true, arith}
use Rattle.dr_plant.specs.State.{PlantState}
use Rattle.dr_config.specs.Table.{ConfigTable}
use Rattle.dr_model.specs.Carry.{Entry}
use Rattle.dr_model.specs.Log.{Log}
use Rattle.dr_volume.specs.View.{Rest}
use Rattle.dr_facts.proofs.Ends.{ends-wider}
use Rattle.dr_moves.specs.Followed.{EndsSo, EndsEach, KeptBehind}
use Rattle.dr_moves.specs.Here.{world_seen, armed_in}
use Rattle.dr_moves.proofs.KeptLemmas.{wider-armed}

module _ (s m u : PlantState) (c : ConfigTable) (old mid new : Log) where
  -- one entry each, the second also where a server stopped in the first
  pub each-two : (d e : Entry) → KeptBehind s m c old mid 3 true → ((r : Rest) → EndsSo (armed_in s) (world_seen s c r old.events) (d ∷ []) (world_seen m c r mid.events))
      → ((r : Rest) → EndsSo (armed_in m) (world_seen m c r mid.events) (e ∷ []) (world_seen u c r new.events)) → (r : Rest) → EndsEach (armed_in s) (world_seen s c r old.events) (d ∷ e ∷ []) (world_seen u c r new.events)
  each-two d e kept first second r =
      let so = second r in
      let y = world_seen u c r new.events in
      let x = world_seen m c r mid.events in
      record {
        middle = x;
        first = first r;
        later = record {
          middle = y;
          first = record { refusal = so.refusal; ends = ends-wider (armed_in m) (armed_in s) (wider-armed s m kept.unarmed) y so.refusal x (e ∷ []) so.ends };
          later = refl;
        };
      }

  pub kept-two : KeptBehind s m c old mid 3 true → KeptBehind m u c mid new 3 true → KeptBehind s u c old new 6 true
  kept-two first second = record {
    at = second.at;
    unarmed = λ q none. second.unarmed q (first.unarmed q none);
    faults = λ f counted. second.faults f (first.faults f counted);
    room = let a = first.room in let b = second.room in omega (arith, a, b);
    spare = second.spare ∙ first.spare;
  }
