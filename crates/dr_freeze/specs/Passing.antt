-- All volumes from a place in the configuration on, in a freeze or a thaw.
use Rattle.std.specs.Prelude.{◌≡◌, ℕ, ◌<◌, ◌≤◌, Bool, true, List, [], length, map, drop, Some, refl}
use Rattle.std.proofs.Common.{arith, ap}
use Rattle.std.proofs.Math.ListN.{length-drop, length-map}
use Rattle.std.proofs.lemmas.Option.{slice_get_within}
use Rattle.dr_plant.specs.State.{PlantState}
use Rattle.dr_config.specs.Table.{ConfigTable, place_of}
use Rattle.dr_config.proofs.Lookups.{entry-at-place}
use Rattle.dr_model.specs.Carry.{Entry}
use Rattle.dr_volume.specs.Update.{IsAsBefore}
use Rattle.dr_volume.specs.View.{volume_seen, ids_of}
use Rattle.dr_freeze.specs.declared.changes.Change.{Change}
use Rattle.dr_freeze.specs.Between.{between}
use Rattle.dr_freeze.specs.Changes.{change_on, IsChanged}

-- what is left
abbrev pub changes_from : ConfigTable → Change → ℕ → ℕ → ℕ → List Entry
changes_from c x l m place = map (change_on x l m) (ids_of (drop place c.volumes))

-- From s to u no volume before the place was moved; and where all went well, each primary between both from there on was changed.
pub record HasPassed (x : Change) (done : Bool) (s u : PlantState) (c : ConfigTable) (l m place : ℕ) : Type 0 where
  pub before : (v : ℕ) → ((d : ℕ) → place_of c v ≡ Some d → d < place) → IsAsBefore s u c v
  pub changed : done ≡ true → (v d : ℕ) → place_of c v ≡ Some d → place ≤ d → between s c l m v ≡ true → IsChanged x (volume_seen u c v).fields

-- no volume is left
pub passed-none : (x : Change) (s : PlantState) (c : ConfigTable) (l m place : ℕ) → changes_from c x l m place ≡ [] → HasPassed x true s s c l m place
passed-none x s c l m place none =
    let all : length c.volumes ≤ place = let e = simp (length-map, length-drop) at (ap length none) in omega (arith, e) in
    record {
      before = λ v low. record { volume = refl; tracks = refl; saved = refl };
      changed = λ _ v d is le so. let e = entry-at-place c v d is in let low = slice_get_within c.volumes d e.0 e.1 in absurd (omega (arith, low, le, all));
    }
