-- The end of the flash holds of a logical subsystem's volumes, and what it leaves.
use Rattle.std.specs.Prelude.{◌≡◌, ◌≢◌, ◌<◌, ◌≤◌, ℕ, Bool, ◌&&◌, true, false, nat_eq, List, [], length, map, drop, Some, refl}
use Rattle.std.proofs.Common.{arith, ap}
use Rattle.std.proofs.Math.ListN.{length-drop, length-map}
use Rattle.std.proofs.lemmas.Option.{slice_get_within}
use Rattle.dr_plant.specs.State.{PlantState}
use Rattle.dr_config.specs.Table.{ConfigTable, place_of}
use Rattle.dr_config.proofs.Lookups.{entry-at-place}
use Rattle.dr_model.specs.declared.event.Event.{Event}
use Rattle.dr_model.specs.Carry.{Entry}
use Rattle.dr_model.specs.Entries.{subsystem}
use Rattle.dr_model.specs.WriteEntries.{flash_free_on}
use Rattle.dr_volume.specs.Update.{IsAsBefore}
use Rattle.dr_volume.specs.View.{Rest, volume_seen, ids_of}
use Rattle.dr_moves.specs.Coming.{next_of, MayCome, Went, NotTarget, GoesOn, cost_of}
use Rattle.dr_moves.specs.Here.{world_seen}
use Rattle.dr_moves.specs.declared.carrying.Next.{Next}

-- a volume of logical subsystem l, whose server runs, has a flash hold
abbrev pub held_in : PlantState → ConfigTable → ℕ → ℕ → Bool
held_in s t l v = nat_eq (subsystem v) l && (s.on (volume_seen s t v).server && (volume_seen s t v).fields.flash_hold)

-- what is left
abbrev pub frees_from : ConfigTable → ℕ → ℕ → List Entry
frees_from c l place = map (flash_free_on l) (ids_of (drop place c.volumes))

-- No volume of logical subsystem l has a flash hold.
abbrev pub AllReleased : PlantState → ConfigTable → ℕ → Type 0
AllReleased s t l = (v : ℕ) → nat_eq (subsystem v) l ≡ true → (volume_seen s t v).fields.flash_hold ≡ false

-- From s to u the volume has lost its flash hold, if its server runs.
abbrev pub IsReleased : PlantState → PlantState → ConfigTable → ℕ → Type 0
IsReleased s u c v = s.on (volume_seen s c v).server ≡ true → (volume_seen u c v).fields.flash_hold ≡ false

-- What becomes of v is what the entry on it comes to: one move of it at most, none where it isn't in l; and a running volume
-- of l has no flash hold then.
pub record IsStep (s : PlantState) (c : ConfigTable) (l v : ℕ) (next : Next) : Type 0 where
  pub comes : (r : Rest) (events : List Event) → flash_free_on l v (world_seen s c r events).control ≡ next_of next
  pub may : MayCome s c next
  pub few : cost_of next s c ≤ 1
  pub goes_on : GoesOn next
  pub alone : (q : ℕ) → q ≢ v → NotTarget next q
  pub apart : (q : ℕ) → nat_eq (subsystem q) l ≡ false → NotTarget next q
  pub released : (u : PlantState) → Went s u c next → nat_eq (subsystem v) l ≡ true → IsReleased s u c v
  pub on : (u : PlantState) → Went s u c next → u.on ≡ s.on

-- From s to u no volume before the place was moved, nor any that isn't in l; and where all went well, each of l from there on has
-- lost its flash hold.
pub record HasPassed (done : Bool) (s u : PlantState) (c : ConfigTable) (l place : ℕ) : Type 0 where
  pub before : (v : ℕ) → ((d : ℕ) → place_of c v ≡ Some d → d < place) → IsAsBefore s u c v
  pub others : (v : ℕ) → nat_eq (subsystem v) l ≡ false → IsAsBefore s u c v
  pub released : done ≡ true → (v d : ℕ) → place_of c v ≡ Some d → place ≤ d → nat_eq (subsystem v) l ≡ true → IsReleased s u c v

-- no volume is left
pub passed-none : (s : PlantState) (c : ConfigTable) (l place : ℕ) → frees_from c l place ≡ [] → HasPassed true s s c l place
passed-none s c l place none =
    let all : length c.volumes ≤ place = let e = simp (length-map, length-drop) at (ap length none) in omega (arith, e) in
    record {
      before = λ v low. record { volume = refl; tracks = refl; saved = refl };
      others = λ v out. record { volume = refl; tracks = refl; saved = refl };
      released = λ _ v d is le so. let e = entry-at-place c v d is in let low = slice_get_within c.volumes d e.0 e.1 in absurd (omega (arith, low, le, all));
    }
