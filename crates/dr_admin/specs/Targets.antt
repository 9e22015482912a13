-- The targets that may make a member of a primary and its secondary, as a plant shows them; and what a member's volumes are.
use Rattle.std.specs.Prelude.{◌≡◌, ℕ, ◌+◌, ◌<◌, true, List, [], ◌∷◌, filter, drop, Option, Some, None, is_some}
use Rattle.dr_ids.specs.declared.names.Member.{Member}
use Rattle.dr_plant.specs.State.{PlantState}
use Rattle.dr_config.specs.Table.{ConfigTable, place_of}
use Rattle.dr_model.specs.Entries.{copies_from}
use Rattle.dr_model.specs.SessionPlans.{is_mirrored_target}
use Rattle.dr_volume.specs.View.{volume_seen, ids_of}
use Rattle.dr_admin.specs.declared.targets.Found.{Found}

-- the targets of b whose changes are recorded, and on which the host may not write, from a place in the configuration on
abbrev pub mirrored_from : PlantState → ConfigTable → ℕ → ℕ → List ℕ
mirrored_from s t b place =
    filter (λ u. is_mirrored_target (volume_seen s t u).fields) (filter (λ u. copies_from b (volume_seen s t u).fields) (ids_of (drop place t.volumes)))

-- a target of b that the configuration has
pub record IsDefinedTarget (s : PlantState) (t : ConfigTable) (b u : ℕ) : Type 0 where
  pub defined : is_some (place_of t u) ≡ true
  pub target : copies_from b (volume_seen s t u).fields ≡ true

-- such a target is the first of them, and the others stand behind its place; or there is none
pub record IsFirst (s : PlantState) (t : ConfigTable) (b from : ℕ) (f : Found) : Type 0 where
  pub first : mirrored_from s t b from ≡ f.volume.0 ∷ mirrored_from s t b (f.place + 1)
  pub is : IsDefinedTarget s t b f.volume.0
  pub low : f.place < 64

-- none from this place on, or the first of them with whether another follows
abbrev pub IsNextTarget : PlantState → ConfigTable → ℕ → ℕ → Option Found → Type 0
IsNextTarget s t b from None = mirrored_from s t b from ≡ []
IsNextTarget s t b from (Some f) = IsFirst s t b from f

-- the volumes of a member are there, and their servers are on
pub record IsTargetReady (s : PlantState) (t : ConfigTable) (m : Member) : Type 0 where
  pub a : is_some (place_of t m.a.0) ≡ true
  pub b : is_some (place_of t m.b.0) ≡ true
  pub c : is_some (place_of t m.c.0) ≡ true
  pub a_on : s.on (volume_seen s t m.a.0).server ≡ true
  pub c_on : s.on (volume_seen s t m.c.0).server ≡ true
  pub low : m.server.0 < 8
