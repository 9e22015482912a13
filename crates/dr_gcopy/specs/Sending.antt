-- What a secondary does for a track that comes to it, and what a primary does with one that it sends.
use Rattle.std.specs.Prelude.{◌≡◌, ◌≢◌, ℕ, nat_le, true, false, Bool, List, [], ◌∷◌, ◌++◌, Option, Some, None, is_some, if◌then◌else◌}
use Rattle.dr_ids.specs.declared.refusal.Refusal.{Refusal}
use Rattle.dr_plant.specs.State.{PlantState}
use Rattle.dr_config.specs.Table.{ConfigTable, place_of}
use Rattle.dr_model.specs.Layout.{Fields}
use Rattle.dr_model.specs.Control.{Control}
use Rattle.dr_model.specs.Moves.{Store}
use Rattle.dr_model.specs.Carry.{Entry, now}
use Rattle.dr_model.specs.Entries.{secondary_state, copy_first}
use Rattle.dr_model.specs.PairEntries.{belongs_to, refuse_if, send_refusal, suspend_where, flashed_refusal, store_on, strike_on}
use Rattle.dr_volume.specs.View.{volume_seen}

-- b is no secondary of a
abbrev pub stranger_refusal : ℕ → ℕ → Control → Option Refusal
stranger_refusal a b k = if belongs_to a b k then None else Some (secondary_state k b)

-- secondary b takes track t of its primary a: its targets keep theirs first
abbrev pub receive_entries : List ℕ → ℕ → ℕ → ℕ → Bool → List Entry
receive_entries volumes a b t last =
    refuse_if (stranger_refusal a b)
    ∷ refuse_if (flashed_refusal b)
    ∷ copy_first volumes b t
    ++ now (Store b t a last) ∷ []

-- the parts of what is done for a track that is sent: why it isn't, and the moves
abbrev pub refuse_entries : ℕ → ℕ → List Entry
refuse_entries a b = suspend_where (send_refusal a b) a ∷ refuse_if (send_refusal a b) ∷ []

-- the secondary stores the track, and the primary strikes it off
abbrev pub exchange_entries : ℕ → ℕ → ℕ → List Entry
exchange_entries a b t = store_on a b t ∷ strike_on a t ∷ []

-- behind what the secondary's targets keep
abbrev pub pass_entries : List ℕ → ℕ → ℕ → ℕ → List Entry
pass_entries volumes a b t = copy_first volumes b t ++ exchange_entries a b t

-- as many tracks were sent as were to be, at most
abbrev pub enough : Option ℕ → ℕ → Bool
enough None sent = false
enough (Some most) sent = nat_le most sent

-- A volume with fields g has the parts that it has with f, for the same volumes.
pub record SameParts (f g : Fields) : Type 0 where
  pub primary : g.primary ≡ f.primary
  pub primary_partner : g.primary_partner ≡ f.primary_partner
  pub secondary : g.secondary ≡ f.secondary
  pub secondary_partner : g.secondary_partner ≡ f.secondary_partner

-- u is defined, on another server than v, and as large
pub record MayPair (s : PlantState) (c : ConfigTable) (v u : ℕ) : Type 0 where
  pub to : is_some (place_of c u) ≡ true
  pub two_servers : (volume_seen s c v).server ≢ (volume_seen s c u).server
  pub size : (volume_seen s c u).tracks ≡ (volume_seen s c v).tracks
