-- Whose a volume is, for the configuration and for the machine.
use Rattle.std.proofs.Common.{ℕ, ◌≡◌, inl, inr, List, ap, ◌∙◌, sym, Bool, true, false, ◌&&◌, nat_eq, Some, None}
use Rattle.std.specs.Prelude.{is_some}
use Rattle.std.specs.Option.{option_map_or}
use Rattle.std.proofs.lemmas.Bool.Decides.{Decides-eqb}
use Rattle.dr_plant.specs.State.{PlantState}
use Rattle.dr_config.specs.Table.{ConfigTable, entry_of}
use Rattle.dr_config.specs.declared.entries.VolumeEntry.{VolumeEntry}
use Rattle.dr_config.proofs.Lookups.{place-of-entry, either}
use Rattle.dr_host.specs.Writes.{has_owner}
use Rattle.dr_model.specs.declared.event.Event.{Event}
use Rattle.dr_model.specs.WriteEntries.{belongs}
use Rattle.dr_volume.specs.View.{Rest, volume_seen}
use Rattle.dr_volume.proofs.VolumeLaws.{volume-placed}
use Rattle.dr_moves.specs.Here.{world_seen}
use Rattle.dr_volume.proofs.WorldLaws.{any_id}

server-of : (s : PlantState) (t : ConfigTable) (v : ℕ) (e : VolumeEntry) → entry_of t v ≡ Some e → (volume_seen s t v).server ≡ e.server
server-of s t v e found = let at = place-of-entry t v e found in ap (λ x. x.server) (volume-placed s t v at.0 e at.1 at.2)

owner-of : (t : ConfigTable) (v server : ℕ) (e : VolumeEntry) → entry_of t v ≡ Some e → has_owner t v server ≡ nat_eq e.server server
owner-of t v server e found = ap (λ o. option_map_or (λ (x : VolumeEntry). nat_eq x.server server) o false) found

owner-none : (t : ConfigTable) (v server : ℕ) → entry_of t v ≡ None → has_owner t v server ≡ false
owner-none t v server none = ap (λ o. option_map_or (λ (x : VolumeEntry). nat_eq x.server server) o false) none

-- a volume is the server's for the machine where it is for the configuration
pub belongs-seen : (s : PlantState) (t : ConfigTable) (r : Rest) (ev : List Event) (v server : ℕ) → belongs (world_seen s t r ev).control server v ≡ has_owner t v server
belongs-seen s t r ev v server =
    let own : Bool = nat_eq (volume_seen s t v).server server in
    elim (either (entry_of t v)) [
      | inl found ↦ ap (λ b. b && own) (any_id t.volumes v ∙ ap is_some found.1) ∙ ap (λ n. nat_eq n server) (server-of s t v found.0 found.1) ∙ sym (owner-of t v server found.0 found.1)
      | inr none ↦ ap (λ b. b && own) (any_id t.volumes v ∙ ap is_some none) ∙ sym (owner-none t v server none)
    ]

pub own-server : (s : PlantState) (t : ConfigTable) (v server : ℕ) → has_owner t v server ≡ true → (volume_seen s t v).server ≡ server
own-server s t v server h =
    elim (either (entry_of t v)) [
      | inl found ↦ server-of s t v found.0 found.1 ∙ (Decides-eqb found.0.server server).0 (sym (owner-of t v server found.0 found.1) ∙ h)
      | inr none ↦ let e : false ≡ true = sym (owner-none t v server none) ∙ h in absurd cc
    ]
