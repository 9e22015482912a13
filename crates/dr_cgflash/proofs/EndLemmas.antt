-- How a call that takes flash holds off ends.
use Rattle.std.proofs.Common.{ℕ, ◌≡◌, Bool, true, false, List, ◌++◌, refl, ◌∙◌, ap, Some, None, nat_eq}
use Rattle.std.specs.Prelude.{Result, Ok, Err, OnOk, OnErr}
use Rattle.dr_ids.specs.declared.refusal.Refusal.{Refusal}
use Rattle.dr_plant.specs.State.{PlantState}
use Rattle.dr_config.specs.Table.{ConfigTable, place_of, IsSoundConfig}
use Rattle.dr_model.specs.Carry.{Entry}
use Rattle.dr_model.specs.Control.{World}
use Rattle.dr_model.specs.Entries.{subsystem}
use Rattle.dr_model.specs.ReadStops.{Ends}
use Rattle.dr_volume.specs.View.{volume_seen, volume_at}
use Rattle.dr_moves.specs.Here.{refusal_of}
use Rattle.dr_moves.specs.Turns.{Leads, Fails}
use Rattle.dr_moves.proofs.EntryLemmas.{led, failed}
use Rattle.dr_moves.proofs.LeadLemmas.{then-leads, then-fails}
use Rattle.dr_freeze.specs.Checks.{owner_in}
use Rattle.dr_freeze.proofs.BetweenLemmas.{server-owned}
use Rattle.dr_cgflash.specs.Freeing.{IsReleased, AllReleased}

-- checks that pass, and then entries that led on or failed
pub ends-behind : (res : Result (Unit {0}) Refusal) (armed : ℕ → Bool) (w u : World) (checks es : List Entry) → Leads w checks w → OnOk res (Leads w es u) → OnErr res (Fails armed w es u (refusal_of res)) → Ends armed u (refusal_of res) w (checks ++ es)
ends-behind (Ok x) armed w u checks es pass leads fails = led armed w u (checks ++ es) (then-leads w w u checks es pass leads)
ends-behind (Err e) armed w u checks es pass leads fails = failed armed w u (Some e) (checks ++ es) (then-fails armed w w u (Some e) checks es pass fails)

-- where the server of l is on, that of each of its volumes runs
pub all-released : (s u : PlantState) (t : ConfigTable) (l : ℕ) → IsSoundConfig t → s.on (owner_in t l) ≡ true → ((v : ℕ) → nat_eq (subsystem v) l ≡ true → IsReleased s u t v) → AllReleased u t l
all-released s u t l sound on released v into =
    elim (place_of t v) as (λ o. place_of t v ≡ o → (volume_seen u t v).fields.flash_hold ≡ false) [
      | None ↦ λ none. ap (λ o. (volume_at u t o).fields.flash_hold) none
      | Some d ↦ λ at. released v into (ap s.on (server-owned s t l v d sound at into) ∙ on)
    ] refl
