-- The server of a logical subsystem, for the configuration and for the machine.
use Rattle.std.proofs.Common.{ℕ, ◌≡◌, ◌<◌, Bool, true, List, ◌∷◌, sym, ◌∙◌, ap, subst, Option, Some, None}
use Rattle.std.specs.Prelude.{unwrap_or, IfSome}
use Rattle.dr_plant.specs.State.{PlantState}
use Rattle.dr_config.specs.Table.{ConfigTable, lss_owner, HasServer}
use Rattle.dr_ids.specs.declared.names.ServerId.{ServerId}
use Rattle.dr_model.specs.declared.event.Event.{Event}
use Rattle.dr_ids.specs.declared.refusal.Refusal.{Refusal}
use Rattle.dr_model.specs.Control.{Control, World}
use Rattle.dr_model.specs.Carry.{Entry, check}
use Rattle.dr_volume.specs.View.{Rest, on_seen}
use Rattle.dr_moves.specs.Here.{world_seen}
use Rattle.dr_moves.specs.Checks.{Checked}
use Rattle.dr_facts.proofs.Ends.{ends-passed}
use Rattle.dr_freeze.specs.Checks.{owner_in, is_up}
use Rattle.dr_volume.proofs.WorldLaws.{on-seen}

pub owner-is : (t : ConfigTable) (l server : ℕ) → Some server ≡ lss_owner t l → owner_in t l ≡ server
owner-is t l server is = ap (λ o. unwrap_or o 0) (sym is)

pub up-here : (s : PlantState) (t : ConfigTable) (r : Rest) (events : List Event) (l server : ℕ) → server < 8 → Some server ≡ lss_owner t l → is_up (owner_in t l) (world_seen s t r events).control ≡ s.on server
up-here s t r events l server low is = ap (on_seen s) (owner-is t l server is) ∙ on-seen s server low

-- checks behind one that passes
pub checked-next : (w : World) (ok : Control → Bool) (why : Refusal) (es : List Entry) (o : Option Refusal) → ok w.control ≡ true → Checked w es o → Checked w (check ok why ∷ es) o
checked-next w ok why es o passes = elim o as (λ o. Checked w es o → Checked w (check ok why ∷ es) o) [
  | None ↦ λ more armed u r ds e. ends-passed armed u r w ok why _ passes (more armed u r ds e)
  | Some x ↦ λ more armed ds. ends-passed armed w (Some x) w ok why _ passes (more armed ds)
]

pub owner-low : (t : ConfigTable) (o : Option ServerId) (x : ServerId) → IfSome o (λ (s : ServerId). HasServer t s.0) → o ≡ Some x → x.0 < 8
owner-low t o x defined is = let h : HasServer t x.0 = subst (λ o. IfSome o (λ (s : ServerId). HasServer t s.0)) is defined in h.below
