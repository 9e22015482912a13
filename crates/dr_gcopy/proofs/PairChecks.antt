-- Checks that may refuse for several reasons, as entries.
use Rattle.std.proofs.Common.{ℕ, ◌≡◌, ◌≢◌, Bool, true, false, sym, ◌∙◌, ap, subst, Option, Some, None}
use Rattle.std.specs.Prelude.{Result, Ok, Err, OnErr, is_err}
use Rattle.dr_logic.specs.Counts.{Counted}
use Rattle.dr_ids.specs.declared.refusal.Refusal.{Refusal}
use Rattle.dr_plant.specs.State.{PlantState}
use Rattle.dr_config.specs.Table.{ConfigTable}
use Rattle.dr_model.specs.Control.{Control}
use Rattle.dr_volume.specs.View.{volume_seen}
use Rattle.dr_moves.specs.Checks.{OnNone, is_stop}
use Rattle.dr_moves.specs.Here.{refusal_of}

abbrev never : Control → Bool
never k = false

pub on-none : (o : Option Refusal) (P : Type 0) → P → OnNone o P
on-none None P p = p
on-none (Some e) P p = tt

-- what isn't a stop changes nothing
pub unless-stopped : (X : Type 0) (res : Result (Unit {0}) Refusal) → OnErr res (is_stop (refusal_of res) ≡ true) → is_stop (refusal_of res) ≡ false → OnErr res X
unless-stopped X (Ok x) stops calm = tt
unless-stopped X (Err e) stops calm = absurd (let no : true ≡ false = sym stops ∙ calm in cc)

pub counted-stops : (res : Result (Unit {0}) Refusal) (a b : ℕ) → OnErr res (is_stop (refusal_of res) ≡ true) → Counted (is_err res) a b → Counted (is_stop (refusal_of res)) a b
counted-stops (Ok x) a b stops counted = counted
counted-stops (Err e) a b stops counted = subst (λ s. Counted s a b) (sym stops) counted

pub servers-apart : (s : PlantState) (t : ConfigTable) (a b : ℕ) → (volume_seen s t a).server ≢ (volume_seen s t b).server → a ≢ b
servers-apart s t a b ne is = ne (ap (λ v. (volume_seen s t v).server) is)
