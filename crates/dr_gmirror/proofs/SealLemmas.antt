-- The entries of a seal, by what the two volumes say.
use Rattle.std.proofs.Common.{ℕ, ◌≡◌, inl, inr, Bool, true, false, not, ◌&&◌, List, nat_eq, refl, sym, ◌∙◌, ap, subst, None, Some}
use Rattle.std.specs.Prelude.{if◌then◌else◌}
use Rattle.std.proofs.lemmas.Bool.{cases_eq}
use Rattle.dr_ids.specs.declared.refusal.Refusal.{Refusal}
use Rattle.dr_ids.specs.declared.refusal.Refusal.TheVariants.{Void}
use Rattle.dr_plant.specs.State.{PlantState}
use Rattle.dr_config.specs.Table.{ConfigTable}
use Rattle.dr_model.specs.declared.event.Event.{Event}
use Rattle.dr_model.specs.Layout.{Fields}
use Rattle.dr_model.specs.Control.{Volume, World}
use Rattle.dr_model.specs.Relations.{is_bare}
use Rattle.dr_model.specs.Moves.{Seal}
use Rattle.dr_model.specs.Carry.{Make, Pass, Do}
use Rattle.dr_model.specs.PairEntries.{send_refusal}
use Rattle.dr_model.specs.SessionEntries.{seal_refusal, seal_on}
use Rattle.dr_volume.specs.Update.{IsMoved, OthersStay}
use Rattle.dr_volume.specs.View.{Rest, volume_seen}
use Rattle.dr_moves.specs.Here.{world_seen}
use Rattle.dr_gmirror.specs.Orders.{sync_seen}

module _ (s : PlantState) (t : ConfigTable) (r : Rest) (events : List Event) (a b : ℕ) where
  abbrev w : World
  w = world_seen s t r events

  pub refusal-drained : is_bare (volume_seen s t a).fields.out_of_sync ≡ true → seal_refusal a b w.control ≡ send_refusal a b w.control
  refusal-drained is = ap (λ d. if d then send_refusal a b w.control else None) is

  pub refusal-waits : is_bare (volume_seen s t a).fields.out_of_sync ≡ false → seal_refusal a b w.control ≡ None
  refusal-waits is = ap (λ d. if d then send_refusal a b w.control else None) is

  pub seal-waits : (k n : ℕ) → is_bare (volume_seen s t a).fields.out_of_sync ≡ false → seal_on k a b n w.control ≡ Pass
  seal-waits k n is = ap (λ d. if d && not (nat_eq (volume_seen s t b).fields.seal n) then Do (Make (Seal b a k n)) else Pass) is

  pub seal-skips : (k n : ℕ) → is_bare (volume_seen s t a).fields.out_of_sync ≡ true → nat_eq (volume_seen s t b).fields.seal n ≡ true → seal_on k a b n w.control ≡ Pass
  seal-skips k n is so = λ i. if is i && not (so i) then Do (Make (Seal b a k n)) else Pass

  pub seal-comes : (k n : ℕ) → is_bare (volume_seen s t a).fields.out_of_sync ≡ true → nat_eq (volume_seen s t b).fields.seal n ≡ false → seal_on k a b n w.control ≡ Do (Make (Seal b a k n))
  seal-comes k n is so = λ i. if is i && not (so i) then Do (Make (Seal b a k n)) else Pass

-- what the check of the attempt says
pub recorded-by : (b : Bool) (n : ℕ) → None ≡ (if b then None else Some (Void n)) → b ≡ true
recorded-by true n is = refl
recorded-by false n is = absurd cc

pub unrecorded-by : (b : Bool) (n : ℕ) (why : Refusal) → Some why ≡ (if b then None else Some (Void n)) → b ≡ false
unrecorded-by true n why is = absurd cc
unrecorded-by false n why is = refl

-- a seal leaves what is out of sync
pub sync-kept : (s u : PlantState) (t : ConfigTable) (v : ℕ) (f : Fields) → IsMoved s u t v f None → f.out_of_sync ≡ sync_seen s t v → OthersStay s u t v → (q : ℕ) → sync_seen u t q ≡ sync_seen s t q
sync-kept s u t v f moved is others q = elim (cases_eq q v) [
  | inl same ↦ subst (λ z. sync_seen u t z ≡ sync_seen s t z) (sym same) (ap (λ (x : Volume). x.fields.out_of_sync) moved.volume ∙ is)
  | inr ne ↦ ap (λ (x : Volume). x.fields.out_of_sync) (others q ne).volume
]
