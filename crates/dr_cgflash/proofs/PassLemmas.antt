-- The flash holds of a logical subsystem, from one volume of the configuration to the next.
use Rattle.std.proofs.Common.{ℕ, ◌≡◌, ◌≢◌, ◌<◌, ◌+◌, ◌-◌, arith, inl, inr, Bool, true, false, ◌∷◌, length, map, slice_get, refl, sym, ◌∙◌, ap, subst, Some, None, nat_eq}
use Rattle.std.specs.Prelude.{option_map}
use Rattle.std.proofs.Math.ListN.{length-drop, length-map}
use Rattle.std.proofs.lemmas.Bool.Decides.{eqb_tells}
use Rattle.dr_plant.specs.State.{PlantState}
use Rattle.dr_config.specs.Table.{ConfigTable, place_of}
use Rattle.dr_config.specs.declared.entries.VolumeEntry.{VolumeEntry}
use Rattle.dr_model.specs.Control.{Volume}
use Rattle.dr_model.specs.Entries.{subsystem}
use Rattle.dr_model.specs.WriteEntries.{flash_free_on}
use Rattle.dr_volume.specs.View.{volume_at}
use Rattle.dr_moves.specs.Coming.{Went, CutIn}
use Rattle.dr_moves.specs.declared.carrying.Next.{Next}
use Rattle.dr_moves.proofs.KeptLemmas.{before-then}
use Rattle.dr_moves.proofs.ActedLemmas.{went-others, cut-others}
use Rattle.dr_flash.proofs.CopyLemmas.{ids-next}
use Rattle.dr_freeze.proofs.PassLemmas.{place-own}
use Rattle.dr_cgflash.specs.Freeing.{frees_from, IsReleased, IsStep, HasPassed}

pub frees-next : (t : ConfigTable) (l place v : ℕ) → Some v ≡ option_map (λ (e : VolumeEntry). e.id) (slice_get t.volumes place) → frees_from t l place ≡ flash_free_on l v ∷ frees_from t l (place + 1)
frees-next t l place v at = ap (map (flash_free_on l)) (ids-next t place v at)

pub frees-count : (t : ConfigTable) (l place : ℕ) → length (frees_from t l place) ≡ length t.volumes - place
frees-count t l place = simp (length-map, length-drop)

-- one volume at a place
module _ (s u w : PlantState) (c : ConfigTable) (l v place : ℕ) (next : Next) (at : place_of c v ≡ Some place) (step : IsStep s c l v next) where
  before-other : (q : ℕ) → ((d : ℕ) → place_of c q ≡ Some d → d < place) → q ≢ v
  before-other q low same = let e = low place (ap (place_of c) same ∙ at) in omega (arith, e)

  elsewhere : (q d : ℕ) → place_of c q ≡ Some d → d ≢ place → q ≢ v
  elsewhere q d is ne same = ne (let k : Some d ≡ Some place = sym is ∙ ap (place_of c) same ∙ at in cc)

  -- the others were passed behind it
  pub passed-on : (done : Bool) → Went s u c next → HasPassed done u w c l (place + 1) → HasPassed done s w c l place
  passed-on done went more = record {
    before = λ q low. before-then s u w c q (went-others s u c next went q (step.alone q (before-other q low))) (more.before q (λ d is. let e = low d is in omega (arith, e)));
    others = λ q out. before-then s u w c q (went-others s u c next went q (step.apart q out)) (more.others q out);
    released = λ all q d is le into. elim (eqb_tells d place) [
      | inl p ↦
          let same : q ≡ v = place-own c q v d is (at ∙ ap (λ n. Some n) (sym p.1)) in
          subst (λ z. nat_eq (subsystem z) l ≡ true → IsReleased s w c z) (sym same)
          (λ own on. ap (λ (y : Volume). y.fields.flash_hold) (more.before v (λ e here. let k : Some e ≡ Some place = sym here ∙ at in let k2 : e ≡ place = cc in omega (arith, k2))).volume ∙ step.released u went own on) into
      | inr p ↦ λ on.
          let ne = p.1 in
          let stays = went-others s u c next went q (step.alone q (elsewhere q d is ne)) in
          more.released all q d is (omega (arith, ne, le)) into ((λ i. step.on u went i (stays.volume i).server) ∙ on)
    ];
  }

  -- it was cut short
  pub passed-cut : (counts : Bool) → CutIn s u c counts next → HasPassed false s u c l place
  passed-cut counts cut = record {
    before = λ q low. cut-others s u c counts next cut q (step.alone q (before-other q low));
    others = λ q out. cut-others s u c counts next cut q (step.apart q out);
    released = λ never. absurd (let e : false ≡ true = never in cc);
  }

-- from the first on
pub passed-all : (s u : PlantState) (c : ConfigTable) (l : ℕ) → HasPassed true s u c l 0 → (v : ℕ) → nat_eq (subsystem v) l ≡ true → IsReleased s u c v
passed-all s u c l passed v into =
    elim (place_of c v) as (λ o. place_of c v ≡ o → IsReleased s u c v) [
      | None ↦ λ none on. ap (λ o. (volume_at u c o).fields.flash_hold) none
      | Some d ↦ λ at. passed.released refl v d at (omega arith) into
    ] refl
