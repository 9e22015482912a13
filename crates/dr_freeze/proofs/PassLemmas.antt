-- The entries of a freeze or a thaw, from one volume of the configuration to the next, and what they change.
use Rattle.std.proofs.Common.{ℕ, ◌≡◌, ◌≢◌, ◌<◌, ◌+◌, ◌-◌, arith, inl, inr, Bool, true, false, ◌∷◌, length, map, slice_get, refl, sym, ◌∙◌, ap, subst, Some, None}
use Rattle.std.specs.Prelude.{option_map}
use Rattle.std.proofs.Math.ListN.{length-drop, length-map}
use Rattle.std.proofs.lemmas.Bool.Decides.{eqb_tells}
use Rattle.dr_plant.specs.State.{PlantState}
use Rattle.dr_config.specs.Table.{ConfigTable, place_of}
use Rattle.dr_config.specs.declared.entries.VolumeEntry.{VolumeEntry}
use Rattle.dr_config.proofs.Lookups.{entry-at-place}
use Rattle.dr_model.specs.Layout.{is_part}
use Rattle.dr_model.specs.Control.{Volume}
use Rattle.dr_volume.specs.View.{volume_seen, volume_at}
use Rattle.dr_moves.specs.Coming.{Went, CutIn}
use Rattle.dr_moves.specs.declared.carrying.Next.{Next}
use Rattle.dr_moves.proofs.KeptLemmas.{before-then}
use Rattle.dr_moves.proofs.ActedLemmas.{went-others, cut-others}
use Rattle.dr_flash.proofs.CopyLemmas.{ids-next}
use Rattle.dr_freeze.specs.declared.changes.Change.{Change}
use Rattle.dr_freeze.specs.Between.{between}
use Rattle.dr_freeze.specs.Changes.{change_on, IsChanged, IsStep}
use Rattle.dr_freeze.specs.Passing.{changes_from, HasPassed}
use Rattle.dr_freeze.proofs.BetweenLemmas.{primary-between}

pub changes-next : (t : ConfigTable) (x : Change) (l m place v : ℕ) → Some v ≡ option_map (λ (e : VolumeEntry). e.id) (slice_get t.volumes place) → changes_from t x l m place ≡ change_on x l m v ∷ changes_from t x l m (place + 1)
changes-next t x l m place v at = ap (map (change_on x l m)) (ids-next t place v at)

pub changes-count : (t : ConfigTable) (x : Change) (l m place : ℕ) → length (changes_from t x l m place) ≡ length t.volumes - place
changes-count t x l m place = simp (length-map, length-drop)

-- two volumes don't stand at one place
pub place-own : (c : ConfigTable) (q v d : ℕ) → place_of c q ≡ Some d → place_of c v ≡ Some d → q ≡ v
place-own c q v d a b =
    let e = entry-at-place c q d a in
    let f = entry-at-place c v d b in
    let same : e.0 ≡ f.0 = let k : Some e.0 ≡ Some f.0 = sym e.1 ∙ f.1 in cc in
    sym e.3 ∙ ap (λ (x : VolumeEntry). x.id) same ∙ f.3

-- one volume at a place
module _ (s u w : PlantState) (c : ConfigTable) (x : Change) (l m v place : ℕ) (next : Next) (at : place_of c v ≡ Some place) (step : IsStep s c x l m v next) where
  before-other : (q : ℕ) → ((d : ℕ) → place_of c q ≡ Some d → d < place) → q ≢ v
  before-other q low same = let e = low place (ap (place_of c) same ∙ at) in omega (arith, e)

  -- the others were passed behind it
  pub passed-on : (done : Bool) → Went s u c next → HasPassed x done u w c l m (place + 1) → HasPassed x done s w c l m place
  passed-on done went more = record {
    before = λ q low. before-then s u w c q (went-others s u c next went q (step.alone q (before-other q low))) (more.before q (λ d is. let e = low d is in omega (arith, e)));
    changed = λ all q d is le so. elim (eqb_tells d place) [
      | inl p ↦
          let same : q ≡ v = place-own c q v d is (at ∙ ap (λ n. Some n) (sym p.1)) in
          subst (λ z. IsChanged x (volume_seen w c z).fields) (sym same)
          (subst (λ (y : Volume). IsChanged x y.fields) (sym (more.before v (λ e own. let k : Some e ≡ Some place = sym own ∙ at in let k2 : e ≡ place = cc in omega (arith, k2))).volume) (step.changed u went (ap (between s c l m) (sym same) ∙ so)))
      | inr p ↦ let ne = p.1 in more.changed all q d is (omega (arith, ne, le)) (step.still u went q ∙ so)
    ];
  }

  -- it was cut short
  pub passed-cut : (counts : Bool) → CutIn s u c counts next → HasPassed x false s u c l m place
  passed-cut counts cut = record {
    before = λ q low. cut-others s u c counts next cut q (step.alone q (before-other q low));
    changed = λ never. absurd (let e : false ≡ true = never in cc);
  }

-- from the first on
pub passed-all : (s u : PlantState) (c : ConfigTable) (x : Change) (l m : ℕ) → HasPassed x true s u c l m 0 → (v : ℕ) → between s c l m v ≡ true → IsChanged x (volume_seen u c v).fields
passed-all s u c x l m passed v is =
    elim (place_of c v) as (λ o. place_of c v ≡ o → IsChanged x (volume_seen u c v).fields) [
      | None ↦ λ none. absurd (let e : false ≡ true = sym (ap (λ o. is_part (volume_at s c o).fields.primary) none) ∙ primary-between s c l m v is in cc)
      | Some d ↦ λ at. passed.changed refl v d at (omega arith) is
    ] refl
