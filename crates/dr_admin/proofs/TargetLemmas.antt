-- The targets of a secondary that may make a member, from one place in the configuration to the next.
use Rattle.std.proofs.Common.{ℕ, ◌≡◌, ◌+◌, ◌≤◌, Bool, true, false, not, ◌&&◌, ◌||◌, cond, nat_eq, List, [], ◌∷◌, length, drop, slice_get, refl, sym, ◌∙◌, ap, Option, Some, None}
use Rattle.std.specs.Prelude.{filter, option_map, is_some, IfSome, if◌then◌else◌}
use Rattle.std.proofs.lemmas.List.{drop_all}
use Rattle.std.proofs.lemmas.Bool.{eqb-true, and_parts}
use Rattle.dr_ids.specs.declared.names.VolumeId.{VolumeId}
use Rattle.dr_plant.specs.State.{PlantState}
use Rattle.dr_config.specs.Table.{ConfigTable, place_of}
use Rattle.dr_config.specs.declared.entries.VolumeEntry.{VolumeEntry}
use Rattle.dr_model.specs.Layout.{Fields}
use Rattle.dr_model.specs.Control.{Control}
use Rattle.dr_model.specs.Entries.{copies_from, fields_at}
use Rattle.dr_model.specs.SessionPlans.{is_mirrored_target, the_only, settled_target}
use Rattle.dr_volume.specs.View.{volume_seen, ids_of}
use Rattle.dr_moves.specs.Fit.{RelationsFit}
use Rattle.dr_flash.proofs.CopyLemmas.{ids-next}
use Rattle.dr_admin.specs.Targets.{mirrored_from, IsFirst}
use Rattle.dr_admin.specs.declared.targets.Found.{Found}

filter-on : (P Q : ℕ → Bool) (u : ℕ) (us : List ℕ) → (Q u && P u) ≡ true → filter P (filter Q (u ∷ us)) ≡ u ∷ filter P (filter Q us)
filter-on P Q u us is =
    elim (Q u) as (λ b. (b && P u) ≡ true → filter P (cond b (u ∷ filter Q us) (filter Q us)) ≡ u ∷ filter P (filter Q us)) [
      | true ↦ λ p. ap (λ c. cond c (u ∷ filter P (filter Q us)) (filter P (filter Q us))) p
      | false ↦ λ p. absurd cc
    ] is

filter-off : (P Q : ℕ → Bool) (u : ℕ) (us : List ℕ) → (Q u && P u) ≡ false → filter P (filter Q (u ∷ us)) ≡ filter P (filter Q us)
filter-off P Q u us is =
    elim (Q u) as (λ b. (b && P u) ≡ false → filter P (cond b (u ∷ filter Q us) (filter Q us)) ≡ filter P (filter Q us)) [
      | true ↦ λ p. ap (λ c. cond c (u ∷ filter P (filter Q us)) (filter P (filter Q us))) p
      | false ↦ λ p. refl
    ] is

module _ (s : PlantState) (t : ConfigTable) (b place u : ℕ) (at : Some u ≡ option_map (λ (e : VolumeEntry). e.id) (slice_get t.volumes place)) where
  abbrev f : Fields
  f = (volume_seen s t u).fields

  pub mirrored-here : (copies_from b f && is_mirrored_target f) ≡ true → mirrored_from s t b place ≡ u ∷ mirrored_from s t b (place + 1)
  mirrored-here is =
      ap (λ us. filter (λ u. is_mirrored_target (volume_seen s t u).fields) (filter (λ u. copies_from b (volume_seen s t u).fields) us)) (ids-next t place u at)
      ∙ filter-on (λ u. is_mirrored_target (volume_seen s t u).fields) (λ u. copies_from b (volume_seen s t u).fields) u (ids_of (drop (place + 1) t.volumes)) is

  pub mirrored-later : (copies_from b f && is_mirrored_target f) ≡ false → mirrored_from s t b place ≡ mirrored_from s t b (place + 1)
  mirrored-later is =
      ap (λ us. filter (λ u. is_mirrored_target (volume_seen s t u).fields) (filter (λ u. copies_from b (volume_seen s t u).fields) us)) (ids-next t place u at)
      ∙ filter-off (λ u. is_mirrored_target (volume_seen s t u).fields) (λ u. copies_from b (volume_seen s t u).fields) u (ids_of (drop (place + 1) t.volumes)) is

pub mirrored-none : (s : PlantState) (t : ConfigTable) (b place : ℕ) → length t.volumes ≤ place → mirrored_from s t b place ≡ []
mirrored-none s t b place all =
    ap (λ es. filter (λ u. is_mirrored_target (volume_seen s t u).fields) (filter (λ u. copies_from b (volume_seen s t u).fields) (ids_of es))) (drop_all place t.volumes all)

-- the only one of them
module _ (s : PlantState) (t : ConfigTable) (b : ℕ) where
  pub only-none : mirrored_from s t b 0 ≡ [] → None ≡ the_only (mirrored_from s t b 0)
  only-none none = sym (ap the_only none)

  pub only-more : (first second : Found) → IsFirst s t b 0 first → IsFirst s t b (first.place + 1) second → None ≡ the_only (mirrored_from s t b 0)
  only-more first second next also = sym (ap the_only (next.first ∙ ap (λ us. first.volume.0 ∷ us) also.first))

  pub only-one : (first : Found) → IsFirst s t b 0 first → mirrored_from s t b (first.place + 1) ≡ [] → Some first.volume.0 ≡ the_only (mirrored_from s t b 0)
  only-one first next none = sym (ap the_only (next.first ∙ ap (λ us. first.volume.0 ∷ us) none))

-- whether that one counts
module _ (k : Control) (u : ℕ) (o : Option ℕ) (is : Some u ≡ o) where
  pub settled-is : not ((fields_at k u).revertible || (fields_at k u).reversing) ≡ true → Some u ≡ settled_target k o
  settled-is h = sym (ap (λ b. if b then None else Some u) (flip ((fields_at k u).revertible || (fields_at k u).reversing) h)) ∙ ap (settled_target k) is
    where
      flip : (b : Bool) → not b ≡ true → b ≡ false
      flip true h = absurd cc
      flip false h = refl

  pub settled-not : not ((fields_at k u).revertible || (fields_at k u).reversing) ≡ false → None ≡ settled_target k o
  settled-not h = sym (ap (λ b. if b then None else Some u) (flip ((fields_at k u).revertible || (fields_at k u).reversing) h)) ∙ ap (settled_target k) is
    where
      flip : (b : Bool) → not b ≡ false → b ≡ true
      flip true h = refl
      flip false h = absurd cc

-- a volume of the configuration is defined
pub placed-some : (t : ConfigTable) (i : ℕ) (o : Option VolumeId) (v : VolumeId) → IfSome o (λ (v : VolumeId). place_of t v.0 ≡ Some i) → o ≡ Some v → is_some (place_of t v.0) ≡ true
placed-some t i None v placed is = absurd cc
placed-some t i (Some u) v placed is = let same : u ≡ v = cc in ap (λ (w : VolumeId). is_some (place_of t w.0)) (sym same) ∙ ap is_some placed

-- a target is on the server of its source
pub target-on : (s : PlantState) (t : ConfigTable) (b c : ℕ) → RelationsFit s t → copies_from b (volume_seen s t c).fields ≡ true → s.on (volume_seen s t b).server ≡ true → s.on (volume_seen s t c).server ≡ true
target-on s t b c fit is on =
    let f = (volume_seen s t c).fields in
    let related = (and_parts f.related (nat_eq f.source b) is).0 in
    let source = eqb-true f.source b ((and_parts f.related (nat_eq f.source b) is).1) in
    ap s.on ((fit.source c related).same_server ∙ ap (λ v. (volume_seen s t v).server) source) ∙ on
