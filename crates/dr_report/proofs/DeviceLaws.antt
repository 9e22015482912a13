-- The volumes of an image, one after another.
use Rattle.std.proofs.Common.{◌≡◌, ℕ, zero, suc, ◌+◌, ◌<◌, List, [], ◌∷◌, ◌++◌, length, map, take, get_or, refl, ap, sym, ◌∙◌, Option, Some, None, option_map}
use Rattle.std.specs.List.{slice_get}
use Rattle.std.specs.Prelude.{unwrap_or}
use Rattle.std.proofs.lemmas.Option.{slice_get_within, unwrap_or-slice_get}
use Rattle.std.proofs.lemmas.List.{take_more, map-append}
use Rattle.dr_model.specs.PlantImage.{Volume}
use Rattle.dr_image.specs.declared.held.ImageVolume.{ImageVolume}
use Rattle.dr_image.specs.Shown.{owned, block_of_one}
use Rattle.dr_report.specs.Known.{Known, known_at, known_by, known_on}

-- what is known of the volume at a place
known-there : (vs : List Volume) (i : ℕ) (v : Volume) → slice_get vs i ≡ Some v → known_at vs i (owned v) ≡ known_by v
known-there vs i v e = ap (λ o. known_on v.volume v.tracks (block_of_one o)) e

-- one volume more
pub known-more : (vs : List Volume) (i : ℕ) (v : ImageVolume) (k : Known) (ks : List Known) → Some v ≡ option_map owned (slice_get vs i) → k ≡ known_at vs i v → ks ≡ map known_by (take i vs) → ks ++ k ∷ [] ≡ map known_by (take (i + 1) vs)
known-more vs i v k ks there is so_far = by (slice_get vs i) refl there
  where
    by : (o : Option Volume) → slice_get vs i ≡ o → Some v ≡ option_map owned o → ks ++ k ∷ [] ≡ map known_by (take (i + 1) vs)
    by None e here = absurd cc
    by (Some w) e here =
        let same : v ≡ owned w = cc in
        let lt : i < length vs = slice_get_within vs i w e in
        let got : get_or vs i w ≡ w = sym (unwrap_or-slice_get vs i w) ∙ ap (λ o. unwrap_or o w) e in
        (λ j. so_far j ++ (is ∙ ap (known_at vs i) same ∙ known-there vs i w e) j ∷ [])
        ∙ sym (map-append known_by (take i vs) (w ∷ []))
        ∙ ap (λ x. map known_by (take i vs ++ x ∷ [])) (sym got)
        ∙ ap (map known_by) (sym (take_more vs i w lt))

-- where there is no volume more, those are all
pub known-all : (vs : List Volume) (i : ℕ) → None ≡ option_map owned (slice_get vs i) → map known_by (take i vs) ≡ map known_by vs
known-all [] zero none = refl
known-all [] (suc i) none = refl
known-all (v ∷ vs) zero none = absurd cc
known-all (v ∷ vs) (suc i) none = ap (λ ks. known_by v ∷ ks) (known-all vs i none)
