-- What recovery makes of an image is what it makes of the records and tracks that the image's devices give.
use Rattle.std.proofs.Common.{ℕ, ◌≡◌, ◌<◌, refl, ap, sym, ◌∙◌, subst, Bool, true, false, cond, List, map, filter}
use Rattle.std.specs.FinSet.{contains}
use Rattle.std.proofs.lemmas.Bool.{and_parts}
use Rattle.dr_model.specs.Layout.{Blocks, Fields, fields, fields_of}
use Rattle.dr_model.specs.Decisions.{numbers_in, decision}
use Rattle.dr_model.specs.Views.{shows_source, view}
use Rattle.dr_model.specs.Control.{Control}
use Rattle.dr_model.specs.SessionEntries.{counts_in, shown_of}
use Rattle.dr_model.specs.RecoveryPlans.{lets_revert}
use Rattle.dr_model.specs.Groups.{In}
use Rattle.dr_model.specs.Laws.{sizes}
use Rattle.dr_model.specs.Recovery.{VolumeRecords, decided_over, goes_back, remains_in, number_after, view_before, common, recovered}
use Rattle.dr_model.specs.PlantImage.{Volume}
use Rattle.dr_model.specs.Offline.{volume_in, records_in, contents_in, volumes_in, counted_in, size_of, decided_of, recovery_of}
use Rattle.dr_facts.proofs.Lists.{from-filter}
use Rattle.dr_laws_recovery.proofs.RecoverySame.{filter-same, map-same}
use Rattle.dr_laws_images.specs.GivesBack.{GivesBack}

-- the source of a volume is one of a list, of the same size
pub record HasSource (k : Control) (f : VolumeRecords) (v : ℕ) : Type 0 where
  pub there : In (f v).source k.volumes
  pub size : sizes k (f v).source ≡ sizes k v

-- an image gives these records and contents, where a target has its source
pub record Gives (k : Control) (f : VolumeRecords) (contents : ℕ → ℕ → List ℕ) (vs : List Volume) : Type 0 where
  pub volumes : volumes_in vs ≡ k.volumes
  pub sizes : (v : ℕ) → In v k.volumes → size_of (volume_in vs v) ≡ (k.volume v).tracks
  pub records : (v : ℕ) → In v k.volumes → records_in vs v ≡ f v
  pub tracks : (v t : ℕ) → In v k.volumes → t < (k.volume v).tracks → contents_in vs v t ≡ contents v t
  pub sources : (v : ℕ) → In v k.volumes → (f v).related ≡ true → HasSource k f v
  pub reverts : (v : ℕ) → In v k.volumes → (f v).revertible ≡ true → (f v).related ≡ true

-- a revertible target is a target, whatever its device is
pub reverts-related : (n : ℕ) (blocks : Blocks) → (fields n blocks).revertible ≡ true → (fields n blocks).related ≡ true
unfolding fields_of
reverts-related n blocks h = (and_parts _ _ h).0

module _ (k : Control) (f : VolumeRecords) (contents : ℕ → ℕ → List ℕ) (vs : List Volume) (gives : Gives k f contents vs) (s : ℕ) where
  abbrev g : VolumeRecords
  g = records_in vs

  -- over the volumes of the image
  over : (p : List ℕ → List ℕ) → p (volumes_in vs) ≡ p k.volumes
  over p = ap p gives.volumes

  counted : counted_in vs s ≡ filter (λ v. counts_in s (f v)) k.volumes
  counted = over (filter (λ v. counts_in s (g v))) ∙ filter-same _ _ k.volumes (λ v h. ap (counts_in s) (gives.records v h))

  decided : decided_of vs s ≡ decided_over f k.volumes s
  decided = ap decision
      (ap (map (λ v. shown_of (g v))) counted
      ∙ map-same (λ v. shown_of (g v)) (λ v. shown_of (f v)) (filter (λ v. counts_in s (f v)) k.volumes) (λ v h. ap shown_of (gives.records v (from-filter (λ v. counts_in s (f v)) k.volumes v h).0)))

  -- whether it is to revert
  abbrev back : Bool
  back = lets_revert (decided_over f k.volumes s)

  remaining : (recovery_of vs s).remaining ≡ (recovered f contents k.volumes s).remaining
  remaining = (λ i. filter (λ v. remains_in s (lets_revert (decided i)) (g v)) (gives.volumes i)) ∙ filter-same _ _ k.volumes (λ v h. ap (remains_in s back) (gives.records v h))

  is-there : (v : ℕ) → In v (recovered f contents k.volumes s).remaining → In v k.volumes
  is-there v h = (from-filter (λ v. remains_in s back (f v)) k.volumes v h).0

  group : (recovery_of vs s).group ≡ (recovered f contents k.volumes s).group
  group = ap (λ ns. common (numbers_in ns))
      ((λ i. map (λ v. number_after (lets_revert (decided i)) (g v)) (remaining i))
      ∙ map-same (λ v. number_after back (g v)) (λ v. number_after back (f v)) (recovered f contents k.volumes s).remaining (λ v h. ap (number_after back) (gives.records v (is-there v h))))

  -- the track of a target's source
  source-track : (v t : ℕ) → In v k.volumes → t < (k.volume v).tracks → (f v).related ≡ true → contents_in vs (f v).source t ≡ contents (f v).source t
  source-track v t h lt related = let source = gives.sources v h related in gives.tracks (f v).source t source.there (subst (λ n. t < n) (sym source.size) lt)

  sees : (v t : ℕ) → In v k.volumes → t < (k.volume v).tracks → view g (contents_in vs) v t ≡ view f contents v t
  sees v t h lt = ap (λ (r : Fields). cond (shows_source r t) (contents_in vs r.source t) (contents_in vs v t)) (gives.records v h) ∙ by (shows_source (f v) t) refl
    where
      by : (b : Bool) → shows_source (f v) t ≡ b → cond (shows_source (f v) t) (contents_in vs (f v).source t) (contents_in vs v t) ≡ cond (shows_source (f v) t) (contents (f v).source t) (contents v t)
      by true e = let same = source-track v t h lt (and_parts (f v).related _ e).0 in
          ap (λ b. cond b (contents_in vs (f v).source t) (contents_in vs v t)) e ∙ (same ∙ sym (ap (λ b. cond b (contents (f v).source t) (contents v t)) e))
      by false e = ap (λ b. cond b (contents_in vs (f v).source t) (contents_in vs v t)) e ∙ (gives.tracks v t h lt ∙ sym (ap (λ b. cond b (contents (f v).source t) (contents v t)) e))

  saw : (v t : ℕ) → In v k.volumes → t < (k.volume v).tracks → (f v).related ≡ true → view_before g (contents_in vs) v t ≡ view_before f contents v t
  saw v t h lt related = ap (λ (r : Fields). cond (contains r.previous_own t) (contents_in vs v t) (contents_in vs r.source t)) (gives.records v h)
      ∙ (λ i. cond (contains (let r : Fields = f v in r.previous_own) t) (gives.tracks v t h lt i) (source-track v t h lt related i))

  images : (v t : ℕ) → In v k.volumes → t < (k.volume v).tracks → (recovery_of vs s).image v t ≡ (recovered f contents k.volumes s).image v t
  images v t h lt = (λ i. cond (goes_back (lets_revert (decided i)) (gives.records v h i)) (view_before g (contents_in vs) v t) (view g (contents_in vs) v t)) ∙ by (goes_back back (f v)) refl
    where
      by : (b : Bool) → goes_back back (f v) ≡ b → cond (goes_back back (f v)) (view_before g (contents_in vs) v t) (view g (contents_in vs) v t) ≡ cond (goes_back back (f v)) (view_before f contents v t) (view f contents v t)
      by true e = let same = saw v t h lt (gives.reverts v h (and_parts back (f v).revertible e).1) in
          ap (λ b. cond b (view_before g (contents_in vs) v t) (view g (contents_in vs) v t)) e ∙ (same ∙ sym (ap (λ b. cond b (view_before f contents v t) (view f contents v t)) e))
      by false e = ap (λ b. cond b (view_before g (contents_in vs) v t) (view g (contents_in vs) v t)) e ∙ (sees v t h lt ∙ sym (ap (λ b. cond b (view_before f contents v t) (view f contents v t)) e))

  pub gives-back : GivesBack k f contents vs s
  gives-back = record { volumes = gives.volumes; sizes = gives.sizes; counted = counted; decided = decided; recovers = record { remaining = remaining; group = group; images = λ v t h lt. images v t (is-there v h) lt } }
