-- The devices of a plant that fits tell what a recovery leaves of a session.
use Rattle.std.proofs.Common.{subst, ℕ, ◌≡◌, ◌<◌, refl, ap, sym, ◌∙◌, Bool, true, false, cond, nat_eq, List, map, filter, Option}
use Rattle.std.specs.FinSet.{contains}
use Rattle.std.proofs.lemmas.Bool.{and_parts, eq-eqb}
use Rattle.dr_model.specs.Layout.{Blocks, Fields}
use Rattle.dr_model.specs.Decisions.{numbers_in, decision}
use Rattle.dr_model.specs.Views.{shows_source, view}
use Rattle.dr_model.specs.Control.{Control, Fuse, World, is_volume}
use Rattle.dr_model.specs.Entries.{fields_at}
use Rattle.dr_model.specs.SessionEntries.{counts_in, shown_of}
use Rattle.dr_model.specs.RecoveryPlans.{lets_revert}
use Rattle.dr_model.specs.Groups.{In}
use Rattle.dr_model.specs.Table.{table}
use Rattle.dr_model.specs.Laws.{Sound, sizes}
use Rattle.dr_model.specs.Fits.{Fits, on_device}
use Rattle.dr_facts.proofs.Lists.{from-filter, any-some}
use Rattle.dr_laws_recovery.specs.Decided.{record_on}
use Rattle.dr_model.specs.Recovery.{VolumeRecords, decided_over, goes_back, remains_in, number_after, view_before, common}
use Rattle.dr_laws_recovery.specs.Recovered.{recovered_in, recovered_on, TellsRecovery, SameRecovery, HoldsTracks}
use Rattle.dr_laws_recovery.proofs.Decided.{on-record}
use Rattle.dr_laws_sound.proofs.Views.{shown-due}
use Rattle.dr_laws_recovery.proofs.RecoverySame.{filter-same, map-same, is-revertible}
use Rattle.dr_logic.proofs.Choices.{chosen}

-- by records that are the same of each volume, what is decided and what remains are the same
module _ (f g : VolumeRecords) (vs : List ℕ) (same : (v : ℕ) → In v vs → f v ≡ g v) (s : ℕ) where
  decided-same : decided_over f vs s ≡ decided_over g vs s
  decided-same = ap decision
      (map-same (λ v. shown_of (f v)) (λ v. shown_of (g v)) (filter (λ v. counts_in s (f v)) vs) (λ v h. ap shown_of (same v (from-filter (λ v. counts_in s (f v)) vs v h).0))
      ∙ ap (map (λ v. shown_of (g v))) (filter-same _ _ vs (λ v h. ap (counts_in s) (same v h))))

  remaining-same : (b c : Bool) → b ≡ c → filter (λ v. remains_in s b (f v)) vs ≡ filter (λ v. remains_in s c (g v)) vs
  remaining-same b c e = ap (λ b. filter (λ v. remains_in s b (f v)) vs) e ∙ filter-same _ _ vs (λ v h. ap (remains_in s c) (same v h))

  group-same : (b c : Bool) → b ≡ c → common (numbers_in (map (λ v. number_after b (f v)) (filter (λ v. remains_in s b (f v)) vs))) ≡ common (numbers_in (map (λ v. number_after c (g v)) (filter (λ v. remains_in s c (g v)) vs)))
  group-same b c e = ap (λ ns. common (numbers_in ns))
      (map-same (λ v. number_after b (f v)) (λ v. number_after c (g v)) (filter (λ v. remains_in s b (f v)) vs) (λ v h. (λ i. number_after (e i) (same v (from-filter (λ v. remains_in s b (f v)) vs v h).0 i)))
      ∙ ap (map (λ v. number_after c (g v))) (remaining-same b c e))

module _ (w : World) (on : ℕ → Bool) (fuse : ℕ → Option Fuse) (device : ℕ → Blocks) (s : ℕ) (sound : Sound w) (fits : Fits w on fuse device) where
  abbrev k : Control
  k = w.control

  is-there : (v : ℕ) → In v k.volumes → is_volume k v ≡ true
  is-there v there = any-some (nat_eq v) k.volumes v there (eq-eqb v v refl)

  same-record : (v : ℕ) → In v k.volumes → record_on w device v ≡ fields_at k v
  same-record = on-record w on fuse device fits

  decides : decided_over (record_on w device) k.volumes s ≡ decided_over (fields_at k) k.volumes s
  decides = decided-same (record_on w device) (fields_at k) k.volumes same-record s

  -- whether it is to revert
  abbrev reverts : Bool
  reverts = lets_revert (decided_over (fields_at k) k.volumes s)

  goes : (v : ℕ) → In v k.volumes → goes_back (lets_revert (decided_over (record_on w device) k.volumes s)) (record_on w device v) ≡ goes_back reverts (fields_at k v)
  goes v there = λ i. goes_back (lets_revert (decides i)) (same-record v there i)

  -- an image, by whether the volume goes back
  image-by : (b : Bool) (v t : ℕ) (there : In v k.volumes) → goes_back reverts (fields_at k v) ≡ b
      → cond b (view_before (record_on w device) (on_device k device) v t) (view (record_on w device) (on_device k device) v t) ≡ cond b (view_before (fields_at k) w.contents v t) (view (fields_at k) w.contents v t)
      → (recovered_on w device s).image v t ≡ (recovered_in w s).image v t
  image-by b v t there is same =
      ap (λ g. cond g (view_before (record_on w device) (on_device k device) v t) (view (record_on w device) (on_device k device) v t)) (goes v there ∙ is)
      ∙ (same ∙ sym (ap (λ g. cond g (view_before (fields_at k) w.contents v t) (view (fields_at k) w.contents v t)) is))

  shows : (v t : ℕ) → In v k.volumes → goes_back reverts (fields_at k v) ≡ false → t < (k.volume v).tracks → (recovered_on w device s).image v t ≡ (recovered_in w s).image v t
  shows v t there stays lt = image-by false v t there stays
      (ap (λ (f : Fields). cond (shows_source f t) (on_device k device f.source t) (on_device k device v t)) (same-record v there)
      ∙ (fits.tracks v t (is-there v there) lt ∙ sym (shown-due (table w) sound.rows.images v t lt)))

  pub tells-recovery : TellsRecovery w device s
  tells-recovery = record {
    decides = decides;
    remaining = remaining-same (record_on w device) (fields_at k) k.volumes same-record s _ _ (ap lets_revert decides);
    group = group-same (record_on w device) (fields_at k) k.volumes same-record s _ _ (ap lets_revert decides);
    images = λ v t h stays lt. shows v t (from-filter _ k.volumes v h).0 stays lt;
  }

  -- what goes back shows its own track or its source's
  shows-before : HoldsTracks w device → (v t : ℕ) → In v k.volumes → goes_back reverts (fields_at k v) ≡ true → t < (k.volume v).tracks → (recovered_on w device s).image v t ≡ (recovered_in w s).image v t
  shows-before holds v t there back lt =
      let f : Fields = fields_at k v in
      let is = is-revertible w sound.attempts v (and_parts reverts f.revertible back).1 in
      let from : f.source ≡ is.from = (chosen f.related f.source is.from is.related).1 in
      let flash = sound.rows.structure.flash v is.from is.related in
      let own = holds v t (is-there v there) lt in
      let other : on_device k device f.source t ≡ w.contents f.source t = subst (λ u. on_device k device u t ≡ w.contents u t) (sym from) (holds is.from t flash.defined (subst (λ n. t < n) flash.same_tracks lt)) in
      image-by true v t there back
      (ap (λ (f : Fields). cond (contains f.previous_own t) (on_device k device v t) (on_device k device f.source t)) (same-record v there)
      ∙ (λ i. cond (contains f.previous_own t) (own i) (other i)))

  pub same-on : HoldsTracks w device → SameRecovery (sizes w.control) (recovered_in w s) (recovered_on w device s)
  same-on holds = record { remaining = tells-recovery.remaining; group = tells-recovery.group; images = λ v t h lt. by v t (from-filter _ k.volumes v h).0 lt (goes_back reverts (fields_at k v)) refl }
    where
      by : (v t : ℕ) → In v w.control.volumes → t < (w.control.volume v).tracks → (b : Bool) → goes_back reverts (fields_at w.control v) ≡ b → (recovered_on w device s).image v t ≡ (recovered_in w s).image v t
      by v t there lt true back = shows-before holds v t there back lt
      by v t there lt false stays = shows v t there stays lt
