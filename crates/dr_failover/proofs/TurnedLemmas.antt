-- What moves that turn a pair round leave of its volumes.
use Rattle.std.proofs.Common.{ℕ, ◌≡◌, ◌≢◌, ◌⊎◌, inl, inr, true, false, ◌&&◌, List, refl, sym, ◌∙◌, ap, None}
use Rattle.std.specs.FinSet.{contains, union}
use Rattle.std.proofs.lemmas.Bool.{and_parts, cases_eq}
use Rattle.std.proofs.lemmas.Bool.Decides.{Decides-eqb}
use Rattle.dr_logic.specs.Bytes.{zeros}
use Rattle.dr_plant.specs.State.{PlantState}
use Rattle.dr_config.specs.Table.{ConfigTable}
use Rattle.dr_model.specs.declared.state.Part.{Part}
use Rattle.dr_model.specs.declared.state.Part.TheVariants.{Absent, Metro, Global}
use Rattle.dr_model.specs.Control.{Volume}
use Rattle.dr_model.specs.Layout.{Fields, is_part}
use Rattle.dr_model.specs.Lawful.{Low, HasSets, IsLawful}
use Rattle.dr_model.specs.Pairs.{is_kind, is_primary_of, is_secondary_of, taken_over, yielded}
use Rattle.dr_volume.specs.Update.{IsAsBefore, IsMoved, OthersStay}
use Rattle.dr_volume.specs.View.{volume_seen, track_seen}
use Rattle.dr_gcopy.proofs.SendMoves.{low-union}
use Rattle.dr_laws_sound.proofs.RowsAfter.{zeros-stay}
use Rattle.dr_failover.specs.Outcomes.{IsTakenFrom, fallen_seen, yielded_seen, Turned}

-- parts of one kind are the same
pub kind-same : (kind p : Part) → is_kind kind p ≡ true → p ≡ kind
kind-same Metro Metro is = refl
kind-same Metro Absent is = absurd (let e : false ≡ true = is in cc)
kind-same Metro Global is = absurd (let e : false ≡ true = is in cc)
kind-same Global Global is = refl
kind-same Global Absent is = absurd (let e : false ≡ true = is in cc)
kind-same Global Metro is = absurd (let e : false ≡ true = is in cc)
kind-same Absent p is = absurd (let e : false ≡ true = is in cc)

-- a primary of y of that kind
pub leads-partner : (y : ℕ) (kind : Part) (f : Fields) → (is_primary_of y f && is_kind kind f.primary) ≡ true → (is_part f.primary ≡ true) × (f.primary_partner ≡ y) × (f.primary ≡ kind)
leads-partner y kind f is =
    let both = and_parts (is_primary_of y f) (is_kind kind f.primary) is in
    let leads = and_parts (is_part f.primary) _ both.0 in
    (leads.0, (Decides-eqb f.primary_partner y).0 leads.1, kind-same kind f.primary both.1)

pub taken-from : (a : ℕ) (kind : Part) (f : Fields) → (is_secondary_of a f && is_kind kind f.secondary) ≡ true → IsTakenFrom a kind (taken_over f)
taken-from a kind f is =
    let both = and_parts (is_secondary_of a f) (is_kind kind f.secondary) is in
    record {
      kind_is = kind-same kind f.secondary both.1;
      partner = (Decides-eqb f.secondary_partner a).0 (and_parts _ _ both.0).1;
      state = refl;
      in_sync = refl;
      unchanged = refl;
      free = refl;
      seal = refl;
    }

-- A volume gets other fields, with the same blank tracks, and no track: each of its tracks contains what it contained.
module _ (s u : PlantState) (t : ConfigTable) (v : ℕ) (f : Fields) (blank : f.blank ≡ (volume_seen s t v).fields.blank) (zero_there : (k : ℕ) → contains (volume_seen s t v).fields.blank k ≡ true → track_seen s t v k ≡ zeros) where
  moved-keeps : IsMoved s u t v f None → (k : ℕ) → track_seen u t v k ≡ track_seen s t v k
  moved-keeps is k =
      ap (λ (g : ℕ → List ℕ). g k) is.tracks
      ∙ zeros-stay (contains f.blank k) (track_seen s t v k) (λ e. zero_there k (ap (λ b. contains b k) (sym blank) ∙ e))

  pub tracks-stay : (IsAsBefore s u t v ⊎ IsMoved s u t v f None) → OthersStay s u t v → (q k : ℕ) → track_seen u t q k ≡ track_seen s t q k
  tracks-stay either others q k = elim (cases_eq q v) [
    | inl p ↦ ap (λ z. track_seen u t z k) p ∙ by either ∙ ap (λ z. track_seen s t z k) (sym p)
    | inr ne ↦ ap (λ (g : ℕ → List ℕ). g k) (others q ne).tracks
  ]
    where
      by : (IsAsBefore s u t v ⊎ IsMoved s u t v f None) → track_seen u t v k ≡ track_seen s t v k
      by (inl same) = ap (λ (g : ℕ → List ℕ). g k) same.tracks
      by (inr is) = moved-keeps is k

-- what a volume hasn't sent are tracks that it has
pub low-unsent : (n : ℕ) (f : Fields) → IsLawful n f → Low n (union f.out_of_sync f.change_recording)
low-unsent n f law = let sets : HasSets n f = law.sets in low-union n f.out_of_sync f.change_recording sets.out_of_sync_low sets.change_recording_low

-- blank tracks of a volume that stays contain zeros still
pub zeros-after : (s m : PlantState) (t : ConfigTable) (v : ℕ) → IsAsBefore s m t v → ((k : ℕ) → contains (volume_seen s t v).fields.blank k ≡ true → track_seen s t v k ≡ zeros) → (k : ℕ) → contains (volume_seen m t v).fields.blank k ≡ true → track_seen m t v k ≡ zeros
zeros-after s m t v same there k is =
    ap (λ (g : ℕ → List ℕ). g k) same.tracks ∙ there k (ap (λ (x : Volume). contains x.fields.blank k) (sym same.volume) ∙ is)

-- both moves are done
pub turned-by : (s m u : PlantState) (t : ConfigTable) (x y : ℕ) → y ≢ x → IsMoved s m t x (fallen_seen s t x y) None → OthersStay s m t x → IsMoved m u t y (yielded_seen m t y x) None → OthersStay m u t y → Turned s u t x y
turned-by s m u t x y apart first stay second stays =
    let still = ap (λ (v : Volume). v.fields) (stays x (λ e. apart (sym e))).volume in
    record {
      first = still ∙ ap (λ (v : Volume). v.fields) first.volume;
      second =
          ap (λ (v : Volume). v.fields) second.volume
          ∙ (λ i. yielded x (sym still i).primary (sym still i).primary_state (ap (λ (v : Volume). v.fields) (stay y apart).volume i));
    }
