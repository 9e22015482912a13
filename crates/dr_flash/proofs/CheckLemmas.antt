-- Checks of a call, as entries.
use Rattle.std.proofs.Common.{ℕ, zero, suc, ◌≡◌, ◌≢◌, ◌<◌, ◌≤◌, Bool, true, false, not, ◌&&◌, ◌||◌, cond, List, [], ◌∷◌, ◌++◌, length, slice_get, nat_eq, nat_lt, arith, inl, inr, refl, sym, ◌∙◌, ap, subst, Option, Some, None}
use Rattle.std.specs.Prelude.{filter}
use Rattle.std.specs.List.{list_any}
use Rattle.std.proofs.lemmas.Bool.Decides.{eqb_tells, Decides-eqb}
use Rattle.std.proofs.lemmas.Bool.{or_right, lt-ltb, le-ltb}
use Rattle.std.proofs.lemmas.List.{append_assoc}
use Rattle.dr_ids.specs.declared.refusal.Refusal.{Refusal}
use Rattle.dr_plant.specs.State.{PlantState}
use Rattle.dr_config.specs.Table.{ConfigTable, place_of}
use Rattle.dr_config.specs.declared.entries.VolumeEntry.{VolumeEntry}
use Rattle.dr_config.proofs.Lookups.{entry-at-place}
use Rattle.dr_model.specs.Carry.{Entry}
use Rattle.dr_model.specs.Control.{World}
use Rattle.dr_model.specs.Entries.{copies_from}
use Rattle.dr_model.specs.ReadStops.{Ends}
use Rattle.dr_volume.specs.View.{volume_seen, volume_at, ids_of}
use Rattle.dr_moves.specs.Checks.{Checked}
use Rattle.dr_moves.specs.Turns.{Leads}
use Rattle.dr_flash.specs.Standing.{targets_in}
use Rattle.dr_flash.proofs.StandingLemmas.{any-count}

-- tests of numbers
pub same-test : (a b : ℕ) → a ≡ b → nat_eq a b ≡ true
same-test a b e = (Decides-eqb a b).1 e

pub differ-test : (a b : ℕ) → a ≢ b → nat_eq a b ≡ false
differ-test a b ne = elim (eqb_tells a b) as (λ _. nat_eq a b ≡ false) [ inl p ↦ absurd (ne p.1) | inr p ↦ p.0 ]

-- a volume that has targets, and one that hasn't
pub has-targets : (related : Bool) (n : ℕ) (xs : List ℕ) → n ≡ length xs → 0 < n → not ((related && true) || list_any (λ (u : ℕ). true) xs) ≡ false
has-targets related n xs count some =
    ap not (or_right (related && true) _ (sym (any-count xs) ∙ ap (nat_lt 0) (sym count) ∙ lt-ltb 0 n some))

pub has-no_targets : (related : Bool) (n : ℕ) (xs : List ℕ) → related ≡ false → n ≡ length xs → n ≤ 0 → not ((related && true) || list_any (λ (u : ℕ). true) xs) ≡ true
has-no_targets related n xs plain count none =
    ap (λ b. not ((b && true) || list_any (λ (u : ℕ). true) xs)) plain ∙ ap not (sym (any-count xs) ∙ ap (nat_lt 0) (sym count) ∙ le-ltb 0 n none)

-- a volume with a relation is listed
listed : (P : ℕ → Bool) (es : List VolumeEntry) (d : ℕ) (e : VolumeEntry) → slice_get es d ≡ Some e → P e.id ≡ true → 0 < length (filter P (ids_of es))
listed P [] d e at h = absurd cc
listed P (x ∷ es) zero e at h =
    let same : x ≡ e = cc in
    let yes' : P x.id ≡ true = ap (λ (y : VolumeEntry). P y.id) same ∙ h in
    more yes'
  where
    more : P x.id ≡ true → 0 < length (filter P (ids_of (x ∷ es)))
    more yes' = subst (λ b. 0 < length (cond b (x.id ∷ filter P (ids_of es)) (filter P (ids_of es)))) (sym yes') (omega arith)
listed P (x ∷ es) (suc d) e at h = wider (P x.id) (listed P es d e at h)
  where
    wider : (b : Bool) → 0 < length (filter P (ids_of es)) → 0 < length (cond b (x.id ∷ filter P (ids_of es)) (filter P (ids_of es)))
    wider true k = omega arith
    wider false k = k

pub lone-by : (s : PlantState) (t : ConfigTable) (v n : ℕ) → n ≡ length (targets_in s t v) → n ≤ 0 → (u : ℕ) → (volume_seen s t u).fields.related ≡ true → (volume_seen s t u).fields.source ≢ v
lone-by s t v n count none u related is =
    elim (place_of t u) as (λ o. place_of t u ≡ o → ⊥) [
      | None ↦ λ at. let e : false ≡ true = sym (ap (λ o. (volume_at s t o).fields.related) at) ∙ related in cc
      | Some d ↦ λ at.
          let x = entry-at-place t u d at in
          let own : copies_from v (volume_seen s t x.0.id).fields ≡ true = ap (λ z. copies_from v (volume_seen s t z).fields) x.3 ∙ (λ i. related i && same-test _ v is i) in
          let some = listed (λ u. copies_from v (volume_seen s t u).fields) t.volumes d x.0 x.1 own in
          omega (arith, some, count, none)
    ] refl

-- checks, and more behind them
pub then-checked : (w : World) (es fs : List Entry) (o : Option Refusal) → Leads w es w → Checked w fs o → Checked w (es ++ fs) o
then-checked w es fs None first more = λ armed u r ds k. subst (Ends armed u r w) (sym (append_assoc es fs ds)) (first armed u r (fs ++ ds) (more armed u r ds k))
then-checked w es fs (Some e) first more = λ armed ds. subst (Ends armed w (Some e) w) (sym (append_assoc es fs ds)) (first armed w (Some e) (fs ++ ds) (more armed ds))
