-- Relationships that fit go on to fit, where one volume moved.
use Rattle.std.proofs.Common.{ℕ, Bool, ◌≡◌, ◌≢◌, ◌⊎◌, inl, inr, true, false, refl, sym, ◌∙◌, ap, subst}
use Rattle.std.specs.Prelude.{is_some}
use Rattle.std.specs.FinSet.{contains}
use Rattle.std.proofs.lemmas.Bool.{cases_eq}
use Rattle.dr_plant.specs.State.{PlantState}
use Rattle.dr_config.specs.Table.{ConfigTable, place_of}
use Rattle.dr_model.specs.Layout.{Fields}
use Rattle.dr_model.specs.Control.{Volume}
use Rattle.dr_model.specs.Moves.{Carried, moved_keeping}
use Rattle.dr_volume.specs.View.{volume_seen}
use Rattle.dr_volume.specs.Update.{IsAsBefore, IsMovedKeeping, OthersStay}
use Rattle.dr_moves.specs.Fit.{SourceFits, RelationsFit, LeavesFit}

-- the same, of a table of volumes
abbrev Sources : ConfigTable → (ℕ → Volume) → Type 0
Sources t f = (v : ℕ) → (f v).fields.related ≡ true → SourceFits (is_some (place_of t (f v).fields.source)) (f v) (f (f v).fields.source)

abbrev Aparts : (ℕ → Volume) → Type 0
Aparts f = (v k : ℕ) → contains (f v).fields.own k ≡ true → contains (f v).fields.blank k ≡ false

pub fit-same : (s u : PlantState) (t : ConfigTable) → ((q : ℕ) → IsAsBefore s u t q) → RelationsFit s t → RelationsFit u t
fit-same s u t same fit =
    let is : volume_seen s t ≡ volume_seen u t = (λ i q. sym (same q).volume i) in
    record { source = subst (λ f. Sources t f) is fit.source; apart = subst (λ f. Aparts f) is fit.apart }

module _ (keeps : Bool) (s u : PlantState) (t : ConfigTable) (v : ℕ) (f : Fields) (m : Carried) (fit : RelationsFit s t) (leaves : LeavesFit s t v f) (here : volume_seen u t v ≡ moved_keeping keeps (volume_seen s t v) f m) (others : OthersStay s u t v) where
  other : (q : ℕ) → q ≢ v → volume_seen u t q ≡ volume_seen s t q
  other q ne = (others q ne).volume

  -- v itself
  own-source : f.related ≡ true → SourceFits (is_some (place_of t f.source)) (moved_keeping keeps (volume_seen s t v) f m) (volume_seen u t f.source)
  own-source related =
      let x = leaves.source related in
      let y = subst (λ z. SourceFits (is_some (place_of t f.source)) (volume_seen s t v) z) (sym (other f.source (leaves.other related))) x in
      record { defined = y.defined; plain = y.plain; same_tracks = y.same_tracks; same_server = y.same_server }

  -- a volume whose source is v
  source-moved : (q : ℕ) → (volume_seen s t q).fields.related ≡ true → (volume_seen s t q).fields.source ≡ v → SourceFits (is_some (place_of t (volume_seen s t q).fields.source)) (volume_seen s t q) (moved_keeping keeps (volume_seen s t v) f m)
  source-moved q related is =
      let x = fit.source q related in
      record {
        defined = x.defined;
        plain = elim f.related as (λ b. f.related ≡ b → b ≡ false) [ true ↦ λ yes'. absurd (leaves.lone yes' q related is) | false ↦ λ no'. refl ] refl;
        same_tracks = x.same_tracks ∙ ap (λ z. (volume_seen s t z).tracks) is;
        same_server = x.same_server ∙ ap (λ z. (volume_seen s t z).server) is;
      }

  other-source : (q : ℕ) → (volume_seen s t q).fields.related ≡ true → SourceFits (is_some (place_of t (volume_seen s t q).fields.source)) (volume_seen s t q) (volume_seen u t (volume_seen s t q).fields.source)
  other-source q related = elim (cases_eq (volume_seen s t q).fields.source v) [
    | inl is ↦ subst (λ z. SourceFits (is_some (place_of t (volume_seen s t q).fields.source)) (volume_seen s t q) z) (sym here ∙ ap (volume_seen u t) (sym is)) (source-moved q related is)
    | inr ne ↦ subst (λ z. SourceFits (is_some (place_of t (volume_seen s t q).fields.source)) (volume_seen s t q) z) (sym (other _ ne)) (fit.source q related)
  ]

  pub fit-moved : RelationsFit u t
  fit-moved = record {
    source = λ q. elim (cases_eq q v) [
      | inl is ↦ subst (λ z. (volume_seen u t z).fields.related ≡ true → SourceFits (is_some (place_of t (volume_seen u t z).fields.source)) (volume_seen u t z) (volume_seen u t (volume_seen u t z).fields.source)) (sym is)
          (subst (λ (z : Volume). z.fields.related ≡ true → SourceFits (is_some (place_of t z.fields.source)) z (volume_seen u t z.fields.source)) (sym here) own-source)
      | inr ne ↦ subst (λ (z : Volume). z.fields.related ≡ true → SourceFits (is_some (place_of t z.fields.source)) z (volume_seen u t z.fields.source)) (sym (other q ne)) (other-source q)
    ];
    apart = λ q. elim (cases_eq q v) [
      | inl is ↦ subst (λ z. (k : ℕ) → contains (volume_seen u t z).fields.own k ≡ true → contains (volume_seen u t z).fields.blank k ≡ false) (sym is)
          (subst (λ (z : Volume). (k : ℕ) → contains z.fields.own k ≡ true → contains z.fields.blank k ≡ false) (sym here) leaves.apart)
      | inr ne ↦ subst (λ (z : Volume). (k : ℕ) → contains z.fields.own k ≡ true → contains z.fields.blank k ≡ false) (sym (other q ne)) (fit.apart q)
    ];
  }

-- where v is as it was, or moved
pub fit-after : {keeps : Bool} (s u : PlantState) (t : ConfigTable) (v : ℕ) (f : Fields) (m : Carried) → RelationsFit s t → LeavesFit s t v f → IsAsBefore s u t v ⊎ IsMovedKeeping keeps s u t v f m → OthersStay s u t v → RelationsFit u t
fit-after {keeps = keeps} s u t v f m fit leaves (inl same) others = fit-same s u t (λ q. elim (cases_eq q v) [ inl is ↦ subst (λ z. IsAsBefore s u t z) (sym is) same | inr ne ↦ others q ne ]) fit
fit-after {keeps = keeps} s u t v f m fit leaves (inr h) others = fit-moved keeps s u t v f m fit leaves h.volume others

-- a target is no source
pub target-no_source : (s : PlantState) (t : ConfigTable) (v u : ℕ) → RelationsFit s t → (volume_seen s t v).fields.related ≡ true → (volume_seen s t u).fields.related ≡ true → (volume_seen s t u).fields.source ≢ v
target-no_source s t v u fit here there is =
    let plain : (volume_seen s t v).fields.related ≡ false = ap (λ z. (volume_seen s t z).fields.related) (sym is) ∙ (fit.source u there).plain in
    let never : true ≡ false = sym here ∙ plain in cc

-- a target keeps its source, or is a target no more
pub fit-kept : (s : PlantState) (t : ConfigTable) (v : ℕ) (f : Fields) → RelationsFit s t → (f.related ≡ true → ((volume_seen s t v).fields.related ≡ true) × (f.source ≡ (volume_seen s t v).fields.source))
    → ((k : ℕ) → contains f.own k ≡ true → contains f.blank k ≡ false) → LeavesFit s t v f
fit-kept s t v f fit keeps apart = record {
  source = λ related. let k = keeps related in subst (λ z. SourceFits (is_some (place_of t z)) (volume_seen s t v) (volume_seen s t z)) (sym k.1) (fit.source v k.0);
  other = λ related is. let k = keeps related in target-no_source s t v v fit k.0 k.0 (sym k.1 ∙ is);
  lone = λ related u there. target-no_source s t v u fit (keeps related).0 there;
  apart = apart;
}
