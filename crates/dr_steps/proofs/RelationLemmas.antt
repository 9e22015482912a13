-- In a sound world the relationships of the plant fit, and so do the secondaries of its primaries.
use Rattle.std.proofs.Common.{ℕ, ◌≡◌, Bool, true, false, List, refl, sym, ◌∙◌, ap, Some, None}
use Rattle.std.specs.Prelude.{is_some, if◌then◌else◌}
use Rattle.dr_plant.specs.State.{PlantState}
use Rattle.dr_config.specs.Table.{ConfigTable, place_of}
use Rattle.dr_config.proofs.Lookups.{place-of-entry}
use Rattle.dr_steps.specs.declared.tables.Tables.{Tables}
use Rattle.dr_model.specs.declared.event.Event.{Event}
use Rattle.dr_model.specs.Control.{is_volume}
use Rattle.dr_model.specs.Laws.{Sound}
use Rattle.dr_model.specs.Layout.{is_part}
use Rattle.dr_volume.specs.View.{volume_seen}
use Rattle.dr_moves.specs.Fit.{RelationsFit}
use Rattle.dr_failover.specs.Outcomes.{HasPartner}
use Rattle.dr_steps.specs.Here.{here}
use Rattle.dr_steps.specs.Waiting.{PartnersFit}
use Rattle.dr_steps.proofs.LocatedLemmas.{is_volume-here, some_entry}

-- a volume of the machine lies on a device
pub placed-here : (s : PlantState) (t : ConfigTable) (h : Tables) (ev : List Event) (v : ℕ) → is_volume (here s t h ev).control v ≡ true → is_some (place_of t v) ≡ true
placed-here s t h ev v there =
    let e = some_entry _ (sym (is_volume-here s t h ev v) ∙ there) in
    ap is_some (place-of-entry t v e.0 e.1).1

unrelated : (b : Bool) (n : ℕ) → (if b then Some n else None) ≡ None → b ≡ false
unrelated true n e = absurd (cc)
unrelated false n e = refl

pub relations-fit : (s : PlantState) (t : ConfigTable) (h : Tables) (ev : List Event) → Sound (here s t h ev) → RelationsFit s t
relations-fit s t h ev sound = record {
  source = λ v related.
      let f = (volume_seen s t v).fields in
      let flash = sound.rows.structure.flash v f.source (ap (λ b. if b then Some f.source else None) related) in
      record {
        defined = placed-here s t h ev f.source flash.defined;
        plain = unrelated _ _ flash.plain;
        same_tracks = flash.same_tracks;
        same_server = flash.same_server;
      };
  apart = λ v k held. (sound.rows.structure.sets v).apart k held;
}

pub partners-fit : (s : PlantState) (t : ConfigTable) (h : Tables) (ev : List Event) → Sound (here s t h ev) → PartnersFit s t
partners-fit s t h ev sound = record {
  defined = λ v part. placed-here s t h ev (to v) (sound.rows.parts.secondary v (to v) (its v part)).defined;
  apart = λ v part. (sound.rows.parts.secondary v (to v) (its v part)).apart;
  same_tracks = λ v part. sym (sound.rows.parts.secondary v (to v) (its v part)).same_tracks;
}
  where
    to : ℕ → ℕ
    to v = (volume_seen s t v).fields.primary_partner

    its : (v : ℕ) → is_part (volume_seen s t v).fields.primary ≡ true → (if is_part (volume_seen s t v).fields.primary then Some (to v) else None) ≡ Some (to v)
    its v part = ap (λ b. if b then Some (to v) else None) part

-- so the partner of a primary is there
pub has-partner : (s : PlantState) (t : ConfigTable) (h : Tables) (ev : List Event) → Sound (here s t h ev) → (x : ℕ) → HasPartner s t x
has-partner s t h ev sound x =
    let fits : PartnersFit s t = partners-fit s t h ev sound in
    record { there = λ part. fits.defined x part; apart = λ part. fits.apart x part; size = λ part. fits.same_tracks x part }
