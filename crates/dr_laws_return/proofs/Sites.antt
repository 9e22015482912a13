-- Where a pair is in place, the devices contain the same outside what the primary's record has.
use Rattle.std.proofs.Common.{ℕ, ◌≡◌, inl, ap, sym, ◌∙◌, Bool, true, Option}
use Rattle.std.proofs.lemmas.Bool.{or_from}
use Rattle.std.specs.FinSet.{contains}
use Rattle.dr_model.specs.Layout.{Blocks, Fields}
use Rattle.dr_model.specs.Control.{Control, Fuse, World}
use Rattle.dr_model.specs.Pairs.{is_primary_of, is_secondary_of}
use Rattle.dr_model.specs.Entries.{fields_at}
use Rattle.dr_model.specs.Table.{table}
use Rattle.dr_model.specs.Laws.{Sound}
use Rattle.dr_model.specs.Fits.{Fits}
use Rattle.dr_facts.proofs.Parts.{two-partners}
use Rattle.dr_laws_sound.proofs.FitsPairs.{its-first, its-second}
use Rattle.dr_laws_recovery.specs.Decided.{record_on}
use Rattle.dr_laws_return.specs.Sites.{SitesAlike}

pub alike-on : (w : World) (on : ℕ → Bool) (fuse : ℕ → Option Fuse) (device : ℕ → Blocks) → Sound w → Fits w on fuse device → SitesAlike w device
alike-on w on fuse device s fits x y there too leads follows =
    let k : Control = w.control in
    let at_x : record_on w device x ≡ fields_at k x = (fits.volumes x there).fields in
    let at_y : record_on w device y ≡ fields_at k y = (fits.volumes y too).fields in
    let leads_to : is_primary_of y (fields_at k x) ≡ true = ap (is_primary_of y) (sym at_x) ∙ leads in
    let second : is_secondary_of x (fields_at k y) ≡ true = ap (is_secondary_of x) (sym at_y) ∙ follows in
    record {
      size = (s.rows.parts.secondary x y (its-second y (fields_at k x) leads_to)).same_tracks;
      tracks = λ t lt none still. fits.pairs x y (its-second y (fields_at k x) leads_to) (inl (its-first x (fields_at k y) second)) t lt
          (or_from _ _ (ap (λ (f : Fields). contains f.out_of_sync t) (sym at_x) ∙ none) (ap (λ (f : Fields). contains f.change_recording t) (sym at_x) ∙ still))
          (λ back. two-partners (table w y) x (s.rows.parts.fit y) (its-first x (fields_at k y) second) back);
    }
