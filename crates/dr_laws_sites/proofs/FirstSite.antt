-- At each moment of a run the second site's volume shows what the first one's is due to show, outside what is out of sync.
use Rattle.std.proofs.Common.{ℕ, ◌≡◌, ◌||◌, inl, inr, ap, sym, ◌∙◌, false, List, [], ◌++◌, Some}
use Rattle.std.proofs.lemmas.Bool.{and_parts}
use Rattle.std.proofs.lemmas.List.{append-nil}
use Rattle.dr_model.specs.Histories.{histories, lists}
use Rattle.dr_model.specs.Contents.{image}
use Rattle.dr_model.specs.Layout.{is_part}
use Rattle.dr_model.specs.Control.{World}
use Rattle.dr_model.specs.Pairs.{primary_of, secondary_of}
use Rattle.dr_model.specs.Entries.{fields_at}
use Rattle.dr_model.specs.Table.{table, waiting}
use Rattle.dr_model.specs.Laws.{SoundRows}
use Rattle.dr_model.specs.Runs.{Task}
use Rattle.dr_facts.proofs.Parts.{two-partners}
use Rattle.dr_laws_cuts.proofs.Still.{due-equal}
use Rattle.dr_laws_sound.proofs.FitsPairs.{its-first, its-second}
use Rattle.dr_laws_sound.proofs.KeepsRecorders.{metro-idle}
use Rattle.dr_laws_sites.specs.FirstSite.{IsFirst, ShowsFirst, FromFirstSite}
use Rattle.dr_laws_sites.proofs.Along.{Holds, At, run-moment}
use Rattle.dr_logic.proofs.Truth.{false_true}

module _ (w : World) (rows : SoundRows (table w)) (holds : Holds w) (v a : ℕ) (first : IsFirst w.control v a) where
  pub to : secondary_of (fields_at w.control v) ≡ Some a
  to = its-second a (fields_at w.control v) first.sends

  pub back : primary_of (fields_at w.control a) ≡ Some v
  back = its-first v (fields_at w.control a) first.takes

  -- no write that landed in a stop waits on the secondary
  none-waits : (t : ℕ) → waiting w.control.pending a t ≡ []
  none-waits t = elim (holds.calm a t) [
    | inl none ↦ none
    | inr plain ↦ false_true plain.1 (and_parts (is_part (fields_at w.control a).secondary) _ first.takes).0
  ]

  pub shows-first : ShowsFirst w v a
  shows-first = record {
    size = sym (rows.parts.secondary v a to).same_tracks;
    tracks = λ t lt out.
        let idle : (fields_at w.control v).recording ≡ false = metro-idle (table w v) (rows.recorders v) first.metro in
        let same : w.contents v t ≡ w.contents a t = rows.pairs v a to (inl back) t lt (λ i. out i || (rows.recorders v).none idle t i) (two-partners (table w a) v (rows.parts.fit a) back) in
        ap (image (histories w.events).write) (sym (append-nil (lists w.events a t)) ∙ sym (ap (λ ws. lists w.events a t ++ ws) (none-waits t)))
        ∙ due-equal (table w) rows v a t to back lt (sym same);
  }

pub first-run : (tasks : List Task) → FromFirstSite tasks
first-run tasks before later w is v a first = let at : At w later = run-moment tasks before later w is in shows-first w at.good.rows at.holds v a first
