-- From the laws on rows to what a run promises: a sealed secondary contains what its primary held at the cut.
use Rattle.std.proofs.Common.{ℕ, ◌≡◌, refl, ap, ◌∙◌, true, Option, Some, None}
use Rattle.std.specs.Prelude.{is_some}
use Rattle.dr_model.specs.Histories.{histories}
use Rattle.dr_model.specs.Contents.{image}
use Rattle.dr_model.specs.Control.{World}
use Rattle.dr_model.specs.Table.{table}
use Rattle.dr_model.specs.Laws.{SoundRows, fields}
use Rattle.dr_model.specs.Cuts.{CutLaws, SealsHold, cuts}
use Rattle.dr_laws_cuts.specs.Once.{CutOnce}
use Rattle.dr_laws_cuts.proofs.Still.{plain-second}
use Rattle.dr_laws_cuts.proofs.Places.{cut-found, cut-once}

pub record Is (o : Option ℕ) : Type 0 where
  pub value : ℕ
  pub is : o ≡ Some value

pub is-of : (o : Option ℕ) → is_some o ≡ true → Is o
is-of None h = absurd cc
is-of (Some s) h = record { value = s; is = refl }

pub seals-hold : (w : World) → CutLaws (histories w.events).write (cuts w.events) (table w) → SoundRows (table w) → CutOnce w.events → SealsHold w
seals-hold w laws rows once v u h nz =
    let holds = laws.sealed v u h nz in
    let by = is-of _ holds.cut in
    let n : ℕ = (fields (table w) v).seal in
    let found = cut-found n u w.events by.value by.is in
    record {
      session = by.value;
      place = found.place;
      only = λ z other. cut-once w.events once n u by.value z found.place other;
      tracks = λ t lt. rows.images.plain v (plain-second (table w) rows v u h) t lt ∙ holds.tracks t lt ∙ ap (image (histories w.events).write) (found.held t);
    }
