-- Where a plant fits a world whose seals hold, they hold on the devices.
use Rattle.std.proofs.Common.{ℕ, ◌≡◌, ◌<◌, refl, ap, sym, ◌∙◌, subst, Bool, true, false, cond, not, ◌&&◌, List, Option, Some}
use Rattle.std.specs.FinSet.{contains}
use Rattle.dr_model.specs.Layout.{Blocks, Fields, is_part}
use Rattle.dr_model.specs.Control.{Fuse, World, is_volume}
use Rattle.dr_model.specs.Pairs.{primary_of}
use Rattle.dr_model.specs.Views.{view}
use Rattle.dr_model.specs.Entries.{fields_at}
use Rattle.dr_model.specs.Table.{table}
use Rattle.dr_model.specs.Laws.{Sound}
use Rattle.dr_model.specs.Cuts.{SealsHold}
use Rattle.dr_model.specs.Fits.{Fits, on_device}
use Rattle.dr_model.specs.Runs.{Task, run}
use Rattle.dr_laws_cuts.proofs.Still.{plain-second}
use Rattle.dr_laws_recovery.specs.Seals.{SealsOn, SealsHoldOn}
use Rattle.dr_laws_sound.proofs.Steps.{sound-run}
use Rattle.dr_laws_recovery.proofs.SealsAlong.{seals-run}
use Rattle.dr_logic.proofs.Choices.{chosen}
use Rattle.dr_logic.proofs.Truth.{false_true}

module _ (w : World) (s : Sound w) (on : ℕ → Bool) (fuse : ℕ → Option Fuse) (device : ℕ → Blocks) (fits : Fits w on fuse device) where
  -- a secondary is no target, so its device contains what it shows
  shows-own : (v u t : ℕ) → primary_of (fields_at w.control v) ≡ Some u → view (fields_at w.control) (on_device w.control device) v t ≡ on_device w.control device v t
  shows-own v u t of = by f.related refl
    where
      f : Fields
      f = fields_at w.control v

      by : (r : Bool) → f.related ≡ r → cond (f.related && not (contains f.own t)) (on_device w.control device f.source t) (on_device w.control device v t) ≡ on_device w.control device v t
      by true is = false_true ((s.rows.parts.fit v).no_secondary is) (chosen (is_part f.secondary) f.secondary_partner u of).0
      by false is = ap (λ b. cond (b && not (contains f.own t)) (on_device w.control device f.source t) (on_device w.control device v t)) is

  contains-own : (v u t : ℕ) → is_volume w.control v ≡ true → primary_of (fields_at w.control v) ≡ Some u → t < (w.control.volume v).tracks → on_device w.control device v t ≡ w.contents v t
  contains-own v u t there of lt = sym (shows-own v u t of) ∙ fits.tracks v t there lt ∙ sym (s.rows.images.plain v (plain-second (table w) s.rows v u of) t lt)

  pub seals-fit : SealsHold w → SealsOn w device
  seals-fit seals v u there of nz =
      let sealed = seals v u of nz in
      record { session = sealed.session; place = sealed.place; only = sealed.only; tracks = λ t lt. contains-own v u t there of lt ∙ sealed.tracks t lt }

-- the world that a run leads to, and the plant that fits it
pub seals-on : (tasks : List Task) (w : World) (on : ℕ → Bool) (fuse : ℕ → Option Fuse) (device : ℕ → Blocks) → run tasks ≡ w → Fits w on fuse device → SealsOn w device
seals-on tasks w on fuse device leads fits = seals-fit w (subst Sound leads (sound-run tasks)) on fuse device fits (subst SealsHold leads (seals-run tasks))

pub seals-hold-on : (tasks : List Task) (w : World) (on : ℕ → Bool) (fuse : ℕ → Option Fuse) (device : ℕ → Blocks) → run tasks ≡ w → Fits w on fuse device → SealsHoldOn tasks device
seals-hold-on tasks w on fuse device leads fits = subst (λ w. SealsOn w device) (sym leads) (seals-on tasks w on fuse device leads fits)
