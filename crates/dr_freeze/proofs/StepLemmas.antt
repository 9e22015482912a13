-- What becomes of one volume in a freeze or a thaw.
use Rattle.std.proofs.Common.{ℕ, ◌≡◌, ◌<◌, ◌≤◌, Bool, true, false, ◌&&◌, [], ◌∷◌, length, arith, refl, ap, sym, ◌∙◌}
use Rattle.std.specs.Prelude.{is_some, if◌then◌else◌}
use Rattle.dr_ids.specs.declared.names.VolumeId.{VolumeId}
use Rattle.dr_plant.specs.State.{PlantState}
use Rattle.dr_config.specs.Table.{ConfigTable, place_of}
use Rattle.dr_model.specs.declared.event.Event.TheVariants.{Suspended}
use Rattle.dr_model.specs.Control.{Volume}
use Rattle.dr_model.specs.Layout.{Fields}
use Rattle.dr_model.specs.Pairs.{is_suspended, suspended, thawed}
use Rattle.dr_volume.specs.View.{volume_seen}
use Rattle.dr_moves.specs.declared.carrying.Next.TheVariants.{Pass, Do}
use Rattle.dr_moves.specs.declared.moves.Move.TheVariants as move
use Rattle.dr_freeze.specs.declared.changes.Change.{Change}
use Rattle.dr_freeze.specs.declared.changes.Change.TheVariants.{Freeze, Thaw}
use Rattle.dr_freeze.specs.Between.{between}
use Rattle.dr_freeze.specs.Changes.{changed_by, IsStep}
use Rattle.dr_freeze.proofs.BetweenLemmas.{running-between, primary-between, freeze-by, thaw-by, still-moved, still-same, frozen-fields}

few-told : (b : Bool) (v : ℕ) → length (if b then [] else Suspended v ∷ []) ≤ 2
few-told true v = omega arith
few-told false v = omega arith

module _ (s : PlantState) (c : ConfigTable) (l m : ℕ) (v : VolumeId) (defined : is_some (place_of c v.0) ≡ true) (low : (volume_seen s c v.0).server < 8) where
  abbrev f : Fields
  f = (volume_seen s c v.0).fields

  freeze-step : (b : Bool) → between s c l m v.0 ≡ b → IsStep s c Freeze l m v.0 (changed_by Freeze v b (volume_seen s c v.0).fields)
  freeze-step true is = record {
    comes = λ r events. freeze-by s c r events l m v.0 low true is;
    may = record { may = record { defined = defined; running = running-between s c l m v.0 is; asks = primary-between s c l m v.0 is }; calm = refl; carries = λ w. refl };
    few = few-told (is_suspended f.primary_state) v.0;
    goes_on = tt;
    alone = λ q ne. ne;
    changed = λ u went _. frozen-fields f (volume_seen u c v.0).fields (ap (λ (x : Volume). x.fields) went.moved.volume);
    still = λ u went. still-moved s u c l m v.0 (suspended true f) went.on refl refl went.moved went.others;
  }
  freeze-step false is = record {
    comes = λ r events. freeze-by s c r events l m v.0 low false is;
    may = tt;
    few = omega arith;
    goes_on = tt;
    alone = λ q ne. tt;
    changed = λ u went so. absurd (let e : true ≡ false = sym so ∙ is in cc);
    still = λ u same. still-same s u c l m same;
  }

  thaw-step : (b busy : Bool) → between s c l m v.0 ≡ b → (volume_seen s c v.0).fields.long_busy ≡ busy → IsStep s c Thaw l m v.0 (if b && busy then Do (move.Thaw v) else Pass)
  thaw-step true true is busy = record {
    comes = λ r events. thaw-by s c r events l m v.0 low true true is busy;
    may = record { may = record { defined = defined; running = running-between s c l m v.0 is; asks = tt }; calm = refl; carries = λ w. refl };
    few = omega arith;
    goes_on = tt;
    alone = λ q ne. ne;
    changed = λ u went _. ap (λ (x : Volume). x.fields.long_busy) went.moved.volume;
    still = λ u went. still-moved s u c l m v.0 (thawed f) went.on refl refl went.moved went.others;
  }
  thaw-step true false is busy = record {
    comes = λ r events. thaw-by s c r events l m v.0 low true false is busy;
    may = tt;
    few = omega arith;
    goes_on = tt;
    alone = λ q ne. tt;
    changed = λ u same _. ap (λ (x : PlantState). (volume_seen x c v.0).fields.long_busy) same ∙ busy;
    still = λ u same. still-same s u c l m same;
  }
  thaw-step false busy is free = record {
    comes = λ r events. thaw-by s c r events l m v.0 low false busy is free;
    may = tt;
    few = omega arith;
    goes_on = tt;
    alone = λ q ne. tt;
    changed = λ u went so. absurd (let e : true ≡ false = sym so ∙ is in cc);
    still = λ u same. still-same s u c l m same;
  }

  pub step-by : (x : Change) → IsStep s c x l m v.0 (changed_by x v (between s c l m v.0) (volume_seen s c v.0).fields)
  step-by Freeze = freeze-step (between s c l m v.0) refl
  step-by Thaw = thaw-step (between s c l m v.0) f.long_busy refl refl
