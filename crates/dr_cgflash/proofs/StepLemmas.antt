-- What becomes of one volume as the flash holds of a logical subsystem are taken off.
use Rattle.std.proofs.Common.{ℕ, ◌≡◌, ◌<◌, Bool, true, false, true≢false, ◌&&◌, List, arith, refl, sym, ◌∙◌, ap, nat_eq}
use Rattle.std.specs.Prelude.{is_some, if◌then◌else◌}
use Rattle.std.proofs.lemmas.Bool.{and_parts}
use Rattle.dr_ids.specs.declared.names.VolumeId.{VolumeId}
use Rattle.dr_plant.specs.State.{PlantState}
use Rattle.dr_config.specs.Table.{ConfigTable, place_of}
use Rattle.dr_model.specs.declared.event.Event.{Event}
use Rattle.dr_model.specs.Control.{Volume}
use Rattle.dr_model.specs.Carry.{Pass as PassOn, Do as DoAct, Make}
use Rattle.dr_model.specs.Entries.{subsystem}
use Rattle.dr_model.specs.Layout.{Fields}
use Rattle.dr_model.specs.Moves.{FlashFree}
use Rattle.dr_model.specs.WriteEntries.{is_held_in, flash_free_on}
use Rattle.dr_volume.specs.View.{Rest, volume_seen}
use Rattle.dr_volume.proofs.WorldLaws.{on-seen}
use Rattle.dr_moves.specs.Here.{world_seen}
use Rattle.dr_moves.specs.declared.carrying.Next.TheVariants.{Pass, Do}
use Rattle.dr_moves.specs.declared.moves.Move.TheVariants as move
use Rattle.dr_cgflash.specs.Freeing.{held_in, IsStep}

-- the last of three that aren't all so
last-not : (a b h : Bool) → (a && (b && h)) ≡ false → a ≡ true → b ≡ true → h ≡ false
last-not true true h is _ _ = is
last-not true false h is _ on = absurd cc
last-not false b h is into _ = absurd cc

module _ (s : PlantState) (c : ConfigTable) (l : ℕ) (v : VolumeId) (defined : is_some (place_of c v.0) ≡ true) (low : (volume_seen s c v.0).server < 8) where
  abbrev f : Fields
  f = (volume_seen s c v.0).fields

  abbrev runs : Bool
  runs = s.on (volume_seen s c v.0).server

  -- for the machine
  held-seen : (r : Rest) (events : List Event) → is_held_in (world_seen s c r events).control l v.0 ≡ held_in s c l v.0
  held-seen r events = λ i. nat_eq (subsystem v.0) l && (on-seen s (volume_seen s c v.0).server low i && f.flash_hold)

  comes-by : (b : Bool) → held_in s c l v.0 ≡ b → (r : Rest) (events : List Event) → flash_free_on l v.0 (world_seen s c r events).control ≡ (if b then DoAct (Make (FlashFree v.0)) else PassOn)
  comes-by b is r events = ap (λ b. if b then DoAct (Make (FlashFree v.0)) else PassOn) (held-seen r events ∙ is)

  pub free-step : (b : Bool) → held_in s c l v.0 ≡ b → IsStep s c l v.0 (if b then Do (move.FlashFree v) else Pass)
  free-step true is =
      let parts = and_parts (nat_eq (subsystem v.0) l) (runs && f.flash_hold) is in
      record {
        comes = comes-by true is;
        may = record { may = record { defined = defined; running = (and_parts runs f.flash_hold parts.1).0; asks = tt }; calm = refl; carries = λ w. refl };
        few = omega arith;
        goes_on = tt;
        alone = λ q ne. ne;
        apart = λ q out same. true≢false (sym parts.0 ∙ ap (λ z. nat_eq (subsystem z) l) (sym same) ∙ out);
        released = λ u went into on. ap (λ (x : Volume). x.fields.flash_hold) went.moved.volume;
        on = λ u went. went.on;
      }
  free-step false is = record {
    comes = comes-by false is;
    may = tt;
    few = omega arith;
    goes_on = tt;
    alone = λ q ne. tt;
    apart = λ q out. tt;
    released = λ u same into on. ap (λ (x : PlantState). (volume_seen x c v.0).fields.flash_hold) same ∙ last-not _ runs f.flash_hold is into on;
    on = λ u same. ap (λ (x : PlantState). x.on) same;
  }
