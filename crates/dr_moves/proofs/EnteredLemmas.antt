-- A move as an entry, from the machine's turn of it.
use Rattle.std.proofs.Common.{ℕ, ◌≡◌, ◌⊎◌, inl, inr, Bool, true, false, List, [], refl, ap, ◌∙◌, None, Some}
use Rattle.std.specs.Prelude.{Result, Ok, Err, OnOk, OnErr}
use Rattle.dr_ids.specs.declared.refusal.Refusal.{Refusal}
use Rattle.dr_plant.specs.State.{PlantState}
use Rattle.dr_config.specs.Table.{ConfigTable}
use Rattle.dr_model.specs.declared.event.Event.{Event}
use Rattle.dr_model.specs.Log.{Log}
use Rattle.dr_model.specs.Moves.{Move, Land, Overwrite, LandBoth, Carried}
use Rattle.dr_model.specs.Carry.{turn, now}
use Rattle.dr_model.specs.ReadStops.{GoesOff}
use Rattle.dr_model.specs.Refusals.{stopped}
use Rattle.dr_volume.specs.View.{Rest, volume_seen}
use Rattle.dr_moves.specs.Entered.{is_calm, Entered}
use Rattle.dr_moves.specs.Here.{world_seen, armed_in, refusal_of}
use Rattle.dr_moves.specs.Made.{after_done, after_stop, Made}
use Rattle.dr_moves.specs.declared.acts.Stop.{Stop}
use Rattle.dr_facts.proofs.Ends.{ends-none}
use Rattle.dr_moves.proofs.EntryLemmas.{move-advances, move-halts}

-- such a move settles no pending write
pub calm-done : (m : Move) → is_calm m ≡ true → (r : Rest) → after_done m r ≡ r
calm-done (Land w v t) calm r = absurd cc
calm-done (Overwrite w v t) calm r = absurd cc
calm-done (LandBoth w v t) calm r = absurd cc
calm-done m calm r = refl

pub calm-stop : (m : Move) → is_calm m ≡ true → (b : Bool) (r : Rest) → after_stop m b r ≡ r
calm-stop (Land w v t) calm true r = absurd cc
calm-stop (Overwrite w v t) calm true r = absurd cc
calm-stop (LandBoth w v t) calm true r = absurd cc
calm-stop m calm true r = refl
calm-stop m calm false r = refl

-- the turn went so, or a server went off before it
module _ (s u : PlantState) (c : ConfigTable) (before after : List Event) (m : Move) (v : ℕ) where
  pub entered-by : (res : Result (Unit {0}) Refusal) → OnOk res ((r : Rest) → turn (world_seen s c r before) m ≡ (world_seen u c r after, None))
      → OnErr res ((r : Rest) → GoesOff (armed_in s) (world_seen u c r after) (refusal_of res) (world_seen s c r before) ⊎ (turn (world_seen s c r before) m ≡ (world_seen u c r after, Some (volume_seen s c v).server)))
      → OnErr res (refusal_of res ≡ Some (stopped (volume_seen s c v).server)) → Entered s u c before after m v res
  entered-by (Ok x) done failed refused =
      let goes = λ (r : Rest). move-advances (world_seen s c r before) (world_seen u c r after) (now m) m refl (done r) in
      record {
        done = done;
        failed = tt;
        carried = λ r. goes r (armed_in s) (world_seen u c r after) None [] (ends-none (armed_in s) (world_seen u c r after) None (world_seen u c r after) (record { world = refl; refusal = refl }));
        advances = goes;
        halts = tt;
        refused = tt;
      }
  entered-by (Err e) done failed refused =
      let stops = λ (r : Rest). move-halts (armed_in s) (world_seen s c r before) (world_seen u c r after) (Some e) (now m) m (volume_seen s c v).server refl refused (failed r) in
      record {
        done = tt;
        failed = failed;
        carried = λ r. stops r [];
        advances = tt;
        halts = stops;
        refused = refused;
      }

-- such a move was made
module _ (s u : PlantState) (c : ConfigTable) (old new : Log) (m : Move) (v : ℕ) (t : Carried) (calm : is_calm m ≡ true) where
  pub entered-done : Made s u c old new m v t (Ok tt) → Entered s u c old.events new.events m v (Ok tt)
  entered-done made = entered-by s u c old.events new.events m v (Ok tt) (λ r. made.turned r ∙ ap (λ (q : Rest). (world_seen u c q new.events, None)) (calm-done m calm r)) tt tt

  pub entered-stopped : (stop : Stop) → Made s u c old new m v t (Err stop) → Entered s u c old.events new.events m v (Err (stopped stop.server.0))
  entered-stopped stop made =
      entered-by s u c old.events new.events m v (Err (stopped stop.server.0)) tt
      (λ r. elim (made.turned r) [
        | inl off ↦ inl off.1
        | inr is ↦ inr (is ∙ ap (λ (q : Rest). (world_seen u c q new.events, Some stop.server.0)) (calm-stop m calm stop.counts r) ∙ ap (λ n. (world_seen u c r new.events, Some n)) made.server)
      ])
      (ap (λ n. Some (stopped n)) made.server)
