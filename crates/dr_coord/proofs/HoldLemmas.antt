-- An entry with a test, which lets a volume go on as its server starts; and entries that are passed.
use Rattle.std.proofs.Common.{ℕ, ◌≡◌, Bool, true, false, ◌&&◌, nat_eq, List, [], ◌∷◌, refl, ◌∙◌, ap, None}
use Rattle.std.specs.Prelude.{is_some, if◌then◌else◌}
use Rattle.std.proofs.lemmas.Bool.Decides.{Decides-eqb}
use Rattle.dr_plant.specs.State.{PlantState}
use Rattle.dr_config.specs.Table.{ConfigTable, place_of}
use Rattle.dr_model.specs.declared.event.Event.{Event}
use Rattle.dr_model.specs.Control.{World}
use Rattle.dr_model.specs.Pairs.{must_restart}
use Rattle.dr_model.specs.Moves.{Move, Restart}
use Rattle.dr_model.specs.Carry.{Pass, Do, Make, Entry, now}
use Rattle.dr_model.specs.WriteEntries.{belongs, restart_on}
use Rattle.dr_volume.specs.View.{Rest, volume_seen}
use Rattle.dr_moves.specs.Here.{world_seen}
use Rattle.dr_moves.specs.Turns.{Advances}
use Rattle.dr_moves.proofs.PlaceLaws.{entry-found}
use Rattle.dr_model.specs.ReadStops.{Ends}
use Rattle.dr_facts.proofs.Ends.{ends-skips, ends-none}
use Rattle.dr_volume.proofs.WorldLaws.{any_id}

-- a volume that the configuration has belongs to its server
module _ (s : PlantState) (t : ConfigTable) (r : Rest) (events : List Event) (v : ℕ) (defined : is_some (place_of t v) ≡ true) where
  abbrev w : World
  w = world_seen s t r events

  abbrev server : ℕ
  server = (volume_seen s t v).server

  belongs-seen : belongs w.control server v ≡ true
  belongs-seen =
      ap (λ b. b && nat_eq server server) (any_id t.volumes v ∙ ap is_some (entry-found t v defined).1)
      ∙ (Decides-eqb server server).1 refl

  entry-is : (so : Bool) (m : Move) → (if belongs w.control server v && so then Do (Make m) else Pass) ≡ (if so then Do (Make m) else Pass)
  entry-is so m = ap (λ b. if b && so then Do (Make m) else Pass) belongs-seen

  -- nothing to go on from
  pub restart-skips : must_restart (volume_seen s t v).fields ≡ false → Advances w (restart_on server v) w
  restart-skips fine armed u q ds more = ends-skips armed u q w (restart_on server v) ds (entry-is (must_restart (volume_seen s t v).fields) (Restart v) ∙ ap (λ b. if b then Do (Make (Restart v)) else Pass) fine) more

  -- else the move comes
  pub restart-comes : must_restart (volume_seen s t v).fields ≡ true → restart_on server v w.control ≡ now (Restart v) w.control
  restart-comes is = entry-is (must_restart (volume_seen s t v).fields) (Restart v) ∙ ap (λ b. if b then Do (Make (Restart v)) else Pass) is

-- one entry that leads on
pub one-skipped : (armed : ℕ → Bool) (w : World) (d : Entry) → Advances w d w → Ends armed w None w (d ∷ [])
one-skipped armed w d go = go armed w None [] (ends-none armed w None w (record { world = refl; refusal = refl }))
