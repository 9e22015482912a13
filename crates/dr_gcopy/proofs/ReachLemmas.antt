-- What the configuration says of a path and a link is what the machine says.
use Rattle.std.proofs.Common.{ℕ, ◌≡◌, ◌<◌, Bool, true, false, not, List, refl, sym, ◌∙◌, ap, subst, Option, None, Some}
use Rattle.std.specs.Prelude.{is_some, option_map, if◌then◌else◌}
use Rattle.std.specs.Option.{unwrap_or}
use Rattle.dr_ids.specs.Paths.{path_in}
use Rattle.dr_ids.specs.declared.refusal.Refusal.{Refusal}
use Rattle.dr_ids.specs.declared.refusal.Kind.TheVariants.{Path as OfPath}
use Rattle.dr_plant.specs.State.{PlantState}
use Rattle.dr_config.specs.Table.{ConfigTable, StandsFor, place_of, server_of, lss_of, link_up}
use Rattle.dr_config.specs.declared.entries.VolumeEntry.{VolumeEntry}
use Rattle.dr_config.specs.Rules as config
use Rattle.dr_model.specs.declared.event.Event.{Event}
use Rattle.dr_model.specs.Refusals.{unknown, server_off}
use Rattle.dr_model.specs.PairEntries.{reach_refusal, link_down}
use Rattle.dr_volume.specs.View.{Rest, volume_seen, on_seen}
use Rattle.dr_volume.proofs.VolumeLaws.{placed, volume-placed}
use Rattle.dr_moves.specs.Checks.{OnNone, is_stop}
use Rattle.dr_moves.specs.Here.{world_seen}
use Rattle.dr_moves.proofs.PlaceLaws.{entry-found}
use Rattle.dr_volume.proofs.WorldLaws.{on-seen}

pub server-is : (s : PlantState) (t : ConfigTable) (v : ℕ) → is_some (place_of t v) ≡ true → unwrap_or (server_of t v) 0 ≡ (volume_seen s t v).server
server-is s t v defined = let x = entry-found t v defined in ap (λ o. unwrap_or (option_map (λ (e : VolumeEntry). e.server) o) 0) x.1 ∙ sym (x.2 s)

pub server-low : (s : PlantState) (t : ConfigTable) (v : ℕ) → StandsFor t s → is_some (place_of t v) ≡ true → (volume_seen s t v).server < 8
server-low s t v stands defined =
    let x = placed t v defined in
    subst (λ n. n < 8) (sym (ap (λ y. y.server) (volume-placed s t v x.0 x.1 x.2 x.3))) (stands.device x.0 x.1 x.3).2

pub running-is : (s : PlantState) (t : ConfigTable) (v : ℕ) → StandsFor t s → is_some (place_of t v) ≡ true → on_seen s (volume_seen s t v).server ≡ s.on (volume_seen s t v).server
running-is s t v stands defined = on-seen s (volume_seen s t v).server (server-low s t v stands defined)

-- the refusal by three tests
abbrev reach_by : (path on link : Bool) → ℕ → ℕ → Option Refusal
reach_by path on link x y = if not path then Some (unknown OfPath) else if not on then Some (server_off y) else if not link then Some (link_down x y) else None

turned : {X : Type 0} (b : Bool) (x y : X) → (if b then x else y) ≡ (if not b then y else x)
turned true x y = refl
turned false x y = refl

pub calm-by : (path on link : Bool) (x y : ℕ) → is_stop (reach_by path on link x y) ≡ false
calm-by false on link x y = refl
calm-by true false link x y = refl
calm-by true true false x y = refl
calm-by true true true x y = refl

on-by : (path on link : Bool) (x y : ℕ) → OnNone (reach_by path on link x y) (on ≡ true)
on-by false on link x y = tt
on-by true false link x y = tt
on-by true true false x y = tt
on-by true true true x y = refl

module _ (s : PlantState) (t : ConfigTable) (a b : ℕ) (stands : StandsFor t s) (from : is_some (place_of t a) ≡ true) (to : is_some (place_of t b) ≡ true) where
  abbrev x : ℕ
  x = (volume_seen s t a).server

  abbrev y : ℕ
  y = (volume_seen s t b).server

  abbrev path : Bool
  path = is_some (path_in t.paths (lss_of a) (lss_of b))

  reach-by : config.reach_refusal t s.on a b ≡ reach_by path (s.on y) (link_up t x y) x y
  reach-by =
      (λ i. if path then config.contact_refusal t s.on (server-is s t a from i) (server-is s t b to i) else Some (unknown OfPath))
      ∙ turned path (config.contact_refusal t s.on x y) (Some (unknown OfPath))

  pub reach-is : (r : Rest) (events : List Event) → config.reach_refusal t s.on a b ≡ reach_refusal a b (world_seen s t r events).control
  reach-is r events = reach-by ∙ ap (λ on. reach_by path on (link_up t x y) x y) (sym (running-is s t b stands to))

  pub reach-calm : is_stop (config.reach_refusal t s.on a b) ≡ false
  reach-calm = ap is_stop reach-by ∙ calm-by path (s.on y) (link_up t x y) x y

  pub reach-running : OnNone (config.reach_refusal t s.on a b) (s.on y ≡ true)
  reach-running = subst (λ o. OnNone o (s.on y ≡ true)) (sym reach-by) (on-by path (s.on y) (link_up t x y) x y)
