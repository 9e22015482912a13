-- A read of a volume's device, where it failed and where it passed.
use Rattle.std.proofs.Common.{ℕ, ◌≡◌, ◌≤◌, ◌<◌, true, false, ◌&&◌, List, [], ◌∷◌, ◌++◌, refl, sym, ◌∙◌, ap, subst, nat_lt, arith, Some}
use Rattle.std.specs.Prelude.{is_some, if◌then◌else◌}
use Rattle.dr_logic.specs.Counts.{Rose}
use Rattle.dr_bits.specs.Membership.{lt_true}
use Rattle.dr_plant.specs.State.{PlantState, after_read, can_read}
use Rattle.dr_plant.proofs.StateLemmas.{read_stopped, off-after_read}
use Rattle.dr_config.specs.Table.{ConfigTable, StandsFor, place_of}
use Rattle.dr_model.specs.declared.event.Event.{Event}
use Rattle.dr_model.specs.declared.event.Event.TheVariants.{Stopped}
use Rattle.dr_model.specs.Control.{Volume, World}
use Rattle.dr_model.specs.Refusals.{stopped}
use Rattle.dr_model.specs.ReadStops.{GoesOff}
use Rattle.dr_volume.specs.View.{Rest, volume_seen, track_seen, saved_seen, device_of, on_seen}
use Rattle.dr_volume.specs.Update.{IsAsBefore}
use Rattle.dr_volume.proofs.UpdateLaws.{server-seen}
use Rattle.dr_volume.proofs.UnreadLaws.{Unread, unread, lies-at}
use Rattle.dr_moves.specs.Here.{world_seen, armed_in, IsAtRest}

-- a server that is on is on for the machine too
pub on-running : (s : PlantState) (server : ℕ) → s.on server ≡ true → on_seen s server ≡ true
on-running s server h = elim (nat_lt server 8) as (λ b. (if b then s.on server else true) ≡ true) [ true ↦ h | false ↦ refl ]

pub is-armed : (s : PlantState) (server : ℕ) → server < 8 → is_some (s.read_fuse server) ≡ true → armed_in s server ≡ true
is-armed s server low armed = (λ i. lt_true server 8 low i && armed i)

module _ (c : ConfigTable) (s u : PlantState) (v : ℕ) (stands : StandsFor c s) (size : (volume_seen s c v).tracks ≤ 256) (defined : is_some (place_of c v) ≡ true) (stuck : false ≡ can_read s (device_of c v)) (is : u ≡ after_read s (device_of c v)) where
  pub left-unread : Unread c s u v
  left-unread = unread c s u v defined size stands (sym stuck) is

  pub unread-gone : s.on (volume_seen s c v).server ≡ true → (r : Rest) (events now : List Event) → now ≡ events ++ Stopped (volume_seen s c v).server 0 ∷ [] → GoesOff (armed_in s) (world_seen u c r now) (Some (stopped (volume_seen s c v).server)) (world_seen s c r events)
  unread-gone up r events now told =
      let x = left-unread in
      record {
        server = (volume_seen s c v).server;
        on = on-running s (volume_seen s c v).server up;
        is_armed = is-armed s (volume_seen s c v).server x.low (x.armed up);
        world = ap (world_seen u c r) told ∙ ap (λ (y : World). record y { events = events ++ Stopped (volume_seen s c v).server 0 ∷ [] }) (x.shuts (record r { events = events }));
        refusal = refl;
      }

  pub unread-rose : Rose s.faults u.faults
  unread-rose = let e : u.faults ≡ _ = ap (λ (x : PlantState). x.faults) (is ∙ read_stopped s (device_of c v) (sym stuck)) in omega (arith, e)

  pub unread-off : u.on (volume_seen s c v).server ≡ false
  unread-off =
      let x = lies-at c s v defined size stands in
      (λ i. (is i).on (server-seen c s v (device_of c v) x.0 x.1 i)) ∙ off-after_read s (device_of c v) (sym stuck)

pub rest-same : (c : ConfigTable) (s u : PlantState) → IsAtRest s c → StandsFor c u → ((q : ℕ) → IsAsBefore s u c q) → IsAtRest u c
rest-same c s u rest stands same = record {
  stands = stands;
  sizes = λ q. subst (λ n. n ≤ 256) (sym (ap (λ (y : Volume). y.tracks) (same q).volume)) (rest.sizes q);
}

pub before-same : (c : ConfigTable) (s u : PlantState) → u ≡ s → (q : ℕ) → IsAsBefore s u c q
before-same c s u is q = record { volume = ap (λ (x : PlantState). volume_seen x c q) is; tracks = ap (λ (x : PlantState). track_seen x c q) is; saved = ap (λ (x : PlantState). saved_seen x c q) is }
