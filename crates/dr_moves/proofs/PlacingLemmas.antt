-- A volume's staged track is written to its place, or the server stops in that write or goes off at the read before it.
use Rattle.std.proofs.Common.{ℕ, ◌≡◌, ◌<◌, ◌⊎◌, inl, inr, List, [], ◌∷◌, ◌++◌, refl, ap, ◌∙◌, sym, Bool, true, false, not, cond, Some, None}
use Rattle.std.specs.Prelude.{if◌then◌else◌}
use Rattle.std.proofs.lemmas.Bool.{false≢true}
use Rattle.dr_plant.specs.State.{PlantState, passes_read}
use Rattle.dr_config.specs.Table.{ConfigTable}
use Rattle.dr_model.specs.declared.event.Event.{Event}
use Rattle.dr_model.specs.declared.event.Event.TheVariants.{Stopped}
use Rattle.dr_model.specs.Refusals.{stopped}
use Rattle.dr_model.specs.Control.{World}
use Rattle.dr_model.specs.Carry.{Ended, ended, Entry, Do, Redo, act, redo}
use Rattle.dr_model.specs.ReadStops.{GoesOff, shut}
use Rattle.dr_model.proofs.CarryLemmas.{act-redo}
use Rattle.dr_volume.specs.View.{Rest, volume_seen}
use Rattle.dr_volume.specs.Update.{EndsAs, after_reading}
use Rattle.dr_volume.proofs.UnreadLaws.{armed-of}
use Rattle.dr_moves.specs.Here.{world_seen, armed_in}
use Rattle.dr_moves.specs.Turns.{Advances, Halts}
use Rattle.dr_facts.proofs.Ends.{ends-off, ends-goes, ends-stops}
use Rattle.dr_moves.proofs.ReadLemmas.{on-running, is-armed}

-- the server, whose read fuse is armed, went off before any write
pub record Shuts (s : PlantState) (server : ℕ) (w u : World) (failed : Bool) : Type 0 where
  pub stuck : passes_read (s.read_fuse server) ≡ false
  pub world : u ≡ shut w server
  pub answer : failed ≡ true

-- an act that begins with a read ends as the machine's, or at that read
pub split : (s : PlantState) (server : ℕ) (w u : World) (b : Bool) (e : Ended) → EndsAs u b (after_reading s server w e) → EndsAs u b e ⊎ Shuts s server w u b
split s server w u b e ends =
    elim (passes_read (s.read_fuse server)) as (λ p. passes_read (s.read_fuse server) ≡ p → EndsAs u b (if p then e else ended (shut w server) true false) → EndsAs u b e ⊎ Shuts s server w u b) [
      | true ↦ λ pass h. inl h
      | false ↦ λ stuck h. inr (record { stuck = stuck; world = h.world; answer = h.stopped })
    ] refl ends

-- and so it went off, and the journal is told
pub shut-off : (s s' : PlantState) (t : ConfigTable) (r : Rest) (ev mid : List Event) (v : ℕ) → s.on (volume_seen s t v).server ≡ true → (volume_seen s t v).server < 8 → mid ≡ ev ++ Stopped (volume_seen s t v).server 0 ∷ []
    → Shuts s (volume_seen s t v).server (world_seen s t r ev) (world_seen s' t r ev) true → GoesOff (armed_in s) (world_seen s' t r mid) (Some (stopped (volume_seen s t v).server)) (world_seen s t r ev)
shut-off s s' t r ev mid v on low told x =
    let o = (volume_seen s t v).server in
    record {
      server = o;
      on = on-running s o on;
      is_armed = is-armed s o low (armed-of (s.read_fuse o) x.stuck);
      world = ap (world_seen s' t r) told ∙ ap (λ (y : World). record y { events = ev ++ Stopped o 0 ∷ [] }) x.world;
      refusal = refl;
    }

module _ (s s' : PlantState) (t : ConfigTable) (r : Rest) (ev : List Event) (v : ℕ) (on : s.on (volume_seen s t v).server ≡ true) (d : Entry) (comes : d (world_seen s t r ev).control ≡ Do (Redo v)) where
  abbrev w : World
  w = world_seen s t r ev

  abbrev e : Ended
  e = redo w v

  abbrev o : ℕ
  o = (volume_seen s t v).server

  redo_by : (stopped : Bool) → stopped ≡ e.stopped → act w (Redo v) ≡ (if stopped then (record e.world { events = ev ++ Stopped o 0 ∷ [] }, Some o) else (e.world, None))
  redo_by stopped is =
      act-redo w v
      ∙ ap (λ b. cond (not b) (w, None) (cond e.stopped (record e.world { events = ev ++ Stopped o 0 ∷ [] }, Some o) (e.world, None))) (on-running s o on)
      ∙ ap (λ b. cond b (record e.world { events = ev ++ Stopped o 0 ∷ [] }, Some o) (e.world, None)) (sym is)

  pub placed-advances : EndsAs (world_seen s' t r ev) false (after_reading s (volume_seen s t v).server (world_seen s t r ev) (redo (world_seen s t r ev) v)) → Advances (world_seen s t r ev) d (world_seen s' t r ev)
  placed-advances ends armed u q ds more = elim (split s o w (world_seen s' t r ev) false e ends) [
    | inl x ↦ ends-goes armed u q w (world_seen s' t r ev) d ds (Redo v) comes (redo_by false x.stopped ∙ ap (λ (y : World). (y, None)) (sym x.world)) more
    | inr x ↦ absurd (false≢true x.answer)
  ]

  pub placed-halts : (mid : List Event) → (volume_seen s t v).server < 8 → EndsAs (world_seen s' t r ev) true (after_reading s (volume_seen s t v).server (world_seen s t r ev) (redo (world_seen s t r ev) v)) → mid ≡ ev ++ Stopped (volume_seen s t v).server 0 ∷ [] → Halts (armed_in s) (world_seen s t r ev) d (world_seen s' t r mid) (Some (stopped (volume_seen s t v).server))
  placed-halts mid low ends told ds = elim (split s o w (world_seen s' t r ev) true e ends) [
    | inl x ↦
        ends-stops (armed_in s) (world_seen s' t r mid) (Some (stopped o)) w d ds (Redo v) o comes
        (redo_by true x.stopped
        ∙ ap (λ (y : World). (record y { events = ev ++ Stopped o 0 ∷ [] }, Some o)) (sym x.world)
        ∙ ap (λ es. (world_seen s' t r es, Some o)) (sym told)) refl
    | inr x ↦ ends-off (armed_in s) (world_seen s' t r mid) (Some (stopped o)) w (d ∷ ds) (shut-off s s' t r ev mid v on low told x)
  ]
