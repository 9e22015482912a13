-- A volume's staged track is written to its place, and then a move leaves none staged: as entries, and as what it leaves.
use Rattle.std.proofs.Common.{ℕ, ◌≡◌, ◌<◌, inl, inr, List, [], ◌∷◌, ◌++◌, refl, ap, ◌∙◌, sym, subst, Bool, true, false, not, cond, Option, Some, None}
use Rattle.std.specs.Prelude.{if◌then◌else◌}
use Rattle.std.proofs.Math.Dec.{leb-zero}
use Rattle.std.proofs.lemmas.Bool.{false≢true}
use Rattle.std.proofs.lemmas.List.{append-nil}
use Rattle.dr_plant.specs.State.{PlantState, can_read, after_read}
use Rattle.dr_plant.specs.Writes.{after_writes}
use Rattle.dr_config.specs.Table.{ConfigTable}
use Rattle.dr_model.specs.declared.event.Event.{Event}
use Rattle.dr_model.specs.declared.event.Event.TheVariants.{Stopped}
use Rattle.dr_model.specs.Refusals.{stopped}
use Rattle.dr_model.specs.Control.{Fuse, World}
use Rattle.dr_model.specs.Layout.{chosen}
use Rattle.dr_model.specs.Moves.{Unstage}
use Rattle.dr_model.specs.ReadStops.{Ends}
use Rattle.dr_model.specs.Carry.{Ended, ended, Redo, act, redo, redo_ended, redo_writes, pass, spent, off, turn, turn_ended, update_keeping, cut_short, finished, now}
use Rattle.dr_model.specs.Plans.{redo_now, destage_entries}
use Rattle.dr_model.proofs.CarryLemmas.{act-redo}
use Rattle.dr_volume.specs.View.{Rest, volume_seen, device_of}
use Rattle.dr_volume.specs.Update.{EndsAs, after_reading, destage_writes, read_and_write, staged_seen, track_with, unstaged}
use Rattle.dr_volume.specs.declared.fields.Fields.{Fields}
use Rattle.dr_moves.specs.Fit.{LeavesFit, RelationsFit}
use Rattle.dr_moves.specs.Here.{world_seen, armed_in}
use Rattle.dr_moves.specs.Turns.{Advances, Halts, Leads, Fails}
use Rattle.dr_facts.proofs.Ends.{ends-off, ends-goes, ends-stops}
use Rattle.dr_moves.proofs.EntryLemmas.{move-advances, move-halts}
use Rattle.dr_moves.proofs.FitLemmas.{fit-kept}
use Rattle.dr_moves.proofs.PlacingLemmas.{split, shut-off}
use Rattle.dr_moves.proofs.ReadLemmas.{on-running}

-- how it ends that a staged track goes to its place: by what decides it
module _ (w : World) (v : ℕ) where
  abbrev o : ℕ
  o = (w.control.volume v).server

  abbrev ended_by : Bool → Bool → Ended
  ended_by on passes = cond (not on) (ended w true false) (cond passes (ended (spent w o (redo_writes (w.control.volume v).staged)) false true) (ended (off w o) true false))

  ended-by : redo w v ≡ ended_by (w.control.on o) (pass (w.control.fuse o) (redo_writes (w.control.volume v).staged))
  unfolding redo
  ended-by = refl

  cases_by : (P : Ended → Type 0) (on passes : Bool) → w.control.on o ≡ on → on ≡ true → pass (w.control.fuse o) (redo_writes (w.control.volume v).staged) ≡ passes → ((n : ℕ) → P (ended (spent w o n) false true))
      → (pass (w.control.fuse o) (redo_writes (w.control.volume v).staged) ≡ false → P (ended (off w o) true false)) → P (ended_by on passes)
  cases_by P false passes is on by a b = absurd (false≢true on)
  cases_by P true true is on by a b = a _
  cases_by P true false is on by a b = b by

  -- on a server that is on, its write passes, or the server stops in it
  pub redo-cases : (P : Ended → Type 0) → w.control.on o ≡ true → ((n : ℕ) → P (ended (spent w o n) false true))
      → (pass (w.control.fuse o) (redo_writes (w.control.volume v).staged) ≡ false → P (ended (off w o) true false)) → P (redo w v)
  redo-cases P on a b = subst P (sym ended-by) (cases_by P _ _ refl on refl a b)

  -- where none is staged it can't stop
  pub redo-passes : w.control.on o ≡ true → (w.control.volume v).staged ≡ None → (redo w v).stopped ≡ false
  redo-passes on none = redo-cases (λ (e : Ended). e.stopped ≡ false) on (λ n. refl) (λ cut. absurd (let never : true ≡ false = sym (none-passes (w.control.fuse o)) ∙ sym (ap (λ q. pass (w.control.fuse o) (redo_writes q)) none) ∙ cut in false≢true (sym never)))
    where
      none-passes : (f : Option Fuse) → pass f 0 ≡ true
      none-passes None = refl
      none-passes (Some f) = leb-zero f.after

-- the move that leaves none staged
turn-is : (w : World) (v : ℕ) → turn w (Unstage v) ≡ turn_ended w (Unstage v) (update_keeping false w v (w.control.volume v).fields None)
unfolding turn
turn-is w v = refl

unstage-advances : (w u : World) (v : ℕ) → w.control.on (w.control.volume v).server ≡ true → EndsAs u false (update_keeping false w v (w.control.volume v).fields None) → Advances w (now (Unstage v)) u
unstage-advances w u v on ends =
    let e = update_keeping false w v (w.control.volume v).fields None in
    move-advances w u (now (Unstage v)) (Unstage v) refl
    (turn-is w v
    ∙ ap (λ b. cond (not b) (w, None) (cond e.stopped (cut_short e.world (Unstage v) (w.control.volume v) e.done, Some (w.control.volume v).server) (record e.world { events = e.world.events ++ [] }, None))) on
    ∙ ap (λ b. cond b (cut_short e.world (Unstage v) (w.control.volume v) e.done, Some (w.control.volume v).server) (record e.world { events = e.world.events ++ [] }, None)) (sym ends.stopped)
    ∙ ap (λ (x : World). (record x { events = x.events ++ [] }, None)) (sym ends.world)
    ∙ ap (λ es. (record u { events = es }, None)) (append-nil u.events))

-- where its server stopped in it
unstage-halts : (armed : ℕ → Bool) (w u z : World) (v : ℕ) → w.control.on (w.control.volume v).server ≡ true → EndsAs u true (update_keeping false w v (w.control.volume v).fields None)
    → z ≡ record u { events = u.events ++ Stopped (w.control.volume v).server 0 ∷ [] } → Halts armed w (now (Unstage v)) z (Some (stopped (w.control.volume v).server))
unstage-halts armed w u z v on ends is =
    let e = update_keeping false w v (w.control.volume v).fields None in
    let o = (w.control.volume v).server in
    move-halts armed w z (Some (stopped o)) (now (Unstage v)) (Unstage v) o refl refl
    (inr
    (turn-is w v
    ∙ ap (λ b. cond (not b) (w, None) (cond e.stopped (cut_short e.world (Unstage v) (w.control.volume v) e.done, Some o) (finished e.world (Unstage v) (w.control.volume v), None))) on
    ∙ ap (λ b. cond b (cut_short e.world (Unstage v) (w.control.volume v) e.done, Some o) (finished e.world (Unstage v) (w.control.volume v), None)) (sym ends.stopped)
    ∙ ap (λ (x : World). (cut_short x (Unstage v) (w.control.volume v) e.done, Some o)) (sym ends.world)
    ∙ ap (λ (x : World). (x, Some o)) (cut-is e.done ∙ sym is)))
  where
    cut-is : (done : Bool) → cut_short u (Unstage v) (w.control.volume v) done ≡ record u { events = u.events ++ Stopped (w.control.volume v).server 0 ∷ [] }
    cut-is true = refl
    cut-is false = refl

module _ (s s' : PlantState) (t : ConfigTable) (r : Rest) (ev : List Event) (v : ℕ) (on : s.on (volume_seen s t v).server ≡ true) where
  abbrev w : World
  w = world_seen s t r ev

  abbrev u : World
  u = world_seen s' t r ev

  abbrev server : ℕ
  server = (volume_seen s t v).server

  up : w.control.on server ≡ true
  up = on-running s server on

  redone : (x : Ended) → redo w v ≡ x → act w (Redo v) ≡ (if x.stopped then (record x.world { events = ev ++ Stopped server 0 ∷ [] }, Some server) else (x.world, None))
  redone x is = act-redo w v ∙ ap (redo_ended w v) is ∙ ap (λ b. cond (not b) (w, None) (cond x.stopped (record x.world { events = ev ++ Stopped server 0 ∷ [] }, Some server) (x.world, None))) up

  -- all was done
  leads-some : (k : ℕ) → EndsAs u false (unstaged (Some k) v (redo w v)) → Leads w (destage_entries (Some k) v) u
  leads-some k =
      redo-cases w v (λ x. redo w v ≡ x → EndsAs u false (unstaged (Some k) v x) → Leads w (destage_entries (Some k) v) u) up
      (λ n is ends armed z q ds more. ends-goes armed z q w (spent w server n) (redo_now v) (now (Unstage v) ∷ ds) (Redo v) refl (redone _ is) (unstage-advances (spent w server n) u v up ends armed z q ds more))
      (λ cut is ends. absurd (false≢true ends.stopped))
      refl

  pub destaged-leads : (k : Option ℕ) → (k ≡ None → s' ≡ s) → EndsAs u false (after_reading s server w (unstaged k v (redo w v))) → Leads w (destage_entries k v) u
  destaged-leads None same ends = λ armed z q ds more. subst (λ x. Ends armed z q x ds) (ap (λ p. world_seen p t r ev) (same refl)) more
  destaged-leads (Some k) same ends = elim (split s server w u false (unstaged (Some k) v (redo w v)) ends) [
    | inl x ↦ leads-some k x
    | inr x ↦ absurd (false≢true x.answer)
  ]

  module _ (mid : List Event) (told : mid ≡ ev ++ Stopped (volume_seen s t v).server 0 ∷ []) where
    abbrev z : World
    z = world_seen s' t r mid

    fails-some : (k : ℕ) → EndsAs u true (unstaged (Some k) v (redo w v)) → Fails (armed_in s) w (destage_entries (Some k) v) z (Some (stopped server))
    fails-some k =
        redo-cases w v (λ x. redo w v ≡ x → EndsAs u true (unstaged (Some k) v x) → Fails (armed_in s) w (destage_entries (Some k) v) z (Some (stopped server))) up
        (λ n is ends ds.
        ends-goes (armed_in s) z (Some (stopped server)) w (spent w server n) (redo_now v) (now (Unstage v) ∷ ds) (Redo v) refl (redone _ is)
        (unstage-halts (armed_in s) (spent w server n) u z v up ends (ap (world_seen s' t r) told) ds))
        (λ cut is ends ds.
        ends-stops (armed_in s) z (Some (stopped server)) w (redo_now v) (now (Unstage v) ∷ ds) (Redo v) server refl
        (redone _ is ∙ ap (λ (y : World). (record y { events = ev ++ Stopped server 0 ∷ [] }, Some server)) (sym ends.world) ∙ ap (λ es. (world_seen s' t r es, Some server)) (sym told)) refl)
        refl

    pub destaged-fails : (k : Option ℕ) → (volume_seen s t v).staged ≡ k → (volume_seen s t v).server < 8 → EndsAs u true (after_reading s server w (unstaged k v (redo w v))) → Fails (armed_in s) w (destage_entries k v) z (Some (stopped server))
    destaged-fails None none low ends ds = elim (split s server w u true (redo w v) ends) [
      | inl x ↦ absurd (false≢true (sym (redo-passes w v up none) ∙ sym x.stopped))
      | inr x ↦ ends-off (armed_in s) z (Some (stopped server)) w ds (shut-off s s' t r ev mid v on low told x)
    ]
    destaged-fails (Some k) some low ends ds = elim (split s server w u true (unstaged (Some k) v (redo w v)) ends) [
      | inl x ↦ fails-some k x ds
      | inr x ↦ ends-off (armed_in s) z (Some (stopped server)) w (destage_entries (Some k) v ++ ds) (shut-off s s' t r ev mid v on low told x)
    ]

-- where none is staged nothing is written
pub none-written : (s s' : PlantState) (t : ConfigTable) (v d : ℕ) (slot : Bool) (f : Fields) → read_and_write s d (destage_writes slot (staged_seen s t v) f) ≡ (s', false) → (volume_seen s t v).staged ≡ None → s' ≡ s
unfolding read_and_write after_writes
none-written s s' t v d slot f written none =
    let bare : read_and_write s d [] ≡ (s', false) = ap (λ k. read_and_write s d (destage_writes slot (track_with k (chosen (s.block (device_of t v)) 5)) f)) (sym none) ∙ written in
    elim (can_read s d) as (λ b. (if b then after_writes s d [] else (after_read s d, true)) ≡ (s', false) → s' ≡ s) [
      | true ↦ λ h. sym (ap (λ (x : PlantState × Bool). x.0) h)
      | false ↦ λ h. absurd (false≢true (sym (ap (λ (x : PlantState × Bool). x.1) h)))
    ] bare

-- the fields stay, and so relationships fit
pub fields-fit : (s : PlantState) (t : ConfigTable) (v : ℕ) → RelationsFit s t → LeavesFit s t v (volume_seen s t v).fields
fields-fit s t v fit = fit-kept s t v (volume_seen s t v).fields fit (λ related. (related, refl)) (fit.apart v)
