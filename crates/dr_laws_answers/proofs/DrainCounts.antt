-- A drain that ends well has sent as many tracks of its volume as it answers.
use Rattle.std.proofs.Common.{ℕ, ◌≡◌, ◌≢◌, ◌+◌, refl, ap, sym, ◌∙◌, arith, Bool, true, false, cond, List, [], ◌∷◌, ◌++◌, length, Option, Some, None}
use Rattle.std.specs.Prelude.{is_some}
use Rattle.std.proofs.lemmas.Bool.{and_parts, eq-eqb, ne_eqb}
use Rattle.dr_model.specs.declared.event.Event.{Event}
use Rattle.dr_model.specs.declared.event.Event.TheVariants.{Sent, Suspended}
use Rattle.dr_model.specs.Layout.{is_part}
use Rattle.dr_model.specs.Pairs.{is_cascaded, is_last, is_suspended}
use Rattle.dr_model.specs.Control.{Volume, World}
use Rattle.dr_model.specs.Moves.{Suspend, Store, told}
use Rattle.dr_model.specs.Carry.{Act, Make, Entry, carry, entries_in}
use Rattle.dr_model.specs.Entries.{fields_at, is_running, copy_first}
use Rattle.dr_model.specs.PairEntries.{reach_refusal, refuse_if, send_refusal, suspend_where, flashed_refusal, held_refusal, store_on, strike_on, send_entries, sends, send_first, feeds, suspend_after, is_copying, tracks_to_send}
use Rattle.dr_model.specs.Plans.{drain_plan, is_defined}
use Rattle.dr_model.specs.Laws.{Sound}
use Rattle.dr_model.specs.Table.{table}
use Rattle.dr_model.specs.Allowed.{Runs}
use Rattle.dr_facts.proofs.Refusals.{none-both}
use Rattle.dr_facts.proofs.Entries.{any_world, any_reason, fine-one, fine-when}
use Rattle.dr_facts.proofs.SharedEntries.{copies-fine, send_first-fine}
use Rattle.dr_logic.proofs.Choices.{choose_some}
use Rattle.dr_laws_cuts.proofs.Still.{no-second}
use Rattle.dr_laws_sound.proofs.FitsDrain.{feeds-joined}
use Rattle.dr_laws_sound.proofs.FitsFlash.{as_begun}
use Rattle.dr_laws_sound.proofs.FitsPairs.{reached}
use Rattle.dr_laws_sound.proofs.Turned.{passed-check, passed-refuse, move-led, nothing-left}
use Rattle.dr_laws_sound.proofs.Turns.{done}
use Rattle.dr_laws_recovery.proofs.Went.{Each, Split, carry-split}
use Rattle.dr_laws_answers.specs.Counts.{count, is_sent_by}
use Rattle.dr_laws_answers.proofs.Told.{Quiet, one-not, one-is, counted-done, quiet-keeps, runs-keeps}

-- volume a sends to b
module _ (a b : ℕ) where
  abbrev is : Event → Bool
  is = is_sent_by a

  abbrev Calm : World → Act → Type 0
  Calm = Quiet is

  suspends : (v : ℕ) (busy : Bool) (u : Volume) → count is (told (Suspend v busy) u) ≡ 0
  suspends v busy u = by (is_suspended u.fields.primary_state)
    where
      by : (c : Bool) → count is (cond c [] (Suspended v ∷ [])) ≡ 0
      by true = refl
      by false = refl

  -- whether or not a is suspended, it can send to b where it isn't refused
  record Sendable (w v : World) (ds : List Entry) : Type 0 where
    world : World
    runs : Runs world b
    counted : count is world.events ≡ count is w.events
    leads : carry world ds ≡ (v, None)

  can-send : (w v : World) (ds : List Entry) → carry w (suspend_where (send_refusal a b) a ∷ refuse_if (send_refusal a b) ∷ ds) ≡ (v, None) → Sendable w v ds
  can-send w v ds leads =
      let d : Entry = suspend_where (send_refusal a b) a in
      let one : Split w v (d ∷ []) (refuse_if (send_refusal a b) ∷ ds) = carry-split w v (d ∷ []) (refuse_if (send_refusal a b) ∷ ds) leads in
      let passed = passed-refuse one.middle v (send_refusal a b) ds one.rest in
      let quiet : Each Calm (d ∷ []) =
      fine-one any_world Calm any_reason d (λ w any. fine-when any_world Calm any_reason w (is_some (send_refusal a b w.control)) (Make (Suspend a false)) (λ so. suspends a false (w.control.volume a))) in
      record {
        world = one.middle;
        runs = reached one.middle a b (none-both (reach_refusal a b one.middle.control) _ passed.0).0;
        counted = quiet-keeps is w one.middle (d ∷ []) quiet one.first;
        leads = passed.1;
      }

  -- the targets of b keep a track, b stores it, and a strikes it off
  record Stored (w v : World) (ds : List Entry) : Type 0 where
    world : World
    counted : count is world.events ≡ count is w.events + 1
    leads : carry world ds ≡ (v, None)

  stored : (volumes : List ℕ) (t : ℕ) (ds : List Entry) (w v : World) → Runs w b → carry w (copy_first volumes b t ++ store_on a b t ∷ strike_on a t ∷ ds) ≡ (v, None) → Stored w v ds
  stored volumes t ds w v on leads =
      let firsts : Each Calm (copy_first volumes b t) = copies-fine any_world Calm any_reason (λ u q w any. refl) (λ u q w any. refl) volumes b t in
      let one : Split w v (copy_first volumes b t) (store_on a b t ∷ strike_on a t ∷ ds) = carry-split w v (copy_first volumes b t) (store_on a b t ∷ strike_on a t ∷ ds) leads in
      let last : Bool = is_last (fields_at one.middle.control a) t in
      let led = move-led one.middle v (store_on a b t) (Store b t a last) (strike_on a t ∷ ds) refl (runs-keeps is b w one.middle (copy_first volumes b t) firsts one.first on) one.rest in
      let k : World = done one.middle (Store b t a last) led.fuse in
      let two : Split k v (strike_on a t ∷ []) ds = carry-split k v (strike_on a t ∷ []) ds led.leads in
      let strikes : Each Calm (strike_on a t ∷ []) = fine-one any_world Calm any_reason (strike_on a t) (λ w any. refl) in
      let p : count is one.middle.events ≡ count is w.events = quiet-keeps is w one.middle (copy_first volumes b t) firsts one.first in
      let q : count is k.events ≡ count is one.middle.events + 1 = counted-done is one.middle (Store b t a last) led.fuse 1 (one-is is (Sent a t b) (eq-eqb a a refl)) in
      let r : count is two.middle.events ≡ count is k.events = quiet-keeps is k two.middle (strike_on a t ∷ []) strikes two.first in
      record { world = two.middle; counted = omega (arith, p, q, r); leads = two.rest }

  sent : (volumes ts : List ℕ) (w v : World) → carry w (sends volumes a b ts) ≡ (v, None) → count is v.events ≡ count is w.events + length ts
  sent volumes [] w v leads = let e : count is w.events ≡ count is v.events = ap (λ (z : World). count is z.events) (nothing-left w v leads) in omega arith
  sent volumes (t ∷ ts) w v leads =
      let one : Split w v (send_entries volumes a b t) (sends volumes a b ts) = carry-split w v (send_entries volumes a b t) (sends volumes a b ts) leads in
      let can = can-send w one.middle _ one.first in
      let free = (passed-refuse can.world one.middle (flashed_refusal b) _ can.leads).1 in
      let has : Stored can.world one.middle [] = stored volumes t [] can.world one.middle can.runs free in
      let p : count is can.world.events ≡ count is w.events = can.counted in
      let q : count is has.world.events ≡ count is can.world.events + 1 = has.counted in
      let r : count is has.world.events ≡ count is one.middle.events = ap (λ (z : World). count is z.events) (nothing-left has.world one.middle has.leads) in
      let rest : count is v.events ≡ count is one.middle.events + length ts = sent volumes ts one.middle v one.rest in
      omega arith

  -- b is cascaded: what a track was there goes to c first
  fed : b ≢ a → (c : ℕ) (volumes ts : List ℕ) (w v : World) → carry w (entries_in (feeds volumes a b c ts)) ≡ (v, None) → count is v.events ≡ count is w.events + length ts
  fed ne c volumes [] w v leads = let e : count is w.events ≡ count is v.events = ap (λ (z : World). count is z.events) (nothing-left w v leads) in omega arith
  fed ne c volumes (t ∷ ts) w v leads =
      let can = can-send w v _ (sym (ap (carry w) (feeds-joined volumes a b c t ts)) ∙ leads) in
      let free = (passed-refuse can.world v (held_refusal b) _ (passed-refuse can.world v (flashed_refusal b) _ can.leads).1).1 in
      let moves : List Entry = copy_first volumes b t ++ store_on a b t ∷ strike_on a t ∷ entries_in (feeds volumes a b c ts) in
      let firsts : Each Calm (send_first volumes b c t) =
      send_first-fine any_world Calm any_reason (λ u q w any. refl) (λ u q w any. refl) volumes b c t (λ w any. suspends b false (w.control.volume b))
      (λ last w any so. one-not is (Sent b t c) (ne_eqb b a ne)) (λ last w any. refl) in
      let one : Split can.world v (send_first volumes b c t) moves = carry-split can.world v (send_first volumes b c t) moves free in
      let has : Stored one.middle v (entries_in (feeds volumes a b c ts)) =
      stored volumes t (entries_in (feeds volumes a b c ts)) one.middle v (runs-keeps is b can.world one.middle (send_first volumes b c t) firsts one.first can.runs) one.rest in
      let p : count is can.world.events ≡ count is w.events = can.counted in
      let o : count is one.middle.events ≡ count is can.world.events = quiet-keeps is can.world one.middle (send_first volumes b c t) firsts one.first in
      let q : count is has.world.events ≡ count is one.middle.events + 1 = has.counted in
      let rest : count is v.events ≡ count is has.world.events + length ts = fed ne c volumes ts has.world v has.leads in
      omega arith

pub drain-counts : (w : World) → Sound w → (a : ℕ) (most : Option ℕ) (u : World) → carry (as_begun w) (drain_plan w.control a most).entries ≡ (u, None)
    → count (is_sent_by a) u.events ≡ count (is_sent_by a) (as_begun w).events + length (tracks_to_send most (w.control.volume a).tracks (fields_at w.control a).out_of_sync)
drain-counts w s a most u leads =
    let first : World = as_begun w in
    let there = passed-check first u (is_defined a) _ _ leads in
    let on = passed-check first u (is_running a) _ _ there.1 in
    let copying = passed-check first u (is_copying a) _ _ on.1 in
    let ts : List ℕ = tracks_to_send most (w.control.volume a).tracks (fields_at w.control a).out_of_sync in
    let b : ℕ = (fields_at w.control a).primary_partner in
    let first_part : is_part (fields_at w.control a).primary ≡ true = (and_parts (is_part (fields_at w.control a).primary) _ copying.0).0 in
    let ne : b ≢ a = λ e. no-second (table w) s.rows a (choose_some _ b first_part ∙ ap (λ j. Some j) e) in
    by first b ts ne (is_cascaded (fields_at w.control b)) copying.1
  where
    by : (first : World) (b : ℕ) (ts : List ℕ) → b ≢ a → (c : Bool)
        → carry first (entries_in (cond c (feeds w.control.volumes a b (fields_at w.control b).primary_partner ts) (record { entries = sends w.control.volumes a b ts; follows = suspend_after a } ∷ []))) ≡ (u, None)
        → count (is_sent_by a) u.events ≡ count (is_sent_by a) first.events + length ts
    by first b ts ne true leads = fed a b ne (fields_at w.control b).primary_partner w.control.volumes ts first u leads
    by first b ts ne false leads = sent a b w.control.volumes ts first u leads
