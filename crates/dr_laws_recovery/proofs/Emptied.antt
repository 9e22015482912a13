-- A drain of all tracks that ends well leaves nothing out of sync, also where its pair is Full Duplex then.
use Rattle.std.proofs.Common.{ℕ, zero, suc, ◌≡◌, ◌≢◌, ◌<◌, ◌+◌, inl, inr, refl, ap, sym, ◌∙◌, subst, true, false, cond, not, arith, List, [], ◌∷◌, Option, Some, None, Bool, ◌++◌}
use Rattle.std.specs.Prelude.{is_some}
use Rattle.std.specs.Option.{option_or}
use Rattle.std.specs.FinSet.{contains, remove}
use Rattle.std.specs.List.{range_with_len}
use Rattle.std.proofs.lemmas.Bool.{and_parts}
use Rattle.std.proofs.lemmas.Bool.Decides.{eqb_tells}
use Rattle.dr_ids.specs.declared.refusal.Refusal.{Refusal}
use Rattle.dr_ids.specs.declared.refusal.Kind.TheVariants.{Path as OfPath}
use Rattle.dr_model.specs.Refusals.{unknown, server_off}
use Rattle.dr_model.specs.Layout.{Tracks, Fields, is_part}
use Rattle.dr_model.specs.Relations.{in_order}
use Rattle.dr_model.specs.Pairs.{is_secondary_of, is_last, is_cascaded, secondary_of}
use Rattle.dr_model.specs.Control.{Control, Fuse, Volume, World}
use Rattle.dr_model.specs.Moves.{Move, Keep, Note, Store, Strike, Suspend}
use Rattle.dr_model.specs.Carry.{Act, Make, Pass, Do, Entry, carry, entries_in}
use Rattle.dr_model.specs.Entries.{fields_at, is_running, copy_first, secondary_state}
use Rattle.dr_model.specs.PairEntries.{link_down, has_path, reach_refusal, belongs_to, refuse_if, send_refusal, suspend_where, flashed_refusal, store_on, strike_on, send_entries, sends, is_copying, held_refusal, send_first, feeds, suspend_after}
use Rattle.dr_model.specs.Plans.{drain_plan, is_defined}
use Rattle.dr_model.specs.Groups.{In}
use Rattle.dr_model.specs.Laws.{Sound}
use Rattle.dr_model.specs.Table.{table}
use Rattle.dr_model.specs.Allowed.{Runs}
use Rattle.dr_model.proofs.CarryLemmas.{carry-skips}
use Rattle.dr_facts.proofs.Refusals.{none-both, met}
use Rattle.dr_facts.proofs.Sets.{not_removed}
use Rattle.dr_facts.proofs.Lists.{to-filter}
use Rattle.dr_facts.proofs.Tables.{IsOrNot, at_part}
use Rattle.dr_model.proofs.LawfulLemmas.{removed}
use Rattle.dr_laws_sound.specs.Turning.{Leaves}
use Rattle.dr_laws_sound.proofs.Turns.{done, after_act}
use Rattle.dr_laws_sound.proofs.FitsFlash.{as_begun, sound-begun}
use Rattle.dr_laws_sound.proofs.FitsPairs.{row, runs-done, part-same, its-first}
use Rattle.dr_laws_sound.proofs.FitsDrain.{along-drain, feeds-joined}
use Rattle.dr_laws_sound.proofs.CopyFirst.{unturned}
use Rattle.dr_laws_sound.proofs.Turned.{passed-check, passed-refuse, move-led, nothing-left, sound-led, pair-equal}
use Rattle.dr_facts.proofs.Entries.{any_world, any_reason, fine-one}
use Rattle.dr_facts.proofs.SharedEntries.{copies-fine, send_first-fine}
use Rattle.dr_laws_recovery.proofs.Went.{carry-keeps, Split, carry-split}
use Rattle.dr_laws_recovery.specs.Emptied.{IsEmptied, EqualAfter}
use Rattle.dr_logic.proofs.Truth.{false_true}
use Rattle.dr_logic.proofs.Options.{none_some}
use Rattle.dr_logic.proofs.Tables.{at_same, at_other}
use Rattle.dr_logic.proofs.Choices.{choose_some}
use Rattle.dr_laws_cuts.proofs.Still.{no-second}
use Rattle.dr_laws_sound.proofs.FitsCollide.{third-apart}

-- the tracks of a set are in it in order
in-range : (n b q : ℕ) → b < q + 1 → q < b + n → In q (range_with_len b n)
in-range zero b q above below = absurd (omega (arith, above, below))
in-range (suc n) b q above below = by (eqb_tells q b) (λ ne. in-range n (b + 1) q (omega (arith, ne, above)) (omega (arith, below)))
  where
    by : IsOrNot q b → (q ≢ b → In q (range_with_len (b + 1) n)) → In q (range_with_len b (suc n))
    by (inl is) further = inl is.1
    by (inr other) further = inr (further other.1)

in-in_order : (n : ℕ) (s : Tracks) (q : ℕ) → q < n → contains s q ≡ true → In q (in_order n s)
unfolding in_order
in-in_order n s q low here = to-filter (contains s) (range_with_len 0 n) q (in-range n 0 q (omega arith) (omega (arith, low))) here

-- moves that leave what is out of sync on a
abbrev Stays : ℕ → Move → Type 0
Stays a (Keep v t) = Unit {0}
Stays a (Note v t) = Unit {0}
Stays a (Store v t u last) = a ≢ v
Stays a (Strike v t last) = a ≢ v
Stays a (Suspend v busy) = a ≢ v
Stays a m = ⊥

abbrev Ok : ℕ → World → Act → Type 0
Ok a w (Make m) = Stays a m
Ok a w x = ⊥

module _ (a b : ℕ) where
  -- the server of a is on, and what is out of sync there is one of these tracks
  record Leaving (ts : List ℕ) (w : World) : Type 0 where
    runs : Runs w a
    rest : (q : ℕ) → contains (fields_at w.control a).out_of_sync q ≡ true → In q ts

  same-out : (w : World) (m : Move) (f : Option Fuse) → Stays a m → (fields_at (done w m f).control a).out_of_sync ≡ (fields_at w.control a).out_of_sync
  same-out w (Keep v t) f is = part-same w (Keep v t) f (λ (g : Fields). g.out_of_sync) refl a
  same-out w (Note v t) f is = part-same w (Note v t) f (λ (g : Fields). g.out_of_sync) refl a
  same-out w (Store v t u last) f is = ap (λ (y : Volume). y.fields.out_of_sync) (at_other w.control.volume v (row w (Store v t u last) f) a is)
  same-out w (Strike v t last) f is = ap (λ (y : Volume). y.fields.out_of_sync) (at_other w.control.volume v (row w (Strike v t last) f) a is)
  same-out w (Suspend v busy) f is = ap (λ (y : Volume). y.fields.out_of_sync) (at_other w.control.volume v (row w (Suspend v busy) f) a is)
  same-out w m f is = absurd is

  leaving-act : (ts : List ℕ) (w : World) (x : Act) (f : Option Fuse) → Ok a w x → Leaving ts w → Leaving ts (after_act w x f)
  leaving-act ts w (Make m) f is old = record { runs = runs-done w m f a old.runs; rest = λ q h. old.rest q (sym (ap (λ s. contains s q) (same-out w m f is)) ∙ h) }
  leaving-act ts w x f is old = absurd is

  -- a suspension leaves why a track can't be sent, so the plan ends behind it
  module _ (w : World) (f : Option Fuse) where
    abbrev m : Move
    m = Suspend a false

    abbrev k : Control
    k = (done w m f).control

    reach-by : ℕ → ℕ → Option Refusal
    reach-by p q =
        cond (not (has_path a b w.control)) (Some (unknown OfPath)) (cond (not (w.control.on q)) (Some (server_off q)) (cond (not (w.control.link p q)) (Some (link_down p q)) None))

    still-reach : reach_refusal a b k ≡ reach_refusal a b w.control
    unfolding reach-by
    still-reach = λ i. reach-by (at_part (λ (y : Volume). y.server) w.control.volume a (row w m f) refl a i) (at_part (λ (y : Volume). y.server) w.control.volume a (row w m f) refl b i)

    still-sends : send_refusal a b k ≡ None → send_refusal a b w.control ≡ None
    still-sends h =
        let parts = none-both (reach_refusal a b k) _ h in
        let belongs : belongs_to a b w.control ≡ true = sym (part-same w m f (is_secondary_of a) refl b) ∙ met (belongs_to a b k) (secondary_state k b) parts.1 in
        ap (λ o. option_or o (cond (belongs_to a b w.control) None (Some (secondary_state w.control b)))) (sym still-reach ∙ parts.0)
        ∙ ap (λ c. cond c None (Some (secondary_state w.control b))) belongs

  -- so a send that isn't refused finds the secondary in place and reached
  pub record Sendable (w v : World) (ds : List Entry) : Type 0 where
    pub free : send_refusal a b w.control ≡ None
    pub leads : carry w ds ≡ (v, None)

  pub can-send : (w v : World) (ds : List Entry) → Runs w a → carry w (suspend_where (send_refusal a b) a ∷ refuse_if (send_refusal a b) ∷ ds) ≡ (v, None) → Sendable w v ds
  can-send w v ds on leads = by (send_refusal a b w.control) refl
    where
      d : Entry
      d = suspend_where (send_refusal a b) a

      comes : (o : Option Refusal) → send_refusal a b w.control ≡ o → d w.control ≡ cond (is_some o) (Do (Make (Suspend a false))) Pass
      comes o is = ap (λ o. cond (is_some o) (Do (Make (Suspend a false))) Pass) is

      by : (o : Option Refusal) → send_refusal a b w.control ≡ o → Sendable w v ds
      by None is = record { free = is; leads = (passed-refuse w v (send_refusal a b) ds (sym (carry-skips w d (refuse_if (send_refusal a b) ∷ ds) (comes None is)) ∙ leads)).1 }
      by (Some r) is =
          let led = move-led w v d (Suspend a false) (refuse_if (send_refusal a b) ∷ ds) (comes (Some r) is) on leads in
          none_some (still-sends w led.fuse (passed-refuse (done w (Suspend a false) led.fuse) v (send_refusal a b) ds led.leads).0) is

  -- a track is struck off
  struck-left : (t : ℕ) (ts : List ℕ) (w v : World) → carry w (strike_on a t ∷ []) ≡ (v, None) → Leaving (t ∷ ts) w → Leaving ts v
  struck-left t ts w v leads old =
      let n : Move = Strike a t (is_last (fields_at w.control a) t) in
      let led = move-led w v (strike_on a t) n [] refl old.runs leads in
      subst (Leaving ts) (nothing-left _ v led.leads) (record { runs = runs-done w n led.fuse a old.runs; rest = λ q h. by q (sym (ap (λ (y : Volume). contains y.fields.out_of_sync q) (at_same w.control.volume a (row w n led.fuse))) ∙ h) })
    where
      by : (q : ℕ) → contains (remove (fields_at w.control a).out_of_sync t) q ≡ true → In q ts
      by q h = one (old.rest q (removed (fields_at w.control a).out_of_sync t q h))
        where
          one : In q (t ∷ ts) → In q ts
          one (inl is) = false_true (ap (contains (remove (fields_at w.control a).out_of_sync t)) is ∙ not_removed (fields_at w.control a).out_of_sync t) h
          one (inr there) = there

  -- the targets of b keep it, b stores it, and it is struck off
  record Stored (ts : List ℕ) (v : World) (ds : List Entry) : Type 0 where
    middle : World
    left : Leaving ts middle
    rest : carry middle ds ≡ (v, None)

  stored-left : a ≢ b → (volumes : List ℕ) (t : ℕ) (ts : List ℕ) (ds : List Entry) (w v : World) → carry w (copy_first volumes b t ++ store_on a b t ∷ strike_on a t ∷ ds) ≡ (v, None) → Leaving (t ∷ ts) w → Stored ts v ds
  stored-left ne volumes t ts ds w v leads old =
      let one : Split w v (copy_first volumes b t) (store_on a b t ∷ strike_on a t ∷ ds) = carry-split w v (copy_first volumes b t) (store_on a b t ∷ strike_on a t ∷ ds) leads in
      let two : Split one.middle v (store_on a b t ∷ []) (strike_on a t ∷ ds) = carry-split one.middle v (store_on a b t ∷ []) (strike_on a t ∷ ds) one.rest in
      let three : Split two.middle v (strike_on a t ∷ []) ds = carry-split two.middle v (strike_on a t ∷ []) ds two.rest in
      let kept = carry-keeps (Ok a) (Leaving (t ∷ ts)) (leaving-act (t ∷ ts)) w one.middle (copy_first volumes b t) (copies-fine any_world (Ok a) any_reason (λ u t w any. tt) (λ u t w any. tt) volumes b t) one.first old in
      let stored = carry-keeps (Ok a) (Leaving (t ∷ ts)) (leaving-act (t ∷ ts)) one.middle two.middle (store_on a b t ∷ []) (fine-one any_world (Ok a) any_reason (store_on a b t) (λ w any. ne)) two.first kept in
      record { middle = three.middle; left = struck-left t ts two.middle three.middle three.first stored; rest = three.rest }

  sent-left : a ≢ b → (volumes : List ℕ) (ts : List ℕ) (w v : World) → carry w (sends volumes a b ts) ≡ (v, None) → Leaving ts w → Leaving [] v
  sent-left ne volumes [] w v leads old = subst (Leaving []) (nothing-left w v leads) old
  sent-left ne volumes (t ∷ ts) w v leads old =
      let one : Split w v (send_entries volumes a b t) (sends volumes a b ts) = carry-split w v (send_entries volumes a b t) (sends volumes a b ts) leads in
      let free = (passed-refuse w one.middle (flashed_refusal b) _ (can-send w one.middle _ old.runs one.first).leads).1 in
      let stored : Stored ts one.middle [] = stored-left ne volumes t ts [] w one.middle free old in
      sent-left ne volumes ts one.middle v one.rest (subst (Leaving ts) (nothing-left stored.middle one.middle stored.rest) stored.left)

  -- b is cascaded: what a track was there goes to c first
  fed-left : a ≢ b → (c : ℕ) → a ≢ c → (volumes : List ℕ) (ts : List ℕ) (w v : World) → carry w (entries_in (feeds volumes a b c ts)) ≡ (v, None) → Leaving ts w → Leaving [] v
  fed-left ne c apart volumes [] w v leads old = subst (Leaving []) (nothing-left w v leads) old
  fed-left ne c apart volumes (t ∷ ts) w v leads old =
      let joined = can-send w v _ old.runs (sym (ap (carry w) (feeds-joined volumes a b c t ts)) ∙ leads) in
      let free = (passed-refuse w v (held_refusal b) _ (passed-refuse w v (flashed_refusal b) _ joined.leads).1).1 in
      let moves : List Entry = copy_first volumes b t ++ store_on a b t ∷ strike_on a t ∷ entries_in (feeds volumes a b c ts) in
      let one : Split w v (send_first volumes b c t) moves = carry-split w v (send_first volumes b c t) moves free in
      let passed = carry-keeps (Ok a) (Leaving (t ∷ ts)) (leaving-act (t ∷ ts)) w one.middle (send_first volumes b c t)
      (send_first-fine any_world (Ok a) any_reason (λ u t w any. tt) (λ u t w any. tt) volumes b c t (λ w any. ne) (λ last w any so. apart) (λ last w any. ne)) one.first old in
      let stored : Stored ts v (entries_in (feeds volumes a b c ts)) = stored-left ne volumes t ts (entries_in (feeds volumes a b c ts)) one.middle v one.rest passed in
      fed-left ne c apart volumes ts stored.middle v stored.rest stored.left

  -- it is the secondary of another volume than a
  third-left : a ≢ b → (c : ℕ) (volumes : List ℕ) (ts : List ℕ) (w v : World) → Sound w → secondary_of (fields_at w.control b) ≡ Some c → carry w (entries_in (feeds volumes a b c ts)) ≡ (v, None) → Leaving ts w → Leaving [] v
  third-left ne c volumes [] w v s third leads old = subst (Leaving []) (nothing-left w v leads) old
  third-left ne c volumes (t ∷ ts) w v s third leads old =
      let joined = can-send w v _ old.runs (sym (ap (carry w) (feeds-joined volumes a b c t ts)) ∙ leads) in
      let belongs : belongs_to a b w.control ≡ true = met (belongs_to a b w.control) (secondary_state w.control b) (none-both (reach_refusal a b w.control) _ joined.free).1 in
      let takes = its-first a (fields_at w.control b) belongs in
      fed-left ne c (λ e. third-apart w s a b c takes third (sym e)) volumes (t ∷ ts) w v leads old

module _ (w : World) (s : Sound w) (a : ℕ) where
  pub drain-empties : Leaves (λ u. IsEmptied u a) w (drain_plan w.control a None)
  drain-empties u leads t =
      let first : World = as_begun w in
      let there = passed-check first u (is_defined a) _ _ leads in
      let on = passed-check first u (is_running a) _ _ there.1 in
      let copying = passed-check first u (is_copying a) _ _ on.1 in
      let ts : List ℕ = in_order (w.control.volume a).tracks (fields_at w.control a).out_of_sync in
      let b : ℕ = (fields_at w.control a).primary_partner in
      let first_part : is_part (fields_at w.control a).primary ≡ true = (and_parts (is_part (fields_at w.control a).primary) _ copying.0).0 in
      let ne : a ≢ b = λ e. no-second (table w) s.rows a (choose_some _ b first_part ∙ ap (λ j. Some j) (sym e)) in
      let old : Leaving a b ts first = record { runs = on.0; rest = λ q h. in-in_order (w.control.volume a).tracks (fields_at w.control a).out_of_sync q ((s.rows.structure.lawful a).sets.out_of_sync_low q h) h } in
      let left = by first (sound-begun w s) b ts ne (is_cascaded (fields_at w.control b)) refl copying.1 old in
      unturned (contains (fields_at u.control a).out_of_sync t) (λ h. left.rest t h)
    where
      by : (first : World) → Sound first → (b : ℕ) (ts : List ℕ) → a ≢ b → (c : Bool) → is_cascaded (fields_at first.control b) ≡ c
          → carry first (entries_in (cond c (feeds w.control.volumes a b (fields_at first.control b).primary_partner ts) (record { entries = sends w.control.volumes a b ts; follows = suspend_after a } ∷ []))) ≡ (u, None) → Leaving a b ts first → Leaving a b [] u
      by first x b ts ne true is leads old = third-left a b ne (fields_at first.control b).primary_partner w.control.volumes ts first u x (choose_some _ _ (and_parts (is_part (fields_at first.control b).primary) _ is).0) leads old
      by first x b ts ne false is leads old = sent-left a b ne w.control.volumes ts first u leads old

  pub drain-equals : (y : ℕ) → Leaves (λ u. EqualAfter u a y) w (drain_plan w.control a None)
  drain-equals y u leads idle leads-to follows t lt =
      let sound : Sound u = sound-led (as_begun w) u (drain_plan w.control a None).entries (sound-begun w s) (along-drain w s a None) leads in
      pair-equal u sound a y leads-to follows t lt (drain-empties u leads t) ((sound.rows.recorders a).none idle t)
