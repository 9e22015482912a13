-- The plans that make, end, resynchronise and reverse a relationship are allowed along.
use Rattle.std.proofs.Common.{ℕ, ◌≡◌, inl, inr, refl, ap, sym, ◌∙◌, subst, Bool, true, false, cond, not, ◌<◌, filter, ◌&&◌, ◌||◌, nat_eq, List, [], ◌∷◌, ◌++◌, length, Option, Some, None}
use Rattle.std.proofs.lemmas.List.{append-nil}
use Rattle.std.proofs.lemmas.Bool.{and_parts, and_from, or_parts, not-true, eqb-true, eq-eqb, ltb-true, false≢true, or_right, or_left}
use Rattle.std.proofs.lemmas.Bool.Decides.{eqb_tells}
use Rattle.dr_model.specs.Limits.{most_targets}
use Rattle.dr_model.specs.Layout.{Fields, is_part}
use Rattle.dr_model.specs.Relations.{Choices}
use Rattle.dr_model.specs.Control.{Control, World, is_volume, Fuse, Volume}
use Rattle.dr_model.specs.Moves.{Relate, Withdraw, Resync, Reverse, Move, FlashHold, target, keeps_staged, moved_keeping}
use Rattle.dr_model.specs.Carry.{Entry, Make, Pass, Do, now}
use Rattle.dr_model.specs.PairEntries.{end_if, refuse_if, stands_free}
use Rattle.dr_ids.specs.declared.refusal.Refusal.{Refusal}
use Rattle.dr_model.specs.Entries.{fields_at, copies_from, targets_of, stands_in, is_any, is_running, share_server, share_size, is_no_target, is_no_secondary}
use Rattle.dr_model.specs.Plans.{counted_refusal, restore_refusal, left_by, entries_plan, named_pair, is_defined, is_owner, differ, is_no_source, has_few_targets, is_plain_target, is_recorded_target, is_lone_restore, may_return, make_flash_plan, remove_flash_plan, resync_flash_plan, reverse_flash_plan, hold_first}
use Rattle.dr_model.specs.declared.said.Said.{Said}
use Rattle.dr_model.specs.declared.step.Name.{Name}
use Rattle.dr_model.specs.Table.{table}
use Rattle.dr_model.specs.Laws.{Sound}
use Rattle.dr_model.specs.Allowed.{MayResync, Runs, MayRelate}
use Rattle.dr_laws_sound.proofs.RowsAfter.{idle}
use Rattle.dr_laws_sound.proofs.KeepsSound.{Along, Then, StepHolds, holds-moves, over, decides, moves, checked}
use Rattle.dr_laws_sound.proofs.Counting.{no-target, uncounted, may-go, goes-as}
use Rattle.dr_laws_sound.proofs.CopyFirst.{from, any-has}
use Rattle.dr_logic.proofs.Choices.{chosen, choose_none}
use Rattle.dr_facts.proofs.Relations.{from-copies, copies-from}
use Rattle.dr_logic.proofs.Truth.{false_true}
use Rattle.dr_model.specs.WriteEntries.{flash_hold_on}
use Rattle.dr_model.specs.Views.{source_of}
use Rattle.dr_laws_sound.proofs.Turns.{done, next_of, carried_in}
use Rattle.dr_facts.proofs.Tables.{at_part}
use Rattle.std.proofs.Math.Path.{fun_ext}

-- an entry that ends the plan where there is a refusal
pub refused : (w : World) (why : Control → Option Refusal) (ds : List Entry) → Sound w → (why w.control ≡ None → Along w ds) → Along w (refuse_if why ∷ ds)
refused w why ds s go = decides w (refuse_if why) ds _ refl (by (why w.control) refl)
  where
    by : (o : Option Refusal) → why w.control ≡ o → Then w (end_if o) (λ v. Along v ds)
    by None is = go is
    by (Some r) is = s

-- what a check of two tells that neither holds
pub both-not : (a b : Bool) → (not a && not b) ≡ true → (a ≡ false) × (b ≡ false)
both-not true b h = absurd cc
both-not false true h = absurd cc
both-not false false h = (refl, refl)

-- a plan that begins with nothing told
abbrev pub as_begun : World → World
as_begun w = record w { events = w.events ++ [] }

pub sound-begun : (w : World) → Sound w → Sound (as_begun w)
sound-begun w s = subst (λ es. Sound (record w { events = es })) (sym (append-nil w.events)) s

-- a plan of entries alone
pub holds-entries : (w : World) (entries : List Entry) (said : Said) → Sound w → Along (as_begun w) entries → StepHolds w (entries_plan entries said)
holds-entries w entries said s a = holds-moves w (entries_plan entries said) (sound-begun w s) a (λ q. tt) (λ k i. i)

-- a target's server is its source's
pub runs-target : (w : World) → Sound w → (v u : ℕ) → from w v ≡ Some u → Runs w u → Runs w v
runs-target w s v u h on = ap w.control.on (s.rows.structure.flash v u h).same_server ∙ on

pub runs-source : (w : World) → Sound w → (v u : ℕ) → from w v ≡ Some u → Runs w v → Runs w u
runs-source w s v u h on = ap w.control.on (sym (s.rows.structure.flash v u h).same_server) ∙ on

-- the volumes that a command names are there, and the first one's server is on
pub named : (w : World) → Sound w → (k : Control) (dev : Option Name) (s t : ℕ) (ds : List Entry)
    → (is_volume w.control s ≡ true → is_volume w.control t ≡ true → Runs w s → Along w ds) → Along w (named_pair k dev s t ++ ds)
named w x k dev s t ds go = checked w (is_defined s) _ _ x (λ first. checked w (is_defined t) _ _ x (λ second. checked w (is_owner dev s) _ _ x (λ owner. checked w (is_running s) _ _ x (λ on. go first second on))))

-- a move leaves each volume its server, and what it doesn't change
module _ (w : World) (m : Move) (f : Option Fuse) where
  abbrev pub row : Volume
  row = moved_keeping (keeps_staged m) (w.control.volume (target m)) (next_of w m) (carried_in w m)

  pub runs-done : (v : ℕ) → Runs w v → Runs (done w m f) v
  runs-done v on = ap w.control.on (at_part (λ (x : Volume). x.server) w.control.volume (target m) row refl v) ∙ on

  pub part-same : {X : Type 0} (part : Fields → X) → part (next_of w m) ≡ part (fields_at w.control (target m)) → (v : ℕ) → part (fields_at (done w m f).control v) ≡ part (fields_at w.control v)
  part-same part same v = at_part (λ (x : Volume). part x.fields) w.control.volume (target m) row same v

  pub part-done : (part : Fields → Bool) → part (next_of w m) ≡ part (fields_at w.control (target m)) → (v : ℕ) → part (fields_at w.control v) ≡ true → part (fields_at (done w m f).control v) ≡ true
  part-done part same v is = part-same part same v ∙ is

-- what a target is that may be ended
pub record PlainTarget (w : World) (s t : ℕ) : Type 0 where
  pub related : from w t ≡ Some s
  pub forward : (fields_at w.control t).reversing ≡ false
  pub settled : (fields_at w.control t).revertible ≡ false

pub plain-target : (w : World) (s t : ℕ) → is_plain_target s t w.control ≡ true → PlainTarget w s t
plain-target w s t h =
    let f : Fields = fields_at w.control t in
    let both = and_parts (copies_from s f) _ h in
    let flags = and_parts (not f.revertible) (not f.reversing) both.1 in
    record { related = copies-from s f both.0; forward = not-true f.reversing flags.1; settled = not-true f.revertible flags.0 }

abbrev pub may-resync : (w : World) (s t : ℕ) → is_recorded_target s t w.control ≡ true → MayResync (table w) t
may-resync w s t h =
    let both = and_parts (is_plain_target s t w.control) (fields_at w.control t).recorded h in
    let plain = plain-target w s t both.0 in
    record { from = s; related = plain.related; recorded = both.1; forward = plain.forward; settled = plain.settled }

-- what a new relationship asks of a world
record Relates (w : World) (s t : ℕ) : Type 0 where
  allowed : MayRelate (table w) t s
  on : Runs w t
  from_on : Runs w s
  few : length (targets_of w.control s) < most_targets
  free : (fields_at w.control t).related ≡ false

-- a flash hold of its source changes nothing of it
module _ (w : World) (s t : ℕ) (r : Relates w s t) (f : Option Fuse) where
  abbrev m : Move
  m = FlashHold s

  abbrev k : World
  k = done w m f

  held-same : {X : Type 0} (part : Volume → X) → part (row w m f) ≡ part (w.control.volume s) → (v : ℕ) → part (k.control.volume v) ≡ part (w.control.volume v)
  held-same part same v = at_part part w.control.volume s (row w m f) same v

  relates-held : Relates k s t
  relates-held = record {
    allowed = record {
      apart = r.allowed.apart;
      from_defined = r.allowed.from_defined;
      defined = r.allowed.defined;
      tracks = held-same (λ (x : Volume). x.tracks) refl t ∙ (r.allowed.tracks ∙ sym (held-same (λ (x : Volume). x.tracks) refl s));
      server = held-same (λ (x : Volume). x.server) refl t ∙ (r.allowed.server ∙ sym (held-same (λ (x : Volume). x.server) refl s));
      from_plain = part-same w m f source_of refl s ∙ r.allowed.from_plain;
      plain = part-same w m f source_of refl t ∙ r.allowed.plain;
      no_source = λ u h. r.allowed.no_source u (sym (part-same w m f source_of refl u) ∙ h);
      no_primary = part-same w m f (λ (g : Fields). is_part g.primary) refl t ∙ r.allowed.no_primary;
      no_secondary = part-same w m f (λ (g : Fields). is_part g.secondary) refl t ∙ r.allowed.no_secondary;
    };
    on = runs-done w m f t r.on;
    from_on = runs-done w m f s r.from_on;
    few = subst (λ (test : ℕ → Bool). length (filter test w.control.volumes) < most_targets) (sym (fun_ext (λ u. part-same w m f (copies_from s) refl u))) r.few;
    free = part-same w m f (λ (g : Fields). g.related) refl t ∙ r.free;
  }

-- the relationship is made, after a flash hold where the line asks for one
module _ (s t : ℕ) (choices : Choices) where
  relates : (w : World) → Sound w → Relates w s t → Along w (now (Relate t s choices) ∷ [])
  relates w x r = moves w (Relate t s choices) [] (record { runs = r.on; allowed = r.allowed; fits = r.few; group = no-target w x t r.free; ready = idle w t x.queue r.on }) (λ f j. over _ j)

  establishes : (freeze : Bool) (w : World) → Sound w → Relates w s t → Along w (hold_first freeze s ++ now (Relate t s choices) ∷ [])
  establishes false w x r = relates w x r
  establishes true w x r = decides w (flash_hold_on s) _ _ refl (by (fields_at w.control s).flash_hold)
    where
      by : (b : Bool) → Then w (cond b Pass (Do (Make (FlashHold s)))) (λ k. Along k (now (Relate t s choices) ∷ []))
      by true = relates w x r
      by false = (record { runs = r.from_on; allowed = tt; fits = tt; group = tt; ready = idle w s x.queue r.from_on }, λ f y. relates _ y (relates-held w s t r f))

module _ (w : World) (x : Sound w) where
  abbrev first : World
  first = as_begun w

  abbrev begins : Sound first
  begins = sound-begun w x

  -- who is no source has no target
  sourceless : (t : ℕ) → is_no_source t w.control ≡ true → (u : ℕ) → from w u ≡ Some t → ⊥
  sourceless t free u h =
      let none = (or_parts ((fields_at w.control t).related && true) _ (not-true (stands_in is_any w.control t) free)).1 in
      false≢true (sym none ∙ any-has (λ u. copies_from t (fields_at w.control u)) (λ u. is_any (fields_at w.control u)) u w.control.volumes (x.rows.structure.defined u (chosen _ _ t h).0) (from-copies t (fields_at w.control u) h) refl)

  pub along-flash : (dev : Option Name) (s t : ℕ) (freeze : Bool) (choices : Choices) → Along first (make_flash_plan w.control dev s t freeze choices).entries
  along-flash dev s t freeze choices =
      named first begins w.control dev s t _ (λ there here on.
      checked first (differ s t) _ _ begins (λ apart.
      checked first (share_server s t) _ _ begins (λ server.
      checked first (share_size s t) _ _ begins (λ size.
      checked first (is_no_target t) _ _ begins (λ plain.
      checked first (is_no_source t) _ _ begins (λ free.
      checked first (is_no_target s) _ _ begins (λ from_plain.
      checked first (stands_free t) _ _ begins (λ unpaired.
      checked first (has_few_targets s) _ _ begins (λ few.
      let same : (w.control.volume s).server ≡ (w.control.volume t).server = eqb-true _ _ server in
      let no_part = both-not (is_part (fields_at w.control t).primary) (is_part (fields_at w.control t).secondary) unpaired in
      establishes s t choices freeze first begins (record {
        allowed = record {
          apart = λ e. false_true (not-true (nat_eq s t) apart) (eq-eqb s t e);
          from_defined = there;
          defined = here;
          tracks = sym (eqb-true (w.control.volume s).tracks (w.control.volume t).tracks size);
          server = sym same;
          from_plain = choose_none _ _ (not-true (fields_at w.control s).related from_plain);
          plain = choose_none _ _ (not-true (fields_at w.control t).related plain);
          no_source = λ u h. sourceless t free u h;
          no_primary = no_part.0;
          no_secondary = no_part.1;
        };
        on = ap w.control.on (sym same) ∙ on;
        from_on = on;
        few = ltb-true (length (targets_of w.control s)) most_targets few;
        free = not-true (fields_at w.control t).related plain;
      }))))))))))

  pub holds-flash : (dev : Option Name) (s t : ℕ) (freeze : Bool) (choices : Choices) → StepHolds w (make_flash_plan w.control dev s t freeze choices)
  holds-flash dev s t freeze choices = holds-entries w _ _ x (along-flash dev s t freeze choices)

  pub along-withdraw : (dev : Option Name) (s t : ℕ) → Along first (remove_flash_plan w.control dev s t).entries
  along-withdraw dev s t =
      named first begins w.control dev s t _ (λ there here on.
      refused first (counted_refusal t) _ begins (λ free.
      checked first (is_plain_target s t) _ _ begins (λ target.
      let plain = plain-target first s t target in
      let on_t : Runs first t = runs-target first begins t s plain.related on in
      moves first (Withdraw t) [] (record { runs = on_t; allowed = record { from = s; related = plain.related; forward = plain.forward; settled = plain.settled }; fits = tt; group = uncounted first begins t free plain.settled; ready = idle first t begins.queue on_t }) (λ f j. over _ j))))

  pub holds-withdraw : (dev : Option Name) (s t : ℕ) → StepHolds w (remove_flash_plan w.control dev s t)
  holds-withdraw dev s t = holds-entries w _ _ x (along-withdraw dev s t)

  pub along-resync : (dev : Option Name) (s t : ℕ) (sequence : Option ℕ) → Along first (resync_flash_plan w.control dev s t sequence).entries
  along-resync dev s t sequence =
      named first begins w.control dev s t _ (λ there here on.
      refused first (counted_refusal t) _ begins (λ free.
      checked first (is_recorded_target s t) _ _ begins (λ target.
      let may = may-resync first s t target in
      let on_t : Runs first t = runs-target first begins t s may.related on in
      moves first (Resync t sequence) [] (record { runs = on_t; allowed = may; fits = tt; group = uncounted first begins t free may.settled; ready = idle first t begins.queue on_t }) (λ f j. over _ j))))

  pub holds-resync : (dev : Option Name) (s t : ℕ) (sequence : Option ℕ) → StepHolds w (resync_flash_plan w.control dev s t sequence)
  holds-resync dev s t sequence = holds-entries w _ _ x (along-resync dev s t sequence)

  -- nothing else is restored onto the source
  lone : (s t : ℕ) → (fields_at w.control t).reversing ≡ false → (fields_at w.control t).revertible ≡ false → is_lone_restore s t w.control ≡ true → (u : ℕ) → from w u ≡ Some s
      → ((fields_at w.control u).revertible || (fields_at w.control u).reversing) ≡ true → ⊥
  lone s t forward settled free u h r = elim (eqb_tells u t) [
    | inl is ↦ false_true (λ i. settled i || forward i) (ap (λ j. (fields_at w.control j).revertible || (fields_at w.control j).reversing) (sym is.1) ∙ r)
    | inr ne ↦ false≢true (sym (not-true _ free) ∙ any-has (λ u. copies_from s (fields_at w.control u)) (λ u. not (nat_eq u t) && ((fields_at w.control u).revertible || (fields_at w.control u).reversing)) u w.control.volumes
        (x.rows.structure.defined u (chosen _ _ s h).0) (from-copies s (fields_at w.control u) h) (and_from _ _ (ap not ne.0) r))
  ]

  pub along-reverse : (dev : Option Name) (s t : ℕ) → Along first (reverse_flash_plan w.control dev s t).entries
  along-reverse dev s t =
      named first begins w.control dev s t _ (λ there here on.
      refused first (restore_refusal t) _ begins (λ settled.
      checked first (is_recorded_target s t) _ _ begins (λ target.
      checked first (is_lone_restore s t) _ _ begins (λ free.
      checked first (may_return s) _ _ begins (λ returns.
      let may = may-resync first s t target in
      let on_t : Runs first t = runs-target first begins t s may.related on in
      let alone = lone s t may.forward may.settled free in
      moves first (Reverse t (left_by w.control t)) [] (record {
        runs = on_t;
        allowed = record {
          resync = may;
          settled = λ u h r. alone u h (or_left (fields_at w.control u).revertible _ r);
          free = not-true (is_part (fields_at w.control s).secondary) (and_parts (is_no_secondary s w.control) _ returns).0;
          alone = λ u h r. alone u h (or_right (fields_at w.control u).revertible _ r);
        };
        fits = tt;
        group = (may-go first begins t settled may.settled, goes-as first begins t);
        ready = idle first t begins.queue on_t;
      }) (λ f j. over _ j))))))

  pub holds-reverse : (dev : Option Name) (s t : ℕ) → StepHolds w (reverse_flash_plan w.control dev s t)
  holds-reverse dev s t = holds-entries w _ _ x (along-reverse dev s t)
