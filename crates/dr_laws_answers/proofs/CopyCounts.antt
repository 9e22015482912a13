-- A copy that ends well has copied, or given back, as many tracks as it answers.
use Rattle.std.proofs.Common.{ℕ, zero, suc, ◌≡◌, ◌≢◌, ◌≤◌, ◌<◌, ◌+◌, ◌-◌, ◌⊎◌, inl, inr, refl, ap, sym, ◌∙◌, subst, arith, rules, Bool, true, false, cond, not, ◌&&◌, List, [], ◌∷◌, map, length, slice_get, Option, Some, None}
use Rattle.std.specs.FinSet.{contains, insert, remove, empty, len, len-remove, members, same_set, nat_cmp-IsAntisymmetric}
use Rattle.std.specs.Cmp.{nat_cmp_total, unsigned_tied}
use Rattle.std.proofs.lemmas.Bool.{and_parts, eq-eqb, eqb-true, not-true}
use Rattle.std.proofs.lemmas.Bool.Decides.{nat_tests, eqb_tells}
use Rattle.std.proofs.Math.Nat.{min-le_right}
use Rattle.dr_model.specs.declared.event.Event.{Event}
use Rattle.dr_model.specs.declared.event.Event.TheVariants.{Copied, Back}
use Rattle.dr_model.specs.Layout.{Tracks, Fields}
use Rattle.dr_model.specs.Relations.{rest, lowest, in_order, is_whole, is_bare, all_tracks, given_up, restored}
use Rattle.dr_model.specs.Control.{Fuse, Volume, World}
use Rattle.dr_model.specs.Moves.{Move, Keep, Note, Fetch, Restore, Release, target, told}
use Rattle.dr_model.specs.Carry.{Act, Make, Pass, Do, Entry, carry, now}
use Rattle.dr_model.specs.Entries.{fields_at, is_running, copies_from, keep_if, keep_on, times, on_found, lowest_held, fetch_next, for_lowest, give_back}
use Rattle.dr_model.specs.Plans.{copy_plan, may_copy, may_give_back, at_most, left_to_copy, is_defined}
use Rattle.dr_model.specs.Laws.{Sound}
use Rattle.dr_model.specs.Allowed.{Runs}
use Rattle.dr_model.proofs.LawfulLemmas.{removed}
use Rattle.dr_facts.proofs.Emits.{Tag, Of, Backs}
use Rattle.dr_facts.proofs.Entries.{any_world, any_reason, Fine, fine-map, fine-found, fine-if}
use Rattle.dr_facts.proofs.Sets.{in_rest, insert_other, remove_other, not_removed, rest_low, low_all, whole_has}
use Rattle.dr_facts.proofs.Tables.{IsOrNot}
use Rattle.dr_logic.proofs.Choices.{choose_some}
use Rattle.dr_logic.proofs.Options.{none_some}
use Rattle.dr_logic.proofs.Tables.{at_same, at_other}
use Rattle.dr_logic.proofs.Truth.{false_true}
use Rattle.dr_laws_sound.proofs.CopyFirst.{from}
use Rattle.dr_laws_sound.proofs.FitsCopy.{lowest-in}
use Rattle.dr_laws_sound.proofs.FitsFlash.{as_begun, sound-begun, runs-source}
use Rattle.dr_laws_sound.proofs.FitsPairs.{row, runs-done}
use Rattle.dr_laws_sound.proofs.Spends.{len-low}
use Rattle.dr_laws_sound.proofs.Turned.{passed-check, move-led, nothing-left}
use Rattle.dr_laws_sound.proofs.Turns.{done, after_act}
use Rattle.dr_laws_recovery.proofs.Went.{Each, Split, carry-keeps, carry-split}
use Rattle.dr_laws_return.proofs.Counts.{length-in_order}
use Rattle.dr_laws_answers.specs.Counts.{count, is_copied_to, is_back_from}
use Rattle.dr_laws_answers.proofs.Told.{one-is, none-of, counted-done}

-- ---- sets of tracks

inserted : (s : Tracks) (t : ℕ) → contains (insert s t) t ≡ true
inserted s t = grind (members, rules, nat_tests, unsigned_tied)

-- the tracks that a target doesn't hold, when it holds one more
rest-less : (n : ℕ) (own : Tracks) (q : ℕ) → rest n (insert own q) ≡ remove (rest n own) q
rest-less n own q = same_set nat_cmp_total nat_cmp-IsAntisymmetric (rest n (insert own q)) (remove (rest n own) q) (λ z. by z (eqb_tells z q))
  where
    by : (z : ℕ) → IsOrNot z q → contains (rest n (insert own q)) z ≡ contains (remove (rest n own) q) z
    by z (inl is) =
        subst (λ z. contains (rest n (insert own q)) z ≡ contains (remove (rest n own) q) z) (sym is.1)
        (in_rest n (insert own q) q ∙ (λ i. contains (all_tracks n) q && not (inserted own q i)) ∙ nothing (contains (all_tracks n) q) ∙ sym (not_removed (rest n own) q))
      where
        nothing : (b : Bool) → (b && false) ≡ false
        nothing true = refl
        nothing false = refl
    by z (inr other) = in_rest n (insert own q) z ∙ (λ i. contains (all_tracks n) z && not (insert_other own q z other.1 i)) ∙ sym (in_rest n own z) ∙ sym (remove_other (rest n own) q z other.1)

one-less : (s : Tracks) (q : ℕ) → contains s q ≡ true → len (remove s q) ≡ len s - 1
one-less s q has = len-remove nat_cmp_total s q ∙ ap (λ b. cond b (len s - 1) (len s)) has

-- who holds all lacks none
whole-rest : (n : ℕ) (own : Tracks) → is_whole n own ≡ true → len (rest n own) ≤ 0
whole-rest n own whole =
    len-low 0 (rest n own)
    (λ q h.
    let both = and_parts (contains (all_tracks n) q) _ (sym (in_rest n own q) ∙ h) in
    false_true (not-true (contains own q) both.1) (whole_has n own q whole (low_all n q both.0)))

no-first : (xs : List ℕ) → slice_get xs 0 ≡ None → length xs ≡ 0
no-first [] h = refl
no-first (x ∷ xs) h = absurd cc

none-lowest : (n : ℕ) (s : Tracks) → ((q : ℕ) → contains s q ≡ true → q < n) → lowest n s ≡ None → len s ≡ 0
none-lowest n s low none = sym (length-in_order n s low) ∙ no-first (in_order n s) none

-- ---- tracks that target t takes of its source

module _ (t : ℕ) where
  -- how many it lacks
  abbrev lacks : Volume → ℕ
  lacks y = cond y.fields.related (len (rest y.tracks y.fields.own)) 0

  fetched-lacks : (n : ℕ) (y : Volume) (q : ℕ) → y.fields.related ≡ true → contains (rest y.tracks y.fields.own) q ≡ true → suc n ≤ len (rest y.tracks y.fields.own)
      → (e : Bool) → (is_whole y.tracks (insert y.fields.own q) && not y.fields.persistent) ≡ e → n ≤ cond (cond e false y.fields.related) (len (rest y.tracks (cond e empty (insert y.fields.own q)))) 0
  fetched-lacks n y q related missing enough true is =
      let none : len (rest y.tracks (insert y.fields.own q)) ≤ 0 = whole-rest y.tracks (insert y.fields.own q) (and_parts (is_whole y.tracks (insert y.fields.own q)) _ is).0 in
      let less : len (rest y.tracks (insert y.fields.own q)) ≡ len (rest y.tracks y.fields.own) - 1 = ap len (rest-less y.tracks y.fields.own q) ∙ one-less (rest y.tracks y.fields.own) q missing in
      omega (arith, none, less, enough)
  fetched-lacks n y q related missing enough false is =
      let less : len (rest y.tracks (insert y.fields.own q)) ≡ len (rest y.tracks y.fields.own) - 1 = ap len (rest-less y.tracks y.fields.own q) ∙ one-less (rest y.tracks y.fields.own) q missing in
      let le : n ≤ len (rest y.tracks (insert y.fields.own q)) = omega (arith, less, enough) in
      subst (λ r. n ≤ cond r (len (rest y.tracks (insert y.fields.own q))) 0) (sym related) le

  fetches : (n : ℕ) (w v : World) → carry w (times n (fetch_next t ∷ [])) ≡ (v, None) → Runs w t → n ≤ lacks (w.control.volume t) → count (is_copied_to t) v.events ≡ count (is_copied_to t) w.events + n
  fetches zero w v leads on enough = let e : count (is_copied_to t) w.events ≡ count (is_copied_to t) v.events = ap (λ (z : World). count (is_copied_to t) z.events) (nothing-left w v leads) in omega (arith, e)
  fetches (suc n) w v leads on enough = by (w.control.volume t).fields.related refl _ refl (λ k h r l. fetches n k v h r l)
    where
      y : Volume
      y = w.control.volume t

      by : (r : Bool) → y.fields.related ≡ r → (o : Option ℕ) → cond r (lowest y.tracks (rest y.tracks y.fields.own)) None ≡ o
          → ((k : World) → carry k (times n (fetch_next t ∷ [])) ≡ (v, None) → Runs k t → n ≤ lacks (k.control.volume t) → count (is_copied_to t) v.events ≡ count (is_copied_to t) k.events + n)
          → count (is_copied_to t) v.events ≡ count (is_copied_to t) w.events + suc n
      by false ir o io more = absurd (let z : lacks y ≡ 0 = ap (λ r. cond r (len (rest y.tracks y.fields.own)) 0) ir in omega (arith, z, enough))
      by true ir None io more =
          absurd (
          let z : lacks y ≡ len (rest y.tracks y.fields.own) = ap (λ r. cond r (len (rest y.tracks y.fields.own)) 0) ir in
          let none : len (rest y.tracks y.fields.own) ≡ 0 = none-lowest y.tracks (rest y.tracks y.fields.own) (rest_low y.tracks y.fields.own) io in
          omega (arith, z, none, enough)
          )
      by true ir (Some q) io more =
          let z : lacks y ≡ len (rest y.tracks y.fields.own) = ap (λ r. cond r (len (rest y.tracks y.fields.own)) 0) ir in
          let missing : contains (rest y.tracks y.fields.own) q ≡ true = lowest-in y.tracks (rest y.tracks y.fields.own) q io in
          let is : fetch_next t w.control ≡ Do (Make (Fetch t q)) =
          ap (λ r. on_found (cond r (lowest y.tracks (rest y.tracks y.fields.own)) None) (λ q. now (Fetch t q)) w.control) ir ∙ ap (λ o. on_found o (λ q. now (Fetch t q)) w.control) io in
          let led = move-led w v (fetch_next t) (Fetch t q) (times n (fetch_next t ∷ [])) is on leads in
          let k : World = done w (Fetch t q) led.fuse in
          let left : n ≤ lacks (k.control.volume t) =
          subst (λ (y : Volume). n ≤ lacks y) (sym (at_same w.control.volume t (row w (Fetch t q) led.fuse)))
          (fetched-lacks n y q ir missing (omega (arith, z, enough)) (is_whole y.tracks (insert y.fields.own q) && not y.fields.persistent) refl) in
          let one : count (is_copied_to t) k.events ≡ count (is_copied_to t) w.events + 1 = counted-done (is_copied_to t) w (Fetch t q) led.fuse 1 (one-is (is_copied_to t) (Copied t q) (eq-eqb t t refl)) in
          let all : count (is_copied_to t) v.events ≡ count (is_copied_to t) k.events + n = more k led.leads (runs-done w (Fetch t q) led.fuse t on) left in
          omega (arith, one, all)

-- ---- tracks that source s takes back from its target t

abbrev backs_none : Tag → Bool
backs_none Backs = false
backs_none k = true

module _ (volumes : List ℕ) (t s : ℕ) (ne : t ≢ s) where
  abbrev is : Event → Bool
  is = is_back_from t

  silent : (e : Event) → Of backs_none e → is e ≡ false
  silent (Back v q u) of = absurd cc
  silent e of = refl

  -- other targets of s keep the track
  abbrev Keeping : World → Act → Type 0
  Keeping w (Make (Keep u q)) = (fields_at w.control u).reversing ≡ false
  Keeping w (Make (Note u q)) = (fields_at w.control u).reversing ≡ false
  Keeping w a = ⊥

  keeps-one : (q u : ℕ) (w : World) → Fine any_world Keeping any_reason w (keep_on s q u w.control)
  keeps-one q u w = by (copies_from s f && not f.reversing) refl
    where
      f : Fields
      f = fields_at w.control u

      by : (b : Bool) → (copies_from s f && not f.reversing) ≡ b → Fine any_world Keeping any_reason w (cond b (keep_if f u q) Pass)
      by false is = tt
      by true is =
          let forward : f.reversing ≡ false = not-true f.reversing (and_parts (copies_from s f) _ is).1 in
          fine-if any_world Keeping any_reason w (not (contains f.own q)) (Do (Make (Keep u q))) _ forward
          (fine-if any_world Keeping any_reason w (f.recorded && not (contains f.source_changes q)) (Do (Make (Note u q))) Pass forward tt)

  abbrev firsts : List Entry
  firsts = map (λ u. for_lowest t (λ q. keep_on s q u)) volumes

  keeps-all : Each Keeping firsts
  keeps-all = fine-map any_world Keeping any_reason (λ u. for_lowest t (λ q. keep_on s q u)) volumes
      (λ u w any. fine-found any_world Keeping any_reason w (lowest_held t w.control) (λ q. keep_on s q u) (λ q. keeps-one q u w))

  -- what lasts meanwhile
  record Meanwhile (w u : World) : Type 0 where
    same : u.control.volume t ≡ w.control.volume t
    on_t : Runs u t
    on_s : Runs u s
    counted : count is u.events ≡ count is w.events

  kept-on : (w : World) → (fields_at w.control t).reversing ≡ true → (u : World) (m : Move) (f : Option Fuse) → (fields_at u.control (target m)).reversing ≡ false → count is (told m (u.control.volume (target m))) ≡ 0 → Meanwhile w u → Meanwhile w (done u m f)
  kept-on w back u m f forward quiet old =
      let apart : t ≢ target m = λ e. false_true (ap (λ j. (fields_at u.control j).reversing) e ∙ forward) (ap (λ (y : Volume). y.fields.reversing) old.same ∙ back) in
      let more : count is (done u m f).events ≡ count is u.events + 0 = counted-done is u m f 0 quiet in
      let before : count is u.events ≡ count is w.events = old.counted in
      record {
        same = at_other u.control.volume (target m) (row u m f) t apart ∙ old.same;
        on_t = runs-done u m f t old.on_t;
        on_s = runs-done u m f s old.on_s;
        counted = omega (arith, more, before);
      }

  kept-act : (w : World) → (fields_at w.control t).reversing ≡ true → (u : World) (a : Act) (f : Option Fuse) → Keeping u a → Meanwhile w u → Meanwhile w (after_act u a f)
  kept-act w back u (Make (Keep x q)) f forward old = kept-on w back u (Keep x q) f forward refl old
  kept-act w back u (Make (Note x q)) f forward old = kept-on w back u (Note x q) f forward refl old
  kept-act w back u a f may old = absurd may

  -- what a round needs, with so many to come
  record Ready (n : ℕ) (w : World) : Type 0 where
    on_t : Runs w t
    on_s : Runs w s
    reversing : (fields_at w.control t).reversing ≡ true
    low : (q : ℕ) → contains (fields_at w.control t).own q ≡ true → q < (w.control.volume t).tracks
    enough : n ≤ len (fields_at w.control t).own

  -- and what it leaves, where q is the lowest track that t holds
  record Given (w u : World) (q : ℕ) : Type 0 where
    on_t : Runs u t
    on_s : Runs u s
    tracks : (u.control.volume t).tracks ≡ (w.control.volume t).tracks
    fields : fields_at u.control t ≡ restored (w.control.volume t).tracks (given_up (fields_at w.control t) q)
    counted : count is u.events ≡ count is w.events + 1

  abbrev release : Entry
  release = for_lowest t (λ q. now (Release t q))

  abbrev restore : Entry
  restore = for_lowest t (λ q. now (Restore s q t))

  -- t gives the track up, which s took back
  released : (w k u : World) (q : ℕ) → k.control.volume t ≡ w.control.volume t → Runs k t → Runs k s → lowest_held t k.control ≡ Some q → count is k.events ≡ count is w.events + 1 → carry k (release ∷ []) ≡ (u, None) → Given w u q
  released w k u q same on_t on_s lowest_is counted leads =
      let led = move-led k u release (Release t q) [] (ap (λ o. on_found o (λ q. now (Release t q)) k.control) lowest_is) on_t leads in
      let j : World = done k (Release t q) led.fuse in
      let more : count is j.events ≡ count is k.events + 0 = counted-done is k (Release t q) led.fuse 0 (none-of is backs_none silent (Release t q) (k.control.volume t) refl) in
      let here : j.control.volume t ≡ row k (Release t q) led.fuse = at_same k.control.volume t (row k (Release t q) led.fuse) in
      subst (λ u. Given w u q) (nothing-left j u led.leads) (record {
        on_t = runs-done k (Release t q) led.fuse t on_t;
        on_s = runs-done k (Release t q) led.fuse s on_s;
        tracks = ap (λ (y : Volume). y.tracks) here ∙ ap (λ (y : Volume). y.tracks) same;
        fields = ap (λ (y : Volume). y.fields) here ∙ ap (λ (y : Volume). restored y.tracks (given_up y.fields q)) same;
        counted = omega (arith, counted, more);
      })

  -- s takes it back
  taken : (w m u : World) (q : ℕ) → Meanwhile w m → lowest_held t w.control ≡ Some q → carry m (restore ∷ release ∷ []) ≡ (u, None) → Given w u q
  taken w m u q kept lowest_is leads =
      let lowest_then : lowest_held t m.control ≡ Some q = ap (λ (y : Volume). lowest y.tracks y.fields.own) kept.same ∙ lowest_is in
      let led = move-led m u restore (Restore s q t) (release ∷ []) (ap (λ o. on_found o (λ q. now (Restore s q t)) m.control) lowest_then) kept.on_s leads in
      let k : World = done m (Restore s q t) led.fuse in
      let stays : k.control.volume t ≡ m.control.volume t = at_other m.control.volume s (row m (Restore s q t) led.fuse) t ne in
      let before : count is m.events ≡ count is w.events = kept.counted in
      let more : count is k.events ≡ count is m.events + 1 = counted-done is m (Restore s q t) led.fuse 1 (one-is is (Back s q t) (eq-eqb t t refl)) in
      released w k u q (stays ∙ kept.same) (runs-done m (Restore s q t) led.fuse t kept.on_t) (runs-done m (Restore s q t) led.fuse s kept.on_s)
      (ap (λ (y : Volume). lowest y.tracks y.fields.own) stays ∙ lowest_then) (omega (arith, before, more)) led.leads

  gives : (n : ℕ) (w u : World) (q : ℕ) → Ready n w → lowest_held t w.control ≡ Some q → carry w (give_back volumes s t) ≡ (u, None) → Given w u q
  gives n w u q r lowest_is leads =
      let one : Split w u firsts (restore ∷ release ∷ []) = carry-split w u firsts (restore ∷ release ∷ []) leads in
      let kept : Meanwhile w one.middle = carry-keeps Keeping (Meanwhile w) (kept-act w r.reversing) w one.middle firsts keeps-all one.first (record { same = refl; on_t = r.on_t; on_s = r.on_s; counted = refl }) in
      taken w one.middle u q kept lowest_is one.rest

  -- the next round, if one is to come
  given-ready : (n : ℕ) (w u : World) (q : ℕ) → Ready (suc n) w → contains (fields_at w.control t).own q ≡ true → Given w u q → (n ≡ 0) ⊎ Ready n u
  given-ready n w u q r has g = by (is_bare (remove own q)) refl
    where
      own : Tracks
      own = (fields_at w.control t).own

      less : len (remove own q) ≡ len own - 1
      less = one-less own q has

      enough : suc n ≤ len own
      enough = r.enough

      by : (e : Bool) → is_bare (remove own q) ≡ e → (n ≡ 0) ⊎ Ready n u
      by true bare = let none : len (remove own q) ≡ 0 = eqb-true (len (remove own q)) 0 bare in inl (omega (arith, none, less, enough))
      by false some =
          let own_is : (fields_at u.control t).own ≡ remove own q = ap (λ (f : Fields). f.own) g.fields ∙ ap (λ e. cond e empty (remove own q)) some in
          let le : n ≤ len (remove own q) = omega (arith, less, enough) in
          inr (record {
            on_t = g.on_t;
            on_s = g.on_s;
            reversing = ap (λ (f : Fields). f.reversing) g.fields ∙ ap (λ e. cond e false (fields_at w.control t).reversing) some ∙ r.reversing;
            low = λ z h. subst (λ n. z < n) (sym g.tracks) (r.low z (removed own q z (sym (ap (λ s. contains s z) own_is) ∙ h)));
            enough = subst (λ s. n ≤ len s) (sym own_is) le;
          })

  rounds : (n : ℕ) (w v : World) → carry w (times n (give_back volumes s t)) ≡ (v, None) → (n ≡ 0) ⊎ Ready n w → count is v.events ≡ count is w.events + n
  rounds zero w v leads ready = let e : count is w.events ≡ count is v.events = ap (λ (z : World). count is z.events) (nothing-left w v leads) in omega (arith, e)
  rounds (suc n) w v leads (inl none) = absurd (omega (arith, none))
  rounds (suc n) w v leads (inr r) =
      let one : Split w v (give_back volumes s t) (times n (give_back volumes s t)) = carry-split w v (give_back volumes s t) (times n (give_back volumes s t)) leads in
      by one _ refl (λ ready. rounds n one.middle v one.rest ready)
    where
      by : (one : Split w v (give_back volumes s t) (times n (give_back volumes s t))) → (o : Option ℕ) → lowest_held t w.control ≡ o
          → ((n ≡ 0) ⊎ Ready n one.middle → count is v.events ≡ count is one.middle.events + n) → count is v.events ≡ count is w.events + suc n
      by one None none more =
          absurd (
          let bare : len (fields_at w.control t).own ≡ 0 = none-lowest (w.control.volume t).tracks (fields_at w.control t).own r.low none in
          let enough : suc n ≤ len (fields_at w.control t).own = r.enough in
          omega (arith, bare, enough)
          )
      by one (Some q) lowest_is more =
          let g : Given w one.middle q = gives (suc n) w one.middle q r lowest_is one.first in
          let a : count is one.middle.events ≡ count is w.events + 1 = g.counted in
          let b : count is v.events ≡ count is one.middle.events + n = more (given-ready n w one.middle q r (lowest-in (w.control.volume t).tracks (fields_at w.control t).own q lowest_is) g) in
          omega (arith, a, b)

-- ---- a copy

most-le : (most : Option ℕ) (n : ℕ) → at_most most n ≤ n
most-le None n = omega arith
most-le (Some m) n = min-le_right m n

pub copy-counts : (w : World) → Sound w → (t : ℕ) (most : Option ℕ) (u : World) → carry (as_begun w) (copy_plan w.control t most).entries ≡ (u, None)
    → let is : Event → Bool = cond (fields_at w.control t).reversing (is_back_from t) (is_copied_to t) in count is u.events ≡ count is (as_begun w).events + at_most most (left_to_copy w.control t)
copy-counts w x t most u leads =
    let there = passed-check first u (is_defined t) _ _ leads in
    let on = passed-check first u (is_running t) _ _ there.1 in
    let may = passed-check first u (may_copy t) _ _ on.1 in
    let back = passed-check first u (may_give_back t) _ _ may.1 in
    by (at_most most (left_to_copy w.control t)) on.0 (and_parts f.related _ may.0).0 f.reversing refl back.1 (most-le most (left_to_copy w.control t))
  where
    first : World
    first = as_begun w

    f : Fields
    f = fields_at w.control t

    by : (n : ℕ) → Runs first t → f.related ≡ true → (r : Bool) → f.reversing ≡ r → carry first (times n (cond r (give_back w.control.volumes f.source t) (fetch_next t ∷ []))) ≡ (u, None)
        → n ≤ cond r (len f.own) (len (rest (w.control.volume t).tracks f.own)) → count (cond r (is_back_from t) (is_copied_to t)) u.events ≡ count (cond r (is_back_from t) (is_copied_to t)) first.events + n
    by n on related false forward leads enough = fetches t n first u leads on (subst (λ r. n ≤ cond r (len (rest (w.control.volume t).tracks f.own)) 0) (sym related) enough)
    by n on related true back leads enough =
        let own : from first t ≡ Some f.source = choose_some f.related f.source related in
        let plain : from first f.source ≡ None = (x.rows.structure.flash t f.source own).plain in
        rounds w.control.volumes t f.source (λ e. none_some plain (ap (from first) (sym e) ∙ own)) n first u leads
        (inr (record {
          on_t = on;
          on_s = runs-source first (sound-begun w x) t f.source own on;
          reversing = back;
          low = λ q h. (x.rows.structure.lawful t).sets.own_low q h;
          enough = enough;
        }))
