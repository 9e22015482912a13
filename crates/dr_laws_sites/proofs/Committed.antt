-- The example of a group that is committed, carried out.
use Rattle.std.proofs.Common.{ℕ, zero, suc, ◌≡◌, ◌<◌, ◌≤◌, inl, inr, refl, ap, sym, ◌∙◌, subst, arith, true, false, cond, not, nat_le, Bool, List, [], ◌∷◌, ◌++◌, length, take, drop, rules, Option, Some, None, ◌&&◌}
use Rattle.std.specs.Prelude.{is_some}
use Rattle.std.specs.List.{slice_get, list_all}
use Rattle.std.specs.Option.{unwrap_or}
use Rattle.std.proofs.lemmas.Bool.Decides.{nat_tests}
use Rattle.std.proofs.lemmas.List.Sums.{fold-append}
use Rattle.std.proofs.lemmas.Option.{same_Some}
use Rattle.std.specs.Cmp.{unsigned_tied}
use Rattle.std.specs.FinSet.{contains, empty, insert, remove, len, members}
use Rattle.dr_logic.specs.Bytes.{zeros}
use Rattle.dr_model.specs.declared.event.Event.{Event}
use Rattle.dr_model.specs.declared.event.Event.TheVariants.{Cut, Flashed, Committed, Reverted, Left}
use Rattle.dr_model.specs.Contents.{image, laid}
use Rattle.dr_model.specs.Histories.{histories}
use Rattle.dr_model.specs.Layout.{Tracks, Blocks}
use Rattle.dr_model.specs.Plans.{has_room}
use Rattle.dr_model.specs.Control.{Fuse, World, nothing}
use Rattle.dr_model.specs.Sessions.{changed}
use Rattle.dr_model.specs.Groups.{In}
use Rattle.dr_model.specs.Cuts.{CutAt}
use Rattle.dr_model.specs.ClosedCuts.{InGroup, LastCut}
use Rattle.dr_model.specs.NewestGroup.{StandsCommitted, NewestGroup}
use Rattle.dr_model.specs.Table.{due}
use Rattle.dr_model.specs.Fits.{Fits}
use Rattle.dr_model.specs.Phases.{servers_where}
use Rattle.dr_model.specs.Relations.{in_order}
use Rattle.dr_model.specs.Carry.{act, carry, turn, update_keeping, stopped_at}
use Rattle.dr_model.specs.Entries.{fields_at, copies_from, keep_on}
use Rattle.dr_model.specs.Carried.{begun}
use Rattle.dr_model.specs.Runs.{Task, after_plan, after_task, after_tasks, run}
use Rattle.dr_facts.proofs.Tracks.{empty_has}
use Rattle.dr_facts.proofs.Sets.{not_removed}
use Rattle.dr_facts.proofs.Lists.{in-first, in-second, all-each}
use Rattle.dr_logic.proofs.Truth.{false_true}
use Rattle.dr_laws_freezes.specs.Moments.{worlds, worlds_each, parts_moments, moments_from, moments, task_moments}
use Rattle.dr_laws_sites.specs.Example.{prepared, before_hold, exchange, wrote, drain, committed_group, hold_moment, cut_front, its_member, its_session}
use Rattle.std.proofs.lemmas.List.{take-append-le}
use Rattle.dr_laws_sound.proofs.Journal.{run-more}
use Rattle.dr_laws_freezes.proofs.EndsInCut.{last-moment}
use Rattle.dr_laws_recovery.specs.Recovered.{recovered_on, HoldsTracks}
use Rattle.dr_laws_sites.specs.FirstSite.{IsFirst}
use Rattle.dr_laws_sites.specs.CutMoments.{IsJustCut}
use Rattle.dr_laws_sites.specs.BothLost.{GivesFirst}
use Rattle.dr_laws_sites.proofs.Along.{Lasts, run-moment}
use Rattle.dr_laws_sites.proofs.BothLost.{lost-run}
use Rattle.dr_laws_sites.proofs.Example.{at-place, given, ends-with}
use Rattle.dr_laws_sites.proofs.Steps.{AllPass, sends, firsts, lasts, keeps, MayWrite, written, write-is, MayDrain, drained, drain-is, MaySeal, sealed, seal-is}

-- ---- the sets

abbrev out : Tracks
out = insert empty 0

has-it : contains out 0 ≡ true
has-it = grind (members, rules, nat_tests, unsigned_tied)

in-order : in_order 1 out ≡ 0 ∷ []
unfolding in_order
in-order = ap (λ c. cond c (0 ∷ []) []) has-it

in-sync : len (remove out 0) ≡ 0
in-sync = grind (members, rules, nat_tests, unsigned_tied)

-- ---- the write

begins : World
begins = run prepared

may-write : MayWrite begins
unfolding begins after_tasks after_plan carry act turn update_keeping stopped_at image histories zeros changed servers_where
may-write = record { room = refl; issued = refl; free = refl; over = ap not (empty_has 0); reached = refl; loose = refl; cascaded = refl }

-- as the attempt begins
after_write : World
after_write = written 97 begins

-- ---- the drain

-- after the hold and the release
releases : World
releases = after_tasks after_write (exchange ∷ exchange ∷ [])

size-is : (releases.control.volume 8192).tracks ≡ 1
unfolding releases after_write begins after_tasks after_plan carry act turn update_keeping stopped_at image histories zeros changed servers_where
size-is = refl

out-is : (fields_at releases.control 8192).out_of_sync ≡ out
unfolding releases after_write begins after_tasks after_plan carry act turn update_keeping stopped_at image histories zeros changed servers_where
out-is = refl

room-is : has_room releases.events ≡ true
unfolding releases after_write begins after_tasks after_plan carry act turn update_keeping stopped_at image histories zeros changed servers_where
room-is = refl

entries-are : (sends releases.control (0 ∷ [])).entries ≡ firsts releases.control ++ keep_on 12288 0 16384 ∷ lasts
unfolding releases after_write begins after_tasks after_plan carry act turn update_keeping stopped_at image histories zeros changed servers_where
entries-are = refl

pass : AllPass releases.control (firsts releases.control)
unfolding releases after_write begins after_tasks after_plan carry act turn update_keeping stopped_at image histories zeros changed servers_where
pass = (refl, (refl, (refl, (refl, (refl, (refl, (refl, (refl, (refl, tt)))))))))

copies : (copies_from 12288 (fields_at releases.control 16384) && not (fields_at releases.control 16384).reversing) ≡ true
unfolding releases after_write begins after_tasks after_plan carry act turn update_keeping stopped_at image histories zeros changed servers_where
copies = refl

own-is : (fields_at releases.control 16384).own ≡ empty
unfolding releases after_write begins after_tasks after_plan carry act turn update_keeping stopped_at image histories zeros changed servers_where
own-is = refl

stays : (fields_at releases.control 16384).persistent ≡ true
unfolding releases after_write begins after_tasks after_plan carry act turn update_keeping stopped_at image histories zeros changed servers_where
stays = refl

well : (keeps (begun releases (sends releases.control (0 ∷ []))) 16384 0).1 ≡ None
unfolding releases after_write begins after_tasks after_plan carry act turn update_keeping stopped_at image histories zeros changed servers_where
well = refl

may-drain : MayDrain releases
may-drain = record {
  room = room-is;
  left = ap (λ n. in_order n (fields_at releases.control 8192).out_of_sync) size-is ∙ (ap (in_order 1) out-is ∙ in-order);
  entries = entries-are;
  pass = pass;
  copies = copies;
  lacks = ap (λ s. contains s 0) own-is ∙ empty_has 0;
  stays = stays;
  well = well;
}

-- ---- the seal

after_drain : World
after_drain = drained releases

may-seal : MaySeal after_drain
unfolding after_drain releases after_write begins after_tasks after_plan carry act turn update_keeping stopped_at image histories zeros changed servers_where
may-seal = record { plan = refl; first = refl; bare = in-sync; reached = refl; unsealed = refl; well = refl; bare_then = in-sync }

-- ---- the second write

-- as the attempt has ended
group_ends : World
group_ends = after_tasks (sealed after_drain) (exchange ∷ exchange ∷ exchange ∷ [])

out-again : (fields_at group_ends.control 4096).out_of_sync ≡ remove out 0
unfolding group_ends after_drain releases after_write begins after_tasks after_plan carry act turn update_keeping stopped_at image histories zeros changed servers_where
out-again = refl

may-write-again : MayWrite group_ends
unfolding group_ends after_drain releases after_write begins after_tasks after_plan carry act turn update_keeping stopped_at image histories zeros changed servers_where
may-write-again = record { room = refl; issued = refl; free = refl; over = ap not (ap (λ s. contains s 0) out-again ∙ not_removed out 0); reached = refl; loose = refl; cascaded = refl }

-- ---- all of it

end : World
end = written 98 group_ends

abbrev rest : List Task
rest = exchange ∷ exchange ∷ exchange ∷ wrote 98 ∷ []

-- steps, and one after them that leads to a world
leads : (w u : World) (xs : List Task) (t : Task) (ys : List Task) → after_task (after_tasks w xs) t ≡ u → after_tasks w (xs ++ t ∷ ys) ≡ after_tasks u ys
unfolding after_tasks
leads w u xs t ys is = fold-append after_task w xs (t ∷ ys) ∙ ap (λ v. after_tasks v ys) is

before-is : run before_hold ≡ after_write
unfolding begins after_write
before-is = run-more prepared (wrote 97) ∙ write-is 97 begins may-write

committed-is : run committed_group ≡ end
unfolding begins after_write releases after_drain group_ends end after_tasks
committed-is =
    leads nothing after_write prepared (wrote 97) (exchange ∷ exchange ∷ drain ∷ exchange ∷ rest) (write-is 97 begins may-write)
    ∙ leads after_write after_drain (exchange ∷ exchange ∷ []) drain (exchange ∷ rest) (drain-is releases may-drain)
    ∙ leads after_drain (sealed after_drain) [] exchange rest (seal-is after_drain may-seal)
    ∙ leads (sealed after_drain) end (exchange ∷ exchange ∷ exchange ∷ []) (wrote 98) [] (write-is 98 group_ends may-write-again)

-- ---- the session

sessions-are : end.control.sessions ≡ its_session ∷ []
unfolding end group_ends after_drain releases after_write begins after_tasks after_plan carry act turn update_keeping stopped_at image histories zeros changed servers_where
sessions-are = refl

pub session : In its_session (run committed_group).control.sessions
session = subst (In its_session) (sym (ap (λ (w : World). w.control.sessions) committed-is ∙ sessions-are)) (inl refl)

-- ---- the journal

-- a list at one of its places
split-at : {X : Type 0} (xs : List X) (i : ℕ) (x : X) → slice_get xs i ≡ Some x → xs ≡ take i xs ++ x ∷ drop (suc i) xs
split-at [] i x is = absurd cc
split-at (y ∷ xs) zero x is = ap (λ z. z ∷ xs) (same_Some y x is)
split-at (y ∷ xs) (suc i) x is = ap (λ zs. y ∷ zs) (split-at xs i x is)

cut-there : slice_get end.events 28 ≡ Some (Cut 1 1 8192)
unfolding end group_ends after_drain releases after_write begins after_tasks after_plan carry act turn update_keeping stopped_at image histories zeros changed servers_where
cut-there = refl

flashed-there : slice_get end.events 36 ≡ Some (Flashed 1 1 8192 12288 16384)
unfolding end group_ends after_drain releases after_write begins after_tasks after_plan carry act turn update_keeping stopped_at image histories zeros changed servers_where
flashed-there = refl

committed-there : slice_get end.events 38 ≡ Some (Committed 1 1 8192 16384)
unfolding end group_ends after_drain releases after_write begins after_tasks after_plan carry act turn update_keeping stopped_at image histories zeros changed servers_where
committed-there = refl

-- neither a cut, nor what takes a target out of the group
abbrev is_quiet : Event → Bool
is_quiet (Cut s n a) = false
is_quiet (Reverted s n a c) = false
is_quiet (Left s a) = false
is_quiet e = true

-- no group with a greater number
abbrev is_low : Event → Bool
is_low (Committed s n a c) = nat_le n 1
is_low e = true

quiet-after : list_all is_quiet (drop 29 end.events) ≡ true
unfolding end group_ends after_drain releases after_write begins after_tasks after_plan carry act turn update_keeping stopped_at image histories zeros changed servers_where
quiet-after = refl

quiet-flashed : list_all is_quiet (drop 37 end.events) ≡ true
unfolding end group_ends after_drain releases after_write begins after_tasks after_plan carry act turn update_keeping stopped_at image histories zeros changed servers_where
quiet-flashed = refl

quiet-committed : list_all is_quiet (drop 39 end.events) ≡ true
unfolding end group_ends after_drain releases after_write begins after_tasks after_plan carry act turn update_keeping stopped_at image histories zeros changed servers_where
quiet-committed = refl

low : list_all is_low end.events ≡ true
unfolding end group_ends after_drain releases after_write begins after_tasks after_plan carry act turn update_keeping stopped_at image histories zeros changed servers_where
low = refl

group-there : InGroup end.events 1 1 8192
group-there = record {
  before = take 36 end.events;
  behind = drop 37 end.events;
  from = 12288;
  target = 16384;
  is = split-at end.events 36 (Flashed 1 1 8192 12288 16384) flashed-there;
  stands = λ c here. false_true refl (all-each is_quiet (drop 37 end.events) (Reverted 1 1 8192 c) quiet-flashed here);
  stays = λ here. false_true refl (all-each is_quiet (drop 37 end.events) (Left 1 8192) quiet-flashed here);
}

pub group : InGroup (run committed_group).events 1 1 8192
group = subst (λ (w : World). InGroup w.events 1 1 8192) (sym committed-is) group-there

none-greater : (k a : ℕ) → StandsCommitted end.events 1 k a → k ≤ 1
none-greater k a s =
    let e : Event = Committed 1 k a s.target in
    let here : In e end.events = subst (In e) (sym s.is) (in-second s.before (e ∷ s.behind) e (inl refl)) in
    let test : nat_le k 1 ≡ true = all-each is_low end.events e low here in
    grind (arith, nat_tests)

newest-there : NewestGroup end.events 1 1
newest-there = record {
  primary = 8192;
  committed = record {
    before = take 38 end.events;
    behind = drop 39 end.events;
    target = 16384;
    is = split-at end.events 38 (Committed 1 1 8192 16384) committed-there;
    stays = λ here. false_true refl (all-each is_quiet (drop 39 end.events) (Left 1 8192) quiet-committed here);
  };
  greatest = none-greater;
}

pub newest : NewestGroup (run committed_group).events 1 1
newest = subst (λ (w : World). NewestGroup w.events 1 1) (sym committed-is) newest-there

-- the cut, and that it is the last one, with what the journal has before it
abbrev CutAfter : List Event → Type 0
CutAfter events = (c : CutAt events 1 1 8192) × (c.before ≡ take 28 events)

abbrev LastAfter : List Event → Type 0
LastAfter events = (p : LastCut events 1 1) × ((p.volume ≡ 8192) × (p.place.before ≡ take 28 events))

cut-at : CutAt end.events 1 1 8192
cut-at = record { before = take 28 end.events; behind = drop 29 end.events; is = split-at end.events 28 (Cut 1 1 8192) cut-there }

pub cut : CutAfter (run committed_group).events
unfolding cut-at
cut = subst (λ (w : World). CutAfter w.events) (sym committed-is) (cut-at, refl)

none-later : (v : ℕ) → CutAt (drop 29 end.events) 1 1 v → ⊥
none-later v c =
    let e : Event = Cut 1 1 v in
    false_true refl (all-each is_quiet (drop 29 end.events) e quiet-after (subst (In e) (sym c.is) (in-second c.before (e ∷ c.behind) e (inl refl))))

last-there : LastAfter end.events
unfolding cut-at
last-there = (record { volume = 8192; place = cut-at; last = none-later }, (refl, refl))

pub last : LastAfter (run committed_group).events
last = subst (λ (w : World). LastAfter w.events) (sym committed-is) last-there

-- ---- the moment of the hold

-- the moments of a step of a run
moments-at : (w : World) (before : List Task) (t : Task) (later : List Task) (u : World) → In u (task_moments (after_tasks w before) t) → In u (moments_from w (before ++ t ∷ later))
unfolding moments_from after_tasks
moments-at w [] t later u here = in-first (task_moments w t) (moments_from (after_task w t) later) u here
moments-at w (x ∷ before) t later u here = in-second (task_moments w x) (moments_from (after_task w x) (before ++ t ∷ later)) u (moments-at (after_task w x) before t later u here)

hold : World
hold = unwrap_or (slice_get (task_moments after_write exchange) 1) nothing

hold-is : hold_moment ≡ hold
unfolding hold
hold-is = ap (λ w. unwrap_or (slice_get (task_moments w exchange) 1) nothing) before-is

is-there : is_some (slice_get (task_moments after_write exchange) 1) ≡ true
unfolding hold after_write begins after_tasks after_plan carry act turn update_keeping stopped_at image histories zeros changed servers_where worlds worlds_each parts_moments
is-there = refl

pub moment : In hold_moment (moments committed_group)
moment =
    inr (moments-at nothing before_hold exchange (exchange ∷ drain ∷ exchange ∷ rest) hold_moment
    (at-place (task_moments (run before_hold) exchange) 1 hold_moment (given (slice_get (task_moments (run before_hold) exchange) 1) (ap (λ w. is_some (slice_get (task_moments w exchange) 1)) before-is ∙ is-there))))

hold-long : length hold.events ≡ 29
unfolding hold after_write begins after_tasks after_plan carry act turn update_keeping stopped_at image histories zeros changed servers_where worlds worlds_each parts_moments
hold-long = refl

hold-told : slice_get hold.events 28 ≡ Some (Cut 1 1 8192)
unfolding hold after_write begins after_tasks after_plan carry act turn update_keeping stopped_at image histories zeros changed servers_where worlds worlds_each parts_moments
hold-told = refl

hold-ends : hold_moment.events ≡ take 28 hold_moment.events ++ Cut 1 1 8192 ∷ []
hold-ends = subst (λ (w : World). w.events ≡ take 28 w.events ++ Cut 1 1 8192 ∷ []) (sym hold-is) (ends-with hold.events 28 (Cut 1 1 8192) hold-long hold-told)

-- a world's place among others
record Placed (us : List World) (w : World) : Type 0 where
  before : List World
  later : List World
  is : us ≡ before ++ (w ∷ later)

placed : (us : List World) (w : World) → In w us → Placed us w
placed [] w here = absurd here
placed (u ∷ us) w (inl is) = record { before = []; later = us; is = ap (λ u. u ∷ us) (sym is) }
placed (u ∷ us) w (inr here) = let p = placed us w here in record { before = u ∷ p.before; later = p.later; is = ap (λ vs. u ∷ vs) p.is }

place : Placed (moments committed_group) hold_moment
place = placed (moments committed_group) hold_moment moment

-- the journal of the run goes on from there
front-is : take 28 hold_moment.events ≡ cut_front
front-is =
    let lasts = subst (Lasts hold_moment) (last-moment committed_group place.before place.later hold_moment place.is) (run-moment committed_group place.before place.later hold_moment place.is).lasts in
    let few : 28 ≤ length hold_moment.events = subst (λ (w : World). 28 ≤ length w.events) (sym hold-is) (subst (λ n. 28 ≤ n) (sym hold-long) (omega arith)) in
    sym (ap (take 28) lasts.events ∙ take-append-le 28 hold_moment.events lasts.told few)

pub just : IsJustCut hold_moment cut_front 1 1 8192
just = record { after = []; is = hold-ends ∙ ap (λ es. es ++ Cut 1 1 8192 ∷ []) front-is; last = tt }

first-there : IsFirst hold.control 4096 8192
unfolding hold after_write begins after_tasks after_plan carry act turn update_keeping stopped_at image histories zeros changed servers_where worlds worlds_each parts_moments
first-there = record { sends = refl; metro = refl; takes = refl }

pub first : IsFirst hold_moment.control 4096 8192
first = subst (λ (w : World). IsFirst w.control 4096 8192) (sym hold-is) first-there

hold-out : (fields_at hold.control 4096).out_of_sync ≡ remove out 0
unfolding hold after_write begins after_tasks after_plan carry act turn update_keeping stopped_at image histories zeros changed servers_where worlds worlds_each parts_moments
hold-out = refl

pub clean : contains (fields_at hold_moment.control 4096).out_of_sync 0 ≡ false
clean = ap (λ (w : World). contains (fields_at w.control 4096).out_of_sync 0) hold-is ∙ (ap (λ s. contains s 0) hold-out ∙ not_removed out 0)

hold-unsent : (fields_at hold.control 8192).out_of_sync ≡ out
unfolding hold after_write begins after_tasks after_plan carry act turn update_keeping stopped_at image histories zeros changed servers_where worlds worlds_each parts_moments
hold-unsent = refl

pub unsent : contains (fields_at hold_moment.control 8192).out_of_sync 0 ≡ true
unsent = ap (λ (w : World). contains (fields_at w.control 8192).out_of_sync 0) hold-is ∙ (ap (λ s. contains s 0) hold-unsent ∙ has-it)

-- ---- what recovery gives back

due-there : due hold 4096 0 ≡ laid 0 (97 ∷ []) zeros
unfolding laid zeros hold after_write begins after_tasks after_plan carry act turn update_keeping stopped_at image histories changed servers_where worlds worlds_each parts_moments
due-there = refl

size-there : (end.control.volume 16384).tracks ≡ 1
unfolding end group_ends after_drain releases after_write begins after_tasks after_plan carry act turn update_keeping stopped_at image histories zeros changed servers_where
size-there = refl

pub due_then : due hold_moment 4096 0 ≡ laid 0 (97 ∷ []) zeros
due_then = ap (λ w. due w 4096 0) hold-is ∙ due-there

pub shows : (on : ℕ → Bool) (fuse : ℕ → Option Fuse) (device : ℕ → Blocks) → Fits (run committed_group) on fuse device → HoldsTracks (run committed_group) device
    → (recovered_on (run committed_group) device 1).image 16384 0 ≡ laid 0 (97 ∷ []) zeros
shows on fuse device fits holds =
    let gives : GivesFirst committed_group (run committed_group) (recovered_on (run committed_group) device 1) its_session 1 = lost-run committed_group (run committed_group) on fuse device refl fits holds its_session session 1 newest in
    let at = gives.cut its_member (inl refl) group cut.0 place.before place.later hold_moment place.is (subst (λ front. IsJustCut hold_moment front 1 1 8192) (sym cut.1) just) 4096 first in
    let few : 0 < ((run committed_group).control.volume 16384).tracks = subst (λ (w : World). 0 < (w.control.volume 16384).tracks) (sym committed-is) (subst (λ n. 0 < n) (sym size-there) (omega arith)) in
    at.shows 0 few clean ∙ due_then

later-there : due end 4096 0 ≡ laid 0 (98 ∷ []) (laid 0 (97 ∷ []) zeros)
unfolding laid zeros end group_ends after_drain releases after_write begins after_tasks after_plan carry act turn update_keeping stopped_at image histories changed servers_where
later-there = refl

pub later : due (run committed_group) 4096 0 ≡ laid 0 (98 ∷ []) (laid 0 (97 ∷ []) zeros)
later = ap (λ w. due w 4096 0) committed-is ∙ later-there
