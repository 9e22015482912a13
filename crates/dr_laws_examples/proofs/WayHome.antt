-- The example of the way home, carried out.
use Rattle.std.proofs.Common.{ℕ, ◌≡◌, ◌<◌, refl, ap, sym, ◌∙◌, subst, arith, true, false, cond, Bool, List, [], ◌∷◌, ◌++◌, rules, length, Option, None}
use Rattle.std.proofs.lemmas.Bool.{false_from_ne_true}
use Rattle.std.proofs.lemmas.Bool.Decides.{nat_tests}
use Rattle.std.proofs.lemmas.List.Sums.{fold-append}
use Rattle.std.specs.Cmp.{unsigned_tied}
use Rattle.std.specs.FinSet.{contains, empty, insert, union, members}
use Rattle.dr_logic.specs.Bytes.{zeros}
use Rattle.dr_logic.proofs.Truth.{false_true}
use Rattle.dr_ids.specs.declared.refusal.Kind.TheVariants.{Volume as OfVolume}
use Rattle.dr_ids.specs.declared.refusal.Refusal.{Refusal}
use Rattle.dr_ids.specs.declared.refusal.Refusal.TheVariants.{JournalFull}
use Rattle.dr_model.specs.Refusals.{server_off, unknown}
use Rattle.dr_model.specs.declared.said.Addition.TheVariants.{Alone, Counted}
use Rattle.dr_model.specs.declared.said.Said.TheVariants.{Done}
use Rattle.dr_model.specs.declared.state.PairState.TheVariants.{CopyPending, FullDuplex}
use Rattle.dr_model.specs.declared.state.Part.TheVariants.{Metro}
use Rattle.dr_model.specs.Contents.{image, laid, image_at}
use Rattle.dr_model.specs.Histories.{histories}
use Rattle.dr_model.specs.Layout.{Tracks, Blocks}
use Rattle.dr_model.specs.Control.{Control, Fuse, World, nothing}
use Rattle.dr_model.specs.Sessions.{changed}
use Rattle.dr_model.specs.Phases.{servers_where}
use Rattle.dr_model.specs.Relations.{in_order, is_bare}
use Rattle.dr_model.specs.Pairs.{is_pending}
use Rattle.dr_model.specs.Entries.{fields_at, is_running, running_check, pair_state}
use Rattle.dr_model.specs.PairEntries.{is_copying, suspend_after, drain_stretches}
use Rattle.dr_model.specs.PlanParts.{Plan, same, always, refuses}
use Rattle.dr_model.specs.Plans.{has_room, is_defined, drain_plan, drain_checks}
use Rattle.dr_model.specs.Carry.{Entry, Outcome, End, Pass, check, act, carry, turn, update_keeping, stopped_at, entries_in, follows_at}
use Rattle.dr_model.specs.Carried.{begun, carried_out, finish, answered, said, stop_place, masters_lost}
use Rattle.dr_model.specs.Fits.{Fits, on_device}
use Rattle.dr_model.specs.Runs.{course, after_plan, after_task, after_tasks, run}
use Rattle.dr_model.proofs.CarryLemmas.{carry-skips, plan-ends}
use Rattle.dr_facts.proofs.Tracks.{bare-has}
use Rattle.dr_laws_sound.specs.Acknowledged.{said_in}
use Rattle.dr_laws_sound.proofs.Journal.{run-more}
use Rattle.dr_laws_recovery.specs.Recovered.{HoldsTracks}
use Rattle.dr_laws_return.specs.Returned.{IsReturned}
use Rattle.dr_laws_return.proofs.Returned.{returned-run}
use Rattle.dr_laws_sites.specs.Example.{unnamed}
use Rattle.dr_laws_examples.specs.WayHome.{taken_over, fails_back, drains, way_home}

-- ---- the failback

unfoldable pub parted : World
parted = run taken_over

unfoldable pub back : World
back = after_task parted fails_back

says-back : said_in parted fails_back ≡ Done Alone
unfolding parted after_tasks after_plan carry act turn update_keeping stopped_at image histories zeros changed servers_where
says-back = refl

-- ---- what 2000 has out of sync

abbrev out : Tracks
out = union (insert empty 1) (union empty empty)

lacks-first : contains out 0 ≡ false
lacks-first = grind (members, rules, nat_tests, unsigned_tied)

has-second : contains out 1 ≡ true
has-second = grind (members, rules, nat_tests, unsigned_tied)

in-order : in_order 2 out ≡ 1 ∷ []
unfolding in_order
in-order = λ i. cond (lacks-first i) (0 ∷ cond (has-second i) (1 ∷ []) []) (cond (has-second i) (1 ∷ []) [])

not-bare : is_bare out ≡ false
not-bare = false_from_ne_true _ (λ bare. false_true (bare-has out 1 bare) has-second)

out-is : (fields_at back.control 8192).out_of_sync ≡ out
unfolding back parted after_tasks after_plan carry act turn update_keeping stopped_at image histories zeros changed servers_where
out-is = refl

copying : is_copying 8192 back.control ≡ true
unfolding back parted after_tasks after_plan carry act turn update_keeping stopped_at image histories zeros changed servers_where
copying = ap (λ b. is_pending (cond b FullDuplex CopyPending)) not-bare

-- ---- the drain

-- by the tracks that are sent
abbrev pub sending : List ℕ → Plan
sending ts =
    let k : Control = back.control in
    record {
      first = same;
      told = [];
      entries = drain_checks k 8192 ++ entries_in (drain_stretches k 8192 ts);
      follows = follows_at (record { entries = drain_checks k 8192; follows = suspend_after 8192 } ∷ drain_stretches k 8192 ts);
      last = same;
      says = always (Done (Counted (length ts)));
    }

abbrev pub draining : Plan
draining = sending (1 ∷ [])

abbrev pub sent_by : List Entry
sent_by = entries_in (drain_stretches back.control 8192 (1 ∷ []))

size-is : (back.control.volume 8192).tracks ≡ 2
unfolding back parted after_tasks after_plan carry act turn update_keeping stopped_at image histories zeros changed servers_where
size-is = refl

room-is : has_room back.events ≡ true
unfolding back parted after_tasks after_plan carry act turn update_keeping stopped_at image histories zeros changed servers_where
room-is = refl

left-is : in_order (back.control.volume 8192).tracks (fields_at back.control 8192).out_of_sync ≡ 1 ∷ []
left-is = ap (λ n. in_order n (fields_at back.control 8192).out_of_sync) size-is ∙ (ap (in_order 2) out-is ∙ in-order)

plan-is : (course back drains).last.plan ≡ draining
plan-is = ap (λ c. cond c (drain_plan back.control 8192 None) (refuses JournalFull)) room-is ∙ ap sending left-is

unfoldable pub sent : Outcome
sent = carry (begun back draining) sent_by

stands : (is_defined 8192 back.control ≡ true) × (is_running 8192 back.control ≡ true)
unfolding back parted after_tasks after_plan carry act turn update_keeping stopped_at image histories zeros changed servers_where
stands = (refl, refl)

-- a check that passes is passed over
passed : (ok : Control → Bool) (r : Refusal) (ds : List Entry) → ok back.control ≡ true → carry (begun back draining) (check ok r ∷ ds) ≡ carry (begun back draining) ds
passed ok r ds is = carry-skips (begun back draining) (check ok r) ds (ap (λ c. cond c Pass (End r)) is)

sent-is : carry (begun back draining) draining.entries ≡ sent
unfolding sent
sent-is =
    let k : Control = back.control in
    let copies : List Entry = check (is_copying 8192) (pair_state k 8192) ∷ sent_by in
    passed (is_defined 8192) (unknown OfVolume) (running_check k 8192 ∷ copies) stands.0
    ∙ (passed (is_running 8192) (server_off (k.volume 8192).server) copies stands.1
    ∙ passed (is_copying 8192) (pair_state k 8192) sent_by copying)

well : sent.1 ≡ None
unfolding sent back parted after_tasks after_plan carry act turn update_keeping stopped_at image histories zeros changed servers_where
well = refl

unfoldable pub home : World
home = masters_lost back (said sent.0 1 (Done (Counted 1)))

-- how the step ends, by how its entries do
abbrev ends : Outcome → World
ends o = masters_lost back (said (finish draining (stop_place back draining) o.0 o.1) 1 (answered draining (finish draining (stop_place back draining) o.0 o.1).control o.1))

drain-is : after_task back drains ≡ home
unfolding home
drain-is =
    ap (λ (q : Plan). masters_lost back (after_plan back 1 q)) plan-is
    ∙ (ap (masters_lost back) (plan-ends back 1 draining sent sent-is)
    ∙ ap (λ r. ends (sent.0, r)) well)

says-sent : said_in back drains ≡ Done (Counted 1)
says-sent =
    ap (λ (q : Plan). answered q (carried_out back q).0.control (carried_out back q).1) plan-is
    ∙ (ap (λ (o : Outcome). answered draining (finish draining (stop_place back draining) o.0 o.1).control o.1) sent-is
    ∙ ap (λ r. answered draining (finish draining (stop_place back draining) sent.0 r).control r) well)

-- ---- the whole run

pub home-is : run way_home ≡ home
unfolding after_tasks parted back
home-is = fold-append after_task nothing taken_over (fails_back ∷ drains ∷ []) ∙ drain-is

sizes : ((home.control.volume 8192).tracks ≡ 2) × ((home.control.volume 4096).tracks ≡ 2)
unfolding home sent back parted after_tasks after_plan carry act turn update_keeping stopped_at image histories zeros changed servers_where
sizes = (refl, refl)

image-is : image_at home.events 8192 1 ≡ laid 0 (98 ∷ []) zeros
unfolding laid zeros home sent back parted after_tasks after_plan carry act turn update_keeping stopped_at image histories changed servers_where
image-is = refl

pub says_back : said_in (run taken_over) fails_back ≡ Done Alone
unfolding parted
says_back = says-back

back-is : run (taken_over ++ fails_back ∷ []) ≡ back
unfolding back parted
back-is = run-more taken_over fails_back

pub says_sent : said_in (run (taken_over ++ fails_back ∷ [])) drains ≡ Done (Counted 1)
says_sent = ap (λ w. said_in w drains) back-is ∙ says-sent

pub returned : (on : ℕ → Bool) (fuse : ℕ → Option Fuse) (device : ℕ → Blocks) → Fits (run way_home) on fuse device → HoldsTracks (run way_home) device → IsReturned (run way_home) device 8192 4096 Metro
returned on fuse device fits holds = returned-run way_home on fuse device fits holds taken_over fails_back drains unnamed 8192 4096 1 Alone (Counted 1) refl refl refl says_back says_sent

-- what both devices contain on the track
abbrev pub Contain : (ℕ → Blocks) → Type 0
Contain device =
    (on_device (run way_home).control device 8192 1 ≡ laid 0 (98 ∷ []) zeros) × (on_device (run way_home).control device 4096 1 ≡ laid 0 (98 ∷ []) zeros)

pub contain : (on : ℕ → Bool) (fuse : ℕ → Option Fuse) (device : ℕ → Blocks) → Fits (run way_home) on fuse device → HoldsTracks (run way_home) device → Contain device
contain on fuse device fits holds =
    let r : IsReturned (run way_home) device 8192 4096 Metro = returned on fuse device fits holds in
    let low : 1 < ((run way_home).control.volume 8192).tracks = subst (λ (w : World). 1 < (w.control.volume 8192).tracks) (sym home-is) (subst (λ n. 1 < n) (sym sizes.0) (omega arith)) in
    let one : on_device (run way_home).control device 8192 1 ≡ laid 0 (98 ∷ []) zeros = r.writes 1 low ∙ (ap (λ (w : World). image_at w.events 8192 1) home-is ∙ image-is) in
    (one, sym (r.equal 1 low) ∙ one)
