-- The example of a freeze window, carried out.
use Rattle.std.proofs.Common.{ℕ, ◌+◌, ◌≡◌, ◌⊎◌, ◌<◌, inl, inr, refl, ap, sym, ◌∙◌, subst, arith, true, false, cond, not, Bool, List, [], ◌∷◌, ◌++◌, rules, None, ◌&&◌}
use Rattle.std.specs.List.{list_all, list_any}
use Rattle.std.specs.FinSet.{empty, members}
use Rattle.std.specs.Prelude.{All}
use Rattle.std.proofs.lemmas.Bool.{and_parts}
use Rattle.std.proofs.lemmas.List.Sums.{AllPass-from_list_all}
use Rattle.dr_logic.specs.Bytes.{zeros}
use Rattle.dr_logic.proofs.Truth.{false_true}
use Rattle.dr_ids.specs.declared.refusal.Refusal.TheVariants.{JournalFull}
use Rattle.dr_model.specs.declared.step.Step.TheVariants.{Freeze, Unfreeze, Apply}
use Rattle.dr_model.specs.Contents.{image, laid}
use Rattle.dr_model.specs.Histories.{histories, lists}
use Rattle.dr_model.specs.Control.{Control, World, is_volume}
use Rattle.dr_model.specs.Sessions.{changed}
use Rattle.dr_model.specs.Phases.{servers_where}
use Rattle.dr_model.specs.Groups.{In}
use Rattle.dr_model.specs.Pairs.{is_metro, is_full_duplex, held, goes_over, is_cascaded}
use Rattle.dr_model.specs.Entries.{fields_at, write_checks}
use Rattle.dr_model.specs.WriteEntries.{partner_of, is_parted, is_held_back, land_mirrored, landing}
use Rattle.dr_model.specs.PlanParts.{Plan, refuses, unless}
use Rattle.dr_model.specs.Plans.{has_room, issue_refusal, write_done}
use Rattle.dr_model.specs.Carry.{Entry, act, carry, turn, update_keeping, stopped_at}
use Rattle.dr_model.specs.Carried.{after_plan, masters_lost}
use Rattle.dr_model.specs.Runs.{Task, course, after_tasks, run}
use Rattle.dr_model.specs.Layout.{Fields}
use Rattle.dr_model.specs.Relations.{is_bare}
use Rattle.dr_facts.proofs.Tracks.{empty_has}
use Rattle.dr_facts.proofs.Sets.{if_true, if_false}
use Rattle.dr_facts.proofs.Lists.{is-met}
use Rattle.dr_laws_freezes.specs.Moments.{worlds, worlds_each, plan_moments, parts_moments, moments_from}
use Rattle.dr_laws_freezes.specs.Windows.{IsSoundWindow, is_in, is_clean, stays_with, is_back_to, is_of, acked_on, told_since, last_of, frozen, HoldsWhatCame}
use Rattle.dr_laws_freezes.proofs.WindowSteps.{cut-run}
use Rattle.dr_laws_sites.specs.Example.{step, unnamed}
use Rattle.dr_laws_examples.specs.Example.{IsStretch, host_writes, second_waits, two_pairs, frozen_steps, freeze_run, frozen_set, freeze_begins, freeze_window, freeze_ends}
use Rattle.dr_laws_examples.proofs.Stretch.{stretch-is}

-- ---- a host write that goes over, in which a set of tracks decides

mirrored-is : (k : Control) (n v t : ℕ) → held (fields_at k v) ≡ false → goes_over (fields_at k v) t ≡ true → is_parted k v ≡ false → is_held_back k v ≡ false → is_cascaded (fields_at k (partner_of k v)) ≡ false
    → landing k n v t ≡ write_checks k n v ++ land_mirrored k.volumes n v t (partner_of k v)
mirrored-is k n v t free over reached loose bare =
    ap (λ ds. write_checks k n v ++ ds) (if_false _ _ free ∙ (if_true _ _ over ∙ (if_false _ _ reached ∙ (if_false _ _ loose ∙ if_false _ _ bare))))

-- the plan by its entries
abbrev writes : Control → List Entry → Plan
writes k ds = record (write_done k 4096 0 0 1 (97 ∷ [])) { entries = ds }

abbrev plan_is : World → Plan
plan_is w = let k : Control = w.control in writes k (write_checks k (k.issued + 1) 4096 ++ land_mirrored k.volumes (k.issued + 1) 4096 0 (partner_of k 4096))

abbrev written : World → World
written w = masters_lost w (after_plan w 1 (plan_is w))

record MayMirror (w : World) : Type 0 where
  room : has_room w.events ≡ true
  issued : issue_refusal w.control 4096 0 ≡ None
  free : held (fields_at w.control 4096) ≡ false
  over : goes_over (fields_at w.control 4096) 0 ≡ true
  reached : is_parted w.control 4096 ≡ false
  loose : is_held_back w.control 4096 ≡ false
  bare : is_cascaded (fields_at w.control (partner_of w.control 4096)) ≡ false

write-plan : (w : World) → MayMirror w → (course w (host_writes 4096 97)).last.plan ≡ plan_is w
write-plan w f =
    let k : Control = w.control in
    ap (λ c. cond c (unless (issue_refusal k 4096 0) (write_done k 4096 0 0 1 (97 ∷ []))) (refuses JournalFull)) f.room
    ∙ (ap (λ r. unless r (write_done k 4096 0 0 1 (97 ∷ []))) f.issued
    ∙ ap (writes k) (mirrored-is k (k.issued + 1) 4096 0 f.free f.over f.reached f.loose f.bare))

-- ---- the window

begins : World
begins = run two_pairs

may-mirror : MayMirror begins
unfolding begins after_tasks after_plan carry act turn update_keeping stopped_at image histories zeros changed servers_where
may-mirror = record { room = refl; issued = refl; free = refl; over = ap not (empty_has 0); reached = refl; loose = refl; bare = refl }

abbrev rest : List Task
rest = step (Freeze unnamed 16 32) ∷ host_writes 4097 98 ∷ []

-- its moments after the first one, as they compute
window : List World
window = (plan_moments begins (plan_is begins) ++ written begins ∷ []) ++ moments_from (written begins) rest

window-is : freeze_window ≡ window
unfolding begins window moments_from parts_moments
window-is = ap (λ (p : Plan). (plan_moments begins p ++ masters_lost begins (after_plan begins 1 p) ∷ []) ++ moments_from (masters_lost begins (after_plan begins 1 p)) rest) (write-plan begins may-mirror)

ends : World
ends = last_of begins window

ends-is : freeze_ends ≡ ends
unfolding ends begins
ends-is = ap (last_of begins) window-is

-- ---- its set

volumes-are : begins.control.volumes ≡ 4096 ∷ 4097 ∷ 8192 ∷ 8193 ∷ []
unfolding begins after_tasks after_plan carry act turn update_keeping stopped_at image histories zeros changed servers_where
volumes-are = refl

first-in : is_in frozen_set begins.control 4096 ≡ true
unfolding begins after_tasks after_plan carry act turn update_keeping stopped_at image histories zeros changed servers_where
first-in = refl

second-in : is_in frozen_set begins.control 4097 ≡ true
unfolding begins after_tasks after_plan carry act turn update_keeping stopped_at image histories zeros changed servers_where
second-in = refl

third-out : is_in frozen_set begins.control 8192 ≡ false
unfolding begins after_tasks after_plan carry act turn update_keeping stopped_at image histories zeros changed servers_where
third-out = refl

fourth-out : is_in frozen_set begins.control 8193 ≡ false
unfolding begins after_tasks after_plan carry act turn update_keeping stopped_at image histories zeros changed servers_where
fourth-out = refl

sizes : ((begins.control.volume 4096).tracks ≡ 1) × ((begins.control.volume 4097).tracks ≡ 1)
unfolding begins after_tasks after_plan carry act turn update_keeping stopped_at image histories zeros changed servers_where
sizes = (refl, refl)

partners : (partner_of begins.control 4096 ≡ 8192) × (partner_of begins.control 4097 ≡ 8193)
unfolding begins after_tasks after_plan carry act turn update_keeping stopped_at image histories zeros changed servers_where
partners = (refl, refl)

-- ---- soundness

empty-bare : is_bare empty ≡ true
empty-bare = grind (members, rules)

-- what a clean primary is by its parts
abbrev Synced : Fields → Type 0
Synced f = ((is_metro f.primary && is_full_duplex f.primary_state) ≡ true) × ((f.out_of_sync ≡ empty) × (f.change_recording ≡ empty))

clean-is : (f : Fields) → Synced f → is_clean f ≡ true
clean-is f (so, (out, changes)) =
    let both = and_parts (is_metro f.primary) (is_full_duplex f.primary_state) so in
    ap (λ b. b && (is_full_duplex f.primary_state && (is_bare f.out_of_sync && is_bare f.change_recording))) both.0
    ∙ (ap (λ b. b && (is_bare f.out_of_sync && is_bare f.change_recording)) both.1
    ∙ (ap (λ s. is_bare s && is_bare f.change_recording) out ∙ (ap (λ s. is_bare empty && is_bare s) changes ∙ (ap (λ b. b && b) empty-bare))))

first-synced : Synced (fields_at begins.control 4096)
unfolding begins after_tasks after_plan carry act turn update_keeping stopped_at image histories zeros changed servers_where
first-synced = (refl, (refl, refl))

second-synced : Synced (fields_at begins.control 4097)
unfolding begins after_tasks after_plan carry act turn update_keeping stopped_at image histories zeros changed servers_where
second-synced = (refl, (refl, refl))

first-stays : list_all (λ (w : World). stays_with 8192 4096 w.control) (begins ∷ window) ≡ true
unfolding window begins after_tasks after_plan carry act turn update_keeping stopped_at image histories zeros changed servers_where worlds worlds_each parts_moments moments_from
first-stays = refl

second-stays : list_all (λ (w : World). stays_with 8193 4097 w.control) (begins ∷ window) ≡ true
unfolding window begins after_tasks after_plan carry act turn update_keeping stopped_at image histories zeros changed servers_where worlds worlds_each parts_moments moments_from
second-stays = refl

-- no restore stored a track of the four volumes
abbrev none_back : ℕ → Bool
none_back v = list_any (is_back_to v) (told_since begins ends)

primaries : (none_back 4096 ≡ false) × (none_back 4097 ≡ false)
unfolding ends window begins after_tasks after_plan carry act turn update_keeping stopped_at image histories zeros changed servers_where worlds worlds_each parts_moments moments_from
primaries = (refl, refl)

secondaries : (none_back 8192 ≡ false) × (none_back 8193 ≡ false)
unfolding ends window begins after_tasks after_plan carry act turn update_keeping stopped_at image histories zeros changed servers_where worlds worlds_each parts_moments moments_from
secondaries = (refl, refl)

-- ---- what the window ends with

first-image : image (histories ends.events).write (frozen ends (told_since begins ends) 8192 4096 0) ≡ laid 0 (97 ∷ []) zeros
unfolding laid zeros ends window begins after_tasks after_plan carry act turn update_keeping stopped_at image histories changed servers_where worlds worlds_each parts_moments moments_from
first-image = refl

second-image : image (histories ends.events).write (frozen ends (told_since begins ends) 8193 4097 0) ≡ zeros
unfolding laid zeros ends window begins after_tasks after_plan carry act turn update_keeping stopped_at image histories changed servers_where worlds worlds_each parts_moments moments_from
second-image = refl

-- ---- all of it

-- the primaries of the set are the first two volumes
members-are : (v : ℕ) → is_in frozen_set begins.control v ≡ true → (v ≡ 4096) ⊎ (v ≡ 4097)
members-are v here = by (subst (In v) volumes-are (is-met v begins.control.volumes (and_parts (is_volume begins.control v) (list_any (is_of begins.control v) frozen_set) here).0))
  where
    by : In v (4096 ∷ 4097 ∷ 8192 ∷ 8193 ∷ []) → (v ≡ 4096) ⊎ (v ≡ 4097)
    by (inl is) = inl is
    by (inr (inl is)) = inr is
    by (inr (inr (inl is))) = absurd (false_true third-out (subst (λ v. is_in frozen_set begins.control v ≡ true) is here))
    by (inr (inr (inr (inl is)))) = absurd (false_true fourth-out (subst (λ v. is_in frozen_set begins.control v ≡ true) is here))
    by (inr (inr (inr (inr none)))) = absurd none

-- what holds of both holds of each
each : (P : ℕ → Type 0) → P 4096 → P 4097 → (v : ℕ) → is_in frozen_set begins.control v ≡ true → P v
each P one two v here = by (members-are v here)
  where
    by : (v ≡ 4096) ⊎ (v ≡ 4097) → P v
    by (inl is) = subst P (sym is) one
    by (inr is) = subst P (sym is) two

abbrev Stays : ℕ → Type 0
Stays v = All (λ (w : World). stays_with (partner_of begins.control v) v w.control ≡ true) (begins ∷ window)

stays-by : (v q : ℕ) → partner_of begins.control v ≡ q → list_all (λ (w : World). stays_with q v w.control) (begins ∷ window) ≡ true → Stays v
stays-by v q is all = subst (λ q. All (λ (w : World). stays_with q v w.control ≡ true) (begins ∷ window)) (sym is) (AllPass-from_list_all (λ (w : World). stays_with q v w.control) (begins ∷ window) all)

sound-there : IsSoundWindow frozen_set begins window (told_since begins ends)
sound-there = record {
  clean = each (λ v. is_clean (fields_at begins.control v) ≡ true) (clean-is (fields_at begins.control 4096) first-synced) (clean-is (fields_at begins.control 4097) second-synced);
  stay = each Stays (stays-by 4096 8192 partners.0 first-stays) (stays-by 4097 8193 partners.1 second-stays);
  primaries = each (λ v. none_back v ≡ false) primaries.0 primaries.1;
  secondaries = each (λ v. none_back (partner_of begins.control v) ≡ false) (ap none_back partners.0 ∙ secondaries.0) (ap none_back partners.1 ∙ secondaries.1);
}

pub among : IsStretch freeze_run freeze_begins freeze_window
among = stretch-is two_pairs frozen_steps (step (Unfreeze unnamed 16 32) ∷ step (Apply 2) ∷ [])

among-there : IsStretch freeze_run begins window
unfolding begins
among-there = subst (IsStretch freeze_run begins) window-is among

pub sound : IsSoundWindow frozen_set freeze_begins freeze_window (told_since freeze_begins freeze_ends)
unfolding begins ends
sound = subst (λ later. IsSoundWindow frozen_set begins later (told_since begins (last_of begins later))) (sym window-is) sound-there

pub first : is_in frozen_set freeze_begins.control 4096 ≡ true
unfolding begins
first = first-in

pub second : is_in frozen_set freeze_begins.control 4097 ≡ true
unfolding begins
second = second-in

pub first_tracks : (freeze_begins.control.volume 4096).tracks ≡ 1
unfolding begins
first_tracks = sizes.0

pub second_tracks : (freeze_begins.control.volume 4097).tracks ≡ 1
unfolding begins
second_tracks = sizes.1

pub first_partner : partner_of freeze_begins.control 4096 ≡ 8192
unfolding begins
first_partner = partners.0

pub second_partner : partner_of freeze_begins.control 4097 ≡ 8193
unfolding begins
second_partner = partners.1

waits-there : In second_waits ends.control.pending
unfolding ends window begins after_tasks after_plan carry act turn update_keeping stopped_at image histories zeros changed servers_where worlds worlds_each parts_moments moments_from
waits-there = inl refl

pub waits : In second_waits freeze_ends.control.pending
waits = subst (λ (w : World). In second_waits w.control.pending) (sym ends-is) waits-there

-- both primaries are long busy
abbrev Busy : World → Type 0
Busy w = ((fields_at w.control 4096).long_busy ≡ true) × ((fields_at w.control 4097).long_busy ≡ true)

busy-there : Busy ends
unfolding ends window begins after_tasks after_plan carry act turn update_keeping stopped_at image histories zeros changed servers_where worlds worlds_each parts_moments moments_from
busy-there = (refl, refl)

pub busy : Busy freeze_ends
busy = subst Busy (sym ends-is) busy-there

-- ---- what the law gives

-- of a primary of the set
abbrev Gives : ℕ → Type 0
Gives v =
    (ends.contents (partner_of begins.control v) 0 ≡ image (histories ends.events).write (frozen ends (told_since begins ends) (partner_of begins.control v) v 0))
    × HoldsWhatCame begins ends v 0

gives : (v : ℕ) → is_in frozen_set begins.control v ≡ true → (begins.control.volume v).tracks ≡ 1 → Gives v
unfolding ends
gives v here size = cut-run freeze_run frozen_set among-there.before window among-there.after begins among-there.is sound-there v 0 here (subst (λ n. 0 < n) (sym size) (omega arith))

abbrev Contains : ℕ → ℕ → ℕ → Type 0
Contains v q t = ends.contents q t ≡ image (histories ends.events).write (frozen ends (told_since begins ends) q v t)

first-there : ends.contents 8192 0 ≡ laid 0 (97 ∷ []) zeros
first-there = subst (λ q. Contains 4096 q 0) partners.0 (gives 4096 first-in sizes.0).0 ∙ first-image

second-there : ends.contents 8193 0 ≡ zeros
second-there = subst (λ q. Contains 4097 q 0) partners.1 (gives 4097 second-in sizes.1).0 ∙ second-image

pub first_contains : freeze_ends.contents 8192 0 ≡ laid 0 (97 ∷ []) zeros
first_contains = ap (λ (w : World). w.contents 8192 0) ends-is ∙ first-there

pub second_contains : freeze_ends.contents 8193 0 ≡ zeros
second_contains = ap (λ (w : World). w.contents 8193 0) ends-is ∙ second-there

came-is : lists begins.events 4096 0 ++ acked_on (histories ends.events).write 4096 0 (told_since begins ends) ≡ 1 ∷ []
unfolding ends window begins after_tasks after_plan carry act turn update_keeping stopped_at image histories zeros changed servers_where worlds worlds_each parts_moments moments_from
came-is = refl

pub came : lists freeze_ends.events 4096 0 ≡ 1 ∷ []
came = ap (λ (w : World). lists w.events 4096 0) ends-is ∙ ((gives 4096 first-in sizes.0).1 ∙ came-is)
