-- The example of a flash window, carried out.
use Rattle.std.proofs.Common.{ℕ, suc, ◌≡◌, ◌<◌, inl, inr, refl, ap, sym, ◌∙◌, subst, arith, true, false, Bool, List, [], ◌∷◌, length, take, drop, Some}
use Rattle.std.specs.List.{slice_get, list_all, list_any}
use Rattle.std.proofs.lemmas.List.Sums.{AllPass-from_list_all}
use Rattle.dr_logic.specs.Bytes.{zeros}
use Rattle.dr_model.specs.declared.event.Event.{Event}
use Rattle.dr_model.specs.declared.event.Event.TheVariants.{Set}
use Rattle.dr_model.specs.declared.step.Step.TheVariants.{Apply, UnfreezeFlash}
use Rattle.dr_model.specs.Contents.{image, laid}
use Rattle.dr_model.specs.Histories.{histories, lists}
use Rattle.dr_model.specs.Control.{World}
use Rattle.dr_model.specs.Sessions.{changed}
use Rattle.dr_model.specs.Phases.{servers_where}
use Rattle.dr_model.specs.Groups.{In}
use Rattle.dr_model.specs.Entries.{fields_at}
use Rattle.dr_model.specs.Views.{view}
use Rattle.dr_model.specs.Carry.{act, carry, turn, update_keeping, stopped_at}
use Rattle.dr_model.specs.Runs.{after_plan, after_tasks, run}
use Rattle.dr_laws_freezes.specs.Moments.{worlds, worlds_each, parts_moments, moments_from}
use Rattle.dr_laws_freezes.specs.Windows.{told_since, last_of}
use Rattle.dr_laws_flashes.specs.Windows.{changes, reaches, Taken, cut_at, IsHeldPair, IsSoundWindow, LeavesOneCut}
use Rattle.dr_laws_flashes.proofs.Windows.{flash-cut}
use Rattle.dr_laws_sites.specs.Example.{step, unnamed}
use Rattle.dr_laws_examples.specs.Example.{IsStretch, second_waits, four_volumes, flash_steps, flash_run, flash_set, flash_begins, flash_window, flash_ends}
use Rattle.dr_laws_examples.proofs.Stretch.{at_place, IsThere, parted-at, stretch-is, told-at}

-- ---- the window

begins : World
begins = run four_volumes

window : List World
window = moments_from begins flash_steps

ends : World
ends = last_of begins window

-- as the two targets take their sources' tracks
first_taken : World
first_taken = at_place window 2

second_taken : World
second_taken = at_place window 6

among-there : IsStretch flash_run begins window
unfolding begins window
among-there = stretch-is four_volumes flash_steps (step (UnfreezeFlash unnamed 16) ∷ step (Apply 2) ∷ [])

-- what is to be seen of a moment and of the next one, at which this event was told
abbrev Seen : ℕ → ℕ → Event → Type 0
Seen i n e = (IsThere window i × IsThere window (suc i)) × ((length (at_place window i).events ≡ n) × ((length (at_place window (suc i)).events ≡ suc n) × (slice_get (at_place window (suc i)).events n ≡ Some e)))

first-seen : Seen 1 14 (Set 4098 4096)
unfolding window begins after_tasks after_plan carry act turn update_keeping stopped_at image histories zeros changed servers_where worlds worlds_each parts_moments moments_from
first-seen = ((refl, refl), (refl, (refl, refl)))

second-seen : Seen 5 17 (Set 4099 4097)
unfolding window begins after_tasks after_plan carry act turn update_keeping stopped_at image histories zeros changed servers_where worlds worlds_each parts_moments moments_from
second-seen = ((refl, refl), (refl, (refl, refl)))

takes-at : (s t i n : ℕ) → Seen i n (Set t s) → Taken begins window s t
takes-at s t i n seen = record {
  until = take (suc i) window;
  taken = at_place window (suc i);
  rest = drop (suc (suc i)) window;
  is = parted-at window (suc i) seen.0.1;
  behind = [];
  told = told-at flash_run begins window among-there i n (Set t s) seen.0.0 seen.0.1 seen.1.0 seen.1.1.0 seen.1.1.1;
}

first-takes : Taken begins window 4096 4098
first-takes = takes-at 4096 4098 1 14 first-seen

second-takes : Taken begins window 4097 4099
second-takes = takes-at 4097 4099 5 17 second-seen

-- ---- soundness

abbrev holds : ℕ → World → Bool
holds s w = (fields_at w.control s).flash_hold

first-held : list_all (holds 4096) (first_taken ∷ drop 3 window) ≡ true
unfolding first_taken window begins after_tasks after_plan carry act turn update_keeping stopped_at image histories zeros changed servers_where worlds worlds_each parts_moments moments_from
first-held = refl

second-held : list_all (holds 4097) (second_taken ∷ drop 7 window) ≡ true
unfolding second_taken window begins after_tasks after_plan carry act turn update_keeping stopped_at image histories zeros changed servers_where worlds worlds_each parts_moments moments_from
second-held = refl

-- no event since then changes a list of the volume, and none reaches its track
abbrev unchanged : World → ℕ → Bool
unchanged taken v = list_any (changes v) (told_since taken ends)

abbrev reached : World → ℕ → Bool
reached taken v = list_any (reaches (histories ends.events).write v 0) (told_since taken ends)

first-unchanged : (unchanged first_taken 4096 ≡ false) × ((unchanged first_taken 4098 ≡ false) × (reached first_taken 4098 ≡ false))
unfolding first_taken ends window begins after_tasks after_plan carry act turn update_keeping stopped_at image histories zeros changed servers_where worlds worlds_each parts_moments moments_from
first-unchanged = (refl, (refl, refl))

second-unchanged : (unchanged second_taken 4097 ≡ false) × ((unchanged second_taken 4099 ≡ false) × (reached second_taken 4099 ≡ false))
unfolding second_taken ends window begins after_tasks after_plan carry act turn update_keeping stopped_at image histories zeros changed servers_where worlds worlds_each parts_moments moments_from
second-unchanged = (refl, (refl, refl))

-- what is to be seen of a pair
record Held (p : ℕ × ℕ) : Type 0 where
  takes : Taken begins window p.0 p.1
  held : IsHeldPair begins window p.0 p.1 takes
  unreached : reached takes.taken p.1 ≡ false

first-pair : Held (4096, 4098)
unfolding ends first_taken first-takes takes-at
first-pair = record {
  takes = first-takes;
  held = record { held = AllPass-from_list_all (holds 4096) (first_taken ∷ drop 3 window) first-held; source = first-unchanged.0; target = first-unchanged.1.0 };
  unreached = first-unchanged.1.1;
}

second-pair : Held (4097, 4099)
unfolding ends second_taken second-takes takes-at
second-pair = record {
  takes = second-takes;
  held = record { held = AllPass-from_list_all (holds 4097) (second_taken ∷ drop 7 window) second-held; source = second-unchanged.0; target = second-unchanged.1.0 };
  unreached = second-unchanged.1.1;
}

pairs : (s t : ℕ) → In (s, t) flash_set → Held (s, t)
pairs s t (inl is) = subst Held (sym is) first-pair
pairs s t (inr (inl is)) = subst Held (sym is) second-pair
pairs s t (inr (inr none)) = absurd none

sound-there : IsSoundWindow flash_set begins window
sound-there = record { taken = λ s t here. (pairs s t here).takes; sound = λ s t here. (pairs s t here).held }

pub among : IsStretch flash_run flash_begins flash_window
among = stretch-is four_volumes flash_steps (step (UnfreezeFlash unnamed 16) ∷ step (Apply 2) ∷ [])

pub sound : IsSoundWindow flash_set flash_begins flash_window
unfolding begins window
sound = sound-there

pub waits : In second_waits flash_ends.control.pending
unfolding after_tasks after_plan carry act turn update_keeping stopped_at image histories zeros changed servers_where worlds worlds_each parts_moments moments_from
waits = inl refl

pub held : ((fields_at flash_ends.control 4096).flash_hold ≡ true) × ((fields_at flash_ends.control 4097).flash_hold ≡ true)
unfolding after_tasks after_plan carry act turn update_keeping stopped_at image histories zeros changed servers_where worlds worlds_each parts_moments moments_from
held = (refl, refl)

-- ---- what the law gives

leaves : (w : IsSoundWindow flash_set begins window) → LeavesOneCut flash_set begins window w ends.contents
unfolding begins window ends
leaves w = flash-cut flash_run flash_set among.before window among.after begins among.is w

lists-are : (lists ends.events 4096 0 ≡ 1 ∷ []) × (lists ends.events 4097 0 ≡ [])
unfolding ends window begins after_tasks after_plan carry act turn update_keeping stopped_at image histories zeros changed servers_where worlds worlds_each parts_moments moments_from
lists-are = (refl, refl)

sizes : ((ends.control.volume 4098).tracks ≡ 1) × ((ends.control.volume 4099).tracks ≡ 1)
unfolding ends window begins after_tasks after_plan carry act turn update_keeping stopped_at image histories zeros changed servers_where worlds worlds_each parts_moments moments_from
sizes = (refl, refl)

first-image : image (histories ends.events).write (1 ∷ []) ≡ laid 0 (97 ∷ []) zeros
unfolding laid zeros ends window begins after_tasks after_plan carry act turn update_keeping stopped_at image histories changed servers_where worlds worlds_each parts_moments moments_from
first-image = refl

second-image : image (histories ends.events).write [] ≡ zeros
unfolding image
second-image = refl

cut-is : (w : IsSoundWindow flash_set begins window) (s t : ℕ) (here : In (s, t) flash_set) → cut_at begins window s t (w.taken s t here) 0 ≡ lists ends.events s 0
unfolding ends
cut-is w s t here = sym ((leaves w).held s t here 0)

shows : (s t : ℕ) (here : In (s, t) flash_set) → (ends.control.volume t).tracks ≡ 1 → view (fields_at ends.control) ends.contents t 0 ≡ image (histories ends.events).write (lists ends.events s 0)
unfolding ends sound-there
shows s t here size =
    (leaves sound-there).shown s t here 0 (subst (λ n. 0 < n) (sym size) (omega arith)) (pairs s t here).unreached
    ∙ ap (image (histories ends.events).write) (cut-is sound-there s t here)

first-shows : view (fields_at ends.control) ends.contents 4098 0 ≡ laid 0 (97 ∷ []) zeros
first-shows = shows 4096 4098 (inl refl) sizes.0 ∙ (ap (image (histories ends.events).write) lists-are.0 ∙ first-image)

second-shows : view (fields_at ends.control) ends.contents 4099 0 ≡ zeros
second-shows = shows 4097 4099 (inr (inl refl)) sizes.1 ∙ (ap (image (histories ends.events).write) lists-are.1 ∙ second-image)

pub first_cut : (w : IsSoundWindow flash_set flash_begins flash_window) (here : In (4096, 4098) flash_set) → cut_at flash_begins flash_window 4096 4098 (w.taken 4096 4098 here) 0 ≡ 1 ∷ []
unfolding begins window
first_cut w here = cut-is w 4096 4098 here ∙ lists-are.0

pub second_cut : (w : IsSoundWindow flash_set flash_begins flash_window) (here : In (4097, 4099) flash_set) → cut_at flash_begins flash_window 4097 4099 (w.taken 4097 4099 here) 0 ≡ []
unfolding begins window
second_cut w here = cut-is w 4097 4099 here ∙ lists-are.1

pub first_shows : view (fields_at flash_ends.control) flash_ends.contents 4098 0 ≡ laid 0 (97 ∷ []) zeros
unfolding begins window ends
first_shows = first-shows

pub second_shows : view (fields_at flash_ends.control) flash_ends.contents 4099 0 ≡ zeros
unfolding begins window ends
second_shows = second-shows
