-- Worlds that some steps lead to.
use Rattle.std.proofs.Common.{ℕ, Bool, ◌||◌, true, false, nat_le, Option, None, ◌≡◌, ◌<◌, ◌≤◌, ◌+◌, List, [], ◌∷◌, ◌++◌, take, map, length, refl, ap, ◌∙◌, sym, subst, arith, Some, Ok, Err}
use Rattle.std.specs.Prelude.{slice_get, IsSome, All}
use denote.Ref.{Bor}
use Rattle.std.proofs.lemmas.Bool.Decides.{nat_tests}
use Rattle.std.specs.Option.{option_map, option_copied}
use Rattle.std.proofs.lemmas.List.{take_more, length-map, length-append}
use Rattle.std.proofs.lemmas.List.Folds.{list_any-append}
use Rattle.std.proofs.lemmas.Option.{get_or_from_slice_get, slice_get-map}
use Rattle.dr_model.specs.declared.step.Step.{Step}
use Rattle.dr_ids.specs.declared.refusal.Refusal.TheVariants.{Syntax}
use Rattle.dr_model.specs.declared.event.Event.{Event}
use Rattle.dr_model.specs.declared.said.Said.TheVariants.{Refused}
use Rattle.dr_model.specs.Answers.{answer}
use Rattle.dr_model.specs.Grammar.{line_of}
use Rattle.dr_model.specs.Control.{World, nothing}
use Rattle.dr_model.specs.Lines.{task, tasks_read, tasks_of}
use Rattle.dr_model.specs.Listed.{Lists}
use Rattle.dr_model.specs.Runs.{Task, after_task, after_tasks}
use Rattle.dr_model.specs.Laws.{FlightCounted, Sound}
use Rattle.dr_model.specs.LineText.{IsWritten}
use Rattle.dr_model.specs.Limits.{most_events}
use Rattle.dr_laws_sound.proofs.FlightCounts.{counted-run}
use Rattle.dr_laws_sound.proofs.Steps.{sound-run}
use Rattle.dr_laws_sound.proofs.Journal.{issued-task, after_task-longer}
use Rattle.dr_laws_sound.specs.Limits.{IsWithin}
use Rattle.dr_laws_sound.proofs.Limits.{within-run, journal-fits}
use Rattle.dr_top.specs.Carried.{Reached}
use Rattle.dr_steps.specs.Faults.{is_stop, told_stop}
use Rattle.dr_steps.specs.declared.tables.Tables.{Tables}
use Rattle.dr_plant.specs.State.{PlantState}
use Rattle.dr_config.specs.Table.{ConfigTable}
use Rattle.dr_config.specs.declared.entries.VolumeEntry.{VolumeEntry}
use Rattle.dr_volume.specs.View.{ids_of}
use Rattle.dr_steps.specs.Here.{here}
use Rattle.dr_top.proofs.TaskLemmas.{tasks-then}
use Rattle.dr_config.proofs.Lists.{element-at}

pub reached-more : (w u : World) (ts : List Task) → Reached w → after_tasks w ts ≡ u → Reached u
reached-more w u ts r is = (r.0 ++ ts, tasks-then nothing r.0 ts ∙ ap (λ x. after_tasks x ts) r.1 ∙ is)

-- one more of a list
pub take-next : {X : Type 0} (xs : List X) (i : ℕ) (x : X) → i < length xs → slice_get xs i ≡ Some x → take (i + 1) xs ≡ take i xs ++ x ∷ []
take-next xs i x lt at = take_more xs i x lt ∙ ap (λ y. take i xs ++ y ∷ []) (get_or_from_slice_get xs i x x at)

-- the steps that were read, one more of them
module _ (number : ℕ) (steps : List Step) where
  abbrev asked : Step → Task
  asked s = task number (Ok s)

  pub tasks-count : length (tasks_read number (Ok steps)) ≡ length steps
  tasks-count = length-map steps asked

  pub steps-next : (i : ℕ) (s : Step) → i < length steps → slice_get steps i ≡ Some s → take (i + 1) (tasks_read number (Ok steps)) ≡ take i (tasks_read number (Ok steps)) ++ asked s ∷ []
  steps-next i s lt at = take-next (map asked steps) i (asked s) (let n = tasks-count in omega (arith, n, lt)) (slice_get-map asked steps i ∙ ap (option_map asked) at)

-- what holds of such a world
pub reached-sound : (w : World) → Reached w → Sound w
reached-sound w r = subst Sound r.1 (sound-run r.0)

issued-more : (w : World) (ts : List Task) → w.control.issued ≤ length w.events → (after_tasks w ts).control.issued ≤ length (after_tasks w ts).events
unfolding after_tasks
issued-more w [] few = few
issued-more w (t ∷ ts) few = issued-more (after_task w t) ts (let one = issued-task w t in let longer = after_task-longer w t in omega (arith, one, longer, few))

pub reached-issued : (w : World) → Reached w → w.control.issued ≤ length w.events
reached-issued w r = subst (λ (x : World). x.control.issued ≤ length x.events) r.1 (issued-more nothing r.0 (omega arith))

pub reached-counted : (w : World) → Reached w → FlightCounted w
reached-counted w r = subst FlightCounted r.1 (counted-run r.0)

pub reached-room : (w : World) (t : Task) → Reached w → Lists w t → length w.events < most_events → length (after_task w t).events ≤ most_events
reached-room w t r lists below = journal-fits w t lists (reached-sound w r) (subst (λ (x : World). IsWithin x.control) r.1 (within-run r.0)) below

-- a step at a place
pub some-step : (steps : List Step) (i : ℕ) (o : Option (Bor Step)) → i < length steps → option_copied o ≡ slice_get steps i → IsSome o
some-step steps i (Some b) lt is = refl
some-step steps i None lt is = let at = element-at steps i lt in absurd (let e : None ≡ Some at.0 = is ∙ at.1 in cc)

pub step-at : (steps : List Step) (i : ℕ) (s : Step) → i < length steps → Some s ≡ slice_get steps i → All IsWritten steps → IsWritten s
step-at steps i s lt at all = subst IsWritten (get_or_from_slice_get steps i s s (sym at)) (all i s lt)

pub below-full : (n : ℕ) → nat_le most_events n ≡ false → n < most_events
below-full n h = below most_events n h
  where
    below : (m n : ℕ) → nat_le m n ≡ false → n < m
    below m n h = grind (arith, nat_tests, h)

pub at-full : (n : ℕ) → nat_le most_events n ≡ true → n ≤ most_events → n ≡ most_events
at-full n h le = at most_events n h le
  where
    at : (m n : ℕ) → nat_le m n ≡ true → n ≤ m → n ≡ m
    at m n h le = grind (arith, nat_tests, h, le)

pub fault-room : (events now : List Event) (e : Event) → length events < most_events → now ≡ events ++ e ∷ [] → length now ≤ most_events
fault-room events now e below told = let sum = length-append events (e ∷ []) in let same = ap (λ es. length es) told in fits (length events) most_events (length now) below (omega (arith, sum, same))
  where
    fits : (n m k : ℕ) → n < m → k ≡ n + 1 → k ≤ m
    fits n m k lt e = omega (arith, lt, e)

pub fault-calm : (number column : ℕ) (events now : List Event) → now ≡ events ++ answer number (Refused (Syntax column)) ∷ [] → told_stop now ≡ told_stop events
fault-calm number column events now told = ap told_stop told ∙ list_any-append is_stop events (answer number (Refused (Syntax column)) ∷ []) ∙ or_no (told_stop events)
  where
    or_no : (b : Bool) → (b || false) ≡ b
    or_no true = refl
    or_no false = refl

-- what was read of a line has its steps
pub read-ok : (number : ℕ) (line : List ℕ) (steps : List Step) → line_of line ≡ Ok steps → tasks_of number line ≡ tasks_read number (Ok steps)
read-ok number line steps is = ap (tasks_read number) is

pub read-fault : (number : ℕ) (line : List ℕ) (column : ℕ) → line_of line ≡ Err column → tasks_of number line ≡ tasks_read number (Err column)
read-fault number line column is = ap (tasks_read number) is

-- a configuration that was reached has few volumes
pub reached-few : (s : PlantState) (t : ConfigTable) (h : Tables) (ev : List Event) → Reached (here s t h ev) → length t.volumes ≤ 64
reached-few s t h ev reached =
    let within = subst (λ (w : World). IsWithin w.control) reached.1 (within-run reached.0) in
    let few : length (ids_of t.volumes) ≤ 64 = within.volumes in
    let same : length (ids_of t.volumes) ≡ length t.volumes = length-map t.volumes (λ (e : VolumeEntry). e.id) in
    omega (arith, few, same)
