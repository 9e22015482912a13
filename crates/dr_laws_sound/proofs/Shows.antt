-- What a step that shows a track tells the journal is what the track reads as on the devices.
use Rattle.std.proofs.Common.{ℕ, ◌≡◌, ◌<◌, refl, ap, sym, ◌∙◌, subst, append_assoc, arith, Bool, true, false, cond, not, nat_lt, List, [], ◌∷◌, ◌++◌, Option, Some, None, Ok}
use Rattle.std.specs.Option.{option_or}
use Rattle.std.proofs.lemmas.Bool.Decides.{nat_tests}
use Rattle.dr_ids.specs.declared.refusal.Refusal.{Refusal}
use Rattle.dr_ids.specs.declared.refusal.Refusal.TheVariants.{JournalFull}
use Rattle.dr_model.specs.declared.event.Event.TheVariants.{Shown}
use Rattle.dr_model.specs.declared.said.Addition.{Addition}
use Rattle.dr_model.specs.declared.said.Addition.TheVariants.{Showed}
use Rattle.dr_model.specs.declared.said.Said.TheVariants.{Done}
use Rattle.dr_model.specs.declared.step.Step.TheVariants.{Show}
use Rattle.dr_model.specs.Answers.{answer}
use Rattle.dr_model.specs.Histories.{Histories, histories}
use Rattle.dr_model.specs.Contents.{image, image_at}
use Rattle.dr_model.specs.Layout.{Blocks}
use Rattle.dr_model.specs.Control.{Control, Fuse, Volume, World, is_volume}
use Rattle.dr_model.specs.Entries.{is_running}
use Rattle.dr_model.specs.Laws.{Sound}
use Rattle.dr_model.specs.Fits.{Fits}
use Rattle.dr_model.specs.Plans.{Plan, same, refuses, unless, show_refusal, show_done, plan_of, has_room}
use Rattle.dr_model.specs.Runs.{Task, carried_out, answered, answered_part, after_task, run}
use Rattle.dr_model.proofs.CarryLemmas.{plan-tables}
use Rattle.dr_model.proofs.Images.{histories-append}
use Rattle.dr_laws_sound.specs.Acknowledged.{said_in}
use Rattle.dr_laws_sound.specs.Showing.{reads_as, ShowsDevices}
use Rattle.dr_laws_sound.proofs.AcknowledgingSteps.{if-plan}
use Rattle.dr_laws_sound.proofs.Agree.{view-due, view-image}
use Rattle.dr_laws_sound.proofs.Journal.{run-more}
use Rattle.dr_laws_sound.proofs.Steps.{sound-run}

-- the track is there, and its volume's server is on
record Stands (k : Control) (v q : ℕ) : Type 0 where
  there : is_volume k v ≡ true
  low : nat_lt q (k.volume v).tracks ≡ true
  runs : is_running v k ≡ true

stands : (k : Control) (v q : ℕ) → show_refusal k v q ≡ None → Stands k v q
stands k v q = by (is_volume k v) (nat_lt q (k.volume v).tracks) (is_running v k) refl refl refl _ _ _
  where
    by : (a b c : Bool) → is_volume k v ≡ a → nat_lt q (k.volume v).tracks ≡ b → is_running v k ≡ c → (x y z : Refusal) → option_or (cond (not a) (Some x) (cond b None (Some y))) (cond c None (Some z)) ≡ None → Stands k v q
    by true true true there low runs x y z h = record { there = there; low = low; runs = runs }
    by true true false there low runs x y z h = absurd cc
    by true false c there low runs x y z h = absurd cc
    by false b c there low runs x y z h = absurd cc

module _ (w : World) (line v q : ℕ) where
  -- from w to u the track was shown
  record WasShown (u : World) : Type 0 where
    stands : Stands w.control v q
    events : u.events ≡ w.events ++ Shown line v q (image_at w.events v q) ∷ answer line (Done Showed) ∷ []
    volume : u.control.volume ≡ w.control.volume
    volumes : u.control.volumes ≡ w.control.volumes
    on : u.control.on ≡ w.control.on

  -- a plan that isn't refused shows it
  abbrev Shows : Plan → Type 0
  Shows p = (x : Addition) → answered p (carried_out w p).0.control (carried_out w p).1 ≡ Done x → WasShown (answered_part line (record { world = w; plan = p }))

  refused-shows : (r : Refusal) → Shows (refuses r)
  refused-shows r x h = absurd (by (carried_out w (refuses r)).0.control (carried_out w (refuses r)).1 h)
    where
      by : (k : Control) (o : Option Refusal) → answered (refuses r) k o ≡ Done x → ⊥
      by k None h = cc
      by k (Some s) h = cc

  done-shows : Stands w.control v q → Shows (show_done w.events line v q)
  done-shows s x h =
      let is = plan-tables w line same (Shown line v q (image_at w.events v q) ∷ []) (Done Showed) in
      record {
        stands = s;
        events = ap (λ (u : World). u.events) is ∙ append_assoc w.events (Shown line v q (image_at w.events v q) ∷ []) (answer line (Done Showed) ∷ []);
        volume = ap (λ (u : World). u.control.volume) is;
        volumes = ap (λ (u : World). u.control.volumes) is;
        on = ap (λ (u : World). u.control.on) is;
      }

  plan-shows : Shows (plan_of w.control w.events line (Show v q))
  plan-shows = by (show_refusal w.control v q) refl
    where
      by : (o : Option Refusal) → show_refusal w.control v q ≡ o → Shows (unless o (show_done w.events line v q))
      by None free = done-shows (stands w.control v q free)
      by (Some r) free = refused-shows r

  abbrev t : Task
  t = record { line = line; asked = Ok (Show v q); listed = [] }

  task-shows : (x : Addition) → said_in w t ≡ Done x → WasShown (after_task w t)
  task-shows =
      if-plan Shows refused-shows (has_room w.events) (plan_of w.control w.events line (Show v q)) (refuses JournalFull) plan-shows (refused-shows JournalFull)

-- what was shown is what the track reads as on devices that fit
reads-shown : (w u : World) (line v q : ℕ) → Sound u → WasShown w line v q u → (on : ℕ → Bool) (fuse : ℕ → Option Fuse) (device : ℕ → Blocks) → Fits u on fuse device → reads_as u.control device v q ≡ image_at w.events v q
reads-shown w u line v q sound shown on fuse device fits =
    let there : is_volume u.control v ≡ true = subst (λ vs. is_volume (record w.control { volumes = vs }) v ≡ true) (sym shown.volumes) shown.stands.there in
    let tracks : nat_lt q (u.control.volume v).tracks ≡ true = ap (λ (vs : ℕ → Volume). nat_lt q (vs v).tracks) shown.volume ∙ shown.stands.low in
    let low : q < (u.control.volume v).tracks = grind (arith, nat_tests, tracks) in
    let runs : is_running v u.control ≡ true = (λ i. shown.on i (shown.volume i v).server) ∙ shown.stands.runs in
    let lists : histories u.events ≡ histories w.events = ap histories shown.events ∙ histories-append w.events (Shown line v q (image_at w.events v q) ∷ answer line (Done Showed) ∷ []) in
    fits.tracks v q there low ∙ sym (view-due u sound v q low) ∙ view-image u sound v q low runs ∙ ap (λ (h : Histories). image h.write (h.now v q)) lists

pub shown-run : (tasks : List Task) (on : ℕ → Bool) (fuse : ℕ → Option Fuse) (device : ℕ → Blocks) → Fits (run tasks) on fuse device → ShowsDevices tasks device
shown-run tasks on fuse device fits before t v q said is asked says =
    let w : World = run before in
    let u : World = run tasks in
    let same : t ≡ record { line = t.line; asked = Ok (Show v q); listed = t.listed } = λ i. record t { asked = asked i } in
    let leads : after_task w (record { line = t.line; asked = Ok (Show v q); listed = t.listed }) ≡ u = ap (after_task w) (sym same) ∙ sym (ap run is ∙ run-more before t) in
    let shown : WasShown w t.line v q u = subst (WasShown w t.line v q) leads (task-shows w t.line v q said (subst (λ t. said_in w t ≡ Done said) same says)) in
    shown.events ∙ ap (λ bytes. w.events ++ Shown t.line v q bytes ∷ answer t.line (Done Showed) ∷ []) (sym (reads-shown w u t.line v q (sound-run tasks) shown on fuse device fits))
