-- The example of a track that is shown, carried out.
use Rattle.std.proofs.Common.{ℕ, ◌≡◌, refl, ap, sym, ◌∙◌, append_assoc, true, cond, Bool, List, [], ◌∷◌, ◌++◌, length, Option, Some, None}
use Rattle.std.specs.List.{slice_get}
use Rattle.dr_logic.specs.Bytes.{zeros}
use Rattle.dr_ids.specs.declared.refusal.Refusal.TheVariants.{JournalFull}
use Rattle.dr_model.specs.declared.event.Event.{Event}
use Rattle.dr_model.specs.declared.event.Event.TheVariants.{Shown}
use Rattle.dr_model.specs.declared.said.Addition.TheVariants.{Showed}
use Rattle.dr_model.specs.declared.said.Said.TheVariants.{Done}
use Rattle.dr_model.specs.Answers.{answer}
use Rattle.dr_model.specs.Contents.{image, laid, image_at}
use Rattle.dr_model.specs.Histories.{histories}
use Rattle.dr_model.specs.Layout.{Blocks}
use Rattle.dr_model.specs.Control.{Fuse, World}
use Rattle.dr_model.specs.Sessions.{changed}
use Rattle.dr_model.specs.Phases.{servers_where}
use Rattle.dr_model.specs.PlanParts.{Plan, refuses, unless}
use Rattle.dr_model.specs.Plans.{has_room, show_refusal, show_done}
use Rattle.dr_model.specs.Carry.{act, carry, turn, update_keeping, stopped_at}
use Rattle.dr_model.specs.Fits.{Fits}
use Rattle.dr_model.specs.Runs.{course, after_plan, after_task, after_tasks, run}
use Rattle.dr_laws_sound.specs.Acknowledged.{said_in, part_answer}
use Rattle.dr_laws_sound.specs.Showing.{reads_as}
use Rattle.dr_laws_sound.proofs.Journal.{run-more}
use Rattle.dr_laws_sound.proofs.Shows.{shown-run}
use Rattle.dr_laws_examples.specs.WayHome.{way_home, shows, shown_home}
use Rattle.dr_laws_examples.proofs.WayHome.{parted, back, sent, home, home-is}

-- these bytes are told and answered after what a journal has
abbrev With : List Event → List ℕ → List Event
With events bytes = events ++ Shown 1 4096 1 bytes ∷ answer 1 (Done Showed) ∷ []

-- if nothing refuses it, a track is shown as the host writes of the journal say
record MayShow (w : World) : Type 0 where
  room : has_room w.events ≡ true
  free : show_refusal w.control 4096 1 ≡ None

plan-is : (w : World) → MayShow w → (course w shows).last.plan ≡ show_done w.events 1 4096 1
plan-is w f =
    ap (λ c. cond c (unless (show_refusal w.control 4096 1) (show_done w.events 1 4096 1)) (refuses JournalFull)) f.room
    ∙ ap (λ r. unless r (show_done w.events 1 4096 1)) f.free

says-done : (w : World) → part_answer (record { world = w; plan = show_done w.events 1 4096 1 }) ≡ Done Showed
unfolding carry
says-done w = refl

tells-done : (w : World) → (after_plan w 1 (show_done w.events 1 4096 1)).events ≡ With w.events (image_at w.events 4096 1)
unfolding after_plan carry
tells-done w = append_assoc w.events (Shown 1 4096 1 (image_at w.events 4096 1) ∷ []) (answer 1 (Done Showed) ∷ [])

home-may : MayShow home
unfolding zeros home sent back parted after_tasks after_plan carry act turn update_keeping stopped_at image histories changed servers_where
home-may = record { room = refl; free = refl }

home-image : image_at home.events 4096 1 ≡ laid 0 (98 ∷ []) zeros
unfolding laid zeros home sent back parted after_tasks after_plan carry act turn update_keeping stopped_at image histories changed servers_where
home-image = refl

home-says : said_in home shows ≡ Done Showed
home-says = ap (λ (p : Plan). part_answer (record { world = home; plan = p })) (plan-is home home-may) ∙ says-done home

home-tells : (after_task home shows).events ≡ With home.events (laid 0 (98 ∷ []) zeros)
home-tells =
    ap (λ (p : Plan). (after_plan home 1 p).events) (plan-is home home-may)
    ∙ (tells-done home
    ∙ ap (With home.events) home-image)

pub says : said_in (run way_home) shows ≡ Done Showed
says = ap (λ w. said_in w shows) home-is ∙ home-says

pub tells : (run shown_home).events ≡ With (run way_home).events (laid 0 (98 ∷ []) zeros)
tells = ap (λ (w : World). w.events) (run-more way_home shows) ∙ (ap (λ w. (after_task w shows).events) home-is ∙ (home-tells ∙ ap (λ (w : World). With w.events (laid 0 (98 ∷ []) zeros)) (sym home-is)))

-- ---- what the law gives

-- the bytes at a place of a journal, if a track was shown there
abbrev bytes_in : Option Event → List ℕ
bytes_in (Some (Shown line v t bytes)) = bytes
bytes_in e = []

-- the event after a list
at-end : (es : List Event) (e : Event) (more : List Event) → slice_get (es ++ e ∷ more) (length es) ≡ Some e
at-end [] e more = refl
at-end (x ∷ es) e more = at-end es e more

pub reads : (on : ℕ → Bool) (fuse : ℕ → Option Fuse) (device : ℕ → Blocks) → Fits (run shown_home) on fuse device → reads_as (run shown_home).control device 4096 1 ≡ laid 0 (98 ∷ []) zeros
reads on fuse device fits =
    let events : List Event = (run way_home).events in
    let on_it : List ℕ = reads_as (run shown_home).control device 4096 1 in
    let same : With events on_it ≡ With events (laid 0 (98 ∷ []) zeros) = sym (shown-run shown_home on fuse device fits way_home shows 4096 1 Showed refl refl says) ∙ tells in
    ap bytes_in
    (sym (at-end events (Shown 1 4096 1 on_it) (answer 1 (Done Showed) ∷ []))
    ∙ (ap (λ es. slice_get es (length events)) same
    ∙ at-end events (Shown 1 4096 1 (laid 0 (98 ∷ []) zeros)) (answer 1 (Done Showed) ∷ [])))
