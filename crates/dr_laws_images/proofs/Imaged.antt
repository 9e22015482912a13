-- Images of a run: what each of them lists, that it is read back, and what it leaves.
use Rattle.std.proofs.Common.{ℕ, ◌≡◌, refl, ap, sym, ◌∙◌, subst, Bool, true, false, cond, List, [], ◌∷◌, ◌++◌, Option, Some}
use Rattle.std.proofs.lemmas.List.Elements.{All-weaker}
use Rattle.dr_ids.specs.declared.refusal.Refusal.TheVariants.{JournalFull}
use Rattle.dr_model.specs.Layout.{Blocks}
use Rattle.dr_model.specs.Limits.{image_events}
use Rattle.dr_model.specs.Control.{Fuse, World, nothing}
use Rattle.dr_model.specs.Carry.{carry}
use Rattle.dr_model.specs.Plans.{refuses, has_room_for}
use Rattle.dr_model.specs.Fits.{Fits, SaysVolume}
use Rattle.dr_model.specs.PlantImage.{Volume, device_blocks}
use Rattle.dr_model.specs.Listed.{IsListed, ListsAll, ListsIf, ListsBy, Lists, ListsAlong}
use Rattle.dr_model.specs.Runs.{Task, Devices, own_course, course_of, answered_part, imaged, image_plan, after_plan, after_task, after_tasks, run}
use Rattle.dr_laws_sound.proofs.Steps.{sound-run}
use Rattle.dr_laws_sound.proofs.Journal.{run-more}
use Rattle.dr_laws_sound.proofs.Limits.{within-run}
use Rattle.dr_laws_recovery.specs.Recovered.{HoldsTracks}
use Rattle.dr_laws_images.specs.Imaged.{IsImaged, AllReadBack, LastGivesBack}
use Rattle.dr_laws_images.proofs.Proper.{is-image, reads-back}
use Rattle.dr_laws_images.proofs.Servers.{run-one}
use Rattle.dr_laws_images.proofs.Stands.{world-back, devices-back}

-- what each step of a run lists
lists-at : (w : World) (before rest : List Task) (t : Task) → ListsAlong w (before ++ t ∷ rest) → Lists (after_tasks w before) t
unfolding after_tasks
lists-at w [] rest t along = along.0
lists-at w (b ∷ before) rest t along = lists-at (after_task w b) before rest t along.1

lists-all : (w : World) (t : Task) → IsImaged w t → Lists w t → ListsAll w t.listed
lists-all w t i lists = subst (λ room. ListsIf room w t.listed) i.room (subst (ListsBy w t.listed) i.asks lists)

lists-there : (tasks before rest : List Task) (t : Task) → ListsAlong nothing tasks → tasks ≡ before ++ t ∷ rest → IsImaged (run before) t → ListsAll (run before) t.listed
lists-there tasks before rest t along is i = lists-all (run before) t i (lists-at nothing before rest t (subst (ListsAlong nothing) is along))

pub all-read-back : (tasks : List Task) → ListsAlong nothing tasks → AllReadBack tasks
all-read-back tasks along before rest t is i =
    let w : World = run before in
    let all : ListsAll w t.listed = lists-there tasks before rest t along is i in
    record {
      proper = is-image w (sound-run before) t.listed all (run-one before) (within-run before).volumes;
      reads = reads-back w (sound-run before) t.listed all (run-one before) (within-run before).volumes;
      gives = world-back w (sound-run before) t.listed all;
    }

-- ---- the image that ends a run

-- an image changes nothing but the journal
lists-on : (w u : World) (vs : List Volume) → u.control.volumes ≡ w.control.volumes → u.control.volume ≡ w.control.volume → u.contents ≡ w.contents → ListsAll w vs → ListsAll u vs
lists-on w u vs volumes volume contents all = record {
  volumes = all.volumes ∙ sym volumes;
  each = All-weaker (IsListed w) (IsListed u) (λ v l. record {
    proper = l.proper;
    server = l.server ∙ ap (λ f. (f v.volume).server) (sym volume);
    tracks = l.tracks ∙ ap (λ f. (f v.volume).tracks) (sym volume);
    says = subst (λ f. SaysVolume (device_blocks v) (f v.volume)) (sym volume) l.says;
    holds = λ t lt. l.holds t lt ∙ ap (λ f. f v.volume t) (sym contents);
  }) vs all.each;
}

-- what an image leaves
record Leaves (w u : World) : Type 0 where
  volumes : u.control.volumes ≡ w.control.volumes
  volume : u.control.volume ≡ w.control.volume
  contents : u.contents ≡ w.contents

image-leaves : (w : World) (line : ℕ) (vs : List Volume) → Leaves w (after_plan w line (imaged w vs))
unfolding after_plan carry
image-leaves w line vs = by (has_room_for image_events w.events)
  where
    by : (room : Bool) → Leaves w (after_plan w line (cond room (image_plan vs) (refuses JournalFull)))
    by true = record { volumes = refl; volume = refl; contents = refl }
    by false = record { volumes = refl; volume = refl; contents = refl }

lists-after : (w : World) (t : Task) → own_course t.asked ≡ Some Devices → ListsAll w t.listed → ListsAll (after_task w t) t.listed
lists-after w t image all =
    let u : World = answered_part t.line (course_of w t (Some Devices)).last in
    let l : Leaves w (after_plan w t.line (imaged w t.listed)) = image-leaves w t.line t.listed in
    subst (λ o. ListsAll (answered_part t.line (course_of w t o).last) t.listed) (sym image) (lists-on w u t.listed l.volumes l.volume l.contents all)

pub last-gives-back : (tasks : List Task) (on : ℕ → Bool) (fuse : ℕ → Option Fuse) (device : ℕ → Blocks) → ListsAlong nothing tasks → Fits (run tasks) on fuse device → HoldsTracks (run tasks) device → LastGivesBack tasks device
last-gives-back tasks on fuse device along fits holds before t is i =
    let w : World = run tasks in
    let all : ListsAll (run before) t.listed = lists-there tasks before [] t along is i in
    let here : ListsAll w t.listed = subst (λ u. ListsAll u t.listed) (sym (ap run is ∙ run-more before t)) (lists-after (run before) t i.asks all) in
    devices-back w (sound-run tasks) t.listed here device (λ v h. (fits.volumes v h).fields) holds
