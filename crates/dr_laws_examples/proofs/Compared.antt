-- The examples of a comparison, carried out: of two volumes that contain the same, and of two that don't.
use Rattle.std.proofs.Common.{ℕ, ◌≡◌, refl, ap, ◌∙◌, subst, true, cond, [], ◌∷◌, Option, Some, None}
use Rattle.dr_logic.specs.Bytes.{zeros}
use Rattle.dr_ids.specs.declared.refusal.Kind.TheVariants.{Volume as OfVolume}
use Rattle.dr_ids.specs.declared.refusal.Refusal.TheVariants.{JournalFull, NotIdentical}
use Rattle.dr_ids.specs.declared.refusal.Which.TheVariants.{Size}
use Rattle.dr_model.specs.Refusals.{unknown, over}
use Rattle.dr_model.specs.declared.said.Addition.TheVariants.{Alone}
use Rattle.dr_model.specs.declared.said.Said.{Said}
use Rattle.dr_model.specs.declared.said.Said.TheVariants.{Done, Refused}
use Rattle.dr_model.specs.Contents.{image, laid, image_at}
use Rattle.dr_model.specs.Histories.{histories}
use Rattle.dr_model.specs.Layout.{Blocks}
use Rattle.dr_model.specs.Control.{Control, World}
use Rattle.dr_model.specs.Sessions.{changed}
use Rattle.dr_model.specs.Phases.{servers_where}
use Rattle.dr_model.specs.Entries.{running_check, share_size, is_no_target}
use Rattle.dr_model.specs.PairEntries.{refuse_if, first_differing, differs_at}
use Rattle.dr_model.specs.PlanParts.{Plan, entries_plan, refuses}
use Rattle.dr_model.specs.Plans.{has_room, is_defined, compare_plan}
use Rattle.dr_model.specs.Carry.{act, carry, check, turn, update_keeping, stopped_at}
use Rattle.dr_model.specs.Fits.{on_device}
use Rattle.dr_model.specs.Allowed.{Runs}
use Rattle.dr_model.specs.Laws.{Sound}
use Rattle.dr_model.specs.Runs.{after_plan, after_tasks, run}
use Rattle.dr_laws_sound.specs.Acknowledged.{said_in, part_answer}
use Rattle.dr_laws_sound.proofs.Compares.{same-differing}
use Rattle.dr_laws_sound.proofs.Steps.{sound-run}
use Rattle.dr_laws_recovery.specs.Recovered.{HoldsTracks}
use Rattle.dr_laws_return.specs.Compared.{AreSame, DifferFirst, Tells}
use Rattle.dr_laws_return.proofs.Compared.{compared-run}
use Rattle.dr_laws_examples.specs.WayHome.{taken_over, way_home, compares, compared_home, compared_apart}
use Rattle.dr_laws_examples.proofs.WayHome.{parted, back, sent, home, home-is}

-- the plan of the comparison, by the track that differs first
comparing : World → Option ℕ → Plan
comparing w o =
    let k : Control = w.control in
    entries_plan
    (check (is_defined 4096) (unknown OfVolume) ∷ check (is_defined 8192) (unknown OfVolume) ∷ running_check k 4096 ∷ running_check k 8192
    ∷ check (share_size 4096 8192) (over Size) ∷ refuse_if (differs_at o) ∷ [])
    (Done Alone)

-- what is to be seen of a world in which both volumes have two tracks
record Stand (w : World) : Type 0 where
  plain : is_no_target 4096 w.control ≡ true
  other : is_no_target 8192 w.control ≡ true
  on : Runs w 4096
  runs : Runs w 8192
  size : share_size 4096 8192 w.control ≡ true
  tracks : (w.control.volume 4096).tracks ≡ 2
  room : has_room w.events ≡ true

-- which track differs first is seen from the host writes of the journal
differing : (w : World) → Sound w → Stand w → first_differing w.contents (w.control.volume 4096).tracks 4096 8192 ≡ first_differing (image_at w.events) 2 4096 8192
differing w s f = same-differing w s 4096 8192 f.plain f.other f.on f.runs f.size ∙ ap (λ n. first_differing (image_at w.events) n 4096 8192) f.tracks

-- so what is answered goes by them
answers : (w : World) → Sound w → Stand w → (o : Option ℕ) (a : Said) → first_differing (image_at w.events) 2 4096 8192 ≡ o → part_answer (record { world = w; plan = comparing w o }) ≡ a → said_in w compares ≡ a
unfolding comparing
answers w s f o a is says =
    ap (λ c. part_answer (record { world = w; plan = cond c (compare_plan w.control w.contents 4096 8192) (refuses JournalFull) })) f.room
    ∙ (ap (λ d. part_answer (record { world = w; plan = comparing w d })) (differing w s f ∙ is) ∙ says)

-- ---- on the way home

home-stands : Stand home
unfolding laid zeros home sent back parted after_tasks after_plan carry act turn update_keeping stopped_at image histories changed servers_where
home-stands = record { plain = refl; other = refl; on = refl; runs = refl; size = refl; tracks = refl; room = refl }

home-alike : first_differing (image_at home.events) 2 4096 8192 ≡ None
unfolding laid zeros home sent back parted after_tasks after_plan carry act turn update_keeping stopped_at image histories changed servers_where
home-alike = refl

home-answer : part_answer (record { world = home; plan = comparing home None }) ≡ Done Alone
unfolding laid zeros comparing home sent back parted after_tasks after_plan carry act turn update_keeping stopped_at image histories changed servers_where
home-answer = refl

home-says : said_in home compares ≡ Done Alone
home-says = answers home (subst Sound home-is (sound-run way_home)) home-stands None (Done Alone) home-alike home-answer

pub says_same : said_in (run way_home) compares ≡ Done Alone
says_same = ap (λ w. said_in w compares) home-is ∙ home-says

-- ---- right after the host's write

parted-stands : Stand parted
unfolding laid zeros parted after_tasks after_plan carry act turn update_keeping stopped_at image histories changed servers_where
parted-stands = record { plain = refl; other = refl; on = refl; runs = refl; size = refl; tracks = refl; room = refl }

parted-apart : first_differing (image_at parted.events) 2 4096 8192 ≡ Some 1
unfolding laid zeros parted after_tasks after_plan carry act turn update_keeping stopped_at image histories changed servers_where
parted-apart = refl

parted-answer : part_answer (record { world = parted; plan = comparing parted (Some 1) }) ≡ Refused (NotIdentical 1)
unfolding laid zeros comparing parted after_tasks after_plan carry act turn update_keeping stopped_at image histories changed servers_where
parted-answer = refl

pub says_apart : said_in (run taken_over) compares ≡ Refused (NotIdentical 1)
unfolding parted
says_apart = answers parted (sound-run taken_over) parted-stands (Some 1) (Refused (NotIdentical 1)) parted-apart parted-answer

-- ---- what the law gives

-- what an answer to the comparison says of these devices
abbrev TellsOn : World → (ℕ → Blocks) → Said → Type 0
TellsOn w device a = Tells w.control (on_device w.control device) 4096 8192 a

pub same : (device : ℕ → Blocks) → HoldsTracks (run compared_home) device → AreSame (run compared_home).control (on_device (run compared_home).control device) 4096 8192 ((run compared_home).control.volume 4096).tracks
same device holds = subst (TellsOn (run compared_home) device) says_same (compared-run compared_home device holds way_home compares 4096 8192 refl refl)

pub apart : (device : ℕ → Blocks) → HoldsTracks (run compared_apart) device → DifferFirst (run compared_apart).control (on_device (run compared_apart).control device) 4096 8192 1
apart device holds = subst (TellsOn (run compared_apart) device) says_apart (compared-run compared_apart device holds taken_over compares 4096 8192 refl refl)
