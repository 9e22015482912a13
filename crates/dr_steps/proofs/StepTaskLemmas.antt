-- A step of a line, with its answer.
use Rattle.std.proofs.Common.{ℕ, ◌≡◌, ◌≤◌, ◌+◌, ◌-◌, List, [], ◌∷◌, ◌++◌, refl, ap, ◌∙◌, sym, subst, arith, Bool, true, false, ◌||◌, cond, nat_le, Ok, Err, Result, Option, None, Some}
use Rattle.std.specs.Prelude.{OnOk, OnErr}
use Rattle.std.specs.List.{list_any}
use Rattle.std.proofs.lemmas.List.{same_from_push}
use Rattle.std.proofs.lemmas.List.Folds.{list_any-append}
use Rattle.std.proofs.lemmas.Bool.Decides.{nat_tests}
use Rattle.std.proofs.lemmas.Bool.{or_parts}
use Rattle.std.proofs.Math.Bool.{or-false}
use Rattle.dr_logic.specs.Counts.{Rose, Counted}
use Rattle.dr_ids.specs.declared.refusal.Refusal.{Refusal}
use Rattle.dr_ids.specs.declared.refusal.Refusal.TheVariants.{JournalFull, Stopped}
use Rattle.dr_model.specs.declared.event.Event.{Event}
use Rattle.dr_model.specs.declared.event.Event.TheVariants.{Answer}
use Rattle.dr_model.specs.declared.said.Addition.{Addition}
use Rattle.dr_model.specs.declared.said.Addition.TheVariants.{Alone, Wrote, Acked, Counted as CountedRows, InPhase, InGroup, Posted, Showed}
use Rattle.dr_model.specs.declared.said.Said.{Said}
use Rattle.dr_model.specs.declared.said.Said.TheVariants.{Done, Held, Refused}
use Rattle.dr_model.specs.declared.step.Name.{Name}
use Rattle.dr_model.specs.declared.step.Step.{Step}
use Rattle.dr_model.specs.declared.step.Step.TheVariants.{Server, Volume, Link, Stop, StopAfter, Start, Issue, Write, Apply, Show, MakeFlash, RemoveFlash, ResyncFlash, ReverseFlash, UnfreezeFlash, Copy, Destage, MakePath, RemovePath, MakePair, RemovePair, PausePair, ResumePair, Failover, Failback, Drain, Expire, Freeze, Unfreeze, MakeSession, RemoveSession, AddMember, RemoveMember, MakeMirror, PauseMirror, ResumeMirror, RemoveMirror, Abort, Exchange, Send, Deliver, Lose, Run, Compare, Image, Recover, CommitFlash, RevertFlash, ListPairs, ListFlashes, ListSession, ShowMirror}
use Rattle.dr_model.specs.declared.step.TornWord.{TornWord}
use Rattle.dr_model.specs.declared.step.Devs.{Devs}
use Rattle.dr_model.specs.declared.step.PairChoices.{PairChoices}
use Rattle.dr_steps.specs.Forms.{is_defining, is_hosted, is_listing, is_plain, is_relation, is_pair, is_session, is_recovery}
use Rattle.dr_model.specs.Answers.{answer}
use Rattle.dr_model.specs.Control.{Control, World}
use Rattle.dr_model.specs.Plans.{refuses, only_says, plan_of, compare_plan, has_room}
use Rattle.dr_model.specs.Runs.{Task, OwnCourse, Devices, own_course, course_of, answered_part, after_plan, after_task, masters_lost, said}
use Rattle.dr_model.specs.Layout.{Blocks}
use Rattle.dr_model.specs.Listed.{Lists, ListsBy, listed_by, task_on}
use Rattle.dr_model.proofs.CarryLemmas.{plan-refuses}
use Rattle.dr_laws_sound.proofs.Journal.{EndsAnswered, after_task-ends, is_answer, NoAnswer}
use Rattle.dr_steps.specs.declared.tables.Tables.{Tables}
use Rattle.dr_plant.specs.State.{PlantState}
use Rattle.dr_config.specs.Table.{ConfigTable}
use Rattle.dr_steps.specs.Faults.{is_stop, told_stop, is_stopped}
use Rattle.dr_steps.specs.Here.{here, IsTold}
use Rattle.dr_laws_sound.proofs.RefusedSteps.{lost-stays}
use Rattle.dr_host.specs.Writes.{EachPending, bytes_of}
use Rattle.dr_host.specs.declared.pending.Pending.{Pending}
use Rattle.dr_model.specs.Histories.{Histories, histories}
use Rattle.dr_model.proofs.Images.{histories-push}

-- an answer tells of no write
pub told-answer : (h : Tables) (events now : List Event) (line : ℕ) (a : Said) → now ≡ events ++ answer line a ∷ [] → IsTold h events → IsTold h now
told-answer h events now line a told is =
    subst (λ (x : Histories). EachPending (λ (p : Pending). x.write (p.w.0) ≡ record { volume = p.volume.0; track = p.track; offset = p.offset; bytes = bytes_of p }) h.host.pending)
    (sym (ap histories told ∙ histories-push events (answer line a))) is

-- a step of another form is none of those that define servers, volumes and links, is on no path, and no freeze or thaw
pub none-defining : (step : Step)
    → ((n : Name) → step ≡ Server n → ⊥)
    → ((v : ℕ) (n : Name) (t : ℕ) → step ≡ Volume v n t → ⊥)
    → ((a b : Name) (up : Bool) → step ≡ Link a b up → ⊥)
    → ((d : Devs) (s t : ℕ) (g : Bool) → step ≡ MakePath d s t g → ⊥)
    → ((d : Devs) (s t : ℕ) (f : Bool) → step ≡ RemovePath d s t f → ⊥)
    → ((d : Devs) (l m : ℕ) → step ≡ Freeze d l m → ⊥)
    → ((d : Devs) (l m : ℕ) → step ≡ Unfreeze d l m → ⊥)
    → is_defining step ≡ false
none-defining (Server n) server volume link path unpath freeze thaw = absurd (server n refl)
none-defining (Volume v n t) server volume link path unpath freeze thaw = absurd (volume v n t refl)
none-defining (Link a b up) server volume link path unpath freeze thaw = absurd (link a b up refl)
none-defining (MakePath d s t g) server volume link path unpath freeze thaw = absurd (path d s t g refl)
none-defining (RemovePath d s t f) server volume link path unpath freeze thaw = absurd (unpath d s t f refl)
none-defining (Freeze d l m) server volume link path unpath freeze thaw = absurd (freeze d l m refl)
none-defining (Unfreeze d l m) server volume link path unpath freeze thaw = absurd (thaw d l m refl)
none-defining _ server volume link path unpath freeze thaw = refl

-- or no host write, shows no track, and is on no server as it runs
pub none-hosted : (step : Step)
    → ((v t o l : ℕ) (b : List ℕ) → step ≡ Issue v t o l b → ⊥)
    → ((v t o l : ℕ) (b : List ℕ) → step ≡ Write v t o l b → ⊥)
    → ((n : ℕ) → step ≡ Apply n → ⊥)
    → ((v t : ℕ) → step ≡ Show v t → ⊥)
    → ((n : Name) → step ≡ Stop n → ⊥)
    → ((n : Name) (k : ℕ) (torn : TornWord) → step ≡ StopAfter n k torn → ⊥)
    → ((n : Name) → step ≡ Start n → ⊥)
    → ((n : Name) → step ≡ Expire n → ⊥)
    → is_hosted step ≡ false
none-hosted (Issue v t o l b) issue write apply show stop arm start expire = absurd (issue v t o l b refl)
none-hosted (Write v t o l b) issue write apply show stop arm start expire = absurd (write v t o l b refl)
none-hosted (Apply n) issue write apply show stop arm start expire = absurd (apply n refl)
none-hosted (Show v t) issue write apply show stop arm start expire = absurd (show v t refl)
none-hosted (Stop n) issue write apply show stop arm start expire = absurd (stop n refl)
none-hosted (StopAfter n x torn) issue write apply show stop arm start expire = absurd (arm n x torn refl)
none-hosted (Start n) issue write apply show stop arm start expire = absurd (start n refl)
none-hosted (Expire n) issue write apply show stop arm start expire = absurd (expire n refl)
none-hosted _ issue write apply show stop arm start expire = refl

-- or no listing
pub none-listing : (step : Step)
    → ((d : Devs) (v : ℕ) → step ≡ ListPairs d v → ⊥)
    → ((d : Devs) (v : ℕ) → step ≡ ListFlashes d v → ⊥)
    → ((d : Devs) (l : ℕ) → step ≡ ListSession d l → ⊥)
    → ((d : Devs) (l : ℕ) → step ≡ ShowMirror d l → ⊥)
    → is_listing step ≡ false
none-listing (ListPairs d v) pairs flashes members mirrors = absurd (pairs d v refl)
none-listing (ListFlashes d v) pairs flashes members mirrors = absurd (flashes d v refl)
none-listing (ListSession d l) pairs flashes members mirrors = absurd (members d l refl)
none-listing (ShowMirror d l) pairs flashes members mirrors = absurd (mirrors d l refl)
none-listing _ pairs flashes members mirrors = refl

-- then it is none of all these
pub none-plain : (step : Step) → is_defining step ≡ false → is_hosted step ≡ false → is_listing step ≡ false → is_plain step ≡ false
none-plain step defining hosted listing = (λ i. defining i || (hosted i || listing i))

-- or none of those on sessions
pub none-session : (step : Step)
    → ((d : Devs) (l x : ℕ) → step ≡ MakeSession d l x → ⊥)
    → ((d : Devs) (l x : ℕ) → step ≡ RemoveSession d l x → ⊥)
    → ((d : Devs) (l a x : ℕ) → step ≡ AddMember d l a x → ⊥)
    → ((d : Devs) (l a x : ℕ) → step ≡ RemoveMember d l a x → ⊥)
    → ((d : Devs) (l x : ℕ) (i c t : Option ℕ) → step ≡ MakeMirror d l x i c t → ⊥)
    → ((d : Devs) (l x : ℕ) → step ≡ PauseMirror d l x → ⊥)
    → ((d : Devs) (l x : ℕ) (i c t : Option ℕ) → step ≡ ResumeMirror d l x i c t → ⊥)
    → ((d : Devs) (l x : ℕ) → step ≡ RemoveMirror d l x → ⊥)
    → ((x : ℕ) → step ≡ Abort x → ⊥)
    → ((x : ℕ) (n : Name) (r : Bool) → step ≡ Exchange x n r → ⊥)
    → ((x : ℕ) (n : Name) → step ≡ Send x n → ⊥)
    → ((n : ℕ) → step ≡ Deliver n → ⊥)
    → ((n : ℕ) → step ≡ Lose n → ⊥)
    → is_session step ≡ false
none-session (MakeSession d l x) make remove add expel mirror pause resume unmirror abort exchange send deliver lose = absurd (make d l x refl)
none-session (RemoveSession d l x) make remove add expel mirror pause resume unmirror abort exchange send deliver lose = absurd (remove d l x refl)
none-session (AddMember d l a x) make remove add expel mirror pause resume unmirror abort exchange send deliver lose = absurd (add d l a x refl)
none-session (RemoveMember d l a x) make remove add expel mirror pause resume unmirror abort exchange send deliver lose = absurd (expel d l a x refl)
none-session (MakeMirror d l x i c t) make remove add expel mirror pause resume unmirror abort exchange send deliver lose = absurd (mirror d l x i c t refl)
none-session (PauseMirror d l x) make remove add expel mirror pause resume unmirror abort exchange send deliver lose = absurd (pause d l x refl)
none-session (ResumeMirror d l x i c t) make remove add expel mirror pause resume unmirror abort exchange send deliver lose = absurd (resume d l x i c t refl)
none-session (RemoveMirror d l x) make remove add expel mirror pause resume unmirror abort exchange send deliver lose = absurd (unmirror d l x refl)
none-session (Abort x) make remove add expel mirror pause resume unmirror abort exchange send deliver lose = absurd (abort x refl)
none-session (Exchange x n r) make remove add expel mirror pause resume unmirror abort exchange send deliver lose = absurd (exchange x n r refl)
none-session (Send x n) make remove add expel mirror pause resume unmirror abort exchange send deliver lose = absurd (send x n refl)
none-session (Deliver n) make remove add expel mirror pause resume unmirror abort exchange send deliver lose = absurd (deliver n refl)
none-session (Lose n) make remove add expel mirror pause resume unmirror abort exchange send deliver lose = absurd (lose n refl)
none-session _ make remove add expel mirror pause resume unmirror abort exchange send deliver lose = refl

-- or no recovery, and no commit or revert by hand
pub none-recovery : (step : Step) → ((x : ℕ) → step ≡ Recover x → ⊥) → ((d : Devs) (b : ℕ) (n : Option ℕ) → step ≡ CommitFlash d b n → ⊥) → ((d : Devs) (b : ℕ) (n : Option ℕ) → step ≡ RevertFlash d b n → ⊥) → is_recovery step ≡ false
none-recovery (Recover x) recover commit revert = absurd (recover x refl)
none-recovery (CommitFlash d b n) recover commit revert = absurd (commit d b n refl)
none-recovery (RevertFlash d b n) recover commit revert = absurd (revert d b n refl)
none-recovery _ recover commit revert = refl

-- or none of those on relationships
pub none-relation : (step : Step)
    → ((d : Devs) (s t : ℕ) (a b c e f : Bool) (n : Option ℕ) → step ≡ MakeFlash d s t a b c e f n → ⊥)
    → ((d : Devs) (s t : ℕ) (n : Option ℕ) → step ≡ RemoveFlash d s t n → ⊥)
    → ((d : Devs) (s t : ℕ) (a b c e : Bool) (n : Option ℕ) → step ≡ ResyncFlash d s t a b c e n → ⊥)
    → ((d : Devs) (s t : ℕ) (p : Bool) (n : Option ℕ) → step ≡ ReverseFlash d s t p n → ⊥)
    → ((d : Devs) (l : ℕ) → step ≡ UnfreezeFlash d l → ⊥)
    → ((t : ℕ) (most : Option ℕ) → step ≡ Copy t most → ⊥)
    → ((v : ℕ) → step ≡ Destage v → ⊥)
    → is_relation step ≡ false
none-relation (MakeFlash d s t a b c e f n) make remove resync reverse release copy destage = absurd (make d s t a b c e f n refl)
none-relation (RemoveFlash d s t n) make remove resync reverse release copy destage = absurd (remove d s t n refl)
none-relation (ResyncFlash d s t a b c e n) make remove resync reverse release copy destage = absurd (resync d s t a b c e n refl)
none-relation (ReverseFlash d s t p n) make remove resync reverse release copy destage = absurd (reverse d s t p n refl)
none-relation (UnfreezeFlash d l) make remove resync reverse release copy destage = absurd (release d l refl)
none-relation (Copy t most) make remove resync reverse release copy destage = absurd (copy t most refl)
none-relation (Destage v) make remove resync reverse release copy destage = absurd (destage v refl)
none-relation _ make remove resync reverse release copy destage = refl

-- or none of those on a pair that stays as it lies
pub none-pair : (step : Step)
    → ((d : Devs) (a b k : ℕ) (c : PairChoices) → step ≡ MakePair d a b k c → ⊥)
    → ((d : Devs) (a b : ℕ) (s : Bool) → step ≡ RemovePair d a b s → ⊥)
    → ((d : Devs) (a b : ℕ) → step ≡ PausePair d a b → ⊥)
    → ((d : Devs) (a b k : ℕ) → step ≡ ResumePair d a b k → ⊥)
    → ((a : ℕ) (most : Option ℕ) → step ≡ Drain a most → ⊥)
    → is_pair step ≡ false
none-pair (MakePair d a b k c) make end pause resume drain = absurd (make d a b k c refl)
none-pair (RemovePair d a b s) make end pause resume drain = absurd (end d a b s refl)
none-pair (PausePair d a b) make end pause resume drain = absurd (pause d a b refl)
none-pair (ResumePair d a b k) make end pause resume drain = absurd (resume d a b k refl)
none-pair (Drain a most) make end pause resume drain = absurd (drain a most refl)
none-pair _ make end pause resume drain = refl

-- a step that is none of all these, and turns no pair round, has a course of its own, and no plan but to say that it is done
pub plan-else : (k : Control) (events : List Event) (line : ℕ) (step : Step) → is_plain step ≡ false → is_session step ≡ false → is_recovery step ≡ false → is_relation step ≡ false → is_pair step ≡ false
    → ((d : Devs) (b a k : ℕ) → step ≡ Failover d b a k → ⊥)
    → ((d : Devs) (x y k : ℕ) → step ≡ Failback d x y k → ⊥)
    → plan_of k events line step ≡ only_says (Done Alone)
plan-else k events line (Failover d b a kind) plain session recovery relation pair over back = absurd (over d b a kind refl)
plan-else k events line (Failback d x y kind) plain session recovery relation pair over back = absurd (back d x y kind refl)
plan-else k events line (Run s n) plain session recovery relation pair over back = refl
plan-else k events line (Compare v u) plain session recovery relation pair over back = refl
plan-else k events line Image plain session recovery relation pair over back = refl
plan-else k events line _ plain session recovery relation pair over back = absurd cc

-- the room that is left, counted either way
pub room-left : (n m : ℕ) → m ≤ 1000000 → nat_le n (1000000 - m) ≡ nat_le (n + m) 1000000
room-left n m few = grind (arith, nat_tests, few)

-- an event that is no answer is no stop's either
stop-answer : (e : Event) → is_answer e ≡ false → is_stop e ≡ false
stop-answer (Answer line code a b c) h = cc
stop-answer _ h = refl

pub none-silent : (es : List Event) → NoAnswer es → list_any is_stop es ≡ false
none-silent [] h = refl
none-silent (e ∷ es) h =
    let both = or_parts (is_answer e) (list_any is_answer es) h in
    ap (λ b. b || list_any is_stop es) (stop-answer e both.0) ∙ none-silent es both.1

refusal-stop : (number : ℕ) (r : Refusal) → is_stop (answer number (Refused r)) ≡ is_stopped (Refused r)
refusal-stop number (Stopped s) = refl
refusal-stop number _ = refl

done-stop : (number : ℕ) (added : Addition) → list_any is_stop (answer number (Done added) ∷ []) ≡ false
done-stop number Alone = refl
done-stop number (Wrote w) = refl
done-stop number (Acked w) = refl
done-stop number (CountedRows n) = refl
done-stop number (InPhase phase n) = refl
done-stop number (InGroup group decision) = refl
done-stop number (Posted m) = refl
done-stop number Showed = refl

answer-stop : (number : ℕ) (a : Said) → list_any is_stop (answer number a ∷ []) ≡ is_stopped a
answer-stop number (Done added) = done-stop number added
answer-stop number (Held w) = refl
answer-stop number (Refused r) = or-false (is_stop (answer number (Refused r))) ∙ refusal-stop number r

-- a count that rose stays risen, and rises
rose-then : (f x y : ℕ) → Rose f x → Rose x y → Rose f y
rose-then f x y first rest = grind (arith, first, rest)

pub counts-more : (a b : Bool) (f x y : ℕ) → Counted a f x → Counted b x y → Counted (a || b) f y
counts-more true true f x y first rest = rose-then f x y first rest
counts-more true false f x y first rest = subst (λ n. Rose f n) (sym rest) first
counts-more false true f x y first rest = subst (λ n. Rose n y) first rest
counts-more false false f x y first rest = rest ∙ first

-- a step without a course of its own
pub none-apart : (step : Step) → ((s n : ℕ) → step ≡ Run s n → ⊥) → ((v u : ℕ) → step ≡ Compare v u → ⊥) → (step ≡ Image → ⊥) → own_course (Ok step) ≡ None
none-apart (Run s n) run compare image = absurd (run s n refl)
none-apart (Compare v u) run compare image = absurd (compare v u refl)
none-apart Image run compare image = absurd (image refl)
none-apart _ run compare image = refl

-- what comes before the plan of a step
module _ (w : World) (number : ℕ) (step : Step) where
  abbrev task : Task
  task = record { line = number; asked = Ok step; listed = [] }

  by-room : (room : Bool) → own_course (Ok step) ≡ None → has_room w.events ≡ room
      → after_task w task ≡ masters_lost w (after_plan w number (cond room (plan_of w.control w.events number step) (refuses JournalFull)))
  by-room room alone left =
      (λ i. answered_part number (course_of w task (alone i)).last)
      ∙ (λ i. masters_lost w (after_plan w number (cond (left i) (plan_of w.control w.events number step) (refuses JournalFull))))

  -- a step that is refused before it begins
  refused-first : (r : Refusal) → masters_lost w (after_plan w number (refuses r)) ≡ said w number (Refused r)
  refused-first r = ap (masters_lost w) (plan-refuses w number r) ∙ lost-stays w (said w number (Refused r)) refl

  pub task-full : own_course (Ok step) ≡ None → has_room w.events ≡ false → after_task w task ≡ said w number (Refused JournalFull)
  task-full alone full = by-room false alone full ∙ refused-first JournalFull

  pub task-planned : (u : World) → own_course (Ok step) ≡ None → has_room w.events ≡ true → after_plan w number (plan_of w.control w.events number step) ≡ u → after_task w task ≡ masters_lost w u
  task-planned u alone room leads = by-room true alone room ∙ ap (masters_lost w) leads

  -- the journal before the answer tells no answer more
  ends : EndsAnswered w number (after_task w task)
  ends = after_task-ends w task

  pub told-step : (u : World) (a : Said) → (after_task w task).events ≡ u.events ++ answer number a ∷ [] → told_stop (u.events ++ answer number a ∷ []) ≡ (told_stop w.events || is_stopped a)
  told-step u a is =
      let whole : (w.events ++ ends.before) ++ answer number ends.says ∷ [] ≡ u.events ++ answer number a ∷ [] = sym ends.events ∙ is in
      let front : w.events ++ ends.before ≡ u.events = (same_from_push (w.events ++ ends.before) u.events (answer number ends.says) (answer number a) whole).0 in
      list_any-append is_stop u.events (answer number a ∷ [])
      ∙ ap (λ es. list_any is_stop es || list_any is_stop (answer number a ∷ [])) (sym front)
      ∙ ap (λ b. b || list_any is_stop (answer number a ∷ [])) (list_any-append is_stop w.events ends.before ∙ ap (λ b. told_stop w.events || b) (none-silent ends.before ends.silent) ∙ or-false (told_stop w.events))
      ∙ ap (λ b. told_stop w.events || b) (answer-stop number a)

  pub faults-step : (u : World) (a : Said) (now : List Event) (f x y : ℕ) → (after_task w task).events ≡ u.events ++ answer number a ∷ [] → now ≡ u.events ++ answer number a ∷ [] → Counted (is_stopped a) x y
      → Counted (told_stop w.events) f x → Counted (told_stop now) f y
  faults-step u a now f x y is told counts before =
      subst (λ b. Counted b f y) (sym (ap told_stop told ∙ told-step u a is)) (counts-more (told_stop w.events) (is_stopped a) f x y before counts)

-- a step without a course of its own lists nothing
module _ (w : World) (device : ℕ → Blocks) (number : ℕ) (step : Step) (alone : own_course (Ok step) ≡ None) where
  pub lists-nothing : task w number step ≡ task_on w device number (Ok step)
  lists-nothing = (λ i. record { line = number; asked = Ok step; listed = listed_by w device (sym alone i) })

  pub lists-none : Lists w (task_on w device number (Ok step))
  lists-none = subst (λ o. ListsBy w (listed_by w device o) o) (sym alone) refl

-- a step that has another course than an image
pub no-devices : {P : Type 0} (step : Step) (o : Option OwnCourse) → own_course (Ok step) ≡ o → (o ≡ Some Devices → ⊥) → own_course (Ok step) ≡ Some Devices → P
no-devices step o is other same = absurd (other (sym is ∙ same))

-- a comparison, and one for which there is no room
module _ (w : World) (number v u : ℕ) where
  pub task-compared : (x : World) → has_room w.events ≡ true → after_plan w number (compare_plan w.control w.contents v u) ≡ x → after_task w (task w number (Compare v u)) ≡ masters_lost w x
  task-compared x room leads = (λ i. masters_lost w (after_plan w number (cond (room i) (compare_plan w.control w.contents v u) (refuses JournalFull)))) ∙ ap (masters_lost w) leads

  pub compare-full : has_room w.events ≡ false → after_task w (task w number (Compare v u)) ≡ said w number (Refused JournalFull)
  compare-full full = (λ i. masters_lost w (after_plan w number (cond (full i) (compare_plan w.control w.contents v u) (refuses JournalFull)))) ∙ refused-first w number (Compare v u) JournalFull

abbrev Says : ℕ → Refusal → List Event → List Event → Type 0
Says number refusal events now = now ≡ events ++ answer number (Refused refusal) ∷ []

-- a step that was refused before it began, or for whose answer there was no memory
module _ {E : Type 0} (number : ℕ) (refusal : Refusal) (events now : List Event) where
  pub refused-task : (r : Result (Unit {0}) E) (s : PlantState) (t : ConfigTable) (h : Tables) {u : World} → u ≡ said (here s t h events) number (Refused refusal)
      → OnOk r (Says number refusal events now) → OnOk r (u ≡ here s t h now)
  refused-task (Ok x) s t h is told = is ∙ ap (here s t h) (sym told)
  refused-task (Err e) s t h is told = tt

  pub refused-told : (r : Result (Unit {0}) E) (h : Tables) → OnOk r (Says number refusal events now) → OnErr r (now ≡ events) → IsTold h events → IsTold h now
  refused-told (Ok x) h told same is = told-answer h events now number (Refused refusal) told is
  refused-told (Err e) h told same is = subst (IsTold h) (sym same) is

  pub refused-faults : (r : Result (Unit {0}) E) (f n : ℕ) → is_stopped (Refused refusal) ≡ false → OnOk r (Says number refusal events now) → OnErr r (now ≡ events) → Counted (told_stop events) f n → Counted (told_stop now) f n
  refused-faults (Ok x) f n calm told same counted =
      subst (λ b. Counted b f n)
      (sym (ap told_stop told ∙ list_any-append is_stop events (answer number (Refused refusal) ∷ []) ∙ ap (λ b. told_stop events || b) (answer-stop number (Refused refusal) ∙ calm) ∙ or-false (told_stop events))) counted
  refused-faults (Err e) f n calm told same counted = subst (λ es. Counted (told_stop es) f n) (sym same) counted
