-- No answer of a run says that a step isn't built: what its last plan answers doesn't, and no other event is an answer.
use Rattle.std.proofs.Common.{ℕ, zero, suc, ◌≡◌, inl, inr, refl, ap, sym, ◌∙◌, subst, Bool, true, false, cond, nat_eq, nat_lt, ◌||◌, List, [], ◌∷◌, ◌++◌, Option, Some, None}
use Rattle.std.specs.Prelude.{is_some}
use Rattle.dr_ids.specs.declared.names.Member.{Member}
use Rattle.dr_ids.specs.declared.refusal.PhaseName.{PhaseName}
use Rattle.dr_ids.specs.declared.refusal.Refusal.{Refusal}
use Rattle.dr_ids.specs.declared.refusal.Refusal.TheVariants.{OldMessage, Syntax, Unknown, Duplicate, Limit, ServerOff, LinkDown, Void, NotPrimary, Inhibited, PairState, RelationState, InSession, NotInSession, InFormation, OutOfOrder, Unsealed, Stale, Forbidden, NotIdentical, NumbersSpent, Stopped, NoGroup, JournalFull, NotBuilt, Held as HeldBack}
use Rattle.dr_facts.proofs.Reasons.{NoStop, names_no_stop}
use Rattle.dr_facts.proofs.Entries.{any_world, from-ends}
use Rattle.dr_laws_sound.proofs.Does.{Acts, Late}
use Rattle.dr_laws_sound.proofs.DoesPlans.{case-does}
use Rattle.dr_model.proofs.CarryLemmas.{carry-none}
use Rattle.dr_model.specs.declared.event.Event.{Event}
use Rattle.dr_model.specs.declared.event.Event.TheVariants.{Answer}
use Rattle.dr_model.specs.declared.said.Addition.TheVariants.{Posted, Alone, Wrote, Acked, Counted, InPhase, InGroup, Showed}
use Rattle.dr_model.specs.declared.said.Said.{Said}
use Rattle.dr_model.specs.declared.said.Said.TheVariants.{Done, Held, Refused}
use Rattle.dr_model.specs.Answers.{numbers, answer}
use Rattle.dr_model.specs.HeldWrites.{is_answer}
use Rattle.dr_ids.specs.declared.refusal.Which.TheVariants.{Groups}
use Rattle.dr_model.specs.Refusals.{over}
use Rattle.dr_model.specs.Limits.{most_groups, image_events}
use Rattle.dr_model.specs.Control.{Control, World, nothing}
use Rattle.dr_model.specs.Carry.{Outcome, carry}
use Rattle.dr_model.specs.Groups.{In}
use Rattle.dr_model.specs.PairEntries.{is_copying}
use Rattle.dr_model.specs.Sessions.{Session, no_master, session_in, members_in}
use Rattle.dr_model.specs.SessionEntries.{members_on}
use Rattle.dr_model.specs.SessionPlans.{asking, session_phase}
use Rattle.dr_model.specs.Plans.{Plan, has_room, has_room_for, drain_plan, compare_plan, refuses}
use Rattle.dr_model.specs.Forming.{Part, Way, after_part, stays, ends, goes_on, unless_refused, refusal_said, part_refusal, part, drains, is_draining, ask, next_asked, master_in, phase_in, has_committed, still_left, turn_by, turns, most_turns, form_refusal, form_in, formed, form_answer}
use Rattle.dr_model.specs.Runs.{Task, OwnCourse, Groups as OfGroups, Volumes, Devices, own_course, course, course_of, image_plan, begun, carried_out, answered, after_plan, after_task, after_tasks, run}
use Rattle.dr_logic.proofs.Truth.{false_true}
use Rattle.dr_facts.proofs.Lists.{in-joined, any-none}
use Rattle.dr_laws_sound.proofs.Parts.{comes-drain, comes-asking, course-case, Comes, Ending, OnePlan, Imaged}
use Rattle.dr_laws_sound.proofs.Journal.{EndsAnswered, after_task-ends}
use Rattle.dr_laws_images.specs.Unbuilt.{NoneUnbuilt}
use Rattle.dr_laws_sound.proofs.Cases.{says_no_stop, plan-case}
use Rattle.dr_laws_images.proofs.Built.{case-answers, phase-says}

-- a refusal that doesn't say so
abbrev is_built : Refusal → Bool
is_built NotBuilt = false
is_built _ = true

abbrev built_if : Option Refusal → Bool
built_if None = true
built_if (Some r) = is_built r

abbrev built_said : Said → Bool
built_said (Refused r) = is_built r
built_said _ = true

no-stop-built : (r : Refusal) → names_no_stop r ≡ true → is_built r ≡ true
no-stop-built NotBuilt e = absurd cc
no-stop-built r e = refl

says-built : (a : Said) → says_no_stop a ≡ true → built_said a ≡ true
says-built (Refused r) e = no-stop-built r e
says-built (Done added) e = refl
says-built (Held n) e = refl

-- ---- entries

ending-built : (w : World) (line : ℕ) (p : Plan) → Ending w.control w.events line p → built_if (carry (begun w p) p.entries).1 ≡ true
ending-built w line _ (OnePlan asked p c) =
    from-ends any_world (Acts w.control asked) NoStop (Late asked) (λ v. tt) (λ o. built_if o ≡ true) refl (λ s. refl) no-stop-built (λ r late. no-stop-built r late.why) p.entries (begun w p) (case-does w line asked p c).entries
ending-built w line _ (Imaged vs) = ap (λ (o : Outcome). built_if o.1) (carry-none (begun w (image_plan vs)))

-- ---- plans

-- whether its entries end well or not, a plan's answer doesn't say so
answered-built : (p : Plan) (k : Control) (r : Option Refusal) → built_said (p.says k) ≡ true → built_if r ≡ true → built_said (answered p k r) ≡ true
answered-built p k None says built = says
answered-built p k (Some r) says built = built

plan-built : (w : World) (p : Plan) → built_if (carry (begun w p) p.entries).1 ≡ true → ((k : Control) → built_said (p.says k) ≡ true) → built_said (answered p (carried_out w p).0.control (carried_out w p).1) ≡ true
plan-built w p built says = answered-built p (carried_out w p).0.control (carried_out w p).1 (says (carried_out w p).0.control) built

-- ---- a line of groups

said-built : (a : Said) → built_said a ≡ true → built_if (refusal_said a) ≡ true
said-built (Refused r) e = e
said-built (Done added) e = refl
said-built (Held n) e = refl

part-built : (w : World) (p : Plan) → (has_room w.events ≡ true → Comes w p) → built_if (part w p).refusal ≡ true
part-built w p comes = by (has_room w.events) refl
  where
    by : (room : Bool) → has_room w.events ≡ room → built_if (let x : Way = cond room (record { parts = record { world = w; plan = p } ∷ []; world = after_part w p; refusal = part_refusal w p }) (ends w JournalFull) in x.refusal) ≡ true
    by true room = said-built (answered p (carried_out w p).0.control (carried_out w p).1) (let c : Comes w p = comes room in plan-built w p (ending-built w 0 p (OnePlan c.asked p (c.case 0))) (λ k. says-built (p.says k) (case-answers w.control w.events 0 c.asked p (c.case 0) c.one k)))
    by false room = refl

then-built : (parts : List Part) (w : World) (r : Option Refusal) (more : World → Way) → built_if r ≡ true → ((v : World) → built_if (more v).refusal ≡ true) → built_if (goes_on parts w r more).refusal ≡ true
then-built parts w None more here rest = rest w
then-built parts w (Some r) more here rest = here

if-built : (b : Bool) (x y : Way) → built_if x.refusal ≡ true → built_if y.refusal ≡ true → built_if (let z : Way = cond b x y in z.refusal) ≡ true
if-built true x y p q = p
if-built false x y p q = q

drains-built : (w : World) (ms : List Member) → built_if (drains w ms).refusal ≡ true
unfolding drains
drains-built w [] = refl
drains-built w (m ∷ ms) =
    let p : Plan = drain_plan w.control m.a.0 None in
    let x : Way = part w p in
    if-built (is_copying m.a.0 w.control) _ _
    (then-built x.parts x.world x.refusal (λ v. drains v ms) (part-built w p (comes-drain w m.a.0)) (λ v. drains-built v ms))
    (drains-built w ms)

asked-built : (w : World) (s server : ℕ) → built_if (part w (asking w.control s server true)).refusal ≡ true
asked-built w s server = part-built w (asking w.control s server true) (comes-asking w s server)

ask-built : (w : World) (s : ℕ) (p : PhaseName) (ms : List Member) (server : ℕ) → built_if (ask w s p ms server).refusal ≡ true
ask-built w s p ms server =
    let x : Way = cond (is_draining p) (drains w (members_on server ms)) (stays w) in
    then-built x.parts x.world x.refusal (λ v. part v (asking v.control s server true)) (if-built (is_draining p) _ _ (drains-built w (members_on server ms)) refl) (λ v. asked-built v s server)

turn-built : (w : World) (s : ℕ) (p : PhaseName) (ms : List Member) (o : Option ℕ) (more : World → Way) → ((v : World) → built_if (more v).refusal ≡ true) → built_if (turn_by w s p ms o more).refusal ≡ true
turn-built w s p ms None more rest = refl
turn-built w s p ms (Some server) more rest = let x : Way = ask w s p ms server in then-built x.parts x.world x.refusal more (ask-built w s p ms server) rest

turns-built : (bound : ℕ) (w : World) (s left : ℕ) (committed : Bool) → built_if (turns bound w s left committed).refusal ≡ true
unfolding turns
turns-built zero w s left committed = if-built (nat_eq left 0) (stays w) _ refl refl
turns-built (suc bound) w s left committed =
    if-built (nat_eq left 0) (stays w) _ refl
    (turn-built w s (phase_in w.control s) (members_in (session_in w.control.sessions s)) (next_asked (master_in w.control s)) _
    (λ v. turns-built bound v s (still_left committed (phase_in v.control s) left) (has_committed committed (phase_in w.control s) (phase_in v.control s))))

formed-built : (w : World) (s n : ℕ) → built_if (formed w s n).refusal ≡ true
formed-built w s n = if-built (has_room w.events) _ _ (by (session_in w.control.sessions s)) refl
  where
    refused : (r : Option Refusal) (x : Way) → built_if r ≡ true → built_if x.refusal ≡ true → built_if (unless_refused r w x).refusal ≡ true
    refused None x here rest = rest
    refused (Some r) x here rest = here

    bounds : (b c : Bool) → built_if (cond b (Some (over Groups)) (cond c None no_master)) ≡ true
    bounds true c = refl
    bounds false true = refl
    bounds false false = refl

    by : (o : Option Session) → built_if (form_in w s n o).refusal ≡ true
    by None = refl
    by (Some x) = refused (form_refusal n x.mirror) _ (bounds (nat_eq n 0 || nat_lt most_groups n) (is_some x.mirror)) (turns-built (most_turns n) w s n false)

-- ---- every step

form-built : (s : ℕ) (ss : List Session) (r : Option Refusal) → built_if r ≡ true → built_said (form_answer s ss r) ≡ true
form-built s ss None built = says-built (session_phase (session_in ss s)) (phase-says (session_in ss s))
form-built s ss (Some r) built = built

-- what the last plan of a step says, where its entries end well
last-built : (w : World) (t : Task) (k : Control) → built_said ((course w t).last.plan.says k) ≡ true
last-built w t k = by (own_course t.asked) refl
  where
    chosen : (room : Bool) (p : Plan) → built_said (p.says k) ≡ true → built_said (let q : Plan = cond room p (refuses JournalFull) in q.says k) ≡ true
    chosen true p says = says
    chosen false p says = refl

    by : (o : Option OwnCourse) → own_course t.asked ≡ o → built_said ((course_of w t o).last.plan.says k) ≡ true
    by None one = says-built _ (case-answers w.control w.events t.line t.asked _ (plan-case w.control w.events t.line t.asked) one k)
    by (Some (OfGroups s n)) is = let x : Way = formed w s n in form-built s x.world.control.sessions x.refusal (formed-built w s n)
    by (Some (Volumes v u)) is = chosen (has_room w.events) (compare_plan w.control w.contents v u) refl
    by (Some Devices) is = chosen (has_room_for image_events w.events) (image_plan t.listed) refl

-- its answer
task-built : (w : World) (t : Task) → let x : Part = (course w t).last in built_said (answered x.plan (carried_out x.world x.plan).0.control (carried_out x.world x.plan).1) ≡ true
task-built w t =
    let x : Part = (course w t).last in
    plan-built x.world x.plan (ending-built x.world t.line x.plan (course-case w t)) (last-built w t)

-- ---- its events

-- the code of an answer
abbrev code_of : Event → ℕ
code_of (Answer line code a b c) = code
code_of e = 0

other-code : (a : Said) → built_said a ≡ true → nat_eq (numbers a).code 24 ≡ false
other-code (Done Alone) b = refl
other-code (Done (Wrote w)) b = refl
other-code (Done (Acked w)) b = refl
other-code (Done (Counted n)) b = refl
other-code (Done (InPhase p n)) b = refl
other-code (Done (InGroup n d)) b = refl
other-code (Done (Posted n)) b = refl
other-code (Done Showed) b = refl
other-code (Held w) b = refl
other-code (Refused (Syntax column)) b = refl
other-code (Refused (Unknown kind)) b = refl
other-code (Refused (Duplicate kind)) b = refl
other-code (Refused (Limit which)) b = refl
other-code (Refused (ServerOff server)) b = refl
other-code (Refused (LinkDown s u)) b = refl
other-code (Refused (Void n)) b = refl
other-code (Refused (NotPrimary volume)) b = refl
other-code (Refused (Inhibited volume)) b = refl
other-code (Refused (PairState volume seen)) b = refl
other-code (Refused (RelationState volume seen)) b = refl
other-code (Refused (InSession session)) b = refl
other-code (Refused (NotInSession session)) b = refl
other-code (Refused (InFormation phase n)) b = refl
other-code (Refused (OutOfOrder phase)) b = refl
other-code (Refused (OldMessage n)) b = refl
other-code (Refused (Unsealed volume seal)) b = refl
other-code (Refused (Stale n floor)) b = refl
other-code (Refused (Forbidden decision)) b = refl
other-code (Refused (NotIdentical track)) b = refl
other-code (Refused NumbersSpent) b = refl
other-code (Refused (Stopped server)) b = refl
other-code (Refused (NoGroup decision)) b = refl
other-code (Refused JournalFull) b = refl
other-code (Refused (HeldBack volume)) b = refl
other-code (Refused NotBuilt) b = absurd cc

-- the last event of some, and of some more with one behind
last_of : Event → List Event → Event
last_of d [] = d
last_of d (e ∷ es) = last_of e es

last-is : (d : Event) (es : List Event) (e : Event) → last_of d (es ++ e ∷ []) ≡ e
unfolding last_of
last-is d [] e = refl
last-is d (x ∷ es) e = last-is x es e

-- a step's last event is its answer
answers-last : (w : World) (t : Task) → let x : Part = (course w t).last in
    (es : List Event) × ((after_task w t).events ≡ es ++ answer t.line (answered x.plan (carried_out x.world x.plan).0.control (carried_out x.world x.plan).1) ∷ [])
unfolding after_plan
answers-last w t = (_, refl)

said-last : (w : World) (t : Task) (e : EndsAnswered w t.line (after_task w t)) → nat_eq (numbers e.says).code 24 ≡ false
said-last w t e =
    let x : Part = (course w t).last in
    let a : Said = answered x.plan (carried_out x.world x.plan).0.control (carried_out x.world x.plan).1 in
    let is = answers-last w t in
    let d : Event = answer t.line a in
    let same : answer t.line a ≡ answer t.line e.says = sym (last-is d is.0 (answer t.line a)) ∙ (ap (last_of d) (sym is.1 ∙ e.events) ∙ last-is d (w.events ++ e.before) (answer t.line e.says)) in
    sym (ap (λ x. nat_eq (code_of x) 24) same) ∙ other-code a (task-built w t)

task-unbuilt : (w : World) (t : Task) → NoneUnbuilt w.events → NoneUnbuilt (after_task w t).events
task-unbuilt w t none line a b c h =
    let e : EndsAnswered w t.line (after_task w t) = after_task-ends w t in
    elim (in-joined (w.events ++ e.before) (answer t.line e.says ∷ []) (Answer line 24 a b c) (subst (In (Answer line 24 a b c)) e.events h)) [
      | inl before ↦ elim (in-joined w.events e.before (Answer line 24 a b c) before) [
        | inl old ↦ none line a b c old
        | inr new ↦ (let no = any-none is_answer e.before (Answer line 24 a b c) e.silent new in absurd cc)
      ]
      | inr last ↦ by e last
    ]
  where
    by : (e : EndsAnswered w t.line (after_task w t)) → In (Answer line 24 a b c) (answer t.line e.says ∷ []) → ⊥
    by e (inl is) = false_true (said-last w t e) (sym (ap (λ x. nat_eq (code_of x) 24) is))
    by e (inr more) = more

tasks-unbuilt : (w : World) (tasks : List Task) → NoneUnbuilt w.events → NoneUnbuilt (after_tasks w tasks).events
unfolding after_tasks
tasks-unbuilt w [] none = none
tasks-unbuilt w (t ∷ tasks) none = tasks-unbuilt (after_task w t) tasks (task-unbuilt w t none)

pub run-unbuilt : (tasks : List Task) → NoneUnbuilt (run tasks).events
run-unbuilt tasks = tasks-unbuilt nothing tasks (λ line a b c h. h)
