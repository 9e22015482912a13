-- Lines on the way of an `@run`: one after another, for drains, exchanges and turns.
use Rattle.std.proofs.Common.{ℕ, zero, suc, ◌≡◌, ◌≤◌, refl, ap, ◌∙◌, sym, subst, arith, append_assoc, Bool, true, false, cond, ◌||◌, List, [], ◌∷◌, ◌++◌, length, Option, Some, None, Ok, nat_eq, nat_lt}
use Rattle.std.specs.Prelude.{is_some}
use Rattle.std.proofs.lemmas.Bool.Decides.{nat_tests}
use Rattle.std.proofs.lemmas.List.{append-nil}
use Rattle.std.proofs.lemmas.List.Sums.{fold-append}
use Rattle.dr_ids.specs.declared.names.Member.{Member}
use Rattle.dr_ids.specs.declared.refusal.Refusal.{Refusal}
use Rattle.dr_ids.specs.declared.refusal.Refusal.TheVariants.{OutOfOrder, JournalFull}
use Rattle.dr_ids.specs.declared.refusal.Which.TheVariants.{Groups}
use Rattle.dr_model.specs.declared.event.Event.{Event}
use Rattle.dr_model.specs.declared.step.Name.{Name}
use Rattle.dr_model.specs.declared.step.Step.{Step}
use Rattle.dr_model.specs.declared.step.Step.TheVariants.{Drain, Exchange}
use Rattle.dr_model.specs.Answers.{answer}
use Rattle.dr_model.specs.Control.{Control, World}
use Rattle.dr_model.specs.Limits.{most_groups}
use Rattle.dr_model.specs.PairEntries.{is_copying}
use Rattle.dr_model.specs.PlanParts.{Plan, server_named, name_bytes, on_named, on_session, refuses}
use Rattle.dr_model.specs.Plans.{drain_plan, has_room, plan_of}
use Rattle.dr_model.specs.SessionPlans.{asking, exchange_on}
use Rattle.dr_model.specs.Sessions.{Session, Mirror, session_in, mirror_in, members_in, no_master}
use Rattle.dr_model.specs.Refusals.{over}
use Rattle.dr_model.specs.Forming.{Part, Way, stays, ends, goes_on, and_then, unless_refused, after_part, part_refusal, part, drains, ask, next_asked, master_in, phase_in, has_committed, still_left, turn_by, turn_in, turns, most_turns, form_in, formed}
use Rattle.dr_model.specs.Runs.{Task, after_task, after_tasks}
use Rattle.dr_laws_runs.specs.Parts.{AsksFor, AskForAll, HasRoomFor, told_by, said_by, AreTheRun}
use Rattle.dr_laws_runs.specs.Walks.{TellsMore, AskForFirst, GoThrough, StopWithin, Walk}
use Rattle.dr_laws_runs.proofs.Lines.{beside-on, events, run-is-its-parts}

-- ---- lists of lines

asks-both : (a b : List Task) (xs ys : List Part) → AskForAll a xs → AskForAll b ys → AskForAll (a ++ b) (xs ++ ys)
asks-both [] b [] ys p q = q
asks-both [] b (x ∷ xs) ys p q = absurd p
asks-both (t ∷ a) b [] ys p q = absurd p
asks-both (t ∷ a) b (x ∷ xs) ys p q = (p.0, asks-both a b xs ys p.1 q)

room-both : (u : World) (a b : List Task) → HasRoomFor u a → HasRoomFor (after_tasks u a) b → HasRoomFor u (a ++ b)
unfolding after_tasks
room-both u [] b p q = q
room-both u (t ∷ a) b p q = (p.0, room-both (after_task u t) a b p.1 q)

-- ---- one way, and then another

then-is : (x : Way) (more : World → Way) → x.refusal ≡ None → and_then x more ≡ record (more x.world) { parts = x.parts ++ (more x.world).parts }
then-is x more none = by x.refusal none
  where
    by : (o : Option Refusal) → o ≡ None → goes_on x.parts x.world o more ≡ record (more x.world) { parts = x.parts ++ (more x.world).parts }
    by None e = refl
    by (Some r) e = absurd cc

module _ (u u1 : World) (a b : List Task) (x : Way) (more : World → Way) (leads : after_tasks u a ≡ u1) (goes : GoThrough u u1 a x) where
  abbrev y : Way
  y = more x.world

  both-lead : after_tasks u (a ++ b) ≡ after_tasks u1 b
  unfolding after_tasks
  both-lead = fold-append after_task u a b ∙ ap (λ w. after_tasks w b) leads

  room-on : HasRoomFor u1 b → HasRoomFor u (a ++ b)
  room-on room = room-both u a b goes.room (subst (λ w. HasRoomFor w b) (sym leads) room)

  first-on : AskForFirst u1 b y.parts → AskForFirst u (a ++ b) (x.parts ++ y.parts)
  first-on f = record {
    asked = x.parts ++ f.asked;
    left = f.left;
    cut = ap (λ ys. x.parts ++ ys) f.cut ∙ sym (append_assoc x.parts f.asked f.left);
    asks = asks-both a b x.parts f.asked goes.asks f.asks;
    room = room-on f.room;
    whole = λ h. f.whole (ap (λ (w : World). has_room w.events) (sym both-lead) ∙ h);
  }

  pub first-then : AskForFirst u1 b y.parts → AskForFirst u (a ++ b) (and_then x more).parts
  first-then f = subst (λ (z : Way). AskForFirst u (a ++ b) z.parts) (sym (then-is x more goes.unrefused)) (first-on f)

  walk-by : (on : Bool) (u2 : World) → Walk on u1 u2 b y → Walk on u u2 (a ++ b) (record y { parts = x.parts ++ y.parts })
  walk-by true u2 g = record { asks = asks-both a b x.parts y.parts goes.asks g.asks; room = room-on g.room; unrefused = g.unrefused; leads = g.leads }
  walk-by false u2 s = record { first = first-on s.first; refused = λ h. s.refused (ap (λ (w : World). has_room w.events) (sym both-lead) ∙ h) }

  pub walk-then : (on : Bool) (u2 : World) → Walk on u1 u2 b y → Walk on u u2 (a ++ b) (and_then x more)
  walk-then on u2 w = subst (Walk on u u2 (a ++ b)) (sym (then-is x more goes.unrefused)) (walk-by on u2 w)

-- a way that stops goes no further
pub walk-stop : (u : World) (a : List Task) (x : Way) (more : World → Way) → StopWithin u a x → StopWithin u a (and_then x more)
walk-stop u a x more s = by x.refusal s.refused
  where
    by : (o : Option Refusal) → (has_room (after_tasks u a).events ≡ true → o ≡ None → ⊥) → StopWithin u a (goes_on x.parts x.world o more)
    by None refused = record {
      first = record {
        asked = s.first.asked;
        left = s.first.left ++ (more x.world).parts;
        cut = ap (λ xs. xs ++ (more x.world).parts) s.first.cut ∙ append_assoc s.first.asked s.first.left (more x.world).parts;
        asks = s.first.asks;
        room = s.first.room;
        whole = λ h. absurd (refused h refl);
      };
      refused = λ h e. refused h refl;
    }
    by (Some r) refused = record { first = s.first; refused = λ h e. absurd cc }

-- ---- one part

pub room-less : (a b : List Event) → length a ≤ length b → has_room b ≡ true → has_room a ≡ true
room-less a b less room = grind (arith, nat_tests, less, room)

module _ (v u : World) (p : Plan) (more : TellsMore v u) (t : Task) (step : Step) (asked : t.asked ≡ Ok step) (asks : AsksFor step (record { world = v; plan = p })) (room : has_room u.events ≡ true) where
  abbrev x : Part
  x = record { world = v; plan = p }

  is-part : part v p ≡ record { parts = x ∷ []; world = after_part v p; refusal = part_refusal v p }
  is-part = ap (λ b. cond b (record { parts = x ∷ []; world = after_part v p; refusal = part_refusal v p }) (ends v JournalFull)) (room-less v.events u.events more.longer room)

  pub walk-part : (on : Bool) → (on ≡ true → part_refusal v p ≡ None) → (on ≡ false → part_refusal v p ≡ None → ⊥) → Walk on u (after_task u t) (t ∷ []) (part v p)
  walk-part true well bad = subst (GoThrough u (after_task u t) (t ∷ [])) (sym is-part) (record { asks = ((step, asked, asks), tt); room = (room, tt); unrefused = well refl; leads = beside-on v u p more t step asked asks room })
  walk-part false well bad = subst (StopWithin u (t ∷ [])) (sym is-part) (record {
    first = record { asked = x ∷ []; left = []; cut = refl; asks = ((step, asked, asks), tt); room = (room, tt); whole = λ h. refl };
    refused = λ h. bad refl;
  })

  -- its answer comes last
  pub answered-last : (after_task u t).events ≡ (u.events ++ told_by x) ++ answer t.line (said_by x) ∷ []
  answered-last = events v u p more t step asked asks room ∙ sym (append_assoc u.events (told_by x) (answer t.line (said_by x) ∷ []))

-- without room for a line none is carried out
pub walk-full : (u : World) (way : Way) → has_room u.events ≡ false → StopWithin u [] way
unfolding after_tasks
walk-full u way full = record {
  first = record { asked = []; left = way.parts; cut = refl; asks = tt; room = tt; whole = λ h. let e : false ≡ true = sym full ∙ h in absurd cc };
  refused = λ h. let e : false ≡ true = sym full ∙ h in absurd cc;
}

-- and a way without parts needs none
pub walk-stays : (v u : World) → TellsMore v u → GoThrough u u [] (stays v)
walk-stays v u more = record { asks = tt; room = tt; unrefused = refl; leads = more }

-- ---- the steps of parts

pub asks-drain : (v : World) (a : ℕ) → AsksFor (Drain a None) (record { world = v; plan = drain_plan v.control a None })
asks-drain v a = record { one = refl; plan_is = λ es line room. ap (λ b. cond b (drain_plan v.control a None) (refuses JournalFull)) room }

-- a session with a server that is asked next is defined
pub asked-defined : (k : Control) (s server : ℕ) → next_asked (master_in k s) ≡ Some server → is_some (session_in k.sessions s) ≡ true
asked-defined k s server next = by (session_in k.sessions s) next
  where
    by : (o : Option Session) → next_asked (mirror_in o) ≡ Some server → is_some o ≡ true
    by None e = absurd cc
    by (Some x) e = refl

pub asks-exchange : (v : World) (s server : ℕ) (name : Name) → is_some (session_in v.control.sessions s) ≡ true → server_named v.control (name_bytes name) ≡ Some server
    → AsksFor (Exchange s name true) (record { world = v; plan = asking v.control s server true })
asks-exchange v s server name there named = record { one = refl; plan_is = λ es line room. ap (λ b. cond b (plan_of k es line (Exchange s name true)) (refuses JournalFull)) room ∙ by (session_in k.sessions s) there }
  where
    k : Control
    k = v.control

    by : (o : Option Session) → is_some o ≡ true → on_session o (λ x. on_named (server_named k (name_bytes name)) (λ q. exchange_on k s x.mirror q true x.members)) ≡ exchange_on k s (mirror_in o) server true (members_in o)
    by None e = absurd cc
    by (Some x) e = ap (λ o. on_named o (λ q. exchange_on k s x.mirror q true x.members)) named

-- ---- drains

-- what a member comes to
abbrev pub drained_by : Member → World → Way
drained_by m v = cond (is_copying m.a.0 v.control) (part v (drain_plan v.control m.a.0 None)) (stays v)

-- one way after another, in three parts
both-ways : (x : Way) (f g : World → Way) → and_then (and_then x f) g ≡ and_then x (λ w. and_then (f w) g)
both-ways x f g = by x.refusal
  where
    inner : (xs : List Part) (y : Way) (o : Option Refusal) → goes_on (xs ++ y.parts) y.world o g ≡ record (goes_on y.parts y.world o g) { parts = xs ++ (goes_on y.parts y.world o g).parts }
    inner xs y None = ap (λ ps. record (g y.world) { parts = ps }) (append_assoc xs y.parts (g y.world).parts)
    inner xs y (Some r) = refl

    by : (o : Option Refusal) → and_then (goes_on x.parts x.world o f) g ≡ goes_on x.parts x.world o (λ w. and_then (f w) g)
    by None = inner x.parts (f x.world) (f x.world).refusal
    by (Some r) = refl

-- a way after which nothing comes
then-stays : (x : Way) → and_then x stays ≡ x
then-stays x = by x.refusal refl
  where
    by : (o : Option Refusal) → x.refusal ≡ o → goes_on x.parts x.world o stays ≡ x
    by None is = λ i. record { parts = append-nil x.parts i; world = x.world; refusal = sym is i }
    by (Some r) is = λ i. record { parts = x.parts; world = x.world; refusal = sym is i }

-- the drains of one member more come after it
drains-first : (v : World) (m : Member) (ms : List Member) → drains v (m ∷ ms) ≡ and_then (drained_by m v) (λ w. drains w ms)
unfolding drains
drains-first v m ms = by (is_copying m.a.0 v.control)
  where
    x : Way
    x = part v (drain_plan v.control m.a.0 None)

    by : (b : Bool) → cond b (and_then x (λ w. drains w ms)) (drains v ms) ≡ and_then (cond b x (stays v)) (λ w. drains w ms)
    by true = refl
    by false = refl

pub drains-none : (v : World) → drains v [] ≡ stays v
unfolding drains
drains-none v = refl

drains-both : (v : World) (xs ys : List Member) → drains v (xs ++ ys) ≡ and_then (drains v xs) (λ w. drains w ys)
drains-both v [] ys = ap (λ x. and_then x (λ w. drains w ys)) (sym (drains-none v))
drains-both v (x ∷ xs) ys =
    drains-first v x (xs ++ ys) ∙ (λ i. and_then (drained_by x v) (λ w. drains-both w xs ys i)) ∙ sym (both-ways (drained_by x v) (λ w. drains w xs) (λ w. drains w ys))
    ∙ ap (λ y. and_then y (λ w. drains w ys)) (sym (drains-first v x xs))

drains-one : (v : World) (m : Member) → drains v (m ∷ []) ≡ drained_by m v
drains-one v m = drains-first v m [] ∙ (λ i. and_then (drained_by m v) (λ w. drains-none w i)) ∙ then-stays (drained_by m v)

-- those of one member after others
pub drains-more : (v : World) (ms : List Member) (m : Member) → drains v (ms ++ m ∷ []) ≡ and_then (drains v ms) (drained_by m)
drains-more v ms m = drains-both v ms (m ∷ []) ∙ (λ i. and_then (drains v ms) (λ w. drains-one w m i))

-- drains that stop go no further
pub drains-stop : (v u : World) (a : List Task) (xs ys : List Member) → StopWithin u a (drains v xs) → StopWithin u a (drains v (xs ++ ys))
drains-stop v u a xs ys s = subst (StopWithin u a) (sym (drains-both v xs ys)) (walk-stop u a (drains v xs) (λ w. drains w ys) s)

-- ---- turns

pub turns-next : (k : ℕ) (v : World) (s left : ℕ) (committed : Bool) (server : ℕ) → nat_eq left 0 ≡ false → next_asked (master_in v.control s) ≡ Some server
    → turns (suc k) v s left committed ≡ and_then (ask v s (phase_in v.control s) (members_in (session_in v.control.sessions s)) server) (λ w. turns k w s (still_left committed (phase_in w.control s) left) (has_committed committed (phase_in v.control s) (phase_in w.control s)))
unfolding turns
turns-next k v s left committed server some next =
    let more : World → Way = λ w. turns k w s (still_left committed (phase_in w.control s) left) (has_committed committed (phase_in v.control s) (phase_in w.control s)) in
    ap (λ b. cond b (stays v) (turn_in v s more)) some ∙ ap (λ o. turn_by v s (phase_in v.control s) (members_in (session_in v.control.sessions s)) o more) next

-- no further part: enough attempts have counted, nobody is left to ask, or no turn is left
pub turns-over : (k : ℕ) (v : World) (s left : ℕ) (committed : Bool) → nat_eq left 0 ≡ true → (turns k v s left committed).parts ≡ []
unfolding turns
turns-over zero v s left committed none = ap (λ b. (cond b (stays v) (ends v (OutOfOrder (phase_in v.control s)))).parts) none
turns-over (suc k) v s left committed none =
    ap (λ b. (cond b (stays v) (turn_in v s (λ w. turns k w s (still_left committed (phase_in w.control s) left) (has_committed committed (phase_in v.control s) (phase_in w.control s))))).parts) none

pub turns-idle : (k : ℕ) (v : World) (s left : ℕ) (committed : Bool) → next_asked (master_in v.control s) ≡ None → (turns k v s left committed).parts ≡ []
unfolding turns
turns-idle zero v s left committed none = by (nat_eq left 0)
  where
    by : (b : Bool) → (cond b (stays v) (ends v (OutOfOrder (phase_in v.control s)))).parts ≡ []
    by true = refl
    by false = refl
turns-idle (suc k) v s left committed none = by (nat_eq left 0)
  where
    more : World → Way
    more = λ w. turns k w s (still_left committed (phase_in w.control s) left) (has_committed committed (phase_in v.control s) (phase_in w.control s))

    by : (b : Bool) → (cond b (stays v) (turn_in v s more)).parts ≡ []
    by true = refl
    by false = ap (λ o. (turn_by v s (phase_in v.control s) (members_in (session_in v.control.sessions s)) o more).parts) none

pub turns-spent : (v : World) (s left : ℕ) (committed : Bool) → (turns 0 v s left committed).parts ≡ []
unfolding turns
turns-spent v s left committed = by (nat_eq left 0)
  where
    by : (b : Bool) → (cond b (stays v) (ends v (OutOfOrder (phase_in v.control s)))).parts ≡ []
    by true = refl
    by false = refl

-- parts that are none are asked for by no line
pub first-none : (u : World) (parts : List Part) → parts ≡ [] → AskForFirst u [] parts
first-none u parts none = record { asked = []; left = []; cut = none; asks = tt; room = tt; whole = λ h. refl }

-- ---- the whole line

-- an `@run` has the parts of its turns, if it doesn't ask for too many groups
pub formed-turns : (w : World) (s n : ℕ) → n ≤ most_groups → has_room w.events ≡ true → (formed w s n).parts ≡ (turns (most_turns n) w s n false).parts
formed-turns w s n few room = ap (λ b. (cond b (form_in w s n (session_in w.control.sessions s)) (ends w JournalFull)).parts) room ∙ by (session_in w.control.sessions s) refl
  where
    turned : Way
    turned = turns (most_turns n) w s n false

    with : (b : Bool) → nat_eq n 0 ≡ b → (o : Option Mirror) → mirror_in (session_in w.control.sessions s) ≡ o → (unless_refused (cond b (Some (over Groups)) (cond (is_some o) None no_master)) w turned).parts ≡ turned.parts
    with true zero_groups o is = sym (turns-over (most_turns n) w s n false zero_groups)
    with false some None is = sym (turns-idle (most_turns n) w s n false (ap next_asked is))
    with false some (Some r) is = refl

    below : nat_lt most_groups n ≡ false
    below = grind (arith, nat_tests, few)

    either : (b : Bool) → (b || nat_lt most_groups n) ≡ b
    either true = refl
    either false = below

    by : (o : Option Session) → session_in w.control.sessions s ≡ o → (form_in w s n o).parts ≡ turned.parts
    by None is = sym (turns-idle (most_turns n) w s n false (ap (λ o. next_asked (mirror_in o)) is))
    by (Some x) is =
        ap (λ b. (unless_refused (cond b (Some (over Groups)) (cond (is_some x.mirror) None no_master)) w turned).parts) (either (nat_eq n 0))
        ∙ with (nat_eq n 0) refl x.mirror (ap mirror_in is)

-- and none if it does
pub formed-many : (w : World) (s n : ℕ) → nat_lt most_groups n ≡ true → (formed w s n).parts ≡ []
formed-many w s n many = by (has_room w.events) (session_in w.control.sessions s)
  where
    either : (b : Bool) → (b || nat_lt most_groups n) ≡ true
    either true = refl
    either false = many

    by : (room : Bool) (o : Option Session) → (cond room (form_in w s n o) (ends w JournalFull)).parts ≡ []
    by false o = refl
    by true None = refl
    by true (Some x) = ap (λ b. (unless_refused (cond b (Some (over Groups)) (cond (is_some x.mirror) None no_master)) w (turns (most_turns n) w s n false)).parts) (either (nat_eq n 0))

pub formed-full : (w : World) (s n : ℕ) → has_room w.events ≡ false → (formed w s n).parts ≡ []
formed-full w s n full = ap (λ b. (cond b (form_in w s n (session_in w.control.sessions s)) (ends w JournalFull)).parts) full

-- its first parts are the `@run`, if the journal has room for one more
pub first-is-run : (w : World) (s n : ℕ) (ts : List Task) (f : AskForFirst w ts (formed w s n).parts) → has_room (after_tasks w ts).events ≡ true → AreTheRun w (formed w s n) ts
first-is-run w s n ts f room =
    run-is-its-parts w s n ts (subst (AskForAll ts) (sym (f.cut ∙ ap (λ xs. f.asked ++ xs) (f.whole room) ∙ append-nil f.asked)) f.asks) f.room
