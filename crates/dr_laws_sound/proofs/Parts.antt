-- The plans of one step, one after another: each begins where the one before it ended. What each of them keeps, a step keeps.
use Rattle.std.proofs.Common.{ℕ, zero, suc, ◌≡◌, ◌⊎◌, inl, inr, refl, sym, subst, Bool, true, false, cond, List, [], ◌∷◌, ◌++◌, Option, Some, None, nat_eq, Result, Ok}
use Rattle.dr_model.specs.declared.step.Name.{Name}
use Rattle.dr_model.specs.declared.step.Step.TheVariants.{Drain, Exchange}
use Rattle.dr_model.specs.declared.step.Step.{Step}
use Rattle.dr_ids.specs.declared.names.Member.{Member}
use Rattle.dr_ids.specs.declared.refusal.PhaseName.{PhaseName}
use Rattle.dr_ids.specs.declared.refusal.PhaseName.TheVariants as phase
use Rattle.dr_ids.specs.declared.refusal.Refusal.{Refusal}
use Rattle.dr_ids.specs.declared.refusal.Refusal.TheVariants.{OutOfOrder, JournalFull}
use Rattle.dr_ids.specs.declared.refusal.Kind.TheVariants.{Session as OfSession}
use Rattle.dr_model.specs.declared.said.Said.TheVariants.{Refused}
use Rattle.dr_model.specs.Control.{Control, World}
use Rattle.dr_model.specs.declared.event.Event.{Event}
use Rattle.dr_model.specs.Limits.{image_events}
use Rattle.dr_model.specs.PlantImage.{Volume}
use Rattle.dr_model.specs.Groups.{In}
use Rattle.dr_model.specs.Phases as phases
use Rattle.dr_model.specs.PairEntries.{is_copying}
use Rattle.dr_model.specs.PlanParts.{Plan, unless, refuses}
use Rattle.dr_model.specs.Refusals.{unknown}
use Rattle.dr_model.specs.SessionEntries.{members_on}
use Rattle.dr_model.specs.SessionPlans.{asking, exchange_on, exchange_done, exchange_refusal, order_of}
use Rattle.dr_model.specs.Sessions.{Session, Mirror, session_in, mirror_in, members_in}
use Rattle.dr_model.specs.Plans.{drain_plan, has_room, has_room_for, compare_plan}
use Rattle.dr_model.specs.Forming.{Part, Way, stays, ends, goes_on, unless_refused, after_part, part_refusal, part, drains, is_draining, ask, next_asked, master_in, phase_in, has_committed, still_left, turn_by, turns, most_turns, form_refusal, form_in, formed, form_answer}
use Rattle.dr_model.specs.Runs.{Task, own_course, course_of, course, plans_of, OwnCourse, Groups, Volumes, Devices, compared, image_plan, imaged}
use Rattle.dr_logic.proofs.Options.{none_some}
use Rattle.dr_laws_sound.proofs.Cases.{Case, Says, Drains, on-case, plan-case, Compares, NotHeld, refused-not}
use Rattle.dr_laws_sound.proofs.AcknowledgingSteps.{acknowledges, phase-not}

-- the drain of a primary, or what a master asks of a server
pub data IsTurn : Control → Plan → Type 0 where
  Drained : (k : Control) → (a : ℕ) → IsTurn k (drain_plan k a None)
  Asked : (k : Control) → (s server : ℕ) → (m : Option Mirror) → (ms : List Member) → IsTurn k (exchange_on k s m server true ms)

-- the steps that ask for such plans
abbrev pub asks_turn : Result Step ℕ → Bool
asks_turn (Ok (Drain a most)) = true
asks_turn (Ok (Exchange s name reply)) = true
asks_turn asked = false

-- A plan that isn't the last one of its step: the journal has room for it, its tables change and its journal is told by its entries
-- alone, and it acknowledges no write.
pub record Comes (w : World) (p : Plan) : Type 0 where
  pub turn : IsTurn w.control p
  pub room : has_room w.events ≡ true
  pub asked : Result Step ℕ
  pub asks : asks_turn asked ≡ true
  pub case : (line : ℕ) → Case w.control w.events line asked p
  pub first : (k : Control) → p.first k ≡ k
  pub told : p.told ≡ []
  pub other : acknowledges asked ≡ false
  pub one : own_course asked ≡ None

-- such plans lead from a world to another
pub data Goes : World → List Part → World → Type 0 where
  Nothing : (w : World) → Goes w [] w
  Next : (w : World) → (p : Plan) → (xs : List Part) → (u : World) → Comes w p → Goes (after_part w p) xs u → Goes w (record { world = w; plan = p } ∷ xs) u

goes-more : (w u v : World) (xs ys : List Part) → Goes w xs u → Goes u ys v → Goes w (xs ++ ys) v
goes-more _ _ v _ ys (Nothing w) more = more
goes-more _ _ v _ ys (Next w p xs u comes rest) more = Next w p (xs ++ ys) v comes (goes-more (after_part w p) u v xs ys rest more)

-- what is kept by each of them
pub goes-keep : (K : World → Type 0) → ((w : World) (p : Plan) → Comes w p → K w → K (after_part w p)) → (w u : World) (xs : List Part) → Goes w xs u → K w → K u
goes-keep K keeps _ _ _ (Nothing w) k = k
goes-keep K keeps _ _ _ (Next w p xs u comes rest) k = goes-keep K keeps (after_part w p) u xs rest (keeps w p comes k)

-- and what holds where each of them begins
pub record Begins (K : World → Type 0) (x : Part) : Type 0 where
  pub holds : K x.world
  pub comes : Comes x.world x.plan

pub goes-each : (K : World → Type 0) → ((w : World) (p : Plan) → Comes w p → K w → K (after_part w p)) → (w u : World) (xs : List Part) → Goes w xs u → K w → (x : Part) → In x xs → Begins K x
goes-each K keeps _ _ _ (Nothing w) k x h = absurd h
goes-each K keeps _ _ _ (Next w p xs u comes rest) k x (inl is) = subst (Begins K) (sym is) (record { holds = k; comes = comes })
goes-each K keeps _ _ _ (Next w p xs u comes rest) k x (inr there) = goes-each K keeps (after_part w p) u xs rest (keeps w p comes k) x there

-- ---- the way of an `@run`

-- a plan that changes no table and tells nothing as it begins
record Plain (p : Plan) : Type 0 where
  first : (k : Control) → p.first k ≡ k
  told : p.told ≡ []

plain-unless : (o : Option Refusal) (p : Plan) → Plain p → Plain (unless o p)
plain-unless None p plain = plain
plain-unless (Some r) p plain = record { first = λ k. refl; told = refl }

plain-exchange : (k : Control) (s server : ℕ) (m : Option Mirror) (ms : List Member) → Plain (exchange_on k s m server true ms)
plain-exchange k s server None ms = record { first = λ k. refl; told = refl }
plain-exchange k s server (Some r) ms = plain-unless (exchange_refusal k r server ms) _ (of (order_of r server))
  where
    of : (o : Option phases.Order) → Plain (exchange_done s server true (members_on server ms) o)
    of None = record { first = λ k. refl; told = refl }
    of (Some o) = record { first = λ k. refl; told = refl }

-- the server of an exchange of an `@run` is no name of a line
unnamed : Name
unnamed = record { len = 0; bytes = [] }

-- the plans of an `@run`
pub comes-drain : (w : World) (a : ℕ) → has_room w.events ≡ true → Comes w (drain_plan w.control a None)
comes-drain w a room = record { turn = Drained w.control a; room = room; asked = Ok (Drain a None); asks = refl; case = λ line. Drains a None; first = λ k. refl; told = refl; other = refl; one = refl }

pub comes-asking : (w : World) (s server : ℕ) → has_room w.events ≡ true → Comes w (asking w.control s server true)
comes-asking w s server room = by (session_in w.control.sessions s) refl
  where
    by : (o : Option Session) → session_in w.control.sessions s ≡ o → Comes w (exchange_on w.control s (mirror_in o) server true (members_in o))
    by None none = record { turn = Asked w.control s server None []; room = room; asked = Ok (Exchange s unnamed true); asks = refl; case = λ line. Says (Refused (OutOfOrder phase.None)) (refused-not _) (λ one. refl); first = λ k. refl; told = refl; other = refl; one = refl }
    by (Some x) there =
        let plain : Plain (exchange_on w.control s x.mirror server true x.members) = plain-exchange w.control s server x.mirror x.members in
        record { turn = Asked w.control s server x.mirror x.members; room = room; asked = Ok (Exchange s unnamed true); asks = refl; case = λ line. on-case w.control w.events line s server true x x.mirror there refl; first = plain.first; told = plain.told; other = refl; one = refl }

-- What holds of a way that has no plan, of one that has one plan, and of one that goes on, holds of the whole line.
pub record Ways (P : World → Way → Type 0) : Type 0 where
  pub stands : (w : World) (r : Option Refusal) → P w (record { parts = []; world = w; refusal = r })
  pub one : (w : World) (p : Plan) → Comes w p → P w (record { parts = record { world = w; plan = p } ∷ []; world = after_part w p; refusal = part_refusal w p })
  pub then : (w u : World) (xs : List Part) (r : Option Refusal) (more : World → Way) → P w (record { parts = xs; world = u; refusal = r }) → ((v : World) → P v (more v)) → P w (goes_on xs u r more)

module _ (P : World → Way → Type 0) (ways : Ways P) where
  pub way-part : (w : World) (p : Plan) → (has_room w.events ≡ true → Comes w p) → P w (part w p)
  way-part w p comes = by (has_room w.events) refl
    where
      by : (b : Bool) → has_room w.events ≡ b → P w (cond b (record { parts = record { world = w; plan = p } ∷ []; world = after_part w p; refusal = part_refusal w p }) (ends w JournalFull))
      by true room = ways.one w p (comes room)
      by false full = ways.stands w (Some JournalFull)

  way-if : (w : World) (b : Bool) (x y : Way) → P w x → P w y → P w (cond b x y)
  way-if w true x y a c = a
  way-if w false x y a c = c

  pub way-drains : (w : World) (ms : List Member) → P w (drains w ms)
  unfolding drains
  way-drains w [] = ways.stands w None
  way-drains w (m ∷ ms) =
      let x : Way = part w (drain_plan w.control m.a.0 None) in
      way-if w (is_copying m.a.0 w.control) _ _
      (ways.then w x.world x.parts x.refusal (λ v. drains v ms) (way-part w (drain_plan w.control m.a.0 None) (comes-drain w m.a.0)) (λ v. way-drains v ms))
      (way-drains w ms)

  pub way-ask : (w : World) (s : ℕ) (p : PhaseName) (ms : List Member) (server : ℕ) → P w (ask w s p ms server)
  way-ask w s p ms server =
      let x : Way = cond (is_draining p) (drains w (members_on server ms)) (stays w) in
      ways.then w x.world x.parts x.refusal (λ v. part v (asking v.control s server true)) (way-if w (is_draining p) _ _ (way-drains w (members_on server ms)) (ways.stands w None)) (λ v. way-part v (asking v.control s server true) (comes-asking v s server))

  way-turn : (w : World) (s : ℕ) (p : PhaseName) (ms : List Member) (o : Option ℕ) (more : World → Way) → ((v : World) → P v (more v)) → P w (turn_by w s p ms o more)
  way-turn w s p ms None more go = ways.stands w (Some (OutOfOrder p))
  way-turn w s p ms (Some server) more go = let y : Way = ask w s p ms server in ways.then w y.world y.parts y.refusal more (way-ask w s p ms server) go

  pub way-turns : (bound : ℕ) (w : World) (s left : ℕ) (committed : Bool) → P w (turns bound w s left committed)
  unfolding turns
  way-turns zero w s left committed = way-if w (nat_eq left 0) _ _ (ways.stands w None) (ways.stands w (Some (OutOfOrder (phase_in w.control s))))
  way-turns (suc bound) w s left committed = way-if w (nat_eq left 0) _ _ (ways.stands w None)
      (way-turn w s (phase_in w.control s) (members_in (session_in w.control.sessions s)) (next_asked (master_in w.control s)) _
      (λ v. way-turns bound v s (still_left committed (phase_in v.control s) left) (has_committed committed (phase_in w.control s) (phase_in v.control s))))

  pub way-formed : (w : World) (s n : ℕ) → P w (formed w s n)
  way-formed w s n = way-if w (has_room w.events) _ _ (by (session_in w.control.sessions s)) (ways.stands w (Some JournalFull))
    where
      unrefused : (r : Option Refusal) (x : Way) → P w x → P w (unless_refused r w x)
      unrefused None x a = a
      unrefused (Some r) x a = ways.stands w (Some r)

      by : (o : Option Session) → P w (form_in w s n o)
      by None = ways.stands w (Some (unknown OfSession))
      by (Some x) = unrefused (form_refusal n x.mirror) _ (way-turns (most_turns n) w s n false)

abbrev Leads : World → Way → Type 0
Leads w x = Goes w x.parts x.world

leads : Ways Leads
leads = record {
  stands = λ w r. Nothing w;
  one = λ w p comes. Next w p [] (after_part w p) comes (Nothing (after_part w p));
  then = on;
}
  where
    on : (w u : World) (xs : List Part) (r : Option Refusal) (more : World → Way) → Goes w xs u → ((v : World) → Leads v (more v)) → Leads w (goes_on xs u r more)
    on w u xs None more goes go = goes-more w u (more u).world xs (more u).parts goes (go u)
    on w u xs (Some r) more goes go = goes

-- ---- every step does

-- its plans before the last one, and the last one
pub course-goes : (w : World) (t : Task) → Goes w (course w t).before (course w t).last.world
course-goes w t = by (own_course t.asked)
  where
    by : (o : Option OwnCourse) → Goes w (course_of w t o).before (course_of w t o).last.world
    by None = Nothing w
    by (Some (Groups s n)) = way-formed Leads leads w s n
    by (Some (Volumes v u)) = Nothing w
    by (Some Devices) = Nothing w

-- what the last plan of a step comes to: a plan of the step table, or an image
pub data Ending (k : Control) (events : List Event) (line : ℕ) : Plan → Type 0 where
  OnePlan : (asked : Result Step ℕ) (p : Plan) → Case k events line asked p → Ending k events line p
  Imaged : (vs : List Volume) → Ending k events line (image_plan vs)

-- what a part comes to, as a plan of a step
abbrev pub EndingOf : ℕ → Part → Type 0
EndingOf line x = Ending x.world.control x.world.events line x.plan

-- a comparison, where the journal has room
pub compared-case : (w : World) (line : ℕ) (asked : Result Step ℕ) (v u : ℕ) → Case w.control w.events line asked (compared w v u)
compared-case w line asked v u = by (has_room w.events)
  where
    by : (room : Bool) → Case w.control w.events line asked (cond room (compare_plan w.control w.contents v u) (refuses JournalFull))
    by true = Compares w.contents v u
    by false = Says (Refused JournalFull) (refused-not _) (λ one. refl)

-- an image, where the journal has room
pub imaged-case : (w : World) (line : ℕ) (asked : Result Step ℕ) (vs : List Volume) → Ending w.control w.events line (imaged w vs)
imaged-case w line asked vs = by (has_room_for image_events w.events)
  where
    by : (room : Bool) → Ending w.control w.events line (cond room (image_plan vs) (refuses JournalFull))
    by true = Imaged vs
    by false = OnePlan asked _ (Says (Refused JournalFull) (refused-not _) (λ one. refl))

pub formed-not : (s : ℕ) (ss : List Session) (r : Option Refusal) → NotHeld (form_answer s ss r)
formed-not s ss None = phase-not (session_in ss s)
formed-not s ss (Some r) = refused-not r

pub course-case : (w : World) (t : Task) → EndingOf t.line (course w t).last
course-case w t = by (own_course t.asked) refl
  where
    by : (o : Option OwnCourse) → own_course t.asked ≡ o → EndingOf t.line (course_of w t o).last
    by None is = OnePlan t.asked _ (plan-case w.control w.events t.line t.asked)
    by (Some (Groups s n)) is = OnePlan t.asked _ (Says _ (formed-not s _ _) (λ one. none_some one is))
    by (Some (Volumes v u)) is = OnePlan t.asked _ (compared-case w t.line t.asked v u)
    by (Some Devices) is = imaged-case w t.line t.asked t.listed

-- a step that is no image ends in a plan of the step table
pub plain-case : (w : World) (t : Task) → (own_course t.asked ≡ Some Devices → ⊥) → let x : Part = (course w t).last in Case x.world.control x.world.events t.line t.asked x.plan
plain-case w t = by (own_course t.asked) refl
  where
    by : (o : Option OwnCourse) → own_course t.asked ≡ o → (o ≡ Some Devices → ⊥) → let x : Part = (course_of w t o).last in Case x.world.control x.world.events t.line t.asked x.plan
    by None is other = plan-case w.control w.events t.line t.asked
    by (Some (Groups s n)) is other = Says _ (formed-not s _ _) (λ one. none_some one is)
    by (Some (Volumes v u)) is other = compared-case w t.line t.asked v u
    by (Some Devices) is other = absurd (other refl)

in-either : {A : Type 0} (x y : A) (xs : List A) → In x (xs ++ y ∷ []) → In x xs ⊎ (x ≡ y)
in-either x y [] (inl is) = inr is
in-either x y [] (inr none) = absurd none
in-either x y (z ∷ zs) (inl is) = inl (inl is)
in-either x y (z ∷ zs) (inr there) = elim (in-either x y zs there) [
  | inl a ↦ inl (inr a)
  | inr b ↦ inr b
]

-- what each plan but the last keeps holds as each plan begins
pub each-plan : (K : World → Type 0) → ((w : World) (p : Plan) → Comes w p → K w → K (after_part w p)) → (w : World) (t : Task) → K w → (x : Part) → In x (plans_of w t) → K x.world × EndingOf t.line x
each-plan K keeps w t k x h = elim (in-either x (course w t).last (course w t).before h) [
  | inl before ↦ let b = goes-each K keeps w _ _ (course-goes w t) k x before in (b.holds, OnePlan b.comes.asked _ (b.comes.case t.line))
  | inr is ↦ subst (λ x. K x.world × EndingOf t.line x) (sym is) (goes-keep K keeps w _ _ (course-goes w t) k, course-case w t)
]

-- and as the last one begins
pub last-plan : (K : World → Type 0) → ((w : World) (p : Plan) → Comes w p → K w → K (after_part w p)) → (w : World) (t : Task) → K w → K (course w t).last.world
last-plan K keeps w t k = goes-keep K keeps w _ _ (course-goes w t) k
