-- A flight only goes on, over every step: no count and no fence falls, and no number of a message comes again.
use Rattle.std.proofs.Common.{ℕ, max, ◌≡◌, ◌≤◌, ◌<◌, ◌+◌, ◌⊎◌, inl, inr, refl, ap, sym, subst, arith, Bool, true, false, cond, not, ◌==◌, List, [], ◌∷◌, filter, Option, Some, None, Result}
use Rattle.dr_model.specs.declared.step.Step.{Step}
use Rattle.dr_ids.specs.declared.names.Member.{Member}
use Rattle.dr_model.specs.declared.event.Event.{Event}
use Rattle.dr_model.specs.Phases as phases
use Rattle.dr_model.specs.Sessions.{Session, Mirror, is_only}
use Rattle.dr_model.specs.Messages.{Flight, Message, Body, Asks, Replies, is_lost, loses_in}
use Rattle.dr_model.specs.Messages as messages
use Rattle.dr_model.specs.Groups.{In}
use Rattle.dr_model.specs.Control.{Control, Fuse, World}
use Rattle.dr_model.specs.Carry.{Act, Make, OpenAttempt, act, Next, Pass, Do, End, Entry}
use Rattle.dr_model.specs.PlanParts.{Plan}
use Rattle.dr_model.specs.SessionPlans.{exchanged}
use Rattle.dr_model.specs.SessionEntries.{members_on, reply_after}
use Rattle.dr_model.specs.Forming.{Part, after_part}
use Rattle.dr_model.specs.Runs.{Task, course, masters_lost, carried_out, after_plan, after_task, after_tasks}
use Rattle.dr_facts.proofs.Entries.{any_world, any_reason, Fine, AllFine, fine-none, fine-then, plan-kept, EachFine}
use Rattle.dr_facts.proofs.Lists.{in-joined, from-filter}
use Rattle.dr_facts.proofs.Tables.{at_cases, at2_cases}
use Rattle.dr_laws_sound.proofs.Cases.{Case, Starts, RemovesSession, MakesMirror, Aborts, Exchanges, Sends, Delivers, Loses}
use Rattle.dr_laws_sound.proofs.Parts.{Ending, OnePlan, Imaged, course-case, last-plan}
use Rattle.dr_laws_sound.proofs.Turns.{act-cases, Counts, after_act}
use Rattle.dr_laws_orders.specs.FlightGoesOn.{FlightGoesOn}

-- ---- what becomes of a flight

-- nothing has come, or one thing after another
pub goes-same : (f : Flight) → FlightGoesOn f f
goes-same f = record { made = omega arith; starts = λ server. omega arith; epochs = λ s. omega arith; fences = λ s server. omega arith; messages = λ m here. inl here }

goes-equal : (f g : Flight) → g ≡ f → FlightGoesOn f g
goes-equal f g e = subst (FlightGoesOn f) (sym e) (goes-same f)

pub goes-then : (f g h : Flight) → FlightGoesOn f g → FlightGoesOn g h → FlightGoesOn f h
goes-then f g h a b = record {
  made = let p : f.made ≤ g.made = a.made in let q : g.made ≤ h.made = b.made in omega arith;
  starts = λ server. let p : f.starts server ≤ g.starts server = a.starts server in let q : g.starts server ≤ h.starts server = b.starts server in omega arith;
  epochs = λ s. let p : f.epoch s ≤ g.epoch s = a.epochs s in let q : g.epoch s ≤ h.epoch s = b.epochs s in omega arith;
  fences = λ s server. let p : f.fence s server ≤ g.fence s server = a.fences s server in let q : g.fence s server ≤ h.fence s server = b.fences s server in omega arith;
  messages = λ m here. by m (b.messages m here);
}
  where
    by : (m : Message) → In m g.messages ⊎ (g.made < m.number) → In m f.messages ⊎ (f.made < m.number)
    by m (inl old) = a.messages m old
    by m (inr new) = inr (let p : f.made ≤ g.made = a.made in omega arith)

-- messages that are gone
goes-fewer : (keeps : Message → Bool) (f : Flight) → FlightGoesOn f (record f { messages = filter keeps f.messages })
goes-fewer keeps f = let s = goes-same f in record { made = s.made; starts = s.starts; epochs = s.epochs; fences = s.fences; messages = λ m here. inl (from-filter keeps f.messages m here).0 }

-- a server is started, an epoch begins, an attempt is aborted, and a session may end
goes-started : (server : ℕ) (f : Flight) → FlightGoesOn f (messages.started server f)
goes-started server f = let s = goes-same f in record { made = s.made; starts = at_cases (λ q (c : ℕ). f.starts q ≤ c) f.starts server (f.starts server + 1) (omega arith) (λ q ne. omega arith); epochs = s.epochs; fences = s.fences; messages = s.messages }

goes-raised : (i : ℕ) (f : Flight) → FlightGoesOn f (messages.raised i f)
goes-raised i f = let s = goes-same f in record { made = s.made; starts = s.starts; epochs = at_cases (λ q (c : ℕ). f.epoch q ≤ c) f.epoch i (f.epoch i + 1) (omega arith) (λ q ne. omega arith); fences = s.fences; messages = s.messages }

goes-aborted : (i : ℕ) (r : Option Mirror) (f : Flight) → FlightGoesOn f (messages.aborted i r f)
goes-aborted i None f = goes-same f
goes-aborted i (Some r) f = by (is_lost (phases.aborted_phase r.master.phase))
  where
    by : (b : Bool) → FlightGoesOn f (cond b (messages.raised i f) f)
    by true = goes-raised i f
    by false = goes-same f

goes-left : (i l : ℕ) (x : Session) (f : Flight) → FlightGoesOn f (messages.left i l x f)
goes-left i l x f = by (is_only l x)
  where
    by : (b : Bool) → FlightGoesOn f (cond b (messages.forgotten i f) f)
    by true = goes-fewer (λ m. not (m.session == i)) f
    by false = goes-same f

-- a fence rises
pub goes-heard : (i server epoch : ℕ) (work : phases.Work) (f : Flight) → FlightGoesOn f (messages.heard i server epoch work f)
goes-heard i server epoch phases.Report f = let s = goes-same f in record { made = s.made; starts = s.starts; epochs = s.epochs; fences = at2_cases (λ t x (y : ℕ). f.fence t x ≤ y) f.fence i server (max (f.fence i server) epoch) (omega arith) (λ t x ne. omega arith); messages = s.messages }
goes-heard i server epoch work f = goes-same f

-- a message more has a number that none had
goes-made : (i epoch server : ℕ) (o : phases.Order) (body : Body) (f : Flight) → FlightGoesOn f (messages.with_message i epoch server o body f)
goes-made i epoch server o body f = let s = goes-same f in record { made = omega arith; starts = s.starts; epochs = s.epochs; fences = s.fences; messages = λ m here. by m (in-joined f.messages (new ∷ []) m here) }
  where
    new : Message
    new = record { number = f.made + 1; session = i; epoch = epoch; server = server; order = o; body = body }

    by : (m : Message) → In m f.messages ⊎ In m (new ∷ []) → In m f.messages ⊎ (f.made < m.number)
    by m (inl old) = inl old
    by m (inr (inl is)) = inr (let next : m.number ≡ f.made + 1 = ap (λ (m : Message). m.number) is in omega arith)
    by m (inr (inr none)) = absurd none

-- epochs begin where masters are lost
goes-lost : (before now : ℕ → Bool) (ss : List Session) (f : Flight) → FlightGoesOn f (messages.lost_since before now ss f)
goes-lost before now ss f = let s = goes-same f in record { made = s.made; starts = s.starts; epochs = λ i. rises i (loses_in before now i ss); fences = s.fences; messages = s.messages }
  where
    rises : (i : ℕ) (b : Bool) → f.epoch i ≤ cond b (f.epoch i + 1) (f.epoch i)
    rises i true = omega arith
    rises i false = omega arith

-- ---- acts leave it

-- from a world to another
abbrev Leaves : World → World → Type 0
Leaves w u = u.control.flight ≡ w.control.flight

done-leaves : (w : World) (a : Act) (f : Option Fuse) → Leaves w (after_act w a f)
done-leaves w (Make m) f = refl
done-leaves w a f = refl

counts-leaves : (w : World) (a : Act) → Counts w a (λ t. Leaves w t.0)
counts-leaves w (Make m) = λ f. refl
counts-leaves w (OpenAttempt v s n) = λ f. refl
counts-leaves w a = tt

-- however an act ends
pub act-leaves : (w : World) (a : Act) → Leaves w (act w a).0
act-leaves w a = act-cases w a (λ t. Leaves w t.0) (λ d off. refl) (done-leaves w a) (counts-leaves w a) (λ d f. refl)

-- so any entries leave it
abbrev pub any_act : World → Act → Type 0
any_act w a = Unit {0}

any-next : (w : World) (x : Next) → Fine any_world any_act any_reason w x
any-next w Pass = tt
any-next w (End r) = tt
any-next w (Do a) = tt

pub any-fine : (ds : List Entry) → AllFine any_world any_act any_reason ds
any-fine [] = fine-none any_world any_act any_reason
any-fine (d ∷ ds) = fine-then any_world any_act any_reason d ds (λ w k. any-next w (d w.control)) (any-fine ds)

any-each : (ds : List Entry) → EachFine any_world any_act any_reason ds
any-each [] = tt
any-each (d ∷ ds) = (any-fine (d ∷ []), any-each ds)

-- ---- plans

-- in the tables of a plan as it begins, and as it ends
record Going (k : Control) (p : Plan) : Type 0 where
  first : FlightGoesOn k.flight (p.first k).flight
  last : (j : Control) → FlightGoesOn j.flight (p.last j).flight

-- it is carried out; its masters are lost as it is answered, or as the next one begins
carried-goes : (w : World) (p : Plan) → Going w.control p → FlightGoesOn w.control.flight (carried_out w p).0.control.flight
carried-goes w p g = plan-kept any_world any_act any_reason (λ v. FlightGoesOn w.control.flight v.control.flight) (λ v j. tt) (λ v a any j. subst (FlightGoesOn w.control.flight) (sym (act-leaves v a)) j) w p
    g.first (any-fine p.entries) (λ s. any-each (p.follows s)) (λ v j. goes-then _ _ _ j (g.last v.control))

answered-goes : (w : World) (line : ℕ) (p : Plan) → Going w.control p → FlightGoesOn w.control.flight (masters_lost w (after_plan w line p)).control.flight
unfolding after_plan
answered-goes w line p g = let u : World = (carried_out w p).0 in goes-then _ _ _ (carried-goes w p g) (goes-lost w.control.on u.control.on u.control.sessions u.control.flight)

part-goes : (w : World) (p : Plan) → Going w.control p → FlightGoesOn w.control.flight (after_part w p).control.flight
part-goes w p g = let u : World = (carried_out w p).0 in goes-then _ _ _ (carried-goes w p g) (goes-lost w.control.on u.control.on u.control.sessions u.control.flight)

-- ---- every plan of a step

-- an exchange may raise a fence
exchanged-goes : (i server : ℕ) (reply : Bool) (work : phases.Work) (ms : List Member) (k : Control) → FlightGoesOn k.flight (exchanged i server reply work ms k).flight
exchanged-goes i server true work ms k = goes-heard i server (k.flight.epoch i) work k.flight
exchanged-goes i server false work ms k = goes-heard i server (k.flight.epoch i) work k.flight

module _ (k : Control) where
  stays : (p : Plan) → (p.first k).flight ≡ k.flight → ((j : Control) → (p.last j).flight ≡ j.flight) → Going k p
  stays p first last = record { first = goes-equal _ _ first; last = λ j. goes-equal _ _ (last j) }

  -- one that changes its tables as it begins
  begins : (p : Plan) → FlightGoesOn k.flight (p.first k).flight → ((j : Control) → (p.last j).flight ≡ j.flight) → Going k p
  begins p first last = record { first = first; last = λ j. goes-equal _ _ (last j) }

  case-goes : (events : List Event) (line : ℕ) (asked : Result Step ℕ) (p : Plan) → Case k events line asked p → Going k p
  case-goes events line _ _ (Starts x off) = begins _ (goes-started x k.flight) (λ j. refl)
  case-goes events line _ _ (RemovesSession l i x found free) = begins _ (goes-left i l x k.flight) (λ j. refl)
  case-goes events line _ _ (MakesMirror owner i x found free l owned) = begins _ (goes-raised i k.flight) (λ j. refl)
  case-goes events line _ _ (Aborts i x found free) = begins _ (goes-aborted i x.mirror k.flight) (λ j. refl)
  case-goes events line _ _ (Sends i server x r o posts) = begins _ (goes-made i (k.flight.epoch i) server o (Asks (k.flight.starts server)) k.flight) (λ j. refl)
  case-goes events line _ _ (Delivers q m starts x r reaches) = record {
    first = goes-same k.flight;
    last = λ j.
        let reply : phases.Reply = reply_after m.session m.order.work (members_on m.server x.members) j in
        let heard : Flight = messages.heard m.session m.server m.epoch m.order.work j.flight in
        goes-then _ heard _ (goes-heard m.session m.server m.epoch m.order.work j.flight) (goes-made m.session m.epoch m.server m.order (Replies reply) heard);
  }
  case-goes events line _ _ (Loses n) = begins _ (goes-fewer (λ (q : Message). not (q.number == n)) k.flight) (λ j. refl)
  case-goes events line _ _ (Exchanges i server reply x r o allowed) = record { first = goes-same k.flight; last = exchanged-goes i server reply o.work (members_on server x.members) }
  case-goes events line _ _ c = stays _ refl (λ j. refl)

  ending-goes : (events : List Event) (line : ℕ) (p : Plan) → Ending k events line p → Going k p
  ending-goes events line _ (OnePlan asked p c) = case-goes events line asked p c
  ending-goes events line _ (Imaged vs) = stays _ refl (λ j. refl)

-- ---- steps

-- each plan of a step, one after another
task-goes : (w : World) (t : Task) → FlightGoesOn w.control.flight (after_task w t).control.flight
task-goes w t =
    let x : Part = (course w t).last in
    goes-then _ x.world.control.flight _
    (last-plan (λ u. FlightGoesOn w.control.flight u.control.flight) (λ u p comes h. goes-then _ _ _ h (part-goes u p (case-goes u.control u.events t.line comes.asked p (comes.case t.line)))) w t (goes-same w.control.flight))
    (answered-goes x.world t.line x.plan (ending-goes x.world.control x.world.events t.line x.plan (course-case w t)))

-- and steps
pub tasks-go : (w : World) (tasks : List Task) → FlightGoesOn w.control.flight (after_tasks w tasks).control.flight
unfolding after_tasks
tasks-go w [] = goes-same w.control.flight
tasks-go w (t ∷ tasks) = goes-then _ _ _ (task-goes w t) (tasks-go (after_task w t) tasks)
