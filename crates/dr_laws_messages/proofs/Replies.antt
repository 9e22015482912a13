-- What the messages in flight say stays where a master takes the reply of a server with which it exchanges, and where a report raises the
-- server's fence.
use Rattle.std.proofs.Common.{ℕ, ◌≡◌, ◌≢◌, ◌≤◌, refl, sym, max, Bool, true, false, cond, not, arith, List, subst, Some}
use Rattle.std.specs.List.{list_any}
use Rattle.dr_ids.specs.declared.names.Member.{Member}
use Rattle.dr_ids.specs.declared.refusal.PhaseName.TheVariants as phase
use Rattle.dr_model.specs.Decisions.{Shown}
use Rattle.dr_model.specs.Phases as phases
use Rattle.dr_model.specs.Control.{Control}
use Rattle.dr_model.specs.Sessions.{Session, Mirror, session_in, servers_of, changed, with_master}
use Rattle.dr_model.specs.Messages.{Flight, fenced, heard}
use Rattle.dr_model.specs.SessionEntries.{members_on, shown_by_members, is_drained}
use Rattle.dr_model.specs.SessionPlans.{answered_by, exchanged}
use Rattle.dr_model.specs.Groups.{In, Groups}
use Rattle.dr_model.specs.Attempts.{Roles, roles, Seen, all_seen, All, phase_of, owed_of, reports_of, Attempts, ServerDone}
use Rattle.dr_model.specs.Flights.{Flights}
use Rattle.dr_facts.proofs.Tables.{at2_cases, at2_other}
use Rattle.dr_laws_sessions.proofs.Changes.{session-found}
use Rattle.dr_laws_sessions.proofs.Frames.{groups-flight}
use Rattle.dr_laws_attempts.proofs.Stages.{Tells}
use Rattle.dr_laws_attempts.proofs.Tables.{serves, master-servers, attempt-by, has-done, tells}
use Rattle.dr_laws_messages.proofs.Eased.{Eases, fits-fewer}
use Rattle.dr_laws_messages.proofs.Masters.{fits-done, fits-reported}
use Rattle.dr_laws_messages.proofs.Tables.{Home, home-of, Aside, flights-told, flights-own}
use Rattle.dr_laws_messages.proofs.Turns.{own-mirror}
use Rattle.dr_logic.proofs.Tables.{at2_same}

-- ---- a fence rises

-- to the epoch of its session, or to less
module _ (f : Flight) (s server e : ℕ) (low : (x : ℕ) → f.fence s x ≤ f.epoch s) (known : e ≤ f.epoch s) where
  abbrev g : Flight
  g = fenced s server e f

  pub fence-rises : (t x : ℕ) → f.fence t x ≤ g.fence t x
  fence-rises = at2_cases (λ t x y. f.fence t x ≤ y) f.fence s server (max (f.fence s server) e) (omega arith) (λ t x ne. omega arith)

  pub fence-low : (x : ℕ) → g.fence s x ≤ g.epoch s
  fence-low x = at2_cases (λ t x y. t ≡ s → y ≤ f.epoch t) f.fence s server (max (f.fence s server) e) (λ is. let was : f.fence s server ≤ f.epoch s = low server in omega arith)
      (λ t x ne is. subst (λ t. f.fence t x ≤ f.epoch t) (sym is) (low x)) s x refl

  pub fenced-aside : Aside f g s
  fenced-aside = record { messages = λ m i ne. i; epoch = λ t ne. refl; fence = λ t x ne. at2_other f.fence s server (max (f.fence s server) e) t x (λ is same. ne is) }

  pub fenced-eases : Eases f g s
  fenced-eases = record { orders = λ m o. record { here = o.here; session = o.session; starts = o.starts; asks = o.asks }; fence = λ x. fence-rises s x }

  -- it has come to that epoch
  pub fence-reaches : e ≤ g.fence s server
  fence-reaches = let is : g.fence s server ≡ max (f.fence s server) e = at2_same f.fence s server (max (f.fence s server) e) in omega arith

pub flights-fenced : (k : Control) (s server e : ℕ) → Flights k → e ≤ k.flight.epoch s → Flights (record k { flight = fenced s server e k.flight })
flights-fenced k s server e flights known = flights-told k flights (fenced s server e k.flight) s
    (fenced-aside k.flight s server e (flights.fences s) known)
    (λ m i is. subst (Home k.sessions) is (home-of k.sessions m.session (flights.homes m i)))
    (fence-low k.flight s server e (flights.fences s) known)
    (λ x i is. fits-fewer k.flight (fenced s server e k.flight) x.number (subst (Eases k.flight (fenced s server e k.flight)) (sym is) (fenced-eases k.flight s server e (flights.fences s) known))
    (phase_of x.mirror) x.last (owed_of x.mirror) (reports_of x.mirror) (all_seen (roles k) x.members) refl (flights.each x i) (λ m h at. h))

-- which it does where the work that was done is a report
pub heard-reaches : (f : Flight) (s server e : ℕ) (work : phases.Work) → ((x : ℕ) → f.fence s x ≤ f.epoch s) → e ≤ f.epoch s → work ≡ phases.Report → e ≤ (heard s server e work f).fence s server
heard-reaches f s server e phases.Report low known r = fence-reaches f s server e low known
heard-reaches f s server e work low known r = absurd cc

pub flights-heard-at : (k : Control) (s server e : ℕ) (work : phases.Work) → Flights k → e ≤ k.flight.epoch s → Flights (record k { flight = heard s server e work k.flight })
flights-heard-at k s server e phases.Report flights known = flights-fenced k s server e flights known
flights-heard-at k s server e work flights known = flights

pub flights-heard : (k : Control) (s server : ℕ) (work : phases.Work) → Flights k → Flights (record k { flight = heard s server (k.flight.epoch s) work k.flight })
flights-heard k s server work flights = flights-heard-at k s server (k.flight.epoch s) work flights (omega arith)

-- ---- a master takes a reply

module _ (k : Control) (groups : Groups k) (law : Attempts k) (flights : Flights k) (s server : ℕ) (x : Session) (found : session_in k.sessions s ≡ Some x) where
  abbrev T : Roles
  T = roles k

  abbrev f : Flight
  f = k.flight

  abbrev vs : List Seen
  vs = all_seen T x.members

  there : In x k.sessions × (x.number ≡ s)
  there = session-found k.sessions s x found

  -- what a server has done
  pub flights-done : ServerDone k x server → Flights (record k { sessions = changed s (with_master (λ m. phases.replied m server phases.Done)) k.sessions })
  flights-done all = let own = law.sessions x there.0 in
      flights-own k flights groups.once s (with_master (λ m. phases.replied m server phases.Done)) x found (λ x. refl)
      (own-mirror f f T x (λ r. record r { master = phases.replied r.master server phases.Done }) (flights.each x there.0)
      (λ r has fits. fits-done f x.number x.last vs own.numbers own.follows (servers_of x.members) (serves T k x (groups.each x there.0)) server r.master (master-servers k groups law x r there.0 has) (attempt-by T x r has own) fits (has-done k groups law server x there.0 all r has))
      (λ none fits. fits))

  pub flights-waits : Flights (record k { sessions = changed s (with_master (λ m. phases.replied m server phases.NotYet)) k.sessions })
  flights-waits = flights-own k flights groups.once s (with_master (λ m. phases.replied m server phases.NotYet)) x found (λ x. refl)
      (own-mirror f f T x (λ r. record r { master = phases.replied r.master server phases.NotYet }) (flights.each x there.0) (λ r has fits. fits) (λ none fits. fits))

  -- a report of what its members show, where the server's fence has come to the epoch
  pub flights-reported : ((r : Mirror) → x.mirror ≡ Some r → r.master.phase ≡ phase.Lost) → f.epoch s ≤ f.fence s server
      → Flights (record k { sessions = changed s (with_master (λ m. phases.taken m server (phases.Reported (shown_by_members s (members_on server x.members) k)))) k.sessions })
  flights-reported lost reached = let own = law.sessions x there.0 in let xs : List Shown = shown_by_members s (members_on server x.members) k in
      flights-own k flights groups.once s (with_master (λ m. phases.taken m server (phases.Reported xs))) x found (λ x. refl)
      (own-mirror f f T x (λ r. record r { master = phases.taken r.master server (phases.Reported xs) }) (flights.each x there.0)
      (λ r has fits. fits-reported f x.number x.last vs own.numbers own.follows (servers_of x.members) (serves T k x (groups.each x there.0)) server r.master (master-servers k groups law x r there.0 has) (attempt-by T x r has own) fits xs (lost r has)
      (subst (λ s. Tells x.last vs own.numbers own.follows (servers_of x.members) (serves T k x (groups.each x there.0)) server (shown_by_members s (members_on server x.members) k)) there.1 (tells k groups law x server there.0 own.numbers own.follows))
      risen)
      (λ none fits. fits))
    where
      risen : All (λ v. v.server ≡ server → f.epoch x.number ≤ f.fence x.number v.server) vs
      risen u h is = subst (λ t. f.epoch x.number ≤ f.fence x.number t) (sym is) (subst (λ s. f.epoch s ≤ f.fence s server) (sym there.1) reached)

  -- what a server answers to its order
  pub flights-taken-by : (work : phases.Work) → (work ≡ phases.Report → (r : Mirror) → x.mirror ≡ Some r → r.master.phase ≡ phase.Lost) → (work ≡ phases.Report → f.epoch s ≤ f.fence s server) → (work ≢ phases.Report → ServerDone k x server)
      → Flights (answered_by s server work (members_on server x.members) k)
  flights-taken-by phases.Report lost reached done = flights-reported (lost refl) (reached refl)
  flights-taken-by phases.Seal lost reached done = by (list_any (λ (m : Member). not (is_drained m.a.0 k)) (members_on server x.members))
    where
      by : (b : Bool) → Flights (record k { sessions = changed s (with_master (λ m. phases.taken m server (cond b phases.NotYet phases.Done))) k.sessions })
      by true = flights-waits
      by false = flights-done (done (λ e. cc))
  flights-taken-by work lost reached done = flights-done (done (λ e. cc))

-- ---- an exchange ends

-- a report raises the server's fence as it is taken; other replies leave the flight
pub flights-answered : (k : Control) (s server : ℕ) (work : phases.Work) (x : Session) → Groups k → Attempts k → Flights k → session_in k.sessions s ≡ Some x → (work ≡ phases.Report → (r : Mirror) → x.mirror ≡ Some r → r.master.phase ≡ phase.Lost) → (work ≢ phases.Report → ServerDone k x server)
    → Flights (exchanged s server true work (members_on server x.members) k)
flights-answered k s server phases.Report x groups law flights found lost done =
    flights-taken-by (record k { flight = fenced s server (k.flight.epoch s) k.flight }) (groups-flight k (fenced s server (k.flight.epoch s) k.flight) groups) law (flights-heard k s server phases.Report flights) s server x found phases.Report lost
    (λ e. fence-reaches k.flight s server (k.flight.epoch s) (flights.fences s) (omega arith)) done
flights-answered k s server work x groups law flights found lost done = flights-taken-by k groups law flights s server x found work lost (λ e. absurd cc) done
