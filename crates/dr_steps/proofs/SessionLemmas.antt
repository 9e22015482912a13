-- What a line on a session comes to.
use Rattle.std.proofs.Common.{ℕ, ◌≡◌, ◌<◌, ◌≤◌, List, [], length, refl, sym, ◌∙◌, ap, arith, subst, Bool, true, false, Option, Some, None}
use Rattle.std.specs.Prelude.{IsSome, IfSome, IsTrue, ◌↔◌, Err, option_map, if◌then◌else◌}
use Rattle.std.specs.Option.{option_or, unwrap_or}
use Rattle.std.proofs.lemmas.List.{append-nil}
use Rattle.dr_ids.specs.declared.refusal.Refusal.{Refusal}
use Rattle.dr_ids.specs.declared.refusal.Fault.{Fault}
use Rattle.dr_ids.specs.declared.refusal.Fault.TheVariants.{NoMemory, Refused as FaultRefused}
use Rattle.dr_ids.specs.declared.refusal.Kind.TheVariants.{Server as OfServer, Lss as OfLss, Session as OfSession}
use Rattle.dr_ids.specs.declared.refusal.PhaseName.{PhaseName}
use Rattle.dr_plant.specs.State.{PlantState}
use Rattle.dr_config.specs.Table.{ConfigTable, lss_owner, IsSoundConfig}
use Rattle.dr_session.specs.Kept as kept
use Rattle.dr_ctl.specs.Kept.{KeptFlight, flight_in}
use Rattle.dr_model.specs.declared.event.Event.{Event}
use Rattle.dr_model.specs.declared.said.Said.{Said}
use Rattle.dr_model.specs.declared.said.Said.TheVariants.{Done, Refused}
use Rattle.dr_model.specs.declared.said.Addition.{Addition}
use Rattle.dr_model.specs.declared.said.Addition.TheVariants.{Alone}
use Rattle.dr_model.specs.declared.step.Name.{Name}
use Rattle.dr_model.specs.Control.{Control, World}
use Rattle.dr_model.specs.PlanParts.{Plan, unless, tables_plan, is_named, on_session}
use Rattle.dr_model.specs.Laws.{Sound}
use Rattle.dr_model.specs.Messages.{Flight, is_lost}
use Rattle.dr_model.specs.Messages as messages
use Rattle.dr_model.specs.Phases as phases
use Rattle.dr_model.specs.Refusals.{unknown, server_off}
use Rattle.dr_model.specs.Runs.{after_plan, said}
use Rattle.dr_model.specs.SessionPlans.{with_sessions, table_plan, name_refusal, off_refusal, outside_refusal, master_refusal, join_plan, aborting, abort_plan, says_phase, session_phase}
use Rattle.dr_model.specs.Sessions.{Session, Mirror, session_in, mirror_in, has_lss, not_in_session, join_refusal, pause_refusal, abort_refusal, joined, changed, with_master}
use Rattle.dr_model.proofs.CarryLemmas.{plan-refuses, plan-tables, plan-ends, carry-none}
use Rattle.dr_laws_sessions.proofs.Tables.{session-fits}
use Rattle.dr_volume.proofs.WorldLaws.{on-seen}
use Rattle.dr_steps.specs.Found.{IsFound, found_plan}
use Rattle.dr_steps.specs.Here.{here, OnAnswer}
use Rattle.dr_steps.specs.declared.tables.Tables.{Tables}
use Rattle.dr_steps.proofs.PathLemmas.{owner-nowhere, owner-there}
use Rattle.dr_steps.proofs.StepLemmas.{plan-unless, plan-free}
use Rattle.dr_facts.proofs.Refusals.{none-both}
use Rattle.dr_facts.proofs.Sessions.{number-is}
use Rattle.dr_gmirror.proofs.BeginLemmas.{session-changed}

-- the session that is defined
pub some-session : (o : Option Session) → IsSome o → (x : Session) × (o ≡ Some x)
some-session (Some x) there = (x, refl)
some-session None there = absurd cc

pub no-session : (o : Option Session) → (IsSome o → ⊥) → o ≡ None
no-session None none = refl
no-session (Some x) none = absurd (none refl)

pub is-defined : (b : Bool) (o : Option Session) → b ≡ true → (IsTrue b ↔ IsSome o) → IsSome o
is-defined b o is iff = iff.0 is

pub not-defined : (b : Bool) (o : Option Session) → b ≡ false → (IsTrue b ↔ IsSome o) → o ≡ None
not-defined b o is iff = no-session o (λ some. let e = iff.1 some in absurd cc)

-- a logical subsystem is one of its own, or isn't
pub outside-by : (ss : List Session) (s l : ℕ) (x : Session) (b : Bool) → session_in ss s ≡ Some x → has_lss (session_in ss s) l ≡ b → outside_refusal x l ≡ (if b then None else not_in_session s)
outside-by ss s l x b there has = λ i. if (sym (ap (λ o. has_lss o l) there) ∙ has) i then None else not_in_session (number-is ss s x there i)

-- an attempt that may be aborted makes its master Lost, or doesn't
abort-lost : (p : PhaseName) (m : phases.Master) (o : Option PhaseName) → phases.refusal_unless p o ≡ None → is_lost (Some (phases.enters_some o m).phase) ≡ is_lost o
abort-lost p m None free = absurd cc
abort-lost p m (Some q) free = refl

abbrev mirror_aborted : Mirror → Mirror
mirror_aborted r = record r { master = phases.aborted r.master }

aborted-flight : (n : ℕ) (f : Flight) (m : Option Mirror) → abort_refusal m ≡ None → (lost : Bool) → lost ≡ is_lost (option_map (λ (r : Mirror). r.master.phase) (option_map mirror_aborted m))
    → (if lost then messages.raised n f else f) ≡ messages.aborted n m f
aborted-flight n f None free lost is = absurd cc
aborted-flight n f (Some r) free lost is = ap (λ b. if b then messages.raised n f else f) (is ∙ abort-lost r.master.phase r.master (phases.aborted_phase r.master.phase) free)

module _ (s : PlantState) (t : ConfigTable) (h : Tables) (ev : List Event) (line : ℕ) where
  abbrev w : World
  w = here s t h ev

  abbrev k : Control
  k = w.control

  abbrev ss : List Session
  ss = h.sessions.sessions

  -- the tables are others from then on
  changes : (f : Control → Control) (u : World) → record w { control = f k } ≡ u → after_plan w line (tables_plan f [] (Done Alone)) ≡ said u line (Done Alone)
  changes f u is =
      plan-tables w line f [] (Done Alone)
      ∙ ap (λ es. said (record w { control = f k; events = es }) line (Done Alone)) (append-nil ev)
      ∙ ap (λ u. said u line (Done Alone)) is

  -- the sessions are
  abbrev pub with : kept.SessionTable → World
  with ys = here s t (record h { sessions = ys }) ev

  pub sessions-are : (f : List Session → List Session) (ys : kept.SessionTable) → ys.sessions ≡ f ss → record w { control = with_sessions f k } ≡ with ys
  sessions-are f ys is = λ i. record w { control = record k { sessions = sym is i } }

  session-nowhere : (n : ℕ) (plan : Session → Plan) → session_in ss n ≡ None → after_plan w line (on_session (session_in ss n) plan) ≡ said w line (Refused (unknown OfSession))
  session-nowhere n plan none = ap (λ o. after_plan w line (on_session o plan)) none ∙ plan-refuses w line (unknown OfSession)

  session-there : (n : ℕ) (plan : Session → Plan) (x : Session) → session_in ss n ≡ Some x → after_plan w line (on_session (session_in ss n) plan) ≡ after_plan w line (plan x)
  session-there n plan x is = ap (λ o. after_plan w line (on_session o plan)) is

  -- a name that isn't that of the server
  name-by : (dev : Option Name) (owner : ℕ) (b : Bool) → is_named dev owner k ≡ b → name_refusal k dev owner ≡ (if b then None else Some (unknown OfServer))
  name-by dev owner b is = ap (λ b. if b then None else Some (unknown OfServer)) is

  -- a line that names a logical subsystem of a session
  module _ (dev : Option Name) (l n : ℕ) (why : ℕ → Session → Option Refusal) (f : ℕ → Session → Control → Control) where
    abbrev becomes : ℕ → Session → Plan
    becomes owner x = tables_plan (f owner x) [] (Done Alone)

    pub found-no-lss : IsSoundConfig t → lss_owner t l ≡ None → after_plan w line (found_plan k dev l n why f) ≡ said w line (Refused (unknown OfLss))
    found-no-lss sound none = owner-nowhere s t h ev line sound l _ none

    pub found-no-session : (owner : ℕ) → IsSoundConfig t → lss_owner t l ≡ Some owner → session_in ss n ≡ None → after_plan w line (found_plan k dev l n why f) ≡ said w line (Refused (unknown OfSession))
    found-no-session owner sound first none = owner-there s t h ev line sound l owner _ first ∙ session-nowhere n _ none

    pub found-foreign : (owner : ℕ) (x : Session) → IsSoundConfig t → lss_owner t l ≡ Some owner → session_in ss n ≡ Some x → is_named dev owner k ≡ false → after_plan w line (found_plan k dev l n why f) ≡ said w line (Refused (unknown OfServer))
    found-foreign owner x sound first there foreign =
        owner-there s t h ev line sound l owner _ first ∙ session-there n _ x there
        ∙ plan-unless w line (becomes owner x) _ (unknown OfServer) (ap (λ o. option_or o (why owner x)) (name-by dev owner false foreign))

    module _ (owner : ℕ) (found : IsFound t h dev l n owner) where
      goes : (x : Session) → session_in ss n ≡ Some x → after_plan w line (found_plan k dev l n why f) ≡ after_plan w line (unless (why owner x) (becomes owner x))
      goes x there =
          owner-there s t h ev line found.sound l owner _ found.owned ∙ session-there n _ x there
          ∙ ap (λ o. after_plan w line (unless (option_or o (why owner x)) (becomes owner x))) (name-by dev owner true (found.named s ev))

      -- it is refused, or the tables change
      pub found-refused : (r : Refusal) → ((x : Session) → session_in ss n ≡ Some x → why owner x ≡ Some r) → after_plan w line (found_plan k dev l n why f) ≡ said w line (Refused r)
      found-refused r is = let x = some-session _ found.session in goes x.0 x.1 ∙ plan-unless w line (becomes owner x.0) _ r (is x.0 x.1)

      pub found-changes : (u : World) → ((x : Session) → session_in ss n ≡ Some x → why owner x ≡ None) → ((x : Session) → session_in ss n ≡ Some x → record w { control = f owner x k } ≡ u) → after_plan w line (found_plan k dev l n why f) ≡ said u line (Done Alone)
      found-changes u free is = let x = some-session _ found.session in goes x.0 x.1 ∙ plan-free w (said u line (Done Alone)) line (becomes owner x.0) _ (free x.0 x.1) (changes (f owner x.0) u (is x.0 x.1))

  -- a logical subsystem that joins a session
  module _ (dev : Option Name) (l n : ℕ) where
    pub join-nowhere : IsSoundConfig t → lss_owner t l ≡ None → after_plan w line (join_plan k dev l n) ≡ said w line (Refused (unknown OfLss))
    join-nowhere sound none = owner-nowhere s t h ev line sound l _ none

    module _ (sound : IsSoundConfig t) (owner : ℕ) (first : lss_owner t l ≡ Some owner) where
      abbrev more : Option Refusal
      more = option_or (off_refusal k owner) (join_refusal (session_in ss n) l ss)

      joins-by : after_plan w line (join_plan k dev l n) ≡ after_plan w line (unless (option_or (name_refusal k dev owner) more) (table_plan (joined n l)))
      joins-by = owner-there s t h ev line sound l owner _ first

      pub join-foreign : is_named dev owner k ≡ false → after_plan w line (join_plan k dev l n) ≡ said w line (Refused (unknown OfServer))
      join-foreign foreign = joins-by ∙ plan-unless w line (table_plan (joined n l)) _ (unknown OfServer) (ap (λ o. option_or o more) (name-by dev owner false foreign))

      module _ (named : is_named dev owner k ≡ true) where
        pub join-off : (r : Refusal) → Some r ≡ off_refusal k owner → after_plan w line (join_plan k dev l n) ≡ said w line (Refused r)
        join-off r off =
            joins-by ∙ plan-unless w line (table_plan (joined n l)) _ r (λ i. option_or (name-by dev owner true named i) (option_or (sym off i) (join_refusal (session_in ss n) l ss)))

        pub join-by : (o : Option Refusal) → None ≡ off_refusal k owner → o ≡ join_refusal (session_in ss n) l ss → option_or (name_refusal k dev owner) more ≡ o
        join-by o on is = (λ i. option_or (name-by dev owner true named i) (option_or (sym on i) (sym is i)))

        pub join-refused : (r : Refusal) → None ≡ off_refusal k owner → Some r ≡ join_refusal (session_in ss n) l ss → after_plan w line (join_plan k dev l n) ≡ said w line (Refused r)
        join-refused r on is = joins-by ∙ plan-unless w line (table_plan (joined n l)) _ r (join-by (Some r) on is)

        pub join-done : (ys : kept.SessionTable) → None ≡ off_refusal k owner → None ≡ join_refusal (session_in ss n) l ss → ys.sessions ≡ joined n l ss → after_plan w line (join_plan k dev l n) ≡ said (with ys) line (Done Alone)
        join-done ys on is new = joins-by ∙ plan-free w _ line (table_plan (joined n l)) _ (join-by None on is) (changes (with_sessions (joined n l)) (with ys) (sessions-are (joined n l) ys new))

  -- where the sessions are as they were
  pub kept-said : (ys : kept.SessionTable) (a : Said) → ys.sessions ≡ ss → said w line a ≡ said (with ys) line a
  kept-said ys a is = λ i. said (record w { control = record k { sessions = sym is i } }) line a

  -- the messages in flight are others, too
  abbrev pub with_both : kept.SessionTable → KeptFlight → World
  with_both ys f = here s t (record h { sessions = ys; flight = f }) ev

  pub both-are : (xs : List Session) (g : Flight) (ys : kept.SessionTable) (f : KeptFlight) → ys.sessions ≡ xs → flight_in f ≡ g → record w { control = record k { sessions = xs; flight = g } } ≡ with_both ys f
  both-are xs g ys f is flies = λ i. record w { control = record k { sessions = sym is i; flight = sym flies i } }

  -- an attempt that is aborted
  module _ (n : ℕ) where
    abbrev master_of : Option Mirror
    master_of = mirror_in (session_in ss n)

    abbrev abort_to : Option Mirror → Plan
    abort_to m = record (tables_plan (aborting n m) [] (Done Alone)) { says = says_phase n }

    pub abort-nowhere : session_in ss n ≡ None → after_plan w line (abort_plan k n) ≡ said w line (Refused (unknown OfSession))
    abort-nowhere none = session-nowhere n _ none

    module _ (x : Session) (there : session_in ss n ≡ Some x) where
      abort-by : (o : Option Refusal) → o ≡ option_or (abort_refusal master_of) (master_refusal k master_of) → after_plan w line (abort_plan k n) ≡ after_plan w line (unless o (abort_to master_of))
      abort-by o is =
          session-there n _ x there
          ∙ ap (λ (p : Option Session). after_plan w line (unless (option_or (abort_refusal (mirror_in p)) (master_refusal k (mirror_in p))) (abort_to (mirror_in p)))) (sym there)
          ∙ ap (λ o. after_plan w line (unless o (abort_to master_of))) (sym is)

      pub abort-refused : (r : Refusal) → Some r ≡ option_or (abort_refusal master_of) (master_refusal k master_of) → after_plan w line (abort_plan k n) ≡ said w line (Refused r)
      abort-refused r is = abort-by (Some r) is ∙ plan-refuses w line r

      pub abort-done : (ys : kept.SessionTable) (f : KeptFlight) (lost : Bool) (added : Addition) → None ≡ option_or (abort_refusal master_of) (master_refusal k master_of)
          → ys.sessions ≡ changed n (with_master phases.aborted) ss → lost ≡ is_lost (option_map (λ (r : Mirror). r.master.phase) (mirror_in (session_in ys.sessions n)))
          → flight_in f ≡ (if lost then messages.raised n (flight_in h.flight) else flight_in h.flight)
          → Done added ≡ session_phase (session_in ys.sessions n) → after_plan w line (abort_plan k n) ≡ said (with_both ys f) line (Done added)
      abort-done ys f lost added free is lost_is flies says =
          abort-by None free
          ∙ plan-ends w line (abort_to master_of) _ (carry-none _)
          ∙ ap (λ es. said (record w { control = aborting n master_of k; events = es }) line (session_phase (session_in (changed n (with_master phases.aborted) ss) n))) (append-nil ev)
          ∙ (λ i. said (both-are (changed n (with_master phases.aborted) ss) (messages.aborted n master_of (flight_in h.flight)) ys f is flown i) line (session_phase (session_in (sym is i) n)))
          ∙ ap (λ a. said (with_both ys f) line a) (sym says)
        where
          flown : flight_in f ≡ messages.aborted n master_of (flight_in h.flight)
          flown =
              flies ∙ aborted-flight n (flight_in h.flight) master_of (none-both (abort_refusal master_of) (master_refusal k master_of) (sym free)).0 lost
              (lost_is ∙ ap (λ (o : Option Session). is_lost (option_map (λ (r : Mirror). r.master.phase) (mirror_in o))) (ap (λ xs. session_in xs n) is ∙ session-changed n (with_master phases.aborted) (λ y. refl) ss ∙ ap (option_map (with_master phases.aborted)) there)
              ∙ ap (λ (o : Option Session). is_lost (option_map (λ (r : Mirror). r.master.phase) (option_map mirror_aborted (mirror_in o)))) (sym there))

-- a server is off for the machine where it is for the plant
pub off-by : (s : PlantState) (t : ConfigTable) (h : Tables) (ev : List Event) (server : ℕ) (b : Bool) → server < 8 → b ≡ s.on server → (if b then None else Some (server_off server)) ≡ off_refusal (here s t h ev).control server
off-by s t h ev server b low is = ap (λ b. if b then None else Some (server_off server)) (is ∙ sym (on-seen s server low))

-- the server of a master is one of the eight, since it is that of a volume
pub master-low : (s : PlantState) (t : ConfigTable) (h : Tables) (ev : List Event) (n : ℕ) → Sound (here s t h ev) → IfSome (mirror_in (session_in h.sessions.sessions n)) (λ r. r.server < 8)
master-low s t h ev n sound = by (session_in h.sessions.sessions n) refl
  where
    of : (x : Session) → session_in h.sessions.sessions n ≡ Some x → (m : Option Mirror) → x.mirror ≡ m → IfSome m (λ r. r.server < 8)
    of x there None none = tt
    of x there (Some r) is =
        let runs = (session-fits (here s t h ev).control n x sound.groups there).runs r is in
        let few : length t.names ≤ 8 = sound.housed.0 in
        let known : r.server < length t.names = subst (λ q. q < length t.names) runs.server (sound.housed.1 runs.volume runs.defined) in
        omega (arith, few, known)

    by : (o : Option Session) → session_in h.sessions.sessions n ≡ o → IfSome (mirror_in o) (λ r. r.server < 8)
    by None none = tt
    by (Some x) there = of x there x.mirror refl

pub master-known : (m : Option Mirror) (server : ℕ) → Some server ≡ option_map (λ (r : Mirror). r.server) m → IfSome m (λ r. r.server < 8) → server < 8
master-known (Some r) server is low = subst (λ (o : Option ℕ). unwrap_or o 0 < 8) (sym is) low
master-known None server is low = absurd cc

-- the master's server, if there is a master, tells whether it is off
pub master-off : (k : Control) (m : Option Mirror) (server : ℕ) → Some server ≡ option_map (λ (r : Mirror). r.server) m → off_refusal k server ≡ master_refusal k m
master-off k (Some r) server is = ap (λ (o : Option ℕ). off_refusal k (unwrap_or o 0)) is
master-off k None server is = absurd cc

-- a master whose server is on can be paused
pub pauses : {A : Type 0} (k : Control) (m : Option Mirror) (r : Refusal) → None ≡ master_refusal k m → Some r ≡ pause_refusal m → A
pauses k None r on is = absurd cc
pauses k (Some x) r on is = absurd cc

-- a call that failed was refused, or wanted memory
pub on-fault : (f : Fault) (o : Option Refusal) (P : Said → Type 0) → kept.refusal_of {T = Unit {0}} (Err f) ≡ o → ((r : Refusal) → Some r ≡ o → P (Refused r)) → OnAnswer (Err f) P
on-fault (FaultRefused r) o P is each = each r is
on-fault NoMemory o P is each = tt
