-- What a line on a member of a session comes to.
use Rattle.std.proofs.Common.{ℕ, ◌≡◌, List, [], ◌++◌, refl, sym, ◌∙◌, ap, subst, Bool, true, false, not, nat_eq, Option, Some, None}
use Rattle.std.specs.Prelude.{is_some, IsSome, Err, if◌then◌else◌}
use Rattle.std.proofs.lemmas.List.{append-nil}
use Rattle.dr_ids.specs.declared.names.Member.{Member}
use Rattle.dr_ids.specs.declared.refusal.Fault.{Fault}
use Rattle.dr_ids.specs.declared.refusal.Fault.TheVariants.{NoMemory, Refused as FaultRefused}
use Rattle.dr_ids.specs.declared.refusal.Refusal.{Refusal}
use Rattle.dr_ids.specs.declared.refusal.Refusal.TheVariants.{Stopped}
use Rattle.dr_ids.specs.declared.refusal.Kind.TheVariants.{Server as OfServer, Lss as OfLss, Volume as OfVolume, Session as OfSession}
use Rattle.dr_plant.specs.State.{PlantState}
use Rattle.dr_config.specs.Table.{ConfigTable, lss_owner, entry_of, place_of, IsSoundConfig}
use Rattle.dr_config.proofs.Lookups.{place-of-entry}
use Rattle.dr_session.specs.Kept as kept
use Rattle.dr_model.specs.declared.event.Event.{Event}
use Rattle.dr_model.specs.declared.said.Said.TheVariants.{Done, Refused}
use Rattle.dr_model.specs.declared.said.Addition.TheVariants.{Alone}
use Rattle.dr_model.specs.declared.step.Name.{Name}
use Rattle.dr_model.specs.Carry.{Entry, carry}
use Rattle.dr_model.specs.Control.{Control, World}
use Rattle.dr_model.specs.Entries.{subsystem}
use Rattle.dr_model.specs.Laws.{Sound}
use Rattle.dr_model.specs.PlanParts.{Plan, same, none_follow, always, unless, refuses, on_session, is_named}
use Rattle.dr_model.specs.ReadStops.{Ends}
use Rattle.dr_model.specs.Refusals.{unknown}
use Rattle.dr_model.specs.Runs.{after_plan, said}
use Rattle.dr_model.specs.SessionPlans.{with_sessions, on_volume, name_refusal, place_refusal, add_to, add_plan, expel_found, expel_plan}
use Rattle.dr_model.specs.Sessions.{Session, session_in}
use Rattle.dr_model.proofs.CarryLemmas.{plan-refuses, plan-ends, plan-fails}
use Rattle.dr_laws_sessions.proofs.Tables.{session-fits}
use Rattle.dr_laws_sessions.proofs.Silent.{member-found}
use Rattle.dr_volume.specs.View.{ReadsPass}
use Rattle.dr_moves.specs.Checks.{is_stop}
use Rattle.dr_moves.specs.Here.{armed_in}
use Rattle.dr_admin.specs.Adding as adding
use Rattle.dr_admin.specs.Adding.{unless_stop, enrol_refusal, member_planned, entries_planned, sessions_planned, AddsSo}
use Rattle.dr_admin.specs.Removing as removing
use Rattle.dr_admin.specs.Removing.{member_in, TargetDefined, expel_refusal, entries_without, sessions_without, ExpelsSo}
use Rattle.dr_steps.specs.Here.{here, OnAnswer, IsTold}
use Rattle.dr_steps.specs.Members.{AreThere, member_plan}
use Rattle.dr_steps.specs.declared.tables.Tables.{Tables}
use Rattle.dr_steps.proofs.LandLemmas.{exact, told-through}
use Rattle.dr_steps.proofs.LocatedLemmas.{is_volume-here, some_entry}
use Rattle.dr_steps.proofs.PathLemmas.{owner-nowhere, owner-there}
use Rattle.dr_steps.proofs.RelationLemmas.{placed-here}
use Rattle.dr_steps.proofs.StepLemmas.{plan-unless, plan-free}

pub some-there : (o : Option Session) → is_some o ≡ true → (x : Session) × (o ≡ Some x)
some-there None there = absurd (cc)
some-there (Some x) there = (x, refl)

-- a session that isn't defined
pub none-there : (o : Option Session) (b : Bool) → b ≡ false → (is_some o ≡ true → b ≡ true) → o ≡ None
none-there None b is back = refl
none-there (Some x) b is back = absurd (let e : b ≡ true = back refl in cc)

-- the name is that of the server, or not, and the volume lies in the logical subsystem
module _ (k : Control) (dev : Option Name) (owner : ℕ) where
  pub named-by : (b : Bool) → b ≡ is_named dev owner k → (if b then None else Some (unknown OfServer)) ≡ name_refusal k dev owner
  named-by b is = ap (λ b. if b then None else Some (unknown OfServer)) is

  pub placed-by : (l a : ℕ) (b : Bool) → b ≡ nat_eq (subsystem a) l → (if not b then Some (unknown OfVolume) else name_refusal k dev owner) ≡ place_refusal k dev owner l a
  placed-by l a b is = ap (λ b. if not b then Some (unknown OfVolume) else name_refusal k dev owner) is

-- a volume that has an entry lies on a device
pub placed : (t : ConfigTable) (a : ℕ) → IsSome (entry_of t a) → IsSome (place_of t a)
placed t a there = let e = some_entry _ there in ap is_some (place-of-entry t a e.0 e.1).1

-- ---- members of a sound world

module _ (s : PlantState) (t : ConfigTable) (h : Tables) (ev : List Event) (sound : Sound (here s t h ev)) (n : ℕ) where
  abbrev its : Option Session
  its = session_in h.sessions.sessions n

  -- their targets lie on devices
  pub target-defined : (a : ℕ) → TargetDefined t (member_in a its)
  target-defined a = by its refl
    where
      found : (x : Session) → its ≡ Some x → (o : Option Member) → member_in a (Some x) ≡ o → TargetDefined t o
      found x is None at = tt
      found x is (Some m) at =
          let fits = session-fits (here s t h ev).control n x sound.groups is in
          placed-here s t h ev m.c.0 (fits.stands m (member-found x.members a m at).0).c

      by : (o : Option Session) → its ≡ o → TargetDefined t (member_in a o)
      by None is = tt
      by (Some x) is = found x is _ refl

-- ---- what a line names

module _ (s : PlantState) (t : ConfigTable) (h : Tables) (ev : List Event) (line : ℕ) where
  abbrev w : World
  w = here s t h ev

  abbrev k : Control
  k = w.control

  abbrev ss : List Session
  ss = h.sessions.sessions

  module _ (l a n : ℕ) where
    volume-by : (plan : Plan) (b : Bool) → is_some (entry_of t a) ≡ b → after_plan w line (on_volume k a plan) ≡ after_plan w line (if b then plan else refuses (unknown OfVolume))
    volume-by plan b is = ap (λ b. after_plan w line (if b then plan else refuses (unknown OfVolume))) (is_volume-here s t h ev a ∙ is)

    module _ (plan : ℕ → Session → Plan) where
      abbrev all : World
      all = after_plan w line (member_plan k l a n plan)

      pub member-no_lss : IsSoundConfig t → lss_owner t l ≡ None → all ≡ said w line (Refused (unknown OfLss))
      member-no_lss sound none = owner-nowhere s t h ev line sound l _ none

      pub member-no_volume : (owner : ℕ) → IsSoundConfig t → lss_owner t l ≡ Some owner → entry_of t a ≡ None → all ≡ said w line (Refused (unknown OfVolume))
      member-no_volume owner sound first none = owner-there s t h ev line sound l owner _ first ∙ volume-by _ false (ap is_some none) ∙ plan-refuses w line (unknown OfVolume)

      pub member-no_session : (owner : ℕ) → IsSoundConfig t → lss_owner t l ≡ Some owner → IsSome (entry_of t a) → session_in ss n ≡ None → all ≡ said w line (Refused (unknown OfSession))
      member-no_session owner sound first there none =
          owner-there s t h ev line sound l owner _ first ∙ volume-by _ true there
          ∙ ap (λ o. after_plan w line (on_session o (plan owner))) none ∙ plan-refuses w line (unknown OfSession)

      member-there : (owner : ℕ) → AreThere t h l a n owner → (x : Session) → session_in ss n ≡ Some x → all ≡ after_plan w line (plan owner x)
      member-there owner are x is =
          owner-there s t h ev line are.sound l owner _ are.owned ∙ volume-by _ true are.volume
          ∙ ap (λ o. after_plan w line (on_session o (plan owner))) is

    module _ (dev : Option Name) (owner : ℕ) (are : AreThere t h l a n owner) where
      -- they don't fit together
      pub add-misplaced : (r : Refusal) → Some r ≡ place_refusal k dev owner l a → after_plan w line (add_plan k dev l a n) ≡ said w line (Refused r)
      add-misplaced r why =
          let x = some-there _ are.session in
          member-there (λ owner x. unless (place_refusal k dev owner l a) (add_to k n x l a)) owner are x.0 x.1
          ∙ plan-unless w line (add_to k n x.0 l a) _ r (sym why)

      pub expel-foreign : (r : Refusal) → Some r ≡ name_refusal k dev owner → after_plan w line (expel_plan k dev l a n) ≡ said w line (Refused r)
      expel-foreign r why =
          let x = some-there _ are.session in
          member-there (λ owner x. unless (name_refusal k dev owner) (expel_found k n x (member_in a (Some x)))) owner are x.0 x.1
          ∙ plan-unless w line (expel_found k n x.0 (member_in a (Some x.0))) _ r (sym why)

      -- they do: the plan is what the call says
      pub add-goes : None ≡ place_refusal k dev owner l a → AddsSo k n (session_in ss n) l a
          → after_plan w line (add_plan k dev l a n) ≡ after_plan w line (unless (enrol_refusal k (session_in ss n) l a) (adding.plan_of k n (session_in ss n) (member_planned k a)))
      add-goes free adds =
          let x = some-there _ are.session in
          member-there (λ owner x. unless (place_refusal k dev owner l a) (add_to k n x l a)) owner are x.0 x.1
          ∙ ap (λ o. after_plan w line (unless o (add_to k n x.0 l a))) (sym free)
          ∙ ap (after_plan w line) (subst (λ o. AddsSo k n o l a) x.1 adds)
          ∙ ap (λ o. after_plan w line (unless (enrol_refusal k o l a) (adding.plan_of k n o (member_planned k a)))) (sym x.1)

      pub expel-goes : None ≡ name_refusal k dev owner → ExpelsSo k n (session_in ss n) a
          → after_plan w line (expel_plan k dev l a n) ≡ after_plan w line (unless (expel_refusal k n (session_in ss n) (member_in a (session_in ss n))) (removing.plan_without n (member_in a (session_in ss n))))
      expel-goes free removes =
          let x = some-there _ are.session in
          member-there (λ owner x. unless (name_refusal k dev owner) (expel_found k n x (member_in a (Some x)))) owner are x.0 x.1
          ∙ ap (λ o. after_plan w line (unless o (expel_found k n x.0 (member_in a (Some x.0))))) (sym free)
          ∙ ap (after_plan w line) (subst (λ o. ExpelsSo k n o a) x.1 removes)
          ∙ ap (λ o. after_plan w line (unless (expel_refusal k n o (member_in a o)) (removing.plan_without n (member_in a o)))) (sym x.1)

-- ---- a call that moves volumes, and then the sessions change

-- its plan
abbrev pub members_plan : List Entry → (List Session → List Session) → Plan
members_plan entries f = record { first = same; told = []; entries = entries; follows = none_follow; last = with_sessions f; says = always (Done Alone) }

module _ (s u : PlantState) (t : ConfigTable) (h : Tables) (ev mid : List Event) (entries : List Entry) (pass : ReadsPass s) where
  abbrev before : World
  before = here s t h ev

  abbrev after : World
  after = here u t h mid

  -- a stop of a server ends the moves, and another refusal leaves all as it was
  abbrev StopEnds : Option Refusal → Type 0
  StopEnds r = is_stop r ≡ true → Ends (armed_in s) after r before entries

  abbrev CalmStays : Option Refusal → Type 0
  CalmStays r = is_stop r ≡ false → (u ≡ s) × (mid ≡ ev)

  abbrev why : Fault → Option Refusal
  why e = kept.refusal_of {T = Unit {0}} (Err e)

  -- no write was issued
  module _ (told : IsTold h ev) where
    pub call-told : Ends (armed_in s) after None before entries → IsTold h mid
    call-told ends = told-through h before after entries None (exact s after None before entries pass ends) told

    pub refused-told : (r : Refusal) → StopEnds (Some r) → CalmStays (Some r) → IsTold h mid
    refused-told (Stopped server) stop calm = told-through h before after entries (Some (Stopped server)) (exact s after (Some (Stopped server)) before entries pass (stop refl)) told
    refused-told _ stop calm = subst (IsTold h) (sym (calm refl).1) told

    pub failed-told : (e : Fault) → StopEnds (why e) → CalmStays (why e) → IsTold h mid
    failed-told NoMemory stop calm = subst (IsTold h) (sym (calm refl).1) told
    failed-told (FaultRefused r) stop calm = refused-told r stop calm

  carried : (r : Option Refusal) → Ends (armed_in s) after r before entries → carry (record before { events = ev ++ [] }) entries ≡ (after, r)
  carried r ends = ap (λ es. carry (record before { events = es }) entries) (append-nil ev) ∙ exact s after r before entries pass ends

  module _ (ys : kept.SessionTable) (f : List Session → List Session) (o : Option Refusal) where
    abbrev left : World
    left = here u t (record h { sessions = ys }) mid

    abbrev plan : Plan
    plan = members_plan entries f

    pub call-done : None ≡ o → Ends (armed_in s) after None before entries → ys.sessions ≡ f h.sessions.sessions → (line : ℕ) → after_plan before line (unless o plan) ≡ said left line (Done Alone)
    call-done free ends is line =
        plan-free before _ line plan o (sym free)
        (plan-ends before line plan (after, None) (carried None ends)
        ∙ (λ i. said (record after { control = record after.control { sessions = sym is i } }) line (Done Alone)))

    module _ (still : ys.sessions ≡ h.sessions.sessions) where
      stops : (r : Refusal) → None ≡ o → Ends (armed_in s) after (Some r) before entries → (line : ℕ) → after_plan before line (unless o plan) ≡ said left line (Refused r)
      stops r free ends line =
          plan-free before _ line plan o (sym free)
          (plan-fails before after line plan r (λ server. refl) (carried (Some r) ends)
          ∙ (λ i. said (record after { control = record after.control { sessions = sym still i } }) line (Refused r)))

      refuses-all : (r : Refusal) → Some r ≡ o → u ≡ s → mid ≡ ev → (line : ℕ) → after_plan before line (unless o plan) ≡ said left line (Refused r)
      refuses-all r is nothing quiet line =
          plan-unless before line plan o r (sym is)
          ∙ (λ i. said (record (here (sym nothing i) t h (sym quiet i)) { control = record (here (sym nothing i) t h (sym quiet i)).control { sessions = sym still i } }) line (Refused r))

      pub call-refused : (r : Refusal) → unless_stop (Some r) ≡ o → StopEnds (Some r) → CalmStays (Some r) → (line : ℕ) → after_plan before line (unless o plan) ≡ said left line (Refused r)
      call-refused (Stopped server) is stop calm = stops (Stopped server) is (stop refl)
      call-refused _ is stop calm = refuses-all _ is (calm refl).0 (calm refl).1

      pub call-failed : (e : Fault) (q : Plan) → ((line : ℕ) → after_plan before line q ≡ after_plan before line (unless o plan)) → unless_stop (why e) ≡ o → StopEnds (why e) → CalmStays (why e)
          → OnAnswer (Err e) (λ a. (line : ℕ) → after_plan before line q ≡ said left line a)
      call-failed NoMemory q goes is stop calm = tt
      call-failed (FaultRefused r) q goes is stop calm = λ line. goes line ∙ call-refused r is stop calm line
