-- Parts of an `@run` follow its way: drains, exchanges, turns.
use Rattle.std.proofs.Common.{ℕ, suc, ◌≡◌, ◌+◌, ◌-◌, ◌≤◌, ◌<◌, refl, ap, ◌∙◌, sym, subst, arith, append_assoc, Bool, true, false, cond, List, [], ◌∷◌, ◌++◌, length, take, drop, get_or, map, Option, Some, None, nat_eq}
use Rattle.std.specs.Prelude.{is_some, position, slice_get}
use Rattle.std.specs.List.{cons_option}
use Rattle.std.specs.Str.{bytes_eq}
use Rattle.std.proofs.lemmas.Bool.Decides.{nat_tests}
use Rattle.std.proofs.lemmas.List.{append-nil, take-append-drop, take_more}
use Rattle.std.proofs.lemmas.List.Elements.{filter-append}
use Rattle.std.proofs.lemmas.Option.{slice_get-get_or}
use Rattle.dr_ids.specs.declared.names.Member.{Member}
use Rattle.dr_ids.specs.declared.refusal.PhaseName.{PhaseName}
use Rattle.dr_plant.specs.State.{PlantState}
use Rattle.dr_model.specs.declared.step.Name.{Name}
use Rattle.dr_model.specs.declared.step.Step.{Step}
use Rattle.dr_model.specs.declared.step.Step.TheVariants.{Drain, Exchange}
use Rattle.dr_model.specs.Control.{Control, World, nothing}
use Rattle.dr_model.specs.Forming.{Way, and_then, ask, drains, formed, has_committed, is_draining, master_in, most_turns, next_asked, part, phase_in, stays, still_left, turns}
use Rattle.dr_model.specs.Limits.{most_groups}
use Rattle.dr_model.specs.PairEntries.{is_copying}
use Rattle.dr_model.specs.PlanParts.{name_bytes, server_named}
use Rattle.dr_model.specs.Plans.{drain_plan, has_room}
use Rattle.dr_model.specs.Runs.{Task, after_tasks, run}
use Rattle.dr_model.specs.SessionEntries.{is_on, members_on}
use Rattle.dr_model.specs.SessionPlans.{asking}
use Rattle.dr_model.specs.Sessions.{session_in}
use Rattle.dr_laws_runs.specs.Walks.{AskForFirst, GoThrough, StopWithin, TellsMore, Walk}
use Rattle.dr_laws_runs.proofs.Tables.{SameTables, drains-tables}
use Rattle.dr_laws_runs.proofs.Walks.{asked-defined, asks-drain, asks-exchange, drains-more, drains-none, drains-stop, first-none, first-then, room-less, formed-many, formed-turns, turns-idle, turns-next, turns-over, turns-spent, walk-full, walk-stays, walk-stop, walk-then}
use Rattle.dr_sweep.specs.Apart.{AddsAll, AddsParts, CarriesParts, Follows, HasLines, IsNextAsked, IsPartWay, Walks, asked_way, drained_by, drained_first, turns_of}
use Rattle.dr_sweep.specs.Comes.{Ran, RunState, seen}
use Rattle.dr_sweep.specs.Moments.{members_of}
use Rattle.dr_sweep.proofs.TurnLemmas.{parts-none, parts-so, parts-then}
use Rattle.dr_top.proofs.TaskLemmas.{tasks-then}

-- ---- worlds

-- one that tells more has the same control state
pub same-control : (v u : World) → TellsMore v u → v.control ≡ u.control
same-control v u more = sym (ap (λ (w : World). w.control) more.is)

pub tells-itself : (u : World) → TellsMore u u
tells-itself u = record { is = refl; alike = refl; longer = omega arith }

-- and has less room
pub roomy : (v u : World) → TellsMore v u → has_room u.events ≡ true → has_room v.events ≡ true
roomy v u more room = room-less v.events u.events more.longer room

-- ---- ways

module _ (done : List Task) where
  abbrev u : World
  u = run done

  -- a way that stays needs no line
  pub walks-stays : (r : RunState) (way : World → Way) → u ≡ seen r → ((v : World) → TellsMore v u → way v ≡ stays v) → Walks true way done r []
  walks-stays r way led is v more = subst (GoThrough u (seen r) []) (sym (is v more)) (subst (λ w. GoThrough u w [] (stays v)) led (walk-stays v u more))

  -- the same way by another name
  pub walks-as : (on : Bool) (r : RunState) (way other : World → Way) (ts : List Task) → ((v : World) → TellsMore v u → other v ≡ way v) → Walks on way done r ts → Walks on other done r ts
  walks-as on r way other ts is walks v more = subst (Walk on u (seen r) ts) (sym (is v more)) (walks v more)

  -- what stops goes no further
  pub walks-stop : (r : RunState) (way rest other : World → Way) (ts : List Task) → ((v : World) → other v ≡ and_then (way v) rest) → Walks false way done r ts → Walks false other done r ts
  walks-stop r way rest other ts is walks v more = subst (StopWithin u ts) (sym (is v)) (walk-stop u ts (way v) rest (walks v more))

  -- one way after another
  module _ (mid : RunState) (a : List Task) (led : run (done ++ a) ≡ seen mid) where
    on-there : after_tasks u a ≡ seen mid
    on-there = sym (tasks-then nothing done a) ∙ led

    pub walks-then : (on : Bool) (new : RunState) (b : List Task) (way rest other : World → Way) → ((v : World) → other v ≡ and_then (way v) rest) → Walks true way done mid a → Walks on rest (done ++ a) new b → Walks on other done new (a ++ b)
    walks-then on new b way rest other is first second v more =
        let g : GoThrough u (seen mid) a (way v) = first v more in
        let w : Walk on (seen mid) (seen new) b (rest (way v).world) = subst (λ z. Walk on z (seen new) b (rest (way v).world)) led (second (way v).world (subst (TellsMore (way v).world) (sym led) g.leads)) in
        subst (Walk on u (seen new) (a ++ b)) (sym (is v)) (walk-then u (seen mid) a b (way v) rest on-there g on (seen new) w)

-- ---- members

abbrev pub some_member : Member
some_member = record { a = record { 0 = 0 }; b = record { 0 = 0 }; c = record { 0 = 0 }; server = record { 0 = 0 } }

-- those on a server, one more
pub members-more : (server : ℕ) (ms : List Member) (i : ℕ) → i < length ms → (all new : List Member) (m : Option Member) → m ≡ slice_get ms i → all ≡ members_on server (take i ms) → new ≡ all ++ members_on server (cons_option m []) → new ≡ members_on server (take (i + 1) ms)
members-more server ms i low all new m at so_far more =
    more ∙ (λ j. so_far j ++ members_on server (cons_option (at j) []))
    ∙ ap (λ o. members_on server (take i ms) ++ members_on server (cons_option o [])) (slice_get-get_or ms i some_member low)
    ∙ sym (filter-append (is_on server) (take i ms) (get_or ms i some_member ∷ []))
    ∙ ap (members_on server) (sym (take_more ms i some_member low))

-- ---- drains

-- a member that isn't in Copy Pending
pub drained-none : (old : RunState) (s : ℕ) (parts : List Step) (m : Member) → is_copying m.a.0 (seen old).control ≡ false → AddsParts old old s parts parts (drained_by m) true
drained-none old s parts m none began ls done ran =
    let led : run done ≡ seen old = ran.has.stands.leads in
    parts-none began ls done s old parts (Walks true (drained_by m) done old) ran
    (walks-stays done old (drained_by m) led (λ v more.
    ap (λ b. cond b (part v (drain_plan v.control m.a.0 None)) (stays v)) (ap (is_copying m.a.0) (same-control v (run done) more ∙ ap (λ (w : World). w.control) led) ∙ none)))

-- one that is
pub drained-way : (old : RunState) (m : Member) → is_copying m.a.0 (seen old).control ≡ true → IsPartWay old (Drain m.a.0 None) (drained_by m)
drained-way old m copies v more =
    (drain_plan v.control m.a.0 None, asks-drain v m.a.0, ap (λ b. cond b (part v (drain_plan v.control m.a.0 None)) (stays v)) (ap (is_copying m.a.0) (same-control v (seen old) more) ∙ copies))

-- the drains of members, one more
module _ (old mid new : RunState) (s : ℕ) (p0 p1 p2 : List Step) (ms : List Member) (i : ℕ) (d : Member) (low : i < length ms) where
  so-far : List Member → World → Way
  so-far xs v = drains v xs

  abbrev next : List Member
  next = take (i + 1) ms

  next-is : (v : World) → drains v next ≡ and_then (drains v (take i ms)) (drained_by (get_or ms i d))
  next-is v = ap (drains v) (take_more ms i d low) ∙ drains-more v (take i ms) (get_or ms i d)

  pub drains-on : (on : Bool) → AddsParts old mid s p0 p1 (λ v. drains v (take i ms)) true → AddsParts mid new s p1 p2 (drained_by (get_or ms i d)) on → AddsParts old new s p0 p2 (λ v. drains v next) on
  drains-on on first second began ls done ran =
      let a = first began ls done ran in
      let b = second began (ls ++ map _ a.steps) (done ++ a.tasks) a.ran in
      parts-then began ls done s mid p0 p1 _ a new p2 _ _ b (λ h1 h2. walks-then done mid a.tasks a.ran.has.stands.leads on new b.tasks (λ v. drains v (take i ms)) (drained_by (get_or ms i d)) (λ v. drains v next) next-is h1 h2)

  -- and no further
  pub drains-ended : AddsParts old mid s p0 p1 (λ v. drains v (take i ms)) true → AddsParts mid new s p1 p2 (drained_by (get_or ms i d)) false → AddsParts old new s p0 p2 (λ v. drains v ms) false
  drains-ended first second began ls done ran =
      let a = drains-on false first second began ls done ran in
      parts-so began ls done s new p0 p2 _ a (Walks false (λ v. drains v ms) done new)
      (λ h v more. subst (λ xs. StopWithin (run done) a.tasks (drains v xs)) (take-append-drop (i + 1) ms) (drains-stop v (run done) a.tasks next (drop (i + 1) ms) (h v more)))

-- none yet
pub drains-begin : (old : RunState) (s : ℕ) (parts : List Step) (ms : List Member) → AddsParts old old s parts parts (λ v. drains v (take 0 ms)) true
drains-begin old s parts ms began ls done ran =
    parts-none began ls done s old parts _ ran (walks-stays done old (λ v. drains v (take 0 ms)) ran.has.stands.leads (λ v more. drains-none v))

-- ---- before an exchange

module _ (old : RunState) (s server : ℕ) (phase : PhaseName) where
  pub first-none-drained : (parts : List Step) → is_draining phase ≡ false → AddsParts old old s parts parts (drained_first s server phase) true
  first-none-drained parts none began ls done ran =
      parts-none began ls done s old parts _ ran
      (walks-stays done old (drained_first s server phase) ran.has.stands.leads (λ v more. ap (λ b. cond b (drains v (members_on server (members_of v.control s))) (stays v)) none))

  pub first-drained : (new : RunState) (p0 p1 : List Step) (ms : List Member) (on : Bool) → is_draining phase ≡ true → ms ≡ members_on server (members_of (seen old).control s)
      → AddsParts old new s p0 p1 (λ v. drains v ms) on → AddsParts old new s p0 p1 (drained_first s server phase) on
  first-drained new p0 p1 ms on is are adds began ls done ran =
      let a = adds began ls done ran in
      let led : run done ≡ seen old = ran.has.stands.leads in
      parts-so began ls done s new p0 p1 _ a (Walks on (drained_first s server phase) done new)
      (walks-as done on new (λ v. drains v ms) (drained_first s server phase) a.tasks (λ v more.
      ap (λ b. cond b (drains v (members_on server (members_of v.control s))) (stays v)) is
      ∙ ap (λ (k : Control). drains v (members_on server (members_of k s))) (same-control v (run done) more ∙ ap (λ (w : World). w.control) led) ∙ ap (drains v) (sym are)))

  first-tables : (w : World) → SameTables w (drained_first s server phase w).world
  first-tables w = by (is_draining phase)
    where
      by : (b : Bool) → SameTables w (cond b (drains w (members_on server (members_of w.control s))) (stays w)).world
      by true = drains-tables w (members_on server (members_of w.control s))
      by false = record { servers = refl; defined = λ s. refl }

  -- ---- an exchange

  abbrev exchanged : World → Way
  exchanged w = part w (asking w.control s server true)

  pub asked-ended : (mid : RunState) (p0 p1 : List Step) → AddsParts old mid s p0 p1 (drained_first s server phase) false → AddsParts old mid s p0 p1 (asked_way s server phase) false
  asked-ended mid p0 p1 stopped began ls done ran =
      let a = stopped began ls done ran in
      parts-so began ls done s mid p0 p1 _ a (Walks false (asked_way s server phase) done mid) (walks-stop done mid (drained_first s server phase) exchanged (asked_way s server phase) a.tasks (λ v. refl))

  module _ (name : Name) (next : IsNextAsked (seen old).control s server name) (mid : RunState) (p0 p1 : List Step) (first : AddsParts old mid s p0 p1 (drained_first s server phase) true) where
    -- after the drains the server goes by that name, and the session is defined
    exchange-way : (began : PlantState) (ls : List (List ℕ)) (done : List Task) → Ran began ls old done → IsPartWay mid (Exchange s name true) exchanged
    exchange-way began ls done ran v more =
        let a = first began ls done ran in
        let w : World = run done in
        let g = a.so w (tells-itself w) in
        let x : World = (drained_first s server phase w).world in
        let tables : SameTables w x = first-tables w in
        let there : v.control ≡ x.control = same-control v (seen mid) more ∙ sym (same-control x (seen mid) g.leads) in
        let from : w.control ≡ (seen old).control = ap (λ (z : World). z.control) ran.has.stands.leads in
        let defined : is_some (session_in v.control.sessions s) ≡ true =
        ap (λ (k : Control). is_some (session_in k.sessions s)) there ∙ tables.defined s ∙ ap (λ (k : Control). is_some (session_in k.sessions s)) from ∙ asked-defined (seen old).control s server next.next in
        let named : server_named v.control (name_bytes name) ≡ Some server = ap (λ (k : Control). server_named k (name_bytes name)) there ∙ ap (position (bytes_eq (name_bytes name))) tables.servers ∙ ap (λ (k : Control). server_named k (name_bytes name)) from ∙ next.named in
        (asking v.control s server true, asks-exchange v s server name defined named, refl)

    pub asked-on : (new : RunState) (p2 : List Step) (on : Bool) → ((way : World → Way) → IsPartWay mid (Exchange s name true) way → AddsParts mid new s p1 p2 way on) → AddsParts old new s p0 p2 (asked_way s server phase) on
    asked-on new p2 on second began ls done ran =
        let a = first began ls done ran in
        let b = second exchanged (exchange-way began ls done ran) began (ls ++ map _ a.steps) (done ++ a.tasks) a.ran in
        parts-then began ls done s mid p0 p1 _ a new p2 _ _ b (λ h1 h2. walks-then done mid a.tasks a.ran.has.stands.leads on new b.tasks (drained_first s server phase) exchanged (asked_way s server phase) (λ v. refl) h1 h2)

-- ---- turns

-- a number that isn't 0
pub not-none : (n : ℕ) → (n ≡ 0 → ⊥) → nat_eq n 0 ≡ false
not-none n h = grind (arith, nat_tests, h)

-- lines so far, and turns that are still to come: what follows these follows all
pub record Turning (began : PlantState) (ls : List (List ℕ)) (done : List Task) (now : RunState) (s n counter left : ℕ) (committed : Bool) (tasks : List Task) (v : World) : Type 0 where
  pub here : World
  pub leads : TellsMore here (seen now)
  pub then : (k : ℕ) → k + counter ≡ most_turns n → (b : List Task) → AskForFirst (seen now) b (turns k here s left committed).parts → AskForFirst (run done) (tasks ++ b) (turns_of s n v).parts

abbrev pub AllTurning : PlantState → List (List ℕ) → List Task → RunState → ℕ → ℕ → ℕ → ℕ → Bool → List Task → Type 0
AllTurning began ls done now s n counter left committed tasks = (v : World) → TellsMore v (run done) → Turning began ls done now s n counter left committed tasks v

-- so many turns were taken
abbrev pub TakesTurns : RunState → RunState → ℕ → List Step → List Step → ℕ → ℕ → ℕ → Bool → Type 0
TakesTurns old now s p0 p1 n counter left committed =
    (began : PlantState) (ls : List (List ℕ)) (done : List Task) → Ran began ls old done → CarriesParts began ls done now s p0 p1 (AllTurning began ls done now s n counter left committed)

-- none yet
pub turns-begin : (old : RunState) (s n : ℕ) (parts : List Step) → TakesTurns old old s parts parts n 0 n false
turns-begin old s n parts began ls done ran =
    parts-none began ls done s old parts _ ran (λ v more. record {
      here = v;
      leads = subst (TellsMore v) ran.has.stands.leads more;
      then = λ k all b first.
          let same : k ≡ most_turns n = omega (arith, all) in
          subst (λ j. AskForFirst (run done) b (turns j v s n false).parts) same (subst (λ w. AskForFirst w b (turns k v s n false).parts) (sym ran.has.stands.leads) first);
    })

module _ (old now : RunState) (s n : ℕ) (p0 p1 : List Step) (counter left : ℕ) (committed : Bool) (turned : TakesTurns old now s p0 p1 n counter left committed) where
  pub has-lines-on : HasLines old → HasLines now
  has-lines-on h = let a = turned h.began h.ls h.done h.ran in record { began = h.began; ls = h.ls ++ map _ a.steps; done = h.done ++ a.tasks; ran = a.ran }

  -- nothing is left to ask for
  ended-here : (k : ℕ) → k + counter ≡ most_turns n → ((v : World) → v.control ≡ (seen now).control → (turns k v s left committed).parts ≡ []) → AddsAll old now s p0 p1 (turns_of s n)
  ended-here k all none began ls done ran =
      let a = turned began ls done ran in
      parts-so began ls done s now p0 p1 _ a (Follows (turns_of s n) done)
      (λ h v more. let t = h v more in subst (λ ts. AskForFirst (run done) ts (turns_of s n v).parts) (append-nil a.tasks) (t.then k all [] (first-none (seen now) (turns k t.here s left committed).parts (none t.here (same-control t.here (seen now) t.leads)))))

  pub turns-counted : counter ≤ most_turns n → nat_eq left 0 ≡ true → AddsAll old now s p0 p1 (turns_of s n)
  turns-counted most over = let k = most_turns n - counter in ended-here k (omega (arith, most)) (λ v same. turns-over k v s left committed over)

  pub turns-asked : counter ≤ most_turns n → next_asked (master_in (seen now).control s) ≡ None → AddsAll old now s p0 p1 (turns_of s n)
  turns-asked most none = let k = most_turns n - counter in ended-here k (omega (arith, most)) (λ v same. turns-idle k v s left committed (ap (λ (k : Control). next_asked (master_in k s)) same ∙ none))

  pub turns-all : counter ≡ most_turns n → AddsAll old now s p0 p1 (turns_of s n)
  turns-all all = ended-here 0 (omega (arith, all)) (λ v same. turns-spent v s left committed)

  -- one turn more
  module _ (low : counter < most_turns n) (some : nat_eq left 0 ≡ false) (server : ℕ) (next : next_asked (master_in (seen now).control s) ≡ Some server) (new : RunState) (p2 : List Step) where
    abbrev k : ℕ
    k = most_turns n - (counter + 1)

    abbrev phase : PhaseName
    phase = phase_in (seen now).control s

    abbrev more_turns : World → World → Way
    more_turns v w = turns k w s (still_left committed (phase_in w.control s) left) (has_committed committed (phase_in v.control s) (phase_in w.control s))

    all-turns : suc k + counter ≡ most_turns n
    all-turns = omega (arith, low)

    turn-is : (v : World) → v.control ≡ (seen now).control → turns (suc k) v s left committed ≡ and_then (asked_way s server phase v) (more_turns v)
    turn-is v same =
        turns-next k v s left committed server some (ap (λ (k : Control). next_asked (master_in k s)) same ∙ next)
        ∙ ap (λ p. and_then (ask v s p (members_of v.control s) server) (more_turns v)) (ap (λ (k : Control). phase_in k s) same)

    -- it goes on
    pub turns-on : (left' : ℕ) (committed' : Bool) → left' ≡ still_left committed (phase_in (seen new).control s) left → committed' ≡ has_committed committed phase (phase_in (seen new).control s)
        → AddsParts now new s p1 p2 (asked_way s server phase) true → TakesTurns old new s p0 p2 n (counter + 1) left' committed'
    turns-on left' committed' left_is committed_is second began ls done ran =
        let a = turned began ls done ran in
        let b = second began (ls ++ map _ a.steps) (done ++ a.tasks) a.ran in
        parts-then began ls done s now p0 p1 _ a new p2 _ _ b (λ h1 h2 v more.
        let t = h1 v more in
        let led : run (done ++ a.tasks) ≡ seen now = a.ran.has.stands.leads in
        let g : GoThrough (run (done ++ a.tasks)) (seen new) b.tasks (asked_way s server phase t.here) = h2 t.here (subst (TellsMore t.here) (sym led) t.leads) in
        let here : World = (asked_way s server phase t.here).world in
        let same : here.control ≡ (seen new).control = same-control here (seen new) g.leads in
        let before : t.here.control ≡ (seen now).control = same-control t.here (seen now) t.leads in
        let led_on : after_tasks (run (done ++ a.tasks)) b.tasks ≡ seen new = sym (tasks-then nothing (done ++ a.tasks) b.tasks) ∙ b.ran.has.stands.leads in
        record {
          here = here;
          leads = g.leads;
          then = λ j all c first.
              let j_is : j ≡ k = omega (arith, all) in
              let turns_are : turns j here s left' committed' ≡ more_turns t.here here =
              (λ i. turns (j_is i) here s (left_is i) (committed_is i))
              ∙ (λ i. turns k here s (still_left committed (phase_in (sym same i) s) left) (has_committed committed (phase_in (sym before i) s) (phase_in (sym same i) s))) in
              subst (λ ts. AskForFirst (run done) ts (turns_of s n v).parts) (sym (append_assoc a.tasks b.tasks c))
              (t.then (suc k) all-turns (b.tasks ++ c) (subst (λ (z : Way). AskForFirst (seen now) (b.tasks ++ c) z.parts) (sym (turn-is t.here before))
              (subst (λ w. AskForFirst w (b.tasks ++ c) (and_then (asked_way s server phase t.here) (more_turns t.here)).parts) led
              (first-then (run (done ++ a.tasks)) (seen new) b.tasks c (asked_way s server phase t.here) (more_turns t.here) led_on g (subst (λ (z : Way). AskForFirst (seen new) c z.parts) turns_are first)))));
        })

    -- it ends
    pub turns-ended : AddsParts now new s p1 p2 (asked_way s server phase) false → AddsAll old new s p0 p2 (turns_of s n)
    turns-ended second began ls done ran =
        let a = turned began ls done ran in
        let b = second began (ls ++ map _ a.steps) (done ++ a.tasks) a.ran in
        parts-then began ls done s now p0 p1 _ a new p2 _ (Follows (turns_of s n) done) b (λ h1 h2 v more.
        let t = h1 v more in
        let led : run (done ++ a.tasks) ≡ seen now = a.ran.has.stands.leads in
        let stopped : StopWithin (run (done ++ a.tasks)) b.tasks (asked_way s server phase t.here) = h2 t.here (subst (TellsMore t.here) (sym led) t.leads) in
        let whole = walk-stop (run (done ++ a.tasks)) b.tasks (asked_way s server phase t.here) (more_turns t.here) stopped in
        t.then (suc k) all-turns b.tasks (subst (λ (z : Way). AskForFirst (seen now) b.tasks z.parts) (sym (turn-is t.here (same-control t.here (seen now) t.leads)))
        (subst (λ w. AskForFirst w b.tasks (and_then (asked_way s server phase t.here) (more_turns t.here)).parts) led whole.first)))

-- ---- the whole line

module _ (old : RunState) (s n : ℕ) where
  -- it has no part
  pub no-parts : (parts : List Step) → ((v : World) → TellsMore v (seen old) → (formed v s n).parts ≡ []) → AddsAll old old s parts parts (λ v. formed v s n)
  no-parts parts none began ls done ran =
      let led : run done ≡ seen old = ran.has.stands.leads in
      parts-none began ls done s old parts _ ran (λ v more. first-none (run done) (formed v s n).parts (none v (subst (TellsMore v) led more)))

  -- the journal has no room for one
  pub full-parts : (parts : List Step) → has_room old.events ≡ false → AddsAll old old s parts parts (λ v. formed v s n)
  full-parts parts full began ls done ran =
      parts-none began ls done s old parts (Follows (λ v. formed v s n) done) ran (λ v more. (walk-full (run done) (formed v s n) (ap (λ (w : World). has_room w.events) ran.has.stands.leads ∙ full)).first)

  -- too many groups are asked for
  pub many-parts : (parts : List Step) → most_groups < n → AddsAll old old s parts parts (λ v. formed v s n)
  many-parts parts many = no-parts parts (λ v more. formed-many v s n (grind (arith, nat_tests, many)))

  -- its parts are those of its turns
  pub run-parts : (new : RunState) (p0 p1 : List Step) → n ≤ most_groups → has_room old.events ≡ true → AddsAll old new s p0 p1 (turns_of s n) → AddsAll old new s p0 p1 (λ v. formed v s n)
  run-parts new p0 p1 few room adds began ls done ran =
      let a = adds began ls done ran in
      let led : run done ≡ seen old = ran.has.stands.leads in
      parts-so began ls done s new p0 p1 _ a (Follows (λ v. formed v s n) done)
      (λ h v more. subst (AskForFirst (run done) a.tasks) (sym (formed-turns v s n few (roomy v (seen old) (subst (TellsMore v) led more) room))) (h v more))
