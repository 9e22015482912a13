-- What is given where an order is due: it may come in the phase of its session, and what it waits for was done. Where the master owes it,
-- the phase says so; where it is on its way, what the messages in flight say.
use Rattle.std.proofs.Common.{ℕ, ◌≡◌, ◌⊎◌, ◌<◌, ◌≤◌, inl, inr, refl, ap, sym, ◌∙◌, subst, Bool, true, false, arith, List, Option, Some, None}
use Rattle.std.proofs.lemmas.Bool.Decides.{eqb_tells}
use Rattle.std.proofs.lemmas.Option.{same_Some}
use Rattle.dr_ids.specs.declared.names.Member.{Member}
use Rattle.dr_ids.specs.declared.refusal.PhaseName.{PhaseName}
use Rattle.dr_ids.specs.declared.refusal.PhaseName.TheVariants as phase
use Rattle.dr_model.specs.Decisions.{Shown}
use Rattle.dr_model.specs.Phases as phases
use Rattle.dr_model.specs.Sessions.{Session}
use Rattle.dr_model.specs.Messages.{Flight, Message}
use Rattle.dr_model.specs.Control.{Control}
use Rattle.dr_model.specs.Groups.{In, IsOwed, IsOrder, IsComing, Due}
use Rattle.dr_model.specs.Attempts.{Seen, roles, seen, seen_in, is_owed, SomeCommitted, AllAt, Blocked, NoneCommitted, NoneRevertible, AllHeld, AllFlashed, IsReported, InPhase, phase_of, owed_of, reports_of, AttemptOf}
use Rattle.dr_model.specs.Flights.{IsEarly, IsFenced, IsQuiet, IsPast, ComesAfterHolds, IsThreat, HasServer, may_have_sent, FlightFits, FlightOf}
use Rattle.dr_facts.proofs.Tables.{IsOrNot}
use Rattle.dr_facts.proofs.Lists.{to-map}
use Rattle.dr_laws_attempts.proofs.Facts.{bool_cases}
use Rattle.dr_laws_attempts.proofs.Turns.{Kind, Flash, Commit, HoldComes, SealComes, FlashComes, CommitComes, RevertComes, IsAsked, Ordered, MayTurn}
use Rattle.dr_logic.proofs.Truth.{false_true}

-- ---- an order that is owed

-- the phase has that work
pub owed-works : (x : Session) (server : ℕ) (work : phases.Work) (n : ℕ) → IsOwed x server work n → phases.work_in (phase_of x.mirror) ≡ Some work
owed-works x server work n owes = ap (λ o. phases.work_in (phase_of o)) owes.has_master ∙ owes.works

-- one that is due is owed, or on its way
pub due-asked : (f : Flight) (x : Session) (server : ℕ) (work : phases.Work) (n : ℕ) → Due f x server work n → IsAsked f x.number (phase_of x.mirror) n server work
due-asked f x server work n (inl owes) = inl (owed-works x server work n owes)
due-asked f x server work n (inr coming) = inr coming

numbered-work : (w : phases.Work) (n : ℕ) → (phases.numbered w n).work ≡ w
numbered-work phases.Report n = refl
numbered-work w n = refl

-- so it has where the master has an order
pub order-works : (b : Bool) (w : Option phases.Work) (n : ℕ) (o : phases.Order) → phases.order_if b w n ≡ Some o → w ≡ Some o.work
order-works true (Some w) n o h = ap Some (sym (numbered-work w n) ∙ ap (λ (o : phases.Order). o.work) (same_Some _ _ h))
order-works true None n o h = absurd cc
order-works false w n o h = absurd cc

-- ---- the phases in which an order comes

-- a hold is owed while the master coordinates
pub hold-owed : (p : PhaseName) → phases.work_in p ≡ Some phases.Hold → p ≡ phase.Coordinating
hold-owed phase.Coordinating e = refl
hold-owed p e = absurd cc

seal-owed : (p : PhaseName) → phases.work_in p ≡ Some phases.Seal → SealComes p
seal-owed phase.Draining e = tt
seal-owed p e = absurd cc

flash-owed : (p : PhaseName) (o : Bool) → phases.work_in p ≡ Some phases.Flash → FlashComes p o
flash-owed phase.Flashing o e = tt
flash-owed p o e = absurd cc

commit-owed : (p : PhaseName) (o : Bool) (n : ℕ) (reports : List Shown) → phases.work_in p ≡ Some phases.Commit → CommitComes p o n reports
commit-owed phase.Committing o n reports e = tt
commit-owed p o n reports e = absurd cc

revert-owed : (p : PhaseName) → phases.work_in p ≡ Some phases.Revert → RevertComes p
revert-owed phase.Reverting e = tt
revert-owed p e = absurd cc

-- one that is on its way was sent so far, before any attempt was lost or with no fence above it
never-sent : {P : Type 0} (p : PhaseName) (work : phases.Work) → may_have_sent p work ≡ true → may_have_sent p work ≡ false → P
never-sent p work sent never = false_true never sent

seal-sent : (p : PhaseName) → (IsEarly p → may_have_sent p phases.Seal ≡ true) → SealComes p
seal-sent phase.Coordinating early = never-sent phase.Coordinating phases.Seal (early tt) refl
seal-sent p early = tt

flash-sent : (p : PhaseName) (n : ℕ) (o : Bool) → (IsEarly p → may_have_sent p phases.Flash ≡ true) → (p ≡ phase.Lost → o ≡ true) → (IsPast p n n → ⊥) → FlashComes p o
flash-sent phase.Coordinating n o early lost past = never-sent phase.Coordinating phases.Flash (early tt) refl
flash-sent phase.Releasing n o early lost past = never-sent phase.Releasing phases.Flash (early tt) refl
flash-sent phase.Draining n o early lost past = never-sent phase.Draining phases.Flash (early tt) refl
flash-sent phase.Flashing n o early lost past = tt
flash-sent phase.Committing n o early lost past = tt
flash-sent phase.Reverting n o early lost past = tt
flash-sent phase.Finishing n o early lost past = absurd (past (omega arith))
flash-sent phase.Lost n o early lost past = lost refl
flash-sent phase.Idle n o early lost past = absurd (past (inr tt))
flash-sent phase.None n o early lost past = absurd (past (inr tt))

commit-sent : (p : PhaseName) (o : Bool) (n : ℕ) (reports : List Shown) → (IsEarly p → may_have_sent p phases.Commit ≡ true) → (IsFenced p → may_have_sent p phases.Commit ≡ true)
    → (p ≡ phase.Lost → (o ≡ true) × ((k : ℕ) → IsReported k false reports → k ≡ n)) → CommitComes p o n reports
commit-sent phase.Coordinating o n reports early fenced lost = never-sent phase.Coordinating phases.Commit (early tt) refl
commit-sent phase.Releasing o n reports early fenced lost = never-sent phase.Releasing phases.Commit (early tt) refl
commit-sent phase.Draining o n reports early fenced lost = never-sent phase.Draining phases.Commit (early tt) refl
commit-sent phase.Flashing o n reports early fenced lost = never-sent phase.Flashing phases.Commit (early tt) refl
commit-sent phase.Reverting o n reports early fenced lost = never-sent phase.Reverting phases.Commit (fenced tt) refl
commit-sent phase.Lost o n reports early fenced lost = lost refl
commit-sent p o n reports early fenced lost = tt

revert-sent : (p : PhaseName) → (IsEarly p → may_have_sent p phases.Revert ≡ true) → (IsFenced p → may_have_sent p phases.Revert ≡ true) → RevertComes p
revert-sent phase.Flashing early fenced = never-sent phase.Flashing phases.Revert (early tt) refl
revert-sent phase.Committing early fenced = never-sent phase.Committing phases.Revert (fenced tt) refl
revert-sent p early fenced = tt

-- ---- an order that is on its way to a member's server

module _ (f : Flight) (s : ℕ) (p : PhaseName) (n : ℕ) (owed : List ℕ) (reports : List Shown) (vs : List Seen) (fits : FlightFits f s p n owed reports vs) (v : Seen) (here : In v vs) (work : phases.Work) (coming : IsComing f s v.server work n) where
  abbrev m : Message
  m = coming.message

  order : IsOrder f s m
  order = coming.order.order

  to : HasServer m.server vs
  to = record { one = v; here = here; is = sym coming.to }

  threat : IsThreat f s work n vs m
  threat = record { order = coming.order; loose = coming.loose; to = to }

  -- no fence of this epoch is above it
  loose : f.epoch s ≤ f.fence s m.server → m.epoch < f.epoch s → ⊥
  loose high older =
      let low : f.fence s m.server ≤ m.epoch = subst (λ s. f.fence s m.server ≤ m.epoch) order.session coming.loose in
      omega arith

  -- of this epoch, or of an older one
  epochs : (m.epoch ≡ f.epoch s) ⊎ (m.epoch < f.epoch s)
  epochs = by (eqb_tells m.epoch (f.epoch s))
    where
      by : IsOrNot m.epoch (f.epoch s) → (m.epoch ≡ f.epoch s) ⊎ (m.epoch < f.epoch s)
      by (inl is) = inl is.1
      by (inr other) = let low : m.epoch ≤ f.epoch s = (fits.known m order.here order.session).epoch in inr (omega (arith, low, other.1))

  sent-now : m.epoch ≡ f.epoch s → may_have_sent p work ≡ true
  sent-now e = subst (λ work. may_have_sent p work ≡ true) coming.order.works ((fits.so_far m order.here order.session coming.order.number).work e)

  pub sent-early : IsEarly p → may_have_sent p work ≡ true
  sent-early early = sent-now ((fits.so_far m order.here order.session coming.order.number).early early)

  pub sent-fenced : IsFenced p → may_have_sent p work ≡ true
  sent-fenced fenced = by epochs
    where
      by : (m.epoch ≡ f.epoch s) ⊎ (m.epoch < f.epoch s) → may_have_sent p work ≡ true
      by (inl e) = sent-now e
      by (inr older) = absurd (loose (fits.fenced fenced m order coming.order.number older to) older)

  -- a server that has reported to a lost master has a fence above it
  pub unheard : p ≡ phase.Lost → may_have_sent phase.Lost work ≡ false → is_owed owed v ≡ true
  unheard lost never = by (bool_cases (is_owed owed v)) epochs
    where
      by : (is_owed owed v ≡ true) ⊎ (is_owed owed v ≡ false) → (m.epoch ≡ f.epoch s) ⊎ (m.epoch < f.epoch s) → is_owed owed v ≡ true
      by (inl o) e = o
      by (inr o) (inl e) = false_true never (subst (λ p. may_have_sent p work ≡ true) lost (sent-now e))
      by (inr o) (inr older) = absurd (loose (subst (λ x. f.epoch s ≤ f.fence s x) (sym coming.to) (fits.heard lost v here o)) older)

-- ---- others that are owed, and other reports

flash-for : (p : PhaseName) (o b : Bool) → FlashComes p o → (p ≡ phase.Lost → b ≡ true) → FlashComes p b
flash-for phase.Flashing o b h lost = tt
flash-for phase.Committing o b h lost = tt
flash-for phase.Reverting o b h lost = tt
flash-for phase.Lost o b h lost = lost refl
flash-for p o b h lost = h

commit-for : (p : PhaseName) (o b : Bool) (n : ℕ) (reports rs : List Shown) → CommitComes p o n reports → (p ≡ phase.Lost → (b ≡ true) × ((k : ℕ) → IsReported k false rs → k ≡ n)) → CommitComes p b n rs
commit-for phase.Lost o b n reports rs h lost = lost refl
commit-for p o b n reports rs h lost = h

-- A member may turn as it does also where others are owed, and other reports came, if the messages in flight fit these: an order that
-- comes to a lost master's session comes to none that has reported.
module _ (f : Flight) (s : ℕ) (p : PhaseName) (n : ℕ) (owed ks : List ℕ) (reports rs : List Shown) (vs : List Seen) (fits : FlightFits f s p n ks rs vs) (v : Seen) (here : In v vs) where
  -- a lost master asks for nothing but reports
  lost-asks : (work : phases.Work) → may_have_sent phase.Lost work ≡ false → p ≡ phase.Lost → IsAsked f s p n v.server work → IsComing f s v.server work n
  lost-asks phases.Report never lost asked = absurd cc
  lost-asks work never lost (inl asks) = let no : Some phases.Report ≡ Some work = ap phases.work_in (sym lost) ∙ asks in absurd cc
  lost-asks work never lost (inr coming) = coming

  still-asked : (work : phases.Work) → may_have_sent phase.Lost work ≡ false → IsAsked f s p n v.server work → p ≡ phase.Lost → is_owed ks v ≡ true
  still-asked work never asked lost = unheard f s p n ks rs vs fits v here work (lost-asks work never lost asked) lost never

  told-last : IsComing f s v.server phases.Commit n → v.revertible ≡ true → v.paired ≡ true → p ≡ phase.Lost → (q : ℕ) → IsReported q false rs → q ≡ n
  told-last coming flag paired lost q told = by (eqb_tells q n)
    where
      by : IsOrNot q n → q ≡ n
      by (inl is) = is.1
      by (inr other) = false_true (fits.others lost q told other.1 coming.message (threat f s p n ks rs vs fits v here phases.Commit coming) v here flag) paired

  pub turn-by : (k : Kind) → MayTurn k f s p n owed reports vs v → MayTurn k f s p n ks rs vs v
  turn-by Flash a = record {
    asked = a.asked;
    comes = flash-for p (is_owed owed v) (is_owed ks v) a.comes (still-asked phases.Flash refl a.asked);
    held = a.held;
    paired = a.paired;
    sealed = a.sealed;
    plain = a.plain;
    low = a.low;
  }
  turn-by Commit a = record { revertible = a.revertible; all = a.all; way = by a.way }
    where
      by : Ordered f s p n owed reports vs v ⊎ SomeCommitted n vs → Ordered f s p n ks rs vs v ⊎ SomeCommitted n vs
      by (inl o) = inl (record {
        asked = o.asked;
        comes = commit-for p (is_owed owed v) (is_owed ks v) n reports rs o.comes (λ lost. (still-asked phases.Commit refl o.asked lost, told-last (lost-asks phases.Commit refl lost o.asked) a.revertible o.paired lost));
        paired = o.paired;
        flashed = o.flashed;
      })
      by (inr had) = inr had
  turn-by k a = a

-- ---- what an order that is owed waits for

module _ (n : ℕ) (owed : List ℕ) (reports : List Shown) (vs : List Seen) where
  releases : (p : PhaseName) → phases.work_in p ≡ Some phases.Release → InPhase p n owed reports vs → AllHeld n vs
  releases phase.Releasing e h = h.held
  releases p e h = absurd cc

  flashes : (p : PhaseName) → phases.work_in p ≡ Some phases.Flash → InPhase p n owed reports vs → AllHeld n vs
  flashes phase.Flashing e h = h.held
  flashes p e h = absurd cc

  pub commits : (p : PhaseName) → phases.work_in p ≡ Some phases.Commit → InPhase p n owed reports vs → AllFlashed n vs × (AllAt n vs ⊎ Blocked vs)
  commits phase.Committing e h = (h.flashed, h.way)
  commits p e h = absurd cc

  pub reverts : (p : PhaseName) → phases.work_in p ≡ Some phases.Revert → InPhase p n owed reports vs → NoneCommitted n vs ⊎ NoneRevertible vs
  reverts phase.Reverting e h = h.way
  reverts p e h = absurd cc

-- ---- an order of the last attempt that is due

-- a hold
pub hold-comes : (f : Flight) (x : Session) (server : ℕ) → Due f x server phases.Hold x.last → HoldComes f x.number (phase_of x.mirror) x.last
hold-comes f x server (inl owes) = inl (hold-owed (phase_of x.mirror) (owed-works x server phases.Hold x.last owes))
hold-comes f x server (inr coming) = inr (record { one = coming.message; here = coming.order.order.here; is = coming.order })

module _ (k : Control) (x : Session) (law : AttemptOf (roles k) x) (fits : FlightOf k x) (m : Member) (listed : In m x.members) where
  abbrev p : PhaseName
  p = phase_of x.mirror

  abbrev n : ℕ
  n = x.last

  abbrev owed : List ℕ
  owed = owed_of x.mirror

  abbrev reports : List Shown
  reports = reports_of x.mirror

  abbrev vs : List Seen
  vs = seen_in k x

  abbrev v : Seen
  v = seen (roles k) m

  abbrev DueFor : phases.Work → Type 0
  DueFor work = Due k.flight x m.server.0 work n

  abbrev Coming : phases.Work → Type 0
  Coming work = IsComing k.flight x.number m.server.0 work n

  here : In v vs
  here = to-map (seen (roles k)) x.members m listed

  works : (work : phases.Work) → IsOwed x m.server.0 work n → phases.work_in p ≡ Some work
  works work owes = owed-works x m.server.0 work n owes

  early : (work : phases.Work) → Coming work → IsEarly p → may_have_sent p work ≡ true
  early work coming = sent-early k.flight x.number p n owed reports vs fits v here work coming

  fenced : (work : phases.Work) → Coming work → IsFenced p → may_have_sent p work ≡ true
  fenced work coming = sent-fenced k.flight x.number p n owed reports vs fits v here work coming

  unreported : (work : phases.Work) → Coming work → may_have_sent phase.Lost work ≡ false → p ≡ phase.Lost → is_owed owed v ≡ true
  unreported work coming never lost = unheard k.flight x.number p n owed reports vs fits v here work coming lost never

  -- where it may come
  pub seal-comes : DueFor phases.Seal → SealComes p
  seal-comes (inl owes) = seal-owed p (works phases.Seal owes)
  seal-comes (inr coming) = seal-sent p (early phases.Seal coming)

  pub flash-comes : DueFor phases.Flash → v.floor < n → FlashComes p (is_owed owed v)
  flash-comes (inl owes) low = flash-owed p (is_owed owed v) (works phases.Flash owes)
  flash-comes (inr coming) low = flash-sent p n (is_owed owed v) (early phases.Flash coming) (unreported phases.Flash coming refl)
      (λ past. let high : n ≤ v.floor = fits.flashes n coming.message coming.order past v here in omega arith)

  -- where another number was reported to a lost master, the secondary of one that is revertible is taken
  commit-told : Coming phases.Commit → v.revertible ≡ true → v.paired ≡ true → p ≡ phase.Lost → (q : ℕ) → IsReported q false reports → q ≡ n
  commit-told coming flag paired lost q told = told-last k.flight x.number p n owed owed reports reports vs fits v here coming flag paired lost q told

  pub commit-comes : DueFor phases.Commit → v.revertible ≡ true → v.paired ≡ true → CommitComes p (is_owed owed v) n reports
  commit-comes (inl owes) flag paired = commit-owed p (is_owed owed v) n reports (works phases.Commit owes)
  commit-comes (inr coming) flag paired = commit-sent p (is_owed owed v) n reports (early phases.Commit coming) (fenced phases.Commit coming)
      (λ lost. (unreported phases.Commit coming refl lost, commit-told coming flag paired lost))

  pub revert-comes : DueFor phases.Revert → RevertComes p
  revert-comes (inl owes) = revert-owed p (works phases.Revert owes)
  revert-comes (inr coming) = revert-sent p (early phases.Revert coming) (fenced phases.Revert coming)

  -- what it waits for
  pub release-held : DueFor phases.Release → AllHeld n vs
  release-held (inl owes) = releases n owed reports vs p (works phases.Release owes) law.phase
  release-held (inr coming) = fits.after_holds coming.message coming.order.order coming.order.number (subst ComesAfterHolds (sym coming.order.works) tt)

  pub flash-held : DueFor phases.Flash → AllHeld n vs
  flash-held (inl owes) = flashes n owed reports vs p (works phases.Flash owes) law.phase
  flash-held (inr coming) = fits.after_holds coming.message coming.order.order coming.order.number (subst ComesAfterHolds (sym coming.order.works) tt)

  pub commit-flashed : DueFor phases.Commit → AllFlashed n vs × (AllAt n vs ⊎ Blocked vs)
  commit-flashed (inl owes) = commits n owed reports vs p (works phases.Commit owes) law.phase
  commit-flashed (inr coming) = (fits.commits coming.message coming.order, fits.commit_way coming.message (threat k.flight x.number p n owed reports vs fits v here phases.Commit coming))

  pub revert-way : DueFor phases.Revert → NoneCommitted n vs ⊎ NoneRevertible vs
  revert-way (inl owes) = reverts n owed reports vs p (works phases.Revert owes) law.phase
  revert-way (inr coming) = fits.revert_way coming.message (threat k.flight x.number p n owed reports vs fits v here phases.Revert coming)

  -- a hold comes while the attempt goes on, and to a server that hasn't finished it
  coordinating-busy : p ≡ phase.Coordinating → IsQuiet p → ⊥
  coordinating-busy is quiet = subst IsQuiet is quiet

  pub hold-busy : DueFor phases.Hold → v.attempt < n → IsQuiet p → ⊥
  hold-busy (inl owes) new quiet = coordinating-busy (hold-owed p (works phases.Hold owes)) quiet
  hold-busy (inr coming) new quiet = let held : n ≤ v.attempt = fits.holds n coming.message coming.order (inr quiet) v here in omega arith

  pub hold-unfinished : v.attempt < n → p ≡ phase.Finishing → is_owed owed v ≡ true
  hold-unfinished new ends = by (bool_cases (is_owed owed v))
    where
      by : (is_owed owed v ≡ true) ⊎ (is_owed owed v ≡ false) → is_owed owed v ≡ true
      by (inl o) = o
      by (inr o) = let held : n ≤ v.attempt = (subst (λ p. InPhase p n owed reports vs) ends law.phase).done v here o in absurd (omega arith)
