-- The ways in which a member changes as its session sees it, and what each asks.
use Rattle.std.specs.Prelude.{ℕ, Bool, ◌≡◌, ◌⊎◌, ◌<◌, ◌≤◌, max, true, false, List, Some}
use Rattle.dr_ids.specs.declared.refusal.PhaseName.{PhaseName}
use Rattle.dr_ids.specs.declared.refusal.PhaseName.TheVariants as phase
use Rattle.dr_model.specs.Decisions.{Shown}
use Rattle.dr_model.specs.Phases as phases
use Rattle.dr_model.specs.Messages.{Flight, Message}
use Rattle.dr_model.specs.Groups.{IsOrderFor, IsComing}
use Rattle.dr_model.specs.Attempts.{Seen, All, Any, counts, NoneRevertible, NoneCommitted, SomeCommitted, AllAt, AllHeld, AllFlashed, IsReported, is_owed}

pub data Kind : Type 0 where
  -- its primary's last attempt, and whether it records and is held
  Try : (q : ℕ) (records held : Bool) → Kind
  -- whether its secondary is its primary's, and the seal
  Pair : (paired : Bool) (z : ℕ) → Kind
  Flash : Kind
  Commit : Kind
  Revert : Kind
  Raise : (q : ℕ) → Kind
  -- its target doesn't count from then on
  Go : (q before : ℕ) → Kind

abbrev pub next_seen : Kind → ℕ → Seen → Seen
next_seen (Try q records held) n v = record v { attempt = q; recording = records; held = held }
next_seen (Pair paired z) n v = record v { paired = paired; seal = z }
next_seen Flash n v = record v { previous = v.sequence; sequence = n; revertible = true }
next_seen Commit n v = record v { previous = 0; revertible = false; member = true; floor = n }
next_seen Revert n v = record v { sequence = v.previous; previous = 0; revertible = false; floor = max v.floor n }
next_seen (Raise q) n v = record v { floor = q }
next_seen (Go q before) n v = record v { sequence = q; previous = before; revertible = false; member = false }

-- a hold of the last attempt comes while the master coordinates, or where one is in flight
abbrev pub HoldComes : Flight → ℕ → PhaseName → ℕ → Type 0
HoldComes f s p n = (p ≡ phase.Coordinating) ⊎ Any (λ (m : Message). IsOrderFor f s phases.Hold n m) f.messages

-- In which phases another order of the last attempt may come: a seal, a flash, a commit and a revert. Of a lost master it may to a
-- server that is still to report.

abbrev pub SealComes : PhaseName → Type 0
SealComes phase.Coordinating = ⊥
SealComes p = Unit {0}

abbrev pub FlashComes : PhaseName → Bool → Type 0
FlashComes phase.Flashing o = Unit {0}
FlashComes phase.Committing o = Unit {0}
FlashComes phase.Reverting o = Unit {0}
FlashComes phase.Lost o = o ≡ true
FlashComes p o = ⊥

-- where others were reported, they were so with the same number
abbrev pub CommitComes : PhaseName → Bool → ℕ → List Shown → Type 0
CommitComes phase.Coordinating o n reports = ⊥
CommitComes phase.Releasing o n reports = ⊥
CommitComes phase.Draining o n reports = ⊥
CommitComes phase.Flashing o n reports = ⊥
CommitComes phase.Reverting o n reports = ⊥
CommitComes phase.Lost o n reports = (o ≡ true) × ((k : ℕ) → IsReported k false reports → k ≡ n)
CommitComes p o n reports = Unit {0}

abbrev pub RevertComes : PhaseName → Type 0
RevertComes phase.Flashing = ⊥
RevertComes phase.Committing = ⊥
RevertComes p = Unit {0}

-- where its primary records, it did before, or it is held now, which it wasn't for the last number; and where it isn't held, it wasn't,
-- or all were held for that number
pub record MayTry (f : Flight) (s : ℕ) (p : PhaseName) (n : ℕ) (vs : List Seen) (v : Seen) (q : ℕ) (records held : Bool) : Type 0 where
  pub up : v.attempt ≤ q
  pub low : q ≤ n
  pub begun : records ≡ true → (v.recording ≡ true) ⊎ ((v.attempt < n) × HoldComes f s p n)
  pub free : records ≡ true → held ≡ false → ((v.recording ≡ true) × (v.held ≡ false)) ⊎ AllHeld n vs

pub record MaySeal (p : PhaseName) (n : ℕ) (v : Seen) : Type 0 where
  pub comes : SealComes p
  pub records : v.recording ≡ true
  pub held : n ≤ v.attempt

pub record MayPair (p : PhaseName) (n : ℕ) (v : Seen) (pairs : Bool) (z : ℕ) : Type 0 where
  pub sealed : (z ≡ 0) ⊎ ((z ≡ n) × MaySeal p n v)
  pub free : pairs ≡ true → (v.paired ≡ true) ⊎ ((v.revertible ≡ false) × (v.recording ≡ false))

-- the phase asks for that work, or an order for it is on its way to the server
abbrev pub IsAsked : Flight → ℕ → PhaseName → ℕ → ℕ → phases.Work → Type 0
IsAsked f s p n server work = (phases.work_in p ≡ Some work) ⊎ IsComing f s server work n

pub record MayFlash (f : Flight) (s : ℕ) (p : PhaseName) (n : ℕ) (owed : List ℕ) (vs : List Seen) (v : Seen) : Type 0 where
  pub asked : IsAsked f s p n v.server phases.Flash
  pub comes : FlashComes p (is_owed owed v)
  pub held : AllHeld n vs
  pub paired : v.paired ≡ true
  pub sealed : v.seal ≡ n
  pub plain : v.revertible ≡ false
  pub low : v.floor < n

-- a commit is ordered, or another one is committed
pub record Ordered (f : Flight) (s : ℕ) (p : PhaseName) (n : ℕ) (owed : List ℕ) (reports : List Shown) (vs : List Seen) (v : Seen) : Type 0 where
  pub asked : IsAsked f s p n v.server phases.Commit
  pub comes : CommitComes p (is_owed owed v) n reports
  pub paired : v.paired ≡ true
  pub flashed : AllFlashed n vs

pub record MayCommit (f : Flight) (s : ℕ) (p : PhaseName) (n : ℕ) (owed : List ℕ) (reports : List Shown) (vs : List Seen) (v : Seen) : Type 0 where
  pub revertible : v.revertible ≡ true
  pub all : AllAt n vs
  pub way : Ordered f s p n owed reports vs v ⊎ SomeCommitted n vs

-- a revert is ordered, or all secondaries are taken
pub record TakesBack (f : Flight) (s : ℕ) (p : PhaseName) (n : ℕ) (v : Seen) : Type 0 where
  pub asked : IsAsked f s p n v.server phases.Revert
  pub comes : RevertComes p
  pub paired : v.paired ≡ true

pub record MayRevert (f : Flight) (s : ℕ) (p : PhaseName) (n : ℕ) (vs : List Seen) (v : Seen) : Type 0 where
  pub revertible : v.revertible ≡ true
  pub none : NoneCommitted n vs
  pub way : TakesBack f s p n v ⊎ All (λ u. u.paired ≡ false) vs

pub record MayRaise (n : ℕ) (v : Seen) (q : ℕ) : Type 0 where
  pub under : v.revertible ≡ true → q < n
  pub higher : v.floor ≤ q
  pub low : q ≤ n

abbrev pub MayTurn : Kind → Flight → ℕ → PhaseName → ℕ → List ℕ → List Shown → List Seen → Seen → Type 0
MayTurn (Try q records held) f s p n owed reports vs v = MayTry f s p n vs v q records held
MayTurn (Pair paired z) f s p n owed reports vs v = MayPair p n v paired z
MayTurn Flash f s p n owed reports vs v = MayFlash f s p n owed vs v
MayTurn Commit f s p n owed reports vs v = MayCommit f s p n owed reports vs v
MayTurn Revert f s p n owed reports vs v = MayRevert f s p n vs v
MayTurn (Raise q) f s p n owed reports vs v = MayRaise n v q
MayTurn (Go q before) f s p n owed reports vs v = (counts v ≡ false) ⊎ NoneRevertible vs
