-- Each way in which a member changes: where some can go back and some can't any more, that was so before, or a commit comes, which comes where
-- all were flashed.
use Rattle.std.proofs.Common.{ℕ, ◌≡◌, ◌⊎◌, inl, inr, refl, sym, subst, true, List, Some}
use Rattle.dr_ids.specs.declared.refusal.PhaseName.{PhaseName}
use Rattle.dr_ids.specs.declared.refusal.PhaseName.TheVariants as phase
use Rattle.dr_model.specs.Decisions.{Shown}
use Rattle.dr_model.specs.Phases as phases
use Rattle.dr_model.specs.Messages.{Flight, Message}
use Rattle.dr_model.specs.Groups.{In, IsOrderFor}
use Rattle.dr_model.specs.Attempts.{Seen, Any, committed, SomeCommitted, AllFlashed}
use Rattle.dr_laws_attempts.proofs.Facts.{Update, rev-not-committed}
use Rattle.dr_laws_attempts.proofs.Turns.{Kind, Try, Pair, Flash, Commit, Revert, Raise, Go, next_seen, MayTurn, MayFlash, MayCommit, Ordered}
use Rattle.dr_laws_attempts.proofs.TurnsKeep.{InAnyPhase, not-flashed, reverted-none}
use Rattle.dr_laws_attempts.proofs.Places.{Turning, Stays, One}
use Rattle.dr_logic.proofs.Truth.{false_true}

-- a commit is asked for while the master commits
pub commit-phase : (p : PhaseName) → phases.work_in p ≡ Some phases.Commit → p ≡ phase.Committing
commit-phase phase.Committing e = refl
commit-phase p e = absurd cc

-- one of a list can go back
abbrev pub SomeOpen : List Seen → Type 0
SomeOpen = Any (λ v. v.revertible ≡ true)

-- Beside members: Told says that one was reported that can go back; Bound that one was that can't, or that an order to commit is in flight.
module _ (f : Flight) (s : ℕ) (p : PhaseName) (n : ℕ) (owed : List ℕ) (reports : List Shown) (vs us : List Seen) (law : InAnyPhase n vs) (Told Bound All : Type 0) (commits : p ≡ phase.Committing → All)
    (settles : SomeOpen vs ⊎ Told → SomeCommitted n vs ⊎ Bound → All) (flies : Any (λ (m : Message). IsOrderFor f s phases.Commit n m) f.messages → Bound) (flashed : Bound → AllFlashed n vs) where
  abbrev Settled : Type 0
  Settled = SomeOpen us ⊎ Told → SomeCommitted n us ⊎ Bound → All

  module _ (v : Seen) where
    -- it can't go back where it couldn't, and isn't committed where it wasn't
    still : (w : Seen) → Update vs v w us → (w.revertible ≡ true → v.revertible ≡ true) → (committed n w ≡ true → committed n v ≡ true) → Settled
    still w move can was is settling = settles (opened is) (settled settling)
      where
        open-by : (u : Seen) → u.revertible ≡ true → (u ≡ w) ⊎ In u vs → SomeOpen vs
        open-by u h (inl e) = record { one = v; here = move.here; is = can (subst (λ u. u.revertible ≡ true) e h) }
        open-by u h (inr was) = record { one = u; here = was; is = h }

        opened : SomeOpen us ⊎ Told → SomeOpen vs ⊎ Told
        opened (inl any) = inl (open-by any.one any.is (move.back any.one any.here))
        opened (inr told) = inr told

        settled-by : (u : Seen) → committed n u ≡ true → (u ≡ w) ⊎ In u vs → SomeCommitted n vs
        settled-by u h (inl e) = record { one = v; here = move.here; is = was (subst (λ u. committed n u ≡ true) e h) }
        settled-by u h (inr old) = record { one = u; here = old; is = h }

        settled : SomeCommitted n us ⊎ Bound → SomeCommitted n vs ⊎ Bound
        settled (inl any) = inl (settled-by any.one any.is (move.back any.one any.here))
        settled (inr bound) = inr bound

    -- a commit is ordered, or follows another one
    commit : Update vs v (next_seen Commit n v) us → MayCommit f s p n owed reports vs v → All
    commit move may = by may.way
      where
        opened : SomeOpen vs
        opened = record { one = v; here = move.here; is = may.revertible }

        by : Ordered f s p n owed reports vs v ⊎ SomeCommitted n vs → All
        by (inl due) = elim due.asked [
          | inl works ↦ commits (commit-phase p works)
          | inr coming ↦ settles (inl opened) (inr (flies (record { one = coming.message; here = coming.order.order.here; is = coming.order })))
        ]
        by (inr had) = settles (inl opened) (inl had)

    -- none is committed where one is flashed
    flash : Update vs v (next_seen Flash n v) us → MayFlash f s p n owed vs v → SomeCommitted n us ⊎ Bound → ⊥
    flash move may settling = not-flashed f s p n owed reports vs law v us may (all settling v move.here)
      where
        was : (u : Seen) → committed n u ≡ true → (u ≡ next_seen Flash n v) ⊎ In u vs → AllFlashed n vs
        was u h (inl e) = false_true (rev-not-committed n (next_seen Flash n v) refl) (subst (λ u. committed n u ≡ true) e h)
        was u h (inr here) = (law.follows.settled u here h).1

        all : SomeCommitted n us ⊎ Bound → AllFlashed n vs
        all (inl any) = was any.one any.is (move.back any.one any.here)
        all (inr bound) = flashed bound

    one : (k : Kind) → Update vs v (next_seen k n v) us → MayTurn k f s p n owed reports vs v → Settled
    one Commit move may is settling = commit move may
    one Flash move may is settling = absurd (flash move may settling)
    one Revert move may is settling = still (next_seen Revert n v) move (λ h. absurd cc) (λ h. false_true (reverted-none f s p n owed reports vs law v us may law.numbers.none move) h) is settling
    one (Go q before) move may is settling = still (next_seen (Go q before) n v) move (λ h. absurd cc) (λ h. absurd cc) is settling
    one (Try q records held) move may is settling = still (next_seen (Try q records held) n v) move (λ h. h) (λ h. h) is settling
    one (Pair paired z) move may is settling = still (next_seen (Pair paired z) n v) move (λ h. h) (λ h. h) is settling
    one (Raise q) move may is settling = still (next_seen (Raise q) n v) move (λ h. h) (λ h. h) is settling

  pub turning-settles : Turning f s p n owed reports vs us → Settled
  turning-settles (Stays same) is settling = subst (λ us. SomeOpen us ⊎ Told → SomeCommitted n us ⊎ Bound → All) (sym same) settles is settling
  turning-settles (One v k move may) is settling = one v k move may is settling
