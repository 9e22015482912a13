-- Each way in which a member changes keeps its session's laws.
use Rattle.std.proofs.Common.{ℕ, ◌≡◌, ◌≢◌, ◌<◌, ◌≤◌, ◌+◌, ◌⊎◌, ◌||◌, inl, inr, refl, sym, ◌∙◌, Bool, true, false, arith, rules, List, subst}
use Rattle.dr_ids.specs.declared.refusal.PhaseName.{PhaseName}
use Rattle.dr_ids.specs.declared.refusal.PhaseName.TheVariants as phase
use Rattle.dr_model.specs.Decisions.{Shown}
use Rattle.dr_model.specs.Messages.{Flight}
use Rattle.dr_model.specs.Groups.{In}
use Rattle.dr_model.specs.Attempts.{Seen, All, counts, committed, number_shown, NoneRevertible, NoneCommitted, SomeCommitted, AllAt, Blocked, Bars, Barred, AllHeld, WasFlashed, AllFlashed, Follows, Numbered, OneShown, NumbersAgree, is_owed, Answered, Before, InCoordinating, InForming, InFlashing, InCommitting, InReverting, InFinishing, IsReported, AgreesOnLast, AgreesOnOther, Known, InLost, InPhase, Waits, Owes, IsAttempt}
use Rattle.dr_laws_attempts.proofs.Turns.{Kind, Try, Pair, Flash, Commit, Revert, Raise, Go, next_seen, SealComes, FlashComes, CommitComes, HoldComes, RevertComes, MayTurn, MaySeal, MayFlash, MayCommit, MayRevert, Ordered, TakesBack}
use Rattle.dr_laws_attempts.proofs.Facts.{bool_cases, Update, each, some, any_all, committed-parts, is-committed, rev-not-committed, member-counts, rev-counts, uncounted-plain, shown-rev, shown-plain, none-some, apart-none}
use Rattle.dr_logic.proofs.Truth.{false_true}

-- what holds of the members in any phase
pub record InAnyPhase (n : ℕ) (vs : List Seen) : Type 0 where
  pub numbers : NumbersAgree n vs
  pub follows : Follows n vs

-- who is owed, and what was reported, may be others than those of the session
module _ (f : Flight) (s : ℕ) (p : PhaseName) (n : ℕ) (owed : List ℕ) (reports : List Shown) (vs : List Seen) (law : InAnyPhase n vs) (v : Seen) (us : List Seen) where
  abbrev To : Kind → Type 0
  To k = Update vs v (next_seen k n v) us

  abbrev May : Kind → Type 0
  May k = MayTurn k f s p n owed reports vs v

  -- the numbers of one member
  numbered : (k : Kind) → May k → Numbered n v → Numbered n (next_seen k n v)
  numbered (Try q records held) a r = record { attempt = a.low; seal = r.seal; floor = r.floor; sequence = r.sequence; last = r.last; above = r.above; reached = r.reached }
  numbered (Pair paired z) a r = record { attempt = r.attempt; seal = low a.sealed; floor = r.floor; sequence = r.sequence; last = r.last; above = r.above; reached = r.reached }
    where
      low : (z ≡ 0) ⊎ ((z ≡ n) × MaySeal p n v) → z ≤ n
      low (inl e) = omega arith
      low (inr e) = let is : z ≡ n = e.0 in omega arith
  numbered Flash a r = record {
    attempt = r.attempt;
    seal = r.seal;
    floor = r.floor;
    sequence = λ h. omega arith;
    last = λ h. refl;
    above = λ h. a.low;
    reached = λ m. subst (λ x. x ≤ v.floor) (shown-plain v a.plain) (r.reached m);
  }
  numbered Commit a r = record {
    attempt = r.attempt;
    seal = r.seal;
    floor = omega arith;
    sequence = λ h. r.sequence (rev-counts v a.revertible);
    last = λ h. absurd cc;
    above = λ h. absurd cc;
    reached = λ m. r.sequence (rev-counts v a.revertible);
  }
  numbered Revert a r = record {
    attempt = r.attempt;
    seal = r.seal;
    floor = let low : v.floor ≤ n = r.floor in omega arith;
    sequence = λ h. let s : v.previous ≤ v.floor = subst (λ x. x ≤ v.floor) (shown-rev v a.revertible) (r.reached (member-only v h)) in let low : v.floor ≤ n = r.floor in omega arith;
    last = λ h. absurd cc;
    above = λ h. absurd cc;
    reached = λ m. let s : v.previous ≤ v.floor = subst (λ x. x ≤ v.floor) (shown-rev v a.revertible) (r.reached m) in omega arith;
  }
    where
      member-only : (u : Seen) → (u.member || false) ≡ true → u.member ≡ true
      member-only u h = grind rules
  numbered (Raise q) a r = record {
    attempt = r.attempt;
    seal = r.seal;
    floor = a.low;
    sequence = r.sequence;
    last = r.last;
    above = a.under;
    reached = λ m. let s : number_shown v ≤ v.floor = r.reached m in let up : v.floor ≤ q = a.higher in omega arith;
  }
  numbered (Go q before) a r = record { attempt = r.attempt; seal = r.seal; floor = r.floor; sequence = λ h. absurd cc; last = λ h. absurd cc; above = λ h. absurd cc; reached = λ m. absurd cc }

  kept-numbered : (k : Kind) → To k → May k → All (Numbered n) us
  kept-numbered k move a = each (Numbered n) move (numbered k a (law.numbers.each v move.here)) law.numbers.each

  -- one whose target goes isn't revertible
  go-plain : In v vs → (counts v ≡ false) ⊎ NoneRevertible vs → v.revertible ≡ false
  go-plain here (inl c) = uncounted-plain v c
  go-plain here (inr none) = none v here

  -- each stays on its server
  same-server : (k : Kind) → is_owed owed (next_seen k n v) ≡ is_owed owed v
  same-server Flash = refl
  same-server k = refl

  -- attempts and floors only rise
  attempt-one : {q : ℕ} (k : Kind) → May k → q ≤ v.attempt → q ≤ (next_seen k n v).attempt
  attempt-one (Try x records held) a was = let up : v.attempt ≤ x = a.up in omega arith
  attempt-one Flash a was = was
  attempt-one k a was = was

  pub all-held : {q : ℕ} (k : Kind) → To k → May k → AllHeld q vs → AllHeld q us
  all-held {q} k move a all = each (λ u. q ≤ u.attempt) move (attempt-one k a (all v move.here)) all

  held-on : (k : Kind) → To k → May k → Answered owed (λ u. n ≤ u.attempt) vs → Answered owed (λ u. n ≤ u.attempt) us
  held-on k move a on = each (λ u. is_owed owed u ≡ false → n ≤ u.attempt) move (λ o. attempt-one k a (on v move.here (sym (same-server k) ∙ o))) on

  flashed-one : (k : Kind) → May k → In v vs → WasFlashed n v → WasFlashed n (next_seen k n v)
  flashed-one Flash a here d = inl refl
  flashed-one Commit a here d = inr (omega arith)
  flashed-one Revert a here d = inr (omega arith)
  flashed-one (Raise q) a here (inl r) = inl r
  flashed-one (Raise q) a here (inr f) = let was : n ≤ v.floor = f in let up : v.floor ≤ q = a.higher in inr (omega arith)
  flashed-one (Go q before) a here (inl r) = false_true (go-plain here a) r
  flashed-one (Go q before) a here (inr f) = inr f
  flashed-one k a here d = d

  pub all-flashed : (k : Kind) → To k → May k → AllFlashed n vs → AllFlashed n us
  all-flashed k move a all = each (WasFlashed n) move (flashed-one k a move.here (all v move.here)) all

  flashed-on : (k : Kind) → To k → May k → Answered owed (WasFlashed n) vs → Answered owed (WasFlashed n) us
  flashed-on k move a on = each (λ u. is_owed owed u ≡ false → WasFlashed n u) move (λ o. flashed-one k a move.here (on v move.here (sym (same-server k) ∙ o))) on

  -- one that is flashed was not before, so none is committed
  pub not-flashed : MayFlash f s p n owed vs v → WasFlashed n v → ⊥
  not-flashed a (inl r) = false_true a.plain r
  not-flashed a (inr f) = let was : n ≤ v.floor = f in let low : v.floor < n = a.low in absurd (omega arith)

  pub flash-none : MayFlash f s p n owed vs v → In v vs → NoneCommitted n vs
  flash-none a here = by law.numbers.none
    where
      by : SomeCommitted n vs ⊎ OneShown n vs → NoneCommitted n vs
      by (inl had) = absurd (not-flashed a ((law.follows.settled had.one had.here had.is).1 v here))
      by (inr one) = λ u h. apart-none n u (λ m e. one.apart (sym (one.same u h m) ∙ e))

  -- what may come and go
  pub plain-stays : (k : Kind) → To k → (k ≡ Flash → ⊥) → NoneRevertible vs → NoneRevertible us
  plain-stays Flash move ne q = absurd (ne refl)
  plain-stays Commit move ne q = each _ move refl q
  plain-stays Revert move ne q = each _ move refl q
  plain-stays (Go x before) move ne q = each _ move refl q
  plain-stays k move ne q = each _ move (q v move.here) q

  none-revertible : (k : Kind) → To k → May k → (FlashComes p (is_owed owed v) → ⊥) → NoneRevertible vs → NoneRevertible us
  none-revertible Flash move a ne q = absurd (ne a.comes)
  none-revertible k move a ne q = plain-stays k move (λ f. cc) q

  pub reverted-none : MayRevert f s p n vs v → SomeCommitted n vs ⊎ OneShown n vs → To Revert → committed n (next_seen Revert n v) ≡ false
  reverted-none a (inl had) move = none-some n vs a.none had
  reverted-none a (inr one) move = apart-none n (next_seen Revert n v) (λ m e. one.apart (sym (one.same v move.here m) ∙ shown-rev v a.revertible ∙ e))

  abbrev Commits : Type 0
  Commits = CommitComes p (is_owed owed v) n reports

  no-commit : {P : Type 0} → (Commits → ⊥) → MayCommit f s p n owed reports vs v → NoneCommitted n vs → P
  no-commit {P} ne a q = by a.way
    where
      by : Ordered f s p n owed reports vs v ⊎ SomeCommitted n vs → P
      by (inl due) = absurd (ne due.comes)
      by (inr had) = none-some n vs q had

  none-committed : (k : Kind) → To k → May k → (Commits → ⊥) → NoneCommitted n vs → NoneCommitted n us
  none-committed Flash move a ne q = each _ move (rev-not-committed n (next_seen Flash n v) refl) q
  none-committed Commit move a ne q = no-commit ne a q
  none-committed Revert move a ne q = each _ move (reverted-none a law.numbers.none move) q
  none-committed (Go x before) move a ne q = each _ move refl q
  none-committed k move a ne q = each _ move (q v move.here) q

  pub all-at : (k : Kind) → To k → May k → (k ≡ Revert → ⊥) → AllAt n vs → AllAt n us
  all-at Flash move a ne q = each _ move (λ c. refl) q
  all-at Commit move a ne q = each _ move (λ c. q v move.here (rev-counts v a.revertible)) q
  all-at Revert move a ne q = absurd (ne refl)
  all-at (Go x before) move a ne q = each _ move (λ c. absurd cc) q
  all-at k move a ne q = each _ move (q v move.here) q

  -- where the secondary is its primary's from then on, it was, or the target isn't revertible
  paired-blocked : (paired : Bool) (z : ℕ) → May (Pair paired z) → v.revertible ≡ true → (v.revertible ≡ true → v.paired ≡ false) → paired ≡ false
  paired-blocked false z a r bar = refl
  paired-blocked true z a r bar = by (a.free refl)
    where
      by : (v.paired ≡ true) ⊎ ((v.revertible ≡ false) × (v.recording ≡ false)) → true ≡ false
      by (inl h) = false_true (bar r) h
      by (inr h) = false_true h.0 r

  pub blocked : (k : Kind) → To k → May k → (k ≡ Flash → ⊥) → Blocked vs → Blocked us
  blocked (Pair paired z) move a ne q = each _ move (λ r. paired-blocked paired z a r (q v move.here)) q
  blocked Flash move a ne q = absurd (ne refl)
  blocked Commit move a ne q = each _ move (λ r. absurd cc) q
  blocked Revert move a ne q = each _ move (λ r. absurd cc) q
  blocked (Go x before) move a ne q = each _ move (λ r. absurd cc) q
  blocked k move a ne q = each _ move (q v move.here) q

  -- the numbers of the members together
  kept-some : (k : Kind) → To k → May k → NoneCommitted n vs ⊎ AllAt n vs → NoneCommitted n us ⊎ AllAt n us
  kept-some Commit move a q = inr (all-at Commit move a (λ e. cc) a.all)
  kept-some Flash move a q = inl (each _ move (rev-not-committed n (next_seen Flash n v) refl) (flash-none a move.here))
  kept-some Revert move a q = inl (each _ move (reverted-none a law.numbers.none move) a.none)
  kept-some (Go x before) move a (inl none) = inl (each _ move refl none)
  kept-some (Go x before) move a (inr all) = inr (all-at (Go x before) move a (λ e. cc) all)
  kept-some k move a (inl none) = inl (each _ move (none v move.here) none)
  kept-some k move a (inr all) = inr (each _ move (all v move.here) all)

  -- one that is committed stays, where the one that goes doesn't count
  some-stays : (q before : ℕ) → To (Go q before) → counts v ≡ false → SomeCommitted n vs → SomeCommitted n us
  some-stays q before move c had = some _ move (λ h. false_true c (member-counts v (committed-parts n v h).member)) had

  -- where none is revertible and one that is committed goes, another is, or those that are left have number n
  left-shown : (q before : ℕ) → To (Go q before) → NoneRevertible vs → SomeCommitted n vs → NoneCommitted n vs ⊎ AllAt n vs → SomeCommitted n us ⊎ OneShown n us
  left-shown q before move plain had all = by (any_all (committed n) us) all
    where
      others : NoneRevertible us
      others = each _ move refl plain

      by : SomeCommitted n us ⊎ NoneCommitted n us → NoneCommitted n vs ⊎ AllAt n vs → SomeCommitted n us ⊎ OneShown n us
      by (inl still) d = inl still
      by (inr none) (inl never) = none-some n vs never had
      by (inr none) (inr all) = inr (record {
        number = n + 1;
        apart = λ e. omega arith;
        same = λ u h m. false_true (none u h) (is-committed n u m (others u h) (all-at (Go q before) move (inr plain) (λ e. cc) all u h (member-counts u m)));
      })

  kept-none : (k : Kind) → To k → May k → SomeCommitted n vs ⊎ OneShown n vs → SomeCommitted n us ⊎ OneShown n us
  kept-none Commit move a q =
      inl (record { one = next_seen Commit n v; here = move.there; is = is-committed n (next_seen Commit n v) refl refl ((law.numbers.each v move.here).last a.revertible) })
  kept-none Flash move a (inl had) = none-some n vs (flash-none a move.here) had
  kept-none Flash move a (inr one) = inr (record { number = one.number; apart = one.apart; same = each _ move (λ m. sym (shown-plain v a.plain) ∙ one.same v move.here m) one.same })
  kept-none Revert move a (inl had) = none-some n vs a.none had
  kept-none Revert move a (inr one) = inr (record { number = one.number; apart = one.apart; same = each _ move (λ m. sym (shown-rev v a.revertible) ∙ one.same v move.here m) one.same })
  kept-none (Go q before) move (inl c) (inl had) = inl (some-stays q before move c had)
  kept-none (Go q before) move (inr plain) (inl had) = left-shown q before move plain had law.numbers.some
  kept-none (Go q before) move a (inr one) = inr (record { number = one.number; apart = one.apart; same = each _ move (λ m. absurd cc) one.same })
  kept-none k move a (inl had) = inl (some _ move (λ h. h) had)
  kept-none k move a (inr one) = inr (record { number = one.number; apart = one.apart; same = each _ move (one.same v move.here) one.same })

  kept-numbers : (k : Kind) → To k → May k → NumbersAgree n us
  kept-numbers k move a = record { each = kept-numbered k move a; some = kept-some k move a law.numbers.some; none = kept-none k move a law.numbers.none }

  -- what comes late comes after what comes before
  free-one : (k : Kind) → To k → May k → (next_seen k n v).recording ≡ true → (next_seen k n v).held ≡ false → AllHeld n us
  free-one (Try q records held) move a r h = all-held (Try q records held) move a (by (a.free r h))
    where
      by : ((v.recording ≡ true) × (v.held ≡ false)) ⊎ AllHeld n vs → AllHeld n vs
      by (inl was) = law.follows.free v move.here was.0 was.1
      by (inr all) = all
  free-one Flash move a r h = all-held Flash move a a.held
  free-one k move a r h = all-held k move a (law.follows.free v move.here r h)

  turned-one : (k : Kind) → To k → May k → (next_seen k n v).revertible ≡ true → AllHeld n us
  turned-one Flash move a r = all-held Flash move a a.held
  turned-one Commit move a r = absurd cc
  turned-one Revert move a r = absurd cc
  turned-one (Go q before) move a r = absurd cc
  turned-one k move a r = all-held k move a (law.follows.turned v move.here r)

  commit-flashed : MayCommit f s p n owed reports vs v → In v vs → AllFlashed n vs
  commit-flashed a here = by a.way
    where
      by : Ordered f s p n owed reports vs v ⊎ SomeCommitted n vs → AllFlashed n vs
      by (inl due) = due.flashed
      by (inr had) = (law.follows.settled had.one had.here had.is).1

  settled-one : (k : Kind) → To k → May k → committed n (next_seen k n v) ≡ true → AllHeld n us × AllFlashed n us
  settled-one Flash move a c = false_true (rev-not-committed n (next_seen Flash n v) refl) c
  settled-one Commit move a c = (all-held Commit move a (law.follows.turned v move.here a.revertible), all-flashed Commit move a (commit-flashed a move.here))
  settled-one Revert move a c = false_true (reverted-none a law.numbers.none move) c
  settled-one (Go q before) move a c = absurd cc
  settled-one k move a c = let s = law.follows.settled v move.here c in (all-held k move a s.0, all-flashed k move a s.1)

  sealed-one : (k : Kind) → To k → May k → (next_seen k n v).paired ≡ true → (next_seen k n v).seal ≡ n → n ≤ (next_seen k n v).attempt
  sealed-one (Pair paired z) move a to is = by a.sealed
    where
      by : (z ≡ 0) ⊎ ((z ≡ n) × MaySeal p n v) → n ≤ v.attempt
      by (inl e) = let none : z ≡ 0 = e in let same : z ≡ n = is in omega arith
      by (inr s) = s.1.held
  sealed-one (Try q records held) move a to is = let was : n ≤ v.attempt = law.follows.sealed v move.here to is in let up : v.attempt ≤ q = a.up in omega arith
  sealed-one k move a to is = law.follows.sealed v move.here to is

  kept-follows : (k : Kind) → To k → May k → Follows n us
  kept-follows k move a = record {
    free = each (λ u. u.recording ≡ true → u.held ≡ false → AllHeld n us) move (free-one k move a) (λ u h r f. all-held k move a (law.follows.free u h r f));
    turned = each (λ u. u.revertible ≡ true → AllHeld n us) move (turned-one k move a) (λ u h r. all-held k move a (law.follows.turned u h r));
    settled = each (λ u. committed n u ≡ true → AllHeld n us × AllFlashed n us) move (settled-one k move a) (λ u h c. let s = law.follows.settled u h c in (all-held k move a s.0, all-flashed k move a s.1));
    sealed = each (λ u. u.paired ≡ true → u.seal ≡ n → n ≤ u.attempt) move (sealed-one k move a) law.follows.sealed;
  }

  -- the phases
  kept-before : (k : Kind) → To k → May k → (FlashComes p (is_owed owed v) → ⊥) → (Commits → ⊥) → Before n vs → Before n us
  kept-before k move a f c q = record { positive = q.positive; unflashed = none-revertible k move a f q.unflashed; uncommitted = none-committed k move a c q.uncommitted }

  pair-unsealed : (paired : Bool) (z : ℕ) → May (Pair paired z) → (MaySeal p n v → ⊥) → 0 < n → z ≢ n
  pair-unsealed paired z a ne above e = by a.sealed
    where
      by : (z ≡ 0) ⊎ ((z ≡ n) × MaySeal p n v) → ⊥
      by (inl is) = let same : z ≡ n = e in omega arith
      by (inr is) = ne is.1

  kept-unsealed : (k : Kind) → To k → May k → (SealComes p → ⊥) → 0 < n → All (λ v. v.seal ≢ n) vs → All (λ v. v.seal ≢ n) us
  kept-unsealed (Pair paired z) move a ne above q = each _ move (pair-unsealed paired z a (λ s. ne s.comes) above) q
  kept-unsealed k move a ne above q = each _ move (q v move.here) q

  -- what doesn't come in a phase
  flash-not : (q : PhaseName) → p ≡ q → (FlashComes q (is_owed owed v) → ⊥) → FlashComes p (is_owed owed v) → ⊥
  flash-not q e ne f = ne (subst (λ q. FlashComes q (is_owed owed v)) e f)

  commit-not : (q : PhaseName) → p ≡ q → (CommitComes q (is_owed owed v) n reports → ⊥) → Commits → ⊥
  commit-not q e ne f = ne (subst (λ q. CommitComes q (is_owed owed v) n reports) e f)

  kept-coordinating : (k : Kind) → To k → May k → p ≡ phase.Coordinating → InCoordinating n owed vs → InCoordinating n owed us
  kept-coordinating k move a e q = record {
    before = kept-before k move a (flash-not phase.Coordinating e (λ f. f)) (commit-not phase.Coordinating e (λ f. f)) q.before;
    unsealed = kept-unsealed k move a (λ f. subst SealComes e f) q.before.positive q.unsealed;
    held = held-on k move a q.held;
  }

  kept-forming : (k : Kind) → To k → May k → (FlashComes p (is_owed owed v) → ⊥) → (Commits → ⊥) → InForming n vs → InForming n us
  kept-forming k move a f c q = record { before = kept-before k move a f c q.before; held = all-held k move a q.held }

  abbrev Bar : Seen → Type 0
  Bar u = Bars n u.revertible u.paired u.recording u.seal u.floor

  -- where all secondaries are taken, each is barred
  pub taken-bars : All (λ u. u.paired ≡ false) vs → To Revert → Barred n us
  taken-bars all move = each Bar move (record { taken = λ r. absurd cc; spent = λ r q. false_true (all v move.here) q }) (λ u h. record { taken = λ r. all u h; spent = λ r q. false_true (all u h) q })

  -- a primary that didn't record doesn't then, where no hold comes
  abbrev NoHold : Type 0
  NoHold = v.attempt < n → HoldComes f s p n → ⊥

  still-silent : (q : ℕ) (records held : Bool) → May (Try q records held) → NoHold → v.recording ≡ false → records ≡ false
  still-silent q records held a ne none = by (bool_cases records)
    where
      was : (v.recording ≡ true) ⊎ ((v.attempt < n) × HoldComes f s p n) → ⊥
      was (inl r) = false_true none r
      was (inr h) = ne h.0 h.1

      by : (records ≡ true) ⊎ (records ≡ false) → records ≡ false
      by (inl r) = absurd (was (a.begun r))
      by (inr r) = r

  pair-spent : (paired : Bool) (z : ℕ) → May (Pair paired z) → 0 < n → Bar v → v.revertible ≡ false → paired ≡ true → v.floor < n → (z ≢ n) × (v.recording ≡ false)
  pair-spent paired z a above bar r to low = let none = silent (a.free to) in (pair-unsealed paired z a (λ s. false_true none s.records) above, none)
    where
      silent : (v.paired ≡ true) ⊎ ((v.revertible ≡ false) × (v.recording ≡ false)) → v.recording ≡ false
      silent (inl was) = (bar.spent r was low).1
      silent (inr new) = new.1

  pub kept-barred : (k : Kind) → To k → May k → NoHold → 0 < n → Barred n vs → Barred n us
  kept-barred (Try x records held) move a ne above bar = each Bar move (record { taken = (bar v move.here).taken; spent = λ r q low. let s = (bar v move.here).spent r q low in (s.0, still-silent x records held a ne s.1) }) bar
  kept-barred (Pair paired z) move a ne above bar = each Bar move (record { taken = λ r. paired-blocked paired z a r (bar v move.here).taken; spent = λ r q low. pair-spent paired z a above (bar v move.here) r q low }) bar
  kept-barred Flash move a ne above bar = absurd (((bar v move.here).spent a.plain a.paired a.low).0 a.sealed)
  kept-barred Commit move a ne above bar = each Bar move (record { taken = λ r. absurd cc; spent = λ r q. false_true ((bar v move.here).taken a.revertible) q }) bar
  kept-barred Revert move a ne above bar = each Bar move (record { taken = λ r. absurd cc; spent = λ r q. false_true ((bar v move.here).taken a.revertible) q }) bar
  kept-barred (Raise q) move a ne above bar = each Bar move (record { taken = (bar v move.here).taken; spent = λ r s low. let up = a.higher in (bar v move.here).spent r s (omega arith) }) bar
  kept-barred (Go q before) move a ne above bar = each Bar move (record { taken = λ r. absurd cc; spent = λ r. (bar v move.here).spent (go-plain move.here a) }) bar

  abbrev FlashDone : List Seen → Type 0
  FlashDone xs = Barred n xs ⊎ Answered owed (λ u. u.revertible ≡ true) xs

  flash-done : (k : Kind) → To k → May k → p ≡ phase.Flashing → InFlashing n owed vs → FlashDone vs → FlashDone us
  flash-done Commit move a e q d = no-commit (commit-not phase.Flashing e (λ f. f)) a q.uncommitted
  flash-done Revert move a e q d = by a.way
    where
      by : TakesBack f s p n v ⊎ All (λ u. u.paired ≡ false) vs → FlashDone us
      by (inl due) = absurd (subst RevertComes e due.comes)
      by (inr all) = inl (taken-bars all move)
  flash-done Flash move a e q (inr on) = inr (each _ move (λ o. refl) on)
  flash-done (Go x before) move a e q (inr on) = inr (each _ move (λ o. false_true (go-plain move.here a) (on v move.here o)) on)
  flash-done k move a e q (inl bar) = inl (kept-barred k move a (λ low h. let all : n ≤ v.attempt = q.held v move.here in absurd (omega arith)) q.positive bar)
  flash-done k move a e q (inr on) = inr (each _ move (on v move.here) on)

  kept-flashing : (k : Kind) → To k → May k → p ≡ phase.Flashing → InFlashing n owed vs → InFlashing n owed us
  kept-flashing k move a e q = record {
    positive = q.positive;
    uncommitted = none-committed k move a (commit-not phase.Flashing e (λ f. f)) q.uncommitted;
    held = all-held k move a q.held;
    done = flash-done k move a e q q.done;
    flashed = flashed-on k move a q.flashed;
  }

  settled-done : (k : Kind) → To k → May k → (k ≡ Flash → ⊥) → Answered owed (λ u. u.revertible ≡ false) vs → Answered owed (λ u. u.revertible ≡ false) us
  settled-done Flash move a ne q = absurd (ne refl)
  settled-done Commit move a ne q = each _ move (λ o. refl) q
  settled-done Revert move a ne q = each _ move (λ o. refl) q
  settled-done (Go x before) move a ne q = each _ move (λ o. refl) q
  settled-done k move a ne q = each _ move (q v move.here) q

  commit-way : (k : Kind) → To k → May k → p ≡ phase.Committing → (k ≡ Flash → ⊥) → AllAt n vs ⊎ Blocked vs → AllAt n us ⊎ Blocked us
  commit-way Revert move a e ne d = by a.way
    where
      by : TakesBack f s p n v ⊎ All (λ u. u.paired ≡ false) vs → AllAt n us ⊎ Blocked us
      by (inl due) = absurd (subst RevertComes e due.comes)
      by (inr all) = inr (each _ move (λ r. all v move.here) (λ u h r. all u h))
  commit-way k move a e ne (inl all) = inl (all-at k move a (λ f. cc) all)
  commit-way k move a e ne (inr bar) = inr (blocked k move a ne bar)

  kept-committing-by : (k : Kind) → To k → May k → p ≡ phase.Committing → (k ≡ Flash → ⊥) → InCommitting n owed vs → InCommitting n owed us
  kept-committing-by k move a e ne q = record { way = commit-way k move a e ne q.way; held = all-held k move a q.held; flashed = all-flashed k move a q.flashed; done = settled-done k move a ne q.done }

  kept-committing : (k : Kind) → To k → May k → p ≡ phase.Committing → InCommitting n owed vs → InCommitting n owed us
  kept-committing Flash move a e q = absurd (not-flashed a (q.flashed v move.here))
  kept-committing k move a e q = kept-committing-by k move a e (λ f. cc) q

  revert-way : (k : Kind) → To k → May k → p ≡ phase.Reverting → NoneCommitted n vs ⊎ NoneRevertible vs → NoneCommitted n us ⊎ NoneRevertible us
  revert-way Flash move a e d = inl (each _ move (rev-not-committed n (next_seen Flash n v) refl) (flash-none a move.here))
  revert-way k move a e (inl none) = inl (none-committed k move a (commit-not phase.Reverting e (λ f. f)) none)
  revert-way k move a e (inr none) = inr (plain-stays k move (λ f. cc) none)

  reverted-done : (k : Kind) → To k → May k → Answered owed (λ u. (u.revertible ≡ false) × (n ≤ u.floor)) vs → Answered owed (λ u. (u.revertible ≡ false) × (n ≤ u.floor)) us
  reverted-done Flash move a q = each _ move (λ o. absurd (not-flashed a (inr (q v move.here o).1))) q
  reverted-done Commit move a q = each _ move (λ o. (refl, omega arith)) q
  reverted-done Revert move a q = each _ move (λ o. (refl, omega arith)) q
  reverted-done (Raise x) move a q = each _ move (λ o. let was : n ≤ v.floor = (q v move.here o).1 in let up : v.floor ≤ x = a.higher in ((q v move.here o).0, omega arith)) q
  reverted-done (Go x before) move a q = each _ move (λ o. (refl, (q v move.here o).1)) q
  reverted-done k move a q = each _ move (q v move.here) q

  kept-reverting : (k : Kind) → To k → May k → p ≡ phase.Reverting → InReverting n owed vs → InReverting n owed us
  kept-reverting k move a e q = record { way = revert-way k move a e q.way; done = reverted-done k move a q.done }

  kept-finishing : (k : Kind) → To k → May k → p ≡ phase.Finishing → InFinishing n owed vs → InFinishing n owed us
  kept-finishing k move a e q = record { unflashed = none-revertible k move a (flash-not phase.Finishing e (λ f. f)) q.unflashed; done = held-on k move a q.done }

  module _ (e : p ≡ phase.Lost) (q : InLost n owed reports vs) where
    abbrev Settled : List Seen → Type 0
    Settled xs = SomeCommitted n xs ⊎ NoneRevertible xs

    commits-now : May Commit → To Commit → SomeCommitted n us
    commits-now a move = record { one = next_seen Commit n v; here = move.there; is = is-committed n (next_seen Commit n v) refl refl ((law.numbers.each v move.here).last a.revertible) }

    lost-settled : (k : Kind) → To k → May k → (k ≡ Flash → ⊥) → Settled vs → Settled us
    lost-settled Commit move a ne d = inl (commits-now a move)
    lost-settled Revert move a ne (inl had) = none-some n vs a.none had
    lost-settled Flash move a ne d = absurd (ne refl)
    lost-settled (Go x before) move (inl c) ne (inl had) = inl (some-stays x before move c had)
    lost-settled (Go x before) move (inr plain) ne d = inr (each _ move refl plain)
    lost-settled k move a ne (inr none) = inr (plain-stays k move ne none)
    lost-settled k move a ne (inl had) = inl (some _ move (λ h. h) had)

    abbrev Agrees : List Seen → Type 0
    Agrees xs = AgreesOnLast n reports xs ⊎ AgreesOnOther n reports xs

    -- none is reverted where what was reported is n
    revert-apart : MayRevert f s p n vs v → In v vs → Settled vs → ⊥
    revert-apart a here (inl had) = none-some n vs a.none had
    revert-apart a here (inr none) = false_true (none v here) a.revertible

    -- where one is committed, all that isn't revertible was reported with n
    commit-told : MayCommit f s p n owed reports vs v → AgreesOnOther n reports vs → (k : ℕ) → IsReported k false reports → k ≡ n
    commit-told a o = by a.way
      where
        by : Ordered f s p n owed reports vs v ⊎ SomeCommitted n vs → (k : ℕ) → IsReported k false reports → k ≡ n
        by (inl due) = (subst (λ q. CommitComes q (is_owed owed v) n reports) e due.comes).1
        by (inr had) = let c = committed-parts n had.one had.is in absurd (o.shown.apart (sym (o.shown.same had.one had.here c.member) ∙ (shown-plain had.one c.plain ∙ c.numbered)))

    other-stays : (k : Kind) → To k → May k → (k ≡ Commit → ⊥) → (one : OneShown n vs) → All (λ u. u.member ≡ true → number_shown u ≡ one.number) us
    other-stays Flash move a ne one = each _ move (λ m. sym (shown-plain v a.plain) ∙ one.same v move.here m) one.same
    other-stays Commit move a ne one = absurd (ne refl)
    other-stays Revert move a ne one = each _ move (λ m. sym (shown-rev v a.revertible) ∙ one.same v move.here m) one.same
    other-stays (Go x before) move a ne one = each _ move (λ m. absurd cc) one.same
    other-stays k move a ne one = each _ move (one.same v move.here) one.same

    last-agrees : (k : Kind) → To k → May k → (k ≡ Revert → ⊥) → (k ≡ Flash → ⊥) → AgreesOnLast n reports vs → Agrees us
    last-agrees k move a ne nf l = inl (record { told = l.told; all = all-at k move a ne l.all; settled = lost-settled k move a nf l.settled })

    other-agrees : (k : Kind) → To k → May k → (k ≡ Commit → ⊥) → AgreesOnOther n reports vs → Agrees us
    other-agrees k move a ne o = inr (record { shown = record { number = o.shown.number; apart = o.shown.apart; same = other-stays k move a ne o.shown }; told = o.told })

    -- none is flashed where one that isn't revertible was reported with n
    flash-untold : May Flash → In v vs → IsReported n false reports → ⊥
    flash-untold a here t = not-flashed a ((q.after t).1 v here)

    flash-agrees : To Flash → May Flash → AgreesOnLast n reports vs → SomeCommitted n vs ⊎ OneShown n vs → Agrees us
    flash-agrees move a l (inl had) = none-some n vs (flash-none a move.here) had
    flash-agrees move a l (inr one) = inr (record {
      shown = record { number = one.number; apart = one.apart; same = other-stays Flash move a (λ f. cc) one };
      told = λ k t. absurd (flash-untold a move.here (subst (λ k. IsReported k false reports) (l.told k t) t));
    })

    lost-agrees : (k : Kind) → To k → May k → Agrees vs → Agrees us
    lost-agrees Flash move a (inl l) = flash-agrees move a l law.numbers.none
    lost-agrees Revert move a (inl l) = absurd (revert-apart a move.here l.settled)
    lost-agrees Commit move a (inr o) = inl (record { told = commit-told a o; all = all-at Commit move a (λ f. cc) a.all; settled = inl (commits-now a move) })
    lost-agrees k move a (inl l) = last-agrees k move a (λ f. cc) (λ f. cc) l
    lost-agrees k move a (inr o) = other-agrees k move a (λ f. cc) o

    known-by : (k : Kind) → To k → May k → (k ≡ Flash → ⊥) → Known n owed reports vs → Known n owed reports us
    known-by k move a ne (inl none) = inl (plain-stays k move ne none)
    known-by k move a ne (inr (inl told)) = inr (inl told)
    known-by Commit move a ne (inr (inr one)) = inr (inr (some _ move (λ h. false_true (rev-not-committed n v a.revertible) h.0) one))
    known-by Revert move a ne (inr (inr one)) = inr (inr (some _ move (λ h. false_true (a.none v move.here) h.0) one))
    known-by Flash move a ne (inr (inr one)) = absurd (ne refl)
    known-by (Go x before) move (inl c) ne (inr (inr one)) = inr (inr (some _ move (λ h. false_true c (member-counts v (committed-parts n v h.0).member)) one))
    known-by (Go x before) move (inr plain) ne (inr (inr one)) = inl (each _ move refl plain)
    known-by k move a ne (inr (inr one)) = inr (inr (some _ move (λ h. h) one))

    commit-known : To Commit → May Commit → Known n owed reports us
    unfolding commits-now
    commit-known move a = by a.way
      where
        by : Ordered f s p n owed reports vs v ⊎ SomeCommitted n vs → Known n owed reports us
        by (inl due) = let c = commits-now a move in inr (inr (record { one = c.one; here = c.here; is = (c.is, (subst (λ q. CommitComes q (is_owed owed v) n reports) e due.comes).0) }))
        by (inr had) = known-by Commit move a (λ f. cc) (q.known had.one had.here had.is)

    lost-known : (k : Kind) → To k → May k → All (λ u. committed n u ≡ true → Known n owed reports us) us
    lost-known Commit move a = each _ move (λ c. commit-known move a) (λ u h c. known-by Commit move a (λ f. cc) (q.known u h c))
    lost-known Revert move a = each _ move (λ c. false_true (reverted-none a law.numbers.none move) c) (λ u h c. false_true (a.none u h) c)
    lost-known Flash move a = each _ move (λ c. false_true (rev-not-committed n (next_seen Flash n v) refl) c) (λ u h c. false_true (flash-none a move.here u h) c)
    lost-known (Go x before) move a = each _ move (λ c. absurd cc) (λ u h c. known-by (Go x before) move a (λ f. cc) (q.known u h c))
    lost-known k move a = each _ move (λ c. known-by k move a (λ f. cc) (q.known v move.here c)) (λ u h c. known-by k move a (λ f. cc) (q.known u h c))

    lost-told : (k : Kind) → To k → May k → Answered owed (λ u. u.revertible ≡ true → IsReported n true reports) us
    lost-told Commit move a = each _ move (λ o r. absurd cc) q.told
    lost-told Revert move a = each _ move (λ o r. absurd cc) q.told
    lost-told Flash move a = each _ move (λ o r. false_true o (subst (λ q. FlashComes q (is_owed owed v)) e a.comes)) q.told
    lost-told (Go x before) move a = each _ move (λ o r. absurd cc) q.told
    lost-told k move a = each _ move (q.told v move.here) q.told

    kept-lost : (k : Kind) → To k → May k → InLost n owed reports us
    kept-lost k move a = record {
      last = q.last;
      agrees = lost-agrees k move a q.agrees;
      known = lost-known k move a;
      told = lost-told k move a;
      after = λ t. let s = q.after t in (all-held k move a s.0, all-flashed k move a s.1);
    }

  kept-phase : (q : PhaseName) → p ≡ q → (k : Kind) → To k → May k → InPhase q n owed reports vs → InPhase q n owed reports us
  kept-phase phase.None e k move a h = none-revertible k move a (flash-not phase.None e (λ f. f)) h
  kept-phase phase.Idle e k move a h = none-revertible k move a (flash-not phase.Idle e (λ f. f)) h
  kept-phase phase.Coordinating e k move a h = kept-coordinating k move a e h
  kept-phase phase.Releasing e k move a h = kept-forming k move a (flash-not phase.Releasing e (λ f. f)) (commit-not phase.Releasing e (λ f. f)) h
  kept-phase phase.Draining e k move a h = kept-forming k move a (flash-not phase.Draining e (λ f. f)) (commit-not phase.Draining e (λ f. f)) h
  kept-phase phase.Flashing e k move a h = kept-flashing k move a e h
  kept-phase phase.Committing e k move a h = kept-committing k move a e h
  kept-phase phase.Reverting e k move a h = kept-reverting k move a e h
  kept-phase phase.Finishing e k move a h = kept-finishing k move a e h
  kept-phase phase.Lost e k move a h = kept-lost e h k move a

  pub at-server : (k : Kind) → (next_seen k n v).server ≡ v.server
  at-server Flash = refl
  at-server k = refl

  still-owed : (k : Kind) → To k → Waits owed vs → Waits owed us
  still-owed k move h = record { some = h.some; members = λ s i. some (λ u. u.server ≡ s) move (λ is. at-server k ∙ is) (h.members s i) }

  kept-owed : (q : PhaseName) (k : Kind) → To k → Owes q owed vs → Owes q owed us
  kept-owed phase.None k move h = tt
  kept-owed phase.Idle k move h = tt
  kept-owed q k move h = still-owed k move h

  pub kept-in : (k : Kind) → To k → May k → InPhase p n owed reports vs → InPhase p n owed reports us
  kept-in k move a h = kept-phase p refl k move a h

  pub kept : (k : Kind) → To k → May k → InPhase p n owed reports vs → Owes p owed vs → IsAttempt p n owed reports us
  kept k move a h owes = record { numbers = kept-numbers k move a; follows = kept-follows k move a; phase = kept-in k move a h; owes = kept-owed p k move owes }
