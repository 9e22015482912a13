-- What a master becomes keeps its session's laws.
use Rattle.std.proofs.Common.{ℕ, ◌≡◌, ◌≢◌, ◌<◌, ◌≤◌, ◌+◌, ◌⊎◌, inl, inr, refl, ap, sym, ◌∙◌, true, false, arith, List, [], ◌∷◌, ◌++◌, subst, Option, None, Some, ◌==◌}
use Rattle.std.proofs.lemmas.Bool.{eq-eqb}
use Rattle.std.proofs.lemmas.Bool.Decides.{eqb_tells}
use Rattle.dr_ids.specs.declared.refusal.PhaseName.{PhaseName}
use Rattle.dr_ids.specs.declared.refusal.PhaseName.TheVariants as phase
use Rattle.dr_ids.specs.declared.refusal.Decision.{Decision}
use Rattle.dr_ids.specs.declared.refusal.Decision.TheVariants.{CommitRest}
use Rattle.dr_model.specs.Decisions.{Shown, decision}
use Rattle.dr_model.specs.Phases as phases
use Rattle.dr_model.specs.Groups.{In}
use Rattle.dr_model.specs.Attempts.{Seen, All, Any, counts, committed, number_shown, NoneRevertible, NoneCommitted, SomeCommitted, AllAt, Blocked, Barred, AllHeld, WasFlashed, AllFlashed, Follows, Numbered, OneShown, NumbersAgree, is_owed, Answered, InCoordinating, IsReported, AgreesOnLast, AgreesOnOther, Known, InLost, InPhase, Waits, Owes, IsAttempt, IsDone}
use Rattle.dr_laws_attempts.specs.Orders.{OnServer, IsDoneFor}
use Rattle.dr_facts.proofs.Tables.{IsOrNot}
use Rattle.dr_facts.proofs.Lists.{in-first, in-second, in-joined, from-filter, any-some}
use Rattle.dr_laws_sessions.proofs.Sound.{among-without}
use Rattle.dr_laws_attempts.proofs.Facts.{all_by, any_all, apart-none, committed-parts, is-committed, not-committed, counts-member, member-counts, rev-counts, shown-plain, none-some}
use Rattle.dr_laws_attempts.proofs.Reports.{as-reported, commit-tells, commit-holds}
use Rattle.dr_logic.proofs.Truth.{false_true}

-- a master's session, where n is its last number
abbrev pub AttemptBy : ℕ → List Seen → phases.Master → Type 0
AttemptBy n vs m = IsAttempt m.phase n m.owed m.reports vs

-- the master's servers are those of the members
pub record Serves (servers : List ℕ) (vs : List Seen) : Type 0 where
  pub each : All (λ v. is_owed servers v ≡ true) vs
  pub members : (s : ℕ) → In s servers → Any (λ v. v.server ≡ s) vs

-- ---- Idle

pub idle-none : (p : PhaseName) (n : ℕ) (owed : List ℕ) (reports : List Shown) (vs : List Seen) → p ≡ phase.Idle → IsAttempt p n owed reports vs → NoneRevertible vs
idle-none p n owed reports vs e law = subst (λ q. InPhase q n owed reports vs) e law.phase

pub idle-attempt : (p : PhaseName) (n : ℕ) (owed : List ℕ) (reports : List Shown) (vs : List Seen) → p ≡ phase.Idle → NumbersAgree n vs → Follows n vs → NoneRevertible vs → IsAttempt p n owed reports vs
idle-attempt p n owed reports vs e numbers follows none = record {
  numbers = numbers;
  follows = follows;
  phase = subst (λ q. InPhase q n owed reports vs) (sym e) none;
  owes = subst (λ q. Owes q owed vs) (sym e) tt;
}

-- ---- a phase begins

module _ (n : ℕ) (vs : List Seen) (numbers : NumbersAgree n vs) (follows : Follows n vs) (servers : List ℕ) (serves : Serves servers vs) where
  -- of what nobody has answered
  fresh : (P : Seen → Type 0) → Answered servers P vs
  fresh P u h o = false_true o (serves.each u h)

  waits : (v : Seen) → In v vs → Waits servers vs
  waits v here = record { some = some servers (serves.each v here); members = serves.members }
    where
      some : (ks : List ℕ) → is_owed ks v ≡ true → ks ≢ []
      some [] o e = absurd cc
      some (k ∷ ks) o e = absurd cc

  owes-first : (q : PhaseName) (v : Seen) → In v vs → Owes q (phases.owed_first q servers) vs
  owes-first phase.None v here = tt
  owes-first phase.Idle v here = tt
  owes-first q v here = waits v here

  -- nothing was reported yet
  pub lost-begins : InLost n servers [] vs
  lost-begins = record {
    last = λ k h. absurd h;
    agrees = by numbers.none numbers.some;
    known = λ u h c. inr (inr (record { one = u; here = h; is = (c, serves.each u h) }));
    told = λ u h o r. fresh (λ u. IsReported n true []) u h o;
    after = λ h. absurd h;
  }
    where
      by : SomeCommitted n vs ⊎ OneShown n vs → NoneCommitted n vs ⊎ AllAt n vs → AgreesOnLast n [] vs ⊎ AgreesOnOther n [] vs
      by (inr one) d = inr (record { shown = one; told = λ k h. absurd h })
      by (inl had) (inl none) = none-some n vs none had
      by (inl had) (inr all) = inl (record { told = λ k h. absurd h; all = all; settled = inl had })

  abbrev Begins : PhaseName → Type 0
  Begins q = InPhase q n (phases.owed_first q servers) [] vs

  pub enters : (q : PhaseName) (m : phases.Master) → m.servers ≡ servers → Begins q → (v : Seen) → In v vs → AttemptBy n vs (phases.enters q m)
  enters q m is law v here = record {
    numbers = numbers;
    follows = follows;
    phase = subst (λ ks. InPhase q n (phases.owed_first q ks) [] vs) (sym is) law;
    owes = subst (λ ks. Owes q (phases.owed_first q ks) vs) (sym is) (owes-first q v here);
  }

  -- ---- aborted

  pub aborts-to : (p q : PhaseName) (owed : List ℕ) (reports : List Shown) → phases.aborted_phase p ≡ Some q → InPhase p n owed reports vs → Begins q
  aborts-to phase.Coordinating phase.Finishing owed reports e h = record { unflashed = h.before.unflashed; done = fresh _ }
  aborts-to phase.Releasing phase.Finishing owed reports e h = record { unflashed = h.before.unflashed; done = fresh _ }
  aborts-to phase.Draining phase.Finishing owed reports e h = record { unflashed = h.before.unflashed; done = fresh _ }
  aborts-to phase.Flashing phase.Reverting owed reports e h = record { way = inl h.uncommitted; done = fresh _ }
  aborts-to phase.Committing phase.Lost owed reports e h = lost-begins
  aborts-to p q owed reports e h = absurd cc

  one-owed : (ks : List ℕ) → Waits ks vs → Any (λ v. is_owed ks v ≡ true) vs
  one-owed [] w = absurd (w.some refl)
  one-owed (k ∷ ks) w = let a = w.members k (inl refl) in record { one = a.one; here = a.here; is = any-some (λ q. q == a.one.server) (k ∷ ks) k (inl refl) (eq-eqb k a.one.server (sym a.is)) }

  aborts-one : (p q : PhaseName) (owed : List ℕ) → phases.aborted_phase p ≡ Some q → Owes p owed vs → Any (λ v. is_owed owed v ≡ true) vs
  aborts-one phase.None q owed e h = absurd cc
  aborts-one phase.Idle q owed e h = absurd cc
  aborts-one p q owed e h = one-owed owed h

  pub aborts : (m : phases.Master) → m.servers ≡ servers → AttemptBy n vs m → AttemptBy n vs (phases.aborted m)
  aborts m is law = by (phases.aborted_phase m.phase) refl
    where
      by : (o : Option PhaseName) → phases.aborted_phase m.phase ≡ o → AttemptBy n vs (phases.enters_some o m)
      by None e = law
      by (Some q) e = let a = aborts-one m.phase q m.owed e law.owes in enters q m is (aborts-to m.phase q m.owed m.reports e law.phase) a.one a.here

  -- ---- lost

  pub loses : (m : phases.Master) → m.servers ≡ servers → AttemptBy n vs (phases.lost m)
  loses m is = by m.servers is
    where
      by : (ks : List ℕ) → ks ≡ servers → IsAttempt (phases.phase_lost ks) n (phases.owed_first (phases.phase_lost ks) ks) [] vs
      by [] e = record { numbers = numbers; follows = follows; phase = λ u h. let none : false ≡ true = subst (λ ks. is_owed ks u ≡ true) (sym e) (serves.each u h) in absurd cc; owes = tt }
      by (k ∷ ks) e = record {
        numbers = numbers;
        follows = follows;
        phase = subst (λ ks. InLost n ks [] vs) (sym e) lost-begins;
        owes = record { some = λ f. cc; members = λ s i. serves.members s (subst (In s) e i) };
      }

  -- ---- a server has done its order

  flash-settles : Barred n vs ⊎ Answered [] (λ u. u.revertible ≡ true) vs → AllAt n vs ⊎ Blocked vs
  flash-settles (inl bar) = inr (λ u h. (bar u h).taken)
  flash-settles (inr rev) = inl (λ u h c. (numbers.each u h).last (rev u h refl))

  -- no server is left that is owed
  pub next : (p : PhaseName) (reports : List Shown) → InPhase p n [] reports vs → Begins (phases.next_phase p)
  next phase.None reports h = h
  next phase.Idle reports h = h
  next phase.Coordinating reports h = record { before = h.before; held = λ u i. h.held u i refl }
  next phase.Releasing reports h = h
  next phase.Draining reports h = record { positive = h.before.positive; uncommitted = h.before.uncommitted; held = h.held; done = inr (fresh _); flashed = fresh _ }
  next phase.Flashing reports h = record { way = flash-settles h.done; held = h.held; flashed = λ u i. h.flashed u i refl; done = fresh _ }
  next phase.Committing reports h = record { unflashed = λ u i. h.done u i refl; done = fresh _ }
  next phase.Reverting reports h = record { unflashed = λ u i. (h.done u i refl).0; done = fresh _ }
  next phase.Finishing reports h = h.unflashed
  next phase.Lost reports h = lost-begins

  owes-next : (p : PhaseName) (owed : List ℕ) → Owes p owed vs → Owes (phases.next_phase p) (phases.owed_first (phases.next_phase p) servers) vs
  owes-next phase.None owed h = tt
  owes-next phase.Idle owed h = tt
  owes-next p owed h = let a = one-owed owed h in owes-first (phases.next_phase p) a.one a.here

  module _ (server : ℕ) where
    -- what holds of each that had answered, and of the server's, holds of each that has answered now
    on-now : (owed : List ℕ) (P : Seen → Type 0) → ((u : Seen) → In u vs → u.server ≡ server → P u) → Answered owed P vs → Answered (phases.without server owed) P vs
    on-now owed P new old u h o = by (eqb_tells u.server server)
      where
        by : IsOrNot u.server server → P u
        by (inl is) = new u h is.1
        by (inr other) = old u h (sym (among-without u.server server owed other.1) ∙ o)

    abbrev pub DoneBy : PhaseName → Type 0
    DoneBy p = (work : phases.Work) → phases.work_in p ≡ Some work → All (λ u. u.server ≡ server → IsDone work n u) vs

    -- which leaves of them what is asked of each phase
    pub done-has : (p : PhaseName) → DoneBy p → IsDoneFor p n server vs
    done-has phase.None done = tt
    done-has phase.Idle done = tt
    done-has phase.Coordinating done = done phases.Hold refl
    done-has phase.Releasing done = tt
    done-has phase.Draining done = tt
    done-has phase.Flashing done = (inr (done phases.Flash refl), λ u i s. inl (done phases.Flash refl u i s))
    done-has phase.Committing done = done phases.Commit refl
    done-has phase.Reverting done = done phases.Revert refl
    done-has phase.Finishing done = done phases.Finish refl
    done-has phase.Lost done = done phases.Report refl

    pub stays : (p : PhaseName) (owed : List ℕ) (reports : List Shown) → IsDoneFor p n server vs → InPhase p n owed reports vs → InPhase p n (phases.without server owed) reports vs
    stays phase.None owed reports has h = h
    stays phase.Idle owed reports has h = h
    stays phase.Coordinating owed reports has h = record { before = h.before; unsealed = h.unsealed; held = on-now owed _ has h.held }
    stays phase.Releasing owed reports has h = h
    stays phase.Draining owed reports has h = h
    stays phase.Flashing owed reports has h = record { positive = h.positive; uncommitted = h.uncommitted; held = h.held; done = by h.done has.0; flashed = on-now owed (WasFlashed n) has.1 h.flashed }
      where
        by : Barred n vs ⊎ Answered owed (λ u. u.revertible ≡ true) vs → Barred n vs ⊎ OnServer server (λ u. u.revertible ≡ true) vs → Barred n vs ⊎ Answered (phases.without server owed) (λ u. u.revertible ≡ true) vs
        by (inl bar) new = inl bar
        by (inr rev) (inl bar) = inl bar
        by (inr rev) (inr new) = inr (on-now owed _ new rev)
    stays phase.Committing owed reports has h = record { way = h.way; held = h.held; flashed = h.flashed; done = on-now owed _ has h.done }
    stays phase.Reverting owed reports has h = record { way = h.way; done = on-now owed _ has h.done }
    stays phase.Finishing owed reports has h = record { unflashed = h.unflashed; done = on-now owed _ has h.done }
    stays phase.Lost owed reports has h = record { last = h.last; agrees = h.agrees; known = λ u i c. by (h.known u i c); told = on-now owed _ (λ u i s. absurd (has u i s)) h.told; after = h.after }
      where
        by : Known n owed reports vs → Known n (phases.without server owed) reports vs
        by (inl none) = inl none
        by (inr (inl told)) = inr (inl told)
        by (inr (inr w)) = inr (inr (record { one = w.one; here = w.here; is = (w.is.0, among-without w.one.server server owed (λ e. has w.one w.here e) ∙ w.is.1) }))

    waits-still : (owed rest : List ℕ) → phases.without server owed ≡ rest → (rest ≡ [] → ⊥) → Waits owed vs → Waits rest vs
    waits-still owed rest e some w = record { some = some; members = λ s i. w.members s (from-filter _ owed s (subst (In s) (sym e) i)).0 }

    owes-still : (p : PhaseName) (owed rest : List ℕ) → phases.without server owed ≡ rest → (rest ≡ [] → ⊥) → Owes p owed vs → Owes p rest vs
    owes-still phase.None owed rest e some h = tt
    owes-still phase.Idle owed rest e some h = tt
    owes-still p owed rest e some h = waits-still owed rest e some h

    -- where the attempt is as its phase says without the server
    pub done-after : (m : phases.Master) → m.servers ≡ servers → InPhase m.phase n (phases.without server m.owed) m.reports vs → AttemptBy n vs m → AttemptBy n vs (phases.replied m server phases.Done)
    done-after m is now law = by (phases.without server m.owed) refl
      where
        by : (rest : List ℕ) → phases.without server m.owed ≡ rest → AttemptBy n vs (phases.left_with m rest)
        by [] e = record {
          numbers = numbers;
          follows = follows;
          phase = subst (λ ks. InPhase (phases.next_phase m.phase) n (phases.owed_first (phases.next_phase m.phase) ks) [] vs) (sym is)
              (next m.phase m.reports (subst (λ ks. InPhase m.phase n ks m.reports vs) e now));
          owes = subst (λ ks. Owes (phases.next_phase m.phase) (phases.owed_first (phases.next_phase m.phase) ks) vs) (sym is) (owes-next m.phase m.owed law.owes);
        }
        by (k ∷ ks) e = record {
          numbers = numbers;
          follows = follows;
          phase = subst (λ ks. InPhase m.phase n ks m.reports vs) e now;
          owes = owes-still m.phase m.owed (k ∷ ks) e (λ f. cc) law.owes;
        }

    pub done : (m : phases.Master) → m.servers ≡ servers → IsDoneFor m.phase n server vs → AttemptBy n vs m → AttemptBy n vs (phases.replied m server phases.Done)
    done m is has law = done-after m is (stays m.phase m.owed m.reports has law.phase) law

    -- ---- a server reports

    -- what a server reports: each of its targets that count, and nothing else
    pub record Teller (r : Shown) : Type 0 where
      pub seen : Seen
      pub here : In seen vs
      pub counted : counts seen ≡ true
      pub is : r ≡ record { sequence = seen.sequence; revertible = seen.revertible }

    pub record Tells (xs : List Shown) : Type 0 where
      pub from : (r : Shown) → In r xs → Teller r
      pub all : (u : Seen) → In u vs → u.server ≡ server → counts u ≡ true → In (record { sequence = u.sequence; revertible = u.revertible }) xs

    module _ (owed : List ℕ) (reports xs : List Shown) (tells : Tells xs) (h : InLost n owed reports vs) where
      abbrev now : List Shown
      now = reports ++ xs

      last-by : (k : ℕ) → IsReported k true reports ⊎ IsReported k true xs → k ≡ n
      last-by k (inl old) = h.last k old
      last-by k (inr new) = let t = tells.from (record { sequence = k; revertible = true }) new in ap (λ (r : Shown). r.sequence) t.is ∙ (numbers.each t.seen t.here).last (sym (ap (λ (r : Shown). r.revertible) t.is))

      agrees-last : AgreesOnLast n reports vs → (k : ℕ) → IsReported k false reports ⊎ IsReported k false xs → k ≡ n
      agrees-last l k (inl old) = l.told k old
      agrees-last l k (inr new) = let t = tells.from (record { sequence = k; revertible = false }) new in ap (λ (r : Shown). r.sequence) t.is ∙ l.all t.seen t.here t.counted

      agrees-other : (o : AgreesOnOther n reports vs) → (k : ℕ) → IsReported k false reports ⊎ IsReported k false xs → k ≡ o.shown.number
      agrees-other o k (inl old) = o.told k old
      agrees-other o k (inr new) =
          let t = tells.from (record { sequence = k; revertible = false }) new in
          let plain : t.seen.revertible ≡ false = sym (ap (λ (r : Shown). r.revertible) t.is) in
          ap (λ (r : Shown). r.sequence) t.is ∙ (sym (shown-plain t.seen plain) ∙ o.shown.same t.seen t.here (counts-member t.seen t.counted plain))

      agrees-by : AgreesOnLast n reports vs ⊎ AgreesOnOther n reports vs → AgreesOnLast n now vs ⊎ AgreesOnOther n now vs
      agrees-by (inl l) = inl (record { told = λ k i. agrees-last l k (in-joined reports xs _ i); all = l.all; settled = l.settled })
      agrees-by (inr o) = inr (record { shown = o.shown; told = λ k i. agrees-other o k (in-joined reports xs _ i) })

      known-by : Known n owed reports vs → Known n (phases.without server owed) now vs
      known-by (inl none) = inl none
      known-by (inr (inl told)) = inr (inl (in-first reports xs _ told))
      known-by (inr (inr w)) = by (eqb_tells w.one.server server)
        where
          by : IsOrNot w.one.server server → Known n (phases.without server owed) now vs
          by (inl is) = let c = committed-parts n w.one w.is.0 in
              inr (inl (in-second reports xs _ (as-reported xs (record { sequence = w.one.sequence; revertible = w.one.revertible }) n false (tells.all w.one w.here is.1 (member-counts w.one c.member)) c.numbered c.plain)))
          by (inr other) = inr (inr (record { one = w.one; here = w.here; is = (w.is.0, among-without w.one.server server owed other.1 ∙ w.is.1) }))

      -- what isn't revertible and is reported with n is committed
      told-after : IsReported n false xs → AllHeld n vs × AllFlashed n vs
      told-after new =
          let t = tells.from (record { sequence = n; revertible = false }) new in
          let plain : t.seen.revertible ≡ false = sym (ap (λ (r : Shown). r.revertible) t.is) in
          follows.settled t.seen t.here (is-committed n t.seen (counts-member t.seen t.counted plain) plain (sym (ap (λ (r : Shown). r.sequence) t.is)))

      after-by : IsReported n false reports ⊎ IsReported n false xs → AllHeld n vs × AllFlashed n vs
      after-by (inl old) = h.after old
      after-by (inr new) = told-after new

      pub tells-on : InLost n (phases.without server owed) now vs
      tells-on = record {
        last = λ k i. last-by k (in-joined reports xs _ i);
        agrees = agrees-by h.agrees;
        known = λ u i c. known-by (h.known u i c);
        told = on-now owed _ (λ u i s r. in-second reports xs _ (as-reported xs (record { sequence = u.sequence; revertible = u.revertible }) n true (tells.all u i s (rev-counts u r)) ((numbers.each u i).last r) r)) (λ u i o r. in-first reports xs _ (h.told u i o r));
        after = λ i. after-by (in-joined reports xs _ i);
      }

    -- after the last report the master settles
    module _ (reports : List Shown) (h : InLost n [] reports vs) where
      commit-way : (k : ℕ) → decision reports ≡ CommitRest k → AgreesOnLast n reports vs ⊎ AgreesOnOther n reports vs → AllAt n vs ⊎ Blocked vs
      commit-way k e (inl l) = inl l.all
      commit-way k e (inr o) = let both = commit-tells reports k e in absurd (o.shown.apart (sym (o.told k both.1) ∙ h.last k both.0))

      revert-way : ((k : ℕ) → decision reports ≡ CommitRest k → ⊥) → AgreesOnLast n reports vs ⊎ AgreesOnOther n reports vs → NoneCommitted n vs ⊎ NoneRevertible vs
      revert-way never (inr o) = inl (λ u i. apart-none n u (λ m e. o.shown.apart (sym (o.shown.same u i m) ∙ e)))
      revert-way never (inl l) = by l.settled
        where
          told-by : IsReported n false reports → Any (λ u. u.revertible ≡ true) vs ⊎ NoneRevertible vs → NoneCommitted n vs ⊎ NoneRevertible vs
          told-by told (inr none) = inr none
          told-by told (inl rev) = absurd (never n (commit-holds reports n (h.told rev.one rev.here refl rev.is) told h.last l.told))

          known : Known n [] reports vs → NoneCommitted n vs ⊎ NoneRevertible vs
          known (inl none) = inr none
          known (inr (inl told)) = told-by told (any_all (λ u. u.revertible) vs)
          known (inr (inr w)) = let o : false ≡ true = w.is.1 in absurd cc

          by : SomeCommitted n vs ⊎ NoneRevertible vs → NoneCommitted n vs ⊎ NoneRevertible vs
          by (inl had) = known (h.known had.one had.here had.is)
          by (inr none) = inr none

      pub settles : (d : Decision) → decision reports ≡ d → Begins (phases.phase_by d)
      settles (CommitRest k) e =
          let both = commit-tells reports k e in
          let a = h.after (subst (λ k. IsReported k false reports) (h.last k both.0) both.1) in
          record { way = commit-way k e h.agrees; held = a.0; flashed = a.1; done = fresh _ }
      settles d e = record { way = revert-way (λ k f. let g = sym e ∙ f in absurd cc) h.agrees; done = fresh _ }

    -- whatever it reports, where that fits
    pub told : (m : phases.Master) (xs : List Shown) → m.servers ≡ servers → m.phase ≡ phase.Lost → InLost n (phases.without server m.owed) (m.reports ++ xs) vs → AttemptBy n vs m → AttemptBy n vs (phases.taken m server (phases.Reported xs))
    told m xs is lost now-lost law = by (phases.without server m.owed) refl
      where
        waited : Waits m.owed vs
        waited = subst (λ q. Owes q m.owed vs) lost law.owes

        by : (rest : List ℕ) → phases.without server m.owed ≡ rest → AttemptBy n vs (phases.settled_where rest (phases.replied m server (phases.Reported xs)))
        by [] e = let a = one-owed m.owed waited in
            enters (phases.phase_by (decision (m.reports ++ xs))) (phases.replied m server (phases.Reported xs)) is (settles (m.reports ++ xs) (subst (λ ks. InLost n ks (m.reports ++ xs) vs) e now-lost) (decision (m.reports ++ xs)) refl) a.one a.here
        by (k ∷ ks) e = record {
          numbers = numbers;
          follows = follows;
          phase = subst (λ q. InPhase q n (phases.without server m.owed) (m.reports ++ xs) vs) (sym lost) now-lost;
          owes = subst (λ q. Owes q (phases.without server m.owed) vs) (sym lost) (waits-still m.owed (phases.without server m.owed) refl (λ f. let g = sym e ∙ f in cc) waited);
        }

    -- what its members show
    pub reported : (m : phases.Master) (xs : List Shown) → m.servers ≡ servers → m.phase ≡ phase.Lost → Tells xs → AttemptBy n vs m → AttemptBy n vs (phases.taken m server (phases.Reported xs))
    reported m xs is lost tells law = told m xs is lost (tells-on m.owed m.reports xs tells (subst (λ q. InPhase q n m.owed m.reports vs) lost law.phase)) law

-- ---- an attempt begins, the last number is raised

module _ (n : ℕ) (vs : List Seen) (numbers : NumbersAgree n vs) (plain : NoneRevertible vs) (silent : All (λ u. u.recording ≡ false) vs) where
  module _ (q : ℕ) (later : n < q) where
    later-each : All (Numbered q) vs
    later-each u h = let r = numbers.each u h in record {
      attempt = let low : u.attempt ≤ n = r.attempt in omega arith;
      seal = let low : u.seal ≤ n = r.seal in omega arith;
      floor = let low : u.floor ≤ n = r.floor in omega arith;
      sequence = λ c. let low : u.sequence ≤ n = r.sequence c in omega arith;
      last = λ t. false_true (plain u h) t;
      above = λ t. false_true (plain u h) t;
      reached = r.reached;
    }

    later-none : NoneCommitted q vs
    later-none u h = not-committed q u (λ m p e. let low : u.sequence ≤ n = (numbers.each u h).sequence (member-counts u m) in omega arith)

    -- what the members show is no later than the last number
    shows-one : (one : OneShown n vs) → IsOrNot one.number q → OneShown q vs
    shows-one one (inr other) = record { number = one.number; apart = other.1; same = one.same }
    shows-one one (inl is) = record {
      number = n;
      apart = λ e. omega arith;
      same = λ u h m.
          let s : number_shown u ≡ one.number = one.same u h m in
          let f : number_shown u ≤ u.floor = (numbers.each u h).reached m in
          let l : u.floor ≤ n = (numbers.each u h).floor in
          let i : one.number ≡ q = is.1 in
          absurd (omega arith);
    }

    later-one : SomeCommitted n vs ⊎ OneShown n vs → NoneCommitted n vs ⊎ AllAt n vs → OneShown q vs
    later-one (inr one) d = shows-one one (eqb_tells one.number q)
    later-one (inl had) (inl none) = none-some n vs none had
    later-one (inl had) (inr all) = record { number = n; apart = λ e. omega arith; same = λ u h m. shown-plain u (plain u h) ∙ all u h (member-counts u m) }

    pub later-numbers : NumbersAgree q vs
    later-numbers = record { each = later-each; some = inl later-none; none = inr (later-one numbers.none numbers.some) }

    pub later-follows : Follows q vs
    later-follows = record {
      free = λ u h r. false_true (silent u h) r;
      turned = λ u h r. false_true (plain u h) r;
      settled = λ u h c. false_true (later-none u h) c;
      sealed = λ u h to is. let low : u.seal ≤ n = (numbers.each u h).seal in let same : u.seal ≡ q = is in absurd (omega arith);
    }

  pub raised-numbers : (q : ℕ) → n ≤ q → NumbersAgree q vs
  raised-numbers q up = by (eqb_tells n q)
    where
      by : IsOrNot n q → NumbersAgree q vs
      by (inl is) = subst (λ q. NumbersAgree q vs) is.1 numbers
      by (inr other) = later-numbers q (let d : n ≢ q = other.1 in omega arith)

  pub raised-follows : Follows n vs → (q : ℕ) → n ≤ q → Follows q vs
  raised-follows follows q up = by (eqb_tells n q)
    where
      by : IsOrNot n q → Follows q vs
      by (inl is) = subst (λ q. Follows q vs) is.1 follows
      by (inr other) = later-follows q (let d : n ≢ q = other.1 in omega arith)

  pub coordinates : (servers : List ℕ) → Serves servers vs → InCoordinating (n + 1) servers vs
  coordinates servers serves = record {
    before = record { positive = omega arith; unflashed = plain; uncommitted = later-none (n + 1) (omega arith) };
    unsealed = λ u h e. let low : u.seal ≤ n = (numbers.each u h).seal in omega arith;
    held = λ u h o. false_true o (serves.each u h);
  }

  pub opens : (servers : List ℕ) → Serves servers vs → (v : Seen) → In v vs → IsAttempt phase.Coordinating (n + 1) servers [] vs
  opens servers serves v here = record {
    numbers = later-numbers (n + 1) (omega arith);
    follows = later-follows (n + 1) (omega arith);
    phase = coordinates servers serves;
    owes = waits (n + 1) vs (later-numbers (n + 1) (omega arith)) (later-follows (n + 1) (omega arith)) servers serves v here;
  }

-- ---- a member more, or less

pub record Comes (n : ℕ) (w : Seen) : Type 0 where
  pub plain : counts w ≡ false
  pub silent : w.recording ≡ false
  pub held : n ≤ w.attempt
  pub past : n ≤ w.floor
  pub attempt : w.attempt ≤ n
  pub seal : w.seal ≤ n
  pub floor : w.floor ≤ n

module _ (n : ℕ) (vs : List Seen) (numbers : NumbersAgree n vs) (us : List Seen) where
  pub more-numbers : (w : Seen) → ((u : Seen) → In u us → (u ≡ w) ⊎ In u vs) → ((u : Seen) → In u vs → In u us) → Comes n w → NumbersAgree n us
  more-numbers w back onto c = record {
    each = λ u h. all_by (Numbered n) vs w u (back u h) here numbers.each;
    some = some-by numbers.some;
    none = none-by numbers.none;
  }
    where
      here : Numbered n w
      here = record { attempt = c.attempt; seal = c.seal; floor = c.floor; sequence = λ h. false_true c.plain h; last = λ r. false_true c.plain (rev-counts w r); above = λ r. false_true c.plain (rev-counts w r); reached = λ m. false_true c.plain (member-counts w m) }

      some-by : NoneCommitted n vs ⊎ AllAt n vs → NoneCommitted n us ⊎ AllAt n us
      some-by (inl none) = inl (λ u h. all_by (λ u. committed n u ≡ false) vs w u (back u h) (not-committed n w (λ m p e. false_true c.plain (member-counts w m))) none)
      some-by (inr all) = inr (λ u h. all_by (λ u. counts u ≡ true → u.sequence ≡ n) vs w u (back u h) (λ k. false_true c.plain k) all)

      none-by : SomeCommitted n vs ⊎ OneShown n vs → SomeCommitted n us ⊎ OneShown n us
      none-by (inl had) = inl (record { one = had.one; here = onto had.one had.here; is = had.is })
      none-by (inr one) = inr (record { number = one.number; apart = one.apart; same = λ u h. all_by (λ u. u.member ≡ true → number_shown u ≡ one.number) vs w u (back u h) (λ m. false_true c.plain (member-counts w m)) one.same })

  -- a member that comes has been held for n, and its target is past n
  pub more-follows : (w : Seen) → ((u : Seen) → In u us → (u ≡ w) ⊎ In u vs) → Comes n w → Follows n vs → Follows n us
  more-follows w back c follows = record {
    free = λ u h. all_by (λ u. u.recording ≡ true → u.held ≡ false → AllHeld n us) vs w u (back u h) (λ r. false_true c.silent r) (λ u i r f. held (follows.free u i r f));
    turned = λ u h. all_by (λ u. u.revertible ≡ true → AllHeld n us) vs w u (back u h) (λ r. false_true c.plain (rev-counts w r)) (λ u i r. held (follows.turned u i r));
    settled = λ u h. all_by (λ u. committed n u ≡ true → AllHeld n us × AllFlashed n us) vs w u (back u h) (λ k. false_true c.plain (member-counts w (committed-parts n w k).member)) (λ u i k. let s = follows.settled u i k in (held s.0, flashed s.1));
    sealed = λ u h. all_by (λ u. u.paired ≡ true → u.seal ≡ n → n ≤ u.attempt) vs w u (back u h) (λ to is. c.held) follows.sealed;
  }
    where
      held : AllHeld n vs → AllHeld n us
      held all u h = all_by (λ u. n ≤ u.attempt) vs w u (back u h) c.held all

      flashed : AllFlashed n vs → AllFlashed n us
      flashed all u h = all_by (WasFlashed n) vs w u (back u h) (inr c.past) all

  pub fewer-follows : ((u : Seen) → In u us → In u vs) → Follows n vs → Follows n us
  fewer-follows sub follows = record {
    free = λ u h r f x i. follows.free u (sub u h) r f x (sub x i);
    turned = λ u h r x i. follows.turned u (sub u h) r x (sub x i);
    settled = λ u h k. let s = follows.settled u (sub u h) k in (λ x i. s.0 x (sub x i), λ x i. s.1 x (sub x i));
    sealed = λ u h. follows.sealed u (sub u h);
  }

  pub fewer-numbers : ((u : Seen) → In u us → In u vs) → ((u : Seen) → In u vs → counts u ≡ true → In u us) → NumbersAgree n us
  fewer-numbers sub keep = record { each = λ u h. numbers.each u (sub u h); some = some-by numbers.some; none = none-by numbers.none }
    where
      some-by : NoneCommitted n vs ⊎ AllAt n vs → NoneCommitted n us ⊎ AllAt n us
      some-by (inl none) = inl (λ u h. none u (sub u h))
      some-by (inr all) = inr (λ u h. all u (sub u h))

      none-by : SomeCommitted n vs ⊎ OneShown n vs → SomeCommitted n us ⊎ OneShown n us
      none-by (inl had) = inl (record { one = had.one; here = keep had.one had.here (member-counts had.one (committed-parts n had.one had.is).member); is = had.is })
      none-by (inr one) = inr (record { number = one.number; apart = one.apart; same = λ u h. one.same u (sub u h) })
