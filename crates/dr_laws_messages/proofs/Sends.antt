-- What the messages in flight say stays where an order is sent that is owed, and where a server replies.
use Rattle.std.proofs.Common.{ℕ, ◌≡◌, ◌≢◌, ◌≤◌, ◌<◌, ◌+◌, ◌⊎◌, inl, inr, refl, ap, sym, ◌∙◌, true, false, arith, List, [], ◌∷◌, subst, Some}
use Rattle.std.proofs.lemmas.Bool.Decides.{eqb_tells}
use Rattle.dr_ids.specs.declared.refusal.PhaseName.{PhaseName}
use Rattle.dr_ids.specs.declared.refusal.PhaseName.TheVariants as phase
use Rattle.dr_model.specs.Decisions.{Shown}
use Rattle.dr_model.specs.Phases as phases
use Rattle.dr_model.specs.Messages.{Flight, Message, Asks, sent}
use Rattle.dr_model.specs.Groups.{In, IsOrder, IsOrderFor}
use Rattle.dr_model.specs.Attempts.{Seen, All, Any, NoneRevertible, NoneCommitted, AllAt, Blocked, AllHeld, AllFlashed, IsReported, InPhase}
use Rattle.dr_model.specs.Flights.{IsForAttempt, may_have_sent, IsKnown, IsSentSoFar, IsFenced, IsQuiet, IsPast, ComesAfterHolds, HasServer, IsThreat, IsOutdated, HasAnswer, IsAwaited, MayTake, shown_in, FlightFits}
use Rattle.dr_facts.proofs.Tables.{IsOrNot}
use Rattle.dr_facts.proofs.Lists.{in-joined}
use Rattle.dr_laws_attempts.proofs.Dues.{commits, reverts}
use Rattle.dr_laws_messages.proofs.Tables.{Aside}
use Rattle.dr_laws_messages.proofs.Turned.{committing-in, reverting-in}
use Rattle.dr_logic.proofs.Truth.{false_true}

-- ---- what a phase's own order is

-- the work that a phase asks for may be sent
own-sent : (p : PhaseName) (w : phases.Work) → phases.work_in p ≡ Some w → may_have_sent p w ≡ true
own-sent phase.Coordinating phases.Hold e = refl
own-sent phase.Releasing phases.Release e = refl
own-sent phase.Draining phases.Seal e = refl
own-sent phase.Flashing phases.Flash e = refl
own-sent phase.Committing phases.Commit e = refl
own-sent phase.Reverting phases.Revert e = refl
own-sent phase.Finishing phases.Finish e = refl
own-sent phase.Lost phases.Report e = refl
own-sent p w e = absurd cc

module _ (n : ℕ) (owed : List ℕ) (reports : List Shown) (vs : List Seen) where
  own-positive : (p : PhaseName) (w : phases.Work) → phases.work_in p ≡ Some w → InPhase p n owed reports vs → IsForAttempt w → 0 < n
  own-positive phase.Coordinating phases.Hold e h asked = h.before.positive
  own-positive phase.Releasing phases.Release e h asked = h.before.positive
  own-positive phase.Draining phases.Seal e h asked = h.before.positive
  own-positive phase.Flashing phases.Flash e h asked = h.positive
  own-positive phase.Committing phases.Commit e h asked = absurd asked
  own-positive phase.Reverting phases.Revert e h asked = absurd asked
  own-positive phase.Finishing phases.Finish e h asked = absurd asked
  own-positive phase.Lost phases.Report e h asked = absurd asked
  own-positive p w e h asked = absurd cc

  own-held : (p : PhaseName) (w : phases.Work) → phases.work_in p ≡ Some w → InPhase p n owed reports vs → ComesAfterHolds w → AllHeld n vs
  own-held phase.Releasing phases.Release e h late = h.held
  own-held phase.Draining phases.Seal e h late = h.held
  own-held phase.Flashing phases.Flash e h late = h.held
  own-held phase.Committing phases.Commit e h late = h.held
  own-held phase.Coordinating phases.Hold e h late = absurd late
  own-held phase.Reverting phases.Revert e h late = absurd late
  own-held phase.Finishing phases.Finish e h late = absurd late
  own-held phase.Lost phases.Report e h late = absurd late
  own-held p w e h late = absurd cc

-- it has begun, and a flash that it asks for isn't past
own-busy : (p : PhaseName) (w : phases.Work) → phases.work_in p ≡ Some w → IsQuiet p → ⊥
own-busy phase.Idle w e q = absurd cc
own-busy phase.None w e q = absurd cc
own-busy p w e q = q

own-flash : (p : PhaseName) (k n : ℕ) → phases.work_in p ≡ Some phases.Flash → IsPast p k n → k < n
own-flash phase.Flashing k n e (inl less) = less
own-flash phase.Flashing k n e (inr q) = absurd q
own-flash p k n e past = absurd cc

pub own-lost : (p : PhaseName) (w : phases.Work) → p ≡ phase.Lost → phases.work_in p ≡ Some w → w ≡ phases.Report
own-lost phase.Lost phases.Report e a = refl
own-lost phase.Lost w e a = absurd cc
own-lost p w e a = absurd cc

-- ---- one message more

-- an order that is sent
abbrev pub order_sent : ℕ → ℕ → phases.Order → Flight → Message
order_sent s server o f = record { number = f.made + 1; session = s; epoch = f.epoch s; server = server; order = o; body = Asks (f.starts server) }

module _ (f : Flight) (s server : ℕ) (o : phases.Order) where
  abbrev g : Flight
  g = sent s server o f

  abbrev new : Message
  new = order_sent s server o f

  message-or : (m : Message) → In m g.messages → In m f.messages ⊎ (m ≡ new)
  message-or m h = by (in-joined f.messages (new ∷ []) m h)
    where
      by : In m f.messages ⊎ In m (new ∷ []) → In m f.messages ⊎ (m ≡ new)
      by (inl old) = inl old
      by (inr (inl is)) = inr is
      by (inr (inr never)) = absurd never

  pub order-or : (t : ℕ) (m : Message) → IsOrder g t m → IsOrder f t m ⊎ (m ≡ new)
  order-or t m r = by (message-or m r.here)
    where
      by : In m f.messages ⊎ (m ≡ new) → IsOrder f t m ⊎ (m ≡ new)
      by (inl old) = inl (record { here = old; session = r.session; starts = r.starts; asks = r.asks })
      by (inr is) = inr is

  -- it is the new one, with its work and number
  record IsNew (work : phases.Work) (k : ℕ) (m : Message) : Type 0 where
    is : m ≡ new
    works : o.work ≡ work
    number : o.number ≡ k

  for-or : (t : ℕ) (work : phases.Work) (k : ℕ) (m : Message) → IsOrderFor g t work k m → IsOrderFor f t work k m ⊎ IsNew work k m
  for-or t work k m r = by (order-or t m r.order)
    where
      by : IsOrder f t m ⊎ (m ≡ new) → IsOrderFor f t work k m ⊎ IsNew work k m
      by (inl old) = inl (record { order = old; works = r.works; number = r.number })
      by (inr is) = inr (record { is = is; works = sym (λ i. (is i).order.work) ∙ r.works; number = sym (λ i. (is i).order.number) ∙ r.number })

  still-outdated : (a b : Message) → IsOutdated f s a b → IsOutdated g s a b
  still-outdated a b d = record { older = d.older; fenced = d.fenced }

  outdated-ways : (c r : Message) → IsOutdated f s c r ⊎ IsOutdated f s r c → IsOutdated g s c r ⊎ IsOutdated g s r c
  outdated-ways c r (inl d) = inl (still-outdated c r d)
  outdated-ways c r (inr d) = inr (still-outdated r c d)

  -- a phase's own order
  module _ (p : PhaseName) (n : ℕ) (owed : List ℕ) (reports : List Shown) (vs : List Seen) (asks : phases.work_in p ≡ Some o.work) (low : o.number ≤ n) (number : (o.work ≡ phases.Report → ⊥) → o.number ≡ n) (h : InPhase p n owed reports vs) (fits : FlightFits f s p n owed reports vs) where
    own : (work : phases.Work) → o.work ≡ work → phases.work_in p ≡ Some work
    own work is = asks ∙ ap Some is

    -- of another work than a report
    numbered : (work : phases.Work) (k : ℕ) (m : Message) → IsNew work k m → (work ≡ phases.Report → ⊥) → k ≡ n
    numbered work k m i ne = sym i.number ∙ number (λ e. ne (sym i.works ∙ e))

    sent-known : (m : Message) → In m f.messages ⊎ (m ≡ new) → m.session ≡ s → IsKnown (f.epoch s) n m
    sent-known m (inl old) at = fits.known m old at
    sent-known m (inr is) at = subst (IsKnown (f.epoch s) n) (sym is) (record {
      epoch = omega arith;
      number = low;
      positive = λ asked. let above : 0 < n = own-positive n owed reports vs p o.work asks h asked in let same : o.number ≡ n = number (λ e. subst IsForAttempt e asked) in omega arith;
      answers = λ r e. absurd cc;
    })

    sent-so-far : (m : Message) → In m f.messages ⊎ (m ≡ new) → m.session ≡ s → m.order.number ≡ n → IsSentSoFar p (f.epoch s) m
    sent-so-far m (inl old) at is = fits.so_far m old at is
    sent-so-far m (inr i) at is = subst (IsSentSoFar p (f.epoch s)) (sym i) (record { early = λ e. refl; work = λ e. own-sent p o.work asks })

    sent-fenced : IsFenced p → (m : Message) → IsOrder f s m ⊎ (m ≡ new) → m.order.number ≡ n → m.epoch < f.epoch s → HasServer m.server vs → f.epoch s ≤ f.fence s m.server
    sent-fenced e m (inl old) is earlier to = fits.fenced e m old is earlier to
    sent-fenced e m (inr i) is earlier to = let now : m.epoch ≡ f.epoch s = (λ j. (i j).epoch) in absurd (omega arith)

    sent-holds : (k : ℕ) (m : Message) → IsOrderFor f s phases.Hold k m ⊎ IsNew phases.Hold k m → (k < n) ⊎ IsQuiet p → AllHeld k vs
    sent-holds k m (inl old) past = fits.holds k m old past
    sent-holds k m (inr i) (inl less) = let same : k ≡ n = numbered phases.Hold k m i (λ e. cc) in absurd (omega arith)
    sent-holds k m (inr i) (inr q) = absurd (own-busy p phases.Hold (own phases.Hold i.works) q)

    sent-after : (m : Message) → IsOrder f s m ⊎ (m ≡ new) → m.order.number ≡ n → ComesAfterHolds m.order.work → AllHeld n vs
    sent-after m (inl old) is late = fits.after_holds m old is late
    sent-after m (inr i) is late = own-held n owed reports vs p o.work asks h (subst (λ (m : Message). ComesAfterHolds m.order.work) i late)

    sent-flashes : (k : ℕ) (m : Message) → IsOrderFor f s phases.Flash k m ⊎ IsNew phases.Flash k m → IsPast p k n → All (λ v. k ≤ v.floor) vs
    sent-flashes k m (inl old) past = fits.flashes k m old past
    sent-flashes k m (inr i) past = let same : k ≡ n = numbered phases.Flash k m i (λ e. cc) in let less : k < n = own-flash p k n (own phases.Flash i.works) past in absurd (omega arith)

    sent-commits : (m : Message) → IsOrderFor f s phases.Commit n m ⊎ IsNew phases.Commit n m → AllFlashed n vs
    sent-commits m (inl old) = fits.commits m old
    sent-commits m (inr i) = (commits n owed reports vs p (own phases.Commit i.works) h).0

    abbrev Threat : phases.Work → Message → Type 0
    Threat work m = IsThreat f s work n vs m ⊎ IsNew work n m

    threat-or : (work : phases.Work) (m : Message) → IsThreat g s work n vs m → Threat work m
    threat-or work m t = by (for-or s work n m t.order)
      where
        by : IsOrderFor f s work n m ⊎ IsNew work n m → Threat work m
        by (inl old) = inl (record { order = old; loose = t.loose; to = t.to })
        by (inr i) = inr i

    sent-commit-way : (m : Message) → Threat phases.Commit m → AllAt n vs ⊎ Blocked vs
    sent-commit-way m (inl old) = fits.commit_way m old
    sent-commit-way m (inr i) = (commits n owed reports vs p (own phases.Commit i.works) h).1

    sent-revert-way : (m : Message) → Threat phases.Revert m → NoneCommitted n vs ⊎ NoneRevertible vs
    sent-revert-way m (inl old) = fits.revert_way m old
    sent-revert-way m (inr i) = reverts n owed reports vs p (own phases.Revert i.works) h

    -- where the other was sent before, that was in an earlier epoch, and its server's fence has come to this one
    outdated : (work : phases.Work) → IsFenced p × (may_have_sent p work ≡ false) → (m : Message) → IsOrderFor f s work n m → HasServer m.server vs → (q : Message) → q ≡ new → IsOutdated g s m q
    outdated work never m r to q is = by (eqb_tells m.epoch (f.epoch s))
      where
        by : IsOrNot m.epoch (f.epoch s) → IsOutdated g s m q
        by (inl same) = false_true never.1 (subst (λ w. may_have_sent p w ≡ true) r.works ((fits.so_far m r.order.here r.order.session r.number).work same.1))
        by (inr other) =
            let apart : m.epoch ≢ f.epoch s = other.1 in
            let known : m.epoch ≤ f.epoch s = (fits.known m r.order.here r.order.session).epoch in
            let old : m.epoch < f.epoch s = omega arith in
            let now : q.epoch ≡ f.epoch s = (λ i. (is i).epoch) in
            record { older = omega arith; fenced = let fence : f.epoch s ≤ f.fence s m.server = fits.fenced never.0 m r.order r.number old to in omega arith }

    sent-one-way : Any (λ v. v.revertible ≡ true) vs → (c r : Message) → IsOrderFor f s phases.Commit n c ⊎ IsNew phases.Commit n c → IsOrderFor f s phases.Revert n r ⊎ IsNew phases.Revert n r → HasServer c.server vs → HasServer r.server vs → IsOutdated g s c r ⊎ IsOutdated g s r c
    sent-one-way any c r (inl oc) (inl or) hc hr = outdated-ways c r (fits.one_way any c r oc or hc hr)
    sent-one-way any c r (inl oc) (inr ir) hc hr = inl (outdated phases.Commit (reverting-in p (own phases.Revert ir.works)) c oc hc r ir.is)
    sent-one-way any c r (inr ic) (inl or) hc hr = inr (outdated phases.Revert (committing-in p (own phases.Commit ic.works)) r or hr c ic.is)
    sent-one-way any c r (inr ic) (inr ir) hc hr = let e : phases.Commit ≡ phases.Revert = sym ic.works ∙ ir.works in absurd cc

    sent-others : p ≡ phase.Lost → (k : ℕ) → IsReported k false reports → k ≢ n → (m : Message) → Threat phases.Commit m → Blocked vs
    sent-others e k told apart m (inl old) = fits.others e k told apart m old
    sent-others e k told apart m (inr i) = let r : phases.Commit ≡ phases.Report = sym i.works ∙ own-lost p o.work e asks in absurd cc

    -- an order is no reply
    awaited-was : (ks : List ℕ) (m : Message) → IsAwaited g s p n ks m → IsAwaited f s p n ks m
    awaited-was ks m a = by (message-or m a.here)
      where
        by : In m f.messages ⊎ (m ≡ new) → IsAwaited f s p n ks m
        by (inl old) = record { here = old; session = a.session; epoch = a.epoch; works = a.works; number = a.number; due = a.due; answers = a.answers }
        by (inr is) = absurd (subst (λ (m : Message). HasAnswer m.body) is a.answers)

    take-was : (ks : List ℕ) (ms : List Message) → MayTake g s p n ks ms → MayTake f s p n ks ms
    take-was ks [] t = tt
    take-was ks (m ∷ ms) t = (awaited-was ks m t.0, take-was (phases.without m.server ks) ms t.1)

    others-come : p ≡ phase.Lost → (q : Message) → IsAwaited f s p n owed q → (k : ℕ) → IsReported k false (shown_in q.body) → k ≢ n → (m : Message) → Threat phases.Commit m → Blocked vs
    others-come e q a k told apart m (inl old) = fits.others_come e q a k told apart m old
    others-come e q a k told apart m (inr i) = let r : phases.Commit ≡ phases.Report = sym i.works ∙ own-lost p o.work e asks in absurd cc

    pub fits-sent : FlightFits g s p n owed reports vs
    fits-sent = record {
      known = λ m i. sent-known m (message-or m i);
      so_far = λ m i. sent-so-far m (message-or m i);
      fenced = λ e m r. sent-fenced e m (order-or s m r);
      heard = fits.heard;
      reached = λ e m a. fits.reached e m (awaited-was owed m a);
      holds = λ k m r. sent-holds k m (for-or s phases.Hold k m r);
      after_holds = λ m r. sent-after m (order-or s m r);
      flashes = λ k m r. sent-flashes k m (for-or s phases.Flash k m r);
      commits = λ m r. sent-commits m (for-or s phases.Commit n m r);
      commit_way = λ m t. sent-commit-way m (threat-or phases.Commit m t);
      revert_way = λ m t. sent-revert-way m (threat-or phases.Revert m t);
      one_way = λ any c r oc or. sent-one-way any c r (for-or s phases.Commit n c oc) (for-or s phases.Revert n r or);
      others = λ e k told apart m t. sent-others e k told apart m (threat-or phases.Commit m t);
      others_come = λ e q a k told apart m t. others-come e q (awaited-was owed q a) k told apart m (threat-or phases.Commit m t);
      replies = λ ms t. fits.replies ms (take-was owed ms t);
      few = λ m a. fits.few m (awaited-was owed m a);
      finished = λ e m a. fits.finished e m (awaited-was owed m a);
    }

-- it is one of that session
pub sent-aside : (f : Flight) (s server : ℕ) (o : phases.Order) → Aside f (sent s server o f) s
sent-aside f s server o = record { messages = λ m i ne. by m ne (message-or f s server o m i); epoch = λ t ne. refl; fence = λ t x ne. refl }
  where
    by : (m : Message) → m.session ≢ s → In m f.messages ⊎ (m ≡ order_sent s server o f) → In m f.messages
    by m ne (inl old) = old
    by m ne (inr is) = absurd (ne (λ i. (is i).session))
