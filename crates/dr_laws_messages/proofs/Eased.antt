-- What the messages in flight say stays where there are no more orders, and fences are no lower.
use Rattle.std.proofs.Common.{ℕ, ◌≡◌, ◌≢◌, ◌≤◌, ◌<◌, ◌⊎◌, inl, inr, sym, ◌∙◌, false, arith, List, [], ◌∷◌, length, subst}
use Rattle.dr_ids.specs.declared.refusal.PhaseName.{PhaseName}
use Rattle.dr_ids.specs.declared.refusal.PhaseName.TheVariants as phase
use Rattle.dr_model.specs.Decisions.{Shown}
use Rattle.dr_model.specs.Phases as phases
use Rattle.dr_model.specs.Messages.{Flight, Message}
use Rattle.dr_model.specs.Groups.{In, IsOrder, IsOrderFor}
use Rattle.dr_model.specs.Attempts.{Seen, All, Blocked, InPhase, IsReported}
use Rattle.dr_model.specs.Flights.{IsKnown, IsSentSoFar, IsThreat, IsOutdated, IsAwaited, MayTake, owed_after, reports_after, shown_in, members_at, FlightFits}

-- of session number s
pub record Eases (f g : Flight) (s : ℕ) : Type 0 where
  pub orders : (m : Message) → IsOrder g s m → IsOrder f s m
  pub fence : (x : ℕ) → f.fence s x ≤ g.fence s x

module _ (f g : Flight) (s : ℕ) (eases : Eases f g s) where
  pub order-was : (work : phases.Work) (k : ℕ) (m : Message) → IsOrderFor g s work k m → IsOrderFor f s work k m
  order-was work k m o = record { order = eases.orders m o.order; works = o.works; number = o.number }

  pub threat-was : (work : phases.Work) (n : ℕ) (vs : List Seen) (m : Message) → IsThreat g s work n vs m → IsThreat f s work n vs m
  threat-was work n vs m t = record {
    order = order-was work n m t.order;
    loose = let at : m.session ≡ s = t.order.order.session in
        let fence : f.fence m.session m.server ≤ g.fence m.session m.server = subst (λ s. f.fence s m.server ≤ g.fence s m.server) (sym at) (eases.fence m.server) in
        let loose : g.fence m.session m.server ≤ m.epoch = t.loose in
        omega arith;
    to = t.to;
  }

  still-outdated : (old new : Message) → IsOutdated f s old new → IsOutdated g s old new
  still-outdated old new o = record { older = o.older; fenced = let was : new.epoch ≤ f.fence s old.server = o.fenced in let up : f.fence s old.server ≤ g.fence s old.server = eases.fence old.server in omega arith }

  pub outdated-ways : (c r : Message) → IsOutdated f s c r ⊎ IsOutdated f s r c → IsOutdated g s c r ⊎ IsOutdated g s r c
  outdated-ways c r (inl o) = inl (still-outdated c r o)
  outdated-ways c r (inr o) = inr (still-outdated r c o)

-- what is asked of the messages themselves, and of the replies among them
pub record Hears (g : Flight) (s : ℕ) (p : PhaseName) (n : ℕ) (owed : List ℕ) (reports : List Shown) (vs : List Seen) : Type 0 where
  pub known : (m : Message) → In m g.messages → m.session ≡ s → IsKnown (g.epoch s) n m
  pub so_far : (m : Message) → In m g.messages → m.session ≡ s → m.order.number ≡ n → IsSentSoFar p (g.epoch s) m
  pub reached : p ≡ phase.Lost → (m : Message) → IsAwaited g s p n owed m → g.epoch s ≤ g.fence s m.server
  pub others_come : p ≡ phase.Lost → (q : Message) → IsAwaited g s p n owed q → (k : ℕ) → IsReported k false (shown_in q.body) → k ≢ n → (m : Message) → IsThreat g s phases.Commit n vs m → Blocked vs
  pub replies : (ms : List Message) → MayTake g s p n owed ms → InPhase p n (owed_after ms owed) (reports_after ms reports) vs
  pub few : (m : Message) → IsAwaited g s p n owed m → length (shown_in m.body) ≤ members_at m.server vs
  pub finished : p ≡ phase.Finishing → (m : Message) → IsAwaited g s p n owed m → All (λ v. v.server ≡ m.server → v.recording ≡ false) vs

module _ (f g : Flight) (s : ℕ) (eases : Eases f g s) (p : PhaseName) (n : ℕ) (owed : List ℕ) (reports : List Shown) (vs : List Seen) (same : g.epoch s ≡ f.epoch s) (fits : FlightFits f s p n owed reports vs) where
  -- a server's fence has come to the epoch, still
  rises : (x : ℕ) → f.epoch s ≤ f.fence s x → g.epoch s ≤ g.fence s x
  rises x was = let up : f.fence s x ≤ g.fence s x = eases.fence x in omega arith

  pub fits-eased : Hears g s p n owed reports vs → FlightFits g s p n owed reports vs
  fits-eased hears = record {
    known = hears.known;
    so_far = hears.so_far;
    fenced = λ e m o is old h. rises m.server (fits.fenced e m (eases.orders m o) is (subst (λ e. m.epoch < e) same old) h);
    heard = λ e u h o. rises u.server (fits.heard e u h o);
    reached = hears.reached;
    holds = λ k m o past. fits.holds k m (order-was f g s eases phases.Hold k m o) past;
    after_holds = λ m o is late. fits.after_holds m (eases.orders m o) is late;
    flashes = λ k m o past. fits.flashes k m (order-was f g s eases phases.Flash k m o) past;
    commits = λ m o. fits.commits m (order-was f g s eases phases.Commit n m o);
    commit_way = λ m t. fits.commit_way m (threat-was f g s eases phases.Commit n vs m t);
    revert_way = λ m t. fits.revert_way m (threat-was f g s eases phases.Revert n vs m t);
    one_way = λ any c r oc or hc hr. outdated-ways f g s eases c r (fits.one_way any c r (order-was f g s eases phases.Commit n c oc) (order-was f g s eases phases.Revert n r or) hc hr);
    others = λ e k told apart m t. fits.others e k told apart m (threat-was f g s eases phases.Commit n vs m t);
    others_come = hears.others_come;
    replies = hears.replies;
    few = hears.few;
    finished = hears.finished;
  }

  -- where no message is new
  module _ (sub : (m : Message) → In m g.messages → m.session ≡ s → In m f.messages) where
    pub awaited-was : (ks : List ℕ) (m : Message) → IsAwaited g s p n ks m → IsAwaited f s p n ks m
    awaited-was ks m a = record { here = sub m a.here a.session; session = a.session; epoch = a.epoch ∙ same; works = a.works; number = a.number; due = a.due; answers = a.answers }

    take-was : (ks : List ℕ) (ms : List Message) → MayTake g s p n ks ms → MayTake f s p n ks ms
    take-was ks [] t = tt
    take-was ks (m ∷ ms) t = (awaited-was ks m t.0, take-was (phases.without m.server ks) ms t.1)

    so-far : (m : Message) → In m g.messages → m.session ≡ s → m.order.number ≡ n → IsSentSoFar p (g.epoch s) m
    so-far m i at is = let was = fits.so_far m (sub m i at) at is in record { early = λ e. was.early e ∙ sym same; work = λ e. was.work (e ∙ same) }

    pub fits-fewer : FlightFits g s p n owed reports vs
    fits-fewer = fits-eased (record {
      known = λ m i is. subst (λ e. IsKnown e n m) (sym same) (fits.known m (sub m i is) is);
      so_far = so-far;
      reached = λ e m a. rises m.server (fits.reached e m (awaited-was owed m a));
      others_come = λ e q a k told apart m t. fits.others_come e q (awaited-was owed q a) k told apart m (threat-was f g s eases phases.Commit n vs m t);
      replies = λ ms t. fits.replies ms (take-was owed ms t);
      few = λ m a. fits.few m (awaited-was owed m a);
      finished = λ e m a. fits.finished e m (awaited-was owed m a);
    })
