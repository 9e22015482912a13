-- What the messages in flight say stays where one member of their session changes as it may.
use Rattle.std.proofs.Common.{ℕ, ◌≡◌, ◌≢◌, ◌<◌, ◌≤◌, ◌⊎◌, inl, inr, refl, sym, ◌∙◌, true, false, arith, List, [], ◌∷◌, ◌++◌, length, subst, Some}
use Rattle.std.proofs.lemmas.Bool.Decides.{eqb_tells}
use Rattle.dr_ids.specs.declared.refusal.PhaseName.{PhaseName}
use Rattle.dr_ids.specs.declared.refusal.PhaseName.TheVariants as phase
use Rattle.dr_model.specs.Decisions.{Shown}
use Rattle.dr_model.specs.Phases as phases
use Rattle.dr_model.specs.Messages.{Flight, Message}
use Rattle.dr_model.specs.Groups.{In, IsOrderFor, IsComing}
use Rattle.dr_model.specs.Attempts.{Seen, All, Any, NoneRevertible, NoneCommitted, SomeCommitted, AllAt, Blocked, is_owed, InPhase}
use Rattle.dr_model.specs.Flights.{may_have_sent, IsFenced, HasServer, IsThreat, IsOutdated, IsAwaited, MayTake, owed_after, reports_after, shown_in, members_at, FlightFits}
use Rattle.dr_facts.proofs.Tables.{IsOrNot}
use Rattle.dr_laws_attempts.proofs.Facts.{bool_cases, Update, each, rev-not-committed, none-some}
use Rattle.dr_laws_attempts.proofs.Turns.{Kind, Try, Flash, Commit, Revert, Raise, Go, next_seen, HoldComes, IsAsked, TakesBack, Ordered, MayTurn}
use Rattle.dr_laws_attempts.proofs.TurnsKeep.{InAnyPhase, at-server, all-at, all-held, all-flashed, not-flashed, flash-none, plain-stays, blocked, reverted-none, kept-in}
use Rattle.dr_laws_attempts.proofs.Dues.{turn-by}
use Rattle.dr_laws_sessions.proofs.Reports.{out-without}
use Rattle.dr_laws_messages.proofs.Taking.{fits-takes}
use Rattle.dr_logic.proofs.Truth.{false_true}

-- a phase whose orders commit, or revert, is fenced, and hasn't sent the other
pub committing-in : (p : PhaseName) → phases.work_in p ≡ Some phases.Commit → IsFenced p × (may_have_sent p phases.Revert ≡ false)
committing-in phase.Committing e = (tt, refl)
committing-in p e = absurd cc

pub reverting-in : (p : PhaseName) → phases.work_in p ≡ Some phases.Revert → IsFenced p × (may_have_sent p phases.Commit ≡ false)
reverting-in phase.Reverting e = (tt, refl)
reverting-in p e = absurd cc

module _ (f : Flight) (s : ℕ) (p : PhaseName) (n : ℕ) (owed : List ℕ) (reports : List Shown) (vs : List Seen) (fits : FlightFits f s p n owed reports vs) where
  -- what a server would still carry out isn't outdated
  loose-now : (work : phases.Work) (old new : Message) → IsThreat f s work n vs old → IsOutdated f s old new → ⊥
  loose-now work old new t o =
      let older : old.epoch < new.epoch = o.older in
      let fence : new.epoch ≤ f.fence s old.server = o.fenced in
      let loose : f.fence s old.server ≤ old.epoch = subst (λ s. f.fence s old.server ≤ old.epoch) t.order.order.session t.loose in
      absurd (omega arith)

  -- where what was sent before meets a fence, nothing comes that wasn't sent in this epoch
  unsent : (work : phases.Work) → IsFenced p × (may_have_sent p work ≡ false) → (m : Message) → IsThreat f s work n vs m → ⊥
  unsent work never m t = by (eqb_tells m.epoch (f.epoch s))
    where
      by : IsOrNot m.epoch (f.epoch s) → ⊥
      by (inl now) = false_true never.1 (subst (λ w. may_have_sent p w ≡ true) t.order.works ((fits.so_far m t.order.order.here t.order.order.session t.order.number).work now.1))
      by (inr other) =
          let known : m.epoch ≤ f.epoch s = (fits.known m t.order.order.here t.order.order.session).epoch in
          let apart : m.epoch ≢ f.epoch s = other.1 in
          let fence : f.epoch s ≤ f.fence s m.server = fits.fenced never.0 m t.order.order t.order.number (omega arith) t.to in
          let loose : f.fence s m.server ≤ m.epoch = subst (λ s. f.fence s m.server ≤ m.epoch) t.order.order.session t.loose in
          absurd (omega arith)

  module _ (v : Seen) (here : In v vs) (flag : v.revertible ≡ true) where
    coming : (work : phases.Work) (c : IsComing f s v.server work n) → IsThreat f s work n vs c.message
    coming work c = record { order = c.order; loose = c.loose; to = record { one = v; here = here; is = sym c.to } }

    -- a commit and a revert of it aren't both to come
    one-comes : (c r : Message) → IsThreat f s phases.Commit n vs c → IsThreat f s phases.Revert n vs r → ⊥
    one-comes c r t u = by (fits.one_way (record { one = v; here = here; is = flag }) c r t.order u.order t.to u.to)
      where
        by : IsOutdated f s c r ⊎ IsOutdated f s r c → ⊥
        by (inl o) = loose-now phases.Commit c r t o
        by (inr o) = loose-now phases.Revert r c u o

    -- where its commit is due, no revert comes, and the other way round
    pub commit-alone : IsAsked f s p n v.server phases.Commit → (r : Message) → IsThreat f s phases.Revert n vs r → ⊥
    commit-alone (inl asks) r t = unsent phases.Revert (committing-in p asks) r t
    commit-alone (inr c) r t = one-comes c.message r (coming phases.Commit c) t

    pub revert-alone : IsAsked f s p n v.server phases.Revert → (c : Message) → IsThreat f s phases.Commit n vs c → ⊥
    revert-alone (inl asks) c t = unsent phases.Commit (reverting-in p asks) c t
    revert-alone (inr r) c t = one-comes c r.message t (coming phases.Revert r)

module _ (f : Flight) (s : ℕ) (p : PhaseName) (n : ℕ) (owed : List ℕ) (reports : List Shown) (vs : List Seen) (law : InAnyPhase n vs) (fits : FlightFits f s p n owed reports vs) (v : Seen) (us : List Seen) where
  abbrev To : Kind → Type 0
  To k = Update vs v (next_seen k n v) us

  abbrev May : Kind → Type 0
  May k = MayTurn k f s p n owed reports vs v

  -- each stays on its server
  server-was : (k : Kind) → To k → (server : ℕ) → HasServer server us → HasServer server vs
  server-was k move server h = by (move.back h.one h.here)
    where
      by : (h.one ≡ next_seen k n v) ⊎ In h.one vs → HasServer server vs
      by (inl is) = record { one = v; here = move.here; is = sym (at-server f s p n owed reports vs law v us k) ∙ (sym ((λ i. (is i).server)) ∙ h.is) }
      by (inr was) = record { one = h.one; here = was; is = h.is }

  threat-was : (k : Kind) → To k → (work : phases.Work) (m : Message) → IsThreat f s work n us m → IsThreat f s work n vs m
  threat-was k move work m t = record { order = t.order; loose = t.loose; to = server-was k move m.server t.to }

  floor-one : {q : ℕ} (k : Kind) → In v vs → May k → q ≤ v.floor → q ≤ (next_seen k n v).floor
  floor-one Flash here a was = was
  floor-one Commit here a was = let low : v.floor ≤ n = (law.numbers.each v here).floor in omega arith
  floor-one Revert here a was = omega arith
  floor-one (Raise x) here a was = let up : v.floor ≤ x = a.higher in omega arith
  floor-one k here a was = was

  -- none is flashed, where a commit is in flight
  flash-late : May Flash → In v vs → (m : Message) → IsOrderFor f s phases.Commit n m → ⊥
  flash-late a here m o = not-flashed f s p n owed reports vs law v us a (fits.commits m o v here)

  commit-ways : (k : Kind) → To k → May k → (m : Message) → IsThreat f s phases.Commit n vs m → AllAt n vs ⊎ Blocked vs → AllAt n us ⊎ Blocked us
  commit-ways Flash move a m t d = absurd (flash-late a move.here m t.order)
  commit-ways Commit move a m t d = inl (all-at f s p n owed reports vs law v us Commit move a (λ e. cc) a.all)
  commit-ways Revert move a m t d = by a.way
    where
      by : TakesBack f s p n v ⊎ All (λ u. u.paired ≡ false) vs → AllAt n us ⊎ Blocked us
      by (inl due) = absurd (revert-alone f s p n owed reports vs fits v move.here a.revertible due.asked m t)
      by (inr all) = inr (each _ move (λ r. absurd cc) (λ u h r. all u h))
  commit-ways k move a m t (inl all) = inl (all-at f s p n owed reports vs law v us k move a (λ e. cc) all)
  commit-ways k move a m t (inr bar) = inr (blocked f s p n owed reports vs law v us k move a (λ e. cc) bar)

  -- it meets no revert, nor one that is committed while this one can go back
  commit-meets : May Commit → In v vs → (m : Message) → IsThreat f s phases.Revert n vs m → NoneCommitted n vs ⊎ NoneRevertible vs → ⊥
  commit-meets a here m t d = by a.way d
    where
      by : Ordered f s p n owed reports vs v ⊎ SomeCommitted n vs → NoneCommitted n vs ⊎ NoneRevertible vs → ⊥
      by (inl due) d = commit-alone f s p n owed reports vs fits v here a.revertible due.asked m t
      by (inr had) (inl none) = none-some n vs none had
      by (inr had) (inr none) = false_true (none v here) a.revertible

  revert-ways : (k : Kind) → To k → May k → (m : Message) → IsThreat f s phases.Revert n vs m → NoneCommitted n vs ⊎ NoneRevertible vs → NoneCommitted n us ⊎ NoneRevertible us
  revert-ways Flash move a m t d = inl (each _ move (rev-not-committed n (next_seen Flash n v) refl) (flash-none f s p n owed reports vs law v us a move.here))
  revert-ways Commit move a m t d = absurd (commit-meets a move.here m t d)
  revert-ways Revert move a m t d = inl (each _ move (reverted-none f s p n owed reports vs law v us a law.numbers.none move) a.none)
  revert-ways (Go x before) move a m t (inl none) = inl (each _ move refl none)
  revert-ways k move a m t (inl none) = inl (each _ move (none v move.here) none)
  revert-ways k move a m t (inr none) = inr (plain-stays f s p n owed reports vs law v us k move (λ e. cc) none)

  -- one that is revertible was so before, or is flashed
  revertible-was : (k : Kind) → To k → (k ≡ Flash → ⊥) → Any (λ u. u.revertible ≡ true) us → Any (λ u. u.revertible ≡ true) vs
  revertible-was k move ne h = by (move.back h.one h.here)
    where
      was : (k : Kind) → (k ≡ Flash → ⊥) → (next_seen k n v).revertible ≡ true → v.revertible ≡ true
      was Flash ne r = absurd (ne refl)
      was Commit ne r = absurd cc
      was Revert ne r = absurd cc
      was (Go x before) ne r = absurd cc
      was k ne r = r

      by : (h.one ≡ next_seen k n v) ⊎ In h.one vs → Any (λ u. u.revertible ≡ true) vs
      by (inl is) = record { one = v; here = move.here; is = was k ne (sym (λ i. (is i).revertible) ∙ h.is) }
      by (inr old) = record { one = h.one; here = old; is = h.is }

  one-ways : (k : Kind) → To k → May k → Any (λ u. u.revertible ≡ true) us → (c r : Message) → IsOrderFor f s phases.Commit n c → IsOrderFor f s phases.Revert n r → HasServer c.server us → HasServer r.server us → IsOutdated f s c r ⊎ IsOutdated f s r c
  one-ways Flash move a any c r oc or hc hr = absurd (flash-late a move.here c oc)
  one-ways k move a any c r oc or hc hr = fits.one_way (revertible-was k move (λ e. cc) any) c r oc or (server-was k move c.server hc) (server-was k move r.server hr)

  others-stay : (k : Kind) → To k → May k → (m : Message) → IsThreat f s phases.Commit n vs m → Blocked vs → Blocked us
  others-stay Flash move a m t bar = absurd (flash-late a move.here m t.order)
  others-stay k move a m t bar = blocked f s p n owed reports vs law v us k move a (λ e. cc) bar

  heard-on : (k : Kind) → To k → All (λ u. is_owed owed u ≡ false → f.epoch s ≤ f.fence s u.server) vs → All (λ u. is_owed owed u ≡ false → f.epoch s ≤ f.fence s u.server) us
  heard-on k move all = each (λ u. is_owed owed u ≡ false → f.epoch s ≤ f.fence s u.server) move
      (subst (λ x. phases.is_among x owed ≡ false → f.epoch s ≤ f.fence s x) (sym (at-server f s p n owed reports vs law v us k)) (all v move.here)) all

  -- whichever replies are taken, the attempt goes on as its phase says
  replies-on : (k : Kind) → To k → May k → (ms : List Message) → MayTake f s p n owed ms → InPhase p n (owed_after ms owed) (reports_after ms reports) us
  replies-on k move a ms t = kept-in f s p n (owed_after ms owed) (reports_after ms reports) vs law v us k move
      (turn-by f s p n owed (owed_after ms owed) reports (reports_after ms reports) vs (fits-takes f s p n owed reports vs ms t fits) v move.here k a) (fits.replies ms t)

  -- one whose server has finished doesn't record again
  finished-one : (k : Kind) → May k → (v.recording ≡ false) × (n ≤ v.attempt) → (next_seen k n v).recording ≡ false
  finished-one (Try x records held) a was = by (bool_cases records)
    where
      began : (v.recording ≡ true) ⊎ ((v.attempt < n) × HoldComes f s p n) → ⊥
      began (inl r) = false_true was.0 r
      began (inr new) = let low : v.attempt < n = new.0 in let held : n ≤ v.attempt = was.1 in absurd (omega arith)

      by : (records ≡ true) ⊎ (records ≡ false) → records ≡ false
      by (inl r) = absurd (began (a.begun r))
      by (inr r) = r
  finished-one Flash a was = was.0
  finished-one k a was = was.0

  finished-on : (k : Kind) → To k → May k → p ≡ phase.Finishing → (m : Message) → IsAwaited f s p n owed m → All (λ u. u.server ≡ m.server → u.recording ≡ false) us
  finished-on k move a e m w = each (λ u. u.server ≡ m.server → u.recording ≡ false) move (λ at. let own = sym (at-server f s p n owed reports vs law v us k) ∙ at in
      finished-one k a (fits.finished e m w v move.here own, held own)) (fits.finished e m w)
    where
      held : v.server ≡ m.server → n ≤ v.attempt
      held own = (subst (λ q. InPhase q n (phases.without m.server owed) (reports ++ shown_in m.body) vs) e (fits.replies (m ∷ []) (w, tt))).done v move.here (subst (λ x. phases.is_among x (phases.without m.server owed) ≡ false) (sym own) (out-without m.server owed))

  -- where no server has other members
  pub fits-on : ((server : ℕ) → members_at server us ≡ members_at server vs) → (k : Kind) → To k → May k → FlightFits f s p n owed reports us
  fits-on same k move a = record {
    known = fits.known;
    so_far = fits.so_far;
    fenced = λ e m o is old h. fits.fenced e m o is old (server-was k move m.server h);
    heard = λ e. heard-on k move (fits.heard e);
    reached = fits.reached;
    holds = λ q m o past. all-held f s p n owed reports vs law v us k move a (fits.holds q m o past);
    after_holds = λ m o is late. all-held f s p n owed reports vs law v us k move a (fits.after_holds m o is late);
    flashes = λ q m o past. each (λ u. q ≤ u.floor) move (floor-one k move.here a (fits.flashes q m o past v move.here)) (fits.flashes q m o past);
    commits = λ m o. all-flashed f s p n owed reports vs law v us k move a (fits.commits m o);
    commit_way = λ m t. let was = threat-was k move phases.Commit m t in commit-ways k move a m was (fits.commit_way m was);
    revert_way = λ m t. let was = threat-was k move phases.Revert m t in revert-ways k move a m was (fits.revert_way m was);
    one_way = one-ways k move a;
    others = λ e q told apart m t. let was = threat-was k move phases.Commit m t in others-stay k move a m was (fits.others e q told apart m was);
    others_come = λ e w b q told apart m t. let was = threat-was k move phases.Commit m t in others-stay k move a m was (fits.others_come e w b q told apart m was);
    replies = replies-on k move a;
    few = λ m w. subst (λ q. length (shown_in m.body) ≤ q) (sym (same m.server)) (fits.few m w);
    finished = finished-on k move a;
  }
