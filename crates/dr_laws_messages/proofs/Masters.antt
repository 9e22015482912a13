-- What the messages in flight say stays as a session's master goes through its phases.
use Rattle.std.proofs.Common.{ℕ, ◌≡◌, ◌≢◌, ◌≤◌, ◌<◌, ◌⊎◌, inl, inr, refl, ap, sym, ◌∙◌, true, false, not, ◌==◌, arith, List, [], ◌∷◌, ◌++◌, subst, Some}
use Rattle.std.proofs.lemmas.List.{append-nil}
use Rattle.std.proofs.lemmas.Bool.Decides.{eqb_tells}
use Rattle.dr_ids.specs.declared.refusal.PhaseName.{PhaseName}
use Rattle.dr_ids.specs.declared.refusal.PhaseName.TheVariants as phase
use Rattle.dr_ids.specs.declared.refusal.Decision.{Decision}
use Rattle.dr_ids.specs.declared.refusal.Decision.TheVariants.{CommitRest}
use Rattle.dr_model.specs.Decisions.{Shown, decision}
use Rattle.dr_model.specs.Phases as phases
use Rattle.dr_model.specs.Messages.{Flight, Message}
use Rattle.dr_model.specs.Groups.{In, IsOrder, IsOrderFor}
use Rattle.dr_model.specs.Attempts.{Seen, All, AllAt, Blocked, AllHeld, WasFlashed, Follows, NumbersAgree, is_owed, IsReported, InPhase, Waits, Owes}
use Rattle.dr_model.specs.Flights.{IsEarly, may_have_sent, IsSentSoFar, IsFenced, IsQuiet, IsPast, HasServer, IsThreat, IsAwaited, MayTake, owed_after, reports_after, FlightFits}
use Rattle.dr_facts.proofs.Tables.{IsOrNot}
use Rattle.dr_facts.proofs.Lists.{to-filter}
use Rattle.dr_laws_attempts.specs.Orders.{IsDoneFor}
use Rattle.dr_laws_attempts.proofs.Stages.{AttemptBy, Serves, next, Tells, stays, tells-on, settles}
use Rattle.dr_laws_messages.proofs.Taking.{fits-added}
use Rattle.dr_logic.proofs.Truth.{false_true}

-- a master's session, where n is its last number
abbrev pub FlightBy : Flight → ℕ → ℕ → List Seen → phases.Master → Type 0
FlightBy f s n vs m = FlightFits f s m.phase n m.owed m.reports vs

-- ---- what a phase that begins asks of the messages in flight

pub record Begun (f : Flight) (s : ℕ) (q : PhaseName) (n : ℕ) (owed : List ℕ) (reports : List Shown) (vs : List Seen) : Type 0 where
  pub so_far : (m : Message) → In m f.messages → m.session ≡ s → m.order.number ≡ n → IsSentSoFar q (f.epoch s) m
  pub fenced : IsFenced q → (m : Message) → IsOrder f s m → m.order.number ≡ n → m.epoch < f.epoch s → HasServer m.server vs → f.epoch s ≤ f.fence s m.server
  pub heard : q ≡ phase.Lost → All (λ v. is_owed owed v ≡ false → f.epoch s ≤ f.fence s v.server) vs
  pub holds : (k : ℕ) (m : Message) → IsOrderFor f s phases.Hold k m → (k < n) ⊎ IsQuiet q → AllHeld k vs
  pub flashes : (k : ℕ) (m : Message) → IsOrderFor f s phases.Flash k m → IsPast q k n → All (λ v. k ≤ v.floor) vs
  pub others : q ≡ phase.Lost → (k : ℕ) → IsReported k false reports → k ≢ n → (m : Message) → IsThreat f s phases.Commit n vs m → Blocked vs
  -- no reply that is in flight is awaited yet
  pub none : (m : Message) → IsAwaited f s q n owed m → ⊥
  pub now : InPhase q n owed reports vs

-- so none is taken
pub none-taken : (f : Flight) (s : ℕ) (q : PhaseName) (n : ℕ) (owed : List ℕ) (reports : List Shown) (vs : List Seen) → ((m : Message) → IsAwaited f s q n owed m → ⊥) → InPhase q n owed reports vs
    → (ms : List Message) → MayTake f s q n owed ms → InPhase q n (owed_after ms owed) (reports_after ms reports) vs
none-taken f s q n owed reports vs none now [] t = now
none-taken f s q n owed reports vs none now (m ∷ ms) t = absurd (none m t.0)

pub fits-begins : (f : Flight) (s : ℕ) (p q : PhaseName) (n : ℕ) (owed ks : List ℕ) (reports rs : List Shown) (vs : List Seen) → FlightFits f s p n owed reports vs → Begun f s q n ks rs vs → FlightFits f s q n ks rs vs
fits-begins f s p q n owed ks reports rs vs fits b = record {
  known = fits.known;
  so_far = b.so_far;
  fenced = b.fenced;
  heard = b.heard;
  reached = λ e m a. absurd (b.none m a);
  holds = b.holds;
  after_holds = fits.after_holds;
  flashes = b.flashes;
  commits = fits.commits;
  commit_way = fits.commit_way;
  revert_way = fits.revert_way;
  one_way = fits.one_way;
  others = b.others;
  others_come = λ e m a. absurd (b.none m a);
  replies = none-taken f s q n ks rs vs b.none b.now;
  few = λ m a. absurd (b.none m a);
  finished = λ e m a. absurd (b.none m a);
}

-- what a phase asks for that begins then, as nobody asked for it before
pub none-awaited : (f : Flight) (s : ℕ) (p q : PhaseName) (n : ℕ) (owed ks : List ℕ) (reports : List Shown) (vs : List Seen) → FlightFits f s p n owed reports vs → ((w : phases.Work) → phases.work_in q ≡ Some w → (w ≡ phases.Report → ⊥) × (may_have_sent p w ≡ false))
    → (m : Message) → IsAwaited f s q n ks m → ⊥
none-awaited f s p q n owed ks reports vs fits unsent m a = let u = unsent m.order.work a.works in false_true u.1 ((fits.so_far m a.here a.session (a.number u.0)).work a.epoch)

-- ---- the next phase

-- what may have been sent may have been sent in the next phase, too
next-sent : (p : PhaseName) (w : phases.Work) → (p ≡ phase.Lost → ⊥) → may_have_sent p w ≡ true → may_have_sent (phases.next_phase p) w ≡ true
next-sent phase.Coordinating phases.Hold ne h = refl
next-sent phase.Releasing phases.Hold ne h = refl
next-sent phase.Releasing phases.Release ne h = refl
next-sent phase.Draining phases.Hold ne h = refl
next-sent phase.Draining phases.Release ne h = refl
next-sent phase.Draining phases.Seal ne h = refl
next-sent phase.Flashing phases.Hold ne h = refl
next-sent phase.Flashing phases.Release ne h = refl
next-sent phase.Flashing phases.Seal ne h = refl
next-sent phase.Flashing phases.Flash ne h = refl
next-sent phase.Committing w ne h = refl
next-sent phase.Reverting w ne h = refl
next-sent phase.Finishing w ne h = refl
next-sent phase.Idle w ne h = refl
next-sent phase.None w ne h = refl
next-sent phase.Lost w ne h = absurd (ne refl)
next-sent p w ne h = absurd cc

next-early : (p : PhaseName) → IsEarly (phases.next_phase p) → IsEarly p
next-early phase.Coordinating h = tt
next-early phase.Releasing h = tt
next-early phase.Draining h = tt
next-early p h = absurd h

next-unsent : (p : PhaseName) → (p ≡ phase.Lost → ⊥) → (w : phases.Work) → phases.work_in (phases.next_phase p) ≡ Some w → (w ≡ phases.Report → ⊥) × (may_have_sent p w ≡ false)
next-unsent phase.Coordinating ne phases.Release e = (λ h. cc, refl)
next-unsent phase.Releasing ne phases.Seal e = (λ h. cc, refl)
next-unsent phase.Draining ne phases.Flash e = (λ h. cc, refl)
next-unsent phase.Flashing ne phases.Commit e = (λ h. cc, refl)
next-unsent phase.Committing ne phases.Finish e = (λ h. cc, refl)
next-unsent phase.Reverting ne phases.Finish e = (λ h. cc, refl)
next-unsent phase.Lost ne w e = absurd (ne refl)
next-unsent p ne w e = absurd cc

module _ (f : Flight) (s : ℕ) (n : ℕ) (vs : List Seen) where
  abbrev Fits : PhaseName → List ℕ → List Shown → Type 0
  Fits p owed reports = FlightFits f s p n owed reports vs

  module _ (p : PhaseName) (owed : List ℕ) (reports : List Shown) (fits : FlightFits f s p n owed reports vs) where
    -- the number of an order for an attempt isn't past the last one
    pub number-low : (work : phases.Work) (k : ℕ) (m : Message) → IsOrderFor f s work k m → k ≤ n
    number-low work k m o = subst (λ k. k ≤ n) o.number (fits.known m o.order.here o.order.session).number

    -- before anything is committed or given up no order was sent in an earlier epoch
    pub early-fenced : {P : Type 0} → IsEarly p → (m : Message) → IsOrder f s m → m.order.number ≡ n → m.epoch < f.epoch s → P
    early-fenced early m o is old = let now : m.epoch ≡ f.epoch s = (fits.so_far m o.here o.session is).early early in absurd (omega arith)

  -- ---- nobody is owed the phase's order any more

  module _ (numbers : NumbersAgree n vs) (follows : Follows n vs) (servers : List ℕ) (serves : Serves servers vs) where
    next-so-far : (p : PhaseName) (reports : List Shown) → Fits p [] reports → (p ≡ phase.Lost → ⊥) → (m : Message) → In m f.messages → m.session ≡ s → m.order.number ≡ n → IsSentSoFar (phases.next_phase p) (f.epoch s) m
    next-so-far p reports fits ne m i at is = let was = fits.so_far m i at is in record { early = λ e. was.early (next-early p e); work = λ e. next-sent p m.order.work ne (was.work e) }

    next-fenced : (p : PhaseName) (reports : List Shown) → Fits p [] reports → IsFenced (phases.next_phase p) → (m : Message) → IsOrder f s m → m.order.number ≡ n → m.epoch < f.epoch s → HasServer m.server vs → f.epoch s ≤ f.fence s m.server
    next-fenced phase.Flashing reports fits e m o is old h = early-fenced phase.Flashing [] reports fits tt m o is old
    next-fenced phase.Committing reports fits e m o is old h = fits.fenced tt m o is old h
    next-fenced phase.Reverting reports fits e m o is old h = fits.fenced tt m o is old h
    next-fenced p reports fits e m o is old h = absurd e

    next-holds : (p : PhaseName) (reports : List Shown) → Fits p [] reports → InPhase p n [] reports vs → (k : ℕ) (m : Message) → IsOrderFor f s phases.Hold k m → (k < n) ⊎ IsQuiet (phases.next_phase p) → AllHeld k vs
    next-holds p reports fits h k m o (inl less) = fits.holds k m o (inl less)
    next-holds phase.Finishing reports fits h k m o (inr q) = λ u i. let low : k ≤ n = number-low phase.Finishing [] reports fits phases.Hold k m o in let done : n ≤ u.attempt = h.done u i refl in omega arith
    next-holds phase.Idle reports fits h k m o (inr q) = fits.holds k m o (inr tt)
    next-holds phase.None reports fits h k m o (inr q) = fits.holds k m o (inr tt)
    next-holds p reports fits h k m o (inr q) = absurd q

    -- a target that was flashed and can't go back has come to the last number
    come-to : (u : Seen) → WasFlashed n u → u.revertible ≡ false → n ≤ u.floor
    come-to u (inl r) plain = false_true plain r
    come-to u (inr reached) plain = reached

    next-flashes : (p : PhaseName) (reports : List Shown) → Fits p [] reports → InPhase p n [] reports vs → (k : ℕ) (m : Message) → IsOrderFor f s phases.Flash k m → IsPast (phases.next_phase p) k n → All (λ v. k ≤ v.floor) vs
    next-flashes phase.Committing reports fits h k m o past = λ u i. let reached : n ≤ u.floor = come-to u (h.flashed u i) (h.done u i refl) in let low : k ≤ n = past in omega arith
    next-flashes phase.Reverting reports fits h k m o past = λ u i. let reached : n ≤ u.floor = (h.done u i refl).1 in let low : k ≤ n = past in omega arith
    next-flashes phase.Finishing reports fits h k m o past = fits.flashes k m o (number-low phase.Finishing [] reports fits phases.Flash k m o)
    next-flashes phase.Coordinating reports fits h k m o past = fits.flashes k m o past
    next-flashes phase.Releasing reports fits h k m o past = fits.flashes k m o past
    next-flashes phase.Draining reports fits h k m o past = fits.flashes k m o past
    next-flashes phase.Flashing reports fits h k m o past = fits.flashes k m o past
    next-flashes phase.Idle reports fits h k m o past = fits.flashes k m o past
    next-flashes phase.None reports fits h k m o past = fits.flashes k m o past
    next-flashes phase.Lost reports fits h k m o past = fits.flashes k m o past

    -- no phase is followed by Lost, but Lost
    next-lost : (p : PhaseName) → phases.next_phase p ≡ phase.Lost → p ≡ phase.Lost
    next-lost phase.Lost e = refl
    next-lost p e = absurd cc

    pub fits-next : (p : PhaseName) (reports : List Shown) → (p ≡ phase.Lost → ⊥) → Fits p [] reports → Fits (phases.next_phase p) (phases.owed_first (phases.next_phase p) servers) []
    fits-next p reports ne fits = let h : InPhase p n [] reports vs = fits.replies [] tt in
        fits-begins f s p (phases.next_phase p) n [] (phases.owed_first (phases.next_phase p) servers) reports [] vs fits (record {
          so_far = next-so-far p reports fits ne;
          fenced = next-fenced p reports fits;
          heard = λ e. absurd (ne (next-lost p e));
          holds = next-holds p reports fits h;
          flashes = next-flashes p reports fits h;
          others = λ e k told. absurd told;
          none = none-awaited f s p (phases.next_phase p) n [] (phases.owed_first (phases.next_phase p) servers) reports vs fits (next-unsent p ne);
          now = next n vs numbers follows servers serves p reports h;
        })

    -- ---- after the last report

    settled-sent : (d : Decision) (w : phases.Work) → may_have_sent phase.Lost w ≡ true → may_have_sent (phases.phase_by d) w ≡ true
    settled-sent (CommitRest k) phases.Report h = refl
    settled-sent (CommitRest k) w h = absurd cc
    settled-sent d phases.Report h = refl
    settled-sent d w h = absurd cc

    settled-unsent : (d : Decision) (w : phases.Work) → phases.work_in (phases.phase_by d) ≡ Some w → (w ≡ phases.Report → ⊥) × (may_have_sent phase.Lost w ≡ false)
    settled-unsent (CommitRest k) phases.Commit e = (λ h. cc, refl)
    settled-unsent (CommitRest k) w e = absurd cc
    settled-unsent d phases.Revert e = (λ h. cc, refl)
    settled-unsent d w e = absurd cc

    -- a phase that settles an attempt
    record Settles (q : PhaseName) : Type 0 where
      late : IsEarly q → ⊥
      busy : (k : ℕ) → (k < n) ⊎ IsQuiet q → (k < n) ⊎ IsQuiet phase.Lost
      past : (k : ℕ) → IsPast q k n → IsPast phase.Lost k n
      calm : q ≡ phase.Lost → ⊥

    settling : (d : Decision) → Settles (phases.phase_by d)
    settling (CommitRest k) = record { late = λ h. h; busy = λ k h. h; past = λ k h. h; calm = λ e. cc }
    settling d = record { late = λ h. h; busy = λ k h. h; past = λ k h. h; calm = λ e. cc }

    pub fits-settled : (server : ℕ) (reports : List Shown) → Fits phase.Lost [] reports → Fits (phases.phase_by (decision reports)) (phases.owed_first (phases.phase_by (decision reports)) servers) []
    fits-settled server reports fits = let d = decision reports in let by = settling (decision reports) in
        fits-begins f s phase.Lost (phases.phase_by (decision reports)) n [] (phases.owed_first (phases.phase_by (decision reports)) servers) reports [] vs fits (record {
          so_far = λ m i at is. record { early = λ e. absurd (by.late e); work = λ e. settled-sent (decision reports) m.order.work ((fits.so_far m i at is).work e) };
          fenced = λ e m o is old h. subst (λ x. f.epoch s ≤ f.fence s x) h.is (fits.heard refl h.one h.here refl);
          heard = λ e. absurd (by.calm e);
          holds = λ k m o past. fits.holds k m o (by.busy k past);
          flashes = λ k m o past. fits.flashes k m o (by.past k past);
          others = λ e. absurd (by.calm e);
          none = none-awaited f s phase.Lost (phases.phase_by (decision reports)) n [] (phases.owed_first (phases.phase_by (decision reports)) servers) reports vs fits (settled-unsent (decision reports));
          now = settles n vs numbers follows servers serves server reports (fits.replies [] tt) (decision reports) refl;
        })

    -- ---- a reply is taken, and the phase goes on, or the next one begins

    module _ (server : ℕ) (m : phases.Master) (is : m.servers ≡ servers) where
      -- a server has done what the phase asks of it
      pub fits-left : (phases.without server m.owed ≡ [] → m.phase ≡ phase.Lost → ⊥) → Fits m.phase (phases.without server m.owed) (m.reports ++ []) → FlightBy f s n vs (phases.replied m server phases.Done)
      fits-left ne fits = by (phases.without server m.owed) refl
        where
          at : (rest : List ℕ) → phases.without server m.owed ≡ rest → Fits m.phase rest m.reports
          at rest e = subst (λ ks. Fits m.phase ks m.reports) e (subst (λ rs. Fits m.phase (phases.without server m.owed) rs) (append-nil m.reports) fits)

          by : (rest : List ℕ) → phases.without server m.owed ≡ rest → FlightBy f s n vs (phases.left_with m rest)
          by [] e = subst (λ ks. Fits (phases.next_phase m.phase) (phases.owed_first (phases.next_phase m.phase) ks) []) (sym is) (fits-next m.phase m.reports (ne e) (at [] e))
          by (k ∷ ks) e = at (k ∷ ks) e

      -- or it has reported
      pub fits-told : (xs : List Shown) → m.phase ≡ phase.Lost → Fits m.phase (phases.without server m.owed) (m.reports ++ xs) → FlightBy f s n vs (phases.taken m server (phases.Reported xs))
      fits-told xs lost fits = by (phases.without server m.owed) refl
        where
          by : (rest : List ℕ) → phases.without server m.owed ≡ rest → FlightBy f s n vs (phases.settled_where rest (phases.replied m server (phases.Reported xs)))
          by [] e = subst (λ ks. Fits (phases.phase_by (decision (m.reports ++ xs))) (phases.owed_first (phases.phase_by (decision (m.reports ++ xs))) ks) []) (sym is)
              (fits-settled server (m.reports ++ xs) (subst (λ q. Fits q [] (m.reports ++ xs)) lost (subst (λ ks. Fits m.phase ks (m.reports ++ xs)) e fits)))
          by (k ∷ ks) e = fits

    -- ---- a server reports what its members show

    module _ (server : ℕ) (xs : List Shown) (tells : Tells n vs numbers follows servers serves server xs) where
      -- where that is another number, not all have the last one
      pub told-others : ((q : Message) → IsThreat f s phases.Commit n vs q → AllAt n vs ⊎ Blocked vs) → (k : ℕ) → IsReported k false xs → k ≢ n → (q : Message) → IsThreat f s phases.Commit n vs q → Blocked vs
      told-others way k told apart q t = by (way q t)
        where
          by : AllAt n vs ⊎ Blocked vs → Blocked vs
          by (inl all) = let r = tells.from (record { sequence = k; revertible = false }) told in absurd (apart ((λ i. (r.is i).sequence) ∙ all r.seen r.here r.counted))
          by (inr bar) = bar

      -- whoever reports, that fits a lost master
      pub adds-told : (p : PhaseName) → p ≡ phase.Lost → (ks : List ℕ) (rs : List Shown) → InPhase p n ks rs vs → InPhase p n (phases.without server ks) (rs ++ xs) vs
      adds-told p lost ks rs h = subst (λ q. InPhase q n (phases.without server ks) (rs ++ xs) vs) (sym lost) (tells-on n vs numbers follows servers serves server ks rs xs tells (subst (λ q. InPhase q n ks rs vs) lost h))

    -- and where one has done what its phase asks, the attempt goes on without it
    pub adds-done : (server : ℕ) (p : PhaseName) → IsDoneFor p n server vs → (ks : List ℕ) (rs : List Shown) → InPhase p n ks rs vs → InPhase p n (phases.without server ks) (rs ++ []) vs
    adds-done server p has ks rs h = subst (λ rs. InPhase p n (phases.without server ks) rs vs) (sym (append-nil rs)) (stays n vs numbers follows servers serves server p ks rs has h)

    -- ---- a server answers at once

    module _ (server : ℕ) (m : phases.Master) (is : m.servers ≡ servers) (law : AttemptBy n vs m) (fits : FlightBy f s n vs m) where
      -- a report isn't done, but given
      done-none : (p : PhaseName) → IsDoneFor p n server vs → p ≡ phase.Lost → (u : Seen) → In u vs → u.server ≡ server → ⊥
      done-none phase.Lost has e u h at = has u h at
      done-none p has e u h at = absurd cc

      others-none : (k : ℕ) → IsReported k false [] → k ≢ n → (q : Message) → IsThreat f s phases.Commit n vs q → Blocked vs
      others-none k told apart q t = absurd told

      -- the last one that a lost master waits for has a member
      lost-waits : IsDoneFor m.phase n server vs → phases.without server m.owed ≡ [] → m.phase ≡ phase.Lost → ⊥
      lost-waits has none lost = by m.owed (subst (λ q. Owes q m.owed vs) lost law.owes) none
        where
          at : (k : ℕ) (ks : List ℕ) → Waits (k ∷ ks) vs → phases.without server (k ∷ ks) ≡ [] → IsOrNot k server → ⊥
          at k ks w e (inl own) = let a = w.members k (inl refl) in done-none m.phase has lost a.one a.here (a.is ∙ own.1)
          at k ks w e (inr other) = subst (In k) e (to-filter (λ q. not (q == server)) (k ∷ ks) k (inl refl) (ap not other.0))

          by : (ks : List ℕ) → Waits ks vs → phases.without server ks ≡ [] → ⊥
          by [] w e = w.some refl
          by (k ∷ ks) w e = at k ks w e (eqb_tells k server)

      pub fits-done : IsDoneFor m.phase n server vs → FlightBy f s n vs (phases.replied m server phases.Done)
      fits-done has = fits-left server m is (lost-waits has) (fits-added f s m.phase n m.owed m.reports vs fits server [] (λ e u h at. absurd (done-none m.phase has e u h at)) (λ e. others-none) (adds-done server m.phase has))

      pub fits-reported : (xs : List Shown) → m.phase ≡ phase.Lost → Tells n vs numbers follows servers serves server xs → All (λ v. v.server ≡ server → f.epoch s ≤ f.fence s v.server) vs → FlightBy f s n vs (phases.taken m server (phases.Reported xs))
      fits-reported xs lost tells risen = fits-told server m is xs lost (fits-added f s m.phase n m.owed m.reports vs fits server xs (λ e. risen) (λ e. told-others server xs tells fits.commit_way) (adds-told server xs tells m.phase lost))
