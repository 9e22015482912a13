-- What the messages in flight say stays where an attempt is given up, and where a master is lost or appointed, with which an epoch begins.
use Rattle.std.proofs.Common.{ℕ, ◌≡◌, ◌≢◌, ◌≤◌, ◌<◌, ◌+◌, ◌⊎◌, inl, inr, refl, sym, ◌∙◌, true, false, cond, arith, List, [], subst, Option, None, Some}
use Rattle.std.proofs.lemmas.Bool.Decides.{eqb_tells}
use Rattle.dr_ids.specs.declared.refusal.PhaseName.{PhaseName}
use Rattle.dr_ids.specs.declared.refusal.PhaseName.TheVariants as phase
use Rattle.dr_model.specs.Decisions.{Shown}
use Rattle.dr_model.specs.Phases as phases
use Rattle.dr_model.specs.Messages.{Flight, Message, is_lost, raised}
use Rattle.dr_model.specs.Groups.{In, IsOrderFor}
use Rattle.dr_model.specs.Attempts.{Seen, All, AllHeld, Follows, NumbersAgree, is_owed, InPhase}
use Rattle.dr_model.specs.Flights.{IsEarly, may_have_sent, IsKnown, IsSentSoFar, IsFenced, IsQuiet, IsPast, IsAwaited, FlightFits}
use Rattle.dr_facts.proofs.Tables.{IsOrNot}
use Rattle.dr_laws_attempts.proofs.Stages.{Serves, lost-begins, aborts-to}
use Rattle.dr_laws_messages.proofs.Eased.{Eases, order-was, threat-was, outdated-ways}
use Rattle.dr_laws_messages.proofs.Masters.{FlightBy, none-taken, fits-begins, none-awaited, early-fenced}
use Rattle.dr_logic.proofs.Tables.{at_same}
use Rattle.dr_logic.proofs.Truth.{false_true}

-- ---- given up without a loss

-- before its first commit an attempt is given up for Finishing, or for Reverting
pub record GivesUp (p q : PhaseName) : Type 0 where
  pub early : IsEarly p
  pub late : IsEarly q → ⊥
  pub busy : IsQuiet q → ⊥
  pub calm : q ≡ phase.Lost → ⊥
  pub sent : (w : phases.Work) → may_have_sent p w ≡ true → may_have_sent q w ≡ true
  pub unsent : (w : phases.Work) → phases.work_in q ≡ Some w → (w ≡ phases.Report → ⊥) × (may_have_sent p w ≡ false)
  pub past : (k n : ℕ) → IsPast q k n → (k < n) ⊎ ((k ≤ n) × (may_have_sent p phases.Flash ≡ false))

flash-reverts : (w : phases.Work) → may_have_sent phase.Flashing w ≡ true → may_have_sent phase.Reverting w ≡ true
flash-reverts phases.Hold h = refl
flash-reverts phases.Release h = refl
flash-reverts phases.Seal h = refl
flash-reverts phases.Flash h = refl
flash-reverts w h = absurd cc

finish-unsent : (p : PhaseName) → may_have_sent p phases.Finish ≡ false → (w : phases.Work) → phases.work_in phase.Finishing ≡ Some w → (w ≡ phases.Report → ⊥) × (may_have_sent p w ≡ false)
finish-unsent p never phases.Finish e = (λ h. cc, never)
finish-unsent p never w e = absurd cc

revert-unsent : (w : phases.Work) → phases.work_in phase.Reverting ≡ Some w → (w ≡ phases.Report → ⊥) × (may_have_sent phase.Flashing w ≡ false)
revert-unsent phases.Revert e = (λ h. cc, refl)
revert-unsent w e = absurd cc

gives-up : (p q : PhaseName) → phases.aborted_phase p ≡ Some q → is_lost (Some q) ≡ false → GivesUp p q
gives-up phase.Coordinating phase.Finishing a e = record { early = tt; late = λ h. h; busy = λ h. h; calm = λ e. cc; sent = λ w h. refl; unsent = finish-unsent phase.Coordinating refl; past = λ k n h. inr (h, refl) }
gives-up phase.Releasing phase.Finishing a e = record { early = tt; late = λ h. h; busy = λ h. h; calm = λ e. cc; sent = λ w h. refl; unsent = finish-unsent phase.Releasing refl; past = λ k n h. inr (h, refl) }
gives-up phase.Draining phase.Finishing a e = record { early = tt; late = λ h. h; busy = λ h. h; calm = λ e. cc; sent = λ w h. refl; unsent = finish-unsent phase.Draining refl; past = λ k n h. inr (h, refl) }
gives-up phase.Flashing phase.Reverting a e = record { early = tt; late = λ h. h; busy = λ h. h; calm = λ e. cc; sent = flash-reverts; unsent = revert-unsent; past = λ k n h. by k n h }
  where
    by : (k n : ℕ) → (k < n) ⊎ ⊥ → (k < n) ⊎ ((k ≤ n) × (may_have_sent phase.Flashing phases.Flash ≡ false))
    by k n (inl less) = inl less
    by k n (inr never) = absurd never
gives-up p q a e = absurd cc

pub past-less : (p : PhaseName) (k n : ℕ) → k < n → IsPast p k n
past-less phase.Finishing k n less = omega arith
past-less p k n less = inl less

module _ (f : Flight) (s : ℕ) (n : ℕ) (vs : List Seen) where
  abbrev Fits : PhaseName → List ℕ → List Shown → Type 0
  Fits p owed reports = FlightFits f s p n owed reports vs

  module _ (p q : PhaseName) (owed : List ℕ) (reports : List Shown) (up : GivesUp p q) (fits : Fits p owed reports) where
    up-holds : (k : ℕ) (m : Message) → IsOrderFor f s phases.Hold k m → (k < n) ⊎ IsQuiet q → AllHeld k vs
    up-holds k m o (inl less) = fits.holds k m o (inl less)
    up-holds k m o (inr quiet) = absurd (up.busy quiet)

    up-flashes : (k : ℕ) (m : Message) → IsOrderFor f s phases.Flash k m → (k < n) ⊎ ((k ≤ n) × (may_have_sent p phases.Flash ≡ false)) → All (λ v. k ≤ v.floor) vs
    up-flashes k m o (inl less) = fits.flashes k m o (past-less p k n less)
    up-flashes k m o (inr never) = by (eqb_tells k n)
      where
        by : IsOrNot k n → All (λ v. k ≤ v.floor) vs
        by (inl is) = let sent = fits.so_far m o.order.here o.order.session (o.number ∙ is.1) in false_true never.1 (subst (λ w. may_have_sent p w ≡ true) o.works (sent.work (sent.early up.early)))
        by (inr other) = let low : k ≤ n = never.0 in let apart : k ≢ n = other.1 in fits.flashes k m o (past-less p k n (omega arith))

    up-sent : (m : Message) → In m f.messages → m.session ≡ s → m.order.number ≡ n → IsSentSoFar q (f.epoch s) m
    up-sent m i at is = record { early = λ e. absurd (up.late e); work = λ e. up.sent m.order.work ((fits.so_far m i at is).work e) }

    pub fits-given : (ks : List ℕ) → InPhase q n ks [] vs → Fits q ks []
    fits-given ks now = fits-begins f s p q n owed ks reports [] vs fits (record {
      so_far = up-sent;
      fenced = λ e m o is old h. early-fenced f s n vs p owed reports fits up.early m o is old;
      heard = λ e. absurd (up.calm e);
      holds = up-holds;
      flashes = λ k m o past. up-flashes k m o (up.past k n past);
      others = λ e. absurd (up.calm e);
      none = none-awaited f s p q n owed ks reports vs fits up.unsent;
      now = now;
    })

  -- ---- an epoch begins

  raised-eases : Eases f (raised s f) s
  raised-eases = record { orders = λ m o. record { here = o.here; session = o.session; starts = o.starts; asks = o.asks }; fence = λ x. omega arith }

  -- no message is of the new one
  module _ (p q : PhaseName) (owed : List ℕ) (reports : List Shown) (fits : Fits p owed reports) where
    later : (m : Message) → In m f.messages → m.session ≡ s → m.epoch < (raised s f).epoch s
    later m i is = let known : m.epoch ≤ f.epoch s = (fits.known m i is).epoch in let now : (raised s f).epoch s ≡ f.epoch s + 1 = at_same f.epoch s (f.epoch s + 1) in omega arith

    raised-known : (m : Message) → In m f.messages → m.session ≡ s → IsKnown ((raised s f).epoch s) n m
    raised-known m i is = let old = fits.known m i is in record { epoch = let less : m.epoch < (raised s f).epoch s = later m i is in omega arith; number = old.number; positive = old.positive; answers = old.answers }

    -- so none is awaited
    raised-none : (ks : List ℕ) (m : Message) → IsAwaited (raised s f) s q n ks m → ⊥
    raised-none ks m a = let less : m.epoch < (raised s f).epoch s = later m a.here a.session in let now : m.epoch ≡ (raised s f).epoch s = a.epoch in absurd (omega arith)

    pub fits-raised : (ks : List ℕ) → (IsEarly q → ⊥) → (IsFenced q → ⊥) → ((k : ℕ) → (k < n) ⊎ IsQuiet q → (k < n) ⊎ IsQuiet p) → ((k : ℕ) → IsPast q k n → IsPast p k n) → (q ≡ phase.Lost → All (λ v. is_owed ks v ≡ true) vs) → InPhase q n ks [] vs
        → FlightFits (raised s f) s q n ks [] vs
    fits-raised ks late loose quiet past all now = record {
      known = raised-known;
      so_far = λ m i at is. record { early = λ e. absurd (late e); work = λ e. let less : m.epoch < (raised s f).epoch s = later m i at in absurd (omega arith) };
      fenced = λ e. absurd (loose e);
      heard = λ e u h o. false_true o (all e u h);
      reached = λ e m a. absurd (raised-none ks m a);
      holds = λ k m o past. fits.holds k m (order-was f (raised s f) s raised-eases phases.Hold k m o) (quiet k past);
      after_holds = λ m o is late. fits.after_holds m (raised-eases.orders m o) is late;
      flashes = λ k m o h. fits.flashes k m (order-was f (raised s f) s raised-eases phases.Flash k m o) (past k h);
      commits = λ m o. fits.commits m (order-was f (raised s f) s raised-eases phases.Commit n m o);
      commit_way = λ m t. fits.commit_way m (threat-was f (raised s f) s raised-eases phases.Commit n vs m t);
      revert_way = λ m t. fits.revert_way m (threat-was f (raised s f) s raised-eases phases.Revert n vs m t);
      one_way = λ any c r oc or hc hr. outdated-ways f (raised s f) s raised-eases c r (fits.one_way any c r (order-was f (raised s f) s raised-eases phases.Commit n c oc) (order-was f (raised s f) s raised-eases phases.Revert n r or) hc hr);
      others = λ e k told. absurd told;
      others_come = λ e m a. absurd (raised-none ks m a);
      replies = none-taken (raised s f) s q n ks [] vs (raised-none ks) now;
      few = λ m a. absurd (raised-none ks m a);
      finished = λ e m a. absurd (raised-none ks m a);
    }

    -- a master is lost
    lost-quiet : (k : ℕ) → (k < n) ⊎ ⊥ → (k < n) ⊎ IsQuiet p
    lost-quiet k (inl less) = inl less
    lost-quiet k (inr never) = absurd never

    lost-past : (k : ℕ) → (k < n) ⊎ ⊥ → IsPast p k n
    lost-past k (inl less) = past-less p k n less
    lost-past k (inr never) = absurd never

  module _ (numbers : NumbersAgree n vs) (follows : Follows n vs) (servers : List ℕ) (serves : Serves servers vs) where
    pub fits-lost : (p : PhaseName) (owed : List ℕ) (reports : List Shown) → Fits p owed reports → FlightFits (raised s f) s phase.Lost n servers [] vs
    fits-lost p owed reports fits = fits-raised p phase.Lost owed reports fits servers (λ e. e) (λ e. e) (lost-quiet p phase.Lost owed reports fits) (lost-past p phase.Lost owed reports fits) (λ e. serves.each) (lost-begins n vs numbers follows servers serves)

    -- ---- an abort

    abort-by : (m : phases.Master) → m.servers ≡ servers → (q : PhaseName) → phases.aborted_phase m.phase ≡ Some q → FlightBy f s n vs m → FlightBy (cond (is_lost (Some q)) (raised s f) f) s n vs (phases.enters q m)
    abort-by m is phase.Lost e fits = subst (λ ks. FlightFits (raised s f) s phase.Lost n ks [] vs) (sym is) (fits-lost m.phase m.owed m.reports fits)
    abort-by m is q e fits = subst (λ ks. Fits q (phases.owed_first q ks) []) (sym is)
        (fits-given m.phase q m.owed m.reports (gives-up m.phase q e refl) fits (phases.owed_first q servers) (aborts-to n vs numbers follows servers serves m.phase q m.owed m.reports e (fits.replies [] tt)))

    pub fits-aborted : (m : phases.Master) → m.servers ≡ servers → FlightBy f s n vs m → FlightBy (cond (is_lost (phases.aborted_phase m.phase)) (raised s f) f) s n vs (phases.aborted m)
    fits-aborted m is fits = by (phases.aborted_phase m.phase) refl
      where
        by : (o : Option PhaseName) → phases.aborted_phase m.phase ≡ o → FlightBy (cond (is_lost o) (raised s f) f) s n vs (phases.enters_some o m)
        by None e = fits
        by (Some q) e = abort-by m is q e fits
