-- What the messages in flight say of a session in which no attempt goes on, and of the one that begins.
use Rattle.std.proofs.Common.{ℕ, ◌≡◌, ◌≢◌, ◌≤◌, ◌<◌, ◌+◌, ◌⊎◌, inl, inr, refl, ap, sym, ◌∙◌, arith, List, subst, Some}
use Rattle.std.proofs.lemmas.Bool.Decides.{eqb_tells}
use Rattle.dr_ids.specs.declared.refusal.PhaseName.{PhaseName}
use Rattle.dr_ids.specs.declared.refusal.PhaseName.TheVariants as phase
use Rattle.dr_model.specs.Decisions.{Shown}
use Rattle.dr_model.specs.Phases as phases
use Rattle.dr_model.specs.Messages.{Flight, Message}
use Rattle.dr_model.specs.Groups.{In, IsOrder, IsOrderFor}
use Rattle.dr_model.specs.Attempts.{Seen, All, NoneRevertible, AllHeld, AllFlashed, WasFlashed, InPhase}
use Rattle.dr_model.specs.Flights.{IsKnown, ComesAfterHolds, IsAwaited, FlightFits}
use Rattle.dr_facts.proofs.Tables.{IsOrNot}
use Rattle.dr_laws_attempts.proofs.Facts.{all_by}
use Rattle.dr_laws_messages.proofs.Masters.{none-taken}
use Rattle.dr_logic.proofs.Truth.{false_true}

-- of session number s, whose last attempt n is over
pub record Rests (f : Flight) (s n : ℕ) (vs : List Seen) : Type 0 where
  pub known : (m : Message) → In m f.messages → m.session ≡ s → IsKnown (f.epoch s) n m
  pub holds : (k : ℕ) (m : Message) → IsOrderFor f s phases.Hold k m → AllHeld k vs
  pub after_holds : (m : Message) → IsOrder f s m → m.order.number ≡ n → ComesAfterHolds m.order.work → AllHeld n vs
  pub flashes : (k : ℕ) (m : Message) → IsOrderFor f s phases.Flash k m → All (λ v. k ≤ v.floor) vs
  pub commits : (m : Message) → IsOrderFor f s phases.Commit n m → AllFlashed n vs

-- nothing is awaited then
none-asked : (m : Message) → phases.work_in phase.Idle ≡ Some m.order.work → ⊥
none-asked m e = absurd cc

module _ (f : Flight) (s n : ℕ) (vs : List Seen) where
  rests-idle : (owed : List ℕ) (reports : List Shown) → FlightFits f s phase.Idle n owed reports vs → Rests f s n vs
  rests-idle owed reports fits = record {
    known = fits.known;
    holds = λ k m o. fits.holds k m o (inr tt);
    after_holds = fits.after_holds;
    flashes = λ k m o. fits.flashes k m o (inr tt);
    commits = fits.commits;
  }

  pub rests-of : (p : PhaseName) (owed : List ℕ) (reports : List Shown) → p ≡ phase.Idle → FlightFits f s p n owed reports vs → Rests f s n vs
  rests-of p owed reports e fits = rests-idle owed reports (subst (λ q. FlightFits f s q n owed reports vs) e fits)

  -- an order of the last attempt has its number
  pub rests-low : Rests f s n vs → (m : Message) → IsOrder f s m → m.order.number ≤ n
  rests-low rests m o = (rests.known m o.here o.session).number

  -- none can go back, so whatever comes meets none
  idle-rests : (owed : List ℕ) (reports : List Shown) → NoneRevertible vs → Rests f s n vs → FlightFits f s phase.Idle n owed reports vs
  idle-rests owed reports plain rests = let idle-none : (m : Message) → IsAwaited f s phase.Idle n owed m → ⊥ = λ m a. none-asked m a.works in record {
    known = rests.known;
    so_far = λ m i at is. record { early = λ e. absurd e; work = λ e. refl };
    fenced = λ e. absurd e;
    heard = λ e. absurd cc;
    reached = λ e. absurd cc;
    holds = λ k m o past. rests.holds k m o;
    after_holds = rests.after_holds;
    flashes = λ k m o past. rests.flashes k m o;
    commits = rests.commits;
    commit_way = λ m t. inr (λ u h r. false_true (plain u h) r);
    revert_way = λ m t. inr plain;
    one_way = λ any c r oc or hc hr. false_true (plain any.one any.here) any.is;
    others = λ e. absurd cc;
    others_come = λ e. absurd cc;
    replies = none-taken f s phase.Idle n owed reports vs idle-none plain;
    few = λ m a. absurd (idle-none m a);
    finished = λ e. absurd cc;
  }

  pub fits-rests : (p : PhaseName) (owed : List ℕ) (reports : List Shown) → p ≡ phase.Idle → NoneRevertible vs → Rests f s n vs → FlightFits f s p n owed reports vs
  fits-rests p owed reports e plain rests = subst (λ q. FlightFits f s q n owed reports vs) (sym e) (idle-rests owed reports plain rests)

  -- ---- the last number is raised, an attempt begins

  module _ (rests : Rests f s n vs) where
    known-later : (q : ℕ) → n ≤ q → (m : Message) → In m f.messages → m.session ≡ s → IsKnown (f.epoch s) q m
    known-later q up m i is = let old = rests.known m i is in record { epoch = old.epoch; number = let low : m.order.number ≤ n = old.number in omega arith; positive = old.positive; answers = old.answers }

    -- nothing of a later attempt is in flight
    none-later : {P : Type 0} (q : ℕ) → n < q → (m : Message) → In m f.messages → m.session ≡ s → m.order.number ≡ q → P
    none-later q later m i at is = let low : m.order.number ≤ n = (rests.known m i at).number in let same : m.order.number ≡ q = is in absurd (omega arith)

    rests-later : (q : ℕ) → n < q → Rests f s q vs
    rests-later q later = record {
      known = known-later q (omega arith);
      holds = rests.holds;
      after_holds = λ m o is late. none-later q later m o.here o.session is;
      flashes = rests.flashes;
      commits = λ m o. none-later q later m o.order.here o.order.session o.number;
    }

    pub rests-raised : (q : ℕ) → n ≤ q → Rests f s q vs
    rests-raised q up = by (eqb_tells n q)
      where
        by : IsOrNot n q → Rests f s q vs
        by (inl is) = subst (λ q. Rests f s q vs) is.1 rests
        by (inr other) = rests-later q (let d : n ≢ q = other.1 in omega arith)

    -- as it begins, no reply that is in flight is awaited
    begun-none : (owed : List ℕ) (m : Message) → IsAwaited f s phase.Coordinating (n + 1) owed m → ⊥
    begun-none owed m a = none-later (n + 1) (omega arith) m a.here a.session (a.number (λ e. let same : Some phases.Hold ≡ Some phases.Report = a.works ∙ ap Some e in absurd cc))

    pub fits-begun : (owed : List ℕ) (reports : List Shown) → InPhase phase.Coordinating (n + 1) owed reports vs → FlightFits f s phase.Coordinating (n + 1) owed reports vs
    fits-begun owed reports now = record {
      known = known-later (n + 1) (omega arith);
      so_far = λ m i at is. none-later (n + 1) (omega arith) m i at is;
      fenced = λ e. absurd e;
      heard = λ e. absurd cc;
      reached = λ e. absurd cc;
      holds = λ k m o past. rests.holds k m o;
      after_holds = λ m o is late. none-later (n + 1) (omega arith) m o.here o.session is;
      flashes = λ k m o past. rests.flashes k m o;
      commits = λ m o. none-later (n + 1) (omega arith) m o.order.here o.order.session o.number;
      commit_way = λ m t. none-later (n + 1) (omega arith) m t.order.order.here t.order.order.session t.order.number;
      revert_way = λ m t. none-later (n + 1) (omega arith) m t.order.order.here t.order.order.session t.order.number;
      one_way = λ any c r oc or hc hr. none-later (n + 1) (omega arith) c oc.order.here oc.order.session oc.number;
      others = λ e. absurd cc;
      others_come = λ e. absurd cc;
      replies = none-taken f s phase.Coordinating (n + 1) owed reports vs (begun-none owed) now;
      few = λ m a. absurd (begun-none owed m a);
      finished = λ e. absurd cc;
    }

    -- ---- a member more, or less

    -- one that comes has been held for the last number, and its target has come to that
    pub rests-more : (w : Seen) (us : List Seen) → ((u : Seen) → In u us → (u ≡ w) ⊎ In u vs) → n ≤ w.attempt → n ≤ w.floor → Rests f s n us
    rests-more w us back held past = record {
      known = rests.known;
      holds = λ k m o u h. all_by (λ u. k ≤ u.attempt) vs w u (back u h) (let low : k ≤ n = low k m o.order o.number in omega arith) (rests.holds k m o);
      after_holds = λ m o is late u h. all_by (λ u. n ≤ u.attempt) vs w u (back u h) held (rests.after_holds m o is late);
      flashes = λ k m o u h. all_by (λ u. k ≤ u.floor) vs w u (back u h) (let low : k ≤ n = low k m o.order o.number in omega arith) (rests.flashes k m o);
      commits = λ m o u h. all_by (WasFlashed n) vs w u (back u h) (inr past) (rests.commits m o);
    }
      where
        low : (k : ℕ) (m : Message) → IsOrder f s m → m.order.number ≡ k → k ≤ n
        low k m o is = subst (λ k. k ≤ n) is (rests-low rests m o)

    pub rests-fewer : (us : List Seen) → ((u : Seen) → In u us → In u vs) → Rests f s n us
    rests-fewer us sub = record {
      known = rests.known;
      holds = λ k m o u h. rests.holds k m o u (sub u h);
      after_holds = λ m o is late u h. rests.after_holds m o is late u (sub u h);
      flashes = λ k m o u h. rests.flashes k m o u (sub u h);
      commits = λ m o u h. rests.commits m o u (sub u h);
    }

-- where there is no message
pub rests-none : (f : Flight) (s : ℕ) (vs : List Seen) → ((m : Message) → In m f.messages → m.session ≡ s → ⊥) → (n : ℕ) → Rests f s n vs
rests-none f s vs none n = record {
  known = λ m i is. absurd (none m i is);
  holds = λ k m o. absurd (none m o.order.here o.order.session);
  after_holds = λ m o is late. absurd (none m o.here o.session);
  flashes = λ k m o. absurd (none m o.order.here o.order.session);
  commits = λ m o. absurd (none m o.order.here o.order.session);
}

-- and where there is no member
pub rests-empty : (f : Flight) (s n : ℕ) (vs : List Seen) → ((u : Seen) → In u vs → ⊥) → ((m : Message) → In m f.messages → m.session ≡ s → IsKnown (f.epoch s) n m) → Rests f s n vs
rests-empty f s n vs none known = record {
  known = known;
  holds = λ k m o u h. absurd (none u h);
  after_holds = λ m o is late u h. absurd (none u h);
  flashes = λ k m o u h. absurd (none u h);
  commits = λ m o u h. absurd (none u h);
}
