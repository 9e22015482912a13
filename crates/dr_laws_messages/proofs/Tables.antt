-- What the messages in flight say stays where one session of the table changes, and what becomes of the flight concerns that one alone.
use Rattle.std.proofs.Common.{ℕ, ◌≡◌, ◌≢◌, ◌≤◌, ◌⊎◌, inl, inr, refl, sym, ◌∙◌, true, arith, List, subst, Option, None, Some, is_some}
use Rattle.std.proofs.lemmas.Bool.Decides.{eqb_tells}
use Rattle.dr_model.specs.Tables.{Once}
use Rattle.dr_model.specs.Control.{Control}
use Rattle.dr_model.specs.Sessions.{Session, session_in, changed}
use Rattle.dr_model.specs.Messages.{Flight, Message}
use Rattle.dr_model.specs.Groups.{In}
use Rattle.dr_model.specs.Attempts.{Roles, roles, all_seen, phase_of, owed_of, reports_of}
use Rattle.dr_model.specs.Flights.{FlightIn, Flights}
use Rattle.dr_laws_sessions.specs.Frames.{Became}
use Rattle.dr_facts.proofs.Tables.{IsOrNot}
use Rattle.dr_laws_sessions.proofs.Changes.{numbers, session-found, none-numbered, same-session, changed-in, changed-stays, changed-becomes}
use Rattle.dr_laws_messages.proofs.Eased.{Eases, fits-fewer}

-- ---- a session has a number

pub record Home (ss : List Session) (s : ℕ) : Type 0 where
  pub session : Session
  pub listed : In session ss
  pub number : session.number ≡ s

pub home-of : (ss : List Session) (s : ℕ) → is_some (session_in ss s) ≡ true → Home ss s
home-of ss s has = by (session_in ss s) refl has
  where
    by : (o : Option Session) → session_in ss s ≡ o → is_some o ≡ true → Home ss s
    by None e none = absurd cc
    by (Some x) e h = let there = session-found ss s x e in record { session = x; listed = there.0; number = there.1 }

pub has-home : (ss : List Session) (s : ℕ) → Home ss s → is_some (session_in ss s) ≡ true
has-home ss s home = by (session_in ss s) refl
  where
    by : (o : Option Session) → session_in ss s ≡ o → is_some o ≡ true
    by None e = absurd (none-numbered ss s home.session e home.listed home.number)
    by (Some x) e = refl

pub home-changed : (s : ℕ) (f : Session → Session) (ss : List Session) (t : ℕ) → Once (numbers ss) → ((x : Session) → (f x).number ≡ x.number) → Home ss t → Home (changed s f ss) t
home-changed s f ss t once same home = by (eqb_tells home.session.number s)
  where
    by : IsOrNot home.session.number s → Home (changed s f ss) t
    by (inl is) = record { session = f home.session; listed = changed-becomes s f ss home.session once home.listed is.1; number = same home.session ∙ home.number }
    by (inr other) = record { session = home.session; listed = changed-stays s f ss home.session home.listed other.1; number = home.number }

-- ---- what becomes of the flight concerns one number

-- messages, epochs and fences of all other numbers stay
pub record Aside (f g : Flight) (s : ℕ) : Type 0 where
  pub messages : (m : Message) → In m g.messages → m.session ≢ s → In m f.messages
  pub epoch : (t : ℕ) → t ≢ s → g.epoch t ≡ f.epoch t
  pub fence : (t x : ℕ) → t ≢ s → g.fence t x ≡ f.fence t x

pub aside-same : (f : Flight) (s : ℕ) → Aside f f s
aside-same f s = record { messages = λ m i ne. i; epoch = λ t ne. refl; fence = λ t x ne. refl }

aside-eases : (f g : Flight) (s t : ℕ) → Aside f g s → t ≢ s → Eases f g t
aside-eases f g s t aside ne = record {
  orders = λ m o. record { here = aside.messages m o.here (λ e. ne (sym o.session ∙ e)); session = o.session; starts = o.starts; asks = o.asks };
  fence = λ x. let same : g.fence t x ≡ f.fence t x = aside.fence t x ne in omega arith;
}

module _ (k : Control) (flights : Flights k) where
  abbrev ss : List Session
  ss = k.sessions

  abbrev T : Roles
  T = roles k

  abbrev f : Flight
  f = k.flight

  flight-aside : (g : Flight) (s : ℕ) → Aside f g s → (x : Session) → In x ss → x.number ≢ s → FlightIn g T x
  flight-aside g s aside x i ne =
      fits-fewer f g x.number (aside-eases f g s x.number aside ne) (phase_of x.mirror) x.last (owed_of x.mirror) (reports_of x.mirror) (all_seen T x.members) (aside.epoch x.number ne) (flights.each x i)
      (λ m here at. aside.messages m here (λ e. ne (sym at ∙ e)))

  -- each message is one of a session still
  homes-aside : (g : Flight) (s : ℕ) → Aside f g s → ((m : Message) → In m g.messages → m.session ≡ s → Home ss s) → (m : Message) → In m g.messages → Home ss m.session
  homes-aside g s aside home m i = by (eqb_tells m.session s)
    where
      by : IsOrNot m.session s → Home ss m.session
      by (inl is) = subst (Home ss) (sym is.1) (home m i is.1)
      by (inr other) = home-of ss m.session (flights.homes m (aside.messages m i other.1))

  fences-aside : (g : Flight) (s : ℕ) → Aside f g s → ((x : ℕ) → g.fence s x ≤ g.epoch s) → (t x : ℕ) → g.fence t x ≤ g.epoch t
  fences-aside g s aside own t x = by (eqb_tells t s)
    where
      by : IsOrNot t s → g.fence t x ≤ g.epoch t
      by (inl is) = subst (λ t. g.fence t x ≤ g.epoch t) (sym is.1) (own x)
      by (inr other) =
          let was : f.fence t x ≤ f.epoch t = flights.fences t x in
          let fence : g.fence t x ≡ f.fence t x = aside.fence t x other.1 in
          let epoch : g.epoch t ≡ f.epoch t = aside.epoch t other.1 in
          omega arith

  -- the flight changes alone
  pub flights-told : (g : Flight) (s : ℕ) → Aside f g s → ((m : Message) → In m g.messages → m.session ≡ s → Home ss s) → ((x : ℕ) → g.fence s x ≤ g.epoch s) → ((x : Session) → In x ss → x.number ≡ s → FlightIn g T x) → Flights (record k { flight = g })
  flights-told g s aside home fences own = record {
    homes = λ m i. has-home ss m.session (homes-aside g s aside home m i);
    fences = fences-aside g s aside fences;
    each = λ x i. each x i (eqb_tells x.number s);
  }
    where
      each : (x : Session) → In x ss → IsOrNot x.number s → FlightIn g T x
      each x i (inl is) = own x i is.1
      each x i (inr other) = flight-aside g s aside x i other.1

  module _ (once : Once (numbers ss)) where
    -- one session changes, too
    pub flights-changed : (s : ℕ) (h : Session → Session) (g : Flight) → ((x : Session) → (h x).number ≡ x.number) → Aside f g s → ((m : Message) → In m g.messages → m.session ≡ s → Home ss s) → ((x : ℕ) → g.fence s x ≤ g.epoch s)
        → ((x : Session) → In x ss → x.number ≡ s → FlightIn g T (h x)) → Flights (record k { sessions = changed s h ss; flight = g })
    flights-changed s h g same aside home fences own = record {
      homes = λ m i. has-home (changed s h ss) m.session (home-changed s h ss m.session once same (homes-aside g s aside home m i));
      fences = fences-aside g s aside fences;
      each = λ y i. by y (changed-in s h ss y once i);
    }
      where
        by : (y : Session) → (In y ss × (y.number ≢ s)) ⊎ Became s h ss y → FlightIn g T y
        by y (inl o) = flight-aside g s aside y o.0 o.1
        by y (inr b) = subst (FlightIn g T) (sym b.is) (own b.from b.listed b.number)

    -- the one that is found
    pub flights-one : (s : ℕ) (h : Session → Session) (g : Flight) (x : Session) → session_in ss s ≡ Some x → ((x : Session) → (h x).number ≡ x.number) → Aside f g s → ((x : ℕ) → g.fence s x ≤ g.epoch s) → FlightIn g T (h x) → Flights (record k { sessions = changed s h ss; flight = g })
    flights-one s h g x found same aside fences own = let there = session-found ss s x found in
        flights-changed s h g same aside (λ m i is. record { session = x; listed = there.0; number = there.1 }) fences
        (λ y i e. subst (λ z. FlightIn g T (h z)) (same-session ss x y once there.0 i (there.1 ∙ sym e)) own)

    -- where the flight stays
    pub flights-kept : (s : ℕ) (h : Session → Session) → ((x : Session) → (h x).number ≡ x.number) → ((x : Session) → In x ss → x.number ≡ s → FlightIn f T (h x)) → Flights (record k { sessions = changed s h ss })
    flights-kept s h same own = flights-changed s h f same (aside-same f s) (λ m i is. subst (Home ss) is (home-of ss m.session (flights.homes m i))) (λ x. flights.fences s x) own

    pub flights-own : (s : ℕ) (h : Session → Session) (x : Session) → session_in ss s ≡ Some x → ((x : Session) → (h x).number ≡ x.number) → FlightIn f T (h x) → Flights (record k { sessions = changed s h ss })
    flights-own s h x found same own = flights-one s h f x found same (aside-same f s) (λ x. flights.fences s x) own
