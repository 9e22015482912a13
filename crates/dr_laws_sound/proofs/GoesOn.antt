-- How sessions go on from one table to the next: what a lost master is told was told before, or members show it; and a master commits only
-- from where it did, from a phase up to the last flash, or where reports told both of a member that can go back and of one that can't.
use Rattle.std.proofs.Common.{ℕ, ◌≡◌, ◌≢◌, ◌+◌, ◌⊎◌, inl, inr, ap, sym, ◌∙◌, subst, Bool, true, false, cond, not, List, [], ◌∷◌}
use Rattle.std.specs.List.{list_any}
use Rattle.dr_ids.specs.declared.names.Member.{Member}
use Rattle.dr_ids.specs.declared.refusal.PhaseName.TheVariants as phase
use Rattle.dr_model.specs.Tables.{Once}
use Rattle.dr_model.specs.Decisions.{Shown}
use Rattle.dr_model.specs.Phases as phases
use Rattle.dr_model.specs.Messages.{Flight, Message, Asks, Replies, sent, answered}
use Rattle.dr_model.specs.Sessions.{Session, changed}
use Rattle.dr_model.specs.Control.{Control}
use Rattle.dr_model.specs.SessionEntries.{is_drained, counts_at, shown_at, members_on, shown_by_members, is_on, reply_after}
use Rattle.dr_model.specs.Groups.{In}
use Rattle.dr_model.specs.Attempts.{Any, phase_of, owed_of, reports_of}
use Rattle.dr_model.specs.Flights.{IsEarly, IsQuiet, IsAwaited, shown_by, shown_in}
use Rattle.dr_facts.proofs.Lists.{from-filter, from-map, in-joined}
use Rattle.dr_laws_sessions.specs.Frames.{Became}
use Rattle.dr_laws_sessions.proofs.Changes.{numbers, same-session, changed-in}

-- ---- what is known of members

-- a lost master of session x was told of such a member, or a reply in flight that it awaits tells of one
abbrev pub IsTold : Flight → Session → Shown → Type 0
IsTold f x q = (phase_of x.mirror ≡ phase.Lost) × (In q (reports_of x.mirror) ⊎ Any (λ (m : Message). IsAwaited f x.number phase.Lost x.last (owed_of x.mirror) m × In q (shown_in m.body)) f.messages)

-- the target of a member shows it
abbrev pub IsShown : Control → Session → Shown → Type 0
IsShown k x q = Any (λ (m : Member). (counts_at x.number k m ≡ true) × (q ≡ shown_at k m)) x.members

-- either of both
abbrev pub Knows : Control → Session → Shown → Type 0
Knows k x q = IsTold k.flight x q ⊎ IsShown k x q

-- what a server reports its members show
pub shown-by : (k : Control) (x : Session) (server : ℕ) (q : Shown) → In q (shown_by_members x.number (members_on server x.members) k) → IsShown k x q
shown-by k x server q h =
    let o = from-map (shown_at k) _ q h in
    let c = from-filter (counts_at x.number k) (members_on server x.members) o.from o.here in
    record { one = o.from; here = (from-filter (is_on server) x.members o.from c.0).0; is = (c.1, o.is) }

-- one can go back, and one can't, both from attempt n
abbrev pub TellsBoth : Control → Session → ℕ → Type 0
TellsBoth k x n = Knows k x (record { sequence = n; revertible = true }) × Knows k x (record { sequence = n; revertible = false })

-- ---- sessions

-- session x of a control state became y, with g in flight
pub record GoesOn (k : Control) (g : Flight) (x y : Session) : Type 0 where
  pub number : y.number ≡ x.number
  pub told : (q : Shown) → IsTold g y q → Knows k x q
  pub commits : phase_of y.mirror ≡ phase.Committing → (phase_of x.mirror ≡ phase.Committing) ⊎ (IsEarly (phase_of x.mirror) ⊎ TellsBoth k x x.last)

-- each session of the new table has no attempt, or one became it
abbrev pub AllGoOn : Control → List Session → Flight → Type 0
AllGoOn k ss g = (y : Session) → In y ss → IsQuiet (phase_of y.mirror) ⊎ Any (λ x. GoesOn k g x y) k.sessions

-- two sessions are alike but for their members
pub record Alike (x y : Session) : Type 0 where
  pub number : y.number ≡ x.number
  pub last : y.last ≡ x.last
  pub phase : phase_of y.mirror ≡ phase_of x.mirror
  pub owed : owed_of y.mirror ≡ owed_of x.mirror
  pub reports : reports_of y.mirror ≡ reports_of x.mirror

-- each message of session x was in flight, or shows what members show
abbrev pub ShowsMembers : Control → Flight → Session → Type 0
ShowsMembers k g x = (m : Message) → In m g.messages → m.session ≡ x.number → In m k.flight.messages ⊎ ((q : Shown) → In q (shown_in m.body) → IsShown k x q)

module _ (k : Control) (g : Flight) (x : Session) (messages : ShowsMembers k g x) (epoch : g.epoch x.number ≡ k.flight.epoch x.number) where
  -- what a reply in flight tells, where no more servers are owed
  pub told-flown : (y : Session) → y.number ≡ x.number → y.last ≡ x.last → phase_of x.mirror ≡ phase.Lost → ((server : ℕ) → phases.is_among server (owed_of y.mirror) ≡ true → phases.is_among server (owed_of x.mirror) ≡ true)
      → (q : Shown) → Any (λ (m : Message). IsAwaited g y.number phase.Lost y.last (owed_of y.mirror) m × In q (shown_in m.body)) g.messages → Knows k x q
  told-flown y number last lost fewer q any = by (messages any.one any.here (any.is.0.session ∙ number))
    where
      by : In any.one k.flight.messages ⊎ ((q : Shown) → In q (shown_in any.one.body) → IsShown k x q) → Knows k x q
      by (inl old) = inl (
        lost,
        inr (record {
          one = any.one;
          here = old;
          is = (
            record {
              here = old;
              session = any.is.0.session ∙ number;
              epoch = any.is.0.epoch ∙ (ap g.epoch number ∙ epoch);
              works = any.is.0.works;
              number = λ other. any.is.0.number other ∙ last;
              due = fewer any.one.server any.is.0.due;
              answers = any.is.0.answers;
            },
            any.is.1,
          );
        }),
      )
      by (inr new) = inr (new q any.is.1)

  -- it stays as it is
  pub goes-alike : (y : Session) → Alike x y → GoesOn k g x y
  goes-alike y a = record { number = a.number; told = λ q t. by q (sym a.phase ∙ t.0) t.1; commits = λ e. inl (sym a.phase ∙ e) }
    where
      by : (q : Shown) → phase_of x.mirror ≡ phase.Lost → In q (reports_of y.mirror) ⊎ Any (λ (m : Message). IsAwaited g y.number phase.Lost y.last (owed_of y.mirror) m × In q (shown_in m.body)) g.messages → Knows k x q
      by q lost (inl told) = inl (lost, inl (subst (In q) a.reports told))
      by q lost (inr any) = told-flown y a.number a.last lost (λ server h. subst (λ owed. phases.is_among server owed ≡ true) a.owed h) q any

-- ---- tables

alike-same : (x : Session) → Alike x x
alike-same x = record { number = λ i. x.number; last = λ i. x.last; phase = λ i. phase_of x.mirror; owed = λ i. owed_of x.mirror; reports = λ i. reports_of x.mirror }

module _ (k : Control) where
  -- other messages
  pub goes-flown : (g : Flight) → ((x : Session) → In x k.sessions → ShowsMembers k g x) → ((s : ℕ) → g.epoch s ≡ k.flight.epoch s) → AllGoOn k k.sessions g
  goes-flown g messages epoch y i = inr (record { one = y; here = i; is = goes-alike k g y (messages y i) (epoch y.number) y (alike-same y) })

  pub goes-fewer : (g : Flight) → ((m : Message) → In m g.messages → In m k.flight.messages) → ((s : ℕ) → g.epoch s ≡ k.flight.epoch s) → AllGoOn k k.sessions g
  goes-fewer g fewer = goes-flown g (λ x i m here at. inl (fewer m here))

  pub goes-same : AllGoOn k k.sessions k.flight
  goes-same = goes-fewer k.flight (λ m here. here) (λ s i. k.flight.epoch s)

  -- one session changes, with no new messages, and maybe its epoch
  module _ (once : Once (numbers k.sessions)) (s : ℕ) (g : Flight) (fewer : (m : Message) → In m g.messages → In m k.flight.messages) (epoch : (t : ℕ) → t ≢ s → g.epoch t ≡ k.flight.epoch t) where
    -- another one
    pub goes-other : (y : Session) → In y k.sessions → y.number ≢ s → Any (λ x. GoesOn k g x y) k.sessions
    goes-other y i ne = record { one = y; here = i; is = goes-alike k g y (λ m here at. inl (fewer m here)) (epoch y.number ne) y (alike-same y) }

    pub goes-one : (f : Session → Session) → ((x : Session) → In x k.sessions → x.number ≡ s → IsQuiet (phase_of (f x).mirror) ⊎ GoesOn k g x (f x)) → AllGoOn k (changed s f k.sessions) g
    goes-one f own y i = by (changed-in s f k.sessions y once i)
      where
        is : (x : Session) → In x k.sessions → y ≡ f x → IsQuiet (phase_of (f x).mirror) ⊎ GoesOn k g x (f x) → IsQuiet (phase_of y.mirror) ⊎ Any (λ x. GoesOn k g x y) k.sessions
        is x there e (inl quiet) = inl (subst (λ (z : Session). IsQuiet (phase_of z.mirror)) (sym e) quiet)
        is x there e (inr goes) = inr (record { one = x; here = there; is = subst (GoesOn k g x) (sym e) goes })

        by : (In y k.sessions × (y.number ≢ s)) ⊎ Became s f k.sessions y → IsQuiet (phase_of y.mirror) ⊎ Any (λ x. GoesOn k g x y) k.sessions
        by (inl o) = inr (goes-other y o.0 o.1)
        by (inr b) = is b.from b.listed b.is (own b.from b.listed b.number)

-- ---- messages that come

-- a flight with no new message, and in the same epochs
pub goes-still : (k : Control) (f g : Flight) (ss : List Session) → ((m : Message) → In m g.messages → In m f.messages) → ((s : ℕ) → g.epoch s ≡ f.epoch s) → AllGoOn k ss f → AllGoOn k ss g
goes-still k f g ss fewer epoch goes y i = by (goes y i)
  where
    still : (x : Session) → GoesOn k f x y → (q : Shown) → phase_of y.mirror ≡ phase.Lost → In q (reports_of y.mirror) ⊎ Any (λ (m : Message). IsAwaited g y.number phase.Lost y.last (owed_of y.mirror) m × In q (shown_in m.body)) g.messages → Knows k x q
    still x h q lost (inl told) = h.told q (lost, inl told)
    still x h q lost (inr any) = let a = any.is.0 in h.told q (
      lost,
      inr (record {
        one = any.one;
        here = fewer any.one any.here;
        is = (record { here = fewer any.one a.here; session = a.session; epoch = a.epoch ∙ epoch y.number; works = a.works; number = a.number; due = a.due; answers = a.answers }, any.is.1);
      }),
    )

    by : IsQuiet (phase_of y.mirror) ⊎ Any (λ x. GoesOn k f x y) k.sessions → IsQuiet (phase_of y.mirror) ⊎ Any (λ x. GoesOn k g x y) k.sessions
    by (inl quiet) = inl quiet
    by (inr any) = inr (record { one = any.one; here = any.here; is = record { number = any.is.number; told = λ q t. still any.one any.is q t.0 t.1; commits = any.is.commits } })

-- an order
pub goes-sent : (k : Control) (s server : ℕ) (o : phases.Order) → AllGoOn k k.sessions (sent s server o k.flight)
goes-sent k s server o = goes-flown k (sent s server o k.flight) (λ x i m here at. by x m (in-joined k.flight.messages (new ∷ []) m here)) (λ t i. k.flight.epoch t)
  where
    new : Message
    new = record { number = k.flight.made + 1; session = s; epoch = k.flight.epoch s; server = server; order = o; body = Asks (k.flight.starts server) }

    by : (x : Session) (m : Message) → In m k.flight.messages ⊎ In m (new ∷ []) → In m k.flight.messages ⊎ ((q : Shown) → In q (shown_in m.body) → IsShown k x q)
    by x m (inl old) = inl old
    by x m (inr (inl is)) = inr (λ q h. absurd (subst (λ (m : Message). In q (shown_in m.body)) is h))
    by x m (inr (inr none)) = absurd none

-- nothing is shown in a reply but what members show
pub reply-shown : (s : ℕ) (work : phases.Work) (ms : List Member) (k : Control) (q : Shown) → In q (shown_by (reply_after s work ms k)) → In q (shown_by_members s ms k)
reply-shown s phases.Seal ms k q h = absurd (by (list_any (λ (m : Member). not (is_drained m.a.0 k)) ms) h)
  where
    by : (b : Bool) → In q (shown_by (cond b phases.NotYet phases.Done)) → ⊥
    by true h = h
    by false h = h
reply-shown s phases.Report ms k q h = h
reply-shown s work ms k q h = absurd h

-- a reply by a server that has carried out an order over its members
pub goes-replied : (k : Control) (g : Flight) (m : Message) (work : phases.Work) (x : Session) → Once (numbers k.sessions) → In x k.sessions → x.number ≡ m.session → ((q : Message) → In q g.messages → In q k.flight.messages) → ((s : ℕ) → g.epoch s ≡ k.flight.epoch s)
    → AllGoOn k k.sessions (answered m (reply_after m.session work (members_on m.server x.members) k) g)
goes-replied k g m work x once listed number fewer epoch = goes-flown k (answered m reply g) (λ z i q here at. by z i q at (in-joined g.messages (new ∷ []) q here)) epoch
  where
    reply : phases.Reply
    reply = reply_after m.session work (members_on m.server x.members) k

    new : Message
    new = record { number = g.made + 1; session = m.session; epoch = m.epoch; server = m.server; order = m.order; body = Replies reply }

    shows : (z : Session) → x ≡ z → (o : Shown) → In o (shown_by reply) → IsShown k z o
    shows z same o h = subst (λ z. IsShown k z o) same
        (shown-by k x m.server o (subst (λ s. In o (shown_by_members s (members_on m.server x.members) k)) (sym number) (reply-shown m.session work (members_on m.server x.members) k o h)))

    by : (z : Session) → In z k.sessions → (q : Message) → q.session ≡ z.number → In q g.messages ⊎ In q (new ∷ []) → In q k.flight.messages ⊎ ((o : Shown) → In o (shown_in q.body) → IsShown k z o)
    by z i q at (inl old) = inl (fewer q old)
    by z i q at (inr (inl is)) = inr (λ o h. shows z (same-session k.sessions x z once listed i (number ∙ (ap (λ (q : Message). q.session) (sym is) ∙ at))) o (subst (λ (q : Message). In o (shown_in q.body)) is h))
    by z i q at (inr (inr none)) = absurd none
