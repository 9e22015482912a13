-- Other tables of sessions and messages keep what the flashes of a journal have to do with sessions; and an attempt begins with none.
use Rattle.std.proofs.Common.{ℕ, ◌≡◌, ◌≢◌, ◌≤◌, ◌⊎◌, inl, inr, ap, sym, ◌∙◌, subst, true, false, nat_eq, List, Some}
use Rattle.std.proofs.lemmas.Bool.{and_parts, or_from}
use Rattle.dr_ids.specs.declared.names.Member.{Member}
use Rattle.dr_ids.specs.declared.refusal.PhaseName.{PhaseName}
use Rattle.dr_ids.specs.declared.refusal.PhaseName.TheVariants as phase
use Rattle.dr_model.specs.declared.event.Event.{Event}
use Rattle.dr_model.specs.Decisions.{Shown}
use Rattle.dr_model.specs.Messages.{Flight, Asks}
use Rattle.dr_model.specs.Sessions.{Session}
use Rattle.dr_model.specs.Control.{Control}
use Rattle.dr_model.specs.Entries.{fields_at}
use Rattle.dr_model.specs.SessionEntries.{counts_at}
use Rattle.dr_model.specs.Groups.{In, Groups}
use Rattle.dr_model.specs.Attempts.{Seen, Any, NoneRevertible, committed, SomeCommitted, WasFlashed, roles, seen, seen_in, phase_of, owed_of, reports_of, InPhase, Attempts}
use Rattle.dr_model.specs.Flights.{IsEarly, IsQuiet}
use Rattle.dr_facts.proofs.Lists.{from-map, to-map}
use Rattle.dr_laws_sessions.proofs.Changes.{same-session}
use Rattle.dr_laws_attempts.proofs.Facts.{bool_cases, is-committed}
use Rattle.dr_laws_closed.specs.Regroups.{Stays, Rests, Regroups}
use Rattle.dr_laws_sound.proofs.NewMessages.{IsAskedIn, Adds}
use Rattle.dr_laws_sound.proofs.GoesOn.{Knows, GoesOn, AllGoOn}
use Rattle.dr_laws_commits.specs.Flashed.{FlashedIn, AllFlashedIn}
use Rattle.dr_laws_commits.proofs.WereFlashed.{AllFields, members_seen, IsOpen, CommitFlies, IsSettling, WereFlashed}
use Rattle.dr_laws_commits.proofs.Turns.{commit-phase}
use Rattle.dr_logic.proofs.Truth.{false_true}

-- ---- a session without an attempt

quiet-none : (p : PhaseName) (n : ℕ) (owed : List ℕ) (reports : List Shown) (vs : List Seen) → IsQuiet p → InPhase p n owed reports vs → NoneRevertible vs
quiet-none phase.Idle n owed reports vs quiet h = h
quiet-none phase.None n owed reports vs quiet h = h
quiet-none p n owed reports vs quiet h = absurd quiet

quiet-late : (p : PhaseName) → IsQuiet p → IsEarly p → ⊥
quiet-late phase.Idle quiet early = early
quiet-late phase.None quiet early = early
quiet-late p quiet early = quiet

quiet-apart : (p : PhaseName) → IsQuiet p → (p ≢ phase.Lost) × (p ≢ phase.Committing)
quiet-apart phase.Idle quiet = (λ e. cc, λ e. cc)
quiet-apart phase.None quiet = (λ e. cc, λ e. cc)
quiet-apart p quiet = absurd quiet

-- where none can go back, in a phase that isn't early, and neither Lost nor Committing, nothing is asked
pub were_flashed-none : (f : Flight) (F : AllFields) (events : List Event) (x : Session) → NoneRevertible (members_seen F x) → ((m : Member) → In m x.members → (F m.c.0).revertible ≡ false) → (IsEarly (phase_of x.mirror) → (m : Member) → In m x.members → x.last ≤ (F m.c.0).floor → ⊥)
    → phase_of x.mirror ≢ phase.Lost → phase_of x.mirror ≢ phase.Committing → WereFlashed f F events x
were_flashed-none f F events x plain each late found other = record {
  turned = λ m here rev. false_true (each m here) rev;
  reached = λ early m here low. absurd (late early m here low);
  commits = λ e. absurd (other e);
  settles = λ can settling. absurd (by can);
}
  where
    by : IsOpen f F x → ⊥
    by (inl any) = false_true (plain any.one any.here) any.is
    by (inr told) = found told.0

-- ---- another table

module _ (k : Control) (groups : Groups k) (ss : List Session) (g : Flight) (law : Attempts (record k { sessions = ss; flight = g })) (turn : Regroups k.sessions ss) (adds : Adds k.sessions k.flight g) (goes : AllGoOn k ss g) (events : List Event)
    (old : (x : Session) → In x k.sessions → WereFlashed k.flight (fields_at k) events x) (y : Session) (i : In y ss) where
  abbrev F : AllFields
  F = fields_at k

  were_flashed-quiet : IsQuiet (phase_of y.mirror) → WereFlashed g F events y
  were_flashed-quiet quiet =
      let plain = quiet-none (phase_of y.mirror) y.last (owed_of y.mirror) (reports_of y.mirror) (seen_in k y) quiet (law.sessions y i).phase in
      let apart = quiet-apart (phase_of y.mirror) quiet in
      were_flashed-none g F events y plain (λ m here. plain (seen (roles k) m) (to-map (seen (roles k)) y.members m here)) (λ early m here low. quiet-late (phase_of y.mirror) quiet early) apart.0 apart.1

  -- it was session x
  module _ (x : Session) (listed : In x k.sessions) (h : GoesOn k g x y) where
    abbrev n : ℕ
    n = x.last

    -- a member was one of x, in the same attempt, and in an early phase where it is now; or y rests
    record Came (m : Member) : Type 0 where
      here : In m x.members
      last : y.last ≡ x.last
      early : IsEarly (phase_of y.mirror) → IsEarly (phase_of x.mirror)

    came : (m : Member) → In m y.members → Came m ⊎ IsQuiet (phase_of y.mirror)
    came m there = by (turn y m i there)
      where
        by : Stays k.sessions y m ⊎ Rests k.sessions y m → Came m ⊎ IsQuiet (phase_of y.mirror)
        by (inl t) =
            let same : t.was.session ≡ x = same-session k.sessions t.was.session x groups.once t.was.listed listed (sym t.number ∙ h.number) in
            inl (record {
              here = subst (λ (z : Session). In m z.members) same t.was.here;
              last = t.last ∙ ap (λ (z : Session). z.last) same;
              early = λ e. subst (λ (z : Session). IsEarly (phase_of z.mirror)) same (t.phase.early e);
            })
        by (inr r) = inr (subst IsQuiet (sym r.idle) tt)

    abbrev Was : Member → Type 0
    Was m = FlashedIn events y.number y.last m.a.0

    over : (m : Member) → y.last ≡ x.last → FlashedIn events x.number x.last m.a.0 → Was m
    over m last was = subst (λ s. FlashedIn events s y.last m.a.0) (sym h.number) (subst (λ j. FlashedIn events x.number j m.a.0) (sym last) was)

    -- what is known of a member with the last number
    knows-open : Knows k x (record { sequence = n; revertible = true }) → IsOpen k.flight F x
    knows-open (inl told) = inr told
    knows-open (inr shown) = inl (record { one = seen (roles k) shown.one; here = to-map (seen (roles k)) x.members shown.one shown.here; is = sym (ap (λ (q : Shown). q.revertible) shown.is.1) })

    knows-settling : Knows k x (record { sequence = n; revertible = false }) → IsSettling k.flight F x
    knows-settling (inl told) = inr (inl told)
    knows-settling (inr shown) =
        let m : Member = shown.one in
        let plain : (F m.c.0).revertible ≡ false = sym (ap (λ (q : Shown). q.revertible) shown.is.1) in
        inl (record {
          one = seen (roles k) m;
          here = to-map (seen (roles k)) x.members m shown.here;
          is = is-committed n (seen (roles k) m) (flag m shown.is.0 plain) plain (sym (ap (λ (q : Shown). q.sequence) shown.is.1));
        })
      where
        flag : (m : Member) → counts_at x.number k m ≡ true → (F m.c.0).revertible ≡ false → (F m.c.0).member ≡ true
        flag m counts plain = by (bool_cases (F m.c.0).member)
          where
            by : ((F m.c.0).member ≡ true) ⊎ ((F m.c.0).member ≡ false) → (F m.c.0).member ≡ true
            by (inl is) = is
            by (inr not) = false_true (or_from (F m.c.0).member (F m.c.0).revertible not plain) (and_parts (nat_eq (F m.c.0).session x.number) _ counts).1

    -- ---- each member

    turned-now : (m : Member) → In m y.members → (F m.c.0).revertible ≡ true → Was m
    turned-now m there rev = by (came m there)
      where
        by : Came m ⊎ IsQuiet (phase_of y.mirror) → Was m
        by (inl c) = over m c.last ((old x listed).turned m c.here rev)
        by (inr quiet) = (were_flashed-quiet quiet).turned m there rev

    reached-now : IsEarly (phase_of y.mirror) → (m : Member) → In m y.members → y.last ≤ (F m.c.0).floor → Was m
    reached-now early m there low = by (came m there)
      where
        by : Came m ⊎ IsQuiet (phase_of y.mirror) → Was m
        by (inl c) = over m c.last ((old x listed).reached (c.early early) m c.here (subst (λ j. j ≤ (F m.c.0).floor) c.last low))
        by (inr quiet) = absurd (quiet-late (phase_of y.mirror) quiet early)

    commits-now : phase_of y.mirror ≡ phase.Committing → AllFlashedIn events y y.last
    commits-now e m there = by (came m there)
      where
        -- from the last flash on each was flashed
        flashed : (c : Came m) → IsEarly (phase_of x.mirror) → WasFlashed y.last (seen (roles k) m) → Was m
        flashed c early (inl rev) = turned-now m there rev
        flashed c early (inr low) = over m c.last ((old x listed).reached early m c.here (subst (λ j. j ≤ (F m.c.0).floor) c.last low))

        from : (c : Came m) → (phase_of x.mirror ≡ phase.Committing) ⊎ (IsEarly (phase_of x.mirror) ⊎ (Knows k x (record { sequence = n; revertible = true }) × Knows k x (record { sequence = n; revertible = false }))) → Was m
        from c (inl still) = over m c.last ((old x listed).commits still m c.here)
        from c (inr (inl early)) = flashed c early ((subst (λ p. InPhase p y.last (owed_of y.mirror) (reports_of y.mirror) (seen_in k y)) e (law.sessions y i).phase).flashed (seen (roles k) m) (to-map (seen (roles k)) y.members m there))
        from c (inr (inr both)) = over m c.last ((old x listed).settles (knows-open both.0) (knows-settling both.1) m c.here)

        by : Came m ⊎ IsQuiet (phase_of y.mirror) → Was m
        by (inl c) = from c (h.commits e)
        by (inr quiet) = absurd ((quiet-apart (phase_of y.mirror) quiet).1 e)

    -- ---- where some can go back and some can't

    -- a member that was one of x, or y rests
    seen-came : (P : Seen → Type 0) → Any P (members_seen F y) → Any P (members_seen F x) ⊎ IsQuiet (phase_of y.mirror)
    seen-came P any = let o = from-map (seen (roles k)) y.members any.one any.here in by o.from (came o.from o.here) (subst P o.is any.is)
      where
        by : (m : Member) → Came m ⊎ IsQuiet (phase_of y.mirror) → P (seen (roles k) m) → Any P (members_seen F x) ⊎ IsQuiet (phase_of y.mirror)
        by m (inl c) is = inl (record { one = seen (roles k) m; here = to-map (seen (roles k)) x.members m c.here; is = is })
        by m (inr quiet) is = inr quiet

    module _ (last : y.last ≡ x.last) where
      opened : IsOpen g F y → IsOpen k.flight F x ⊎ IsQuiet (phase_of y.mirror)
      opened (inl any) = by (seen-came (λ v. v.revertible ≡ true) any)
        where
          by : Any (λ (v : Seen). v.revertible ≡ true) (members_seen F x) ⊎ IsQuiet (phase_of y.mirror) → IsOpen k.flight F x ⊎ IsQuiet (phase_of y.mirror)
          by (inl was) = inl (inl was)
          by (inr quiet) = inr quiet
      opened (inr told) = inl (knows-open (subst (λ j. Knows k x (record { sequence = j; revertible = true })) last (h.told (record { sequence = y.last; revertible = true }) told)))

      -- an order to commit was in flight, or all were flashed as it was sent
      flown : CommitFlies g y → CommitFlies k.flight x ⊎ AllFlashedIn events x x.last
      flown any = by (adds any.one any.is.order.here)
        where
          by : In any.one k.flight.messages ⊎ ((starts : ℕ) → any.one.body ≡ Asks starts → IsAskedIn k.sessions any.one) → CommitFlies k.flight x ⊎ AllFlashedIn events x x.last
          by (inl was) = let o = any.is.order in inl (record {
            one = any.one;
            here = was;
            is = record { order = record { here = was; session = o.session ∙ h.number; starts = o.starts; asks = o.asks }; works = any.is.works; number = any.is.number ∙ last };
          })
          by (inr new) =
              let asked = new any.is.order.starts any.is.order.asks in
              let same : asked.session ≡ x = same-session k.sessions asked.session x groups.once asked.listed listed (asked.number ∙ (any.is.order.session ∙ h.number)) in
              inr ((old x listed).commits (ap (λ (z : Session). phase_of z.mirror) (sym same) ∙ commit-phase (phase_of asked.session.mirror) (asked.asks ∙ ap Some any.is.works)))

      settling : IsSettling g F y → IsSettling k.flight F x ⊎ (IsQuiet (phase_of y.mirror) ⊎ AllFlashedIn events x x.last)
      settling (inl any) = by (seen-came (λ v. committed x.last v ≡ true) (subst (λ j. SomeCommitted j (members_seen F y)) last any))
        where
          by : SomeCommitted x.last (members_seen F x) ⊎ IsQuiet (phase_of y.mirror) → IsSettling k.flight F x ⊎ (IsQuiet (phase_of y.mirror) ⊎ AllFlashedIn events x x.last)
          by (inl was) = inl (inl was)
          by (inr quiet) = inr (inl quiet)
      settling (inr (inl told)) = inl (knows-settling (subst (λ j. Knows k x (record { sequence = j; revertible = false })) last (h.told (record { sequence = y.last; revertible = false }) told)))
      settling (inr (inr flies)) = by (flown flies)
        where
          by : CommitFlies k.flight x ⊎ AllFlashedIn events x x.last → IsSettling k.flight F x ⊎ (IsQuiet (phase_of y.mirror) ⊎ AllFlashedIn events x x.last)
          by (inl was) = inl (inr (inr was))
          by (inr all) = inr (inr all)

    settles-now : IsOpen g F y → IsSettling g F y → AllFlashedIn events y y.last
    settles-now can settles m there = by (came m there)
      where
        resting : IsQuiet (phase_of y.mirror) → Was m
        resting quiet = (were_flashed-quiet quiet).settles can settles m there

        both : (c : Came m) → IsOpen k.flight F x ⊎ IsQuiet (phase_of y.mirror) → IsSettling k.flight F x ⊎ (IsQuiet (phase_of y.mirror) ⊎ AllFlashedIn events x x.last) → Was m
        both c (inr quiet) s = resting quiet
        both c (inl o) (inl s) = over m c.last ((old x listed).settles o s m c.here)
        both c (inl o) (inr (inl quiet)) = resting quiet
        both c (inl o) (inr (inr all)) = over m c.last (all m c.here)

        by : Came m ⊎ IsQuiet (phase_of y.mirror) → Was m
        by (inl c) = both c (opened c.last can) (settling c.last settles)
        by (inr quiet) = resting quiet

    were_flashed-from : WereFlashed g F events y
    were_flashed-from = record { turned = turned-now; reached = reached-now; commits = commits-now; settles = settles-now }

  pub were_flashed-regrouped : WereFlashed g F events y
  were_flashed-regrouped = by (goes y i)
    where
      by : IsQuiet (phase_of y.mirror) ⊎ Any (λ x. GoesOn k g x y) k.sessions → WereFlashed g F events y
      by (inl quiet) = were_flashed-quiet quiet
      by (inr any) = were_flashed-from any.one any.here any.is
