-- Where a hold may come: as the first of an attempt, or for the last one, for which its primary wasn't held yet.
use Rattle.std.proofs.Common.{ℕ, ◌≡◌, ◌≢◌, ◌≤◌, ◌<◌, ◌+◌, ◌⊎◌, inl, inr, refl, ap, sym, ◌∙◌, arith, Bool, true, false, not, ◌&&◌, nat_eq, List, Option, Some, None, subst}
use Rattle.std.proofs.lemmas.Bool.{eq-eqb, false_from_ne_true, true_from_ne_false}
use Rattle.std.proofs.lemmas.Bool.Decides.{eqb_tells}
use Rattle.dr_logic.specs.Tables.{at, at2}
use Rattle.dr_ids.specs.declared.names.Member.{Member}
use Rattle.dr_ids.specs.declared.refusal.PhaseName.{PhaseName}
use Rattle.dr_ids.specs.declared.refusal.PhaseName.TheVariants as phase
use Rattle.dr_model.specs.Histories.{Lists, histories, lists}
use Rattle.dr_model.specs.Control.{Control, Pending, World}
use Rattle.dr_model.specs.Pairs.{held_for}
use Rattle.dr_model.specs.Moves.{Hold}
use Rattle.dr_model.specs.Entries.{fields_at}
use Rattle.dr_model.specs.Sessions.{Session, changed, begun}
use Rattle.dr_model.specs.Table.{table}
use Rattle.dr_model.specs.Messages.{Flight}
use Rattle.dr_model.specs.Groups.{In, IsMember, HoldsMember, OpensAttempt}
use Rattle.dr_model.specs.Attempts.{Seen, AllHeld, AttemptOf, InPhase, phase_of, owed_of, reports_of, all_seen, seen, roles, committed}
use Rattle.dr_model.specs.Laws.{SoundBut, AllPending, servers}
use Rattle.dr_model.specs.Allowed.{MayHold}
use Rattle.dr_model.specs.Cuts.{Cuts, cuts, cut_for}
use Rattle.dr_laws_sessions.specs.Frames.{Became}
use Rattle.dr_facts.proofs.Lists.{to-map}
use Rattle.dr_laws_sessions.proofs.Changes.{same-session, changed-in, changed-stays, changed-becomes}
use Rattle.dr_laws_sessions.proofs.Volumes.{idle-quiet}
use Rattle.dr_laws_sessions.proofs.Silent.{member-records, quiet-silent}
use Rattle.dr_laws_attempts.proofs.Tables.{quiet-unflashed}
use Rattle.dr_laws_cuts.specs.Sound.{SoundCuts}
use Rattle.dr_facts.proofs.Tables.{IsOrNot}
use Rattle.dr_laws_cuts.proofs.KeepsCut.{fresh}
use Rattle.dr_laws_closed.specs.Moments.{Moments, Standing, moments, standing}
use Rattle.dr_model.specs.Flights.{IsEarly, ComesAfterHolds}
use Rattle.dr_laws_closed.specs.Closing.{AllFields, AwaitsFlash, CountsFor, number_kept, MemberCounts, ClosingIn, Closing}
use Rattle.dr_laws_closed.proofs.Told.{ToldOf}
use Rattle.dr_laws_closed.proofs.Landed.{free-held}
use Rattle.dr_laws_closed.proofs.Flown.{closing-flown, eases-same}
use Rattle.dr_laws_closed.proofs.Counts.{numbered, does-count, shown-plain}
use Rattle.dr_laws_closed.proofs.Holds.{Under, Held, closing-held}
use Rattle.dr_logic.proofs.Truth.{false_true}

not-committed : (v : Seen) (n : ℕ) → v.member ≡ true → v.sequence ≡ n → v.revertible ≡ false → committed n v ≡ false → ⊥
not-committed v n member is plain none =
    let yes-is : committed n v ≡ true = ap (λ b. b && (nat_eq v.sequence n && not v.revertible)) member ∙ ap (λ b. b && not v.revertible) (eq-eqb v.sequence n is) ∙ ap not plain in
    false_true none yes-is

module _ (starts : Option ℕ) (w : World) (sound : SoundBut starts w) (kept : SoundCuts w) (old : Closing w) (v s n : ℕ) where
  abbrev k : Control
  k = w.control

  abbrev c : Cuts
  c = cuts w.events

  abbrev g : Standing
  g = standing w.events

  -- what the member's session was
  module _ (p : IsMember k v s) where
    same-as : (z : Session) → In z k.sessions → z.number ≡ s → z ≡ p.session
    same-as z i e = sym (same-session k.sessions p.session z sound.groups.once p.listed i (p.number ∙ sym e))

    at-session : (z : Session) (q : Member) → In z k.sessions → In q z.members → q.a.0 ≡ v → z.number ≡ s
    at-session z q i here e = (sound.groups.lone.one v z p.session q p.member i p.listed here p.here (inl (sym e)) (inl (sym p.is))).0 ∙ p.number

    -- no number that counts is greater than the session's last one
    counted-low : (z x j : ℕ) (m : MemberCounts k.sessions (fields_at k) z j x) → j ≤ m.session.last
    counted-low z x j m = which m.counts
      where
        which : CountsFor j (fields_at k m.member.c.0) → j ≤ m.session.last
        which (inl o) =
            let low : (fields_at k m.member.c.0).sequence ≤ m.session.last = (numbered k sound.groups sound.attempts m.session m.member m.listed m.here).sequence (does-count j (fields_at k m.member.c.0) (inl o)) in
            let is : (fields_at k m.member.c.0).sequence ≡ j = o.1 in
            omega arith
        which (inr o) =
            let low : number_kept (fields_at k m.member.c.0) ≤ (fields_at k m.member.c.0).floor = (numbered k sound.groups sound.attempts m.session m.member m.listed m.here).reached o.0 in
            let floor : (fields_at k m.member.c.0).floor ≤ m.session.last = (numbered k sound.groups sound.attempts m.session m.member m.listed m.here).floor in
            let is : j ≤ number_kept (fields_at k m.member.c.0) = o.1 in
            omega arith

    newest : MayHold (table w) v n → c.by n v ≡ None
    newest a = fresh (histories w.events).write (table w) sound.rows c (lists w.events) kept.laws.cut v n a

    -- ---- the first hold

    module _ (idle : p.mirror.master.phase ≡ phase.Idle) (next : n ≡ p.session.last + 1) (a : MayHold (table w) v n) where
      never-stood : (x : ℕ) → g s n x ≡ true → ⊥
      never-stood x h =
          let m = old.members s n x h in
          let low : n ≤ p.session.last = subst (λ (z : Session). n ≤ z.last) (same-as m.session m.listed m.number) (counted-low s x n m) in
          absurd (omega arith)

      low-seal : (q : Member) → In q p.session.members → (fields_at k q.b.0).seal ≢ n
      low-seal q here e = let low : (fields_at k q.b.0).seal ≤ p.session.last = (numbered k sound.groups sound.attempts p.session q p.listed here).seal in absurd (omega arith)

      back-by : (z : Session) → (In z k.sessions × (z.number ≢ s)) ⊎ Became s begun k.sessions z → (z ≡ begun p.session) ⊎ (In z k.sessions × (z.number ≢ s))
      back-by z (inl o) = inr o
      back-by z (inr b) = inl (b.is ∙ ap begun (same-as b.from b.listed b.number))

      opens : Held k.sessions (changed s begun k.sessions) k.flight (fields_at k) c g v s n
      opens = record {
        from = p.session;
        listed = p.listed;
        number = p.number;
        member = p.member;
        here = p.here;
        is = p.is;
        to = begun p.session;
        to_number = p.number;
        to_last = sym next;
        to_members = refl;
        back = λ z i. back-by z (changed-in s begun k.sessions z sound.groups.once i);
        there = changed-becomes s begun k.sessions p.session sound.groups.once p.listed p.number;
        on = λ z i ne. changed-stays s begun k.sessions z i ne;
        same = same-as;
        place = at-session;
        under = λ q here rec. false_true (quiet-silent k p.session q sound.groups p.listed (idle-quiet p.session p.mirror p.has_master idle) here) rec;
        unsealed = λ awaited q here. low-seal q here;
        unflashed = λ q here. quiet-unflashed (roles k) p.session (idle-quiet p.session p.mirror p.has_master idle) (sound.attempts.sessions p.session p.listed) (seen (roles k) q) (to-map (seen (roles k)) p.session.members q here);
        unstood = never-stood;
        fresh = newest a;
      }

    -- ---- a later hold

    module _ (newer : (fields_at k v).attempt < n) (last : n ≡ p.session.last) (a : MayHold (table w) v n) where
      abbrev vs : List Seen
      vs = all_seen (roles k) p.session.members

      own : AttemptOf (roles k) p.session
      own = sound.attempts.sessions p.session p.listed

      see : (q : Member) → In q p.session.members → In (seen (roles k) q) vs
      see q here = to-map (seen (roles k)) p.session.members q here

      -- this one wasn't held yet, so nothing that comes after all holds is there
      unheld : AllHeld p.session.last vs → ⊥
      unheld all =
          let was : p.session.last ≤ (fields_at k p.member.a.0).attempt = all (seen (roles k) p.member) (see p.member p.here) in
          let low : (fields_at k p.member.a.0).attempt < n = subst (λ u. (fields_at k u).attempt < n) (sym p.is) newer in
          absurd (omega arith)

      unflashed : (u : Seen) → In u vs → u.revertible ≡ false
      unflashed u h = false_from_ne_true u.revertible (λ r. unheld (own.follows.turned u h r))

      uncommitted : (u : Seen) → In u vs → committed p.session.last u ≡ false
      uncommitted u h = false_from_ne_true (committed p.session.last u) (λ c. unheld (own.follows.settled u h c).0)

      recorder-held : (u : Seen) → In u vs → u.recording ≡ true → u.held ≡ true
      recorder-held u h rec = true_from_ne_false u.held (λ f. unheld (own.follows.free u h rec f))

      unsealed-in : (q : PhaseName) → IsEarly q → InPhase q p.session.last (owed_of p.session.mirror) (reports_of p.session.mirror) vs → (u : Seen) → In u vs → u.seal ≢ p.session.last
      unsealed-in phase.Coordinating early h = h.unsealed
      unsealed-in phase.Releasing early h = λ u i. absurd (unheld h.held)
      unsealed-in phase.Draining early h = λ u i. absurd (unheld h.held)
      unsealed-in phase.Flashing early h = λ u i. absurd (unheld h.held)
      unsealed-in q early h = absurd early

      -- a flash is on its way only after all holds
      unsealed : AwaitsFlash k.flight p.session → (u : Seen) → In u vs → u.seal ≢ p.session.last
      unsealed (inl early) = unsealed-in (phase_of p.session.mirror) early own.phase
      unsealed (inr flies) = absurd (unheld ((sound.flights.each p.session p.listed).after_holds flies.one flies.is.order flies.is.number (subst ComesAfterHolds (sym flies.is.works) tt)))

      none-by : (q : Member) → In q p.session.members → CountsFor n (fields_at k q.c.0) → n ≤ p.session.last → ⊥
      none-by q here (inl o) low = false_true (unflashed (seen (roles k) q) (see q here)) o.0
      none-by q here (inr o) low =
          let plain : (fields_at k q.c.0).revertible ≡ false = unflashed (seen (roles k) q) (see q here) in
          let top : (fields_at k q.c.0).sequence ≤ p.session.last = (numbered k sound.groups sound.attempts p.session q p.listed here).sequence (does-count n (fields_at k q.c.0) (inr o)) in
          let up : n ≤ (fields_at k q.c.0).sequence = subst (λ j. n ≤ j) (shown-plain (fields_at k q.c.0) plain) o.1 in
          let is : (fields_at k q.c.0).sequence ≡ p.session.last = omega arith in
          not-committed (seen (roles k) q) p.session.last o.0 is plain (uncommitted (seen (roles k) q) (see q here))

      none-stands : (x : ℕ) → g s n x ≡ true → ⊥
      none-stands x h =
          let m = old.members s n x h in
          let same = same-as m.session m.listed m.number in
          none-by m.member (subst (λ (z : Session). In m.member z.members) same m.here) m.counts (subst (λ (z : Session). n ≤ z.last) same (counted-low s x n m))

      under : (q : Member) → In q p.session.members → (fields_at k q.a.0).recording ≡ true → Under (fields_at k q.a.0) c s n q.a.0
      under q here rec = record {
        held = recorder-held (seen (roles k) q) (see q here) rec;
        attempt = (member-records k p.session q sound.groups p.listed here rec).last ∙ sym last;
        cut = subst (λ j. c.by j q.a.0 ≡ Some s) (sym last) ((old.records p.session q p.listed here rec).by ∙ ap Some p.number);
      }

      holds : Held k.sessions k.sessions k.flight (fields_at k) c g v s n
      holds = record {
        from = p.session;
        listed = p.listed;
        number = p.number;
        member = p.member;
        here = p.here;
        is = p.is;
        to = p.session;
        to_number = p.number;
        to_last = sym last;
        to_members = refl;
        back = λ z i. which z i (eqb_tells z.number s);
        there = p.listed;
        on = λ z i ne. i;
        same = same-as;
        place = at-session;
        under = under;
        unflashed = λ q here. unflashed (seen (roles k) q) (see q here);
        unsealed = λ awaited q here e. unsealed awaited (seen (roles k) q) (see q here) (e ∙ last);
        unstood = none-stands;
        fresh = newest a;
      }
        where
          which : (z : Session) → In z k.sessions → IsOrNot z.number s → (z ≡ p.session) ⊎ (In z k.sessions × (z.number ≢ s))
          which z i (inl is) = inl (same-as z i is.1)
          which z i (inr other) = inr (i, other.1)

  -- ---- where they lead

  module _ (us : List Session) (h : Held k.sessions us k.flight (fields_at k) c g v s n) (first : Bool) (idle : AllPending (λ p. p.landed ≡ true → servers k p.volume ≡ servers k v → ⊥) k.pending) where
    leads : (x : World) → ToldOf w.events x.events (Hold v s n first) (k.volume v) → x.control.sessions ≡ us → x.control.flight.messages ≡ k.flight.messages → fields_at x.control ≡ at (fields_at k) v (held_for n (fields_at k v)) → x.control.pending ≡ k.pending → Closing x
    leads x told sessions messages fields pending =
        let C : Cuts = cuts x.events in
        let N : Moments = moments x.events in
        let G : Standing = standing x.events in
        let now : Lists = lists x.events in
        let F : AllFields = at (fields_at k) v (held_for n (fields_at k v)) in
        let to : Flight = x.control.flight in
        let cut : Cuts = cut_for s n v (lists w.events) c in
        let moment : Moments = at2 (moments w.events) s n (lists w.events) in
        subst (λ ss. ClosingIn ss to (fields_at x.control) x.control.pending now C N G) (sym sessions)
        (subst (λ (f : AllFields). ClosingIn us to f x.control.pending now C N G) (sym fields)
        (subst (λ (ps : List Pending). ClosingIn us to F ps now C N G) (sym pending)
        (subst (λ C. ClosingIn us to F k.pending now C N G) (sym told.cut)
        (subst (λ N. ClosingIn us to F k.pending now cut N G) (sym told.moment)
        (subst (λ G. ClosingIn us to F k.pending now cut moment G) (sym told.stand)
        (closing-flown us k.flight to F k.pending now cut moment g (eases-same us k.flight to messages)
        (closing-held k.sessions us k.flight (fields_at k) k.pending k.pending (lists w.events) now c (moments w.events) g v s n h old (λ u t. told.list u t tt)
        (free-held (fields_at k) v (held_for n (fields_at k v)) (servers k) k.pending idle old.free))))))))

  pub opened : (o : OpensAttempt k v s n) → MayHold (table w) v n → AllPending (λ p. p.landed ≡ true → servers k p.volume ≡ servers k v → ⊥) k.pending
      → (x : World) → ToldOf w.events x.events (Hold v s n true) (k.volume v) → x.control.sessions ≡ changed s begun k.sessions → x.control.flight.messages ≡ k.flight.messages → fields_at x.control ≡ at (fields_at k) v (held_for n (fields_at k v)) → x.control.pending ≡ k.pending → Closing x
  opened o a idle = leads (changed s begun k.sessions) (opens o.place o.idle o.next a) true idle

  pub held : (first : Bool) (o : HoldsMember k v s n) → (fields_at k v).attempt < n → MayHold (table w) v n → AllPending (λ p. p.landed ≡ true → servers k p.volume ≡ servers k v → ⊥) k.pending
      → (x : World) → ToldOf w.events x.events (Hold v s n first) (k.volume v) → x.control.sessions ≡ k.sessions → x.control.flight.messages ≡ k.flight.messages → fields_at x.control ≡ at (fields_at k) v (held_for n (fields_at k v)) → x.control.pending ≡ k.pending → Closing x
  held first o newer a idle = leads k.sessions (holds o.place newer o.last a) first idle
