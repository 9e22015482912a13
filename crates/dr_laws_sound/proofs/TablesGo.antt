-- How each line on sessions, each reply and each stop of a master's server lets sessions go on.
use Rattle.std.proofs.Common.{ℕ, ◌≡◌, ◌≢◌, ◌≤◌, ◌+◌, ◌⊎◌, inl, inr, refl, ap, sym, ◌∙◌, subst, arith, Bool, true, false, cond, not, ◌&&◌, List, [], ◌∷◌, ◌++◌, Option, Some, None, option_map}
use Rattle.dr_ids.specs.declared.names.Member.{Member}
use Rattle.dr_ids.specs.declared.refusal.PhaseName.{PhaseName}
use Rattle.dr_ids.specs.declared.refusal.PhaseName.TheVariants as phase
use Rattle.dr_ids.specs.declared.refusal.Decision.{Decision}
use Rattle.dr_ids.specs.declared.refusal.Decision.TheVariants.{CommitRest}
use Rattle.dr_model.specs.Decisions.{Shown, decision}
use Rattle.dr_model.specs.Phases as phases
use Rattle.dr_model.specs.Messages.{Flight, Message, is_lost, raised, loses_in}
use Rattle.dr_model.specs.Messages as messages
use Rattle.dr_model.specs.Sessions.{Session, Mirror, session_in, changed, without_session, joined, joins, joined_by, new_session, left, leaves, left_by, is_only, mirrored_by, paused, unmirrored, with_mirror, with_master, with_member, without_member, raised as raised_to, mirror_lost_since, lost_since}
use Rattle.dr_model.specs.Control.{Control}
use Rattle.dr_model.specs.Groups.{In, Groups}
use Rattle.dr_model.specs.Attempts.{Any, phase_of, owed_of, reports_of, roles, seen, seen_in, InPhase, Attempts}
use Rattle.dr_model.specs.Flights.{IsEarly, IsQuiet, IsAwaited, MayTake, owed_after, reports_after, shown_in, Flights}
use Rattle.dr_facts.proofs.Lists.{from-map, in-joined, in-second, to-map}
use Rattle.dr_laws_sessions.specs.Frames.{Became, Quiet}
use Rattle.dr_laws_sessions.proofs.Masters.{settled-found}
use Rattle.dr_laws_sessions.proofs.Changes.{session-found, same-session, changed-in, changed-once, without-in}
use Rattle.dr_laws_sessions.proofs.Members.{quiet-members}
use Rattle.dr_laws_sessions.proofs.Owed.{among-fewer}
use Rattle.dr_laws_attempts.proofs.Members.{quiet-raised}
use Rattle.dr_laws_attempts.proofs.Tables.{quiet-phase}
use Rattle.dr_laws_attempts.proofs.Reports.{commit-tells}
use Rattle.dr_laws_messages.proofs.Turns.{aside-raised, aside-aborted, loses-own, epoch-stays}
use Rattle.dr_logic.proofs.Tables.{at_same}
use Rattle.dr_laws_sound.proofs.GoesOn.{Knows, TellsBoth, GoesOn, AllGoOn, Alike, goes-alike, told-flown, goes-same, goes-other, goes-one}

-- a session that keeps its master
alike-master : (x : Session) (h : Mirror → Mirror) → ((r : Mirror) → (h r).master ≡ r.master) → Alike x (with_mirror h x)
alike-master x h same = record {
  number = refl;
  last = refl;
  phase = by phase_of refl (λ r. ap (λ (m : phases.Master). m.phase) (same r)) x.mirror;
  owed = by owed_of refl (λ r. ap (λ (m : phases.Master). m.owed) (same r)) x.mirror;
  reports = by reports_of refl (λ r. ap (λ (m : phases.Master). m.reports) (same r)) x.mirror;
}
  where
    by : {Y : Type 0} (part : Option Mirror → Y) → part None ≡ part None → ((r : Mirror) → part (Some (h r)) ≡ part (Some r)) → (o : Option Mirror) → part (option_map h o) ≡ part o
    by part none some None = none
    by part none some (Some r) = some r

-- no message is of an epoch that begins
none-later : (k : Control) (g : Flight) (x : Session) → Flights k → In x k.sessions → ((m : Message) → In m g.messages → In m k.flight.messages) → g.epoch x.number ≡ k.flight.epoch x.number + 1 → (n : ℕ) (owed : List ℕ) (m : Message) → IsAwaited g x.number phase.Lost n owed m → ⊥
none-later k g x flights i fewer next n owed m a =
    let low : m.epoch ≤ k.flight.epoch x.number = ((flights.each x i).known m (fewer m a.here) a.session).epoch in
    let now : m.epoch ≡ g.epoch x.number = a.epoch in
    let later : g.epoch x.number ≡ k.flight.epoch x.number + 1 = next in
    absurd (omega arith)

-- a master that is lost has heard nothing yet
goes-lost_one : (k : Control) (g : Flight) (x y : Session) → Flights k → In x k.sessions → ((m : Message) → In m g.messages → In m k.flight.messages) → g.epoch x.number ≡ k.flight.epoch x.number + 1 → y.number ≡ x.number → phase_of y.mirror ≡ phase.Lost → reports_of y.mirror ≡ [] → GoesOn k g x y
goes-lost_one k g x y flights i fewer next number lost none = record {
  number = number;
  told = λ q t. absurd (silent q t.1);
  commits = λ e. absurd (apart (sym lost ∙ e));
}
  where
    apart : ◌≡◌ {A = PhaseName} phase.Lost phase.Committing → ⊥
    apart e = cc

    silent : (q : Shown) → In q (reports_of y.mirror) ⊎ Any (λ (m : Message). IsAwaited g y.number phase.Lost y.last (owed_of y.mirror) m × In q (shown_in m.body)) g.messages → ⊥
    silent q (inl told) = subst (In q) none told
    silent q (inr any) = none-later k g x flights i fewer next y.last (owed_of y.mirror) any.one (subst (λ s. IsAwaited g s phase.Lost y.last (owed_of y.mirror) any.one) number any.is.0)

-- one in another phase
goes-apart : (k : Control) (g : Flight) (x y : Session) → y.number ≡ x.number → phase_of y.mirror ≢ phase.Lost → phase_of y.mirror ≢ phase.Committing → GoesOn k g x y
goes-apart k g x y number found other = record { number = number; told = λ q t. absurd (found t.0); commits = λ e. absurd (other e) }

module _ (k : Control) (groups : Groups k) where
  abbrev ss : List Session
  ss = k.sessions

  abbrev f : Flight
  f = k.flight

  -- one session changes, and no message nor any epoch
  own : (s : ℕ) (h : Session → Session) → ((x : Session) → Alike x (h x)) → AllGoOn k (changed s h ss) f
  own s h alike = goes-one k groups.once s f (λ m here. here) (λ t ne. refl) h (λ x i e. inr (goes-alike k f x (λ m here at. inl here) refl (h x) (alike x)))

  pub goes-paused : (s : ℕ) (on : Bool) → AllGoOn k (changed s (paused on) ss) f
  goes-paused s on = own s (paused on) (λ x. alike-master x (λ r. record r { paused = on }) (λ r. refl))

  pub goes-unmirrored : (s : ℕ) → AllGoOn k (changed s unmirrored ss) f
  goes-unmirrored s = goes-one k groups.once s f (λ m here. here) (λ t ne. refl) unmirrored (λ x i e. inl tt)

  pub goes-mirrored : (s server : ℕ) → AllGoOn k (changed s (mirrored_by server) ss) (raised s f)
  goes-mirrored s server = goes-one k groups.once s (raised s f) (λ m here. here) (aside-raised f s).epoch (mirrored_by server) (λ x i e. inl tt)

  -- ---- logical subsystems

  pub goes-joined : (s l : ℕ) → AllGoOn k (joined s l ss) f
  goes-joined s l = by (session_in ss s)
    where
      new : (y : Session) → In y ss ⊎ In y (new_session s l ∷ []) → IsQuiet (phase_of y.mirror) ⊎ Any (λ x. GoesOn k f x y) ss
      new y (inl i) = goes-same k y i
      new y (inr (inl is)) = inl (subst (λ (z : Session). IsQuiet (phase_of z.mirror)) (sym is) tt)
      new y (inr (inr never)) = absurd never

      by : (o : Option Session) → AllGoOn k (joins o s l ss) f
      by None y i = new y (in-joined ss (new_session s l ∷ []) y i)
      by (Some x) y i = own s (joined_by l) (λ x. record { number = refl; last = refl; phase = refl; owed = refl; reports = refl }) y i

  module _ (s l : ℕ) (g : Flight) (fewer : (m : Message) → In m g.messages → In m f.messages) (epoch : (t : ℕ) → g.epoch t ≡ f.epoch t) where
    stays : (y : Session) → In y ss → Any (λ x. GoesOn k g x y) ss
    stays y i = record { one = y; here = i; is = goes-alike k g y (λ m here at. inl (fewer m here)) (epoch y.number) y (record { number = refl; last = refl; phase = refl; owed = refl; reports = refl }) }

    leaves-by : (b : Bool) → AllGoOn k (cond b (without_session s ss) (changed s (left_by l) ss)) g
    leaves-by true y i = inr (stays y (without-in s ss y i))
    leaves-by false y i = goes-one k groups.once s g fewer (λ t ne. epoch t) (left_by l) (λ x i e. inr (goes-alike k g x (λ m here at. inl (fewer m here)) (epoch x.number) (left_by l x) (record { number = refl; last = refl; phase = refl; owed = refl; reports = refl }))) y i

    leaves-all : (o : Option Session) → AllGoOn k (leaves o s l ss) g
    leaves-all None y i = inr (stays y i)
    leaves-all (Some x) y i = leaves-by (is_only l x) y i

  pub goes-left : (s l : ℕ) (x : Session) → ((m : Message) → In m (messages.left s l x f).messages → In m f.messages) → AllGoOn k (left s l ss) (messages.left s l x f)
  goes-left s l x fewer = leaves-all s l (messages.left s l x f) fewer (λ t. by t (is_only l x)) (session_in ss s)
    where
      by : (t : ℕ) (b : Bool) → (cond b (messages.forgotten s f) f).epoch t ≡ f.epoch t
      by t true = refl
      by t false = refl

  -- ---- members

  pub goes-removed : (s a : ℕ) (x : Session) → session_in ss s ≡ Some x → Quiet x → AllGoOn k (changed s (without_member a) ss) f
  goes-removed s a x found quiet = goes-one k groups.once s f (λ m here. here) (λ t ne. refl) (without_member a) (λ z i e. inl (idle z (same-session ss x z groups.once there.0 i (there.1 ∙ sym e))))
    where
      there : In x ss × (x.number ≡ s)
      there = session-found ss s x found

      idle : (z : Session) → x ≡ z → IsQuiet (phase_of (without_member a z).mirror)
      idle z is = subst (λ (z : Session). IsQuiet (phase_of (without_member a z).mirror)) is (subst IsQuiet (sym (quiet-phase (without_member a x) (quiet-members _ x quiet))) tt)

  pub goes-added : (s n : ℕ) (x : Session) (m : Member) → session_in ss s ≡ Some x → Quiet x → AllGoOn k (changed s (with_member m) (changed s (raised_to n) ss)) f
  goes-added s n x m found quiet y i = by (changed-in s (with_member m) (changed s (raised_to n) ss) y (changed-once s (raised_to n) ss (λ x. refl) groups.once) i)
    where
      there : In x ss × (x.number ≡ s)
      there = session-found ss s x found

      idle : IsQuiet (phase_of (with_member m (raised_to n x)).mirror)
      idle = subst IsQuiet (sym (quiet-phase (with_member m (raised_to n x)) (quiet-members (x.members ++ m ∷ []) (raised_to n x) (quiet-raised n x quiet)))) tt

      grown : (z : Session) → z ≡ x → y ≡ with_member m (raised_to n z) → IsQuiet (phase_of y.mirror)
      grown z is e = subst (λ (z : Session). IsQuiet (phase_of z.mirror)) (sym (e ∙ ap (λ z. with_member m (raised_to n z)) is)) idle

      inner : (z : Session) → z.number ≡ s → y ≡ with_member m z → (In z ss × (z.number ≢ s)) ⊎ Became s (raised_to n) ss z → IsQuiet (phase_of y.mirror)
      inner z e is (inl o) = absurd (o.1 e)
      inner z e is (inr b) = grown b.from (same-session ss b.from x groups.once b.listed there.0 (b.number ∙ sym there.1)) (is ∙ ap (with_member m) b.is)

      outer : y.number ≢ s → (In y ss × (y.number ≢ s)) ⊎ Became s (raised_to n) ss y → Any (λ x. GoesOn k f x y) ss
      outer ne (inl o) = goes-other k groups.once s f (λ m here. here) (λ t ne. refl) y o.0 ne
      outer ne (inr b) = absurd (ne (ap (λ (z : Session). z.number) b.is ∙ b.number))

      by : (In y (changed s (raised_to n) ss) × (y.number ≢ s)) ⊎ Became s (with_member m) (changed s (raised_to n) ss) y → IsQuiet (phase_of y.mirror) ⊎ Any (λ x. GoesOn k f x y) ss
      by (inl o) = inr (outer o.1 (changed-in s (raised_to n) ss y groups.once o.0))
      by (inr b) = inl (inner b.from b.number b.is (changed-in s (raised_to n) ss b.from groups.once b.listed))

  -- ---- an attempt is given up

  module _ (flights : Flights k) (x : Session) (r : Mirror) (i : In x ss) (has : x.mirror ≡ Some r) where
    -- the session with the master that it has then
    abbrev now : phases.Master → Session
    now m = record x { mirror = Some (record r { master = m }) }

    abbrev GivenUp : PhaseName → Type 0
    GivenUp p = GoesOn k (cond (is_lost (phases.aborted_phase p)) (raised x.number f) f) x (now (phases.enters_some (phases.aborted_phase p) r.master))

    same-master : Alike x (now r.master)
    same-master = record {
      number = refl;
      last = refl;
      phase = ap phase_of (sym has);
      owed = ap owed_of (sym has);
      reports = ap reports_of (sym has);
    }

    given-up : (p : PhaseName) → GivenUp p
    given-up phase.Coordinating = goes-apart k f x _ refl (λ e. cc) (λ e. cc)
    given-up phase.Releasing = goes-apart k f x _ refl (λ e. cc) (λ e. cc)
    given-up phase.Draining = goes-apart k f x _ refl (λ e. cc) (λ e. cc)
    given-up phase.Flashing = goes-apart k f x _ refl (λ e. cc) (λ e. cc)
    given-up phase.Committing = goes-lost_one k (raised x.number f) x _ flights i (λ m here. here) (at_same f.epoch x.number (f.epoch x.number + 1)) refl refl refl
    given-up p = goes-alike k f x (λ m here at. inl here) refl (now r.master) same-master

  pub goes-aborted : Attempts k → Flights k → (s : ℕ) (x : Session) → session_in ss s ≡ Some x → (messages.aborted s x.mirror f).messages ≡ f.messages → AllGoOn k (changed s (with_master phases.aborted) ss) (messages.aborted s x.mirror f)
  goes-aborted law flights s x found still = goes-one k groups.once s (messages.aborted s x.mirror f) (λ m here. subst (In m) still here) (aside-aborted k groups law flights s x.mirror).epoch (with_master phases.aborted)
      (λ z i e. inr (subst (λ z. GoesOn k (messages.aborted s x.mirror f) z (with_master phases.aborted z)) (same-session ss x z groups.once there.0 i (there.1 ∙ sym e)) (subst (λ s. GoesOn k (messages.aborted s x.mirror f) x (with_master phases.aborted x)) there.1 (by x.mirror refl))))
    where
      there : In x ss × (x.number ≡ s)
      there = session-found ss s x found

      by : (o : Option Mirror) → x.mirror ≡ o → GoesOn k (messages.aborted x.number x.mirror f) x (with_master phases.aborted x)
      by None e = subst (λ o. GoesOn k (messages.aborted x.number o f) x (record x { mirror = option_map (λ (r : Mirror). record r { master = phases.aborted r.master }) o })) (sym e)
          (goes-alike k f x (λ m here at. inl here) refl (record x { mirror = None }) (record { number = refl; last = refl; phase = ap phase_of (sym e); owed = ap owed_of (sym e); reports = ap reports_of (sym e) }))
      by (Some r) e = subst (λ o. GoesOn k (messages.aborted x.number o f) x (record x { mirror = option_map (λ (r : Mirror). record r { master = phases.aborted r.master }) o })) (sym e) (given-up flights x r there.0 e r.master.phase)

  -- ---- masters are lost

  module _ (law : Attempts k) (flights : Flights k) (before on : ℕ → Bool) where
    abbrev g : Flight
    g = messages.lost_since before on ss f

    module _ (x : Session) (i : In x ss) where
      lost-to : (r : Mirror) (servers : List ℕ) → loses_in before on x.number ss ≡ is_lost (Some (phases.phase_lost servers)) → (m : phases.Master) → m.phase ≡ phases.phase_lost servers → m.reports ≡ []
          → IsQuiet m.phase ⊎ GoesOn k g x (record x { mirror = Some (record r { master = m }) })
      lost-to r [] e m is none = inl (subst IsQuiet (sym is) tt)
      lost-to r (q ∷ qs) e m is none = inr (goes-lost_one k g x _ flights i (λ m here. here) (ap (λ b. cond b (f.epoch x.number + 1) (f.epoch x.number)) e) refl is none)

      lost-by : (r : Mirror) → x.mirror ≡ Some r → (a b : Bool) → loses_in before on x.number ss ≡ (a && (b && is_lost (Some (phases.phase_lost r.master.servers))))
          → IsQuiet (cond (a && b) (record r { master = phases.lost r.master }) r).master.phase ⊎ GoesOn k g x (record x { mirror = Some (cond (a && b) (record r { master = phases.lost r.master }) r) })
      lost-by r has true true e = lost-to r r.master.servers e (phases.lost r.master) refl refl
      lost-by r has true false e = inr (goes-alike k g x (λ m here at. inl here) (epoch-stays k groups law flights before on x.number e) _ (same-master flights x r i has))
      lost-by r has false b e = inr (goes-alike k g x (λ m here at. inl here) (epoch-stays k groups law flights before on x.number e) _ (same-master flights x r i has))

      lost-session : (o : Option Mirror) → x.mirror ≡ o → IsQuiet (phase_of (option_map (mirror_lost_since before on) o)) ⊎ GoesOn k g x (record x { mirror = option_map (mirror_lost_since before on) o })
      lost-session None e = inl tt
      lost-session (Some r) e = lost-by r e (before r.server) (not (on r.server)) (loses-own k groups law flights before on x i ∙ ap (messages.loses_master before on) e)

    pub goes-lost : AllGoOn k (lost_since before on ss) g
    goes-lost y i =
        let o = from-map (with_mirror (mirror_lost_since before on)) ss y i in
        by y o.from o.is o.here (lost-session o.from o.here o.from.mirror refl)
      where
        by : (y x : Session) → y ≡ with_mirror (mirror_lost_since before on) x → In x ss → IsQuiet (phase_of (option_map (mirror_lost_since before on) x.mirror)) ⊎ GoesOn k g x (with_mirror (mirror_lost_since before on) x) → IsQuiet (phase_of y.mirror) ⊎ Any (λ x. GoesOn k g x y) ss
        by y x is here (inl quiet) = inl (subst (λ (z : Session). IsQuiet (phase_of z.mirror)) (sym is) quiet)
        by y x is here (inr goes) = inr (record { one = x; here = here; is = subst (GoesOn k g x) (sym is) goes })

  -- ---- a reply is taken

  module _ (law : Attempts k) (flights : Flights k) (x : Session) (i : In x ss) where
    -- one that can go back does so from the last attempt
    knows-last : (n : ℕ) → Knows k x (record { sequence = n; revertible = true }) → n ≡ x.last
    knows-last n (inl told) = by told.1
      where
        by : In (record { sequence = n; revertible = true }) (reports_of x.mirror) ⊎ Any (λ (m : Message). IsAwaited f x.number phase.Lost x.last (owed_of x.mirror) m × In (record { sequence = n; revertible = true }) (shown_in m.body)) f.messages → n ≡ x.last
        by (inl reported) = (subst (λ p. InPhase p x.last (owed_of x.mirror) (reports_of x.mirror) (seen_in k x)) told.0 (law.sessions x i).phase).last n reported
        by (inr any) = (subst (λ p. (ms : List Message) → MayTake f x.number p x.last (owed_of x.mirror) ms → InPhase p x.last (owed_after ms (owed_of x.mirror)) (reports_after ms (reports_of x.mirror)) (seen_in k x)) told.0 (flights.each x i).replies (any.one ∷ []) (any.is.0, tt)).last n (in-second (reports_of x.mirror) (shown_in any.one.body) _ any.is.1)
    knows-last n (inr shown) =
        let m : Member = shown.one in
        let own = (law.sessions x i).numbers.each (seen (roles k) m) (to-map (seen (roles k)) x.members m shown.here) in
        ap (λ (q : Shown). q.sequence) shown.is.1 ∙ own.last (sym (ap (λ (q : Shown). q.revertible) shown.is.1))

    module _ (r : Mirror) (has : x.mirror ≡ Some r) (server : ℕ) where
      abbrev then_with : phases.Master → Session
      then_with m = record x { mirror = Some (record r { master = m }) }

      -- in another phase than Lost the next one comes, or it stays
      done-next : (p q : PhaseName) → r.master.phase ≡ p → p ≢ phase.Lost → q ≡ phases.next_phase p → (q ≢ phase.Lost) × (q ≡ phase.Committing → (phase_of x.mirror ≡ phase.Committing) ⊎ (IsEarly (phase_of x.mirror) ⊎ TellsBoth k x x.last))
      done-next phase.Flashing q is busy next = (λ e. let no : phase.Committing ≡ phase.Lost = sym next ∙ e in cc, λ e. inr (inl (subst IsEarly (sym (ap phase_of has ∙ is)) tt)))
      done-next phase.Lost q is busy next = absurd (busy refl)
      done-next p q is busy next = (λ e. let no : phases.next_phase p ≡ phase.Lost = sym next ∙ e in cc, λ e. let no : phases.next_phase p ≡ phase.Committing = sym next ∙ e in absurd cc)

      goes-done : r.master.phase ≢ phase.Lost → (rest : List ℕ) → GoesOn k f x (then_with (phases.left_with r.master rest))
      goes-done busy [] = let next = done-next r.master.phase (phases.next_phase r.master.phase) refl busy refl in record { number = refl; told = λ q t. absurd (next.0 t.0); commits = next.1 }
      goes-done busy (z ∷ zs) = record { number = refl; told = λ q t. absurd (busy t.0); commits = λ e. inl (ap phase_of has ∙ e) }

      module _ (xs : List Shown) (lost : r.master.phase ≡ phase.Lost) (shows : (q : Shown) → In q xs → Knows k x q) where
        now-lost : phase_of x.mirror ≡ phase.Lost
        now-lost = ap phase_of has ∙ lost

        -- what was told and what is reported now
        told-by : (q : Shown) → In q (r.master.reports ++ xs) → Knows k x q
        told-by q h = by (in-joined r.master.reports xs q h)
          where
            by : In q r.master.reports ⊎ In q xs → Knows k x q
            by (inl old) = inl (now-lost, inl (subst (In q) (sym (ap reports_of has)) old))
            by (inr new) = shows q new

        settles : (d : Decision) → decision (r.master.reports ++ xs) ≡ d → phases.phase_by d ≡ phase.Committing → TellsBoth k x x.last
        settles (CommitRest n) e commits =
            let both = commit-tells (r.master.reports ++ xs) n e in
            let can = told-by _ both.0 in
            subst (TellsBoth k x) (knows-last n can) (can, told-by _ both.1)
        settles d e commits = absurd cc

        goes-told : (rest : List ℕ) → rest ≡ phases.without server r.master.owed → GoesOn k f x (then_with (phases.settled_where rest (record r.master { owed = rest; reports = r.master.reports ++ xs })))
        goes-told [] is = record { number = refl; told = λ q t. absurd (settled-found (decision (r.master.reports ++ xs)) t.0); commits = λ e. inr (inr (settles (decision (r.master.reports ++ xs)) refl e)) }
        goes-told (z ∷ zs) is = record { number = refl; told = λ q t. by q t.1; commits = λ e. absurd (apart (sym lost ∙ e)) }
          where
            apart : ◌≡◌ {A = PhaseName} phase.Lost phase.Committing → ⊥
            apart e = cc

            by : (q : Shown) → In q (r.master.reports ++ xs) ⊎ Any (λ (m : Message). IsAwaited f x.number phase.Lost x.last (z ∷ zs) m × In q (shown_in m.body)) f.messages → Knows k x q
            by q (inl told) = told-by q told
            by q (inr any) = told-flown k f x (λ m here at. inl here) refl (then_with (record r.master { owed = z ∷ zs })) refl refl now-lost
                (λ t h. subst (λ owed. phases.is_among t owed ≡ true) (sym (ap owed_of has)) (among-fewer t server r.master.owed (subst (λ owed. phases.is_among t owed ≡ true) is h))) q any

      goes-taken_by : (reply : phases.Reply) → ((xs : List Shown) → reply ≡ phases.Reported xs → (r.master.phase ≡ phase.Lost) × ((q : Shown) → In q xs → Knows k x q)) → (reply ≡ phases.Done → r.master.phase ≢ phase.Lost)
          → GoesOn k f x (then_with (phases.taken r.master server reply))
      goes-taken_by phases.Done told done = goes-done (done refl) (phases.without server r.master.owed)
      goes-taken_by phases.NotYet told done = goes-alike k f x (λ m here at. inl here) refl (then_with r.master) (same-master flights x r i has)
      goes-taken_by (phases.Reported xs) told done = let t = told xs refl in goes-told xs t.0 t.1 (phases.without server r.master.owed) refl

  pub goes-taken : Attempts k → Flights k → (s server : ℕ) (reply : phases.Reply) (x : Session) → session_in ss s ≡ Some x
      → ((xs : List Shown) → reply ≡ phases.Reported xs → (phase_of x.mirror ≡ phase.Lost) × ((q : Shown) → In q xs → Knows k x q)) → (reply ≡ phases.Done → phase_of x.mirror ≢ phase.Lost)
      → AllGoOn k (changed s (with_master (λ q. phases.taken q server reply)) ss) f
  goes-taken law flights s server reply x found told done = goes-one k groups.once s f (λ m here. here) (λ t ne. refl) (with_master (λ q. phases.taken q server reply))
      (λ z i e. subst (λ z. IsQuiet (phase_of (with_master (λ q. phases.taken q server reply) z).mirror) ⊎ GoesOn k f z (with_master (λ q. phases.taken q server reply) z)) (same-session ss x z groups.once there.0 i (there.1 ∙ sym e)) (by x.mirror refl))
    where
      there : In x ss × (x.number ≡ s)
      there = session-found ss s x found

      by : (o : Option Mirror) → x.mirror ≡ o → IsQuiet (phase_of (with_master (λ q. phases.taken q server reply) x).mirror) ⊎ GoesOn k f x (with_master (λ q. phases.taken q server reply) x)
      by None e = inl (subst (λ o. IsQuiet (phase_of (option_map (λ (r : Mirror). record r { master = phases.taken r.master server reply }) o))) (sym e) tt)
      by (Some r) e = inr (subst (λ o. GoesOn k f x (record x { mirror = option_map (λ (r : Mirror). record r { master = phases.taken r.master server reply }) o })) (sym e)
          (goes-taken_by law flights x there.0 r e server reply (λ xs is. let t = told xs is in (ap phase_of (sym e) ∙ t.0, t.1)) (λ is lost. done is (ap phase_of e ∙ lost))))
