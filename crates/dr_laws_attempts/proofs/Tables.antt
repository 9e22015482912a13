-- The laws of attempts stay where the table of sessions changes.
use Rattle.std.proofs.Common.{ℕ, ◌≡◌, ◌≢◌, ◌<◌, ◌≤◌, ◌⊎◌, ◌+◌, inl, inr, refl, ap, sym, ◌∙◌, subst, Bool, true, false, cond, not, ◌&&◌, ◌||◌, arith, nat_eq, List, [], ◌∷◌, ◌++◌, filter, Option, None, Some, option_map, ◌==◌}
use Rattle.std.specs.List.{list_any, range_with_len}
use Rattle.std.proofs.lemmas.Bool.{cases_Bool, and_parts, and_from, eq-eqb, eqb-true, ne_eqb, or_cases}
use Rattle.std.proofs.lemmas.Bool.Decides.{eqb_tells}
use Rattle.dr_logic.specs.Tables.{at}
use Rattle.dr_ids.specs.declared.names.Member.{Member}
use Rattle.dr_ids.specs.declared.refusal.PhaseName.TheVariants as phase
use Rattle.dr_ids.specs.declared.refusal.Decision.TheVariants.{Impossible}
use Rattle.dr_model.specs.Decisions.{Shown, decision}
use Rattle.dr_model.specs.Phases as phases
use Rattle.dr_model.specs.Control.{Control}
use Rattle.dr_model.specs.Pairs.{held_for}
use Rattle.dr_model.specs.Moves.{Carried}
use Rattle.dr_model.specs.Entries.{fields_at}
use Rattle.dr_model.specs.SessionEntries.{counts_at, shown_at, shown_by_members, members_on, is_drained}
use Rattle.dr_model.specs.SessionPlans.{answered_by}
use Rattle.dr_model.specs.Sessions.{Session, Mirror, session_in, servers_of, has_subsystem, has_member_in, is_only, subsystem_of, with_mirror, with_master, mirrored_by, unmirrored, paused, mirror_lost_since, lost_since, joined_by, left_by, new_session, changed, without_session, joins, joined, leaves, left, begun, leave_refusal, last_refusal, not_in_session, in_session, drop_refusal}
use Rattle.dr_model.specs.Groups.{In, SessionFits, Groups, OpensAttempt, IsMember}
use Rattle.dr_model.specs.Attempts.{Roles, roles, Seen, seen, all_seen, All, counts, NoneRevertible, NoneCommitted, SomeCommitted, AllAt, OneShown, NumbersAgree, Follows, is_owed, IsReported, AgreesOnLast, AgreesOnOther, InLost, InPhase, IsAttempt, phase_of, owed_of, reports_of, AttemptOf, AttemptsIn, Attempts, IsDone, ServerDone}
use Rattle.dr_laws_attempts.specs.Orders.{IsDoneFor}
use Rattle.dr_laws_sessions.specs.Frames.{Became, Moves, Quiet}
use Rattle.dr_facts.proofs.Tables.{IsOrNot}
use Rattle.dr_facts.proofs.Lists.{in-joined, in-first, from-filter, to-filter, from-map, to-map, any-some, all-each}
use Rattle.dr_laws_sessions.proofs.Changes.{session-found, same-session, changed-in, changed-stays, changed-becomes, without-in, without-stays}
use Rattle.dr_laws_sessions.proofs.Sound.{among-servers, quiet-drop, quiet-none}
use Rattle.dr_laws_sessions.proofs.Silent.{on-members, members-there, quiet-silent}
use Rattle.dr_laws_sessions.proofs.Volumes.{idle-quiet, fit-begun}
use Rattle.dr_laws_attempts.proofs.Facts.{counts-member, none-some, shown-plain, apart-none}
use Rattle.dr_laws_attempts.proofs.Reports.{never-impossible}
use Rattle.dr_laws_attempts.proofs.Stages.{AttemptBy, Serves, idle-none, idle-attempt, aborts, loses, done-has, done-after, done, Tells, told, reported, opens}
use Rattle.dr_laws_attempts.proofs.Places.{Steps, steps-keep, tries}
use Rattle.dr_laws_attempts.proofs.Moves.{roles-moved}
use Rattle.dr_logic.proofs.Truth.{false_true}

-- ---- a session by itself

record Found {X : Type 0} (p : X → Bool) (xs : List X) : Type 0 where
  one : X
  here : In one xs
  is : p one ≡ true

any-found : {X : Type 0} (p : X → Bool) (xs : List X) → list_any p xs ≡ true → Found p xs
any-found p [] h = absurd cc
any-found p (x ∷ xs) h = by (any-found p xs) (or_cases (p x) (list_any p xs) h)
  where
    by : (list_any p xs ≡ true → Found p xs) → (p x ≡ true) ⊎ (list_any p xs ≡ true) → Found p (x ∷ xs)
    by again (inl is) = record { one = x; here = inl refl; is = is }
    by again (inr more) = let r = again more in record { one = r.one; here = inr r.here; is = r.is }

-- the servers of its members
pub serves : (T : Roles) (k : Control) (x : Session) → SessionFits k x → Serves (servers_of x.members) (all_seen T x.members)
unfolding phases.servers_where
serves T k x fits = record {
  each = λ u h. let o = from-map (seen T) x.members u h in subst (λ u. is_owed (servers_of x.members) u ≡ true) (sym o.is) (among-servers x o.from fits.sound o.here);
  members = λ s i.
      let f = from-filter (λ n. list_any (λ (m : Member). n == m.server.0) x.members) (range_with_len 0 8) s i in
      let m = any-found (λ (m : Member). s == m.server.0) x.members f.1 in
      record { one = seen T m.one; here = to-map (seen T) x.members m.one m.here; is = sym (eqb-true s m.one.server.0 m.is) };
}

pub quiet-phase : (x : Session) → Quiet x → phase_of x.mirror ≡ phase.Idle
quiet-phase x quiet = by x.mirror refl
  where
    by : (o : Option Mirror) → x.mirror ≡ o → phase_of o ≡ phase.Idle
    by None e = refl
    by (Some r) e = quiet r e

pub quiet-unflashed : (T : Roles) (x : Session) → Quiet x → AttemptOf T x → NoneRevertible (all_seen T x.members)
quiet-unflashed T x quiet law = idle-none (phase_of x.mirror) x.last (owed_of x.mirror) (reports_of x.mirror) (all_seen T x.members) (quiet-phase x quiet) law

pub quiet-attempt : (T : Roles) (y : Session) → Quiet y → NumbersAgree y.last (all_seen T y.members) → Follows y.last (all_seen T y.members) → NoneRevertible (all_seen T y.members) → AttemptOf T y
quiet-attempt T y quiet n f none = idle-attempt (phase_of y.mirror) y.last (owed_of y.mirror) (reports_of y.mirror) (all_seen T y.members) (quiet-phase y quiet) n f none

pub attempt-by : (T : Roles) (x : Session) (r : Mirror) → x.mirror ≡ Some r → AttemptOf T x → AttemptBy x.last (all_seen T x.members) r.master
attempt-by T x r has law = subst (λ o. IsAttempt (phase_of o) x.last (owed_of o) (reports_of o) (all_seen T x.members)) has law

-- what a session becomes, and its laws stay
pub record Goes (T : Roles) (x y : Session) : Type 0 where
  pub attempt : AttemptOf T y
  pub keeps : (m : Member) → In m x.members → ((T m.c.0).member || (T m.c.0).revertible) ≡ true → In m y.members
  pub inside : (m : Member) → In m y.members → has_subsystem (subsystem_of m.a.0) y ≡ true

-- where its mirror changes
pub goes-mirror : (T : Roles) (x : Session) (g : Mirror → Mirror) → ((m : Member) → In m x.members → has_subsystem (subsystem_of m.a.0) x ≡ true) → AttemptOf T x
    → ((r : Mirror) → x.mirror ≡ Some r → AttemptBy x.last (all_seen T x.members) r.master → AttemptBy x.last (all_seen T x.members) (g r).master) → Goes T x (with_mirror g x)
goes-mirror T x g inside law f = record { attempt = by x.mirror refl law; keeps = λ m here c. here; inside = inside }
  where
    by : (o : Option Mirror) → x.mirror ≡ o → IsAttempt (phase_of o) x.last (owed_of o) (reports_of o) (all_seen T x.members) → IsAttempt (phase_of (option_map g o)) x.last (owed_of (option_map g o)) (reports_of (option_map g o)) (all_seen T x.members)
    by None e law = law
    by (Some r) e law = f r e law

-- ---- one session of the table changes

module _ (k : Control) (groups : Groups k) (law : Attempts k) where
  abbrev ss : List Session
  ss = k.sessions

  abbrev T : Roles
  T = roles k

  abbrev With : List Session → Type 0
  With qs = AttemptsIn qs T

  inside : (x : Session) → In x ss → (m : Member) → In m x.members → has_subsystem (subsystem_of m.a.0) x ≡ true
  inside x i m here = law.inside x m i here

  -- sessions come from the old ones, and go on in the new ones
  record Comes (qs : List Session) (y : Session) : Type 0 where
    from : Session
    goes : Goes T from y

  record Onward (qs : List Session) (x : Session) : Type 0 where
    to : Session
    listed : In to qs
    number : to.number ≡ x.number
    goes : Goes T x to

  with-table : (qs : List Session) → ((y : Session) → In y qs → Comes qs y) → ((x : Session) → In x ss → Onward qs x) → With qs
  with-table qs comes onward = record {
    sessions = λ y i. (comes y i).goes.attempt;
    volumes = λ v. let c = law.volumes v in record {
      counted = λ h. let t = c.counted h in let o = onward t.session t.listed in record {
        session = o.to;
        listed = o.listed;
        number = o.number ∙ t.number;
        member = t.member;
        here = o.goes.keeps t.member t.here (ap (λ u. (T u).member || (T u).revertible) t.is ∙ h);
        is = t.is;
        source = t.source;
        records = t.records;
        inhibits = t.inhibits;
        forward = t.forward;
      };
      uncounted = c.uncounted;
      previous = c.previous;
    };
    inside = λ y m i here. (comes y i).goes.inside m here;
  }

  goes-same : (x : Session) → In x ss → Goes T x x
  goes-same x i = record { attempt = law.sessions x i; keeps = λ m here c. here; inside = inside x i }

  with-changed : (s : ℕ) (f : Session → Session) → ((x : Session) → (f x).number ≡ x.number) → ((x : Session) → In x ss → x.number ≡ s → Goes T x (f x)) → With (changed s f ss)
  with-changed s f same goes = with-table (changed s f ss) (λ y i. comes y (changed-in s f ss y groups.once i)) (λ x i. onward x i (eqb_tells x.number s))
    where
      comes : (y : Session) → (In y ss × (y.number ≢ s)) ⊎ Became s f ss y → Comes (changed s f ss) y
      comes y (inl h) = record { from = y; goes = goes-same y h.0 }
      comes y (inr b) = record { from = b.from; goes = subst (Goes T b.from) (sym b.is) (goes b.from b.listed b.number) }

      onward : (x : Session) → In x ss → IsOrNot x.number s → Onward (changed s f ss) x
      onward x i (inl is) = record { to = f x; listed = changed-becomes s f ss x groups.once i is.1; number = same x; goes = goes x i is.1 }
      onward x i (inr other) = record { to = x; listed = changed-stays s f ss x i other.1; number = refl; goes = goes-same x i }

  -- what is said of the session that is found is said of each of that number
  pub with-one : (s : ℕ) (f : Session → Session) (x : Session) → session_in ss s ≡ Some x → ((x : Session) → (f x).number ≡ x.number) → Goes T x (f x) → With (changed s f ss)
  with-one s f x found same goes = let there = session-found ss s x found in
      with-changed s f same (λ y i e. subst (λ z. Goes T z (f z)) (same-session ss x y groups.once there.0 i (there.1 ∙ sym e)) goes)

  -- ---- masters

  pub with-mirrored : (s server : ℕ) (x : Session) → session_in ss s ≡ Some x → x.mirror ≡ None → With (changed s (mirrored_by server) ss)
  with-mirrored s server x found none = let there = session-found ss s x found in let own = law.sessions x there.0 in
      with-one s (mirrored_by server) x found (λ x. refl)
      (record { attempt = record { numbers = own.numbers; follows = own.follows; phase = quiet-unflashed T x (quiet-none x none) own; owes = tt }; keeps = λ m here c. here; inside = inside x there.0 })

  pub with-unmirrored : (s : ℕ) (x : Session) → session_in ss s ≡ Some x → drop_refusal x.mirror ≡ None → With (changed s unmirrored ss)
  with-unmirrored s x found idle = let there = session-found ss s x found in let own = law.sessions x there.0 in
      with-one s unmirrored x found (λ x. refl)
      (record { attempt = record { numbers = own.numbers; follows = own.follows; phase = quiet-unflashed T x (quiet-drop x idle) own; owes = tt }; keeps = λ m here c. here; inside = inside x there.0 })

  -- the servers of a session's master
  pub master-servers : (x : Session) (r : Mirror) → In x ss → x.mirror ≡ Some r → r.master.servers ≡ servers_of x.members
  master-servers x r i has = (groups.each x i).sound.servers r has

  pub with-paused : (s : ℕ) (on : Bool) → With (changed s (paused on) ss)
  with-paused s on = with-changed s (paused on) (λ x. refl) (λ x i e. goes-mirror T x (λ r. record r { paused = on }) (inside x i) (law.sessions x i) (λ r has own. own))

  pub with-aborted : (s : ℕ) → With (changed s (with_master phases.aborted) ss)
  with-aborted s = with-changed s (with_master phases.aborted) (λ x. refl) (λ x i e. goes-mirror T x (λ r. record r { master = phases.aborted r.master }) (inside x i) (law.sessions x i)
      (λ r has own. aborts x.last (all_seen T x.members) own.numbers own.follows (servers_of x.members) (serves T k x (groups.each x i)) r.master (master-servers x r i has) own))

  goes-lost : (before now : ℕ → Bool) (x : Session) → In x ss → Goes T x (with_mirror (mirror_lost_since before now) x)
  goes-lost before now x i = goes-mirror T x (mirror_lost_since before now) (inside x i) (law.sessions x i) (λ r has own. by r has own (before r.server && not (now r.server)))
    where
      by : (r : Mirror) → x.mirror ≡ Some r → AttemptBy x.last (all_seen T x.members) r.master → (b : Bool) → AttemptBy x.last (all_seen T x.members) (cond b (record r { master = phases.lost r.master }) r).master
      by r has own true = loses x.last (all_seen T x.members) own.numbers own.follows (servers_of x.members) (serves T k x (groups.each x i)) r.master (master-servers x r i has)
      by r has own false = own

  pub with-lost : (before now : ℕ → Bool) → With (lost_since before now ss)
  with-lost before now = with-table (lost_since before now ss)
      (λ y i. let o = from-map (with_mirror (mirror_lost_since before now)) ss y i in record { from = o.from; goes = subst (Goes T o.from) (sym o.is) (goes-lost before now o.from o.here) })
      (λ x i. record { to = with_mirror (mirror_lost_since before now) x; listed = to-map (with_mirror (mirror_lost_since before now)) ss x i; number = refl; goes = goes-lost before now x i })

  -- ---- replies

  -- a server has done what the phase asks of it, where the attempt is as the phase says without that
  pub with-after : (s server : ℕ) (x : Session) → session_in ss s ≡ Some x → ((r : Mirror) → x.mirror ≡ Some r → InPhase r.master.phase x.last (phases.without server r.master.owed) r.master.reports (all_seen T x.members)) → With (changed s (with_master (λ m. phases.replied m server phases.Done)) ss)
  with-after s server x found now = let there = session-found ss s x found in
      with-one s (with_master (λ m. phases.replied m server phases.Done)) x found (λ x. refl)
      (goes-mirror T x (λ r. record r { master = phases.replied r.master server phases.Done }) (inside x there.0) (law.sessions x there.0)
      (λ r has own. done-after x.last (all_seen T x.members) own.numbers own.follows (servers_of x.members) (serves T k x (groups.each x there.0)) server r.master (master-servers x r there.0 has) (now r has) own))

  -- what a server has done may have been done some time ago
  pub with-replied : (s server : ℕ) (x : Session) → session_in ss s ≡ Some x → ((r : Mirror) → x.mirror ≡ Some r → IsDoneFor r.master.phase x.last server (all_seen T x.members)) → With (changed s (with_master (λ m. phases.replied m server phases.Done)) ss)
  with-replied s server x found did = let there = session-found ss s x found in
      with-one s (with_master (λ m. phases.replied m server phases.Done)) x found (λ x. refl)
      (goes-mirror T x (λ r. record r { master = phases.replied r.master server phases.Done }) (inside x there.0) (law.sessions x there.0)
      (λ r has own. done x.last (all_seen T x.members) own.numbers own.follows (servers_of x.members) (serves T k x (groups.each x there.0)) server r.master (master-servers x r there.0 has) (did r has) own))

  pub has-done : (server : ℕ) (x : Session) → In x ss → ServerDone k x server → (r : Mirror) → x.mirror ≡ Some r → IsDoneFor r.master.phase x.last server (all_seen T x.members)
  has-done server x i all r has = let own = law.sessions x i in
      done-has x.last (all_seen T x.members) own.numbers own.follows (servers_of x.members) (serves T k x (groups.each x i)) server r.master.phase
      (λ work asks u h s. let o = from-map (seen T) x.members u h in subst (IsDone work x.last) (sym o.is) (all work (ap (λ o. phases.work_in (phase_of o)) has ∙ asks) o.from o.here (ap (λ (u : Seen). u.server) (sym o.is) ∙ s)))

  pub with-done : (s server : ℕ) (x : Session) → session_in ss s ≡ Some x → ServerDone k x server → With (changed s (with_master (λ m. phases.replied m server phases.Done)) ss)
  with-done s server x found all = with-replied s server x found (has-done server x (session-found ss s x found).0 all)

  pub with-waits : (s server : ℕ) → With (changed s (with_master (λ m. phases.replied m server phases.NotYet)) ss)
  with-waits s server = with-changed s (with_master (λ m. phases.replied m server phases.NotYet)) (λ x. refl) (λ x i e. goes-mirror T x (λ r. record r { master = phases.replied r.master server phases.NotYet }) (inside x i) (law.sessions x i) (λ r has own. own))

  -- a member's target that counts does so in its session
  pub counts-here : (x : Session) (m : Member) → In x ss → In m x.members → counts (seen T m) ≡ true → counts_at x.number k m ≡ true
  counts-here x m i here c =
      let t = (law.volumes m.c.0).counted c in
      let one = groups.lone.one m.c.0 t.session x t.member m t.listed i t.here here (inr (inr (sym t.is))) (inr (inr refl)) in
      and_from (nat_eq (fields_at k m.c.0).session x.number) ((fields_at k m.c.0).member || (fields_at k m.c.0).revertible) (eq-eqb (fields_at k m.c.0).session x.number (sym t.number ∙ one.0)) c

  pub tells : (x : Session) (server : ℕ) (i : In x ss) (own : NumbersAgree x.last (all_seen T x.members)) (follows : Follows x.last (all_seen T x.members))
      → Tells x.last (all_seen T x.members) own follows (servers_of x.members) (serves T k x (groups.each x i)) server (shown_by_members x.number (members_on server x.members) k)
  tells x server i own follows = record {
    from = λ r h.
        let o = from-map (shown_at k) (filter (counts_at x.number k) (members_on server x.members)) r h in
        let f = from-filter (counts_at x.number k) (members_on server x.members) o.from o.here in
        let here = (on-members server x.members o.from f.0).0 in
        record { seen = seen T o.from; here = to-map (seen T) x.members o.from here; counted = (and_parts (nat_eq (fields_at k o.from.c.0).session x.number) (counts (seen T o.from)) f.1).1; is = o.is };
    all = λ u h s c.
        let o = from-map (seen T) x.members u h in
        let at : o.from.server.0 ≡ server = ap (λ (u : Seen). u.server) (sym o.is) ∙ s in
        let counted : counts (seen T o.from) ≡ true = ap counts (sym o.is) ∙ c in
        subst (λ (u : Seen). In (record { sequence = u.sequence; revertible = u.revertible }) (shown_by_members x.number (members_on server x.members) k)) (sym o.is)
        (to-map (shown_at k) (filter (counts_at x.number k) (members_on server x.members)) o.from (to-filter (counts_at x.number k) (members_on server x.members) o.from (members-there server x.members o.from o.here at) (counts-here x o.from i o.here counted)));
  }

  pub with-reported : (s server : ℕ) (xs : List Shown) (x : Session) → session_in ss s ≡ Some x → ((r : Mirror) → x.mirror ≡ Some r → r.master.phase ≡ phase.Lost) → xs ≡ shown_by_members s (members_on server x.members) k
      → With (changed s (with_master (λ m. phases.taken m server (phases.Reported xs))) ss)
  with-reported s server xs x found lost is = let there = session-found ss s x found in
      with-one s (with_master (λ m. phases.taken m server (phases.Reported xs))) x found (λ x. refl)
      (goes-mirror T x (λ r. record r { master = phases.taken r.master server (phases.Reported xs) }) (inside x there.0) (law.sessions x there.0)
      (λ r has own. reported x.last (all_seen T x.members) own.numbers own.follows (servers_of x.members) (serves T k x (groups.each x there.0)) server r.master xs (master-servers x r there.0 has) (lost r has)
      (subst (Tells x.last (all_seen T x.members) own.numbers own.follows (servers_of x.members) (serves T k x (groups.each x there.0)) server) (sym (is ∙ ap (λ s. shown_by_members s (members_on server x.members) k) (sym there.1))) (tells x server there.0 own.numbers own.follows)) own))

  -- whatever it reports, where that fits a lost master
  pub with-told : (s server : ℕ) (xs : List Shown) (x : Session) → session_in ss s ≡ Some x → ((r : Mirror) → x.mirror ≡ Some r → (r.master.phase ≡ phase.Lost) × InLost x.last (phases.without server r.master.owed) (r.master.reports ++ xs) (all_seen T x.members))
      → With (changed s (with_master (λ m. phases.taken m server (phases.Reported xs))) ss)
  with-told s server xs x found fits = let there = session-found ss s x found in
      with-one s (with_master (λ m. phases.taken m server (phases.Reported xs))) x found (λ x. refl)
      (goes-mirror T x (λ r. record r { master = phases.taken r.master server (phases.Reported xs) }) (inside x there.0) (law.sessions x there.0)
      (λ r has own. let now = fits r has in told x.last (all_seen T x.members) own.numbers own.follows (servers_of x.members) (serves T k x (groups.each x there.0)) server r.master xs (master-servers x r there.0 has) now.0 now.1 own))

  -- ---- logical subsystems

  goes-joined : (l : ℕ) (x : Session) → In x ss → Goes T x (joined_by l x)
  goes-joined l x i = record { attempt = law.sessions x i; keeps = λ m here c. here; inside = λ m here. more (subsystem_of m.a.0) (inside x i m here) }
    where
      more : (n : ℕ) → has_subsystem n x ≡ true → has_subsystem n (joined_by l x) ≡ true
      more n h = let f = any-found _ x.subsystems h in any-some _ (x.subsystems ++ (record { 0 = l }) ∷ []) f.one (in-first x.subsystems ((record { 0 = l }) ∷ []) f.one f.here) f.is

  new-attempt : (s l : ℕ) → AttemptOf T (new_session s l)
  new-attempt s l = record {
    numbers = record { each = λ u h. absurd h; some = inl (λ u h. absurd h); none = inr (record { number = 1; apart = λ e. cc; same = λ u h. absurd h }) };
    follows = record { free = λ u h. absurd h; turned = λ u h. absurd h; settled = λ u h. absurd h; sealed = λ u h. absurd h };
    phase = λ u h. absurd h;
    owes = tt;
  }

  with-new : (s l : ℕ) → With (ss ++ new_session s l ∷ [])
  with-new s l = with-table (ss ++ new_session s l ∷ []) (λ y i. by y (in-joined ss (new_session s l ∷ []) y i)) (λ x i. record { to = x; listed = in-first ss (new_session s l ∷ []) x i; number = refl; goes = goes-same x i })
    where
      by : (y : Session) → In y ss ⊎ In y (new_session s l ∷ []) → Comes (ss ++ new_session s l ∷ []) y
      by y (inl i) = record { from = y; goes = goes-same y i }
      by y (inr (inl is)) = record { from = new_session s l; goes = subst (Goes T (new_session s l)) (sym is) (record { attempt = new-attempt s l; keeps = λ m here c. here; inside = λ m here. absurd here }) }
      by y (inr (inr none)) = absurd none

  pub with-joined : (s l : ℕ) → With (joined s l ss)
  with-joined s l = by (session_in ss s)
    where
      by : (o : Option Session) → With (joins o s l ss)
      by None = with-new s l
      by (Some x) = with-changed s (joined_by l) (λ x. refl) (λ x i e. goes-joined l x i)

  -- a session without members goes
  with-gone : (s : ℕ) → ((x : Session) → In x ss → x.number ≡ s → (m : Member) → In m x.members → ⊥) → With (without_session s ss)
  with-gone s empty = record {
    sessions = λ y i. law.sessions y (without-in s ss y i);
    volumes = λ v. let c = law.volumes v in record {
      counted = λ h. let t = c.counted h in record { session = t.session; listed = without-stays s ss t.session t.listed (λ e. empty t.session t.listed e t.member t.here); number = t.number; member = t.member; here = t.here; is = t.is; source = t.source; records = t.records; inhibits = t.inhibits; forward = t.forward };
      uncounted = c.uncounted;
      previous = c.previous;
    };
    inside = λ y m i here. law.inside y m (without-in s ss y i) here;
  }

  -- no member lies in a subsystem that leaves
  no-member : (x : Session) (s l : ℕ) → leave_refusal (Some x) s l ≡ None → has_member_in l x ≡ false
  no-member x s l h = by (has_subsystem l x) (has_member_in l x) h
    where
      by : (a b : Bool) → cond (not a) (not_in_session s) (cond b (in_session (Some x)) (cond (is_only l x) (last_refusal x.mirror) None)) ≡ None → b ≡ false
      by a false h = refl
      by false true h = absurd cc
      by true true h = absurd cc

  apart-from : (x : Session) (l : ℕ) (m : Member) → has_member_in l x ≡ false → In m x.members → subsystem_of m.a.0 ≢ l
  apart-from x l m none here e = false_true none (any-some (λ (m : Member). subsystem_of m.a.0 == l) x.members m here (eq-eqb (subsystem_of m.a.0) l e))

  goes-left : (s l : ℕ) (x : Session) → In x ss → leave_refusal (Some x) s l ≡ None → Goes T x (left_by l x)
  goes-left s l x i leaves_it = record { attempt = law.sessions x i; keeps = λ m here c. here; inside = λ m here. still (subsystem_of m.a.0) (apart-from x l m (no-member x s l leaves_it) here) (inside x i m here) }
    where
      still : (n : ℕ) → n ≢ l → has_subsystem n x ≡ true → has_subsystem n (left_by l x) ≡ true
      still n ne h = let f = any-found _ x.subsystems h in any-some _ (left_by l x).subsystems f.one (to-filter _ x.subsystems f.one f.here (ap not (ne_eqb f.one.0 l (λ e. ne (sym (eqb-true f.one.0 n f.is) ∙ e))))) f.is

  pub with-left : (s l : ℕ) (x : Session) → session_in ss s ≡ Some x → leave_refusal (Some x) s l ≡ None → With (left s l ss)
  with-left s l x found leaves_it = subst (λ o. With (leaves o s l ss)) (sym found) (by (cases_Bool (is_only l x)))
    where
      there : In x ss × (x.number ≡ s)
      there = session-found ss s x found

      is-x : (y : Session) → In y ss → y.number ≡ s → x ≡ y
      is-x y i e = same-session ss x y groups.once there.0 i (there.1 ∙ sym e)

      empty : is_only l x ≡ true → (m : Member) → In m x.members → ⊥
      empty only m here =
          let f = any-found _ x.subsystems (inside x there.0 m here) in
          apart-from x l m (no-member x s l leaves_it) here (sym (eqb-true f.one.0 (subsystem_of m.a.0) f.is) ∙ eqb-true f.one.0 l (all-each _ x.subsystems f.one only f.here))

      by : (is_only l x ≡ true) ⊎ (is_only l x ≡ false) → With (cond (is_only l x) (without_session s ss) (changed s (left_by l) ss))
      by (inl only) = subst (λ b. With (cond b (without_session s ss) (changed s (left_by l) ss))) (sym only) (with-gone s (λ y i e m here. empty only m (subst (λ (z : Session). In m z.members) (sym (is-x y i e)) here)))
      by (inr more) = subst (λ b. With (cond b (without_session s ss) (changed s (left_by l) ss))) (sym more) (with-one s (left_by l) x found (λ x. refl) (goes-left s l x there.0 leaves_it))

  -- ---- an attempt begins

  -- nobody records where there is none
  pub quiet-unrecorded : (x : Session) → In x ss → Quiet x → All (λ (u : Seen). u.recording ≡ false) (all_seen T x.members)
  quiet-unrecorded x i quiet u h = let o = from-map (seen T) x.members u h in ap (λ (u : Seen). u.recording) o.is ∙ quiet-silent k x o.from groups i quiet o.here

  attempt-begun : (x : Session) (r : Mirror) (m : Member) → In x ss → x.mirror ≡ Some r → r.master.phase ≡ phase.Idle → In m x.members → AttemptOf T (begun x)
  attempt-begun x r m i has idle here = let own = law.sessions x i in
      subst (λ o. IsAttempt (phase_of (option_map (λ (r : Mirror). record r { master = phases.begun r.master }) o)) (x.last + 1) (owed_of (option_map (λ (r : Mirror). record r { master = phases.begun r.master }) o)) (reports_of (option_map (λ (r : Mirror). record r { master = phases.begun r.master }) o)) (all_seen T x.members)) (sym has)
      (subst (λ ks. IsAttempt phase.Coordinating (x.last + 1) ks [] (all_seen T x.members)) (sym (master-servers x r i has))
      (opens x.last (all_seen T x.members) own.numbers (quiet-unflashed T x (idle-quiet x r has idle) own) (quiet-unrecorded x i (idle-quiet x r has idle)) (servers_of x.members) (serves T k x (groups.each x i)) (seen T m) (to-map (seen T) x.members m here)))

  pub with-begun : (s : ℕ) (x : Session) (r : Mirror) (m : Member) → In x ss → x.number ≡ s → x.mirror ≡ Some r → r.master.phase ≡ phase.Idle → In m x.members → With (changed s begun ss)
  with-begun s x r m listed number has idle here =
      with-changed s begun (λ x. refl) (λ y i e. subst (λ z. Goes T z (begun z)) (same-session ss x y groups.once listed i (number ∙ sym e))
      (record { attempt = attempt-begun x r m listed has idle here; keeps = λ m here c. here; inside = inside x listed }))

  -- with a hold that comes then
  pub with-opens : (v s n : ℕ) → OpensAttempt k v s n → With (changed s begun ss)
  with-opens v s n opens = let p : IsMember k v s = opens.place in with-begun s p.session p.mirror p.member p.listed p.number p.has_master opens.idle p.here

  pub opened-steps : (v s n : ℕ) → OpensAttempt k v s n → Steps k.flight (changed s begun ss) T (at T v (record (T v) { attempt = n; recording = true; held = true }))
  opened-steps v s n opens = let p : IsMember k v s = opens.place in let fit = fit-begun k v s n opens groups in
      tries k.flight (changed s begun ss) fit.lone T (with-opens v s n opens) v n true true (λ z m i here e.
      let listed : In (begun p.session) (changed s begun ss) = changed-becomes s begun ss p.session groups.once p.listed p.number in
      let one = fit.lone.one v (begun p.session) z p.member m listed i p.here here (inl (sym p.is)) (inl (sym e)) in
      let is : begun p.session ≡ z = same-session (changed s begun ss) (begun p.session) z fit.once listed i one.0 in
      let last : n ≡ z.last = opens.next ∙ ap (λ (z : Session). z.last) is in
      let low : (T p.member.a.0).attempt ≤ p.session.last = ((law.sessions p.session p.listed).numbers.each (seen T p.member) (to-map (seen T) p.session.members p.member p.here)).attempt in
      let next : n ≡ p.session.last + 1 = opens.next in
      record {
        up = subst (λ (q : Member). (T q.a.0).attempt ≤ n) one.1 (omega arith);
        low = omega arith;
        begun = λ r. inr (subst (λ (q : Member). (T q.a.0).attempt < z.last) one.1 (omega arith), inl (ap (λ (z : Session). phase_of z.mirror) (sym is) ∙ ap (λ o. phase_of (option_map (λ (r : Mirror). record r { master = phases.begun r.master }) o)) p.has_master));
        free = λ r h. absurd cc;
      })

  pub with-opened : (v s n : ℕ) → OpensAttempt k v s n → AttemptsIn (changed s begun ss) (at T v (record (T v) { attempt = n; recording = true; held = true }))
  with-opened v s n opens = steps-keep k.flight (changed s begun ss) T (at T v (record (T v) { attempt = n; recording = true; held = true })) (with-opens v s n opens) (opened-steps v s n opens)

pub attempts-begun : (k : Control) (s : ℕ) (x : Session) (r : Mirror) (m : Member) → Groups k → Attempts k → session_in k.sessions s ≡ Some x → x.mirror ≡ Some r → r.master.phase ≡ phase.Idle → In m x.members → Attempts (record k { sessions = changed s begun k.sessions })
attempts-begun k s x r m groups law found has idle here = let there = session-found k.sessions s x found in with-begun k groups law s x r m there.0 there.1 has idle here

pub attempts-opened : (k j : Control) (v s n : ℕ) (c : Carried) → j.sessions ≡ k.sessions → Moves k j v (held_for n (fields_at k v)) c → OpensAttempt k v s n → Groups k → Attempts k → Attempts (record j { sessions = changed s begun j.sessions })
attempts-opened k j v s n c same moves opens groups law =
    subst (λ S. AttemptsIn (changed s begun j.sessions) S) (sym (roles-moved k j v (held_for n (fields_at k v)) c moves))
    (subst (λ qs. AttemptsIn (changed s begun qs) (at (roles k) v (record (roles k v) { attempt = n; recording = true; held = true }))) (sym same) (with-opened k groups law v s n opens))

-- ---- what members show is never impossible to decide

module _ (k : Control) (groups : Groups k) (law : Attempts k) (x : Session) (listed : In x k.sessions) where
  abbrev vs : List Seen
  vs = all_seen (roles k) x.members

  own : AttemptOf (roles k) x
  own = law.sessions x listed

  -- a member that shows that
  record Shows (r : Shown) : Type 0 where
    seen_so : Seen
    here : In seen_so vs
    counted : counts seen_so ≡ true
    is : r ≡ record { sequence = seen_so.sequence; revertible = seen_so.revertible }

  shows : (r : Shown) → In r (shown_by_members x.number x.members k) → Shows r
  shows r h =
      let o = from-map (shown_at k) (filter (counts_at x.number k) x.members) r h in
      let f = from-filter (counts_at x.number k) x.members o.from o.here in
      record { seen_so = seen (roles k) o.from; here = to-map (seen (roles k)) x.members o.from f.0; counted = (and_parts (nat_eq (fields_at k o.from.c.0).session x.number) (counts (seen (roles k) o.from)) f.1).1; is = o.is }

  -- the number that those share which aren't revertible
  record Shares : Type 0 where
    number : ℕ
    same : All (λ u. counts u ≡ true → u.revertible ≡ false → u.sequence ≡ number) vs

  shares : SomeCommitted x.last vs ⊎ OneShown x.last vs → NoneCommitted x.last vs ⊎ AllAt x.last vs → Shares
  shares (inr one) d = record { number = one.number; same = λ u h c p. sym (shown-plain u p) ∙ one.same u h (counts-member u c p) }
  shares (inl had) (inl none) = none-some x.last vs none had
  shares (inl had) (inr all) = record { number = x.last; same = λ u h c p. all u h c }

  pub members-possible : (a b : ℕ) → decision (shown_by_members x.number x.members k) ≡ Impossible a b → ⊥
  members-possible a b e = let s = shares own.numbers.none own.numbers.some in
      never-impossible (shown_by_members x.number x.members k) x.last s.number a b
      (λ q h. let t = shows (record { sequence = q; revertible = true }) h in ap (λ (r : Shown). r.sequence) t.is ∙ (own.numbers.each t.seen_so t.here).last (sym (ap (λ (r : Shown). r.revertible) t.is)))
      (λ q h. let t = shows (record { sequence = q; revertible = false }) h in ap (λ (r : Shown). r.sequence) t.is ∙ s.same t.seen_so t.here t.counted (sym (ap (λ (r : Shown). r.revertible) t.is)))
      e

  -- nor is what was reported
  pub reports-possible : (r : Mirror) (a b : ℕ) → x.mirror ≡ Some r → r.master.phase ≡ phase.Lost → decision r.master.reports ≡ Impossible a b → ⊥
  reports-possible r a b has lost e = by h.agrees
    where
      h : InLost x.last r.master.owed r.master.reports vs
      h = subst (λ q. InPhase q x.last r.master.owed r.master.reports vs) lost (attempt-by (roles k) x r has own).phase

      by : AgreesOnLast x.last r.master.reports vs ⊎ AgreesOnOther x.last r.master.reports vs → ⊥
      by (inl l) = never-impossible r.master.reports x.last x.last a b h.last l.told e
      by (inr o) = never-impossible r.master.reports x.last o.shown.number a b h.last o.told e

pub session-possible : (k : Control) (s : ℕ) (x : Session) (a b : ℕ) → Groups k → Attempts k → session_in k.sessions s ≡ Some x → decision (shown_by_members s x.members k) ≢ Impossible a b
session-possible k s x a b groups law found e = let there = session-found k.sessions s x found in members-possible k groups law x there.0 a b (ap (λ s. decision (shown_by_members s x.members k)) there.1 ∙ e)

-- what a server answers to its order
pub with-answered : (k : Control) (s server : ℕ) (work : phases.Work) (x : Session) → Groups k → Attempts k → session_in k.sessions s ≡ Some x → (work ≡ phases.Report → (r : Mirror) → x.mirror ≡ Some r → r.master.phase ≡ phase.Lost) → (work ≢ phases.Report → ServerDone k x server)
    → Attempts (answered_by s server work (members_on server x.members) k)
with-answered k s server phases.Report x groups law found lost does = with-reported k groups law s server (shown_by_members s (members_on server x.members) k) x found (lost refl) refl
with-answered k s server phases.Seal x groups law found lost does = by (list_any (λ (m : Member). not (is_drained m.a.0 k)) (members_on server x.members))
  where
    by : (b : Bool) → AttemptsIn (changed s (with_master (λ m. phases.taken m server (cond b phases.NotYet phases.Done))) k.sessions) (roles k)
    by true = with-waits k groups law s server
    by false = with-done k groups law s server x found (does (λ e. cc))
with-answered k s server work x groups law found lost does = with-done k groups law s server x found (does (λ e. cc))

-- where one that isn't revertible was reported with the last number, some is committed or none is revertible; and where another
-- number was, none is committed
module _ (n : ℕ) (owed : List ℕ) (reports : List Shown) (vs : List Seen) (h : InLost n owed reports vs) where
  pub reported-last : IsReported n false reports → SomeCommitted n vs ⊎ NoneRevertible vs
  reported-last told = by h.agrees
    where
      by : AgreesOnLast n reports vs ⊎ AgreesOnOther n reports vs → SomeCommitted n vs ⊎ NoneRevertible vs
      by (inl l) = l.settled
      by (inr o) = absurd (o.shown.apart (sym (o.told n told)))

  pub reported-other : (q : ℕ) → IsReported q false reports → q ≢ n → NoneCommitted n vs
  reported-other q told ne = by h.agrees
    where
      by : AgreesOnLast n reports vs ⊎ AgreesOnOther n reports vs → NoneCommitted n vs
      by (inl l) = absurd (ne (l.told q told))
      by (inr o) = λ u i. apart-none n u (λ m e. o.shown.apart (sym (o.shown.same u i m) ∙ e))
