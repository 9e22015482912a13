-- Each move of an order may come where its checks have passed, and at the end the order is done with each member of the server.
use Rattle.std.proofs.Common.{ℕ, ◌+◌, ◌≡◌, ◌≢◌, ◌<◌, ◌≤◌, ◌⊎◌, inl, inr, refl, ap, sym, ◌∙◌, subst, Bool, true, false, cond, not, ◌&&◌, ◌||◌, nat_eq, nat_lt, arith, List, [], ◌∷◌, Option, None, Some}
use Rattle.std.specs.List.{find}
use Rattle.std.proofs.lemmas.Bool.Decides.{eqb_tells}
use Rattle.std.proofs.lemmas.Bool.{and_parts, or_cases, eqb-true, eq-eqb, ltb-true, ltb-false, not-true}
use Rattle.std.proofs.lemmas.Option.{same_Some}
use Rattle.dr_logic.specs.Tables.{at}
use Rattle.dr_ids.specs.declared.names.Member.{Member}
use Rattle.dr_ids.specs.declared.refusal.PhaseName.{PhaseName}
use Rattle.dr_ids.specs.declared.refusal.PhaseName.TheVariants as phase
use Rattle.dr_ids.specs.declared.refusal.Refusal.TheVariants.{Stale}
use Rattle.dr_model.specs.Layout.{Fields}
use Rattle.dr_model.specs.Control.{Control}
use Rattle.dr_model.specs.Relations.{flashed, committed, reverted}
use Rattle.dr_model.specs.Pairs.{records, is_secondary_of, held_for, past_attempt, with_floor}
use Rattle.dr_model.specs.Moves.{Hold, Free, Seal, Finish, RaiseAttempt, RaiseFloor, Leave, Flash, Commit, Revert, Carried}
use Rattle.dr_model.specs.Entries.{fields_at, relation_state, secondary_state}
use Rattle.dr_model.specs.PairEntries.{reach_refusal, belongs_to, send_refusal}
use Rattle.dr_model.specs.SessionEntries.{stale_refusal, is_flashed, is_committed, may_flash, unflashed_refusal, flash_refusal, commit_refusal, is_past, last_of, members_on}
use Rattle.dr_model.specs.Phases as phases
use Rattle.dr_model.specs.Sessions.{Session, Mirror, session_in, has_place_of, busy}
use Rattle.dr_model.specs.Groups.{In, IsAt, Groups, Due, HoldsMember}
use Rattle.dr_model.specs.Attempts.{Roles, role_of, roles, Seen, seen_of, seen, all_seen, seen_in, NoneRevertible, NoneCommitted, AllAt, Blocked, phase_of, owed_of, Attempts, MemberOf, InAttempt, IsDone, WorkDone, ServerDone}
use Rattle.dr_model.specs.Flights.{IsQuiet, Flights}
use Rattle.dr_laws_sessions.specs.Frames.{Moves, HoldsOn, Holding}
use Rattle.dr_model.specs.SessionPlans.{is_idle, order_of}
use Rattle.dr_facts.proofs.Tables.{IsOrNot}
use Rattle.dr_facts.proofs.Lists.{to-map}
use Rattle.dr_laws_sessions.proofs.Changes.{session-found}
use Rattle.dr_laws_sessions.proofs.Silent.{member-of, members-there}
use Rattle.dr_laws_sessions.proofs.Sound.{quiet-of}
use Rattle.dr_laws_sessions.proofs.Members.{no-place}
use Rattle.dr_laws_attempts.specs.Orders.{DoneBut, LeavesTargetsAlone, TakenBut}
use Rattle.dr_laws_attempts.proofs.Facts.{bool_cases, Update}
use Rattle.dr_laws_attempts.proofs.Dues.{commit-flashed, revert-way, hold-busy, hold-unfinished}
use Rattle.dr_laws_attempts.proofs.Places.{is-placed, seen-apart, seen-a, seen-b, seen-c, update}
use Rattle.dr_laws_attempts.proofs.Moves.{roles-moved, is-secondary, at-place}
use Rattle.dr_laws_attempts.proofs.Tables.{quiet-unflashed}
use Rattle.dr_laws_sessions.proofs.Orders.{some-order, holding-on}
use Rattle.dr_facts.proofs.Refusals.{passed, second-none}
use Rattle.dr_logic.proofs.Truth.{false_true}

-- ---- what passed checks say

pub sends-to : (a b : ℕ) (k : Control) → send_refusal a b k ≡ None → is_secondary_of a (fields_at k b) ≡ true
sends-to a b k h = by (belongs_to a b k) (second-none (reach_refusal a b k) (cond (belongs_to a b k) None (Some (secondary_state k b))) h)
  where
    by : (c : Bool) → cond c None (Some (secondary_state k b)) ≡ None → c ≡ true
    by true h = refl
    by false h = absurd cc

pub sends-paired : (m : Member) (k : Control) → send_refusal m.a.0 m.b.0 k ≡ None → (seen (roles k) m).paired ≡ true
sends-paired m k h = sym (is-secondary m.a.0 (fields_at k m.b.0)) ∙ sends-to m.a.0 m.b.0 k h

pub record Flashable (b c n : ℕ) (k : Control) : Type 0 where
  pub free : may_flash b (fields_at k c) ≡ true
  pub low : (fields_at k c).floor < n
  pub sealed : (fields_at k b).seal ≡ n

pub flash-passed : (b c n : ℕ) (k : Control) → flash_refusal b c n k ≡ None → is_flashed n (fields_at k c) ≡ false → Flashable b c n k
flash-passed b c n k h none = by (sym (ap (λ t. cond t None (unflashed_refusal b c n k)) none) ∙ h)
  where
    by : unflashed_refusal b c n k ≡ None → Flashable b c n k
    by h =
        let p = passed (may_flash b (fields_at k c)) _ _ h in
        let q = passed (nat_lt (fields_at k c).floor n) _ _ p.1 in
        let r = passed (nat_eq (fields_at k b).seal n) _ _ q.1 in
        record { free = p.0; low = ltb-true (fields_at k c).floor n q.0; sealed = eqb-true (fields_at k b).seal n r.0 }

pub commit-passed : (c n : ℕ) (k : Control) → commit_refusal c n k ≡ None → is_committed n (fields_at k c) ≡ false → is_flashed n (fields_at k c) ≡ true
commit-passed c n k h none = by (or_cases (is_committed n (fields_at k c)) (is_flashed n (fields_at k c)) (either (is_committed n (fields_at k c) || is_flashed n (fields_at k c)) h))
  where
    either : (t : Bool) → cond t None (Some (relation_state k c)) ≡ None → t ≡ true
    either true h = refl
    either false h = absurd cc

    by : (is_committed n (fields_at k c) ≡ true) ⊎ (is_flashed n (fields_at k c) ≡ true) → is_flashed n (fields_at k c) ≡ true
    by (inl e) = false_true none e
    by (inr e) = e

pub newer : (a n : ℕ) (k : Control) → stale_refusal a n k ≡ None → records n (fields_at k a) ≡ false → (fields_at k a).attempt < n
newer a n k h none = by (nat_lt (fields_at k a).attempt n) refl (sym (ap (λ t. cond t None (cond (nat_lt (fields_at k a).attempt n) None (Some (Stale n (fields_at k a).attempt)))) none) ∙ h)
  where
    by : (t : Bool) → nat_lt (fields_at k a).attempt n ≡ t → cond t None (Some (Stale n (fields_at k a).attempt)) ≡ None → (fields_at k a).attempt < n
    by true e h = ltb-true (fields_at k a).attempt n e
    by false e h = absurd cc

-- ---- moves of orders

-- a hold of the last attempt, of a member that wasn't held for it: that attempt goes on, and the member's server hasn't finished it
pub order-holds : (k : Control) (s server n : ℕ) (ms : List Member) (m : Member) → Groups k → Attempts k → Flights k → Holding k s server n ms → In m ms → m.server.0 ≡ server → (fields_at k m.a.0).primary_partner ≡ m.b.0
    → nat_lt (last_of k s) n ≡ false → stale_refusal m.a.0 n k ≡ None → records n (fields_at k m.a.0) ≡ false → InAttempt k (Hold m.a.0 s n false)
unfolding member-of
order-holds k s server n ms m groups law flights holding here is to not_newer passes none = (by x.mirror refl, (low, refl))
  where
    x : Session
    x = holding.session

    on : HoldsOn k.flight x server n
    on = holding-on k s server n ms holding not_newer

    low : (fields_at k m.a.0).attempt < n
    low = newer m.a.0 n k passes none

    new : (seen (roles k) m).attempt < x.last
    new = subst (λ n. (fields_at k m.a.0).attempt < n) on.last low

    listed : In x k.sessions
    listed = (session-found k.sessions s x holding.found).0

    there : In m x.members
    there = subst (In m) (sym holding.members) here

    due : Due k.flight x m.server.0 phases.Hold n
    due = subst (λ server. Due k.flight x server phases.Hold n) (sym is) on.due

    goes-on : IsQuiet (phase_of x.mirror) → ⊥
    goes-on = hold-busy k x (law.sessions x listed) (flights.each x listed) m there (subst (λ n. Due k.flight x m.server.0 phases.Hold n) on.last due) new

    by : (o : Option Mirror) → x.mirror ≡ o → HoldsMember k m.a.0 s n
    by None e = absurd (goes-on (subst IsQuiet (sym (ap phase_of e)) tt))
    by (Some r) e = record {
      place = member-of k s x r m holding.found e there;
      due = due;
      last = on.last;
      busy = λ idle. goes-on (subst IsQuiet (sym (ap phase_of e ∙ idle)) tt);
      unfinished = λ ends. subst (λ o. phases.is_among m.server.0 (owed_of o) ≡ true) e (hold-unfinished k x (law.sessions x listed) (flights.each x listed) m there new (ap phase_of e ∙ ends));
      to = to;
    }

module _ (k : Control) (groups : Groups k) (law : Attempts k) (s : ℕ) (x : Session) (found : session_in k.sessions s ≡ Some x) (m : Member) (here : In m x.members) where
  there : In x k.sessions × (x.number ≡ s)
  there = session-found k.sessions s x found

  abbrev place : MemberOf k s m.a.0
  place = record { session = x; listed = there.0; number = there.1; member = m; here = here; is = refl }

  abbrev v : Seen
  v = seen (roles k) m

  seen-here : In v (seen_in k x)
  seen-here = to-map (seen (roles k)) x.members m here

  -- what is so of x and m is so of whichever session and member are there
  only : (P : Session → Member → Type 0) (w : ℕ) → IsAt w m → P x m → (z : Session) (q : Member) → In z k.sessions → In q z.members → IsAt w q → P z q
  only P w at_m is z q i there_q at_q = at-place k groups law P w x m there.0 here at_m is z q i there_q at_q

  at-last : (work : phases.Work) (n : ℕ) → x.last ≡ n → Due k.flight x m.server.0 work n → Due k.flight x m.server.0 work x.last
  at-last work n last due = subst (λ n. Due k.flight x m.server.0 work n) (sym last) due

  pub order-frees : Due k.flight x m.server.0 phases.Release x.last → InAttempt k (Free m.a.0)
  order-frees due = record { session = s; place = place; due = due }

  pub order-seals : (n : ℕ) → x.last ≡ n → Due k.flight x m.server.0 phases.Seal n → records n (fields_at k m.a.0) ≡ true → InAttempt k (Seal m.b.0 m.a.0 s n)
  order-seals n last due rec = record { place = place; secondary = refl; due = due; last = sym last; records = rec }

  pub order-flashes : (n : ℕ) → x.last ≡ n → Due k.flight x m.server.0 phases.Flash n → send_refusal m.a.0 m.b.0 k ≡ None → flash_refusal m.b.0 m.c.0 n k ≡ None → is_flashed n (fields_at k m.c.0) ≡ false → InAttempt k (Flash m.c.0 m.b.0 m.a.0 s n)
  order-flashes n last due sends passes none = let f = flash-passed m.b.0 m.c.0 n k passes none in
      record { place = place; secondary = refl; target = refl; due = due; last = sym last; paired = sends-to m.a.0 m.b.0 k sends; sealed = f.sealed; free = f.free; low = f.low }

  pub order-commits : Flights k → (n : ℕ) → x.last ≡ n → Due k.flight x m.server.0 phases.Commit n → send_refusal m.a.0 m.b.0 k ≡ None → commit_refusal m.c.0 n k ≡ None → is_committed n (fields_at k m.c.0) ≡ false → InAttempt k (Commit m.c.0 m.a.0 s n)
  order-commits flights n last due sends passes none = record { place = place; target = refl; last = sym last; revertible = flag; all = by (commit-flashed k x (law.sessions x there.0) (flights.each x there.0) m here (at-last phases.Commit n last due)).1; way = inl (due, sends-to m.a.0 m.b.0 k sends) }
    where
      flag : (fields_at k m.c.0).revertible ≡ true
      flag = (and_parts (fields_at k m.c.0).revertible (nat_eq (fields_at k m.c.0).sequence n) (commit-passed m.c.0 n k passes none)).0

      by : AllAt x.last (seen_in k x) ⊎ Blocked (seen_in k x) → AllAt n (seen_in k x)
      by (inl all) = subst (λ n. AllAt n (seen_in k x)) last all
      by (inr bar) = false_true (bar v seen-here flag) (sends-paired m k sends)

  pub order-reverts : Flights k → (n : ℕ) → x.last ≡ n → Due k.flight x m.server.0 phases.Revert n → send_refusal m.a.0 m.b.0 k ≡ None → is_flashed n (fields_at k m.c.0) ≡ true → InAttempt k (Revert m.c.0 m.a.0 s n)
  order-reverts flights n last due sends flashes = record { place = place; target = refl; last = sym last; revertible = flag; none = by (revert-way k x (law.sessions x there.0) (flights.each x there.0) m here (at-last phases.Revert n last due)); way = inl (due, sends-to m.a.0 m.b.0 k sends) }
    where
      flag : (fields_at k m.c.0).revertible ≡ true
      flag = (and_parts (fields_at k m.c.0).revertible (nat_eq (fields_at k m.c.0).sequence n) flashes).0

      by : NoneCommitted x.last (seen_in k x) ⊎ NoneRevertible (seen_in k x) → NoneCommitted n (seen_in k x)
      by (inl none) = subst (λ n. NoneCommitted n (seen_in k x)) last none
      by (inr none) = false_true (none v seen-here) flag

  -- one that isn't flashed for the last number isn't revertible
  pub unflashed-plain : (n : ℕ) → x.last ≡ n → is_flashed n (fields_at k m.c.0) ≡ false → (fields_at k m.c.0).revertible ≡ false
  unflashed-plain n last none = by (bool_cases (fields_at k m.c.0).revertible)
    where
      by : ((fields_at k m.c.0).revertible ≡ true) ⊎ ((fields_at k m.c.0).revertible ≡ false) → (fields_at k m.c.0).revertible ≡ false
      by (inl h) = false_true none (ap (λ b. b && nat_eq (fields_at k m.c.0).sequence n) h ∙ eq-eqb (fields_at k m.c.0).sequence n (((law.sessions x there.0).numbers.each v seen-here).last h ∙ last))
      by (inr h) = h

  -- a revertible one isn't raised to the last number
  raised-under : (n : ℕ) → n ≤ x.last → is_flashed n (fields_at k m.c.0) ≡ false → (fields_at k m.c.0).revertible ≡ true → n < x.last
  raised-under n low none flag = by (eqb_tells n x.last)
    where
      by : IsOrNot n x.last → n < x.last
      by (inl is) = false_true (unflashed-plain n (sym is.1) none) flag
      by (inr other) = let apart : n ≢ x.last = other.1 in omega arith

  pub order-raises : (n : ℕ) → n ≤ x.last → Due k.flight x m.server.0 phases.Revert n → is_flashed n (fields_at k m.c.0) ≡ false → nat_lt (fields_at k m.c.0).floor n ≡ true → InAttempt k (RaiseFloor m.c.0 n)
  order-raises n last due none low = λ z q i there_q e.
      let up : (fields_at k m.c.0).floor < n = ltb-true (fields_at k m.c.0).floor n low in
      record {
        due = only (λ z q. Due k.flight z q.server.0 phases.Revert n) m.c.0 (inr (inr refl)) due z q i there_q (inr (inr (sym e)));
        under = λ flag. only (λ z q. n < z.last) m.c.0 (inr (inr refl)) (raised-under n last none flag) z q i there_q (inr (inr (sym e)));
        higher = omega arith;
        low = only (λ z q. n ≤ z.last) m.c.0 (inr (inr refl)) last z q i there_q (inr (inr (sym e)));
      }

  pub order-finishes : (n : ℕ) → n ≤ x.last → InAttempt k (Finish m.a.0 n)
  order-finishes n last = λ z q i there_q e. only (λ z q. n ≤ z.last) m.a.0 (inl refl) last z q i there_q (inl (sym e))

  pub expelled-leaves : busy x.mirror ≡ None → InAttempt k (Leave m.c.0 m.a.0 s)
  expelled-leaves idle = let plain = quiet-unflashed (roles k) x (quiet-of x idle) (law.sessions x there.0) in (
    record { plain = plain v seen-here; settled = λ h z q i there_q e. only (λ z q. NoneRevertible (seen_in k z)) m.c.0 (inr (inr refl)) plain z q i there_q (inr (inr (sym e))) },
    record {
      counted = λ h z q i there_q e. only (λ z q. (Some m.a.0 ≡ Some q.a.0) × (s ≡ z.number)) m.c.0 (inr (inr refl)) (refl, sym there.1) z q i there_q (inr (inr (sym e)));
      named = λ p is. record { place = record { session = x; listed = there.0; number = there.1; member = m; here = here; is = (same_Some _ _ is) }; target = refl };
    },
  )

-- the records of a member that comes are raised where none of its volumes has a place
pub added-raises : (k : Control) (m : Member) (n : ℕ) → find (has_place_of m) k.sessions ≡ None → InAttempt k (RaiseAttempt m.a.0 n) × InAttempt k (RaiseFloor m.c.0 n)
added-raises k m n none = (λ z q i here e. absurd (no-place k.sessions m none m.a.0 z q i here (inl refl) (inl (sym e))), λ z q i here e. absurd (no-place k.sessions m none m.c.0 z q i here (inr (inr refl)) (inr (inr (sym e)))))

-- ---- one member after another

pub done-begins : (k : Control) (ms : List Member) (server : ℕ) (work : phases.Work) (n : ℕ) → DoneBut k ms server work n (members_on server ms)
done-begins k ms server work n m here is = inl (members-there server ms m here is)

pub done-passes : (k : Control) (ms : List Member) (server : ℕ) (work : phases.Work) (n : ℕ) (q : Member) (rest : List Member) → DoneBut k ms server work n (q ∷ rest) → IsDone work n (seen (roles k) q) → DoneBut k ms server work n rest
done-passes k ms server work n q rest left done m here is = by (left m here is)
  where
    by : In m (q ∷ rest) ⊎ IsDone work n (seen (roles k) m) → In m rest ⊎ IsDone work n (seen (roles k) m)
    by (inl (inl same)) = inr (subst (λ q. IsDone work n (seen (roles k) q)) (sym same) done)
    by (inl (inr more)) = inl more
    by (inr h) = inr h

pub done-ends : (k : Control) (ms : List Member) (server : ℕ) (work : phases.Work) (n : ℕ) → DoneBut k ms server work n [] → WorkDone k ms server work n
done-ends k ms server work n left m here is = by (left m here is)
  where
    by : In m [] ⊎ IsDone work n (seen (roles k) m) → IsDone work n (seen (roles k) m)
    by (inl none) = absurd none
    by (inr h) = h

pub done-calm : (k : Control) (ms : List Member) (server : ℕ) (work : phases.Work) (n : ℕ) → LeavesTargetsAlone work → WorkDone k ms server work n
done-calm k ms server work n calm m here is = by work calm
  where
    by : (work : phases.Work) → LeavesTargetsAlone work → IsDone work n (seen (roles k) m)
    by phases.Release h = tt
    by phases.Seal h = tt
    by w h = absurd h

-- where a server has done the work that its session's phase asks, it has done what it asks
pub done-asked : (k : Control) (x : Session) (server : ℕ) (work : phases.Work) (n : ℕ) → phases.work_in (phase_of x.mirror) ≡ Some work → x.last ≡ n → WorkDone k x.members server work n → ServerDone k x server
done-asked k x server work n asks last done other also m here is =
    subst (λ w. IsDone w x.last (seen (roles k) m)) (same_Some _ _ (sym asks ∙ also)) (subst (λ n. IsDone work n (seen (roles k) m)) (sym last) (done m here is))

-- a volume's record changes, at a place of one member
module _ (k j : Control) (w : ℕ) (f : Fields) (c : Carried) (x : Session) (q : Member) (moves : Moves k j w f c) (groups : Groups k) (listed : In x k.sessions) (here : In q x.members) (at_q : IsAt w q) where
  -- each other member is seen as before
  others : (m : Member) → In m x.members → (m ≡ q) ⊎ (seen (roles j) m ≡ seen (roles k) m)
  others m there = by (is-placed w m)
    where
      by : IsAt w m ⊎ (IsAt w m → ⊥) → (m ≡ q) ⊎ (seen (roles j) m ≡ seen (roles k) m)
      by (inl is) = inl (groups.lone.one w x x m q listed listed there here is at_q).1
      by (inr apart) = inr (ap (λ (S : Roles). seen S m) (roles-moved k j w f c moves) ∙ seen-apart (roles k) w (role_of f) m apart)

  pub done-moves : (server : ℕ) (work : phases.Work) (n : ℕ) (rest : List Member) → DoneBut k x.members server work n (q ∷ rest) → IsDone work n (seen (roles j) q) → DoneBut j x.members server work n rest
  done-moves server work n rest left done m there is = by (others m there) (left m there is)
    where
      by : (m ≡ q) ⊎ (seen (roles j) m ≡ seen (roles k) m) → In m (q ∷ rest) ⊎ IsDone work n (seen (roles k) m) → In m rest ⊎ IsDone work n (seen (roles j) m)
      by (inl same) d = inr (subst (λ q. IsDone work n (seen (roles j) q)) (sym same) done)
      by (inr still) (inl (inl same)) = inr (subst (λ q. IsDone work n (seen (roles j) q)) (sym same) done)
      by (inr still) (inl (inr more)) = inl more
      by (inr still) (inr h) = inr (subst (IsDone work n) (sym still) h)

  pub taken-moves : (rest : List Member) → TakenBut k x (q ∷ rest) → (seen (roles j) q).paired ≡ false → TakenBut j x rest
  taken-moves rest left taken m there = by (others m there) (left m there)
    where
      by : (m ≡ q) ⊎ (seen (roles j) m ≡ seen (roles k) m) → In m (q ∷ rest) ⊎ ((seen (roles k) m).paired ≡ false) → In m rest ⊎ ((seen (roles j) m).paired ≡ false)
      by (inl same) d = inr (ap (λ q. (seen (roles j) q).paired) same ∙ taken)
      by (inr still) (inl (inl same)) = inr (ap (λ q. (seen (roles j) q).paired) same ∙ taken)
      by (inr still) (inl (inr more)) = inl more
      by (inr still) (inr h) = inr (ap (λ u. u.paired) still ∙ h)

  -- the list of all, with that one as it is seen now
  pub seen-moves : Update (seen_in k x) (seen (roles k) q) (seen (roles j) q) (seen_in j x)
  seen-moves = subst (λ (S : Roles). Update (seen_in k x) (seen (roles k) q) (seen S q) (all_seen S x.members)) (sym (roles-moved k j w f c moves))
      (update (roles k) w (role_of f) x.members q (seen (at (roles k) w (role_of f)) q) here (λ m there is. (groups.lone.one w x x q m listed listed here there at_q is).1) refl)

  -- a primary, a target, and a secondary
  pub seen-primary : w ≡ q.a.0 → seen (roles j) q ≡ seen_of q.server.0 q.a.0 (role_of f) (roles k q.b.0) (roles k q.c.0)
  seen-primary e = ap (λ (S : Roles). seen S q) (roles-moved k j w f c moves) ∙ seen-a (roles k) w (role_of f) q (groups.lone.differ x q listed here) e

  pub seen-target : w ≡ q.c.0 → seen (roles j) q ≡ seen_of q.server.0 q.a.0 (roles k q.a.0) (roles k q.b.0) (role_of f)
  seen-target e = ap (λ (S : Roles). seen S q) (roles-moved k j w f c moves) ∙ seen-c (roles k) w (role_of f) q (groups.lone.differ x q listed here) e

  pub seen-secondary : w ≡ q.b.0 → seen (roles j) q ≡ seen_of q.server.0 q.a.0 (roles k q.a.0) (role_of f) (roles k q.c.0)
  seen-secondary e = ap (λ (S : Roles). seen S q) (roles-moved k j w f c moves) ∙ seen-b (roles k) w (role_of f) q (groups.lone.differ x q listed here) e

-- what a move of the order has done with its member
module _ (k j : Control) (c : Carried) (x : Session) (q : Member) (server n : ℕ) (rest : List Member) (groups : Groups k) (listed : In x k.sessions) (here : In q x.members) where
  -- the member of which that is so is done, and each other is as before
  abbrev Next : phases.Work → Type 0
  Next work = DoneBut k x.members server work n (q ∷ rest) → DoneBut j x.members server work n rest

  does-target : (work : phases.Work) (f : Fields) → Moves k j q.c.0 f c → IsDone work n (seen_of q.server.0 q.a.0 (roles k q.a.0) (roles k q.b.0) (role_of f)) → Next work
  does-target work f moves done left = done-moves k j q.c.0 f c x q moves groups listed here (inr (inr refl)) server work n rest left (subst (IsDone work n) (sym (seen-target k j q.c.0 f c x q moves groups listed here (inr (inr refl)) refl)) done)

  does-primary : (work : phases.Work) (f : Fields) → Moves k j q.a.0 f c → IsDone work n (seen_of q.server.0 q.a.0 (role_of f) (roles k q.b.0) (roles k q.c.0)) → Next work
  does-primary work f moves done left = done-moves k j q.a.0 f c x q moves groups listed here (inl refl) server work n rest left (subst (IsDone work n) (sym (seen-primary k j q.a.0 f c x q moves groups listed here (inl refl) refl)) done)

  pub done-holds : Moves k j q.a.0 (held_for n (fields_at k q.a.0)) c → Next phases.Hold
  done-holds moves = does-primary phases.Hold (held_for n (fields_at k q.a.0)) moves (omega arith)

  pub done-finishes : Moves k j q.a.0 (past_attempt n (fields_at k q.a.0)) c → Next phases.Finish
  done-finishes moves = does-primary phases.Finish (past_attempt n (fields_at k q.a.0)) moves (omega arith)

  pub done-flashes : (s : ℕ) → Moves k j q.c.0 (flashed s n (fields_at k q.c.0)) c → Next phases.Flash
  done-flashes s moves = does-target phases.Flash (flashed s n (fields_at k q.c.0)) moves refl

  pub done-commits : Moves k j q.c.0 (committed n (fields_at k q.c.0)) c → Next phases.Commit
  done-commits moves = does-target phases.Commit (committed n (fields_at k q.c.0)) moves refl

  pub done-reverts : Moves k j q.c.0 (reverted n (fields_at k q.c.0)) c → Next phases.Revert
  done-reverts moves = does-target phases.Revert (reverted n (fields_at k q.c.0)) moves (refl, omega arith)

  pub done-raises : (fields_at k q.c.0).revertible ≡ false → Moves k j q.c.0 (with_floor n (fields_at k q.c.0)) c → Next phases.Revert
  done-raises plain moves = does-target phases.Revert (with_floor n (fields_at k q.c.0)) moves (plain, omega arith)

-- a member that is done already is passed over
pub done-held : (k : Control) (m : Member) (n : ℕ) → records n (fields_at k m.a.0) ≡ true → IsDone phases.Hold n (seen (roles k) m)
done-held k m n h = let same : (fields_at k m.a.0).attempt ≡ n = eqb-true (fields_at k m.a.0).attempt n (and_parts (fields_at k m.a.0).recording (nat_eq (fields_at k m.a.0).attempt n) h).1 in omega arith

pub done-past : (k : Control) (m : Member) (n : ℕ) → is_past n (fields_at k m.a.0) ≡ true → IsDone phases.Finish n (seen (roles k) m)
done-past k m n h = by (or_cases (nat_lt n (fields_at k m.a.0).attempt) (nat_eq (fields_at k m.a.0).attempt n && not (fields_at k m.a.0).recording) h)
  where
    by : (nat_lt n (fields_at k m.a.0).attempt ≡ true) ⊎ ((nat_eq (fields_at k m.a.0).attempt n && not (fields_at k m.a.0).recording) ≡ true) → n ≤ (fields_at k m.a.0).attempt
    by (inl above) = let up : n < (fields_at k m.a.0).attempt = ltb-true n (fields_at k m.a.0).attempt above in omega arith
    by (inr over) = let same : (fields_at k m.a.0).attempt ≡ n = eqb-true (fields_at k m.a.0).attempt n (and_parts (nat_eq (fields_at k m.a.0).attempt n) (not (fields_at k m.a.0).recording) over).0 in omega arith

pub done-flashed : (k : Control) (m : Member) (n : ℕ) → is_flashed n (fields_at k m.c.0) ≡ true → IsDone phases.Flash n (seen (roles k) m)
done-flashed k m n h = (and_parts (fields_at k m.c.0).revertible (nat_eq (fields_at k m.c.0).sequence n) h).0

pub done-committed : (k : Control) (m : Member) (n : ℕ) → is_committed n (fields_at k m.c.0) ≡ true → IsDone phases.Commit n (seen (roles k) m)
done-committed k m n h =
    let p = and_parts (fields_at k m.c.0).member (nat_eq (fields_at k m.c.0).sequence n && not (fields_at k m.c.0).revertible) h in
    let q = and_parts (nat_eq (fields_at k m.c.0).sequence n) (not (fields_at k m.c.0).revertible) p.1 in
    not-true (fields_at k m.c.0).revertible q.1

pub done-reverted : (k : Control) (s : ℕ) (x : Session) (m : Member) (n : ℕ) → Groups k → Attempts k → session_in k.sessions s ≡ Some x → In m x.members → x.last ≡ n → is_flashed n (fields_at k m.c.0) ≡ false → nat_lt (fields_at k m.c.0).floor n ≡ false → IsDone phases.Revert n (seen (roles k) m)
done-reverted k s x m n groups law found here last h high = (unflashed-plain k groups law s x found m here n last h, ltb-false (fields_at k m.c.0).floor n high)

-- ---- the order of a phase

order-none : (b : Bool) (n : ℕ) (o : phases.Order) → phases.order_if b None n ≡ Some o → ⊥
order-none true n o h = absurd cc
order-none false n o h = absurd cc

-- an order has its phase's work, and but for a report the master's number
pub record Ordered (p : PhaseName) (n : ℕ) (o : phases.Order) : Type 0 where
  pub work : phases.work_in p ≡ Some o.work
  pub number : (p ≡ phase.Lost → ⊥) → o.number ≡ n

ordered : (p : PhaseName) (w : phases.Work) (n : ℕ) (o : phases.Order) → phases.work_in p ≡ Some w → (phases.numbered w n).work ≡ w → ((p ≡ phase.Lost → ⊥) → (phases.numbered w n).number ≡ n) → o ≡ phases.numbered w n → Ordered p n o
ordered p w n o work same number is = record { work = work ∙ ap Some (sym same ∙ ap (λ (o : phases.Order). o.work) (sym is)); number = λ ne. ap (λ (o : phases.Order). o.number) is ∙ number ne }

orders-by : (p : PhaseName) (b : Bool) (n : ℕ) (o : phases.Order) → p ≢ phase.Idle → cond (is_idle p) (Some (record { work = phases.Hold; number = n + 1 })) (phases.order_if b (phases.work_in p) n) ≡ Some o → Ordered p n o
orders-by phase.None b n o ne h = absurd (order-none b n o h)
orders-by phase.Idle b n o ne h = absurd (ne refl)
orders-by phase.Coordinating b n o ne h = ordered phase.Coordinating phases.Hold n o refl refl (λ e. refl) (some-order b phases.Hold n o h)
orders-by phase.Releasing b n o ne h = ordered phase.Releasing phases.Release n o refl refl (λ e. refl) (some-order b phases.Release n o h)
orders-by phase.Draining b n o ne h = ordered phase.Draining phases.Seal n o refl refl (λ e. refl) (some-order b phases.Seal n o h)
orders-by phase.Flashing b n o ne h = ordered phase.Flashing phases.Flash n o refl refl (λ e. refl) (some-order b phases.Flash n o h)
orders-by phase.Committing b n o ne h = ordered phase.Committing phases.Commit n o refl refl (λ e. refl) (some-order b phases.Commit n o h)
orders-by phase.Reverting b n o ne h = ordered phase.Reverting phases.Revert n o refl refl (λ e. refl) (some-order b phases.Revert n o h)
orders-by phase.Finishing b n o ne h = ordered phase.Finishing phases.Finish n o refl refl (λ e. refl) (some-order b phases.Finish n o h)
orders-by phase.Lost b n o ne h = ordered phase.Lost phases.Report n o refl refl (λ e. absurd (e refl)) (some-order b phases.Report n o h)

pub order-is : (r : Mirror) (server : ℕ) (o : phases.Order) → r.master.phase ≢ phase.Idle → order_of r server ≡ Some o → (phases.work_in r.master.phase ≡ Some o.work) × (r.master.phase ≢ phase.Lost → o.number ≡ r.master.number)
order-is r server o ne is = let h = orders-by r.master.phase (phases.is_among server r.master.owed) r.master.number o ne is in (h.work, h.number)

-- only a lost master asks for reports
pub work-lost : (p : PhaseName) → phases.work_in p ≡ Some phases.Report → p ≡ phase.Lost
work-lost phase.Lost h = refl
work-lost p h = absurd cc

idle-holds : (p : PhaseName) (b : Bool) (n : ℕ) (o : phases.Order) → p ≡ phase.Idle → cond (is_idle p) (Some (record { work = phases.Hold; number = n + 1 })) (phases.order_if b (phases.work_in p) n) ≡ Some o → o.work ≡ phases.Hold
idle-holds phase.Idle b n o e h = ap (λ (o : phases.Order). o.work) (sym ((same_Some _ _ h)))
idle-holds p b n o e h = absurd cc

pub reports-lost : (r : Mirror) (server : ℕ) (o : phases.Order) → order_of r server ≡ Some o → o.work ≡ phases.Report → r.master.phase ≡ phase.Lost
reports-lost r server o is reports = by (is-idle r.master.phase)
  where
    is-idle : (p : PhaseName) → (p ≡ phase.Idle) ⊎ (p ≡ phase.Idle → ⊥)
    is-idle phase.Idle = inl refl
    is-idle p = inr (λ e. cc)

    by : (r.master.phase ≡ phase.Idle) ⊎ (r.master.phase ≡ phase.Idle → ⊥) → r.master.phase ≡ phase.Lost
    by (inl e) = let h : phases.Hold ≡ phases.Report = sym (idle-holds r.master.phase (phases.is_among server r.master.owed) r.master.number o e is) ∙ reports in absurd cc
    by (inr ne) = work-lost r.master.phase ((order-is r server o ne is).0 ∙ ap Some reports)
