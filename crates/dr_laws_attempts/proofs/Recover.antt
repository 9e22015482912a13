-- What a recovery decides over the members of a session, and does with one after another.
use Rattle.std.proofs.Common.{ℕ, ◌≡◌, ◌⊎◌, inl, inr, refl, ap, sym, ◌∙◌, subst, true, false, nat_eq, List, [], ◌∷◌, filter, Some}
use Rattle.std.proofs.lemmas.Bool.{and_parts}
use Rattle.dr_ids.specs.declared.names.Member.{Member}
use Rattle.dr_ids.specs.declared.refusal.Decision.TheVariants.{NoMember, Nothing, CommitRest}
use Rattle.dr_model.specs.Decisions.{Shown, decision}
use Rattle.dr_model.specs.Control.{Control}
use Rattle.dr_model.specs.Relations.{committed as commit_fields, reverted as revert_fields}
use Rattle.dr_model.specs.Pairs.{taken_over}
use Rattle.dr_model.specs.Moves.{Commit, Revert, Carried}
use Rattle.dr_model.specs.Entries.{fields_at}
use Rattle.dr_model.specs.SessionEntries.{counts_at, shown_at, shown_by_members}
use Rattle.dr_model.specs.Sessions.{Session, session_in}
use Rattle.dr_model.specs.Groups.{In, Groups}
use Rattle.dr_model.specs.Attempts.{role_of, roles, Seen, seen_of, seen, seen_in, Any, counts, committed, number_shown, NoneRevertible, NoneCommitted, SomeCommitted, AllAt, OneShown, IsReported, AttemptOf, Attempts, InAttempt}
use Rattle.dr_laws_sessions.specs.Frames.{Moves, Quiet}
use Rattle.dr_facts.proofs.Lists.{from-filter, to-filter, from-map, to-map}
use Rattle.dr_laws_sessions.proofs.Changes.{session-found}
use Rattle.dr_laws_attempts.specs.Orders.{TakenBut, RestCommits, RestReverts}
use Rattle.dr_laws_attempts.proofs.Facts.{bool_cases, Update, each, any_all, committed-parts, is-committed, member-counts, rev-counts, counts-member, none-some, shown-rev, apart-none}
use Rattle.dr_laws_attempts.proofs.Reports.{as-reported, commit-tells, commit-holds, nothing-tells, nobody-tells}
use Rattle.dr_laws_attempts.proofs.Tables.{counts-here, quiet-unflashed}
use Rattle.dr_laws_attempts.proofs.Orders.{taken-moves, seen-moves, seen-target, seen-secondary}
use Rattle.dr_logic.proofs.Truth.{false_true}

module _ (k : Control) (groups : Groups k) (law : Attempts k) (s : ℕ) (x : Session) (found : session_in k.sessions s ≡ Some x) where
  there : In x k.sessions × (x.number ≡ s)
  there = session-found k.sessions s x found

  own : AttemptOf (roles k) x
  own = law.sessions x there.0

  abbrev vs : List Seen
  vs = seen_in k x

  abbrev told : List Shown
  told = shown_by_members s x.members k

  -- what a member shows that counts
  tells : (u : Seen) → In u vs → counts u ≡ true → In (record { sequence = u.sequence; revertible = u.revertible }) told
  tells u h c =
      let o = from-map (seen (roles k)) x.members u h in
      subst (λ (u : Seen). In (record { sequence = u.sequence; revertible = u.revertible }) told) (sym o.is)
      (to-map (shown_at k) (filter (counts_at s k) x.members) o.from (to-filter (counts_at s k) x.members o.from o.here
      (ap (λ s. counts_at s k o.from) (sym there.1) ∙ counts-here k groups law x o.from there.0 o.here (ap counts (sym o.is) ∙ c))))

  -- and who shows what is told
  record Shows (r : Shown) : Type 0 where
    one : Seen
    here : In one vs
    counted : counts one ≡ true
    is : r ≡ record { sequence = one.sequence; revertible = one.revertible }

  shows : (r : Shown) → In r told → Shows r
  shows r h =
      let o = from-map (shown_at k) (filter (counts_at s k) x.members) r h in
      let f = from-filter (counts_at s k) x.members o.from o.here in
      record { one = seen (roles k) o.from; here = to-map (seen (roles k)) x.members o.from f.0; counted = (and_parts (nat_eq (fields_at k o.from.c.0).session s) (counts (seen (roles k) o.from)) f.1).1; is = o.is }

  plain-by : ((q : ℕ) → IsReported q true told → ⊥) → NoneRevertible vs
  plain-by never u h = by (bool_cases u.revertible)
    where
      by : (u.revertible ≡ true) ⊎ (u.revertible ≡ false) → u.revertible ≡ false
      by (inl r) = absurd (never u.sequence (as-reported told (record { sequence = u.sequence; revertible = u.revertible }) u.sequence true (tells u h (rev-counts u r)) refl r))
      by (inr e) = e

  pub nothing-plain : (n : ℕ) → decision told ≡ Nothing n → NoneRevertible vs
  nothing-plain n e = plain-by (nothing-tells told n e)

  pub nobody-plain : decision told ≡ NoMember → NoneRevertible vs
  nobody-plain e = plain-by (nobody-tells told e)

  pub quiet-plain : Quiet x → NoneRevertible vs
  quiet-plain quiet = quiet-unflashed (roles k) x quiet own

  -- a revertible one has the last number
  pub last-by : (q : ℕ) → IsReported q true told → q ≡ x.last
  last-by q h = let t = shows (record { sequence = q; revertible = true }) h in ap (λ (r : Shown). r.sequence) t.is ∙ (own.numbers.each t.one t.here).last (sym (ap (λ (r : Shown). r.revertible) t.is))

  -- ---- the rest is committed

  pub rest-begins : (n : ℕ) → decision told ≡ CommitRest n → (n ≡ x.last) × RestCommits k x
  rest-begins n e =
      let both = commit-tells told n e in
      let last = last-by n both.0 in
      let t = shows (record { sequence = n; revertible = false }) both.1 in
      let plain : t.one.revertible ≡ false = sym (ap (λ (r : Shown). r.revertible) t.is) in
      let had : SomeCommitted x.last vs = record { one = t.one; here = t.here; is = is-committed x.last t.one (counts-member t.one t.counted plain) plain (sym (ap (λ (r : Shown). r.sequence) t.is) ∙ last) } in
      (last, record { all = all had own.numbers.some; some = had })
    where
      all : SomeCommitted x.last vs → NoneCommitted x.last vs ⊎ AllAt x.last vs → AllAt x.last vs
      all had (inl none) = none-some x.last vs none had
      all had (inr at) = at

  pub rest-commits : (m : Member) → RestCommits k x → In m x.members → (fields_at k m.c.0).revertible ≡ true → InAttempt k (Commit m.c.0 m.a.0 s x.last)
  rest-commits m rest here flag = record { place = record { session = x; listed = there.0; number = there.1; member = m; here = here; is = refl }; target = refl; last = refl; revertible = flag; all = rest.all; way = inr rest.some }

  -- ---- or all that are revertible are reverted

  pub reverts-begin : ((n : ℕ) → decision told ≡ CommitRest n → ⊥) → TakenBut k x [] → RestReverts k x
  reverts-begin never taken = record {
    way = by (any_all (λ u. u.revertible) vs) (any_all (committed x.last) vs) own.numbers.some;
    taken = λ u h. let o = from-map (seen (roles k)) x.members u h in ap (λ u. u.paired) o.is ∙ gone o.from (taken o.from o.here);
  }
    where
      gone : (m : Member) → In m [] ⊎ ((seen (roles k) m).paired ≡ false) → (seen (roles k) m).paired ≡ false
      gone m (inl none) = absurd none
      gone m (inr h) = h

      by : Any (λ u. u.revertible ≡ true) vs ⊎ NoneRevertible vs → SomeCommitted x.last vs ⊎ NoneCommitted x.last vs → NoneCommitted x.last vs ⊎ AllAt x.last vs → NoneCommitted x.last vs ⊎ NoneRevertible vs
      by (inr none) d p = inr none
      by (inl r) (inr none) p = inl none
      by (inl r) (inl had) (inl none) = inl none
      by (inl r) (inl had) (inr all) = let c = committed-parts x.last had.one had.is in absurd (never x.last (commit-holds told x.last
          (as-reported told (record { sequence = r.one.sequence; revertible = r.one.revertible }) x.last true (tells r.one r.here (rev-counts r.one r.is)) (all r.one r.here (rev-counts r.one r.is)) r.is)
          (as-reported told (record { sequence = had.one.sequence; revertible = had.one.revertible }) x.last false (tells had.one had.here (member-counts had.one c.member)) c.numbered c.plain)
          last-by
          (λ q h. let t = shows (record { sequence = q; revertible = false }) h in ap (λ (r : Shown). r.sequence) t.is ∙ all t.one t.here t.counted)))

  pub rest-reverts : (m : Member) → RestReverts k x → In m x.members → (fields_at k m.c.0).revertible ≡ true → InAttempt k (Revert m.c.0 m.a.0 s x.last)
  rest-reverts m rest here flag = record { place = record { session = x; listed = there.0; number = there.1; member = m; here = here; is = refl }; target = refl; last = refl; revertible = flag; none = by rest.way; way = inr rest.taken }
    where
      by : NoneCommitted x.last vs ⊎ NoneRevertible vs → NoneCommitted x.last vs
      by (inl none) = none
      by (inr none) = false_true (none (seen (roles k) m) (to-map (seen (roles k)) x.members m here)) flag

-- ---- one member after another

pub taken-begins : (k : Control) (x : Session) → TakenBut k x x.members
taken-begins k x m here = inl here

pub taken-passes : (k : Control) (x : Session) (q : Member) (rest : List Member) → TakenBut k x (q ∷ rest) → (seen (roles k) q).paired ≡ false → TakenBut k x rest
taken-passes k x q rest left taken m here = by (left m here)
  where
    by : In m (q ∷ rest) ⊎ ((seen (roles k) m).paired ≡ false) → In m rest ⊎ ((seen (roles k) m).paired ≡ false)
    by (inl (inl same)) = inr (ap (λ q. (seen (roles k) q).paired) same ∙ taken)
    by (inl (inr more)) = inl more
    by (inr h) = inr h

module _ (k j : Control) (c : Carried) (x : Session) (q : Member) (groups : Groups k) (listed : In x k.sessions) (here : In q x.members) where
  pub taken-over : (rest : List Member) → Moves k j q.b.0 (taken_over (fields_at k q.b.0)) c → TakenBut k x (q ∷ rest) → TakenBut j x rest
  taken-over rest moves left = taken-moves k j q.b.0 (taken_over (fields_at k q.b.0)) c x q moves groups listed here (inr (inl refl)) rest left
      (ap (λ u. u.paired) (seen-secondary k j q.b.0 (taken_over (fields_at k q.b.0)) c x q moves groups listed here (inr (inl refl)) refl))

  pub rest-stays : Attempts k → (fields_at k q.c.0).revertible ≡ true → Moves k j q.c.0 (commit_fields x.last (fields_at k q.c.0)) c → RestCommits k x → RestCommits j x
  rest-stays law flag moves rest =
      let move = seen-moves k j q.c.0 (commit_fields x.last (fields_at k q.c.0)) c x q moves groups listed here (inr (inr refl)) in
      let is = seen-target k j q.c.0 (commit_fields x.last (fields_at k q.c.0)) c x q moves groups listed here (inr (inr refl)) refl in
      let last : (seen (roles k) q).sequence ≡ x.last = rest.all (seen (roles k) q) move.here (rev-counts (seen (roles k) q) flag) in
      record {
        all = each _ move (λ h. ap (λ u. u.sequence) is ∙ last) rest.all;
        some = record { one = seen (roles j) q; here = move.there; is = is-committed x.last (seen (roles j) q) (ap (λ u. u.member) is) (ap (λ u. u.revertible) is) (ap (λ u. u.sequence) is ∙ last) };
      }

  module _ (law : Attempts k) (flag : (fields_at k q.c.0).revertible ≡ true) (moves : Moves k j q.c.0 (revert_fields x.last (fields_at k q.c.0)) c) where
    abbrev w : Seen
    w = seen (roles j) q

    move : Update (seen_in k x) (seen (roles k) q) w (seen_in j x)
    move = seen-moves k j q.c.0 (revert_fields x.last (fields_at k q.c.0)) c x q moves groups listed here (inr (inr refl))

    is : w ≡ seen_of q.server.0 q.a.0 (roles k q.a.0) (roles k q.b.0) (role_of (revert_fields x.last (fields_at k q.c.0)))
    is = seen-target k j q.c.0 (revert_fields x.last (fields_at k q.c.0)) c x q moves groups listed here (inr (inr refl)) refl

    apart : NoneCommitted x.last (seen_in k x) → SomeCommitted x.last (seen_in k x) ⊎ OneShown x.last (seen_in k x) → committed x.last w ≡ false
    apart none (inl had) = none-some x.last (seen_in k x) none had
    apart none (inr one) = apart-none x.last w (λ m e. one.apart (sym (one.same (seen (roles k) q) move.here (ap (λ u. u.member) (sym is) ∙ m)) ∙ (shown-rev (seen (roles k) q) flag ∙ (ap number_shown (sym is) ∙ e))))

    reverts-by : NoneCommitted x.last (seen_in k x) ⊎ NoneRevertible (seen_in k x) → NoneCommitted x.last (seen_in j x) ⊎ NoneRevertible (seen_in j x)
    reverts-by (inr none) = false_true (none (seen (roles k) q) move.here) flag
    reverts-by (inl none) = inl (each _ move (apart none (law.sessions x listed).numbers.none) none)

    pub reverts-stay : RestReverts k x → RestReverts j x
    reverts-stay rest = record { way = reverts-by rest.way; taken = each _ move (ap (λ u. u.paired) is ∙ rest.taken (seen (roles k) q) move.here) rest.taken }
