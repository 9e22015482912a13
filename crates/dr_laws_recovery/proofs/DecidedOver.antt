-- What is decided over all volumes that count in a session: it is to revert where none is committed, and to commit where one is.
use Rattle.std.proofs.Common.{ℕ, ◌≡◌, ◌⊎◌, inl, inr, refl, ap, sym, ◌∙◌, subst, Bool, true, false, cond, not, ◌||◌, nat_eq, List, [], ◌∷◌, map, filter, Option, Some, None, ◌==◌}
use Rattle.std.specs.List.{find}
use Rattle.std.proofs.lemmas.Bool.{and_parts, eqb-true, not-true}
use Rattle.dr_ids.specs.declared.names.Member.{Member}
use Rattle.dr_ids.specs.declared.refusal.Decision.{Decision}
use Rattle.dr_ids.specs.declared.refusal.Decision.TheVariants.{NoMember, Nothing, RevertAll, CommitRest, RevertSome, Impossible}
use Rattle.dr_model.specs.Decisions.{Shown, Numbers, NoNumber, Same, Differ, first_and_other, numbers_in, revertibles, others, decided, decision}
use Rattle.dr_model.specs.Control.{Control}
use Rattle.dr_model.specs.Relations.{committed as commit_fields, reverted as revert_fields}
use Rattle.dr_model.specs.Moves.{Carried}
use Rattle.dr_model.specs.Entries.{fields_at}
use Rattle.dr_model.specs.SessionEntries.{counts_in, counts_at, shown_of, shown_at, shown_by_members}
use Rattle.dr_model.specs.RecoveryPlans.{lets_revert, group_of}
use Rattle.dr_model.specs.Sessions.{Session}
use Rattle.dr_model.specs.Groups.{In, Groups}
use Rattle.dr_model.specs.Attempts.{role_of, roles, Seen, seen_of, seen, seen_in, counts, committed, number_shown, NoneCommitted, SomeCommitted, AllAt, OneShown, IsReported, AttemptOf, Attempts, IsTarget}
use Rattle.dr_laws_sessions.specs.Frames.{Moves}
use Rattle.dr_facts.proofs.Lists.{from-filter, to-filter, from-map, to-map, is-met}
use Rattle.dr_laws_sessions.proofs.Changes.{same-session}
use Rattle.dr_laws_attempts.proofs.Facts.{Update, each, committed-parts, is-committed, member-counts, counts-member, none-some, shown-rev, shown-plain, apart-none}
use Rattle.dr_laws_attempts.proofs.Reports.{numbers-one, as-reported, commit-tells, commit-holds, nothing-tells, nobody-tells, never-impossible}
use Rattle.dr_laws_attempts.proofs.Tables.{counts-here}
use Rattle.dr_laws_attempts.proofs.Orders.{seen-moves, seen-target}
use Rattle.dr_model.specs.Recovery.{decided_over, common}

-- ---- two lists that tell the same are decided alike

some-number : (a n : ℕ) (o : Option ℕ) → (first_and_other a o ≡ NoNumber) ⊎ (first_and_other a o ≡ Same n) → first_and_other a o ≡ Same n
some-number a n None (inl e) = absurd cc
some-number a n (Some b) (inl e) = absurd cc
some-number a n o (inr e) = e

numbers-first : (n a : ℕ) (ns : List ℕ) → ((q : ℕ) → In q (a ∷ ns) → q ≡ n) → numbers_in (a ∷ ns) ≡ Same n
numbers-first n a ns all = some-number a n (find (λ q. not (q == a)) ns) (numbers-one n (a ∷ ns) all)

numbers-alike : (n : ℕ) (xs ys : List ℕ) → ((q : ℕ) → In q xs → q ≡ n) → ((q : ℕ) → In q ys → q ≡ n) → ((q : ℕ) → In q xs → In q ys) → ((q : ℕ) → In q ys → In q xs) → numbers_in xs ≡ numbers_in ys
numbers-alike n [] [] all also to from = refl
numbers-alike n [] (y ∷ ys) all also to from = absurd (from y (inl refl))
numbers-alike n (x ∷ xs) [] all also to from = absurd (to x (inl refl))
numbers-alike n (x ∷ xs) (y ∷ ys) all also to from = numbers-first n x xs all ∙ sym (numbers-first n y ys also)

pub numbers-of : (n q : ℕ) (xs : List ℕ) → ((a : ℕ) → In a xs → a ≡ n) → In q xs → numbers_in xs ≡ Same q
numbers-of n q [] all h = absurd h
numbers-of n q (x ∷ xs) all h = numbers-first n x xs all ∙ ap Same (sym (all q h))

-- the numbers of those of a list that pass a test
numbers-from : (p : Shown → Bool) (rs : List Shown) (q : ℕ) → In q (map (λ (r : Shown). r.sequence) (filter p rs)) → (r : Shown) × (In r rs × ((p r ≡ true) × (q ≡ r.sequence)))
numbers-from p rs q h =
    let o = from-map (λ (r : Shown). r.sequence) (filter p rs) q h in
    let f = from-filter p rs o.from o.here in
    (o.from, (f.0, (f.1, o.is)))

numbers-to : (p : Shown → Bool) (rs ts : List Shown) → ((r : Shown) → In r rs → In r ts) → (q : ℕ) → In q (map (λ (r : Shown). r.sequence) (filter p rs)) → In q (map (λ (r : Shown). r.sequence) (filter p ts))
numbers-to p rs ts to q h =
    let f = numbers-from p rs q h in
    subst (λ q. In q (map (λ (r : Shown). r.sequence) (filter p ts))) (sym f.1.1.1) (to-map (λ (r : Shown). r.sequence) (filter p ts) f.0 (to-filter p ts f.0 (to f.0 f.1.0) f.1.1.0))

numbers-all : (p : Shown → Bool) (b : Bool) (rs : List Shown) (n : ℕ) → ((r : Shown) → p r ≡ true → r.revertible ≡ b) → ((q : ℕ) → IsReported q b rs → q ≡ n) → (q : ℕ) → In q (map (λ (r : Shown). r.sequence) (filter p rs)) → q ≡ n
numbers-all p b rs n flag all q h =
    let f = numbers-from p rs q h in
    f.1.1.1 ∙ all f.0.sequence (as-reported rs f.0 f.0.sequence b f.1.0 refl (flag f.0 f.1.1.0))

decision-same : (rs ts : List Shown) (n m : ℕ) → ((r : Shown) → In r rs → In r ts) → ((r : Shown) → In r ts → In r rs) → ((q : ℕ) → IsReported q true rs → q ≡ n) → ((q : ℕ) → IsReported q false rs → q ≡ m) → decision rs ≡ decision ts
unfolding decision
decision-same rs ts n m to from allt allf = λ i. decided
    (numbers-alike n (revertibles rs) (revertibles ts) (numbers-all (λ r. r.revertible) true rs n (λ r h. h) allt) (numbers-all (λ r. r.revertible) true ts n (λ r h. h) (λ q h. allt q (from _ h)))
    (numbers-to (λ r. r.revertible) rs ts to) (numbers-to (λ r. r.revertible) ts rs from) i)
    (numbers-alike m (others rs) (others ts) (numbers-all (λ r. not r.revertible) false rs m (λ r h. not-true r.revertible h) allf) (numbers-all (λ r. not r.revertible) false ts m (λ r h. not-true r.revertible h) (λ q h. allf q (from _ h)))
    (numbers-to (λ r. not r.revertible) rs ts to) (numbers-to (λ r. not r.revertible) ts rs from) i)

-- ---- the number of those that are committed or reverted

abbrev pub turns : Decision → Option ℕ
turns (CommitRest n) = Some n
turns (RevertAll n) = Some n
turns (RevertSome m n) = Some n
turns d = None

turns-by : (a b : Numbers) (l n : ℕ) → (a ≡ NoNumber) ⊎ (a ≡ Same l) → turns (decided a b) ≡ Some n → n ≡ l
unfolding decided
turns-by NoNumber NoNumber l n is e = absurd cc
turns-by NoNumber (Same m) l n is e = absurd cc
turns-by NoNumber (Differ p q) l n is e = absurd cc
turns-by (Same k) NoNumber l n (inl is) e = absurd cc
turns-by (Same k) NoNumber l n (inr is) e = cc
turns-by (Same k) (Same m) l n (inl is) e = absurd cc
turns-by (Same k) (Same m) l n (inr is) e = by (k == m) e
  where
    by : (b : Bool) → turns (cond b (CommitRest k) (RevertSome m k)) ≡ Some n → n ≡ l
    by true e = cc
    by false e = cc
turns-by (Same k) (Differ p q) l n is e = absurd cc
turns-by (Differ p q) NoNumber l n is e = absurd cc
turns-by (Differ p q) (Same m) l n is e = absurd cc
turns-by (Differ p q) (Differ y z) l n is e = absurd cc

turns-all : (rs : List Shown) (l n : ℕ) → ((q : ℕ) → IsReported q true rs → q ≡ l) → turns (decision rs) ≡ Some n → n ≡ l
unfolding decision
turns-all rs l n all e = turns-by (numbers_in (revertibles rs)) (numbers_in (others rs)) l n (numbers-one l (revertibles rs) (numbers-all (λ r. r.revertible) true rs l (λ r h. h) all)) e

-- ---- where none is revertible, the group is the number that all have

-- the group by what is decided
none-in : (f : ℕ → Shown) (vs : List ℕ) → ((v : ℕ) → In v vs → (f v).revertible ≡ false) → revertibles (map f vs) ≡ []
none-in f [] plain = refl
none-in f (v ∷ vs) plain = ap (λ b. map (λ (r : Shown). r.sequence) (cond b (f v ∷ filter (λ (r : Shown). r.revertible) (map f vs)) (filter (λ (r : Shown). r.revertible) (map f vs)))) (plain v (inl refl)) ∙ none-in f vs (λ q h. plain q (inr h))

all-in : (f : ℕ → Shown) (vs : List ℕ) → ((v : ℕ) → In v vs → (f v).revertible ≡ false) → others (map f vs) ≡ map (λ v. (f v).sequence) vs
all-in f [] plain = refl
all-in f (v ∷ vs) plain = ap (λ b. map (λ (r : Shown). r.sequence) (cond (not b) (f v ∷ filter (λ (r : Shown). not r.revertible) (map f vs)) (filter (λ (r : Shown). not r.revertible) (map f vs)))) (plain v (inl refl))
    ∙ ap (λ ns. (f v).sequence ∷ ns) (all-in f vs (λ q h. plain q (inr h)))

group-common : (a : Numbers) → group_of (decided NoNumber a) ≡ common a
unfolding decided
group-common NoNumber = refl
group-common (Same n) = refl
group-common (Differ p q) = refl

pub plain-group : (f : ℕ → Shown) (vs : List ℕ) → ((v : ℕ) → In v vs → (f v).revertible ≡ false) → group_of (decision (map f vs)) ≡ common (numbers_in (map (λ v. (f v).sequence) vs))
unfolding decision
plain-group f vs plain = (λ i. group_of (decided (numbers_in (none-in f vs plain i)) (numbers_in (all-in f vs plain i)))) ∙ group-common (numbers_in (map (λ v. (f v).sequence) vs))

module _ (k : Control) (groups : Groups k) (law : Attempts k) (s : ℕ) (x : Session) (listed : In x k.sessions) (number : x.number ≡ s) where
  own : AttemptOf (roles k) x
  own = law.sessions x listed

  abbrev vs : List Seen
  vs = seen_in k x

  abbrev pub told : List Shown
  told = map (λ v. shown_of (fields_at k v)) (filter (λ v. counts_in s (fields_at k v)) k.volumes)

  -- what a member shows that counts
  pub tells : (u : Seen) → In u vs → counts u ≡ true → In (record { sequence = u.sequence; revertible = u.revertible }) told
  tells u h c =
      let o = from-map (seen (roles k)) x.members u h in
      let m : Member = o.from in
      subst (λ (u : Seen). In (record { sequence = u.sequence; revertible = u.revertible }) told) (sym o.is)
      (to-map (λ v. shown_of (fields_at k v)) (filter (λ v. counts_in s (fields_at k v)) k.volumes) m.c.0 (to-filter (λ v. counts_in s (fields_at k v)) k.volumes m.c.0
      (is-met m.c.0 k.volumes ((groups.each x listed).stands m o.here).c)
      (ap (λ s. counts_at s k m) (sym number) ∙ counts-here k groups law x m listed o.here (ap counts (sym o.is) ∙ c))))

  -- and who shows what is told
  pub record Shows (r : Shown) : Type 0 where
    pub one : Seen
    pub here : In one vs
    pub counted : counts one ≡ true
    pub is : r ≡ record { sequence = one.sequence; revertible = one.revertible }

  pub shows : (r : Shown) → In r told → Shows r
  shows r h =
      let o = from-map (λ v. shown_of (fields_at k v)) (filter (λ v. counts_in s (fields_at k v)) k.volumes) r h in
      let v : ℕ = o.from in
      let f = from-filter (λ v. counts_in s (fields_at k v)) k.volumes v o.here in
      let both = and_parts (nat_eq (fields_at k v).session s) ((fields_at k v).member || (fields_at k v).revertible) f.1 in
      let t : IsTarget k.sessions v (fields_at k v).session (roles k v).source (fields_at k v).recorded (fields_at k v).inhibited (fields_at k v).reversing = (law.volumes v).counted both.1 in
      let same : t.session ≡ x = same-session k.sessions t.session x groups.once t.listed listed (t.number ∙ (eqb-true (fields_at k v).session s both.0 ∙ sym number)) in
      record {
        one = seen (roles k) t.member;
        here = subst (λ y. In (seen (roles k) t.member) (seen_in k y)) same (to-map (seen (roles k)) t.session.members t.member t.here);
        counted = ap (λ v. (fields_at k v).member || (fields_at k v).revertible) t.is ∙ both.1;
        is = o.is ∙ ap (λ v. shown_of (fields_at k v)) (sym t.is);
      }

  pub last-by : (q : ℕ) → IsReported q true told → q ≡ x.last
  last-by q h = let t = shows (record { sequence = q; revertible = true }) h in ap (λ (r : Shown). r.sequence) t.is ∙ (own.numbers.each t.one t.here).last (sym (ap (λ (r : Shown). r.revertible) t.is))

  -- the number that those share which aren't revertible
  record Shares : Type 0 where
    shared : ℕ
    same : (u : Seen) → In u vs → counts u ≡ true → u.revertible ≡ false → u.sequence ≡ shared

  shares : SomeCommitted x.last vs ⊎ OneShown x.last vs → NoneCommitted x.last vs ⊎ AllAt x.last vs → Shares
  shares (inr one) d = record { shared = one.number; same = λ u h c p. sym (shown-plain u p) ∙ one.same u h (counts-member u c p) }
  shares (inl had) (inl none) = none-some x.last vs none had
  shares (inl had) (inr all) = record { shared = x.last; same = λ u h c p. all u h c }

  share : Shares
  share = shares own.numbers.none own.numbers.some

  others-by : (q : ℕ) → IsReported q false told → q ≡ share.shared
  others-by q h = let t = shows (record { sequence = q; revertible = false }) h in ap (λ (r : Shown). r.sequence) t.is ∙ share.same t.one t.here t.counted (sym (ap (λ (r : Shown). r.revertible) t.is))

  -- the members tell the same
  told-to : (r : Shown) → In r told → In r (shown_by_members s x.members k)
  told-to r h =
      let t = shows r h in
      let o = from-map (seen (roles k)) x.members t.one t.here in
      subst (λ r. In r (shown_by_members s x.members k)) (sym (t.is ∙ ap (λ (u : Seen). record { sequence = u.sequence; revertible = u.revertible }) o.is))
      (to-map (shown_at k) (filter (counts_at s k) x.members) o.from (to-filter (counts_at s k) x.members o.from o.here
      (ap (λ s. counts_at s k o.from) (sym number) ∙ counts-here k groups law x o.from listed o.here (ap counts (sym o.is) ∙ t.counted))))

  told-from : (r : Shown) → In r (shown_by_members s x.members k) → In r told
  told-from r h =
      let o = from-map (shown_at k) (filter (counts_at s k) x.members) r h in
      let f = from-filter (counts_at s k) x.members o.from o.here in
      subst (λ r. In r told) (sym o.is)
      (tells (seen (roles k) o.from) (to-map (seen (roles k)) x.members o.from f.0) (and_parts (nat_eq (fields_at k o.from.c.0).session s) ((fields_at k o.from.c.0).member || (fields_at k o.from.c.0).revertible) f.1).1)

  pub members-decide : decision (shown_by_members s x.members k) ≡ decided_over (fields_at k) k.volumes s
  members-decide = sym (decision-same told (shown_by_members s x.members k) x.last share.shared told-to told-from last-by others-by)

  -- what is committed or reverted has the last number
  pub turns-last : (n : ℕ) → turns (decided_over (fields_at k) k.volumes s) ≡ Some n → n ≡ x.last
  turns-last n e = turns-all told x.last n last-by e

  -- a volume that counts is a member's
  pub counts-plain : ((m : Member) → In m x.members → (fields_at k m.c.0).revertible ≡ false) → (v : ℕ) → In v k.volumes → counts_in s (fields_at k v) ≡ true → (fields_at k v).revertible ≡ false
  counts-plain plain v there c =
      let t = shows (shown_of (fields_at k v)) (to-map (λ v. shown_of (fields_at k v)) (filter (λ v. counts_in s (fields_at k v)) k.volumes) v (to-filter (λ v. counts_in s (fields_at k v)) k.volumes v there c)) in
      let o = from-map (seen (roles k)) x.members t.one t.here in
      ap (λ (r : Shown). r.revertible) t.is ∙ (ap (λ (u : Seen). u.revertible) o.is ∙ plain o.from o.here)

  -- where none is revertible, all that count have one number
  pub counts-one : ((m : Member) → In m x.members → (fields_at k m.c.0).revertible ≡ false) → (v : ℕ) → In v k.volumes → counts_in s (fields_at k v) ≡ true
      → numbers_in (map (λ v. (fields_at k v).sequence) (filter (λ v. counts_in s (fields_at k v)) k.volumes)) ≡ Same (fields_at k v).sequence
  counts-one plain v there c = numbers-of share.shared (fields_at k v).sequence _ all (to-map (λ v. (fields_at k v).sequence) (filter (λ v. counts_in s (fields_at k v)) k.volumes) v (to-filter (λ v. counts_in s (fields_at k v)) k.volumes v there c))
    where
      all : (a : ℕ) → In a (map (λ v. (fields_at k v).sequence) (filter (λ v. counts_in s (fields_at k v)) k.volumes)) → a ≡ share.shared
      all a h =
          let o = from-map (λ v. (fields_at k v).sequence) (filter (λ v. counts_in s (fields_at k v)) k.volumes) a h in
          let f = from-filter (λ v. counts_in s (fields_at k v)) k.volumes o.from o.here in
          others-by a (as-reported told (shown_of (fields_at k o.from)) a false (to-map (λ v. shown_of (fields_at k v)) (filter (λ v. counts_in s (fields_at k v)) k.volumes) o.from o.here) (sym o.is) (counts-plain plain o.from f.0 f.1))

  -- a volume that counts and is revertible is told
  revertible-told : (v : ℕ) → In v k.volumes → counts_in s (fields_at k v) ≡ true → (fields_at k v).revertible ≡ true → IsReported (fields_at k v).sequence true told
  revertible-told v there c r =
      as-reported told (shown_of (fields_at k v)) (fields_at k v).sequence true
      (to-map (λ v. shown_of (fields_at k v)) (filter (λ v. counts_in s (fields_at k v)) k.volumes) v (to-filter (λ v. counts_in s (fields_at k v)) k.volumes v there c)) refl r

  module _ (v : ℕ) (there : In v k.volumes) (counted : counts_in s (fields_at k v) ≡ true) (flag : (fields_at k v).revertible ≡ true) where
    -- where one is committed, the others are to be
    pub some-commits : SomeCommitted x.last vs → lets_revert (decided_over (fields_at k) k.volumes s) ≡ false
    some-commits had =
        let h = revertible-told v there counted flag in
        let c = committed-parts x.last had.one had.is in
        let all : AllAt x.last vs = all_at own.numbers.some in
        ap lets_revert (commit-holds told x.last
        (subst (λ q. IsReported q true told) (last-by (fields_at k v).sequence h) h)
        (as-reported told (record { sequence = had.one.sequence; revertible = had.one.revertible }) x.last false (tells had.one had.here (member-counts had.one c.member)) c.numbered c.plain)
        last-by
        (λ q h. let t = shows (record { sequence = q; revertible = false }) h in ap (λ (r : Shown). r.sequence) t.is ∙ all t.one t.here t.counted))
      where
        all_at : NoneCommitted x.last vs ⊎ AllAt x.last vs → AllAt x.last vs
        all_at (inl none) = none-some x.last vs none had
        all_at (inr all) = all

    -- where none is, those that are revertible are to be reverted
    pub none-reverts : NoneCommitted x.last vs → lets_revert (decided_over (fields_at k) k.volumes s) ≡ true
    none-reverts none = by (decision told) refl
      where
        h : IsReported (fields_at k v).sequence true told
        h = revertible-told v there counted flag

        shared : SomeCommitted x.last vs ⊎ OneShown x.last vs → OneShown x.last vs
        shared (inl had) = none-some x.last vs none had
        shared (inr one) = one

        by : (d : Decision) → decision told ≡ d → lets_revert d ≡ true
        by NoMember e = absurd (nobody-tells told e (fields_at k v).sequence h)
        by (Nothing n) e = absurd (nothing-tells told n e (fields_at k v).sequence h)
        by (RevertAll n) e = refl
        by (RevertSome m n) e = refl
        by (CommitRest n) e =
            let both = commit-tells told n e in
            let t = shows (record { sequence = n; revertible = false }) both.1 in
            let plain : t.one.revertible ≡ false = sym (ap (λ (r : Shown). r.revertible) t.is) in
            none-some x.last vs none (record { one = t.one; here = t.here; is = is-committed x.last t.one (counts-member t.one t.counted plain) plain (sym (ap (λ (r : Shown). r.sequence) t.is) ∙ last-by n both.0) })
        by (Impossible a b) e =
            let one : OneShown x.last vs = shared own.numbers.none in
            absurd (never-impossible told x.last one.number a b last-by
            (λ q h. let t = shows (record { sequence = q; revertible = false }) h in
            let plain : t.one.revertible ≡ false = sym (ap (λ (r : Shown). r.revertible) t.is) in
            ap (λ (r : Shown). r.sequence) t.is ∙ (sym (shown-plain t.one plain) ∙ one.same t.one t.here (counts-member t.one t.counted plain)))
            e)

-- ---- one target of a session is committed, or reverted

module _ (k j : Control) (c : Carried) (x : Session) (q : Member) (n : ℕ) (groups : Groups k) (law : Attempts k) (listed : In x k.sessions) (here : In q x.members) (flag : (fields_at k q.c.0).revertible ≡ true) where
  pub commit-some : Moves k j q.c.0 (commit_fields n (fields_at k q.c.0)) c → SomeCommitted x.last (seen_in j x)
  commit-some moves =
      let is = seen-target k j q.c.0 (commit_fields n (fields_at k q.c.0)) c x q moves groups listed here (inr (inr refl)) refl in
      let last : (fields_at k q.c.0).sequence ≡ x.last = ((law.sessions x listed).numbers.each (seen (roles k) q) (to-map (seen (roles k)) x.members q here)).last flag in
      record {
        one = seen (roles j) q;
        here = to-map (seen (roles j)) x.members q here;
        is = is-committed x.last (seen (roles j) q) (ap (λ u. u.member) is) (ap (λ u. u.revertible) is) (ap (λ u. u.sequence) is ∙ last);
      }

  pub revert-none : Moves k j q.c.0 (revert_fields n (fields_at k q.c.0)) c → NoneCommitted x.last (seen_in k x) → NoneCommitted x.last (seen_in j x)
  revert-none moves none =
      let move : Update (seen_in k x) (seen (roles k) q) (seen (roles j) q) (seen_in j x) = seen-moves k j q.c.0 (revert_fields n (fields_at k q.c.0)) c x q moves groups listed here (inr (inr refl)) in
      each _ move (apart move (law.sessions x listed).numbers.none) none
    where
      is : seen (roles j) q ≡ seen_of q.server.0 q.a.0 (roles k q.a.0) (roles k q.b.0) (role_of (revert_fields n (fields_at k q.c.0)))
      is = seen-target k j q.c.0 (revert_fields n (fields_at k q.c.0)) c x q moves groups listed here (inr (inr refl)) refl

      apart : Update (seen_in k x) (seen (roles k) q) (seen (roles j) q) (seen_in j x) → SomeCommitted x.last (seen_in k x) ⊎ OneShown x.last (seen_in k x) → committed x.last (seen (roles j) q) ≡ false
      apart move (inl had) = none-some x.last (seen_in k x) none had
      apart move (inr one) = apart-none x.last (seen (roles j) q) (λ m e. one.apart (sym (one.same (seen (roles k) q) move.here (ap (λ u. u.member) (sym is) ∙ m)) ∙ (shown-rev (seen (roles k) q) flag ∙ (ap number_shown (sym is) ∙ e))))
