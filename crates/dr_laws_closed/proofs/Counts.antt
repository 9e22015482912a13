-- Who stands in a group is the primary of a member whose target counts for its number, after each kind of move.
use Rattle.std.proofs.Common.{ℕ, ◌≡◌, ◌<◌, ◌≤◌, inl, inr, refl, ap, sym, ◌∙◌, arith, Bool, true, false, cond, not, ◌&&◌, ◌||◌, Option, Some, None, subst}
use Rattle.std.proofs.lemmas.Bool.{and_parts, eqb-true, not-true, or_right, or_left}
use Rattle.std.proofs.lemmas.Option.{same_Some}
use Rattle.dr_logic.specs.Tables.{at}
use Rattle.dr_ids.specs.declared.names.Member.{Member}
use Rattle.dr_model.specs.Layout.{Fields}
use Rattle.dr_model.specs.Control.{Control}
use Rattle.dr_model.specs.Relations.{is_whole, is_bare, parted_if, fetched, noted, rewritten, given_up}
use Rattle.dr_model.specs.Moves.{Move, Overwrite, Keep, Relate, Withdraw, Fetch, Resync, Reverse, Release, Leave, Flash, Commit, Revert, target, fields_left}
use Rattle.dr_model.specs.Entries.{fields_at}
use Rattle.dr_model.specs.Sessions.{Session}
use Rattle.dr_model.specs.Groups.{In, Groups}
use Rattle.dr_model.specs.Attempts.{roles, seen, number_shown, Numbered, Attempts, Persists, DoesNotCount, InAttempt}
use Rattle.dr_facts.proofs.Lists.{to-map}
use Rattle.dr_laws_attempts.proofs.Moves.{at-place, flashable, reversing-uncounted}
use Rattle.dr_facts.proofs.Tables.{at_cases}
use Rattle.dr_laws_closed.specs.Closing.{AllFields, number_kept, CountsFor, MemberCounts, StandsAsMember}
use Rattle.dr_laws_closed.specs.Moments.{Standing, is_one}
use Rattle.dr_laws_closed.specs.Next.{next_standing}
use Rattle.dr_laws_closed.proofs.Standings.{added, is-same, is-same-two}
use Rattle.dr_laws_attempts.proofs.Facts.{stood}
use Rattle.dr_logic.proofs.Truth.{false_true}

-- what counts for a number counts
pub does-count : (n : ℕ) (f : Fields) → CountsFor n f → (f.member || f.revertible) ≡ true
does-count n f (inl c) = or_right f.member f.revertible c.0
does-count n f (inr c) = or_left f.member f.revertible c.0

no-count : {P : Type 0} (n : ℕ) (f : Fields) → DoesNotCount f → CountsFor n f → P
no-count n f none c = absurd (false_true none (does-count n f c))

parted-counts : (b : Bool) (f : Fields) (n : ℕ) → (b ≡ true → ⊥) → CountsFor n f → CountsFor n (parted_if b f)
parted-counts true f n never c = absurd (never refl)
parted-counts false f n never c = c

pub shown-plain : (f : Fields) → f.revertible ≡ false → number_kept f ≡ f.sequence
shown-plain f h = ap (λ b. cond b f.previous_sequence f.sequence) h

pub shown-before : (f : Fields) → f.revertible ≡ true → number_kept f ≡ f.previous_sequence
shown-before f h = ap (λ b. cond b f.previous_sequence f.sequence) h

module _ (k : Control) (groups : Groups k) (law : Attempts k) where
  pub numbered : (x : Session) (m : Member) → In x k.sessions → In m x.members → Numbered x.last (seen (roles k) m)
  numbered x m i here = (law.sessions x i).numbers.each (seen (roles k) m) (to-map (seen (roles k)) x.members m here)

  -- a relationship that ends is that of a target that doesn't count
  never-ends : (v n : ℕ) (whole : Bool) → Persists (fields_at k v) → CountsFor n (fields_at k v) → (whole && not (fields_at k v).persistent) ≡ true → ⊥
  never-ends v n whole keeps c e =
      let t = (law.volumes v).counted (does-count n (fields_at k v) c) in
      false_true (not-true (fields_at k v).persistent (and_parts whole (not (fields_at k v).persistent) e).1) (keeps t.records)

  never-released : (v n : ℕ) (b : Bool) → (fields_at k v).reversing ≡ true → CountsFor n (fields_at k v) → b ≡ true → ⊥
  never-released v n b rev c e = no-count n (fields_at k v) (reversing-uncounted k law v rev) c

  abbrev pub IsPlain : Move → Type 0
  IsPlain (Reverse v left) = ⊥
  IsPlain (Leave v a s) = ⊥
  IsPlain (Revert v a s n) = ⊥
  IsPlain m = Unit {0}

  flashed-counts : (f : Fields) (n : ℕ) → f.revertible ≡ false → CountsFor n f → (f.member ≡ true) × (n ≤ f.sequence)
  flashed-counts f n plain (inl c) = false_true plain c.0
  flashed-counts f n plain (inr c) = (c.0, subst (λ j. n ≤ j) (shown-plain f plain) c.1)

  -- a target that may go back has a greater number than it had before
  grown : (x : Session) (m : Member) → In x k.sessions → In m x.members → (fields_at k m.c.0).revertible ≡ true → (fields_at k m.c.0).member ≡ true → (fields_at k m.c.0).previous_sequence ≤ (fields_at k m.c.0).sequence
  grown x m i here rev mem =
      let r = numbered x m i here in
      let low : number_shown (seen (roles k) m) ≤ (fields_at k m.c.0).floor = r.reached mem in
      let is : number_shown (seen (roles k) m) ≡ (fields_at k m.c.0).previous_sequence = ap (λ b. cond b (fields_at k m.c.0).previous_sequence (fields_at k m.c.0).sequence) rev in
      let above : (fields_at k m.c.0).floor < x.last = r.above rev in
      let last : (fields_at k m.c.0).sequence ≡ x.last = r.last rev in
      omega arith

  committed-counts : (f : Fields) (n : ℕ) → f.revertible ≡ true → (f.member ≡ true → f.previous_sequence ≤ f.sequence) → CountsFor n f → n ≤ f.sequence
  committed-counts f n rev up (inl c) = let e : f.sequence ≡ n = c.1 in omega arith
  committed-counts f n rev up (inr c) = let low : n ≤ f.previous_sequence = subst (λ j. n ≤ j) (shown-before f rev) c.1 in let more : f.previous_sequence ≤ f.sequence = up c.0 in omega arith

  -- a target that counts for a number goes on to do so
  pub counts-on : (m : Move) → InAttempt k m → IsPlain m → (n : ℕ) → CountsFor n (fields_at k (target m)) → CountsFor n (fields_left m (k.volume (target m)))
  counts-on (Reverse v left) a plain n c = absurd plain
  counts-on (Leave v p s) a plain n c = absurd plain
  counts-on (Revert v p s j) a plain n c = absurd plain
  counts-on (Overwrite x v t) a plain n c = let f = fields_at k v in
      parted-counts _ (rewritten (fetched f t) t) n (never-ends v n (is_whole (k.volume v).tracks (fetched f t).own) a.0 c) c
  counts-on (Keep v t) a plain n c = let f = fields_at k v in
      parted-counts _ (noted (fetched f t) t) n (never-ends v n (is_whole (k.volume v).tracks (fetched f t).own) a c) c
  counts-on (Fetch v t) a plain n c = let f = fields_at k v in
      parted-counts _ (fetched f t) n (never-ends v n (is_whole (k.volume v).tracks (fetched f t).own) a c) c
  counts-on (Relate v s choices) a plain n c = no-count n (fields_at k v) a c
  counts-on (Withdraw v) a plain n c = no-count n (fields_at k v) a c
  counts-on (Resync v sequence) a plain n c = no-count n (fields_at k v) a c
  counts-on (Release v t) a plain n c = parted-counts _ (given_up (fields_at k v) t) n (never-released v n (is_bare (given_up (fields_at k v) t).own) a c) c
  counts-on (Flash v u p s j) a plain n c = inr (flashed-counts (fields_at k v) n (flashable u (fields_at k v) a.free).plain c)
  counts-on (Commit v p s j) a plain n c =
      let up : (fields_at k v).member ≡ true → (fields_at k v).previous_sequence ≤ (fields_at k v).sequence =
      subst (λ q. (fields_at k q).member ≡ true → (fields_at k q).previous_sequence ≤ (fields_at k q).sequence) a.target
      (grown a.place.session a.place.member a.place.listed a.place.here (subst (λ q. (fields_at k q).revertible ≡ true) (sym a.target) a.revertible)) in
      inr (refl, committed-counts (fields_at k v) n a.revertible up c)
  counts-on m a plain n c = c

  -- ---- who stands then

  module _ (m : Move) (a : InAttempt k m) (g : Standing) (old : StandsAsMember k.sessions (fields_at k) g) where
    abbrev new : Fields
    new = fields_left m (k.volume (target m))

    abbrev then_at : AllFields
    then_at = at (fields_at k) (target m) new

    -- the member of one that stood, whose target counts still
    over : (z n x : ℕ) (c : MemberCounts k.sessions (fields_at k) z n x) → (c.member.c.0 ≡ target m → CountsFor n new) → MemberCounts k.sessions then_at z n x
    over z n x c to = record {
      session = c.session;
      listed = c.listed;
      number = c.number;
      member = c.member;
      here = c.here;
      is = c.is;
      counts = at_cases (λ u y. (u ≡ target m → CountsFor n new) → CountsFor n (fields_at k u) → CountsFor n y) (fields_at k) (target m) new (λ to c. to refl) (λ u ne to c. c) c.member.c.0 to c.counts;
    }

    stays : IsPlain m → (z n x : ℕ) → g z n x ≡ true → MemberCounts k.sessions then_at z n x
    stays plain z n x h = let c = old z n x h in over z n x c (λ e. counts-on m a plain n (subst (λ q. CountsFor n (fields_at k q)) e c.counts))

  -- one that goes stands in no group any more
  gone-counts : (v n : ℕ) (f : Fields) → f.revertible ≡ false → ((f.member ≡ true) → ⊥) → CountsFor n f → ⊥
  gone-counts v n f plain never (inl c) = false_true plain c.0
  gone-counts v n f plain never (inr c) = never c.0

  module _ (g : Standing) (old : StandsAsMember k.sessions (fields_at k) g) where
    left-stands : (v p s : ℕ) → InAttempt k (Leave v p s) → (z n x : ℕ) → next_standing (Leave v p s) (k.volume v) g z n x ≡ true → MemberCounts k.sessions (at (fields_at k) v (fields_left (Leave v p s) (k.volume v))) z n x
    left-stands v p s a z n x h =
        let was = stood _ _ h in let c = old z n x was.1 in
        over (Leave v p s) a g old z n x c (λ e. absurd (gone-counts v n (fields_at k v) a.0.plain
        (λ mem. let t = a.1.counted mem c.session c.member c.listed c.here e in false_true was.0 (is-same-two z x s p (sym c.number ∙ sym t.1) (sym c.is ∙ sym ((same_Some _ _ t.0)))))
        (subst (λ q. CountsFor n (fields_at k q)) e c.counts)))

    reversed-stands : (v : ℕ) (o : Option ℕ) → InAttempt k (Reverse v o) → (z n x : ℕ) → next_standing (Reverse v o) (k.volume v) g z n x ≡ true → MemberCounts k.sessions (at (fields_at k) v (fields_left (Reverse v o) (k.volume v))) z n x
    reversed-stands v None a z n x h =
        let c = old z n x h in
        over (Reverse v None) a g old z n x c (λ e. absurd (gone-counts v n (fields_at k v) a.0.plain
        (λ mem. let t = a.1.counted mem c.session c.member c.listed c.here e in let none : None ≡ Some c.member.a.0 = t.0 in absurd cc)
        (subst (λ q. CountsFor n (fields_at k q)) e c.counts)))
    reversed-stands v (Some p) a z n x h =
        let was = stood _ _ h in let c = old z n x was.1 in
        over (Reverse v (Some p)) a g old z n x c (λ e. absurd (gone-counts v n (fields_at k v) a.0.plain
        (λ mem. let t = a.1.counted mem c.session c.member c.listed c.here e in let same : p ≡ c.member.a.0 = (same_Some _ _ t.0) in
        false_true was.0 (is-same-two z x (fields_at k v).session p (sym c.number ∙ sym t.1) (sym c.is ∙ sym same)))
        (subst (λ q. CountsFor n (fields_at k q)) e c.counts)))

    reverted-counts : (v p s j : ℕ) (z n x : ℕ) → InAttempt k (Revert v p s j) → (is_one s j p z n x ≡ false) → (c : MemberCounts k.sessions (fields_at k) z n x) → c.member.c.0 ≡ v → CountsFor n (fields_at k v) → CountsFor n (fields_left (Revert v p s j) (k.volume v))
    reverted-counts v p s j z n x a out c e (inl k1) = absurd (false_true out (is-same z n x s j p
        (sym c.number ∙ (ap (λ (x : Session). x.number) there.0 ∙ a.place.number))
        (sym k1.1 ∙ (ap (λ q. (fields_at k q).sequence) (sym a.target) ∙ ((numbered a.place.session a.place.member a.place.listed a.place.here).last (subst (λ q. (fields_at k q).revertible ≡ true) (sym a.target) a.revertible) ∙ sym a.last)))
        (sym c.is ∙ (ap (λ (m : Member). m.a.0) there.1 ∙ a.place.is))))
      where
        there : (c.session ≡ a.place.session) × (c.member ≡ a.place.member)
        there = at-place k groups law (λ z m. (c.session ≡ z) × (c.member ≡ m)) v c.session c.member c.listed c.here (inr (inr (sym e))) (refl, refl) a.place.session a.place.member a.place.listed a.place.here (inr (inr (sym a.target)))
    reverted-counts v p s j z n x a out c e (inr k2) = inr (k2.0, subst (λ q. n ≤ q) (shown-before (fields_at k v) a.revertible) k2.1)

    reverted-stands : (v p s j : ℕ) → InAttempt k (Revert v p s j) → (z n x : ℕ) → next_standing (Revert v p s j) (k.volume v) g z n x ≡ true → MemberCounts k.sessions (at (fields_at k) v (fields_left (Revert v p s j) (k.volume v))) z n x
    reverted-stands v p s j a z n x h =
        let was = stood _ _ h in let c = old z n x was.1 in
        over (Revert v p s j) a g old z n x c (λ e. reverted-counts v p s j z n x a was.0 c e (subst (λ q. CountsFor n (fields_at k q)) e c.counts))

    flashed-stands : (v u p s j : ℕ) → InAttempt k (Flash v u p s j) → (z n x : ℕ) → next_standing (Flash v u p s j) (k.volume v) g z n x ≡ true → MemberCounts k.sessions (at (fields_at k) v (fields_left (Flash v u p s j) (k.volume v))) z n x
    flashed-stands v u p s j a z n x h = elim (added _ _ h) [
      | inl is ↦ new-one is
      | inr was ↦ stays (Flash v u p s j) a g old tt z n x was
    ]
      where
        new-one : is_one s j p z n x ≡ true → MemberCounts k.sessions (at (fields_at k) v (fields_left (Flash v u p s j) (k.volume v))) z n x
        new-one is =
            let b = and_parts _ _ is in let d = and_parts _ _ b.1 in
            record {
              session = a.place.session;
              listed = a.place.listed;
              number = a.place.number ∙ sym (eqb-true z s b.0);
              member = a.place.member;
              here = a.place.here;
              is = a.place.is ∙ sym (eqb-true x p d.1);
              counts = at_cases (λ q y. q ≡ v → CountsFor n y) (fields_at k) v (fields_left (Flash v u p s j) (k.volume v)) (λ e. inl (refl, sym (eqb-true n j d.0))) (λ q ne e. absurd (ne e)) a.place.member.c.0 a.target;
            }

    pub stands-then : (m : Move) → InAttempt k m → StandsAsMember k.sessions (at (fields_at k) (target m) (fields_left m (k.volume (target m)))) (next_standing m (k.volume (target m)) g)
    stands-then (Leave v p s) a z n x h = left-stands v p s a z n x h
    stands-then (Reverse v o) a z n x h = reversed-stands v o a z n x h
    stands-then (Revert v p s j) a z n x h = reverted-stands v p s j a z n x h
    stands-then (Flash v u p s j) a z n x h = flashed-stands v u p s j a z n x h
    stands-then m a z n x h = stays m a g old tt z n x h
