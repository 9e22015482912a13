-- Who stands committed is the primary of a member whose target is a member's, after each kind of move.
use Rattle.std.proofs.Common.{ℕ, ◌≡◌, ◌<◌, ◌≤◌, inl, inr, refl, sym, ◌∙◌, arith, Bool, true, false, not, ◌&&◌, nat_eq, Some, None, subst}
use Rattle.std.proofs.lemmas.Bool.{and_from, and_parts, eq-eqb, eqb-true, not-true, or_left}
use Rattle.std.proofs.lemmas.Option.{same_Some}
use Rattle.dr_model.specs.Layout.{Fields}
use Rattle.dr_model.specs.Histories.{Write, histories}
use Rattle.dr_model.specs.Control.{Control, World}
use Rattle.dr_model.specs.Relations.{is_whole, parted_if, fetched, noted, rewritten}
use Rattle.dr_model.specs.Moves.{Move, Overwrite, Keep, Relate, Withdraw, Fetch, Resync, Reverse, Release, Hold, Leave, Flash, Commit, Revert, target, fields_left}
use Rattle.dr_model.specs.Entries.{fields_at}
use Rattle.dr_model.specs.Table.{Row, Table, table}
use Rattle.dr_model.specs.Rows.{after, next_row}
use Rattle.dr_model.specs.Groups.{Groups}
use Rattle.dr_model.specs.Attempts.{Attempts, Persists, DoesNotCount, GoesAs, CommitsMember, InAttempt}
use Rattle.dr_model.specs.Laws.{fields}
use Rattle.dr_model.specs.Allowed.{Allowed}
use Rattle.dr_laws_attempts.proofs.Moves.{flashable, reversing-uncounted}
use Rattle.dr_facts.proofs.Tables.{at_cases}
use Rattle.dr_laws_closed.specs.Moments.{Standing, is_one}
use Rattle.dr_laws_closed.specs.Closing.{number_kept}
use Rattle.dr_laws_closed.proofs.Standings.{added}
use Rattle.dr_laws_attempts.proofs.Facts.{stood}
use Rattle.dr_laws_closed.proofs.Counts.{shown-plain, shown-before}
use Rattle.dr_laws_targets.specs.Committeds.{next_committed}
use Rattle.dr_laws_targets.specs.Counted.{MemberHas, CommittedAsMember}
use Rattle.dr_laws_targets.proofs.Turns.{grown}
use Rattle.dr_logic.proofs.Truth.{false_true}

-- a target is a member's with number n or a later one
abbrev pub HasFor : ℕ → Fields → Type 0
HasFor n f = (f.member ≡ true) × (n ≤ number_kept f)

no-has : {P : Type 0} (n : ℕ) (f : Fields) → DoesNotCount f → HasFor n f → P
no-has n f none c = absurd (false_true none (or_left f.member f.revertible c.0))

parted-has : (b : Bool) (f : Fields) (n : ℕ) → (b ≡ true → ⊥) → HasFor n f → HasFor n (parted_if b f)
parted-has true f n never c = absurd (never refl)
parted-has false f n never c = c

module _ (k : Control) (groups : Groups k) (law : Attempts k) where
  never-ends : (v n : ℕ) (whole : Bool) → Persists (fields_at k v) → HasFor n (fields_at k v) → (whole && not (fields_at k v).persistent) ≡ true → ⊥
  never-ends v n whole keeps c e =
      let t = (law.volumes v).counted (or_left (fields_at k v).member (fields_at k v).revertible c.0) in
      false_true (not-true (fields_at k v).persistent (and_parts whole (not (fields_at k v).persistent) e).1) (keeps t.records)

  abbrev pub IsPlain : Move → Type 0
  IsPlain (Reverse v left) = ⊥
  IsPlain (Leave v a s) = ⊥
  IsPlain m = Unit {0}

  committed-has : (v p s n j : ℕ) → CommitsMember k v p s n → HasFor j (fields_at k v) → j ≤ (fields_at k v).sequence
  committed-has v p s n j a c =
      let up : (fields_at k v).previous_sequence < (fields_at k v).sequence =
      subst (λ q. (fields_at k q).revertible ≡ true → (fields_at k q).member ≡ true → (fields_at k q).previous_sequence < (fields_at k q).sequence) a.target
      (grown k groups law a.place.session a.place.member a.place.listed a.place.here) a.revertible c.0 in
      let low : j ≤ (fields_at k v).previous_sequence = subst (λ i. j ≤ i) (shown-before (fields_at k v) a.revertible) c.1 in
      omega arith

  -- a target that is a member's with a number goes on to be
  pub has-on : (m : Move) → InAttempt k m → IsPlain m → (n : ℕ) → HasFor n (fields_at k (target m)) → HasFor n (fields_left m (k.volume (target m)))
  has-on (Reverse v left) a plain n c = absurd plain
  has-on (Leave v p s) a plain n c = absurd plain
  has-on (Overwrite x v t) a plain n c = let f = fields_at k v in parted-has _ (rewritten (fetched f t) t) n (never-ends v n (is_whole (k.volume v).tracks (fetched f t).own) a.0 c) c
  has-on (Keep v t) a plain n c = let f = fields_at k v in parted-has _ (noted (fetched f t) t) n (never-ends v n (is_whole (k.volume v).tracks (fetched f t).own) a c) c
  has-on (Fetch v t) a plain n c = let f = fields_at k v in parted-has _ (fetched f t) n (never-ends v n (is_whole (k.volume v).tracks (fetched f t).own) a c) c
  has-on (Relate v s choices) a plain n c = no-has n (fields_at k v) a c
  has-on (Withdraw v) a plain n c = no-has n (fields_at k v) a c
  has-on (Resync v sequence) a plain n c = no-has n (fields_at k v) a c
  has-on (Release v t) a plain n c = no-has n (fields_at k v) (reversing-uncounted k law v a) c
  has-on (Flash v u p s j) a plain n c = (c.0, subst (λ i. n ≤ i) (shown-plain (fields_at k v) (flashable u (fields_at k v) a.free).plain) c.1)
  has-on (Commit v p s j) a plain n c = (refl, committed-has v p s j n a c)
  has-on (Revert v p s j) a plain n c = (c.0, subst (λ i. n ≤ i) (shown-before (fields_at k v) a.revertible) c.1)
  has-on m a plain n c = c

module _ (w : World) (l : Standing) (old : CommittedAsMember w.control.sessions (table w) l) where
  abbrev k : Control
  k = w.control

  abbrev T : Table
  T = table w

  abbrev write : ℕ → Write
  write = (histories w.events).write

  -- the member of one that stood, whose target is a member's still
  over : (m : Move) (z n x : ℕ) (c : MemberHas k.sessions T z n x) → (c.member.c.0 ≡ target m → HasFor n (fields_left m (k.volume (target m)))) → MemberHas k.sessions (after write T m) z n x
  over m z n x c to = record {
    session = c.session;
    listed = c.listed;
    number = c.number;
    member = c.member;
    here = c.here;
    is = c.is;
    flag = has.0;
    reached = has.1;
  }
    where
      has : HasFor n (fields (after write T m) c.member.c.0)
      has = at_cases (λ u (r : Row). (u ≡ target m → HasFor n (fields_left m (k.volume (target m)))) → HasFor n (fields T u) → HasFor n r.volume.fields) T (target m) (next_row write m T) (λ to c. to refl) (λ u ne to c. c) c.member.c.0 to (c.flag, c.reached)

  -- a hold leaves who is one
  pub committed-held : (v s n : ℕ) (first : Bool) → CommittedAsMember k.sessions (after write T (Hold v s n first)) l
  committed-held v s n first z j x h = let c = old z j x h in over (Hold v s n first) z j x c (λ e. subst (λ q. HasFor j (fields_at k q)) e (c.flag, c.reached))

  module _ (groups : Groups k) (law : Attempts k) where
    stays : (m : Move) → InAttempt k m → IsPlain k groups law m → (z n x : ℕ) → l z n x ≡ true → MemberHas k.sessions (after write T m) z n x
    stays m a plain z n x h = let c = old z n x h in over m z n x c (λ e. has-on k groups law m a plain n (subst (λ q. HasFor n (fields_at k q)) e (c.flag, c.reached)))

    -- one that goes stands committed no more
    gone : {P : Type 0} (v p s z n x : ℕ) → GoesAs k v (Some p) s → (nat_eq z s && nat_eq x p) ≡ false → (c : MemberHas k.sessions T z n x) → c.member.c.0 ≡ v → P
    gone v p s z n x goes out c e =
        let t = goes.counted (subst (λ q. (fields_at k q).member ≡ true) e c.flag) c.session c.member c.listed c.here e in
        false_true out (and_from (nat_eq z s) (nat_eq x p) (eq-eqb z s (sym c.number ∙ sym t.1)) (eq-eqb x p (sym c.is ∙ sym ((same_Some _ _ t.0)))))

    unnamed : {P : Type 0} (v s z n x : ℕ) → GoesAs k v None s → (c : MemberHas k.sessions T z n x) → c.member.c.0 ≡ v → P
    unnamed v s z n x goes c e =
        let t = goes.counted (subst (λ q. (fields_at k q).member ≡ true) e c.flag) c.session c.member c.listed c.here e in
        let none : None ≡ Some c.member.a.0 = t.0 in absurd cc

    commits : (v p s j : ℕ) → (fields T v).sequence ≡ j → InAttempt k (Commit v p s j) → (z n x : ℕ) → is_one s j p z n x ≡ true → MemberHas k.sessions (after write T (Commit v p s j)) z n x
    commits v p s j number a z n x is =
        let b = and_parts _ _ is in let d = and_parts _ _ b.1 in
        record {
          session = a.place.session;
          listed = a.place.listed;
          number = a.place.number ∙ sym (eqb-true z s b.0);
          member = a.place.member;
          here = a.place.here;
          is = a.place.is ∙ sym (eqb-true x p d.1);
          flag = (has (eqb-true n j d.0)).0;
          reached = (has (eqb-true n j d.0)).1;
        }
      where
        has : n ≡ j → HasFor n (fields (after write T (Commit v p s j)) a.place.member.c.0)
        has e = at_cases (λ q (r : Row). q ≡ v → HasFor n r.volume.fields) T v (next_row write (Commit v p s j) T)
            (λ same. (refl, (let at-j : (fields T v).sequence ≡ j = number in omega arith))) (λ q ne same. absurd (ne same)) a.place.member.c.0 a.target

    pub committed-then : (m : Move) → Allowed write T m → InAttempt k m → CommittedAsMember k.sessions (after write T m) (next_committed m (k.volume (target m)) l)
    committed-then (Leave v p s) may a z n x h = let was = stood _ _ h in let c = old z n x was.1 in over (Leave v p s) z n x c (λ e. gone v p s z n x a.1 was.0 c e)
    committed-then (Reverse v None) may a z n x h = let c = old z n x h in over (Reverse v None) z n x c (λ e. unnamed v (fields_at k v).session z n x a.1 c e)
    committed-then (Reverse v (Some p)) may a z n x h =
        let was = stood _ _ h in let c = old z n x was.1 in over (Reverse v (Some p)) z n x c (λ e. gone v p (fields_at k v).session z n x a.1 was.0 c e)
    committed-then (Commit v p s j) may a z n x h = elim (added _ _ h) [
      | inl is ↦ commits v p s j may.number a z n x is
      | inr was ↦ stays (Commit v p s j) a tt z n x was
    ]
    committed-then m may a z n x h = stays m a tt z n x h
