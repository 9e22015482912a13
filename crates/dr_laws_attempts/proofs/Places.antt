-- A volume has one place, so where its record says something else, one session sees one member otherwise.
use Rattle.std.proofs.Common.{ℕ, Bool, ◌≡◌, ◌⊎◌, inl, inr, refl, ap, sym, ◌∙◌, List, [], ◌∷◌, subst, Option, arith}
use Rattle.std.proofs.lemmas.Bool.Decides.{eqb_tells}
use Rattle.dr_logic.specs.Tables.{at}
use Rattle.dr_ids.specs.declared.names.Member.{Member}
use Rattle.dr_ids.specs.declared.refusal.PhaseName.{PhaseName}
use Rattle.dr_model.specs.Decisions.{Shown}
use Rattle.dr_model.specs.Messages.{Flight}
use Rattle.dr_model.specs.Entries.{is_at}
use Rattle.dr_model.specs.Sessions.{Session}
use Rattle.dr_model.specs.Groups.{In, IsAt, PlacesDiffer, Lone}
use Rattle.dr_model.specs.Attempts.{Role, Roles, Seen, seen_of, seen, all_seen, phase_of, owed_of, reports_of, IsAttempt, AttemptOf, Claim, AttemptsIn}
use Rattle.dr_facts.proofs.Lists.{Image, from-map, to-map}
use Rattle.dr_facts.proofs.Tables.{IsOrNot, at_cases, at_is}
use Rattle.dr_laws_attempts.proofs.Facts.{Update}
use Rattle.dr_laws_attempts.proofs.Turns.{Kind, Try, Pair, next_seen, MayTurn, MayTry, MayPair}
use Rattle.dr_laws_attempts.proofs.TurnsKeep.{kept}
use Rattle.dr_logic.proofs.Tables.{at_other}

is-placed-by : (x : ℕ) (m : Member) → IsOrNot x m.a.0 → IsOrNot x m.b.0 → IsOrNot x m.c.0 → IsAt x m ⊎ (IsAt x m → ⊥)
is-placed-by x m (inl a) b c = inl (inl a.1)
is-placed-by x m (inr a) (inl b) c = inl (inr (inl b.1))
is-placed-by x m (inr a) (inr b) (inl c) = inl (inr (inr c.1))
is-placed-by x m (inr a) (inr b) (inr c) = inr none
  where
    none : IsAt x m → ⊥
    none (inl e) = a.1 e
    none (inr (inl e)) = b.1 e
    none (inr (inr e)) = c.1 e

pub is-placed : (x : ℕ) (m : Member) → IsAt x m ⊎ (IsAt x m → ⊥)
is-placed x m = is-placed-by x m (eqb_tells x m.a.0) (eqb_tells x m.b.0) (eqb_tells x m.c.0)

-- the member of a list in which a volume has its place, if it has one there
pub record PlaceIn (x : ℕ) (ms : List Member) : Type 0 where
  pub member : Member
  pub here : In member ms
  pub is : IsAt x member

find-place-by : (x : ℕ) (m : Member) (ms : List Member) → IsAt x m ⊎ (IsAt x m → ⊥) → PlaceIn x ms ⊎ ((q : Member) → In q ms → IsAt x q → ⊥) → PlaceIn x (m ∷ ms) ⊎ ((q : Member) → In q (m ∷ ms) → IsAt x q → ⊥)
find-place-by x m ms (inl is) rest = inl (record { member = m; here = inl refl; is = is })
find-place-by x m ms (inr not) (inl p) = inl (record { member = p.member; here = inr p.here; is = p.is })
find-place-by x m ms (inr not) (inr none) = inr (λ q h i. by q h i)
  where
    by : (q : Member) → In q (m ∷ ms) → IsAt x q → ⊥
    by q (inl is) i = not (subst (IsAt x) is i)
    by q (inr more) i = none q more i

pub find-place : (x : ℕ) (ms : List Member) → PlaceIn x ms ⊎ ((q : Member) → In q ms → IsAt x q → ⊥)
find-place x [] = inr (λ q h i. absurd h)
find-place x (m ∷ ms) = find-place-by x m ms (is-placed x m) (find-place x ms)

module _ (T : Roles) (x : ℕ) (y : Role) where
  -- a member elsewhere is seen as before
  pub seen-apart : (m : Member) → (IsAt x m → ⊥) → seen (at T x y) m ≡ seen T m
  seen-apart m apart =
      ap (λ r. seen_of m.server.0 m.a.0 r (at T x y m.b.0) (at T x y m.c.0)) (at_other T x y m.a.0 (λ e. apart (inl (sym e))))
      ∙ ap (λ r. seen_of m.server.0 m.a.0 (T m.a.0) r (at T x y m.c.0)) (at_other T x y m.b.0 (λ e. apart (inr (inl (sym e)))))
      ∙ ap (λ r. seen_of m.server.0 m.a.0 (T m.a.0) (T m.b.0) r) (at_other T x y m.c.0 (λ e. apart (inr (inr (sym e)))))

  pub all-apart : (ms : List Member) → ((m : Member) → In m ms → IsAt x m → ⊥) → all_seen (at T x y) ms ≡ all_seen T ms
  all-apart [] apart = refl
  all-apart (m ∷ ms) apart = ap (λ v. v ∷ all_seen (at T x y) ms) (seen-apart m (apart m (inl refl))) ∙ ap (λ vs. seen T m ∷ vs) (all-apart ms (λ q h. apart q (inr h)))

  -- and the one there changes
  pub update : (ms : List Member) (m : Member) (w : Seen) → In m ms → ((q : Member) → In q ms → IsAt x q → m ≡ q) → seen (at T x y) m ≡ w → Update (all_seen T ms) (seen T m) w (all_seen (at T x y) ms)
  update ms m w here one is = record {
    here = to-map (seen T) ms m here;
    there = subst (λ u. In u (all_seen (at T x y) ms)) is (to-map (seen (at T x y)) ms m here);
    back = λ u h. let r = from-map (seen (at T x y)) ms u h in back u r (is-placed x r.from);
    onto = λ u h. let r = from-map (seen T) ms u h in onto u r (is-placed x r.from);
  }
    where
      back : (u : Seen) (r : Image (seen (at T x y)) ms u) → IsAt x r.from ⊎ (IsAt x r.from → ⊥) → (u ≡ w) ⊎ In u (all_seen T ms)
      back u r (inl there) = inl (r.is ∙ ap (seen (at T x y)) (sym (one r.from r.here there)) ∙ is)
      back u r (inr not) = inr (subst (λ u. In u (all_seen T ms)) (sym (r.is ∙ seen-apart r.from not)) (to-map (seen T) ms r.from r.here))

      onto : (u : Seen) (r : Image (seen T) ms u) → IsAt x r.from ⊎ (IsAt x r.from → ⊥) → (u ≡ seen T m) ⊎ In u (all_seen (at T x y) ms)
      onto u r (inl there) = inl (r.is ∙ ap (seen T) (sym (one r.from r.here there)))
      onto u r (inr not) = inr (subst (λ u. In u (all_seen (at T x y) ms)) (seen-apart r.from not ∙ sym r.is) (to-map (seen (at T x y)) ms r.from r.here))

  -- at its place
  module _ (m : Member) (differ : PlacesDiffer m) where
    pub seen-a : x ≡ m.a.0 → seen (at T x y) m ≡ seen_of m.server.0 m.a.0 y (T m.b.0) (T m.c.0)
    seen-a e =
        ap (λ r. seen_of m.server.0 m.a.0 r (at T x y m.b.0) (at T x y m.c.0)) (at_is T x y m.a.0 e)
        ∙ ap (λ r. seen_of m.server.0 m.a.0 y r (at T x y m.c.0)) (at_other T x y m.b.0 (λ f. differ.a_b (sym e ∙ sym f)))
        ∙ ap (λ r. seen_of m.server.0 m.a.0 y (T m.b.0) r) (at_other T x y m.c.0 (λ f. differ.a_c (sym e ∙ sym f)))

    pub seen-b : x ≡ m.b.0 → seen (at T x y) m ≡ seen_of m.server.0 m.a.0 (T m.a.0) y (T m.c.0)
    seen-b e =
        ap (λ r. seen_of m.server.0 m.a.0 r (at T x y m.b.0) (at T x y m.c.0)) (at_other T x y m.a.0 (λ f. differ.a_b (f ∙ e)))
        ∙ ap (λ r. seen_of m.server.0 m.a.0 (T m.a.0) r (at T x y m.c.0)) (at_is T x y m.b.0 e)
        ∙ ap (λ r. seen_of m.server.0 m.a.0 (T m.a.0) y r) (at_other T x y m.c.0 (λ f. differ.b_c (sym e ∙ sym f)))

    pub seen-c : x ≡ m.c.0 → seen (at T x y) m ≡ seen_of m.server.0 m.a.0 (T m.a.0) (T m.b.0) y
    seen-c e =
        ap (λ r. seen_of m.server.0 m.a.0 r (at T x y m.b.0) (at T x y m.c.0)) (at_other T x y m.a.0 (λ f. differ.a_c (f ∙ e)))
        ∙ ap (λ r. seen_of m.server.0 m.a.0 (T m.a.0) r (at T x y m.c.0)) (at_other T x y m.b.0 (λ f. differ.b_c (f ∙ e)))
        ∙ ap (λ r. seen_of m.server.0 m.a.0 (T m.a.0) (T m.b.0) r) (at_is T x y m.c.0 e)

-- what a volume says as a primary and as a secondary
pub record AsPart : Type 0 where
  pub attempt : ℕ
  pub recording : Bool
  pub held : Bool
  pub primary : Option ℕ
  pub seal : ℕ

abbrev pub as_part : Role → AsPart
as_part r = record { attempt = r.attempt; recording = r.recording; held = r.held; primary = r.primary; seal = r.seal }

-- it says another last attempt as a primary, and whether it records and is held; and also another primary and seal as a secondary
abbrev pub tried_as : Role → ℕ → Bool → Bool → Role
tried_as r q records held = record r { attempt = q; recording = records; held = held }

abbrev pub parted_as : Role → ℕ → Bool → Bool → Option ℕ → ℕ → Role
parted_as r q records held primary k = record r { attempt = q; recording = records; held = held; primary = primary; seal = k }

-- what a member of a session turns into, where volumes say S in place of T
pub record Turned (f : Flight) (T S : Roles) (z : Session) (m : Member) : Type 0 where
  pub kind : Kind
  pub may : MayTurn kind f z.number (phase_of z.mirror) z.last (owed_of z.mirror) (reports_of z.mirror) (all_seen T z.members) (seen T m)
  pub is : seen S m ≡ next_seen kind z.last (seen T m)

pub turned-same : (f : Flight) (T S : Roles) (z : Session) (m : Member) → AttemptOf T z → In m z.members → seen S m ≡ seen T m → Turned f T S z m
turned-same f T S z m law here is = record {
  kind = Try (seen T m).attempt (seen T m).recording (seen T m).held;
  may = record { up = omega arith; low = (law.numbers.each (seen T m) (to-map (seen T) z.members m here)).attempt; begun = λ r. inl r; free = λ r h. inl (r, h) };
  is = is;
}

-- what a session's members turn into: they stay, or one changes as it may
pub data Turning (f : Flight) (s : ℕ) (p : PhaseName) (n : ℕ) (owed : List ℕ) (reports : List Shown) (vs us : List Seen) : Type 0 where
  Stays : us ≡ vs → Turning f s p n owed reports vs us
  One : (v : Seen) (k : Kind) → Update vs v (next_seen k n v) us → MayTurn k f s p n owed reports vs v → Turning f s p n owed reports vs us

-- and so of each session, where volumes say S in place of T
pub record Steps (f : Flight) (ss : List Session) (T S : Roles) : Type 0 where
  pub turns : (z : Session) → In z ss → Turning f z.number (phase_of z.mirror) z.last (owed_of z.mirror) (reports_of z.mirror) (all_seen T z.members) (all_seen S z.members)
  pub claims : (v : ℕ) → Claim ss v (S v)

turning-keeps : (f : Flight) (s : ℕ) (p : PhaseName) (n : ℕ) (owed : List ℕ) (reports : List Shown) (vs us : List Seen) → IsAttempt p n owed reports vs → Turning f s p n owed reports vs us → IsAttempt p n owed reports us
turning-keeps f s p n owed reports vs us law (Stays is) = subst (λ vs. IsAttempt p n owed reports vs) (sym is) law
turning-keeps f s p n owed reports vs us law (One v k move may) = kept f s p n owed reports vs (record { numbers = law.numbers; follows = law.follows }) v us k move may law.phase law.owes

pub steps-keep : (f : Flight) (ss : List Session) (T S : Roles) → AttemptsIn ss T → Steps f ss T S → AttemptsIn ss S
steps-keep f ss T S law steps = record {
  sessions = λ z i. turning-keeps f z.number (phase_of z.mirror) z.last (owed_of z.mirror) (reports_of z.mirror) (all_seen T z.members) (all_seen S z.members) (law.sessions z i) (steps.turns z i);
  volumes = steps.claims;
  inside = law.inside;
}

module _ (f : Flight) (ss : List Session) (lone : Lone ss) (T : Roles) (law : AttemptsIn ss T) where
  module _ (x : ℕ) (y : Role) where
    session-turns : (z : Session) → In z ss → ((m : Member) → In m z.members → IsAt x m → Turned f T (at T x y) z m) → Turning f z.number (phase_of z.mirror) z.last (owed_of z.mirror) (reports_of z.mirror) (all_seen T z.members) (all_seen (at T x y) z.members)
    session-turns z i turns = by (find-place x z.members)
      where
        by : PlaceIn x z.members ⊎ ((q : Member) → In q z.members → IsAt x q → ⊥) → Turning f z.number (phase_of z.mirror) z.last (owed_of z.mirror) (reports_of z.mirror) (all_seen T z.members) (all_seen (at T x y) z.members)
        by (inl p) =
            let t = turns p.member p.here p.is in
            One (seen T p.member) t.kind (update T x y z.members p.member (next_seen t.kind z.last (seen T p.member)) p.here (λ q there at_q. (lone.one x z z p.member q i i p.here there p.is at_q).1) t.is) t.may
        by (inr none) = Stays (all-apart T x y z.members none)

    -- where x says y
    pub steps-at : ((z : Session) (m : Member) → In z ss → In m z.members → IsAt x m → Turned f T (at T x y) z m) → Claim ss x y → Steps f ss T (at T x y)
    steps-at turns claim = record { turns = λ z i. session-turns z i (λ m here is. turns z m i here is); claims = at_cases (λ u r. Claim ss u r) T x y claim (λ u ne. law.volumes u) }

  claim : (x : ℕ) → Claim ss x (T x)
  claim x = law.volumes x

  -- another last attempt of a primary, or whether it records and is held
  pub tries : (x q : ℕ) (records held : Bool) → ((z : Session) (m : Member) → In z ss → In m z.members → m.a.0 ≡ x → MayTry f z.number (phase_of z.mirror) z.last (all_seen T z.members) (seen T m) q records held)
      → Steps f ss T (at T x (record (T x) { attempt = q; recording = records; held = held }))
  tries x q records held may = steps-at x (record (T x) { attempt = q; recording = records; held = held }) turns (record { counted = (claim x).counted; uncounted = (claim x).uncounted; previous = (claim x).previous })
    where
      turns : (z : Session) (m : Member) → In z ss → In m z.members → IsAt x m → Turned f T (at T x (tried_as (T x) q records held)) z m
      turns z m i here (inl e) = record { kind = Try q records held; may = may z m i here (sym e); is = seen-a T x (tried_as (T x) q records held) m (lone.differ z m i here) e ∙ ap (λ u. seen_of m.server.0 m.a.0 (tried_as (T u) q records held) (T m.b.0) (T m.c.0)) e }
      turns z m i here (inr (inl e)) = turned-same f T (at T x (tried_as (T x) q records held)) z m (law.sessions z i) here (seen-b T x (tried_as (T x) q records held) m (lone.differ z m i here) e ∙ ap (λ u. seen_of m.server.0 m.a.0 (T m.a.0) (tried_as (T u) q records held) (T m.c.0)) e)
      turns z m i here (inr (inr e)) = turned-same f T (at T x (tried_as (T x) q records held)) z m (law.sessions z i) here (seen-c T x (tried_as (T x) q records held) m (lone.differ z m i here) e ∙ ap (λ u. seen_of m.server.0 m.a.0 (T m.a.0) (T m.b.0) (tried_as (T u) q records held)) e)

  -- and beside it another primary and seal, as a secondary
  pub parts : (x q : ℕ) (records held : Bool) (primary : Option ℕ) (k : ℕ) → ((z : Session) (m : Member) → In z ss → In m z.members → m.a.0 ≡ x → MayTry f z.number (phase_of z.mirror) z.last (all_seen T z.members) (seen T m) q records held)
      → ((z : Session) (m : Member) → In z ss → In m z.members → m.b.0 ≡ x → MayPair (phase_of z.mirror) z.last (seen T m) (is_at primary m.a.0) k)
      → Steps f ss T (at T x (record (T x) { attempt = q; recording = records; held = held; primary = primary; seal = k }))
  parts x q records held primary k may also = steps-at x (record (T x) { attempt = q; recording = records; held = held; primary = primary; seal = k }) turns (record { counted = (claim x).counted; uncounted = (claim x).uncounted; previous = (claim x).previous })
    where
      turns : (z : Session) (m : Member) → In z ss → In m z.members → IsAt x m → Turned f T (at T x (parted_as (T x) q records held primary k)) z m
      turns z m i here (inl e) = record { kind = Try q records held; may = may z m i here (sym e); is = seen-a T x (parted_as (T x) q records held primary k) m (lone.differ z m i here) e ∙ ap (λ u. seen_of m.server.0 m.a.0 (parted_as (T u) q records held primary k) (T m.b.0) (T m.c.0)) e }
      turns z m i here (inr (inl e)) = record { kind = Pair (is_at primary m.a.0) k; may = also z m i here (sym e); is = seen-b T x (parted_as (T x) q records held primary k) m (lone.differ z m i here) e ∙ ap (λ u. seen_of m.server.0 m.a.0 (T m.a.0) (parted_as (T u) q records held primary k) (T m.c.0)) e }
      turns z m i here (inr (inr e)) = turned-same f T (at T x (parted_as (T x) q records held primary k)) z m (law.sessions z i) here (seen-c T x (parted_as (T x) q records held primary k) m (lone.differ z m i here) e ∙ ap (λ u. seen_of m.server.0 m.a.0 (T m.a.0) (T m.b.0) (parted_as (T u) q records held primary k)) e)

  -- another primary and seal of a secondary
  pub pairs : (x : ℕ) (primary : Option ℕ) (q : ℕ) → ((z : Session) (m : Member) → In z ss → In m z.members → m.b.0 ≡ x → MayPair (phase_of z.mirror) z.last (seen T m) (is_at primary m.a.0) q)
      → Steps f ss T (at T x (record (T x) { primary = primary; seal = q }))
  pairs x primary q may = steps-at x (record (T x) { primary = primary; seal = q }) turns (record { counted = (claim x).counted; uncounted = (claim x).uncounted; previous = (claim x).previous })
    where
      turns : (z : Session) (m : Member) → In z ss → In m z.members → IsAt x m → Turned f T (at T x (record (T x) { primary = primary; seal = q })) z m
      turns z m i here (inl e) = turned-same f T (at T x (record (T x) { primary = primary; seal = q })) z m (law.sessions z i) here (seen-a T x (record (T x) { primary = primary; seal = q }) m (lone.differ z m i here) e ∙ ap (λ u. seen_of m.server.0 m.a.0 (record (T u) { primary = primary; seal = q }) (T m.b.0) (T m.c.0)) e)
      turns z m i here (inr (inl e)) = record { kind = Pair (is_at primary m.a.0) q; may = may z m i here (sym e); is = seen-b T x (record (T x) { primary = primary; seal = q }) m (lone.differ z m i here) e ∙ ap (λ u. seen_of m.server.0 m.a.0 (T m.a.0) (record (T u) { primary = primary; seal = q }) (T m.c.0)) e }
      turns z m i here (inr (inr e)) = turned-same f T (at T x (record (T x) { primary = primary; seal = q })) z m (law.sessions z i) here (seen-c T x (record (T x) { primary = primary; seal = q }) m (lone.differ z m i here) e ∙ ap (λ u. seen_of m.server.0 m.a.0 (T m.a.0) (T m.b.0) (record (T u) { primary = primary; seal = q })) e)

  -- other numbers and flags of a target
  pub record TurnsTo (z : Session) (m : Member) (y : Role) : Type 0 where
    pub kind : Kind
    pub may : MayTurn kind f z.number (phase_of z.mirror) z.last (owed_of z.mirror) (reports_of z.mirror) (all_seen T z.members) (seen T m)
    pub is : seen_of m.server.0 m.a.0 (T m.a.0) (T m.b.0) y ≡ next_seen kind z.last (seen T m)

  pub targets : (x : ℕ) (y : Role) → as_part y ≡ as_part (T x) → ((z : Session) (m : Member) → In z ss → In m z.members → m.c.0 ≡ x → TurnsTo z m y) → Claim ss x y → Steps f ss T (at T x y)
  targets x y same to new = steps-at x y turns new
    where
      turns : (z : Session) (m : Member) → In z ss → In m z.members → IsAt x m → Turned f T (at T x y) z m
      turns z m i here (inl e) = turned-same f T (at T x y) z m (law.sessions z i) here
          (seen-a T x y m (lone.differ z m i here) e ∙ ap (λ p. record (seen T m) { attempt = p.attempt; recording = p.recording; held = p.held }) (same ∙ ap (λ u. as_part (T u)) e))
      turns z m i here (inr (inl e)) = turned-same f T (at T x y) z m (law.sessions z i) here
          (seen-b T x y m (lone.differ z m i here) e ∙ ap (λ p. record (seen T m) { paired = is_at p.primary m.a.0; seal = p.seal }) (same ∙ ap (λ u. as_part (T u)) e))
      turns z m i here (inr (inr e)) = let t = to z m i here (sym e) in record { kind = t.kind; may = t.may; is = seen-c T x y m (lone.differ z m i here) e ∙ t.is }
