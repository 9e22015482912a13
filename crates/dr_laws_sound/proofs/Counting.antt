-- Which targets count, and when a member's target may go.
use Rattle.std.proofs.Common.{ℕ, ◌≡◌, inl, inr, refl, ap, sym, ◌∙◌, Bool, true, false, cond, not, ◌||◌, List, [], ◌∷◌, map, filter, Option, Some, None}
use Rattle.std.specs.Prelude.{◌==◌, option_map}
use Rattle.std.proofs.lemmas.Bool.{eq-eqb, eqb-true}
use Rattle.std.specs.List.{find}
use Rattle.std.specs.Option.{option_or}
use Rattle.std.proofs.lemmas.Option.{same_Some}
use Rattle.dr_ids.specs.declared.names.Member.{Member}
use Rattle.dr_ids.specs.declared.refusal.Decision.TheVariants.{CommitRest, RevertSome}
use Rattle.dr_model.specs.Decisions.{Shown, Numbers, NoNumber, Same, Differ, numbers_in, first_and_other, revertibles, others, decided, decision}
use Rattle.dr_model.specs.Control.{Control, World}
use Rattle.dr_model.specs.Entries.{fields_at}
use Rattle.dr_model.specs.Sessions.{Session, session_in, members_in}
use Rattle.dr_model.specs.SessionEntries.{counts_at, shown_at, shown_by_members}
use Rattle.dr_model.specs.Plans.{left_by, counted_refusal, secondary_refusal, leaves_all, forbidden_unless, decided_in, restore_refusal}
use Rattle.dr_model.specs.Groups.{In, Groups}
use Rattle.dr_model.specs.Attempts.{Seen, seen, seen_in, roles, NoneRevertible, DoesNotCount, MayGo, TargetOf, GoesAs, MayFollow}
use Rattle.dr_model.specs.Laws.{Sound}
use Rattle.dr_facts.proofs.Lists.{from-map, to-map, to-filter, found, not-found}
use Rattle.dr_laws_sessions.proofs.Changes.{session-found, none-numbered, same-session}
use Rattle.dr_laws_attempts.proofs.Moves.{unrelated-uncounted}
use Rattle.dr_laws_attempts.proofs.Tables.{counts-here}
use Rattle.dr_laws_sound.proofs.CopyFirst.{from, unturned}
use Rattle.dr_laws_sound.proofs.PlanReasons.{not-forbidden}
use Rattle.dr_facts.proofs.Refusals.{second-none}
use Rattle.dr_logic.proofs.Truth.{false_true}
use Rattle.dr_logic.proofs.Choices.{not_chosen}

-- ---- decisions

numbered : (ns : List ℕ) → numbers_in ns ≡ NoNumber → ns ≡ []
numbered [] h = refl
numbered (a ∷ ns) h = by (find (λ n. not (n == a)) ns) h
  where
    by : (o : Option ℕ) → first_and_other a o ≡ NoNumber → a ∷ ns ≡ []
    by None h = absurd cc
    by (Some b) h = absurd cc

either-way : (b : Bool) (n m : ℕ) → leaves_all (cond b (CommitRest n) (RevertSome m n)) ≡ true → ⊥
either-way true n m h = absurd cc
either-way false n m h = absurd cc

leaves : (p q : Numbers) → leaves_all (decided p q) ≡ true → p ≡ NoNumber
unfolding decided
leaves NoNumber q h = refl
leaves (Same n) NoNumber h = absurd cc
leaves (Same n) (Same m) h = absurd (either-way (n == m) n m h)
leaves (Same n) (Differ a b) h = absurd cc
leaves (Differ a b) NoNumber h = absurd cc
leaves (Differ a b) (Same m) h = absurd cc
leaves (Differ a b) (Differ c d) h = absurd cc

none-among : (rs : List Shown) (r : Shown) → In r rs → r.revertible ≡ true → revertibles rs ≡ [] → ⊥
none-among (x ∷ rs) r (inl is) rev none = by x.revertible (ap (λ (x : Shown). x.revertible) (sym is) ∙ rev) none
  where
    by : (b : Bool) → b ≡ true → map (λ (x : Shown). x.sequence) (cond b (x ∷ filter (λ (x : Shown). x.revertible) rs) (filter (λ (x : Shown). x.revertible) rs)) ≡ [] → ⊥
    by true is none = absurd cc
    by false is none = absurd cc
none-among (x ∷ rs) r (inr there) rev none = by x.revertible none (none-among rs r there rev)
  where
    by : (b : Bool) → map (λ (x : Shown). x.sequence) (cond b (x ∷ filter (λ (x : Shown). x.revertible) rs) (filter (λ (x : Shown). x.revertible) rs)) ≡ [] → (revertibles rs ≡ [] → ⊥) → ⊥
    by true none more = absurd cc
    by false none more = more none
none-among [] r here rev none = absurd here

-- where nothing is to be done, none shows a revertible target
leaves-none : (rs : List Shown) → leaves_all (decision rs) ≡ true → (r : Shown) → In r rs → r.revertible ≡ false
unfolding decision
leaves-none rs h r here = unturned r.revertible (λ rev. none-among rs r here rev (numbered (revertibles rs) (leaves (numbers_in (revertibles rs)) (numbers_in (others rs)) h)))

-- ---- sessions

-- the number of a listed session finds it
pub listed-found : (k : Control) → Groups k → (x : Session) → In x k.sessions → session_in k.sessions x.number ≡ Some x
listed-found k groups x listed = by (session_in k.sessions x.number) refl
  where
    by : (o : Option Session) → session_in k.sessions x.number ≡ o → o ≡ Some x
    by None is = absurd (none-numbered k.sessions x.number x is listed refl)
    by (Some y) is = let there = session-found k.sessions x.number y is in ap (λ y. Some y) (same-session k.sessions y x groups.once there.0 listed there.1)

module _ (w : World) (s : Sound w) where
  abbrev k : Control
  k = w.control

  pub no-target : (t : ℕ) → (fields_at k t).related ≡ false → DoesNotCount (fields_at k t)
  no-target t none = unrelated-uncounted k s.attempts t none

  pub uncounted : (t : ℕ) → counted_refusal t k ≡ None → (fields_at k t).revertible ≡ false → DoesNotCount (fields_at k t)
  uncounted t free plain = λ i. not_chosen (fields_at k t).member _ free i || plain i

  -- a member's target may be restored, or leave, where none of its session is revertible
  pub may-go : (t : ℕ) → restore_refusal t k ≡ None → (fields_at k t).revertible ≡ false → MayGo k t
  may-go t free plain = record { plain = plain; settled = settled }
    where
      settled : (fields_at k t).member ≡ true → (x : Session) (m : Member) → In x k.sessions → In m x.members → m.c.0 ≡ t → NoneRevertible (seen_in k x)
      settled member x m listed here is u seen_here =
          let c = (s.attempts.volumes t).counted (ap (λ b. b || (fields_at k t).revertible) member) in
          let one = s.groups.lone.one t c.session x c.member m c.listed listed c.here here (inr (inr (sym c.is))) (inr (inr (sym is))) in
          let number : (fields_at k t).session ≡ x.number = sym c.number ∙ one.0 in
          let asked : option_or (secondary_refusal (members_in (session_in k.sessions (fields_at k t).session)) k) (forbidden_unless (leaves_all (decided_in (fields_at k t).session k)) (decided_in (fields_at k t).session k)) ≡ None
          = sym (ap (λ b. cond b (option_or (secondary_refusal (members_in (session_in k.sessions (fields_at k t).session)) k) (forbidden_unless (leaves_all (decided_in (fields_at k t).session k)) (decided_in (fields_at k t).session k))) None) member) ∙ free in
          let all : leaves_all (decided_in (fields_at k t).session k) ≡ true = not-forbidden (leaves_all (decided_in (fields_at k t).session k)) (decided_in (fields_at k t).session k) (second-none (secondary_refusal (members_in (session_in k.sessions (fields_at k t).session)) k) (forbidden_unless (leaves_all (decided_in (fields_at k t).session k)) (decided_in (fields_at k t).session k)) asked) in
          let over : leaves_all (decision (shown_by_members x.number x.members k)) ≡ true
          = sym (ap (λ n. leaves_all (decision (shown_by_members n (members_in (session_in k.sessions n)) k))) number ∙ ap (λ o. leaves_all (decision (shown_by_members x.number (members_in o) k))) (listed-found k s.groups x listed)) ∙ all in
          let o = from-map (seen (roles k)) x.members u seen_here in
          let rev : (fields_at k o.from.c.0).revertible ≡ false = unturned (fields_at k o.from.c.0).revertible (λ e. false_true
          (leaves-none (shown_by_members x.number x.members k) over (shown_at k o.from)
          (to-map (shown_at k) (filter (counts_at x.number k) x.members) o.from (to-filter (counts_at x.number k) x.members o.from o.here (counts-here k s.groups s.attempts x o.from listed o.here (or-right (fields_at k o.from.c.0).member (fields_at k o.from.c.0).revertible e))))) e) in
          ap (λ (v : Seen). v.revertible) o.is ∙ rev
        where
          or-right : (a b : Bool) → b ≡ true → (a || b) ≡ true
          or-right true b h = refl
          or-right false b h = h

  -- and is told of as that of its member
  module _ (t : ℕ) where
    session-of : (x : Session) (m : Member) → In x k.sessions → In m x.members → m.c.0 ≡ t → (fields_at k t).member ≡ true → (fields_at k t).session ≡ x.number
    session-of x m listed here is member =
        let c = (s.attempts.volumes t).counted (ap (λ b. b || (fields_at k t).revertible) member) in
        sym c.number ∙ (s.groups.lone.one t c.session x c.member m c.listed listed c.here here (inr (inr (sym c.is))) (inr (inr (sym is)))).0

    its-member : (x : Session) (m : Member) → In x k.sessions → In m x.members → m.c.0 ≡ t → (fields_at k t).member ≡ true → find (λ (m : Member). m.c.0 == t) (members_in (session_in k.sessions (fields_at k t).session)) ≡ Some m
    its-member x m listed here is member =
        ap (λ n. find (λ (m : Member). m.c.0 == t) (members_in (session_in k.sessions n))) (session-of x m listed here is member)
        ∙ (ap (λ o. find (λ (m : Member). m.c.0 == t) (members_in o)) (listed-found k s.groups x listed) ∙ by (find (λ (m : Member). m.c.0 == t) x.members) refl)
      where
        by : (o : Option Member) → find (λ (m : Member). m.c.0 == t) x.members ≡ o → o ≡ Some m
        by None none = false_true (not-found (λ (m : Member). m.c.0 == t) x.members m none here) (eq-eqb m.c.0 t is)
        by (Some q) there =
            let f = found (λ (m : Member). m.c.0 == t) x.members q there in
            ap (λ q. Some q) (s.groups.lone.one t x x q m listed listed f.0 here (inr (inr (sym (eqb-true q.c.0 t f.1)))) (inr (inr (sym is)))).1

    left-is : (b : Bool) → (fields_at k t).member ≡ b → (p : ℕ) → left_by k t ≡ Some p → (fields_at k t).member ≡ true
    left-is true is p h = is
    left-is false is p h = let e : None ≡ Some p = sym (ap (λ b. option_map (λ (m : Member). m.a.0) (cond b (find (λ m. m.c.0 == t) (members_in (session_in k.sessions (fields_at k t).session))) None)) is) ∙ h in absurd cc

    pub goes-as : GoesAs k t (left_by k t) (fields_at k t).session
    goes-as = record { counted = counted; named = named }
      where
        by-flag : (fields_at k t).member ≡ true → (m : Member) → find (λ (m : Member). m.c.0 == t) (members_in (session_in k.sessions (fields_at k t).session)) ≡ Some m → left_by k t ≡ Some m.a.0
        by-flag member m its = ap (λ b. option_map (λ (m : Member). m.a.0) (cond b (find (λ m. m.c.0 == t) (members_in (session_in k.sessions (fields_at k t).session))) None)) member ∙ ap (option_map (λ (m : Member). m.a.0)) its

        counted : (fields_at k t).member ≡ true → (x : Session) (m : Member) → In x k.sessions → In m x.members → m.c.0 ≡ t → (left_by k t ≡ Some m.a.0) × ((fields_at k t).session ≡ x.number)
        counted member x m listed here is = (by-flag member m (its-member x m listed here is member), session-of x m listed here is member)

        named : (p : ℕ) → left_by k t ≡ Some p → TargetOf k t p (fields_at k t).session
        named p h =
            let member = left-is (fields_at k t).member refl p h in
            let c = (s.attempts.volumes t).counted (ap (λ b. b || (fields_at k t).revertible) member) in
            record {
              place = record { session = c.session; listed = c.listed; number = c.number; member = c.member; here = c.here; is = (same_Some _ _ (sym (by-flag member c.member (its-member c.session c.member c.listed c.here c.is member)) ∙ h)) };
              target = c.is;
            }

  -- a volume without a revertible target may become a secondary
  pub may-follow : (v : ℕ) → ((u : ℕ) → from w u ≡ Some v → (fields_at k u).revertible ≡ true → ⊥) → MayFollow k v
  may-follow v none x m listed here is = unturned (fields_at k m.c.0).revertible (λ rev.
      let c = (s.attempts.volumes m.c.0).counted (or-right (fields_at k m.c.0).member (fields_at k m.c.0).revertible rev) in
      let one = s.groups.lone.one m.c.0 c.session x c.member m c.listed listed c.here here (inr (inr (sym c.is))) (inr (inr refl)) in
      none m.c.0 (c.source ∙ ap (λ (q : Member). Some q.b.0) one.1 ∙ ap (λ b. Some b) is) rev)
    where
      or-right : (a b : Bool) → b ≡ true → (a || b) ≡ true
      or-right true b h = refl
      or-right false b h = h
