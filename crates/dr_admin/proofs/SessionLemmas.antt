-- Sessions and members in their lists: what is found, and what is found after one session's last number was raised.
use Rattle.std.proofs.Common.{ℕ, zero, suc, ◌≡◌, ◌+◌, Bool, true, false, cond, ◌||◌, List, [], ◌∷◌, drop, slice_get, refl, sym, ◌∙◌, ap, Option, Some, None, ◌==◌}
use Rattle.std.specs.Prelude.{is_some, option_map, if◌then◌else◌}
use Rattle.std.specs.List.{find, list_any}
use Rattle.std.specs.Option.{option_or}
use Rattle.std.proofs.Math.Numerals.{suc-eq-add-one}
use Rattle.std.proofs.lemmas.Bool.{eqb-true}
use Rattle.dr_ids.specs.declared.names.Member.{Member}
use Rattle.dr_ids.specs.declared.names.SessionId.{SessionId}
use Rattle.dr_ids.specs.declared.refusal.PhaseName.{PhaseName}
use Rattle.dr_ids.specs.declared.refusal.PhaseName.TheVariants as phase
use Rattle.dr_ids.specs.declared.refusal.Refusal.{Refusal}
use Rattle.dr_ids.specs.declared.refusal.Refusal.TheVariants.{NotInSession, InSession, Duplicate}
use Rattle.dr_ids.specs.declared.refusal.Kind.TheVariants.{Volume as OfVolume}
use Rattle.dr_model.specs.Sessions.{Session, Mirror, session_in, has_lss, is_member, has_place_of, changed, raised, in_session, busy, unless_idle, add_refusal, remove_refusal, mirror_in, not_in_session}
use Rattle.dr_moves.specs.Checks.{is_stop}
use Rattle.dr_admin.specs.Adding.{outside_of, taken_in}
use Rattle.dr_admin.specs.Removing.{member_in}
use Rattle.dr_facts.proofs.Refusals.{none-both}
use Rattle.dr_facts.proofs.Sessions.{in-none, number-is}

pub outside-is : (ss : List Session) (s l : ℕ) → is_some (session_in ss s) ≡ true → has_lss (session_in ss s) l ≡ false → Some (NotInSession (record { 0 = s })) ≡ outside_of (session_in ss s) l
outside-is ss s l defined out =
    elim (session_in ss s) as (λ o. session_in ss s ≡ o → is_some o ≡ true → has_lss o l ≡ false → Some (NotInSession (record { 0 = s })) ≡ outside_of o l) [
      | None ↦ λ at d h. absurd cc
      | Some x ↦ λ at d h.
          ap (λ n. Some (NotInSession (record { 0 = n }))) (sym (number-is ss s x at))
          ∙ sym (ap (λ b. if b then None else Some (NotInSession (record { 0 = x.number }))) h)
    ] refl defined out

pub inside-is : (o : Option Session) (l : ℕ) → is_some o ≡ true → has_lss o l ≡ true → None ≡ outside_of o l
inside-is None l defined is = absurd cc
inside-is (Some x) l defined is = sym (ap (λ b. if b then None else Some (NotInSession (record { 0 = x.number }))) is)

-- ---- members, from a place in the list on

drop-at : {A : Type 0} (xs : List A) (i : ℕ) (x : A) → slice_get xs i ≡ Some x → drop i xs ≡ x ∷ drop (suc i) xs
drop-at [] i x h = absurd cc
drop-at (y ∷ ys) zero x h = let same : y ≡ x = cc in ap (λ z. z ∷ ys) same
drop-at (y ∷ ys) (suc i) x h = drop-at ys i x h

past-end : {A : Type 0} (xs : List A) (i : ℕ) → slice_get xs i ≡ None → drop i xs ≡ []
past-end [] zero h = refl
past-end [] (suc i) h = refl
past-end (y ∷ ys) zero h = absurd cc
past-end (y ∷ ys) (suc i) h = past-end ys i h

abbrev pub found_from : ℕ → ℕ → List Member → Option Member
found_from a i ms = find (λ (m : Member). m.a.0 == a) (drop i ms)

found-at : (a i : ℕ) (ms : List Member) (m : Member) → slice_get ms i ≡ Some m → found_from a i ms ≡ cond (m.a.0 == a) (Some m) (found_from a (i + 1) ms)
found-at a i ms m at = ap (find (λ (m : Member). m.a.0 == a)) (drop-at ms i m at) ∙ ap (λ n. cond (m.a.0 == a) (Some m) (found_from a n ms)) (suc-eq-add-one i)

pub found-here : (a i : ℕ) (ms : List Member) (m : Member) → slice_get ms i ≡ Some m → (m.a.0 == a) ≡ true → found_from a i ms ≡ Some m
found-here a i ms m at is = found-at a i ms m at ∙ ap (λ b. cond b (Some m) (found_from a (i + 1) ms)) is

pub found-later : (a i : ℕ) (ms : List Member) (m : Member) → slice_get ms i ≡ Some m → (m.a.0 == a) ≡ false → found_from a i ms ≡ found_from a (i + 1) ms
found-later a i ms m at is = found-at a i ms m at ∙ ap (λ b. cond b (Some m) (found_from a (i + 1) ms)) is

pub found-past : (a i : ℕ) (ms : List Member) → slice_get ms i ≡ None → found_from a i ms ≡ None
found-past a i ms none = ap (find (λ (m : Member). m.a.0 == a)) (past-end ms i none)

-- a member by its primary is there where the session has one
pub found-any : (a : ℕ) (ms : List Member) → is_some (find (λ (m : Member). m.a.0 == a) ms) ≡ list_any (λ (m : Member). m.a.0 == a) ms
found-any a [] = refl
found-any a (m ∷ ms) = elim (m.a.0 == a) as (λ b. is_some (cond b (Some m) (find (λ (m : Member). m.a.0 == a) ms)) ≡ (b || list_any (λ (m : Member). m.a.0 == a) ms)) [ true ↦ refl | false ↦ found-any a ms ]

pub member-is : (a : ℕ) (x : Session) → is_some (member_in a (Some x)) ≡ is_member a x
member-is a x = found-any a x.members

-- ---- a session whose last number was raised

phase-calm : (p : PhaseName) (why : Option Refusal) → is_stop why ≡ false → is_stop (unless_idle p why) ≡ false
phase-calm phase.Idle why calm = refl
phase-calm phase.None why calm = calm
phase-calm phase.Coordinating why calm = calm
phase-calm phase.Releasing why calm = calm
phase-calm phase.Draining why calm = calm
phase-calm phase.Flashing why calm = calm
phase-calm phase.Committing why calm = calm
phase-calm phase.Reverting why calm = calm
phase-calm phase.Finishing why calm = calm
phase-calm phase.Lost why calm = calm

pub busy-calm : (m : Option Mirror) → is_stop (busy m) ≡ false
busy-calm None = refl
busy-calm (Some r) = phase-calm r.master.phase _ refl

changed-found : (s n : ℕ) (ss : List Session) → session_in (changed s (raised n) ss) s ≡ option_map (raised n) (session_in ss s)
unfolding changed
changed-found s n [] = refl
changed-found s n (x ∷ xs) =
    elim (x.number == s) as (λ b. (x.number == s) ≡ b → session_in (cond b (raised n x ∷ xs) (x ∷ changed s (raised n) xs)) s ≡ option_map (raised n) (cond b (Some x) (session_in xs s))) [
      | true ↦ λ is. ap (λ b. cond b (Some (raised n x)) (session_in xs s)) is
      | false ↦ λ is. ap (λ b. cond b (Some x) (session_in (changed s (raised n) xs) s)) is ∙ changed-found s n xs
    ] refl

pub still-defined : (s n : ℕ) (ss : List Session) → is_some (session_in ss s) ≡ true → is_some (session_in (changed s (raised n) ss) s) ≡ true
still-defined s n ss defined = ap is_some (changed-found s n ss) ∙ mapped (session_in ss s) ∙ defined
  where
    mapped : (o : Option Session) → is_some (option_map (raised n) o) ≡ is_some o
    mapped None = refl
    mapped (Some x) = refl

-- what is found in none is found in none then
none-still : (p : Session → Bool) (s n : ℕ) → ((x : Session) → p (raised n x) ≡ p x) → (ss : List Session) → find p ss ≡ None → find p (changed s (raised n) ss) ≡ None
unfolding changed
none-still p s n same [] none = refl
none-still p s n same (x ∷ xs) none =
    elim (p x) as (λ b. p x ≡ b → cond b (Some x) (find p xs) ≡ None → find p (cond (x.number == s) (raised n x ∷ xs) (x ∷ changed s (raised n) xs)) ≡ None) [
      | true ↦ λ is h. absurd cc
      | false ↦ λ is h. elim (x.number == s) as (λ c. find p (cond c (raised n x ∷ xs) (x ∷ changed s (raised n) xs)) ≡ None) [
        | true ↦ ap (λ b. cond b (Some (raised n x)) (find p xs)) (same x ∙ is) ∙ h
        | false ↦ ap (λ b. cond b (Some x) (find p (changed s (raised n) xs))) is ∙ none-still p s n same xs h
      ]
    ] refl none

-- a master that is Idle stays so
idle-still : (p : PhaseName) (why also : Option Refusal) → is_some why ≡ true → unless_idle p why ≡ None → unless_idle p also ≡ None
idle-still phase.Idle why also some none = refl
idle-still phase.None why also some none = absurd (let e : true ≡ false = sym some ∙ ap is_some none in cc)
idle-still phase.Coordinating why also some none = absurd (let e : true ≡ false = sym some ∙ ap is_some none in cc)
idle-still phase.Releasing why also some none = absurd (let e : true ≡ false = sym some ∙ ap is_some none in cc)
idle-still phase.Draining why also some none = absurd (let e : true ≡ false = sym some ∙ ap is_some none in cc)
idle-still phase.Flashing why also some none = absurd (let e : true ≡ false = sym some ∙ ap is_some none in cc)
idle-still phase.Committing why also some none = absurd (let e : true ≡ false = sym some ∙ ap is_some none in cc)
idle-still phase.Reverting why also some none = absurd (let e : true ≡ false = sym some ∙ ap is_some none in cc)
idle-still phase.Finishing why also some none = absurd (let e : true ≡ false = sym some ∙ ap is_some none in cc)
idle-still phase.Lost why also some none = absurd (let e : true ≡ false = sym some ∙ ap is_some none in cc)

pub busy-still : (n : ℕ) (x : Session) → busy x.mirror ≡ None → busy (raised n x).mirror ≡ None
busy-still n x = by x.mirror
  where
    by : (o : Option Mirror) → busy o ≡ None → busy (raised n (record x { mirror = o })).mirror ≡ None
    by None h = refl
    by (Some r) h = idle-still r.master.phase _ _ refl h

pub both-none : (a b : Option Refusal) → a ≡ None → b ≡ None → option_or a b ≡ None
both-none a b one two = ap (λ o. option_or o b) one ∙ two

-- a member that may be added may be added then
module _ (s n : ℕ) (m : Member) (ss : List Session) where
  pub still-free : add_refusal (session_in ss s) m ss ≡ None → add_refusal (session_in (changed s (raised n) ss) s) m (changed s (raised n) ss) ≡ None
  still-free free = ap (λ o. add_refusal o m (changed s (raised n) ss)) (changed-found s n ss) ∙ by (session_in ss s) free
    where
      by : (o : Option Session) → add_refusal o m ss ≡ None → add_refusal (option_map (raised n) o) m (changed s (raised n) ss) ≡ None
      by None h = refl
      by (Some x) h = kept (is_member m.a.0 x) h
        where
          kept : (b : Bool) → (if b then Some (Duplicate OfVolume) else option_or (in_session (find (is_member m.a.0) ss)) (option_or (busy x.mirror) (in_session (find (has_place_of m) ss)))) ≡ None
              → (if b then Some (Duplicate OfVolume) else option_or (in_session (find (is_member m.a.0) (changed s (raised n) ss))) (option_or (busy (raised n x).mirror) (in_session (find (has_place_of m) (changed s (raised n) ss))))) ≡ None
          kept true h = absurd cc
          kept false h =
              let one = none-both (in_session (find (is_member m.a.0) ss)) _ h in
              let two = none-both (busy x.mirror) (in_session (find (has_place_of m) ss)) one.1 in
              both-none (in_session (find (is_member m.a.0) (changed s (raised n) ss))) _ (ap in_session (none-still (is_member m.a.0) s n (λ x. refl) ss (in-none _ one.0)))
              (both-none (busy (raised n x).mirror) _ (busy-still n x two.0) (ap in_session (none-still (has_place_of m) s n (λ x. refl) ss (in-none _ two.1))))

-- ---- what the sessions say of a

pub numbered : (n : SessionId) (o : Option Session) → Some n.0 ≡ option_map (λ (x : Session). x.number) o → Some (InSession n) ≡ in_session o
numbered n None h = absurd cc
numbered n (Some x) h = let same : n.0 ≡ x.number = cc in ap (λ k. Some (InSession (record { 0 = k }))) same

pub nowhere : (o : Option Session) → None ≡ option_map (λ (x : Session). x.number) o → None ≡ in_session o
nowhere None h = refl
nowhere (Some x) h = absurd cc

is-member : (a : ℕ) (x : Session) (o : Option Member) → o ≡ member_in a (Some x) → is_member a x ≡ is_some o
is-member a x o is = sym (member-is a x) ∙ ap is_some (sym is)

module _ (ss : List Session) (a : ℕ) where
  pub taken-here : (o : Option Session) (m : Member) → is_some o ≡ true → Some m ≡ member_in a o → Some (Duplicate OfVolume) ≡ taken_in ss o a
  taken-here None m defined is = absurd cc
  taken-here (Some x) m defined is = sym (ap (λ b. if b then Some (Duplicate OfVolume) else option_or (in_session (find (is_member a) ss)) (busy x.mirror)) (is-member a x (Some m) is))

  not-here : (x : Session) → None ≡ member_in a (Some x) → option_or (in_session (find (is_member a) ss)) (busy x.mirror) ≡ taken_in ss (Some x) a
  not-here x is = sym (ap (λ b. if b then Some (Duplicate OfVolume) else option_or (in_session (find (is_member a) ss)) (busy x.mirror)) (is-member a x None is))

  pub taken-not : (o : Option Session) → is_some o ≡ true → None ≡ member_in a o → option_or (in_session (find (is_member a) ss)) (busy (mirror_in o)) ≡ taken_in ss o a
  taken-not None defined is = absurd cc
  taken-not (Some x) defined is = not-here x is

  pub free-is : (o : Option Session) (m : Member) (l : ℕ) → m.a.0 ≡ a → None ≡ option_or (outside_of o l) (taken_in ss o a) → None ≡ in_session (find (has_place_of m) ss) → add_refusal o m ss ≡ None
  free-is None m l is first second = refl
  free-is (Some x) m l is first second =
      let taken : taken_in ss (Some x) m.a.0 ≡ None = ap (taken_in ss (Some x)) is ∙ (none-both (outside_of (Some x) l) (taken_in ss (Some x) a) (sym first)).1 in
      by (is_member m.a.0 x) taken
    where
      by : (b : Bool) → (if b then Some (Duplicate OfVolume) else option_or (in_session (find (is_member m.a.0) ss)) (busy x.mirror)) ≡ None
          → (if b then Some (Duplicate OfVolume) else option_or (in_session (find (is_member m.a.0) ss)) (option_or (busy x.mirror) (in_session (find (has_place_of m) ss)))) ≡ None
      by true h = absurd cc
      by false h =
          let both = none-both (in_session (find (is_member m.a.0) ss)) (busy x.mirror) h in
          both-none (in_session (find (is_member m.a.0) ss)) _ both.0 (both-none (busy x.mirror) _ both.1 (sym second))

-- a member that a session lets go
passes-at : (a : ℕ) (ms : List Member) (m : Member) → find (λ (m : Member). m.a.0 == a) ms ≡ Some m → m.a.0 ≡ a
passes-at a [] m h = absurd cc
passes-at a (q ∷ ms) m h =
    elim (q.a.0 == a) as (λ b. (q.a.0 == a) ≡ b → cond b (Some q) (find (λ (m : Member). m.a.0 == a) ms) ≡ Some m → m.a.0 ≡ a) [
      | true ↦ λ is got. let same : q ≡ m = cc in sym (ap (λ (z : Member). z.a.0) same) ∙ eqb-true q.a.0 a is
      | false ↦ λ is got. passes-at a ms m got
    ] refl h

pub goes-free : (o : Option Session) (s a : ℕ) (m : Member) → Some m ≡ member_in a o → None ≡ busy (mirror_in o) → remove_refusal o s m.a.0 ≡ None
goes-free None s a m is free = absurd cc
goes-free (Some x) s a m is free =
    ap (λ v. if is_member v x then busy x.mirror else not_in_session s) (passes-at a x.members m (sym is))
    ∙ ap (λ b. if b then busy x.mirror else not_in_session s) (is-member a x (Some m) is) ∙ sym free
