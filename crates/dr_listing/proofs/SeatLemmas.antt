-- Sessions by their places, and how many they are.
use Rattle.std.proofs.Common.{ℕ, zero, suc, ◌≡◌, ◌≤◌, ◌<◌, ◌+◌, ◌⊎◌, false, ◌||◌, arith, List, [], ◌∷◌, ◌++◌, length, map, take, drop, slice_get, get_or, refl, sym, ◌∙◌, ap, subst, nat_eq, inl, inr, Option, Some, None}
use Rattle.std.specs.Prelude.{◌==◌, option_map}
use Rattle.std.specs.List.{list_any, range_with_len}
use Rattle.std.proofs.lemmas.List.{length-map, length-append, length-take-le, take-append-drop}
use Rattle.std.proofs.lemmas.Grind.{flat_map-append}
use Rattle.std.proofs.lemmas.Option.{same_Some, slice_get_within, slice_get_cases, slice_get-get_or}
use Rattle.std.proofs.lemmas.List.FromFn.{length-range_with_len, get_or-range_with_len}
use Rattle.std.proofs.lemmas.Bool.{eqb-true, eq-eqb, or_parts}
use Rattle.dr_facts.proofs.Lists.{found, not-found, once-same, once-few, from-map, in-joined}
use Rattle.dr_model.specs.Groups.{In}
use Rattle.dr_model.specs.Sessions.{Session, session_in}
use Rattle.dr_model.specs.Tables.{Once}
use Rattle.dr_ids.specs.declared.names.SessionId.{SessionId}
use Rattle.dr_logic.proofs.Truth.{false_true}
use Rattle.dr_listing.specs.Told.{members_of}
use Rattle.dr_listing.proofs.TakenLemmas.{take-next, each-next, in-at}

-- a session that is listed is found by its number
pub found-seat : (ss : List Session) (x : Session) → Once (map (λ (x : Session). x.number) ss) → In x ss → session_in ss x.number ≡ Some x
found-seat ss x once here = by (session_in ss x.number) refl
  where
    by : (o : Option Session) → session_in ss x.number ≡ o → o ≡ Some x
    by None none = false_true (not-found (λ (y : Session). y.number == x.number) ss x none here) (eq-eqb x.number x.number refl)
    by (Some y) is = let r = found (λ (y : Session). y.number == x.number) ss y is in ap Some (once-same (λ (z : Session). z.number) ss y x once r.0 here (eqb-true y.number x.number r.1))

none-first : {X : Type 0} (f : X → ℕ) (n k : ℕ) (xs : List X) → list_any (nat_eq n) (map f xs) ≡ false → list_any (nat_eq n) (map f (take k xs)) ≡ false
none-first f n zero xs none = refl
none-first f n (suc k) [] none = refl
none-first f n (suc k) (x ∷ xs) none = let parts = or_parts (nat_eq n (f x)) _ none in ap (λ b. b || list_any (nat_eq n) (map f (take k xs))) parts.0 ∙ none-first f n k xs parts.1

-- the first of a list have each number once
once-first : {X : Type 0} (f : X → ℕ) (k : ℕ) (xs : List X) → Once (map f xs) → Once (map f (take k xs))
once-first f zero xs once = tt
once-first f (suc k) [] once = tt
once-first f (suc k) (x ∷ xs) once = (none-first f (f x) k xs once.0, once-first f k xs once.1)

-- a number of a byte is one of 256
in-bytes : (n : ℕ) → n < 256 → In n (range_with_len 0 256)
in-bytes n low =
    let size = length-range_with_len 0 256 in
    in-at (range_with_len 0 256) n n (slice_get-get_or (range_with_len 0 256) n 0 (omega (arith, size, low)) ∙ ap Some (get_or-range_with_len 0 256 n 0 low ∙ (let e : 0 + n ≡ n = omega arith in e)))

-- so many sessions with numbers of a byte are no more than there are bytes
pub few-seats : (ss : List Session) (at : ℕ) → Once (map (λ (x : Session). x.number) ss) → at ≤ length ss → ((x : Session) → In x (take at ss) → x.number < 256) → at ≤ 256
few-seats ss at once within low =
    let f : Session → ℕ = (λ x. x.number) in
    let few : length (map f (take at ss)) ≤ length (range_with_len 0 256) = once-few (map f (take at ss)) (range_with_len 0 256) (once-first f at ss once) (λ n h. let from = from-map f (take at ss) n h in let small : n < 256 = subst (λ k. k < 256) (sym from.is) (low from.from from.here) in in-bytes n small) in
    let size : length (map f (take at ss)) ≡ at = length-map (take at ss) f ∙ length-take-le at ss within in
    let all : length (range_with_len 0 256) ≡ 256 = length-range_with_len 0 256 in
    omega (arith, few, size, all)

-- the session at a place
pub record Seat (ss : List Session) (at n : ℕ) : Type 0 where
  pub session : Session
  pub there : slice_get ss at ≡ Some session
  pub number : session.number ≡ n
  pub below : at < length ss
  pub found : Once (map (λ (x : Session). x.number) ss) → session_in ss n ≡ Some session

pub seat-at : (ss : List Session) (at : ℕ) (o : Option SessionId) (s : SessionId) → option_map (λ (k : SessionId). k.0) o ≡ option_map (λ (x : Session). x.number) (slice_get ss at) → o ≡ Some s → Seat ss at s.0
seat-at ss at o s value is = by (slice_get ss at) refl (sym (ap (option_map (λ (k : SessionId). k.0)) is) ∙ value)
  where
    by : (found : Option Session) → slice_get ss at ≡ found → Some s.0 ≡ option_map (λ (x : Session). x.number) found → Seat ss at s.0
    by None there same = absurd (cc same)
    by (Some x) there same = record {
      session = x;
      there = there;
      number = sym (same_Some s.0 x.number same);
      below = slice_get_within ss at x there;
      found = λ once. subst (λ n. session_in ss n ≡ Some x) (sym (same_Some s.0 x.number same)) (found-seat ss x once (in-at ss at x there));
    }

-- where none is, the places end
pub no-seat : (ss : List Session) (at : ℕ) (o : Option SessionId) → option_map (λ (k : SessionId). k.0) o ≡ option_map (λ (x : Session). x.number) (slice_get ss at) → ((s : SessionId) → o ≡ Some s → ⊥) → length ss ≤ at
no-seat ss at o value none = by o refl (slice_get_cases ss at).1
  where
    by : (p : Option SessionId) → o ≡ p → ((x : Session) × (at < length ss) × (slice_get ss at ≡ Some x) × (get_or ss at x ≡ x)) ⊎ ((length ss ≤ at) × (slice_get ss at ≡ None)) → length ss ≤ at
    by p is (inr past) = past.0
    by (Some s) is (inl x) = absurd (none s is)
    by None is (inl x) = absurd (let e : None ≡ Some x.0.number = sym (ap (option_map (λ (k : SessionId). k.0)) is) ∙ value ∙ ap (option_map (λ (x : Session). x.number)) x.2 in cc e)

-- one seat more has a number of a byte too
pub low-next : (ss : List Session) (at : ℕ) (x : Session) → slice_get ss at ≡ Some x → ((y : Session) → In y (take at ss) → y.number < 256) → x.number < 256 → (y : Session) → In y (take (at + 1) ss) → y.number < 256
low-next ss at x there low one y here = by (in-joined (take at ss) (x ∷ []) y (subst (In y) (take-next ss at x there) here))
  where
    by : In y (take at ss) ⊎ In y (x ∷ []) → y.number < 256
    by (inl before) = low y before
    by (inr (inl is)) = subst (λ (z : Session). z.number < 256) (sym is) one
    by (inr (inr more)) = absurd more

-- the members of one session more
pub members-next : (ss : List Session) (at : ℕ) (x : Session) → slice_get ss at ≡ Some x → (length (members_of (take (at + 1) ss)) ≡ length (members_of (take at ss)) + length x.members) × (length (members_of (take at ss)) + length x.members ≤ length (members_of ss))
members-next ss at x there =
    let more = ap length (each-next (λ (y : Session). y.members) ss at x there) ∙ length-append (members_of (take at ss)) x.members in
    let all = length-append (members_of (take (at + 1) ss)) (members_of (drop (at + 1) ss)) in
    let split : members_of ss ≡ members_of (take (at + 1) ss) ++ members_of (drop (at + 1) ss) = ap members_of (sym (take-append-drop (at + 1) ss)) ∙ flat_map-append (λ (y : Session). y.members) (take (at + 1) ss) (drop (at + 1) ss) in
    let size = ap length split in
    (more, omega (arith, more, all, size))
