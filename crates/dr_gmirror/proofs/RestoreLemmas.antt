-- The first member that passes a test, and what all members show, one by one.
use Rattle.std.proofs.Common.{ℕ, zero, suc, ◌≡◌, ◌<◌, ◌+◌, arith, inl, inr, Bool, true, false, cond, List, [], ◌∷◌, ◌++◌, length, map, filter, take, slice_get, refl, sym, ◌∙◌, ap, subst, Option, Some, None}
use Rattle.std.proofs.lemmas.List.{map-append}
use Rattle.std.specs.List.{find}
use Rattle.std.proofs.lemmas.Bool.{cases_eq}
use Rattle.std.specs.Option.{option_or}
use Rattle.dr_ids.specs.declared.names.Member.{Member}
use Rattle.dr_ids.specs.declared.refusal.Refusal.{Refusal}
use Rattle.dr_model.specs.Control.{Control}
use Rattle.dr_model.specs.Plans.{secondary_refusal, forbidden_unless, leaves_all, decided_in, settled_refusal}
use Rattle.dr_model.specs.Sessions.{session_in, members_in}
use Rattle.dr_model.specs.Entries.{fields_at}
use Rattle.dr_model.specs.SessionEntries.{counts_at, shown_at, shown_by_members}
use Rattle.std.proofs.lemmas.List.Elements.{filter-append}
use Rattle.dr_gmirror.proofs.OrderLemmas.{member-next}

-- the first is found where none before it passes
pub find-hit : (p : Member → Bool) (ms : List Member) (i : ℕ) (m : Member) → Some m ≡ slice_get ms i → find p (take i ms) ≡ None → p m ≡ true → find p ms ≡ Some m
find-hit p [] i m at none hit = absurd cc
find-hit p (x ∷ xs) zero m at none hit = let e : x ≡ m = cc in ap (λ b. cond b (Some x) (find p xs)) (ap p e ∙ hit) ∙ ap (λ z. Some z) e
find-hit p (x ∷ xs) (suc i) m at none hit = by (p x) (find-hit p xs i m at) none
  where
    by : (b : Bool) → (find p (take i xs) ≡ None → p m ≡ true → find p xs ≡ Some m) → cond b (Some x) (find p (take i xs)) ≡ None → cond b (Some x) (find p xs) ≡ Some m
    by true further none = absurd cc
    by false further none = further none hit

-- and the next one isn't it
find-append : (p : Member → Bool) (xs ys : List Member) → find p xs ≡ None → find p (xs ++ ys) ≡ find p ys
find-append p [] ys none = refl
find-append p (x ∷ xs) ys none = by (p x) (find-append p xs ys) none
  where
    by : (b : Bool) → (find p xs ≡ None → find p (xs ++ ys) ≡ find p ys) → cond b (Some x) (find p xs) ≡ None → cond b (Some x) (find p (xs ++ ys)) ≡ find p ys
    by true further none = absurd cc
    by false further none = further none

pub find-miss : (p : Member → Bool) (ms : List Member) (i : ℕ) (m : Member) → Some m ≡ slice_get ms i → find p (take i ms) ≡ None → p m ≡ false → find p (take (i + 1) ms) ≡ None
find-miss p ms i m at none miss = ap (find p) (member-next ms i m at) ∙ find-append p (take i ms) (m ∷ []) none ∙ ap (λ b. cond b (Some m) None) miss

-- what holds of each member so far, and of the next one
pub one-more : (ms : List Member) (P : Member → Type 0) (n : ℕ) (m : Member) → slice_get ms n ≡ Some m → P m → ((i : ℕ) (x : Member) → i < n → slice_get ms i ≡ Some x → P x) → (i : ℕ) (x : Member) → i < n + 1 → slice_get ms i ≡ Some x → P x
one-more ms P n m at holds before i x low is = elim (cases_eq i n) as (λ _. P x) [
  | inl same ↦ let e : m ≡ x = (let both : Some m ≡ Some x = sym at ∙ ap (slice_get ms) (sym same) ∙ is in cc) in subst P e holds
  | inr other ↦ before i x (omega (arith, low, other)) is
]

pub below-length : (ms : List Member) (i : ℕ) (m : Member) → slice_get ms i ≡ Some m → i < length ms
below-length [] i m at = absurd cc
below-length (x ∷ xs) zero m at = omega arith
below-length (x ∷ xs) (suc i) m at = let low = below-length xs i m at in omega (arith, low)

-- what all members show, and one more
pub all-more : (s : ℕ) (k : Control) (xs ys : List Member) → shown_by_members s (xs ++ ys) k ≡ shown_by_members s xs k ++ shown_by_members s ys k
all-more s k xs ys = ap (map (shown_at k)) (filter-append (counts_at s k) xs ys) ∙ map-append (shown_at k) (filter (counts_at s k) xs) (filter (counts_at s k) ys)

-- ---- the decision

-- a target that isn't a member's is left to its source
pub settled-plain : (k : Control) (t s : ℕ) → (fields_at k t).member ≡ false → settled_refusal t s k ≡ None
settled-plain k t s plain = ap (λ b. cond b (option_or (secondary_refusal (members_in (session_in k.sessions s)) k) (forbidden_unless (leaves_all (decided_in s k)) (decided_in s k))) None) plain

pub settled-member : (k : Control) (t s : ℕ) (o q : Option Refusal) → (fields_at k t).member ≡ true → secondary_refusal (members_in (session_in k.sessions s)) k ≡ o → forbidden_unless (leaves_all (decided_in s k)) (decided_in s k) ≡ q → settled_refusal t s k ≡ option_or o q
settled-member k t s o q member first second =
    ap (λ b. cond b (option_or (secondary_refusal (members_in (session_in k.sessions s)) k) (forbidden_unless (leaves_all (decided_in s k)) (decided_in s k))) None) member
    ∙ (λ i. option_or (first i) (second i))
