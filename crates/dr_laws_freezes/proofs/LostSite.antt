-- What the secondary of the example may contain, and what it may not.
use Rattle.std.proofs.Common.{ℕ, zero, suc, ◌≡◌, ◌<◌, inl, inr, refl, ap, sym, ◌∙◌, subst, false, cond, nat_eq, List, [], ◌∷◌, ◌++◌, Option, Some, None, slice_index_or, arith}
use Rattle.std.proofs.lemmas.Bool.{eqb-true}
use Rattle.std.proofs.lemmas.Bool.Decides.{eqb_tells}
use Rattle.std.proofs.lemmas.Option.{same_Some}
use Rattle.dr_logic.specs.Bytes.{zeros}
use Rattle.dr_model.specs.Histories.{histories, lists}
use Rattle.dr_model.specs.Contents.{image, laid}
use Rattle.dr_model.specs.Control.{Pending}
use Rattle.dr_model.specs.Groups.{In}
use Rattle.dr_model.specs.Pairs.{is_primary_of}
use Rattle.dr_model.specs.Entries.{fields_at}
use Rattle.dr_laws_freezes.specs.Secondaries.{IsInFlight, more_on, LacksNone}
use Rattle.dr_laws_freezes.specs.Example.{lost_primary, left_secondary, second_write, third_write, lost_site, made_by, LacksNoneWith}
use Rattle.dr_facts.proofs.Tables.{IsOrNot}
use Rattle.dr_logic.proofs.Truth.{false_true}

abbrev contents : List ℕ → List ℕ → ℕ → ℕ → List ℕ
contents first second v t = made_by (cond (nat_eq t 0) first second)

-- the writes that the primary holds, and one more
abbrev with_more : Option Pending → ℕ → List ℕ
with_more more t = lists lost_site.events 4096 t ++ more_on more t

-- it is the only pair
one-pair : (first second : List ℕ) → LacksNone lost_site (contents first second) 4096 8192 → LacksNoneWith first second
one-pair first second lacks v q there too leads metro duplex follows = elim (eqb_tells v 4096) [
  | inl is ↦
      let to : 8192 ≡ q = eqb-true 8192 q (ap (λ v. is_primary_of q (fields_at lost_site.control v)) (sym is.1) ∙ leads) in
      subst (λ v. LacksNone lost_site (contents first second) v q) (sym is.1) (subst (LacksNone lost_site (contents first second) 4096) to lacks)
  | inr ne ↦ false_true (ap (λ b. is_primary_of q (cond b lost_primary left_secondary).fields) ne.0) leads
]

flies-second : (p : Pending) → Some second_write ≡ Some p → IsInFlight lost_site 4096 p
flies-second p is = subst (IsInFlight lost_site 4096) (same_Some second_write p is) (record { pending = inl refl; volume = refl; unacked = refl })

flies-third : (p : Pending) → Some third_write ≡ Some p → IsInFlight lost_site 4096 p
flies-third p is = subst (IsInFlight lost_site 4096) (same_Some third_write p is) (record { pending = inr (inl refl); volume = refl; unacked = refl })

tracks : (first second : List ℕ) (more : Option Pending) → first ≡ with_more more 0 → second ≡ with_more more 1 → (t : ℕ) → t < 2 → contents first second 8192 t ≡ made_by (with_more more t)
tracks first second more one two zero lt = ap made_by one
tracks first second more one two (suc zero) lt = ap made_by two
tracks first second more one two (suc (suc t)) lt = absurd (omega arith)

pub even : LacksNoneWith (1 ∷ []) []
unfolding histories
even = one-pair (1 ∷ []) [] (record { more = None; in_flight = λ p is. absurd cc; size = refl; tracks = tracks (1 ∷ []) [] None refl refl })

pub ahead : LacksNoneWith (1 ∷ 2 ∷ []) []
unfolding histories
ahead = one-pair (1 ∷ 2 ∷ []) [] (record { more = Some second_write; in_flight = flies-second; size = refl; tracks = tracks (1 ∷ 2 ∷ []) [] (Some second_write) refl refl })

pub on-another : LacksNoneWith (1 ∷ []) (3 ∷ [])
unfolding histories
on-another = one-pair (1 ∷ []) (3 ∷ []) (record { more = Some third_write; in_flight = flies-third; size = refl; tracks = tracks (1 ∷ []) (3 ∷ []) (Some third_write) refl refl })

-- ---- what it may not contain

-- the first byte of such a track
abbrev first_byte : List ℕ → ℕ
first_byte ws = slice_index_or (made_by ws) 0 0

-- what comes of each write more that there may be
module _ (first second : List ℕ) (none : made_by first ≡ made_by (with_more None 0) → made_by second ≡ made_by (with_more None 1) → ⊥)
    (two : made_by first ≡ made_by (with_more (Some second_write) 0) → made_by second ≡ made_by (with_more (Some second_write) 1) → ⊥)
    (three : made_by first ≡ made_by (with_more (Some third_write) 0) → made_by second ≡ made_by (with_more (Some third_write) 1) → ⊥) where
  by : (more : Option Pending) → ((p : Pending) → more ≡ Some p → IsInFlight lost_site 4096 p) → made_by first ≡ made_by (with_more more 0) → made_by second ≡ made_by (with_more more 1) → ⊥
  by None flies = none
  by (Some p) flies = by_one (flies p refl).pending
    where
      by_one : In p (second_write ∷ third_write ∷ []) → made_by first ≡ made_by (with_more (Some p) 0) → made_by second ≡ made_by (with_more (Some p) 1) → ⊥
      by_one (inl is) = subst (λ p. made_by first ≡ made_by (with_more (Some p) 0) → made_by second ≡ made_by (with_more (Some p) 1) → ⊥) (sym is) two
      by_one (inr (inl is)) = subst (λ p. made_by first ≡ made_by (with_more (Some p) 0) → made_by second ≡ made_by (with_more (Some p) 1) → ⊥) (sym is) three
      by_one (inr (inr h)) = absurd h

  refused : LacksNoneWith first second → ⊥
  refused lacks =
      let l : LacksNone lost_site (contents first second) 4096 8192 = lacks 4096 8192 refl refl refl refl refl refl in
      by l.more l.in_flight (l.tracks 0 (omega arith)) (l.tracks 1 (omega arith))

apart : (n m : ℕ) (ws us : List ℕ) → first_byte ws ≡ n → first_byte us ≡ m → nat_eq n m ≡ false → made_by ws ≡ made_by us → ⊥
apart n m ws us one two ne same = by (eqb_tells n m)
  where
    by : IsOrNot n m → ⊥
    by (inl is) = false_true ne is.0
    by (inr not) = not.1 (sym one ∙ ap (λ b. slice_index_or b 0 0) same ∙ two)

pub less : LacksNoneWith [] [] → ⊥
unfolding histories image laid zeros
less = refused [] [] (λ a b. apart 0 97 [] (with_more None 0) refl refl refl a) (λ a b. apart 0 98 [] (with_more (Some second_write) 0) refl refl refl a) (λ a b. apart 0 97 [] (with_more (Some third_write) 0) refl refl refl a)

pub dropped : LacksNoneWith (1 ∷ 4 ∷ []) [] → ⊥
unfolding histories image laid zeros
dropped = refused (1 ∷ 4 ∷ []) [] (λ a b. apart 100 97 (1 ∷ 4 ∷ []) (with_more None 0) refl refl refl a) (λ a b. apart 100 98 (1 ∷ 4 ∷ []) (with_more (Some second_write) 0) refl refl refl a)
    (λ a b. apart 100 97 (1 ∷ 4 ∷ []) (with_more (Some third_write) 0) refl refl refl a)

pub two : LacksNoneWith (1 ∷ 2 ∷ []) (3 ∷ []) → ⊥
unfolding histories image laid zeros
two = refused (1 ∷ 2 ∷ []) (3 ∷ []) (λ a b. apart 98 97 (1 ∷ 2 ∷ []) (with_more None 0) refl refl refl a) (λ a b. apart 99 0 (3 ∷ []) (with_more (Some second_write) 1) refl refl refl b)
    (λ a b. apart 98 97 (1 ∷ 2 ∷ []) (with_more (Some third_write) 0) refl refl refl a)
