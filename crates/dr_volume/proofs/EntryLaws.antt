-- The laws of entries: what they mean for a volume is lawful, and lawful entries mean themselves.
use Rattle.std.proofs.Common.{ℕ, zero, suc, [], ◌∷◌, ◌≡◌, ◌<◌, Bool, true, false, not, ◌&&◌, take, length, get_or, sym, ◌∙◌, ap, refl, subst, arith, nat_lt, Option, None, Some, inl, inr}
use Rattle.std.specs.Prelude.{if◌then◌else◌}
use Rattle.std.specs.List.{list_any}
use Rattle.std.proofs.lemmas.Bool.{cases_order, eq-eqb, ltb-true}
use Rattle.std.proofs.lemmas.Bool.Decides.{Decides-eqb}
use Rattle.std.proofs.lemmas.List.{get_or-take, get_or_past, length-take}
use Rattle.std.proofs.lemmas.List.Folds.{Any-from_list_any, list_any-from_Any}
use Rattle.std.proofs.lemmas.List.FromFn.{fill_by_all, get_or-map-range_with_len, length-map-range_with_len}
use Rattle.dr_bits.specs.Membership.{lt_true}
use Rattle.dr_model.specs.Layout.{Entries, entry_at, entry_kept, entries_of, is_track}
use Rattle.dr_model.specs.Lawful.{HasEntries}

-- an entry of a list names its track within it
pub entry-within : (es : Entries) (k t : ℕ) → entry_at es k ≡ Some t → k < length es
entry-within es k t is = elim (cases_order k (length es)) [
  | inl e ↦ absurd (let none = get_or_past es k None (omega (arith, e)) in cc)
  | inr o ↦ elim o [ inl low ↦ low | inr high ↦ absurd (let none = get_or_past es k None (omega (arith, high)) in cc) ]
]

-- the default doesn't matter then
pub get_or_default : (es : Entries) (j t : ℕ) → entry_at es j ≡ Some t → get_or es j (Some t) ≡ Some t
get_or_default [] j t is = refl
get_or_default (e ∷ es) zero t is = is
get_or_default (e ∷ es) (suc j) t is = get_or_default es j t is

-- and an entry of the first k that names it is one of the list
get_or_none : (es : Entries) (j t : ℕ) → j < length es → get_or es j (Some t) ≡ Some t → entry_at es j ≡ Some t
get_or_none [] j t within is = absurd (omega arith)
get_or_none (e ∷ es) zero t within is = is
get_or_none (e ∷ es) (suc j) t within is = get_or_none es j t (omega (arith, within)) is

-- a track that an entry below k names is one of those that the first k name
named-below : (es : Entries) (j k t : ℕ) → j < k → entry_at es j ≡ Some t → list_any (λ e. is_track e t) (take k es) ≡ true
named-below es j k t lt is = list_any-from_Any (λ e. is_track e t) (take k es) (
  j,
  Some t,
  (let len = length-take k es in let within = entry-within es j t is in omega (arith, len, within, lt)),
  get_or-take k es j (Some t) lt ∙ get_or_default es j t is,
  eq-eqb t t refl,
)

-- and the other way round
below-named : (es : Entries) (k t : ℕ) → list_any (λ e. is_track e t) (take k es) ≡ true → (j : ℕ) × (j < k) × (entry_at es j ≡ Some t)
below-named es k t any =
    let at = Any-from_list_any (λ e. is_track e t) (take k es) any in
    let len = length-take k es in
    let low : at.0 < k = (let within = at.2 in omega (arith, len, within)) in
    let there : at.0 < length es = (let within = at.2 in omega (arith, len, within)) in
    (at.0, low, named at.1 at.0 there (sym (get_or-take k es at.0 at.1 low) ∙ at.3) at.4)
  where
    named : (e : Option ℕ) (j : ℕ) → j < length es → get_or es j e ≡ e → is_track e t ≡ true → entry_at es j ≡ Some t
    named None j within is track = absurd (cc)
    named (Some s) j within is track = get_or_none es j t within (let e : t ≡ s = (Decides-eqb t s).0 track in subst (λ q. get_or es j (Some q) ≡ Some q) (sym e) is)

-- an entry that is kept names a track of the volume that no lower one names
kept-some : (n : ℕ) (lower : Entries) (e : Option ℕ) (t : ℕ) → entry_kept n lower e ≡ Some t → (e ≡ Some t) × (t < n) × (list_any (λ e. is_track e t) lower ≡ false)
kept-some n lower None t is = absurd (cc)
kept-some n lower (Some s) t is = let h = passed (nat_lt s n) _ refl refl is in (ap (λ q. Some q) h.0, h.1, h.2)
  where
    passed : (low named : Bool) → nat_lt s n ≡ low → list_any (λ e. is_track e s) lower ≡ named → (if low && not named then Some s else None) ≡ Some t
        → (s ≡ t) × (t < n) × (list_any (λ e. is_track e t) lower ≡ false)
    passed true false low named is = let e : s ≡ t = cc in (e, subst (λ q. q < n) e (ltb-true s n low), subst (λ q. list_any (λ e. is_track e q) lower ≡ false) e named)
    passed true true low named is = absurd (cc)
    passed false named low other is = absurd (cc)

kept-lawful : (n : ℕ) (lower : Entries) (e : Option ℕ) → ((t : ℕ) → e ≡ Some t → (t < n) × (list_any (λ e. is_track e t) lower ≡ false)) → entry_kept n lower e ≡ e
kept-lawful n lower None fits = refl
kept-lawful n lower (Some t) fits = let h = fits t refl in
    (λ i. if lt_true t n h.0 i && not (h.1 i) then Some t else None)

-- lawful entries mean themselves
pub entries-kept : (n : ℕ) (es : Entries) → HasEntries n es → entries_of n es ≡ es
unfolding entries_of
entries-kept n es law = sym (fill_by_all (λ k. entry_kept n (take k es) (entry_at es k)) es 8 None law.eight (λ k low. sym (at k)))
  where
    lone : (k t : ℕ) (b : Bool) → entry_at es k ≡ Some t → list_any (λ e. is_track e t) (take k es) ≡ b → b ≡ false
    lone k t true is any = let j = below-named es k t any in absurd (let same = law.apart j.0 k t j.2 is in let lt = j.1 in omega (arith, same, lt))
    lone k t false is any = refl

    at : (k : ℕ) → entry_kept n (take k es) (entry_at es k) ≡ entry_at es k
    at k = kept-lawful n (take k es) (entry_at es k) (λ t is. (law.low k t is, (lone k t _ is refl)))

-- what entries mean for a volume, at each place
entries-at : (n : ℕ) (es : Entries) (k t : ℕ) → entry_at (entries_of n es) k ≡ Some t → entry_kept n (take k es) (entry_at es k) ≡ Some t
unfolding entries_of
entries-at n es k t is =
    let low = entry-within (entries_of n es) k t is in
    sym (get_or-map-range_with_len (λ k. entry_kept n (take k es) (entry_at es k)) 0 8 k k None (let len = length-map-range_with_len (λ k. entry_kept n (take k es) (entry_at es k)) 0 8 in omega (arith, low, len)) (omega arith)) ∙ is

length-entries_of : (n : ℕ) (es : Entries) → length (entries_of n es) ≡ 8
unfolding entries_of
length-entries_of n es = length-map-range_with_len (λ k. entry_kept n (take k es) (entry_at es k)) 0 8

-- it is lawful
pub has-entries_of : (n : ℕ) (es : Entries) → HasEntries n (entries_of n es)
has-entries_of n es = record {
  eight = eight;
  low = λ k t is. (kept-some n (take k es) (entry_at es k) t (entries-at n es k t is)).1;
  apart = λ j k t is_j is_k. elim (cases_order j k) [
    | inl e ↦ e
    | inr o ↦ elim o [ inl lt ↦ absurd (let e = never j k t lt is_j is_k in cc) | inr gt ↦ absurd (let e = never k j t gt is_k is_j in cc) ]
  ];
}
  where
    eight : length (entries_of n es) ≡ 8
    eight = length-entries_of n es

    never : (j k t : ℕ) → j < k → entry_at (entries_of n es) j ≡ Some t → entry_at (entries_of n es) k ≡ Some t → true ≡ false
    never j k t lt is_j is_k =
        sym (named-below es j k t lt (kept-some n (take j es) (entry_at es j) t (entries-at n es j t is_j)).0)
        ∙ (kept-some n (take k es) (entry_at es k) t (entries-at n es k t is_k)).2

-- and what they mean means itself
pub entries-again : (n : ℕ) (es : Entries) → entries_of n (entries_of n es) ≡ entries_of n es
entries-again n es = entries-kept n (entries_of n es) (has-entries_of n es)
