-- The entries of side blocks as a track takes one, a send frees one, and a void frees all: they stay lawful, and follow those before.
use Rattle.std.proofs.Common.{ℕ, zero, suc, ◌≡◌, ◌<◌, ◌⊎◌, inl, inr, Bool, true, false, ◌||◌, [], ◌∷◌, length, refl, sym, ◌∙◌, ap, subst, Option, None, Some}
use Rattle.std.specs.Prelude.{if◌then◌else◌}
use Rattle.std.proofs.lemmas.Bool.{eq-eqb}
use Rattle.std.proofs.lemmas.List.{length-map}
use Rattle.dr_model.specs.Layout.{Entries, entry_at, is_track, names, with_entry, without_entry, free_entries}
use Rattle.dr_model.specs.Lawful.{HasEntries, EntriesFollow}
use Rattle.dr_model.proofs.LawfulLemmas.{none_used}

-- entries that stay follow themselves
pub follows-same : (es : Entries) → EntriesFollow es es
follows-same es = record {
  same = λ k t u was is. let e : Some u ≡ Some t = sym is ∙ was in cc;
  one = λ j k t u free is other there. absurd (let never : None ≡ Some t = sym free ∙ is in cc);
}

-- ---- all are free

free-none : (k t : ℕ) → entry_at free_entries k ≡ Some t → ⊥
free-none k t is = let never : None ≡ Some t = sym (none_used k) ∙ is in cc

pub follows-free : (es : Entries) → EntriesFollow es free_entries
follows-free es = record { same = λ k t u was is. absurd (free-none k u is); one = λ j k t u free is other there. absurd (free-none j t is) }

-- ---- the entry of a track is free

abbrev less : ℕ → Option ℕ → Option ℕ
less t e = if is_track e t then None else e

less-at : (es : Entries) (t k : ℕ) → entry_at (without_entry es t) k ≡ less t (entry_at es k)
less-at [] t k = refl
less-at (e ∷ es) t zero = refl
less-at (e ∷ es) t (suc k) = less-at es t k

less-some : (t q : ℕ) (e : Option ℕ) → less t e ≡ Some q → e ≡ Some q
less-some t q None is = is
less-some t q (Some s) is = kept (is_track (Some s) t) is
  where
    kept : (b : Bool) → (if b then None else Some s) ≡ Some q → Some s ≡ Some q
    kept true is = absurd (cc)
    kept false is = is

without-some : (es : Entries) (t k q : ℕ) → entry_at (without_entry es t) k ≡ Some q → entry_at es k ≡ Some q
without-some es t k q is = less-some t q (entry_at es k) (sym (less-at es t k) ∙ is)

pub without-lawful : (n t : ℕ) (es : Entries) → HasEntries n es → HasEntries n (without_entry es t)
without-lawful n t es law = record {
  eight = length-map es (less t) ∙ law.eight;
  low = λ k q is. law.low k q (without-some es t k q is);
  apart = λ j k q is there. law.apart j k q (without-some es t j q is) (without-some es t k q there);
}

pub follows-without : (t : ℕ) (es : Entries) → EntriesFollow es (without_entry es t)
follows-without t es = record {
  same = λ k s u was is. let e : Some u ≡ Some s = sym (without-some es t k u is) ∙ was in cc;
  one = λ j k s u free is other there. absurd (let never : None ≡ Some s = sym free ∙ without-some es t j s is in cc);
}

-- ---- the lowest free one names a track

with-some : (es : Entries) (t k q : ℕ) → entry_at (with_entry es t) k ≡ Some q → (entry_at es k ≡ Some q) ⊎ ((entry_at es k ≡ None) × (q ≡ t))
with-some [] t k q is = inl is
with-some (None ∷ es) t zero q is = inr (refl, (let e : Some t ≡ Some q = is in cc))
with-some (None ∷ es) t (suc k) q is = inl is
with-some (Some s ∷ es) t zero q is = inl is
with-some (Some s ∷ es) t (suc k) q is = with-some es t k q is

-- one at most
with-one : (es : Entries) (t j k q r : ℕ) → entry_at es j ≡ None → entry_at (with_entry es t) j ≡ Some q → entry_at es k ≡ None → entry_at (with_entry es t) k ≡ Some r → j ≡ k
with-one [] t j k q r free is other there = absurd (let never : None ≡ Some q = is in cc)
with-one (None ∷ es) t zero zero q r free is other there = refl
with-one (None ∷ es) t zero (suc k) q r free is other there = absurd (let never : None ≡ Some r = sym other ∙ there in cc)
with-one (None ∷ es) t (suc j) k q r free is other there = absurd (let never : None ≡ Some q = sym free ∙ is in cc)
with-one (Some s ∷ es) t zero k q r free is other there = absurd (let never : Some s ≡ None = free in cc)
with-one (Some s ∷ es) t (suc j) zero q r free is other there = absurd (let never : Some s ≡ None = other in cc)
with-one (Some s ∷ es) t (suc j) (suc k) q r free is other there = ap suc (with-one es t j k q r free is other there)

length-with : (es : Entries) (t : ℕ) → length (with_entry es t) ≡ length es
length-with [] t = refl
length-with (None ∷ es) t = refl
length-with (Some s ∷ es) t = ap suc (length-with es t)

-- an entry that names a track is one of those that do
pub names-at : (es : Entries) (k t : ℕ) → entry_at es k ≡ Some t → names es t ≡ true
names-at [] k t is = absurd (let never : None ≡ Some t = is in cc)
names-at (e ∷ es) zero t is = first e is
  where
    first : (e : Option ℕ) → e ≡ Some t → (is_track e t || names es t) ≡ true
    first e at = ap (λ x. is_track x t || names es t) at ∙ ap (λ b. b || names es t) (eq-eqb t t refl)
names-at (e ∷ es) (suc k) t is = either (is_track e t) (names-at es k t is)
  where
    either : (b : Bool) → names es t ≡ true → (b || names es t) ≡ true
    either true there = refl
    either false there = there

pub with-lawful : (n t : ℕ) (es : Entries) → t < n → names es t ≡ false → HasEntries n es → HasEntries n (with_entry es t)
with-lawful n t es low free law = record {
  eight = length-with es t ∙ law.eight;
  low = λ k q is. elim (with-some es t k q is) [ inl old ↦ law.low k q old | inr new ↦ subst (λ x. x < n) (sym new.1) low ];
  apart = λ j k q is there. elim (with-some es t j q is) [
    | inl old ↦ elim (with-some es t k q there) [
      | inl other ↦ law.apart j k q old other
      | inr new ↦ absurd (never j q old new.1)
    ]
    | inr new ↦ elim (with-some es t k q there) [
      | inl other ↦ absurd (never k q other new.1)
      | inr next ↦ with-one es t j k q q new.0 is next.0 there
    ]
  ];
}
  where
    never : (j q : ℕ) → entry_at es j ≡ Some q → q ≡ t → ⊥
    never j q at same = let e : true ≡ false = sym (names-at es j t (at ∙ ap (λ x. Some x) same)) ∙ free in cc

pub follows-with : (t : ℕ) (es : Entries) → EntriesFollow es (with_entry es t)
follows-with t es = record {
  same = λ k s u was is. elim (with-some es t k u is) [
    | inl old ↦ (let e : Some u ≡ Some s = sym old ∙ was in cc)
    | inr new ↦ absurd (let never : None ≡ Some s = sym new.0 ∙ was in cc)
  ];
  one = λ j k s u free is other there. with-one es t j k s u free is other there;
}

-- ---- either of two

pub lawful-if : (n : ℕ) (b : Bool) (next es : Entries) → (b ≡ true → HasEntries n next) → HasEntries n es → HasEntries n (if b then next else es)
lawful-if n true next es taken law = taken refl
lawful-if n false next es taken law = law

pub follows-if : (b : Bool) (next es : Entries) → EntriesFollow es next → EntriesFollow es (if b then next else es)
follows-if true next es follows = follows
follows-if false next es follows = follows-same es
