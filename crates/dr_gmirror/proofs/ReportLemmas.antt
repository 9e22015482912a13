-- What a server reports of its members, one by one.
use Rattle.std.proofs.Common.{ℕ, zero, suc, ◌≡◌, ◌<◌, ◌≤◌, ◌+◌, arith, Bool, true, false, cond, List, [], ◌∷◌, ◌++◌, length, take, slice_get, slice_set, map, min, refl, sym, ◌∙◌, ap, Some}
use Rattle.std.specs.Prelude.{filter, replicate, if◌then◌else◌}
use Rattle.std.proofs.lemmas.List.{take_more_set, take_min, map-append, length-map}
use Rattle.std.proofs.lemmas.Slice.Zip.{length-zip}
use Rattle.std.proofs.lemmas.Grind.{common_steps}
use Rattle.dr_master.specs.Seen.{shown_in}
use Rattle.dr_master.specs.declared.reports.Report.{Report}
use Rattle.dr_master.proofs.Reported.{joined}
use Rattle.dr_gmirror.specs.Reports.{IsTrimmed}
use Rattle.std.proofs.lemmas.List.Elements.{filter-append}
use Rattle.dr_ids.specs.declared.names.Member.{Member}
use Rattle.dr_model.specs.Control.{Control}
use Rattle.dr_model.specs.Decisions.{shown_by}
use Rattle.dr_model.specs.Entries.{fields_at}
use Rattle.dr_model.specs.SessionEntries.{is_on, members_on, counts_in, counts_at, shown_of, shown_at, shown_by_members}

-- one member
pub shown-one : (s : ℕ) (k : Control) (m : Member) → shown_by_members s (m ∷ []) k ≡ (if counts_in s (fields_at k m.c.0) then shown_of (fields_at k m.c.0) ∷ [] else [])
shown-one s k m = elim (counts_in s (fields_at k m.c.0)) as (λ b. map (shown_at k) (cond b (m ∷ []) []) ≡ (if b then shown_of (fields_at k m.c.0) ∷ [] else [])) [ true ↦ refl | false ↦ refl ]

-- one on the server
pub shown-on : (s server : ℕ) (k : Control) (m : Member) → is_on server m ≡ true → shown_by_members s (members_on server (m ∷ [])) k ≡ shown_by_members s (m ∷ []) k
shown-on s server k m is = ap (λ b. shown_by_members s (cond b (m ∷ []) []) k) is

-- and more
pub shown-more : (s server : ℕ) (k : Control) (xs ys : List Member) → shown_by_members s (members_on server (xs ++ ys)) k ≡ shown_by_members s (members_on server xs) k ++ shown_by_members s (members_on server ys) k
shown-more s server k xs ys =
    ap (λ ms. shown_by_members s ms k) (filter-append (is_on server) xs ys)
    ∙ ap (map (shown_at k)) (filter-append (counts_at s k) (members_on server xs) (members_on server ys))
    ∙ map-append (shown_at k) (filter (counts_at s k) (members_on server xs)) (filter (counts_at s k) (members_on server ys))

-- a report shows no more than it has places for, whatever it counts
pub places-shown : (places count : ℕ) (numbers : List ℕ) (flags : List Bool) → length numbers ≡ places → length flags ≡ places → take (min count places) (shown_by numbers flags) ≡ take count (shown_by numbers flags)
places-shown places count numbers flags long also =
    let xs = shown_by numbers flags in
    let all : length xs ≡ places = grind (arith, common_steps, length-map, length-zip) in
    ap (λ n. take (min count n) xs) (sym all) ∙ take_min count xs

-- a report of one more, and the places behind it
pub set-further : {A : Type 0} (xs : List A) (i j : ℕ) (x : A) → i < j → slice_get (slice_set xs i x) j ≡ slice_get xs j
set-further [] i j x low = refl
set-further (y ∷ ys) zero zero x low = absurd (omega (arith, low))
set-further (y ∷ ys) zero (suc j) x low = refl
set-further (y ∷ ys) (suc i) zero x low = absurd (omega (arith, low))
set-further (y ∷ ys) (suc i) (suc j) x low = set-further ys i j x (omega (arith, low))

pub all-same : {A : Type 0} (n i : ℕ) (x : A) → i < n → slice_get (replicate n x) i ≡ Some x
all-same zero i x low = absurd (omega (arith, low))
all-same (suc n) zero x low = refl
all-same (suc n) (suc i) x low = all-same n i x (omega (arith, low))

pub noted-shown : (r : Report) (at x : ℕ) (f : Bool) → at ≡ r.count → r.count < length r.seqs → r.count < length r.revertible → shown_in (record { count = r.count + 1; seqs = slice_set r.seqs at x; revertible = slice_set r.revertible at f }) ≡ shown_in r ++ (record { sequence = x; revertible = f }) ∷ []
noted-shown r at x f is low also =
    joined r.seqs (x ∷ []) (slice_set r.seqs at x) r.revertible (f ∷ []) (slice_set r.revertible at f) r.count 1 (omega (arith, low)) (omega (arith, also))
    (ap (λ i. take (r.count + 1) (slice_set r.seqs i x)) is ∙ take_more_set r.seqs r.count x low)
    (ap (λ i. take (r.count + 1) (slice_set r.revertible i f)) is ∙ take_more_set r.revertible r.count f also)

pub noted-trimmed : (r : Report) (at x : ℕ) (f : Bool) → at ≡ r.count → IsTrimmed r → IsTrimmed (record { count = r.count + 1; seqs = slice_set r.seqs at x; revertible = slice_set r.revertible at f })
noted-trimmed r at x f is trimmed = record {
  numbers = λ i past low. set-further r.seqs at i x (let h : r.count + 1 ≤ i = past in omega (arith, is, h)) ∙ trimmed.numbers i (let h : r.count + 1 ≤ i = past in omega (arith, h)) low;
  flags = λ i past low. set-further r.revertible at i f (let h : r.count + 1 ≤ i = past in omega (arith, is, h)) ∙ trimmed.flags i (let h : r.count + 1 ≤ i = past in omega (arith, h)) low;
}
