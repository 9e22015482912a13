-- What one more volume makes of the tables by which volumes are found.
use Rattle.std.proofs.Common.{◌≡◌, ◌≢◌, ℕ, ◌+◌, ◌<◌, ◌≤◌, ◌/◌, ◌%◌, ◌⊎◌, Bool, true, false, cond, ◌&&◌, List, [], ◌∷◌, ◌++◌, length, get_or, slice_get, set, Option, Some, None, inl, inr, refl, sym, ◌∙◌, ap, subst, arith, eqb, ltb, length-set, length-append}
use Rattle.std.specs.List.{position, find}
use Rattle.std.specs.Option.{option_or, unwrap_or}
use Rattle.std.proofs.lemmas.List.{get_or-set_other, get_or_past, get_or_append_left, length-replicate}
use Rattle.std.proofs.Math.Seq.{get_or-append_seam}
use Rattle.std.proofs.lemmas.Grind.{get_or-set_at, get_or_default_zero}
use Rattle.std.proofs.lemmas.Option.{slice_get_past}
use Rattle.std.proofs.lemmas.Bool.Decides.{nat_tests, eqb_tells}
use Rattle.dr_config.specs.declared.entries.VolumeEntry.{VolumeEntry}
use Rattle.dr_config.specs.Volumes.{row_in, place_in, place_by, no_places, AreTables, IsKeptList}
use Rattle.dr_config.proofs.Lists.{copies, found-at, none-found, position-push}
use Rattle.dr_config.proofs.Lookups.{either, or-none}

-- the row that was set
row-same : (row_of : List ℕ) (l n m : ℕ) → l < length row_of → m ≡ l → row_in (set row_of l n) m ≡ n
unfolding row_in
row-same row_of l n m low same = get_or-set_at row_of l m n 255 same low

row-other : (row_of : List ℕ) (l n m : ℕ) → m ≢ l → row_in (set row_of l n) m ≡ row_in row_of m
unfolding row_in
row-other row_of l n m other = get_or-set_other row_of l m n 255 other

-- the number that is read at a logical subsystem is its row
pub row-read : (row_of : List ℕ) (l : ℕ) → length row_of ≡ 256 → l < 256 → get_or row_of l 0 ≡ row_in row_of l
unfolding row_in
row-read row_of l size low = sym (get_or_default_zero row_of l 255 (omega (arith, size, low)))

-- no place is in a row that isn't there
place-past : (rows : List (List ℕ)) (r k : ℕ) → length rows ≤ r → place_in rows r k ≡ 255
unfolding place_in
place-past rows r k past = ap (λ row. get_or row k 255) (get_or_past rows r [] past)

-- one more row leaves the others, and has no places
place-old : (rows : List (List ℕ)) (r k : ℕ) → r < length rows → place_in (rows ++ no_places ∷ []) r k ≡ place_in rows r k
unfolding place_in
place-old rows r k within = ap (λ row. get_or row k 255) (get_or_append_left rows (no_places ∷ []) [] r within)

place-new : (rows : List (List ℕ)) (k : ℕ) → place_in (rows ++ no_places ∷ []) (length rows) k ≡ 255
unfolding place_in no_places
place-new rows k = ap (λ row. get_or row k 255) (get_or-append_seam rows no_places [] []) ∙ copies 256 255 k

row-size : length no_places ≡ 256
unfolding no_places
row-size = length-replicate {A = ℕ} 256 255

module _ (row_of : List ℕ) (rows : List (List ℕ)) (l : ℕ) (tables : AreTables row_of rows) (few : length rows < 255) (low : l < 256) (none : row_in row_of l ≡ 255) where
  longer : length (rows ++ no_places ∷ []) ≡ length rows + 1
  longer = length-append rows (no_places ∷ [])

  fits : l < length row_of
  fits = let size = tables.size in omega (arith, low)

  pub opened : (m : ℕ) → m ≡ l → row_in (set row_of l (length rows)) m ≡ length rows
  opened m same = row-same row_of l (length rows) m fits same

  -- a logical subsystem that gets a row: each volume is found as before
  pub open-finds : (v : ℕ) → place_by (set row_of l (length rows)) (rows ++ no_places ∷ []) v ≡ place_by row_of rows v
  open-finds v =
      let m = v / 256 in
      let k = v % 256 in
      let more = longer in
      let At : ℕ → ℕ = λ r. place_in rows r k in
      let After : ℕ → ℕ = λ r. place_in (rows ++ no_places ∷ []) r k in
      elim (eqb_tells m l) as (λ _. place_by (set row_of l (length rows)) (rows ++ no_places ∷ []) v ≡ place_by row_of rows v) [
        | inl p ↦ ap After (opened m p.1) ∙ place-new rows k ∙ sym (ap At (ap (row_in row_of) p.1 ∙ none) ∙ place-past rows 255 k (omega (arith, few)))
        | inr p ↦ ap After (row-other row_of l (length rows) m p.1) ∙ elim (tables.within m) as (λ _. After (row_in row_of m) ≡ At (row_in row_of m)) [
          | inl h ↦ ap After h ∙ place-past (rows ++ no_places ∷ []) 255 k (omega (arith, few, more)) ∙ sym (ap At h ∙ place-past rows 255 k (omega (arith, few)))
          | inr h ↦ place-old rows (row_in row_of m) k h
        ]
      ]

  open-sizes : (r : ℕ) → r < length (rows ++ no_places ∷ []) → length (get_or (rows ++ no_places ∷ []) r []) ≡ 256
  open-sizes r h = elim (eqb_tells r (length rows)) as (λ _. length (get_or (rows ++ no_places ∷ []) r []) ≡ 256) [
    | inl p ↦ ap (λ i. length (get_or (rows ++ no_places ∷ []) i [])) p.1 ∙ (ap length (get_or-append_seam rows no_places [] []) ∙ row-size)
    | inr p ↦ (let within : r < length rows = (let more = longer in let other = p.1 in omega (arith, h, more, other)) in ap length (get_or_append_left rows (no_places ∷ []) [] r within) ∙ tables.sizes r within)
  ]

  open-within : (m : ℕ) → (row_in (set row_of l (length rows)) m ≡ 255) ⊎ (row_in (set row_of l (length rows)) m < length (rows ++ no_places ∷ []))
  open-within m =
      let more = longer in
      elim (eqb_tells m l) [
        | inl p ↦ inr (let new = opened m p.1 in omega (arith, new, more))
        | inr p ↦ (let old = row-other row_of l (length rows) m p.1 in elim (tables.within m) [ inl h ↦ inl (old ∙ h) | inr h ↦ inr (omega (arith, old, h, more)) ])
      ]

  open-own : (x y : ℕ) → row_in (set row_of l (length rows)) x < length (rows ++ no_places ∷ []) → row_in (set row_of l (length rows)) y ≡ row_in (set row_of l (length rows)) x → y ≡ x
  open-own x y h e =
      let more = longer in
      elim (eqb_tells x l) [
        | inl p ↦ elim (eqb_tells y l) [
          | inl q ↦ q.1 ∙ sym p.1
          | inr q ↦ (let new = opened x p.1 in let old = row-other row_of l (length rows) y q.1 in
              elim (tables.within y) [ inl a ↦ absurd (omega (arith, new, old, e, a, few)) | inr a ↦ absurd (omega (arith, new, old, e, a)) ])
        ]
        | inr p ↦ (let old = row-other row_of l (length rows) x p.1 in elim (eqb_tells y l) [
          | inl q ↦ (let new = opened y q.1 in
              elim (tables.within x) [ inl a ↦ absurd (omega (arith, new, old, e, a, few)) | inr a ↦ absurd (omega (arith, new, old, e, a)) ])
          | inr q ↦ (let other = row-other row_of l (length rows) y q.1 in
              elim (tables.within x) [ inl a ↦ absurd (omega (arith, old, a, h, more, few)) | inr a ↦ tables.own x y a (sym other ∙ e ∙ old) ])
        ])
      ]

  -- and each logical subsystem has a row of its own, or none
  pub open-tables : AreTables (set row_of l (length rows)) (rows ++ no_places ∷ [])
  open-tables = record { size = length-set row_of l (length rows) ∙ tables.size; sizes = open-sizes; within = open-within; own = open-own }

-- the rows with a place set
abbrev pub with_place : List (List ℕ) → ℕ → ℕ → ℕ → List (List ℕ)
with_place rows r k n = set rows r (set (get_or rows r []) k n)

module _ (row_of : List ℕ) (rows : List (List ℕ)) (tables : AreTables row_of rows) where
  place-set : (r k n s j : ℕ) → r < length rows → k < 256 → place_in (with_place rows r k n) s j ≡ cond (eqb s r && eqb j k) n (place_in rows s j)
  unfolding place_in
  place-set r k n s j within low =
      let own : length (get_or rows r []) ≡ 256 = tables.sizes r within in
      grind (arith, nat_tests, get_or-set_at, get_or-set_other)

  place-tables : (r k n : ℕ) → r < length rows → AreTables row_of (with_place rows r k n)
  place-tables r k n within =
      let more = length-set rows r (set (get_or rows r []) k n) in
      record {
        size = tables.size;
        sizes = λ s h. (let own : length (get_or rows r []) ≡ 256 = tables.sizes r within in let other : length (get_or rows s []) ≡ 256 = tables.sizes s (omega (arith, h, more)) in grind (arith, nat_tests, get_or-set_at, get_or-set_other, length-set));
        within = λ m. elim (tables.within m) [ inl h ↦ inl h | inr h ↦ inr (omega (arith, h, more)) ];
        own = λ x y h e. tables.own x y (omega (arith, h, more)) e;
      }

  -- the tests of row and low byte are one of the identifier
  same_place : (v w : ℕ) → row_in row_of (v / 256) < length rows → (eqb (row_in row_of (w / 256)) (row_in row_of (v / 256)) && eqb (w % 256) (v % 256)) ≡ eqb w v
  same_place v w within = elim (eqb_tells w v) [
    | inl p ↦ (let P : ℕ → Type 0 = λ x. (eqb (row_in row_of (x / 256)) (row_in row_of (v / 256)) && eqb (x % 256) (v % 256)) ≡ eqb x v in subst P (sym p.1) (grind (arith, nat_tests)))
    | inr p ↦ elim (eqb_tells (w / 256) (v / 256)) [
      | inl q ↦ (let low : w % 256 ≢ v % 256 = (let no = p.1 in let high = q.1 in omega (arith, no, high)) in grind (arith, nat_tests))
      | inr q ↦ (let other : row_in row_of (w / 256) ≢ row_in row_of (v / 256) = λ e. q.1 (tables.own (v / 256) (w / 256) within e) in grind (arith, nat_tests))
    ]
  ]

  place-found : (v n w : ℕ) → row_in row_of (v / 256) < length rows → place_by row_of (with_place rows (row_in row_of (v / 256)) (v % 256) n) w ≡ cond (eqb w v) n (place_by row_of rows w)
  place-found v n w within =
      place-set (row_in row_of (v / 256)) (v % 256) n (row_in row_of (w / 256)) (w % 256) within (omega arith)
      ∙ ap (λ b. cond b n (place_by row_of rows w)) (same_place v w within)

-- the place with one more volume
place-pushed : (entries : List VolumeEntry) (e : VolumeEntry) (v : ℕ) → position (λ (x : VolumeEntry). eqb x.id e.id) entries ≡ None → cond (eqb v e.id) (length entries) (unwrap_or (position (λ (x : VolumeEntry). eqb x.id v) entries) 255) ≡ unwrap_or (position (λ (x : VolumeEntry). eqb x.id v) (entries ++ e ∷ [])) 255
place-pushed entries e v absent = rw (position-push (λ (x : VolumeEntry). eqb x.id v) entries e) (by (eqb_tells v e.id))
  where
    place : ℕ → Option ℕ
    place v = position (λ (x : VolumeEntry). eqb x.id v) entries

    by : ((eqb v e.id ≡ true) × (v ≡ e.id)) ⊎ ((eqb v e.id ≡ false) × (v ≢ e.id)) → cond (eqb v e.id) (length entries) (unwrap_or (place v) 255) ≡ unwrap_or (option_or (place v) (cond (eqb e.id v) (Some (length entries)) None)) 255
    by (inl p) =
        let there : eqb e.id v ≡ true = (let same = p.1 in grind (arith, nat_tests)) in
        let free : place v ≡ None = ap place p.1 ∙ absent in
        rw (p.0, there, free) refl
    by (inr p) =
        let gone : eqb e.id v ≡ false = (let other = p.1 in grind (arith, nat_tests)) in
        rw (p.0, gone, or-none (place v)) refl

-- one more volume, whose logical subsystem has a row
pub kept-added : (entries : List VolumeEntry) (row_of : List ℕ) (rows : List (List ℕ)) (e : VolumeEntry) → length entries < 64 → position (λ (x : VolumeEntry). eqb x.id e.id) entries ≡ None → length rows ≤ length entries + 1 → AreTables row_of rows → row_in row_of (e.id / 256) < length rows → ((v : ℕ) → v < 65536 → place_by row_of rows v ≡ unwrap_or (position (λ (x : VolumeEntry). eqb x.id v) entries) 255) → IsKeptList (entries ++ e ∷ []) row_of (with_place rows (row_in row_of (e.id / 256)) (e.id % 256) (length entries))
kept-added entries row_of rows e few absent few_rows tables within finds =
    let longer = length-append entries (e ∷ []) in
    let same = length-set rows (row_in row_of (e.id / 256)) (set (get_or rows (row_in row_of (e.id / 256)) []) (e.id % 256) (length entries)) in
    record {
      few = omega (arith, few, longer);
      few_rows = omega (arith, few_rows, longer, same);
      tables = place-tables row_of rows tables (row_in row_of (e.id / 256)) (e.id % 256) (length entries) within;
      finds = λ v low. place-found row_of rows tables e.id (length entries) v within
          ∙ (ap (cond (eqb v e.id) (length entries)) (finds v low) ∙ place-pushed entries e v absent);
    }

-- no volumes
pub kept-empty : IsKeptList [] no_places []
unfolding row_in place_in no_places
kept-empty = record {
  few = omega arith;
  few_rows = omega arith;
  tables = record {
    size = row-size;
    sizes = λ r h. absurd (omega arith);
    within = λ l. inl (copies 256 255 l);
    own = λ l m h e. absurd (omega arith);
  };
  finds = λ v low. refl;
}

-- the place that the tables say has the entry
pub entry-by-place : (p : VolumeEntry → Bool) (entries : List VolumeEntry) (place : ℕ) → length entries ≤ 64 → place ≡ unwrap_or (position p entries) 255 → slice_get entries place ≡ find p entries
entry-by-place p entries place few is = elim (either (position p entries)) [
  | inl d ↦ (let f = found-at p entries d.0 d.1 in ap (slice_get entries) (is ∙ ap (λ (o : Option ℕ). unwrap_or o 255) d.1) ∙ (f.1 ∙ sym f.2))
  | inr h ↦ ap (slice_get entries) (is ∙ ap (λ (o : Option ℕ). unwrap_or o 255) h) ∙ (slice_get_past entries 255 (omega (arith, few)) ∙ sym (none-found p entries h))
]

-- if both vectors have room, the first has
pub has-room : (a b x y : ℕ) → (ltb a b && ltb x y) ≡ true → a < b
has-room a b x y h = grind (arith, nat_tests)
