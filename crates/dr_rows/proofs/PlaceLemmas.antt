-- Rows by place, one row more.
use Rattle.std.proofs.Common.{◌≡◌, ℕ, ◌+◌, ◌-◌, ◌<◌, ◌≤◌, List, [], ◌∷◌, ◌++◌, length, get_or, take, drop, refl, ap, sym, ◌∙◌, arith, true, false, cond}
use Rattle.std.proofs.lemmas.List.{take_more, drop_more, drop_all, take_all, get_or-drop, length-drop}
use Rattle.dr_rows.specs.Outcome.{Outcome}
use Rattle.dr_rows.specs.Places.{joins, places, places_from}

-- the rows from one place up to another
abbrev pub between : ℕ → ℕ → List Outcome → List Outcome
between start end rows = take (end - start) (drop start rows)

-- with one row more
grown : (rows : List Outcome) (start end : ℕ) (d : Outcome) → start ≤ end → end < length rows → between start (end + 1) rows ≡ between start end rows ++ get_or rows end d ∷ []
grown rows start end d le lt =
    let more : end + 1 - start ≡ (end - start) + 1 = omega arith in
    let at : start + (end - start) ≡ end = omega arith in
    let within : end - start < length (drop start rows) = omega (arith, length-drop start rows) in
    ap (λ k. take k (drop start rows)) more
    ∙ (take_more (drop start rows) (end - start) d within
    ∙ ap (λ x. take (end - start) (drop start rows) ++ x ∷ []) (get_or-drop start rows (end - start) d ∙ ap (λ k. get_or rows k d) at))

-- the next row is in the place or it isn't
turned : (rows : List Outcome) (start end : ℕ) (d : Outcome) → end < length rows
    → places_from (between start end rows) (drop end rows)
    ≡ cond (joins (between start end rows) (get_or rows end d)) (places_from (between start end rows ++ get_or rows end d ∷ []) (drop (end + 1) rows)) (between start end rows ∷ places_from (get_or rows end d ∷ []) (drop (end + 1) rows))
turned rows start end d lt = ap (places_from (between start end rows)) (drop_more rows end d lt)

pub place-joined : (rows : List Outcome) (start end : ℕ) (d : Outcome) → start ≤ end → end < length rows → joins (between start end rows) (get_or rows end d) ≡ true
    → places_from (between start end rows) (drop end rows) ≡ places_from (between start (end + 1) rows) (drop (end + 1) rows)
place-joined rows start end d le lt is =
    let r = get_or rows end d in
    let rest = drop (end + 1) rows in
    turned rows start end d lt
    ∙ (ap (λ b. cond b (places_from (between start end rows ++ r ∷ []) rest) (between start end rows ∷ places_from (r ∷ []) rest)) is
    ∙ ap (λ here. places_from here rest) (sym (grown rows start end d le lt)))

pub place-parted : (rows : List Outcome) (start end : ℕ) (d : Outcome) → end < length rows → joins (between start end rows) (get_or rows end d) ≡ false
    → places_from (between start end rows) (drop end rows) ≡ between start end rows ∷ places_from (between end (end + 1) rows) (drop (end + 1) rows)
place-parted rows start end d lt is =
    let r = get_or rows end d in
    let rest = drop (end + 1) rows in
    let none : end - end ≡ 0 = omega arith in
    let one : between end (end + 1) rows ≡ r ∷ [] = grown rows end end d (omega arith) lt ∙ ap (λ k. take k (drop end rows) ++ r ∷ []) none in
    turned rows start end d lt
    ∙ (ap (λ b. cond b (places_from (between start end rows ++ r ∷ []) rest) (between start end rows ∷ places_from (r ∷ []) rest)) is
    ∙ ap (λ here. between start end rows ∷ places_from here rest) (sym one))

pub place-last : (rows : List Outcome) (start end : ℕ) → length rows ≤ end → places_from (between start end rows) (drop end rows) ≡ drop start rows ∷ []
place-last rows start end le =
    ap (places_from (between start end rows)) (drop_all end rows le) ∙ ap (λ here. here ∷ []) (take_all (end - start) (drop start rows) (omega (arith, length-drop start rows)))

pub place-first : (rows : List Outcome) → 0 < length rows → places_from (between 0 1 rows) (drop 1 rows) ≡ places rows
unfolding places
place-first [] some = absurd (omega arith)
place-first (r ∷ rest) some = refl
