-- The lines of tracks.
use Rattle.std.proofs.Common.{◌≡◌, ℕ, ◌+◌, false, List, [], ◌∷◌, ◌++◌, length, map, refl, ap, sym, ◌∙◌, subst, arith, append_assoc, append-nil, ◌==◌}
use Rattle.std.specs.Prelude.{codes}
use Rattle.std.specs.Fmt.{decimal}
use Rattle.std.specs.List.{flat_map, range_with_len}
use Rattle.std.proofs.lemmas.Grind.{flat_map-append}
use Rattle.std.proofs.lemmas.List.Folds.{flat_map-map}
use Rattle.std.proofs.lemmas.List.FromFn.{map-range_with_len_more}
use Rattle.dr_ids.specs.Spelling.{hex4}
use Rattle.dr_model.specs.LineText.{bytes_text, spaced}
use Rattle.dr_model.specs.Offline.{bytes_line}
use Rattle.dr_model.specs.PlantImage.{ended}
use Rattle.dr_facts.proofs.Texts.{ended-append}

-- the line of a track that isn't all zero
pub track-line : (v t : ℕ) (seen bytes : List ℕ) → seen ≡ bytes → (length seen == 0) ≡ false → bytes_line v t bytes ≡ (codes "track" ++ spaced (hex4 v ∷ decimal t ∷ bytes_text bytes ∷ [])) ∷ []
track-line v t [] bytes is some = absurd cc
track-line v t (b ∷ bs) bytes is some = subst (λ x. bytes_line v t x ≡ (codes "track" ++ spaced (hex4 v ∷ decimal t ∷ bytes_text x ∷ [])) ∷ []) is refl

-- the lines of a track more
pub lines-more : (text : List ℕ) (lines : ℕ → List (List ℕ)) (n : ℕ) → (text ++ ended (flat_map lines (range_with_len 0 n))) ++ ended (lines n) ≡ text ++ ended (flat_map lines (range_with_len 0 (n + 1)))
lines-more text lines n =
    let before : List (List ℕ) = flat_map lines (range_with_len 0 n) in
    let at : 0 + n ≡ n = omega arith in
    append_assoc text (ended before) (ended (lines n)) ∙ ap (λ r. text ++ r) (sym (ended-append before (lines n)))
    ∙ ap (λ r. text ++ ended (before ++ r)) (sym (append-nil (lines n)))
    ∙ ap (λ r. text ++ ended (r ++ flat_map joined (lines n ∷ []))) (sym (flat_map-map joined lines (range_with_len 0 n)))
    ∙ ap (λ r. text ++ ended r) (sym (flat_map-append joined (map lines (range_with_len 0 n)) (lines n ∷ [])))
    ∙ ap (λ ls. text ++ ended (flat_map joined ls)) (sym (map-range_with_len_more lines 0 n n at))
    ∙ ap (λ r. text ++ ended r) (flat_map-map joined lines (range_with_len 0 (n + 1)))
  where
    joined : List (List ℕ) → List (List ℕ)
    joined ls = ls
