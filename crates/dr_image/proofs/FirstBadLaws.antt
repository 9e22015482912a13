-- The line that a text is bad at is the first that can't go on the text of an image.
use Rattle.std.proofs.Common.{ℕ, ◌≡◌, ◌≢◌, ◌+◌, List, [], ◌∷◌, ◌++◌, length, take, refl, ap, ◌∙◌, sym, subst, arith, Some, None, Option, ◌⊎◌, inl, inr, append_assoc, append-nil, length-append}
use Rattle.std.specs.Prelude.{Result, Err, codes}
use Rattle.std.specs.List.{slice_split}
use Rattle.std.proofs.Math.Seq.{take-append_seam}
use Rattle.std.proofs.lemmas.List.Splits.{length-slice_split}
use Rattle.dr_model.specs.PlantImage.{Volume, IsVolume, Stage, Start, Listing, Filling, Ended, Bad, State, IsLaid, Begins, IsBadAfter, IsUnsourced, IsFirstBad, sourced, checked, finished, is_line_feed, after_line, or_bad, step, begin, reads, reading, image_lines}
use Rattle.dr_image.specs.Sound.{IsSoundVolume}
use Rattle.std.proofs.lemmas.List.Elements.{All-weaker}
use Rattle.dr_image.proofs.ReadLemmas.{reads-bad, unsourced}
use Rattle.dr_image.proofs.LineLaws.{came}
use Rattle.dr_image.proofs.ImageLaws.{IsSoFar, so_far, came-so_far, begin-so_far}
use Rattle.dr_image.proofs.RoundLaws.{after, after-append, after-bad, step-none, step-some, run-image, proper-sound}

-- what has come begins the text of what has come
ends_so : (stage : Stage) (vs : List Volume) (lines : List (List ℕ)) → lines ≡ so_far stage vs → (rest : List (List ℕ)) × (image_lines vs ≡ lines ++ rest)
ends_so Start vs lines e = (image_lines vs, ap (λ ls. ls ++ image_lines vs) (sym e))
ends_so Listing vs lines e = (codes "end" ∷ [], ap (λ ls. ls ++ codes "end" ∷ []) (sym e))
ends_so Filling vs lines e = (codes "end" ∷ [], ap (λ ls. ls ++ codes "end" ∷ []) (sym e))
ends_so Ended vs lines e = ([], sym (append-nil (image_lines vs)) ∙ ap (λ ls. ls ++ []) (sym e))
ends_so Bad vs lines e = (image_lines vs, ap (λ ls. ls ++ image_lines vs) (sym e))

laid_so : (s : State) (lines : List (List ℕ)) → IsSoFar s lines → IsLaid s.volumes
laid_so s lines i = record { few = i.few; each = i.each; apart = i.apart }

begins_so : (s : State) (lines : List (List ℕ)) → IsSoFar s lines → Begins lines
begins_so s lines i = let r = ends_so s.stage s.volumes lines i.so in record { image = s.volumes; laid = laid_so s lines i; rest = r.0; same = r.1 }

-- the lines of an image never lead to a bad state
never_bad : (vs : List Volume) → IsLaid vs → (after begin (image_lines vs)).stage ≡ Ended
never_bad vs laid =
    elim (run-image vs (All-weaker IsVolume IsSoundVolume proper-sound vs laid.each)) [
      | inl bad ↦ absurd (bad.1 laid)
      | inr good ↦ good.stage
    ]

bad_is_no_end : Bad ≡ Ended → ⊥
bad_is_no_end e = cc

-- a line that can't stand doesn't go on
goes_nowhere : (s : State) (line : List ℕ) (lines : List (List ℕ)) → after begin lines ≡ s → after_line s line ≡ None → Begins (lines ++ line ∷ []) → ⊥
goes_nowhere s line lines is none b =
    let bad : (after (step s line) b.rest).stage ≡ Bad = after-bad (step s line) b.rest (step-none s line none) in
    let way : after begin (image_lines b.image) ≡ after (step s line) b.rest =
    ap (after begin) (b.same ∙ append_assoc lines (line ∷ []) b.rest) ∙ after-append begin lines (line ∷ b.rest) ∙ ap (λ u. after (step u line) b.rest) is in
    bad_is_no_end (sym bad ∙ sym (ap (λ (u : State). u.stage) way) ∙ never_bad b.image b.laid)

last_same : (xs ys : List (List ℕ)) (x y : List ℕ) → xs ++ x ∷ [] ≡ ys ++ y ∷ [] → (xs ≡ ys) × (x ≡ y)
last_same [] [] x y e = (refl, cc)
last_same [] (b ∷ bs) x y e = let l = ap length e in let n = length-append bs (y ∷ []) in absurd (omega arith)
last_same (a ∷ xs) [] x y e = let l = ap length e in let n = length-append xs (x ∷ []) in absurd (omega arith)
last_same (a ∷ xs) (b ∷ bs) x y e =
    let head : a ≡ b = cc in
    let tail : xs ++ x ∷ [] ≡ bs ++ y ∷ [] = cc in
    let r = last_same xs bs x y tail in
    ((λ i. head i ∷ r.0 i), r.1)

-- what stands behind the last line feed is no end
no_end : (s : State) (last : List ℕ) (lines : List (List ℕ)) → after begin lines ≡ s → (s.stage ≡ Ended → last ≡ [] → ⊥) → (vs : List Volume) → IsLaid vs → lines ++ last ∷ [] ≢ image_lines vs ++ [] ∷ []
no_end s last lines is unfinished vs laid e =
    let both = last_same lines (image_lines vs) last [] e in
    unfinished (ap (λ (u : State). u.stage) (sym is) ∙ ap (λ ls. (after begin ls).stage) both.0 ∙ never_bad vs laid) both.1

abbrev FirstBad : List (List ℕ) → ℕ → Type 0
FirstBad parts n = ((good : ℕ) × (n ≡ good + 1) × IsBadAfter good parts) ⊎ ((place : ℕ) × (n ≡ place + 2) × IsUnsourced place parts)

err_is : (m n : ℕ) → ◌≡◌ {A = Result (List Volume) ℕ} (Err m) (Err n) → m ≡ n
err_is m n e = cc

at_end : (s : State) (last : List ℕ) (lines : List (List ℕ)) (n : ℕ) → IsSoFar s lines → after begin lines ≡ s → n ≡ s.line → (s.stage ≡ Ended → last ≡ [] → ⊥) → FirstBad (lines ++ last ∷ []) n
at_end s last lines n i is at unfinished =
    let c = i.count in
    let l = length-append lines (last ∷ []) in
    inl (
      length lines,
      omega arith,
      record {
        before = subst Begins (sym (take-append_seam lines (last ∷ []))) (begins_so s lines i);
        bad = inl (omega arith, no_end s last lines is unfinished);
      },
    )

unsourced_at : (vs : List Volume) (o : Option ℕ) (n : ℕ) → sourced vs o ≡ Err n → (place : ℕ) × (n ≡ place + 2) × (o ≡ Some place)
unsourced_at vs None n e = absurd (cc)
unsourced_at vs (Some p) n e = (p, sym (err_is (p + 2) n e), refl)

finished-bad : (s : State) (stage : Stage) (last : List ℕ) (lines : List (List ℕ)) (n : ℕ) → s.stage ≡ stage → IsSoFar s lines → after begin lines ≡ s → finished s stage last ≡ Err n → FirstBad (lines ++ last ∷ []) n
unfolding checked
finished-bad s Start last lines n at i is e = at_end s last lines n i is (sym (err_is s.line n e)) (λ ends empty. let c = sym at ∙ ends in cc)
finished-bad s Listing last lines n at i is e = at_end s last lines n i is (sym (err_is s.line n e)) (λ ends empty. let c = sym at ∙ ends in cc)
finished-bad s Filling last lines n at i is e = at_end s last lines n i is (sym (err_is s.line n e)) (λ ends empty. let c = sym at ∙ ends in cc)
finished-bad s Bad last lines n at i is e = at_end s last lines n i is (sym (err_is s.line n e)) (λ ends empty. let c = sym at ∙ ends in cc)
finished-bad s Ended (b ∷ bs) lines n at i is e = at_end s (b ∷ bs) lines n i is (sym (err_is s.line n e)) (λ ends empty. cc)
finished-bad s Ended [] lines n at i is e =
    let u = unsourced_at s.volumes (unsourced s.volumes) n e in
    inr (
      u.0,
      u.1,
      record {
        image = s.volumes;
        laid = laid_so s lines i;
        same = ap (λ ls. ls ++ [] ∷ []) (i.so ∙ ap (λ g. so_far g s.volumes) at);
        first = u.2;
      },
    )

one_more_taken : (lines : List (List ℕ)) (line : List ℕ) (rest : List (List ℕ)) → take (length lines + 1) (lines ++ line ∷ rest) ≡ lines ++ line ∷ []
one_more_taken lines line rest =
    let l = length-append lines (line ∷ []) in
    let n : length lines + 1 ≡ length (lines ++ line ∷ []) = omega arith in
    ap (λ k. take k (lines ++ line ∷ rest)) n ∙ ap (take (length (lines ++ line ∷ []))) (sym (append_assoc lines (line ∷ []) rest)) ∙ take-append_seam (lines ++ line ∷ []) rest

reads-first_bad : (s : State) (first : List ℕ) (others lines : List (List ℕ)) (n : ℕ) → IsSoFar s lines → after begin lines ≡ s → reads s (first ∷ others) ≡ Err n → FirstBad (lines ++ first ∷ others) n
unfolding reads step
reads-first_bad s last [] lines n i is e = finished-bad s s.stage last lines n refl i is e
reads-first_bad s line (next ∷ rest) lines n i is e =
    elim (after_line s line) as (λ o. after_line s line ≡ o → reads (or_bad s o) (next ∷ rest) ≡ Err n → FirstBad (lines ++ line ∷ next ∷ rest) n) [
      | None ↦ λ none h.
          let at : s.line ≡ n = err_is s.line n (sym (reads-bad (record s { stage = Bad }) (next ∷ rest) refl) ∙ h) in
          let c = i.count in
          let l = length-append lines (line ∷ next ∷ rest) in
          let front : take (length lines + 1) (lines ++ line ∷ next ∷ rest) ≡ lines ++ line ∷ [] = one_more_taken lines line (next ∷ rest) in
          inl (
            length lines,
            omega arith,
            record {
              before = subst Begins (sym (take-append_seam lines (line ∷ next ∷ rest))) (begins_so s lines i);
              bad = inr (omega arith, λ b. goes_nowhere s line lines is none (subst Begins front b));
            },
          )
      | Some t ↦ λ some h.
          let u : State = record t { line = s.line + 1 } in
          let way : after begin (lines ++ line ∷ []) ≡ u = after-append begin lines (line ∷ []) ∙ ap (λ x. step x line) is ∙ step-some s t line some in
          subst (λ (ps : List (List ℕ)). FirstBad ps n) (append_assoc lines (line ∷ []) (next ∷ rest))
          (reads-first_bad u next rest (lines ++ line ∷ []) n (came-so_far s t line lines i (came s t line some)) way h)
    ] refl e

reads-parts : (parts : List (List ℕ)) (n : ℕ) → length parts ≢ 0 → reads begin parts ≡ Err n → FirstBad parts n
reads-parts [] n some e = absurd (some refl)
reads-parts (first ∷ others) n some e = reads-first_bad begin first others [] n begin-so_far refl e

-- the line that a text is bad at is its first bad line
pub reading-first_bad : (text : List ℕ) (n : ℕ) → reading text ≡ Err n → IsFirstBad text n
unfolding reading
reading-first_bad text n e = reads-parts (slice_split is_line_feed text) n (λ none. let l = length-slice_split is_line_feed text in omega arith) e
