-- A comparison of two volumes changes nothing; of volumes that are no targets it goes by the host writes of the journal.
use Rattle.std.proofs.Common.{ℕ, zero, suc, ◌≡◌, ◌<◌, ◌+◌, refl, ap, ◌∙◌, subst, Bool, true, false, cond, not, List, [], ◌∷◌, Option, Some, None, arith}
use Rattle.std.proofs.lemmas.Bool.{not-true, eqb-true}
use Rattle.std.specs.List.{find, range_with_len}
use Rattle.std.specs.Str.{bytes_eq}
use Rattle.dr_ids.specs.declared.refusal.Refusal.{Refusal}
use Rattle.dr_model.specs.Contents.{image_at}
use Rattle.dr_model.specs.Control.{Control, World}
use Rattle.dr_model.specs.Carry.{Pass, End, Entry, go, carry, check}
use Rattle.dr_model.specs.Entries.{is_running, share_size, is_no_target}
use Rattle.dr_model.specs.PairEntries.{end_if, refuse_if, first_differing, differs_at}
use Rattle.dr_model.specs.Plans.{is_defined, compare_plan}
use Rattle.dr_model.specs.Laws.{Sound}
use Rattle.dr_model.specs.Allowed.{Runs}
use Rattle.dr_laws_sound.proofs.Agree.{contents-image}

-- ---- nothing changes

checks-same : (w : World) (ok : Control → Bool) (r : Refusal) (ds : List Entry) → (carry w ds).0 ≡ w → (carry w (check ok r ∷ ds)).0 ≡ w
unfolding carry
checks-same w ok r ds rest = by (ok w.control)
  where
    by : (b : Bool) → (go w (cond b Pass (End r)) (λ v. carry v ds)).0 ≡ w
    by true = rest
    by false = refl

refuses-same : (w : World) (why : Control → Option Refusal) → (carry w (refuse_if why ∷ [])).0 ≡ w
unfolding carry
refuses-same w why = by (why w.control)
  where
    by : (o : Option Refusal) → (go w (end_if o) (λ v. (v, None))).0 ≡ w
    by None = refl
    by (Some r) = refl

pub compare-same : (w : World) (contents : ℕ → ℕ → List ℕ) (v u : ℕ) → (carry w (compare_plan w.control contents v u).entries).0 ≡ w
compare-same w contents v u =
    checks-same w (is_defined v) _ _ (checks-same w (is_defined u) _ _ (checks-same w (is_running v) _ _ (checks-same w (is_running u) _ _ (checks-same w (share_size v u) _ _
    (refuses-same w (differs_at (first_differing contents (w.control.volume v).tracks v u)))))))

-- ---- by host writes

-- after a check entries need to lead to the same only where it passes
pub under-check : (w : World) (ok : Control → Bool) (r : Refusal) (ds es : List Entry) → (ok w.control ≡ true → carry w ds ≡ carry w es) → carry w (check ok r ∷ ds) ≡ carry w (check ok r ∷ es)
unfolding carry
under-check w ok r ds es rest = by (ok w.control) refl
  where
    by : (b : Bool) → ok w.control ≡ b → go w (cond b Pass (End r)) (λ v. carry v ds) ≡ go w (cond b Pass (End r)) (λ v. carry v es)
    by true is = rest is
    by false is = refl

-- the first number at which one of two tests holds that agree is that of the other
pub same-found : (f g : ℕ → Bool) (n b : ℕ) → ((q : ℕ) → q < b + n → f q ≡ g q) → find f (range_with_len b n) ≡ find g (range_with_len b n)
same-found f g zero b same = refl
same-found f g (suc n) b same =
    ap (λ t. cond t (Some b) (find f (range_with_len (b + 1) n))) (same b (omega arith))
    ∙ ap (λ o. cond (g b) (Some b) o) (same-found f g n (b + 1) (λ q lt. same q (omega arith)))

module _ (w : World) (s : Sound w) (v u : ℕ) (plain : is_no_target v w.control ≡ true) (other : is_no_target u w.control ≡ true) where
  abbrev n : ℕ
  n = (w.control.volume v).tracks

  pub same-differing : Runs w v → Runs w u → share_size v u w.control ≡ true → first_differing w.contents n v u ≡ first_differing (image_at w.events) n v u
  same-differing on runs size =
      same-found (λ t. not (bytes_eq (w.contents v t) (w.contents u t))) (λ t. not (bytes_eq (image_at w.events v t) (image_at w.events u t))) n 0 (λ t lt.
      let low : t < n = omega arith in
      let tracks : n ≡ (w.control.volume u).tracks = eqb-true n (w.control.volume u).tracks size in
      (λ i. not (bytes_eq (contents-image w s v t low on (not-true _ plain) i) (contents-image w s u t (subst (λ m. t < m) tracks low) runs (not-true _ other) i))))

  pub compare-image : carry w (compare_plan w.control w.contents v u).entries ≡ carry w (compare_plan w.control (image_at w.events) v u).entries
  compare-image =
      under-check w (is_defined v) _ _ _ (λ there. under-check w (is_defined u) _ _ _ (λ too. under-check w (is_running v) _ _ _ (λ on. under-check w (is_running u) _ _ _ (λ runs. under-check w (share_size v u) _ _ _ (λ size.
      ap (λ o. carry w (refuse_if (differs_at o) ∷ [])) (same-differing on runs size))))))
