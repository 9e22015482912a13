-- Each kind of move, and the definition of a volume, leave a source few targets.
use Rattle.std.proofs.Common.{ℕ, ◌≡◌, ◌≢◌, ◌≤◌, ◌<◌, ◌+◌, inl, inr, refl, ap, sym, ◌∙◌, subst, Bool, true, false, cond, ◌&&◌, ◌||◌, nat_eq, List, [], ◌∷◌, ◌++◌, length, filter, arith}
use Rattle.std.proofs.lemmas.Bool.{and_parts, or_parts, eqb-true, eq-eqb, ne_eqb}
use Rattle.std.proofs.lemmas.Bool.Decides.{eqb_tells}
use Rattle.std.specs.List.{list_any}
use Rattle.std.proofs.lemmas.List.Folds.{list_any-append}
use Rattle.dr_logic.specs.Tables.{at}
use Rattle.dr_model.specs.Limits.{most_targets}
use Rattle.dr_model.specs.Control.{Control, Volume, new_volume}
use Rattle.dr_model.specs.Relations.{is_bare, turned, given_up}
use Rattle.dr_model.specs.Moves.{Move, Overwrite, Keep, Relate, Withdraw, Fetch, Reverse, Release, Carried, target, fields_left, keeps_staged, moved_keeping}
use Rattle.dr_model.specs.Entries.{copies_from, fields_at}
use Rattle.dr_model.specs.Laws.{Once, FewTargets}
use Rattle.dr_model.specs.Allowed.{Fits}
use Rattle.dr_facts.proofs.Tables.{at_cases}
use Rattle.dr_logic.proofs.Truth.{false_true}

-- fewer pass a narrower test
kept-by : (a b : Bool) (x : ℕ) (ys zs : List ℕ) → (a ≡ true → b ≡ true) → length ys ≤ length zs → length (cond a (x ∷ ys) ys) ≤ length (cond b (x ∷ zs) zs)
kept-by true true x ys zs h le = omega arith
kept-by true false x ys zs h le = false_true refl (h refl)
kept-by false true x ys zs h le = omega arith
kept-by false false x ys zs h le = le

module _ (p q : ℕ → Bool) where
  pub fewer : ((u : ℕ) → p u ≡ true → q u ≡ true) → (xs : List ℕ) → length (filter p xs) ≤ length (filter q xs)
  fewer h [] = omega arith
  fewer h (x ∷ xs) = kept-by (p x) (q x) x (filter p xs) (filter q xs) (h x) (fewer h xs)

  -- where one number may pass more, which comes at most once
  module _ (n : ℕ) (h : (u : ℕ) → u ≢ n → p u ≡ true → q u ≡ true) where
    without : (xs : List ℕ) → list_any (nat_eq n) xs ≡ false → length (filter p xs) ≤ length (filter q xs)
    without [] none = omega arith
    without (x ∷ xs) none =
        let both = or_parts (nat_eq n x) (list_any (nat_eq n) xs) none in
        kept-by (p x) (q x) x (filter p xs) (filter q xs) (h x (λ e. false_true both.0 (eq-eqb n x (sym e)))) (without xs both.1)

    added : (a b : Bool) (x : ℕ) (ys zs : List ℕ) → length ys ≤ length zs → length (cond a (x ∷ ys) ys) ≤ length (cond b (x ∷ zs) zs) + 1
    added true true x ys zs le = omega arith
    added true false x ys zs le = omega arith
    added false true x ys zs le = omega arith
    added false false x ys zs le = omega arith

    more : (a b : Bool) (x : ℕ) (ys zs : List ℕ) → (a ≡ true → b ≡ true) → length ys ≤ length zs + 1 → length (cond a (x ∷ ys) ys) ≤ length (cond b (x ∷ zs) zs) + 1
    more true true x ys zs h le = omega arith
    more true false x ys zs h le = false_true refl (h refl)
    more false true x ys zs h le = omega arith
    more false false x ys zs h le = le

    one-more : (xs : List ℕ) → Once xs → length (filter p xs) ≤ length (filter q xs) + 1
    one-more [] once = omega arith
    one-more (x ∷ xs) once = elim (eqb_tells x n) [
      | inl is ↦ added (p x) (q x) x (filter p xs) (filter q xs) (without xs (ap (λ j. list_any (nat_eq j) xs) (sym is.1) ∙ once.0))
      | inr not ↦ more (p x) (q x) x (filter p xs) (filter q xs) (h x not.1) (one-more xs once.1)
    ]

-- a relationship that stands still stood
pub parted-copies : (e related : Bool) (o v : ℕ) → (cond e false related && nat_eq (cond e 0 o) v) ≡ true → (related && nat_eq o v) ≡ true
parted-copies true related o v h = absurd cc
parted-copies false related o v h = h

module _ (k : Control) (old : FewTargets k) where
  abbrev counted : (ℕ → Volume) → ℕ → ℕ
  counted volume v = length (filter (λ u. copies_from v (volume u).fields) k.volumes)

  -- no relationship with source v is new
  else : (x : ℕ) (y : Volume) (v : ℕ) → (copies_from v y.fields ≡ true → copies_from v (fields_at k x) ≡ true) → counted (at k.volume x y) v ≤ most_targets
  else x y v still =
      let le : counted (at k.volume x y) v ≤ counted k.volume v =
      fewer (λ u. copies_from v (at k.volume x y u).fields) (λ u. copies_from v (k.volume u).fields)
      (at_cases (λ u (z : Volume). copies_from v z.fields ≡ true → copies_from v (fields_at k u) ≡ true) k.volume x y still (λ q ne h. h)) k.volumes in
      let few : counted k.volume v ≤ most_targets = old.few v in omega arith

  -- or one is
  here : (x v : ℕ) (y : Volume) → counted k.volume v < most_targets → counted (at k.volume x y) v ≤ most_targets
  here x v y fits =
      let le : counted (at k.volume x y) v ≤ counted k.volume v + 1 =
      one-more (λ u. copies_from v (at k.volume x y u).fields) (λ u. copies_from v (k.volume u).fields) x
      (at_cases (λ u (z : Volume). u ≢ x → copies_from v z.fields ≡ true → copies_from v (fields_at k u) ≡ true) k.volume x y (λ ne. absurd (ne refl)) (λ q ne r h. h)) k.volumes old.once in
      omega arith

  no-more : (x : ℕ) (y : Volume) → ((v : ℕ) → copies_from v y.fields ≡ true → copies_from v (fields_at k x) ≡ true) → (v : ℕ) → counted (at k.volume x y) v ≤ most_targets
  no-more x y still v = else x y v (still v)

  one-new : (x s : ℕ) (y : Volume) → y.fields.source ≡ s → counted k.volume s < most_targets → (v : ℕ) → counted (at k.volume x y) v ≤ most_targets
  one-new x s y is fits v = elim (eqb_tells s v) [
    | inl same ↦ subst (λ v. counted (at k.volume x y) v ≤ most_targets) same.1 (here x s y fits)
    | inr not ↦ else x y v (λ h. absurd (not.1 (sym is ∙ eqb-true y.fields.source v (and_parts _ _ h).1)))
  ]

  pub few-after : (m : Move) (c : Carried) → Fits k m → (v : ℕ) → counted (at k.volume (target m) (moved_keeping (keeps_staged m) (k.volume (target m)) (fields_left m (k.volume (target m))) c)) v ≤ most_targets
  few-after (Relate x s choices) c fits = one-new x s _ refl fits
  few-after (Overwrite n x t) c fits = let u : Volume = k.volume x in no-more x _ (λ v. parted-copies _ u.fields.related u.fields.source v)
  few-after (Keep x t) c fits = let u : Volume = k.volume x in no-more x _ (λ v. parted-copies _ u.fields.related u.fields.source v)
  few-after (Fetch x t) c fits = let u : Volume = k.volume x in no-more x _ (λ v. parted-copies _ u.fields.related u.fields.source v)
  few-after (Withdraw x) c fits = let u : Volume = k.volume x in no-more x _ (λ v. parted-copies true u.fields.related u.fields.source v)
  few-after (Reverse x left) c fits = let u : Volume = k.volume x in no-more x _ (λ v. parted-copies (is_bare (turned u.fields).own) u.fields.related u.fields.source v)
  few-after (Release x t) c fits = let u : Volume = k.volume x in no-more x _ (λ v. parted-copies (is_bare (given_up u.fields t).own) u.fields.related u.fields.source v)
  few-after m c fits = no-more (target m) _ (λ v h. h)

  -- a volume is defined, which is no target
  once-new : (v : ℕ) (xs : List ℕ) → Once xs → list_any (nat_eq v) xs ≡ false → Once (xs ++ v ∷ [])
  once-new v [] once none = (refl, tt)
  once-new v (x ∷ xs) once none =
      let both = or_parts (nat_eq v x) (list_any (nat_eq v) xs) none in
      (list_any-append (nat_eq x) xs (v ∷ []) ∙ (λ i. once.0 i || (ne_eqb x v (λ e. false_true both.0 (eq-eqb v x (sym e))) i || false)), once-new v xs once.1 both.1)

  filter-new : (p : ℕ → Bool) (v : ℕ) (xs : List ℕ) → p v ≡ false → filter p (xs ++ v ∷ []) ≡ filter p xs
  filter-new p v [] h = ap (λ b. cond b (v ∷ []) []) h
  filter-new p v (x ∷ xs) h = ap (λ ys. cond (p x) (x ∷ ys) ys) (filter-new p v xs h)

  pub few-defined : (v server tracks : ℕ) → list_any (nat_eq v) k.volumes ≡ false → FewTargets (record k { volumes = k.volumes ++ v ∷ []; volume = at k.volume v (new_volume server tracks) })
  few-defined v server tracks none = record {
    once = once-new v k.volumes old.once none;
    few = λ s. subst (λ (xs : List ℕ). length xs ≤ most_targets)
        (sym (filter-new (λ u. copies_from s (at k.volume v (new_volume server tracks) u).fields) v k.volumes (at_new s)))
        (no-more v (new_volume server tracks) (λ s h. absurd cc) s);
  }
    where
      at_new : (s : ℕ) → copies_from s (at k.volume v (new_volume server tracks) v).fields ≡ false
      at_new s = ap (λ b. copies_from s (cond b (new_volume server tracks) (k.volume v)).fields) (eq-eqb v v refl)
