-- Lines of the plan's own among others.
use Rattle.std.proofs.Common.{ℕ, ◌≡◌, ◌+◌, List, [], ◌∷◌, ◌++◌, length, map, filter, refl, ap, sym, ◌∙◌, subst, arith, append_assoc, true, false, not, cond, nat_lt, Option, Some, None, ◌⊎◌, inl, inr}
use Rattle.std.specs.Prelude.{Ok, Err, nat_eq, take, codes}
use Rattle.std.specs.Cmp.Lexicographic.{pointwise}
use Rattle.std.proofs.lemmas.Bool.{and_parts, cases_Bool}
use Rattle.std.proofs.lemmas.Bool.Decides.{nat_tests}
use Rattle.std.proofs.lemmas.List.{append-nil, map-append}
use Rattle.std.proofs.lemmas.List.Elements.{filter-append}
use Rattle.dr_model.specs.declared.step.Step.{Step}
use Rattle.dr_model.specs.Grammar.{line_of, begins_comment, words_read, most_bytes}
use Rattle.dr_model.specs.LineWords.{line_words}
use Rattle.dr_plan.specs.declared.marks.Mark.{Mark}
use Rattle.dr_plan.specs.declared.marks.Mark.TheVariants.{Lose, Use, AtMost, Here, Then, Refused}
use Rattle.dr_plan.specs.Marks.{is_mark, mark_of}
use Rattle.dr_plan.specs.Parts.{IsMark, is_structural, marks_in, announced_by, announced_from, StandsAfter}
use Rattle.dr_plan.specs.Reading.{announces}

-- ---- they are comments

begins : (line : List ℕ) → is_mark line ≡ true → begins_comment line ≡ true
begins [] e = absurd cc
begins (b ∷ bs) e = let first = (and_parts (nat_eq 35 b) (pointwise nat_eq (codes "sweep") (take 5 bs)) e).0 in grind (arith, nat_tests, first)

pub own-comment : (line : List ℕ) → is_mark line ≡ true → line_of line ≡ Ok []
unfolding line_of
own-comment line e = ap (λ b. cond b (Ok []) (cond (nat_lt most_bytes (length line)) (Err (most_bytes + 1)) (words_read (length line + 1) (line_words line)))) (begins line e)

-- so a line with a step is none
pub step-plain : (line : List ℕ) (step : Step) (steps : List Step) → line_of line ≡ Ok (step ∷ steps) → is_mark line ≡ false
step-plain line step steps h = by (cases_Bool (is_mark line))
  where
    by : (is_mark line ≡ true) ⊎ (is_mark line ≡ false) → is_mark line ≡ false
    by (inl e) = let both : Ok [] ≡ Ok (step ∷ steps) = sym (own-comment line e) ∙ h in absurd cc
    by (inr e) = e

-- ---- what they say

pub marks-append : (a b : List (List ℕ)) → marks_in (a ++ b) ≡ marks_in a ++ marks_in b
marks-append a b =
    ap (filter is_structural) (ap (map mark_of) (filter-append is_mark a b) ∙ map-append mark_of (filter is_mark a) (filter is_mark b))
    ∙ filter-append is_structural (map mark_of (filter is_mark a)) (map mark_of (filter is_mark b))

-- a line that says nothing but an announcement
pub none-more : (done : List (List ℕ)) (line : List ℕ) → marks_in (line ∷ []) ≡ [] → marks_in (done ++ line ∷ []) ≡ marks_in done
none-more done line none = marks-append done (line ∷ []) ∙ ap (λ ms. marks_in done ++ ms) none ∙ append-nil (marks_in done)

pub plain-none : (line : List ℕ) → is_mark line ≡ false → marks_in (line ∷ []) ≡ []
plain-none line e = ap (λ b. filter is_structural (map mark_of (cond b (line ∷ []) []))) e

pub own-said : (line : List ℕ) (said : Option Mark) → is_mark line ≡ true → mark_of line ≡ said → marks_in (line ∷ []) ≡ cond (is_structural said) (said ∷ []) []
own-said line said e is = ap (λ b. filter is_structural (map mark_of (cond b (line ∷ []) []))) e ∙ ap (λ m. cond (is_structural m) (m ∷ []) []) is

pub refused-none : (line : List ℕ) → IsMark line Refused → marks_in (line ∷ []) ≡ []
refused-none line m = own-said line (Some Refused) m.0 m.1

pub own-more : (line : List ℕ) (mark : Mark) → announces mark ≡ false → IsMark line mark → marks_in (line ∷ []) ≡ Some mark ∷ []
own-more line mark e m = own-said line (Some mark) m.0 m.1 ∙ ap (λ b. cond (not b) (Some mark ∷ []) []) e

-- a line in which nothing is said says no such mark
pub none-said : {P : Type 0} (line : List ℕ) (mark : Mark) → announces mark ≡ false → marks_in (line ∷ []) ≡ [] → IsMark line mark → P
none-said line mark e none m = let both : Some mark ∷ [] ≡ [] = sym (own-more line mark e m) ∙ none in absurd cc

-- what a line is
pub data Kind (line : List ℕ) : Type 0 where
  Plain : is_mark line ≡ false → marks_in (line ∷ []) ≡ [] → Kind line
  Announces : IsMark line Refused → marks_in (line ∷ []) ≡ [] → Kind line
  Says : (mark : Mark) → IsMark line mark → announces mark ≡ false → marks_in (line ∷ []) ≡ Some mark ∷ [] → Kind line
  Nothing : is_mark line ≡ true → mark_of line ≡ None → marks_in (line ∷ []) ≡ None ∷ [] → Kind line

pub only-refused : (mark : Mark) → announces mark ≡ true → mark ≡ Refused
only-refused (Lose servers) e = absurd cc
only-refused (Use name first second) e = absurd cc
only-refused (AtMost n) e = absurd cc
only-refused Here e = absurd cc
only-refused Then e = absurd cc
only-refused Refused e = refl

pub kind-of : (line : List ℕ) → Kind line
kind-of line = by (cases_Bool (is_mark line))
  where
    says : (mark : Mark) → is_mark line ≡ true → mark_of line ≡ Some mark → (announces mark ≡ true) ⊎ (announces mark ≡ false) → Kind line
    says mark e is (inl a) = let m : IsMark line Refused = (e, is ∙ ap Some (only-refused mark a)) in Announces m (refused-none line m)
    says mark e is (inr a) = Says mark (e, is) a (own-more line mark a (e, is))

    said : (said : Option Mark) → is_mark line ≡ true → mark_of line ≡ said → Kind line
    said None e is = Nothing e is (own-said line None e is)
    said (Some mark) e is = says mark e is (cases_Bool (announces mark))

    by : (is_mark line ≡ true) ⊎ (is_mark line ≡ false) → Kind line
    by (inl e) = said (mark_of line) e refl
    by (inr e) = Plain e (plain-none line e)

-- ---- lists that are cut

-- the last one of a list is the one that is cut out, or comes after it
pub split-end : {A : Type 0} (xs : List A) (x : A) (above : List A) (y : A) (below : List A) → xs ++ x ∷ [] ≡ above ++ y ∷ below
    → ((above ≡ xs) × (y ≡ x)) ⊎ ((rest : List A) × (xs ≡ above ++ y ∷ rest) × (below ≡ rest ++ x ∷ []))
split-end [] x [] y [] e = inl (refl, cc)
split-end [] x [] y (b ∷ below) e = absurd cc
split-end [] x (a ∷ []) y below e = absurd cc
split-end [] x (a ∷ b ∷ above) y below e = absurd cc
split-end (z ∷ xs) x [] y below e = inr (xs, cc, cc)
split-end {A = A} (z ∷ xs) x (a ∷ above) y below e = by (split-end xs x above y below (let tail : xs ++ x ∷ [] ≡ above ++ y ∷ below = cc in tail))
  where
    same : a ≡ z
    same = cc

    by : ((above ≡ xs) × (y ≡ x)) ⊎ ((rest : List A) × (xs ≡ above ++ y ∷ rest) × (below ≡ rest ++ x ∷ []))
        → ((a ∷ above ≡ z ∷ xs) × (y ≡ x)) ⊎ ((rest : List A) × (z ∷ xs ≡ a ∷ above ++ y ∷ rest) × (below ≡ rest ++ x ∷ []))
    by (inl p) = inl ((λ i. same i ∷ p.0 i), p.1)
    by (inr p) = inr (p.0, (λ i. sym same i ∷ p.1 i), p.2)

-- a line more: what stands after lines is the new one, or stood there
pub after-more : (done : List (List ℕ)) (line : List ℕ) (above : List (List ℕ)) (mark : Mark) → StandsAfter (done ++ line ∷ []) above mark → ((above ≡ done) × IsMark line mark) ⊎ StandsAfter done above mark
after-more done line above mark s = by (split-end done line above s.0 s.1 s.2)
  where
    by : ((above ≡ done) × (s.0 ≡ line)) ⊎ ((rest : List (List ℕ)) × (done ≡ above ++ s.0 ∷ rest) × (s.1 ≡ rest ++ line ∷ [])) → ((above ≡ done) × IsMark line mark) ⊎ StandsAfter done above mark
    by (inl p) = inl (p.0, subst (λ l. IsMark l mark) p.1 s.3)
    by (inr p) = inr (s.0, p.0, p.1, s.3)

-- ---- announcements

pub announced-more : (number k : ℕ) (done : List (List ℕ)) (line : List ℕ) → k ≡ number + length done → announced_from number (done ++ line ∷ []) ≡ announced_from number done ++ announced_by k (is_mark line) (mark_of line)
unfolding announced_from
announced-more number k [] line e = append-nil (announced_by number (is_mark line) (mark_of line)) ∙ ap (λ n. announced_by n (is_mark line) (mark_of line)) (let same : number ≡ k = omega arith in same)
announced-more number k (first ∷ done) line e =
    ap (λ ns. announced_by number (is_mark first) (mark_of first) ++ ns) (announced-more (number + 1) k done line (omega arith))
    ∙ sym (append_assoc (announced_by number (is_mark first) (mark_of first)) (announced_from (number + 1) done) (announced_by k (is_mark line) (mark_of line)))

pub announced-same : (number : ℕ) (line : List ℕ) (said : Option Mark) → is_mark line ≡ true → mark_of line ≡ said → announced_by number (is_mark line) (mark_of line) ≡ announced_by number true said
announced-same number line said e is = λ i. announced_by number (e i) (is i)

pub announced-none : (number : ℕ) (mark : Mark) → announces mark ≡ false → announced_by number true (Some mark) ≡ []
announced-none number (Lose servers) e = refl
announced-none number (Use name first second) e = refl
announced-none number (AtMost n) e = refl
announced-none number Here e = refl
announced-none number Then e = refl
announced-none number Refused e = absurd cc
