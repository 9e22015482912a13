-- The steps that are tried of lines.
use Rattle.std.proofs.Common.{ℕ, suc, ◌≡◌, ◌+◌, List, [], ◌∷◌, ◌++◌, length, refl, ap, sym, ◌∙◌, subst, arith, append_assoc, true}
use Rattle.std.specs.Prelude.{Ok, All}
use Rattle.std.proofs.lemmas.Grind.{flat_map-append}
use Rattle.std.proofs.lemmas.List.{append-nil, map-append}
use Rattle.std.proofs.lemmas.List.Concat.{flat_map-cons}
use Rattle.std.proofs.lemmas.List.Elements.{All-nil, All-cons, All-append, All-drop}
use Rattle.dr_model.specs.declared.step.Step.{Step}
use Rattle.dr_model.specs.Grammar.{line_of}
use Rattle.dr_model.specs.LineText.{IsWritten, is_written, step_text}
use Rattle.dr_script.proofs.StepLemmas.{reads}
use Rattle.dr_script.proofs.WrittenLemmas.{line_written}
use Rattle.dr_plan.specs.Above.{steps_read, line_steps, steps_of}
use Rattle.dr_plan.specs.Parts.{IsOneStep, Tries, tried_from}
use Rattle.dr_plan.specs.Reading.{parts_from, tried_steps}
use Rattle.dr_plan.specs.Sweep.{Tried, texts, is_unbroken}
use Rattle.dr_plan.proofs.PrintLemmas.{step-unbroken}

-- what is tried for a line
pub record Stand (line : List ℕ) (tried : List Tried) : Type 0 where
  pub one : All (λ (t : Tried). IsOneStep t.text) tried
  pub steps : steps_of (texts tried) ≡ line_steps line
  pub unbroken : is_unbroken line ≡ true → All (λ (t : Tried). is_unbroken t.text ≡ true) tried

-- the steps of a line of several
pub record Printed (tried : List Tried) (steps : List Step) : Type 0 where
  pub one : All (λ (t : Tried). IsOneStep t.text) tried
  pub same : steps_of (texts tried) ≡ steps
  pub unbroken : All (λ (t : Tried). is_unbroken t.text ≡ true) tried

pub printed : (number part : ℕ) (steps : List Step) → All IsWritten steps → Printed (parts_from number part steps) steps
unfolding parts_from
printed number part [] all = record { one = All-nil (λ (t : Tried). IsOneStep t.text); same = refl; unbroken = All-nil (λ (t : Tried). is_unbroken t.text ≡ true) }
printed number part (step ∷ steps) all =
    let written : is_written step ≡ true = all 0 step (omega arith) in
    let rest = printed number (part + 1) steps (λ k d lt. all (suc k) d (omega arith)) in
    let is = reads step written in
    let first : Tried = record { line = number; part = part; text = step_text step } in
    record {
      one = All-cons (λ (t : Tried). IsOneStep t.text) first (parts_from number (part + 1) steps) (step, is) rest.one;
      same = ap (λ r. steps_read r ++ steps_of (texts (parts_from number (part + 1) steps))) is ∙ ap (λ ss. step ∷ ss) rest.same;
      unbroken = All-cons (λ (t : Tried). is_unbroken t.text ≡ true) first (parts_from number (part + 1) steps) (step-unbroken step written) rest.unbroken;
    }

stands : (number : ℕ) (line : List ℕ) (steps : List Step) → line_of line ≡ Ok steps → Stand line (tried_steps number line steps)
stands number line [] e = record { one = All-nil (λ (t : Tried). IsOneStep t.text); steps = sym (ap steps_read e); unbroken = λ u. All-nil (λ (t : Tried). is_unbroken t.text ≡ true) }
stands number line (step ∷ []) e =
    let it : Tried = record { line = number; part = 0; text = line } in
    record {
      one = All-cons (λ (t : Tried). IsOneStep t.text) it [] (step, e) (All-nil (λ (t : Tried). IsOneStep t.text));
      steps = append-nil (line_steps line);
      unbroken = λ u. All-cons (λ (t : Tried). is_unbroken t.text ≡ true) it [] u (All-nil (λ (t : Tried). is_unbroken t.text ≡ true));
    }
stands number line (step ∷ next ∷ more) e =
    let p = printed number 1 (step ∷ next ∷ more) (line_written line (step ∷ next ∷ more) e) in
    record { one = p.one; steps = p.same ∙ sym (ap steps_read e); unbroken = λ u. p.unbroken }

pub stand-apart : (number : ℕ) (line : List ℕ) (steps : List Step) → line_of line ≡ Ok steps → Stand line (tried_steps number line (line_steps line))
stand-apart number line steps e = subst (λ ss. Stand line (tried_steps number line ss)) (sym (ap steps_read e)) (stands number line steps e)

pub tries-none : (number : ℕ) → Tries number [] []
unfolding tried_from
tries-none number = record { apart = refl; one = All-nil (λ (t : Tried). IsOneStep t.text); steps = refl }

pub tried-more : (number k : ℕ) (between : List (List ℕ)) (line : List ℕ) → k ≡ number + length between → tried_from number (between ++ line ∷ []) ≡ tried_from number between ++ tried_steps k line (line_steps line)
unfolding tried_from
tried-more number k [] line e = append-nil (tried_steps number line (line_steps line)) ∙ ap (λ n. tried_steps n line (line_steps line)) (let same : number ≡ k = omega arith in same)
tried-more number k (first ∷ between) line e =
    ap (λ ts. tried_steps number first (line_steps first) ++ ts) (tried-more (number + 1) k between line (omega arith))
    ∙ sym (append_assoc (tried_steps number first (line_steps first)) (tried_from (number + 1) between) (tried_steps k line (line_steps line)))

-- a line more between
pub tries-more : (number k : ℕ) (between : List (List ℕ)) (tried : List Tried) (line : List ℕ) (steps : List Step) → k ≡ number + length between → line_of line ≡ Ok steps → Tries number between tried
    → Tries number (between ++ line ∷ []) (tried ++ tried_steps k line steps)
tries-more number k between tried line steps at e t =
    let s = stands k line steps e in
    let new = tried_steps k line steps in
    record {
      apart = ap (λ ts. ts ++ new) t.apart ∙ sym (tried-more number k between line at ∙ ap (λ ss. tried_from number between ++ tried_steps k line ss) (ap steps_read e));
      one = All-append (λ (t : Tried). IsOneStep t.text) tried new t.one s.one;
      steps = ap steps_of (map-append (λ (t : Tried). t.text) tried new) ∙ flat_map-append line_steps (texts tried) (texts new) ∙ ap (λ ss. ss ++ steps_of (texts new)) t.steps ∙ ap (λ ss. steps_of between ++ ss) (s.steps ∙ sym (flat_map-cons line_steps line [] ∙ append-nil (line_steps line)))
          ∙ sym (flat_map-append line_steps between (line ∷ []));
    }

-- no line feed stands in what is tried
pub apart-whole : (number : ℕ) (between : List (List ℕ)) → All (λ l. (steps : List Step) × (line_of l ≡ Ok steps)) between → All (λ l. is_unbroken l ≡ true) between → All (λ (t : Tried). is_unbroken t.text ≡ true) (tried_from number between)
unfolding tried_from
apart-whole number [] read all = All-nil (λ (t : Tried). is_unbroken t.text ≡ true)
apart-whole number (line ∷ rest) read all =
    let r = read 0 line (omega arith) in
    let s = stand-apart number line r.0 r.1 in
    All-append (λ (t : Tried). is_unbroken t.text ≡ true) (tried_steps number line (line_steps line)) (tried_from (number + 1) rest) (s.unbroken (all 0 line (omega arith)))
    (apart-whole (number + 1) rest (All-drop (λ l. (steps : List Step) × (line_of l ≡ Ok steps)) 1 (line ∷ rest) read) (All-drop (λ l. is_unbroken l ≡ true) 1 (line ∷ rest) all))
