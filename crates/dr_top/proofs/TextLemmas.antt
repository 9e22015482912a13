-- The lines of a text, carried out one after another.
use Rattle.std.proofs.Common.{ℕ, zero, suc, ◌≡◌, ◌+◌, List, [], ◌∷◌, ◌++◌, take, length, refl, ap, ◌∙◌, sym, subst, append_assoc, inl, inr, Some, ◌⊎◌, Result, Ok, Err, arith}
use Rattle.std.specs.Prelude.{slice_get}
use Rattle.std.specs.Result.{IsErrAnd}
use Rattle.std.proofs.lemmas.List.{append-nil, length-append, take-append-le}
use Rattle.std.proofs.Math.Seq.{take-append-add, take-length}
use Rattle.dr_model.specs.Layout.{Blocks}
use Rattle.dr_model.specs.Control.{World}
use Rattle.dr_model.specs.Lines.{tasks_of, tasks_from}
use Rattle.dr_model.specs.Runs.{Task}
use Rattle.dr_top.specs.Carried.{StepsLead, EndsThrough, GoesTo, GoesThrough}
use Rattle.dr_top.specs.Followed.{IsFull, StepWants, LacksWithin}
use Rattle.dr_top.specs.declared.carry.Bar.{Bar}
use Rattle.dr_top.specs.declared.carry.Bar.TheVariants.{Full, NoMemory}
use Rattle.dr_top.proofs.LeadLemmas.{led-none, led-then}
use Rattle.dr_top.proofs.TaskLemmas.{tasks-append}

-- two lists of nothing
no-parts : {X : Type 0} (xs ys : List X) → xs ++ ys ≡ [] → (xs ≡ []) × (ys ≡ [])
no-parts [] ys none = (refl, none)
no-parts (x ∷ xs) ys none = cc

-- an element of the second of two lists, and of the first
at-later : {X : Type 0} (xs ys : List X) (i : ℕ) → slice_get (xs ++ ys) (length xs + i) ≡ slice_get ys i
at-later [] ys i = let e : 0 + i ≡ i = omega arith in ap (slice_get ys) e
at-later (x ∷ xs) ys i = let e : suc (length xs) + i ≡ suc (length xs + i) = omega arith in ap (slice_get (x ∷ (xs ++ ys))) e ∙ at-later xs ys i

at-first : {X : Type 0} (xs ys : List X) (i : ℕ) (x : X) → slice_get xs i ≡ Some x → slice_get (xs ++ ys) i ≡ Some x
at-first [] ys i x at = absurd cc
at-first (y ∷ xs) ys zero x at = at
at-first (y ∷ xs) ys (suc i) x at = at-first xs ys i x at

module _ (w0 : World) (d0 : ℕ → Blocks) (first : ℕ) (ls : List (List ℕ)) where
  -- the lines before these were carried out, and lead here
  pub record Through (number : ℕ) (rest : List (List ℕ)) (w : World) (d : ℕ → Blocks) : Type 0 where
    pub before : List (List ℕ)
    pub cut : ls ≡ before ++ rest
    pub count : number ≡ first + length before
    pub led : StepsLead w0 (tasks_from first before) w d
    pub still : tasks_from first before ≡ [] → d ≡ d0

  pub through-none : (w : World) (d : ℕ → Blocks) → w ≡ w0 → d ≡ d0 → Through first ls w d
  through-none w d same still = record { before = []; cut = refl; count = omega arith; led = led-none w0 w d same; still = λ none. still }

  -- the number of the next line is no greater than that behind the last one
  pub through-few : (number : ℕ) (rest : List (List ℕ)) (w : World) (d : ℕ → Blocks) → Through number rest w d → number + length rest ≡ first + length ls
  through-few number rest w d t = let count = t.count in let all = ap length t.cut ∙ length-append t.before rest in omega (arith, count, all)

  -- all of them were carried out
  pub through-all : (number : ℕ) (rest : List (List ℕ)) (w : World) (d : ℕ → Blocks) → rest ≡ [] → Through number rest w d → GoesThrough w0 d0 first ls w d (Ok tt)
  through-all number rest w d none t =
      let all : tasks_from first t.before ≡ tasks_from first ls = ap (tasks_from first) (sym (t.cut ∙ ap (λ xs. t.before ++ xs) none ∙ append-nil t.before)) in
      let taken : tasks_from first t.before ≡ take (length (tasks_from first ls)) (tasks_from first ls) = all ∙ sym (take-length (tasks_from first ls)) in
      record {
        done = length (tasks_from first ls);
        within = omega arith;
        led = subst (λ ts. StepsLead w0 ts w d) taken t.led;
        still = λ none. t.still (taken ∙ none);
        ends = refl;
      }

  -- a line more, or its first steps
  module _ (number : ℕ) (line : List ℕ) (later : List (List ℕ)) (w u : World) (d e : ℕ → Blocks) (t : Through number (line ∷ later) w d) where
    abbrev had : List Task
    had = tasks_from first t.before

    abbrev ts : List Task
    ts = tasks_of number line

    abbrev more : List Task
    more = tasks_from (number + 1) later

    whole : tasks_from first ls ≡ had ++ (ts ++ more)
    whole = ap (tasks_from first) t.cut ∙ tasks-append first t.before (line ∷ later) ∙ ap (λ n. had ++ tasks_from n (line ∷ later)) (sym t.count)

    many : length (tasks_from first ls) ≡ length had + (length ts + length more)
    many = ap length whole ∙ length-append had (ts ++ more) ∙ ap (λ n. length had + n) (length-append ts more)

    module _ (result : Result (Unit {0}) Bar) (goes : GoesTo w d ts u e result) where
      led-on : StepsLead w0 (had ++ take goes.done ts) u e
      led-on = led-then w0 w u had d e (take goes.done ts) t.led goes.led goes.still

      still-on : had ++ take goes.done ts ≡ [] → e ≡ d0
      still-on none = let parts = no-parts had (take goes.done ts) none in goes.still parts.1 ∙ t.still parts.0

      abbrev count : ℕ
      count = length had + goes.done

      taken : had ++ take goes.done ts ≡ take count (tasks_from first ls)
      taken = sym (ap (take count) whole ∙ take-append-add had (ts ++ more) goes.done ∙ ap (λ xs. had ++ xs) (take-append-le goes.done ts more goes.within))

      full-on : IsFull goes.done ts u → IsFull count (tasks_from first ls) u
      full-on full = (let all = many in let lt = full.0 in omega (arith, all, lt), full.1)

      lacks-on : StepWants goes.done ts u ⊎ (goes.done ≡ 0) → LacksWithin first ls count u
      lacks-on (inl step) = inl (record {
        task = step.task;
        next = ap (λ xs. slice_get xs count) whole ∙ at-later had (ts ++ more) goes.done ∙ at-first ts more goes.done step.task step.next;
        wants = step.wants;
      })
      lacks-on (inr none) = inr (record { before = t.before; line = line; later = later; cut = t.cut; carried = omega (arith, none) })

      through-by : EndsThrough count first ls u result → GoesThrough w0 d0 first ls u e result
      through-by ends = record {
        done = count;
        within = let all = many in let fits = goes.within in omega (arith, all, fits);
        led = subst (λ xs. StepsLead w0 xs u e) taken led-on;
        still = λ none. still-on (taken ∙ none);
        ends = ends;
      }

    pub through-next : GoesTo w d ts u e (Ok tt) → Through (number + 1) later u e
    through-next goes =
        let all : take goes.done ts ≡ ts = ap (λ n. take n ts) goes.ends ∙ take-length ts in
        let same : had ++ take goes.done ts ≡ tasks_from first (t.before ++ line ∷ []) =
        ap (λ xs. had ++ xs) (all ∙ sym (append-nil ts)) ∙ ap (λ n. had ++ tasks_from n (line ∷ [])) t.count ∙ sym (tasks-append first t.before (line ∷ []))
        in
        record {
          before = t.before ++ line ∷ [];
          cut = t.cut ∙ sym (append_assoc t.before (line ∷ []) later);
          count = let at = t.count in let one = length-append t.before (line ∷ []) in omega (arith, at, one);
          led = subst (λ xs. StepsLead w0 xs u e) same (led-on (Ok tt) goes);
          still = λ none. still-on (Ok tt) goes (same ∙ none);
        }

    halted : (b : Bar) → GoesTo w d ts u e (Err b) → GoesThrough w0 d0 first ls u e (Err b)
    halted Full goes = through-by (Err Full) goes (full-on (Err Full) goes goes.ends)
    halted NoMemory goes = through-by (Err NoMemory) goes (lacks-on (Err NoMemory) goes goes.ends)

    -- the line ended before its last step
    pub through-halted : (b : Bar) (end : Result (Unit {0}) Bar) → IsErrAnd end (λ x. x ≡ b) → GoesTo w d ts u e (Err b) → GoesThrough w0 d0 first ls u e end
    through-halted b (Ok x) is goes = absurd is
    through-halted b (Err x) is goes = halted x (subst (λ y. GoesTo w d ts u e (Err y)) (sym is) goes)
