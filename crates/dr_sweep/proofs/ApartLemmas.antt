-- Tried steps are taken apart one after another.
use Rattle.std.proofs.Common.{ℕ, ◌≡◌, ◌+◌, ◌<◌, ◌≤◌, inl, inr, refl, ap, ◌∙◌, sym, subst, arith, append_assoc, Bool, true, false, List, [], ◌∷◌, ◌++◌, length, map, take, drop, get_or, nat_eq, Some, Result, Ok}
use Rattle.std.specs.Prelude.{All}
use Rattle.std.proofs.lemmas.Bool.{eqb-true}
use Rattle.std.proofs.lemmas.List.{append-nil, length-map, map-append, take-append-drop, take_more}
use Rattle.std.proofs.lemmas.List.Elements.{All-nil, All-cons, All-append}
use Rattle.dr_plant.specs.State.{PlantState, IsFresh}
use Rattle.dr_model.specs.declared.step.Step.{Step}
use Rattle.dr_model.specs.declared.step.Step.TheVariants.{Run}
use Rattle.dr_model.specs.Control.{World, nothing}
use Rattle.dr_model.specs.Forming.{Part, formed}
use Rattle.dr_model.specs.Grammar.{line_of}
use Rattle.dr_model.specs.LineText.{IsWritten, step_text}
use Rattle.dr_model.specs.Lines.{tasks_from}
use Rattle.dr_model.specs.Listed.{as_asked}
use Rattle.dr_model.specs.Plans.{has_room}
use Rattle.dr_model.specs.Runs.{Task, after_tasks, run}
use Rattle.dr_laws_runs.specs.Parts.{AskForAll}
use Rattle.dr_laws_runs.specs.Walks.{AskForFirst}
use Rattle.dr_laws_runs.proofs.Walks.{first-is-run, formed-full}
use Rattle.dr_plan.specs.Parts.{IsOneStep}
use Rattle.dr_plan.specs.Reading.{parts_from}
use Rattle.dr_plan.specs.Sweep.{Sweep, Tried, texts, is_unbroken}
use Rattle.dr_plan.proofs.ApartLemmas.{printed}
use Rattle.dr_sweep.specs.declared.apart.RunAsked.{RunAsked}
use Rattle.dr_sweep.specs.declared.fault.PointFault.{PointFault}
use Rattle.dr_sweep.specs.declared.fault.PointFault.TheVariants.{NoMemory, TooLong}
use Rattle.dr_sweep.specs.Apart.{AreApart, CarriesParts, FailsApart, FailsInStep, Follows, GoesAllApart, GoesApart, HaltsInParts, HaltsInStep, HaltsStepsBy, HasLines, IsApart, IsApartBy, IsTakenApart, StandAlone, StepsApart, asked_of, run_in}
use Rattle.dr_sweep.specs.Comes.{CarriesOn, HaltsBy, Ran, RunState, seen}
use Rattle.dr_script.proofs.WrittenLemmas.{line_written}
use Rattle.dr_sweep.proofs.TurnLemmas.{run-session}
use Rattle.dr_sweep.proofs.AskedLemmas.{one-task}
use Rattle.dr_sweep.proofs.WayLemmas.{tells-itself}
use Rattle.dr_top.proofs.TaskLemmas.{tasks-none, tasks-then}

-- ---- an `@run` that was read

is-run : (read : Result (List Step) ℕ) (r : RunAsked) → run_in read ≡ Some r → read ≡ Ok (Run r.session r.groups ∷ [])
is-run (Ok (Run s n ∷ [])) r e = let same : record { session = s; groups = n } ≡ r = cc in ap (λ (x : RunAsked). Ok (Run x.session x.groups ∷ [])) same
is-run read r e = cc

-- its session isn't 0
pub session-some : (line : List ℕ) (r : RunAsked) → run_in (line_of line) ≡ Some r → 1 ≤ r.session
session-some line r is =
    let all = line_written line (Run r.session r.groups ∷ []) (is-run (line_of line) r is) in
    run-session r.session r.groups (all 0 (Run r.session r.groups) (omega arith))

-- ---- one step

-- a step that is tried as it is
module _ (began : PlantState) (ls : List (List ℕ)) (done : List Task) (new : RunState) (t : Tried) (one : IsOneStep t.text) (c : CarriesOn began ls (t.text ∷ []) new done) where
  one-line : length c.further ≡ 1
  one-line = ap length (one-task (length ls + 1) t.text one.0 c.further one.1 c.asks).1

  pub kept-apart : (old_made made : List Tried) → made ≡ old_made ++ t ∷ [] → IsApartBy (run_in (line_of t.text)) (run done) t (t ∷ []) c.further → StepsApart began ls done new t old_made made
  kept-apart old_made made is are = record { first = t ∷ []; cut = is; tasks = c.further; ran = c.ran; each = one-line; are = are }

-- lines that ask for no part of an `@run` are none only if that has none
pub no-part : (u : World) (s n : ℕ) → AskForFirst u [] (formed u s n).parts → (formed u s n).parts ≡ []
unfolding after_tasks
no-part u s n f = by (has_room u.events) refl
  where
    nothing-asked : (xs : List Part) → AskForAll [] xs → xs ≡ []
    nothing-asked [] asks = refl
    nothing-asked (x ∷ xs) asks = absurd asks

    by : (b : Bool) → has_room u.events ≡ b → (formed u s n).parts ≡ []
    by false full = formed-full u s n full
    by true room = f.cut ∙ (λ i. nothing-asked f.asked f.asks i ++ f.whole room i)

-- steps as parts of a line
texts-are : (number part : ℕ) (steps : List Step) → texts (parts_from number part steps) ≡ map step_text steps
unfolding parts_from
texts-are number part [] = refl
texts-are number part (step ∷ steps) = ap (λ xs. step_text step ∷ xs) (texts-are number (part + 1) steps)

count-is : (number part : ℕ) (steps : List Step) → length (parts_from number part steps) ≡ length steps
count-is number part steps = sym (length-map (parts_from number part steps) (λ (t : Tried). t.text)) ∙ ap length (texts-are number part steps) ∙ length-map steps step_text

module _ (began : PlantState) (ls : List (List ℕ)) (done : List Task) (mid : RunState) (t : Tried) (r : RunAsked) (is_run : run_in (line_of t.text) ≡ Some r) (parts : List Step)
    (a : CarriesParts began ls done mid r.session [] parts (Follows (λ v. formed v r.session r.groups) done)) where
  abbrev w : World
  w = run done

  follow : AskForFirst w a.tasks (formed w r.session r.groups).parts
  follow = a.so w (tells-itself w)

  same-count : length a.tasks ≡ length a.steps
  same-count = sym (length-map a.tasks asked_of) ∙ ap length a.asked ∙ length-map a.steps Ok

  -- it was taken apart
  pub run-apart : (old_made made : List Tried) → (parts ≡ [] → ⊥) → made ≡ old_made ++ parts_from t.line 1 parts → StepsApart began ls done mid t old_made made
  run-apart old_made made some is = record {
    first = parts_from t.line 1 a.steps;
    cut = is ∙ ap (λ xs. old_made ++ parts_from t.line 1 xs) a.cut;
    tasks = a.tasks;
    ran = subst (λ xs. Ran began (ls ++ xs) mid (done ++ a.tasks)) (sym (texts-are t.line 1 a.steps)) a.ran;
    each = same-count ∙ sym (count-is t.line 1 a.steps);
    are = subst (λ o. IsApartBy o w t (parts_from t.line 1 a.steps) a.tasks) (sym is_run) (inr (record {
      steps = a.steps;
      some = λ none. some (a.cut ∙ none);
      are = refl;
      of_run = a.of_run;
      asked = a.asked;
      follow = follow;
      is_run = λ room. first-is-run w r.session r.groups a.tasks follow room;
    }));
  }

  pub parts-alone : (old_made made : List Tried) → StandAlone old_made → made ≡ old_made ++ parts_from t.line 1 parts → StandAlone made
  parts-alone old_made made alone is =
      let p = printed t.line 1 parts (subst (All IsWritten) (sym a.cut) a.written) in
      subst StandAlone (sym is)
      (All-append (λ (t : Tried). is_unbroken t.text ≡ true) old_made (parts_from t.line 1 parts) alone.0 p.unbroken, All-append (λ (t : Tried). IsOneStep t.text) old_made (parts_from t.line 1 parts) alone.1 p.one)

  -- it has no part
  module _ (none : parts ≡ []) where
    no-steps : a.steps ≡ []
    no-steps = sym a.cut ∙ none

    no-tasks : a.tasks ≡ []
    no-tasks = by a.tasks (same-count ∙ ap length no-steps)
      where
        by : (ts : List Task) → length ts ≡ 0 → ts ≡ []
        by [] e = refl
        by (x ∷ xs) e = absurd (let h = e in omega (arith, h))

    pub still-there : Ran began ls mid done
    still-there =
        subst (λ xs. Ran began xs mid done) (append-nil ls)
        (subst (λ ts. Ran began (ls ++ []) mid ts) (append-nil done) (subst (λ ts. Ran began (ls ++ []) mid (done ++ ts)) no-tasks (subst (λ xs. Ran began (ls ++ map step_text xs) mid (done ++ a.tasks)) no-steps a.ran)))

    pub stays-whole : (tasks : List Task) → IsApartBy (run_in (line_of t.text)) w t (t ∷ []) tasks
    stays-whole tasks = subst (λ o. IsApartBy o w t (t ∷ []) tasks) (sym is_run) (inl (no-part w r.session r.groups (subst (λ ts. AskForFirst w ts (formed w r.session r.groups).parts) no-tasks follow), refl))

-- a count of 0, and another
pub no-steps-counted : (xs : List Step) (n : ℕ) → n ≡ length xs → nat_eq n 0 ≡ true → xs ≡ []
no-steps-counted [] n is e = refl
no-steps-counted (x ∷ xs) n is e = let none : n ≡ 0 = eqb-true n 0 e in absurd (omega (arith, none, is))

pub steps-counted : (xs : List Step) (n : ℕ) → n ≡ length xs → nat_eq n 0 ≡ false → xs ≡ [] → ⊥
steps-counted xs n is e none = let h : nat_eq n 0 ≡ true = ap (λ k. nat_eq k 0) is ∙ ap (λ (ys : List Step). nat_eq (length ys) 0) none in let both : false ≡ true = sym e ∙ h in absurd cc

-- lines in place of a step halted
pub parts-halt : (began : PlantState) (ls : List (List ℕ)) (new : RunState) (t : Tried) (r : RunAsked) (fault : PointFault) → run_in (line_of t.text) ≡ Some r → HaltsInParts began ls new r.session fault → HaltsInStep began ls new t fault
parts-halt began ls new t r fault is h = record { more = map step_text h.steps; of = inr (r, is, h.steps, h.of_run, refl); halts = h.halts }

pub line-halts : (began : PlantState) (ls : List (List ℕ)) (new : RunState) (t : Tried) (fault : PointFault) → HaltsBy began (ls ++ t.text ∷ []) new fault → HaltsInStep began ls new t fault
line-halts began ls new t fault h = record { more = t.text ∷ []; of = inl refl; halts = h }

pub memory-halts : (began : PlantState) (ls : List (List ℕ)) (new : RunState) (t : Tried) → HaltsInStep began ls new t NoMemory
memory-halts began ls new t = record { more = t.text ∷ []; of = inl refl; halts = tt }

-- a step more stands by itself
pub alone-more : (tried : List Tried) (t : Tried) (made : List Tried) → StandAlone tried → StandAlone (t ∷ []) → made ≡ tried ++ t ∷ [] → StandAlone made
alone-more tried t made alone one is =
    subst StandAlone (sym is) (All-append (λ (t : Tried). is_unbroken t.text ≡ true) tried (t ∷ []) alone.0 one.0, All-append (λ (t : Tried). IsOneStep t.text) tried (t ∷ []) alone.1 one.1)

-- no steps do
pub none-alone : StandAlone []
none-alone = (All-nil (λ (t : Tried). is_unbroken t.text ≡ true), All-nil (λ (t : Tried). IsOneStep t.text))

-- the step at a place stands by itself
pub alone-at : (steps : List Tried) (i : ℕ) (d : Tried) → i < length steps → StandAlone steps → StandAlone (get_or steps i d ∷ [])
alone-at steps i d low alone = (
  All-cons (λ (t : Tried). is_unbroken t.text ≡ true) (get_or steps i d) [] (alone.0 i d low) (All-nil (λ (t : Tried). is_unbroken t.text ≡ true)),
  All-cons (λ (t : Tried). IsOneStep t.text) (get_or steps i d) [] (alone.1 i d low) (All-nil (λ (t : Tried). IsOneStep t.text)),
)

-- a run that carried out steps in place of one has lines
pub lines-on : (old new : RunState) (t : Tried) (old_made made : List Tried) → HasLines old → GoesApart old new t old_made made → HasLines new
lines-on old new t old_made made has goes = let a = goes has.began has.ls has.done has.ran in record { began = has.began; ls = has.ls ++ texts a.first; done = has.done ++ a.tasks; ran = a.ran }

-- ---- all steps

-- one step more
apart-more : (w : World) (ts made : List Tried) (tasks : List Task) (t : Tried) (first : List Tried) (steps : List Task) → AreApart w ts made tasks → length steps ≡ length first → IsApart (after_tasks w tasks) t first steps → AreApart w (ts ++ t ∷ []) (made ++ first) (tasks ++ steps)
apart-more w [] made tasks t first steps are each is = record {
  first = first;
  rest = [];
  cut = ap (λ xs. xs ++ first) are.0 ∙ sym (append-nil first);
  steps = steps;
  further = [];
  carried = ap (λ xs. xs ++ steps) are.1 ∙ sym (append-nil steps);
  each = each;
  are = subst (λ u. IsApart u t first steps) (ap (after_tasks w) are.1 ∙ tasks-none w) is;
  others = (refl, refl);
}
apart-more w (x ∷ ts) made tasks t first steps are each is = record {
  first = are.first;
  rest = are.rest ++ first;
  cut = ap (λ xs. xs ++ first) are.cut ∙ append_assoc are.first are.rest first;
  steps = are.steps;
  further = are.further ++ steps;
  carried = ap (λ xs. xs ++ steps) are.carried ∙ append_assoc are.steps are.further steps;
  each = are.each;
  are = are.are;
  others = apart-more (after_tasks w are.steps) ts are.rest are.further t first steps are.others each (subst (λ u. IsApart u t first steps) (ap (after_tasks w) are.carried ∙ tasks-then w are.steps are.further) is);
}

texts-both : (a b : List Tried) → texts (a ++ b) ≡ texts a ++ texts b
texts-both a b = map-append (λ (t : Tried). t.text) a b

module _ (old : RunState) (steps : List Tried) where
  pub apart-begin : GoesAllApart old old (take 0 steps) []
  apart-begin began ls done ran = record {
    tasks = [];
    ran = subst (λ xs. Ran began xs old (done ++ [])) (sym (append-nil ls)) (subst (Ran began ls old) (sym (append-nil done)) ran);
    are = (refl, refl);
  }

  module _ (mid : RunState) (made : List Tried) (i : ℕ) (d : Tried) (low : i < length steps) (so_far : GoesAllApart old mid (take i steps) made) where
    abbrev t : Tried
    t = get_or steps i d

    pub apart-on : (new : RunState) (made_on : List Tried) → GoesApart mid new t made made_on → GoesAllApart old new (take (i + 1) steps) made_on
    apart-on new made_on goes began ls done ran =
        let a = so_far began ls done ran in
        let b = goes began (ls ++ texts made) (done ++ a.tasks) a.ran in
        record {
          tasks = a.tasks ++ b.tasks;
          ran = subst (λ xs. Ran began xs new (done ++ (a.tasks ++ b.tasks))) (append_assoc ls (texts made) (texts b.first) ∙ ap (λ xs. ls ++ xs) (sym (texts-both made b.first) ∙ ap texts (sym b.cut)))
              (subst (λ ts. Ran began ((ls ++ texts made) ++ texts b.first) new ts) (append_assoc done a.tasks b.tasks) b.ran);
          are = subst (λ ts. AreApart (run done) ts made_on (a.tasks ++ b.tasks)) (sym (take_more steps i d low))
              (subst (λ ms. AreApart (run done) (take i steps ++ t ∷ []) ms (a.tasks ++ b.tasks)) (sym b.cut)
              (apart-more (run done) (take i steps) made a.tasks t b.first b.tasks a.are b.each (subst (λ u. IsApart u t b.first b.tasks) (tasks-then nothing done a.tasks) b.are)));
        }

    pub apart-halts : (new : RunState) (fault : PointFault) → FailsInStep mid new t fault → (began : PlantState) (ls : List (List ℕ)) (done : List Task) → Ran began ls old done → HaltsStepsBy began ls done new steps fault
    apart-halts new NoMemory fails began ls done ran = tt
    apart-halts new TooLong fails began ls done ran =
        let a = so_far began ls done ran in
        record {
          before = take i steps;
          here = t;
          left = drop (i + 1) steps;
          cut = sym (take-append-drop (i + 1) steps) ∙ ap (λ xs. xs ++ drop (i + 1) steps) (take_more steps i d low) ∙ append_assoc (take i steps) (t ∷ []) (drop (i + 1) steps);
          made = made;
          tasks = a.tasks;
          are = a.are;
          halts = fails began (ls ++ texts made) (done ++ a.tasks) a.ran;
        }

-- ---- the plan

module _ (plan : Sweep) (began : PlantState) (fresh : IsFresh began) (start mid : RunState) (ran : Ran began [] start []) (c : CarriesOn began [] plan.setup mid []) where
  setup-asks : map as_asked c.further ≡ tasks_from 1 plan.setup
  setup-asks = c.asks ∙ (let one : length {A = List ℕ} [] + 1 ≡ 1 = omega arith in ap (λ n. tasks_from n plan.setup) one)

  pub has-lines : HasLines mid
  has-lines = record { began = began; ls = plan.setup; done = c.further; ran = c.ran }

  pub plan-apart : (new : RunState) (made : List Tried) → GoesAllApart mid new plan.tried made → IsTakenApart plan (record plan { tried = made })
  plan-apart new made goes =
      let a = goes began plan.setup c.further c.ran in
      record {
        same = refl;
        setup = c.further;
        tried = a.tasks;
        events = new.events;
        asks = setup-asks;
        runs = record { before = began; after = new.plant; fresh = fresh; world = seen new; asks = a.ran.asks; stands = a.ran.has.stands };
        are = a.are;
      }

  pub plan-halts : (new : RunState) (fault : PointFault) → ((began : PlantState) (ls : List (List ℕ)) (done : List Task) → Ran began ls mid done → HaltsStepsBy began ls done new plan.tried fault) → FailsApart plan fault
  plan-halts new NoMemory fails = tt
  plan-halts new TooLong fails =
      let h = fails began plan.setup c.further c.ran in
      record {
        began = began;
        fresh = fresh;
        state = new;
        why = inr (record {
          done = h.before;
          here = h.here;
          left = h.left;
          cut = h.cut;
          made = h.made;
          setup = c.further;
          tried = h.tasks;
          asks = setup-asks;
          are = h.are;
          more = h.halts.more;
          of = h.halts.of;
          halts = h.halts.halts;
        });
      }

pub setup-halts : (plan : Sweep) (began : PlantState) (fresh : IsFresh began) (new : RunState) (fault : PointFault) → HaltsBy began plan.setup new fault → FailsApart plan fault
setup-halts plan began fresh new NoMemory h = tt
setup-halts plan began fresh new TooLong h = record { began = began; fresh = fresh; state = new; why = inl h }
