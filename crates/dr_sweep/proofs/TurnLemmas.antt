-- Parts of an `@run` are carried out as lines, one after another.
use Rattle.std.proofs.Common.{ℕ, ◌≡◌, ◌+◌, ◌^◌, ◌<◌, ◌≤◌, nat_lt, refl, ap, ◌∙◌, sym, subst, arith, append_assoc, Bool, true, false, ◌&&◌, nat_le, List, [], ◌∷◌, ◌++◌, length, map, slice_get, Some, None, Ok}
use Rattle.std.proofs.lemmas.List.{append-nil, map-append}
use Rattle.std.proofs.lemmas.List.Elements.{All-nil, All-cons, All-append}
use Rattle.std.proofs.lemmas.Bool.{and_parts}
use Rattle.std.proofs.lemmas.Bool.Decides.{nat_tests}
use Rattle.std.proofs.lemmas.Grind.{common_steps}
use Rattle.dr_ids.specs.declared.refusal.Refusal.TheVariants as refusal
use Rattle.dr_plant.specs.State.{PlantState}
use Rattle.dr_model.specs.declared.event.Event.{Event}
use Rattle.dr_model.specs.declared.said.Said.{Said}
use Rattle.dr_model.specs.declared.said.Said.TheVariants.{Done, Held, Refused}
use Rattle.dr_model.specs.declared.said.Addition.TheVariants.{Alone, Wrote, Acked, Counted, InPhase, InGroup, Showed, Posted}
use Rattle.dr_model.specs.declared.step.Name.{Name}
use Rattle.dr_model.specs.declared.step.Step.{Step}
use Rattle.dr_model.specs.declared.step.Step.TheVariants.{Drain, Exchange, Run}
use Rattle.dr_model.specs.Answers.{answer}
use Rattle.dr_model.specs.Control.{World, nothing}
use Rattle.dr_model.specs.Forming.{Part, Way, refusal_said, part}
use Rattle.dr_model.specs.LineText.{IsWritten, name_fits, step_text, is_written, at_saying, operand_fits, said_count}
use Rattle.dr_model.specs.LineTable.{form, settings, operands, may_end_with}
use Rattle.dr_model.specs.LineSteps.{no_options, no_operands}
use Rattle.dr_model.specs.PlanParts.{Plan}
use Rattle.dr_model.specs.Plans.{has_room}
use Rattle.dr_model.specs.Runs.{Task, after_task, run}
use Rattle.dr_laws_runs.specs.Parts.{AsksFor, said_by, told_by}
use Rattle.dr_laws_runs.specs.Walks.{IsPartOf, TellsMore, Walk}
use Rattle.dr_laws_runs.proofs.Walks.{answered-last, walk-full, walk-part}
use Rattle.dr_script.proofs.StepLemmas.{reads}
use Rattle.dr_sweep.specs.Apart.{CarriesParts, HaltsInParts, IsPartWay, Walks, asked_of, is_well}
use Rattle.dr_sweep.specs.Comes.{CarriesOn, HaltsBy, Ran, RunState, seen}
use Rattle.dr_sweep.specs.Moments.{last_of}
use Rattle.dr_sweep.specs.declared.fault.PointFault.{PointFault}
use Rattle.dr_sweep.specs.declared.fault.PointFault.TheVariants.{NoMemory}
use Rattle.dr_sweep.proofs.AskedLemmas.{one-task}
use Rattle.dr_top.proofs.TaskLemmas.{tasks-then, tasks-one}

-- ---- steps

pub drain-written : (a : ℕ) → a < 2 ^ 16 → IsWritten (Drain a None)
unfolding is_written at_saying settings operands form said_count operand_fits no_options no_operands may_end_with
drain-written a few = let low : nat_lt a 65536 ≡ true = grind (arith, nat_tests, few) in ap (λ b. (b && true) && true) low

pub exchange-written : (s : ℕ) (name : Name) → 1 ≤ s → s < 2 ^ 8 → name_fits name ≡ true → IsWritten (Exchange s name true)
unfolding is_written at_saying settings operands form said_count operand_fits no_options no_operands may_end_with
exchange-written s name some few fits =
    let least : nat_le 1 s ≡ true = grind (arith, nat_tests, some) in
    let most : nat_lt s 256 ≡ true = grind (arith, nat_tests, few) in
    ap (λ b. ((b && nat_lt s 256) && (name_fits name && true)) && true) least ∙ ap (λ b. (b && (name_fits name && true)) && true) most ∙ ap (λ b. (b && true) && true) fits

-- the session of an `@run` that was read from a line isn't 0
pub run-session : (s n : ℕ) → IsWritten (Run s n) → 1 ≤ s
unfolding is_written at_saying settings operands form said_count operand_fits no_options no_operands may_end_with
run-session s n written = let least : nat_le 1 s ≡ true = (and_parts (nat_le 1 s) (nat_lt s 256) ((and_parts (nat_le 1 s && nat_lt s 256) _ ((and_parts _ _ written).0)).0)).0 in grind (arith, nat_tests, least)

-- ---- answers

-- an answer is no refusal where nothing was refused
well-said : (line : ℕ) (a : Said) → is_well (Some (answer line a)) ≡ true → refusal_said a ≡ None
well-said line (Done added) well = refl
well-said line (Held w) well = refl
well-said line (Refused (refusal.Stopped server)) well = cc
well-said line (Refused r) well = cc

bad-said : (line : ℕ) (a : Said) → is_well (Some (answer line a)) ≡ false → refusal_said a ≡ None → ⊥
bad-said line (Done Alone) bad none = cc
bad-said line (Done (Wrote w)) bad none = cc
bad-said line (Done (Acked w)) bad none = cc
bad-said line (Done (Counted n)) bad none = cc
bad-said line (Done (InPhase phase n)) bad none = cc
bad-said line (Done (InGroup group decision)) bad none = cc
bad-said line (Done Showed) bad none = cc
bad-said line (Done (Posted m)) bad none = cc
bad-said line (Held w) bad none = cc
bad-said line (Refused r) bad none = cc

-- the last of some events and one more
last-more : (xs : List Event) (x : Event) → last_of (xs ++ x ∷ []) ≡ Some x
last-more xs x =
    ap (λ n. slice_get (xs ++ x ∷ []) n) (let size : length (xs ++ x ∷ []) ≡ length xs + 1 = grind (arith, common_steps) in omega (arith, size)) ∙ at xs
  where
    at : (ys : List Event) → slice_get (ys ++ x ∷ []) (length ys) ≡ Some x
    at [] = refl
    at (y ∷ ys) = at ys

-- ---- lists of parts

module _ (began : PlantState) (ls : List (List ℕ)) (done : List Task) (s : ℕ) where
  -- none
  pub parts-none : (r : RunState) (parts : List Step) (holds : List Task → Type 0) → Ran began ls r done → holds [] → CarriesParts began ls done r s parts parts holds
  parts-none r parts holds ran so = record {
    steps = [];
    cut = sym (append-nil parts);
    tasks = [];
    ran = subst (λ xs. Ran began xs r (done ++ [])) (sym (append-nil ls)) (subst (Ran began ls r) (sym (append-nil done)) ran);
    asked = refl;
    of_run = All-nil (IsPartOf s);
    written = All-nil IsWritten;
    so = so;
  }

  -- where memory is wanting nothing is said of them
  pub halts-none : (r : RunState) → HaltsInParts began ls r s NoMemory
  halts-none r = record { steps = []; of_run = All-nil (IsPartOf s); halts = tt }

  module _ (mid : RunState) (p0 p1 : List Step) (h1 : List Task → Type 0) (a : CarriesParts began ls done mid s p0 p1 h1) where
    abbrev lines_on : List (List ℕ)
    lines_on = ls ++ map step_text a.steps

    abbrev done_on : List Task
    done_on = done ++ a.tasks

    texts-on : (more : List Step) → lines_on ++ map step_text more ≡ ls ++ map step_text (a.steps ++ more)
    texts-on more = append_assoc ls (map step_text a.steps) (map step_text more) ∙ ap (λ xs. ls ++ xs) (sym (map-append step_text a.steps more))

    -- some, and others after them
    pub parts-then : (new : RunState) (p2 : List Step) (h2 h3 : List Task → Type 0) → (b : CarriesParts began lines_on done_on new s p1 p2 h2) → (h1 a.tasks → h2 b.tasks → h3 (a.tasks ++ b.tasks)) → CarriesParts began ls done new s p0 p2 h3
    parts-then new p2 h2 h3 b so = record {
      steps = a.steps ++ b.steps;
      cut = b.cut ∙ ap (λ xs. xs ++ b.steps) a.cut ∙ append_assoc p0 a.steps b.steps;
      tasks = a.tasks ++ b.tasks;
      ran = subst (λ xs. Ran began xs new (done ++ (a.tasks ++ b.tasks))) (texts-on b.steps) (subst (Ran began (lines_on ++ map step_text b.steps) new) (append_assoc done a.tasks b.tasks) b.ran);
      asked = map-append asked_of a.tasks b.tasks ∙ (λ i. a.asked i ++ b.asked i) ∙ sym (map-append Ok a.steps b.steps);
      of_run = All-append (IsPartOf s) a.steps b.steps a.of_run b.of_run;
      written = All-append IsWritten a.steps b.steps a.written b.written;
      so = so a.so b.so;
    }

    -- some, and others halted
    pub halts-then : (new : RunState) (fault : PointFault) → HaltsInParts began lines_on new s fault → HaltsInParts began ls new s fault
    halts-then new fault h = record {
      steps = a.steps ++ h.steps;
      of_run = All-append (IsPartOf s) a.steps h.steps a.of_run h.of_run;
      halts = subst (λ xs. HaltsBy began xs new fault) (texts-on h.steps) h.halts;
    }

    -- the same with another condition
    pub parts-so : (h : List Task → Type 0) → (h1 a.tasks → h a.tasks) → CarriesParts began ls done mid s p0 p1 h
    parts-so h so = record { steps = a.steps; cut = a.cut; tasks = a.tasks; ran = a.ran; asked = a.asked; of_run = a.of_run; written = a.written; so = so a.so }

-- ---- one part

-- its line halted
pub part-halts : (began : PlantState) (ls : List (List ℕ)) (s : ℕ) (new : RunState) (step : Step) → IsPartOf s step → (fault : PointFault) → HaltsBy began (ls ++ step_text step ∷ []) new fault → HaltsInParts began ls new s fault
part-halts began ls s new step of_run fault h = record { steps = step ∷ []; of_run = All-cons (IsPartOf s) step [] of_run (All-nil (IsPartOf s)); halts = h }

module _ (began : PlantState) (ls : List (List ℕ)) (done : List Task) (s : ℕ) (old new : RunState) (ran : Ran began ls old done) (parts : List Step) (step : Step) (of_run : IsPartOf s step) (way : World → Way) (is : IsPartWay old step way) where
  led : run done ≡ seen old
  led = ran.has.stands.leads

  abbrev lone : List Step
  lone = step ∷ []

  -- the journal has no room
  pub part-full : has_room old.events ≡ false → CarriesParts began ls done old s parts parts (Walks false way done old)
  part-full full = parts-none began ls done s old parts (Walks false way done old) ran (λ v more. walk-full (run done) (way v) (ap (λ (w : World). has_room w.events) led ∙ full))

  -- it was carried out
  module _ (room : has_room old.events ≡ true) (written : IsWritten step) (new_parts : List Step) (more_parts : new_parts ≡ parts ++ lone) (c : CarriesOn began ls (step_text step ∷ []) new done) (on : Bool) (is_on : on ≡ is_well (last_of new.events)) where
    the-task : (t : Task) × (c.further ≡ t ∷ []) × (t.asked ≡ Ok step)
    the-task = one-task (length ls + 1) (step_text step) step c.further (reads step written) c.asks

    abbrev t : Task
    t = the-task.0

    led-on : after_task (run done) t ≡ seen new
    led-on = sym (tasks-one (run done) t) ∙ sym (tasks-then nothing done (t ∷ [])) ∙ ap (λ ts. run (done ++ ts)) (sym the-task.1) ∙ c.ran.has.stands.leads

    walks : (v : World) → TellsMore v (run done) → Walk on (run done) (seen new) (t ∷ []) (way v)
    walks v more = by (is v (subst (TellsMore v) led more))
      where
        has : has_room (run done).events ≡ true
        has = ap (λ (w : World). has_room w.events) led ∙ room

        by : (p : Plan) × AsksFor step (record { world = v; plan = p }) × (way v ≡ part v p) → Walk on (run done) (seen new) (t ∷ []) (way v)
        by (p, asks, same) =
            let x : Part = record { world = v; plan = p } in
            let said : on ≡ is_well (Some (answer t.line (said_by x))) =
            is_on ∙ ap (λ (w : World). is_well (last_of w.events)) (sym led-on) ∙ ap (λ es. is_well (last_of es)) (answered-last v (run done) p more t step the-task.2 asks has)
            ∙ ap is_well (last-more ((run done).events ++ told_by x) (answer t.line (said_by x))) in
            subst (Walk on (run done) (seen new) (t ∷ [])) (sym same)
            (subst (λ w. Walk on (run done) w (t ∷ []) (part v p)) led-on
            (walk-part v (run done) p more t step the-task.2 asks has on (λ e. well-said t.line (said_by x) (sym said ∙ e)) (λ e. bad-said t.line (said_by x) (sym said ∙ e))))

    pub part-carried : CarriesParts began ls done new s parts new_parts (Walks on way done new)
    part-carried = record {
      steps = lone;
      cut = more_parts;
      tasks = c.further;
      ran = c.ran;
      asked = ap (map asked_of) the-task.1 ∙ ap (λ r. r ∷ []) the-task.2;
      of_run = All-cons (IsPartOf s) step [] of_run (All-nil (IsPartOf s));
      written = All-cons IsWritten step [] written (All-nil IsWritten);
      so = λ v more. subst (λ ts. Walk on (run done) (seen new) ts (way v)) (sym the-task.1) (walks v more);
    }
