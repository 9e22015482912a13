-- What a trial puts, by what its script comes to.
use Rattle.std.proofs.Common.{ℕ, ◌≡◌, ◌≢◌, ◌⊎◌, List, [], length, refl, ◌∙◌, sym, subst, arith, inl, inr, Option}
use Rattle.std.proofs.Math.Seq.{take-length}
use Rattle.std.specs.Str.Lines.{lines}
use Rattle.dr_logic.specs.Counts.{Counted}
use Rattle.dr_plant.specs.State.{PlantState, IsFresh}
use Rattle.dr_model.specs.declared.event.Event.{Event}
use Rattle.dr_model.specs.Control.{World}
use Rattle.dr_model.specs.Lines.{tasks}
use Rattle.dr_model.specs.Runs.{Task}
use Rattle.dr_gen.specs.Trial.{script_text}
use Rattle.dr_gen.proofs.ScriptLength.{script-length}
use Rattle.dr_io.specs.Given.{Gave, GavePart}
use Rattle.dr_io.specs.Pieces.{IsPast}
use Rattle.dr_io.proofs.AmountLemmas.{few-lines}
use Rattle.dr_top.specs.Offline.{Reports, script_limits}
use Rattle.dr_top.specs.Outcome.{is_write_fault}
use Rattle.dr_top.specs.Tried.{AreAll, AreBeforeFull, AreBeforeLimit, TriedBy, IsTried}
use Rattle.dr_top.specs.Trials.{EndsTrial, IsTrial, trial_text, summary_report}
use Rattle.dr_top.specs.declared.report.Report.{Report}
use Rattle.dr_top.specs.declared.status.Status.{Status}
use Rattle.dr_top.specs.declared.status.Status.TheVariants.{Done, DoneRefused, Usage, ReadFault, WriteFault, NoMemory, TooLong, BadImage, Contradiction, NoMembers}
use Rattle.dr_top.proofs.TopLemmas.{stands-unbegun}

-- a script of a trial is no longer than a script may be
never-past : (n : ℕ) → IsPast script_limits (script_text n) → ⊥
never-past n (inl bytes) = let all = script-length n in omega (arith, all, bytes)
never-past n (inr many) = let all = script-length n in let few = few-lines (script_text n) in omega (arith, all, few, many)

before-full : (n : ℕ) (steps : List Task) (w : World) → AreBeforeFull (script_text n) steps w ⊎ AreBeforeLimit (script_text n) steps → AreBeforeFull (script_text n) steps w
before-full n steps w (inl full) = full
before-full n steps w (inr limit) = absurd (never-past n limit.past)

-- what is put behind it
module _ {K : Type 0} (n : ℕ) (written : K → Option (List ℕ)) (faults : K → ℕ) (k : K) (events : List Event) (s s' : PlantState) where
  -- the script wasn't carried out to its end
  pub trial-halted : (status : Status) → IsTried (script_text n) status events s s' → status ≢ Done → status ≢ DoneRefused → IsTrial n written k k faults status events s s'
  trial-halted Done t done refused = absurd (done refl)
  trial-halted DoneRefused t done refused = absurd (refused refl)
  trial-halted NoMemory t done refused = record { world = t.world; steps = t.steps; ends = (t.by, refl); writes = refl; stands = t.stands }
  trial-halted TooLong t done refused = record { world = t.world; steps = t.steps; ends = (before-full n t.steps t.world t.by, refl); writes = refl; stands = t.stands }
  trial-halted Usage t done refused = absurd t.by
  trial-halted ReadFault t done refused = absurd t.by
  trial-halted WriteFault t done refused = absurd t.by
  trial-halted BadImage t done refused = absurd t.by
  trial-halted Contradiction t done refused = absurd t.by
  trial-halted NoMembers t done refused = absurd t.by

  -- a run that was carried out to its end has all steps
  pub all-tried : (status : Status) (t : IsTried (script_text n) status events s s') → (status ≡ Done) ⊎ (status ≡ DoneRefused) → AreAll (script_text n) t.steps
  all-tried status t (inl done) = (subst (λ (x : Status). TriedBy (script_text n) x t.steps t.world) done t.by).0
  all-tried status t (inr refused) = (subst (λ (x : Status). TriedBy (script_text n) x t.steps t.world) refused t.by).0

  -- all steps of the script were carried out
  module _ (status : Status) (t : IsTried (script_text n) status events s s') (all : AreAll (script_text n) t.steps) where
    -- there was no memory for the summary
    pub trial-unsaid : IsTrial n written k k faults NoMemory events s s'
    trial-unsaid = record {
      world = t.world;
      steps = t.steps;
      ends = (record { done = length (tasks (script_text n)); within = omega arith; same = all ∙ sym (take-length (tasks (script_text n))) }, refl);
      writes = refl;
      stands = t.stands;
    }

    module _ (k' : K) where
      abbrev report : Report
      report = summary_report (length (lines (script_text n))) events

      whole : Gave written k k' report.text → Gave written k k' (trial_text n t.world.events)
      whole gave = subst (λ es. Gave written k k' (trial_text n es)) t.stands.journal gave

      part : GavePart written k k' report.text → GavePart written k k' (trial_text n t.world.events)
      part gave = subst (λ es. GavePart written k k' (trial_text n es)) t.stands.journal gave

      ends-put : (result : Status) → Reports written k k' faults report result → EndsTrial n written k k' result t.steps t.world
      ends-put Done put = (all, whole put.1)
      ends-put WriteFault put = (all, part put.0)
      ends-put DoneRefused put = absurd (let is = put.0 in cc)
      ends-put Usage put = absurd (let is = put.0 in cc)
      ends-put ReadFault put = absurd (let is = put.0 in cc)
      ends-put NoMemory put = absurd (let is = put.0 in cc)
      ends-put TooLong put = absurd (let is = put.0 in cc)
      ends-put BadImage put = absurd (let is = put.0 in cc)
      ends-put Contradiction put = absurd (let is = put.0 in cc)
      ends-put NoMembers put = absurd (let is = put.0 in cc)

      pub trial-put : (result : Status) → Reports written k k' faults report result → Counted (is_write_fault result) (faults k) (faults k') → IsTrial n written k k' faults result events s s'
      trial-put result put writes = record { world = t.world; steps = t.steps; ends = ends-put result put; writes = writes; stands = t.stands }

-- the status of a summary's report counts as it says
pub put-counts : {K : Type 0} (written : K → Option (List ℕ)) (faults : K → ℕ) (k k' : K) (r : Report) (result : Status) → Reports written k k' faults r result → Counted (is_write_fault result) (faults k) (faults k')
put-counts written faults k k' r Done put = put.2
put-counts written faults k k' r DoneRefused put = put.2
put-counts written faults k k' r Usage put = put.2
put-counts written faults k k' r ReadFault put = put.2
put-counts written faults k k' r WriteFault put = put.1
put-counts written faults k k' r NoMemory put = put.2
put-counts written faults k k' r TooLong put = put.2
put-counts written faults k k' r BadImage put = put.2
put-counts written faults k k' r Contradiction put = put.2
put-counts written faults k k' r NoMembers put = put.2

-- there was no memory for the script, or for the words
pub trial-unbegun : {K : Type 0} (n : ℕ) (written : K → Option (List ℕ)) (faults : K → ℕ) (k : K) (s : PlantState) → IsFresh s → IsTrial n written k k faults NoMemory [] s s
trial-unbegun n written faults k s fresh = record {
  world = _;
  steps = [];
  ends = (record { done = 0; within = omega arith; same = refl }, refl);
  writes = refl;
  stands = stands-unbegun s fresh;
}
