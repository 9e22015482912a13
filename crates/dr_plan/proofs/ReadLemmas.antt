-- A plan that is read line by line.
use Rattle.std.proofs.Common.{ℕ, ◌≡◌, ◌+◌, Bool, true, false, List, [], ◌∷◌, ◌++◌, length, refl, ap, sym, ◌∙◌, arith, cond, nat_eq, Option, Some, None, ◌⊎◌, inl, inr}
use Rattle.std.specs.Prelude.{Result, Ok, Err, ◌&&◌}
use Rattle.std.proofs.lemmas.Bool.{cases_Bool}
use Rattle.std.proofs.lemmas.Bool.Decides.{nat_tests}
use Rattle.dr_logic.proofs.Truth.{false_true}
use Rattle.dr_model.specs.declared.step.Step.{Step}
use Rattle.dr_model.specs.Grammar.{line_of}
use Rattle.dr_plan.specs.declared.marks.Mark.{Mark}
use Rattle.dr_plan.specs.declared.reading.Reading.{Reading}
use Rattle.dr_plan.specs.declared.reason.Reason.{Reason}
use Rattle.dr_plan.specs.declared.reason.Reason.TheVariants.{NoLineFollows}
use Rattle.dr_plan.specs.declared.stages.Stage.{Stage}
use Rattle.dr_plan.specs.Marks.{is_mark, mark_of}
use Rattle.dr_plan.specs.Parts.{IsMark, BeginWithStep}
use Rattle.dr_plan.specs.Reading.{Bad, announces, stage_after, kept, noted, moved, marked_in, marked, plain, read_on, read_lines, finished}
use Rattle.dr_plan.specs.Sweep.{Sweep}
use Rattle.dr_plan.proofs.OwnLemmas.{own-comment}
use Rattle.dr_plan.proofs.FollowLemmas.{MayStand}

-- ---- lines

pub line-bad : (number : ℕ) (r : Reading) (line : List ℕ) (rest : List (List ℕ)) (reason : Reason) → read_on number r line ≡ Err reason → read_lines number r (line ∷ rest) ≡ Err (record { line = number; reason = reason })
unfolding read_lines
line-bad number r line rest reason h = ap (λ o. elim o as (λ _. Result Sweep Bad) [ Err reason ↦ Err (record { line = number; reason = reason }) | Ok next ↦ read_lines (number + 1) next rest ]) h

pub line-more : (number : ℕ) (r next : Reading) (line : List ℕ) (rest : List (List ℕ)) → read_on number r line ≡ Ok next → read_lines number r (line ∷ rest) ≡ read_lines (number + 1) next rest
unfolding read_lines
line-more number r next line rest h = ap (λ o. elim o as (λ _. Result Sweep Bad) [ Err reason ↦ Err (record { line = number; reason = reason }) | Ok next ↦ read_lines (number + 1) next rest ]) h

pub lines-done : (number : ℕ) (r : Reading) → read_lines number r [] ≡ finished number r
unfolding read_lines
lines-done number r = refl

-- ---- one line

-- a line that is none of the plan's own
pub read-plain : (number : ℕ) (r : Reading) (line : List ℕ) (steps : List Step) → is_mark line ≡ false → line_of line ≡ Ok steps → (r.waits && nat_eq (length steps) 0) ≡ false
    → read_on number r line ≡ Ok (record r { waits = false; plan = kept r.stage number line steps r.plan })
unfolding read_on
read-plain number r line steps e is room =
    ap (λ b. cond b (cond r.waits (Err NoLineFollows) (marked number r line (mark_of line))) (plain number r line (line_of line))) e
    ∙ ap (plain number r line) is
    ∙ ap (λ b. cond b (Err NoLineFollows) (Ok (record r { waits = false; plan = kept r.stage number line steps r.plan }))) room

-- a line that may stand leaves no announcement without its line
pub has-room : (waits : Bool) (line : List ℕ) (steps : List Step) → line_of line ≡ Ok steps → (waits ≡ true → BeginWithStep (line ∷ [])) → (waits && nat_eq (length steps) 0) ≡ false
has-room false line steps is some = refl
has-room true line [] is some = let s = some refl in let both : Ok [] ≡ Ok (s.0 ∷ s.1) = sym is ∙ s.2 in absurd cc
has-room true line (step ∷ steps) is some = let filled : nat_eq (length (step ∷ steps)) 0 ≡ false = grind (arith, nat_tests) in filled

pub may-stand-room : (waits : Bool) (line : List ℕ) (m : MayStand waits line) → (waits && nat_eq (length m.steps) 0) ≡ false
may-stand-room waits line m = has-room waits line m.steps m.read m.some

-- a line of the plan's own stands after no announcement
pub not-waiting : (waits : Bool) (line : List ℕ) → is_mark line ≡ true → MayStand waits line → waits ≡ false
not-waiting waits line e m = by (cases_Bool waits)
  where
    by : (waits ≡ true) ⊎ (waits ≡ false) → waits ≡ false
    by (inl w) = let s = m.some w in let both : Ok [] ≡ Ok (s.0 ∷ s.1) = sym (own-comment line e) ∙ s.2 in absurd cc
    by (inr w) = w

pub read-mark : (number : ℕ) (line : List ℕ) (mark : Mark) (stage after : Stage) (plan next : Sweep) → IsMark line mark → stage_after mark stage ≡ Some after → noted number stage mark line plan ≡ Ok next
    → read_on number (record { stage = stage; waits = false; plan = plan }) line ≡ Ok (record { stage = after; waits = announces mark; plan = next })
unfolding read_on
read-mark number line mark stage after plan next m goes notes =
    let r : Reading = record { stage = stage; waits = false; plan = plan } in
    ap (λ b. cond b (marked number r line (mark_of line)) (plain number r line (line_of line))) m.0
    ∙ ap (marked number r line) m.1
    ∙ ap (marked_in number r line mark) goes
    ∙ ap (moved mark after) notes

-- ---- what a line that was read says

-- a line that was read, by what it is
pub data WasRead (number : ℕ) (r : Reading) (line : List ℕ) (next : Reading) : Type 0 where
  OfSteps : (steps : List Step) → is_mark line ≡ false → line_of line ≡ Ok steps → (r.waits && nat_eq (length steps) 0) ≡ false → next ≡ record r { waits = false; plan = kept r.stage number line steps r.plan } → WasRead number r line next
  OfMark : (mark : Mark) (after : Stage) (plan : Sweep) → IsMark line mark → r.waits ≡ false → stage_after mark r.stage ≡ Some after → noted number r.stage mark line r.plan ≡ Ok plan → next ≡ record { stage = after; waits = announces mark; plan = plan } → WasRead number r line next

pub same-Ok : {A B : Type 0} (a b : A) → ◌≡◌ {A = Result A B} (Ok a) (Ok b) → a ≡ b
same-Ok a b e = cc

pub was-read : (number : ℕ) (r next : Reading) (line : List ℕ) → read_on number r line ≡ Ok next → WasRead number r line next
unfolding read_on
was-read number r next line h = by (cases_Bool (is_mark line))
  where
    noted_as : (mark : Mark) (after : Stage) → is_mark line ≡ true → mark_of line ≡ Some mark → r.waits ≡ false → stage_after mark r.stage ≡ Some after → (n : Result Sweep Reason) → noted number r.stage mark line r.plan ≡ n → moved mark after n ≡ Ok next → WasRead number r line next
    noted_as mark after e is w goes (Err reason) notes k = absurd cc
    noted_as mark after e is w goes (Ok plan) notes k = OfMark mark after plan (e, is) w goes notes (sym (same-Ok _ _ k))

    staged : (mark : Mark) → is_mark line ≡ true → mark_of line ≡ Some mark → r.waits ≡ false → (s : Option Stage) → stage_after mark r.stage ≡ s → marked_in number r line mark s ≡ Ok next → WasRead number r line next
    staged mark e is w None goes k = absurd cc
    staged mark e is w (Some after) goes k = noted_as mark after e is w goes (noted number r.stage mark line r.plan) refl k

    said : is_mark line ≡ true → r.waits ≡ false → (m : Option Mark) → mark_of line ≡ m → marked number r line m ≡ Ok next → WasRead number r line next
    said e w None is k = absurd cc
    said e w (Some mark) is k = staged mark e is w (stage_after mark r.stage) refl k

    own : is_mark line ≡ true → (r.waits ≡ true) ⊎ (r.waits ≡ false) → cond r.waits (Err NoLineFollows) (marked number r line (mark_of line)) ≡ Ok next → WasRead number r line next
    own e (inl w) k = let bad : Err NoLineFollows ≡ Ok next = sym (ap (λ b. cond b (Err NoLineFollows) (marked number r line (mark_of line))) w) ∙ k in absurd cc
    own e (inr w) k = said e w (mark_of line) refl (sym (ap (λ b. cond b (Err NoLineFollows) (marked number r line (mark_of line))) w) ∙ k)

    roomy : (steps : List Step) → is_mark line ≡ false → line_of line ≡ Ok steps → ((r.waits && nat_eq (length steps) 0) ≡ true) ⊎ ((r.waits && nat_eq (length steps) 0) ≡ false) → plain number r line (Ok steps) ≡ Ok next → WasRead number r line next
    roomy steps e is (inl b) k = let bad : Err NoLineFollows ≡ Ok next = sym (ap (λ b. cond b (Err NoLineFollows) (Ok (record r { waits = false; plan = kept r.stage number line steps r.plan }))) b) ∙ k in absurd cc
    roomy steps e is (inr b) k = OfSteps steps e is b (sym (same-Ok _ _ (sym (ap (λ b. cond b (Err NoLineFollows) (Ok (record r { waits = false; plan = kept r.stage number line steps r.plan }))) b) ∙ k)))

    steps_in : is_mark line ≡ false → (read : Result (List Step) ℕ) → line_of line ≡ read → plain number r line read ≡ Ok next → WasRead number r line next
    steps_in e (Err column) is k = absurd cc
    steps_in e (Ok steps) is k = roomy steps e is (cases_Bool (r.waits && nat_eq (length steps) 0)) k

    by : (is_mark line ≡ true) ⊎ (is_mark line ≡ false) → WasRead number r line next
    by (inl e) = own e (cases_Bool r.waits) (sym (ap (λ b. cond b (cond r.waits (Err NoLineFollows) (marked number r line (mark_of line))) (plain number r line (line_of line))) e) ∙ h)
    by (inr e) = steps_in e (line_of line) refl (sym (ap (λ b. cond b (cond r.waits (Err NoLineFollows) (marked number r line (mark_of line))) (plain number r line (line_of line))) e) ∙ h)

-- a line that was read may stand there
pub stood : (waits : Bool) (line : List ℕ) (steps : List Step) → line_of line ≡ Ok steps → (waits && nat_eq (length steps) 0) ≡ false → MayStand waits line
stood waits line steps is room = record { steps = steps; read = is; some = λ w. begins steps is w (sym (ap (λ b. b && nat_eq (length steps) 0) w) ∙ room) }
  where
    begins : (steps : List Step) → line_of line ≡ Ok steps → waits ≡ true → nat_eq (length steps) 0 ≡ false → BeginWithStep (line ∷ [])
    begins [] is w e = absurd cc
    begins (step ∷ steps) is w e = (step, steps, is)

pub stood-own : (waits : Bool) (line : List ℕ) → is_mark line ≡ true → waits ≡ false → MayStand waits line
stood-own waits line e w = record { steps = []; read = own-comment line e; some = λ t. false_true w t }

-- a plan is no bad line
pub plan-not-bad : {P : Type 0} (plan : Sweep) (bad : Bad) → ◌≡◌ {A = Result Sweep Bad} (Ok plan) (Err bad) → P
plan-not-bad plan bad e = absurd cc

-- ---- a reading after lines

unfoldable pub run : ℕ → Reading → List (List ℕ) → Option Reading
run number r [] = Some r
run number r (line ∷ rest) = elim (read_on number r line) as (λ _. Option Reading) [ Err reason ↦ None | Ok next ↦ run (number + 1) next rest ]

pub run-none : (number : ℕ) (r : Reading) → run number r [] ≡ Some r
unfolding run
run-none number r = refl

pub run-more : (number : ℕ) (r mid : Reading) (line : List ℕ) (rest : List (List ℕ)) → read_on number r line ≡ Ok mid → run number r (line ∷ rest) ≡ run (number + 1) mid rest
unfolding run
run-more number r mid line rest is = ap (λ o. elim o as (λ _. Option Reading) [ Err reason ↦ None | Ok next ↦ run (number + 1) next rest ]) is

-- lines of which those before were read
pub run-then : (number k : ℕ) (r mid : Reading) (a b : List (List ℕ)) → k ≡ number + length a → run number r a ≡ Some mid → run number r (a ++ b) ≡ run k mid b
unfolding run
run-then number k r mid [] b e is = let same : r ≡ mid = cc in λ i. run ((let n : number ≡ k = omega arith in n) i) (same i) b
run-then number k r mid (line ∷ a) b e is = by (read_on number r line) refl is (λ next ran. run-then (number + 1) k next mid a b (omega (arith, e)) ran)
  where
    by : (o : Result Reading Reason) → read_on number r line ≡ o → (elim o as (λ _. Option Reading) [ Err reason ↦ None | Ok next ↦ run (number + 1) next a ]) ≡ Some mid → ((next : Reading) → run (number + 1) next a ≡ Some mid → run (number + 1) next (a ++ b) ≡ run k mid b)
        → run number r (line ∷ a ++ b) ≡ run k mid b
    by (Err reason) h ran further = absurd cc
    by (Ok next) h ran further = run-more number r next line (a ++ b) h ∙ further next ran

pub run-read : (number k : ℕ) (r next : Reading) (lines more : List (List ℕ)) → k ≡ number + length lines → run number r lines ≡ Some next → read_lines number r (lines ++ more) ≡ read_lines k next more
unfolding run
run-read number k r next [] more e is = let same : r ≡ next = cc in λ i. read_lines ((let n : number ≡ k = omega arith in n) i) (same i) more
run-read number k r next (line ∷ rest) more e is = by (read_on number r line) refl is (λ mid ran. run-read (number + 1) k mid next rest more (omega (arith, e)) ran)
  where
    by : (o : Result Reading Reason) → read_on number r line ≡ o → (elim o as (λ _. Option Reading) [ Err reason ↦ None | Ok mid ↦ run (number + 1) mid rest ]) ≡ Some next → ((mid : Reading) → run (number + 1) mid rest ≡ Some next → read_lines (number + 1) mid (rest ++ more) ≡ read_lines k next more)
        → read_lines number r (line ∷ rest ++ more) ≡ read_lines k next more
    by (Err reason) h ran further = absurd cc
    by (Ok mid) h ran further = line-more number r mid line (rest ++ more) h ∙ further mid ran
