-- Steps that were read from lines are steps that lines give.
use Rattle.std.proofs.Common.{ℕ, ◌≡◌, ◌+◌, refl, sym, subst, List, [], ◌∷◌, take, map, Result, Ok, Err}
use Rattle.std.specs.Prelude.{All, IfOk}
use Rattle.std.proofs.lemmas.List.Elements.{All-append, All-cons, All-head, All-map, All-nil, All-tail, All-take}
use Rattle.dr_model.specs.declared.step.Step.{Step}
use Rattle.dr_model.specs.Grammar.{line_of}
use Rattle.dr_model.specs.LineText.{IsWritten}
use Rattle.dr_model.specs.Lines.{task, tasks_read, tasks_of, tasks_from}
use Rattle.dr_model.specs.Listed.{as_asked}
use Rattle.dr_model.specs.Runs.{Task}
use Rattle.dr_script.proofs.WrittenLemmas.{line_written}
use Rattle.dr_laws_runs.specs.ServerNames.{AreWritten}

abbrev Written : Task → Type 0
Written t = IfOk t.asked IsWritten

-- those of one line
read-written : (n : ℕ) (read : Result (List Step) ℕ) → ((steps : List Step) → read ≡ Ok steps → All IsWritten steps) → AreWritten (tasks_read n read)
read-written n (Ok steps) given = All-map Written (λ (s : Step). task n (Ok s)) steps (given steps refl)
read-written n (Err column) given = All-cons Written (task n (Err column)) [] tt (All-nil Written)

-- all that lines ask for
pub lines-written : (n : ℕ) (ls : List (List ℕ)) → AreWritten (tasks_from n ls)
lines-written n [] = All-nil Written
lines-written n (l ∷ ls) = All-append Written (tasks_of n l) (tasks_from (n + 1) ls) (read-written n (line_of l) (line_written l)) (lines-written (n + 1) ls)

-- what a step lists is no part of what it asks for
listed-written : (steps : List Task) → AreWritten (map as_asked steps) → AreWritten steps
listed-written [] written = written
listed-written (t ∷ steps) written =
    All-cons Written t steps (All-head Written (as_asked t) (map as_asked steps) written) (listed-written steps (All-tail Written (as_asked t) (map as_asked steps) written))

-- the steps that lines ask for
pub steps-written : (n : ℕ) (ls : List (List ℕ)) (steps : List Task) → map as_asked steps ≡ tasks_from n ls → AreWritten steps
steps-written n ls steps is = listed-written steps (subst AreWritten (sym is) (lines-written n ls))

-- and the first ones of them
pub first-written : (n done : ℕ) (ls : List (List ℕ)) (steps : List Task) → map as_asked steps ≡ take done (tasks_from n ls) → AreWritten steps
first-written n done ls steps is = listed-written steps (subst AreWritten (sym is) (All-take Written done (tasks_from n ls) (lines-written n ls)))
