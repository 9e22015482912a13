-- The members after the lines of a recovery, one line after another.
use Rattle.std.proofs.Common.{ℕ, ◌≡◌, ◌+◌, List, [], ◌∷◌, ◌++◌, length, map, refl, ap, ◌∙◌, sym, append_assoc, arith}
use Rattle.std.proofs.lemmas.List.{append-nil}
use Rattle.dr_model.specs.Control.{World}
use Rattle.dr_model.specs.Grammar.{line_of}
use Rattle.dr_model.specs.Lines.{tasks_of}
use Rattle.dr_model.specs.Listed.{as_asked}
use Rattle.dr_model.specs.Runs.{Task, after_tasks}
use Rattle.dr_rows.specs.declared.row.Members.{Members}
use Rattle.dr_sweep.specs.Moments.{AreMembers, members_after, recovered_in}
use Rattle.dr_top.proofs.TaskLemmas.{tasks-then, tasks-none}

-- those after one line more
pub members-more : (w : World) (number : ℕ) (ls : List (List ℕ)) (line : List ℕ) (steps further : List Task) (members more : List Members) → AreMembers w number ls steps members → map as_asked further ≡ tasks_of (number + length ls) line
    → more ≡ members_after (recovered_in (line_of line)) (after_tasks (after_tasks w steps) further) → AreMembers w number (ls ++ line ∷ []) (steps ++ further) (members ++ more)
members-more w number [] line steps further members more are asks is = record {
  first = further;
  rest = [];
  cut = ap (λ (ts : List Task). ts ++ further) are.0 ∙ sym (append-nil further);
  asks = asks ∙ (let same : number + length {A = List ℕ} [] ≡ number = omega arith in ap (λ n. tasks_of n line) same);
  more = [];
  are = ap (λ (ms : List Members). ms ++ more) are.1 ∙ is ∙ ap (λ (ts : List Task). members_after (recovered_in (line_of line)) (after_tasks (after_tasks w ts) further)) are.0
      ∙ ap (λ (u : World). members_after (recovered_in (line_of line)) (after_tasks u further)) (tasks-none w) ∙ sym (append-nil _);
  others = (refl, refl);
}
members-more w number (l ∷ ls) line steps further members more are asks is = record {
  first = are.first;
  rest = are.rest ++ further;
  cut = ap (λ (ts : List Task). ts ++ further) are.cut ∙ append_assoc are.first are.rest further;
  asks = are.asks;
  more = are.more ++ more;
  are = ap (λ (ms : List Members). ms ++ more) are.are ∙ append_assoc _ are.more more;
  others = members-more (after_tasks w are.first) (number + 1) ls line are.rest further are.more more are.others (asks ∙ (let same : number + length (l ∷ ls) ≡ number + 1 + length ls = omega arith in ap (λ n. tasks_of n line) same))
      (is ∙ ap (λ (u : World). members_after (recovered_in (line_of line)) (after_tasks u further)) (ap (after_tasks w) are.cut ∙ tasks-then w are.first are.rest));
}
