use Rattle.std.proofs.Common.{◌≡◌, ℕ, ◌+◌, ◌-◌, ◌++◌, List, ap, ◌∙◌, arith}
use Rattle.std.specs.List.{flat_map, range_with_len}
use Rattle.dr_rows.specs.Calm.{line_said}
use Rattle.dr_rows.proofs.RangeLemmas.{said-more}
use Rattle.dr_rows.proofs.calm.push_lines_said.Goals as goal

pub loop-number-preserved : goal.loop-number-preserved
loop-number-preserved c =
    let number = c.loop-number.number in
    let from = c.loop-number.auto.number in
    let more = c.loop-number-test.true in
    let end = c.then_line-number-end.ensures in
    let lines : ℕ → List ℕ = line_said c.args.plan.now c.args.calm.now in
    let at : 1 + (number - 1) ≡ number = omega arith in
    let next : number - 1 + 1 ≡ number + 1 - 1 = omega arith in
    record {
      within = omega arith;
      says =
          c.in_ok-push_line_said.ensures
          ∙ ap (λ t. t ++ lines number) c.loop-number.invariant.says
          ∙ said-more lines c.args.text.now 1 (number - 1) number at
          ∙ ap (λ n. c.args.text.now ++ flat_map lines (range_with_len 1 n)) next;
    }

pub returns : goal.returns
returns c =
    let lines : ℕ → List ℕ = line_said c.args.plan.now c.args.calm.now in
    let least = c.loop-number-test.false in
    let within = c.loop-number.invariant.within in
    let end = c.then_line-number-end.ensures in
    let all : c.loop-number.number - 1 ≡ c.args.plan.now.then_line - 1 = omega arith in
    c.loop-number.invariant.says ∙ ap (λ n. c.args.text.now ++ flat_map lines (range_with_len 1 n)) all
