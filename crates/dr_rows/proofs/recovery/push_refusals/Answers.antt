use Rattle.std.proofs.Common.{◌≡◌, ℕ, ◌+◌, ◌-◌, ◌++◌, List, ap, ◌∙◌, arith}
use Rattle.std.specs.Prelude.{count_by}
use Rattle.std.specs.List.{flat_map, range_with_len}
use Rattle.dr_rows.specs.Refusals.{refusal_said, refuses_line, refusals_said}
use Rattle.dr_rows.proofs.RangeLemmas.{said-more}
use Rattle.dr_rows.proofs.recovery.push_refusals.Goals as goal

pub loop-code-preserved : goal.loop-code-preserved
loop-code-preserved c =
    let code = c.loop-code.code in
    let from = c.loop-code.auto.code in
    let says : ℕ → List ℕ = λ k. refusal_said k (count_by (refuses_line c.args.number k) c.args.rows.now) in
    let at : 1 + (code - 1) ≡ code = omega arith in
    let next : code - 1 + 1 ≡ code + 1 - 1 = omega arith in
    c.in_ok-push_refusal.ensures
    ∙ ap (λ n. c.loop-code.text ++ refusal_said code n) c.refused_so.ensures
    ∙ ap (λ t. t ++ says code) c.loop-code.invariant
    ∙ said-more says c.args.text.now 1 (code - 1) code at
    ∙ ap (λ n. c.args.text.now ++ flat_map says (range_with_len 1 n)) next

pub returns : goal.returns
unfolding refusals_said
returns c =
    let says : ℕ → List ℕ = λ k. refusal_said k (count_by (refuses_line c.args.number k) c.args.rows.now) in
    let least = c.loop-code-test.false in
    let most = c.loop-code.auto.code-end in
    let from = c.loop-code.auto.code in
    let all : c.loop-code.code - 1 ≡ 25 = omega arith in
    c.loop-code.invariant ∙ ap (λ n. c.args.text.now ++ flat_map says (range_with_len 1 n)) all
