use Rattle.std.proofs.Common.{◌++◌, [], ◌∙◌, ap, sym, arith, take}
use Rattle.std.specs.List.{filter_map, cons_option}
use Rattle.dr_sweep.specs.Answers.{answer_in}
use Rattle.dr_sweep.proofs.TellLemmas.{answers-more}
use Rattle.dr_sweep.proofs.answers.answers_of.Goals as goal

pub loop-place-preserved : goal.loop-place-preserved
loop-place-preserved c =
    let es = c.args.journal.now.events in
    let i = c.loop-place.place in
    c.in_ok-push_answer.ensures
    ∙ ap (λ xs. xs ++ cons_option c.answer_at.result []) c.loop-place.invariant
    ∙ ap (λ a. filter_map (answer_in c.args.before) (take i es) ++ cons_option a []) c.answer_at.ensures
    ∙ sym (answers-more c.args.before es i (let lt = c.loop-place-test.true in let len = c.len-place-end.ensures in omega (arith, lt, len)))
