use Rattle.std.proofs.Common.{◌∙◌, ap, sym, arith}
use Rattle.std.specs.Prelude.{slice_get}
use Rattle.std.specs.Option.{option_map_or}
use Rattle.dr_top.specs.Trials.{group_after}
use Rattle.dr_top.proofs.SummaryLemmas.{group-more}
use Rattle.dr_top.proofs.summary.last_group.Goals as goal

pub loop-i-preserved : goal.loop-i-preserved
loop-i-preserved c =
    let es = c.args.journal.now.events in
    let i = c.loop-i.i in
    c.group_after-group.ensures
    ∙ ap (λ e. option_map_or (λ x. group_after c.loop-i.group x) e c.loop-i.group) c.event.ensures
    ∙ ap (λ n. option_map_or (λ x. group_after n x) (slice_get es i) n) c.loop-i.invariant
    ∙ sym (group-more es i (let lt = c.loop-i-test.true in let len = c.len-i-end.ensures in omega (arith, lt, len)))
