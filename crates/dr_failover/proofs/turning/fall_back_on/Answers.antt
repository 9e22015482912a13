use Rattle.std.proofs.Common.{ap, ◌∙◌}
use Rattle.std.specs.FinSet.{union}
use Rattle.dr_model.specs.Layout.{Fields}
use Rattle.dr_model.specs.Moves.{FallBack}
use Rattle.dr_model.specs.Pairs.{next_state, with_more}
use Rattle.dr_failover.proofs.turning.fall_back_on.Goals as goal

pub returns : goal.returns
returns g c =
    let more = c.unsent-theirs.ensures ∙ ap (λ (f : Fields). union f.out_of_sync f.change_recording) c.peek_fields.ensures.fields in
    let state = c.next_state-state.ensures ∙ ap next_state (c.with_more.ensures ∙ (λ i. with_more (more i) (c.peek_fields-2.ensures.fields i))) in
    λ i. FallBack c.args.x.0 (more i) (state i)
