use Rattle.std.proofs.Common.{not, ◌||◌, ap, sym, ◌∙◌}
use Rattle.dr_model.specs.Layout.{is_part}
use Rattle.dr_model.specs.Pairs.{is_suspended}
use Rattle.dr_volume.specs.declared.head.Head.{Head}
use Rattle.dr_steps.specs.Here.{rest_of}
use Rattle.dr_steps.proofs.BackgroundLemmas.{source-free, source-held}
use Rattle.dr_steps.proofs.background.source_refusal.Goals as goal

pub returns-then-may_take-clause-refusal : goal.returns-then-may_take-clause-refusal
returns-then-may_take-clause-refusal g c h events =
    source-free _ _ (ap (λ (h : Head). not c.args.f.now.reversing || (not (is_part h.primary) || is_suspended h.primary_state)) (sym c.peek_head.ensures) ∙ sym c.may_take.ensures ∙ c.if-may_take.true)

pub returns-clause-refusal : goal.returns-clause-refusal
returns-clause-refusal g c h events =
    source-held _ _ _ (ap (λ (h : Head). not c.args.f.now.reversing || (not (is_part h.primary) || is_suspended h.primary_state)) (sym c.peek_head.ensures) ∙ sym c.may_take.ensures ∙ c.if-may_take.false) (c.pair_state.ensures.refusal (rest_of h events) events)
