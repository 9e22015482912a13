use Rattle.std.proofs.Common.{ap, sym, ◌∙◌}
use Rattle.dr_model.specs.Layout.{is_part}
use Rattle.dr_volume.specs.declared.head.Head.{Head}
use Rattle.dr_recover.proofs.MemberLemmas.{take-skips, take-comes, take-turns}
use Rattle.dr_recover.proofs.taking.take_over_next.Goals as goal

pub returns-then-not-is_part-clause-comes : goal.returns-then-not-is_part-clause-comes
returns-then-not-is_part-clause-comes g c r events =
    take-skips (g.P.Plant.state c.args.plant.now) c.args.config.now r events c.args.m.now (sym (c.is_part.ensures ∙ ap (λ (f : Head). is_part f.secondary) c.peek_head.ensures) ∙ c.if-not-is_part.true)

pub returns-clause-comes : goal.returns-clause-comes
returns-clause-comes g c r events =
    take-comes (g.P.Plant.state c.args.plant.now) c.args.config.now r events c.args.m.now (sym (c.is_part.ensures ∙ ap (λ (f : Head). is_part f.secondary) c.peek_head.ensures) ∙ c.if-not-is_part.false)

pub returns-clause-turns : goal.returns-clause-turns
returns-clause-turns g c =
    take-turns (g.P.Plant.state c.args.plant.now) c.args.config.now c.args.m.now.b c.requires.secondary c.requires.running (sym (c.is_part.ensures ∙ ap (λ (f : Head). is_part f.secondary) c.peek_head.ensures) ∙ c.if-not-is_part.false)
