use Rattle.std.proofs.Common.{cond, not, ◌&&◌, ap, sym, ◌∙◌}
use Rattle.std.specs.Prelude.{is_some}
use Rattle.dr_model.specs.declared.state.PairState.TheVariants.{Suspended}
use Rattle.dr_model.specs.Carry.{Make, Do, Pass}
use Rattle.dr_model.specs.Moves.{Follow}
use Rattle.dr_model.specs.PairEntries.{belongs_to}
use Rattle.dr_moves.specs.Here.{world_seen}
use Rattle.dr_gcopy.specs.Heads.{secondary_by}
use Rattle.dr_gcopy.proofs.both.tell_next.Goals as goal

pub returns-in-Some-clause-comes : goal.returns-in-Some-clause-comes
returns-in-Some-clause-comes g c r events =
    let k = (world_seen (g.P.Plant.state c.args.plant.now) c.args.config.now r events).control in
    ap (λ o. cond (not (is_some o) && belongs_to c.args.a.0 c.args.b.0 k) (Do (Make (Follow c.args.b.0 Suspended))) Pass) (sym (c.in-Some.ensures.refusal r events))

pub returns-clause-comes : goal.returns-clause-comes
returns-clause-comes g c r events =
    let own = ap (secondary_by c.args.a.0) (sym c.peek_head.ensures) ∙ sym c.is_secondary_by.ensures ∙ c.if-not-is_secondary_by.false in
    λ i. cond (not (is_some (sym (c.in_default.ensures.refusal r events) i)) && own i) (Do (Make (Follow c.args.b.0 Suspended))) Pass
