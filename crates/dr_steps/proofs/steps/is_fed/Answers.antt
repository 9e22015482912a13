use Rattle.std.proofs.Common.{◌&&◌, ap, sym, ◌∙◌}
use Rattle.dr_model.specs.Layout.{is_part}
use Rattle.dr_model.specs.Pairs.{is_cascaded}
use Rattle.dr_volume.specs.declared.head.Head.{Head}
use Rattle.dr_volume.specs.View.{volume_seen}
use Rattle.dr_steps.proofs.steps.is_fed.Goals as goal

pub peek_head-requires-clause-defined : goal.peek_head-requires-clause-defined
peek_head-requires-clause-defined g c = c.requires.to (sym c.if-not-goes_over.ensures)

pub returns-then-not-goes_over : goal.returns-then-not-goes_over
returns-then-not-goes_over g c =
    let u = volume_seen (g.P.Plant.state c.args.plant.now) c.args.config.now c.args.fields.now.primary_partner.0 in
    ap (λ b. b && is_cascaded u.fields) c.if-not-goes_over.ensures

pub returns : goal.returns
returns g c =
    let u = volume_seen (g.P.Plant.state c.args.plant.now) c.args.config.now c.args.fields.now.primary_partner.0 in
    c.is_cascaded.ensures ∙ ap (λ (x : Head). is_part x.primary && is_part x.secondary) c.peek_head.ensures ∙ ap (λ b. b && is_cascaded u.fields) c.if-not-goes_over.ensures
