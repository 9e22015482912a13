use Rattle.std.proofs.Common.{ap, sym, subst, ◌∙◌}
use Rattle.dr_ids.specs.Sizes.{record_blocks}
use Rattle.dr_plant.specs.Writes.{IsDevice}
use Rattle.dr_model.specs.Layout as layout
use Rattle.dr_volume.specs.Head.{head_said, relation_in}
use Rattle.dr_volume.proofs.HeadLaws.{entry-there, device-there, head-at}
use Rattle.dr_volume.proofs.head.peek_relation_at.Goals as goal

pub relation_on-requires : goal.relation_on-requires
relation_on-requires g c =
    let s = g.P.Plant.state c.args.plant.now in
    let e = entry-there c.args.config.now c.args.place c.requires.there in
    subst (λ d. IsDevice s d record_blocks) (sym c.device_at.ensures) (device-there s c.args.config.now c.args.place e.0 c.requires.there e.1 c.requires.stands)

pub returns : goal.returns
returns g c =
    let s = g.P.Plant.state c.args.plant.now in
    let e = entry-there c.args.config.now c.args.place c.requires.there in
    c.relation_on.ensures
    ∙ ap (λ d. relation_in (head_said (layout.chosen (s.block d) 0))) c.device_at.ensures
    ∙ ap relation_in (sym (head-at s c.args.config.now c.args.place e.0 e.1))
