use Rattle.std.proofs.Common.{◌<◌, ◌∙◌, ap, sym, subst, false, arith}
use Rattle.dr_ids.specs.Sizes.{track_block}
use Rattle.dr_plant.specs.State.{HasBlock}
use Rattle.dr_volume.proofs.VolumeLaws.{placed, device-placed, track-staged, track-blank, track-not_staged, own-block, track-few}
use Rattle.dr_volume.proofs.opened.Opened.peek_track.Goals as goal

pub returns-then-is_staged : goal.returns-then-is_staged
returns-then-is_staged g c =
    track-staged (g.P.Plant.state c.args.plant.now) c.args.config.now c.args.v.0 c.args.t c.args.self.now.fields c.requires.defined c.requires.within c.requires.opened.shows
    (sym c.is_staged.ensures ∙ c.if-is_staged.true)

pub returns-then-contains : goal.returns-then-contains
returns-then-contains g c =
    c.zero_block.ensures ∙ track-blank (g.P.Plant.state c.args.plant.now) c.args.config.now c.args.v.0 c.args.t c.args.self.now.fields c.requires.defined c.requires.within c.requires.opened.shows
    (sym c.is_staged.ensures ∙ c.if-is_staged.false)
    (sym c.contains.ensures.found ∙ c.if-contains.true)

pub track_block-requires : goal.track_block-requires
track_block-requires g c =
    let low : c.args.t < 256 = track-few (g.P.Plant.state c.args.plant.now) c.args.config.now c.args.v.0 c.args.t c.tell_sound.ensures c.requires.defined c.requires.within in
    omega arith

pub peek-requires : goal.peek-requires
peek-requires g c =
    subst (λ n. HasBlock (g.P.Plant.state c.args.plant.now) c.args.self.now.gate.device.0 n) (sym c.track_block.ensures)
    (own-block (g.P.Plant.state c.args.plant.now) c.args.config.now c.args.v.0 c.args.self.now.gate.device.0 c.args.t c.requires.defined c.requires.stands c.requires.opened.gate.device c.requires.within)

pub returns : goal.returns
returns g c =
    let s = g.P.Plant.state c.args.plant.now in
    let at = placed c.args.config.now c.args.v.0 c.requires.defined in
    c.peek.ensures
    ∙ ap (λ n. s.block c.args.self.now.gate.device.0 n) c.track_block.ensures ∙ ap (λ d. s.block d (track_block c.args.t)) (c.requires.opened.gate.device ∙ device-placed c.args.config.now c.args.v.0 at.0 at.2)
    ∙ track-not_staged s c.args.config.now c.args.v.0 at.0 c.args.t at.1 c.args.self.now.fields false at.2 at.3 c.requires.within c.requires.opened.shows
    (sym c.is_staged.ensures ∙ c.if-is_staged.false)
    (sym c.contains.ensures.found ∙ c.if-contains.false)
