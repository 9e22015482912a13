use Rattle.std.proofs.Common.{◌≡◌, ◌+◌, ◌++◌, arith, sym, ap, subst, ◌∙◌, rules}
use Rattle.dr_ids.specs.Sizes.{blocks_of}
use Rattle.dr_model.specs.Layout.{Blocks}
use Rattle.dr_model.specs.Listed.{kept_blocks}
use Rattle.dr_volume.specs.View.{volume_seen}
use Rattle.dr_volume.proofs.VolumeLaws.{device-placed}
use Rattle.dr_listing.specs.Told.{kept_lines, AreBlocks}
use Rattle.dr_listing.proofs.TakenLemmas.{told-next}
use Rattle.dr_listing.proofs.KeptLemmas.{kept-next, blocks-next}
use Rattle.dr_listing.proofs.ImageLemmas.{tracks-found, tracks-seen, placed-on, has-block, device-listed}
use Rattle.dr_listing.proofs.devices.push_blocks.Goals as goal

pub unwrap-requires : goal.unwrap-requires
unwrap-requires g c = tracks-found c.args.config.now c.args.v.0 c.tracks_of.result c.requires.defined c.tracks_of.ensures.value

pub block_line-requires : goal.block_line-requires
block_line-requires g c =
    let s = g.P.Plant.state c.args.plant.now in
    let t = c.args.config.now in
    let place = placed-on t c.args.v.0 c.device_of.result c.unwrap-device.result c.device_of.ensures.place c.unwrap-device.ensures in
    let tracks = tracks-seen s t c.args.v.0 c.tracks_of.result c.unwrap.result c.requires.defined c.tracks_of.ensures.value c.unwrap.ensures in
    has-block s t c.args.v.0 c.unwrap-device.result.0 c.loop-index.index c.requires.stands place (let e = c.blocks_of-blocks.ensures in let f = c.loop-index-test.true in omega (arith, e, f, tracks))

pub loop-index-preserved : goal.loop-index-preserved
loop-index-preserved g c = record {
  told =
      let b = (g.P.Plant.state c.args.plant.now).block c.unwrap-device.result.0 in
      told-next c.args.journal.now.events _ _ _ c.loop-index.journal.events c.push.new.journal.events c.loop-index.invariant.told (c.push.ensures.told ∙ ap (λ es. c.loop-index.journal.events ++ es) c.block_line.ensures.line) (kept-next c.args.v.0 c.loop-index.index b);
  blocks = blocks-next c.loop-index.index ((g.P.Plant.state c.args.plant.now).block c.unwrap-device.result.0) c.loop-index.invariant.blocks c.block_line.ensures.block;
  left = let a = c.loop-index.invariant.left in let b = c.push.ensures.left in omega (arith, a, b);
}

pub returns-clause-told : goal.returns-clause-told
returns-clause-told g c r =
    let s = g.P.Plant.state c.args.plant.now in
    let t = c.args.config.now in
    let v = c.args.v.0 in
    let place = placed-on t v c.device_of.result c.unwrap-device.result c.device_of.ensures.place c.unwrap-device.ensures in
    let tracks = tracks-seen s t v c.tracks_of.result c.unwrap.result c.requires.defined c.tracks_of.ensures.value c.unwrap.ensures in
    let end : c.loop-index.index ≡ blocks_of (volume_seen s t v).tracks = (let e = c.blocks_of-blocks.ensures in let f = c.loop-index-test.false in let a = c.loop-index.auto.index-end in omega (arith, e, f, a, tracks)) in
    let device = device-listed s t r v c.unwrap-device.result.0 place in
    c.loop-index.invariant.told ∙ (λ i. c.args.journal.now.events ++ kept_lines v (kept_blocks (end i) (s.block (sym device i))))

pub returns-clause-readable : goal.returns-clause-readable
returns-clause-readable g c =
    let s = g.P.Plant.state c.args.plant.now in
    let t = c.args.config.now in
    let v = c.args.v.0 in
    let place = placed-on t v c.device_of.result c.unwrap-device.result c.device_of.ensures.place c.unwrap-device.ensures in
    let tracks = tracks-seen s t v c.tracks_of.result c.unwrap.result c.requires.defined c.tracks_of.ensures.value c.unwrap.ensures in
    let end : c.loop-index.index ≡ blocks_of (volume_seen s t v).tracks = (let e = c.blocks_of-blocks.ensures in let f = c.loop-index-test.false in let a = c.loop-index.auto.index-end in omega (arith, e, f, a, tracks)) in
    record {
      defined = c.requires.defined;
      number = search rules;
      blocks = subst (λ (b : Blocks). AreBlocks (blocks_of (volume_seen s t v).tracks) b) (sym (ap s.block (device-placed t v c.unwrap-device.result.0 place))) (subst (λ n. AreBlocks n (s.block c.unwrap-device.result.0)) end c.loop-index.invariant.blocks);
    }
