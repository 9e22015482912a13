use Rattle.std.proofs.Common.{ap, sym, subst, ◌∙◌, List}
use Rattle.dr_model.specs.PlantImage.{block_in}
use Rattle.dr_image.specs.declared.held.KeptBlock.{KeptBlock}
use Rattle.dr_image.specs.Shown.{all_kept}
use Rattle.dr_image.proofs.OrderLemmas.{InOrder}
use Rattle.dr_image.proofs.PlaceLemmas.{block-nowhere, block-there, blocks-order}
use Rattle.dr_image.proofs.held.block_at.Goals as goal

pub find_block-requires : goal.find_block-requires
find_block-requires c =
    subst (λ (bs : List KeptBlock). InOrder (all_kept bs)) (sym c.deref.ensures.value) (blocks-order c.args.volumes.now c.args.place c.index-volumes-place.result c.requires c.if-place-volumes.true)

pub returns-then-place-volumes : goal.returns-then-place-volumes
returns-then-place-volumes c =
    c.find_block.ensures ∙ ap (λ (bs : List KeptBlock). block_in (all_kept bs) c.args.index) c.deref.ensures.value
    ∙ sym (block-there c.args.volumes.now c.args.place c.args.index c.index-volumes-place.result c.if-place-volumes.true)

pub returns-else-place-volumes : goal.returns-else-place-volumes
returns-else-place-volumes c = c.zero_block.ensures ∙ sym (block-nowhere c.args.volumes.now c.args.place c.args.index c.if-place-volumes.false)
