use Rattle.std.proofs.Common.{rules, of_calls, nat_lt}
use Rattle.std.proofs.lemmas.Fn.{always_returns_same}
use Rattle.dr_image.specs.declared.held.KeptBlock.{KeptBlock}
use Rattle.dr_image.proofs.PlaceLemmas.{parted, point-place}
use Rattle.dr_image.proofs.held.place_from.Goals as goal

pub returns : goal.returns
returns c =
    let bs = c.args.blocks.now in
    point-place c.args.index bs c.partition_point.result c.partition_point.ensures.bound
    (c.partition_point.ensures.partitioned (λ (b : KeptBlock). nat_lt b.index c.args.index) (always_returns_same _ _ _ (λ a r f k. search (rules, of_calls))) (parted c.args.index bs c.requires))
