use Rattle.std.proofs.Common.{arith, ◌∙◌, ap}
use Rattle.std.proofs.lemmas.Slice.{between_to_end}
use Rattle.dr_bits.specs.Tracks.{of_bytes}
use Rattle.dr_volume.proofs.codes.second_set.Goals as goal

pub returns : goal.returns
returns c = c.from_bytes.ensures ∙ ap (λ bytes. of_bytes bytes) (c.copy_from_slice.ensures.after ∙ between_to_end c.args.block.now 32 64 (let e = c.told-block in omega arith))
