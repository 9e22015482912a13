use Rattle.std.proofs.Common.{arith}
use Rattle.dr_image.specs.Shown.{all_shown, put_last}
use Rattle.dr_image.proofs.SoundLemmas.{kept-block, put_last-sound, either_sound}
use Rattle.dr_image.proofs.image.Image.push_block.Goals as goal

pub invariant_of-self : goal.invariant_of-self
invariant_of-self c =
    let vs = all_shown c.self.inside.volumes.items in
    let k = c.args.index in
    let bytes = c.args.bytes.now in
    either_sound c.put_last.result (all_shown c.put_last.new.volumes.items) (put_last k bytes vs) vs c.put_last.ensures.ok c.put_last.ensures.err
    (put_last-sound k bytes vs c.self.invariant (kept-block k bytes (omega arith) c.told-bytes c.fits-bytes)) c.self.invariant
