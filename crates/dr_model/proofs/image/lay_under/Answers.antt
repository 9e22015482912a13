use Rattle.std.proofs.Common.{◌<◌, arith}
use Rattle.dr_model.proofs.Overlay.{over-laid}
use Rattle.dr_model.proofs.image.lay_under.Goals as goal

pub returns : goal.returns
returns c under =
    over-laid c.args.known.now c.args.into.now c.loop-k.known c.loop-k.into c.args.offset c.args.bytes.now
    (λ q lt. c.loop-k.invariant.done q (let below : q < c.loop-k.k = omega arith in below)) under
