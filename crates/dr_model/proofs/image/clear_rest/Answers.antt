use Rattle.std.proofs.Common.{◌<◌, arith}
use Rattle.dr_model.proofs.Overlay.{over-cleared}
use Rattle.dr_model.proofs.image.clear_rest.Goals as goal

pub returns : goal.returns
returns c =
    over-cleared c.args.known.now c.args.into.now c.loop-k.into c.loop-k.invariant.length
    (λ q lt. c.loop-k.invariant.done q (let below : q < c.loop-k.k = omega arith in below))
