use Rattle.std.proofs.Common.{refl, arith, ◌∙◌, length-set}
use Rattle.dr_steps.proofs.LossLemmas.{on-next}
use Rattle.dr_steps.proofs.masters.servers_on.Goals as goal

pub loop-server-init : goal.loop-server-init
loop-server-init g c = record { sized = refl; so_far = λ k lt. absurd (omega (arith, lt)) }

pub loop-server-preserved : goal.loop-server-preserved
loop-server-preserved g c =
    let sized = c.loop-server.invariant.sized in
    record {
      sized = length-set c.loop-server.on _ _ ∙ sized;
      so_far = on-next c.loop-server.on (g.P.Plant.state c.args.plant.now).on c.loop-server.server c.is_on.result (omega (arith, sized)) c.is_on.ensures c.loop-server.invariant.so_far;
    }

pub returns : goal.returns
returns g c k lt = c.loop-server.invariant.so_far k (omega (arith, lt))
