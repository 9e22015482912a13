use Rattle.std.proofs.Common.{◌+◌, arith}
use Rattle.dr_moves.specs.Coming.{most_of, cost_of}
use Rattle.dr_moves.proofs.ActedLemmas.{most-few, acted-wider}
use Rattle.dr_moves.proofs.carrying.act.Goals as goal

pub act_beside-requires-clause-room : goal.act_beside-requires-clause-room
act_beside-requires-clause-room g c = most-few c.args.next.now (g.P.Plant.state c.args.plant.now) c.args.config.now c.args.journal.now.spare c.requires.room

pub returns : goal.returns
returns g c =
    let s = g.P.Plant.state c.args.plant.now in
    let t = c.args.config.now in
    let next = c.args.next.now in
    record {
      acted = acted-wider (λ n x. x) (λ x r. r) (record {}) (record {}) s (g.P.Plant.state c.act_beside.new.plant) t c.args.journal.now c.act_beside.new.journal next (most_of next s t) (cost_of next s t + 1) c.act_beside.result
          (most-few next s t (cost_of next s t + 1) (omega arith)) c.act_beside.ensures.acted;
    }
