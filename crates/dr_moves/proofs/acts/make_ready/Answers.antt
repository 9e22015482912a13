use Rattle.std.proofs.Common.{sym, subst}
use Rattle.dr_moves.specs.Moves.{move_of}
use Rattle.dr_moves.specs.Ready.{Ready}
use Rattle.dr_volume.proofs.SaysLaws.{shows-says}
use Rattle.dr_moves.proofs.acts.make_ready.Goals as goal

pub change_by-requires-clause-ready : goal.change_by-requires-clause-ready
change_by-requires-clause-ready g c =
    subst (λ q. Ready (g.P.Plant.state c.args.plant.now) c.args.config.now q (move_of c.args.m.now) c.args.track) (sym c.target_of-v.ensures) c.requires.ready

pub change_by-requires-clause-says : goal.change_by-requires-clause-says
change_by-requires-clause-says g c = shows-says (g.P.Plant.state c.args.plant.now) c.args.config.now c.target_of-v.result.0 c.peek_fields-fields.result c.peek_fields-fields.ensures
