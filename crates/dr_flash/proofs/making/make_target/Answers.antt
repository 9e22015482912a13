use Rattle.dr_volume.specs.View.{volume_seen}
use Rattle.dr_moves.specs.Options.{choices}
use Rattle.dr_moves.proofs.EntryLemmas.{counted-stop}
use Rattle.dr_moves.proofs.TurnLemmas.{ok-along}
use Rattle.dr_flash.proofs.ShowLemmas.{show-lone, made-shows}
use Rattle.dr_flash.proofs.making.make_target.Goals as goal

pub returns-clause-faults : goal.returns-clause-faults
returns-clause-faults g c = counted-stop c.make_move.result (g.P.Plant.state c.args.plant.now).faults (g.P.Plant.state c.make_move.new.plant).faults (volume_seen (g.P.Plant.state c.args.plant.now) c.args.config.now c.args.t.0).server c.make_move.ensures.kept.faults c.make_move.ensures.entered.refused

pub returns-clause-shows : goal.returns-clause-shows
returns-clause-shows g c =
    let s = g.P.Plant.state c.args.plant.now in
    let made = c.make_move.ensures in
    ok-along c.make_move.result made.moved (made-shows s (g.P.Plant.state c.make_move.new.plant) c.args.config.now c.args.t.0 c.args.s.0 (choices c.args.o.now) made.others c.requires.may.source.plain c.requires.may.apart)

pub returns-clause-others_show : goal.returns-clause-others_show
returns-clause-others_show g c = show-lone (g.P.Plant.state c.args.plant.now) (g.P.Plant.state c.make_move.new.plant) c.args.config.now c.args.t.0 c.make_move.ensures.others c.requires.may.lone
