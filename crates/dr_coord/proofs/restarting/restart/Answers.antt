use Rattle.std.proofs.Common.{ap, sym, ◌∙◌}
use Rattle.dr_model.specs.Carry.{now}
use Rattle.dr_model.specs.Moves.{Restart}
use Rattle.dr_model.specs.Pairs.{must_restart}
use Rattle.dr_model.specs.WriteEntries.{restart_on}
use Rattle.dr_volume.specs.View.{volume_seen}
use Rattle.dr_moves.specs.Here.{world_seen, armed_in, refusal_of}
use Rattle.dr_moves.proofs.TurnLemmas.{ok-along, err-along}
use Rattle.dr_coord.proofs.HoldLemmas.{restart-skips, restart-comes}
use Rattle.dr_coord.proofs.restarting.restart.Goals as goal
use Rattle.dr_moves.proofs.EntryLemmas.{alike-advances, alike-halts}

pub returns-then-not-must_restart-clause-advances : goal.returns-then-not-must_restart-clause-advances
returns-then-not-must_restart-clause-advances g c r =
    restart-skips (g.P.Plant.state c.args.plant.now) c.args.config.now r c.args.journal.now.events c.args.v.0 c.requires.ready.defined
    (ap must_restart (sym c.peek_fields.ensures.fields) ∙ sym c.if-not-must_restart.ensures)

pub returns-clause-advances : goal.returns-clause-advances
returns-clause-advances g c =
    let s = g.P.Plant.state c.args.plant.now in
    let t = c.args.config.now in
    ok-along c.go_on.result c.go_on.ensures.advances (λ go r.
    alike-advances (world_seen s t r c.args.journal.now.events) (world_seen (g.P.Plant.state c.go_on.new.plant) t r c.go_on.new.journal.events) (restart_on (volume_seen s t c.args.v.0).server c.args.v.0) (now (Restart c.args.v.0))
    (restart-comes s t r c.args.journal.now.events c.args.v.0 c.requires.ready.defined (ap must_restart (sym c.peek_fields.ensures.fields) ∙ sym c.if-not-must_restart.ensures)) (go r))

pub returns-clause-halts : goal.returns-clause-halts
returns-clause-halts g c =
    let s = g.P.Plant.state c.args.plant.now in
    let t = c.args.config.now in
    err-along c.go_on.result c.go_on.ensures.halts c.go_on.ensures.halts (λ end _ r.
    alike-halts (armed_in s) (world_seen s t r c.args.journal.now.events) (world_seen (g.P.Plant.state c.go_on.new.plant) t r c.go_on.new.journal.events) (refusal_of c.go_on.result) (restart_on (volume_seen s t c.args.v.0).server c.args.v.0) (now (Restart c.args.v.0))
    (restart-comes s t r c.args.journal.now.events c.args.v.0 c.requires.ready.defined (ap must_restart (sym c.peek_fields.ensures.fields) ∙ sym c.if-not-must_restart.ensures)) (end r))
