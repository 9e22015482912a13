use Rattle.std.proofs.Common.{ap, ◌∙◌, subst, Some}
use Rattle.dr_model.specs.Refusals.{stopped}
use Rattle.dr_model.specs.WriteEntries.{redo_on}
use Rattle.dr_moves.specs.Ready.{Stayed}
use Rattle.dr_moves.proofs.ReadLemmas.{rest-same}
use Rattle.dr_moves.proofs.TurnLemmas.{ok-along, err-along}
use Rattle.dr_admin.proofs.OwnerLemmas.{own-server}
use Rattle.dr_admin.proofs.StartLemmas.{redo-comes}
use Rattle.dr_admin.proofs.starting.redo_own.Goals as goal

pub place_staged-requires-clause-running : goal.place_staged-requires-clause-running
place_staged-requires-clause-running g c =
    let s = g.P.Plant.state c.args.plant.now in
    ap s.on (own-server s c.args.config.now c.args.v.0 c.args.s.0 c.requires.owned) ∙ c.requires.on

pub returns-clause-advances : goal.returns-clause-advances
returns-clause-advances g c =
    ok-along c.place_staged.result c.place_staged.ensures.advances (λ go r.
    go r (redo_on c.args.s.0 c.args.v.0) (redo-comes (g.P.Plant.state c.args.plant.now) c.args.config.now r c.args.journal.now.events c.args.v.0 c.args.s.0 c.requires.owned))

pub returns-clause-halts : goal.returns-clause-halts
returns-clause-halts g c =
    err-along c.place_staged.result c.place_staged.ensures.halts c.place_staged.ensures.halts (λ end _ r.
    end r (redo_on c.args.s.0 c.args.v.0) (redo-comes (g.P.Plant.state c.args.plant.now) c.args.config.now r c.args.journal.now.events c.args.v.0 c.args.s.0 c.requires.owned))

pub returns-clause-stopped : goal.returns-clause-stopped
returns-clause-stopped g c =
    err-along c.place_staged.result c.place_staged.ensures.refused c.place_staged.ensures.refused (λ is _. is ∙ ap (λ q. Some (stopped q)) (own-server (g.P.Plant.state c.args.plant.now) c.args.config.now c.args.v.0 c.args.s.0 c.requires.owned))

pub returns-clause-rest : goal.returns-clause-rest
returns-clause-rest g c =
    rest-same c.args.config.now (g.P.Plant.state c.args.plant.now) (g.P.Plant.state c.place_staged.new.plant) c.requires.rest c.place_staged.ensures.stayed.stands c.place_staged.ensures.same

pub returns-clause-stayed : goal.returns-clause-stayed
returns-clause-stayed g c =
    let s = g.P.Plant.state c.args.plant.now in
    subst (λ q. Stayed s (g.P.Plant.state c.place_staged.new.plant) c.args.config.now c.args.journal.now c.place_staged.new.journal q 1 c.place_staged.result) (own-server s c.args.config.now c.args.v.0 c.args.s.0 c.requires.owned) c.place_staged.ensures.stayed
