use Rattle.std.proofs.Common.{◌≡◌, ◌≤◌, sym, ap, ◌∙◌, subst, Some}
use Rattle.dr_ids.specs.Sizes.{most_tracks}
use Rattle.dr_model.specs.WriteEntries.{restart_on}
use Rattle.dr_model.specs.Refusals.{stopped}
use Rattle.dr_volume.specs.View.{volume_seen}
use Rattle.dr_moves.specs.Here.{world_seen, armed_in, refusal_of}
use Rattle.dr_moves.specs.Turns.{Advances, Halts}
use Rattle.dr_moves.proofs.TurnLemmas.{ok-along, err-along}
use Rattle.dr_admin.proofs.OwnerLemmas.{own-server}
use Rattle.dr_admin.proofs.StartLemmas.{of-each}
use Rattle.dr_admin.proofs.starting.restart_own.Goals as goal

pub restart-requires-clause-ready : goal.restart-requires-clause-ready
restart-requires-clause-ready g c =
    let s = g.P.Plant.state c.args.plant.now in
    record {
      stands = c.requires.rest.stands;
      defined = c.requires.defined;
      running = ap s.on (own-server s c.args.config.now c.args.v.0 c.args.s.0 c.requires.owned) ∙ c.requires.on;
      size = c.requires.rest.sizes c.args.v.0;
    }

pub returns-clause-advances : goal.returns-clause-advances
returns-clause-advances g c =
    let s = g.P.Plant.state c.args.plant.now in let s' = g.P.Plant.state c.restart.new.plant in let t = c.args.config.now in
    ok-along c.restart.result c.restart.ensures.advances (λ go r.
    subst (λ q. Advances (world_seen s t r c.args.journal.now.events) (restart_on q c.args.v.0) (world_seen s' t r c.restart.new.journal.events)) (own-server s t c.args.v.0 c.args.s.0 c.requires.owned) (go r))

pub returns-clause-halts : goal.returns-clause-halts
returns-clause-halts g c =
    let s = g.P.Plant.state c.args.plant.now in let s' = g.P.Plant.state c.restart.new.plant in let t = c.args.config.now in
    err-along c.restart.result c.restart.ensures.halts c.restart.ensures.halts (λ end _ r.
    subst (λ q. Halts (armed_in s) (world_seen s t r c.args.journal.now.events) (restart_on q c.args.v.0) (world_seen s' t r c.restart.new.journal.events) (refusal_of c.restart.result)) (own-server s t c.args.v.0 c.args.s.0 c.requires.owned)
    (end r))

pub returns-clause-stopped : goal.returns-clause-stopped
returns-clause-stopped g c =
    err-along c.restart.result c.restart.ensures.refused c.restart.ensures.refused (λ is _. is ∙ ap (λ q. Some (stopped q)) (own-server (g.P.Plant.state c.args.plant.now) c.args.config.now c.args.v.0 c.args.s.0 c.requires.owned))

pub returns-clause-stayed : goal.returns-clause-stayed
returns-clause-stayed g c =
    let s = g.P.Plant.state c.args.plant.now in let s' = g.P.Plant.state c.restart.new.plant in
    record {
      stands = c.restart.ensures.stands;
      unarmed = c.restart.ensures.unarmed;
      faults = c.restart.ensures.faults;
      on = c.restart.ensures.on;
      off = err-along c.restart.result c.restart.ensures.off c.restart.ensures.off (λ off _. sym (ap s'.on (own-server s c.args.config.now c.args.v.0 c.args.s.0 c.requires.owned)) ∙ off);
      room = c.restart.ensures.room;
      spare = c.restart.ensures.spare;
    }

pub returns-clause-rest : goal.returns-clause-rest
returns-clause-rest g c =
    let s = g.P.Plant.state c.args.plant.now in let s' = g.P.Plant.state c.restart.new.plant in let t = c.args.config.now in
    record {
      stands = c.restart.ensures.stands;
      sizes = λ q. subst (λ n. n ≤ most_tracks) (sym (of-each (λ u. (volume_seen s' t u).tracks ≡ (volume_seen s t u).tracks) c.args.v.0 c.restart.ensures.size (λ u ne. ap (λ x. x.tracks) (c.restart.ensures.others u ne).volume) q)) (c.requires.rest.sizes q);
    }
