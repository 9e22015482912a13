use Rattle.std.proofs.Common.{◌≡◌, inl, inr, refl, ap, ◌∙◌, [], None, Some, arith}
use Rattle.std.specs.Prelude.{Ok, Err}
use Rattle.dr_facts.proofs.Lawful.{lawful-restarted}
use Rattle.dr_model.specs.Moves.{Restart}
use Rattle.dr_model.specs.Refusals.{stopped}
use Rattle.dr_model.specs.Messages.{no_flight}
use Rattle.dr_volume.specs.View.{Rest, volume_seen}
use Rattle.dr_moves.specs.Here.{world_seen}
use Rattle.dr_moves.proofs.EnteredLemmas.{entered-by, calm-stop}
use Rattle.dr_moves.proofs.MoveFits.{covers-all}
use Rattle.dr_moves.proofs.PlaceLaws.{seen-lawful}
use Rattle.dr_coord.proofs.QuietLemmas.{quiet-done}
use Rattle.dr_coord.proofs.restarting.go_on.Goals as goal

pub make_ready-requires-clause-ready : goal.make_ready-requires-clause-ready
make_ready-requires-clause-ready g c =
    let x = volume_seen (g.P.Plant.state c.args.plant.now) c.args.config.now c.args.v.0 in
    let ready = c.requires.ready in
    record {
      ready = ready;
      below = tt;
      lawful = lawful-restarted x.tracks x.fields (seen-lawful (g.P.Plant.state c.args.plant.now) c.args.config.now c.args.v.0 ready.defined ready.size ready.stands);
      covers = covers-all x.fields.blank None;
      within = tt;
    }

pub returns-in-Ok-clause-advances : goal.returns-in-Ok-clause-advances
returns-in-Ok-clause-advances g c =
    let s = g.P.Plant.state c.args.plant.now in
    let u = g.P.Plant.state c.make_ready.new.plant in
    let t = c.args.config.now in
    (entered-by s u t c.args.journal.now.events c.make_ready.new.journal.events (Restart c.args.v.0) c.args.v.0 (Ok tt) (λ r. c.in-Ok.ensures.made.turned r) tt tt).advances

pub returns-in-Err-clause-halts : goal.returns-in-Err-clause-halts
returns-in-Err-clause-halts g c =
    let s = g.P.Plant.state c.args.plant.now in
    let u = g.P.Plant.state c.make_ready.new.plant in
    let t = c.args.config.now in
    let m = Restart c.args.v.0 in
    let server = c.in-Err.ensures.made.server in
    (entered-by s u t c.args.journal.now.events c.make_ready.new.journal.events m c.args.v.0 (Err (stopped c.in-Err.stop.server.0)) tt
    (λ r. elim (c.in-Err.ensures.made.turned r) [
      | inl off ↦ inl off.1
      | inr is ↦ inr (is ∙ ap (λ (q : Rest). (world_seen u t q c.make_ready.new.journal.events, Some c.in-Err.stop.server.0)) (calm-stop m refl c.in-Err.stop.counts r) ∙ ap (λ n. (world_seen u t r c.make_ready.new.journal.events, Some n)) server)
    ])
    (ap (λ n. Some (stopped n)) server)).halts

pub returns-in-Ok-clause-told : goal.returns-in-Ok-clause-told
returns-in-Ok-clause-told g c =
    let s = g.P.Plant.state c.args.plant.now in
    let u = g.P.Plant.state c.make_ready.new.plant in
    let t = c.args.config.now in
    let old = c.args.journal.now in
    let new = c.make_ready.new.journal in
    let r : Rest = record { issued = 0; pending = []; sessions = []; flight = no_flight; events = [] } in
    let events = quiet-done (world_seen s t r old.events) (world_seen u t r new.events) (Restart c.args.v.0) refl (c.in-Ok.ensures.made.turned r) in
    let left = c.in-Ok.ensures.room_left in
    (λ i. record { events = events i; spare = (let e : new.spare ≡ old.spare = omega (arith, left) in e) i })
