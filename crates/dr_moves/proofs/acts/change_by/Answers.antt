use Rattle.std.proofs.Common.{inl, refl, ap, sym, subst, ◌∙◌, length, Some}
use Rattle.dr_model.specs.Moves.{told, told_in_stop}
use Rattle.dr_model.specs.ReadStops.{GoesOff}
use Rattle.dr_model.specs.Refusals.{stopped}
use Rattle.dr_volume.specs.View.{volume_seen}
use Rattle.dr_volume.specs.Volume.{Says}
use Rattle.dr_moves.specs.Here.{world_seen, armed_in}
use Rattle.dr_moves.specs.Moves.{move_of}
use Rattle.dr_moves.specs.Ready.{Ready}
use Rattle.dr_moves.proofs.KeptLemmas.{room-one}
use Rattle.dr_moves.proofs.acts.change_by.Goals as goal

pub change-requires-clause-ready : goal.change-requires-clause-ready
change-requires-clause-ready g c =
    subst (λ s. Ready s c.args.config.now c.args.v.0 (move_of c.args.m.now) c.args.track) (sym c.in-Ok.ensures.passed) c.requires.ready

pub change-requires-clause-says : goal.change-requires-clause-says
change-requires-clause-says g c = subst (λ s. Says s c.args.config.now c.args.v.0 c.args.fields.now) (sym c.in-Ok.ensures.passed) c.requires.says

pub returns-in-Err-clause-made : goal.returns-in-Err-clause-made
returns-in-Err-clause-made g c =
    let s = g.P.Plant.state c.args.plant.now in
    let u = g.P.Plant.state c.open_told.new.plant in
    let t = c.args.config.now in
    let server = c.server_of-server.ensures.seen s in
    record {
      turned = λ r. inl
          (refl, subst (λ e. GoesOff (armed_in s) (world_seen u t r c.open_told.new.journal.events) e (world_seen s t r c.args.journal.now.events)) (c.in-Err.ensures.refused ∙ ap (λ n. Some (stopped n)) server) (c.in-Err.ensures.gone r));
      came = c.in-Err.ensures.same c.args.v.0;
      others = λ q ne. c.in-Err.ensures.same q;
      server = sym server;
    }

pub returns-in-Err-clause-either : goal.returns-in-Err-clause-either
returns-in-Err-clause-either g c = inl (c.in-Err.ensures.same c.args.v.0)

pub returns-in-Err-clause-stayed : goal.returns-in-Err-clause-stayed
returns-in-Err-clause-stayed g c =
    let x = volume_seen (g.P.Plant.state c.args.plant.now) c.args.config.now c.args.v.0 in
    record {
      stands = c.in-Err.ensures.stands;
      unarmed = c.in-Err.ensures.unarmed;
      faults = c.in-Err.ensures.faults;
      on = tt;
      off = c.in-Err.ensures.off;
      room = room-one (length (told (move_of c.args.m.now) x)) (length (told_in_stop (move_of c.args.m.now) x)) c.args.journal.now.spare c.open_told.new.journal.spare c.in-Err.ensures.room;
      spare = c.in-Err.ensures.spare;
    }
