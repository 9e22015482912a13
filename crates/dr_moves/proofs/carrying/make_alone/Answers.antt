use Rattle.std.proofs.Common.{refl, sym, subst, None}
use Rattle.std.specs.Prelude.{option_map}
use Rattle.dr_model.specs.Moves.{target}
use Rattle.dr_volume.specs.View.{volume_seen}
use Rattle.dr_moves.specs.Beside.{Takes}
use Rattle.dr_moves.specs.declared.beside.News.TheVariants.{Settled, Landed}
use Rattle.dr_moves.specs.Coming.{most_of, ActedBeside}
use Rattle.dr_moves.specs.declared.carrying.Next.TheVariants.{Do}
use Rattle.dr_moves.specs.Moves.{move_of}
use Rattle.dr_moves.proofs.ActedLemmas.{calm-lands, calm-heard, acted-made}
use Rattle.dr_moves.proofs.StopRows.{room-few}
use Rattle.dr_moves.proofs.carrying.make_alone.Goals as goal

pub make_beside-requires-clause-room : goal.make_beside-requires-clause-room
make_beside-requires-clause-room g c = room-few (move_of c.args.m.now) (volume_seen (g.P.Plant.state c.args.plant.now) c.args.config.now (target (move_of c.args.m.now))) c.args.journal.now.spare c.requires.room

pub make_beside-requires-clause-done : goal.make_beside-requires-clause-done
make_beside-requires-clause-done g c = subst (λ o. Takes (g.B.Beside.takes c.args.beside.now) (option_map Settled o)) (sym (calm-lands c.args.m.now c.requires.may.calm)) tt

pub make_beside-requires-clause-in_stop : goal.make_beside-requires-clause-in_stop
make_beside-requires-clause-in_stop g c = subst (λ o. Takes (g.B.Beside.takes c.args.beside.now) (option_map Landed o)) (sym (calm-lands c.args.m.now c.requires.may.calm)) tt

pub returns : goal.returns
returns g c =
    let b = g.B.Beside in
    let x = c.args.beside.now in
    let y = c.make_beside.new.beside in
    let s = g.P.Plant.state c.args.plant.now in
    let u = g.P.Plant.state c.make_beside.new.plant in
    let t = c.args.config.now in
    let e = c.make_beside.ensures in
    record {
      acted = subst (λ r. ActedBeside b.after b.rest x y s u t c.args.journal.now c.make_beside.new.journal (Do c.args.m.now) (most_of (Do c.args.m.now) s t) r) (sym c.refused.ensures)
          (acted-made b.after b.rest x y s u t c.args.journal.now c.make_beside.new.journal (move_of c.args.m.now) (Do c.args.m.now) None (λ w. w) (λ k w. w) (λ r is. is) refl (most_of (Do c.args.m.now) s t) refl (λ q ne. ne) c.make_beside.result
          e.advances e.halts e.made (calm-heard b.after x y c.args.m.now c.make_beside.result c.requires.may.calm e.heard) e.kept e.room_left);
    }
