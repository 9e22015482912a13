use Rattle.std.proofs.Common.{true, refl, sym, subst, None}
use Rattle.dr_model.specs.Moves.{Hold}
use Rattle.dr_moves.specs.Coming.{ActedBeside}
use Rattle.dr_moves.specs.declared.carrying.Next.TheVariants.{Open}
use Rattle.dr_moves.proofs.ActedLemmas.{acted-made}
use Rattle.dr_moves.proofs.carrying.open_so.Goals as goal

pub returns : goal.returns
returns g c =
    let b = g.B.Beside in
    let x = c.args.beside.now in
    let y = c.open_attempt.new.beside in
    let s = g.P.Plant.state c.args.plant.now in
    let u = g.P.Plant.state c.open_attempt.new.plant in
    let t = c.args.config.now in
    let next = Open c.args.v c.args.s c.args.n in
    let e = c.open_attempt.ensures in
    record {
      acted = subst (λ r. ActedBeside b.after b.rest x y s u t c.args.journal.now c.open_attempt.new.journal next 3 r) (sym c.refused.ensures)
          (acted-made b.after b.rest x y s u t c.args.journal.now c.open_attempt.new.journal (Hold c.args.v.0 c.args.s.0 c.args.n true) next None (λ w. w) (λ k w. w) (λ r is. is) refl 3 refl (λ q ne. ne) c.open_attempt.result
          e.advances e.halts e.made e.heard e.kept e.room_left);
    }
