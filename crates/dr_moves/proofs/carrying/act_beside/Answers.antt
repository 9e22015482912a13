use Rattle.std.proofs.Common.{sym, subst}
use Rattle.std.specs.Prelude.{Ok, Err}
use Rattle.dr_moves.specs.Coming.{MayComeBy, most_of, ActedBeside}
use Rattle.dr_moves.proofs.ActedLemmas.{acted-pass, acted-end, acted-act}
use Rattle.dr_moves.proofs.HeardLemmas.{performed, table-stays, may-perform}
use Rattle.dr_moves.proofs.carrying.act_beside.Goals as goal

pub returns-in-Pass : goal.returns-in-Pass
returns-in-Pass g c =
    let b = g.B.Beside in
    let x = c.args.beside.now in
    let s = g.P.Plant.state c.args.plant.now in
    record { acted = subst (λ n. ActedBeside b.after b.rest x x s s c.args.config.now c.args.journal.now c.args.journal.now n (most_of n s c.args.config.now) (Ok tt)) (sym c.in-Pass.is) (acted-pass b.after b.rest x s c.args.config.now c.args.journal.now c.requires.at) }

pub returns-in-End : goal.returns-in-End
returns-in-End g c =
    let b = g.B.Beside in
    let x = c.args.beside.now in
    let s = g.P.Plant.state c.args.plant.now in
    record {
      acted = subst (λ n. ActedBeside b.after b.rest x x s s c.args.config.now c.args.journal.now c.args.journal.now n (most_of n s c.args.config.now) (Err c.in-End.why)) (sym c.in-End.is)
          (acted-end b.after b.rest x s c.args.config.now c.args.journal.now c.requires.at c.in-End.why (subst (MayComeBy (b.takes x) s c.args.config.now) c.in-End.is c.requires.may));
    }

pub perform-requires-clause-takes : goal.perform-requires-clause-takes
perform-requires-clause-takes g c =
    let b = g.B.Beside in
    let x = c.args.beside.now in
    may-perform (b.takes x) c.in-Perform.a (subst (MayComeBy (b.takes x) (g.P.Plant.state c.args.plant.now) c.args.config.now) c.in-Perform.is c.requires.may)

pub returns-in-Perform : goal.returns-in-Perform
returns-in-Perform g c =
    let b = g.B.Beside in
    let x = c.args.beside.now in
    let y = c.perform.new.beside in
    let s = g.P.Plant.state c.args.plant.now in
    let t = c.args.config.now in
    let a = c.in-Perform.a in
    let may = subst (MayComeBy (b.takes x) s t) c.in-Perform.is c.requires.may in
    let e = c.perform.ensures in
    record {
      acted = subst (λ n. ActedBeside b.after b.rest x y s s t c.args.journal.now c.perform.new.journal n (most_of n s t) (Ok tt)) (sym c.in-Perform.is)
          (acted-act b.after b.rest x s t c.args.journal.now c.requires.at y c.perform.new.journal a
          (performed b.takes b.after b.rest g.met.B.Beside.shows_rest x y a s t t c.args.journal.now.events c.perform.new.journal.events e.heard (may-perform (b.takes x) a may) (table-stays (b.takes x) a t may) e.told)
          e.heard e.told e.room_left);
    }
