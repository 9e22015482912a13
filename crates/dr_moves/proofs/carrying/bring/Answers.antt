use Rattle.std.proofs.Common.{Bool, inl, inr, refl, ap, sym, subst, ◌∙◌, Some}
use Rattle.std.specs.Prelude.{option_map}
use Rattle.dr_plant.specs.State.{PlantState}
use Rattle.dr_model.specs.Log.{Log}
use Rattle.dr_model.specs.Moves.{target}
use Rattle.dr_volume.specs.View.{volume_seen, track_seen}
use Rattle.dr_moves.specs.Beside.{Takes}
use Rattle.dr_moves.specs.declared.beside.News.TheVariants.{Settled, Landed}
use Rattle.dr_moves.specs.Coming.{most_of, WentBy, CutBy, ActedBeside}
use Rattle.dr_moves.specs.Heard.{refused_by}
use Rattle.dr_moves.specs.Moves.{move_of}
use Rattle.dr_moves.specs.declared.carrying.Next.TheVariants.{Bring}
use Rattle.dr_moves.proofs.ActedLemmas.{calm-lands, calm-heard, acted-made, acted-gone, err-is}
use Rattle.dr_moves.proofs.carrying.bring.Goals as goal

pub make_beside-requires-clause-done : goal.make_beside-requires-clause-done
make_beside-requires-clause-done g c = subst (λ o. Takes (g.B.Beside.takes c.args.beside.now) (option_map Settled o)) (sym (calm-lands c.args.m.now c.requires.may.make.calm)) tt

pub make_beside-requires-clause-in_stop : goal.make_beside-requires-clause-in_stop
make_beside-requires-clause-in_stop g c = subst (λ o. Takes (g.B.Beside.takes c.args.beside.now) (option_map Landed o)) (sym (calm-lands c.args.m.now c.requires.may.make.calm)) tt

pub returns-in_err-read_told : goal.returns-in_err-read_told
returns-in_err-read_told g c =
    let b = g.B.Beside in
    let x = c.args.beside.now in
    let s = g.P.Plant.state c.args.plant.now in
    let u = g.P.Plant.state c.read_told.new.plant in
    let t = c.args.config.now in
    let why = c.in_err-read_told.field-0.0 in
    let next = Bring c.args.m.now c.args.u c.args.t in
    let e = c.in_err-read_told.ensures in
    let f = c.read_told.ensures in
    record {
      acted = subst (λ res. ActedBeside b.after b.rest x x s u t c.args.journal.now c.read_told.new.journal next (most_of next s t) res) (sym (err-is c.from_residual.result why c.from_residual.ensures.0 c.from_residual.ensures.1))
          (acted-gone b.after b.rest x s u t c.args.journal.now c.read_told.new.journal next why (volume_seen s t c.args.u.0).server c.requires.at e.refused (inl e.refused) (λ same. record { came = same (target (move_of c.args.m.now)); others = λ q ne. same q }) e.gone f.same f.rest f.unarmed e.faults f.room f.spare);
    }

pub returns : goal.returns
returns g c =
    let b = g.B.Beside in
    let x = c.args.beside.now in
    let y = c.make_beside.new.beside in
    let s0 = g.P.Plant.state c.args.plant.now in
    let s = g.P.Plant.state c.read_told.new.plant in
    let u = g.P.Plant.state c.make_beside.new.plant in
    let t = c.args.config.now in
    let m = move_of c.args.m.now in
    let next = Bring c.args.m.now c.args.u c.args.t in
    let passed = c.in_ok-read_told.ensures.passed in
    let bytes = c.in_ok-read_told.ensures.bytes ∙ ap (λ (z : PlantState). track_seen z t c.args.u.0 c.args.t) (sym passed) in
    let e = c.make_beside.ensures in
    record {
      acted = subst (λ r. ActedBeside b.after b.rest x y s0 u t c.args.journal.now c.make_beside.new.journal next (most_of next s0 t) r) (sym c.refused.ensures)
          (subst (λ (z : PlantState). ActedBeside b.after b.rest x y z u t c.args.journal.now c.make_beside.new.journal next (most_of next z t) (refused_by c.make_beside.result)) passed
          (subst (λ (l : Log). ActedBeside b.after b.rest x y s u t l c.make_beside.new.journal next (most_of next s t) (refused_by c.make_beside.result)) c.in_ok-read_told.ensures.silent
          (acted-made b.after b.rest x y s u t c.read_told.new.journal c.make_beside.new.journal m next (Some (c.args.t, c.read_told.new.into)) (subst (λ z. WentBy s u t m (Some (c.args.t, z))) bytes) (λ (k : Bool). subst (λ z. CutBy s u t k m (Some (c.args.t, z))) bytes) (λ r is. inr is) refl (most_of next s t) refl (λ q ne. ne) c.make_beside.result
          e.advances e.halts e.made (calm-heard b.after x y c.args.m.now c.make_beside.result c.requires.may.make.calm e.heard) e.kept e.room_left)));
    }
