use Rattle.std.proofs.Common.{◌≡◌, ap, sym, subst, ◌∙◌, Some}
use Rattle.dr_model.specs.Carry.{now}
use Rattle.dr_model.specs.Layout.{Fields}
use Rattle.dr_model.specs.Refusals.{stopped}
use Rattle.dr_volume.specs.View.{volume_seen}
use Rattle.dr_moves.specs.Moves.{move_of}
use Rattle.dr_moves.proofs.ActedLemmas.{err-is}
use Rattle.dr_flash.specs.Keeping.{Unseen}
use Rattle.dr_flash.proofs.TakeLemmas.{takes-asks, unseen-gone}
use Rattle.dr_flash.proofs.taking.take.Goals as goal

pub returns-in_err-read_told-clause-unseen : goal.returns-in_err-read_told-clause-unseen
returns-in_err-read_told-clause-unseen g c =
    let s = g.P.Plant.state c.args.plant.now in
    let u = g.P.Plant.state c.read_told.new.plant in
    let t = c.args.config.now in
    let v = c.args.u.0 in
    let m = move_of c.args.m.now in
    let why = c.in_err-read_told.field-0.0 in
    let gone = c.in_err-read_told.ensures in
    let related = (takes-asks s t v c.args.t m c.requires.takes c.requires.may.asks).1 in
    let server : (volume_seen s t c.args.f.now.source.0).server ≡ (volume_seen s t v).server = ap (λ (f : Fields). (volume_seen s t f.source).server) c.requires.shows.fields ∙ sym (c.requires.at.fit.source v related).same_server in
    subst (λ res. Unseen s u t c.args.journal.now c.read_told.new.journal (now m) v (volume_seen s t v).server res) (sym (err-is c.from_residual.result why c.from_residual.ensures.0 c.from_residual.ensures.1))
    (unseen-gone s u t c.args.journal.now c.read_told.new.journal (now m) v (volume_seen s t v).server why c.requires.at (gone.refused ∙ ap (λ n. Some (stopped n)) server) gone.gone c.read_told.ensures.same c.read_told.ensures.rest c.read_told.ensures.unarmed gone.faults c.read_told.ensures.room c.read_told.ensures.spare)
