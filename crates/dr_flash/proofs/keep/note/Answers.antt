use Rattle.std.proofs.Common.{arith, ap, refl, None}
use Rattle.std.specs.FinSet.{contains}
use Rattle.dr_model.specs.Control.{Volume}
use Rattle.dr_model.specs.Moves.{Note}
use Rattle.dr_model.specs.Relations.{noted}
use Rattle.dr_volume.specs.View.{volume_seen}
use Rattle.dr_moves.proofs.TurnLemmas.{ok-along}
use Rattle.dr_flash.proofs.ShowLemmas.{show-either, noted-shows}
use Rattle.dr_flash.proofs.TakeLemmas.{unseen-by}
use Rattle.dr_flash.proofs.keep.note.Goals as goal

pub returns-clause-unseen : goal.returns-clause-unseen
returns-clause-unseen g c =
    let s = g.P.Plant.state c.args.plant.now in
    let u = g.P.Plant.state c.make_move_by.new.plant in
    let t = c.args.config.now in
    let v = c.args.u.0 in
    let m = Note v c.args.t in
    let made = c.make_move_by.ensures in
    let f = (volume_seen s t v).fields in
    unseen-by s u t c.args.journal.now c.make_move_by.new.journal m v refl (omega arith) (omega arith)
    (show-either s u t v (noted f c.args.t) None made.others made.old_or_new (noted-shows s u t v c.requires.at.fit c.requires.may.asks.1 made.others (noted f c.args.t) refl refl refl refl))
    c.make_move_by.result made.entered made.kept made.others made.room_left

pub returns-clause-held : goal.returns-clause-held
returns-clause-held g c = ok-along c.make_move_by.result c.make_move_by.ensures.moved (λ is. ap (λ (x : Volume). contains x.fields.own c.args.t) is.volume)
