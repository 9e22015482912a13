use Rattle.std.proofs.Common.{◌⊎◌, ap, sym, subst, ◌∙◌, Some}
use Rattle.std.specs.FinSet.{contains}
use Rattle.dr_model.specs.Layout.{Fields}
use Rattle.dr_model.specs.Moves.{fields_left}
use Rattle.dr_volume.specs.Update.{OthersStay, IsAsBefore, IsMoved}
use Rattle.dr_volume.specs.View.{volume_seen, track_seen}
use Rattle.dr_moves.specs.Moves.{move_of}
use Rattle.dr_moves.proofs.TurnLemmas.{ok-along}
use Rattle.dr_flash.proofs.TakeLemmas.{takes-asks, is-taking, unseen-by}
use Rattle.dr_flash.proofs.taking.store.Goals as goal

pub returns-clause-unseen : goal.returns-clause-unseen
returns-clause-unseen g c =
    let s = g.P.Plant.state c.args.plant.now in
    let u = g.P.Plant.state c.make_move_by.new.plant in
    let t = c.args.config.now in
    let v = c.args.u.0 in
    let k = c.args.t in
    let m = move_of c.args.m.now in
    let made = c.make_move_by.ensures in
    let shows = c.requires.shows.fields in
    let taking = is-taking s t v k c.args.bytes.now c.requires.at.fit (takes-asks s t v k m c.requires.takes c.requires.may.asks).1 (ap (λ (f : Fields). contains f.own k) (sym shows) ∙ c.requires.missing)
    (c.requires.bytes ∙ ap (λ (f : Fields). track_seen s t f.source k) shows) m c.requires.takes in
    let others = subst (λ q. OthersStay s u t q) taking.aims made.others in
    let either = subst (λ q. IsAsBefore s u t q ⊎ IsMoved s u t q (fields_left m (volume_seen s t q)) (Some (k, c.args.bytes.now))) taking.aims made.old_or_new in
    unseen-by s u t c.args.journal.now c.make_move_by.new.journal m v taking.aims taking.few taking.one (taking.shows u others either) c.make_move_by.result made.entered made.kept made.others made.room_left

pub returns-clause-held : goal.returns-clause-held
returns-clause-held g c =
    let s = g.P.Plant.state c.args.plant.now in
    let u = g.P.Plant.state c.make_move_by.new.plant in
    let t = c.args.config.now in
    let v = c.args.u.0 in
    let k = c.args.t in
    let m = move_of c.args.m.now in
    let made = c.make_move_by.ensures in
    let shows = c.requires.shows.fields in
    let taking = is-taking s t v k c.args.bytes.now c.requires.at.fit (takes-asks s t v k m c.requires.takes c.requires.may.asks).1 (ap (λ (f : Fields). contains f.own k) (sym shows) ∙ c.requires.missing)
    (c.requires.bytes ∙ ap (λ (f : Fields). track_seen s t f.source k) shows) m c.requires.takes in
    let others = subst (λ q. OthersStay s u t q) taking.aims made.others in
    ok-along c.make_move_by.result made.moved (λ is. taking.held u others (subst (λ q. IsMoved s u t q (fields_left m (volume_seen s t q)) (Some (k, c.args.bytes.now))) taking.aims is))
