use Rattle.std.proofs.Common.{ℕ, List, ◌≡◌, ◌≤◌, ap, sym, subst, ◌∙◌, ◌∷◌, [], Some}
use Rattle.std.specs.Prelude.{OnOk, OnErr}
use Rattle.dr_plant.specs.State.{PlantState}
use Rattle.dr_model.specs.Contents.{laid}
use Rattle.dr_model.specs.Entries.{land_on}
use Rattle.dr_model.specs.Histories.{histories}
use Rattle.dr_model.specs.Layout.{Fields}
use Rattle.dr_model.specs.Moves.{Move, target, carried}
use Rattle.dr_model.specs.Refusals.{stopped}
use Rattle.dr_volume.specs.Opened.{IsOpened}
use Rattle.dr_volume.specs.Plain.{plain}
use Rattle.dr_volume.specs.View.{volume_seen, track_seen}
use Rattle.dr_moves.specs.Here.{refusal_of}
use Rattle.dr_moves.specs.Made.{IsAt, May, room_for}
use Rattle.dr_moves.specs.Moves.{move_of}
use Rattle.dr_metro.specs.Landing.{landing_move, landed_on}
use Rattle.dr_metro.specs.Writing.{Wrote}
use Rattle.dr_metro.proofs.LandedLemmas.{alone-target, alone-may, alone-carries, alone-room, alone-wrote, alone-refused, alone-landed}
use Rattle.dr_metro.proofs.landing.land_opened.Goals as goal

pub make_opened-done-requires : goal.make_opened-done-requires
make_opened-done-requires g c =
    let s = g.P.Plant.state c.args.plant.now in
    let x = g.P.Plant.state c.view_of-old.new.plant in
    let t = c.args.config.now in
    let n = c.args.w.0 in
    let v = c.args.target.volume.0 in
    let k = c.args.target.track in
    let m = move_of c.landing_of-m.result in
    let can = c.requires.can in
    let same = sym c.view_of-old.ensures.same in
    let write = (histories c.args.journal.now.events).write in
    let related = (volume_seen s t v).fields.related in
    let is : m ≡ landing_move related n v k = c.landing_of-m.ensures ∙ ap (λ (f : Fields). landing_move f.related n v k) (ap plain c.fields.ensures ∙ c.requires.opened.shows.fields) in
    let aims : target m ≡ v = ap target is ∙ alone-target s t n v k related in
    let bytes : c.laid-track.result ≡ _ = c.laid-track.ensures ∙ ap (laid c.args.target.offset c.args.bytes.now) c.view_of-old.ensures.bytes in
    record {
      at = subst (λ (y : PlantState). IsAt y t) same can.at;
      may = subst (λ (y : PlantState). May y t m) same (subst (May s t) (sym is) (alone-may s t n v k can.defined (ap s.on can.server ∙ can.running) can.within));
      opened = subst (λ (y : PlantState). IsOpened y t (target m) c.args.opened.now) same (subst (λ q. IsOpened s t q c.args.opened.now) (sym aims) c.requires.opened);
      carries = subst (λ (y : PlantState). carried m (volume_seen y t) (track_seen y t) write ≡ Some (k, c.laid-track.result)) same
          (ap (λ (z : Move). carried z (volume_seen s t) (track_seen s t) write) is ∙ alone-carries s t n v k write c.args.target.offset c.args.bytes.now can.pending.issue ∙ ap (λ (b : List ℕ). Some (k, b)) (sym bytes));
      room = subst (λ j. j ≤ c.args.journal.now.spare) (sym (ap (λ (z : Move). room_for z (volume_seen x t (target z))) is ∙ alone-room s t n v k related _)) c.requires.room;
    }

pub returns-clause-wrote : goal.returns-clause-wrote
returns-clause-wrote g c =
    let x = g.P.Plant.state c.view_of-old.new.plant in
    let u = g.P.Plant.state c.make_opened-done.new.plant in
    let t = c.args.config.now in
    let n = c.args.w.0 in
    let v = c.args.target.volume.0 in
    let k = c.args.target.track in
    let same = c.view_of-old.ensures.same in
    let is : move_of c.landing_of-m.result ≡ landing_move (volume_seen x t v).fields.related n v k =
    c.landing_of-m.ensures ∙ ap (λ (f : Fields). landing_move f.related n v k) (ap plain c.fields.ensures ∙ c.requires.opened.shows.fields ∙ ap (λ (y : PlantState). (volume_seen y t v).fields) (sym same)) in
    subst (λ (y : PlantState). Wrote y u t c.args.host.now c.settle_write.new.h c.args.journal.now c.make_opened-done.new.journal (λ z. land_on n v k ∷ []) 1 c.settle_write.result) same
    (alone-wrote x u t n v k c.args.journal.now c.make_opened-done.new.journal (move_of c.landing_of-m.result) is (Some (k, c.laid-track.result)) c.make_opened-done.result c.settle_write.result c.settle_write.ensures.says c.make_opened-done.ensures.made
    c.args.host.now c.settle_write.new.h c.settle_write.ensures.writes c.requires.can.told c.make_opened-done.ensures.kept)

pub returns-clause-refused : goal.returns-clause-refused
returns-clause-refused g c =
    let x = g.P.Plant.state c.view_of-old.new.plant in
    let u = g.P.Plant.state c.make_opened-done.new.plant in
    let t = c.args.config.now in
    let n = c.args.w.0 in
    let v = c.args.target.volume.0 in
    let k = c.args.target.track in
    let same = c.view_of-old.ensures.same in
    let is : move_of c.landing_of-m.result ≡ landing_move (volume_seen x t v).fields.related n v k =
    c.landing_of-m.ensures ∙ ap (λ (f : Fields). landing_move f.related n v k) (ap plain c.fields.ensures ∙ c.requires.opened.shows.fields ∙ ap (λ (y : PlantState). (volume_seen y t v).fields) (sym same)) in
    subst (λ (y : PlantState). OnErr c.settle_write.result (refusal_of c.settle_write.result ≡ Some (stopped (volume_seen y t v).server))) same
    (alone-refused x u t n v k c.args.journal.now c.make_opened-done.new.journal (move_of c.landing_of-m.result) is (Some (k, c.laid-track.result)) c.make_opened-done.result c.settle_write.result c.settle_write.ensures.says c.make_opened-done.ensures.made)

pub returns-clause-left : goal.returns-clause-left
returns-clause-left g c =
    let x = g.P.Plant.state c.view_of-old.new.plant in
    let u = g.P.Plant.state c.make_opened-done.new.plant in
    let t = c.args.config.now in
    let n = c.args.w.0 in
    let v = c.args.target.volume.0 in
    let k = c.args.target.track in
    let same = c.view_of-old.ensures.same in
    let is : move_of c.landing_of-m.result ≡ landing_move (volume_seen x t v).fields.related n v k =
    c.landing_of-m.ensures ∙ ap (λ (f : Fields). landing_move f.related n v k) (ap plain c.fields.ensures ∙ c.requires.opened.shows.fields ∙ ap (λ (y : PlantState). (volume_seen y t v).fields) (sym same)) in
    subst (λ (y : PlantState). OnOk c.settle_write.result ((volume_seen u t v).fields ≡ landed_on (volume_seen y t v) k)) same
    (alone-landed x u t n v k c.args.journal.now c.make_opened-done.new.journal (move_of c.landing_of-m.result) is (Some (k, c.laid-track.result)) c.make_opened-done.result c.settle_write.result c.settle_write.ensures.says c.make_opened-done.ensures.made)
