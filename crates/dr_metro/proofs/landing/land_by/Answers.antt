use Rattle.std.proofs.Common.{◌≡◌, ◌++◌, ◌∷◌, [], true, arith, ap, sym, subst, ◌∙◌, length, Some}
use Rattle.std.specs.Prelude.{Err, OnOk, OnErr}
use Rattle.std.proofs.lemmas.List.{length-append}
use Rattle.dr_plant.specs.State.{PlantState, can_read}
use Rattle.dr_model.specs.declared.event.Event.TheVariants.{Stopped}
use Rattle.dr_model.specs.Entries.{land_on}
use Rattle.dr_model.specs.Refusals.{stopped}
use Rattle.dr_volume.specs.Opened.{IsOpened}
use Rattle.dr_volume.specs.View.{volume_seen, device_of}
use Rattle.dr_moves.specs.Here.{refusal_of}
use Rattle.dr_moves.proofs.ReadLemmas.{left-unread, unread-gone, unread-rose}
use Rattle.dr_metro.specs.Landing.{landed_on, CanLandAlone}
use Rattle.dr_metro.specs.Writing.{Wrote}
use Rattle.dr_metro.proofs.WroteLemmas.{wrote-gone}
use Rattle.dr_metro.proofs.landing.land_by.Goals as goal

pub land_opened-requires : goal.land_opened-requires
land_opened-requires g c =
    let t = c.args.config.now in
    let v = c.args.target.volume.0 in
    let same = sym c.in-Ok.ensures.same in
    record {
      can = subst (λ (y : PlantState). CanLandAlone y t c.args.host.now c.args.journal.now.events c.args.w.0 c.args.target c.args.bytes.now) same c.requires.can;
      opened = subst (λ (y : PlantState). IsOpened y t v c.in-Ok.opened) same c.in-Ok.ensures.opened;
      passes = subst (λ (y : PlantState). can_read y (device_of t v) ≡ true) same (sym c.in-Ok.ensures.done);
      room = c.requires.room;
    }

pub returns-in-Ok-clause-wrote : goal.returns-in-Ok-clause-wrote
returns-in-Ok-clause-wrote g c =
    subst (λ (y : PlantState). Wrote y (g.P.Plant.state c.land_opened.new.plant) c.args.config.now c.args.host.now c.land_opened.new.host c.args.journal.now c.land_opened.new.journal (λ z. land_on c.args.w.0 c.args.target.volume.0 c.args.target.track ∷ []) 1 c.land_opened.result) c.in-Ok.ensures.same c.land_opened.ensures.wrote

pub returns-in-Ok-clause-refused : goal.returns-in-Ok-clause-refused
returns-in-Ok-clause-refused g c =
    subst (λ (y : PlantState). OnErr c.land_opened.result (refusal_of c.land_opened.result ≡ Some (stopped (volume_seen y c.args.config.now c.args.target.volume.0).server))) c.in-Ok.ensures.same c.land_opened.ensures.refused

pub returns-in-Ok-clause-left : goal.returns-in-Ok-clause-left
returns-in-Ok-clause-left g c =
    let v = c.args.target.volume.0 in
    subst (λ (y : PlantState). OnOk c.land_opened.result ((volume_seen (g.P.Plant.state c.land_opened.new.plant) c.args.config.now v).fields ≡ landed_on (volume_seen y c.args.config.now v) c.args.target.track)) c.in-Ok.ensures.same c.land_opened.ensures.left

pub returns-in-Err-clause-wrote : goal.returns-in-Err-clause-wrote
returns-in-Err-clause-wrote g c =
    let s = g.P.Plant.state c.args.plant.now in
    let u = g.P.Plant.state c.open_by.new.plant in
    let t = c.args.config.now in
    let v = c.args.target.volume.0 in
    let can = c.requires.can in
    let rest = can.at.rest in
    let x = left-unread t s u v rest.stands (rest.sizes v) can.defined c.in-Err.ensures.done c.in-Err.ensures.state in
    let old = c.args.journal.now in
    let new = c.push.new.self in
    let told : new.events ≡ old.events ++ Stopped (volume_seen s t v).server 0 ∷ [] = c.push.ensures.events ∙ ap (λ q. old.events ++ Stopped q 0 ∷ []) (sym can.server) in
    subst (λ q. Wrote s u t c.args.host.now c.args.host.now old new (λ z. land_on c.args.w.0 v c.args.target.track ∷ []) 1 {T = Unit {0}} (Err (stopped q))) can.server
    (wrote-gone s u t c.args.host.now old new (land_on c.args.w.0 v c.args.target.track ∷ []) (volume_seen s t v).server can.at can.told
    (λ r. unread-gone t s u v rest.stands (rest.sizes v) can.defined c.in-Err.ensures.done c.in-Err.ensures.state (ap s.on can.server ∙ can.running) r old.events new.events told)
    x.same x.stands x.unarmed (unread-rose t s u v rest.stands (rest.sizes v) can.defined c.in-Err.ensures.done c.in-Err.ensures.state)
    (let h = c.push.ensures.spare in omega (arith, h))
    (let h = c.push.ensures.spare in let e = ap length c.push.ensures.events in let l = length-append old.events (Stopped c.args.target.server.0 0 ∷ []) in omega (arith, h, e, l)))

pub returns-in-Err-clause-refused : goal.returns-in-Err-clause-refused
returns-in-Err-clause-refused g c = ap (λ q. Some (stopped q)) (sym c.requires.can.server)
