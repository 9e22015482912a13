use Rattle.std.proofs.Common.{◌≢◌, ◌<◌, Bool, [], ◌∷◌, arith, ap, sym, subst, ◌∙◌}
use Rattle.std.specs.Prelude.{Ok, Err}
use Rattle.dr_model.specs.Carry.{Do, Make}
use Rattle.dr_model.specs.Control.{Volume}
use Rattle.dr_model.specs.Layout.{is_part}
use Rattle.dr_model.specs.Moves.{Store}
use Rattle.dr_model.specs.PairEntries.{store_on, strike_on}
use Rattle.dr_model.specs.Pairs.{is_last, received, struck}
use Rattle.dr_volume.specs.View.{volume_seen}
use Rattle.dr_volume.proofs.SaysLaws.{says-along}
use Rattle.dr_moves.proofs.ActedLemmas.{err-is}
use Rattle.dr_moves.proofs.TurnLemmas.{ok-along}
use Rattle.dr_gcopy.specs.Ran.{Ran}
use Rattle.dr_gcopy.specs.Sending.{exchange_entries}
use Rattle.dr_gcopy.proofs.PairChecks.{servers-apart}
use Rattle.dr_gcopy.proofs.RanLemmas.{ran-then, ran-failed, ran-made, stays-by}
use Rattle.dr_gcopy.proofs.passing.pass_track.Goals as goal

pub store-requires-clause-within : goal.store-requires-clause-within
store-requires-clause-within g c = subst (λ n. c.args.t < n) (sym c.requires.can.size) c.requires.can.within

pub returns-in_err-store-clause-ran : goal.returns-in_err-store-clause-ran
returns-in_err-store-clause-ran g c =
    let s = g.P.Plant.state c.args.plant.now in
    let m = g.P.Plant.state c.store.new.plant in
    let t = c.args.config.now in
    let e = c.in_err-store.field-0.0 in
    let h = c.store.ensures in
    subst (λ res. Ran s m t c.args.journal.now c.store.new.journal (exchange_entries c.args.a.0 c.args.b.0 c.args.t) (λ q. (q ≢ c.args.a.0) × (q ≢ c.args.b.0)) 2 1 res) (sym (err-is c.from_residual.result e c.from_residual.ensures.0 c.from_residual.ensures.1))
    (ran-failed s m t c.args.journal.now c.store.new.journal (store_on c.args.a.0 c.args.b.0 c.args.t ∷ []) (strike_on c.args.a.0 c.args.t ∷ []) (λ q. q ≢ c.args.b.0) (λ q. (q ≢ c.args.a.0) × (q ≢ c.args.b.0)) 2 1 2 1 (λ q spared. spared.1) (omega arith) e
    (ran-made s m t c.args.journal.now c.store.new.journal (Store c.args.b.0 c.args.t c.args.a.0 c.args.last) (store_on c.args.a.0 c.args.b.0 c.args.t) (λ q. q ≢ c.args.b.0) 2 1 (Err e) (λ r. ap (λ (z : Bool). Do (Make (Store c.args.b.0 c.args.t c.args.a.0 z))) (sym c.requires.can.last))
    tt c.in_err-store.ensures.halts (stays-by s m t c.args.journal.now c.store.new.journal (λ q. q ≢ c.args.b.0) 2 1 (volume_seen s t c.args.b.0).server (Err e) c.in_err-store.ensures.refused h.rest h.fit h.unarmed c.in_err-store.ensures.faults h.others tt h.room tt h.spare)))

pub strike_by-requires-clause-may : goal.strike_by-requires-clause-may
strike_by-requires-clause-may g c =
    let can = c.requires.can in
    let same = c.store.ensures.others c.args.a.0 (servers-apart (g.P.Plant.state c.args.plant.now) c.args.config.now c.args.a.0 c.args.b.0 can.two_servers) in
    record { defined = can.from; running = (λ i. c.in_ok-store.ensures.on i (same.volume i).server) ∙ can.running; asks = ap (λ (x : Volume). is_part x.fields.primary) same.volume ∙ can.primary }

pub strike_by-requires-clause-says : goal.strike_by-requires-clause-says
strike_by-requires-clause-says g c =
    let s = g.P.Plant.state c.args.plant.now in
    let t = c.args.config.now in
    says-along s (g.P.Plant.state c.store.new.plant) t c.args.a.0 c.args.fields.now (c.store.ensures.others c.args.a.0 (servers-apart s t c.args.a.0 c.args.b.0 c.requires.can.two_servers)) c.requires.can.says

pub strike_by-requires-clause-last : goal.strike_by-requires-clause-last
strike_by-requires-clause-last g c =
    let s = g.P.Plant.state c.args.plant.now in
    let t = c.args.config.now in
    c.requires.can.last ∙ sym (ap (λ (x : Volume). is_last x.fields c.args.t) (c.store.ensures.others c.args.a.0 (servers-apart s t c.args.a.0 c.args.b.0 c.requires.can.two_servers)).volume)

pub returns-clause-ran : goal.returns-clause-ran
returns-clause-ran g c =
    let s = g.P.Plant.state c.args.plant.now in
    let m = g.P.Plant.state c.store.new.plant in
    let t = c.args.config.now in
    let h = c.in_ok-store.ensures in
    ran-then s m (g.P.Plant.state c.strike_by.new.plant) t c.args.journal.now c.store.new.journal c.strike_by.new.journal (store_on c.args.a.0 c.args.b.0 c.args.t ∷ []) (strike_on c.args.a.0 c.args.t ∷ []) (λ q. q ≢ c.args.b.0) (λ q. q ≢ c.args.a.0) (λ q. (q ≢ c.args.a.0) × (q ≢ c.args.b.0)) 2 1 1 0 2 1 (λ q spared. spared.1) (λ q spared. spared.0) (omega arith) (omega arith)
    (ran-made s m t c.args.journal.now c.store.new.journal (Store c.args.b.0 c.args.t c.args.a.0 c.args.last) (store_on c.args.a.0 c.args.b.0 c.args.t) (λ q. q ≢ c.args.b.0) 2 1 (Ok tt) (λ r. ap (λ (z : Bool). Do (Make (Store c.args.b.0 c.args.t c.args.a.0 z))) (sym c.requires.can.last))
    h.advances tt (stays-by s m t c.args.journal.now c.store.new.journal (λ q. q ≢ c.args.b.0) 2 1 (volume_seen s t c.args.b.0).server (Ok tt) tt h.rest h.fit h.unarmed h.faults h.others h.on h.room h.room_left h.spare))
    c.strike_by.result c.strike_by.ensures.ran

pub returns-clause-struck : goal.returns-clause-struck
returns-clause-struck g c =
    let s = g.P.Plant.state c.args.plant.now in
    let can = c.requires.can in
    let same = (c.store.ensures.others c.args.a.0 (servers-apart s c.args.config.now c.args.a.0 c.args.b.0 can.two_servers)).volume in
    ok-along c.strike_by.result c.strike_by.ensures.moved (λ is. ap (λ (x : Volume). x.fields) is.volume ∙ (λ i. struck (can.last i) (same i).fields c.args.t))

pub returns-clause-stored : goal.returns-clause-stored
returns-clause-stored g c =
    let s = g.P.Plant.state c.args.plant.now in
    let t = c.args.config.now in
    let can = c.requires.can in
    let same = (c.strike_by.ensures.ran.stays.others c.args.b.0 (λ e. servers-apart s t c.args.a.0 c.args.b.0 can.two_servers (sym e))).volume in
    ok-along c.strike_by.result c.strike_by.ensures.moved (λ is. ap (λ (x : Volume). x.fields) (same ∙ c.in_ok-store.ensures.moved.volume) ∙ ap (λ l. received l (volume_seen s t c.args.b.0).fields c.args.t) can.last)
