use Rattle.std.proofs.Common.{◌≡◌, ◌+◌, length, arith, [], ◌∷◌, ap, sym, ◌∙◌, refl}
use Rattle.dr_model.specs.Layout.{Fields}
use Rattle.dr_model.specs.PairEntries.{send_first, suspend_running}
use Rattle.dr_model.specs.Pairs as pairs
use Rattle.dr_model.specs.WriteEntries.{mirror_and_land, part_running, part_after}
use Rattle.dr_volume.specs.View.{ids_of}
use Rattle.dr_moves.specs.Here.{world_seen}
use Rattle.dr_gcopy.proofs.CollideLemmas.{apart-leads}
use Rattle.dr_metro.proofs.WroteInLemmas.{in-then}
use Rattle.dr_cascade.proofs.writing.land_fed.Goals as goal

pub send_and_land-requires-clause-due : goal.send_and_land-requires-clause-due
send_and_land-requires-clause-due g c = c.requires.can.due

pub send_and_land-requires-clause-running : goal.send_and_land-requires-clause-running
send_and_land-requires-clause-running g c = c.requires.can.running

pub send_and_land-requires-clause-reached : goal.send_and_land-requires-clause-reached
send_and_land-requires-clause-reached g c = c.requires.can.reached

pub send_and_land-requires-clause-primary : goal.send_and_land-requires-clause-primary
send_and_land-requires-clause-primary g c = c.requires.can.primary

pub send_and_land-requires-clause-collides : goal.send_and_land-requires-clause-collides
send_and_land-requires-clause-collides g c = ap (λ (f : Fields). pairs.collides f c.args.w.now.track) (sym c.requires.can.says_to.fields) ∙ sym c.collides.ensures ∙ c.if-collides.true

pub send_and_land-requires-clause-pair : goal.send_and_land-requires-clause-pair
send_and_land-requires-clause-pair g c = c.requires.can.pair

pub send_and_land-requires-clause-alone : goal.send_and_land-requires-clause-alone
send_and_land-requires-clause-alone g c = c.requires.can.alone

pub store_and_land-requires-clause-room : goal.store_and_land-requires-clause-room
store_and_land-requires-clause-room g c = let a = c.requires.room in omega (arith, a)

pub returns-clause-wrote : goal.returns-clause-wrote
returns-clause-wrote g c =
    let s = g.P.Plant.state c.args.plant.now in
    let y = g.P.Plant.state c.store_and_land.new.plant in
    let t = c.args.config.now in
    let w = c.args.w.now in
    let v = w.volume.0 in
    let u = c.args.u.0 in
    let z = c.args.to.now.primary_partner.0 in
    let ids = ids_of t.volumes in
    let n = length t.volumes in
    let j = c.args.journal.now in
    let new = c.store_and_land.new in
    let apart = ap (λ (f : Fields). pairs.collides f w.track) (sym c.requires.can.says_to.fields) ∙ sym c.collides.ensures ∙ c.if-collides.false in
    in-then s s y t c.args.h.now j j new.journal (send_first ids u z w.track) (λ q. ⊥) 0 0 (suspend_running u ∷ part_running v ∷ [])
    (record { entries = mirror_and_land ids w.w.0 v w.track u; follows = part_after v } ∷ []) new.h (n + (n + 5)) (n + (n + (n + 9))) c.store_and_land.result (omega arith)
    (record {
      leads = λ r. apart-leads ids u z w.track (world_seen s t r j.events) apart;
      fails = tt;
      stays = record { at = c.requires.can.due.at; unarmed = λ q none. none; faults = refl; others = λ q never. absurd never; on = refl; room = omega arith; left = omega arith; spare = refl };
    })
    c.store_and_land.ensures.wrote
