use Rattle.std.proofs.Common.{◌≡◌, ◌≢◌, ◌<◌, ◌+◌, length, arith, [], ◌∷◌, ap, sym, subst, ◌∙◌, false}
use Rattle.std.specs.Prelude.{Ok}
use Rattle.dr_model.specs.Entries.{copies_from}
use Rattle.dr_model.specs.Layout.{is_part}
use Rattle.dr_model.specs.PairEntries.{send_first, suspend_running}
use Rattle.dr_model.specs.WriteEntries.{mirror_and_land, part_running, part_after}
use Rattle.dr_volume.specs.View.{ids_of, volume_seen}
use Rattle.dr_volume.proofs.SaysLaws.{shows-says}
use Rattle.dr_metro.proofs.WroteLemmas.{ran-told, due-still, on-still, pair-still}
use Rattle.dr_metro.proofs.WroteInLemmas.{in-then, in-failed, behind-kept}
use Rattle.dr_cascade.proofs.writing.send_and_land.Goals as goal

pub send_old-requires-clause-at : goal.send_old-requires-clause-at
send_old-requires-clause-at g c = c.requires.due.at

pub send_old-requires-clause-from : goal.send_old-requires-clause-from
send_old-requires-clause-from g c = c.requires.pair.to

pub send_old-requires-clause-within : goal.send_old-requires-clause-within
send_old-requires-clause-within g c = subst (λ k. c.args.w.now.track < k) (sym c.requires.pair.size) c.requires.due.within

pub send_old-requires-clause-room : goal.send_old-requires-clause-room
send_old-requires-clause-room g c = let a = c.requires.room in omega (arith, a)

pub peek_fields-fields-requires-clause-defined : goal.peek_fields-fields-requires-clause-defined
peek_fields-fields-requires-clause-defined g c = c.requires.due.defined

pub peek_fields-fields-requires-clause-stands : goal.peek_fields-fields-requires-clause-stands
peek_fields-fields-requires-clause-stands g c = c.in-Ok.ensures.ran.stays.at.rest.stands

pub peek_fields-to-requires-clause-defined : goal.peek_fields-to-requires-clause-defined
peek_fields-to-requires-clause-defined g c = c.requires.pair.to

pub peek_fields-to-requires-clause-stands : goal.peek_fields-to-requires-clause-stands
peek_fields-to-requires-clause-stands g c = c.in-Ok.ensures.ran.stays.at.rest.stands

pub store_and_land-requires-clause-can : goal.store_and_land-requires-clause-can
store_and_land-requires-clause-can g c =
    let s = g.P.Plant.state c.args.plant.now in
    let m = g.P.Plant.state c.send_old.new.plant in
    let t = c.args.config.now in
    let h = c.args.h.now in
    let j = c.args.journal.now in
    let l = c.send_old.new.journal in
    let w = c.args.w.now in
    let v = w.volume.0 in
    let u = c.args.u.0 in
    let z = c.args.c.0 in
    let n = length t.volumes in
    let ok = c.in-Ok.ensures in
    let ran = ok.ran in
    let told = ran-told s m t h j l (send_first (ids_of t.volumes) u z w.track) (λ q. (q ≢ u) × ((q ≢ z) × (copies_from z (volume_seen s t q).fields ≡ false))) (n + 3) (n + 2) (Ok tt) ran c.requires.due.told in
    record {
      due = due-still s m t h j.events l.events w ran.stays.at told c.requires.due;
      running = on-still s m t v ran.stays.on c.requires.running;
      primary = ap is_part (ok.parts v).primary ∙ c.requires.primary;
      pair = pair-still s m t v u c.requires.pair;
      reached = on-still s m t u ran.stays.on c.requires.reached;
      says = shows-says _ _ _ _ c.peek_fields-fields.ensures;
      says_to = shows-says _ _ _ _ c.peek_fields-to.ensures;
      alone = λ none q. ok.lone v q (c.requires.alone none q);
    }

pub store_and_land-requires-clause-room : goal.store_and_land-requires-clause-room
store_and_land-requires-clause-room g c = let a = c.in-Ok.ensures.ran.stays.left in let b = c.requires.room in omega (arith, a, b)

pub returns-in-Ok-clause-wrote : goal.returns-in-Ok-clause-wrote
returns-in-Ok-clause-wrote g c =
    let s = g.P.Plant.state c.args.plant.now in
    let m = g.P.Plant.state c.send_old.new.plant in
    let y = g.P.Plant.state c.store_and_land.new.plant in
    let t = c.args.config.now in
    let w = c.args.w.now in
    let v = w.volume.0 in
    let u = c.args.u.0 in
    let z = c.args.c.0 in
    let ids = ids_of t.volumes in
    let n = length t.volumes in
    let new = c.store_and_land.new in
    in-then s m y t c.args.h.now c.args.journal.now c.send_old.new.journal new.journal (send_first ids u z w.track) (λ q. (q ≢ u) × ((q ≢ z) × (copies_from z (volume_seen s t q).fields ≡ false))) (n + 3) (n + 2) (suspend_running u ∷ part_running v ∷ [])
    (record { entries = mirror_and_land ids w.w.0 v w.track u; follows = part_after v } ∷ []) new.h (n + (n + 5)) (n + (n + (n + 9))) c.store_and_land.result (omega arith) c.in-Ok.ensures.ran c.store_and_land.ensures.wrote

pub follow_fed-requires-clause-at : goal.follow_fed-requires-clause-at
follow_fed-requires-clause-at g c = c.in-Err.ensures.ran.stays.at

pub follow_fed-requires-clause-from : goal.follow_fed-requires-clause-from
follow_fed-requires-clause-from g c = c.requires.due.defined

pub follow_fed-requires-clause-to : goal.follow_fed-requires-clause-to
follow_fed-requires-clause-to g c = c.requires.pair.to

pub follow_fed-requires-clause-room : goal.follow_fed-requires-clause-room
follow_fed-requires-clause-room g c = let a = c.in-Err.ensures.ran.stays.room in let b = c.requires.room in omega (arith, a, b)

pub returns-in-Err-clause-wrote : goal.returns-in-Err-clause-wrote
returns-in-Err-clause-wrote g c =
    let s = g.P.Plant.state c.args.plant.now in
    let m = g.P.Plant.state c.send_old.new.plant in
    let y = g.P.Plant.state c.follow_fed.new.plant in
    let t = c.args.config.now in
    let w = c.args.w.now in
    let v = w.volume.0 in
    let u = c.args.u.0 in
    let z = c.args.c.0 in
    let ids = ids_of t.volumes in
    let n = length t.volumes in
    let l = c.send_old.new.journal in
    let new = c.follow_fed.new.journal in
    let why = c.in-Err.why in
    let fs = suspend_running u ∷ part_running v ∷ [] in
    in-failed s m y t c.args.h.now c.args.journal.now l new (send_first ids u z w.track) (λ q. (q ≢ u) × ((q ≢ z) × (copies_from z (volume_seen s t q).fields ≡ false))) (n + 3) (n + 2) fs
    (record { entries = mirror_and_land ids w.w.0 v w.track u; follows = part_after v } ∷ []) 6 (n + (n + (n + 9))) why (omega arith) c.requires.due.told c.in-Err.ensures.ran (behind-kept m y t l new fs why 6 c.follow_fed.ensures.follows c.follow_fed.ensures.kept)
