use Rattle.std.proofs.Common.{◌≡◌, ◌≢◌, ◌+◌, length, arith, refl, sym, subst, ◌∙◌, [], ◌∷◌, false}
use Rattle.std.specs.Prelude.{Ok}
use Rattle.std.specs.Result.{IfOk}
use Rattle.dr_model.specs.PairEntries.{suspend_after, send_first}
use Rattle.dr_model.specs.WriteEntries.{part_after}
use Rattle.dr_model.specs.Entries.{copies_from, land_alone}
use Rattle.dr_volume.specs.View.{ids_of, volume_seen}
use Rattle.dr_metro.specs.Syncing.{sent_stretches}
use Rattle.dr_metro.specs.declared.sync.WriteEnd.TheVariants.{Landed}
use Rattle.dr_metro.proofs.WroteLemmas.{ran-told, due-still, on-still, landed-wrote, landed-end}
use Rattle.dr_metro.proofs.WroteInLemmas.{wrote-in, in-then, in-failed, in-as}
use Rattle.dr_metro.proofs.colliding.write_collided.Goals as goal

pub write_alone-requires-clause-due : goal.write_alone-requires-clause-due
write_alone-requires-clause-due g c =
    let s = g.P.Plant.state c.args.plant.now in
    let m = g.P.Plant.state c.send_old.new.plant in
    let t = c.args.config.now in
    let h = c.args.h.now in
    let j = c.args.journal.now in
    let l = c.send_old.new.journal in
    let w = c.args.w.now in
    let v = w.volume.0 in
    let u = c.args.u.0 in
    let n = length t.volumes in
    let ran = c.in-Ok.ensures.ran in
    due-still s m t h j.events l.events w ran.stays.at (ran-told s m t h j l (send_first (ids_of t.volumes) w.volume.0 c.args.u.0 w.track) (λ q. (q ≢ v) × ((q ≢ u) × (copies_from u (volume_seen s t q).fields ≡ false))) (n + 3) (n + 2) (Ok tt) ran c.requires.due.told) c.requires.due

pub write_alone-requires-clause-running : goal.write_alone-requires-clause-running
write_alone-requires-clause-running g c =
    on-still (g.P.Plant.state c.args.plant.now) (g.P.Plant.state c.send_old.new.plant) c.args.config.now c.args.w.now.volume.0 c.in-Ok.ensures.ran.stays.on c.requires.running

pub write_alone-requires-clause-room : goal.write_alone-requires-clause-room
write_alone-requires-clause-room g c = let a = c.in-Ok.ensures.ran.stays.left in let b = c.requires.room in omega (arith, a, b)

pub followed-requires-clause-room : goal.followed-requires-clause-room
followed-requires-clause-room g c = let a = c.in-Ok.ensures.ran.stays.left in let b = c.requires.room in let d = c.write_alone.ensures.wrote.room in omega (arith, a, b, d)

pub returns-in-Ok-clause-wrote : goal.returns-in-Ok-clause-wrote
returns-in-Ok-clause-wrote g c =
    let s = g.P.Plant.state c.args.plant.now in
    let m = g.P.Plant.state c.send_old.new.plant in
    let x = g.P.Plant.state c.write_alone.new.plant in
    let y = g.P.Plant.state c.followed.new.plant in
    let t = c.args.config.now in
    let h = c.args.h.now in
    let k = c.write_alone.new.h in
    let w = c.args.w.now in
    let v = w.volume.0 in
    let u = c.args.u.0 in
    let ids = ids_of t.volumes in
    let n = length t.volumes in
    let j = c.args.journal.now in
    let l = c.send_old.new.journal in
    let b = c.followed.ensures in
    in-as s y t h k j c.followed.new.journal (λ z. sent_stretches ids w.w.0 v w.track u) (λ z. sent_stretches ids w.w.0 v w.track u) (n + 2 + (n + 1 + 3)) (n + (n + 6)) c.landed-done.result c.followed.result (omega arith) (λ r. refl) b.result
    (in-then s m y t h j l c.followed.new.journal (send_first ids v u w.track) (λ q. (q ≢ v) × ((q ≢ u) × (copies_from u (volume_seen s t q).fields ≡ false))) (n + 3) (n + 2) (suspend_after v) (record { entries = land_alone ids w.w.0 v w.track; follows = part_after v } ∷ []) k (n + 1 + 3) (n + 2 + (n + 1 + 3)) c.landed-done.result (omega arith) c.in-Ok.ensures.ran
    (wrote-in m x y t h l c.write_alone.new.journal c.followed.new.journal k (λ z. land_alone ids w.w.0 v w.track) (part_after v) (n + 1) c.landed-done.result
    (landed-wrote c.write_alone.result c.landed-done.result c.landed-done.ensures m x t h k l c.write_alone.new.journal (λ z. land_alone ids w.w.0 v w.track) (n + 1) c.write_alone.ensures.wrote)
    (record { follows = b.follows; at = b.at; unarmed = b.unarmed; faults = b.faults; room = b.room; spare = b.spare })))

pub returns-in-Ok-clause-end : goal.returns-in-Ok-clause-end
returns-in-Ok-clause-end g c = subst (λ x. IfOk x (λ e. e ≡ Landed)) (sym c.followed.ensures.result) (landed-end c.write_alone.result c.landed-done.result c.landed-done.ensures false refl)

pub follow_stop-requires-clause-room : goal.follow_stop-requires-clause-room
follow_stop-requires-clause-room g c = let a = c.in-Err.ensures.ran.stays.room in let b = c.requires.room in omega (arith, a, b)

pub returns-in-Err-clause-wrote : goal.returns-in-Err-clause-wrote
returns-in-Err-clause-wrote g c =
    let s = g.P.Plant.state c.args.plant.now in
    let m = g.P.Plant.state c.send_old.new.plant in
    let y = g.P.Plant.state c.follow_stop.new.plant in
    let t = c.args.config.now in
    let h = c.args.h.now in
    let w = c.args.w.now in
    let v = w.volume.0 in
    let u = c.args.u.0 in
    let ids = ids_of t.volumes in
    let n = length t.volumes in
    let b = c.follow_stop.ensures in
    in-failed s m y t h c.args.journal.now c.send_old.new.journal c.follow_stop.new.journal (send_first ids v c.args.u.0 w.track) (λ q. (q ≢ v) × ((q ≢ u) × (copies_from u (volume_seen s t q).fields ≡ false))) (n + 3) (n + 2) (suspend_after v) (record { entries = land_alone ids w.w.0 v w.track; follows = part_after v } ∷ []) 3 (n + (n + 6)) c.in-Err.why (omega arith) c.requires.due.told c.in-Err.ensures.ran
    (record { follows = b.follows; at = record { rest = b.rest; fit = b.fit }; unarmed = b.unarmed; faults = b.faults; room = b.room; spare = b.spare })
