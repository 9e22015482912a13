use Rattle.std.proofs.Common.{◌≢◌, ◌+◌, [], ◌∷◌, length, arith, ap, cond, sym, refl, ◌∙◌}
use Rattle.std.specs.Prelude.{Ok, Err}
use Rattle.dr_model.specs.Carry.{now}
use Rattle.dr_model.specs.Control.{Volume}
use Rattle.dr_model.specs.Entries.{land_alone}
use Rattle.dr_model.specs.Layout.{Fields}
use Rattle.dr_model.specs.Moves.{Suspend}
use Rattle.dr_model.specs.Pairs.{is_suspended}
use Rattle.dr_volume.specs.View.{ids_of, volume_seen}
use Rattle.dr_moves.specs.Checks.{is_stop}
use Rattle.dr_moves.proofs.TurnLemmas.{ok-along, refused-by}
use Rattle.dr_gcopy.proofs.RanLemmas.{ran-made, stays-by}
use Rattle.dr_logic.proofs.Results.{err-always}
use Rattle.dr_metro.specs.Syncing.{parted_entries, end_of}
use Rattle.dr_metro.specs.declared.sync.WriteEnd.TheVariants.{Held}
use Rattle.dr_metro.proofs.SyncLemmas.{state-landed}
use Rattle.dr_metro.proofs.WroteLemmas.{ran-told, wrote-then, wrote-failed, wrote-alike, wrote-nothing, due-still, on-still, landed-wrote, landed-stops, landed-ok, landed-end}
use Rattle.dr_metro.proofs.sync.write_parted.Goals as goal

pub returns-in_err-suspend-clause-wrote : goal.returns-in_err-suspend-clause-wrote
returns-in_err-suspend-clause-wrote g c =
    let s = g.P.Plant.state c.args.plant.now in
    let m = g.P.Plant.state c.suspend.new.plant in
    let t = c.args.config.now in
    let w = c.args.w.now in
    let v = w.volume.0 in
    let n = length t.volumes in
    let j = c.args.journal.now in
    let l = c.suspend.new.journal in
    let e = c.in_err-suspend.field-0.0 in
    let h = c.suspend.ensures in
    let x = c.in_err-suspend.ensures in
    wrote-failed s m t c.args.h.now j l (now (Suspend v c.args.busy) ∷ []) (λ q. q ≢ v) 3 2 (cond c.args.busy [] (land_alone (ids_of t.volumes) w.w.0 v w.track)) (n + 3) c.from_residual.result e c.from_residual.ensures.0 c.from_residual.ensures.1 (omega arith) c.requires.due.told
    (ran-made s m t j l (Suspend v c.args.busy) (now (Suspend v c.args.busy)) (λ q. q ≢ v) 3 2 (Err e) (λ r. refl) tt x.halts (stays-by s m t j l (λ q. q ≢ v) 3 2 (volume_seen s t v).server (Err e) x.refused h.rest h.fit h.unarmed x.faults h.others tt h.room tt h.spare))

pub returns-in_err-suspend-clause-stops : goal.returns-in_err-suspend-clause-stops
returns-in_err-suspend-clause-stops g c = err-always c.from_residual.result (ap is_stop (refused-by c.from_residual.result c.in_err-suspend.field-0.0 c.from_residual.ensures.0 c.from_residual.ensures.1 ∙ c.in_err-suspend.ensures.refused))

pub returns-then-busy-clause-wrote : goal.returns-then-busy-clause-wrote
returns-then-busy-clause-wrote g c =
    let s = g.P.Plant.state c.args.plant.now in
    let m = g.P.Plant.state c.suspend.new.plant in
    let t = c.args.config.now in
    let w = c.args.w.now in
    let v = w.volume.0 in
    let n = length t.volumes in
    let j = c.args.journal.now in
    let l = c.suspend.new.journal in
    let h = c.suspend.ensures in
    let x = c.in_ok-suspend.ensures in
    let alone = land_alone (ids_of t.volumes) w.w.0 v w.track in
    let ran = ran-made s m t j l (Suspend v c.args.busy) (now (Suspend v c.args.busy)) (λ q. q ≢ v) 3 2 (Ok tt) (λ r. refl) x.advances tt (stays-by s m t j l (λ q. q ≢ v) 3 2 (volume_seen s t v).server (Ok tt) tt h.rest h.fit h.unarmed x.faults h.others x.on h.room x.room_left h.spare) in
    wrote-then s m t c.args.h.now j l (now (Suspend v c.args.busy) ∷ []) (λ q. q ≢ v) 3 2 m c.args.h.now l (cond c.args.busy [] alone) 0 (n + 3) (Ok Held) (omega arith) ran
    (wrote-nothing m t c.args.h.now l (λ k. cond c.args.busy [] alone) 0 Held (λ rest. ap (λ b. cond b [] alone) c.if-busy.true) ran.stays.at (ran-told s m t c.args.h.now j l (now (Suspend v c.args.busy) ∷ []) (λ q. q ≢ v) 3 2 (Ok tt) ran c.requires.due.told))

pub returns-then-busy-clause-end : goal.returns-then-busy-clause-end
returns-then-busy-clause-end g c = ap end_of (sym c.if-busy.true)

pub returns-then-busy-clause-suspended : goal.returns-then-busy-clause-suspended
returns-then-busy-clause-suspended g c = ap (λ (x : Volume). is_suspended x.fields.primary_state) c.in_ok-suspend.ensures.moved.volume

pub write_alone-requires-clause-due : goal.write_alone-requires-clause-due
write_alone-requires-clause-due g c =
    let s = g.P.Plant.state c.args.plant.now in
    let m = g.P.Plant.state c.suspend.new.plant in
    let t = c.args.config.now in
    let w = c.args.w.now in
    let v = w.volume.0 in
    let j = c.args.journal.now in
    let l = c.suspend.new.journal in
    let h = c.suspend.ensures in
    let x = c.in_ok-suspend.ensures in
    let ran = ran-made s m t j l (Suspend v c.args.busy) (now (Suspend v c.args.busy)) (λ q. q ≢ v) 3 2 (Ok tt) (λ r. refl) x.advances tt (stays-by s m t j l (λ q. q ≢ v) 3 2 (volume_seen s t v).server (Ok tt) tt h.rest h.fit h.unarmed x.faults h.others x.on h.room x.room_left h.spare) in
    due-still s m t c.args.h.now j.events l.events w ran.stays.at (ran-told s m t c.args.h.now j l (now (Suspend v c.args.busy) ∷ []) (λ q. q ≢ v) 3 2 (Ok tt) ran c.requires.due.told) c.requires.due

pub write_alone-requires-clause-running : goal.write_alone-requires-clause-running
write_alone-requires-clause-running g c =
    on-still (g.P.Plant.state c.args.plant.now) (g.P.Plant.state c.suspend.new.plant) c.args.config.now c.args.w.now.volume.0 c.in_ok-suspend.ensures.on c.requires.running

pub returns-clause-wrote : goal.returns-clause-wrote
returns-clause-wrote g c =
    let s = g.P.Plant.state c.args.plant.now in
    let m = g.P.Plant.state c.suspend.new.plant in
    let u = g.P.Plant.state c.write_alone.new.plant in
    let t = c.args.config.now in
    let w = c.args.w.now in
    let v = w.volume.0 in
    let n = length t.volumes in
    let j = c.args.journal.now in
    let l = c.suspend.new.journal in
    let h = c.suspend.ensures in
    let x = c.in_ok-suspend.ensures in
    let alone = land_alone (ids_of t.volumes) w.w.0 v w.track in
    let new = c.write_alone.new in
    landed-wrote c.write_alone.result c.landed.result c.landed.ensures s u t c.args.h.now new.h j new.journal (λ k. parted_entries (ids_of t.volumes) c.args.busy w.w.0 v w.track) (n + 3)
    (wrote-then s m t c.args.h.now j l (now (Suspend v c.args.busy) ∷ []) (λ q. q ≢ v) 3 2 u new.h new.journal (cond c.args.busy [] alone) (n + 1) (n + 3) c.write_alone.result (omega arith)
    (ran-made s m t j l (Suspend v c.args.busy) (now (Suspend v c.args.busy)) (λ q. q ≢ v) 3 2 (Ok tt) (λ r. refl) x.advances tt (stays-by s m t j l (λ q. q ≢ v) 3 2 (volume_seen s t v).server (Ok tt) tt h.rest h.fit h.unarmed x.faults h.others x.on h.room x.room_left h.spare))
    (wrote-alike m u t c.args.h.now new.h l new.journal (λ k. alone) (λ k. cond c.args.busy [] alone) (n + 1) c.write_alone.result (λ rest. sym (ap (λ b. cond b [] alone) c.if-busy.false)) c.write_alone.ensures.wrote))

pub returns-clause-end : goal.returns-clause-end
returns-clause-end g c = landed-end c.write_alone.result c.landed.result c.landed.ensures c.args.busy c.if-busy.false

pub returns-clause-stops : goal.returns-clause-stops
returns-clause-stops g c = landed-stops c.write_alone.result c.landed.result c.landed.ensures c.write_alone.ensures.stops

pub returns-clause-suspended : goal.returns-clause-suspended
returns-clause-suspended g c =
    let y = volume_seen (g.P.Plant.state c.suspend.new.plant) c.args.config.now c.args.w.now.volume.0 in
    landed-ok c.write_alone.result c.landed.result c.landed.ensures _ (ok-along c.write_alone.result c.write_alone.ensures.left (λ is.
    ap (λ (f : Fields). is_suspended f.primary_state) is ∙ ap is_suspended (state-landed y.tracks y.fields c.args.w.now.track) ∙ ap (λ (z : Volume). is_suspended z.fields.primary_state) c.in_ok-suspend.ensures.moved.volume))
