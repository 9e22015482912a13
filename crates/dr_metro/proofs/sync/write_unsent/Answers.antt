use Rattle.std.proofs.Common.{◌≡◌, ◌+◌, length, arith, [], ◌∷◌, false, refl, sym, subst}
use Rattle.std.specs.Result.{IfOk}
use Rattle.dr_model.specs.Entries.{land_alone}
use Rattle.dr_model.specs.WriteEntries.{part_after}
use Rattle.dr_volume.specs.View.{ids_of, volume_seen}
use Rattle.dr_metro.specs.Landing.{landed_on}
use Rattle.dr_metro.specs.declared.sync.WriteEnd.TheVariants.{Landed}
use Rattle.dr_metro.proofs.SyncLemmas.{followed-ok}
use Rattle.dr_metro.proofs.WroteLemmas.{landed-wrote, landed-ok, landed-end}
use Rattle.dr_metro.proofs.WroteInLemmas.{wrote-in, in-as}
use Rattle.dr_metro.proofs.sync.write_unsent.Goals as goal

pub followed-requires-clause-at : goal.followed-requires-clause-at
followed-requires-clause-at g c = c.write_here.ensures.wrote.at

pub followed-requires-clause-room : goal.followed-requires-clause-room
followed-requires-clause-room g c = let a = c.requires.room in let b = c.write_here.ensures.wrote.room in omega (arith, a, b)

pub returns-clause-wrote : goal.returns-clause-wrote
returns-clause-wrote g c =
    let s = g.P.Plant.state c.args.plant.now in
    let m = g.P.Plant.state c.write_here.new.plant in
    let x = g.P.Plant.state c.followed.new.plant in
    let t = c.args.config.now in
    let h = c.args.h.now in
    let k = c.write_here.new.h in
    let w = c.args.w.now in
    let v = w.volume.0 in
    let n = length t.volumes in
    let j = c.args.journal.now in
    let l = c.write_here.new.journal in
    let alone = land_alone (ids_of t.volumes) w.w.0 v w.track in
    let b = c.followed.ensures in
    in-as s x t h k j c.followed.new.journal (λ z. record { entries = alone; follows = part_after v } ∷ []) (λ z. record { entries = alone; follows = part_after v } ∷ []) (n + 1 + 3) (n + 4) c.landed-done.result c.followed.result (omega arith) (λ r. refl) b.result
    (wrote-in s m x t h j l c.followed.new.journal k (λ z. alone) (part_after v) (n + 1) c.landed-done.result
    (landed-wrote c.write_here.result c.landed-done.result c.landed-done.ensures s m t h k j l (λ z. alone) (n + 1) c.write_here.ensures.wrote)
    (record { follows = b.follows; at = b.at; unarmed = b.unarmed; faults = b.faults; room = b.room; spare = b.spare }))

pub returns-clause-end : goal.returns-clause-end
returns-clause-end g c =
    subst (λ x. IfOk x (λ e. e ≡ Landed)) (sym c.followed.ensures.result) (landed-end c.write_here.result c.landed-done.result c.landed-done.ensures false refl)

pub returns-clause-left : goal.returns-clause-left
returns-clause-left g c =
    let s = g.P.Plant.state c.args.plant.now in
    let t = c.args.config.now in
    let w = c.args.w.now in
    let b = c.followed.ensures in
    followed-ok c.landed-done.result c.followed.result b.result _ _ (λ y. (volume_seen y t w.volume.0).fields ≡ landed_on (volume_seen s t w.volume.0) w.track) b.stays (landed-ok c.write_here.result c.landed-done.result c.landed-done.ensures _ c.write_here.ensures.left)
