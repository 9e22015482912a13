use Rattle.std.proofs.Common.{◌≡◌, ◌+◌, List, length, arith, [], ◌∷◌, ap, sym, subst, false, refl}
use Rattle.std.specs.Result.{IfOk}
use Rattle.dr_model.specs.Carry.{Entry, Stretch}
use Rattle.dr_model.specs.WriteEntries.{mirror_and_land, part_after}
use Rattle.dr_volume.specs.View.{ids_of}
use Rattle.dr_moves.proofs.TurnLemmas.{ok-along}
use Rattle.dr_metro.specs.Mirroring.{Mirrors, mirror_entries}
use Rattle.dr_metro.specs.declared.sync.WriteEnd.TheVariants.{Landed}
use Rattle.dr_metro.proofs.RouteLemmas.{crossed-is}
use Rattle.dr_metro.proofs.SyncLemmas.{followed-ok}
use Rattle.dr_metro.proofs.WroteLemmas.{landed-wrote, landed-ok, landed-end}
use Rattle.dr_metro.proofs.WroteInLemmas.{wrote-in, in-as}
use Rattle.dr_cascade.proofs.writing.store_and_land.Goals as goal

pub read_and_store-requires-clause-room : goal.read_and_store-requires-clause-room
read_and_store-requires-clause-room g c = let a = c.requires.room in omega (arith, a)

pub followed-requires-clause-at : goal.followed-requires-clause-at
followed-requires-clause-at g c = c.read_and_store.ensures.wrote.at

pub followed-requires-clause-defined : goal.followed-requires-clause-defined
followed-requires-clause-defined g c = c.requires.can.due.defined

pub followed-requires-clause-room : goal.followed-requires-clause-room
followed-requires-clause-room g c = let a = c.requires.room in let b = c.read_and_store.ensures.wrote.room in omega (arith, a, b)

pub returns-clause-wrote : goal.returns-clause-wrote
returns-clause-wrote g c =
    let s = g.P.Plant.state c.args.plant.now in
    let m = g.P.Plant.state c.read_and_store.new.plant in
    let x = g.P.Plant.state c.followed.new.plant in
    let t = c.args.config.now in
    let h = c.args.h.now in
    let k = c.read_and_store.new.h in
    let w = c.args.w.now in
    let v = w.volume.0 in
    let u = c.args.u.0 in
    let n = length t.volumes in
    let ids = ids_of t.volumes in
    let j = c.args.journal.now in
    let l = c.read_and_store.new.journal in
    let b = c.followed.ensures in
    in-as s x t h k j c.followed.new.journal (λ z. record { entries = mirror_entries ids w.w.0 v w.track u; follows = part_after v } ∷ []) (λ z. record { entries = mirror_and_land ids w.w.0 v w.track u; follows = part_after v } ∷ []) (n + (n + 2) + 3) (n + (n + 5)) c.landed-done.result c.followed.result (omega arith)
    (λ r. ap (λ (es : List Entry). let ss : List Stretch = record { entries = es; follows = part_after v } ∷ [] in ss) (sym (crossed-is ids w.w.0 v w.track u))) b.result
    (wrote-in s m x t h j l c.followed.new.journal k (λ z. mirror_entries ids w.w.0 v w.track u) (part_after v) (n + (n + 2)) c.landed-done.result
    (landed-wrote c.read_and_store.result c.landed-done.result c.landed-done.ensures s m t h k j l (λ z. mirror_entries ids w.w.0 v w.track u) (n + (n + 2)) c.read_and_store.ensures.wrote)
    (record { follows = b.follows; at = b.at; unarmed = b.unarmed; faults = b.faults; room = b.room; spare = b.spare }))

pub returns-clause-end : goal.returns-clause-end
returns-clause-end g c = subst (λ x. IfOk x (λ e. e ≡ Landed)) (sym c.followed.ensures.result) (landed-end c.read_and_store.result c.landed-done.result c.landed-done.ensures false refl)

pub returns-clause-mirrors : goal.returns-clause-mirrors
returns-clause-mirrors g c =
    let w = c.args.w.now in
    let b = c.followed.ensures in
    followed-ok c.landed-done.result c.followed.result b.result _ _ (λ y. Mirrors y c.args.config.now w.volume.0 c.args.u.0 w.track) b.stays
    (landed-ok c.read_and_store.result c.landed-done.result c.landed-done.ensures _ (ok-along c.read_and_store.result c.read_and_store.ensures.equal (λ equal in_sync active. equal)))
