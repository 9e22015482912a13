use Rattle.std.proofs.Common.{◌≡◌, ◌≢◌, ◌+◌, length, arith, [], ◌∷◌, ap, sym, ◌∙◌, refl}
use Rattle.std.specs.Prelude.{Ok, Err}
use Rattle.dr_model.specs.Carry.{now}
use Rattle.dr_model.specs.Control.{Volume}
use Rattle.dr_model.specs.Layout.{is_part}
use Rattle.dr_model.specs.Moves.{Unsync}
use Rattle.dr_model.specs.PairEntries.{send_first, suspend_running}
use Rattle.dr_model.specs.WriteEntries.{mirror_and_land, part_running, part_after}
use Rattle.dr_volume.specs.View.{ids_of}
use Rattle.dr_volume.proofs.SaysLaws.{says-along}
use Rattle.dr_gcopy.proofs.PairChecks.{servers-apart}
use Rattle.dr_metro.specs.Syncing.{fed_stretches}
use Rattle.dr_metro.proofs.WroteLemmas.{ran-told, due-still, on-still, pair-still, none-moved}
use Rattle.dr_metro.proofs.WroteInLemmas.{in-then, in-failed, in-as}
use Rattle.dr_cascade.proofs.writing.write_fed.Goals as goal

pub unsync_by-requires-clause-at : goal.unsync_by-requires-clause-at
unsync_by-requires-clause-at g c = c.requires.can.due.at

pub unsync_by-requires-clause-may : goal.unsync_by-requires-clause-may
unsync_by-requires-clause-may g c = let can = c.requires.can in record { defined = can.due.defined; running = can.running; asks = (can.due.within, can.primary) }

pub unsync_by-requires-clause-says : goal.unsync_by-requires-clause-says
unsync_by-requires-clause-says g c = c.requires.can.says

pub unsync_by-requires-clause-room : goal.unsync_by-requires-clause-room
unsync_by-requires-clause-room g c = let a = c.requires.room in omega (arith, a)

pub land_fed-requires-clause-can : goal.land_fed-requires-clause-can
land_fed-requires-clause-can g c =
    let s = g.P.Plant.state c.args.plant.now in
    let m = g.P.Plant.state c.unsync_by.new.plant in
    let t = c.args.config.now in
    let h = c.args.h.now in
    let w = c.args.w.now in
    let v = w.volume.0 in
    let u = c.args.u.0 in
    let can = c.requires.can in
    let ran = c.in-Ok.ensures.ran in
    let moved = c.in-Ok.ensures.moved.volume in
    let told = ran-told s m t h c.args.journal.now c.unsync_by.new.journal (now (Unsync v w.track) ∷ []) (λ q. q ≢ v) 1 0 (Ok tt) ran can.due.told in
    record {
      due = due-still s m t h c.args.journal.now.events c.unsync_by.new.journal.events w ran.stays.at told can.due;
      running = on-still s m t v ran.stays.on can.running;
      primary = ap (λ (y : Volume). is_part y.fields.primary) moved ∙ can.primary;
      pair = pair-still s m t v u can.pair;
      reached = on-still s m t u ran.stays.on can.reached;
      says = c.in-Ok.ensures.says;
      says_to = says-along s m t u c.args.to.now (ran.stays.others u (λ e. servers-apart s t v u can.pair.two_servers (sym e))) can.says_to;
      alone = λ none. none-moved s m t v ran.stays.at.fit (λ q ne. ran.stays.others q ne) (can.alone none);
    }

pub land_fed-requires-clause-next_primary : goal.land_fed-requires-clause-next_primary
land_fed-requires-clause-next_primary g c =
    let s = g.P.Plant.state c.args.plant.now in
    let v = c.args.w.now.volume.0 in
    let u = c.args.u.0 in
    ap (λ (y : Volume). is_part y.fields.primary) (c.in-Ok.ensures.ran.stays.others u (λ e. servers-apart s c.args.config.now v u c.requires.can.pair.two_servers (sym e))).volume ∙ c.requires.next_primary

pub land_fed-requires-clause-next : goal.land_fed-requires-clause-next
land_fed-requires-clause-next g c = pair-still (g.P.Plant.state c.args.plant.now) (g.P.Plant.state c.unsync_by.new.plant) c.args.config.now c.args.u.0 c.args.to.now.primary_partner.0 c.requires.next

pub land_fed-requires-clause-room : goal.land_fed-requires-clause-room
land_fed-requires-clause-room g c = let a = c.in-Ok.ensures.ran.stays.left in let b = c.requires.room in omega (arith, a, b)

pub returns-in-Ok-clause-wrote : goal.returns-in-Ok-clause-wrote
returns-in-Ok-clause-wrote g c =
    let s = g.P.Plant.state c.args.plant.now in
    let m = g.P.Plant.state c.unsync_by.new.plant in
    let y = g.P.Plant.state c.land_fed.new.plant in
    let t = c.args.config.now in
    let w = c.args.w.now in
    let v = w.volume.0 in
    let u = c.args.u.0 in
    let z = c.args.to.now.primary_partner.0 in
    let ids = ids_of t.volumes in
    let n = length t.volumes in
    let new = c.land_fed.new in
    in-then s m y t c.args.h.now c.args.journal.now c.unsync_by.new.journal new.journal (now (Unsync v w.track) ∷ []) (λ q. q ≢ v) 1 0 (part_after v)
    (record { entries = send_first ids u z w.track; follows = suspend_running u ∷ part_running v ∷ [] } ∷ record { entries = mirror_and_land ids w.w.0 v w.track u; follows = part_after v } ∷ [])
    new.h (n + (n + (n + 9))) (n + (n + (n + 9))) c.land_fed.result (omega arith) c.in-Ok.ensures.ran c.land_fed.ensures.wrote

pub followed-requires-clause-at : goal.followed-requires-clause-at
followed-requires-clause-at g c = c.in-Err.ensures.ran.stays.at

pub followed-requires-clause-defined : goal.followed-requires-clause-defined
followed-requires-clause-defined g c = c.requires.can.due.defined

pub followed-requires-clause-room : goal.followed-requires-clause-room
followed-requires-clause-room g c = let a = c.in-Err.ensures.ran.stays.room in let b = c.requires.room in omega (arith, a, b)

pub returns-in-Err-clause-wrote : goal.returns-in-Err-clause-wrote
returns-in-Err-clause-wrote g c =
    let s = g.P.Plant.state c.args.plant.now in
    let m = g.P.Plant.state c.unsync_by.new.plant in
    let y = g.P.Plant.state c.followed.new.plant in
    let t = c.args.config.now in
    let h = c.args.h.now in
    let w = c.args.w.now in
    let v = w.volume.0 in
    let u = c.args.u.0 in
    let z = c.args.to.now.primary_partner.0 in
    let ids = ids_of t.volumes in
    let n = length t.volumes in
    let j = c.args.journal.now in
    let l = c.unsync_by.new.journal in
    let new = c.followed.new.journal in
    let why = c.in-Err.why in
    let b = c.followed.ensures in
    in-as s y t h h j new (λ k. fed_stretches ids w.w.0 v w.track u z) (λ k. fed_stretches ids w.w.0 v w.track u z) (n + (n + (n + 9))) (n + (n + (n + 9))) (Err why) c.followed.result (omega arith) (λ r. refl) b.result
    (in-failed s m y t h j l new (now (Unsync v w.track) ∷ []) (λ q. q ≢ v) 1 0 (part_after v)
    (record { entries = send_first ids u z w.track; follows = suspend_running u ∷ part_running v ∷ [] } ∷ record { entries = mirror_and_land ids w.w.0 v w.track u; follows = part_after v } ∷ [])
    3 (n + (n + (n + 9))) why (omega arith) c.requires.can.due.told c.in-Err.ensures.ran (record { follows = b.follows; at = b.at; unarmed = b.unarmed; faults = b.faults; room = b.room; spare = b.spare }))
