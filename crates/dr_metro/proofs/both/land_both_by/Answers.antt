use Rattle.std.proofs.Common.{ℕ, List, ap, refl, sym, Some}
use Rattle.dr_model.specs.Carry.{now}
use Rattle.dr_model.specs.Moves.{LandBoth}
use Rattle.dr_model.specs.Pairs.{synced}
use Rattle.dr_volume.specs.View.{volume_seen}
use Rattle.dr_metro.proofs.LandedLemmas.{landing-wrote, landing-refused, landing-moved}
use Rattle.dr_metro.proofs.both.land_both_by.Goals as goal

pub make_by-done-requires-clause-may : goal.make_by-done-requires-clause-may
make_by-done-requires-clause-may g c = let can = c.requires.can in record { defined = can.from; running = can.running; asks = (can.within, can.primary) }

pub make_by-done-requires-clause-carries : goal.make_by-done-requires-clause-carries
make_by-done-requires-clause-carries g c = ap (λ (b : List ℕ). Some (c.args.t, b)) (sym c.requires.can.bytes)

pub returns-clause-wrote : goal.returns-clause-wrote
returns-clause-wrote g c =
    let m = LandBoth c.args.w.0 c.args.v.0 c.args.t in
    landing-wrote (g.P.Plant.state c.args.plant.now) (g.P.Plant.state c.make_by-done.new.plant) c.args.config.now c.args.h.now c.settle_write.new.h c.args.journal.now c.make_by-done.new.journal c.args.w.0 c.args.v.0 m (now m) (Some (c.args.t, c.args.bytes.now))
    (λ ps. refl) (λ ps. refl) (λ r. refl) c.requires.can.told c.make_by-done.result c.settle_write.ensures.writes c.settle_write.result c.settle_write.ensures.says c.make_by-done.ensures.made c.make_by-done.ensures.kept

pub returns-clause-refused : goal.returns-clause-refused
returns-clause-refused g c =
    landing-refused c.make_by-done.result c.settle_write.result c.settle_write.ensures.says (volume_seen (g.P.Plant.state c.args.plant.now) c.args.config.now c.args.v.0).server c.make_by-done.ensures.made.server

pub returns-clause-moved : goal.returns-clause-moved
returns-clause-moved g c =
    let s = g.P.Plant.state c.args.plant.now in
    landing-moved c.make_by-done.result c.settle_write.result c.settle_write.ensures.says s (g.P.Plant.state c.make_by-done.new.plant) c.args.config.now c.args.v.0 (synced (volume_seen s c.args.config.now c.args.v.0).fields c.args.t) (Some (c.args.t, c.args.bytes.now)) c.make_by-done.ensures.made.came

pub returns-clause-others : goal.returns-clause-others
returns-clause-others g c = c.make_by-done.ensures.made.others
