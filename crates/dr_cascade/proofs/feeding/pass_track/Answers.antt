use Rattle.std.proofs.Common.{◌≡◌, ◌≢◌, false, ◌+◌, length, arith, [], ◌∷◌, ◌∙◌}
use Rattle.std.specs.Prelude.{Ok, Err}
use Rattle.dr_model.specs.Entries.{copies_from}
use Rattle.dr_model.specs.PairEntries.{suspend_after}
use Rattle.dr_volume.specs.View.{ids_of, volume_seen}
use Rattle.dr_moves.specs.Made.{IsAt}
use Rattle.dr_gcopy.specs.Sending.{pass_entries}
use Rattle.dr_gcopy.proofs.PairChecks.{counted-stops}
use Rattle.dr_cascade.proofs.FedLemmas.{ran-in-none, ran-in-then, ran-in-failed}
use Rattle.dr_cascade.proofs.feeding.pass_track.Goals as goal

pub pass_on-requires-clause-rest : goal.pass_on-requires-clause-rest
pass_on-requires-clause-rest g c = c.requires.at.rest

pub pass_on-requires-clause-fit : goal.pass_on-requires-clause-fit
pass_on-requires-clause-fit g c = c.requires.at.fit

pub pass_on-requires-clause-to : goal.pass_on-requires-clause-to
pass_on-requires-clause-to g c = c.requires.pair.to

pub pass_on-requires-clause-two_servers : goal.pass_on-requires-clause-two_servers
pass_on-requires-clause-two_servers g c = c.requires.pair.two_servers

pub pass_on-requires-clause-size : goal.pass_on-requires-clause-size
pass_on-requires-clause-size g c = c.requires.pair.size

pub pass_on-requires-clause-room : goal.pass_on-requires-clause-room
pass_on-requires-clause-room g c = let a = c.requires.room in omega (arith, a)

pub returns-in-Ok-clause-ran : goal.returns-in-Ok-clause-ran
returns-in-Ok-clause-ran g c =
    let s = g.P.Plant.state c.args.plant.now in
    let m = g.P.Plant.state c.pass_on.new.plant in
    let t = c.args.config.now in
    let a = c.args.a.0 in
    let b = c.args.b.0 in
    let n = length t.volumes in
    let j = c.args.journal.now in
    let l = c.pass_on.new.journal in
    let h = c.in-Ok.ensures in
    let at : IsAt m t = record { rest = h.rest; fit = h.fit } in
    ran-in-then s m m t j l l (pass_entries (ids_of t.volumes) a b c.args.t) (λ q. (q ≢ a) × ((q ≢ b) × (copies_from b (volume_seen s t q).fields ≡ false))) (n + 2) (n + 1) (suspend_after a) [] 0 0 (n + 5) (n + 1) (Ok tt) (omega arith) (omega arith)
    (record {
      leads = h.leads;
      fails = tt;
      stays = record { at = at; unarmed = h.unarmed; faults = h.faults; others = λ q p. h.others q p.0 p.1.0 p.1.1; on = h.on; room = h.room; left = h.room_left; spare = h.spare };
    }) (ran-in-none m t l tt at)

pub follow_stop-requires-clause-rest : goal.follow_stop-requires-clause-rest
follow_stop-requires-clause-rest g c = c.in-Err.ensures.rest

pub follow_stop-requires-clause-fit : goal.follow_stop-requires-clause-fit
follow_stop-requires-clause-fit g c = c.in-Err.ensures.fit

pub follow_stop-requires-clause-room : goal.follow_stop-requires-clause-room
follow_stop-requires-clause-room g c = let a = c.requires.room in let b = c.in-Err.ensures.room in omega (arith, a, b)

pub returns-in-Err-clause-ran : goal.returns-in-Err-clause-ran
returns-in-Err-clause-ran g c =
    let s = g.P.Plant.state c.args.plant.now in
    let m = g.P.Plant.state c.pass_on.new.plant in
    let u = g.P.Plant.state c.follow_stop.new.plant in
    let t = c.args.config.now in
    let a = c.args.a.0 in
    let b = c.args.b.0 in
    let n = length t.volumes in
    let h = c.in-Err.ensures in
    let f = c.follow_stop.ensures in
    let why = c.in-Err.why in
    ran-in-failed s m u t c.args.journal.now c.pass_on.new.journal c.follow_stop.new.journal (pass_entries (ids_of t.volumes) a b c.args.t) (λ q. (q ≢ a) × ((q ≢ b) × (copies_from b (volume_seen s t q).fields ≡ false))) (n + 2) (n + 1) (suspend_after a) [] 3 (n + 5) (n + 1) why (omega arith)
    (record {
      leads = tt;
      fails = h.fails;
      stays = record { at = record { rest = h.rest; fit = h.fit }; unarmed = h.unarmed; faults = counted-stops (Err why) s.faults m.faults h.stops h.faults; others = λ q p. h.others q p.0 p.1.0 p.1.1; on = tt; room = h.room; left = tt; spare = h.spare };
    })
    (record { follows = f.follows; at = record { rest = f.rest; fit = f.fit }; unarmed = f.unarmed; faults = f.faults; room = f.room; spare = f.spare })
