use Rattle.std.proofs.Common.{◌+◌, arith, refl, [], ◌∷◌, sym, ◌∙◌}
use Rattle.dr_volume.specs.View.{volume_seen}
use Rattle.dr_moves.proofs.StopRows.{room-few}
use Rattle.dr_incr.proofs.RestoreLemmas.{release-few}
use Rattle.dr_incr.proofs.TargetLemmas.{goes-on}
use Rattle.dr_model.specs.Relations.{lowest}
use Rattle.dr_model.specs.Carry.{now}
use Rattle.dr_model.specs.Moves.{Release}
use Rattle.dr_model.specs.Entries.{for_lowest}
use Rattle.dr_moves.specs.Here.{world_seen, armed_in, refusal_of}
use Rattle.dr_moves.proofs.EntryLemmas.{alike-advances, alike-halts, ends-by}
use Rattle.dr_moves.proofs.TurnLemmas.{ok-along, err-along}
use Rattle.dr_incr.proofs.StepLemmas.{lowest-entry}
use Rattle.dr_incr.proofs.restore.reverse_finish.Goals as goal

pub make_move-requires-clause-room : goal.make_move-requires-clause-room
make_move-requires-clause-room g c =
    let x = volume_seen (g.P.Plant.state c.args.plant.now) c.args.config.now c.args.t.0 in
    let few = release-few c.args.t.0 c.unwrap-k.result x in
    let h = c.requires.room in
    room-few (Release c.args.t.0 c.unwrap-k.result) x c.args.journal.now.spare (omega (arith, few, h))

pub returns-clause-room : goal.returns-clause-room
returns-clause-room g c =
    let x = volume_seen (g.P.Plant.state c.args.plant.now) c.args.config.now c.args.t.0 in
    let few = release-few c.args.t.0 c.unwrap-k.result x in
    let most = room-few (Release c.args.t.0 c.unwrap-k.result) x (x.tracks + 2) (omega (arith, few)) in
    let h = c.make_move.ensures.kept.room in
    omega (arith, most, h)

pub returns-clause-room_left : goal.returns-clause-room_left
returns-clause-room_left g c =
    let few = release-few c.args.t.0 c.unwrap-k.result (volume_seen (g.P.Plant.state c.args.plant.now) c.args.config.now c.args.t.0) in
    ok-along c.make_move.result c.make_move.ensures.room_left (λ is. omega (arith, few, is))

pub returns-clause-goes_on : goal.returns-clause-goes_on
returns-clause-goes_on g c =
    let s = g.P.Plant.state c.args.plant.now in
    let t = c.args.config.now in
    ok-along c.make_move.result c.make_move.ensures.moved (λ is. goes-on (volume_seen s t c.args.t.0) (volume_seen (g.P.Plant.state c.make_move.new.plant) t c.args.t.0) c.unwrap-k.result _ refl is.volume)

pub returns-clause-leads : goal.returns-clause-leads
returns-clause-leads g c =
    ok-along c.make_move.result c.make_move.ensures.entered.advances (λ goes r.
    alike-advances (world_seen (g.P.Plant.state c.args.plant.now) c.args.config.now r c.args.journal.now.events) (world_seen (g.P.Plant.state c.make_move.new.plant) c.args.config.now r c.make_move.new.journal.events) (for_lowest c.args.t.0 (λ k. now (Release c.args.t.0 k))) (now (Release c.args.t.0 c.unwrap-k.result)) (lowest-entry (g.P.Plant.state c.args.plant.now) c.args.config.now r c.args.journal.now.events c.args.t.0 c.unwrap-k.result (λ k. now (Release c.args.t.0 k)) ((λ i. lowest (c.tracks_of.ensures.seen (g.P.Plant.state c.args.plant.now) i) (sym c.peek_fields-fields.ensures.fields i).own) ∙ sym c.lowest.ensures.lowest ∙ c.unwrap-k.ensures)) (goes r))

pub returns-clause-fails : goal.returns-clause-fails
returns-clause-fails g c =
    err-along c.make_move.result c.make_move.ensures.entered.halts c.make_move.ensures.entered.refused (λ halts refused r.
    alike-halts (armed_in (g.P.Plant.state c.args.plant.now)) (world_seen (g.P.Plant.state c.args.plant.now) c.args.config.now r c.args.journal.now.events) (world_seen (g.P.Plant.state c.make_move.new.plant) c.args.config.now r c.make_move.new.journal.events) (refusal_of c.make_move.result) (for_lowest c.args.t.0 (λ k. now (Release c.args.t.0 k))) (now (Release c.args.t.0 c.unwrap-k.result)) (lowest-entry (g.P.Plant.state c.args.plant.now) c.args.config.now r c.args.journal.now.events c.args.t.0 c.unwrap-k.result (λ k. now (Release c.args.t.0 k)) ((λ i. lowest (c.tracks_of.ensures.seen (g.P.Plant.state c.args.plant.now) i) (sym c.peek_fields-fields.ensures.fields i).own) ∙ sym c.lowest.ensures.lowest ∙ c.unwrap-k.ensures)) (halts r))

pub returns-clause-carried : goal.returns-clause-carried
returns-clause-carried g c =
    ends-by c.make_move.result (armed_in (g.P.Plant.state c.args.plant.now)) (λ r. (world_seen (g.P.Plant.state c.args.plant.now) c.args.config.now r c.args.journal.now.events)) (λ r. (world_seen (g.P.Plant.state c.make_move.new.plant) c.args.config.now r c.make_move.new.journal.events)) (λ r. for_lowest c.args.t.0 (λ k. now (Release c.args.t.0 k)) ∷ []) (returns-clause-leads g c) (returns-clause-fails g c)
