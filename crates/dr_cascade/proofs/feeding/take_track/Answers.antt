use Rattle.std.proofs.Common.{◌≡◌, ◌≢◌, ◌<◌, false, ◌&&◌, ◌+◌, length, arith, [], ◌∷◌, ap, sym, subst, ◌∙◌}
use Rattle.std.specs.Prelude.{Err}
use Rattle.std.proofs.lemmas.Bool.{and_parts}
use Rattle.dr_model.specs.Entries.{copies_from}
use Rattle.dr_model.specs.Layout.{Fields, is_part}
use Rattle.dr_model.specs.PairEntries.{send_first, suspend_after, suspend_running, suspend_unless}
use Rattle.dr_volume.specs.View.{ids_of, volume_seen}
use Rattle.dr_moves.proofs.TurnLemmas.{ok-along}
use Rattle.dr_gcopy.specs.Sending.{MayPair, pass_entries}
use Rattle.dr_gcopy.proofs.SendLemmas.{same-tracks}
use Rattle.dr_metro.proofs.WroteLemmas.{on-still, pair-still}
use Rattle.dr_metro.proofs.WroteInLemmas.{behind-kept}
use Rattle.dr_cascade.specs.Feeding.{RanIn, taken_stretches}
use Rattle.dr_cascade.proofs.FedLemmas.{ran-in-then, ran-in-failed, parts-then}
use Rattle.dr_cascade.proofs.feeding.take_track.Goals as goal

pub peek_fields-fields-requires-clause-defined : goal.peek_fields-fields-requires-clause-defined
peek_fields-fields-requires-clause-defined g c = c.requires.pair.to

pub peek_fields-fields-requires-clause-stands : goal.peek_fields-fields-requires-clause-stands
peek_fields-fields-requires-clause-stands g c = c.requires.at.rest.stands

pub send_on-requires-clause-defined : goal.send_on-requires-clause-defined
send_on-requires-clause-defined g c = c.requires.pair.to

pub send_on-requires-clause-primary : goal.send_on-requires-clause-primary
send_on-requires-clause-primary g c = (and_parts _ _ c.requires.cascaded).0

pub send_on-requires-clause-pair : goal.send_on-requires-clause-pair
send_on-requires-clause-pair g c =
    subst (λ (f : Fields). MayPair (g.P.Plant.state c.args.plant.now) c.args.config.now c.args.b.0 f.primary_partner) (sym c.peek_fields-fields.ensures.fields) c.requires.next

pub send_on-requires-clause-within : goal.send_on-requires-clause-within
send_on-requires-clause-within g c = subst (λ k. c.args.t < k) (sym c.requires.pair.size) c.requires.within

pub send_on-requires-clause-room : goal.send_on-requires-clause-room
send_on-requires-clause-room g c = let a = c.requires.room in omega (arith, a)

pub pass_track-requires-clause-at : goal.pass_track-requires-clause-at
pass_track-requires-clause-at g c = c.in-Ok.ensures.ran.stays.at

pub pass_track-requires-clause-running : goal.pass_track-requires-clause-running
pass_track-requires-clause-running g c = on-still (g.P.Plant.state c.args.plant.now) (g.P.Plant.state c.send_on.new.plant) c.args.config.now c.args.a.0 c.in-Ok.ensures.ran.stays.on c.requires.running

pub pass_track-requires-clause-reached : goal.pass_track-requires-clause-reached
pass_track-requires-clause-reached g c = on-still (g.P.Plant.state c.args.plant.now) (g.P.Plant.state c.send_on.new.plant) c.args.config.now c.args.b.0 c.in-Ok.ensures.ran.stays.on c.requires.reached

pub pass_track-requires-clause-primary : goal.pass_track-requires-clause-primary
pass_track-requires-clause-primary g c = ap is_part (c.in-Ok.ensures.parts c.args.a.0).primary ∙ c.requires.primary

pub pass_track-requires-clause-secondary : goal.pass_track-requires-clause-secondary
pass_track-requires-clause-secondary g c = ap is_part (c.in-Ok.ensures.parts c.args.b.0).secondary ∙ (and_parts _ _ c.requires.cascaded).1

pub pass_track-requires-clause-pair : goal.pass_track-requires-clause-pair
pass_track-requires-clause-pair g c = pair-still (g.P.Plant.state c.args.plant.now) (g.P.Plant.state c.send_on.new.plant) c.args.config.now c.args.a.0 c.args.b.0 c.requires.pair

pub pass_track-requires-clause-within : goal.pass_track-requires-clause-within
pass_track-requires-clause-within g c = subst (λ k. c.args.t < k) (same-tracks (g.P.Plant.state c.args.plant.now) (g.P.Plant.state c.send_on.new.plant) c.args.config.now c.args.a.0) c.requires.within

pub pass_track-requires-clause-room : goal.pass_track-requires-clause-room
pass_track-requires-clause-room g c = let a = c.in-Ok.ensures.ran.stays.left in let b = c.requires.room in omega (arith, a, b)

pub returns-in-Ok-clause-ran : goal.returns-in-Ok-clause-ran
returns-in-Ok-clause-ran g c =
    let s = g.P.Plant.state c.args.plant.now in
    let m = g.P.Plant.state c.send_on.new.plant in
    let u = g.P.Plant.state c.pass_track.new.plant in
    let t = c.args.config.now in
    let a = c.args.a.0 in
    let b = c.args.b.0 in
    let z = c.peek_fields-fields.result.primary_partner.0 in
    let n = length t.volumes in
    let ids = ids_of t.volumes in
    let j = c.args.journal.now in
    let new = c.pass_track.new.journal in
    subst (λ (f : Fields). RanIn s u t j new (taken_stretches ids a b f.primary_partner c.args.t) (n + (n + 9)) (n + (n + 3)) c.pass_track.result) c.peek_fields-fields.ensures.fields
    (ran-in-then s m u t j c.send_on.new.journal new (send_first ids b z c.args.t) (λ q. (q ≢ b) × ((q ≢ z) × (copies_from z (volume_seen s t q).fields ≡ false))) (n + 3) (n + 2) (suspend_running b ∷ suspend_unless b a ∷ [])
    (record { entries = pass_entries ids a b c.args.t; follows = suspend_after a } ∷ []) (n + 5) (n + 1) (n + (n + 9)) (n + (n + 3)) c.pass_track.result (omega arith) (omega arith) c.in-Ok.ensures.ran c.pass_track.ensures.ran)

pub returns-in-Ok-clause-from_parts : goal.returns-in-Ok-clause-from_parts
returns-in-Ok-clause-from_parts g c =
    let s = g.P.Plant.state c.args.plant.now in
    let m = g.P.Plant.state c.send_on.new.plant in
    let u = g.P.Plant.state c.pass_track.new.plant in
    let t = c.args.config.now in
    let a = c.args.a.0 in
    ok-along c.pass_track.result c.pass_track.ensures.struck (λ struck. parts-then (volume_seen s t a).fields (volume_seen m t a).fields (volume_seen u t a).fields (c.in-Ok.ensures.parts a) (record {
      primary = ap (λ (f : Fields). f.primary) struck;
      primary_partner = ap (λ (f : Fields). f.primary_partner) struck;
      secondary = ap (λ (f : Fields). f.secondary) struck;
      secondary_partner = ap (λ (f : Fields). f.secondary_partner) struck;
    }))

pub returns-in-Ok-clause-to_parts : goal.returns-in-Ok-clause-to_parts
returns-in-Ok-clause-to_parts g c =
    let s = g.P.Plant.state c.args.plant.now in
    let m = g.P.Plant.state c.send_on.new.plant in
    let u = g.P.Plant.state c.pass_track.new.plant in
    let t = c.args.config.now in
    let b = c.args.b.0 in
    ok-along c.pass_track.result c.pass_track.ensures.stored (λ stored. parts-then (volume_seen s t b).fields (volume_seen m t b).fields (volume_seen u t b).fields (c.in-Ok.ensures.parts b) (record {
      primary = ap (λ (f : Fields). f.primary) stored;
      primary_partner = ap (λ (f : Fields). f.primary_partner) stored;
      secondary = ap (λ (f : Fields). f.secondary) stored;
      secondary_partner = ap (λ (f : Fields). f.secondary_partner) stored;
    }))

pub follow_feed-requires-clause-at : goal.follow_feed-requires-clause-at
follow_feed-requires-clause-at g c = c.in-Err.ensures.ran.stays.at

pub follow_feed-requires-clause-to : goal.follow_feed-requires-clause-to
follow_feed-requires-clause-to g c = c.requires.pair.to

pub follow_feed-requires-clause-room : goal.follow_feed-requires-clause-room
follow_feed-requires-clause-room g c = let a = c.in-Err.ensures.ran.stays.room in let b = c.requires.room in omega (arith, a, b)

pub returns-in-Err-clause-ran : goal.returns-in-Err-clause-ran
returns-in-Err-clause-ran g c =
    let s = g.P.Plant.state c.args.plant.now in
    let m = g.P.Plant.state c.send_on.new.plant in
    let u = g.P.Plant.state c.follow_feed.new.plant in
    let t = c.args.config.now in
    let a = c.args.a.0 in
    let b = c.args.b.0 in
    let z = c.peek_fields-fields.result.primary_partner.0 in
    let n = length t.volumes in
    let ids = ids_of t.volumes in
    let j = c.args.journal.now in
    let l = c.send_on.new.journal in
    let new = c.follow_feed.new.journal in
    let fs = suspend_running b ∷ suspend_unless b a ∷ [] in
    let why = c.in-Err.why in
    subst (λ (f : Fields). RanIn s u t j new (taken_stretches ids a b f.primary_partner c.args.t) (n + (n + 9)) (n + (n + 3)) {T = Unit {0}} (Err why)) c.peek_fields-fields.ensures.fields
    (ran-in-failed s m u t j l new (send_first ids b z c.args.t) (λ q. (q ≢ b) × ((q ≢ z) × (copies_from z (volume_seen s t q).fields ≡ false))) (n + 3) (n + 2) fs
    (record { entries = pass_entries ids a b c.args.t; follows = suspend_after a } ∷ []) 6 (n + (n + 9)) (n + (n + 3)) why (omega arith) c.in-Err.ensures.ran (behind-kept m u t l new fs why 6 c.follow_feed.ensures.follows c.follow_feed.ensures.kept))
