use Rattle.std.proofs.Common.{ap, sym, subst, ◌∙◌, Some, None}
use Rattle.dr_model.specs.Layout.{Fields}
use Rattle.dr_model.specs.PairEntries.{sends, suspend_after, tracks_to_send}
use Rattle.dr_model.specs.Relations.{lowest}
use Rattle.dr_volume.specs.View.{volume_seen, ids_of}
use Rattle.dr_moves.specs.Here.{world_seen, armed_in}
use Rattle.dr_moves.specs.Followed.{EndsFollowed}
use Rattle.dr_failover.specs.Steps.{copying_checks}
use Rattle.dr_moves.proofs.FollowLemmas.{calm-follows}
use Rattle.dr_failover.proofs.ResyncLemmas.{copying-checked, duplex-refused, never-duplex, followed-behind, one-sent, none-sent, nothing-sent}
use Rattle.dr_failover.proofs.resync.resync_step.Goals as goal

pub returns-in-Some-clause-carried : goal.returns-in-Some-clause-carried
returns-in-Some-clause-carried g c r =
    let s = g.P.Plant.state c.args.plant.now in
    let w = world_seen s c.args.config.now r c.args.journal.now.events in
    record {
      middle = w;
      ends = copying-checked w c.args.x.0 (Some c.in-Some.why) (c.in-Some.ensures.refusal r c.args.journal.now.events) (armed_in s) _;
      followed = calm-follows (armed_in s) w (Some c.in-Some.why) (suspend_after c.args.x.0) c.in-Some.ensures.calm;
    }

pub returns-in-Some-clause-duplex : goal.returns-in-Some-clause-duplex
returns-in-Some-clause-duplex g c r is =
    let w = world_seen (g.P.Plant.state c.args.plant.now) c.args.config.now r c.args.journal.now.events in
    c.in-Some.ensures.refusal r c.args.journal.now.events ∙ duplex-refused w c.args.x.0 is

pub returns-in_default-lowest-clause-carried : goal.returns-in_default-lowest-clause-carried
returns-in_default-lowest-clause-carried g c r =
    let s = g.P.Plant.state c.args.plant.now in
    let t = c.args.config.now in
    let w = world_seen s t r c.args.journal.now.events in
    let x = volume_seen s t c.args.x.0 in
    let none = c.in_default-lowest.ensures.lowest ∙ (λ i. lowest (sym (c.tracks_of.ensures.seen s) i) (ap (λ (f : Fields). f.out_of_sync) c.peek_fields-fields.ensures.fields i)) in
    followed-behind (armed_in s) w w (copying_checks w.control c.args.x.0) (sends (ids_of t.volumes) c.args.x.0 x.fields.primary_partner (tracks_to_send (Some 1) x.tracks x.fields.out_of_sync)) (suspend_after c.args.x.0) None
    (copying-checked w c.args.x.0 None (c.in_default.ensures.refusal r c.args.journal.now.events))
    (subst (λ es. EndsFollowed (armed_in s) w es (suspend_after c.args.x.0) w None) (sym (none-sent (ids_of t.volumes) c.args.x.0 x.fields.primary_partner x.tracks x.fields.out_of_sync none)) (nothing-sent (armed_in s) w (suspend_after c.args.x.0)))

pub returns-in_default-lowest-clause-duplex : goal.returns-in_default-lowest-clause-duplex
returns-in_default-lowest-clause-duplex g c r is =
    never-duplex (world_seen (g.P.Plant.state c.args.plant.now) c.args.config.now r c.args.journal.now.events) c.args.x.0 (c.in_default.ensures.refusal r c.args.journal.now.events) is

pub returns-in-Ok-clause-carried : goal.returns-in-Ok-clause-carried
returns-in-Ok-clause-carried g c r =
    let s = g.P.Plant.state c.args.plant.now in
    let t = c.args.config.now in
    let w = world_seen s t r c.args.journal.now.events in
    let u = world_seen (g.P.Plant.state c.send_track.new.plant) t r c.send_track.new.journal.events in
    let x = volume_seen s t c.args.x.0 in
    let some = c.in-Some-lowest.ensures.lowest ∙ (λ i. lowest (sym (c.tracks_of.ensures.seen s) i) (ap (λ (f : Fields). f.out_of_sync) c.peek_fields-fields.ensures.fields i)) in
    followed-behind (armed_in s) w u (copying_checks w.control c.args.x.0) (sends (ids_of t.volumes) c.args.x.0 x.fields.primary_partner (tracks_to_send (Some 1) x.tracks x.fields.out_of_sync)) (suspend_after c.args.x.0) None
    (copying-checked w c.args.x.0 None (c.in_default.ensures.refusal r c.args.journal.now.events))
    (subst (λ es. EndsFollowed (armed_in s) w es (suspend_after c.args.x.0) u None) (sym (one-sent (ids_of t.volumes) c.args.x.0 x.fields.primary_partner x.tracks c.in-Some-lowest.t x.fields.out_of_sync some)) (c.in-Ok.ensures.carried r))

pub returns-in-Ok-clause-sent : goal.returns-in-Ok-clause-sent
returns-in-Ok-clause-sent g c more =
    let some = c.in-Some-lowest.ensures.lowest ∙ (λ i. lowest (sym (c.tracks_of.ensures.seen (g.P.Plant.state c.args.plant.now)) i) (ap (λ (f : Fields). f.out_of_sync) c.peek_fields-fields.ensures.fields i)) in
    record { track = c.in-Some-lowest.t; is_lowest = sym some; sent = c.in-Ok.ensures.struck; stored = c.in-Ok.ensures.stored }

pub returns-in-Ok-clause-duplex : goal.returns-in-Ok-clause-duplex
returns-in-Ok-clause-duplex g c r is =
    never-duplex (world_seen (g.P.Plant.state c.args.plant.now) c.args.config.now r c.args.journal.now.events) c.args.x.0 (c.in_default.ensures.refusal r c.args.journal.now.events) is

pub returns-in-Err-clause-carried : goal.returns-in-Err-clause-carried
returns-in-Err-clause-carried g c r =
    let s = g.P.Plant.state c.args.plant.now in
    let t = c.args.config.now in
    let w = world_seen s t r c.args.journal.now.events in
    let u = world_seen (g.P.Plant.state c.send_track.new.plant) t r c.send_track.new.journal.events in
    let x = volume_seen s t c.args.x.0 in
    let some = c.in-Some-lowest.ensures.lowest ∙ (λ i. lowest (sym (c.tracks_of.ensures.seen s) i) (ap (λ (f : Fields). f.out_of_sync) c.peek_fields-fields.ensures.fields i)) in
    followed-behind (armed_in s) w u (copying_checks w.control c.args.x.0) (sends (ids_of t.volumes) c.args.x.0 x.fields.primary_partner (tracks_to_send (Some 1) x.tracks x.fields.out_of_sync)) (suspend_after c.args.x.0) (Some c.in-Err.why)
    (copying-checked w c.args.x.0 None (c.in_default.ensures.refusal r c.args.journal.now.events))
    (subst (λ es. EndsFollowed (armed_in s) w es (suspend_after c.args.x.0) u (Some c.in-Err.why)) (sym (one-sent (ids_of t.volumes) c.args.x.0 x.fields.primary_partner x.tracks c.in-Some-lowest.t x.fields.out_of_sync some)) (c.in-Err.ensures.carried r))

pub returns-in-Err-clause-duplex : goal.returns-in-Err-clause-duplex
returns-in-Err-clause-duplex g c r is =
    never-duplex (world_seen (g.P.Plant.state c.args.plant.now) c.args.config.now r c.args.journal.now.events) c.args.x.0 (c.in_default.ensures.refusal r c.args.journal.now.events) is
