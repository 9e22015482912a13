use Rattle.std.proofs.Common.{◌≡◌, ◌∙◌, sym, subst, inr}
use Rattle.dr_model.specs.Layout.{Fields}
use Rattle.dr_model.specs.Lawful.{IsLawful, EntriesFollow}
use Rattle.dr_model.specs.Moves.{fields_left}
use Rattle.dr_volume.specs.Plain.{plain}
use Rattle.dr_volume.specs.Update.{Covers}
use Rattle.dr_volume.specs.View.{volume_seen}
use Rattle.dr_volume.proofs.OpenedLaws.{slot-opened}
use Rattle.dr_volume.proofs.SaysLaws.{shows-says}
use Rattle.dr_moves.specs.Moves.{move_of, volume_with}
use Rattle.dr_moves.specs.Told.{seen}
use Rattle.dr_moves.proofs.ChangeLemmas.{rows-by, done-room, stop-room, done-left, stayed-done, stayed-stopped, made-done, made-stopped, either-left}
use Rattle.dr_moves.proofs.MoveRows.{next-row, keeps-of}
use Rattle.dr_moves.proofs.SideLemmas.{entries-follow}
use Rattle.dr_moves.proofs.acts.change.Goals as goal

pub next_fields-requires-clause-below : goal.next_fields-requires-clause-below
next_fields-requires-clause-below g c = c.requires.ready.below

pub change-requires-clause-within : goal.change-requires-clause-within
change-requires-clause-within g c = c.requires.ready.within

pub change-requires-clause-lawful : goal.change-requires-clause-lawful
change-requires-clause-lawful g c =
    let s = g.P.Plant.state c.args.plant.now in
    let t = c.args.config.now in
    let m = move_of c.args.m.now in
    let x = volume_seen s t c.args.v.0 in
    let next : plain c.next_fields.new.f ≡ fields_left m x = c.next_fields.ensures.fields ∙ next-row m x c.tracks_of-size.result (plain c.args.fields.now) (c.tracks_of-size.ensures.seen s) c.requires.says.fields in
    subst (IsLawful x.tracks) (sym next) c.requires.ready.lawful

pub change-requires-clause-covers : goal.change-requires-clause-covers
change-requires-clause-covers g c =
    let s = g.P.Plant.state c.args.plant.now in
    let t = c.args.config.now in
    let m = move_of c.args.m.now in
    let x = volume_seen s t c.args.v.0 in
    let next : plain c.next_fields.new.f ≡ fields_left m x = c.next_fields.ensures.fields ∙ next-row m x c.tracks_of-size.result (plain c.args.fields.now) (c.tracks_of-size.ensures.seen s) c.requires.says.fields in
    subst (λ (f : Fields). Covers x.fields.blank f.blank c.args.track) (sym next) c.requires.ready.covers

pub change-requires-clause-follows : goal.change-requires-clause-follows
change-requires-clause-follows g c =
    let s = g.P.Plant.state c.args.plant.now in
    let t = c.args.config.now in
    let m = move_of c.args.m.now in
    let x = volume_seen s t c.args.v.0 in
    let next : plain c.next_fields.new.f ≡ fields_left m x = c.next_fields.ensures.fields ∙ next-row m x c.tracks_of-size.result (plain c.args.fields.now) (c.tracks_of-size.ensures.seen s) c.requires.says.fields in
    subst (λ (f : Fields). EntriesFollow x.fields.entries f.entries) (sym next) (entries-follow m x)

pub tell_done-requires : goal.tell_done-requires
tell_done-requires g c =
    let s = g.P.Plant.state c.args.plant.now in
    let t = c.args.config.now in
    let m = move_of c.args.m.now in
    let x = volume_seen s t c.args.v.0 in
    let next = plain c.next_fields.new.f in
    let y = volume_with c.tracks_of-size.result (seen c.sight_of-sight.result) in
    let rows = rows-by m x c.tracks_of-size.result (plain c.args.fields.now) next (seen c.sight_of-sight.result) (c.tracks_of-size.ensures.seen s) c.requires.says.fields
    c.next_fields.ensures.fields (c.sight_of-sight.ensures.done m c.tracks_of-size.result) (c.sight_of-sight.ensures.in_stop m c.tracks_of-size.result) in
    done-room m x next y c.args.journal.now c.args.journal.now rows c.requires.room

pub tell_stop-requires : goal.tell_stop-requires
tell_stop-requires g c =
    let s = g.P.Plant.state c.args.plant.now in
    let t = c.args.config.now in
    let m = move_of c.args.m.now in
    let x = volume_seen s t c.args.v.0 in
    let next = plain c.next_fields.new.f in
    let y = volume_with c.tracks_of-size.result (seen c.sight_of-sight.result) in
    let rows = rows-by m x c.tracks_of-size.result (plain c.args.fields.now) next (seen c.sight_of-sight.result) (c.tracks_of-size.ensures.seen s) c.requires.says.fields
    c.next_fields.ensures.fields (c.sight_of-sight.ensures.done m c.tracks_of-size.result) (c.sight_of-sight.ensures.in_stop m c.tracks_of-size.result) in
    stop-room m x next y c.args.journal.now c.args.journal.now rows c.requires.room

pub returns-in-Ok-clause-room_left : goal.returns-in-Ok-clause-room_left
returns-in-Ok-clause-room_left g c =
    let s = g.P.Plant.state c.args.plant.now in
    let t = c.args.config.now in
    let m = move_of c.args.m.now in
    let x = volume_seen s t c.args.v.0 in
    let next = plain c.next_fields.new.f in
    let y = volume_with c.tracks_of-size.result (seen c.sight_of-sight.result) in
    let rows = rows-by m x c.tracks_of-size.result (plain c.args.fields.now) next (seen c.sight_of-sight.result) (c.tracks_of-size.ensures.seen s) c.requires.says.fields
    c.next_fields.ensures.fields (c.sight_of-sight.ensures.done m c.tracks_of-size.result) (c.sight_of-sight.ensures.in_stop m c.tracks_of-size.result) in
    done-left m x next y c.args.journal.now c.tell_done.new.journal rows c.tell_done.ensures.spare

pub returns-in-Ok-clause-stayed : goal.returns-in-Ok-clause-stayed
returns-in-Ok-clause-stayed g c =
    let s = g.P.Plant.state c.args.plant.now in
    let t = c.args.config.now in
    let m = move_of c.args.m.now in
    let x = volume_seen s t c.args.v.0 in
    let next = plain c.next_fields.new.f in
    let y = volume_with c.tracks_of-size.result (seen c.sight_of-sight.result) in
    let rows = rows-by m x c.tracks_of-size.result (plain c.args.fields.now) next (seen c.sight_of-sight.result) (c.tracks_of-size.ensures.seen s) c.requires.says.fields
    c.next_fields.ensures.fields (c.sight_of-sight.ensures.done m c.tracks_of-size.result) (c.sight_of-sight.ensures.in_stop m c.tracks_of-size.result) in
    stayed-done m x next y c.args.journal.now c.tell_done.new.journal rows s (g.P.Plant.state c.change.new.plant) t x.server c.change.ensures.stands c.change.ensures.unarmed c.in-Ok.ensures.no_fault c.in-Ok.ensures.on c.tell_done.ensures.events c.tell_done.ensures.spare

pub returns-in-Err-clause-stayed : goal.returns-in-Err-clause-stayed
returns-in-Err-clause-stayed g c =
    let s = g.P.Plant.state c.args.plant.now in
    let t = c.args.config.now in
    let m = move_of c.args.m.now in
    let x = volume_seen s t c.args.v.0 in
    let next = plain c.next_fields.new.f in
    let y = volume_with c.tracks_of-size.result (seen c.sight_of-sight.result) in
    let rows = rows-by m x c.tracks_of-size.result (plain c.args.fields.now) next (seen c.sight_of-sight.result) (c.tracks_of-size.ensures.seen s) c.requires.says.fields
    c.next_fields.ensures.fields (c.sight_of-sight.ensures.done m c.tracks_of-size.result) (c.sight_of-sight.ensures.in_stop m c.tracks_of-size.result) in
    stayed-stopped m x next y c.args.journal.now c.tell_stop.new.journal rows s (g.P.Plant.state c.change.new.plant) t x.server _ c.change.ensures.stands c.change.ensures.unarmed c.in-Err.ensures.fault c.in-Err.ensures.off c.tell_stop.ensures.spare c.tell_stop.ensures.sum

pub returns-in-Ok-clause-made : goal.returns-in-Ok-clause-made
returns-in-Ok-clause-made g c =
    let s = g.P.Plant.state c.args.plant.now in
    let t = c.args.config.now in
    let m = move_of c.args.m.now in
    let x = volume_seen s t c.args.v.0 in
    let next = plain c.next_fields.new.f in
    let y = volume_with c.tracks_of-size.result (seen c.sight_of-sight.result) in
    let rows = rows-by m x c.tracks_of-size.result (plain c.args.fields.now) next (seen c.sight_of-sight.result) (c.tracks_of-size.ensures.seen s) c.requires.says.fields
    c.next_fields.ensures.fields (c.sight_of-sight.ensures.done m c.tracks_of-size.result) (c.sight_of-sight.ensures.in_stop m c.tracks_of-size.result) in
    made-done s (g.P.Plant.state c.change.new.plant) t c.args.journal.now c.tell_done.new.journal m c.args.v.0 next c.args.track y c.requires.target (keeps-of c.args.m.now) c.requires.ready c.requires.carries rows
    (λ r. c.in-Ok.ensures.exact (record r { events = c.args.journal.now.events })) c.in-Ok.ensures.done c.in-Ok.ensures.others c.tell_done.ensures.events

pub returns-in-Err-clause-made : goal.returns-in-Err-clause-made
returns-in-Err-clause-made g c =
    let s = g.P.Plant.state c.args.plant.now in
    let t = c.args.config.now in
    let m = move_of c.args.m.now in
    let x = volume_seen s t c.args.v.0 in
    let next = plain c.next_fields.new.f in
    let y = volume_with c.tracks_of-size.result (seen c.sight_of-sight.result) in
    let rows = rows-by m x c.tracks_of-size.result (plain c.args.fields.now) next (seen c.sight_of-sight.result) (c.tracks_of-size.ensures.seen s) c.requires.says.fields
    c.next_fields.ensures.fields (c.sight_of-sight.ensures.done m c.tracks_of-size.result) (c.sight_of-sight.ensures.in_stop m c.tracks_of-size.result) in
    made-stopped s (g.P.Plant.state c.change.new.plant) t c.args.journal.now c.tell_stop.new.journal m c.args.v.0 next c.args.track y c.requires.target (keeps-of c.args.m.now) c.requires.ready c.requires.carries rows
    c.server_of-server.result c.slot-before.result c.slot.result (c.server_of-server.ensures.seen s) (c.slot-before.ensures ∙ slot-opened s t c.args.v.0 c.args.gate.now c.requires.ready.ready.defined c.requires.gate) c.slot.ensures
    (λ r. inr (c.in-Err.ensures.exact (record r { events = c.args.journal.now.events }))) c.change.ensures.old_or_new c.change.ensures.others c.tell_stop.ensures.events

pub returns-in-Ok-clause-either : goal.returns-in-Ok-clause-either
returns-in-Ok-clause-either g c =
    let s = g.P.Plant.state c.args.plant.now in
    let t = c.args.config.now in
    let m = move_of c.args.m.now in
    let x = volume_seen s t c.args.v.0 in
    let next = plain c.next_fields.new.f in
    let y = volume_with c.tracks_of-size.result (seen c.sight_of-sight.result) in
    let rows = rows-by m x c.tracks_of-size.result (plain c.args.fields.now) next (seen c.sight_of-sight.result) (c.tracks_of-size.ensures.seen s) c.requires.says.fields
    c.next_fields.ensures.fields (c.sight_of-sight.ensures.done m c.tracks_of-size.result) (c.sight_of-sight.ensures.in_stop m c.tracks_of-size.result) in
    either-left s (g.P.Plant.state c.change.new.plant) t c.args.journal.now c.tell_done.new.journal m c.args.v.0 next c.args.track y c.requires.target (keeps-of c.args.m.now) c.requires.ready c.requires.carries rows c.change.ensures.old_or_new

pub returns-in-Err-clause-either : goal.returns-in-Err-clause-either
returns-in-Err-clause-either g c =
    let s = g.P.Plant.state c.args.plant.now in
    let t = c.args.config.now in
    let m = move_of c.args.m.now in
    let x = volume_seen s t c.args.v.0 in
    let next = plain c.next_fields.new.f in
    let y = volume_with c.tracks_of-size.result (seen c.sight_of-sight.result) in
    let rows = rows-by m x c.tracks_of-size.result (plain c.args.fields.now) next (seen c.sight_of-sight.result) (c.tracks_of-size.ensures.seen s) c.requires.says.fields
    c.next_fields.ensures.fields (c.sight_of-sight.ensures.done m c.tracks_of-size.result) (c.sight_of-sight.ensures.in_stop m c.tracks_of-size.result) in
    either-left s (g.P.Plant.state c.change.new.plant) t c.args.journal.now c.tell_stop.new.journal m c.args.v.0 next c.args.track y c.requires.target (keeps-of c.args.m.now) c.requires.ready c.requires.carries rows c.change.ensures.old_or_new

pub change-requires-clause-staged : goal.change-requires-clause-staged
change-requires-clause-staged g c = c.next_fields.ensures.stages ∙ c.requires.says.staged

pub returns-in-Ok-clause-says : goal.returns-in-Ok-clause-says
returns-in-Ok-clause-says g c = shows-says (g.P.Plant.state c.change.new.plant) c.args.config.now c.args.v.0 c.change.new.next c.in-Ok.ensures.opened.shows
