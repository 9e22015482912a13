use Rattle.std.proofs.Common.{◌≡◌, ◌&&◌, ◌+◌, length, arith, ap, sym, subst, ◌∙◌}
use Rattle.std.specs.Result.{IfOk}
use Rattle.dr_logic.proofs.Truth.{false_true}
use Rattle.dr_model.specs.WriteEntries.{is_grouped, land_mirrored}
use Rattle.dr_volume.specs.View.{ids_of}
use Rattle.dr_volume.proofs.SaysLaws.{shows-says}
use Rattle.dr_moves.proofs.TurnLemmas.{ok-along}
use Rattle.dr_metro.specs.declared.sync.WriteEnd.{WriteEnd}
use Rattle.dr_host.specs.Here.{here, rest_of}
use Rattle.dr_metro.specs.Syncing.{parted_entries, over_entries, end_of, parts}
use Rattle.dr_metro.proofs.SyncLemmas.{not-sent, is-sent}
use Rattle.dr_metro.proofs.WroteLemmas.{wrote-within, wrote-alike, landed-wrote, landed-stops, landed-ok, landed-end}
use Rattle.dr_metro.proofs.sync.write_over.Goals as goal

pub returns-then-not-can_send-clause-wrote : goal.returns-then-not-can_send-clause-wrote
returns-then-not-can_send-clause-wrote g c =
    let s = g.P.Plant.state c.args.plant.now in
    let x = g.P.Plant.state c.write_parted.new.plant in
    let t = c.args.config.now in
    let h = c.args.h.now in
    let ev = c.args.journal.now.events in
    let w = c.args.w.now in
    let v = w.volume.0 in
    let u = c.args.u.0 in
    let n = length t.volumes in
    let ids = ids_of t.volumes in
    let new = c.write_parted.new in
    wrote-alike s x t h new.h c.args.journal.now new.journal (λ k. parted_entries ids c.is_grouped-busy.result w.w.0 v w.track) (λ k. over_entries ids (parts k v u) (is_grouped k v u) w.w.0 v w.track u) (n + (n + 3)) c.write_parted.result
    (λ r. let k = (here s t r h ev).control in
    ap (λ b. parted_entries ids b w.w.0 v w.track) c.is_grouped-busy.ensures
    ∙ ap (λ b. over_entries ids b (is_grouped k v u) w.w.0 v w.track u) (sym (not-sent c.can_send.result (parts k v u) (c.can_send.ensures.sends (rest_of r h ev) ev) c.if-not-can_send.true)))
    (wrote-within s x t h new.h c.args.journal.now new.journal (λ k. parted_entries ids c.is_grouped-busy.result w.w.0 v w.track) (n + 3) (n + (n + 3)) c.write_parted.result (omega arith) c.write_parted.ensures.wrote)

pub returns-then-not-can_send-clause-end : goal.returns-then-not-can_send-clause-end
returns-then-not-can_send-clause-end g c r =
    let s = g.P.Plant.state c.args.plant.now in
    let t = c.args.config.now in
    let h = c.args.h.now in
    let ev = c.args.journal.now.events in
    let v = c.args.w.now.volume.0 in
    let u = c.args.u.0 in
    let k = (here s t r h ev).control in
    subst (λ b. IfOk c.write_parted.result (λ (e : WriteEnd). e ≡ end_of (b && is_grouped k v u))) (sym (not-sent c.can_send.result (parts k v u) (c.can_send.ensures.sends (rest_of r h ev) ev) c.if-not-can_send.true))
    (subst (λ b. IfOk c.write_parted.result (λ (e : WriteEnd). e ≡ end_of b)) c.is_grouped-busy.ensures c.write_parted.ensures.end)

pub returns-then-not-can_send-clause-mirrors : goal.returns-then-not-can_send-clause-mirrors
returns-then-not-can_send-clause-mirrors g c = ok-along c.write_parted.result c.write_parted.ensures.suspended (λ is in_sync active. false_true active is)

pub write_both_by-requires-clause-can : goal.write_both_by-requires-clause-can
write_both_by-requires-clause-can g c =
    let q = c.requires in
    record {
      due = q.due;
      running = q.running;
      primary = q.primary;
      pair = q.pair;
      reached = c.can_send.ensures.reached c.if-not-can_send.false;
      says = q.says;
      says_to = shows-says _ _ _ _ c.peek_fields-to.ensures;
      alone = q.alone;
    }

pub returns-clause-wrote : goal.returns-clause-wrote
returns-clause-wrote g c =
    let s = g.P.Plant.state c.args.plant.now in
    let x = g.P.Plant.state c.write_both_by.new.plant in
    let t = c.args.config.now in
    let h = c.args.h.now in
    let ev = c.args.journal.now.events in
    let w = c.args.w.now in
    let v = w.volume.0 in
    let u = c.args.u.0 in
    let n = length t.volumes in
    let ids = ids_of t.volumes in
    let new = c.write_both_by.new in
    landed-wrote c.write_both_by.result c.landed.result c.landed.ensures s x t h new.h c.args.journal.now new.journal (λ k. over_entries ids (parts k v u) (is_grouped k v u) w.w.0 v w.track u) (n + (n + 3))
    (wrote-alike s x t h new.h c.args.journal.now new.journal (λ k. land_mirrored ids w.w.0 v w.track u) (λ k. over_entries ids (parts k v u) (is_grouped k v u) w.w.0 v w.track u) (n + (n + 3)) c.write_both_by.result
    (λ r. let k = (here s t r h ev).control in ap (λ b. over_entries ids b (is_grouped k v u) w.w.0 v w.track u) (sym (is-sent c.can_send.result (parts k v u) (c.can_send.ensures.sends (rest_of r h ev) ev) c.if-not-can_send.false)))
    (wrote-within s x t h new.h c.args.journal.now new.journal (λ k. land_mirrored ids w.w.0 v w.track u) (n + (n + 2)) (n + (n + 3)) c.write_both_by.result (omega arith) c.write_both_by.ensures.wrote))

pub returns-clause-end : goal.returns-clause-end
returns-clause-end g c r =
    let k = (here (g.P.Plant.state c.args.plant.now) c.args.config.now r c.args.h.now c.args.journal.now.events).control in
    let v = c.args.w.now.volume.0 in
    let u = c.args.u.0 in
    landed-end c.write_both_by.result c.landed.result c.landed.ensures (parts k v u && is_grouped k v u)
    (ap (λ b. b && is_grouped k v u) (is-sent c.can_send.result (parts k v u) (c.can_send.ensures.sends (rest_of r c.args.h.now c.args.journal.now.events) c.args.journal.now.events) c.if-not-can_send.false))

pub returns-clause-mirrors : goal.returns-clause-mirrors
returns-clause-mirrors g c = landed-ok c.write_both_by.result c.landed.result c.landed.ensures _ (ok-along c.write_both_by.result c.write_both_by.ensures.equal (λ is in_sync active. is))

pub returns-clause-stops : goal.returns-clause-stops
returns-clause-stops g c = landed-stops c.write_both_by.result c.landed.result c.landed.ensures c.write_both_by.ensures.stops
