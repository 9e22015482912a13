use Rattle.std.proofs.Common.{ℕ, ◌≡◌, true, false, ◌+◌, List, length, arith, [], ◌∷◌, ap, sym, subst, ◌∙◌, refl}
use Rattle.std.specs.Result.{IfOk}
use Rattle.std.proofs.lemmas.Bool.{and_parts}
use Rattle.dr_logic.proofs.Truth.{false_true}
use Rattle.dr_model.specs.Carry.{Entry, Stretch}
use Rattle.dr_model.specs.Entries.{fields_at}
use Rattle.dr_model.specs.Layout.{Fields}
use Rattle.dr_model.specs.Pairs.{held, goes_over, is_cascaded}
use Rattle.dr_model.specs.WriteEntries.{is_grouped, part_after, waits}
use Rattle.dr_volume.specs.View.{ids_of, volume_seen}
use Rattle.dr_volume.proofs.SaysLaws.{shows-says}
use Rattle.dr_moves.proofs.TurnLemmas.{ok-along}
use Rattle.dr_host.specs.Here.{here, rest_of}
use Rattle.dr_gcopy.specs.Sending.{MayPair}
use Rattle.dr_metro.specs.Mirroring.{Mirrors}
use Rattle.dr_metro.specs.Syncing.{parted_entries, fed_stretches, placed_stretches, parts, end_of}
use Rattle.dr_metro.specs.declared.sync.WriteEnd.{WriteEnd}
use Rattle.dr_metro.specs.declared.sync.WriteEnd.TheVariants.{Landed, Held}
use Rattle.dr_metro.proofs.SyncLemmas.{not-sent, is-sent, followed-given, ok-given}
use Rattle.dr_metro.proofs.WroteInLemmas.{wrote-in, in-as, in-nothing}
use Rattle.dr_cascade.proofs.PlacedLemmas.{parted-placed, kept-placed, fed-placed, parted-waits, kept-waits, fed-waits}
use Rattle.dr_cascade.proofs.writing.write_over.Goals as goal

pub write_parted-done-requires-clause-room : goal.write_parted-done-requires-clause-room
write_parted-done-requires-clause-room g c = let a = c.requires.room in omega (arith, a)

pub followed-requires-clause-at : goal.followed-requires-clause-at
followed-requires-clause-at g c = c.write_parted-done.ensures.wrote.at

pub followed-requires-clause-defined : goal.followed-requires-clause-defined
followed-requires-clause-defined g c = c.requires.due.defined

pub followed-requires-clause-room : goal.followed-requires-clause-room
followed-requires-clause-room g c = let a = c.requires.room in let b = c.write_parted-done.ensures.wrote.room in omega (arith, a, b)

pub returns-then-not-can_send-clause-wrote : goal.returns-then-not-can_send-clause-wrote
returns-then-not-can_send-clause-wrote g c =
    let s = g.P.Plant.state c.args.plant.now in
    let m = g.P.Plant.state c.write_parted-done.new.plant in
    let x = g.P.Plant.state c.followed.new.plant in
    let t = c.args.config.now in
    let h = c.args.h.now in
    let j = c.args.journal.now in
    let w = c.args.w.now in
    let v = w.volume.0 in
    let u = c.args.u.0 in
    let n = length t.volumes in
    let ids = ids_of t.volumes in
    let mid = c.write_parted-done.new in
    let new = c.followed.new.journal in
    let busy = c.is_grouped-busy.result in
    let b = c.followed.ensures in
    let shows = c.requires.shows.fields in
    let partner : (volume_seen s t v).fields.primary_partner ≡ u = ap (λ (f : Fields). f.primary_partner) (sym shows) ∙ c.requires.partner in
    let one : List Entry → List Stretch = λ es. record { entries = es; follows = part_after v } ∷ [] in
    in-as s x t h mid.h j new (λ k. one (parted_entries ids busy w.w.0 v w.track)) (λ k. placed_stretches k w.w.0 v w.track) (n + 3 + 3) (n + (n + (n + 9))) c.write_parted-done.result c.followed.result (omega arith)
    (λ r. let k = (here s t r h j.events).control in
    ap (λ z. one (parted_entries ids z w.w.0 v w.track)) (c.is_grouped-busy.ensures ∙ ap (λ q. is_grouped k v q) (sym partner))
    ∙ sym (parted-placed k w.w.0 v w.track (ap held (sym shows) ∙ c.requires.free) (ap (λ (f : Fields). goes_over f w.track) (sym shows) ∙ c.requires.goes)
    (ap (λ q. parts k v q) partner ∙ not-sent c.can_send.result (parts k v u) (c.can_send.ensures.sends (rest_of r h j.events) j.events) c.if-not-can_send.true))) b.result
    (wrote-in s m x t h j mid.journal new mid.h (λ k. parted_entries ids busy w.w.0 v w.track) (part_after v) (n + 3) c.write_parted-done.result c.write_parted-done.ensures.wrote
    (record { follows = b.follows; at = b.at; unarmed = b.unarmed; faults = b.faults; room = b.room; spare = b.spare }))

pub returns-then-not-can_send-clause-end : goal.returns-then-not-can_send-clause-end
returns-then-not-can_send-clause-end g c r =
    let s = g.P.Plant.state c.args.plant.now in
    let t = c.args.config.now in
    let h = c.args.h.now in
    let j = c.args.journal.now in
    let w = c.args.w.now in
    let v = w.volume.0 in
    let u = c.args.u.0 in
    let k = (here s t r h j.events).control in
    let shows = c.requires.shows.fields in
    let partner : (volume_seen s t v).fields.primary_partner ≡ u = ap (λ (f : Fields). f.primary_partner) (sym shows) ∙ c.requires.partner in
    subst (λ x. IfOk x (λ (e : WriteEnd). e ≡ end_of (waits k v w.track))) (sym c.followed.ensures.result)
    (subst (λ b. IfOk c.write_parted-done.result (λ (e : WriteEnd). e ≡ end_of b)) (c.is_grouped-busy.ensures ∙ ap (λ q. is_grouped k v q) (sym partner)
    ∙ sym (parted-waits k w.w.0 v w.track (ap held (sym shows) ∙ c.requires.free) (ap (λ (f : Fields). goes_over f w.track) (sym shows) ∙ c.requires.goes)
    (ap (λ q. parts k v q) partner ∙ not-sent c.can_send.result (parts k v u) (c.can_send.ensures.sends (rest_of r h j.events) j.events) c.if-not-can_send.true)))
    c.write_parted-done.ensures.end)

pub returns-then-not-can_send-clause-mirrors : goal.returns-then-not-can_send-clause-mirrors
returns-then-not-can_send-clause-mirrors g c =
    let w = c.args.w.now in
    let b = c.followed.ensures in
    followed-given (λ e. e ≡ Landed) c.write_parted-done.result c.followed.result b.result _ _ (λ y. Mirrors y c.args.config.now w.volume.0 c.args.u.0 w.track) b.stays
    (ok-along c.write_parted-done.result c.write_parted-done.ensures.suspended (λ is in_sync active. false_true active is))

pub returns-then-to-clause-wrote : goal.returns-then-to-clause-wrote
returns-then-to-clause-wrote g c =
    let s = g.P.Plant.state c.args.plant.now in
    let t = c.args.config.now in
    let h = c.args.h.now in
    let j = c.args.journal.now in
    let w = c.args.w.now in
    let v = w.volume.0 in
    let u = c.args.u.0 in
    let n = length t.volumes in
    let shows = c.requires.shows.fields in
    let partner : (volume_seen s t v).fields.primary_partner ≡ u = ap (λ (f : Fields). f.primary_partner) (sym shows) ∙ c.requires.partner in
    in-nothing s t h j (λ k. placed_stretches k w.w.0 v w.track) (part_after v) (n + (n + (n + 9))) Held
    (λ r. let k = (here s t r h j.events).control in
    kept-placed k w.w.0 v w.track (ap held (sym shows) ∙ c.requires.free) (ap (λ (f : Fields). goes_over f w.track) (sym shows) ∙ c.requires.goes)
    (ap (λ q. parts k v q) partner ∙ is-sent c.can_send.result (parts k v u) (c.can_send.ensures.sends (rest_of r h j.events) j.events) c.if-not-can_send.false)
    (ap (λ q. is_cascaded (fields_at k q)) partner ∙ c.requires.cascaded)
    (ap (λ q. (fields_at k q).coordination) partner ∙ ap (λ (f : Fields). f.coordination) (sym c.peek_fields-to.ensures.fields) ∙ c.if-to.true))
    c.requires.due.at c.requires.due.told

pub returns-then-to-clause-end : goal.returns-then-to-clause-end
returns-then-to-clause-end g c r =
    let s = g.P.Plant.state c.args.plant.now in
    let t = c.args.config.now in
    let h = c.args.h.now in
    let j = c.args.journal.now in
    let w = c.args.w.now in
    let v = w.volume.0 in
    let u = c.args.u.0 in
    let k = (here s t r h j.events).control in
    let shows = c.requires.shows.fields in
    let partner : (volume_seen s t v).fields.primary_partner ≡ u = ap (λ (f : Fields). f.primary_partner) (sym shows) ∙ c.requires.partner in
    ap end_of (sym (kept-waits k w.w.0 v w.track (ap held (sym shows) ∙ c.requires.free) (ap (λ (f : Fields). goes_over f w.track) (sym shows) ∙ c.requires.goes)
    (ap (λ q. parts k v q) partner ∙ is-sent c.can_send.result (parts k v u) (c.can_send.ensures.sends (rest_of r h j.events) j.events) c.if-not-can_send.false)
    (ap (λ q. is_cascaded (fields_at k q)) partner ∙ c.requires.cascaded)
    (ap (λ q. (fields_at k q).coordination) partner ∙ ap (λ (f : Fields). f.coordination) (sym c.peek_fields-to.ensures.fields) ∙ c.if-to.true)))

pub returns-then-to-clause-mirrors : goal.returns-then-to-clause-mirrors
returns-then-to-clause-mirrors g c = λ never. absurd cc

pub write_fed-requires-clause-can : goal.write_fed-requires-clause-can
write_fed-requires-clause-can g c =
    let q = c.requires in
    record {
      due = q.due;
      running = q.running;
      primary = q.primary;
      pair = q.pair;
      reached = c.can_send.ensures.reached c.if-not-can_send.false;
      says = shows-says _ _ _ _ q.shows;
      says_to = shows-says _ _ _ _ c.peek_fields-to.ensures;
      alone = q.alone;
    }

pub write_fed-requires-clause-next_primary : goal.write_fed-requires-clause-next_primary
write_fed-requires-clause-next_primary g c = (and_parts _ _ c.requires.cascaded).0

pub write_fed-requires-clause-next : goal.write_fed-requires-clause-next
write_fed-requires-clause-next g c = subst (λ (f : Fields). MayPair (g.P.Plant.state c.args.plant.now) c.args.config.now c.args.u.0 f.primary_partner) (sym c.peek_fields-to.ensures.fields) c.requires.next

pub returns-clause-wrote : goal.returns-clause-wrote
returns-clause-wrote g c =
    let s = g.P.Plant.state c.args.plant.now in
    let x = g.P.Plant.state c.write_fed.new.plant in
    let t = c.args.config.now in
    let h = c.args.h.now in
    let j = c.args.journal.now in
    let w = c.args.w.now in
    let v = w.volume.0 in
    let u = c.args.u.0 in
    let n = length t.volumes in
    let new = c.write_fed.new in
    let shows = c.requires.shows.fields in
    let to = c.peek_fields-to.ensures.fields in
    let partner : (volume_seen s t v).fields.primary_partner ≡ u = ap (λ (f : Fields). f.primary_partner) (sym shows) ∙ c.requires.partner in
    in-as s x t h new.h j new.journal (λ k. fed_stretches (ids_of t.volumes) w.w.0 v w.track u c.peek_fields-to.result.primary_partner.0) (λ k. placed_stretches k w.w.0 v w.track) (n + (n + (n + 9))) (n + (n + (n + 9))) c.write_fed.result c.write_fed.result (omega arith)
    (λ r. let k = (here s t r h j.events).control in
    ap (λ (f : Fields). fed_stretches (ids_of t.volumes) w.w.0 v w.track u f.primary_partner) to
    ∙ ap (λ q. fed_stretches (ids_of t.volumes) w.w.0 v w.track q (fields_at k q).primary_partner) (sym partner)
    ∙ sym (fed-placed k w.w.0 v w.track (ap held (sym shows) ∙ c.requires.free) (ap (λ (f : Fields). goes_over f w.track) (sym shows) ∙ c.requires.goes)
    (ap (λ q. parts k v q) partner ∙ is-sent c.can_send.result (parts k v u) (c.can_send.ensures.sends (rest_of r h j.events) j.events) c.if-not-can_send.false)
    (ap (λ q. is_cascaded (fields_at k q)) partner ∙ c.requires.cascaded)
    (ap (λ q. (fields_at k q).coordination) partner ∙ ap (λ (f : Fields). f.coordination) (sym to) ∙ c.if-to.false))) refl c.write_fed.ensures.wrote

pub returns-clause-end : goal.returns-clause-end
returns-clause-end g c r =
    let s = g.P.Plant.state c.args.plant.now in
    let t = c.args.config.now in
    let h = c.args.h.now in
    let j = c.args.journal.now in
    let w = c.args.w.now in
    let v = w.volume.0 in
    let u = c.args.u.0 in
    let k = (here s t r h j.events).control in
    let shows = c.requires.shows.fields in
    let partner : (volume_seen s t v).fields.primary_partner ≡ u = ap (λ (f : Fields). f.primary_partner) (sym shows) ∙ c.requires.partner in
    subst (λ b. IfOk c.write_fed.result (λ (e : WriteEnd). e ≡ end_of b))
    (sym (fed-waits k w.w.0 v w.track (ap held (sym shows) ∙ c.requires.free) (ap (λ (f : Fields). goes_over f w.track) (sym shows) ∙ c.requires.goes)
    (ap (λ q. parts k v q) partner ∙ is-sent c.can_send.result (parts k v u) (c.can_send.ensures.sends (rest_of r h j.events) j.events) c.if-not-can_send.false)
    (ap (λ q. (fields_at k q).coordination) partner ∙ ap (λ (f : Fields). f.coordination) (sym c.peek_fields-to.ensures.fields) ∙ c.if-to.false)
    (ap (λ q. is_cascaded (fields_at k q)) partner ∙ c.requires.cascaded)))
    c.write_fed.ensures.end

pub returns-clause-mirrors : goal.returns-clause-mirrors
returns-clause-mirrors g c = ok-given c.write_fed.result (λ e. e ≡ Landed) _ c.write_fed.ensures.mirrors
