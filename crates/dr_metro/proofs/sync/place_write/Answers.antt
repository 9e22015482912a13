use Rattle.std.proofs.Common.{◌≡◌, true, false, ◌+◌, length, arith, refl, ap, sym, subst, ◌∙◌, List, [], ◌∷◌}
use Rattle.std.specs.Result.{IfOk}
use Rattle.std.proofs.lemmas.Bool.{and_parts}
use Rattle.dr_model.specs.Carry.{Entry}
use Rattle.dr_model.specs.Control.{Control}
use Rattle.dr_model.specs.Entries.{land_alone}
use Rattle.dr_model.specs.Layout.{Fields, is_part}
use Rattle.dr_model.specs.Pairs as pairs
use Rattle.dr_model.specs.Pairs.{goes_over, is_metro}
use Rattle.dr_model.specs.WriteEntries.{is_grouped, part_after}
use Rattle.dr_volume.specs.Plain.{plain}
use Rattle.dr_volume.specs.View.{ids_of, volume_seen}
use Rattle.dr_volume.proofs.SaysLaws.{shows-says}
use Rattle.dr_facts.proofs.Parts.{global-part, metro-part, global_metro}
use Rattle.dr_metro.specs.declared.sync.WriteEnd.{WriteEnd}
use Rattle.dr_metro.specs.declared.sync.WriteEnd.TheVariants.{Held, Landed}
use Rattle.dr_metro.specs.Mirroring.{Mirrors}
use Rattle.dr_host.specs.Here.{here}
use Rattle.dr_metro.specs.Syncing.{over_entries, sent_stretches, parts, stretches_by, waits_by, end_of}
use Rattle.dr_moves.proofs.TurnLemmas.{ok-along}
use Rattle.dr_metro.proofs.SyncLemmas.{held-stretches, over-stretches, sent-stretches, alone-stretches, held-waits, over-waits, here-waits, nothing-mirrored, collides-global, followed-given, ok-given}
use Rattle.dr_metro.proofs.WroteInLemmas.{wrote-in, in-as, in-nothing}
use Rattle.dr_metro.proofs.sync.place_write.Goals as goal

pub returns-then-is_held-clause-wrote : goal.returns-then-is_held-clause-wrote
returns-then-is_held-clause-wrote g c =
    let s = g.P.Plant.state c.args.plant.now in
    let t = c.args.config.now in
    let h = c.args.h.now in
    let w = c.args.w.now in
    let f = plain c.args.fields.now in
    in-nothing s t h c.args.journal.now (λ k. stretches_by k f w.w.0 w.volume.0 w.track) (part_after w.volume.0) (length t.volumes + (length t.volumes + 6)) Held
    (λ r. held-stretches (here s t r h c.args.journal.now.events).control f w.w.0 w.volume.0 w.track (sym c.is_held.ensures ∙ c.if-is_held.true)) c.requires.due.at c.requires.due.told

pub returns-then-is_held-clause-end : goal.returns-then-is_held-clause-end
returns-then-is_held-clause-end g c r =
    let w = c.args.w.now in
    ap end_of (sym (held-waits (here (g.P.Plant.state c.args.plant.now) c.args.config.now r c.args.h.now c.args.journal.now.events).control (plain c.args.fields.now) w.w.0 w.volume.0 w.track (sym c.is_held.ensures ∙ c.if-is_held.true)))

pub returns-then-is_held-clause-mirrors : goal.returns-then-is_held-clause-mirrors
returns-then-is_held-clause-mirrors g c = λ metro never. absurd cc

pub write_over-done-requires-clause-primary : goal.write_over-done-requires-clause-primary
write_over-done-requires-clause-primary g c =
    let f = plain c.args.fields.now in
    let goes : goes_over f c.args.w.now.track ≡ true = sym c.goes_over.ensures ∙ c.if-goes_over.true in
    ap (λ (x : Fields). is_part x.primary) (sym c.requires.shows.fields) ∙ metro-part f.primary (and_parts (is_metro f.primary) _ goes).0

pub write_over-done-requires-clause-pair : goal.write_over-done-requires-clause-pair
write_over-done-requires-clause-pair g c =
    let f = plain c.args.fields.now in
    let goes : goes_over f c.args.w.now.track ≡ true = sym c.goes_over.ensures ∙ c.if-goes_over.true in
    c.requires.pair (metro-part f.primary (and_parts (is_metro f.primary) _ goes).0)

pub write_over-done-requires-clause-says : goal.write_over-done-requires-clause-says
write_over-done-requires-clause-says g c = shows-says _ _ _ _ c.requires.shows

pub followed-requires-clause-at : goal.followed-requires-clause-at
followed-requires-clause-at g c = c.write_over-done.ensures.wrote.at

pub followed-requires-clause-room : goal.followed-requires-clause-room
followed-requires-clause-room g c = let a = c.requires.room in let b = c.write_over-done.ensures.wrote.room in omega (arith, a, b)

pub returns-then-goes_over-clause-wrote : goal.returns-then-goes_over-clause-wrote
returns-then-goes_over-clause-wrote g c =
    let s = g.P.Plant.state c.args.plant.now in
    let m = g.P.Plant.state c.write_over-done.new.plant in
    let x = g.P.Plant.state c.followed.new.plant in
    let t = c.args.config.now in
    let h = c.args.h.now in
    let w = c.args.w.now in
    let v = w.volume.0 in
    let f = plain c.args.fields.now in
    let n = length t.volumes in
    let j = c.args.journal.now in
    let over : Control → List Entry = λ k. over_entries (ids_of t.volumes) (parts k v f.primary_partner) (is_grouped k v f.primary_partner) w.w.0 v w.track f.primary_partner in
    let b = c.followed.ensures in
    in-as s x t h c.write_over-done.new.h j c.followed.new.journal (λ k. record { entries = over k; follows = part_after v } ∷ []) (λ k. stretches_by k f w.w.0 v w.track) (n + (n + 3) + 3) (n + (n + 6)) c.write_over-done.result c.followed.result (omega arith)
    (λ r. sym (over-stretches (here s t r h j.events).control f w.w.0 v w.track (sym c.is_held.ensures ∙ c.if-is_held.false) (sym c.goes_over.ensures ∙ c.if-goes_over.true))) b.result
    (wrote-in s m x t h j c.write_over-done.new.journal c.followed.new.journal c.write_over-done.new.h over (part_after v) (n + (n + 3)) c.write_over-done.result c.write_over-done.ensures.wrote
    (record { follows = b.follows; at = b.at; unarmed = b.unarmed; faults = b.faults; room = b.room; spare = b.spare }))

pub returns-then-goes_over-clause-end : goal.returns-then-goes_over-clause-end
returns-then-goes_over-clause-end g c r =
    let w = c.args.w.now in
    subst (λ x. IfOk x (λ (e : WriteEnd). e ≡ end_of (waits_by (here (g.P.Plant.state c.args.plant.now) c.args.config.now r c.args.h.now c.args.journal.now.events).control (plain c.args.fields.now) w.volume.0 w.track))) (sym c.followed.ensures.result)
    (subst (λ b. IfOk c.write_over-done.result (λ (e : WriteEnd). e ≡ end_of b)) (sym (over-waits (here (g.P.Plant.state c.args.plant.now) c.args.config.now r c.args.h.now c.args.journal.now.events).control (plain c.args.fields.now) w.w.0 w.volume.0 w.track (sym c.is_held.ensures ∙ c.if-is_held.false) (sym c.goes_over.ensures ∙ c.if-goes_over.true)))
    (c.write_over-done.ensures.end r))

pub returns-then-goes_over-clause-mirrors : goal.returns-then-goes_over-clause-mirrors
returns-then-goes_over-clause-mirrors g c = λ metro.
    let w = c.args.w.now in
    let b = c.followed.ensures in
    followed-given (λ e. e ≡ Landed) c.write_over-done.result c.followed.result b.result _ _ (λ x. Mirrors x c.args.config.now w.volume.0 c.args.fields.now.primary_partner.0 w.track) b.stays c.write_over-done.ensures.mirrors

pub write_collided-requires-clause-primary : goal.write_collided-requires-clause-primary
write_collided-requires-clause-primary g c =
    let f = plain c.args.fields.now in
    let meets : pairs.collides f c.args.w.now.track ≡ true = sym c.collides.ensures ∙ c.if-collides.true in
    ap (λ (x : Fields). is_part x.primary) (sym c.requires.shows.fields) ∙ global-part f.primary (collides-global f.primary _ meets)

pub write_collided-requires-clause-collides : goal.write_collided-requires-clause-collides
write_collided-requires-clause-collides g c = ap (λ (x : Fields). pairs.collides x c.args.w.now.track) (sym c.requires.shows.fields) ∙ sym c.collides.ensures ∙ c.if-collides.true

pub write_collided-requires-clause-pair : goal.write_collided-requires-clause-pair
write_collided-requires-clause-pair g c =
    let f = plain c.args.fields.now in
    let meets : pairs.collides f c.args.w.now.track ≡ true = sym c.collides.ensures ∙ c.if-collides.true in
    c.requires.pair (global-part f.primary (collides-global f.primary _ meets))

pub returns-then-collides-clause-wrote : goal.returns-then-collides-clause-wrote
returns-then-collides-clause-wrote g c =
    let s = g.P.Plant.state c.args.plant.now in
    let x = g.P.Plant.state c.write_collided.new.plant in
    let t = c.args.config.now in
    let h = c.args.h.now in
    let w = c.args.w.now in
    let f = plain c.args.fields.now in
    let n = length t.volumes in
    let new = c.write_collided.new in
    in-as s x t h new.h c.args.journal.now new.journal (λ k. sent_stretches (ids_of t.volumes) w.w.0 w.volume.0 w.track f.primary_partner) (λ k. stretches_by k f w.w.0 w.volume.0 w.track) (n + (n + 6)) (n + (n + 6)) c.write_collided.result c.write_collided.result (omega arith)
    (λ r. sym (sent-stretches (here s t r h c.args.journal.now.events).control f w.w.0 w.volume.0 w.track (sym c.is_held.ensures ∙ c.if-is_held.false) (sym c.goes_over.ensures ∙ c.if-goes_over.false) (sym c.collides.ensures ∙ c.if-collides.true))) refl c.write_collided.ensures.wrote

pub returns-then-collides-clause-end : goal.returns-then-collides-clause-end
returns-then-collides-clause-end g c r =
    let w = c.args.w.now in
    let k = (here (g.P.Plant.state c.args.plant.now) c.args.config.now r c.args.h.now c.args.journal.now.events).control in
    subst (λ b. IfOk c.write_collided.result (λ (e : WriteEnd). e ≡ end_of b)) (sym (here-waits k (plain c.args.fields.now) w.w.0 w.volume.0 w.track (sym c.is_held.ensures ∙ c.if-is_held.false) (sym c.goes_over.ensures ∙ c.if-goes_over.false))) c.write_collided.ensures.end

pub returns-then-collides-clause-mirrors : goal.returns-then-collides-clause-mirrors
returns-then-collides-clause-mirrors g c =
    let f = plain c.args.fields.now in
    let meets : pairs.collides f c.args.w.now.track ≡ true = sym c.collides.ensures ∙ c.if-collides.true in
    λ metro. global_metro f.primary (collides-global f.primary _ meets) metro

pub write_unsent-requires-clause-room : goal.write_unsent-requires-clause-room
write_unsent-requires-clause-room g c = let a = c.requires.room in omega (arith, a)

pub returns-clause-wrote : goal.returns-clause-wrote
returns-clause-wrote g c =
    let s = g.P.Plant.state c.args.plant.now in
    let x = g.P.Plant.state c.write_unsent.new.plant in
    let t = c.args.config.now in
    let h = c.args.h.now in
    let w = c.args.w.now in
    let v = w.volume.0 in
    let f = plain c.args.fields.now in
    let n = length t.volumes in
    let j = c.args.journal.now in
    let new = c.write_unsent.new in
    in-as s x t h new.h j new.journal (λ z. record { entries = land_alone (ids_of t.volumes) w.w.0 v w.track; follows = part_after v } ∷ []) (λ z. stretches_by z f w.w.0 v w.track) (n + 4) (n + (n + 6)) c.write_unsent.result c.write_unsent.result (omega arith)
    (λ r. sym (alone-stretches (here s t r h j.events).control f w.w.0 v w.track (sym c.is_held.ensures ∙ c.if-is_held.false) (sym c.goes_over.ensures ∙ c.if-goes_over.false) (sym c.collides.ensures ∙ c.if-collides.false))) refl c.write_unsent.ensures.wrote

pub returns-clause-end : goal.returns-clause-end
returns-clause-end g c r =
    let w = c.args.w.now in
    let k = (here (g.P.Plant.state c.args.plant.now) c.args.config.now r c.args.h.now c.args.journal.now.events).control in
    subst (λ b. IfOk c.write_unsent.result (λ (e : WriteEnd). e ≡ end_of b)) (sym (here-waits k (plain c.args.fields.now) w.w.0 w.volume.0 w.track (sym c.is_held.ensures ∙ c.if-is_held.false) (sym c.goes_over.ensures ∙ c.if-goes_over.false))) c.write_unsent.ensures.end

pub returns-clause-mirrors : goal.returns-clause-mirrors
returns-clause-mirrors g c = λ metro.
    let s = g.P.Plant.state c.args.plant.now in
    let x = g.P.Plant.state c.write_unsent.new.plant in
    let t = c.args.config.now in
    let v = c.args.w.now.volume.0 in
    let k = c.args.w.now.track in
    let shows = c.requires.shows.fields in
    ok-given c.write_unsent.result (λ e. e ≡ Landed) _ (ok-along c.write_unsent.result c.write_unsent.ensures.left (λ is in_sync active.
    nothing-mirrored (volume_seen s t v).tracks (volume_seen s t v).fields (volume_seen x t v).fields k is (ap (λ (y : Fields). is_metro y.primary) (sym shows) ∙ metro) (ap (λ (y : Fields). goes_over y k) (sym shows) ∙ sym c.goes_over.ensures ∙ c.if-goes_over.false) in_sync active))
