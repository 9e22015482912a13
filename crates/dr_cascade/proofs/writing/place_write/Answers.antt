use Rattle.std.proofs.Common.{◌≡◌, true, false, ◌&&◌, ◌+◌, length, arith, [], ◌∷◌, ap, sym, subst, ◌∙◌, refl}
use Rattle.std.specs.Result.{IfOk}
use Rattle.dr_model.specs.Entries.{land_alone}
use Rattle.dr_model.specs.Layout.{Fields, is_part}
use Rattle.dr_model.specs.Pairs.{held, goes_over, collides, is_metro}
use Rattle.dr_model.specs.WriteEntries.{part_after}
use Rattle.dr_volume.specs.Plain.{plain}
use Rattle.dr_volume.specs.View.{ids_of, volume_seen}
use Rattle.dr_moves.proofs.TurnLemmas.{ok-along}
use Rattle.dr_facts.proofs.Parts.{metro-part}
use Rattle.dr_host.specs.Here.{here}
use Rattle.dr_metro.specs.Syncing.{placed_stretches, end_of}
use Rattle.dr_metro.specs.declared.sync.WriteEnd.{WriteEnd}
use Rattle.dr_metro.specs.declared.sync.WriteEnd.TheVariants.{Landed, Held}
use Rattle.dr_metro.proofs.SyncLemmas.{nothing-mirrored, ok-given}
use Rattle.dr_metro.proofs.WroteInLemmas.{in-as, in-nothing}
use Rattle.dr_cascade.proofs.PlacedLemmas.{held-placed, alone-placed, held-waits, alone-waits, metro-apart}
use Rattle.dr_cascade.proofs.writing.place_write.Goals as goal

pub returns-then-is_held-clause-wrote : goal.returns-then-is_held-clause-wrote
returns-then-is_held-clause-wrote g c =
    let s = g.P.Plant.state c.args.plant.now in
    let t = c.args.config.now in
    let h = c.args.h.now in
    let j = c.args.journal.now in
    let w = c.args.w.now in
    let n = length t.volumes in
    in-nothing s t h j (λ k. placed_stretches k w.w.0 w.volume.0 w.track) (part_after w.volume.0) (n + (n + (n + 9))) Held
    (λ r. held-placed (here s t r h j.events).control w.w.0 w.volume.0 w.track (ap held (sym c.requires.shows.fields) ∙ sym c.is_held.ensures ∙ c.if-is_held.true)) c.requires.due.at c.requires.due.told

pub returns-then-is_held-clause-end : goal.returns-then-is_held-clause-end
returns-then-is_held-clause-end g c r =
    let w = c.args.w.now in
    let k = (here (g.P.Plant.state c.args.plant.now) c.args.config.now r c.args.h.now c.args.journal.now.events).control in
    ap end_of (sym (held-waits k w.w.0 w.volume.0 w.track (ap held (sym c.requires.shows.fields) ∙ sym c.is_held.ensures ∙ c.if-is_held.true)))

pub returns-then-is_held-clause-mirrors : goal.returns-then-is_held-clause-mirrors
returns-then-is_held-clause-mirrors g c = λ never. absurd cc

pub write_over-requires-clause-primary : goal.write_over-requires-clause-primary
write_over-requires-clause-primary g c =
    let f = plain c.args.fields.now in
    ap (λ (x : Fields). is_part x.primary) (sym c.requires.shows.fields) ∙ metro-part f.primary c.requires.metro

pub write_over-requires-clause-partner : goal.write_over-requires-clause-partner
write_over-requires-clause-partner g c = refl

pub write_over-requires-clause-free : goal.write_over-requires-clause-free
write_over-requires-clause-free g c = sym c.is_held.ensures ∙ c.if-is_held.false

pub write_over-requires-clause-goes : goal.write_over-requires-clause-goes
write_over-requires-clause-goes g c = sym c.goes_over.ensures ∙ c.if-goes_over.true

pub write_unsent-requires-clause-room : goal.write_unsent-requires-clause-room
write_unsent-requires-clause-room g c = let a = c.requires.room in omega (arith, a)

pub returns-clause-wrote : goal.returns-clause-wrote
returns-clause-wrote g c =
    let s = g.P.Plant.state c.args.plant.now in
    let x = g.P.Plant.state c.write_unsent.new.plant in
    let t = c.args.config.now in
    let h = c.args.h.now in
    let j = c.args.journal.now in
    let w = c.args.w.now in
    let v = w.volume.0 in
    let n = length t.volumes in
    let new = c.write_unsent.new in
    let shows = c.requires.shows.fields in
    in-as s x t h new.h j new.journal (λ k. record { entries = land_alone (ids_of t.volumes) w.w.0 v w.track; follows = part_after v } ∷ []) (λ k. placed_stretches k w.w.0 v w.track) (n + 4) (n + (n + (n + 9))) c.write_unsent.result c.write_unsent.result (omega arith)
    (λ r. sym (alone-placed (here s t r h j.events).control w.w.0 v w.track (ap held (sym shows) ∙ sym c.is_held.ensures ∙ c.if-is_held.false) (ap (λ (f : Fields). goes_over f w.track) (sym shows) ∙ sym c.goes_over.ensures ∙ c.if-goes_over.false)
    (ap (λ (f : Fields). collides f w.track) (sym shows) ∙ metro-apart (plain c.args.fields.now) w.track c.requires.metro))) refl c.write_unsent.ensures.wrote

pub returns-clause-end : goal.returns-clause-end
returns-clause-end g c r =
    let w = c.args.w.now in
    let k = (here (g.P.Plant.state c.args.plant.now) c.args.config.now r c.args.h.now c.args.journal.now.events).control in
    let shows = c.requires.shows.fields in
    subst (λ b. IfOk c.write_unsent.result (λ (e : WriteEnd). e ≡ end_of b))
    (sym (alone-waits k w.w.0 w.volume.0 w.track (ap held (sym shows) ∙ sym c.is_held.ensures ∙ c.if-is_held.false) (ap (λ (f : Fields). goes_over f w.track) (sym shows) ∙ sym c.goes_over.ensures ∙ c.if-goes_over.false))) c.write_unsent.ensures.end

pub returns-clause-mirrors : goal.returns-clause-mirrors
returns-clause-mirrors g c =
    let s = g.P.Plant.state c.args.plant.now in
    let x = g.P.Plant.state c.write_unsent.new.plant in
    let t = c.args.config.now in
    let v = c.args.w.now.volume.0 in
    let k = c.args.w.now.track in
    let shows = c.requires.shows.fields in
    ok-given c.write_unsent.result (λ e. e ≡ Landed) _ (ok-along c.write_unsent.result c.write_unsent.ensures.left (λ is in_sync active.
    nothing-mirrored (volume_seen s t v).tracks (volume_seen s t v).fields (volume_seen x t v).fields k is (ap (λ (y : Fields). is_metro y.primary) (sym shows) ∙ c.requires.metro) (ap (λ (y : Fields). goes_over y k) (sym shows) ∙ sym c.goes_over.ensures ∙ c.if-goes_over.false) in_sync active))
