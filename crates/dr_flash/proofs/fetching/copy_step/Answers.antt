use Rattle.std.proofs.Common.{◌≡◌, [], ◌∷◌, true, ap, refl, sym, ◌∙◌, subst, None, Some}
use Rattle.std.specs.Prelude.{is_some}
use Rattle.std.proofs.lemmas.Bool.{not-true, not-false}
use Rattle.dr_model.specs.Carry.{now}
use Rattle.dr_model.specs.Entries.{fetch_next}
use Rattle.dr_model.specs.Layout.{Fields}
use Rattle.dr_model.specs.Moves.{Fetch}
use Rattle.dr_volume.specs.declared.head.Head.{Head}
use Rattle.dr_volume.specs.Plain.{plain}
use Rattle.dr_volume.specs.View.{volume_seen}
use Rattle.dr_moves.specs.Here.{world_seen, armed_in}
use Rattle.dr_moves.specs.Turns.{Halts}
use Rattle.dr_flash.proofs.FetchLemmas.{missing-none, missing-of, missing-is, fetch-is}
use Rattle.dr_moves.proofs.EntryLemmas.{skips, alike-advances, alike-halts, led}
use Rattle.dr_moves.proofs.TurnLemmas.{refused-by}
use Rattle.dr_flash.proofs.fetching.copy_step.Goals as goal
use Rattle.dr_logic.proofs.Results.{err-always}

pub returns-then-not-peek_head-clause-advances : goal.returns-then-not-peek_head-clause-advances
returns-then-not-peek_head-clause-advances g c r =
    let s = g.P.Plant.state c.args.plant.now in
    let t = c.args.config.now in
    let v = c.args.v.0 in
    let f = (volume_seen s t v).fields in
    let n = (volume_seen s t v).tracks in
    skips (world_seen s t r c.args.journal.now.events) (fetch_next v)
    (fetch-is s t r c.args.journal.now.events v n f refl refl None (missing-none n f (ap (λ (h : Head). h.related) (sym c.peek_head.ensures) ∙ not-true _ c.if-not-peek_head.true)))

pub returns-then-not-peek_head-clause-carried : goal.returns-then-not-peek_head-clause-carried
returns-then-not-peek_head-clause-carried g c r =
    let s = g.P.Plant.state c.args.plant.now in
    let v = c.args.v.0 in
    let w = world_seen s c.args.config.now r c.args.journal.now.events in
    led (armed_in s) w w (fetch_next v ∷ []) (returns-then-not-peek_head-clause-advances g c r)

pub returns-then-not-peek_head-clause-left : goal.returns-then-not-peek_head-clause-left
returns-then-not-peek_head-clause-left g c r =
    let s = g.P.Plant.state c.args.plant.now in
    let t = c.args.config.now in
    let v = c.args.v.0 in
    let f = (volume_seen s t v).fields in
    let n = (volume_seen s t v).tracks in
    sym (ap is_some (missing-is s t r c.args.journal.now.events v n f refl refl None (missing-none n f (ap (λ (h : Head). h.related) (sym c.peek_head.ensures) ∙ not-true _ c.if-not-peek_head.true))))

pub returns-in_default-clause-advances : goal.returns-in_default-clause-advances
returns-in_default-clause-advances g c r =
    let s = g.P.Plant.state c.args.plant.now in
    let t = c.args.config.now in
    let v = c.args.v.0 in
    let f = plain c.peek_fields-fields.result in
    let shows = c.peek_fields-fields.ensures.fields in
    let n = c.tracks_of-tracks.result in
    let related : f.related ≡ true = ap (λ (f : Fields). f.related) shows ∙ ap (λ (h : Head). h.related) (sym c.peek_head.ensures) ∙ not-false _ c.if-not-peek_head.false in
    skips (world_seen s t r c.args.journal.now.events) (fetch_next v)
    (fetch-is s t r c.args.journal.now.events v n f shows (c.tracks_of-tracks.ensures.seen s) None (missing-of n f None related c.in_default.ensures.track))

pub returns-in_default-clause-carried : goal.returns-in_default-clause-carried
returns-in_default-clause-carried g c r =
    let s = g.P.Plant.state c.args.plant.now in
    let v = c.args.v.0 in
    let w = world_seen s c.args.config.now r c.args.journal.now.events in
    led (armed_in s) w w (fetch_next v ∷ []) (returns-in_default-clause-advances g c r)

pub returns-in_default-clause-left : goal.returns-in_default-clause-left
returns-in_default-clause-left g c r =
    let s = g.P.Plant.state c.args.plant.now in
    let t = c.args.config.now in
    let v = c.args.v.0 in
    let f = plain c.peek_fields-fields.result in
    let shows = c.peek_fields-fields.ensures.fields in
    let n = c.tracks_of-tracks.result in
    let related : f.related ≡ true = ap (λ (f : Fields). f.related) shows ∙ ap (λ (h : Head). h.related) (sym c.peek_head.ensures) ∙ not-false _ c.if-not-peek_head.false in
    sym (ap is_some (missing-is s t r c.args.journal.now.events v n f shows (c.tracks_of-tracks.ensures.seen s) None (missing-of n f None related c.in_default.ensures.track)))

pub returns-in_err-take-clause-halts : goal.returns-in_err-take-clause-halts
returns-in_err-take-clause-halts g c = err-always c.from_residual.result (λ r.
    let s = g.P.Plant.state c.args.plant.now in
    let t = c.args.config.now in
    let v = c.args.v.0 in
    let k = c.in-Some.t in
    let w = world_seen s t r c.args.journal.now.events in
    let u = world_seen (g.P.Plant.state c.take.new.plant) t r c.take.new.journal.events in
    let f = plain c.peek_fields-fields.result in
    let shows = c.peek_fields-fields.ensures.fields in
    let n = c.tracks_of-tracks.result in
    let related : f.related ≡ true = ap (λ (f : Fields). f.related) shows ∙ ap (λ (h : Head). h.related) (sym c.peek_head.ensures) ∙ not-false _ c.if-not-peek_head.false in
    let is = fetch-is s t r c.args.journal.now.events v n f shows (c.tracks_of-tracks.ensures.seen s) (Some k) (missing-of n f (Some k) related c.in-Some.ensures.track) in
    subst (λ e. Halts (armed_in s) w (fetch_next v) u e) (sym (refused-by c.from_residual.result c.in_err-take.field-0.0 c.from_residual.ensures.0 c.from_residual.ensures.1))
    (alike-halts (armed_in s) w u (Some c.in_err-take.field-0.0) (fetch_next v) (now (Fetch v k)) is (c.in_err-take.ensures.unseen.halts r)))

pub returns-in_err-take-clause-carried : goal.returns-in_err-take-clause-carried
returns-in_err-take-clause-carried g c r =
    let s = g.P.Plant.state c.args.plant.now in
    let t = c.args.config.now in
    let v = c.args.v.0 in
    let k = c.in-Some.t in
    let w = world_seen s t r c.args.journal.now.events in
    let u = world_seen (g.P.Plant.state c.take.new.plant) t r c.take.new.journal.events in
    let f = plain c.peek_fields-fields.result in
    let shows = c.peek_fields-fields.ensures.fields in
    let n = c.tracks_of-tracks.result in
    let related : f.related ≡ true = ap (λ (f : Fields). f.related) shows ∙ ap (λ (h : Head). h.related) (sym c.peek_head.ensures) ∙ not-false _ c.if-not-peek_head.false in
    let is = fetch-is s t r c.args.journal.now.events v n f shows (c.tracks_of-tracks.ensures.seen s) (Some k) (missing-of n f (Some k) related c.in-Some.ensures.track) in
    subst (λ e. Halts (armed_in s) w (fetch_next v) u e) (sym (refused-by c.from_residual.result c.in_err-take.field-0.0 c.from_residual.ensures.0 c.from_residual.ensures.1))
    (alike-halts (armed_in s) w u (Some c.in_err-take.field-0.0) (fetch_next v) (now (Fetch v k)) is (c.in_err-take.ensures.unseen.halts r)) []

pub returns-clause-advances : goal.returns-clause-advances
returns-clause-advances g c r =
    let s = g.P.Plant.state c.args.plant.now in
    let t = c.args.config.now in
    let v = c.args.v.0 in
    let k = c.in-Some.t in
    let w = world_seen s t r c.args.journal.now.events in
    let u = world_seen (g.P.Plant.state c.take.new.plant) t r c.take.new.journal.events in
    let f = plain c.peek_fields-fields.result in
    let shows = c.peek_fields-fields.ensures.fields in
    let n = c.tracks_of-tracks.result in
    let related : f.related ≡ true = ap (λ (f : Fields). f.related) shows ∙ ap (λ (h : Head). h.related) (sym c.peek_head.ensures) ∙ not-false _ c.if-not-peek_head.false in
    let is = fetch-is s t r c.args.journal.now.events v n f shows (c.tracks_of-tracks.ensures.seen s) (Some k) (missing-of n f (Some k) related c.in-Some.ensures.track) in
    alike-advances w u (fetch_next v) (now (Fetch v k)) is (c.in_ok-take.ensures.unseen.advances r)

pub returns-clause-carried : goal.returns-clause-carried
returns-clause-carried g c r =
    let s = g.P.Plant.state c.args.plant.now in
    let t = c.args.config.now in
    let v = c.args.v.0 in
    let w = world_seen s t r c.args.journal.now.events in
    let u = world_seen (g.P.Plant.state c.take.new.plant) t r c.take.new.journal.events in
    led (armed_in s) w u (fetch_next v ∷ []) (returns-clause-advances g c r)

pub returns-clause-left : goal.returns-clause-left
returns-clause-left g c r =
    let s = g.P.Plant.state c.args.plant.now in
    let t = c.args.config.now in
    let v = c.args.v.0 in
    let k = c.in-Some.t in
    let f = plain c.peek_fields-fields.result in
    let shows = c.peek_fields-fields.ensures.fields in
    let n = c.tracks_of-tracks.result in
    let related : f.related ≡ true = ap (λ (f : Fields). f.related) shows ∙ ap (λ (h : Head). h.related) (sym c.peek_head.ensures) ∙ not-false _ c.if-not-peek_head.false in
    sym (ap is_some (missing-is s t r c.args.journal.now.events v n f shows (c.tracks_of-tracks.ensures.seen s) (Some k) (missing-of n f (Some k) related c.in-Some.ensures.track)))
