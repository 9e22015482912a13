use Rattle.std.proofs.Common.{ℕ, Option, None, refl, true, false, ◌≢◌, ◌≡◌, sym, subst, ap, ◌∙◌, Some}
use Rattle.dr_model.specs.Layout.{Fields}
use Rattle.dr_model.specs.Relations.{lowest, restored, given_up}
use Rattle.dr_model.specs.Entries.{give_back}
use Rattle.dr_volume.specs.View.{volume_seen, ids_of, track_seen}
use Rattle.dr_moves.specs.Here.{world_seen, armed_in, refusal_of}
use Rattle.dr_moves.specs.Turns.{Leads, Fails}
use Rattle.dr_moves.proofs.EntryLemmas.{led, failed}
use Rattle.dr_moves.proofs.TurnLemmas.{refused-by}
use Rattle.dr_incr.proofs.StepLemmas.{none-back}
use Rattle.dr_incr.proofs.TargetLemmas.{holder-related, copies-source, target-of}
use Rattle.dr_volume.specs.Update.{IsMoved}
use Rattle.dr_incr.specs.Copies.{BlankAreZeros}
use Rattle.dr_incr.proofs.BackLaws.{back-restores}
use Rattle.dr_incr.proofs.restore.reverse_step.Goals as goal
use Rattle.dr_logic.proofs.Results.{err-always}

pub returns-in_default-clause-leads : goal.returns-in_default-clause-leads
returns-in_default-clause-leads g c s is r =
    let x = g.P.Plant.state c.args.plant.now in
    none-back x c.args.config.now r c.args.journal.now.events s c.args.t.0 (ids_of c.args.config.now.volumes) ((λ i. lowest (c.tracks_of.ensures.seen x i) (sym c.peek_fields-fields.ensures.fields i).own) ∙ sym c.lowest.ensures.lowest ∙ c.in_default.is)

pub returns-in_default-clause-carried : goal.returns-in_default-clause-carried
returns-in_default-clause-carried g c s is r =
    let x = g.P.Plant.state c.args.plant.now in
    let w = world_seen x c.args.config.now r c.args.journal.now.events in
    led (armed_in x) w w (give_back (ids_of c.args.config.now.volumes) s c.args.t.0) (returns-in_default-clause-leads g c s is r)

pub give_back-requires-clause-reversing : goal.give_back-requires-clause-reversing
give_back-requires-clause-reversing g c =
    c.requires.reversing (holder-related _ c.tracks_of.result c.in-Some.k _ _ c.peek_fields-fields.ensures.fields c.peek_fields-fields.ensures.lawful (sym c.lowest.ensures.lowest ∙ c.in-Some.is))

pub give_back-requires-clause-copies : goal.give_back-requires-clause-copies
give_back-requires-clause-copies g c =
    let related = holder-related _ c.tracks_of.result c.in-Some.k _ _ c.peek_fields-fields.ensures.fields c.peek_fields-fields.ensures.lawful (sym c.lowest.ensures.lowest ∙ c.in-Some.is) in
    copies-source c.peek_fields-fields.result.source.0 (volume_seen (g.P.Plant.state c.args.plant.now) c.args.config.now c.args.t.0).fields related (ap (λ (f : Fields). f.source) c.peek_fields-fields.ensures.fields)

pub returns-in_err-give_back-clause-fails : goal.returns-in_err-give_back-clause-fails
returns-in_err-give_back-clause-fails g c =
    let x = g.P.Plant.state c.args.plant.now in let y = g.P.Plant.state c.give_back.new.plant in let t = c.args.config.now in let us = ids_of t.volumes in
    let related = holder-related _ c.tracks_of.result c.in-Some.k _ _ c.peek_fields-fields.ensures.fields c.peek_fields-fields.ensures.lawful (sym c.lowest.ensures.lowest ∙ c.in-Some.is) in
    err-always c.from_residual.result (λ s is r.
    subst (λ q. Fails (armed_in x) (world_seen x t r c.args.journal.now.events) (give_back us s c.args.t.0) (world_seen y t r c.give_back.new.journal.events) q) (sym (refused-by c.from_residual.result c.in_err-give_back.field-0.0 c.from_residual.ensures.0 c.from_residual.ensures.1))
    (subst (λ n. Fails (armed_in x) (world_seen x t r c.args.journal.now.events) (give_back us n c.args.t.0) (world_seen y t r c.give_back.new.journal.events) (Some c.in_err-give_back.field-0.0)) (ap (λ (f : Fields). f.source) c.peek_fields-fields.ensures.fields ∙ (is related).1) (c.in_err-give_back.ensures.fails r)))

pub returns-in_err-give_back-clause-carried : goal.returns-in_err-give_back-clause-carried
returns-in_err-give_back-clause-carried g c s is r =
    let x = g.P.Plant.state c.args.plant.now in let y = g.P.Plant.state c.give_back.new.plant in let t = c.args.config.now in let us = ids_of t.volumes in
    let related = holder-related _ c.tracks_of.result c.in-Some.k _ _ c.peek_fields-fields.ensures.fields c.peek_fields-fields.ensures.lawful (sym c.lowest.ensures.lowest ∙ c.in-Some.is) in
    failed (armed_in x) (world_seen x t r c.args.journal.now.events) (world_seen y t r c.give_back.new.journal.events) (refusal_of c.from_residual.result) (give_back us s c.args.t.0)
    (subst (λ q. Fails (armed_in x) (world_seen x t r c.args.journal.now.events) (give_back us s c.args.t.0) (world_seen y t r c.give_back.new.journal.events) q) (sym (refused-by c.from_residual.result c.in_err-give_back.field-0.0 c.from_residual.ensures.0 c.from_residual.ensures.1))
    (subst (λ n. Fails (armed_in x) (world_seen x t r c.args.journal.now.events) (give_back us n c.args.t.0) (world_seen y t r c.give_back.new.journal.events) (Some c.in_err-give_back.field-0.0)) (ap (λ (f : Fields). f.source) c.peek_fields-fields.ensures.fields ∙ (is related).1) (c.in_err-give_back.ensures.fails r)))

pub returns-clause-leads : goal.returns-clause-leads
returns-clause-leads g c s is r =
    let x = g.P.Plant.state c.args.plant.now in let y = g.P.Plant.state c.give_back.new.plant in let t = c.args.config.now in let us = ids_of t.volumes in
    let related = holder-related _ c.tracks_of.result c.in-Some.k _ _ c.peek_fields-fields.ensures.fields c.peek_fields-fields.ensures.lawful (sym c.lowest.ensures.lowest ∙ c.in-Some.is) in
    subst (λ n. Leads (world_seen x t r c.args.journal.now.events) (give_back us n c.args.t.0) (world_seen y t r c.give_back.new.journal.events)) (ap (λ (f : Fields). f.source) c.peek_fields-fields.ensures.fields ∙ (is related).1) (c.in_ok-give_back.ensures.leads r)

pub returns-clause-carried : goal.returns-clause-carried
returns-clause-carried g c s is r =
    let x = g.P.Plant.state c.args.plant.now in let y = g.P.Plant.state c.give_back.new.plant in let t = c.args.config.now in
    led (armed_in x) (world_seen x t r c.args.journal.now.events) (world_seen y t r c.give_back.new.journal.events) (give_back (ids_of t.volumes) s c.args.t.0) (returns-clause-leads g c s is r)

one-of : (k n : ℕ) {o : Option ℕ} → o ≡ Some k → o ≡ Some n → k ≡ n
one-of k n a b = let e = sym a ∙ b in cc

pub returns-clause-moved : goal.returns-clause-moved
returns-clause-moved g c k held =
    subst (λ n. IsMoved (g.P.Plant.state c.args.plant.now) (g.P.Plant.state c.give_back.new.plant) c.args.config.now c.args.t.0 (restored (volume_seen (g.P.Plant.state c.args.plant.now) c.args.config.now c.args.t.0).tracks (given_up (volume_seen (g.P.Plant.state c.args.plant.now) c.args.config.now c.args.t.0).fields n)) None) (one-of c.in-Some.k k ((λ i. lowest (c.tracks_of.ensures.seen (g.P.Plant.state c.args.plant.now) i) (sym c.peek_fields-fields.ensures.fields i).own) ∙ sym c.lowest.ensures.lowest ∙ c.in-Some.is) held) c.in_ok-give_back.ensures.moved

pub returns-clause-back : goal.returns-clause-back
returns-clause-back g c k held =
    subst (λ n. track_seen (g.P.Plant.state c.give_back.new.plant) c.args.config.now (volume_seen (g.P.Plant.state c.args.plant.now) c.args.config.now c.args.t.0).fields.source n ≡ track_seen (g.P.Plant.state c.args.plant.now) c.args.config.now c.args.t.0 n) (one-of c.in-Some.k k ((λ i. lowest (c.tracks_of.ensures.seen (g.P.Plant.state c.args.plant.now) i) (sym c.peek_fields-fields.ensures.fields i).own) ∙ sym c.lowest.ensures.lowest ∙ c.in-Some.is) held)
    (subst (λ n. track_seen (g.P.Plant.state c.give_back.new.plant) c.args.config.now n c.in-Some.k ≡ track_seen (g.P.Plant.state c.args.plant.now) c.args.config.now c.args.t.0 c.in-Some.k) (ap (λ (f : Fields). f.source) c.peek_fields-fields.ensures.fields) c.in_ok-give_back.ensures.back)

pub returns-in_default-clause-restores : goal.returns-in_default-clause-restores
returns-in_default-clause-restores g c s is related blank = (λ on k. refl, λ over. absurd (let e : true ≡ false = sym related ∙ over in cc))

pub returns-clause-restores : goal.returns-clause-restores
returns-clause-restores g c s is related blank =
    let x = g.P.Plant.state c.args.plant.now in
    let y = g.P.Plant.state c.give_back.new.plant in
    let t = c.args.config.now in
    let from = ap (λ (f : Fields). f.source) c.peek_fields-fields.ensures.fields ∙ (is related).1 in
    let to = target-of x t s c.args.t.0 c.requires.fit (copies-source s (volume_seen x t c.args.t.0).fields related (sym (is related).1)) in
    back-restores x y t s c.args.t.0 to c.requires.fit c.in-Some.k
    ((λ i. lowest (c.tracks_of.ensures.seen x i) (sym c.peek_fields-fields.ensures.fields i).own) ∙ sym c.lowest.ensures.lowest ∙ c.in-Some.is)
    c.in_ok-give_back.ensures.moved
    (subst (λ n. track_seen y t n c.in-Some.k ≡ track_seen x t c.args.t.0 c.in-Some.k) from c.in_ok-give_back.ensures.back)
    (subst (λ n. (q : ℕ) → q ≢ c.in-Some.k → track_seen y t n q ≡ track_seen x t n q) from (c.in_ok-give_back.ensures.kept (subst (λ n. BlankAreZeros x t n) (sym from) blank)))
