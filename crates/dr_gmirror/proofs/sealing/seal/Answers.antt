use Rattle.std.proofs.Common.{◌≡◌, true, false, refl, ap, sym, ◌∙◌, [], ◌∷◌, None, Some}
use Rattle.dr_model.specs.Layout.{Fields}
use Rattle.dr_model.specs.PairEntries.{refuse_if}
use Rattle.dr_model.specs.Pairs.{records}
use Rattle.dr_model.specs.Relations.{is_bare}
use Rattle.dr_model.specs.SessionEntries.{void_refusal, seal_refusal, seal_on, seal_entries}
use Rattle.dr_model.specs.Messages.{no_flight}
use Rattle.dr_laws_cuts.proofs.SealEnds.{seal-ends}
use Rattle.dr_volume.specs.View.{Rest, volume_seen}
use Rattle.dr_moves.specs.Here.{world_seen, armed_in}
use Rattle.dr_moves.proofs.EntryLemmas.{led, one-checked, skips}
use Rattle.dr_gmirror.proofs.SealLemmas.{refusal-waits, seal-waits, recorded-by, unrecorded-by}
use Rattle.dr_gmirror.proofs.sealing.seal.Goals as goal

pub returns-in-Some-clause-fails : goal.returns-in-Some-clause-fails
returns-in-Some-clause-fails g c r ds =
    let s = g.P.Plant.state c.args.plant.now in
    one-checked (world_seen s c.args.config.now r c.args.journal.now.events) (void_refusal c.args.m.now.a.0 c.args.n) (Some c.in-Some.why) (c.in-Some.ensures.refusal r c.args.journal.now.events) (armed_in s) (refuse_if (seal_refusal c.args.m.now.a.0 c.args.m.now.b.0) ∷ seal_on c.args.s.0 c.args.m.now.a.0 c.args.m.now.b.0 c.args.n ∷ ds)

pub returns-in-Some-clause-carried : goal.returns-in-Some-clause-carried
returns-in-Some-clause-carried g c r = returns-in-Some-clause-fails g c r []

pub returns-in-Some-clause-waits : goal.returns-in-Some-clause-waits
returns-in-Some-clause-waits g c =
    let r : Rest = record { issued = 0; pending = []; sessions = []; flight = no_flight; events = [] } in
    let f = (volume_seen (g.P.Plant.state c.args.plant.now) c.args.config.now c.args.m.now.a.0).fields in
    ((λ no. absurd cc), (λ both. absurd (let no : true ≡ false = sym both.0 ∙ unrecorded-by (records c.args.n f) c.args.n c.in-Some.why (c.in-Some.ensures.refusal r []) in cc)))

pub returns-then-not-is_drained-clause-leads : goal.returns-then-not-is_drained-clause-leads
returns-then-not-is_drained-clause-leads g c r armed u r' ds more =
    let s = g.P.Plant.state c.args.plant.now in
    let t = c.args.config.now in
    let a = c.args.m.now.a.0 in
    let b = c.args.m.now.b.0 in
    let not-drained : is_bare (volume_seen s t a).fields.out_of_sync ≡ false = ap (λ (f : Fields). is_bare f.out_of_sync) (sym c.peek_fields.ensures.fields) ∙ sym c.if-not-is_drained.ensures in
    one-checked (world_seen s t r c.args.journal.now.events) (void_refusal a c.args.n) None (c.in_default.ensures.refusal r c.args.journal.now.events) armed u r' (refuse_if (seal_refusal a b) ∷ seal_on c.args.s.0 a b c.args.n ∷ ds)
    (one-checked (world_seen s t r c.args.journal.now.events) (seal_refusal a b) None (sym (refusal-waits s t r c.args.journal.now.events a b not-drained)) armed u r' (seal_on c.args.s.0 a b c.args.n ∷ ds)
    (skips (world_seen s t r c.args.journal.now.events) (seal_on c.args.s.0 a b c.args.n) (seal-waits s t r c.args.journal.now.events a b c.args.s.0 c.args.n not-drained) armed u r' ds more))

pub returns-then-not-is_drained-clause-carried : goal.returns-then-not-is_drained-clause-carried
returns-then-not-is_drained-clause-carried g c r =
    let s = g.P.Plant.state c.args.plant.now in
    led (armed_in s) (world_seen s c.args.config.now r c.args.journal.now.events) (world_seen s c.args.config.now r c.args.journal.now.events) (seal_entries c.args.s.0 c.args.m.now.a.0 c.args.m.now.b.0 c.args.n) (returns-then-not-is_drained-clause-leads g c r)

pub returns-then-not-is_drained-clause-waits : goal.returns-then-not-is_drained-clause-waits
returns-then-not-is_drained-clause-waits g c =
    let r : Rest = record { issued = 0; pending = []; sessions = []; flight = no_flight; events = [] } in
    let s = g.P.Plant.state c.args.plant.now in
    let f = (volume_seen s c.args.config.now c.args.m.now.a.0).fields in
    ((λ _. (recorded-by (records c.args.n f) c.args.n (c.in_default.ensures.refusal r []), ap (λ (f : Fields). is_bare f.out_of_sync) (sym c.peek_fields.ensures.fields) ∙ sym c.if-not-is_drained.ensures)), (λ _. refl))

pub returns-in-Ok-clause-leads : goal.returns-in-Ok-clause-leads
returns-in-Ok-clause-leads g c r armed u r' ds more =
    let s = g.P.Plant.state c.args.plant.now in
    one-checked (world_seen s c.args.config.now r c.args.journal.now.events) (void_refusal c.args.m.now.a.0 c.args.n) None (c.in_default.ensures.refusal r c.args.journal.now.events) armed u r' (refuse_if (seal_refusal c.args.m.now.a.0 c.args.m.now.b.0) ∷ seal_on c.args.s.0 c.args.m.now.a.0 c.args.m.now.b.0 c.args.n ∷ ds)
    (c.in-Ok.ensures.leads r armed u r' ds more)

pub returns-in-Ok-clause-carried : goal.returns-in-Ok-clause-carried
returns-in-Ok-clause-carried g c r =
    let s = g.P.Plant.state c.args.plant.now in
    led (armed_in s) (world_seen s c.args.config.now r c.args.journal.now.events) (world_seen (g.P.Plant.state c.seal_drained.new.plant) c.args.config.now r c.seal_drained.new.journal.events) (seal_entries c.args.s.0 c.args.m.now.a.0 c.args.m.now.b.0 c.args.n) (returns-in-Ok-clause-leads g c r)

pub returns-in-Err-clause-fails : goal.returns-in-Err-clause-fails
returns-in-Err-clause-fails g c r ds =
    let s = g.P.Plant.state c.args.plant.now in
    one-checked (world_seen s c.args.config.now r c.args.journal.now.events) (void_refusal c.args.m.now.a.0 c.args.n) None (c.in_default.ensures.refusal r c.args.journal.now.events) (armed_in s) (world_seen (g.P.Plant.state c.seal_drained.new.plant) c.args.config.now r c.seal_drained.new.journal.events) (Some c.in-Err.why) (refuse_if (seal_refusal c.args.m.now.a.0 c.args.m.now.b.0) ∷ seal_on c.args.s.0 c.args.m.now.a.0 c.args.m.now.b.0 c.args.n ∷ ds)
    (c.in-Err.ensures.fails r ds)

pub returns-in-Err-clause-carried : goal.returns-in-Err-clause-carried
returns-in-Err-clause-carried g c r =
    returns-in-Err-clause-fails g c r []

pub returns-in-Some-clause-cuts : goal.returns-in-Some-clause-cuts
returns-in-Some-clause-cuts g c r laws sends = laws

pub returns-then-not-is_drained-clause-holds_cut : goal.returns-then-not-is_drained-clause-holds_cut
returns-then-not-is_drained-clause-holds_cut g c done = absurd cc

pub returns-then-not-is_drained-clause-cuts : goal.returns-then-not-is_drained-clause-cuts
returns-then-not-is_drained-clause-cuts g c r laws sends = laws

pub returns-in-Ok-clause-holds_cut : goal.returns-in-Ok-clause-holds_cut
returns-in-Ok-clause-holds_cut g c done r laws sends =
    let s = g.P.Plant.state c.args.plant.now in
    (seal-ends (world_seen s c.args.config.now r c.args.journal.now.events) laws c.args.s.0 c.args.m.now.a.0 c.args.m.now.b.0 c.args.n sends (armed_in s) (world_seen (g.P.Plant.state c.seal_drained.new.plant) c.args.config.now r c.seal_drained.new.journal.events) None (returns-in-Ok-clause-carried g c r)).sealed_for refl
    (ap (λ (f : Fields). is_bare f.out_of_sync) (sym c.peek_fields.ensures.fields) ∙ sym c.if-not-is_drained.ensures)

pub returns-in-Ok-clause-cuts : goal.returns-in-Ok-clause-cuts
returns-in-Ok-clause-cuts g c r laws sends =
    let s = g.P.Plant.state c.args.plant.now in
    (seal-ends (world_seen s c.args.config.now r c.args.journal.now.events) laws c.args.s.0 c.args.m.now.a.0 c.args.m.now.b.0 c.args.n sends (armed_in s) (world_seen (g.P.Plant.state c.seal_drained.new.plant) c.args.config.now r c.seal_drained.new.journal.events) None (returns-in-Ok-clause-carried g c r)).holds

pub returns-in-Err-clause-cuts : goal.returns-in-Err-clause-cuts
returns-in-Err-clause-cuts g c r laws sends =
    let s = g.P.Plant.state c.args.plant.now in
    (seal-ends (world_seen s c.args.config.now r c.args.journal.now.events) laws c.args.s.0 c.args.m.now.a.0 c.args.m.now.b.0 c.args.n sends (armed_in s) (world_seen (g.P.Plant.state c.seal_drained.new.plant) c.args.config.now r c.seal_drained.new.journal.events) (Some c.in-Err.why) (returns-in-Err-clause-carried g c r)).holds
