use Rattle.std.proofs.Common.{ap, sym, subst, ◌∙◌, ◌∷◌}
use Rattle.dr_logic.specs.Counts.{Counted}
use Rattle.dr_plant.specs.State.{PlantState}
use Rattle.dr_model.specs.Log.{Log}
use Rattle.dr_model.specs.PairEntries.{refuse_if, differs_at}
use Rattle.dr_model.specs.Pairs.{first_state}
use Rattle.dr_model.specs.ReadStops.{Ends}
use Rattle.dr_volume.specs.Update.{IsAsBefore}
use Rattle.dr_moves.specs.Checks.{is_stop}
use Rattle.dr_moves.specs.Here.{world_seen, armed_in, refusal_of}
use Rattle.dr_moves.proofs.TurnLemmas.{refused-by}
use Rattle.dr_gcopy.specs.Kinds.{part_of}
use Rattle.dr_gcopy.specs.Steps.{make_moves, difference_seen}
use Rattle.dr_gcopy.proofs.PairChecks.{unless-stopped}
use Rattle.dr_moves.proofs.EntryLemmas.{ends-by}
use Rattle.dr_gcopy.proofs.making.make_as.Goals as goal
use Rattle.dr_logic.proofs.Results.{err-always}

pub returns-in-Some-clause-carried : goal.returns-in-Some-clause-carried
returns-in-Some-clause-carried g c r = c.in-Some.ensures.checked r c.args.journal.now.events (armed_in (g.P.Plant.state c.args.plant.now)) _

pub returns-in_err-compare-clause-carried : goal.returns-in_err-compare-clause-carried
returns-in_err-compare-clause-carried g c r =
    c.in_default.ensures.checked r c.args.journal.now.events (armed_in (g.P.Plant.state c.args.plant.now)) (world_seen (g.P.Plant.state c.compare.new.plant) c.args.config.now r c.compare.new.journal.events) (refusal_of c.from_residual.result) _
    (subst (λ q. Ends (armed_in (g.P.Plant.state c.args.plant.now)) (world_seen (g.P.Plant.state c.compare.new.plant) c.args.config.now r c.compare.new.journal.events) q (world_seen (g.P.Plant.state c.args.plant.now) c.args.config.now r c.args.journal.now.events) (refuse_if (differs_at (difference_seen (g.P.Plant.state c.args.plant.now) c.args.config.now c.args.a.0 c.args.b.0 c.args.full)) ∷ (make_moves c.args.a.0 c.args.b.0 (part_of c.args.kind) (first_state (part_of c.args.kind) c.args.full) c.args.full))) (sym (refused-by c.from_residual.result c.in_err-compare.field-0.0 c.from_residual.ensures.0 c.from_residual.ensures.1))
    (c.in_err-compare.ensures.fails r (make_moves c.args.a.0 c.args.b.0 (part_of c.args.kind) (first_state (part_of c.args.kind) c.args.full) c.args.full)))

pub returns-in_err-compare-clause-unchanged : goal.returns-in_err-compare-clause-unchanged
returns-in_err-compare-clause-unchanged g c calm = err-always c.from_residual.result (c.in_err-compare.ensures.unchanged (sym (ap is_stop (refused-by c.from_residual.result c.in_err-compare.field-0.0 c.from_residual.ensures.0 c.from_residual.ensures.1)) ∙ calm))

pub returns-in_err-compare-clause-others : goal.returns-in_err-compare-clause-others
returns-in_err-compare-clause-others g c q na nb = c.in_err-compare.ensures.same q

pub returns-clause-carried : goal.returns-clause-carried
returns-clause-carried g c r =
    let kinds = ap (λ z. make_moves c.args.a.0 c.args.b.0 c.part_of-part.result z c.args.full) c.first_state.ensures
    ∙ ap (λ k. make_moves c.args.a.0 c.args.b.0 k (first_state k c.args.full) c.args.full) c.part_of-part.ensures.part in
    c.in_default.ensures.checked r c.args.journal.now.events (armed_in (g.P.Plant.state c.args.plant.now)) (world_seen (g.P.Plant.state c.carry_both.new.plant) c.args.config.now r c.carry_both.new.journal.events) (refusal_of c.carry_both.result) _
    (c.in_ok-compare.ensures.leads r (armed_in (g.P.Plant.state c.args.plant.now)) (world_seen (g.P.Plant.state c.carry_both.new.plant) c.args.config.now r c.carry_both.new.journal.events) (refusal_of c.carry_both.result) _
    (subst (λ es. Ends (armed_in (g.P.Plant.state c.args.plant.now)) (world_seen (g.P.Plant.state c.carry_both.new.plant) c.args.config.now r c.carry_both.new.journal.events) (refusal_of c.carry_both.result) (world_seen (g.P.Plant.state c.args.plant.now) c.args.config.now r c.args.journal.now.events) es) kinds
    (subst (λ (x : PlantState). Ends (armed_in x) (world_seen (g.P.Plant.state c.carry_both.new.plant) c.args.config.now r c.carry_both.new.journal.events) (refusal_of c.carry_both.result) (world_seen x c.args.config.now r c.args.journal.now.events) (make_moves c.args.a.0 c.args.b.0 c.part_of-part.result c.first_state.result c.args.full)) c.in_ok-compare.ensures.passed
    (subst (λ (l : Log). Ends (armed_in (g.P.Plant.state c.compare.new.plant)) (world_seen (g.P.Plant.state c.carry_both.new.plant) c.args.config.now r c.carry_both.new.journal.events) (refusal_of c.carry_both.result) (world_seen (g.P.Plant.state c.compare.new.plant) c.args.config.now r l.events) (make_moves c.args.a.0 c.args.b.0 c.part_of-part.result c.first_state.result c.args.full)) c.in_ok-compare.ensures.silent
    (ends-by c.carry_both.result (armed_in (g.P.Plant.state c.compare.new.plant)) (λ r. (world_seen (g.P.Plant.state c.compare.new.plant) c.args.config.now r c.compare.new.journal.events)) (λ r. (world_seen (g.P.Plant.state c.carry_both.new.plant) c.args.config.now r c.carry_both.new.journal.events)) (λ r. make_moves c.args.a.0 c.args.b.0 c.part_of-part.result c.first_state.result c.args.full) c.carry_both.ensures.leads c.carry_both.ensures.fails r)))))

pub returns-clause-unchanged : goal.returns-clause-unchanged
returns-clause-unchanged g c calm = unless-stopped _ c.carry_both.result c.carry_both.ensures.stops calm

pub returns-clause-unarmed : goal.returns-clause-unarmed
returns-clause-unarmed g c q none = c.carry_both.ensures.kept.unarmed q (ap (λ (x : PlantState). x.read_fuse q) c.in_ok-compare.ensures.passed ∙ none)

pub returns-clause-faults : goal.returns-clause-faults
returns-clause-faults g c =
    subst (λ (x : PlantState). Counted (is_stop (refusal_of c.carry_both.result)) x.faults (g.P.Plant.state c.carry_both.new.plant).faults) c.in_ok-compare.ensures.passed c.carry_both.ensures.kept.faults

pub returns-clause-others : goal.returns-clause-others
returns-clause-others g c q na nb = subst (λ (x : PlantState). IsAsBefore x (g.P.Plant.state c.carry_both.new.plant) c.args.config.now q) c.in_ok-compare.ensures.passed (c.carry_both.ensures.others q na nb)
