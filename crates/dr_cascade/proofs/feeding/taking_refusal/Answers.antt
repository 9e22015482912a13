use Rattle.std.proofs.Common.{[], ◌∷◌, sym}
use Rattle.dr_model.specs.PairEntries.{refuse_if, flashed_refusal, held_refusal}
use Rattle.dr_moves.specs.Here.{world_seen}
use Rattle.dr_moves.proofs.EntryLemmas.{ends-clear, ends-why, one-checked}
use Rattle.dr_flash.proofs.CheckLemmas.{then-checked}
use Rattle.dr_cascade.proofs.feeding.taking_refusal.Goals as goal

pub returns-in-Some-clause-checked : goal.returns-in-Some-clause-checked
returns-in-Some-clause-checked g c r events armed ds =
    let w = world_seen (g.P.Plant.state c.args.plant.now) c.args.config.now r events in
    ends-why armed w (flashed_refusal c.args.b.0) c.in-Some.why _ (sym (c.in-Some.ensures.refusal r events))

pub returns-clause-checked : goal.returns-clause-checked
returns-clause-checked g c r events =
    let w = world_seen (g.P.Plant.state c.args.plant.now) c.args.config.now r events in
    let b = c.args.b.0 in
    then-checked w (refuse_if (flashed_refusal b) ∷ []) (refuse_if (held_refusal b) ∷ []) c.held_refusal.result
    (λ armed u r' ds more. ends-clear armed u r' w (flashed_refusal b) ds (sym (c.in_default.ensures.refusal r events)) more)
    (one-checked w (held_refusal b) c.held_refusal.result (c.held_refusal.ensures.refusal r events))
