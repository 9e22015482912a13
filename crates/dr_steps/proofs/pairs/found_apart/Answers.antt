use Rattle.std.proofs.Common.{cond, subst, sym, [], ◌∷◌, ◌++◌}
use Rattle.dr_model.specs.PairEntries.{refuse_if}
use Rattle.dr_model.specs.Plans.{found_volumes, cascade_refusal}
use Rattle.dr_moves.specs.Checks.{Checked}
use Rattle.dr_gcopy.proofs.PairChecks.{on-none}
use Rattle.dr_steps.specs.Here.{here}
use Rattle.dr_steps.proofs.PairLemmas.{nowhere-apart, found-then_apart}
use Rattle.dr_steps.proofs.pairs.found_apart.Goals as goal

pub returns-in-Some-clause-checked : goal.returns-in-Some-clause-checked
returns-in-Some-clause-checked c x events =
    nowhere-apart (here x c.args.config.now c.args.tables.now events) c.args.devs.now c.args.a.0 c.args.b.0 c.args.cascade c.in-Some.why (c.in-Some.ensures.checked x c.args.tables.now events)

pub returns-then-cascade-clause-checked : goal.returns-then-cascade-clause-checked
returns-then-cascade-clause-checked c x events =
    let t = c.args.config.now in
    let h = c.args.tables.now in
    let a = c.args.a.0 in
    let found = found_volumes c.args.devs.now a c.args.b.0 in
    subst (λ b. Checked (here x t h events) (found ++ cond b (refuse_if (cascade_refusal a) ∷ []) []) c.cascade_refusal.result) (sym c.if-cascade.true)
    (found-then_apart (here x t h events) c.args.devs.now a c.args.b.0 c.cascade_refusal.result (c.cascade_refusal.ensures.refusal x t events) (c.in_default.ensures.checked x h events))

pub returns-then-cascade-clause-first : goal.returns-then-cascade-clause-first
returns-then-cascade-clause-first c = on-none c.cascade_refusal.result _ c.in_default.ensures.first

pub returns-then-cascade-clause-second : goal.returns-then-cascade-clause-second
returns-then-cascade-clause-second c = on-none c.cascade_refusal.result _ c.in_default.ensures.second
