use Rattle.dr_steps.specs.Here.{here}
use Rattle.dr_steps.proofs.PairLemmas.{nowhere-free, found-then_free}
use Rattle.dr_steps.proofs.pairs.found_free.Goals as goal
use Rattle.dr_gcopy.proofs.PairChecks.{on-none}

pub returns-in-Some-clause-checked : goal.returns-in-Some-clause-checked
returns-in-Some-clause-checked c x events =
    nowhere-free (here x c.args.config.now c.args.tables.now events) c.args.devs.now c.args.a.0 c.args.b.0 c.in-Some.why (c.in-Some.ensures.checked x c.args.tables.now events)

pub returns-clause-checked : goal.returns-clause-checked
returns-clause-checked c x events =
    found-then_free (here x c.args.config.now c.args.tables.now events) c.args.devs.now c.args.a.0 c.args.b.0 c.member_refusal.result (c.member_refusal.ensures.refusal x c.args.config.now events) (c.in_default.ensures.checked x c.args.tables.now events)

pub returns-clause-first : goal.returns-clause-first
returns-clause-first c = on-none c.member_refusal.result _ c.in_default.ensures.first

pub returns-clause-second : goal.returns-clause-second
returns-clause-second c = on-none c.member_refusal.result _ c.in_default.ensures.second
