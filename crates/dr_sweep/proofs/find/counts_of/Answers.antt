use Rattle.std.proofs.Common.{◌+◌, ◌∙◌, arith, refl, subst, sym}
use Rattle.std.proofs.lemmas.Result.{err_from_is_err_and}
use Rattle.dr_plan.specs.declared.points.Torn.TheVariants.{Unchanged}
use Rattle.dr_sweep.proofs.PartLemmas.{few-servers, lost-there}
use Rattle.dr_sweep.proofs.WithinLemmas.{Seeks, begins-seeking, seeks-on, within-fails, next-low, none-so, not-sought}
use Rattle.dr_sweep.proofs.find.counts_of.Goals as goal

pub first_counts-writes-requires : goal.first_counts-writes-requires
first_counts-writes-requires c =
    let few = few-servers c.args.plan.now c.first_write.ensures.sweep c.args.disaster c.args.place c.args.server c.requires.is_of in
    let low = c.requires.is_of.2 in
    omega (arith, few, low)

pub loop-total-init : goal.loop-total-init
loop-total-init c =
    let few = few-servers c.args.plan.now c.first_write.ensures.sweep c.args.disaster c.args.place c.args.server c.requires.is_of in
    let low = c.requires.is_of.2 in
    begins-seeking c.args.plan.now c.args.disaster c.args.place c.args.server c.args.write c.first_counts-writes.result c.in_ok-first.first c.in_ok-first.first (omega (arith, few, low)) c.in_ok-first.ensures.first c.first_counts-writes.ensures refl

pub returns-in_err-stop-clause-fails : goal.returns-in_err-stop-clause-fails
returns-in_err-stop-clause-fails c =
    let out = err_from_is_err_and c.from_residual-in_err-stop.result c.from_residual-in_err-stop.ensures.1 in
    rw (out.1, out.2)
    (within-fails c.args.plan.now c.args.disaster c.args.place c.args.server c.loop-total.invariant.counts c.loop-total.writes c.loop-total._total c.in_err-stop.field-0.0 c.loop-total.invariant.up c.in_err-stop.ensures.fails)

pub returns-in_default-clause-finds : goal.returns-in_default-clause-finds
returns-in_default-clause-finds c =
    let plan = c.args.plan.now in
    let of = c.requires.is_of in
    let sweep = c.first_write.ensures.sweep in
    let few = few-servers plan sweep c.args.disaster c.args.place c.args.server of in
    let low = of.2 in
    let lt = c.loop-total-test.true in
    none-so plan c.args.disaster c.args.place c.args.server sweep (omega (arith, few, low)) c.args.write c.loop-total.writes c.loop-total._total (omega (arith, lt)) c.in_ok-stop.stop c.loop-total.invariant c.in_ok-stop.ensures.stops
    (sym c.in_default.is ∙ c.raised.ensures)

pub raise-requires-clause-place : goal.raise-requires-clause-place
raise-requires-clause-place c =
    let plan = c.args.plan.now in
    let of = c.requires.is_of in
    let sweep = c.first_write.ensures.sweep in
    let few = few-servers plan sweep c.args.disaster c.args.place c.args.server of in
    let low = of.2 in
    let lt = next-low plan c.args.disaster c.args.place c.args.server sweep few (omega (arith, few, low)) (λ ws. lost-there plan c.args.disaster c.args.place c.args.server Unchanged ws of) c.loop-total.writes c.in_ok-stop.stop c.in-Some.next c.in_ok-stop.ensures.stops
    (sym c.in-Some.is ∙ c.raised.ensures) in
    let size = c.loop-total.invariant.up.size in
    omega (arith, lt, size)

pub loop-total-preserved : goal.loop-total-preserved
loop-total-preserved c =
    let plan = c.args.plan.now in
    let of = c.requires.is_of in
    let sweep = c.first_write.ensures.sweep in
    let few = few-servers plan sweep c.args.disaster c.args.place c.args.server of in
    let low = of.2 in
    subst (λ ws. Seeks plan c.args.disaster c.args.place c.args.server c.args.write ws (c.loop-total._total + 1)) (sym c.raise.ensures)
    (seeks-on plan c.args.disaster c.args.place c.args.server sweep few (omega (arith, few, low)) (λ ws. lost-there plan c.args.disaster c.args.place c.args.server Unchanged ws of) c.args.write c.loop-total.writes c.loop-total._total c.in_ok-stop.stop c.in-Some.next
    (let lt = c.loop-total-test.true in omega (arith, lt)) c.loop-total.invariant c.in_ok-stop.ensures.stops (sym c.in-Some.is ∙ c.raised.ensures)
    (not-sought plan c.args.disaster c.args.place c.args.server c.in_ok-stop.stop _ c.args.write (sym c.is_sought.ensures ∙ c.if-is_sought.false)))
