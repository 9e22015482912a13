use Rattle.std.proofs.Common.{◌+◌, ◌∙◌, arith, refl, subst, sym}
use Rattle.std.proofs.lemmas.Result.{err_from_is_err_and}
use Rattle.dr_plan.specs.declared.points.Torn.TheVariants.{Unchanged}
use Rattle.dr_sweep.specs.Parts.{Adds}
use Rattle.dr_sweep.proofs.PartLemmas.{few-servers, lost-there}
use Rattle.dr_sweep.proofs.WithinLemmas.{AreUpTo, begins-within, write-more, write-ends, writes-out, within-fails, next-low}
use Rattle.dr_sweep.proofs.rows.add_within.Goals as goal

pub first_counts-writes-requires : goal.first_counts-writes-requires
first_counts-writes-requires c =
    let few = few-servers c.args.plan.now c.first_write.ensures.sweep c.args.disaster c.args.place c.args.server c.requires.is_of in
    let low = c.requires.is_of.2 in
    omega (arith, few, low)

pub loop-total-init : goal.loop-total-init
loop-total-init c =
    let few = few-servers c.args.plan.now c.first_write.ensures.sweep c.args.disaster c.args.place c.args.server c.requires.is_of in
    let low = c.requires.is_of.2 in
    begins-within c.args.plan.now c.args.disaster c.args.place c.args.server c.first_counts-writes.result c.in_ok-first.first c.in_ok-first.first c.args.rows.now.items c.args.rows.now.items (omega (arith, few, low)) c.in_ok-first.ensures.first
    c.first_counts-writes.ensures refl refl

pub returns-in_err-stop-clause-fails : goal.returns-in_err-stop-clause-fails
returns-in_err-stop-clause-fails c =
    let out = err_from_is_err_and c.from_residual-in_err-stop.result c.from_residual-in_err-stop.ensures.1 in
    rw (out.1, out.2)
    (within-fails c.args.plan.now c.args.disaster c.args.place c.args.server c.loop-total.invariant.are.counts c.loop-total.writes c.loop-total._total c.in_err-stop.field-0.0 c.loop-total.invariant.are.up c.in_err-stop.ensures.fails)

pub returns-in_default-clause-adds : goal.returns-in_default-clause-adds
returns-in_default-clause-adds c =
    let plan = c.args.plan.now in
    let of = c.requires.is_of in
    let sweep = c.first_write.ensures.sweep in
    let few = few-servers plan sweep c.args.disaster c.args.place c.args.server of in
    let low = of.2 in
    let lt = c.loop-total-test.true in
    write-ends plan c.args.disaster c.args.place c.args.server sweep (omega (arith, few, low)) c.loop-total.writes c.loop-total._total (omega (arith, lt)) c.in_ok-stop.stop c.args.rows.now.items c.loop-total.rows.items c.add_write.new.rows.items c.loop-total.invariant c.in_ok-stop.ensures.adds
    (sym c.in_default.is ∙ c.raised.ensures)

pub returns-clause-adds : goal.returns-clause-adds
returns-clause-adds c =
    let end = c.loop-total.auto._total-end in
    let out = c.loop-total-test.false in
    writes-out c.args.plan.now c.args.disaster c.args.place c.args.server c.first_write.ensures.sweep c.loop-total.writes c.loop-total._total c.args.rows.now.items c.loop-total.rows.items c.loop-total.invariant (omega (arith, end, out))

pub raise-requires-clause-place : goal.raise-requires-clause-place
raise-requires-clause-place c =
    let plan = c.args.plan.now in
    let of = c.requires.is_of in
    let sweep = c.first_write.ensures.sweep in
    let few = few-servers plan sweep c.args.disaster c.args.place c.args.server of in
    let low = of.2 in
    let lt = next-low plan c.args.disaster c.args.place c.args.server sweep few (omega (arith, few, low)) (λ ws. lost-there plan c.args.disaster c.args.place c.args.server Unchanged ws of) c.loop-total.writes c.in_ok-stop.stop c.in-Some.next c.in_ok-stop.ensures.adds.0
    (sym c.in-Some.is ∙ c.raised.ensures) in
    let size = c.loop-total.invariant.are.up.size in
    omega (arith, lt, size)

pub loop-total-preserved : goal.loop-total-preserved
loop-total-preserved c =
    let plan = c.args.plan.now in
    let of = c.requires.is_of in
    let sweep = c.first_write.ensures.sweep in
    let few = few-servers plan sweep c.args.disaster c.args.place c.args.server of in
    let low = of.2 in
    subst (λ ws. Adds (AreUpTo plan c.args.disaster c.args.place c.args.server ws (c.loop-total._total + 1)) c.args.rows.now.items c.add_write.new.rows.items) (sym c.raise.ensures)
    (write-more plan c.args.disaster c.args.place c.args.server sweep few (omega (arith, few, low)) (λ ws. lost-there plan c.args.disaster c.args.place c.args.server Unchanged ws of) c.loop-total.writes c.loop-total._total c.in_ok-stop.stop c.in-Some.next
    c.args.rows.now.items c.loop-total.rows.items c.add_write.new.rows.items (let lt = c.loop-total-test.true in omega (arith, lt)) c.loop-total.invariant c.in_ok-stop.ensures.adds (sym c.in-Some.is ∙ c.raised.ensures))
