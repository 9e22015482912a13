use Rattle.std.proofs.Common.{◌≡◌, [], ◌++◌, arith, length, subst, sym, vec_len, ◌∙◌}
use Rattle.std.specs.Prelude.{All}
use Rattle.std.proofs.lemmas.Result.{err_from_is_err_and}
use Rattle.dr_model.specs.LineText.{IsWritten}
use Rattle.dr_plan.specs.Reading.{parts_from}
use Rattle.dr_sweep.specs.Seen.{run_seen}
use Rattle.dr_sweep.proofs.ApartLemmas.{alone-more, kept-apart, line-halts, memory-halts, no-steps-counted, parts-alone, parts-halt, run-apart, session-some, stays-whole, steps-counted, still-there}
use Rattle.dr_sweep.proofs.apart.take_run_apart.Goals as goal

pub parts_of_run-requires-clause-session : goal.parts_of_run-requires-clause-session
parts_of_run-requires-clause-session c = session-some c.args.step.now.text c.args.asked c.requires.is_run

pub returns-in_err-parts-clause-fails : goal.returns-in_err-parts-clause-fails
returns-in_err-parts-clause-fails c =
    let out = err_from_is_err_and c.from_residual.result c.from_residual.ensures.1 in
    rw (out.1, out.2) (λ began ls done ran.
    parts-halt began ls (run_seen c.parts_of_run.new.self) c.args.step.now c.args.asked c.in_err-parts.field-0.0 c.requires.is_run (c.in_err-parts.ensures.fails began ls done ran))

pub returns-in_err-keep_step-clause-fails : goal.returns-in_err-keep_step-clause-fails
returns-in_err-keep_step-clause-fails c =
    let v = c.in_ok-parts.parts in
    let parts = v.items in
    let count : vec_len v ≡ length parts = omega (arith, v.ok.0) in
    let none : parts ≡ [] = no-steps-counted parts (vec_len v) count (sym c.is_empty.ensures ∙ c.if-is_empty.true) in
    let out = err_from_is_err_and c.from_residual-in_err-keep_step.result c.from_residual-in_err-keep_step.ensures.1 in
    rw (out.1, out.2) (λ began ls done ran.
    line-halts began ls (run_seen c.keep_step.new.run) c.args.step.now c.in_err-keep_step.field-0.0
    (c.in_err-keep_step.ensures.fails began ls done (still-there began ls done (run_seen c.parts_of_run.new.self) c.args.step.now c.args.asked c.requires.is_run parts (c.in_ok-parts.ensures.adds began ls done ran) none)))

pub returns-then-is_empty-clause-alone : goal.returns-then-is_empty-clause-alone
returns-then-is_empty-clause-alone c = alone-more c.args.tried.now.items c.args.step.now c.keep_step.new.tried.items c.requires.old_alone c.requires.alone c.in_ok-keep_step.ensures.kept

pub returns-then-is_empty-clause-goes : goal.returns-then-is_empty-clause-goes
returns-then-is_empty-clause-goes c began ls done ran =
    let t = c.args.step.now in
    let mid = run_seen c.parts_of_run.new.self in
    let v = c.in_ok-parts.parts in
    let parts = v.items in
    let count : vec_len v ≡ length parts = omega (arith, v.ok.0) in
    let none : parts ≡ [] = no-steps-counted parts (vec_len v) count (sym c.is_empty.ensures ∙ c.if-is_empty.true) in
    let a = c.in_ok-parts.ensures.adds began ls done ran in
    let goes = c.in_ok-keep_step.ensures.goes began ls done (still-there began ls done mid t c.args.asked c.requires.is_run parts a none) in
    kept-apart began ls done (run_seen c.keep_step.new.run) t (c.requires.alone.1 0 t (omega arith)) goes c.args.tried.now.items c.keep_step.new.tried.items c.in_ok-keep_step.ensures.kept
    (stays-whole began ls done mid t c.args.asked c.requires.is_run parts a none goes.further)

pub push_step_parts-requires : goal.push_step_parts-requires
push_step_parts-requires c =
    let h = c.requires.lines in
    let a = c.in_ok-parts.ensures.adds h.began h.ls h.done h.ran in
    subst (All IsWritten) (sym (c.deref.ensures.value ∙ a.cut)) a.written

pub returns-in_err-push_step_parts-clause-fails : goal.returns-in_err-push_step_parts-clause-fails
returns-in_err-push_step_parts-clause-fails c =
    let out = err_from_is_err_and c.from_residual-in_err-push_step_parts.result c.from_residual-in_err-push_step_parts.ensures.1 in
    rw (out.1, out.2) (λ began ls done ran. memory-halts began ls (run_seen c.parts_of_run.new.self) c.args.step.now)

pub returns-clause-alone : goal.returns-clause-alone
returns-clause-alone c =
    let h = c.requires.lines in
    let old = c.args.tried.now.items in
    let is = c.in_ok-push_step_parts.ensures ∙ (λ i. old ++ parts_from (c.line.ensures i) 1 (c.deref.ensures.value i)) in
    parts-alone h.began h.ls h.done (run_seen c.parts_of_run.new.self) c.args.step.now c.args.asked c.requires.is_run c.in_ok-parts.parts.items (c.in_ok-parts.ensures.adds h.began h.ls h.done h.ran) old c.push_step_parts.new.all.items c.requires.old_alone is

pub returns-clause-goes : goal.returns-clause-goes
returns-clause-goes c began ls done ran =
    let old = c.args.tried.now.items in
    let v = c.in_ok-parts.parts in
    let count : vec_len v ≡ length v.items = omega (arith, v.ok.0) in
    let is = c.in_ok-push_step_parts.ensures ∙ (λ i. old ++ parts_from (c.line.ensures i) 1 (c.deref.ensures.value i)) in
    run-apart began ls done (run_seen c.parts_of_run.new.self) c.args.step.now c.args.asked c.requires.is_run c.in_ok-parts.parts.items (c.in_ok-parts.ensures.adds began ls done ran) old c.push_step_parts.new.all.items
    (steps-counted v.items (vec_len v) count (sym c.is_empty.ensures ∙ c.if-is_empty.false)) is
