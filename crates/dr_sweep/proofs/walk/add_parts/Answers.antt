use Rattle.std.proofs.Common.{List, [], ◌∷◌, ◌++◌, get_or, refl, ◌∙◌, subst, sym, take}
use Rattle.std.proofs.lemmas.List.{take_all, take_more}
use Rattle.std.proofs.lemmas.Result.{err_from_is_err_and}
use Rattle.dr_model.specs.Groups.{In}
use Rattle.dr_sweep.specs.declared.parts.Part.{Part}
use Rattle.dr_sweep.specs.declared.parts.Part.TheVariants.{Between}
use Rattle.dr_sweep.specs.Parts.{Adds, AreRows, AreSwept, parts_of}
use Rattle.dr_sweep.proofs.RowLemmas.{adds-none, adds-then, swept-more, part-at, part-fails}
use Rattle.dr_sweep.proofs.walk.add_parts.Goals as goal

pub loop-part-init : goal.loop-part-init
loop-part-init g c = adds-none (AreSwept c.args.plan.now []) _ _ refl refl

pub add_part-requires : goal.add_part-requires
add_part-requires g c =
    let part : Part = get_or c.args.parts.now c.loop-part.part-index (Between 0 0) in
    record { is_of = subst (λ (parts : List Part). In part parts) c.requires.all (part-at c.args.parts.now c.loop-part.part-index (Between 0 0) c.loop-part-test.true) }

pub returns-in_err-add_part-clause-fails : goal.returns-in_err-add_part-clause-fails
returns-in_err-add_part-clause-fails g c =
    let part : Part = get_or c.args.parts.now c.loop-part.part-index (Between 0 0) in
    let fault = c.in_err-add_part.field-0.0 in
    let here : In part (parts_of c.args.plan.now) = subst (λ (parts : List Part). In part parts) c.requires.all (part-at c.args.parts.now c.loop-part.part-index (Between 0 0) c.loop-part-test.true) in
    let out = err_from_is_err_and c.from_residual.result c.from_residual.ensures.1 in
    rw (out.1, out.2) (part-fails c.args.plan.now part fault here c.in_err-add_part.ensures.fails)

pub loop-part-preserved : goal.loop-part-preserved
loop-part-preserved g c =
    let parts = c.args.parts.now in
    let i = c.loop-part.part-index in
    let part : Part = get_or parts i (Between 0 0) in
    subst (λ (ps : List Part). Adds (AreSwept c.args.plan.now ps) c.args.rows.now.items c.add_part.new.rows.items) (sym (take_more parts i (Between 0 0) c.loop-part-test.true))
    (adds-then (AreSwept c.args.plan.now (take i parts)) (AreRows c.args.plan.now part) (AreSwept c.args.plan.now (take i parts ++ part ∷ [])) c.args.rows.now.items c.loop-part.rows.items c.add_part.new.rows.items (swept-more c.args.plan.now part (take i parts)) c.loop-part.invariant c.in_ok-add_part.ensures.adds)

pub returns-clause-adds : goal.returns-clause-adds
returns-clause-adds g c =
    let parts = c.args.parts.now in
    subst (λ (ps : List Part). Adds (AreSwept c.args.plan.now ps) c.args.rows.now.items c.loop-part.rows.items) (take_all c.loop-part.part-index parts c.loop-part-test.false ∙ c.requires.all) c.loop-part.invariant
