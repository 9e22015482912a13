use Rattle.std.proofs.lemmas.Result.{err_from_is_err_and}
use Rattle.dr_sweep.specs.declared.parts.Part.TheVariants.{Within}
use Rattle.dr_sweep.proofs.NamedLemmas.{part-fails}
use Rattle.dr_sweep.proofs.find.cut_script.Goals as goal

pub returns-in_err-writes-clause-fails : goal.returns-in_err-writes-clause-fails
returns-in_err-writes-clause-fails c =
    let out = err_from_is_err_and c.from_residual.result c.from_residual.ensures.1 in
    rw (out.1, out.2) (part-fails c.args.plan.now (Within c.args.disaster c.args.place c.args.server) c.in_err-writes.field-0.0 c.requires.is_of c.in_err-writes.ensures.fails)
