use Rattle.dr_verdict.proofs.NamesLemmas.{name_before-stripped}
use Rattle.dr_verdict.proofs.names.name_before.Goals as goal

pub returns : goal.returns
returns c = name_before-stripped c.args.file.now c.args.ending.now c.strip_suffix.result c.strip_suffix.ensures.cases
