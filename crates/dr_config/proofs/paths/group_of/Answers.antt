use Rattle.std.proofs.Common.{◌∙◌, ap}
use Rattle.std.specs.Map.{lookup}
use Rattle.dr_config.specs.declared.paths.Ends.{Ends}
use Rattle.dr_config.proofs.PathLaws.{same_ends, lookup-path}
use Rattle.dr_config.proofs.paths.group_of.Goals as goal

pub returns : goal.returns
returns c =
    let es = c.args.paths.now.entries in
    let key = ap (λ (k : Ends). lookup (same_ends k) es) c.ends_of.ensures in
    c.copied.ensures ∙ (c.get.ensures.value ∙ (key ∙ lookup-path c.args.src.0 c.args.tgt.0 es))
