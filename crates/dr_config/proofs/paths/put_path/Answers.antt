use Rattle.std.proofs.Common.{◌∙◌, ap, subst, sym}
use Rattle.std.specs.List.{IsDistinct}
use Rattle.std.specs.Map.{keys_of, lookup}
use Rattle.indexmap.specs.IndexMap.{insert_entry}
use Rattle.dr_config.specs.declared.paths.Ends.{Ends}
use Rattle.dr_config.specs.Kept.{paths_of}
use Rattle.dr_config.proofs.PathLaws.{PathEntries, same_ends, lookup-path, path-put}
use Rattle.dr_config.proofs.paths.put_path.Goals as goal
use Rattle.dr_logic.proofs.Results.{err-always}

pub returns-clause-put : goal.returns-clause-put
returns-clause-put c =
    let es = c.args.paths.now.entries in
    let entries = c.in_ok-insert.ensures.entries ∙ ap (λ (k : Ends). insert_entry same_ends es k c.args.group) c.ends_of.ensures in
    let distinct = subst (λ (es : PathEntries). IsDistinct same_ends (keys_of es)) entries c.insert.ensures.unique in
    ap paths_of entries ∙ path-put c.args.src.0 c.args.tgt.0 c.args.group es distinct

pub returns-in_err-insert-clause-absent : goal.returns-in_err-insert-clause-absent
returns-in_err-insert-clause-absent c =
    let es = c.args.paths.now.entries in
    let key = ap (λ (k : Ends). lookup (same_ends k) es) (sym c.ends_of.ensures) in
    err-always c.from_residual.result (sym (lookup-path c.args.src.0 c.args.tgt.0 es) ∙ (key ∙ c.in_err-insert.ensures.absent))
