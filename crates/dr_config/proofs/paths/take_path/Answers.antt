use Rattle.std.proofs.Common.{◌∙◌, ap, sym, is_some}
use Rattle.std.specs.Map.{lookup, remove_entry}
use Rattle.dr_config.specs.declared.paths.Ends.{Ends}
use Rattle.dr_config.specs.Kept.{paths_of}
use Rattle.dr_config.proofs.PathLaws.{PathEntries, same_ends, lookup-path, path-taken}
use Rattle.dr_config.proofs.paths.take_path.Goals as goal

pub returns-clause-found : goal.returns-clause-found
returns-clause-found c =
    let es = c.args.paths.now.entries in
    let key = ap (λ (k : Ends). lookup (same_ends k) es) c.ends_of.ensures in
    c.is_some.ensures ∙ ap is_some (c.shift_remove.ensures.value ∙ (key ∙ lookup-path c.args.src.0 c.args.tgt.0 es))

pub returns-clause-taken : goal.returns-clause-taken
returns-clause-taken c =
    let es = c.args.paths.now.entries in
    let after = c.shift_remove.new.self.entries in
    let entries = c.shift_remove.ensures.entries ∙ ap (λ (k : Ends). remove_entry (same_ends k) es) c.ends_of.ensures in
    let key = ap (λ (k : Ends). lookup (same_ends k) after) (sym c.ends_of.ensures) in
    let left = ap (λ (rest : PathEntries). lookup (same_ends (record { src = c.args.src.0; tgt = c.args.tgt.0 })) rest) (sym entries) ∙ (key ∙ c.shift_remove.ensures.updates.1) in
    ap paths_of entries ∙ path-taken c.args.src.0 c.args.tgt.0 es left
