use Rattle.std.proofs.Common.{◌≡◌, ◌++◌, map, string_bytes, drop}
use Rattle.dr_verdict.specs.Names.{script_names}
use Rattle.dr_verdict.proofs.names.script_names.Given as goal

abbrev pub invariant-loop-file : goal.invariant-loop-file
invariant-loop-file l =
    map (λ name. name.now) l.names.items ++ script_names (map string_bytes (drop l.file-index l.files)) ≡ script_names (map string_bytes l.files)
