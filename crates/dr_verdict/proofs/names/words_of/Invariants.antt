use Rattle.std.proofs.Common.{◌≡◌, ◌++◌, map, string_bytes, drop}
use Rattle.dr_verdict.proofs.names.words_of.Given as goal

abbrev pub invariant-loop-line : goal.invariant-loop-line
invariant-loop-line l =
    map string_bytes l.words.items ++ map (λ line. line.now) (drop l.line-index l.line-items) ≡ map (λ line. line.now) l.line-items
