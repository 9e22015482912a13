use Rattle.std.proofs.Common.{◌≡◌, ◌++◌}
use Rattle.dr_sweep.specs.Parts.{server_parts}
use Rattle.dr_sweep.proofs.parts.push_servers.Given as goal

abbrev pub invariant-loop-server : goal.invariant-loop-server
invariant-loop-server l = l.parts.items ≡ l.fn.parts.items ++ server_parts l.disaster l.place l.server
