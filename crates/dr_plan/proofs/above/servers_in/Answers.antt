use Rattle.std.proofs.Common.{◌++◌, ap, ◌∙◌}
use Rattle.std.specs.List.{filter_map}
use Rattle.dr_plan.specs.Above.{line_steps, server_in}
use Rattle.dr_plan.proofs.AboveLemmas.{line-found}
use Rattle.dr_plan.proofs.above.servers_in.Goals as goal

pub loop-line-preserved : goal.loop-line-preserved
loop-line-preserved c =
    line-found server_in c.loop-line.found.items c.push_servers_of.new.found.items c.args.lines.now c.loop-line.line-index _ c.loop-line-test.true
    (c.in_ok-push_servers_of.ensures ∙ ap (λ line. c.loop-line.found.items ++ filter_map server_in (line_steps line)) (c.bytes.ensures ∙ c.line-item.is)) c.loop-line.invariant
