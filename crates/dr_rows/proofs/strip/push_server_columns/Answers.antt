use Rattle.std.proofs.Common.{ℕ, ◌++◌, List, ap, ◌∙◌, arith}
use Rattle.dr_rows.specs.Strip.{server_column}
use Rattle.dr_rows.proofs.RangeLemmas.{said-more}
use Rattle.dr_rows.proofs.strip.push_server_columns.Goals as goal

pub loop-server-preserved : goal.loop-server-preserved
loop-server-preserved c =
    let at = c.loop-server.server in
    let says : ℕ → List ℕ = server_column c.args.plan.now c.args.signs.now c.args.disaster c.args.place in
    c.in_ok-push_server_column.ensures ∙ ap (λ t. t ++ says at) c.loop-server.invariant ∙ said-more says c.args.text.now 0 at at (omega arith)
