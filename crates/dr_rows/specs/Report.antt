-- The report on a sweep.
use Rattle.std.specs.Prelude.{ℕ, List, ◌++◌}
use Rattle.dr_plan.specs.Sweep.{Sweep}
use Rattle.dr_rows.specs.Outcome.{Outcome}
use Rattle.dr_rows.specs.Calm.{Calm, calm_told}
use Rattle.dr_rows.specs.Findings.{asks_recovery}
use Rattle.dr_rows.specs.Kinds.{disasters_told}
use Rattle.dr_rows.specs.Refusals.{recovery_told}
use Rattle.dr_rows.specs.Strip.{strip_told}
use Rattle.dr_rows.specs.Table.{table_told}

-- the calm run of a plan, and the table, the disasters, the recovery and the strip of the one that is tried
abbrev pub report : Sweep → Sweep → Calm → List Outcome → List ℕ
report plan tried calm rows =
    calm_told plan calm ++ table_told tried (asks_recovery tried) rows ++ disasters_told tried (asks_recovery tried) rows ++ recovery_told tried rows ++ strip_told tried (asks_recovery tried) rows
