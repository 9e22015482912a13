-- Metro Mirror primaries that are in sync.
use Rattle.std.specs.Prelude.{◌≡◌, ℕ, true, false, List, ◌++◌}
use Rattle.std.specs.FinSet.{contains}
use Rattle.dr_model.specs.Control.{Control, is_volume}
use Rattle.dr_model.specs.Pairs.{is_metro, is_full_duplex}
use Rattle.dr_model.specs.Entries.{fields_at, is_running}
use Rattle.dr_model.specs.Runs.{Task, run}

-- A Metro Mirror primary that is Full Duplex has no track out of sync where its server runs: one that a stop left so is in Copy Pending as the
-- server starts. And in whatever state, none records what changes.
pub record IsInSync (k : Control) : Type 0 where
  pub sent : (v t : ℕ) → is_volume k v ≡ true → is_running v k ≡ true → is_metro (fields_at k v).primary ≡ true → is_full_duplex (fields_at k v).primary_state ≡ true → contains (fields_at k v).out_of_sync t ≡ false
  pub unchanged : (v t : ℕ) → is_metro (fields_at k v).primary ≡ true → contains (fields_at k v).change_recording t ≡ false

-- so it is as each step of a run begins, and at its end
abbrev pub DuplexInSync : List Task → Type 0
DuplexInSync tasks = (before behind : List Task) → tasks ≡ before ++ behind → IsInSync (run before).control
