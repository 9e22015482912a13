-- What recovery would decide over a session, from what the devices say alone.
use Rattle.std.specs.Prelude.{◌≢◌, ℕ, List, map, filter}
use Rattle.dr_ids.specs.declared.refusal.Decision.TheVariants.{Impossible}
use Rattle.dr_model.specs.Layout.{Blocks, Fields, fields}
use Rattle.dr_model.specs.Decisions.{Shown, decision}
use Rattle.dr_model.specs.Control.{World}
use Rattle.dr_model.specs.Fits.{device_of}
use Rattle.dr_model.specs.SessionEntries.{counts_in, shown_of}
use Rattle.dr_model.specs.Runs.{Task, run}

-- the record of a volume on its device
abbrev pub record_on : World → (ℕ → Blocks) → ℕ → Fields
record_on w device v = fields (w.control.volume v).tracks (device (device_of w.control v))

-- what the targets show that count in session s, by the records on the devices of all volumes
abbrev pub shown_on : World → (ℕ → Blocks) → ℕ → List Shown
shown_on w device s = map (λ v. shown_of (record_on w device v)) (filter (λ v. counts_in s (record_on w device v)) w.control.volumes)

-- the decision over them is possible
abbrev pub DecidesOn : World → (ℕ → Blocks) → Type 0
DecidesOn w device = (s a b : ℕ) → decision (shown_on w device s) ≢ Impossible a b

-- where a run ends
abbrev pub DecidesAfter : List Task → (ℕ → Blocks) → Type 0
DecidesAfter tasks device = DecidesOn (run tasks) device
