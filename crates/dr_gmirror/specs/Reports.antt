-- What a server reports of its members.
use Rattle.std.specs.Prelude.{◌≡◌, ℕ, ◌≤◌, ◌<◌, ◌+◌, Bool, ◌&&◌, ◌||◌, false, Some, length, slice_get, nat_eq}
use Rattle.dr_master.specs.Seen.{shown_in}
use Rattle.dr_master.specs.declared.reports.Report.{Report}
use Rattle.dr_model.specs.Decisions.{Shown}
use Rattle.dr_volume.specs.declared.head.Head.{Head}

-- a target with this head counts in session s: it is a member's there, or revertible
abbrev pub counts_by : ℕ → Head → Bool
counts_by s h = nat_eq h.session s && (h.member || h.revertible)

-- what it shows
abbrev pub shown_by : Head → Shown
shown_by h = record { sequence = h.sequence; revertible = h.revertible }

-- The places of a report behind those that it counts are zero and not set.
pub record IsTrimmed (r : Report) : Type 0 where
  pub numbers : (i : ℕ) → r.count ≤ i → i < 64 → slice_get r.seqs i ≡ Some 0
  pub flags : (i : ℕ) → r.count ≤ i → i < 64 → slice_get r.revertible i ≡ Some false

-- From one to the other a report went on to speak of one member more at most, and counts what it shows.
pub record Grown (before after : Report) : Type 0 where
  pub low : after.count ≤ before.count + 1
  pub count : length (shown_in before) ≡ before.count → length (shown_in after) ≡ after.count
  pub trimmed : IsTrimmed before → IsTrimmed after
