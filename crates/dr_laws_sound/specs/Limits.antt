-- What of a run has limits.
use Rattle.std.specs.Prelude.{ℕ, ◌≤◌, length}
use Rattle.dr_model.specs.Limits.{most_servers, most_volumes, most_tracks, most_pending}
use Rattle.dr_model.specs.Control.{Control}

-- there are no more servers, volumes, pending writes and sessions than may be, and no volume has more tracks
pub record IsWithin (k : Control) : Type 0 where
  pub servers : length k.servers ≤ most_servers
  pub volumes : length k.volumes ≤ most_volumes
  pub pending : length k.pending ≤ most_pending
  pub tracks : (v : ℕ) → (k.volume v).tracks ≤ most_tracks
  pub sessions : length k.sessions ≤ 4
