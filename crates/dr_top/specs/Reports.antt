-- What a run comes to before it is known how its plant fits.
use Rattle.std.specs.Prelude.{◌≡◌, ℕ, List, Option}
use Rattle.dr_model.specs.Layout.{Blocks}
use Rattle.dr_model.specs.Control.{World, nothing}
use Rattle.dr_model.specs.Listed.{ListsAlong, ImagesDevices}
use Rattle.dr_model.specs.Runs.{Task, run}
use Rattle.dr_top.specs.Outcome.{Ran}
use Rattle.dr_top.specs.declared.status.Status.{Status}

module _ {S K : Type 0} (left : S → Option (List ℕ)) (written : K → Option (List ℕ)) (source source' : S) (sink sink' : K) (read_faults : S → ℕ) (write_faults : K → ℕ) where
  -- steps of a script were carried out, and lead to this world; what the last one listed is what these devices are
  pub record RanBy (status : Status) (world : World) (device : ℕ → Blocks) : Type 0 where
    pub steps : List Task
    pub leads : run steps ≡ world
    pub ran : Ran left written source source' sink sink' read_faults write_faults status steps world
    pub lists : ListsAlong nothing steps
    pub images : ImagesDevices nothing steps device
