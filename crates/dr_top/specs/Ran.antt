-- What a line came to, with what was printed of it.
use Rattle.std.specs.Prelude.{◌≡◌, ℕ, ◌≤◌, ◌++◌, Bool, true, false, List, [], take, length, Option, Result, Ok, Err}
use Rattle.dr_model.specs.Control.{World}
use Rattle.dr_model.specs.Layout.{Blocks}
use Rattle.dr_model.specs.Runs.{Task}
use Rattle.dr_model.specs.Text.{text}
use Rattle.dr_top.specs.Carried.{StepsLead}
use Rattle.dr_top.specs.Followed.{IsFull, IsThrough, LacksMemory}
use Rattle.dr_io.specs.Given.{Gave, GavePart}
use Rattle.dr_top.specs.declared.run.Halt.{Halt}
use Rattle.dr_top.specs.declared.run.Halt.TheVariants.{WriteFault, NoMemory, Full}

-- a call ended by the sink's fault
abbrev pub is_on_sink : Result (Unit {0}) Halt → Bool
is_on_sink (Err WriteFault) = true
is_on_sink _ = false

module _ {K : Type 0} (written : K → Option (List ℕ)) (sink sink' : K) where
  -- which steps were carried out, and whether the sink was given their text or a front of it; where memory was wanting, none of it
  abbrev pub LineEnds : ℕ → List Task → World → List ℕ → Result (Unit {0}) Halt → Type 0
  LineEnds done tasks u piece (Ok x) = (done ≡ length tasks) × Gave written sink sink' piece
  LineEnds done tasks u piece (Err WriteFault) = IsThrough done tasks u × GavePart written sink sink' piece
  LineEnds done tasks u piece (Err NoMemory) = LacksMemory done tasks u × (sink' ≡ sink)
  LineEnds done tasks u piece (Err Full) = IsFull done tasks u × Gave written sink sink' piece

  -- so many of a line's steps were carried out, and their text was printed, or a front of it
  pub record RanLine (w : World) (before : ℕ → Blocks) (tasks : List Task) (u : World) (after : ℕ → Blocks) (result : Result (Unit {0}) Halt) : Type 0 where
    pub done : ℕ
    pub within : done ≤ length tasks
    pub led : StepsLead w (take done tasks) u after
    pub still : take done tasks ≡ [] → after ≡ before
    pub piece : List ℕ
    pub says : text u.events ≡ text w.events ++ piece
    pub ends : LineEnds done tasks u piece result
