-- What the cuts of a group hold of a run: all that was acknowledged before them, and with a write all that it depends on.
use Rattle.std.specs.Prelude.{◌⊎◌, ℕ, List}
use Rattle.dr_model.specs.declared.event.Event.{Event}
use Rattle.dr_model.specs.Histories.{lists}
use Rattle.dr_model.specs.Groups.{In}
use Rattle.dr_model.specs.Dependence.{DependsOn}
use Rattle.dr_model.specs.Cuts.{CutAt}
use Rattle.dr_model.specs.ClosedCuts.{InGroup, LastCut}
use Rattle.dr_model.specs.HeldWrites.{WasAcknowledged}
use Rattle.dr_model.specs.TakenWrites.{WasTaken}
use Rattle.dr_model.specs.Runs.{Task}

-- The cuts of attempt n of session s. A write that was acknowledged on a volume of the group before its cut is in the cut, or a step in
-- between took it away; so is one that was acknowledged before the last cut of the attempt, and on which a write of another cut depends.
pub record HoldsAll (tasks : List Task) (events : List Event) (s n : ℕ) : Type 0 where
  pub kept : (a : ℕ) → InGroup events s n a → (c : CutAt events s n a) → (u t : ℕ) → WasAcknowledged c.before u a t → In u (lists c.before a t) ⊎ WasTaken tasks c.before u a t
  pub depends : (a z : ℕ) → InGroup events s n a → InGroup events s n z → (c : CutAt events s n a) (d : CutAt events s n z) (p : LastCut events s n)
      → (w u t q : ℕ) → In w (lists c.before a t) → DependsOn events w u → WasAcknowledged p.place.before u z q → In u (lists d.before z q) ⊎ WasTaken tasks p.place.before u z q
