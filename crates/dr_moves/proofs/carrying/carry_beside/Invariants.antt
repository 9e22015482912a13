use Rattle.std.proofs.Common.{ℕ, ◌≡◌, ◌≤◌, ◌+◌, ◌++◌, Bool, false, List, Option, length, Ok}
use Rattle.dr_ids.specs.declared.refusal.Refusal.{Refusal}
use Rattle.dr_plant.specs.State.{PlantState}
use Rattle.dr_model.specs.Control.{World}
use Rattle.dr_model.specs.Carry.{Entry}
use Rattle.dr_model.specs.ReadStops.{Ends}
use Rattle.dr_volume.specs.View.{Rest}
use Rattle.dr_moves.specs.Here.{world_seen}
use Rattle.dr_moves.specs.Made.{Kept}
use Rattle.dr_moves.proofs.carrying.carry_beside.Given as goal

abbrev pub invariant-loop : goal.invariant-loop
invariant-loop g l = record {
  -- what ends those that are left ends all
  left : (r : Rest) (armed : ℕ → Bool) (u : World) (q : Option Refusal) (ds : List Entry) → Ends armed u q (world_seen (g.P.Plant.state l.plant) l.config (g.B.Beside.rest l.beside r) l.journal.events) (g.E.Entries.left l.entries l.config ++ ds)
      → Ends armed u q (world_seen (g.P.Plant.state l.fn.plant) l.config (g.B.Beside.rest l.fn.beside r) l.fn.journal.events) (g.E.Entries.left l.fn.entries l.config ++ ds);
  count : length (g.E.Entries.left l.entries l.config) + l.counter ≡ l.end;
  stands : g.E.Entries.stands l.entries (g.P.Plant.state l.plant) l.beside l.config;
  -- and so does what those that are left make
  makes : (done : Bool) (w : PlantState) (z : g.row.B.Denot) → g.E.Entries.makes l.entries done (g.P.Plant.state l.plant) l.beside w z l.config → g.E.Entries.makes l.fn.entries done (g.P.Plant.state l.fn.plant) l.fn.beside w z l.config;
  refuses : (q : Option Refusal) → g.E.Entries.refuses l.entries l.config q → g.E.Entries.refuses l.fn.entries l.config q;
  kept : Kept (g.P.Plant.state l.fn.plant) (g.P.Plant.state l.plant) l.config l.fn.journal l.journal (g.E.Entries.most l.fn.entries l.config) false {E = Refusal} (Ok tt);
  room : l.fn.journal.spare + g.E.Entries.room l.entries l.config ≤ l.journal.spare + g.E.Entries.room l.fn.entries l.config;
  most : l.fn.journal.spare + g.E.Entries.most l.entries l.config ≤ l.journal.spare + g.E.Entries.most l.fn.entries l.config;
  no_more : l.journal.spare ≤ l.fn.journal.spare;
}
