use Rattle.std.proofs.Common.{ℕ, ◌≡◌, ◌+◌, ◌++◌, Bool, List, length, Option, Ok}
use Rattle.dr_ids.specs.declared.refusal.Refusal.{Refusal}
use Rattle.dr_model.specs.Control.{World}
use Rattle.dr_model.specs.Carry.{Entry}
use Rattle.dr_model.specs.ReadStops.{Ends}
use Rattle.dr_volume.specs.View.{Rest}
use Rattle.dr_moves.specs.Here.{world_seen, IsAtRest}
use Rattle.dr_moves.specs.Ready.{Stayed}
use Rattle.dr_admin.specs.Starting.{start_from}
use Rattle.dr_admin.proofs.starting.go_on_all.Given as goal

abbrev pub invariant-loop-place : goal.invariant-loop-place
invariant-loop-place g l = record {
  -- what ends those that are left ends all
  left : (r : Rest) (armed : ℕ → Bool) (u : World) (q : Option Refusal) (ds : List Entry) → Ends armed u q (world_seen (g.P.Plant.state l.plant) l.config r l.journal.events) (start_from l.config l.s.0 l.place ++ ds)
      → Ends armed u q (world_seen (g.P.Plant.state l.fn.plant) l.config r l.fn.journal.events) (start_from l.config l.s.0 0 ++ ds);
  rest : IsAtRest (g.P.Plant.state l.plant) l.config;
  stayed : Stayed (g.P.Plant.state l.fn.plant) (g.P.Plant.state l.plant) l.config l.fn.journal l.journal l.s.0 (length l.config.volumes + length l.config.volumes + 1) {E = Refusal} (Ok tt);
  told : l.journal ≡ l.fn.journal;
}
