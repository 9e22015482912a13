use Rattle.std.proofs.Common.{ℕ, ◌≡◌, ◌≤◌, ◌+◌, ◌++◌, Bool, false, List, length, Option, None}
use Rattle.dr_ids.specs.declared.refusal.Refusal.{Refusal}
use Rattle.dr_model.specs.Carry.{Entry}
use Rattle.dr_model.specs.Control.{World}
use Rattle.dr_model.specs.Entries.{copies_from}
use Rattle.dr_model.specs.ReadStops.{Ends}
use Rattle.dr_volume.specs.Update.{IsAsBefore}
use Rattle.dr_volume.specs.View.{Rest, volume_seen, ids_of}
use Rattle.dr_moves.specs.Fit.{RelationsFit}
use Rattle.dr_moves.specs.Here.{world_seen, IsAtRest}
use Rattle.dr_incr.specs.Steps.{keeps_of}
use Rattle.dr_incr.proofs.TargetLemmas.{keeps_left}
use Rattle.dr_incr.proofs.others.keep_others.Given as goal

abbrev pub invariant-loop-place : goal.invariant-loop-place
invariant-loop-place g l = record {
  -- what ends those that are left ends all
  left : (r : Rest) (armed : ℕ → Bool) (u : World) (r' : Option Refusal) (ds : List Entry) → Ends armed u r' (world_seen (g.P.Plant.state l.plant) l.config r l.journal.events) (keeps_left l.config l.s.0 l.fn.t.0 l.place ++ ds)
      → Ends armed u r' (world_seen (g.P.Plant.state l.fn.plant) l.config r l.fn.journal.events) (keeps_of (ids_of l.config.volumes) l.s.0 l.fn.t.0 ++ ds);
  rest : IsAtRest (g.P.Plant.state l.plant) l.config;
  fit : RelationsFit (g.P.Plant.state l.plant) l.config;
  unarmed : (q : ℕ) → (g.P.Plant.state l.fn.plant).read_fuse q ≡ None → (g.P.Plant.state l.plant).read_fuse q ≡ None;
  faults : (g.P.Plant.state l.plant).faults ≡ (g.P.Plant.state l.fn.plant).faults;
  others : (q : ℕ) → copies_from l.s.0 (volume_seen (g.P.Plant.state l.fn.plant) l.config q).fields ≡ false → IsAsBefore (g.P.Plant.state l.fn.plant) (g.P.Plant.state l.plant) l.config q;
  aside : IsAsBefore (g.P.Plant.state l.fn.plant) (g.P.Plant.state l.plant) l.config l.fn.t.0;
  on : (g.P.Plant.state l.plant).on ≡ (g.P.Plant.state l.fn.plant).on;
  room : l.fn.journal.spare ≤ l.journal.spare + l.place;
  sum : length l.journal.events + l.journal.spare ≡ length l.fn.journal.events + l.fn.journal.spare;
}
