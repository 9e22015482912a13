use Rattle.std.proofs.Common.{ℕ, ◌≡◌, ◌≤◌, ◌+◌, [], ◌∷◌, None}
use Rattle.dr_model.specs.Carry.{carry}
use Rattle.dr_model.specs.Entries.{times, fetch_next}
use Rattle.dr_moves.specs.Fit.{RelationsFit}
use Rattle.dr_moves.specs.Here.{IsAtRest}
use Rattle.dr_steps.specs.Here.{here}
use Rattle.dr_steps.proofs.background.fetch_tracks.Given as goal

abbrev pub invariant-loop : goal.invariant-loop
invariant-loop g l = record {
  so_far : carry (here (g.P.Plant.state l.fn.plant) l.config l.tables l.fn.journal.events) (times l.counter (fetch_next l.t.0 ∷ [])) ≡ (here (g.P.Plant.state l.plant) l.config l.tables l.journal.events, None);
  rest : IsAtRest (g.P.Plant.state l.plant) l.config;
  fit : RelationsFit (g.P.Plant.state l.plant) l.config;
  unarmed : (q : ℕ) → (g.P.Plant.state l.fn.plant).read_fuse q ≡ None → (g.P.Plant.state l.plant).read_fuse q ≡ None;
  on : (g.P.Plant.state l.plant).on ≡ (g.P.Plant.state l.fn.plant).on;
  faults : (g.P.Plant.state l.plant).faults ≡ (g.P.Plant.state l.fn.plant).faults;
  room : l.fn.journal.spare ≤ l.journal.spare + l.counter;
}
