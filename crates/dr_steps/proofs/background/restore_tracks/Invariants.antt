use Rattle.std.proofs.Common.{ℕ, ◌≡◌, ◌+◌, length, None}
use Rattle.dr_model.specs.Carry.{carry}
use Rattle.dr_model.specs.Entries.{times, give_back}
use Rattle.dr_volume.specs.View.{volume_seen, ids_of}
use Rattle.dr_moves.specs.Fit.{RelationsFit}
use Rattle.dr_moves.specs.Here.{IsAtRest}
use Rattle.dr_incr.specs.Steps.{IsRestoredOnto}
use Rattle.dr_steps.specs.Here.{here}
use Rattle.dr_steps.proofs.background.restore_tracks.Given as goal

abbrev pub invariant-loop : goal.invariant-loop
invariant-loop g l = record {
  so_far : carry (here (g.P.Plant.state l.fn.plant) l.config l.tables l.fn.journal.events)
      (times l.counter (give_back (ids_of l.config.volumes) (volume_seen (g.P.Plant.state l.fn.plant) l.config l.t.0).fields.source l.t.0)) ≡ (here (g.P.Plant.state l.plant) l.config l.tables l.journal.events, None);
  onto : IsRestoredOnto (volume_seen (g.P.Plant.state l.fn.plant) l.config l.t.0).fields.source (volume_seen (g.P.Plant.state l.plant) l.config l.t.0).fields;
  rest : IsAtRest (g.P.Plant.state l.plant) l.config;
  fit : RelationsFit (g.P.Plant.state l.plant) l.config;
  unarmed : (q : ℕ) → (g.P.Plant.state l.fn.plant).read_fuse q ≡ None → (g.P.Plant.state l.plant).read_fuse q ≡ None;
  on : (g.P.Plant.state l.plant).on ≡ (g.P.Plant.state l.fn.plant).on;
  faults : (g.P.Plant.state l.plant).faults ≡ (g.P.Plant.state l.fn.plant).faults;
  spare : length l.journal.events + l.journal.spare ≡ length l.fn.journal.events + l.fn.journal.spare;
}
