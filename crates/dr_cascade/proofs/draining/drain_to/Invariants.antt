use Rattle.std.proofs.Common.{ℕ, ◌≡◌, ◌≤◌, ◌+◌, length, take, drop, None}
use Rattle.dr_model.specs.PairEntries.{feeds}
use Rattle.dr_model.specs.Relations.{in_order}
use Rattle.dr_volume.specs.View.{Rest, volume_seen, ids_of}
use Rattle.dr_moves.specs.Here.{world_seen}
use Rattle.dr_moves.specs.Made.{IsAt}
use Rattle.dr_gcopy.specs.Sending.{SameParts}
use Rattle.dr_gcopy.proofs.DrainLemmas.{Within}
use Rattle.dr_cascade.specs.Feeding.{LeadsIn}
use Rattle.dr_cascade.proofs.draining.drain_to.Given as goal

abbrev pub invariant-loop-sent : goal.invariant-loop-sent
invariant-loop-sent g l = record {
  led : (r : Rest) → LeadsIn (world_seen (g.P.Plant.state l.fn.plant) l.config r l.fn.journal.events) (feeds (ids_of l.config.volumes) l.a.0 l.b.0 (volume_seen (g.P.Plant.state l.fn.plant) l.config l.b.0).fields.primary_partner (take l.sent (in_order l.n l.out_of_sync))) (world_seen (g.P.Plant.state l.plant) l.config r l.journal.events);
  left : drop l.sent (in_order l.n l.out_of_sync) ≡ in_order l.n l.left;
  few : l.sent ≤ length (in_order l.n l.out_of_sync);
  within : Within l.most l.sent;
  at : IsAt (g.P.Plant.state l.plant) l.config;
  unarmed : (q : ℕ) → (g.P.Plant.state l.fn.plant).read_fuse q ≡ None → (g.P.Plant.state l.plant).read_fuse q ≡ None;
  on : (g.P.Plant.state l.plant).on ≡ (g.P.Plant.state l.fn.plant).on;
  faults : (g.P.Plant.state l.plant).faults ≡ (g.P.Plant.state l.fn.plant).faults;
  room : length l.config.volumes + (length l.config.volumes + 10) ≤ l.journal.spare;
  from_parts : SameParts (volume_seen (g.P.Plant.state l.fn.plant) l.config l.a.0).fields (volume_seen (g.P.Plant.state l.plant) l.config l.a.0).fields;
  to_parts : SameParts (volume_seen (g.P.Plant.state l.fn.plant) l.config l.b.0).fields (volume_seen (g.P.Plant.state l.plant) l.config l.b.0).fields;
  spare : length l.journal.events + l.journal.spare ≡ length l.fn.journal.events + l.fn.journal.spare;
}
