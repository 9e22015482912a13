use Rattle.std.proofs.Common.{◌≡◌, ◌≤◌, ◌+◌, ◌++◌}
use Rattle.dr_model.specs.Listed.{kept_blocks}
use Rattle.dr_listing.specs.Told.{kept_lines, AreBlocks}
use Rattle.dr_listing.proofs.devices.push_blocks.Given as goal

abbrev pub invariant-loop-index : goal.invariant-loop-index
invariant-loop-index g l = record {
  told : l.journal.events ≡ l.fn.journal.events ++ kept_lines l.v.0 (kept_blocks l.index ((g.P.Plant.state l.plant).block l.device.0));
  blocks : AreBlocks l.index ((g.P.Plant.state l.plant).block l.device.0);
  left : l.fn.journal.spare ≤ l.journal.spare + l.index;
}
