use Rattle.std.proofs.Common.{◌≡◌, ◌+◌, ◌-◌, length}
use Rattle.dr_plant.specs.Writes.{after_writes, block_writes, list_writes, listed}
use Rattle.dr_plant.proofs.plant.Plant.write_blocks.Given as goal

abbrev pub invariant-loop-bytes : goal.invariant-loop-bytes
invariant-loop-bytes g l = record {
  -- the writes that are left lead where all lead
  rest : after_writes (g.Self.Plant.state l.self) l.dev.0 (block_writes l.fn.first l.bytes-index (length l.from - l.bytes-index) (listed l.from)) ≡ after_writes (g.Self.Plant.state l.fn.self) l.fn.dev.0 (list_writes l.fn.first l.fn.from);
  place : l.block ≡ l.fn.first + l.bytes-index;
  count : (g.Self.Plant.state l.self).count ≡ (g.Self.Plant.state l.fn.self).count;
  size : (g.Self.Plant.state l.self).size ≡ (g.Self.Plant.state l.fn.self).size;
}
