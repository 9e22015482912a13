use Rattle.std.proofs.Common.{◌≡◌, ◌-◌}
use Rattle.dr_plant.specs.Writes.{after_writes, block_writes, SameShape}
use Rattle.dr_record.proofs.slot.write_slot.Given as goal

abbrev pub invariant-loop-i : goal.invariant-loop-i
invariant-loop-i g l = record {
  -- the writes that are left lead where all lead
  rest : after_writes (g.P.Plant.state l.plant) l.dev.0 (block_writes l.start l.i (g.F.Form.BLOCKS - l.i) (g.F.Form.blocks l.value)) ≡ after_writes (g.P.Plant.state l.fn.plant) l.dev.0 (block_writes l.start 0 g.F.Form.BLOCKS (g.F.Form.blocks l.value));
  shape : SameShape (g.P.Plant.state l.fn.plant) (g.P.Plant.state l.plant);
}
