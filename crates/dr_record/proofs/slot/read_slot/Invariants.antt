use Rattle.std.proofs.Common.{◌≡◌, ◌+◌, ◌-◌}
use Rattle.dr_record.specs.Taken.{taken_from}
use Rattle.dr_record.proofs.slot.read_slot.Given as goal

abbrev pub invariant-loop-number : goal.invariant-loop-number
invariant-loop-number g l =
    let s = g.P.Plant.state l.fn.plant in
    record {
      -- the blocks that are left take the value where all take the blank one
      rest : taken_from g.F.Form.taken l.number (g.F.Form.BLOCKS - l.number) (λ i. s.block l.dev.0 (l.start + i)) l.value ≡ taken_from g.F.Form.taken 0 g.F.Form.BLOCKS (λ i. s.block l.dev.0 (l.start + i)) g.F.Form.fresh;
      same : g.P.Plant.state l.plant ≡ s;
    }
