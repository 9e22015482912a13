use Rattle.std.proofs.Common.{◌+◌, ◌-◌, ◌∙◌, sym, ap, arith}
use Rattle.dr_plant.specs.State.{after_write}
use Rattle.dr_plant.specs.Writes.{after_writes, block_writes}
use Rattle.dr_plant.proofs.WritesLemmas.{shape-after_write, shape-trans, err_pair}
use Rattle.dr_plant.proofs.BlocksLemmas.{rest-goes, rest-stops, rest-ends}
use Rattle.dr_record.proofs.slot.write_slot.Goals as goal

pub returns-in_err-write-clause-writes : goal.returns-in_err-write-clause-writes
returns-in_err-write-clause-writes g c =
    ap (λ n. after_writes (g.P.Plant.state c.args.plant.now) c.args.dev.0 (block_writes n 0 g.F.Form.BLOCKS (g.F.Form.blocks c.args.value.now))) (sym c.start_of-start.ensures)
    ∙ sym c.loop-i.invariant.rest
    ∙ rest-stops (g.P.Plant.state c.loop-i.plant) c.args.dev.0 c.start_of-start.result c.loop-i.i (g.F.Form.BLOCKS - c.loop-i.i) (g.F.Form.BLOCKS - (c.loop-i.i + 1)) (g.F.Form.blocks c.args.value.now) (omega arith) (sym c.in_err-write.ensures.done)
    ∙ err_pair _ _ _ c.from_residual.ensures.0 (c.in_err-write.ensures.state ∙ ap (after_write (g.P.Plant.state c.loop-i.plant) c.args.dev.0 (c.start_of-start.result + c.loop-i.i)) c.block.ensures)

pub returns-in_err-write-clause-shape : goal.returns-in_err-write-clause-shape
returns-in_err-write-clause-shape g c =
    shape-trans _ _ _ c.loop-i.invariant.shape (rw c.in_err-write.ensures.state (shape-after_write (g.P.Plant.state c.loop-i.plant) c.args.dev.0 (c.start_of-start.result + c.loop-i.i) _))

pub loop-i-preserved : goal.loop-i-preserved
loop-i-preserved g c =
    let s = g.P.Plant.state c.loop-i.plant in
    record {
      rest =
          ap (λ t. after_writes t c.args.dev.0 (block_writes c.start_of-start.result (c.loop-i.i + 1) (g.F.Form.BLOCKS - (c.loop-i.i + 1)) (g.F.Form.blocks c.args.value.now)))
          (c.in_ok-write.ensures.state ∙ ap (after_write s c.args.dev.0 (c.start_of-start.result + c.loop-i.i)) c.block.ensures)
          ∙ sym (rest-goes s c.args.dev.0 c.start_of-start.result c.loop-i.i (g.F.Form.BLOCKS - c.loop-i.i) (g.F.Form.BLOCKS - (c.loop-i.i + 1)) (g.F.Form.blocks c.args.value.now) (omega arith) (sym c.in_ok-write.ensures.done))
          ∙ c.loop-i.invariant.rest;
      shape = shape-trans _ _ _ c.loop-i.invariant.shape (rw c.in_ok-write.ensures.state (shape-after_write s c.args.dev.0 (c.start_of-start.result + c.loop-i.i) _));
    }

pub returns-clause-writes : goal.returns-clause-writes
returns-clause-writes g c =
    ap (λ n. after_writes (g.P.Plant.state c.args.plant.now) c.args.dev.0 (block_writes n 0 g.F.Form.BLOCKS (g.F.Form.blocks c.args.value.now))) (sym c.start_of-start.ensures)
    ∙ sym c.loop-i.invariant.rest
    ∙ rest-ends _ _ _ _ _ _ (let h = c.loop-i-test.false in omega arith)
