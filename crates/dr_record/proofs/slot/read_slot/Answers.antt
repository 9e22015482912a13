use Rattle.std.proofs.Common.{◌+◌, ◌-◌, ◌∙◌, sym, ap, arith}
use Rattle.dr_plant.specs.State.{PlantState}
use Rattle.dr_plant.proofs.StateLemmas.{read_kept}
use Rattle.dr_record.specs.Taken.{taken_from}
use Rattle.dr_record.proofs.TakenLemmas.{taken_more, taken_all}
use Rattle.dr_record.proofs.slot.read_slot.Goals as goal

pub loop-number-preserved : goal.loop-number-preserved
loop-number-preserved g c =
    let s = g.P.Plant.state c.args.plant.now in
    let now = c.loop-number.invariant.same in
    record {
      rest = taken_more g.F.Form.taken c.loop-number.number (g.F.Form.BLOCKS - c.loop-number.number) (g.F.Form.BLOCKS - (c.loop-number.number + 1)) (λ i. s.block c.args.dev.0 (c.start_of-start.result + i)) _ _ _ (omega arith)
          (c.in_ok-read.ensures.bytes ∙ ap (λ (t : PlantState). t.block c.args.dev.0 (c.start_of-start.result + c.loop-number.number)) now) c.take_block.ensures ∙ c.loop-number.invariant.rest;
      same = read_kept _ _ c.args.dev.0 c.in_ok-read.ensures.state c.in_ok-read.ensures.done ∙ now;
    }

pub returns-clause-value : goal.returns-clause-value
returns-clause-value g c =
    let s = g.P.Plant.state c.args.plant.now in
    sym (taken_all g.F.Form.taken c.loop-number.number (g.F.Form.BLOCKS - c.loop-number.number) (λ i. s.block c.args.dev.0 (c.start_of-start.result + i)) c.loop-number.value (let h = c.loop-number-test.false in omega arith))
    ∙ c.loop-number.invariant.rest
    ∙ ap (λ n. taken_from g.F.Form.taken 0 g.F.Form.BLOCKS (λ i. s.block c.args.dev.0 (n + i)) g.F.Form.fresh) c.start_of-start.ensures
