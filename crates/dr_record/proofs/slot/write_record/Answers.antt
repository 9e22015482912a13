use Rattle.std.proofs.Common.{◌∙◌, refl}
use Rattle.dr_plant.specs.Writes.{block_writes}
use Rattle.dr_record.specs.Slots as slots
use Rattle.dr_plant.proofs.WritesLemmas.{append-goes, append-stops, one_write, err_pair}
use Rattle.dr_record.proofs.slot.write_record.Goals as goal

pub returns-in_err-write_slot : goal.returns-in_err-write_slot
returns-in_err-write_slot g c =
    append-stops _ _ c.args.dev.0 (block_writes (slots.start_of g.F.Form.BLOCKS c.args.slot) 0 g.F.Form.BLOCKS (g.F.Form.blocks c.args.value.now)) _ c.in_err-write_slot.ensures.writes
    ∙ err_pair _ _ _ c.from_residual.ensures.0 refl

pub returns : goal.returns
returns g c =
    append-goes _ _ c.args.dev.0 (block_writes (slots.start_of g.F.Form.BLOCKS c.args.slot) 0 g.F.Form.BLOCKS (g.F.Form.blocks c.args.value.now)) _ c.in_ok-write_slot.ensures.writes
    ∙ one_write _ _ c.args.dev.0 0 (slots.gate_of c.args.slot) _ c.write_gate.ensures.state c.write_gate.ensures.done
