use Rattle.std.proofs.Common.{◌∙◌, refl, not, true, false}
use Rattle.std.specs.Prelude.{Result, Ok, Err, OnErr}
use Rattle.dr_plant.proofs.WritesLemmas.{err_pair}
use Rattle.dr_record.proofs.PutLemmas.{put-done, put-old_or_new, put-slot, put-elsewhere, put-cut_short}
use Rattle.dr_record.proofs.cell.Cell.put.Goals as goal

on_err : {T E P : Type 0} (r : Result T E) → P → OnErr r P
on_err (Ok x) p = tt
on_err (Err x) p = p

pub returns-in_err-write_record-clause-writes : goal.returns-in_err-write_record-clause-writes
returns-in_err-write_record-clause-writes g c = c.in_err-write_record.ensures ∙ err_pair _ _ _ c.from_residual.ensures.0 refl

pub returns-in_err-write_record-clause-cut_short : goal.returns-in_err-write_record-clause-cut_short
returns-in_err-write_record-clause-cut_short g c =
    on_err _ (put-cut_short _ _ _ g.F.Form.BLOCKS (not c.args.self.now.slot) (g.F.Form.blocks c.args.next.now) c.in_err-write_record.ensures)

pub returns-in_err-write_record-clause-old_or_new : goal.returns-in_err-write_record-clause-old_or_new
returns-in_err-write_record-clause-old_or_new g c =
    put-old_or_new g.F.Form.taken g.F.Form.fresh c.args.next.now c.args.self.now.value _ _ _ g.F.Form.BLOCKS c.args.self.now.slot (g.F.Form.blocks c.args.next.now) true
    c.requires.held (g.met.F.Form.reads_back c.args.next.now c.tell_whole.ensures) c.in_err-write_record.ensures

pub returns-in_err-write_record-clause-elsewhere : goal.returns-in_err-write_record-clause-elsewhere
returns-in_err-write_record-clause-elsewhere g c =
    put-elsewhere _ _ _ g.F.Form.BLOCKS (not c.args.self.now.slot) (g.F.Form.blocks c.args.next.now) true c.in_err-write_record.ensures

pub returns-in_err-write_record-clause-slot : goal.returns-in_err-write_record-clause-slot
returns-in_err-write_record-clause-slot g c =
    put-slot g.F.Form.taken g.F.Form.BLOCKS g.F.Form.fresh _ _ _ c.args.self.now.value c.args.next.now
    (put-old_or_new g.F.Form.taken g.F.Form.fresh c.args.next.now c.args.self.now.value _ _ _ g.F.Form.BLOCKS c.args.self.now.slot (g.F.Form.blocks c.args.next.now) true
    c.requires.held (g.met.F.Form.reads_back c.args.next.now c.tell_whole.ensures) c.in_err-write_record.ensures)

pub returns-clause-writes : goal.returns-clause-writes
returns-clause-writes g c = c.in_ok-write_record.ensures

pub returns-clause-done : goal.returns-clause-done
returns-clause-done g c =
    put-done g.F.Form.taken g.F.Form.fresh c.args.next.now _ _ _ g.F.Form.BLOCKS (not c.args.self.now.slot) (g.F.Form.blocks c.args.next.now)
    (g.met.F.Form.reads_back c.args.next.now c.tell_whole.ensures) c.in_ok-write_record.ensures

pub returns-clause-old_or_new : goal.returns-clause-old_or_new
returns-clause-old_or_new g c =
    put-old_or_new g.F.Form.taken g.F.Form.fresh c.args.next.now c.args.self.now.value _ _ _ g.F.Form.BLOCKS c.args.self.now.slot (g.F.Form.blocks c.args.next.now) false
    c.requires.held (g.met.F.Form.reads_back c.args.next.now c.tell_whole.ensures) c.in_ok-write_record.ensures

pub returns-clause-elsewhere : goal.returns-clause-elsewhere
returns-clause-elsewhere g c =
    put-elsewhere _ _ _ g.F.Form.BLOCKS (not c.args.self.now.slot) (g.F.Form.blocks c.args.next.now) false c.in_ok-write_record.ensures

pub returns-clause-slot : goal.returns-clause-slot
returns-clause-slot g c =
    put-slot g.F.Form.taken g.F.Form.BLOCKS g.F.Form.fresh _ _ _ c.args.self.now.value c.args.next.now
    (put-old_or_new g.F.Form.taken g.F.Form.fresh c.args.next.now c.args.self.now.value _ _ _ g.F.Form.BLOCKS c.args.self.now.slot (g.F.Form.blocks c.args.next.now) false
    c.requires.held (g.met.F.Form.reads_back c.args.next.now c.tell_whole.ensures) c.in_ok-write_record.ensures)
