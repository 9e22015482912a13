use Rattle.std.proofs.Common.{◌≡◌, true, false, refl, not, ◌∙◌}
use Rattle.std.specs.Prelude.{Result, Ok, Err, OnOk, OnErr, is_err}
use Rattle.dr_record.specs.Slots.{stored, IsOldOrNew}
use Rattle.dr_record.proofs.PutLemmas.{put-done, put-old_or_new, put-slot, put-elsewhere, put-cut_short}
use Rattle.dr_record.proofs.record.put.Goals as goal

on_ok : {T E P : Type 0} (r : Result T E) → (is_err r ≡ false → P) → OnOk r P
on_ok (Ok x) h = h refl
on_ok (Err x) h = tt

on_err : {T E P : Type 0} (r : Result T E) → (is_err r ≡ true → P) → OnErr r P
on_err (Ok x) h = tt
on_err (Err x) h = h refl

pub returns : goal.returns
returns g c =
    let s = g.P.Plant.state c.args.plant.now in
    let t = g.P.Plant.state c.write_record.new.plant in
    let d = c.args.dev.0 in
    let n = g.F.Form.BLOCKS in
    let slot = c.args.slot in
    let bytes = g.F.Form.blocks c.args.next.now in
    let old = stored g.F.Form.taken n g.F.Form.fresh s d slot in
    let reads = g.met.F.Form.reads_back c.args.next.now c.tell_whole.ensures in
    let h = c.write_record.ensures in
    let either : IsOldOrNew g.F.Form.taken n g.F.Form.fresh t d slot old c.args.next.now =
    put-old_or_new g.F.Form.taken g.F.Form.fresh c.args.next.now old s t d n slot bytes (is_err c.write_record.result) (record { gate = c.requires.chosen; value = refl }) reads h in
    record {
      writes = h;
      done = on_ok c.write_record.result (λ ok. put-done g.F.Form.taken g.F.Form.fresh c.args.next.now s t d n (not slot) bytes reads (h ∙ (λ i. (t, ok i))));
      cut_short = on_err c.write_record.result (λ stopped. put-cut_short s t d n (not slot) bytes (h ∙ (λ i. (t, stopped i))));
      old_or_new = either;
      elsewhere = put-elsewhere s t d n (not slot) bytes (is_err c.write_record.result) h;
      slot = put-slot g.F.Form.taken n g.F.Form.fresh t d slot old c.args.next.now either;
    }
