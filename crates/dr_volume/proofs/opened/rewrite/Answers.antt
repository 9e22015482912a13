use Rattle.std.proofs.Common.{ℕ, ◌≡◌, ◌<◌, ◌+◌, ◌*◌, Bool, length, ◌++◌, ◌∷◌, [], true, false, not, refl, ap, sym, ◌∙◌, arith, List}
use Rattle.dr_ids.specs.Sizes.{record_blocks}
use Rattle.dr_record.specs.Slots.{slot_of, gate_of, start_of, record_writes}
use Rattle.dr_plant.specs.Writes.{write, after_writes, listed}
use Rattle.dr_plant.proofs.BlocksLemmas.{same-block_writes}
use Rattle.dr_volume.specs.declared.fields.Fields.{Fields}
use Rattle.dr_plant.proofs.WritesLemmas.{err_pair, append-goes, append-stops, device-shape}
use Rattle.dr_volume.specs.Record.{record_block}
use Rattle.dr_volume.specs.Update.{stages, side_writes, track_writes, given_way, next_record}
use Rattle.dr_volume.proofs.RanLaws.{ran-written}
use Rattle.dr_volume.proofs.opened.rewrite.Goals as goal

-- blocks at hand are written as the record's
laid-record : (slot : Bool) (blocks : List (List ℕ)) (f : Fields) → length blocks ≡ 6 → ((i : ℕ) → i < 6 → listed blocks i ≡ record_block f i) → record_writes 6 slot (record_block f) ≡ record_writes (length blocks) slot (listed blocks)
laid-record slot blocks f six is =
    ap (λ ws. ws ++ write 0 (gate_of slot) ∷ []) (same-block_writes (start_of 6 slot) 0 6 (record_block f) (listed blocks) (λ i lt. sym (is i (omega arith))))
    ∙ ap (λ n. record_writes n slot (listed blocks)) (sym six)

pub put_blocks-requires-clause-device : goal.put_blocks-requires-clause-device
put_blocks-requires-clause-device g c =
    let s = g.P.Plant.state c.args.plant.now in
    let six : 2 * length c.blocks_of.result + 1 ≡ 13 = omega arith in
    rw six (device-shape s _ c.args.device.0 record_blocks (ran-written s _ c.args.device.0 _ false c.in_ok-before.ensures).shape c.requires.device)

pub returns-in_err-before-clause-written : goal.returns-in_err-before-clause-written
returns-in_err-before-clause-written g c =
    let s = g.P.Plant.state c.args.plant.now in
    let d = c.args.device.0 in
    let old = stages c.args.next.now in
    append-stops s _ d (side_writes c.args.side.now ++ track_writes (given_way c.args.carried.now old)) (record_writes 6 (not (slot_of s d)) (record_block (next_record true old c.args.next.now c.args.carried.now))) c.in_err-before.ensures
    ∙ err_pair _ _ _ c.from_residual.ensures.0 refl

pub returns-clause-written : goal.returns-clause-written
returns-clause-written g c =
    let s = g.P.Plant.state c.args.plant.now in
    let s1 = g.P.Plant.state c.write_before-before.new.plant in
    let d = c.args.device.0 in
    let old = stages c.args.next.now in
    append-goes s s1 d (side_writes c.args.side.now ++ track_writes (given_way c.args.carried.now old)) (record_writes 6 (not (slot_of s d)) (record_block (next_record true old c.args.next.now c.args.carried.now))) c.in_ok-before.ensures
    ∙ (λ i. after_writes s1 d (record_writes 6 (not (c.requires.chosen i)) (record_block (sym c.stage_next.ensures i))))
    ∙ ap (after_writes s1 d) (laid-record (not c.args.slot) c.blocks_of.result _ (omega arith) c.blocks_of.ensures)
    ∙ c.put_blocks.ensures.writes
