use Rattle.std.proofs.Common.{ℕ, ◌≡◌, ◌∙◌, length, List, Bool, refl, ap, sym, subst, arith}
use Rattle.dr_plant.specs.State.{PlantState}
use Rattle.dr_plant.specs.Writes.{SameShape, after_writes, list_writes}
use Rattle.dr_record.specs.Slots as slots
use Rattle.dr_plant.proofs.WritesLemmas.{append-goes, append-stops, one_write, err_pair, device-shape, shape-after_writes}
use Rattle.dr_record.proofs.slot.write_record_blocks.Goals as goal

-- the blocks' writes, where the slot begins
blocks-written : (s : PlantState) (dev start : ℕ) (slot : Bool) (xs : List (List ℕ)) (r : PlantState × Bool) → start ≡ slots.start_of (length xs) slot → after_writes s dev (list_writes start xs) ≡ r → after_writes s dev (list_writes (slots.start_of (length xs) slot) xs) ≡ r
blocks-written s dev start slot xs r is e = ap (λ b. after_writes s dev (list_writes b xs)) (sym is) ∙ e

pub returns-in_err-write_blocks : goal.returns-in_err-write_blocks
returns-in_err-write_blocks g c =
    let xs = c.args.blocks.now in
    append-stops _ _ c.args.dev.0 (list_writes (slots.start_of (length xs) c.args.slot) xs) _
    (blocks-written (g.P.Plant.state c.args.plant.now) c.args.dev.0 c.begin_of-start.result c.args.slot xs _ c.begin_of-start.ensures c.in_err-write_blocks.ensures)
    ∙ err_pair _ _ _ c.from_residual.ensures.0 refl

pub write_gate-requires : goal.write_gate-requires
write_gate-requires g c =
    let xs = c.args.blocks.now in
    let s = g.P.Plant.state c.args.plant.now in
    let done = blocks-written s c.args.dev.0 c.begin_of-start.result c.args.slot xs _ c.begin_of-start.ensures c.in_ok-write_blocks.ensures in
    let there = device-shape s _ c.args.dev.0 _ (subst (λ (r : PlantState × Bool). SameShape s r.0) done (shape-after_writes s c.args.dev.0 (list_writes (slots.start_of (length xs) c.args.slot) xs))) c.requires.device in
    record { device = there.device; block = let h = there.blocks in omega arith }

pub returns : goal.returns
returns g c =
    let xs = c.args.blocks.now in
    append-goes _ _ c.args.dev.0 (list_writes (slots.start_of (length xs) c.args.slot) xs) _
    (blocks-written (g.P.Plant.state c.args.plant.now) c.args.dev.0 c.begin_of-start.result c.args.slot xs _ c.begin_of-start.ensures c.in_ok-write_blocks.ensures)
    ∙ one_write _ _ c.args.dev.0 0 (slots.gate_of c.args.slot) _ c.write_gate.ensures.state c.write_gate.ensures.done
