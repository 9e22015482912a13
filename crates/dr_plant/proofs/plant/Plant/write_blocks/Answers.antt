use Rattle.std.proofs.Common.{ℕ, ◌≡◌, ◌<◌, ◌+◌, ◌-◌, List, length, get_or, [], sym, ap, ◌∙◌, arith}
use Rattle.std.proofs.lemmas.List.{get_or_default}
use Rattle.dr_plant.specs.State.{PlantState, after_write}
use Rattle.dr_plant.specs.Writes.{after_writes, block_writes, listed}
use Rattle.dr_plant.proofs.StateLemmas.{count-after_write, size-after_write}
use Rattle.dr_plant.proofs.WritesLemmas.{err_pair}
use Rattle.dr_plant.proofs.BlocksLemmas.{rest-goes, rest-stops, rest-ends}
use Rattle.dr_plant.proofs.plant.Plant.write_blocks.Goals as goal

-- a block is written by its place
by-place : (s t : PlantState) (dev first block i : ℕ) (xs : List (List ℕ)) (d : List ℕ) → i < length xs → block ≡ first + i → t ≡ after_write s dev block (get_or xs i d) → t ≡ after_write s dev (first + i) (listed xs i)
by-place s t dev first block i xs d lt place is =
    is ∙ ap (λ b. after_write s dev b (get_or xs i d)) place ∙ ap (after_write s dev (first + i)) (get_or_default xs i d [] lt)

pub returns-in_err-write : goal.returns-in_err-write
returns-in_err-write g c =
    let s = g.Self.Plant.state c.loop-bytes.self in
    let xs = c.args.from.now in
    let i = c.loop-bytes.bytes-index in
    sym c.loop-bytes.invariant.rest
    ∙ rest-stops s c.args.dev.0 c.args.first i (length xs - i) (length xs - (i + 1)) (listed xs) (let lt = c.loop-bytes-test.true in omega arith) (sym c.in_err-write.ensures.done)
    ∙ err_pair _ _ _ c.from_residual.ensures.0 (by-place s _ c.args.dev.0 c.args.first c.loop-bytes.block i xs _ c.loop-bytes-test.true c.loop-bytes.invariant.place c.in_err-write.ensures.state)

pub loop-bytes-preserved : goal.loop-bytes-preserved
loop-bytes-preserved g c =
    let s = g.Self.Plant.state c.loop-bytes.self in
    let xs = c.args.from.now in
    let i = c.loop-bytes.bytes-index in
    record {
      rest =
          ap (λ t. after_writes t c.args.dev.0 (block_writes c.args.first (i + 1) (length xs - (i + 1)) (listed xs)))
          (by-place s _ c.args.dev.0 c.args.first c.loop-bytes.block i xs _ c.loop-bytes-test.true c.loop-bytes.invariant.place c.in_ok-write.ensures.state)
          ∙ sym (rest-goes s c.args.dev.0 c.args.first i (length xs - i) (length xs - (i + 1)) (listed xs) (let lt = c.loop-bytes-test.true in omega arith) (sym c.in_ok-write.ensures.done))
          ∙ c.loop-bytes.invariant.rest;
      place = let p = c.loop-bytes.invariant.place in omega arith;
      count = ap (λ t. t.count) c.in_ok-write.ensures.state ∙ count-after_write s c.args.dev.0 c.loop-bytes.block _ ∙ c.loop-bytes.invariant.count;
      size = ap (λ t. t.size) c.in_ok-write.ensures.state ∙ size-after_write s c.args.dev.0 c.loop-bytes.block _ ∙ c.loop-bytes.invariant.size;
    }

pub returns : goal.returns
returns g c =
    sym c.loop-bytes.invariant.rest
    ∙ rest-ends _ c.args.dev.0 c.args.first c.loop-bytes.bytes-index (length c.args.from.now - c.loop-bytes.bytes-index) (listed c.args.from.now) (let le = c.loop-bytes-test.false in omega arith)
