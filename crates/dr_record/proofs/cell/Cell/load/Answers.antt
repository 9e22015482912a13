use Rattle.std.proofs.Common.{ℕ, ◌≡◌, ◌∙◌, sym, ap, true, false}
use Rattle.dr_plant.specs.State.{PlantState, after_read, can_read}
use Rattle.dr_plant.proofs.StateLemmas.{read_kept}
use Rattle.dr_record.specs.Slots.{choice, stored}
use Rattle.dr_record.proofs.cell.Cell.load.Goals as goal

-- once a read is done, the next can be done too
clash : (s t : PlantState) (dev : ℕ) → t ≡ after_read s dev → true ≡ can_read s dev → can_read t dev ≡ false → ⊥
clash s t dev e can stopped = let f : true ≡ false = can ∙ ap (λ u. can_read u dev) (sym (read_kept s t dev e can)) ∙ stopped in cc

pub read_slot-requires-clause-device : goal.read_slot-requires-clause-device
read_slot-requires-clause-device g c = rw (read_kept _ _ c.args.dev.0 c.in_ok-read.ensures.state c.in_ok-read.ensures.done) c.requires.device

pub returns-in_err-value-clause-state : goal.returns-in_err-value-clause-state
returns-in_err-value-clause-state g c = absurd (clash _ _ c.args.dev.0 c.in_ok-read.ensures.state c.in_ok-read.ensures.done c.in_err-value.ensures.stopped)

pub returns-in_err-value-clause-done : goal.returns-in_err-value-clause-done
returns-in_err-value-clause-done g c = absurd (clash _ _ c.args.dev.0 c.in_ok-read.ensures.state c.in_ok-read.ensures.done c.in_err-value.ensures.stopped)

pub returns-clause-same : goal.returns-clause-same
returns-clause-same g c = c.in_ok-value.ensures.same ∙ read_kept _ _ c.args.dev.0 c.in_ok-read.ensures.state c.in_ok-read.ensures.done

pub returns-clause-value : goal.returns-clause-value
returns-clause-value g c = record {
  gate = sym (c.choice-slot.ensures ∙ ap choice c.in_ok-read.ensures.bytes);
  value =
      sym (c.in_ok-value.ensures.value
      ∙ ap (λ s. stored g.F.Form.taken g.F.Form.BLOCKS g.F.Form.fresh s c.args.dev.0 c.choice-slot.result) (read_kept _ _ c.args.dev.0 c.in_ok-read.ensures.state c.in_ok-read.ensures.done));
}
