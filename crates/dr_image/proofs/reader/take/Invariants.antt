use Rattle.std.proofs.Common.{◌≡◌, ◌++◌, ℕ, List, length, false}
use Rattle.std.specs.Prelude.{All}
use Rattle.dr_model.specs.PlantImage.{is_line_feed}
use Rattle.dr_image.specs.Lines.{state_of}
use Rattle.dr_image.specs.Reader.{IsState, reads_on}
use Rattle.dr_image.proofs.reader.take.Given as goal

-- what is still to be read of the piece leads where all of it led
abbrev pub invariant-loop-end : goal.invariant-loop-end
invariant-loop-end l = record {
  state : IsState (state_of l.state);
  partial : All (λ b. is_line_feed b ≡ false) l.partial.items;
  reads : (later : List ℕ) → reads_on (state_of l.state) l.partial.items (l.rest ++ later) ≡ reads_on (state_of l.fn.state) l.fn.partial.items (l.fn.piece ++ later);
}

abbrev pub decreases-loop-end : goal.decreases-loop-end
decreases-loop-end l = length l.rest
