use Rattle.std.proofs.Common.{◌≡◌, length, take}
use Rattle.dr_model.specs.Decisions.{numbers_in, revertibles, others, shown_by}
use Rattle.dr_decide.specs.Seen.{numbers_seen}
use Rattle.dr_decide.proofs.decision.decide.Given as goal

abbrev pub invariant-loop-n : goal.invariant-loop-n
invariant-loop-n l =
    (numbers_seen l.revertibles ≡ numbers_in (revertibles (take (length l.yielded) (shown_by l.seqs l.revertible)))) × (numbers_seen l.others ≡ numbers_in (others (take (length l.yielded) (shown_by l.seqs l.revertible))))
