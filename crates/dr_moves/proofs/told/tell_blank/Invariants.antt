use Rattle.std.proofs.Common.{◌≡◌, ◌+◌, ◌++◌, length}
use Rattle.dr_model.specs.Moves.{told_blank}
use Rattle.dr_moves.proofs.TellLemmas.{blanked_from}
use Rattle.dr_moves.proofs.told.tell_blank.Given as goal

abbrev pub invariant-loop-track : goal.invariant-loop-track
invariant-loop-track l = record {
  -- with those that are left the journal tells all
  events : l.journal.events ++ blanked_from l.volume l.tracks l.own l.track ≡ l.fn.journal.events ++ told_blank l.volume l.tracks l.own;
  spare : l.fn.journal.spare + length (blanked_from l.volume l.tracks l.own l.track) ≡ l.journal.spare + length (told_blank l.volume l.tracks l.own);
}
