use Rattle.std.proofs.Common.{◌≡◌, ◌+◌, ◌-◌, false, get_or}
use Rattle.dr_bits.specs.Tracks.{number_of}
use Rattle.dr_bits.proofs.byte_at.Given as goal

abbrev pub invariant-loop-done : goal.invariant-loop-done
invariant-loop-done l = l.byte ≡ number_of (λ t. get_or l.flags t false) (l.at + (8 - l.done)) l.done
