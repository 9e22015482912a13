-- What becomes of a member's target by what was decided.
use Rattle.std.specs.Prelude.{if◌then◌else◌}
use Rattle.dr_ids.specs.declared.names.Member.{Member}
use Rattle.dr_ids.specs.declared.names.SessionId.{SessionId}
use Rattle.dr_ids.specs.declared.refusal.Decision.{Decision}
use Rattle.dr_ids.specs.declared.refusal.Decision.TheVariants.{RevertAll, CommitRest, RevertSome}
use Rattle.dr_model.specs.Layout.{Fields}
use Rattle.dr_model.specs.SessionEntries.{is_flashed}
use Rattle.dr_moves.specs.declared.carrying.Next.{Next}
use Rattle.dr_moves.specs.declared.carrying.Next.TheVariants.{Pass, Do}
use Rattle.dr_moves.specs.declared.moves.Move.TheVariants.{Commit, Revert}

-- the flash of the attempt that the decision speaks of is committed or reverted
abbrev pub settled_by : SessionId → Decision → Member → Fields → Next
settled_by s (CommitRest n) m f = if is_flashed n f then Do (Commit m.c m.a s n) else Pass
settled_by s (RevertAll n) m f = if is_flashed n f then Do (Revert m.c m.a s n) else Pass
settled_by s (RevertSome o n) m f = if is_flashed n f then Do (Revert m.c m.a s n) else Pass
settled_by s d m f = Pass
