-- What the flash hold of a source comes to.
use Rattle.std.specs.Prelude.{if◌then◌else◌}
use Rattle.dr_ids.specs.declared.names.VolumeId.{VolumeId}
use Rattle.dr_model.specs.Layout.{Fields}
use Rattle.dr_moves.specs.declared.carrying.Next.{Next}
use Rattle.dr_moves.specs.declared.carrying.Next.TheVariants.{Pass, Do}
use Rattle.dr_moves.specs.declared.moves.Move.TheVariants as move

-- nothing, where it has one
abbrev pub held_by : VolumeId → Fields → Next
held_by s f = if f.flash_hold then Pass else Do (move.FlashHold s)
