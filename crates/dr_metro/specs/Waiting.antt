-- A pending write of the host.
use Rattle.std.specs.Prelude.{◌≡◌, ℕ, List, IsSome}
use Rattle.std.specs.List.{find}
use Rattle.dr_host.specs.Writes.{Writes, has_number}
use Rattle.dr_model.specs.declared.event.Event.{Event}
use Rattle.dr_model.specs.Histories.{histories}
use Rattle.dr_metro.specs.declared.machine.Target.{Target}

-- the write of that number is pending, and these are its place and its bytes
pub record IsIssuedAs (h : Writes) (events : List Event) (w : ℕ) (target : Target) (bytes : List ℕ) : Type 0 where
  pub waits : IsSome (find (has_number w) h.pending)
  pub issue : (histories events).write w ≡ record { volume = target.volume.0; track = target.track; offset = target.offset; bytes = bytes }
