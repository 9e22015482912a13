-- Worlds that differ in the fuses of servers alone.
use Rattle.std.specs.Prelude.{ℕ, Option, Some, None, Result, Ok}
use Rattle.dr_logic.specs.Tables.{at}
use Rattle.dr_model.specs.declared.step.Name.{Name}
use Rattle.dr_model.specs.declared.step.Step.{Step}
use Rattle.dr_model.specs.declared.step.Step.TheVariants.{Start, StopAfter}
use Rattle.dr_model.specs.Control.{Fuse, World}
use Rattle.dr_model.specs.Plans.{armed, fuse_at_start}

-- a world with other fuses
abbrev pub with_fuses : World → (ℕ → Option Fuse) → World
with_fuses w g = record w { control = record w.control { fuse = g } }

-- a world in which server s has that fuse, or none
abbrev pub with_fuse : World → ℕ → Option Fuse → World
with_fuse w s fuse = with_fuses w (at w.control.fuse s fuse)

-- the server whose fuse a line changes as its step begins: it starts that server, or arms its fuse
abbrev pub fuse_changed : Result Step ℕ → Option Name
fuse_changed (Ok (Start name)) = Some name
fuse_changed (Ok (StopAfter name writes torn)) = Some name
fuse_changed asked = None

-- what becomes of that fuse
abbrev pub changed_fuse : Result Step ℕ → Option Fuse → Option Fuse
changed_fuse (Ok (Start name)) f = fuse_at_start f
changed_fuse (Ok (StopAfter name writes torn)) f = Some (armed writes torn)
changed_fuse asked f = f
