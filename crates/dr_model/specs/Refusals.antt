-- Refusals, in the words of the step table.
use Rattle.std.specs.Prelude.{ℕ}
use Rattle.dr_ids.specs.declared.refusal.Refusal.{Refusal}
use Rattle.dr_ids.specs.declared.refusal.Refusal.TheVariants.{Unknown, Duplicate, Limit, ServerOff, Stopped}
use Rattle.dr_ids.specs.declared.refusal.Kind.{Kind}
use Rattle.dr_ids.specs.declared.refusal.Which.{Which}

-- what a name of this kind names isn't there
abbrev pub unknown : Kind → Refusal
unknown kind = Unknown kind

-- it is there already, or two names that must differ are one
abbrev pub duplicate : Kind → Refusal
duplicate kind = Duplicate kind

-- a limit is reached, or a size doesn't fit
abbrev pub over : Which → Refusal
over which = Limit which

-- the server is off
abbrev pub server_off : ℕ → Refusal
server_off s = ServerOff (record { 0 = s })

-- the server stopped in the step
abbrev pub stopped : ℕ → Refusal
stopped s = Stopped (record { 0 = s })
