-- What contracts see of a session and of the table.
use Rattle.std.specs.Prelude.{Bool, List, Option, Some, None, Result, Ok, Err}
use Rattle.dr_ids.specs.declared.refusal.Refusal.{Refusal}
use Rattle.dr_ids.specs.declared.refusal.Fault.{Fault}
use Rattle.dr_ids.specs.declared.refusal.Fault.TheVariants.{NoMemory, Refused}
use Rattle.dr_model.specs.Sessions.{Session}

-- a session, and whether one more member takes no memory
pub record KeptSession : Type 0 where
  pub session : Session
  pub room : Bool

-- the sessions in order of definition, and whether one more member takes no memory, whichever session it joins
pub record SessionTable : Type 0 where
  pub sessions : List Session
  pub room : Bool

-- Why a call was refused; none where it succeeded or had no memory.
abbrev pub refusal_of : {T : Type 0} → Result T Fault → Option Refusal
refusal_of (Ok x) = None
refusal_of (Err NoMemory) = None
refusal_of (Err (Refused why)) = Some why
