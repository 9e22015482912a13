-- How the program ends.
use Rattle.std.specs.Prelude.{ℕ, Bool, true, false}
use Rattle.dr_sweep.specs.declared.ending.Ending.{Ending}
use Rattle.dr_sweep.specs.declared.ending.Ending.TheVariants.{Done, Finding, Usage, ReadFault, WriteFault, NoMemory, TooLong, BadPlan}
use Rattle.dr_sweep.specs.declared.fault.PointFault.{PointFault}
use Rattle.dr_sweep.specs.declared.fault.PointFault.TheVariants.{NoMemory as PointMemory, TooLong as PointLong}
use Rattle.dr_top.specs.declared.offline.NotRead.{NotRead}
use Rattle.dr_top.specs.declared.offline.NotRead.TheVariants.{ReadFault as OnSource, TooLong as PastLimit, NoMemory as OnMemory}

-- the number that the process ends with
abbrev pub code_of : Ending → ℕ
code_of Done = 0
code_of Finding = 1
code_of Usage = 2
code_of ReadFault = 3
code_of WriteFault = 4
code_of NoMemory = 5
code_of TooLong = 6
code_of BadPlan = 7

-- where the input wasn't read to its end
abbrev pub ending_of : NotRead → Ending
ending_of OnSource = ReadFault
ending_of PastLimit = TooLong
ending_of OnMemory = NoMemory

-- where a point has no row
abbrev pub fault_ending : PointFault → Ending
fault_ending PointMemory = NoMemory
fault_ending PointLong = TooLong

-- of a sweep that was printed, by whether a row is a finding
abbrev pub finding_ending : Bool → Ending
finding_ending true = Finding
finding_ending false = Done

-- the endings that a fault of the source, and of the sink, gives
abbrev pub is_read_fault : Ending → Bool
is_read_fault ReadFault = true
is_read_fault _ = false

-- the ending of a fault of the sink
abbrev pub is_write_fault : Ending → Bool
is_write_fault WriteFault = true
is_write_fault _ = false
