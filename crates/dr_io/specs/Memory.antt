-- What sources and sinks in memory hold, and what a call does to them.
use Rattle.std.specs.Prelude.{ℕ, ◌-◌, min, Bool, ◌||◌, nat_eq, if◌then◌else◌, List, ◌++◌, length, take, drop}
use Rattle.std.specs.List.{list_any}
use Rattle.dr_io.specs.Faults.{takes_none}
use Rattle.dr_logic.specs.Counts.{risen}

-- The number stands in the list.
abbrev pub listed : List ℕ → ℕ → Bool
listed numbers number = list_any (λ x. nat_eq x number) numbers

-- A source in memory.
pub record Feed : Type 0 where
  pub left : List ℕ  -- the bytes that are left
  pub piece : ℕ  -- the most that one call gives
  pub fails : List ℕ  -- the numbers of the calls that fail, from 1
  pub calls : ℕ  -- how many calls there were
  pub faults : ℕ  -- how many of them failed

-- The next call fails.
abbrev pub take_fails : Feed → Bool
take_fails f = listed f.fails (risen f.calls)

-- How many bytes the next call gives to a reader with this much room, unless it fails.
abbrev pub given : Feed → ℕ → ℕ
given f room = min (min f.piece room) (length f.left)

-- The source after a call: one call more, and either a fault more or the given bytes less.
abbrev pub after_take : Feed → ℕ → Feed
after_take f room =
    if take_fails f
    then record f { calls = risen f.calls; faults = risen f.faults }
    else record f { calls = risen f.calls; left = drop (given f room) f.left }

-- A sink in memory.
pub record Store : Type 0 where
  pub written : List ℕ  -- the bytes that it took
  pub room : ℕ  -- how many it can take in all
  pub fails : List ℕ  -- the numbers of the calls that fail, from 1
  pub stuck : List ℕ  -- the numbers of the calls that take nothing
  pub calls : ℕ  -- how many calls there were
  pub faults : ℕ  -- how many of them failed, or took nothing of a piece that isn't empty

-- The next call fails.
abbrev pub put_fails : Store → Bool
put_fails s = listed s.fails (risen s.calls)

-- How many bytes of a piece of this length the next call takes, unless it fails.
abbrev pub accepted : Store → ℕ → ℕ
accepted s wanted =
    if listed s.stuck (risen s.calls) then 0 else min wanted (s.room - length s.written)

-- The next call is a fault: it fails, or takes nothing of a piece that isn't empty.
abbrev pub put_is_fault : Store → ℕ → Bool
put_is_fault s wanted = put_fails s || takes_none wanted (accepted s wanted)

-- The sink after a call: one call more, the bytes that were taken, and a fault more where it is one.
abbrev pub after_put : Store → List ℕ → Store
after_put s piece = record s {
  calls = risen s.calls;
  written = if put_fails s then s.written else s.written ++ take (accepted s (length piece)) piece;
  faults = if put_is_fault s (length piece) then risen s.faults else s.faults;
}
