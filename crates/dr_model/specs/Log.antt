-- What contracts see of a journal.
use Rattle.std.specs.Prelude.{ℕ, zero, suc, ◌*◌, List, min, nat_le, if◌then◌else◌}
use Rattle.dr_model.specs.declared.event.Event.{Event}
use Rattle.dr_model.specs.Limits.{most_events}

-- the events of a run, in order, and how many more fit without asking for memory
pub record Log : Type 0 where
  pub events : List Event
  pub spare : ℕ

-- the first size of a journal's memory that holds so many events, from this one on: each is twice the last, up to the most events of a run
unfoldable pub size_from : ℕ → ℕ → ℕ → ℕ
size_from zero size events = most_events
size_from (suc more) size events = if nat_le events size then size else size_from more (min (size * 2) most_events) events

-- for how many events a journal of so many has memory: none, or 8,192 at first
unfoldable pub memory_for : ℕ → ℕ
memory_for zero = 0
memory_for (suc n) = size_from 7 8192 (suc n)
