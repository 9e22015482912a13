-- - **Events by their kinds** (`Emits.antt`): `emits` is which kinds of events a move tells, so that what a law asks of each event is
--   `each-told`, and `all-told` where no kind of move tells what it hears of.
-- - **Entries by what they come to** (`Entries.antt`): `AllFine K Ok Why ds` says which acts come in `ds` (`Ok`), in worlds of which `K` is
--   known, and for which reasons `ds` ends a plan (`Why`). It is built by `fine-..`, and used by `carry-kept` (what acts keep, entries keep) and
--   `carry-ends` (why they end). `FineFrom` (`from-..`) asks more in the first world, before any act was done: checks come there.
--   `SharedEntries.antt` has lists of entries that several plans have; `Reasons.antt` why they refuse.
-- - **A predicate on a list of entries** (`AllFine`, `FineFrom`) is `unfoldable`, with a lemma for each way to go on: as an `abbrev` it unfolds
--   under a blank, and no `_` is found.
pub mod Costs
pub mod Ends
pub mod ImageLengths
pub mod Issued
pub mod Lists
pub mod Options
pub mod Parts
pub mod Refusals
pub mod Relations
pub mod Sessions
pub mod Tables
pub mod Texts
pub mod Tracks
pub mod Turns
pub mod Sets
pub mod Lawful
pub mod Joined
pub mod Heard
pub mod Emits
pub mod Entries
pub mod SharedEntries
pub mod WriteStops
pub mod Stretches
pub mod Reasons
