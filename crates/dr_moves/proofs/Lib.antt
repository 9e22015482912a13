-- Read first: `MoveRows.antt`, `MoveFits.antt`, `MoveTracks.antt`, `AsideLemmas.antt`, `StopRows.antt`, `EnteredLemmas.antt`: what
-- holds of each kind of move, one clause a kind, or one for all that are alike; `TurnMade.antt`: the machine's turn, from what was made of the volume; `GateLemmas.antt`: what it
-- leaves is at rest;
-- `ChangeLemmas.antt`: what a move asks of its volume, and the facts of `Made` and of what stays, from what the device writes left;
-- `KeptLemmas.antt`: what stays, also along two calls in a row; `EntryLemmas.antt`, and `Ends.antt` of `dr_facts`: entry by entry;
-- `HeardLemmas.antt`: what lies beside shows, behind news; `ActedLemmas.antt`: what an entry came to was done;
-- `FollowLemmas.antt`: what follows where entries ended.
-- - **A move of a kind**: `make_move` with the move as a value. Where the kind stands in the call, its rows of the catalogue
--   compute, and what is left to prove is its line of `Asks`, where it has one, and how many events it tells (`room-few`).
-- - **A plan as entries that are left**: what comes next is a function of its own to `Next`, with `comes` and `may` as its
--   clauses; `carry` asks of a step that `left` goes on by one, that `stands` holds after what the entry did, and that `makes`
--   extends backwards over it, done or cut short (`went-others`, `cut-others`). Behind the call `made-ok` reads `makes` off.
-- - **What lies beside**: `after` says it exactly, so that a caller knows what it holds; `rest` and `table` are what the machine
--   knows of it. `heard` is about an `Option` of news, and each call that tells some has it as a clause.
-- - **Checks are a function to `Option<Refusal>`** with the clause `Checked w entries result`; each exit is a row of
--   `ends-passed` and one `refuses`, and calls compose by `++` of the lists, which computes.
-- - **Read and move in two functions.** The one that reads has clauses that say what a read that passed leaves as it
--   was; the search then carries `requires` and frame clauses across the read.
pub mod SetLaws
pub mod TellLemmas
pub mod PlaceLaws
pub mod ReadLemmas
pub mod FitLemmas
pub mod MadeLemmas
pub mod MoveRows
pub mod MoveFits
pub mod MoveTracks
pub mod AsideLemmas
pub mod TurnMade
pub mod KeptLemmas
pub mod SideLemmas
pub mod ChangeLemmas
pub mod TurnLemmas
pub mod GateLemmas
pub mod LeadLemmas
pub mod EntryLemmas
pub mod EnteredLemmas
pub mod StopRows
pub mod FollowLemmas
pub mod StretchLemmas
pub mod ActedLemmas
pub mod WentLemmas
pub mod PlacingLemmas
pub mod DestageLemmas
pub mod HeardLemmas
