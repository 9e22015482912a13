-- Read first: `TargetLemmas.antt`: what each move of a target asks, and what becomes of it by any or none; `EntryLemmas.antt`:
-- checks one by one, and an entry behind them that comes to a move or passes; `ViewLaws.antt`: what the target shows then.
-- - **One function for all that an entry may come to** (`turn_target` in `turning.rt`): it takes a `Next` that is nothing or one
--   move of the volume (`Turns`), and its clauses are about every entry that comes to that. Each call then is its checks, a
--   small function to that `Next`, and this call; the proofs of three such calls are one template.
pub mod TargetLemmas
pub mod EntryLemmas
pub mod ViewLaws
