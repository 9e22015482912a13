-- Read first: `TakeLemmas.antt`: a target that takes or notes a track; `CheckLemmas.antt`, and `EntryLemmas.antt` of `dr_moves`: entry by
-- entry; `KeepLemmas.antt`: what one volume does before a track changes; `KeptAllLemmas.antt`: the loop over all of them (`KeptBelow`);
-- `ShowLemmas.antt`, `HeldLemmas.antt`: what volumes show across a move, and what targets hold after copy first.
pub mod MoveLemmas
pub mod TakeLemmas
pub mod KeepLemmas
pub mod CopyLemmas
pub mod ViewLemmas
pub mod StandingLemmas
pub mod CheckLemmas
pub mod FetchLemmas
pub mod StructureLaws
pub mod ShowLemmas
pub mod HeldLemmas
pub mod KeptAllLemmas
pub mod HeadLemmas
