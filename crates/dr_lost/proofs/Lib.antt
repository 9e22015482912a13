-- Read first: `RowLemmas.antt`: a row with another number at a track, and a table with another row; `NodeLemmas.antt`: the list of a node;
-- `HeldLemmas.antt`: what a change of a table makes of the lists.
pub mod RowLemmas
pub mod NodeLemmas
pub mod HeldLemmas
pub mod SetLemmas
pub mod BrokenLemmas
