-- Read first: `TurnedLemmas.antt`, `TurningLemmas.antt`: what moves that turn a pair round ask, and leave of its volumes; `FallenLemmas.antt`: where both contain the
-- same then; `ResyncLemmas.antt`: one round of a drain; `ComparedLemmas.antt`: the first track that differs.
pub mod TurnedLemmas
pub mod TurningLemmas
pub mod FallenLemmas
pub mod LookLemmas
pub mod ResyncLemmas
pub mod ComparedLemmas
