-- The reader of pieces: `AmountLemmas.antt` says how much a text is with a piece more, and that its lines are those of the
-- library. A loop over it keeps `HasTaken text reader` and `Took .. text` of the text so far (clauses `counts` and `took`, joined by
-- `took_more` of `ReadingSteps.antt`), `reader.over ≡ None`, and the measure `limits.bytes - length text`.
pub mod Pieces
pub mod AmountLemmas
pub mod Rises
pub mod ReadingLemmas
pub mod ReadingSteps
pub mod LineLemmas
