-- Read first: `BehindLemmas.antt`: what follows a stop in two calls; `FedLemmas.antt`: stretches of a track that is sent, one after another;
-- `PlacedLemmas.antt`: what a host write comes to, by the tests on its volume and on its secondary.
-- - **Stretches in a row** have `RanIn` as their clause, as entries in a row have `Ran` of `dr_gcopy`: `ran-in-then` puts entries that led on
--   before stretches, and `ran-in-failed` is where they ended all, with what follows. A loop over tracks has `LeadsIn` as its invariant.
pub mod BehindLemmas
pub mod FedLemmas
pub mod PlacedLemmas
