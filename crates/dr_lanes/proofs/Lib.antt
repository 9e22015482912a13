-- Read first: `Members.antt`: what is a member of the bits of words, how many there are; `Merges.antt`: words that are
-- changed four at a time and one at a time; `Counts.antt`, `Lowest.antt`, `SameBlocks.antt`: one for each of the other
-- kernels.
-- - A loop over vectors and one over the rest have one invariant: a record such as `Merged`
--   (`dr_lanes/proofs/Merges.antt`), which says which words are done and which are as they were. It has a lemma for four
--   words more, one word more, the start and the end.
-- - `u64x4::from_slice(&a[at..])` is `take 4 (drop at a)`. `four_is` (`Vectors.antt`) turns it into its four words,
--   after which reductions compute: `rw four_is (..)`, with the fact that the load lies in the slice bound by `let`.
-- - A parameter that is a slice has the ranges of its numbers (`c.type_inv.a`). One that is a reference to an array has
--   none, and nor has an array in a field after a call that wrote to it. So `read` in `dr_bits` takes a slice, and
--   `or_into` says of each word what it is.
pub mod Vectors
pub mod Members
pub mod Merges
pub mod Counts
pub mod Lowest
pub mod SameBlocks
