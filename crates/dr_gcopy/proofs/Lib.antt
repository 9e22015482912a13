-- Read first: `PairChecks.antt`: checks; `RanLemmas.antt`, `SendLemmas.antt`: calls in a row, and
-- a track sent; `DrainLemmas.antt`: tracks that are left; `DifferenceLemmas.antt`, `FirstLemmas.antt`: the first difference.
-- - **A premise over whatever entries come to** (`room` of `drain`: for each k, what the sends of k tracks lead to has
--   room) lets a loop below the laws of every run ask for room that only the laws can count. The caller proves it by `carry-adds`
--   (`sends-tell`); it has to hold for any `Rest`, so the lemma takes one, and facts of the control state convert.
-- - **A loop over a set that shrinks** (`drain_to`): the invariant has the place i in the list of the begin, `drop i xs
--   ≡ in_order n left`, and `take i xs` was sent; `next-sent`, `all-sent`, `count-sent` in `DrainLemmas.antt` of
--   `dr_gcopy`.
-- - **The first number that passes a test** (`first_unlike`): a loop that returns there has the invariant that none before
--   passes, and `first-passes`, `none-passes` of `FirstLemmas.antt` make it `find` over a range.
-- Calls in a row that aren't all moves have one record as their clause, `Ran` of `dr_gcopy`: the entries, and what stays (`Stays`), for the
-- volumes that it spares. Two are `ran-then`, one that failed `ran-failed`, a move `ran-made` with `stays-by`. What all of them ask is one
-- record too (`CanPass`), with one lemma that carries it along volumes that are as they were (`can-still`). `Kept` serves where each part
-- says what is set aside; `copy_first` doesn't.
-- **Entries that each test the same condition** (`send_first`, in `CollideLemmas.antt`): the call proves the bare entries, and one lemma over
--   `Ends` turns them into the tested ones (`send-comes`). It goes entry by entry with the condition and what keeps it (`Sends`), a product in
--   `abbrev` form, so that a change of other parts of the state converts; `acted` takes any statement on parts of the state over a move that
--   was done. Where the condition fails at the start, all pass (`none-comes`).
pub mod PairLemmas
pub mod ReachLemmas
pub mod PairChecks
pub mod TwoMoves
pub mod FirstLemmas
pub mod DifferenceLemmas
pub mod SendMoves
pub mod SendLemmas
pub mod RanLemmas
pub mod DrainLemmas
pub mod CollideLemmas
pub mod PartLemmas
