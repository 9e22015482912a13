-- Read first: `ActLemmas.antt`: what an entry of an attempt comes to, checks before it, and what a hold leaves, from what
-- `act_beside` of `dr_moves` says of it (`acted-leads`, `acted-heard`); `HoldLemmas.antt`: an entry with a test. The other moves of an
-- attempt are `make_move` of `dr_moves`. `RaiseLemmas.antt`: the entries that raise an attempt and a floor, which `dr_admin` carries out.
-- - **An entry with a test before its move** (`restart_on`): the test is a function of its own with the definition as its
--   clause; where it fails the entry is passed (`restart-skips`), where it holds the entry is `now` of the move
--   (`restart-comes`), and `ends-alike` of `dr_facts` carries the move's own clauses over.
-- - **A move as a server starts** is `make_ready`, which asks of its own volume alone (`Ready` of `dr_moves`); `entered-by` makes it
--   the entry.
pub mod HoldLemmas
pub mod ActLemmas
pub mod RaiseLemmas
pub mod QuietLemmas
