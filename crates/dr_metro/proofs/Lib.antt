-- Read first: `WroteLemmas.antt`: parts of a host write in a row; `LandedLemmas.antt`: a host write lands by a move, alone or with its
-- secondary; `LandingLemmas.antt`, `RouteLemmas.antt`: its bytes; `ToldLemmas.antt`: the journal; `SyncLemmas.antt`: what
-- it comes to, by the tests on its volume's fields; `Issued.antt` of `dr_facts`: no entry issues a write; `CollideLemmas.antt` of `dr_gcopy`:
-- entries that come only as long as a track can be sent.
-- - **Several acts in a row over host, plant and journal** (`dr_metro/src/mirroring.rt`): what comes before the landing has `Ran`
--   (of `dr_gcopy`), the landing and all that ends with it has `Wrote` over what is left; `wrote-then` and `wrote-failed` put one
--   before the other, and give all that stays. What the parts need is a record for each stage (`IsDue`, `CanCross`, `CanSettle`,
--   `CanStore`, `CanLand`), with one lemma that carries it over entries that led on (`due-still`, `pair-still`, `land-still`).
-- - **Moves on the way of a write go by fields that are at hand**: `make_move_by`, `make_by` and `make_opened` of `dr_moves`, so that of a
--   record the gate alone is read. The public calls of one move alone are `make_move`.
-- - **A move that settles a pending write** is no `make_move`: what becomes of the host's writes stands in what `make` says of a stop
--   (`writes_after`), and one lemma makes the entry of it, whichever kind of move it is (`landing-wrote`).
pub mod ToldLemmas
pub mod LandingLemmas
pub mod LandedLemmas
pub mod RouteLemmas
pub mod SyncLemmas
pub mod WroteInLemmas
pub mod WroteLemmas
