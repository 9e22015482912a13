-- Read first: `OrderedLemmas.antt`: an order on members, one after the other; `BeginLemmas.antt`: a session whose attempt has
-- begun, and the hold that begins it; `OrderLemmas.antt`: entries over members, one by one; `SealLemmas.antt`; `ReportLemmas.antt`:
-- what members show, one by one; `SettleLemmas.antt`: two changes of a session are one, and a master that goes on after the last
-- report; `ExchangeLemmas.antt`: a plan with what it leaves last.
-- - **A premise on every rest of the world can't be met by what only holds of one.** Where a premise stands on `Sound`,
--   which is known of `here` alone, ask it for one rest, as a pair `(r : Rest) × ..`, and let the clause speak of every
--   one (`may` of `exchange`).
-- - **A loop whose invariant is its function's own clause** (`Ordered` of `order_each`): the record speaks of the members so far, and
--   has lemmas for none, for one more, and for one that ends all. What the members cost is counted by the list.
-- - **An act in the middle of a plan that changes a table** (`OpenAttempt`, the first hold): the loop over members
--   has the table before and after it, and what the plan's end needs of it is a law of the entries (`Awaits.antt`): all entries
--   but this act leave the sessions (`AllStill`).
-- - **Orders stay a loop over members, and no `Entries`**: an order on a member is a call of `dr_coord` or `dr_revert`, which looks at
--   the head of its volume once for two or three entries; entry by entry each would look at it anew.
-- - **A law of the machine as a clause of one call** (`holds_cut` of `seal`): its premise is a record on the world
--   before, in the law's own words (`CutsHold`), that `dr_laws_recovery` shows of every run and that the call leaves again. One
--   lemma over `Ends` of the call's entries (`seal-ends` in `dr_laws_cuts`) gives it, and each exit cites that with its own
--   `carried`. So it stands on the laws of cuts and not on the laws of every run.
-- - **A fact that code needs and no law says** is a law to add (`MasterStands` in `Groups.antt`), not a test in the
--   code. A field more in `SessionFits` cost its proof in `dr_laws_sessions` for each kind of change, and one more argument in
--   one case of the plans.
pub mod BeginLemmas
pub mod SealLemmas
pub mod OrderLemmas
pub mod OrderedLemmas
pub mod ExchangeLemmas
pub mod SettleLemmas
pub mod ReportLemmas
pub mod RestoreLemmas
