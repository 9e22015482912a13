-- Read first: `Arrivals.antt`: what the delivery of an order is, and that one below a fence is refused; then by law.
-- - **A flight only goes on** (`FlightGoesOn.antt`): acts leave it, each plan's first and last tables are of a few kinds, and each step's plans
--   are chained by `last-plan`: `tasks-go`. What was sent before a master was lost stays refused (`StaysOld.antt`), since its server's fence was
--   there, and no other message has its number: `before-run`.
-- - **A loss that is settled** (`SettledLosses.antt`): along acts, plans and steps a session's master is Lost, or all its servers have reported for
--   its epoch (`HeardBut` in `Heard.antt`), as long as it isn't Idle between steps: `settled-run`. While it is Lost the entries of no order begin an
--   attempt (`HeardPlans.antt`), and as it takes the last report the laws of messages say that the others have reported (`Settling.antt`). A plan that
--   changes the tables of sessions has its clause in `case-holds`; all others fall to its last one.
-- - **An order of an older number** (`Older.antt`): what volumes say of the last number keeps it from doing anything but what a Revert and a
--   Finish do, which raise a floor or an attempt (`Unchanged.antt`): `leaves-run`. That goes beside soundness, as in `Exchanges.antt` of
--   `dr_laws_recovery`, but which acts fit depends on the state.
pub mod Arrivals
pub mod FlightGoesOn
pub mod Heard
pub mod Settling
pub mod HeardPlans
pub mod SettledLosses
pub mod StaysOld
pub mod Unchanged
pub mod Older
