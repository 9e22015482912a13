-- Read first: `Standings.antt`: one entry of a table of who stands; `Pendings.antt`: what holds of all pending writes;
-- `Closing.antt` (in `specs`): the laws; `Holds.antt`: the one hard case, over any two tables of sessions, and
-- `Held.antt`: the first hold and a later one; `Keeps.antt`: the other kinds; `Counts.antt`: who stands in a group;
-- `Places.antt`: tables are those of places; `Regroups.antt`, `Regrouped.antt`, `Opens.antt`: tables of sessions.
-- - Who has which cut is said beside it (`Closing` of `dr_laws_closed`), of sessions and members and not of `Seen`: no law of
--   cuts needs a count over members, since each member that records is held as long as one is left to be held (`Follows`).
-- - Of messages only flashes in flight matter: with one of the last number, the cuts of sealed members are whole in late phases,
--   too (`AwaitsFlash`). `Flown.antt` says what a change of the messages keeps.
pub mod Standings
pub mod Pendings
pub mod Places
pub mod Begun
pub mod ClosedCuts
pub mod Told
pub mod Fields
pub mod Lists
pub mod Landed
pub mod Counts
pub mod Flown
pub mod Keeps
pub mod Holds
pub mod Held
pub mod Regroups
pub mod Regrouped
pub mod Opens
pub mod Quiet
pub mod Mays
pub mod Example
