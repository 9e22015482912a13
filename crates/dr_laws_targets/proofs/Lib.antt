-- Read first: `Holds.antt`: what holds of one member's target, over the parts of its row; `Turns.antt`, `Commits.antt`:
-- each kind of move; `Keeps.antt`: put together, and the hold; `Places.antt`: tables are those of places; `Held.antt`:
-- what lists have.
pub mod Places
pub mod Held
pub mod Told
pub mod Holds
pub mod Turns
pub mod Commits
pub mod Keeps
pub mod Regrouped
pub mod Quiet
pub mod Mays
pub mod Example
