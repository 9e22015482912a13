-- Read first: `WereFlashed.antt`: what goes along every step; `Journal.antt`: what the journal has stays; `Turns.antt`, `Moves.antt`: each kind of move;
-- `Tables.antt`: other tables of sessions and messages; `Along.antt`: every run; `Commits.antt`: what is read off.
pub mod Journal
pub mod WereFlashed
pub mod Turns
pub mod Moves
pub mod Stills
pub mod Tables
pub mod Begins
pub mod Along
pub mod Sends
pub mod Commits
