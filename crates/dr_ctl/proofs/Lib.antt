-- Read first: `Places.antt`: what a search by number finds, and what is left where a message is taken out; `Sound.antt`: what stays true
-- of every flight; `Rows.antt`: rows of zeros; `Stays.antt`: what each change keeps.
pub mod Places
pub mod Sound
pub mod Rows
pub mod Stays
