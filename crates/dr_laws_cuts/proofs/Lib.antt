-- Read first: `Kept.antt`: what each kind of move keeps; `Places.antt`: where in a journal a volume was cut;
-- `Worlds.antt`: worlds whose cuts stay sound; `Sent.antt`: what stays of cuts where no track changes and no volume is
-- cut; `SealEnds.antt`: however a seal ends.
pub mod Sets
pub mod Still
pub mod KeepsCut
pub mod KeepsSent
pub mod Kept
pub mod Journal
pub mod Told
pub mod Places
pub mod Seals
pub mod Writes
pub mod Begins
pub mod Worlds
pub mod Mays
pub mod Sent
pub mod SealEnds
