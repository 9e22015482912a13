-- Read first: `Alike.antt`: journals that tell the same but for what host writes lay, where write u alone lays a byte; `Worlds.antt`, `Forms.antt`, `Steps.antt`: acts,
-- `@run` and steps go by the control state, so each run has one with such a journal, if pairs that are made without a copy hold the same writes; `Targets.antt`: in
-- that run the laws on targets speak of bytes, and so they say here whether a target holds u (`Marks.antt`). `Ends.antt`: how a recovery ends that is
-- answered with a group; `Tidy.antt`, `Numbers.antt`: which numbers and tracks lists have; `Known.antt`: what is lost; `Issued.antt`, `Broken.antt`: what is kept;
-- `Early.antt`, `GivenBack.antt`: where pairs and restores change nothing of that; `Sealed.antt`, `Example.antt`, `Uncopied.antt`: the examples.
pub mod Alike
pub mod Worlds
pub mod Forms
pub mod Steps
pub mod Marks
pub mod Targets
pub mod Told
pub mod Ends
pub mod Tidy
pub mod Numbers
pub mod Known
pub mod Issued
pub mod Broken
pub mod Early
pub mod GivenBack
pub mod Laws
pub mod Sealed
pub mod Example
pub mod Uncopied
