-- Read first: `RunLemmas.antt`: the pieces of a script are carried out one after another; `TellLemmas.antt`: names, answers and acknowledgements,
-- event by event; `RowLemmas.antt`: rows that are added one after another; `WithinLemmas.antt`: the device writes of a server in a step, each with its counts;
-- `EarlyLemmas.antt`, `LaterLemmas.antt`: fuses that stop nothing, and fuses that come later; `KnownLemmas.antt`: what is lost is known;
-- `CallLemmas.antt`, `CompareLemmas.antt`: how a call ends.
pub mod TellLemmas
pub mod MemberLemmas
pub mod ReadLemmas
pub mod RunLemmas
pub mod PointLemmas
pub mod ComesLemmas
pub mod PartLemmas
pub mod CountLemmas
pub mod FirstLemmas
pub mod ArmLemmas
pub mod AskedLemmas
pub mod LaterLemmas
pub mod EarlyLemmas
pub mod KnownLemmas
pub mod RowLemmas
pub mod WithinLemmas
pub mod NamedLemmas
pub mod LossLemmas
pub mod AskedNames
pub mod TurnLemmas
pub mod WayLemmas
pub mod ApartLemmas
pub mod CallLemmas
pub mod CompareLemmas
