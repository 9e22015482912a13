-- Read first: `Turns.antt`, `TurnsKeep.antt`: the ways in which one member changes as its session sees it, and what each
-- keeps; `Dues.antt`: what is given where an order is due; `Places.antt`: a volume's record and the one member that it
-- changes; `Moves.antt`: each kind of move; `Stages.antt`: what a master becomes; `Tables.antt`, `Members.antt`: the table of
-- sessions; `Orders.antt`, `Recover.antt`, `Barred.antt`: what plans need.
-- **Laws of attempts** (`Attempts` in `Attempts.antt`; `dr_laws_attempts`), field `attempts` of `SoundBut`. A plan gives each
-- move's part of `InAttempt` by the lemma of its order (`FitsOrders.antt`) or of its line (`Counting.antt`).
-- - What is read of a volume is one record, `Role`. A move is then a table changed at one number, as `AttemptsIn ss (at
--   T v y)`; a kind that changes nothing of it is `same`, by conversion. Where a new kind of move changes the role, it
--   gets a row in `InAttempt` and a line in `keeps` of `Moves.antt`, most by `tried`, `silenced`, `resealed`, `paired`,
--   `gone` or `targets`.
-- - No kind of move names a phase: an order's asks that it is `Due`, owed or on its way. `MayTurn` says what of that the laws need:
--   the phases in which it may come (`FlashComes` and its like), and what was done before it. `Dues.antt` gives both: where it is
--   owed by the phase, and where it is on its way by what the messages say (`FlightFits`). Where an order may come in more
--   phases, that is a row of `..Comes` and a line of `Dues.antt`; `TurnsKeep.antt` excludes it elsewhere by `Follows`: what
--   comes late in an attempt comes after all that comes before.
-- - A session's laws are on the list of its members as they are seen (`Seen`). `Update` says that one of the list
--   changed, up to order and repetition; `each` and `some` carry what holds of all, or of one, over it. So no proof has
--   an index.
-- - `Steps` says of every session that its list stays or one member turns as it may. The laws follow from it
--   (`steps-keep`), and so does whatever else holds of such lists: `over-steps` is one.
-- - What a phase says of members whose servers have answered is `Answered owed P`. A phase begins with all servers owed,
--   which is `Serves`. What a server has done is said by its work and a number (`IsDone`), whatever the phase; that of the phase's
--   work lets the reply be taken (`ServerDone`). A reply that is taken later asks what is left of it then: `IsDoneFor`, or of a report that
--   the lost master's law holds with it (`with-replied`, `with-told`).
-- - The ways in which a member turns speak of any owed servers and any reports (`TurnsKeep.antt`), not of the master's alone: so what
--   would hold if more replies had been taken stays, too (`kept-in`, with `turn-by` of `Dues.antt`).
pub mod Facts
pub mod Turns
pub mod TurnsKeep
pub mod Dues
pub mod Places
pub mod Moves
pub mod Volumes
pub mod Reports
pub mod Stages
pub mod Tables
pub mod Members
pub mod Lines
pub mod Barred
pub mod Orders
pub mod Recover
pub mod Checks
pub mod Example
