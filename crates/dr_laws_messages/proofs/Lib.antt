-- Read first: `Turned.antt`: what the messages say stays where one member changes; `Taking.antt`: replies that are taken one after
-- another, and one more in flight; `Masters.antt`, `Losses.antt`, `Quiet.antt`: a phase that begins, one that is given up or lost, and
-- a session at rest; `Tables.antt`: one session of the table and the flight that concerns it; then by what happens.
-- **Laws of messages** (`Flights` in `Flights.antt`; `dr_laws_messages`). `FlightFits` says of one session what its messages in flight,
-- its phase and its members say together; all files but the last seven know lists of members as they are seen, and no table.
-- - What a reply in flight means is one clause, `replies`: whichever awaited replies the master takes, one after another, the
--   attempt is as its phase says. So taking one is a case of it (`fits-take`), a move keeps it as it keeps the phase, for other servers
--   that are owed and other reports (`kept-in` and `turn-by` of `dr_laws_attempts`), and a reply that is made adds one server that
--   has done its work to whatever else is taken (`fits-replied`).
-- - A phase begins with nobody's reply in flight, since none of that work was asked for before in this epoch (`so_far`): `Begun` is
--   what it owes, `none-awaited` gives the rest.
-- - `Eases` is for fewer orders and higher fences: lost messages, other sessions' messages, a fence that rises, a reply.
pub mod Still
pub mod Eased
pub mod Taking
pub mod Turned
pub mod Masters
pub mod Losses
pub mod Quiet
pub mod Tables
pub mod Sends
pub mod Turns
pub mod Replies
pub mod Messages
pub mod Members
pub mod Moves
pub mod Taken
