-- **A law on the last steps of a run, over the devices** (`Compared.antt`, `Returned.antt`), or on their answers (`DrainAnswers.antt`). It says of
-- tracks and records what a step answered:
-- - What a plan of entries that wasn't refused left is `Ends` (`plan-goes`, `step-goes`); with it a law on one plan (`Leaves`) is one on the
--   world behind the step. Say what goes on to the next step of records alone (`Faces`): then the journal and the sessions need no word.
-- - What lasts through a drain goes along its sends (`sends-face`): acts that touch no part of a pair keep it by `carry-keeps`; a suspension leaves
--   why a track can't be sent, so the plan ends behind it (`can-send`).
-- - What refuses a plan is said of its outcome (`Goes`): entries that refuse nothing go on or stop (`all-go`), and a server stops only where
--   a fuse was armed (`turn-fuse`).
-- - How a drain is answered is a table of rows (`drain_ends`): what holds of each row holds of it (`each-row`). A second drain is worked out in the
--   world that the first one left (`second-says`), and a row that sends nothing is proved for that world too (`Quiet`).
-- - The devices come last: records by `volumes` of `Fits`, tracks by `pairs` of it, or by `HoldsTracks`.
pub mod Sites
pub mod Compared
pub mod Faces
pub mod Returned
pub mod Counts
pub mod Drains
pub mod DrainAnswers
pub mod DrainsExample
pub mod Secondaries
