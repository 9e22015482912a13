-- Read first: `LineLaws.came`: the one inversion of a line that can stand, by kinds, which `StepLaws` (what stays true),
-- `ImageLaws` (the text so far) alone take apart; `RoundLaws.run-image`: the run over an image's own lines;
-- `FirstBadLaws`: the first bad line, from these two.
-- - **A machine over lines with a bad state**: `step` never fails, it goes to `Bad` and keeps the line's number. Then a
--   reader in pieces is `reads_on state partial rest`, and its three clauses are equations for all rests.
-- - **A `Value` may hold no function.** "What the text will read as" is a function of the value, in `specs/`, and the
--   clause quantifies over the rest.
-- - **One inversion as a `data` type** (`Came` in `LineLaws.antt`): one constructor for each kind of line, with its
--   text, its tests and the next state. Each law is then four clauses.
-- - **Both directions from one run**: `Runs i t Good` says "bad, and then the image isn't proper, or Good". It gives
--   "reads as itself" (bad is absurd since the text reads) and "a proper image reads" (bad is absurd since the image is
--   proper).
-- - **Numbers that count lines fit** because blocks ascend: no more blocks than numbers for them (`ascends` in
--   `StepLaws.antt`).
-- - A function that is to be all of a contract's law (`read_image`, `write_image`) calls an inner one that has the
--   equation; the laws are then lemmas on that equation.
-- - A text that is written word by word wants one lemma for a line (`line-written`), with each call's clause as an
--   argument.
-- - `sum_by` doesn't compute on a list's first element: a recursion of your own does.
pub mod OrderLemmas
pub mod PlaceLemmas
pub mod HeldLemmas
pub mod SpaceLemmas
pub mod ResultLemmas
pub mod BytesLemmas
pub mod StateLemmas
pub mod SourceLemmas
pub mod SoundLemmas
pub mod TextLemmas
pub mod WordLaws
pub mod LineLaws
pub mod StepLaws
pub mod ReadLemmas
pub mod ImageLaws
pub mod InkLaws
pub mod RoundLaws
pub mod FirstBadLaws
