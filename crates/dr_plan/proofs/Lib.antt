-- Read first: `OwnLemmas.antt`, `FollowLemmas.antt`, `ReadLemmas.antt`: what a line is, which lines may follow which, and a line that is
-- read; `HeadLaws.antt`, `PlanLaws.antt`, `EachLaws.antt`, `FirstLaws.antt`: what is read is a plan, each plan is read, and which line is told.
-- - **A line** is plain, announces a refusal, or says something else (`kind-of`); the first two leave the marks of lines as they were.
--   That each line is in the grammar, and has a step where a refusal is announced, is `Passes`, from the first line on: it grows by a line
--   at its end (`passes-more`) and is cut in two (`passes-parts`).
-- - **What was read so far** (`Read`) has a part for each stage; `read-step` is one line more, by what it is (`was-read`), and each mark that
--   can't stand is `absurd cc`.
-- - **The way back** (`EachLaws.antt`): `run` is a reading that hasn't come to its end. The lines of a set-up go one by one beside what is
--   still to come (`Ahead`); lines that are tried and those of the recovery have no marks.
-- - **What a line names** (`FaultLaws.antt`): no fault is the same as names that are known and come once, and pairs of one size.
-- - **Lines that go on** (`FirstLaws.antt`): from each stage a plan is reached by fixed lines, of which the first two define what the others name.
-- - **No line feed** stands in a printed line (`PrintLemmas.antt`): by command, option and operand, as in `dr_script`. So lines with their
--   ends are the lines of their text (`WholeLemmas.antt`).
-- - **A script** is made of the texts of its pieces (`PieceLemmas.antt`), and the steps follow from the lines (`StepLemmas.antt`). For
--   callers: `pieces-script`, `script-pieces`, `pieces-lines`.
-- - **Fuses** of a disaster's servers are added one after another (`FuseLemmas.antt`): what is left leads where all led.
-- - **Names of a disaster** can be said by a line (`FitLemmas.antt`), as the marks of the set-up say them.
-- - Look-ups by place are functions of their own whose clause is `option_copied result ≡ slice_get ..`: the clause of `get` itself isn't
--   read in an answer.
pub mod AboveLemmas
pub mod ApartLemmas
pub mod EachLaws
pub mod FaultLaws
pub mod FaultLemmas
pub mod FirstLaws
pub mod FitLemmas
pub mod FollowLemmas
pub mod FuseLemmas
pub mod HeadLaws
pub mod LineLemmas
pub mod NameLemmas
pub mod OwnLemmas
pub mod PieceLemmas
pub mod PlanLaws
pub mod PrintLemmas
pub mod ReadLemmas
pub mod StepLemmas
pub mod StopLemmas
pub mod WholeLemmas
