-- Read first: `TakenLemmas.antt`: what the reader of lines took; `LineLemmas.antt`: lines of joined bytes;
-- `ReachLemmas.antt`: what holds of a world that is reached; `EndLemmas.antt`: one lemma for each exit.
-- - **A script line by line**: the invariant of the loop of `run_lines` says what was taken, which whole lines of it
--   were carried out, and what lies ahead (`IsUpTo` without its printing). `TakenLemmas.antt` has what the reader's
--   clause makes of it, `LineLemmas.antt` how the lines of joined bytes are those of the parts (`IsClosed` is the
--   premise), `EndLemmas.antt` a lemma for each exit.
-- - **A text in memory line by line**: the invariant of the loop of `carry_text` says which lines were carried out (`Through` of
--   `TextLemmas.antt`), with a lemma for one line more, for the end and for a halt; `OpenLemmas.antt` makes of it what a call of a run that
--   goes on leaves (`GoesOn`).
-- - **A world that is reached** (`Reached w`: some steps lead to it) is the one premise that the step functions need of
--   all laws: soundness, the count of issued writes, and the limits come from it by one lemma each (`ReachLemmas.antt`).
-- - **A fault that rose or stayed** is `Counted test before now`, over any count: the clause of a call is proved for
--   each count (`(f : ℕ) → Counted .. f .. → ..`), so that it goes through a loop.
-- - **A match whose arms answer** (`Ok(()) => .., Err(..) => ..`) keeps the facts of each arm; a value that two arms
--   leave for what follows loses them. `c.in-X.field-0-is` with `subst` brings a clause's facts to the variant.
-- - Where the search at a join ran for minutes, the part behind it became a function (`carry_planned`).
-- - **An exit that needs a choice** (nothing was done, or all of it) is a `⊎` in the clause of the small function and an
--   `elim` in the loop's answer.
-- - **The default arm of a big `match`** gets `.not-V` for each variant that an earlier arm took, where the match is on
--   the enum itself and not on an `Option` of it. `refused` (`CarryLemmas.antt`) turns these into "the plan is a
--   refusal".
-- - **Each status has its reason as a row of a function** (`Ends` in `Outcome.antt`). A `Halt` becomes a status by
--   a function of its own, so that there is one arm for errors.
-- - **The invariant of a type** comes at a value that goes out of scope: `subst P c.x.view_is c.x.invariant`.
-- - A fact about `Ok` or `Err` goes from one clause to another by `on_ok`, `on_err`, `ok-along`.
pub mod OfflineLemmas
pub mod PutLemmas
pub mod LineLemmas
pub mod TaskLemmas
pub mod ReachLemmas
pub mod LeadLemmas
pub mod TextLemmas
pub mod OpenLemmas
pub mod RunLemmas
pub mod TakenLemmas
pub mod EndLemmas
pub mod RefusalLemmas
pub mod TopLemmas
pub mod SummaryLemmas
pub mod WantLemmas
pub mod TrialLemmas
