-- Read first: `WordLemmas.antt`, `CutLemmas.antt`, `TextLemmas.antt`: what words say and how a text is cut;
-- `StepLemmas.antt`, `WrittenLemmas.antt`: the two laws.
-- - **A machine over words**: `read_on : Reading → word → Option Reading` holds the whole grammar and knows no columns;
--   `read_words` alone turns "none" into a column. Its helpers are functions of an `Option` that was looked up already,
--   so each Rust function follows its own definition, and nearly all prove with no file.
-- - **A table as data**: `match` over all commands gives `&'static [Setting]`; `unfolding(..)` on the function proves
--   it. A loop that looks a word up needs three short lemmas (`ReadLemmas.antt`). The names of commands are apart, so what is found
--   in some list of them is found among all (`StepLemmas.found_first`): the commonest are tried first.
-- - **Items**: `onto old (setting_items setting word) ≡ kept stands new` says "pushed, or the word can't stand" in one equation,
--   which goes through `?` and through loops.
-- - **What is printed reads back** (`StepLemmas.reads`): one lemma over a list of options and one over operands; each
--   option copies its own field, so all steps end with `refl`.
-- - **What is read can be printed** (`WrittenLemmas.line_written`): the invariant `IsFitting` of a `Reading` is true of
--   `start_of` and kept by `read_on`; the chains of `>>=` go by a helper that takes a fact for each value.
-- - A `match` with 47 arms that each build a record is too large for the borrow checker: four functions that give an
--   `Option`, joined by `.or(..)`.
-- - A loop that goes on to the first byte of a kind keeps `at + position_or_len p (drop at line)` as it was: it needs no answer.
pub mod WordLemmas
pub mod ValueLemmas
pub mod ItemLemmas
pub mod ReadLemmas
pub mod CutLemmas
pub mod TextLemmas
pub mod ItemTextLemmas
pub mod OptionLemmas
pub mod OperandLemmas
pub mod RunLemmas
pub mod StepLemmas
pub mod WrittenWordLemmas
pub mod WrittenReadLemmas
pub mod WrittenLemmas
