-- Read first: `VolumeLaws.antt`: what is read; `RanLaws.antt`: what any reading and writing does; `FuseLaws.antt`: which
-- write the fuse hits; `UpdateLaws.antt`, `RedoLaws.antt`: the machine's view; `UnreadLaws.antt`: what a failed read
-- leaves; `LawfulLaws.antt`: lawful fields; `OpenedLaws.antt`: what was opened stays opened; `DestageLaws.antt`: a staged
-- track goes to its place, and none is staged.
-- - **One equation per call**: `rewrite` in `dr_volume/src/opened.rt` ensures only that it writes a list, and that the
--   cell is the next; all clauses of `change` are lemmas on that equation, put together in one record (`Changed` in
--   `UpdateLaws.antt`).
-- - **A call that reads and then calls another**: after a read that passed the plant is as it was (`same`), so each
--   `requires` of the second call is `subst` of one's own. `update` takes of `rewrite` its equation alone, brings it back
--   to the state before, and gets its clauses from `changed`; `read-first` puts the read before the act.
-- - **What was opened stays opened**: `IsOpened` rests on the blocks of one device and on what is seen of the volume, so
--   both laws (`opened-next`, `others-opened` in `OpenedLaws.antt`) are short. `c.fields.result.now` of an accessor
--   stands in later goals for each field of a copied record: carry facts over by `sym c.fields.ensures`.
-- - **A normal form inside, facts outside**: the proofs want `normal n f ≡ f` (`IsNormal`), a reader wants facts
--   (`IsLawful`). `normal-staging` and `lawful-normal` (`LawfulLaws.antt`) go from the one to the other, so no contract
--   shows `normal`.
-- - **No proof reads the writes block by block**: `ReadsAs` and `ReadsNext` say that slot, record and tracks are as
--   before, or are the next. What comes before the record is any list of writes to blocks that the volume doesn't look at (`AreIdle` in
--   `RewriteLaws.antt`): however they end, what is read stays (`idle-spares`). A fuse splits there: in them nothing is done
--   (`cut-in_idle`); behind them `put-cut_short` tells the slot (`cut-in_record`). A move that writes more blocks first owes that they are idle
--   (`before-idle`), and what they hold then (`reads-next`, `saved-next`).
-- - **An array in a tuple by value** isn't covered by the borrow checker: match on `&carried`, and bind the array by
--   `let`.
-- - **A device of zeros** (`ZeroDevice.antt`): it shows no fields, nothing staged, slot 0 and tracks of zeros.
pub mod Sets
pub mod PackedLaws
pub mod EntryLaws
pub mod TakenLaws
pub mod RecordLaws
pub mod LawfulLaws
pub mod VolumeLaws
pub mod ReadingLaws
pub mod RanLaws
pub mod RewriteLaws
pub mod FuseLaws
pub mod WorldLaws
pub mod SeenLaws
pub mod UpdateLaws
pub mod RedoLaws
pub mod DestageLaws
pub mod UnreadLaws
pub mod OpenedLaws
pub mod HeadLaws
pub mod TrackLaws
pub mod SavingLaws
pub mod SaysLaws
