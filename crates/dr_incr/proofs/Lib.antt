-- Read first: `StepLemmas.antt`: entries that follow checks; `TargetLemmas.antt`: a target and its source;
-- `RestoreLemmas.antt`; `CopyLaws.antt`, `BackLaws.antt`: what a resynchronization and a restore bring.
-- - **A condition that ends in the middle of a loop** ("it is restored", until the last track is back) is stated for
--   both: `IsRestoredOnto s f` says nothing of a volume that is no target any more, and where no track is left every
--   entry passes.
pub mod RestoreLemmas
pub mod StepLemmas
pub mod TargetLemmas
pub mod CopyLaws
pub mod BackLaws
