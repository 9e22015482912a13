-- Read first: `CarryLemmas.antt`: how an update ends, and a plan entry by entry; `Images.antt`, `LawfulLemmas.antt`, `EntryLemmas.antt`; `Asking.antt`,
-- `Overlay.antt` for `image_of`.
-- - Histories one event further: `histories-push`, `histories-append`; images: `image-push`, `image-issue` (a write that
--   is issued later changes no image) in `Images.antt`.
-- - **A journal walked backward**: `earlier_of` has one equation for each kind of event, and its lemma is closed by
--   `refl` for each (`Asking.antt`). The bytes of a track are built from the last write to the first by `over known
--   bytes under`: what is known lies over what is still underneath (`over-laid`, `over-none`, `over-cleared` in
--   `Overlay.antt`).
pub mod Asking
pub mod Images
pub mod Overlay
pub mod CarryLemmas
pub mod GrammarChecks
pub mod LawfulLemmas
pub mod MemoryLemmas
pub mod StagedChecks
pub mod EntryLemmas
