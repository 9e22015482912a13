-- **A law over a stretch of a run** (freeze windows: `WindowTracks.antt`, `KeepsWindow.antt`, `KeepsStep.antt`,
-- `Chains.antt`, `InSync.antt`, the `Window*.antt`). It isn't one on worlds, so it doesn't go by the recipe above:
-- - The moments are a chain (`Chain` in `Windows.antt`), one step of which is a move done, a move in a stop, an
--   acknowledgement, or nothing that matters. The window's invariant goes along the chain (`window-step`), one clause
--   for each kind of move.
-- - What windows ask of a move beside `Allowed` is `WindowMay`. That each plan's moves do so is shown once for the plan
--   (`WindowHolds`), mostly by the acts that its step does (`keeps-pairs` in `WindowSteps.antt`).
-- - Where a move has to know that another came before it in the same step (a write lands on both sides only behind its
--   mirror), a *tag* goes along the chain; where it is set, no window begins.
-- - Compare what two volumes contain, not what their lists say: then no list is followed along the stretch, and the
--   image comes at its end.
-- - What is told along the stretch is a law of its own (`KeepsLists.antt`): each event is `Apart` from the volume's
--   list, but for what it acknowledges; one fold over the events of a step gives the list, and `grows-more` joins two
--   stretches. Say it of events and not of moves, so that the acknowledgements need no case.
-- - A law between steps that a step breaks and restores (`FullDuplexInSync`: nothing is out of sync on a Full Duplex primary whose
--   server is on) has a form with a hole for the volume at work (`FullDuplexInSyncBut`, `WindowWithin.antt`), and one lemma that fills
--   it again (`heal`).
-- **A law on each moment** (`secondaries_lack_no_write`: `Secondaries.antt`). It goes along the same chain: `EachOneOut` is what each `Step` keeps,
-- by the move's own volume (`first`), by its partner's (`second`), or by another's (`else-most`). What such a law asks of a move beside
-- `WindowMay` is `LeavesOneOut` (`InSync.antt`), which `leaves-one` has of acts between which a primary that runs is in sync; what it asks of a
-- moment is in `Good`.
-- **A law over the steps behind one** (`no_write_lands_after_a_freeze`: `LongBusy.antt`, `LongBusySteps.antt`, `FreezesHold.antt`). What
-- lasts is a record on a world (`Frozen`); `frozen-act` says which acts keep it, and `does-frozen` that a step which doesn't let the
-- volume go does such acts alone. What a step has changed as its entries begin is `Begun.antt`. What holds between steps beside it,
-- of every run, is `between-run` (`Betweens.antt`).
pub mod WindowTracks
pub mod WindowMoves
pub mod KeepsWindow
pub mod KeepsLists
pub mod KeepsMirror
pub mod KeepsStep
pub mod Windows
pub mod InSync
pub mod Chains
pub mod Begun
pub mod WindowActs
pub mod WindowPlans
pub mod WindowBegins
pub mod WindowPairs
pub mod WindowCopy
pub mod WindowFailback
pub mod WindowStart
pub mod WindowWithin
pub mod WindowDrain
pub mod WindowWrites
pub mod WindowSteps
pub mod Betweens
pub mod LongBusy
pub mod LongBusySteps
pub mod FreezesHold
pub mod EndsInCut
pub mod Secondaries
pub mod LostSite
pub mod Thaws
