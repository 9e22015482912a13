-- Read first: `OwnerLemmas.antt`: whose a volume is; `StartLemmas.antt`: what a start comes to, from one volume's two
-- entries to the whole plan (`comes-done`, `comes-failed`); `LiftLemmas.antt`: the same of the end of holds.
-- - **A loop over a list of entries** (`go_on_all` of `dr_admin`): the function for one turn says on Ok that what ends
--   the rest ends all, and on Err that it ended here.
-- - **A call whose plan is chosen from the state** (`enrol`, `expel`): one clause without a premise says that the step
--   table's plan is the refusal or else the plan of these entries (`AddsSo`, `ExpelsSo`), one equation says the refusal
--   (`unless_stop`), and `carried` speaks of the entries alone. The caller then needs no lemma on the choice.
pub mod SessionLemmas
pub mod TargetLemmas
pub mod PairLemmas
pub mod PlanLemmas
pub mod OwnerLemmas
pub mod StartLemmas
pub mod LiftLemmas
