-- Read first: `PlanLemmas.antt`: the plan from what the calls say; `KeepsLemmas.antt`: the clauses `keeps` and `recovers`
-- of every exit, each in a line from its `carried`.
pub mod EachLemmas
pub mod MemberLemmas
pub mod StepLemmas
pub mod PlanLemmas
pub mod LookLemmas
pub mod ActLemmas
pub mod KeepsLemmas
