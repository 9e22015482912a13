-- Read first: `Course.antt`: how a step that recovers a session goes, as one of five ways; both laws go by these. `OneStep.antt` has the step by
-- its plan. `Taken.antt`: at the end of a recovery all secondaries are taken over, and their servers run.
-- - each answer has its cause: `recoveries-answer` (`Causes.antt`)
-- - a second recovery finds nothing to do: `recovers-twice` (`Twice.antt`)
-- - at each moment of a run the pair of each member stands in one of three ways: `has-pair-ways`, `pair-ways-run` (`PairRuns.antt`)
-- **The three ways.** `PairMoves.antt`: what each kind of move that changes a part is asked (`Fair`), and that the ways stay then; `PairPlans.antt`:
-- entries whose acts come so (`Goes`), and with them all moments of a plan; `PairSteps.antt`: the plans that make, end or turn a pair, by what their
-- checks say; `PairCases.antt`: every plan. The sessions of a plan's begin stay the measure (`Stand`): of what is told of a volume in its checks
-- the later acts may rely on what goes by sessions alone (`IsFree`).
-- - the lines of the way home are answered ok, and lead to the pair in place: `goes-home` (`HomeRuns.antt`), and of a member `member-goes-home`
--   (`HomeMembers.antt`)
-- **The way home.** Entries whose checks pass go to their end or stop (`GoesTo`), one `move-goes` for each move (`HomeSteps.antt`); what a drain
-- keeps goes along its acts (`HomeDrains.antt`), and its answer is the row of `dr_laws_return`. That the next line's premise holds is one lemma for all
-- lines (`open-stays` of `HomeKept.antt`): of relationships it asks that each is as it was, or was plain and is (`Kin`), since a target that isn't persistent may
-- end with the last track that it keeps. `then-leads` puts a line before those after it.
-- - an abort is answered by the state: `aborts-answer` (`Aborts.antt`)
-- - so is an exchange, in each phase: `exchanges-answer` (`Exchanges.antt`)
-- **Exchanges.** The entries of an order leave what it asks for: places, and the members that it hasn't come to (`IsAs`, `Untouched` of `Endings.antt`).
-- So they end by the first refusal of the state as it begins, or a server stops: one lemma for each work (`OrderEnds.antt`). A refusal that names a
-- target says how that is seen, which goes by all relationships; so a flash or a commit owes that no other member's target is its source.
-- - if groups can be formed, only what the attempt asks refuses one: `refused-by-attempt` (`CanForm.antt`)
-- - those that end an attempt lead to Idle, each by one order: `leads-to-idle` (`ToIdle.antt`, `OrdersLeft.antt`); an abort leaves its orders: `aborts-lead-on`
--   (`GivenUp.antt`)
pub mod OneStep
pub mod Course
pub mod Causes
pub mod Taken
pub mod Twice
pub mod PairMoves
pub mod PairPlans
pub mod PairSteps
pub mod PairCases
pub mod PairRuns
pub mod HomeKept
pub mod HomeSteps
pub mod HomeDrains
pub mod HomeRuns
pub mod HomeMembers
pub mod HomeExample
pub mod Aborts
pub mod Endings
pub mod OrderEnds
pub mod Exchanges
pub mod CanForm
pub mod OrdersLeft
pub mod ToIdle
pub mod GivenUp
