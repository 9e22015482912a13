-- Read first: `KeepsStructure.antt`, `KeepsImages.antt`, `KeepsRecorded.antt`, `KeepsTargets.antt`, `KeepsQueue.antt`,
-- `KeepsSound.antt`: what each kind of move keeps; `Along.antt`: over plans and runs; `CopyFirst.antt`, `Lands.antt`,
-- `FitsFlash.antt`, `FitsCopy.antt`, `FitsDestage.antt`, `FitsPairs.antt`, `FitsFailover.antt`, `FitsWrites.antt`, `FitsHolds.antt`, `Starts.antt`: plans;
-- `Steps.antt`: each step's plan.
-- The laws that stand:
-- - soundness is kept by each step, wherever servers stop in it: `sound-task`, `sound-run` (`Steps.antt`)
-- - the table keeps its laws after each entry, and where reads fail: `rows-moment`, `rows-ends` (`Steps.antt`,
--   `ReadStops.antt`)
-- - from there to the plant: a sound world fits; a track shows the image of the journal's host writes, and contains it
--   where the volume is no target: `fits-sound`, `view-image`, `contents-image` (`Agree.antt`)
-- - a failover and a failback that end well leave a pair that is turned round, and a pair that is in place is equal outside what
--   its primary has unsent: `failover-leaves`, `failback-leaves`, `pair-equal` (`Turned.antt`)
-- - a comparison changes nothing, and of volumes that are no targets it goes by the host writes of the journal:
--   `compare-same`, `compare-image` (`Compares.antt`)
-- - a move changes what no other volume shows: `others-stay`, `own-shows` (`Views.antt`)
-- - parts of pairs fit, and a pair is equal outside what its primary records: fields `parts` and `pairs` of `SoundRows`,
--   by `KeepsParts.antt`, `KeepsPairs.antt`; plans on pairs by `FitsPairs.antt` and `FitsFailover.antt`, host writes by `FitsWrites.antt`,
--   freeze, thaw and expiry by `FitsHolds.antt` (`Steps.antt`)
-- - a step tells no more than it has room for: `Costs n w entries` counts what acts tell where they come: `carry-adds`,
--   `after_plan-adds` (`Costs.antt`, `CopyCosts.antt`, `PairCosts.antt`, `Spends.antt`); an act tells two events at most, but for
--   those of steps that may tell of each track (`does-tells`), so most plans go by how many entries they have (`EntryLengths.antt`)
-- - a step adds to the journal, its answer last: `after_task-ends`, `after_tasks-grows` (`Journal.antt`)
-- - no more writes are issued than there are steps: `issued-run` (`Journal.antt`)
-- - no count of the flight is above the number of events: `counted-run`, and of a plan before masters are lost `counted-plan`
--   (`FlightCounts.antt`): a plan raises a count by one at most, and tells its answer; a master is lost where a stop was told, too
-- - the text of a journal comes piece by piece: `text-append`, `ends-reset` (`Texts.antt`)
-- - which acts each step comes to is `Does` (`Does.antt`), by `case-does` (`DoesPlans.antt`): what goes by acts is proved of it, with a clause for
--   each kind of act that the law asks of, and not of each plan
-- - E21 comes exactly where the acts told a stop: `carry-tells`, `ending-tells` (`StopsTold.antt`)
-- - a step with another refusal leaves what `Leaves` names: entries that end no plan are `NeverRefuse`; where checks come before them,
--   nothing was done (`ChecksFirst.antt`, `RefusedPlans.antt`: `case-leaves_world`); steps that leave more where they are refused (`leaves_more`) by
--   `RefusedWrites.antt` and `step-left` (`RefusedSteps.antt`), an `@run` and whole runs by `RefusedRuns.antt`
-- - what sessions and records of volumes say together (numbers differ, one place for a volume, who records, the master's
--   server and phase): fields `groups` and `housed` of `SoundBut`, each kind of change by `dr_laws_sessions`; plans by
--   `FitsSessions.antt`, `FitsMembers.antt`, `FitsOrders.antt`, `FitsExchanges.antt`, `FitsMessages.antt`, `FitsRecovery.antt`
--   (`KeepsGroups.antt`, `Steps.antt`); what the messages in flight say: field `flights`, by `dr_laws_messages`
-- - no volume has two places in the sessions: `are-lone` (`Places.antt`), from `once` and `lone` of `groups`; it rides along
-- - where a volume takes a track back it is at rest: `calm-run`, `calm-reads` (`Restores.antt`). What holds where entries come to a
--   move is `along-comes_to` (`Along.antt`); of each plan of a step, `rides-comes` (`Riders.antt`): the rows fit, the move is
--   allowed, and what rides along holds
-- **A law that rides.** A law on the rows and the journal that needs `Sound` where acts come, and that `Sound` doesn't
-- need, is no field of `Sound`. It is a `Rider` (`Riders.antt`): what its acts keep, those of a start, what no list
-- hears of (other messages, too), a write that is issued, a volume that is defined, and another table of sessions (`regroups`: members stay in
-- their attempt, or their session is Idle; what a plan makes of the table at its end is the field `turns` of its
-- `Orders`). `rides-task` and `rides-tasks` then give it of every step; `cuts-ride` (`SealsAlong.antt`) and
-- `closes-ride` (`ClosesAlong.antt`), which rides beside it, are such. `Rides.antt` puts a law beside those of any plan
-- (`holds-with`), after which all of `Along.antt` speaks of it: the end, every stop, every moment. A lemma's record is
-- shut where it is cited, so what rides can't see the `inner` and `may` of a `StepHolds`; `case-rides` cites the
-- `along-..` and `orders-..` lemmas of the plans instead, one clause for each.
-- A law on each volume and its partner (`Linked`) is kept by `linked-at`: what the changed row owes its partner, and
-- what those that point to it owe (`changed` in `KeepsPairs.antt`). One clause for each kind of move; a kind that
-- changes no bytes and takes nothing out of the recorded tracks owes what held before.
-- **A step of several plans** (`@run`). Its plans are a list of parts, each in the world where the one before ended
-- (`Course` in `Runs.antt`); only the last one is answered, so what is said of one answered plan stays as it was, about
-- the last part. `Parts.antt` has the rest:
-- - `Goes` is the inversion: each part has room, is a `Case`, and changes nothing as it begins. `goes-keep` carries a
--   law over them, `last-plan` and `each-plan` give it where a plan of the step begins. So a law costs one lemma, "a
--   part keeps it" (`sound-part`, `onward-part`).
-- - `Ways` is the induction over how the line is built: nothing, one plan, and going on. Take it where what follows
--   depends on the world that a part leads to, as the moments do (`WayChains` in `Chains.antt`: the claim is for
--   everything that may follow).
-- - **A recovery** (`FitsRecovery.antt`) goes over the members twice: `TakenBut` says which secondaries are left to
--   take, while what the members show stays; then `RestCommits` or `RestReverts` stays from member to member.
-- - The premises of an order's moves are its checks, and that it is due (`order-flashes` and its like): owed by the master, or in
--   flight under no fence (`Due`). `FitsOrders.antt` proves them once, for an exchange (`FitsExchanges.antt`) and a message
--   (`FitsMessages.antt`) alike, which differ in why the order may be carried out (`How`). While it goes on, `DoneBut` says who is
--   left to do, if it is the last attempt's. An older attempt's order finds nothing to do, or is refused, step by step: `last-recorded`,
--   `last-flashed`, `late-holds`, `is_past`.
-- - **An order's loop in `FitsOrders.antt`** has one state (`Stage`, with `Does`, `Finishes` or `Holds` around it), one
--   step for each kind of order, and `Carried` at the end, which is all that the reply rests on. A new order is a step
--   that gives `May` from the lemma of its checks, and hands `done-..` to the next member.
-- - **What comes into flight** is a reply, or an order that its session's phase asks for: `Adds` (`NewMessages.antt`), the field `adds`
--   of `Orders`. What rides along sees by it that no flash comes late (`EasesFlight`).
-- - **How a session goes on** from one table to the next is `AllGoOn` (`GoesOn.antt`), the field `goes` of `Orders`: what a lost master is told
--   was told before, or members show it; and a master commits only from where it did, from an early phase, or where reports told both of a
--   member that can go back and of one that can't. `TablesGo.antt` has a lemma for each change of the table of sessions.
-- - **A set of numbers below n has no more than n** (`len-low`, `Spends.antt`): by `len-remove` and `same_set`.
pub mod Listed
pub mod PlanReasons
pub mod Cases
pub mod Does
pub mod DoesPlans
pub mod Turns
pub mod Due
pub mod RowsAfter
pub mod KeepsStructure
pub mod KeepsParts
pub mod KeepsImages
pub mod KeepsRecorded
pub mod KeepsRecorders
pub mod KeepsPairs
pub mod KeepsTargets
pub mod KeepsQueue
pub mod KeepsSeals
pub mod KeepsAsides
mod KeepsGroups
pub mod Along
pub mod KeepsSound
pub mod Views
pub mod CopyFirst
pub mod Counting
pub mod Lands
pub mod FitsFlash
pub mod FitsCopy
pub mod FitsDestage
pub mod FitsPairs
pub mod FitsFailover
pub mod Compares
pub mod Turned
pub mod FitsDrain
pub mod FitsCollide
pub mod FitsWrites
pub mod FitsHolds
pub mod NewMessages
pub mod GoesOn
pub mod TablesGo
pub mod FitsSessions
pub mod FitsMembers
pub mod FitsOrders
pub mod FitsExchanges
pub mod FitsMessages
pub mod FitsRecovery
pub mod Awaits
pub mod Issues
pub mod Defines
pub mod Starts
pub mod Parts
pub mod Steps
pub mod Journal
pub mod FlightCounts
pub mod Costs
pub mod CopyCosts
pub mod PairCosts
pub mod EntryLengths
pub mod Spends
pub mod Limits
pub mod Texts
pub mod Agree
pub mod ReadStops
pub mod StopsTold
pub mod ChecksFirst
pub mod RefusedPlans
pub mod RefusedWrites
pub mod RefusedSteps
pub mod RefusedRuns
pub mod RefusedExamples
pub mod TurnedExample
pub mod Unacknowledged
pub mod AcknowledgingSteps
pub mod Acknowledged
pub mod Shows
pub mod Unissued
pub mod Rides
pub mod Riders
pub mod Places
pub mod Restores
