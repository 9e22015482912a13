-- The laws that stand:
-- - cuts stay sound along every step and run; a sealed secondary holds its cut, and so does the device of a plant that
--   fits: `cuts-task`, `cuts-run`, `seals-run`, `seals-on` (`SealsAlong.antt`, `Seals.antt`)
-- - the cuts of a group are closed: `closes-run`, `closed-run` (`ClosesAlong.antt`)
-- - each target that counts shows the cut of its number: `counts-run` (`CountedAlong.antt`)
-- - each cut stands behind the begin of its attempt: `begins-run` (`Begins.antt`)
-- - each step keeps the writes of lists but those that it may take away: `told-task`, `keeps-run` (`KeepsWrites.antt`),
--   on what moves tell (`Takes.antt`), steps of one plan by their acts (`TakesSteps.antt`) and an `@run` (`TakesRuns.antt`). A new
--   kind of move that takes writes has a row in `Takes` and in `takes-onto`, and its act a clause in `does-takes`; a new step that may
--   take one is a row of `takes_from`. All others fall to their last clauses. What a cascaded secondary sends on before a write collided
--   as the step began: `Collisions.antt` carries that along its moves
-- - where a list lost a write there is the step that may have taken it: `step-at`, `kept-or-taken`, `holds-run`
--   (`TakenAt.antt`)
-- - what a secondary stored is acknowledged, or a server stops in that step, after each step and wherever a volume is cut: `stored-run`
--   (`Stored.antt`); and each write of a list stands on its own track: `tracked-run` (`OnTracks.antt`, a law that rides)
-- - what a recovery answers is the newest group, before and after it: `found-run` (`GroupsFound.antt`); so is the number of an `@run`'s
--   answer: `formed-run` (`RunsFormed.antt`), turn by turn from the commit of one member on (`LastStands`)
-- - the headline: by devices that fit, recovery gives the cut of the newest group: `headline-on` (read off the laws),
--   `headline-run` (`Headline.antt`, `HeadlineAlong.antt`); a number without a session gives nothing, since what counts is the target of a
--   member of a session that is defined: `no-session-run` (`NoSession.antt`)
-- - exchanges and deliveries leave the target of a member whose secondary was taken over, and what a recovery makes of a session while
--   all of its are; a recovery touches none before: `leaves-exchange`, `leaves-delivery`, `leaves-turn`, `exchange-keeps`,
--   `delivery-keeps`, `takes-first`
--   (`TakenOver.antt`, `TakenKeeps.antt`, `TakenFirst.antt`)
-- - what a recovery answers, and why it is refused: `answers-for-cause` (`RecoveryAnswers.antt`)
-- - the premises of a seal's own clause hold in every run: `cuts-found`, `sends-found` (`SealsFound.antt`)
-- - a revertible target keeps what it shows, and what was set aside: `both-stay`, `flash-shows`, `revert-shows`
--   (`BothViews.antt`)
-- - a drain of all tracks that ends well leaves nothing out of sync, and so both volumes of a pair that is in place equal:
--   `drain-empties`, `drain-equals` (`Emptied.antt`)
-- - by what devices say alone, each session's decision is possible: `decides-on` (`Decided.antt`)
-- - what a recovery makes of each session stays along a recovery, a start, a failover, a failback, and a commit or revert
--   by hand; at its end it is done and answered; devices tell it: `recover-keeps`, `start-keeps`, `failover-keeps`,
--   `failback-keeps`, `hand-keeps`, `has-ended`, `answers-group`, `tells-recovery`, `same-on` (`Recovers.antt`,
--   `RecoversStart.antt`, `RecoversFailover.antt`, `RecoversEnd.antt`, `RecoveredOn.antt`)
-- - That a bound isn't felt (`TurnsEnd.antt`): a measure of the master that each turn lessens, and two bounds above it
--   give the same way (`turns-alike`). `Went.antt` has what an unrefused plan leaves: `carry-keeps` carries what acts keep over
--   entries that come to such acts alone (`Each`).
-- - **What a recovery makes of a session** (`Recovered.antt`) reads of a decision only whether it lets targets be
--   reverted, so the law (`Keeps` in `Recovers.antt`) says: records are alike by that truth value, and where a volume is
--   left to commit or revert, the decision still has it. A move's part is `alike-..` (`Recovered.antt` of the proofs),
--   on the one row that changes, and `some-commits` or `none-reverts` (`DecidedOver.antt`). Acts that may come are cut
--   down by a test of the entries alone (`AllFine`, of acts that fit); so the plan's own lemma is used as it stands (`fit-along` in
--   `Keeping.antt`).
-- - **What holds only at the end of a plan** (`RecoversEnd.antt`): go along the entries again with another law for the
--   end. `first` passes over entries that matter no more, and a state in the list of those left (`LeftBut`) goes over
--   the others.
-- **Read a theorem off the laws, don't carry it.** The headline is proved at the end alone, over one world
-- (`Headline.antt`): what rides along runs are eleven small laws on one row or one member each (`Closing`, `Counted`),
-- by folds over the journal; places of the journal come in only where it is read.
-- - Both kinds of decision give one record (`Number`: the number n, what each that remains has, that all that count for
--   n remain, that none is past n), and everything after that is proved once from it.
-- - A law on targets is over `due`, what a track is due to show, and not over bytes: a store onto a source is then no
--   case, and `shown-due` turns it into what the track shows at the end.
-- - Premises that the laws want of a move and the rows don't give go into `InAttempt` (who leaves is that member; no
--   host write on a target that counts): each was there in the plan's own checks.
-- **A law along one plan** (`Keeping.antt`): `Keeping` is an invariant with the acts that may come, `Goes` a plan that
-- keeps it; `goes-moment`, `goes-ends`, `goes-after` give each moment, each stop and the answered step, and `keeps-fit`
-- the acts, where they have to fit beside. Along exchanges it is an `Exchanging` (`Exchanges.antt`): the acts that fit,
-- and that each member's do; an order that is refused at its first check needs nothing of the entries after it. Along
-- recoveries it is `recover-fine` (`SharedEntries.antt` of dr_facts), and of one target `settle-fine`: nothing, its commit, or its
-- revert.
-- **A stop tells that a fuse was armed** (`turn-armed` in `RecoveryAnswers.antt`): `act-cases` has forgotten it.
pub mod SealsAlong
pub mod ClosesAlong
pub mod CountedAlong
pub mod Seals
pub mod BothViews
pub mod Decided
pub mod Recovered
pub mod DecidedOver
pub mod Keeping
pub mod RecoverySame
pub mod Recovers
pub mod RecoversEnd
pub mod RecoversStart
pub mod RecoversFailover
pub mod RecoveredOn
pub mod Exchanges
pub mod TakenOver
pub mod TakenKeeps
pub mod TakenFirst
pub mod RecoveryAnswers
pub mod SealsFound
pub mod TurnsLeft
pub mod Went
pub mod Drained
pub mod Emptied
pub mod TurnsEnd
pub mod Stored
pub mod OnTracks
pub mod NoSession
pub mod Headline
pub mod HeadlineAlong
pub mod Takes
pub mod Collisions
pub mod TakesSteps
pub mod TakesRuns
pub mod KeepsWrites
pub mod TakenAt
pub mod Begins
pub mod GroupsFound
pub mod RunsFormed
