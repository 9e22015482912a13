use Rattle.dr_laws_attempts.proofs.Example.{start-lawful, coordinates, releases, drains, flashes, commits, revertible-all, rest, committed-lawful, finishes, idles, nothing, over-lawful, is-lost, settles, settles-revert, settles-late, taken-back-lawful, nobody, aborts}
use Rattle.dr_laws_attempts.proofs.an_example_goes_through_all_phases.Goals as goal

pub returns-clause-begins : goal.returns-clause-begins
returns-clause-begins c = start-lawful

pub returns-clause-coordinates : goal.returns-clause-coordinates
returns-clause-coordinates c = coordinates

pub returns-clause-releases : goal.returns-clause-releases
returns-clause-releases c = releases

pub returns-clause-drains : goal.returns-clause-drains
returns-clause-drains c = drains

pub returns-clause-flashes : goal.returns-clause-flashes
returns-clause-flashes c = flashes

pub returns-clause-commits : goal.returns-clause-commits
returns-clause-commits c = commits

pub returns-clause-revertible : goal.returns-clause-revertible
returns-clause-revertible c = revertible-all

pub returns-clause-rest : goal.returns-clause-rest
returns-clause-rest c = rest

pub returns-clause-committed : goal.returns-clause-committed
returns-clause-committed c = committed-lawful

pub returns-clause-finishes : goal.returns-clause-finishes
returns-clause-finishes c = finishes

pub returns-clause-idles : goal.returns-clause-idles
returns-clause-idles c = idles

pub returns-clause-nothing : goal.returns-clause-nothing
returns-clause-nothing c = nothing

pub returns-clause-ends : goal.returns-clause-ends
returns-clause-ends c = over-lawful

pub returns-clause-loses : goal.returns-clause-loses
returns-clause-loses c = is-lost

pub returns-clause-settles : goal.returns-clause-settles
returns-clause-settles c = settles

pub returns-clause-reverts : goal.returns-clause-reverts
returns-clause-reverts c = settles-revert

pub returns-clause-late : goal.returns-clause-late
returns-clause-late c = settles-late

pub returns-clause-recovered : goal.returns-clause-recovered
returns-clause-recovered c = taken-back-lawful

pub returns-clause-nobody : goal.returns-clause-nobody
returns-clause-nobody c = nobody

pub returns-clause-aborts : goal.returns-clause-aborts
returns-clause-aborts c = aborts
