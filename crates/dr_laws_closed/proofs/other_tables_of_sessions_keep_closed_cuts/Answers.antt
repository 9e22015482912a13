use Rattle.dr_laws_closed.proofs.Regrouped.{closing-regrouped}
use Rattle.dr_laws_closed.proofs.Opens.{closing-begun}
use Rattle.dr_laws_closed.proofs.Regroups.{regroups-stay, stays-joined, stays-left, stays-mirrored, stays-unmirrored, stays-paused, stays-aborted, stays-taken, regroups-added, stays-removed, stays-lost}
use Rattle.dr_laws_closed.proofs.other_tables_of_sessions_keep_closed_cuts.Goals as goal

pub returns-clause-kept : goal.returns-clause-kept
returns-clause-kept c = λ k us later ps now cuts M g groups law then_groups then_law then_flights turn eases old. closing-regrouped k us later groups law then_groups then_law then_flights turn eases ps now cuts M g old

pub returns-clause-begun : goal.returns-clause-begun
returns-clause-begun c = λ k s x r ps now cuts M g groups law found has idle old. closing-begun k s x r groups law found has idle ps now cuts M g old

pub returns-clause-joined : goal.returns-clause-joined
returns-clause-joined c = λ k s l groups. regroups-stay _ _ (stays-joined k.sessions groups.once s l)

pub returns-clause-left : goal.returns-clause-left
returns-clause-left c = λ k s l groups. regroups-stay _ _ (stays-left k.sessions groups.once s l)

pub returns-clause-mirrored : goal.returns-clause-mirrored
returns-clause-mirrored c = λ k s server groups. regroups-stay _ _ (stays-mirrored k.sessions groups.once s server)

pub returns-clause-unmirrored : goal.returns-clause-unmirrored
returns-clause-unmirrored c = λ k s groups. regroups-stay _ _ (stays-unmirrored k.sessions groups.once s)

pub returns-clause-paused : goal.returns-clause-paused
returns-clause-paused c = λ k s on groups. regroups-stay _ _ (stays-paused k.sessions groups.once s on)

pub returns-clause-aborted : goal.returns-clause-aborted
returns-clause-aborted c = λ k s groups. regroups-stay _ _ (stays-aborted k.sessions groups.once s)

pub returns-clause-taken : goal.returns-clause-taken
returns-clause-taken c = λ k s server reply groups. regroups-stay _ _ (stays-taken k.sessions groups.once s server reply)

pub returns-clause-added : goal.returns-clause-added
returns-clause-added c = λ k s n x m groups found quiet none. regroups-added k.sessions groups.once s n x m found quiet none

pub returns-clause-removed : goal.returns-clause-removed
returns-clause-removed c = λ k s a groups. regroups-stay _ _ (stays-removed k.sessions groups.once s a)

pub returns-clause-lost : goal.returns-clause-lost
returns-clause-lost c = λ k before now. regroups-stay _ _ (stays-lost k.sessions before now)
