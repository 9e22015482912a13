use Rattle.dr_laws_recovery.proofs.Recovers.{recover-keeps, hand-keeps}
use Rattle.dr_laws_recovery.proofs.RecoversStart.{start-keeps}
use Rattle.dr_laws_recovery.proofs.RecoversFailover.{failover-keeps, failback-keeps}
use Rattle.dr_laws_recovery.proofs.RecoversEnd.{has-ended, answers-group, told-group}
use Rattle.dr_laws_recovery.proofs.RecoveredOn.{tells-recovery, same-on}
use Rattle.dr_laws_recovery.proofs.a_recovery_keeps_its_group.Goals as goal

pub returns-clause-recovers : goal.returns-clause-recovers
returns-clause-recovers c = λ w r s sound. recover-keeps w sound s r

pub returns-clause-starts : goal.returns-clause-starts
returns-clause-starts c = λ w x s sound. start-keeps w sound x s

pub returns-clause-hands : goal.returns-clause-hands
returns-clause-hands c = λ w dev lets b s sound. hand-keeps w sound s dev lets b

pub returns-clause-failovers : goal.returns-clause-failovers
returns-clause-failovers c = λ w devs b a kind s sound. failover-keeps w sound s devs b a kind

pub returns-clause-failbacks : goal.returns-clause-failbacks
returns-clause-failbacks c = λ w devs x y kind s sound. failback-keeps w sound s devs x y kind

pub returns-clause-ends : goal.returns-clause-ends
returns-clause-ends c = λ w s x sound found running. has-ended w sound s x found running

pub returns-clause-answers : goal.returns-clause-answers
returns-clause-answers c = λ w s x sound found running none. (answers-group w sound s x found running none, told-group w sound s x found running none)

pub returns-clause-devices : goal.returns-clause-devices
returns-clause-devices c = tells-recovery

pub returns-clause-tracks : goal.returns-clause-tracks
returns-clause-tracks c = same-on
