use Rattle.dr_laws_sound.proofs.Turned.{failover-leaves, failback-leaves, pair-equal}
use Rattle.dr_laws_sound.proofs.failovers_and_failbacks_turn_a_pair.Goals as goal

pub returns-clause-over : goal.returns-clause-over
returns-clause-over c = λ w devs b a kind sound. failover-leaves w sound devs b a kind

pub returns-clause-home : goal.returns-clause-home
returns-clause-home c = λ w devs x y kind sound. failback-leaves w sound devs x y kind

pub returns-clause-equal : goal.returns-clause-equal
returns-clause-equal c = λ w x y sound leads follows. pair-equal w sound x y leads follows
