use Rattle.std.proofs.Common.{refl}
use Rattle.dr_model.specs.Decisions.{decision, decided}
use Rattle.dr_model.specs.Sessions.{changed, without_session}
use Rattle.dr_model.specs.Carry.{carry, act, turn, update_keeping}
use Rattle.dr_laws_recovery.proofs.an_example_is_removed.Goals as goal

pub returns-clause-before : goal.returns-clause-before
unfolding changed without_session decision decided carry act turn update_keeping
returns-clause-before c = refl

pub returns-clause-none : goal.returns-clause-none
unfolding changed without_session decision decided carry act turn update_keeping
returns-clause-none c = refl

pub returns-clause-after : goal.returns-clause-after
unfolding changed without_session decision decided carry act turn update_keeping
returns-clause-after c = refl

pub returns-clause-first : goal.returns-clause-first
unfolding changed without_session decision decided carry act turn update_keeping
returns-clause-first c = refl

pub returns-clause-second : goal.returns-clause-second
unfolding changed without_session decision decided carry act turn update_keeping
returns-clause-second c = refl
