use Rattle.std.proofs.Common.{refl}
use Rattle.dr_model.specs.Decisions.{decision, decided}
use Rattle.dr_model.specs.Sessions.{changed}
use Rattle.dr_model.specs.Carry.{carry, act, turn, update_keeping}
use Rattle.dr_laws_recovery.proofs.an_example_recovers.Goals as goal

pub returns-clause-rest : goal.returns-clause-rest
unfolding changed decision decided carry act turn update_keeping
returns-clause-rest c = refl

pub returns-clause-rest_told : goal.returns-clause-rest_told
unfolding changed decision decided carry act turn update_keeping
returns-clause-rest_told c = refl

pub returns-clause-none : goal.returns-clause-none
unfolding changed decision decided carry act turn update_keeping
returns-clause-none c = refl

pub returns-clause-none_told : goal.returns-clause-none_told
unfolding changed decision decided carry act turn update_keeping
returns-clause-none_told c = refl

pub returns-clause-over : goal.returns-clause-over
unfolding changed decision decided carry act turn update_keeping
returns-clause-over c = refl

pub returns-clause-nobody : goal.returns-clause-nobody
unfolding changed decision decided carry act turn update_keeping
returns-clause-nobody c = refl

pub returns-clause-early : goal.returns-clause-early
unfolding changed decision decided carry act turn update_keeping
returns-clause-early c = refl

pub returns-clause-commits : goal.returns-clause-commits
unfolding changed decision decided carry act turn update_keeping
returns-clause-commits c = refl

pub returns-clause-commits_told : goal.returns-clause-commits_told
unfolding changed decision decided carry act turn update_keeping
returns-clause-commits_told c = refl

pub returns-clause-forbidden : goal.returns-clause-forbidden
unfolding changed decision decided carry act turn update_keeping
returns-clause-forbidden c = refl
