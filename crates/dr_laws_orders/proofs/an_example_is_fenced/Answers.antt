use Rattle.std.proofs.Common.{inl, inr, refl, arith}
use Rattle.dr_model.specs.Sessions.{changed}
use Rattle.dr_model.specs.Carry.{carry, act, turn, update_keeping}
use Rattle.dr_laws_attempts.specs.Example.{second}
use Rattle.dr_laws_orders.proofs.an_example_is_fenced.Goals as goal

pub returns-clause-before : goal.returns-clause-before
unfolding changed
returns-clause-before c = (tt, record { order = record { here = inl refl; session = refl; starts = 0; asks = refl }; number = refl; earlier = omega arith; member = second; here = inr (inl refl); to = refl })

pub returns-clause-old : goal.returns-clause-old
unfolding changed carry act turn update_keeping
returns-clause-old c = refl

pub returns-clause-old_tells : goal.returns-clause-old_tells
unfolding changed carry act turn update_keeping
returns-clause-old_tells c = refl

pub returns-clause-new_tells : goal.returns-clause-new_tells
unfolding changed carry act turn update_keeping
returns-clause-new_tells c = refl
