-- Why the sweep of a plan comes to nothing, by the call that failed.
use Rattle.std.proofs.Common.{inl, inr}
use Rattle.dr_plan.specs.Points.{calm_script}
use Rattle.dr_plan.specs.Sweep.{Sweep}
use Rattle.dr_sweep.specs.Apart.{FailsApart, IsTakenApart}
use Rattle.dr_sweep.specs.Comes.{FailsOn}
use Rattle.dr_sweep.specs.Compare.{FailsSwept}
use Rattle.dr_sweep.specs.Parts.{FailsAtPart}
use Rattle.dr_sweep.specs.declared.fault.PointFault.{PointFault}
use Rattle.dr_sweep.specs.declared.fault.PointFault.TheVariants.{NoMemory, TooLong}

pub apart-fails : (plan : Sweep) (fault : PointFault) → FailsApart plan fault → FailsSwept plan fault
apart-fails plan NoMemory why = why
apart-fails plan TooLong why = inl why

module _ (plan tried : Sweep) (apart : IsTakenApart plan tried) where
  pub calm-fails : (fault : PointFault) → FailsOn (calm_script plan) fault → FailsSwept plan fault
  calm-fails NoMemory why = why
  calm-fails TooLong why = inr (tried, apart, inl why)

  pub rows-fail : (fault : PointFault) → FailsAtPart tried fault → FailsSwept plan fault
  rows-fail NoMemory why = why
  rows-fail TooLong why = inr (tried, apart, inr why)
