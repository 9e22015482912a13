-- What a point's row says of its run.
use Rattle.std.specs.Prelude.{◌≡◌, take}
use Rattle.dr_plan.specs.declared.points.Point.{Point}
use Rattle.dr_plan.specs.Sweep.{Sweep}
use Rattle.dr_rows.specs.Outcome.{Outcome}
use Rattle.dr_sweep.specs.Acks.{newest_in}
use Rattle.dr_sweep.specs.Answers.{answers_of}
use Rattle.dr_sweep.specs.Comes.{PointTold}
use Rattle.dr_sweep.specs.Losses.{AreLosses}

-- the row of a point of whose run this was told
pub record IsRow (plan : Sweep) (point : Point) (told : PointTold) (row : Outcome) : Type 0 where
  pub point_is : row.point ≡ point
  pub phases : row.phases ≡ told.phases
  pub answers : row.answers ≡ answers_of told.before told.events
  pub members : row.members ≡ told.members
  pub newest : row.newest ≡ newest_in (take told.begin told.events)
  pub losses : AreLosses told.events told.begin plan.uses row.losses
