-- Read first: `Along.antt`: what holds of each moment of a run, beside what chains of moments have (`Chain` of dr_laws_freezes), and what lasts from a
-- moment to the run's end. The pair law and what is due on both volumes then give what the second site shows (`FirstSite.antt`).
-- In the example of a committed group `Steps.antt` has the steps in which a set of tracks decides, since of sets nothing computes; the rest of the run
-- computes (`Committed.antt`).
pub mod Along
pub mod FirstSite
pub mod CutMoments
pub mod BothLost
pub mod Example
pub mod Steps
pub mod Committed
