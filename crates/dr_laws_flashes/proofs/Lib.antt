-- Read first: `Waits.antt`: no landed write waits on a volume with a flash hold, from each moment to the next; `Stays.antt`: which lists and waiting writes
-- a step of a run leaves; `Lasts.antt`: along a stretch of moments; `Takes.antt`: what the step leaves in which a target takes its source's tracks;
-- `Windows.antt`: the laws. Moments are the chain of the freeze windows (`Chain` in `Windows.antt` of `dr_laws_freezes`), one step of which is a move
-- done, a move in a stop, an acknowledgement, or nothing that matters. Lists stay here, where they grow there: no partner, no mirrored write, and no
-- invariant of the window but the lists themselves.
pub mod Waits
pub mod Stays
pub mod Lasts
pub mod Acked
pub mod Takes
pub mod Windows
pub mod EndsInCut
