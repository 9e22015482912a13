-- Read first: `Lookups.antt`: where look-ups agree; `Sound.antt`: what stays true; `Devices.antt`: the table stands for
-- the plant.
-- - A table that finds the elements of a list: `found ≡ position .. list` for each number (`IsKeptList`,
--   `dr_config/specs/Volumes.antt`); the laws of one more are in `VolumeLaws.antt`.
-- - A table of truth values with a default is an array whose reader is total (`is_down`).
pub mod Lists
pub mod LinkLaws
pub mod KeyLaws
pub mod PathLaws
pub mod Lookups
pub mod Sound
pub mod VolumeLaws
pub mod KeptLaws
pub mod Devices
