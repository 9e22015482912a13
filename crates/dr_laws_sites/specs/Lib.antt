pub mod FirstSite
pub mod CutMoments
pub mod BothLost
pub mod Example
