-- **A law on what a step answers.** A plan that only tells events is `Tells` (`Listing.antt`): what it tells, if it isn't refused, and what of the
-- world stays, since no server goes off in it. The devices come last, by the records that `Fits` gives. What a plan of entries leaves is `Gives`
-- (`Answered.antt`): where it is answered ok, its entries led on, and no server stopped in them. An entry for each volume is `all` of `Holds.antt`,
-- by what one of them does. How many events of a kind entries tell is counted over the whole journal (`Told.antt`): moves that tell none are
-- `Quiet`, and each round of a drain or a copy adds one.
pub mod Listing
pub mod Answered
pub mod Holds
pub mod Settings
pub mod Told
pub mod DrainCounts
pub mod CopyCounts
pub mod Counts
pub mod Example
pub mod Answers
