-- Read first: `NumberedLemmas.antt`: what is said of the things that are left; `OrderLemmas.antt`: the columns of a panel are in order.
pub mod NumberedLemmas
pub mod OrderLemmas
