pub mod ThawLemmas
pub mod BetweenLemmas
pub mod PassLemmas
pub mod EndLemmas
pub mod OwnerLemmas
