pub mod StepLemmas
pub mod PassLemmas
pub mod EndLemmas
pub mod HoldLemmas
