-- Read first: `RoundLemmas.turn`: the text of the rounds that are left.
pub mod RoundLemmas
pub mod ScriptLength
