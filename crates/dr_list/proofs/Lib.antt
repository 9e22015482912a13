-- Read first: `TextLemmas.antt`: the text event by event; `TextChecks.antt`: answers and listings as they print.
pub mod TextLemmas
pub mod TextChecks
