-- Read first: `Turns.antt`: one member more; a `for` over a `zip` by `zip_turn` and `zip_end`, with each iterator written
-- out.
pub mod Turns
