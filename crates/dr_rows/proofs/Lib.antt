-- Read first: `TextLemmas.antt`: a text piece by piece; `RangeLemmas.antt`: what is said of one number more; `PlaceLemmas.antt`: rows by
-- place, one row more; `CountLemmas.antt`: how many findings there are. A definition with long fixed words is `unfoldable`, and each of its words is given to `pieces`.
pub mod TextLemmas
pub mod RangeLemmas
pub mod StepLemmas
pub mod PlaceLemmas
pub mod CountLemmas
