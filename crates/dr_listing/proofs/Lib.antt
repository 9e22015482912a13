-- Read first: `TakenLemmas.antt`: what is told of the first elements of a list; `SeatLemmas.antt`: sessions by their places;
-- `KeptLemmas.antt`: a device from its blocks that aren't all zero; `ImageLemmas.antt`: images of a plant.
-- - **A loop over a list by places**: the events are those of the begin with `flat_map g (filter p (take i xs))`, and one lemma
--   (`chosen-next`) makes it one element more.
pub mod TakenLemmas
pub mod SeatLemmas
pub mod KeptLemmas
pub mod ImageLemmas
