-- Read first: `PutLemmas.antt`: old or new. What a list of writes does stands in `WriteLists.antt` of `dr_plant`.
pub mod TakenLemmas
pub mod PutLemmas
