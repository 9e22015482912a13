-- Read first: `Sets.antt`: bits as lists of servers; `Reported.antt`: two reports in one.
pub mod Sets
pub mod Reported
