-- Read first: `LineLemmas.antt`: what clap makes of words that have a command's form; `SweepLemmas.antt`: the same of the program of sweeps,
-- `CompareLemmas.antt`: of the words of a comparison.
mod HyphenLemmas
mod LineLemmas
mod SweepLemmas
mod CompareLemmas
