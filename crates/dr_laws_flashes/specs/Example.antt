-- An example of a write, for what events reach.
use Rattle.std.specs.Prelude.{ℕ, nat_eq, if◌then◌else◌}
use Rattle.dr_model.specs.Histories.{Write, no_write}

-- write 3 is one for track 1 of volume 8, and no other was issued
abbrev pub third_write : ℕ → Write
third_write n = if nat_eq n 3 then record no_write { volume = 8; track = 1 } else no_write
