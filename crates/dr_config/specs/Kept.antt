-- The table that a configuration stands for.
use Rattle.std.specs.Prelude.{ℕ, Bool, List, map, Vec}
use Rattle.std.specs.declared.alloc.Global.{Global}
use Rattle.dr_ids.specs.Paths.{Path}
use Rattle.dr_config.specs.declared.entries.VolumeEntry.{VolumeEntry}
use Rattle.dr_config.specs.declared.paths.Ends.{Ends}
use Rattle.dr_config.specs.Table.{ConfigTable}

-- The bytes of each name.
abbrev pub names_of : List (Vec ℕ Global) → List (List ℕ)
names_of servers = map (λ (n : Vec ℕ Global). n.items) servers

-- The path with these ends, and with or without a consistency group.
abbrev pub path_of : Ends × Bool → Path
path_of e = record { src = e.0.src; tgt = e.0.tgt; group = e.1 }

-- The paths, by their ends.
abbrev pub paths_of : List (Ends × Bool) → List Path
paths_of paths = map path_of paths

-- The table of these servers, volumes, rows of links, and paths by their ends.
abbrev pub table_of : List (Vec ℕ Global) → List VolumeEntry → List (List Bool) → List (Ends × Bool) → ConfigTable
table_of servers entries rows paths = record { names = names_of servers; volumes = entries; down = rows; paths = paths_of paths }
