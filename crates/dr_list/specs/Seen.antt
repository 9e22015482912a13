-- What a table of names and a track tell.
use Rattle.std.specs.Prelude.{ℕ, List, take, Option, Some, None, slice_index_or}
use Rattle.dr_model.specs.declared.step.Name.{Name}
use Rattle.dr_model.specs.Text.{Heard}
use Rattle.dr_list.specs.declared.told.Heard as table

-- the name in an entry of the table
abbrev pub name_of : Option Name → Option (List ℕ)
name_of None = None
name_of (Some name) = Some (take name.len name.bytes)

-- the name of each server, and none past the last number that a server may have
abbrev pub names_of : List (Option Name) → ℕ → Option (List ℕ)
names_of names s = name_of (slice_index_or names s None)

-- as the text refers to them
unfoldable pub heard_seen : table.Heard → Heard
heard_seen told = record { names = names_of told.names; shown = told.shown }
