-- How many device writes each server of a disaster makes in a tried step before the disaster.
use Rattle.std.specs.Prelude.{ℕ, ◌+◌, ◌-◌, ◌^◌, List, [], ◌∷◌, slice_get, slice_set, Option, Some, None, Result, Ok, replicate, if◌then◌else◌}
use Rattle.std.specs.Option.{option_map_or}
use Rattle.std.specs.Str.{bytes_eq}
use Rattle.dr_model.specs.declared.step.Name.{Name}
use Rattle.dr_model.specs.declared.step.Step.{Step}
use Rattle.dr_model.specs.declared.step.Step.TheVariants.{Start, Stop}
use Rattle.dr_model.specs.Grammar.{line_of}
use Rattle.dr_model.specs.LineText.{name_text}
use Rattle.dr_plan.specs.Points.{count_at}
use Rattle.dr_plan.specs.Sweep.{Sweep, Tried, most_servers}
use Rattle.dr_sweep.specs.Comes.{name_at}
use Rattle.dr_sweep.specs.declared.reach.FirstStop.{FirstStop}
use Rattle.dr_sweep.specs.declared.reach.FirstStop.TheVariants.{Own, Other, Nobody}

-- By the steps of a line: the count of the first device write of that server that a fuse can cut short. A start takes away a fuse that is at 0, and no
-- other server makes a device write in it; in a line that stops a server none does. Where there is no such write, the count is the greatest of a fuse.
abbrev pub first_by : Name → Result (List Step) ℕ → ℕ
first_by name (Ok (Start server ∷ [])) = if bytes_eq (name_text server) (name_text name) then 1 else 2 ^ 32 - 1
first_by name (Ok (Stop server ∷ [])) = 2 ^ 32 - 1
first_by name _ = 0

-- of a line
abbrev pub first_in : Name → List ℕ → ℕ
first_in name line = first_by name (line_of line)

-- of a server of a disaster in a tried step
abbrev pub first_write : Sweep → ℕ → ℕ → ℕ → ℕ
first_write plan disaster place server = option_map_or (λ name. option_map_or (λ (t : Tried). first_in name t.text) (slice_get plan.tried place) 0) (name_at plan disaster server) 0

-- the counts with another one for the server at a place
abbrev pub with_count : ℕ → ℕ → List ℕ → List ℕ
with_count place count writes = slice_set writes place count

-- the counts with one more for it
abbrev pub one_more : ℕ → List ℕ → List ℕ
one_more place writes = with_count place (count_at writes place + 1) writes

-- those of a server's device write of that number, if the others make none before it
abbrev pub first_counts : ℕ → ℕ → List ℕ
first_counts server write = with_count server write (replicate most_servers 0)

-- by a first stop in a tried step, the server whose count is one too few; there is none if no server stops
abbrev pub raised : ℕ → FirstStop → Option ℕ
raised server Own = Some server
raised server Nobody = None
raised server (Other other) = Some other
