-- What lines define, as a matter of text: whether their steps are carried out or refused isn't asked.
use Rattle.std.specs.Prelude.{ℕ, Bool, List, [], nat_eq, find, Option, Some, None, Result, Ok, Err}
use Rattle.std.specs.List.{filter_map, flat_map, list_any}
use Rattle.std.specs.Option.{option_map}
use Rattle.std.specs.Str.{bytes_eq}
use Rattle.dr_model.specs.declared.step.Name.{Name}
use Rattle.dr_model.specs.declared.step.Step.{Step}
use Rattle.dr_model.specs.declared.step.Step.TheVariants.{Server, Volume}
use Rattle.dr_model.specs.Grammar.{line_of}
use Rattle.dr_model.specs.LineText.{name_text}
use Rattle.dr_plan.specs.declared.above.VolumeSize.{VolumeSize}

-- what was made, unless there is a reason against it
abbrev pub unless : {A B : Type 0} → Option B → A → Result A B
unless None made = Ok made
unless (Some reason) made = Err reason

-- the steps that were read of a line; a line with a fault has none
abbrev pub steps_read : Result (List Step) ℕ → List Step
steps_read (Ok steps) = steps
steps_read (Err column) = []

-- the steps of a line
abbrev pub line_steps : List ℕ → List Step
line_steps line = steps_read (line_of line)

-- the steps of lines, in order
abbrev pub steps_of : List (List ℕ) → List Step
steps_of lines = flat_map line_steps lines

-- the server that a step defines
abbrev pub server_in : Step → Option Name
server_in (Server name) = Some name
server_in _ = None

-- the volume that a step defines, and its size
abbrev pub volume_in : Step → Option VolumeSize
volume_in (Volume volume server tracks) = Some (record { volume = volume; tracks = tracks })
volume_in _ = None

-- the servers that lines define
abbrev pub servers_in : List (List ℕ) → List Name
servers_in lines = filter_map server_in (steps_of lines)

-- the volumes that lines define
abbrev pub volumes_in : List (List ℕ) → List VolumeSize
volumes_in lines = filter_map volume_in (steps_of lines)

-- the name is one of these
abbrev pub is_among : Name → List Name → Bool
is_among name names = list_any (λ (other : Name). bytes_eq (name_text other) (name_text name)) names

-- this is the size of that volume
abbrev pub is_size_of : ℕ → VolumeSize → Bool
is_size_of volume size = nat_eq size.volume volume

-- how many tracks the first of these sizes gives a volume
abbrev pub tracks_of : List VolumeSize → ℕ → Option ℕ
tracks_of sizes volume = option_map (λ (s : VolumeSize). s.tracks) (find (is_size_of volume) sizes)

-- the lines define a server of that name
abbrev pub defines_server : List (List ℕ) → Name → Bool
defines_server lines name = is_among name (servers_in lines)

-- how many tracks the first line that defines a volume gives it
abbrev pub tracks_in : List (List ℕ) → ℕ → Option ℕ
tracks_in lines volume = tracks_of (volumes_in lines) volume
