-- The command line of the program of sweeps as clap's definitions see it, and what its matches say.
use Rattle.std.specs.Prelude.{Bool, true, not, ◌&&◌, ◌||◌, String, string_bytes, List, [], ◌∷◌, length, nat_le, Option, Some, None, codes, if◌then◌else◌, option_and_then}
use Rattle.std.specs.Str.{bytes_eq}
use Rattle.std.specs.declared.alloc.Global.{Global}
use Rattle.clap.specs.Words.{App, Row, Rule, Text, all_of, new_app, new_rule, with_rule, with_subcommand}
use Rattle.dr_words.specs.Sweep.{has_option, point_said}
use Rattle.dr_words.specs.declared.sweep.SweepCommand.{SweepCommand}
use Rattle.dr_words.specs.declared.sweep.SweepCommand.TheVariants.{Report, Rows, Picture, Json}

-- the word names what is printed on all points
abbrev pub is_view : Text → Bool
is_view name = bytes_eq name (codes "rows") || bytes_eq name (codes "picture") || bytes_eq name (codes "json")

-- two to five words, of which none begins with a hyphen
abbrev pub is_point : List (String Global) → Bool
is_point words = nat_le 2 (length words) && nat_le (length words) 5 && not (has_option words)

-- no word, the one of a view, or `script` with the words of a point
abbrev pub has_form : List (String Global) → Bool
has_form [] = true
has_form (name ∷ []) = is_view (string_bytes name)
has_form (name ∷ rest) = bytes_eq (string_bytes name) (codes "script") && is_point rest

-- the words of a point, which have to be there
abbrev pub point_rule : Rule
point_rule = record (new_rule (codes "point")) { required = true; range = Some (record { start_inclusive = 2; end_inclusive = 5 }) }

-- the program without its name, help and options
abbrev pub bare_sweep : App
bare_sweep = record (new_app (codes "sweep")) {
  top = record (new_app (codes "sweep")).top {
    no_binary_name = true;
    disable_help_flag = true;
    disable_help_subcommand = true;
  };
}

-- the names of two files, and maybe a word before them
abbrev pub files_rule : Rule
files_rule = record (new_rule (codes "files")) { required = true; range = Some (record { start_inclusive = 2; end_inclusive = 3 }) }

-- the command line: nothing, or `rows`, `picture`, `json`, `script` and `compare`
abbrev pub sweep_line : App
sweep_line =
    with_subcommand
    (with_subcommand (with_subcommand (with_subcommand (with_subcommand bare_sweep (new_app (codes "rows")).top) (new_app (codes "picture")).top) (new_app (codes "json")).top)
    (with_rule (new_app (codes "script")) point_rule).top) (with_rule (new_app (codes "compare")) files_rule).top

-- the command in what was found for `script`
abbrev pub point_in : List Row → Option SweepCommand
point_in rows = option_and_then point_said (all_of (codes "point") rows)

-- the command of a subcommand's name and of what was found for it
abbrev pub named_command : Text → List Row → Option SweepCommand
named_command name rows =
    if bytes_eq name (codes "rows") then Some Rows
    else if bytes_eq name (codes "picture") then Some Picture
    else if bytes_eq name (codes "json") then Some Json
    else point_in rows

-- the command of the subcommand that was met; the report where there was none
abbrev pub met_command : Option (Text × List Row) → Option SweepCommand
met_command None = Some Report
met_command (Some p) = named_command p.0 p.1
