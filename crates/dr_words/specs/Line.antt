-- The command line as clap's definitions see it, and what its matches say.
use Rattle.std.specs.Prelude.{ℕ, ◌==◌, ◌-◌, ◌^◌, Bool, true, false, not, ◌&&◌, ◌||◌, String, List, [], ◌∷◌, Option, Some, None, codes, if◌then◌else◌, option_and_then}
use Rattle.std.specs.Option.{option_map}
use Rattle.std.specs.Str.{bytes_eq}
use Rattle.std.specs.String.{string_bytes}
use Rattle.std.specs.declared.alloc.Global.{Global}
use Rattle.clap.specs.Words.{App, Row, Rule, Text, first_of, new_app, new_rule, with_rule, with_subcommand}
use Rattle.dr_ids.specs.Spelling.{number_word, session_word}
use Rattle.dr_ids.specs.declared.names.SessionId.{SessionId}
use Rattle.dr_words.specs.declared.words.Command.{Command}
use Rattle.dr_words.specs.declared.words.Command.TheVariants.{Run, Recover, Trial}

-- a word that begins with a hyphen
abbrev pub is_option : Text → Bool
is_option [] = false
is_option (first ∷ rest) = first == 45

-- the commands that another word is to follow
abbrev pub takes_value : Text → Bool
takes_value name = bytes_eq name (codes "recover") || bytes_eq name (codes "trial")

-- one word for `run`, or two for `recover` and `trial`, of which none begins with a hyphen
abbrev pub has_form : List (String Global) → Bool
has_form (name ∷ []) = bytes_eq (string_bytes name) (codes "run")
has_form (name ∷ value ∷ []) = takes_value (string_bytes name) && not (is_option (string_bytes value))
has_form words = false

-- a value that has to be there
abbrev pub value_rule : Text → Rule
value_rule id = record (new_rule id) { required = true }

-- a subcommand with one such value
abbrev pub valued : Text → Text → App
valued name id = with_rule (new_app name) (value_rule id)

-- the program without its name, help and options; a subcommand has to be there
abbrev pub bare_program : App
bare_program = record (new_app (codes "drsim")) {
  top = record (new_app (codes "drsim")).top {
    no_binary_name = true;
    disable_help_flag = true;
    disable_help_subcommand = true;
    subcommand_required = true;
  };
}

-- the command line: `run`, `recover` and `trial`
abbrev pub command_line : App
command_line =
    with_subcommand (with_subcommand (with_subcommand bare_program (new_app (codes "run")).top)
    (valued (codes "recover") (codes "session")).top) (valued (codes "trial") (codes "number")).top

-- the session in what was found for `recover`
abbrev pub session_in : List Row → Option SessionId
session_in rows = option_and_then session_word (first_of (codes "session") rows)

-- the number in what was found for `trial`
abbrev pub number_in : List Row → Option ℕ
number_in rows = option_and_then (number_word (2 ^ 32 - 1)) (first_of (codes "number") rows)

-- the command of a subcommand's name and of what was found for it
abbrev pub named_command : Text → List Row → Option Command
named_command name rows =
    if bytes_eq name (codes "run") then Some Run
    else if bytes_eq name (codes "recover") then option_map (λ session. Recover session) (session_in rows)
    else if bytes_eq name (codes "trial") then option_map (λ number. Trial number) (number_in rows)
    else None

-- the command of the subcommand that was met
abbrev pub met_command : Option (Text × List Row) → Option Command
met_command met = option_and_then (λ p. named_command p.0 p.1) met
