-- The commands that words name.
use Rattle.std.specs.Prelude.{List, [], ◌∷◌, ◌-◌, ◌^◌, Option, Some, None, String, codes, if◌then◌else◌}
use Rattle.std.specs.Option.{option_map}
use Rattle.std.specs.Str.{bytes_eq}
use Rattle.std.specs.String.{string_bytes}
use Rattle.std.specs.declared.alloc.Global.{Global}
use Rattle.dr_ids.specs.Spelling.{number_word, session_word}
use Rattle.dr_words.specs.declared.words.Command.{Command}
use Rattle.dr_words.specs.declared.words.Command.TheVariants.{Run, Recover, Trial}

-- `run`; `recover` with a session in two hexadecimal digits, which aren't 00; `trial` with a number below 2^32 in one to
-- ten decimal digits. No other words name a command.
abbrev pub command_of : List (String Global) → Option Command
command_of (name ∷ []) = if bytes_eq (string_bytes name) (codes "run") then Some Run else None
command_of (name ∷ value ∷ []) =
    if bytes_eq (string_bytes name) (codes "recover") then option_map (λ session. Recover session) (session_word (string_bytes value))
    else if bytes_eq (string_bytes name) (codes "trial") then option_map (λ number. Trial number) (number_word (2 ^ 32 - 1) (string_bytes value))
    else None
command_of words = None
