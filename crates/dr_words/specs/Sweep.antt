-- The commands of the program of sweeps that words name.
use Rattle.std.specs.Prelude.{ℕ, ◌+◌, ◌-◌, ◌^◌, Bool, List, [], ◌∷◌, map, take, drop, nat_eq, Option, Some, None, String, string_bytes, codes, if◌then◌else◌, option_and_then}
use Rattle.std.specs.List.{list_any, position}
use Rattle.std.specs.Str.{bytes_eq}
use Rattle.std.specs.declared.alloc.Global.{Global}
use Rattle.dr_ids.specs.Spelling.{number_word}
use Rattle.dr_words.specs.Line.{is_option}
use Rattle.dr_words.specs.declared.sweep.PlanLine.{PlanLine}
use Rattle.dr_words.specs.declared.sweep.SweepCommand.{SweepCommand}
use Rattle.dr_words.specs.declared.sweep.SweepCommand.TheVariants.{Report, Rows, Picture, Json, CutScript, GapScript}
use Rattle.dr_words.specs.declared.sweep.TornBytes.{TornBytes}
use Rattle.dr_words.specs.declared.sweep.TornBytes.TheVariants.{Unchanged, Zeros, Ones}

-- a number below 2^32 in one to ten decimal digits
abbrev pub counted : List ℕ → Option ℕ
counted word = number_word (2 ^ 32 - 1) word

-- a number from 1 on
abbrev pub ordinal_in : Option ℕ → Option ℕ
ordinal_in None = None
ordinal_in (Some n) = if nat_eq n 0 then None else Some n

-- a number from 1 on, in one to ten decimal digits
abbrev pub ordinal : List ℕ → Option ℕ
ordinal word = ordinal_in (counted word)

-- the bytes before a dot at that place
abbrev pub before_dot : ℕ → List ℕ → List ℕ
before_dot dot word = take dot word

-- the bytes after it
abbrev pub after_dot : ℕ → List ℕ → List ℕ
after_dot dot word = drop (dot + 1) word

-- a line of the plan, or the part of it that is named after a dot at that place
abbrev pub plan_line_cut : List ℕ → Option ℕ → Option PlanLine
plan_line_cut word None = option_and_then (λ line. Some (record { line = line; part = 0 })) (ordinal word)
plan_line_cut word (Some dot) = option_and_then (λ line. option_and_then (λ part. Some (record { line = line; part = part })) (ordinal (after_dot dot word))) (ordinal (before_dot dot word))

-- `LINE` or `LINE.PART`
abbrev pub plan_line_said : List ℕ → Option PlanLine
plan_line_said word = plan_line_cut word (position (λ b. nat_eq b 46) word)

-- `none`, `00` and `01`
abbrev pub torn_said : List ℕ → Option TornBytes
torn_said word = if bytes_eq word (codes "none") then Some Unchanged else if bytes_eq word (codes "00") then Some Zeros else if bytes_eq word (codes "01") then Some Ones else None

-- `LINE[.PART] gap DISASTER`
abbrev pub gap_said : List ℕ → List ℕ → List ℕ → Option SweepCommand
gap_said line gap disaster =
    if bytes_eq gap (codes "gap")
    then option_and_then (λ l. option_and_then (λ d. Some (GapScript d l)) (counted disaster)) (plan_line_said line)
    else None

-- `LINE[.PART] SERVER WRITE TORN DISASTER`
abbrev pub cut_said : List ℕ → List ℕ → List ℕ → List ℕ → List ℕ → Option SweepCommand
cut_said line server write torn disaster =
    option_and_then (λ l. option_and_then (λ w. option_and_then (λ t. option_and_then (λ d. Some (CutScript d l server w t)) (counted disaster)) (torn_said torn)) (counted write)) (plan_line_said line)

-- The words of a point. A disaster that is left out is the first one.
abbrev pub point_said : List (List ℕ) → Option SweepCommand
point_said (line ∷ gap ∷ []) = gap_said line gap (codes "1")
point_said (line ∷ gap ∷ disaster ∷ []) = gap_said line gap disaster
point_said (line ∷ server ∷ write ∷ torn ∷ []) = cut_said line server write torn (codes "1")
point_said (line ∷ server ∷ write ∷ torn ∷ disaster ∷ []) = cut_said line server write torn disaster
point_said words = None

-- a word begins with a hyphen
abbrev pub has_option : List (String Global) → Bool
has_option words = list_any (λ (word : String Global). is_option (string_bytes word)) words

-- No words are the report; one is `rows`, `picture` or `json`; `script` has the words of a point after it, of which none begins with a
-- hyphen. No other words name a command.
abbrev pub sweep_command_of : List (String Global) → Option SweepCommand
sweep_command_of [] = Some Report
sweep_command_of (name ∷ []) =
    if bytes_eq (string_bytes name) (codes "rows") then Some Rows
    else if bytes_eq (string_bytes name) (codes "picture") then Some Picture
    else if bytes_eq (string_bytes name) (codes "json") then Some Json
    else None
sweep_command_of (name ∷ rest) =
    if bytes_eq (string_bytes name) (codes "script") then (if has_option rest then None else point_said (map string_bytes rest)) else None
