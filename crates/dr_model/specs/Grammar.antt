-- The steps of a line, or the column of the first word that can't stand where it stands.
use Rattle.std.specs.Prelude.{ℕ, ◌+◌, Bool, false, not, ◌&&◌, ◌||◌, List, [], ◌∷◌, ◌++◌, length, map, nat_eq, nat_le, nat_lt, Option, Some, None, Result, Ok, Err, slice_get, if◌then◌else◌}
use Rattle.std.specs.Bool.{beq}
use Rattle.std.specs.List.{list_all}
use Rattle.std.specs.Option.{option_map, is_none}
use Rattle.std.specs.Str.{bytes_eq}
use Rattle.dr_model.specs.declared.step.Step.{Step}
use Rattle.dr_model.specs.declared.grammar.Command.{Command}
use Rattle.dr_model.specs.declared.grammar.Command.TheVariants.{Mksession, Chsession}
use Rattle.dr_model.specs.declared.grammar.Setting.{Setting}
use Rattle.dr_model.specs.declared.grammar.Operand.{Operand}
use Rattle.dr_model.specs.declared.grammar.Item.{Item}
use Rattle.dr_model.specs.declared.grammar.LinePlace.{LinePlace}
use Rattle.dr_model.specs.declared.grammar.Options.{Options}
use Rattle.dr_model.specs.LineWords.{Word, line_words, onto, ◌>>=◌}
use Rattle.dr_model.specs.LineTable.{command_word, commands, setting_word, settings, needed, operands, repeats, may_end_with, own_steps}
use Rattle.dr_model.specs.LineSteps.{is_flag, has, flagged, valued, setting_items, operand_value, operand_items, no_options, no_operands, or_zero, step_of}

-- what was read of a line: the place that was reached, and the items so far
pub record Reading : Type 0 where
  pub place : LinePlace
  pub items : List Item

-- the command of a list of which a word is the name
unfoldable pub command_named : List Command → List ℕ → Option Command
command_named [] word = None
command_named (c ∷ cs) word = if bytes_eq word (command_word c) then Some c else command_named cs word

-- the option of a list of which a word is the name
unfoldable pub setting_named : List Setting → List ℕ → Option Setting
setting_named [] word = None
setting_named (s ∷ ss) word = if bytes_eq word (setting_word s) then Some s else setting_named ss word

-- options stand before operands
abbrev pub setting_at : LinePlace → List ℕ → Option Setting
setting_at place word = if nat_eq place.filled 0 then setting_named (settings place.command) word else None

-- `-cascade` was given with another type than Global Copy
abbrev pub cascades_metro : Options → Bool
cascades_metro o = o.cascade && not (nat_eq (or_zero o.kind) 2)

-- no needed option is missing, of `-unconditional` and `-at` both were given or neither, and `-cascade` isn't given with Metro Mirror
abbrev pub is_ready : LinePlace → Bool
is_ready place =
    list_all (λ setting. has setting place.options) (needed place.command) && beq place.options.unconditional place.options.at_source && not (cascades_metro place.options)

-- the operand, where it may be repeated
abbrev pub again : Option Operand → Option Operand
again None = None
again (Some operand) = if repeats operand then Some operand else None

-- the operand at a place, or the first again
abbrev pub or_again : Option Operand → Option Operand → Option Operand
or_again None first = again first
or_again (Some operand) first = Some operand

-- the operand that stands next; none where none may
abbrev pub next_operand : LinePlace → Option Operand
next_operand place = or_again (slice_get (operands place.command) place.filled) (slice_get (operands place.command) 0)

-- one place more is filled, unless all are
abbrev pub filled_after : LinePlace → ℕ
filled_after place = if nat_lt place.filled (length (operands place.command)) then place.filled + 1 else place.filled

-- the most steps of a line
abbrev pub most_steps : ℕ
most_steps = 1024

-- the items and the own step of a command are no more than a line makes
abbrev pub is_within : Command → List Item → Bool
is_within command items = nat_le (own_steps command + length items) most_steps

-- the items, unless they are too many
abbrev pub grown : Command → List Item → Option (List Item)
grown command items = if is_within command items then Some items else None

-- a word that is the value of an option
abbrev pub value_read : Reading → Setting → List ℕ → Option Reading
value_read r setting word =
    valued setting word r.place.options >>= λ o. onto r.items (setting_items setting word) >>= λ all. grown r.place.command all >>= λ items.
    Some (record { place = record r.place { awaited = None; options = o }; items = items })

-- a word that names an option, which may be given once
abbrev pub setting_read : LinePlace → Setting → Option LinePlace
setting_read place setting =
    if has setting place.options then None
    else if is_flag setting then Some (record place { options = flagged setting place.options })
    else Some (record place { awaited = Some setting })

-- a place with the items so far
abbrev pub with_items : List Item → Option LinePlace → Option Reading
with_items items place = option_map (λ p. record { place = p; items = items }) place

-- a word that is an operand
abbrev pub operand_read : Reading → Operand → List ℕ → Option Reading
operand_read r operand word =
    operand_value operand word r.place.operands >>= λ p. onto r.items (operand_items operand word) >>= λ all. grown r.place.command all >>= λ items.
    Some (record { place = record r.place { filled = filled_after r.place; operands = p }; items = items })

-- a word that stands where an operand may
abbrev pub next_read : Reading → List ℕ → Option Operand → Option Reading
next_read r word None = None
next_read r word (Some operand) = if is_ready r.place then operand_read r operand word else None

-- a word that names an option, or is an operand
abbrev pub named_read : Reading → List ℕ → Option Setting → Option Reading
named_read r word None = next_read r word (next_operand r.place)
named_read r word (Some setting) = with_items r.items (setting_read r.place setting)

-- a word that is the value of the awaited option, or else an option or an operand
abbrev pub awaited_read : Reading → List ℕ → Option Setting → Option Reading
awaited_read r word None = named_read r word (setting_at r.place word)
awaited_read r word (Some setting) = value_read r setting word

-- what is read after one word more: an option's value, an option, or an operand; none where the word can't stand there
unfoldable pub read_on : Reading → List ℕ → Option Reading
read_on r word = awaited_read r word r.place.awaited

-- no option waits for its value
abbrev pub awaits_nothing : Option Setting → Bool
awaits_nothing setting = is_none setting

-- all operands stand, or as many as the line may end with
abbrev pub is_filled : LinePlace → Bool
is_filled place = nat_eq place.filled (length (operands place.command)) || nat_eq place.filled (may_end_with place.command)

-- no value is awaited, no needed option is missing, and enough operands stand
unfoldable pub may_end : LinePlace → Bool
may_end place = awaits_nothing place.awaited && is_ready place && is_filled place

-- the command whose steps the items are: those of `mksession` are added as by `chsession`
abbrev pub item_command : Command → Command
item_command Mksession = Chsession
item_command command = command

-- the item of a step that has none
abbrev pub no_item : Item
no_item = record { first = 0; second = 0 }

-- the command's own step, where it makes one
abbrev pub own_step : LinePlace → List Step
own_step place = if nat_eq (own_steps place.command) 0 then [] else step_of place.command place.options place.operands no_item ∷ []

-- a step for each item
abbrev pub item_steps : LinePlace → List Item → List Step
item_steps place items = map (step_of (item_command place.command) place.options place.operands) items

-- the command's own step, and then one for each item
unfoldable pub steps_of : Reading → List Step
steps_of r = own_step r.place ++ item_steps r.place r.items

-- the words of a line are read from left to right; where one is missing, its column is one past the line's end
unfoldable pub read_words : ℕ → Reading → List Word → Result (List Step) ℕ
read_words past r [] = if may_end r.place then Ok (steps_of r) else Err past
read_words past r (word ∷ words) = elim (read_on r word.bytes) as (λ _. Result (List Step) ℕ) [ None ↦ Err word.column | Some next ↦ read_words past next words ]

-- what was read behind the word of a command
abbrev pub start_of : Command → Reading
start_of command = record {
  place = record { command = command; awaited = None; filled = 0; options = no_options; operands = no_operands };
  items = [];
}

-- a line whose first word stands in that column and names that command, or none
abbrev pub command_read : ℕ → ℕ → List Word → Option Command → Result (List Step) ℕ
command_read past column words None = Err column
command_read past column words (Some command) = read_words past (start_of command) words

-- the steps of the words of a line; none where there are no words
abbrev pub words_read : ℕ → List Word → Result (List Step) ℕ
words_read past [] = Ok []
words_read past (word ∷ words) = command_read past word.column words (command_named commands word.bytes)

-- a line whose first byte is `#` is no step
abbrev pub begins_comment : List ℕ → Bool
begins_comment [] = false
begins_comment (b ∷ bs) = nat_eq b 35

-- the most bytes of a line
abbrev pub most_bytes : ℕ
most_bytes = 1024

-- the steps of a line, or the column of its first fault
unfoldable pub line_of : List ℕ → Result (List Step) ℕ
line_of line =
    if begins_comment line then Ok []
    else if nat_lt most_bytes (length line) then Err (most_bytes + 1)
    else words_read (length line + 1) (line_words line)
