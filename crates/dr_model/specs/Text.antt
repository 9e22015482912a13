-- The text that a journal prints.
use Rattle.std.specs.Prelude.{ℕ, ◌/◌, ◌%◌, Bool, ◌&&◌, List, [], ◌∷◌, ◌++◌, take, nat_eq, nat_le, if◌then◌else◌, Option, Some, None, codes, min, max}
use Rattle.std.specs.List.{flat_map}
use Rattle.std.specs.Fmt.{decimal}
use Rattle.std.specs.Option.{option_or, unwrap_or}
use Rattle.dr_logic.specs.Bytes.{zeros}
use Rattle.dr_ids.specs.Spelling.{hex2, hex4}
use Rattle.dr_model.specs.LineText.{bytes_text, spaced}
use Rattle.dr_model.specs.declared.event.Event.{Event}
use Rattle.dr_model.specs.declared.event.Event.TheVariants.{Server, Shown, PairLine, FlashLine, SessionLine, MirrorLine, ImageStart, ImageVolume, ImageBlock, ImageEnd, Answer}

-- what a line's text refers to: the names of the servers that are defined, and the track that
-- the step at hand has shown
pub record Heard : Type 0 where
  pub names : ℕ → Option (List ℕ)
  pub shown : List ℕ

-- what it refers to before the first event
abbrev pub untold : Heard
untold = record { names = λ s. None; shown = zeros }

-- the name that an event gives a server
abbrev pub name_in : Event → ℕ → Option (List ℕ)
name_in (Server server len name) s = if nat_eq server s then Some (take len name) else None
name_in _ s = None

-- the track that is shown after an event, where it changes: an answer ends its step
abbrev pub shown_in : Event → Option (List ℕ)
shown_in (Shown line v t bytes) = Some bytes
shown_in (Answer line code a b c) = Some zeros
shown_in _ = None

-- a name, once given, stays
abbrev pub heard : Heard → Event → Heard
heard told e = record { names = λ s. option_or (told.names s) (name_in e s); shown = unwrap_or (shown_in e) told.shown }

-- the name that a server was given
abbrev pub told_name : Heard → ℕ → List ℕ
told_name told s = unwrap_or (told.names s) []

-- bytes without the zeros at their end
abbrev pub before_trimmed : ℕ → List ℕ → List ℕ
before_trimmed b [] = if nat_eq b 0 then [] else b ∷ []
before_trimmed b (c ∷ cs) = b ∷ c ∷ cs

-- bytes without the zeros at their end
abbrev pub trimmed : List ℕ → List ℕ
trimmed [] = []
trimmed (b ∷ bs) = before_trimmed b (trimmed bs)

-- a dash in place of no bytes
abbrev pub or_dash : List ℕ → List ℕ
or_dash [] = codes "-"
or_dash (b ∷ bs) = b ∷ bs

-- a track as it is shown: in hexadecimal without the zero bytes at its end, or a dash
abbrev pub track_text : List ℕ → List ℕ
track_text bytes = or_dash (flat_map hex2 (trimmed bytes))

-- the words of values by their places
abbrev pub kind_word : ℕ → List ℕ
kind_word n =
    if nat_eq n 0 then codes "server" else if nat_eq n 1 then codes "volume" else if nat_eq n 2 then codes "lss"
    else if nat_eq n 3 then codes "path" else if nat_eq n 4 then codes "write" else if nat_eq n 5 then codes "session"
    else if nat_eq n 6 then codes "track" else if nat_eq n 7 then codes "master" else if nat_eq n 8 then codes "message" else []

-- the word of a limit
abbrev pub limit_word : ℕ → List ℕ
limit_word n =
    if nat_eq n 0 then codes "servers" else if nat_eq n 1 then codes "volumes" else if nat_eq n 2 then codes "tracks"
    else if nat_eq n 3 then codes "sessions" else if nat_eq n 4 then codes "pending" else if nat_eq n 5 then codes "targets"
    else if nat_eq n 6 then codes "groups" else if nat_eq n 7 then codes "size" else if nat_eq n 8 then codes "server" else if nat_eq n 9 then codes "messages" else []

-- of a phase
abbrev pub phase_word : ℕ → List ℕ
phase_word n =
    if nat_eq n 0 then codes "none" else if nat_eq n 1 then codes "Idle" else if nat_eq n 2 then codes "Coordinating"
    else if nat_eq n 3 then codes "Releasing" else if nat_eq n 4 then codes "Draining" else if nat_eq n 5 then codes "Flashing"
    else if nat_eq n 6 then codes "Committing" else if nat_eq n 7 then codes "Reverting" else if nat_eq n 8 then codes "Finishing"
    else if nat_eq n 9 then codes "Lost" else []

-- of a pair's state
abbrev pub pair_words : ℕ → List ℕ
pair_words n =
    if nat_eq n 0 then codes "Copy Pending" else if nat_eq n 1 then codes "Full Duplex" else if nat_eq n 2 then codes "Suspended"
    else if nat_eq n 3 then codes "Target Copy Pending" else if nat_eq n 4 then codes "Target Full Duplex"
    else if nat_eq n 5 then codes "Target Suspended" else if nat_eq n 6 then codes "none" else []

-- of a relationship's state
abbrev pub relation_word : ℕ → List ℕ
relation_word n =
    if nat_eq n 0 then codes "revertible" else if nat_eq n 1 then codes "reversing" else if nat_eq n 2 then codes "target"
    else if nat_eq n 3 then codes "source" else if nat_eq n 4 then codes "none" else []

-- a decision has one number in parentheses, or two
abbrev pub one_number : ℕ → List ℕ
one_number a = codes "(" ++ decimal a ++ codes ")"

-- two numbers in parentheses
abbrev pub two_numbers : ℕ → ℕ → List ℕ
two_numbers a b = codes "(" ++ decimal a ++ codes "," ++ decimal b ++ codes ")"

-- a decision by its place, with its numbers
abbrev pub decision_text : ℕ → ℕ → ℕ → List ℕ
decision_text n a b =
    if nat_eq n 0 then codes "NoMember"
    else if nat_eq n 1 then codes "Nothing" ++ one_number a
    else if nat_eq n 2 then codes "RevertAll" ++ one_number a
    else if nat_eq n 3 then codes "CommitRest" ++ one_number a
    else if nat_eq n 4 then codes "RevertSome" ++ two_numbers a b
    else if nat_eq n 5 then codes "Impossible" ++ two_numbers a b
    else []

-- the decision of a group that is given: of some reverted, the group is the others' number
abbrev pub group_decision : ℕ → ℕ → ℕ → List ℕ
group_decision n group number = if nat_eq n 4 then decision_text n group number else decision_text n number 0

-- what an ok adds: nothing, a write's number, a write that is acknowledged late, a count of tracks, a phase, a group, the track that
-- was shown, or a message's number
abbrev pub addition : Heard → ℕ → ℕ → ℕ → List ℕ
addition told kind a b =
    if nat_eq kind 1 then codes " w" ++ decimal a
    else if nat_eq kind 2 then codes " acked w" ++ decimal a
    else if nat_eq kind 3 then codes " " ++ decimal a
    else if nat_eq kind 4 then codes " " ++ phase_word a ++ codes " " ++ decimal b
    else if nat_eq kind 6 then codes " " ++ track_text told.shown
    else if nat_eq kind 7 then codes " m" ++ decimal a
    else if nat_eq (kind % 256) 5 then codes " group " ++ decimal a ++ codes " " ++ group_decision (kind / 256) a b
    else []

-- the words that a refusal begins with
abbrev pub refusal_words : ℕ → List ℕ
refusal_words code =
    if nat_eq code 1 then codes "E01 syntax" else if nat_eq code 2 then codes "E02 unknown" else if nat_eq code 3 then codes "E03 duplicate"
    else if nat_eq code 4 then codes "E04 limit" else if nat_eq code 5 then codes "E05 server off" else if nat_eq code 6 then codes "E06 link down"
    else if nat_eq code 7 then codes "E07 void" else if nat_eq code 8 then codes "E08 not primary" else if nat_eq code 9 then codes "E09 inhibited"
    else if nat_eq code 10 then codes "E10 pair state" else if nat_eq code 11 then codes "E11 relation state" else if nat_eq code 12 then codes "E12 in session"
    else if nat_eq code 13 then codes "E13 not in session" else if nat_eq code 14 then codes "E14 in formation" else if nat_eq code 15 then codes "E15 out of order"
    else if nat_eq code 16 then codes "E16 unsealed" else if nat_eq code 17 then codes "E17 stale" else if nat_eq code 18 then codes "E18 decision"
    else if nat_eq code 19 then codes "E19 not identical" else if nat_eq code 20 then codes "E20 numbers spent" else if nat_eq code 21 then codes "E21 stopped"
    else if nat_eq code 22 then codes "E22 no group" else if nat_eq code 23 then codes "E23 journal full" else if nat_eq code 24 then codes "E24 not built"
    else if nat_eq code 25 then codes "E25 old message" else if nat_eq code 26 then codes "E26 held" else []

-- a volume in four hexadecimal digits, and a session in two, by as many of a number's lowest bits
abbrev pub volume_digits : ℕ → List ℕ
volume_digits n = hex4 (n % 65536)

-- a session in two digits
abbrev pub session_digits : ℕ → List ℕ
session_digits n = hex2 (n % 256)

-- of two servers, the lower numbered first
abbrev pub link_text : Heard → ℕ → ℕ → List ℕ
link_text told a b = codes " " ++ told_name told (min a b) ++ codes " " ++ told_name told (max a b)

-- what it says of its numbers
abbrev pub refusal_values : Heard → ℕ → ℕ → ℕ → ℕ → List ℕ
refusal_values told code a b c =
    if nat_eq code 1 then codes " " ++ decimal a
    else if nat_eq code 2 then codes " " ++ kind_word a
    else if nat_eq code 3 then codes " " ++ kind_word a
    else if nat_eq code 4 then codes " " ++ limit_word a
    else if nat_eq code 5 then codes " " ++ told_name told a
    else if nat_eq code 6 then link_text told a b
    else if nat_eq code 7 then codes " " ++ decimal a
    else if nat_eq code 8 then codes " " ++ volume_digits a
    else if nat_eq code 9 then codes " " ++ volume_digits a
    else if nat_eq code 10 then codes " " ++ volume_digits a ++ codes " " ++ pair_words b
    else if nat_eq code 11 then codes " " ++ volume_digits a ++ codes " " ++ relation_word b
    else if nat_eq code 12 then codes " " ++ session_digits a
    else if nat_eq code 13 then codes " " ++ session_digits a
    else if nat_eq code 14 then codes " " ++ phase_word a ++ codes " " ++ decimal b
    else if nat_eq code 15 then codes " " ++ phase_word a
    else if nat_eq code 16 then codes " " ++ volume_digits a ++ codes " " ++ decimal b
    else if nat_eq code 17 then codes " " ++ decimal a ++ codes " " ++ decimal b
    else if nat_eq code 18 then codes " " ++ decision_text a b c
    else if nat_eq code 19 then codes " " ++ decimal a
    else if nat_eq code 21 then codes " " ++ told_name told a
    else if nat_eq code 22 then codes " " ++ decision_text a b c
    else if nat_eq code 25 then codes " " ++ decimal a
    else if nat_eq code 26 then codes " " ++ volume_digits a
    else []

-- what an answer says
abbrev pub said_text : Heard → ℕ → ℕ → ℕ → ℕ → List ℕ
said_text told code a b c =
    if nat_eq code 0 then codes "ok" ++ addition told a b c
    else if nat_eq code 100 then codes "held w" ++ decimal a
    else refusal_words code ++ refusal_values told code a b c

-- the word of a kind of pair: 1 is Metro Mirror, 2 Global Copy
abbrev pub type_words : ℕ → List ℕ
type_words n = if nat_eq n 1 then codes "Metro Mirror" else if nat_eq n 2 then codes "Global Copy" else []

-- the state is that of a secondary
abbrev pub is_target_state : ℕ → Bool
is_target_state state = nat_le 3 state && nat_le state 5

-- a pair: its primary first; a secondary doesn't know what is unsent
abbrev pub pair_text : ℕ → ℕ → ℕ → ℕ → ℕ → List ℕ
pair_text v partner state kind k =
    if is_target_state state then hex4 partner ++ codes ":" ++ hex4 v ++ codes " " ++ pair_words state ++ codes " " ++ type_words kind ++ codes " -"
    else hex4 v ++ codes ":" ++ hex4 partner ++ codes " " ++ pair_words state ++ codes " " ++ type_words kind ++ codes " " ++ decimal k

-- the word of a relationship's state
abbrev pub flash_word : ℕ → List ℕ
flash_word n = if nat_eq n 0 then codes "Revertible" else if nat_eq n 1 then codes "Reversing" else codes "Established"

-- a letter, where that bit of a number is set
abbrev pub letter_if : ℕ → ℕ → List ℕ → List ℕ
letter_if flags flag letter = if nat_eq ((flags / flag) % 2) 1 then letter else []

-- the flags as letters, or a dash: without background copy, persistent, recording changes, inhibiting writes on the target
abbrev pub flag_letters : ℕ → List ℕ
flag_letters flags = or_dash (letter_if flags 1 (codes "N") ++ letter_if flags 2 (codes "P") ++ letter_if flags 4 (codes "R") ++ letter_if flags 8 (codes "I"))

-- a relationship: its volumes, its numbers, its state, its flags, and how many tracks the target holds
abbrev pub flash_text : ℕ → ℕ → ℕ → ℕ → ℕ → ℕ → ℕ → List ℕ
flash_text source target sequence previous state flags own =
    hex4 source ++ codes ":" ++ hex4 target ++ codes " " ++ decimal sequence ++ codes " " ++ decimal previous
    ++ codes " " ++ flash_word state ++ codes " " ++ flag_letters flags ++ codes " " ++ decimal own

-- a member: its session, its three volumes, and the state of its primary
abbrev pub member_text : ℕ → ℕ → ℕ → ℕ → ℕ → List ℕ
member_text s a b c state =
    hex2 s ++ codes " " ++ hex4 a ++ codes ":" ++ hex4 b ++ codes ":" ++ hex4 c ++ codes " " ++ pair_words state

-- a master: its session, its server, its phase and number, and whether it goes on
abbrev pub mirror_text : List ℕ → ℕ → ℕ → ℕ → Bool → List ℕ
mirror_text name s phase n paused =
    hex2 s ++ codes " " ++ name ++ codes " " ++ phase_word phase ++ codes " " ++ decimal n ++ (if paused then codes " paused" else codes " running")

-- a line with its number, which ends
abbrev pub numbered : ℕ → List ℕ → List ℕ
numbered line says = decimal line ++ codes " " ++ says ++ 10 ∷ []

-- The line that an event prints; most print none. The lines of an image have no number.
abbrev pub line_text : Heard → Event → List ℕ
line_text told (PairLine line v partner state kind k) = numbered line (pair_text v partner state kind k)
line_text told (FlashLine line source target sequence previous state flags own) = numbered line (flash_text source target sequence previous state flags own)
line_text told (SessionLine line s a b c state) = numbered line (member_text s a b c state)
line_text told (MirrorLine line s server phase n paused) = numbered line (mirror_text (told_name told server) s phase n paused)
line_text told ImageStart = codes "image 1" ++ 10 ∷ []
line_text told (ImageVolume v server tracks) = codes "volume" ++ spaced (hex4 v ∷ decimal server ∷ decimal tracks ∷ []) ++ 10 ∷ []
line_text told (ImageBlock v index bytes) = codes "block" ++ spaced (hex4 v ∷ decimal index ∷ bytes_text (trimmed bytes) ∷ []) ++ 10 ∷ []
line_text told ImageEnd = codes "end" ++ 10 ∷ []
line_text told (Answer line code a b c) = numbered line (said_text told code a b c)
line_text told _ = []

-- what is printed for events, after others that told something
abbrev pub text_from : Heard → List Event → List ℕ
text_from told [] = []
text_from told (e ∷ es) = line_text told e ++ text_from (heard told e) es

-- what a journal prints
abbrev pub text : List Event → List ℕ
text events = text_from untold events
