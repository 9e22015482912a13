-- The line that says a step.
use Rattle.std.specs.Prelude.{◌≡◌, ℕ, ◌+◌, ◌-◌, ◌/◌, ◌%◌, ◌^◌, Bool, true, false, ◌&&◌, ◌||◌, not, List, [], ◌∷◌, ◌++◌, length, take, replicate, nat_eq, nat_le, nat_lt, Option, Some, None, codes, if◌then◌else◌}
use Rattle.std.specs.Fmt.{decimal}
use Rattle.std.specs.List.{flat_map, list_all}
use Rattle.std.specs.Option.{unwrap_or, option_or, is_none}
use Rattle.std.specs.Str.{bytes_eq}
use Rattle.dr_ids.specs.Spelling.{hex2, hex4}
use Rattle.dr_model.specs.declared.step.Name.{Name}
use Rattle.dr_model.specs.declared.step.Devs.{Devs}
use Rattle.dr_model.specs.declared.step.TornWord.{TornWord}
use Rattle.dr_model.specs.declared.step.TornWord.TheVariants.{Same, Fill, Bytes}
use Rattle.dr_model.specs.declared.step.Step.{Step}
use Rattle.dr_model.specs.declared.step.Step.TheVariants.{Server, Volume, Link, Stop, StopAfter, Start, Expire, Issue, Write, Apply, Drain, Copy, Destage, Exchange, Send, Deliver, Lose, Run, Abort, Recover, Show, Compare, Image, MakePath, RemovePath, MakePair, RemovePair, PausePair, ResumePair, Failover, Failback, Freeze, Unfreeze, ListPairs, ListFlashes, MakeFlash, RemoveFlash, ResyncFlash, ReverseFlash, CommitFlash, RevertFlash, UnfreezeFlash, MakeSession, AddMember, RemoveMember, RemoveSession, ListSession, ShowMirror, MakeMirror, ResumeMirror, PauseMirror, RemoveMirror}
use Rattle.dr_model.specs.declared.grammar.Command.{Command}
use Rattle.dr_model.specs.declared.grammar.Command.TheVariants.{AtServer, AtVolume, AtLink, AtStop, AtStart, AtExpire, AtIssue, AtWrite, AtApply, AtDrain, AtCopy, AtDestage, AtExchange, AtSend, AtDeliver, AtLose, AtRun, AtAbort, AtRecover, AtShow, AtCompare, AtImage, Mkpprcpath, Rmpprcpath, Mkpprc, Rmpprc, Pausepprc, Resumepprc, Failoverpprc, Failbackpprc, Freezepprc, Unfreezepprc, Lspprc, Lsflash, Mkflash, Rmflash, Resyncflash, Reverseflash, Commitflash, Revertflash, Unfreezeflash, Mksession, Chsession, Rmsession, Lssession, Showgmir, Mkgmir, Resumegmir, Pausegmir, Rmgmir}
use Rattle.dr_model.specs.declared.grammar.Setting.{Setting}
use Rattle.dr_model.specs.declared.grammar.Setting.TheVariants.{Quiet, Dev, RemoteDev, RemotePort, SourceLss, TargetLss, PairType, Mode, Cascade, AtSource, Sequence, OfLss, Members, Action, OfSession, Interval, Coordination, DrainTime}
use Rattle.dr_model.specs.declared.grammar.Operand.{Operand}
use Rattle.dr_model.specs.declared.grammar.Operand.TheVariants.{ServerName, OtherName, UpOrDown, AfterWord, TornMark, TornBytes, OneVolume, OtherVolume, Count, TrackNumber, Offset, WriteBytes, CountOrAll, SessionNumber, NoReply, LssNumber, VolumeRange, VolumeList, VolumePair, LssPair, EachLss, Ports, ControlPath}
use Rattle.dr_model.specs.declared.grammar.Options.{Options}
use Rattle.dr_model.specs.declared.grammar.Operands.{Operands}
use Rattle.dr_model.specs.declared.grammar.Item.{Item}
use Rattle.dr_model.specs.declared.grammar.Saying.{Saying}
use Rattle.dr_model.specs.LineWords.{is_name, spelled_bytes}
use Rattle.dr_model.specs.LineTable.{command_word, setting_word, settings, operands, may_end_with}
use Rattle.dr_model.specs.LineSteps.{is_flag, has, no_options, no_operands, no_name, or_zero, lss_in}

-- eight digits for four bytes
abbrev pub hex8 : ℕ → List ℕ
hex8 n = hex4 (n / 65536) ++ hex4 (n % 65536)

-- digits without the zeros at their front
abbrev pub unpadded : List ℕ → List ℕ
unpadded [] = []
unpadded (d ∷ []) = d ∷ []
unpadded (d ∷ e ∷ ds) = if nat_eq d 48 then unpadded (e ∷ ds) else d ∷ e ∷ ds

-- a sequence number in hexadecimal without zeros at its front
abbrev pub sequence_text : ℕ → List ℕ
sequence_text n = unpadded (hex8 n)

-- the bytes of a name
abbrev pub name_text : Name → List ℕ
name_text name = take name.len name.bytes

-- bytes, two digits each
abbrev pub bytes_text : List ℕ → List ℕ
bytes_text bytes = flat_map hex2 bytes

-- what a torn block has
abbrev pub torn_text : TornWord → List ℕ
torn_text Same = codes "none"
torn_text (Fill byte) = hex2 byte
torn_text (Bytes bytes) = bytes_text bytes

-- a number, or `all` for none
abbrev pub most_text : Option ℕ → List ℕ
most_text None = codes "all"
most_text (Some n) = decimal n

-- a type of pairs
abbrev pub kind_text : ℕ → List ℕ
kind_text kind = if nat_eq kind 1 then codes "mmir" else codes "gcp"

-- the value of an option
unfoldable pub setting_text : Setting → Options → Item → List ℕ
setting_text Dev o i = name_text (unwrap_or o.devs.dev no_name)
setting_text RemoteDev o i = name_text (unwrap_or o.devs.remotedev no_name)
setting_text SourceLss o i = hex2 (or_zero o.src)
setting_text TargetLss o i = hex2 (or_zero o.tgt)
setting_text PairType o i = kind_text (or_zero o.kind)
setting_text Mode o i = if unwrap_or o.full true then codes "full" else codes "nocp"
setting_text AtSource o i = codes "src"
setting_text Sequence o i = sequence_text (or_zero o.sequence)
setting_text OfLss o i = hex2 (or_zero o.lss)
setting_text Members o i = hex4 i.first
setting_text Action o i = if unwrap_or o.adds true then codes "add" else codes "remove"
setting_text OfSession o i = hex2 (or_zero o.session)
setting_text Interval o i = decimal (or_zero o.cginterval)
setting_text Coordination o i = decimal (or_zero o.coordinate)
setting_text DrainTime o i = decimal (or_zero o.drain)
setting_text _ o i = []

-- the words of an option, where it is given
abbrev pub setting_words : Setting → Options → Item → List (List ℕ)
setting_words s o i = if has s o then setting_word s ∷ (if is_flag s then [] else setting_text s o i ∷ []) else []

-- the words of the options of a list that are given
abbrev pub settings_words : List Setting → Options → Item → List (List ℕ)
settings_words [] o i = []
settings_words (s ∷ ss) o i = setting_words s o i ++ settings_words ss o i

-- the word of an operand
unfoldable pub operand_text : Operand → Operands → Item → List ℕ
operand_text ServerName p i = name_text p.server
operand_text OtherName p i = name_text p.other
operand_text UpOrDown p i = if p.up then codes "up" else codes "down"
operand_text AfterWord p i = codes "after"
operand_text TornMark p i = codes "torn"
operand_text TornBytes p i = torn_text p.torn
operand_text OneVolume p i = hex4 p.volume
operand_text OtherVolume p i = hex4 p.with
operand_text Count p i = decimal p.count
operand_text TrackNumber p i = decimal p.track
operand_text Offset p i = decimal p.offset
operand_text WriteBytes p i = bytes_text (take p.len p.bytes)
operand_text CountOrAll p i = most_text p.most
operand_text SessionNumber p i = hex2 p.session
operand_text NoReply p i = codes "noreply"
operand_text LssNumber p i = hex2 p.lss
operand_text VolumeRange p i = hex4 i.first
operand_text VolumeList p i = hex4 i.first
operand_text VolumePair p i = hex4 i.first ++ 58 ∷ hex4 i.second
operand_text LssPair p i = hex2 (lss_in i.first) ++ 58 ∷ hex2 (lss_in i.second)
operand_text EachLss p i = hex2 (lss_in i.first)
operand_text Ports p i = codes "I0000:I0000"
operand_text ControlPath p i = []

-- how many operands a line says: those that a stop without a wait and an exchange with a reply end before aren't said
unfoldable pub said_count : Command → Operands → ℕ
said_count AtStop p = if p.after then 5 else 1
said_count AtExchange p = if p.reply then 2 else 3
said_count c p = may_end_with c

-- the operands that a line says
abbrev pub said_operands : Saying → List Operand
said_operands said = take (said_count said.command said.operands) (operands said.command)

-- the words of the operands of a list
abbrev pub operand_words : List Operand → Operands → Item → List (List ℕ)
operand_words [] p i = []
operand_words (operand ∷ ops) p i = operand_text operand p i ∷ operand_words ops p i

-- the words behind the command: its options in the order of the table, and its operands
abbrev pub said_words : Saying → List (List ℕ)
said_words said = settings_words (settings said.command) said.options said.item ++ operand_words (said_operands said) said.operands said.item

-- words, each behind a space
abbrev pub spaced : List (List ℕ) → List ℕ
spaced [] = []
spaced (word ∷ words) = 32 ∷ word ++ spaced words

-- the line of what is said
abbrev pub said_text : Saying → List ℕ
said_text said = command_word said.command ++ spaced (said_words said)

-- options with servers alone
abbrev pub given : Devs → Options
given devs = record no_options { devs = devs }

-- a line that begins with `@`
abbrev pub at_sign : Command → Operands → Saying
at_sign c p = record { command = c; options = no_options; operands = p; item = record { first = 0; second = 0 } }

-- a line with an item
abbrev pub for_item : Command → Options → ℕ → ℕ → Saying
for_item c o first second = record { command = c; options = o; operands = no_operands; item = record { first = first; second = second } }

-- a line of a session
abbrev pub for_session : Command → Options → ℕ → ℕ → Saying
for_session c o session volume = record { command = c; options = o; operands = record no_operands { session = session }; item = record { first = volume; second = volume } }

-- a line of a logical subsystem
abbrev pub for_lss : Command → Options → ℕ → Saying
for_lss c o lss = record { command = c; options = o; operands = record no_operands { lss = lss }; item = record { first = 0; second = 0 } }

-- what a line says of a step of commands that begin with `@`
unfoldable pub at_saying : Step → Option Saying
at_saying (Server name) = Some (at_sign AtServer (record no_operands { server = name }))
at_saying (Volume volume server tracks) = Some (record { command = AtVolume; options = no_options; operands = record no_operands { server = server; count = tracks }; item = record { first = volume; second = volume } })
at_saying (Link a b up) = Some (at_sign AtLink (record no_operands { server = a; other = b; up = up }))
at_saying (Stop server) = Some (at_sign AtStop (record no_operands { server = server }))
at_saying (StopAfter server writes torn) = Some (at_sign AtStop (record no_operands { server = server; after = true; torn = torn; count = writes }))
at_saying (Start server) = Some (at_sign AtStart (record no_operands { server = server }))
at_saying (Expire server) = Some (at_sign AtExpire (record no_operands { server = server }))
at_saying (Issue volume track offset len bytes) = Some (at_sign AtIssue (record no_operands { volume = volume; track = track; offset = offset; len = len; bytes = bytes }))
at_saying (Write volume track offset len bytes) = Some (at_sign AtWrite (record no_operands { volume = volume; track = track; offset = offset; len = len; bytes = bytes }))
at_saying (Apply w) = Some (at_sign AtApply (record no_operands { count = w }))
at_saying (Drain volume most) = Some (at_sign AtDrain (record no_operands { volume = volume; most = most }))
at_saying (Copy volume most) = Some (at_sign AtCopy (record no_operands { volume = volume; most = most }))
at_saying (Destage volume) = Some (at_sign AtDestage (record no_operands { volume = volume }))
at_saying (Exchange session server reply) = Some (at_sign AtExchange (record no_operands { server = server; session = session; reply = reply }))
at_saying (Send session server) = Some (at_sign AtSend (record no_operands { server = server; session = session }))
at_saying (Deliver message) = Some (at_sign AtDeliver (record no_operands { count = message }))
at_saying (Lose message) = Some (at_sign AtLose (record no_operands { count = message }))
at_saying (Run session groups) = Some (at_sign AtRun (record no_operands { count = groups; session = session }))
at_saying (Abort session) = Some (at_sign AtAbort (record no_operands { session = session }))
at_saying (Recover session) = Some (at_sign AtRecover (record no_operands { session = session }))
at_saying (Show volume track) = Some (at_sign AtShow (record no_operands { volume = volume; track = track }))
at_saying (Compare v w) = Some (at_sign AtCompare (record no_operands { volume = v; with = w }))
at_saying Image = Some (at_sign AtImage no_operands)
at_saying _ = None

-- what a line says of a step of remote copies
unfoldable pub pair_saying : Step → Option Saying
pair_saying (MakePath devs src tgt group) = Some (for_item Mkpprcpath (record no_options { devs = devs; src = Some src; tgt = Some tgt; group = group }) 0 0)
pair_saying (RemovePath devs src tgt force) = Some (for_item Rmpprcpath (record no_options { devs = devs; force = force }) src tgt)
pair_saying (MakePair devs a b kind choices) = Some (for_item Mkpprc (record no_options { devs = devs; kind = Some kind; full = if choices.full then None else Some false; cascade = choices.cascade }) a b)
pair_saying (RemovePair devs a b source_only) = Some (for_item Rmpprc (record no_options { devs = devs; unconditional = source_only; at_source = source_only }) a b)
pair_saying (PausePair devs a b) = Some (for_item Pausepprc (given devs) a b)
pair_saying (ResumePair devs a b kind) = Some (for_item Resumepprc (record no_options { devs = devs; kind = Some kind }) a b)
pair_saying (Failover devs b a kind) = Some (for_item Failoverpprc (record no_options { devs = devs; kind = Some kind }) b a)
pair_saying (Failback devs x y kind) = Some (for_item Failbackpprc (record no_options { devs = devs; kind = Some kind }) x y)
pair_saying (Freeze devs l m) = Some (for_item Freezepprc (given devs) l m)
pair_saying (Unfreeze devs l m) = Some (for_item Unfreezepprc (given devs) l m)
pair_saying (ListPairs devs volume) = Some (for_item Lspprc (given devs) volume volume)
pair_saying _ = None

-- what a line says of a step of FlashCopy
unfoldable pub flash_saying : Step → Option Saying
flash_saying (ListFlashes devs volume) = Some (for_item Lsflash (given devs) volume volume)
flash_saying (MakeFlash devs s t nocopy persistent recorded inhibited freeze sequence) = Some (for_item Mkflash (record no_options { devs = devs; nocopy = nocopy; persistent = persistent; recorded = recorded; inhibited = inhibited; freeze = freeze; sequence = sequence }) s t)
flash_saying (RemoveFlash devs s t sequence) = Some (for_item Rmflash (record no_options { devs = devs; sequence = sequence }) s t)
flash_saying (ResyncFlash devs s t nocopy persistent recorded inhibited sequence) = Some (for_item Resyncflash (record no_options { devs = devs; nocopy = nocopy; persistent = persistent; recorded = recorded; inhibited = inhibited; sequence = sequence }) s t)
flash_saying (ReverseFlash devs s t tgtpprc sequence) = Some (for_item Reverseflash (record no_options { devs = devs; sequence = sequence; fast = true; tgtpprc = tgtpprc }) s t)
flash_saying (CommitFlash devs source sequence) = Some (for_item Commitflash (record no_options { devs = devs; sequence = sequence }) source source)
flash_saying (RevertFlash devs source sequence) = Some (for_item Revertflash (record no_options { devs = devs; sequence = sequence }) source source)
flash_saying (UnfreezeFlash devs lss) = Some (for_item Unfreezeflash (given devs) lss lss)
flash_saying _ = None

-- what a line says of a step of sessions
unfoldable pub session_saying : Step → Option Saying
session_saying (MakeSession devs lss session) = Some (for_session Mksession (record no_options { devs = devs; lss = Some lss }) session 0)
session_saying (AddMember devs lss volume session) = Some (for_session Chsession (record no_options { devs = devs; lss = Some lss; members = true; adds = Some true }) session volume)
session_saying (RemoveMember devs lss volume session) = Some (for_session Chsession (record no_options { devs = devs; lss = Some lss; members = true; adds = Some false }) session volume)
session_saying (RemoveSession devs lss session) = Some (for_session Rmsession (record no_options { devs = devs; lss = Some lss }) session 0)
session_saying (ListSession devs lss) = Some (for_lss Lssession (given devs) lss)
session_saying (ShowMirror devs lss) = Some (for_lss Showgmir (given devs) lss)
session_saying (MakeMirror devs lss session cginterval coordinate drain) = Some (for_item Mkgmir (record no_options { devs = devs; lss = Some lss; session = Some session; cginterval = cginterval; coordinate = coordinate; drain = drain }) 0 0)
session_saying (ResumeMirror devs lss session cginterval coordinate drain) = Some (for_item Resumegmir (record no_options { devs = devs; lss = Some lss; session = Some session; cginterval = cginterval; coordinate = coordinate; drain = drain }) 0 0)
session_saying (PauseMirror devs lss session) = Some (for_item Pausegmir (record no_options { devs = devs; lss = Some lss; session = Some session }) 0 0)
session_saying (RemoveMirror devs lss session) = Some (for_item Rmgmir (record no_options { devs = devs; lss = Some lss; session = Some session }) 0 0)
session_saying _ = None

-- what a line says of a step
abbrev pub saying : Step → Saying
saying step = unwrap_or (option_or (option_or (at_saying step) (pair_saying step)) (option_or (flash_saying step) (session_saying step))) (at_sign AtImage no_operands)

-- the line that says a step: the command, its options in the order of the table, and one operand
unfoldable pub step_text : Step → List ℕ
step_text step = said_text (saying step)

-- a name that a word says
abbrev pub name_fits : Name → Bool
name_fits name = is_name (name_text name) && nat_eq (length (name_text name)) name.len && bytes_eq name.bytes (name_text name ++ replicate (24 - length (name_text name)) 0)

-- an option's value is one that a word says
unfoldable pub setting_fits : Setting → Options → Item → Bool
setting_fits Quiet o i = false
setting_fits RemotePort o i = false
setting_fits Dev o i = name_fits (unwrap_or o.devs.dev no_name)
setting_fits RemoteDev o i = name_fits (unwrap_or o.devs.remotedev no_name)
setting_fits SourceLss o i = nat_lt (or_zero o.src) 256
setting_fits TargetLss o i = nat_lt (or_zero o.tgt) 256
setting_fits PairType o i = nat_eq (or_zero o.kind) 1 || nat_eq (or_zero o.kind) 2
setting_fits Cascade o i = nat_eq (or_zero o.kind) 2
setting_fits Sequence o i = nat_lt (or_zero o.sequence) (2 ^ 32)
setting_fits OfLss o i = nat_lt (or_zero o.lss) 256
setting_fits Members o i = nat_lt i.first 65536 && nat_eq i.second i.first
setting_fits OfSession o i = nat_le 1 (or_zero o.session) && nat_lt (or_zero o.session) 256
setting_fits Interval o i = nat_le (or_zero o.cginterval) 65535
setting_fits Coordination o i = nat_le (or_zero o.coordinate) 65535
setting_fits DrainTime o i = nat_le (or_zero o.drain) 65535
setting_fits _ o i = true

-- 64 bytes of which those behind the first so many are zero
abbrev pub bytes_fit : ℕ → List ℕ → Bool
bytes_fit len bytes = nat_eq (length bytes) 64 && list_all (λ b. nat_lt b 256) (take len bytes) && bytes_eq bytes (spelled_bytes (bytes_text (take len bytes)))

-- what a torn block has is what a word says
abbrev pub torn_fits : TornWord → Bool
torn_fits Same = true
torn_fits (Fill byte) = nat_lt byte 256
torn_fits (Bytes bytes) = bytes_fit 64 bytes

-- a number that a word says, or none
abbrev pub most_fits : Option ℕ → Bool
most_fits None = true
most_fits (Some n) = nat_lt n (2 ^ 32)

-- an operand is one that a word says
unfoldable pub operand_fits : Operand → Operands → Item → Bool
operand_fits ServerName p i = name_fits p.server
operand_fits OtherName p i = name_fits p.other
operand_fits TornBytes p i = torn_fits p.torn
operand_fits OneVolume p i = nat_lt p.volume 65536
operand_fits OtherVolume p i = nat_lt p.with 65536
operand_fits Count p i = nat_lt p.count (2 ^ 32)
operand_fits TrackNumber p i = nat_lt p.track (2 ^ 32)
operand_fits Offset p i = nat_le p.offset 63
operand_fits WriteBytes p i = nat_le 1 p.len && nat_le (p.offset + p.len) 64 && bytes_fit p.len p.bytes
operand_fits CountOrAll p i = most_fits p.most
operand_fits SessionNumber p i = nat_le 1 p.session && nat_lt p.session 256
operand_fits LssNumber p i = nat_lt p.lss 256
operand_fits VolumeRange p i = nat_lt i.first 65536 && nat_eq i.second i.first
operand_fits VolumeList p i = nat_lt i.first 65536 && nat_eq i.second i.first
operand_fits VolumePair p i = nat_lt i.first 65536 && nat_lt i.second 65536
operand_fits LssPair p i = nat_lt i.first 256 && nat_lt i.second 256
operand_fits EachLss p i = nat_lt i.first 256 && nat_eq i.second i.first
operand_fits ControlPath p i = false
operand_fits _ p i = true

-- the options of a list that are given fit
abbrev pub settings_fit : List Setting → Options → Item → Bool
settings_fit [] o i = true
settings_fit (s ∷ ss) o i = (not (has s o) || setting_fits s o i) && settings_fit ss o i

-- the operands of a list fit
abbrev pub operands_fit : List Operand → Operands → Item → Bool
operands_fit [] p i = true
operands_fit (operand ∷ ops) p i = operand_fits operand p i && operands_fit ops p i

-- the command takes `-remotedev`, or none is given
abbrev pub takes_remote : List Setting → Bool
takes_remote [] = false
takes_remote (RemoteDev ∷ ss) = true
takes_remote (s ∷ ss) = takes_remote ss

-- no second server is given to a command that takes none
abbrev pub remote_fits : List Setting → Options → Bool
remote_fits ss o = takes_remote ss || is_none o.devs.remotedev

-- all that is said is what words say
abbrev pub said_fits : Saying → Bool
said_fits said =
    (settings_fit (settings said.command) said.options said.item && operands_fit (said_operands said) said.operands said.item) && remote_fits (settings said.command) said.options

-- a step that a line of the grammar gives: each value that its line says is one that a word says
unfoldable pub is_written : Step → Bool
is_written step = said_fits (saying step)

-- a line of the grammar gives the step
abbrev pub IsWritten : Step → Type 0
IsWritten step = is_written step ≡ true
