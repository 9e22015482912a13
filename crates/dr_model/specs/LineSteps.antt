-- What options and operands give, and the step that they make.
use Rattle.std.specs.Prelude.{ℕ, ◌+◌, ◌/◌, ◌%◌, Bool, true, false, ◌&&◌, List, [], length, nat_le, replicate, Option, Some, None, codes, if◌then◌else◌}
use Rattle.std.specs.Option.{option_map, unwrap_or, is_some}
use Rattle.std.specs.Str.{bytes_eq}
use Rattle.dr_logic.specs.Bytes.{zeros}
use Rattle.dr_ids.specs.Spelling.{volume_word, lss_word, session_word, number_word}
use Rattle.dr_model.specs.declared.step.Name.{Name}
use Rattle.dr_model.specs.declared.step.TornWord.TheVariants.{Same}
use Rattle.dr_model.specs.declared.step.Step.{Step}
use Rattle.dr_model.specs.declared.step.Step.TheVariants.{Server, Volume, Link, Stop, StopAfter, Start, Expire, Issue, Write, Apply, Drain, Copy, Destage, Exchange, Send, Deliver, Lose, Run, Abort, Recover, Show, Compare, Image, MakePath, RemovePath, MakePair, RemovePair, PausePair, ResumePair, Failover, Failback, Freeze, Unfreeze, ListPairs, ListFlashes, MakeFlash, RemoveFlash, ResyncFlash, ReverseFlash, CommitFlash, RevertFlash, UnfreezeFlash, MakeSession, AddMember, RemoveMember, RemoveSession, ListSession, ShowMirror, MakeMirror, ResumeMirror, PauseMirror, RemoveMirror}
use Rattle.dr_model.specs.declared.grammar.Command.{Command}
use Rattle.dr_model.specs.declared.grammar.Command.TheVariants.{AtServer, AtVolume, AtLink, AtStop, AtStart, AtExpire, AtIssue, AtWrite, AtApply, AtDrain, AtCopy, AtDestage, AtExchange, AtSend, AtDeliver, AtLose, AtRun, AtAbort, AtRecover, AtShow, AtCompare, AtImage, Mkpprcpath, Rmpprcpath, Mkpprc, Rmpprc, Pausepprc, Resumepprc, Failoverpprc, Failbackpprc, Freezepprc, Unfreezepprc, Lspprc, Lsflash, Mkflash, Rmflash, Resyncflash, Reverseflash, Commitflash, Revertflash, Unfreezeflash, Mksession, Chsession, Rmsession, Lssession, Showgmir, Mkgmir, Resumegmir, Pausegmir, Rmgmir}
use Rattle.dr_model.specs.declared.grammar.Setting.{Setting}
use Rattle.dr_model.specs.declared.grammar.Setting.TheVariants.{Quiet, Dev, RemoteDev, RemotePort, SourceLss, TargetLss, ConsistencyGroup, Force, PairType, Mode, Cascade, Unconditional, AtSource, NoCopy, Persist, Recording, Inhibit, FreezeSource, Sequence, Fast, TargetPprc, OfLss, Members, Action, OfSession, Interval, Coordination, DrainTime}
use Rattle.dr_model.specs.declared.grammar.Operand.{Operand}
use Rattle.dr_model.specs.declared.grammar.Operand.TheVariants.{ServerName, OtherName, UpOrDown, AfterWord, TornMark, TornBytes, OneVolume, OtherVolume, Count, TrackNumber, Offset, WriteBytes, CountOrAll, SessionNumber, NoReply, LssNumber, VolumeRange, VolumeList, VolumePair, LssPair, EachLss, Ports, ControlPath}
use Rattle.dr_model.specs.declared.grammar.Options.{Options}
use Rattle.dr_model.specs.declared.grammar.Operands.{Operands}
use Rattle.dr_model.specs.declared.grammar.Item.{Item}
use Rattle.dr_model.specs.LineWords.{name_word, decimal_word, most_word, sequence_word, is_hex, spelled_bytes, torn_word, range_items, list_items, pair_items, lss_pair_items, lss_items, are_ports, is_control_path, either_word, kind_word}

-- an option that is a flag has no value
abbrev pub is_flag : Setting → Bool
is_flag Quiet = true
is_flag ConsistencyGroup = true
is_flag Force = true
is_flag Cascade = true
is_flag Unconditional = true
is_flag NoCopy = true
is_flag Persist = true
is_flag Recording = true
is_flag Inhibit = true
is_flag FreezeSource = true
is_flag Fast = true
is_flag TargetPprc = true
is_flag _ = false

-- the option was given
unfoldable pub has : Setting → Options → Bool
has Quiet o = o.quiet
has Dev o = is_some o.devs.dev
has RemoteDev o = is_some o.devs.remotedev
has RemotePort o = o.remote_port
has SourceLss o = is_some o.src
has TargetLss o = is_some o.tgt
has ConsistencyGroup o = o.group
has Force o = o.force
has PairType o = is_some o.kind
has Mode o = is_some o.full
has Cascade o = o.cascade
has Unconditional o = o.unconditional
has AtSource o = o.at_source
has NoCopy o = o.nocopy
has Persist o = o.persistent
has Recording o = o.recorded
has Inhibit o = o.inhibited
has FreezeSource o = o.freeze
has Sequence o = is_some o.sequence
has Fast o = o.fast
has TargetPprc o = o.tgtpprc
has OfLss o = is_some o.lss
has Members o = o.members
has Action o = is_some o.adds
has OfSession o = is_some o.session
has Interval o = is_some o.cginterval
has Coordination o = is_some o.coordinate
has DrainTime o = is_some o.drain

-- a flag is set
unfoldable pub flagged : Setting → Options → Options
flagged Quiet o = record o { quiet = true }
flagged ConsistencyGroup o = record o { group = true }
flagged Force o = record o { force = true }
flagged Cascade o = record o { cascade = true }
flagged Unconditional o = record o { unconditional = true }
flagged NoCopy o = record o { nocopy = true }
flagged Persist o = record o { persistent = true }
flagged Recording o = record o { recorded = true }
flagged Inhibit o = record o { inhibited = true }
flagged FreezeSource o = record o { freeze = true }
flagged Fast o = record o { fast = true }
flagged TargetPprc o = record o { tgtpprc = true }
flagged _ o = o

-- a number of seconds or minutes, which has no effect
abbrev pub setting_number : List ℕ → Option ℕ
setting_number word = number_word 65535 word

-- an option's value is set, where the word can stand as its value
unfoldable pub valued : Setting → List ℕ → Options → Option Options
valued Dev word o = option_map (λ n. record o { devs = record o.devs { dev = Some n } }) (name_word word)
valued RemoteDev word o = option_map (λ n. record o { devs = record o.devs { remotedev = Some n } }) (name_word word)
valued RemotePort word o = if is_hex word then Some (record o { remote_port = true }) else None
valued SourceLss word o = option_map (λ l. record o { src = Some l.0 }) (lss_word word)
valued TargetLss word o = option_map (λ l. record o { tgt = Some l.0 }) (lss_word word)
valued PairType word o = option_map (λ k. record o { kind = Some k }) (kind_word word)
valued Mode word o = option_map (λ f. record o { full = Some f }) (either_word (codes "full") (codes "nocp") word)
valued AtSource word o = if bytes_eq word (codes "src") then Some (record o { at_source = true }) else None
valued Sequence word o = option_map (λ n. record o { sequence = Some n }) (sequence_word word)
valued OfLss word o = option_map (λ l. record o { lss = Some l.0 }) (lss_word word)
valued Members word o = Some (record o { members = true })
valued Action word o = option_map (λ a. record o { adds = Some a }) (either_word (codes "add") (codes "remove") word)
valued OfSession word o = option_map (λ s. record o { session = Some s.0 }) (session_word word)
valued Interval word o = option_map (λ n. record o { cginterval = Some n }) (setting_number word)
valued Coordination word o = option_map (λ n. record o { coordinate = Some n }) (setting_number word)
valued DrainTime word o = option_map (λ n. record o { drain = Some n }) (setting_number word)
valued _ word o = None

-- the items that an option's value gives: one for each volume of a list
unfoldable pub setting_items : Setting → List ℕ → Option (List Item)
setting_items Members word = list_items word
setting_items _ word = Some []

-- what a line has before its first word is read
unfoldable pub no_options : Options
no_options = record {
  quiet = false;
  devs = record { dev = None; remotedev = None };
  remote_port = false;
  src = None;
  tgt = None;
  group = false;
  force = false;
  kind = None;
  full = None;
  cascade = false;
  unconditional = false;
  at_source = false;
  nocopy = false;
  persistent = false;
  recorded = false;
  inhibited = false;
  freeze = false;
  sequence = None;
  fast = false;
  tgtpprc = false;
  lss = None;
  members = false;
  adds = None;
  session = None;
  cginterval = None;
  coordinate = None;
  drain = None;
}

-- the name that stands where none was given
unfoldable pub no_name : Name
no_name = record { len = 0; bytes = replicate 24 0 }

-- what a line without operands gives
unfoldable pub no_operands : Operands
no_operands = record {
  server = no_name;
  other = no_name;
  up = false;
  after = false;
  torn = Same;
  volume = 0;
  with = 0;
  count = 0;
  track = 0;
  offset = 0;
  len = 0;
  bytes = zeros;
  most = None;
  session = 0;
  reply = true;
  lss = 0;
}

-- bytes that lie in one track from an offset on
abbrev pub written : List ℕ → Operands → Option Operands
written word p =
    if is_hex word && nat_le (p.offset + length word / 2) 64 then Some (record p { len = length word / 2; bytes = spelled_bytes word }) else None

-- an operand's value is set, where the word can stand as this operand
unfoldable pub operand_value : Operand → List ℕ → Operands → Option Operands
operand_value ServerName word p = option_map (λ n. record p { server = n }) (name_word word)
operand_value OtherName word p = option_map (λ n. record p { other = n }) (name_word word)
operand_value UpOrDown word p = option_map (λ u. record p { up = u }) (either_word (codes "up") (codes "down") word)
operand_value AfterWord word p = if bytes_eq word (codes "after") then Some (record p { after = true }) else None
operand_value TornMark word p = if bytes_eq word (codes "torn") then Some p else None
operand_value TornBytes word p = option_map (λ t. record p { torn = t }) (torn_word word)
operand_value OneVolume word p = option_map (λ v. record p { volume = v.0 }) (volume_word word)
operand_value OtherVolume word p = option_map (λ v. record p { with = v.0 }) (volume_word word)
operand_value Count word p = option_map (λ n. record p { count = n }) (decimal_word word)
operand_value TrackNumber word p = option_map (λ n. record p { track = n }) (decimal_word word)
operand_value Offset word p = option_map (λ n. record p { offset = n }) (number_word 63 word)
operand_value WriteBytes word p = written word p
operand_value CountOrAll word p = option_map (λ m. record p { most = m }) (most_word word)
operand_value SessionNumber word p = option_map (λ s. record p { session = s.0 }) (session_word word)
operand_value NoReply word p = if bytes_eq word (codes "noreply") then Some (record p { reply = false }) else None
operand_value LssNumber word p = option_map (λ l. record p { lss = l.0 }) (lss_word word)
operand_value Ports word p = if are_ports word then Some p else None
operand_value ControlPath word p = if is_control_path word then Some p else None
operand_value _ word p = Some p

-- the items that an operand gives, where the word can stand as this operand
unfoldable pub operand_items : Operand → List ℕ → Option (List Item)
operand_items VolumeRange word = range_items word
operand_items VolumeList word = list_items word
operand_items VolumePair word = pair_items word
operand_items LssPair word = lss_pair_items word
operand_items EachLss word = lss_items word
operand_items _ word = Some []

-- a number that was given, else 0
abbrev pub or_zero : Option ℕ → ℕ
or_zero o = unwrap_or o 0

-- an item's logical subsystem, which is below 256
abbrev pub lss_in : ℕ → ℕ
lss_in n = n % 256

-- the step of a command with its options and operands, and one item
unfoldable pub step_of : Command → Options → Operands → Item → Step
step_of AtServer o p i = Server p.server
step_of AtVolume o p i = Volume i.first p.server p.count
step_of AtLink o p i = Link p.server p.other p.up
step_of AtStop o p i = if p.after then StopAfter p.server p.count p.torn else Stop p.server
step_of AtStart o p i = Start p.server
step_of AtExpire o p i = Expire p.server
step_of AtIssue o p i = Issue p.volume p.track p.offset p.len p.bytes
step_of AtWrite o p i = Write p.volume p.track p.offset p.len p.bytes
step_of AtApply o p i = Apply p.count
step_of AtDrain o p i = Drain p.volume p.most
step_of AtCopy o p i = Copy p.volume p.most
step_of AtDestage o p i = Destage p.volume
step_of AtExchange o p i = Exchange p.session p.server p.reply
step_of AtSend o p i = Send p.session p.server
step_of AtDeliver o p i = Deliver p.count
step_of AtLose o p i = Lose p.count
step_of AtRun o p i = Run p.session p.count
step_of AtAbort o p i = Abort p.session
step_of AtRecover o p i = Recover p.session
step_of AtShow o p i = Show p.volume p.track
step_of AtCompare o p i = Compare p.volume p.with
step_of AtImage o p i = Image
step_of Mkpprcpath o p i = MakePath o.devs (or_zero o.src) (or_zero o.tgt) o.group
step_of Rmpprcpath o p i = RemovePath o.devs (lss_in i.first) (lss_in i.second) o.force
step_of Mkpprc o p i = MakePair o.devs i.first i.second (or_zero o.kind) (record { full = unwrap_or o.full true; cascade = o.cascade })
step_of Rmpprc o p i = RemovePair o.devs i.first i.second o.unconditional
step_of Pausepprc o p i = PausePair o.devs i.first i.second
step_of Resumepprc o p i = ResumePair o.devs i.first i.second (or_zero o.kind)
step_of Failoverpprc o p i = Failover o.devs i.first i.second (or_zero o.kind)
step_of Failbackpprc o p i = Failback o.devs i.first i.second (or_zero o.kind)
step_of Freezepprc o p i = Freeze o.devs (lss_in i.first) (lss_in i.second)
step_of Unfreezepprc o p i = Unfreeze o.devs (lss_in i.first) (lss_in i.second)
step_of Lspprc o p i = ListPairs o.devs i.first
step_of Lsflash o p i = ListFlashes o.devs i.first
step_of Mkflash o p i = MakeFlash o.devs i.first i.second o.nocopy o.persistent o.recorded o.inhibited o.freeze o.sequence
step_of Rmflash o p i = RemoveFlash o.devs i.first i.second o.sequence
step_of Resyncflash o p i = ResyncFlash o.devs i.first i.second o.nocopy o.persistent o.recorded o.inhibited o.sequence
step_of Reverseflash o p i = ReverseFlash o.devs i.first i.second o.tgtpprc o.sequence
step_of Commitflash o p i = CommitFlash o.devs i.first o.sequence
step_of Revertflash o p i = RevertFlash o.devs i.first o.sequence
step_of Unfreezeflash o p i = UnfreezeFlash o.devs (lss_in i.first)
step_of Mksession o p i = MakeSession o.devs (or_zero o.lss) p.session
step_of Chsession o p i = if unwrap_or o.adds true then AddMember o.devs (or_zero o.lss) i.first p.session else RemoveMember o.devs (or_zero o.lss) i.first p.session
step_of Rmsession o p i = RemoveSession o.devs (or_zero o.lss) p.session
step_of Lssession o p i = ListSession o.devs p.lss
step_of Showgmir o p i = ShowMirror o.devs p.lss
step_of Mkgmir o p i = MakeMirror o.devs (or_zero o.lss) (or_zero o.session) o.cginterval o.coordinate o.drain
step_of Resumegmir o p i = ResumeMirror o.devs (or_zero o.lss) (or_zero o.session) o.cginterval o.coordinate o.drain
step_of Pausegmir o p i = PauseMirror o.devs (or_zero o.lss) (or_zero o.session)
step_of Rmgmir o p i = RemoveMirror o.devs (or_zero o.lss) (or_zero o.session)
