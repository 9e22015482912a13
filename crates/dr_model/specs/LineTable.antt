-- The table of commands: the word of each, its options, its operands and how many steps it makes.
use Rattle.std.specs.Prelude.{ℕ, Bool, true, false, List, [], ◌∷◌, length, codes}
use Rattle.dr_model.specs.declared.grammar.Command.{Command}
use Rattle.dr_model.specs.declared.grammar.Command.TheVariants.{AtServer, AtVolume, AtLink, AtStop, AtStart, AtExpire, AtIssue, AtWrite, AtApply, AtDrain, AtCopy, AtDestage, AtExchange, AtSend, AtDeliver, AtLose, AtRun, AtAbort, AtRecover, AtShow, AtCompare, AtImage, Mkpprcpath, Rmpprcpath, Mkpprc, Rmpprc, Pausepprc, Resumepprc, Failoverpprc, Failbackpprc, Freezepprc, Unfreezepprc, Lspprc, Lsflash, Mkflash, Rmflash, Resyncflash, Reverseflash, Commitflash, Revertflash, Unfreezeflash, Mksession, Chsession, Rmsession, Lssession, Showgmir, Mkgmir, Resumegmir, Pausegmir, Rmgmir}
use Rattle.dr_model.specs.declared.grammar.Setting.{Setting}
use Rattle.dr_model.specs.declared.grammar.Setting.TheVariants.{Quiet, Dev, RemoteDev, RemotePort, SourceLss, TargetLss, ConsistencyGroup, Force, PairType, Mode, Cascade, Unconditional, AtSource, NoCopy, Persist, Recording, Inhibit, FreezeSource, Sequence, Fast, TargetPprc, OfLss, Members, Action, OfSession, Interval, Coordination, DrainTime}
use Rattle.dr_model.specs.declared.grammar.Operand.{Operand}
use Rattle.dr_model.specs.declared.grammar.Operand.TheVariants.{ServerName, OtherName, UpOrDown, AfterWord, TornMark, TornBytes, OneVolume, OtherVolume, Count, TrackNumber, Offset, WriteBytes, CountOrAll, SessionNumber, NoReply, LssNumber, VolumeRange, VolumeList, VolumePair, LssPair, EachLss, Ports, ControlPath}

-- all commands
unfoldable pub commands : List Command
commands = AtServer ∷ AtVolume ∷ AtLink ∷ AtStop ∷ AtStart ∷ AtExpire ∷ AtIssue ∷ AtWrite ∷ AtApply ∷ AtDrain ∷ AtCopy ∷ AtDestage ∷ AtExchange ∷ AtSend ∷ AtDeliver ∷ AtLose ∷ AtRun ∷ AtAbort ∷ AtRecover ∷ AtShow ∷ AtCompare ∷ AtImage
    ∷ Mkpprcpath ∷ Rmpprcpath ∷ Mkpprc ∷ Rmpprc ∷ Pausepprc ∷ Resumepprc ∷ Failoverpprc ∷ Failbackpprc ∷ Freezepprc ∷ Unfreezepprc ∷ Lspprc
    ∷ Lsflash ∷ Mkflash ∷ Rmflash ∷ Resyncflash ∷ Reverseflash ∷ Commitflash ∷ Revertflash ∷ Unfreezeflash
    ∷ Mksession ∷ Chsession ∷ Rmsession ∷ Lssession ∷ Showgmir ∷ Mkgmir ∷ Resumegmir ∷ Pausegmir ∷ Rmgmir ∷ []

-- the word of an option
unfoldable pub setting_word : Setting → List ℕ
setting_word Quiet = codes "-quiet"
setting_word Dev = codes "-dev"
setting_word RemoteDev = codes "-remotedev"
setting_word RemotePort = codes "-remotewwnn"
setting_word SourceLss = codes "-srclss"
setting_word TargetLss = codes "-tgtlss"
setting_word ConsistencyGroup = codes "-consistgrp"
setting_word Force = codes "-force"
setting_word PairType = codes "-type"
setting_word Mode = codes "-mode"
setting_word Cascade = codes "-cascade"
setting_word Unconditional = codes "-unconditional"
setting_word AtSource = codes "-at"
setting_word NoCopy = codes "-nocp"
setting_word Persist = codes "-persist"
setting_word Recording = codes "-record"
setting_word Inhibit = codes "-tgtinhibit"
setting_word FreezeSource = codes "-freeze"
setting_word Sequence = codes "-seqnum"
setting_word Fast = codes "-fast"
setting_word TargetPprc = codes "-tgtpprc"
setting_word OfLss = codes "-lss"
setting_word Members = codes "-volume"
setting_word Action = codes "-action"
setting_word OfSession = codes "-session"
setting_word Interval = codes "-cginterval"
setting_word Coordination = codes "-coordinate"
setting_word DrainTime = codes "-drain"

-- every command but those that begin with `@` takes these
abbrev pub with_common : List Setting → List Setting
with_common own = Quiet ∷ Dev ∷ own

-- the commands for remote copies take a second server beside these
abbrev pub with_remote : List Setting → List Setting
with_remote own = Quiet ∷ Dev ∷ RemoteDev ∷ own

-- what a line of a command has: its word, its options and those that it can't do without, what stands behind them in order, with how
-- many of these the line may end, and how many steps it makes beside one for each item
pub record Form : Type 0 where
  pub word : List ℕ
  pub settings : List Setting
  pub needed : List Setting
  pub operands : List Operand
  pub may_end_with : ℕ
  pub own_steps : ℕ

-- a line of one step, and one with a step for each item
abbrev pub one_step : List ℕ → List Setting → List Setting → List Operand → Form
one_step word own needed all = record { word = word; settings = own; needed = needed; operands = all; may_end_with = length all; own_steps = 1 }

abbrev pub step_each : List ℕ → List Setting → List Setting → List Operand → Form
step_each word own needed all = record (one_step word own needed all) { own_steps = 0 }

-- one of hosts, servers and links
abbrev pub host_line : List ℕ → List Operand → Form
host_line word all = one_step word [] [] all

-- one for a session's master, whose path may be left out
abbrev pub master_line : List ℕ → List Setting → List Setting → Form
master_line word own needed = record (one_step word own needed (ControlPath ∷ [])) { may_end_with = 0 }

-- the form of each command
unfoldable pub form : Command → Form
form AtServer = host_line (codes "@server") (ServerName ∷ [])
form AtVolume = record (host_line (codes "@volume") (VolumeRange ∷ ServerName ∷ Count ∷ [])) { own_steps = 0 }
form AtLink = host_line (codes "@link") (ServerName ∷ OtherName ∷ UpOrDown ∷ [])
form AtStop = record (host_line (codes "@stop") (ServerName ∷ AfterWord ∷ Count ∷ TornMark ∷ TornBytes ∷ [])) { may_end_with = 1 }
form AtStart = host_line (codes "@start") (ServerName ∷ [])
form AtExpire = host_line (codes "@expire") (ServerName ∷ [])
form AtIssue = host_line (codes "@issue") (OneVolume ∷ TrackNumber ∷ Offset ∷ WriteBytes ∷ [])
form AtWrite = host_line (codes "@write") (OneVolume ∷ TrackNumber ∷ Offset ∷ WriteBytes ∷ [])
form AtApply = host_line (codes "@apply") (Count ∷ [])
form AtDrain = host_line (codes "@drain") (OneVolume ∷ CountOrAll ∷ [])
form AtCopy = host_line (codes "@copy") (OneVolume ∷ CountOrAll ∷ [])
form AtDestage = host_line (codes "@destage") (OneVolume ∷ [])
form AtExchange = record (host_line (codes "@exchange") (SessionNumber ∷ ServerName ∷ NoReply ∷ [])) { may_end_with = 2 }
form AtSend = host_line (codes "@send") (SessionNumber ∷ ServerName ∷ [])
form AtDeliver = host_line (codes "@deliver") (Count ∷ [])
form AtLose = host_line (codes "@lose") (Count ∷ [])
form AtRun = host_line (codes "@run") (SessionNumber ∷ Count ∷ [])
form AtAbort = host_line (codes "@abort") (SessionNumber ∷ [])
form AtRecover = host_line (codes "@recover") (SessionNumber ∷ [])
form AtShow = host_line (codes "@show") (OneVolume ∷ TrackNumber ∷ [])
form AtCompare = host_line (codes "@compare") (OneVolume ∷ OtherVolume ∷ [])
form AtImage = host_line (codes "@image") []
form Mkpprcpath = one_step (codes "mkpprcpath") (with_remote (RemotePort ∷ SourceLss ∷ TargetLss ∷ ConsistencyGroup ∷ [])) (SourceLss ∷ TargetLss ∷ []) (Ports ∷ [])
form Rmpprcpath = step_each (codes "rmpprcpath") (with_remote (RemotePort ∷ Force ∷ [])) [] (LssPair ∷ [])
form Mkpprc = step_each (codes "mkpprc") (with_remote (PairType ∷ Mode ∷ Cascade ∷ [])) (PairType ∷ []) (VolumePair ∷ [])
form Rmpprc = step_each (codes "rmpprc") (with_remote (Unconditional ∷ AtSource ∷ [])) [] (VolumePair ∷ [])
form Pausepprc = step_each (codes "pausepprc") (with_remote []) [] (VolumePair ∷ [])
form Resumepprc = step_each (codes "resumepprc") (with_remote (PairType ∷ [])) (PairType ∷ []) (VolumePair ∷ [])
form Failoverpprc = step_each (codes "failoverpprc") (with_remote (PairType ∷ [])) (PairType ∷ []) (VolumePair ∷ [])
form Failbackpprc = step_each (codes "failbackpprc") (with_remote (PairType ∷ [])) (PairType ∷ []) (VolumePair ∷ [])
form Freezepprc = step_each (codes "freezepprc") (with_remote []) [] (LssPair ∷ [])
form Unfreezepprc = step_each (codes "unfreezepprc") (with_remote []) [] (LssPair ∷ [])
form Lspprc = step_each (codes "lspprc") (with_remote []) [] (VolumeList ∷ [])
form Lsflash = step_each (codes "lsflash") (with_common []) [] (VolumeList ∷ [])
form Mkflash = step_each (codes "mkflash") (with_common (NoCopy ∷ Persist ∷ Recording ∷ Inhibit ∷ FreezeSource ∷ Sequence ∷ [])) [] (VolumePair ∷ [])
form Rmflash = step_each (codes "rmflash") (with_common (Sequence ∷ [])) [] (VolumePair ∷ [])
form Resyncflash = step_each (codes "resyncflash") (with_common (NoCopy ∷ Persist ∷ Recording ∷ Inhibit ∷ Sequence ∷ [])) [] (VolumePair ∷ [])
form Reverseflash = step_each (codes "reverseflash") (with_common (Fast ∷ TargetPprc ∷ Sequence ∷ [])) (Fast ∷ []) (VolumePair ∷ [])
form Commitflash = step_each (codes "commitflash") (with_common (Sequence ∷ [])) [] (VolumeList ∷ [])
form Revertflash = step_each (codes "revertflash") (with_common (Sequence ∷ [])) [] (VolumeList ∷ [])
form Unfreezeflash = step_each (codes "unfreezeflash") (with_common []) [] (EachLss ∷ [])
form Mksession = one_step (codes "mksession") (with_common (OfLss ∷ Members ∷ [])) (OfLss ∷ []) (SessionNumber ∷ [])
form Chsession = step_each (codes "chsession") (with_common (OfLss ∷ Action ∷ Members ∷ [])) (OfLss ∷ Action ∷ Members ∷ []) (SessionNumber ∷ [])
form Rmsession = one_step (codes "rmsession") (with_common (OfLss ∷ [])) (OfLss ∷ []) (SessionNumber ∷ [])
form Lssession = one_step (codes "lssession") (with_common []) [] (LssNumber ∷ [])
form Showgmir = one_step (codes "showgmir") (with_common []) [] (LssNumber ∷ [])
form Mkgmir = master_line (codes "mkgmir") (with_common (OfLss ∷ OfSession ∷ Interval ∷ Coordination ∷ DrainTime ∷ [])) (OfLss ∷ OfSession ∷ [])
form Resumegmir = master_line (codes "resumegmir") (with_common (OfLss ∷ OfSession ∷ Interval ∷ Coordination ∷ DrainTime ∷ [])) (OfLss ∷ OfSession ∷ [])
form Pausegmir = master_line (codes "pausegmir") (with_common (OfLss ∷ OfSession ∷ [])) (OfLss ∷ OfSession ∷ [])
form Rmgmir = master_line (codes "rmgmir") (with_common (OfLss ∷ OfSession ∷ [])) (OfLss ∷ OfSession ∷ [])

-- the word of a command
unfoldable pub command_word : Command → List ℕ
command_word c = (form c).word

-- the options of a command, and those that it can't do without
unfoldable pub settings : Command → List Setting
settings c = (form c).settings

unfoldable pub needed : Command → List Setting
needed c = (form c).needed

-- what stands behind the options, in order, and with how many of these a line may end
unfoldable pub operands : Command → List Operand
operands c = (form c).operands

unfoldable pub may_end_with : Command → ℕ
may_end_with c = (form c).may_end_with

-- how many steps a line makes beside one for each item
unfoldable pub own_steps : Command → ℕ
own_steps c = (form c).own_steps

-- these operands are alone behind their commands and may be repeated
abbrev pub repeats : Operand → Bool
repeats VolumeList = true
repeats VolumePair = true
repeats LssPair = true
repeats EachLss = true
repeats Ports = true
repeats ControlPath = true
repeats _ = false
