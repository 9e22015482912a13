-- Each step that a line gives is written.
use Rattle.std.proofs.Common.{ℕ, ◌≡◌, ◌<◌, ◌+◌, ◌^◌, List, [], ◌∷◌, take, length, map, refl, ap, ◌∙◌, arith, Bool, true, false, not, ◌&&◌, ◌||◌, cond, Option, Some, None, nat_lt, nat_le, nat_eq}
use Rattle.std.specs.Prelude.{All, OnOk, Result, Ok, Err}
use Rattle.std.specs.Bool.{beq}
use Rattle.std.specs.List.{list_all}
use Rattle.std.specs.Option.{unwrap_or, is_some, is_none}
use Rattle.std.proofs.lemmas.Bool.Decides.{nat_tests}
use Rattle.std.proofs.lemmas.List.Elements.{All-cons, All-nil, All-append}
use Rattle.std.proofs.lemmas.Bool.{and_parts, or_right, lt-ltb, and_from, eq-eqb}
use Rattle.dr_ids.specs.declared.refusal.Fault.{Fault}
use Rattle.dr_model.specs.declared.step.Name.{Name}
use Rattle.dr_model.specs.declared.step.TornWord.{TornWord}
use Rattle.dr_model.specs.declared.step.Step.{Step}
use Rattle.dr_model.specs.declared.step.Step.TheVariants.{Stop, StopAfter, Exchange, AddMember, RemoveMember}
use Rattle.dr_model.specs.declared.grammar.Command.{Command}
use Rattle.dr_model.specs.declared.grammar.Command.TheVariants.{AtServer, AtVolume, AtLink, AtStop, AtStart, AtExpire, AtIssue, AtWrite, AtApply, AtDrain, AtCopy, AtDestage, AtExchange, AtSend, AtDeliver, AtLose, AtRun, AtAbort, AtRecover, AtShow, AtCompare, AtImage, Mkpprcpath, Rmpprcpath, Mkpprc, Rmpprc, Pausepprc, Resumepprc, Failoverpprc, Failbackpprc, Freezepprc, Unfreezepprc, Lspprc, Lsflash, Mkflash, Rmflash, Resyncflash, Reverseflash, Commitflash, Revertflash, Unfreezeflash, Mksession, Chsession, Rmsession, Lssession, Showgmir, Mkgmir, Resumegmir, Pausegmir, Rmgmir}
use Rattle.dr_model.specs.declared.grammar.Setting.{Setting}
use Rattle.dr_model.specs.declared.grammar.Setting.TheVariants.{Quiet, Dev, RemoteDev, RemotePort, SourceLss, TargetLss, ConsistencyGroup, Force, PairType, Mode, Cascade, Unconditional, AtSource, NoCopy, Persist, Recording, Inhibit, FreezeSource, Sequence, Fast, TargetPprc, OfLss, Members, Action, OfSession, Interval, Coordination, DrainTime}
use Rattle.dr_model.specs.declared.grammar.Options.{Options}
use Rattle.dr_model.specs.declared.grammar.Operands.{Operands}
use Rattle.dr_model.specs.declared.grammar.Item.{Item}
use Rattle.dr_model.specs.declared.grammar.Saying.{Saying}
use Rattle.dr_model.specs.LineWords.{Word, line_words}
use Rattle.dr_model.specs.LineTable.{form, commands, settings, needed, operands, may_end_with, own_steps}
use Rattle.dr_model.specs.LineSteps.{has, no_options, no_operands, or_zero, lss_in, step_of}
use Rattle.dr_model.specs.LineText.{name_fits, torn_fits, setting_fits, settings_fit, operand_fits, operands_fit, takes_remote, remote_fits, said_count, said_operands, said_fits, given, for_item, for_session, for_lss, at_saying, pair_saying, flash_saying, session_saying, is_written, IsWritten}
use Rattle.dr_model.specs.Grammar.{Reading, command_named, cascades_metro, is_ready, read_on, may_end, item_command, no_item, own_step, item_steps, steps_of, read_words, start_of, command_read, words_read, begins_comment, line_of}
use Rattle.dr_script.specs.Readings.{ReadsAs}
use Rattle.dr_script.proofs.WrittenWordLemmas.{carry, Smalls}
use Rattle.dr_script.proofs.WrittenReadLemmas.{or_given, OptionsSound, OperandsSound, Known, nothing_known, learned, IsFitting, start_fits, read_on_fits}

-- the operands that must have been read are known
abbrev Enough : Command → Known → Type 0
Enough AtServer k = k.server ≡ true
Enough AtVolume k = k.server ≡ true
Enough AtLink k = (k.server ≡ true) × (k.other ≡ true)
Enough AtStop k = k.server ≡ true
Enough AtStart k = k.server ≡ true
Enough AtExpire k = k.server ≡ true
Enough AtIssue k = k.bytes ≡ true
Enough AtWrite k = k.bytes ≡ true
Enough AtExchange k = (k.session ≡ true) × (k.server ≡ true)
Enough AtSend k = (k.session ≡ true) × (k.server ≡ true)
Enough AtRun k = k.session ≡ true
Enough AtAbort k = k.session ≡ true
Enough AtRecover k = k.session ≡ true
Enough Mksession k = k.session ≡ true
Enough Chsession k = k.session ≡ true
Enough Rmsession k = k.session ≡ true
Enough _ k = Unit {0}

enough_all : (c : Command) → Enough c (learned nothing_known (take (length (operands c)) (operands c)))
unfolding operands may_end_with form
enough_all AtServer = refl
enough_all AtVolume = refl
enough_all AtLink = (refl, refl)
enough_all AtStop = refl
enough_all AtStart = refl
enough_all AtExpire = refl
enough_all AtIssue = refl
enough_all AtWrite = refl
enough_all AtApply = tt
enough_all AtDrain = tt
enough_all AtCopy = tt
enough_all AtDestage = tt
enough_all AtExchange = (refl, refl)
enough_all AtSend = (refl, refl)
enough_all AtDeliver = tt
enough_all AtLose = tt
enough_all AtRun = refl
enough_all AtAbort = refl
enough_all AtRecover = refl
enough_all AtShow = tt
enough_all AtCompare = tt
enough_all AtImage = tt
enough_all Mkpprcpath = tt
enough_all Rmpprcpath = tt
enough_all Mkpprc = tt
enough_all Rmpprc = tt
enough_all Pausepprc = tt
enough_all Resumepprc = tt
enough_all Failoverpprc = tt
enough_all Failbackpprc = tt
enough_all Freezepprc = tt
enough_all Unfreezepprc = tt
enough_all Lspprc = tt
enough_all Lsflash = tt
enough_all Unfreezeflash = tt
enough_all Mkflash = tt
enough_all Rmflash = tt
enough_all Resyncflash = tt
enough_all Reverseflash = tt
enough_all Commitflash = tt
enough_all Revertflash = tt
enough_all Mksession = refl
enough_all Chsession = refl
enough_all Rmsession = refl
enough_all Lssession = tt
enough_all Showgmir = tt
enough_all Mkgmir = tt
enough_all Resumegmir = tt
enough_all Pausegmir = tt
enough_all Rmgmir = tt

enough_end : (c : Command) → Enough c (learned nothing_known (take (may_end_with c) (operands c)))
unfolding operands may_end_with form
enough_end AtServer = refl
enough_end AtVolume = refl
enough_end AtLink = (refl, refl)
enough_end AtStop = refl
enough_end AtStart = refl
enough_end AtExpire = refl
enough_end AtIssue = refl
enough_end AtWrite = refl
enough_end AtApply = tt
enough_end AtDrain = tt
enough_end AtCopy = tt
enough_end AtDestage = tt
enough_end AtExchange = (refl, refl)
enough_end AtSend = (refl, refl)
enough_end AtDeliver = tt
enough_end AtLose = tt
enough_end AtRun = refl
enough_end AtAbort = refl
enough_end AtRecover = refl
enough_end AtShow = tt
enough_end AtCompare = tt
enough_end AtImage = tt
enough_end Mkpprcpath = tt
enough_end Rmpprcpath = tt
enough_end Mkpprc = tt
enough_end Rmpprc = tt
enough_end Pausepprc = tt
enough_end Resumepprc = tt
enough_end Failoverpprc = tt
enough_end Failbackpprc = tt
enough_end Freezepprc = tt
enough_end Unfreezepprc = tt
enough_end Lspprc = tt
enough_end Lsflash = tt
enough_end Unfreezeflash = tt
enough_end Mkflash = tt
enough_end Rmflash = tt
enough_end Resyncflash = tt
enough_end Reverseflash = tt
enough_end Commitflash = tt
enough_end Revertflash = tt
enough_end Mksession = refl
enough_end Chsession = refl
enough_end Rmsession = refl
enough_end Lssession = tt
enough_end Showgmir = tt
enough_end Mkgmir = tt
enough_end Resumegmir = tt
enough_end Pausegmir = tt
enough_end Rmgmir = tt

enough : (c : Command) (n : ℕ) → (nat_eq n (length (operands c)) || nat_eq n (may_end_with c)) ≡ true → Enough c (learned nothing_known (take n (operands c)))
enough c n e =
    elim (nat_eq n (length (operands c))) as (λ b. nat_eq n (length (operands c)) ≡ b → (b || nat_eq n (may_end_with c)) ≡ true → Enough c (learned nothing_known (take n (operands c)))) [
      | true ↦ λ t h. let is : length (operands c) ≡ n = grind (arith, nat_tests, t) in carry (λ m. Enough c (learned nothing_known (take m (operands c)))) _ n is (enough_all c)
      | false ↦ λ t h. let is : may_end_with c ≡ n = grind (arith, nat_tests, h) in carry (λ m. Enough c (learned nothing_known (take m (operands c)))) _ n is (enough_end c)
    ] refl e

-- the options that must have been given
abbrev Given : Command → Options → Type 0
Given Mkpprc o = is_some o.kind ≡ true
Given Resumepprc o = is_some o.kind ≡ true
Given Failoverpprc o = is_some o.kind ≡ true
Given Failbackpprc o = is_some o.kind ≡ true
Given Mkgmir o = is_some o.session ≡ true
Given Resumegmir o = is_some o.session ≡ true
Given Pausegmir o = is_some o.session ≡ true
Given Rmgmir o = is_some o.session ≡ true
Given _ o = Unit {0}

all_given : (c : Command) (o : Options) → list_all (λ setting. has setting o) (needed c) ≡ true → Given c o
unfolding needed has form
all_given AtServer o e = tt
all_given AtVolume o e = tt
all_given AtLink o e = tt
all_given AtStop o e = tt
all_given AtStart o e = tt
all_given AtExpire o e = tt
all_given AtIssue o e = tt
all_given AtWrite o e = tt
all_given AtApply o e = tt
all_given AtDrain o e = tt
all_given AtCopy o e = tt
all_given AtDestage o e = tt
all_given AtExchange o e = tt
all_given AtSend o e = tt
all_given AtDeliver o e = tt
all_given AtLose o e = tt
all_given AtRun o e = tt
all_given AtAbort o e = tt
all_given AtRecover o e = tt
all_given AtShow o e = tt
all_given AtCompare o e = tt
all_given AtImage o e = tt
all_given Mkpprcpath o e = tt
all_given Rmpprcpath o e = tt
all_given Mkpprc o e = (and_parts (is_some o.kind) true e).0
all_given Rmpprc o e = tt
all_given Pausepprc o e = tt
all_given Resumepprc o e = (and_parts (is_some o.kind) true e).0
all_given Failoverpprc o e = (and_parts (is_some o.kind) true e).0
all_given Failbackpprc o e = (and_parts (is_some o.kind) true e).0
all_given Freezepprc o e = tt
all_given Unfreezepprc o e = tt
all_given Lspprc o e = tt
all_given Lsflash o e = tt
all_given Unfreezeflash o e = tt
all_given Mkflash o e = tt
all_given Rmflash o e = tt
all_given Resyncflash o e = tt
all_given Reverseflash o e = tt
all_given Commitflash o e = tt
all_given Revertflash o e = tt
all_given Mksession o e = tt
all_given Chsession o e = tt
all_given Rmsession o e = tt
all_given Lssession o e = tt
all_given Showgmir o e = tt
all_given Mkgmir o e = (and_parts (is_some o.session) true (and_parts (is_some o.lss) _ e).1).0
all_given Resumegmir o e = (and_parts (is_some o.session) true (and_parts (is_some o.lss) _ e).1).0
all_given Pausegmir o e = (and_parts (is_some o.session) true (and_parts (is_some o.lss) _ e).1).0
all_given Rmgmir o e = (and_parts (is_some o.session) true (and_parts (is_some o.lss) _ e).1).0

record Sound (c : Command) (o : Options) (p : Operands) : Type 0 where
  known : Known
  options : OptionsSound (takes_remote (settings c)) o
  operands : OperandsSound known p
  enough : Enough c known
  given : Given c o
  cascades : not (cascades_metro o) ≡ true

item_sound : (c : Command) (o : Options) (p : Operands) → Sound c o p → Sound (item_command c) o p
unfolding settings form
item_sound AtServer o p h = h
item_sound AtVolume o p h = h
item_sound AtLink o p h = h
item_sound AtStop o p h = h
item_sound AtStart o p h = h
item_sound AtExpire o p h = h
item_sound AtIssue o p h = h
item_sound AtWrite o p h = h
item_sound AtApply o p h = h
item_sound AtDrain o p h = h
item_sound AtCopy o p h = h
item_sound AtDestage o p h = h
item_sound AtExchange o p h = h
item_sound AtSend o p h = h
item_sound AtDeliver o p h = h
item_sound AtLose o p h = h
item_sound AtRun o p h = h
item_sound AtAbort o p h = h
item_sound AtRecover o p h = h
item_sound AtShow o p h = h
item_sound AtCompare o p h = h
item_sound AtImage o p h = h
item_sound Mkpprcpath o p h = h
item_sound Rmpprcpath o p h = h
item_sound Mkpprc o p h = h
item_sound Rmpprc o p h = h
item_sound Pausepprc o p h = h
item_sound Resumepprc o p h = h
item_sound Failoverpprc o p h = h
item_sound Failbackpprc o p h = h
item_sound Freezepprc o p h = h
item_sound Unfreezepprc o p h = h
item_sound Lspprc o p h = h
item_sound Lsflash o p h = h
item_sound Unfreezeflash o p h = h
item_sound Mkflash o p h = h
item_sound Rmflash o p h = h
item_sound Resyncflash o p h = h
item_sound Reverseflash o p h = h
item_sound Commitflash o p h = h
item_sound Revertflash o p h = h
item_sound Mksession o p h = record { known = h.known; options = h.options; operands = h.operands; enough = h.enough; given = tt; cascades = h.cascades }
item_sound Chsession o p h = h
item_sound Rmsession o p h = h
item_sound Lssession o p h = h
item_sound Showgmir o p h = h
item_sound Mkgmir o p h = h
item_sound Resumegmir o p h = h
item_sound Pausegmir o p h = h
item_sound Rmgmir o p h = h

-- the options that are said fit
record SaidSound (o : Options) (i : Item) : Type 0 where
  quiet : o.quiet ≡ false
  port : o.remote_port ≡ false
  members : (not o.members || (nat_lt i.first 65536 && nat_eq i.second i.first)) ≡ true
  cascade : (not o.cascade || nat_eq (or_zero o.kind) 2) ≡ true
  sound : OptionsSound true o

setting_sound : (s : Setting) (o : Options) (i : Item) → SaidSound o i → (not (has s o) || setting_fits s o i) ≡ true
unfolding has setting_fits
setting_sound Quiet o i h = ap (λ b. not b || false) h.quiet
setting_sound Dev o i h = h.sound.dev
setting_sound RemoteDev o i h = h.sound.remote
setting_sound RemotePort o i h = ap (λ b. not b || false) h.port
setting_sound SourceLss o i h = or_right _ _ h.sound.src
setting_sound TargetLss o i h = or_right _ _ h.sound.tgt
setting_sound ConsistencyGroup o i h = or_right _ true refl
setting_sound Force o i h = or_right _ true refl
setting_sound PairType o i h = h.sound.kind
setting_sound Mode o i h = or_right _ true refl
setting_sound Cascade o i h = h.cascade
setting_sound Unconditional o i h = or_right _ true refl
setting_sound AtSource o i h = or_right _ true refl
setting_sound NoCopy o i h = or_right _ true refl
setting_sound Persist o i h = or_right _ true refl
setting_sound Recording o i h = or_right _ true refl
setting_sound Inhibit o i h = or_right _ true refl
setting_sound FreezeSource o i h = or_right _ true refl
setting_sound Sequence o i h = or_right _ _ h.sound.sequence
setting_sound Fast o i h = or_right _ true refl
setting_sound TargetPprc o i h = or_right _ true refl
setting_sound OfLss o i h = or_right _ _ h.sound.lss
setting_sound Members o i h = h.members
setting_sound Action o i h = or_right _ true refl
setting_sound OfSession o i h = h.sound.session
setting_sound Interval o i h = or_right _ _ h.sound.cginterval
setting_sound Coordination o i h = or_right _ _ h.sound.coordinate
setting_sound DrainTime o i h = or_right _ _ h.sound.drain

settings_sound : (ss : List Setting) (o : Options) (i : Item) → SaidSound o i → settings_fit ss o i ≡ true
settings_sound [] o i h = refl
settings_sound (s ∷ ss) o i h = and_from (not (has s o) || setting_fits s o i) (settings_fit ss o i) (setting_sound s o i h) (settings_sound ss o i h)

said_sound : (said : Saying) → SaidSound said.options said.item → operands_fit (said_operands said) said.operands said.item ≡ true → remote_fits (settings said.command) said.options ≡ true → said_fits said ≡ true
said_sound said o p r =
    and_from (settings_fit (settings said.command) said.options said.item && operands_fit (said_operands said) said.operands said.item) _
    (and_from (settings_fit (settings said.command) said.options said.item) _ (settings_sound (settings said.command) said.options said.item o) p) r

lss_low : (n : ℕ) → nat_lt (lss_in n) 256 ≡ true
lss_low n = let z : lss_in n < 256 = omega arith in lt-ltb _ 256 z

one : (a : Bool) → a ≡ true → (a && true) ≡ true
one a e = and_from a true e refl

two : (a b : Bool) → a ≡ true → b ≡ true → (a && (b && true)) ≡ true
two a b e f = and_from a (b && true) e (one b f)

at_sound : (c : Command) (p : Operands) (i : Item) → settings c ≡ [] → operands_fit (take (said_count c p) (operands c)) p i ≡ true → said_fits (record { command = c; options = no_options; operands = p; item = i }) ≡ true
unfolding no_options
at_sound c p i plain e =
    ap (λ ss. (settings_fit ss no_options i && operands_fit (take (said_count c p) (operands c)) p i) && remote_fits ss no_options) plain ∙ one _ e

stop_written : (server : Name) (after : Bool) (count : ℕ) (torn : TornWord) → name_fits server ≡ true → nat_lt count (2 ^ 32) ≡ true → torn_fits torn ≡ true → is_written (cond after (StopAfter server count torn) (Stop server)) ≡ true
unfolding is_written at_saying pair_saying flash_saying session_saying settings operands said_count may_end_with operand_fits no_operands form
stop_written server true count torn n c t = at_sound AtStop (record no_operands { server = server; after = true; torn = torn; count = count }) no_item refl (and_from _ _ n (and_from _ _ c (one _ t)))
stop_written server false count torn n c t = at_sound AtStop (record no_operands { server = server }) no_item refl (one _ n)

exchange_written : (session : ℕ) (server : Name) (reply : Bool) → (nat_le 1 session && nat_lt session 256) ≡ true → name_fits server ≡ true → is_written (Exchange session server reply) ≡ true
unfolding is_written at_saying pair_saying flash_saying session_saying settings operands said_count may_end_with operand_fits no_operands form
exchange_written session server true s n = at_sound AtExchange (record no_operands { server = server; session = session; reply = true }) no_item refl (two _ _ s n)
exchange_written session server false s n = at_sound AtExchange (record no_operands { server = server; session = session; reply = false }) no_item refl (two _ _ s n)

member_written : (adds : Bool) (o : Options) (session volume : ℕ) → OptionsSound false o → (nat_le 1 session && nat_lt session 256) ≡ true → volume < 65536
    → is_written (cond adds (AddMember o.devs (or_zero o.lss) volume session) (RemoveMember o.devs (or_zero o.lss) volume session)) ≡ true
unfolding is_written at_saying pair_saying flash_saying session_saying settings operands said_count may_end_with operand_fits no_operands no_options form
member_written true o session volume h s v = said_sound (for_session Chsession (record no_options { devs = o.devs; lss = Some (or_zero o.lss); members = true; adds = Some true }) session volume) (record { quiet = refl; port = refl; members = and_from _ _ (lt-ltb _ 65536 v) ((eq-eqb volume volume refl)); cascade = refl; sound = record { remote_ok = refl; dev = h.dev; remote = h.remote; src = refl; tgt = refl; kind = refl; sequence = refl; lss = h.lss; session = refl; cginterval = refl; coordinate = refl; drain = refl } }) (one _ s) h.remote_ok
member_written false o session volume h s v = said_sound (for_session Chsession (record no_options { devs = o.devs; lss = Some (or_zero o.lss); members = true; adds = Some false }) session volume) (record { quiet = refl; port = refl; members = and_from _ _ (lt-ltb _ 65536 v) ((eq-eqb volume volume refl)); cascade = refl; sound = record { remote_ok = refl; dev = h.dev; remote = h.remote; src = refl; tgt = refl; kind = refl; sequence = refl; lss = h.lss; session = refl; cginterval = refl; coordinate = refl; drain = refl } }) (one _ s) h.remote_ok

-- what is of Global Copy alone is given with it, or not given
of_global : (given global : Bool) → not (given && not global) ≡ true → (not given || global) ≡ true
of_global true true e = refl
of_global true false e = e
of_global false global e = refl

step_written : (c : Command) (o : Options) (p : Operands) (i : Item) → Sound c o p → (i.first < 65536) × (i.second < 65536) → is_written (step_of c o p i) ≡ true
unfolding is_written step_of at_saying pair_saying flash_saying session_saying settings operands said_count may_end_with operand_fits no_operands no_options form
step_written AtServer o p i h s = at_sound AtServer (record no_operands { server = p.server }) (no_item) refl (one _ (h.operands.server h.enough))
step_written AtVolume o p i h s = at_sound AtVolume (record no_operands { server = p.server; count = p.count }) (record { first = i.first; second = i.first }) refl (and_from _ _ (and_from _ _ (lt-ltb _ 65536 s.0) ((eq-eqb i.first i.first refl))) (two _ _ (h.operands.server h.enough) h.operands.count))
step_written AtLink o p i h s = at_sound AtLink (record no_operands { server = p.server; other = p.other; up = p.up }) (no_item) refl (two _ _ (h.operands.server h.enough.0) (h.operands.other h.enough.1))
step_written AtStop o p i h s = stop_written p.server p.after p.count p.torn (h.operands.server h.enough) h.operands.count h.operands.torn
step_written AtStart o p i h s = at_sound AtStart (record no_operands { server = p.server }) (no_item) refl (one _ (h.operands.server h.enough))
step_written AtExpire o p i h s = at_sound AtExpire (record no_operands { server = p.server }) (no_item) refl (one _ (h.operands.server h.enough))
step_written AtIssue o p i h s = at_sound AtIssue (record no_operands { volume = p.volume; track = p.track; offset = p.offset; len = p.len; bytes = p.bytes }) (no_item) refl (and_from _ _ h.operands.volume (and_from _ _ h.operands.track (two _ _ h.operands.offset (h.operands.bytes h.enough))))
step_written AtWrite o p i h s = at_sound AtWrite (record no_operands { volume = p.volume; track = p.track; offset = p.offset; len = p.len; bytes = p.bytes }) (no_item) refl (and_from _ _ h.operands.volume (and_from _ _ h.operands.track (two _ _ h.operands.offset (h.operands.bytes h.enough))))
step_written AtApply o p i h s = at_sound AtApply (record no_operands { count = p.count }) (no_item) refl (one _ h.operands.count)
step_written AtDrain o p i h s = at_sound AtDrain (record no_operands { volume = p.volume; most = p.most }) (no_item) refl (two _ _ h.operands.volume h.operands.most)
step_written AtCopy o p i h s = at_sound AtCopy (record no_operands { volume = p.volume; most = p.most }) (no_item) refl (two _ _ h.operands.volume h.operands.most)
step_written AtDestage o p i h s = at_sound AtDestage (record no_operands { volume = p.volume }) (no_item) refl (one _ h.operands.volume)
step_written AtExchange o p i h s = exchange_written p.session p.server p.reply (h.operands.session h.enough.0) (h.operands.server h.enough.1)
step_written AtSend o p i h s = at_sound AtSend (record no_operands { server = p.server; session = p.session }) (no_item) refl (two _ _ (h.operands.session h.enough.0) (h.operands.server h.enough.1))
step_written AtDeliver o p i h s = at_sound AtDeliver (record no_operands { count = p.count }) (no_item) refl (one _ h.operands.count)
step_written AtLose o p i h s = at_sound AtLose (record no_operands { count = p.count }) (no_item) refl (one _ h.operands.count)
step_written AtRun o p i h s = at_sound AtRun (record no_operands { count = p.count; session = p.session }) (no_item) refl (two _ _ (h.operands.session h.enough) h.operands.count)
step_written AtAbort o p i h s = at_sound AtAbort (record no_operands { session = p.session }) (no_item) refl (one _ (h.operands.session h.enough))
step_written AtRecover o p i h s = at_sound AtRecover (record no_operands { session = p.session }) (no_item) refl (one _ (h.operands.session h.enough))
step_written AtShow o p i h s = at_sound AtShow (record no_operands { volume = p.volume; track = p.track }) (no_item) refl (two _ _ h.operands.volume h.operands.track)
step_written AtCompare o p i h s = at_sound AtCompare (record no_operands { volume = p.volume; with = p.with }) (no_item) refl (two _ _ h.operands.volume h.operands.with)
step_written AtImage o p i h s = at_sound AtImage (no_operands) (no_item) refl (refl)
step_written Mkpprcpath o p i h s = said_sound (for_item Mkpprcpath (record no_options { devs = o.devs; src = Some (or_zero o.src); tgt = Some (or_zero o.tgt); group = o.group }) 0 0) (record { quiet = refl; port = refl; members = refl; cascade = refl; sound = record { remote_ok = refl; dev = h.options.dev; remote = h.options.remote; src = h.options.src; tgt = h.options.tgt; kind = refl; sequence = refl; lss = refl; session = refl; cginterval = refl; coordinate = refl; drain = refl } }) (refl) (refl)
step_written Rmpprcpath o p i h s = said_sound (for_item Rmpprcpath (record no_options { devs = o.devs; force = o.force }) (lss_in i.first) (lss_in i.second)) (record { quiet = refl; port = refl; members = refl; cascade = refl; sound = record { remote_ok = refl; dev = h.options.dev; remote = h.options.remote; src = refl; tgt = refl; kind = refl; sequence = refl; lss = refl; session = refl; cginterval = refl; coordinate = refl; drain = refl } }) (one _ (and_from _ _ (lss_low i.first) (lss_low i.second))) (refl)
step_written Mkpprc o p i h s = said_sound (for_item Mkpprc (record no_options { devs = o.devs; kind = Some (or_zero o.kind); full = cond (unwrap_or o.full true) None (Some false); cascade = o.cascade }) i.first i.second) (record { quiet = refl; port = refl; members = refl; cascade = of_global o.cascade (nat_eq (or_zero o.kind) 2) h.cascades; sound = record { remote_ok = refl; dev = h.options.dev; remote = h.options.remote; src = refl; tgt = refl; kind = or_given _ _ h.given h.options.kind; sequence = refl; lss = refl; session = refl; cginterval = refl; coordinate = refl; drain = refl } }) (one _ (and_from _ _ (lt-ltb _ 65536 s.0) (lt-ltb _ 65536 s.1))) (refl)
step_written Rmpprc o p i h s = said_sound (for_item Rmpprc (record no_options { devs = o.devs; unconditional = o.unconditional; at_source = o.unconditional }) i.first i.second) (record { quiet = refl; port = refl; members = refl; cascade = refl; sound = record { remote_ok = refl; dev = h.options.dev; remote = h.options.remote; src = refl; tgt = refl; kind = refl; sequence = refl; lss = refl; session = refl; cginterval = refl; coordinate = refl; drain = refl } }) (one _ (and_from _ _ (lt-ltb _ 65536 s.0) (lt-ltb _ 65536 s.1))) (refl)
step_written Pausepprc o p i h s = said_sound (for_item Pausepprc (given o.devs) i.first i.second) (record { quiet = refl; port = refl; members = refl; cascade = refl; sound = record { remote_ok = refl; dev = h.options.dev; remote = h.options.remote; src = refl; tgt = refl; kind = refl; sequence = refl; lss = refl; session = refl; cginterval = refl; coordinate = refl; drain = refl } }) (one _ (and_from _ _ (lt-ltb _ 65536 s.0) (lt-ltb _ 65536 s.1))) (refl)
step_written Resumepprc o p i h s = said_sound (for_item Resumepprc (record no_options { devs = o.devs; kind = Some (or_zero o.kind) }) i.first i.second) (record { quiet = refl; port = refl; members = refl; cascade = refl; sound = record { remote_ok = refl; dev = h.options.dev; remote = h.options.remote; src = refl; tgt = refl; kind = or_given _ _ h.given h.options.kind; sequence = refl; lss = refl; session = refl; cginterval = refl; coordinate = refl; drain = refl } }) (one _ (and_from _ _ (lt-ltb _ 65536 s.0) (lt-ltb _ 65536 s.1))) (refl)
step_written Failoverpprc o p i h s = said_sound (for_item Failoverpprc (record no_options { devs = o.devs; kind = Some (or_zero o.kind) }) i.first i.second) (record { quiet = refl; port = refl; members = refl; cascade = refl; sound = record { remote_ok = refl; dev = h.options.dev; remote = h.options.remote; src = refl; tgt = refl; kind = or_given _ _ h.given h.options.kind; sequence = refl; lss = refl; session = refl; cginterval = refl; coordinate = refl; drain = refl } }) (one _ (and_from _ _ (lt-ltb _ 65536 s.0) (lt-ltb _ 65536 s.1))) (refl)
step_written Failbackpprc o p i h s = said_sound (for_item Failbackpprc (record no_options { devs = o.devs; kind = Some (or_zero o.kind) }) i.first i.second) (record { quiet = refl; port = refl; members = refl; cascade = refl; sound = record { remote_ok = refl; dev = h.options.dev; remote = h.options.remote; src = refl; tgt = refl; kind = or_given _ _ h.given h.options.kind; sequence = refl; lss = refl; session = refl; cginterval = refl; coordinate = refl; drain = refl } }) (one _ (and_from _ _ (lt-ltb _ 65536 s.0) (lt-ltb _ 65536 s.1))) (refl)
step_written Freezepprc o p i h s = said_sound (for_item Freezepprc (given o.devs) (lss_in i.first) (lss_in i.second)) (record { quiet = refl; port = refl; members = refl; cascade = refl; sound = record { remote_ok = refl; dev = h.options.dev; remote = h.options.remote; src = refl; tgt = refl; kind = refl; sequence = refl; lss = refl; session = refl; cginterval = refl; coordinate = refl; drain = refl } }) (one _ (and_from _ _ (lss_low i.first) (lss_low i.second))) (refl)
step_written Unfreezepprc o p i h s = said_sound (for_item Unfreezepprc (given o.devs) (lss_in i.first) (lss_in i.second)) (record { quiet = refl; port = refl; members = refl; cascade = refl; sound = record { remote_ok = refl; dev = h.options.dev; remote = h.options.remote; src = refl; tgt = refl; kind = refl; sequence = refl; lss = refl; session = refl; cginterval = refl; coordinate = refl; drain = refl } }) (one _ (and_from _ _ (lss_low i.first) (lss_low i.second))) (refl)
step_written Lspprc o p i h s = said_sound (for_item Lspprc (given o.devs) i.first i.first) (record { quiet = refl; port = refl; members = refl; cascade = refl; sound = record { remote_ok = refl; dev = h.options.dev; remote = h.options.remote; src = refl; tgt = refl; kind = refl; sequence = refl; lss = refl; session = refl; cginterval = refl; coordinate = refl; drain = refl } }) (one _ (and_from _ _ (lt-ltb _ 65536 s.0) ((eq-eqb i.first i.first refl)))) (refl)
step_written Lsflash o p i h s = said_sound (for_item Lsflash (given o.devs) i.first i.first) (record { quiet = refl; port = refl; members = refl; cascade = refl; sound = record { remote_ok = refl; dev = h.options.dev; remote = h.options.remote; src = refl; tgt = refl; kind = refl; sequence = refl; lss = refl; session = refl; cginterval = refl; coordinate = refl; drain = refl } }) (one _ (and_from _ _ (lt-ltb _ 65536 s.0) ((eq-eqb i.first i.first refl)))) (h.options.remote_ok)
step_written Mkflash o p i h s = said_sound (for_item Mkflash (record no_options { devs = o.devs; nocopy = o.nocopy; persistent = o.persistent; recorded = o.recorded; inhibited = o.inhibited; freeze = o.freeze; sequence = o.sequence }) i.first i.second) (record { quiet = refl; port = refl; members = refl; cascade = refl; sound = record { remote_ok = refl; dev = h.options.dev; remote = h.options.remote; src = refl; tgt = refl; kind = refl; sequence = h.options.sequence; lss = refl; session = refl; cginterval = refl; coordinate = refl; drain = refl } }) (one _ (and_from _ _ (lt-ltb _ 65536 s.0) (lt-ltb _ 65536 s.1))) (h.options.remote_ok)
step_written Resyncflash o p i h s = said_sound (for_item Resyncflash (record no_options { devs = o.devs; nocopy = o.nocopy; persistent = o.persistent; recorded = o.recorded; inhibited = o.inhibited; sequence = o.sequence }) i.first i.second) (record { quiet = refl; port = refl; members = refl; cascade = refl; sound = record { remote_ok = refl; dev = h.options.dev; remote = h.options.remote; src = refl; tgt = refl; kind = refl; sequence = h.options.sequence; lss = refl; session = refl; cginterval = refl; coordinate = refl; drain = refl } }) (one _ (and_from _ _ (lt-ltb _ 65536 s.0) (lt-ltb _ 65536 s.1))) (h.options.remote_ok)
step_written Rmflash o p i h s = said_sound (for_item Rmflash (record no_options { devs = o.devs; sequence = o.sequence }) i.first i.second) (record { quiet = refl; port = refl; members = refl; cascade = refl; sound = record { remote_ok = refl; dev = h.options.dev; remote = h.options.remote; src = refl; tgt = refl; kind = refl; sequence = h.options.sequence; lss = refl; session = refl; cginterval = refl; coordinate = refl; drain = refl } }) (one _ (and_from _ _ (lt-ltb _ 65536 s.0) (lt-ltb _ 65536 s.1))) (h.options.remote_ok)
step_written Reverseflash o p i h s = said_sound (for_item Reverseflash (record no_options { devs = o.devs; sequence = o.sequence; fast = true; tgtpprc = o.tgtpprc }) i.first i.second) (record { quiet = refl; port = refl; members = refl; cascade = refl; sound = record { remote_ok = refl; dev = h.options.dev; remote = h.options.remote; src = refl; tgt = refl; kind = refl; sequence = h.options.sequence; lss = refl; session = refl; cginterval = refl; coordinate = refl; drain = refl } }) (one _ (and_from _ _ (lt-ltb _ 65536 s.0) (lt-ltb _ 65536 s.1))) (h.options.remote_ok)
step_written Commitflash o p i h s = said_sound (for_item Commitflash (record no_options { devs = o.devs; sequence = o.sequence }) i.first i.first) (record { quiet = refl; port = refl; members = refl; cascade = refl; sound = record { remote_ok = refl; dev = h.options.dev; remote = h.options.remote; src = refl; tgt = refl; kind = refl; sequence = h.options.sequence; lss = refl; session = refl; cginterval = refl; coordinate = refl; drain = refl } }) (one _ (and_from _ _ (lt-ltb _ 65536 s.0) ((eq-eqb i.first i.first refl)))) (h.options.remote_ok)
step_written Revertflash o p i h s = said_sound (for_item Revertflash (record no_options { devs = o.devs; sequence = o.sequence }) i.first i.first) (record { quiet = refl; port = refl; members = refl; cascade = refl; sound = record { remote_ok = refl; dev = h.options.dev; remote = h.options.remote; src = refl; tgt = refl; kind = refl; sequence = h.options.sequence; lss = refl; session = refl; cginterval = refl; coordinate = refl; drain = refl } }) (one _ (and_from _ _ (lt-ltb _ 65536 s.0) ((eq-eqb i.first i.first refl)))) (h.options.remote_ok)
step_written Unfreezeflash o p i h s = said_sound (for_item Unfreezeflash (given o.devs) (lss_in i.first) (lss_in i.first)) (record { quiet = refl; port = refl; members = refl; cascade = refl; sound = record { remote_ok = refl; dev = h.options.dev; remote = h.options.remote; src = refl; tgt = refl; kind = refl; sequence = refl; lss = refl; session = refl; cginterval = refl; coordinate = refl; drain = refl } }) (one _ (and_from _ _ (lss_low i.first) (eq-eqb (lss_in i.first) (lss_in i.first) refl))) (h.options.remote_ok)
step_written Mksession o p i h s = said_sound (for_session Mksession (record no_options { devs = o.devs; lss = Some (or_zero o.lss) }) p.session 0) (record { quiet = refl; port = refl; members = refl; cascade = refl; sound = record { remote_ok = refl; dev = h.options.dev; remote = h.options.remote; src = refl; tgt = refl; kind = refl; sequence = refl; lss = h.options.lss; session = refl; cginterval = refl; coordinate = refl; drain = refl } }) (one _ (h.operands.session h.enough)) (h.options.remote_ok)
step_written Rmsession o p i h s = said_sound (for_session Rmsession (record no_options { devs = o.devs; lss = Some (or_zero o.lss) }) p.session 0) (record { quiet = refl; port = refl; members = refl; cascade = refl; sound = record { remote_ok = refl; dev = h.options.dev; remote = h.options.remote; src = refl; tgt = refl; kind = refl; sequence = refl; lss = h.options.lss; session = refl; cginterval = refl; coordinate = refl; drain = refl } }) (one _ (h.operands.session h.enough)) (h.options.remote_ok)
step_written Chsession o p i h s = member_written (unwrap_or o.adds true) o p.session i.first h.options (h.operands.session h.enough) s.0
step_written Lssession o p i h s = said_sound (for_lss Lssession (given o.devs) p.lss) (record { quiet = refl; port = refl; members = refl; cascade = refl; sound = record { remote_ok = refl; dev = h.options.dev; remote = h.options.remote; src = refl; tgt = refl; kind = refl; sequence = refl; lss = refl; session = refl; cginterval = refl; coordinate = refl; drain = refl } }) (one _ h.operands.lss) (h.options.remote_ok)
step_written Showgmir o p i h s = said_sound (for_lss Showgmir (given o.devs) p.lss) (record { quiet = refl; port = refl; members = refl; cascade = refl; sound = record { remote_ok = refl; dev = h.options.dev; remote = h.options.remote; src = refl; tgt = refl; kind = refl; sequence = refl; lss = refl; session = refl; cginterval = refl; coordinate = refl; drain = refl } }) (one _ h.operands.lss) (h.options.remote_ok)
step_written Mkgmir o p i h s = said_sound (for_item Mkgmir (record no_options { devs = o.devs; lss = Some (or_zero o.lss); session = Some (or_zero o.session); cginterval = o.cginterval; coordinate = o.coordinate; drain = o.drain }) 0 0) (record { quiet = refl; port = refl; members = refl; cascade = refl; sound = record { remote_ok = refl; dev = h.options.dev; remote = h.options.remote; src = refl; tgt = refl; kind = refl; sequence = refl; lss = h.options.lss; session = or_given _ _ h.given h.options.session; cginterval = h.options.cginterval; coordinate = h.options.coordinate; drain = h.options.drain } }) (refl) (h.options.remote_ok)
step_written Resumegmir o p i h s = said_sound (for_item Resumegmir (record no_options { devs = o.devs; lss = Some (or_zero o.lss); session = Some (or_zero o.session); cginterval = o.cginterval; coordinate = o.coordinate; drain = o.drain }) 0 0) (record { quiet = refl; port = refl; members = refl; cascade = refl; sound = record { remote_ok = refl; dev = h.options.dev; remote = h.options.remote; src = refl; tgt = refl; kind = refl; sequence = refl; lss = h.options.lss; session = or_given _ _ h.given h.options.session; cginterval = h.options.cginterval; coordinate = h.options.coordinate; drain = h.options.drain } }) (refl) (h.options.remote_ok)
step_written Pausegmir o p i h s = said_sound (for_item Pausegmir (record no_options { devs = o.devs; lss = Some (or_zero o.lss); session = Some (or_zero o.session) }) 0 0) (record { quiet = refl; port = refl; members = refl; cascade = refl; sound = record { remote_ok = refl; dev = h.options.dev; remote = h.options.remote; src = refl; tgt = refl; kind = refl; sequence = refl; lss = h.options.lss; session = or_given _ _ h.given h.options.session; cginterval = refl; coordinate = refl; drain = refl } }) (refl) (h.options.remote_ok)
step_written Rmgmir o p i h s = said_sound (for_item Rmgmir (record no_options { devs = o.devs; lss = Some (or_zero o.lss); session = Some (or_zero o.session) }) 0 0) (record { quiet = refl; port = refl; members = refl; cascade = refl; sound = record { remote_ok = refl; dev = h.options.dev; remote = h.options.remote; src = refl; tgt = refl; kind = refl; sequence = refl; lss = h.options.lss; session = or_given _ _ h.given h.options.session; cginterval = refl; coordinate = refl; drain = refl } }) (refl) (h.options.remote_ok)

steps_written : (c : Command) (o : Options) (p : Operands) (items : List Item) → Sound c o p → Smalls items → All IsWritten (map (step_of c o p) items)
steps_written c o p [] h s = All-nil IsWritten
steps_written c o p (i ∷ is) h s = All-cons IsWritten (step_of c o p i) (map (step_of c o p) is) (step_written c o p i h s.0) (steps_written c o p is h s.1)

own_written : (c : Command) (o : Options) (p : Operands) (none : Bool) → Sound c o p → All IsWritten (cond none [] (step_of c o p no_item ∷ []))
own_written c o p true h = All-nil IsWritten
own_written c o p false h = All-cons IsWritten (step_of c o p no_item) [] (step_written c o p no_item h ((omega arith), (omega arith))) (All-nil IsWritten)

ended_written : (r : Reading) → IsFitting r → may_end r.place ≡ true → All IsWritten (steps_of r)
unfolding may_end steps_of
ended_written r h e =
    let place = r.place in
    let a = and_parts (is_none place.awaited && is_ready place) _ e in
    let b = and_parts (is_none place.awaited) _ a.0 in
    let d = and_parts (list_all (λ setting. has setting place.options) (needed place.command) && beq place.options.unconditional place.options.at_source) _ b.1 in
    let c = and_parts (list_all (λ setting. has setting place.options) (needed place.command)) _ d.0 in
    let s : Sound place.command place.options place.operands = record { known = learned nothing_known (take place.filled (operands place.command)); options = h.options; operands = h.operands; enough = enough place.command place.filled a.1; given = all_given place.command place.options c.0; cascades = d.1 } in
    All-append IsWritten (own_step place) (item_steps place r.items)
    (own_written place.command place.options place.operands (nat_eq (own_steps place.command) 0) s)
    (steps_written (item_command place.command) place.options place.operands r.items (item_sound place.command place.options place.operands s) h.items)

read_as : List Step → Result (List Step) ℕ
read_as steps = Ok steps

ok_is : (x y : List Step) → read_as x ≡ read_as y → x ≡ y
unfolding read_as
ok_is x y e = cc

read_words_written : (past : ℕ) (r : Reading) (words : List Word) (steps : List Step) → IsFitting r → read_words past r words ≡ Ok steps → All IsWritten steps
unfolding read_words read_as
read_words_written past r [] steps h e =
    elim (may_end r.place) as (λ b. may_end r.place ≡ b → cond b (Ok (steps_of r)) (Err past) ≡ Ok steps → All IsWritten steps) [
      | true ↦ λ t q. carry (All IsWritten) (steps_of r) steps (ok_is _ _ q) (ended_written r h t)
      | false ↦ λ t q. cc
    ] refl e
read_words_written past r (word ∷ words) steps h e =
    elim (read_on r word.bytes) as (λ n. read_on r word.bytes ≡ n → (elim n as (λ _. Result (List Step) ℕ) [ None ↦ Err word.column | Some next ↦ read_words past next words ]) ≡ Ok steps → All IsWritten steps) [
      | None ↦ λ t q. cc
      | Some next ↦ λ t q. read_words_written past next words steps (read_on_fits r next word.bytes h t) q
    ] refl e

command_written : (past column : ℕ) (words : List Word) (c : Option Command) (steps : List Step) → command_read past column words c ≡ Ok steps → All IsWritten steps
command_written past column words None steps e = cc
command_written past column words (Some c) steps e = read_words_written past (start_of c) words steps (start_fits c) e

none_written : (steps : List Step) → read_as [] ≡ read_as steps → All IsWritten steps
none_written steps e = carry (All IsWritten) [] steps (ok_is _ _ e) (All-nil IsWritten)

words_written : (past : ℕ) (words : List Word) (steps : List Step) → words_read past words ≡ Ok steps → All IsWritten steps
unfolding read_as
words_written past [] steps e = none_written steps e
words_written past (word ∷ words) steps e = command_written past word.column words (command_named commands word.bytes) steps e

-- each step that a line gives is one that a line says
pub line_written : (line : List ℕ) (steps : List Step) → line_of line ≡ Ok steps → All IsWritten steps
unfolding line_of read_as
line_written line steps e =
    elim (begins_comment line) as (λ b. cond b (Ok []) (cond (nat_lt 1024 (length line)) (Err 1025) (words_read (length line + 1) (line_words line))) ≡ Ok steps → All IsWritten steps) [
      | true ↦ λ h. none_written steps h
      | false ↦ λ h. elim (nat_lt 1024 (length line)) as (λ b. cond b (Err 1025) (words_read (length line + 1) (line_words line)) ≡ Ok steps → All IsWritten steps) [
        | true ↦ λ q. cc
        | false ↦ λ q. words_written (length line + 1) (line_words line) steps q
      ] h
    ] e

-- so is each step of a call that reads as words say
pub reads_written : (past : ℕ) (words : List Word) (steps : List Step) (result : Result (Unit {0}) Fault) → ReadsAs (words_read past words) steps result → OnOk result (All IsWritten steps)
reads_written past words steps (Ok x) h = words_written past words steps h
reads_written past words steps (Err fault) h = tt
