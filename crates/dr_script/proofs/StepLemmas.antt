-- The line that says a step reads as that step.
use Rattle.std.proofs.Common.{ℕ, ◌≡◌, ◌<◌, ◌≤◌, ◌+◌, ◌/◌, ◌%◌, List, [], ◌∷◌, ◌++◌, length, take, refl, ap, ◌∙◌, sym, arith, Bool, true, false, not, ◌&&◌, ◌||◌, cond, Option, Some, None, nat_eq, nat_lt}
use Rattle.std.proofs.lemmas.Bool.Decides.{nat_tests}
use Rattle.dr_model.specs.declared.grammar.Operand.TheVariants.{LssPair, EachLss}
use Rattle.std.specs.Prelude.{Ok}
use Rattle.std.specs.Str.{bytes_eq}
use Rattle.std.proofs.lemmas.Grind.{common_steps}
use Rattle.dr_ids.specs.Spelling.{upper_digit, hex2, hex4}
use Rattle.std.specs.Option.{is_none}
use Rattle.std.proofs.lemmas.Bool.{and_parts}
use Rattle.dr_model.specs.declared.step.Name.{Name}
use Rattle.dr_model.specs.declared.step.Devs.{Devs}
use Rattle.dr_model.specs.declared.step.Step.{Step}
use Rattle.dr_model.specs.declared.step.Step.TheVariants.{Server, Volume, Link, Stop, StopAfter, Start, Expire, Issue, Write, Apply, Drain, Copy, Destage, Exchange, Send, Deliver, Lose, Run, Abort, Recover, Show, Compare, Image, MakePath, RemovePath, MakePair, RemovePair, PausePair, ResumePair, Failover, Failback, Freeze, Unfreeze, ListPairs, ListFlashes, MakeFlash, RemoveFlash, ResyncFlash, ReverseFlash, CommitFlash, RevertFlash, UnfreezeFlash, MakeSession, AddMember, RemoveMember, RemoveSession, ListSession, ShowMirror, MakeMirror, ResumeMirror, PauseMirror, RemoveMirror}
use Rattle.dr_model.specs.declared.grammar.Command.{Command}
use Rattle.dr_model.specs.declared.grammar.Command.TheVariants.{AtServer, AtVolume, AtLink, AtStop, AtStart, AtExpire, AtIssue, AtWrite, AtApply, AtDrain, AtCopy, AtDestage, AtExchange, AtSend, AtDeliver, AtLose, AtRun, AtAbort, AtRecover, AtShow, AtCompare, AtImage, Mkpprcpath, Rmpprcpath, Mkpprc, Rmpprc, Pausepprc, Resumepprc, Failoverpprc, Failbackpprc, Freezepprc, Unfreezepprc, Lspprc, Lsflash, Mkflash, Rmflash, Resyncflash, Reverseflash, Commitflash, Revertflash, Unfreezeflash, Mksession, Chsession, Rmsession, Lssession, Showgmir, Mkgmir, Resumegmir, Pausegmir, Rmgmir}
use Rattle.dr_model.specs.declared.grammar.Setting.{Setting}
use Rattle.dr_model.specs.declared.grammar.Setting.TheVariants.{Quiet, Dev, RemoteDev, RemotePort, SourceLss, TargetLss, ConsistencyGroup, Force, PairType, Mode, Cascade, Unconditional, AtSource, NoCopy, Persist, Recording, Inhibit, FreezeSource, Sequence, Fast, TargetPprc, OfLss, Members, Action, OfSession, Interval, Coordination, DrainTime}
use Rattle.dr_model.specs.declared.grammar.Options.{Options}
use Rattle.dr_model.specs.declared.grammar.Saying.{Saying}
use Rattle.dr_model.specs.LineTable.{form, command_word, commands, setting_word, settings, needed, operands, may_end_with, own_steps}
use Rattle.dr_model.specs.LineSteps.{has, no_options, no_operands, or_zero, step_of, lss_in}
use Rattle.dr_model.specs.LineText.{settings_words, setting_fits, settings_fit, operand_text, operand_words, operand_fits, operands_fit, spaced, said_count, said_operands, said_text, said_fits, given, at_sign, for_item, for_session, for_lss, at_saying, pair_saying, flash_saying, session_saying, step_text, is_written}
use Rattle.dr_model.specs.Grammar.{Reading, command_named, setting_named, is_ready, begins_comment, may_end, steps_of, line_of}
use Rattle.dr_script.proofs.CutLemmas.{is_inked, inked-append, spaced-append, run, line_read}
use Rattle.dr_script.proofs.ReadLemmas.{word_is}
use Rattle.dr_script.proofs.TextLemmas.{upper_not}
use Rattle.dr_script.proofs.OptionLemmas.{absorb}
use Rattle.dr_script.proofs.OperandLemmas.{absorb_operand}
use Rattle.dr_script.proofs.RunLemmas.{Ready, OperandsReady, absorb_all, all_items, absorb_operands, filled_by, items_by, at_operands, options_run, operands_run}

-- what holds of each command
record CommandFacts (c : Command) : Type 0 where
  inked : is_inked (command_word c) ≡ true
  named : command_named commands (command_word c) ≡ Some c
  plain : (rest : List ℕ) → begins_comment (command_word c ++ rest) ≡ false
  short : length (command_word c) ≤ 13
  options : length (settings c) ≤ 8
  operands : length (operands c) ≤ 5
  own : own_steps c ≤ 1

command_facts : (c : Command) → CommandFacts c
unfolding command_word commands command_named settings operands own_steps form
command_facts AtServer = record { inked = refl; named = refl; plain = λ rest. refl; short = omega arith; options = omega arith; operands = omega arith; own = omega arith }
command_facts AtVolume = record { inked = refl; named = refl; plain = λ rest. refl; short = omega arith; options = omega arith; operands = omega arith; own = omega arith }
command_facts AtLink = record { inked = refl; named = refl; plain = λ rest. refl; short = omega arith; options = omega arith; operands = omega arith; own = omega arith }
command_facts AtStop = record { inked = refl; named = refl; plain = λ rest. refl; short = omega arith; options = omega arith; operands = omega arith; own = omega arith }
command_facts AtStart = record { inked = refl; named = refl; plain = λ rest. refl; short = omega arith; options = omega arith; operands = omega arith; own = omega arith }
command_facts AtExpire = record { inked = refl; named = refl; plain = λ rest. refl; short = omega arith; options = omega arith; operands = omega arith; own = omega arith }
command_facts AtIssue = record { inked = refl; named = refl; plain = λ rest. refl; short = omega arith; options = omega arith; operands = omega arith; own = omega arith }
command_facts AtWrite = record { inked = refl; named = refl; plain = λ rest. refl; short = omega arith; options = omega arith; operands = omega arith; own = omega arith }
command_facts AtApply = record { inked = refl; named = refl; plain = λ rest. refl; short = omega arith; options = omega arith; operands = omega arith; own = omega arith }
command_facts AtDrain = record { inked = refl; named = refl; plain = λ rest. refl; short = omega arith; options = omega arith; operands = omega arith; own = omega arith }
command_facts AtCopy = record { inked = refl; named = refl; plain = λ rest. refl; short = omega arith; options = omega arith; operands = omega arith; own = omega arith }
command_facts AtDestage = record { inked = refl; named = refl; plain = λ rest. refl; short = omega arith; options = omega arith; operands = omega arith; own = omega arith }
command_facts AtExchange = record { inked = refl; named = refl; plain = λ rest. refl; short = omega arith; options = omega arith; operands = omega arith; own = omega arith }
command_facts AtSend = record { inked = refl; named = refl; plain = λ rest. refl; short = omega arith; options = omega arith; operands = omega arith; own = omega arith }
command_facts AtDeliver = record { inked = refl; named = refl; plain = λ rest. refl; short = omega arith; options = omega arith; operands = omega arith; own = omega arith }
command_facts AtLose = record { inked = refl; named = refl; plain = λ rest. refl; short = omega arith; options = omega arith; operands = omega arith; own = omega arith }
command_facts AtRun = record { inked = refl; named = refl; plain = λ rest. refl; short = omega arith; options = omega arith; operands = omega arith; own = omega arith }
command_facts AtAbort = record { inked = refl; named = refl; plain = λ rest. refl; short = omega arith; options = omega arith; operands = omega arith; own = omega arith }
command_facts AtRecover = record { inked = refl; named = refl; plain = λ rest. refl; short = omega arith; options = omega arith; operands = omega arith; own = omega arith }
command_facts AtShow = record { inked = refl; named = refl; plain = λ rest. refl; short = omega arith; options = omega arith; operands = omega arith; own = omega arith }
command_facts AtCompare = record { inked = refl; named = refl; plain = λ rest. refl; short = omega arith; options = omega arith; operands = omega arith; own = omega arith }
command_facts AtImage = record { inked = refl; named = refl; plain = λ rest. refl; short = omega arith; options = omega arith; operands = omega arith; own = omega arith }
command_facts Mkpprcpath = record { inked = refl; named = refl; plain = λ rest. refl; short = omega arith; options = omega arith; operands = omega arith; own = omega arith }
command_facts Rmpprcpath = record { inked = refl; named = refl; plain = λ rest. refl; short = omega arith; options = omega arith; operands = omega arith; own = omega arith }
command_facts Mkpprc = record { inked = refl; named = refl; plain = λ rest. refl; short = omega arith; options = omega arith; operands = omega arith; own = omega arith }
command_facts Rmpprc = record { inked = refl; named = refl; plain = λ rest. refl; short = omega arith; options = omega arith; operands = omega arith; own = omega arith }
command_facts Pausepprc = record { inked = refl; named = refl; plain = λ rest. refl; short = omega arith; options = omega arith; operands = omega arith; own = omega arith }
command_facts Resumepprc = record { inked = refl; named = refl; plain = λ rest. refl; short = omega arith; options = omega arith; operands = omega arith; own = omega arith }
command_facts Failoverpprc = record { inked = refl; named = refl; plain = λ rest. refl; short = omega arith; options = omega arith; operands = omega arith; own = omega arith }
command_facts Failbackpprc = record { inked = refl; named = refl; plain = λ rest. refl; short = omega arith; options = omega arith; operands = omega arith; own = omega arith }
command_facts Freezepprc = record { inked = refl; named = refl; plain = λ rest. refl; short = omega arith; options = omega arith; operands = omega arith; own = omega arith }
command_facts Unfreezepprc = record { inked = refl; named = refl; plain = λ rest. refl; short = omega arith; options = omega arith; operands = omega arith; own = omega arith }
command_facts Lspprc = record { inked = refl; named = refl; plain = λ rest. refl; short = omega arith; options = omega arith; operands = omega arith; own = omega arith }
command_facts Lsflash = record { inked = refl; named = refl; plain = λ rest. refl; short = omega arith; options = omega arith; operands = omega arith; own = omega arith }
command_facts Unfreezeflash = record { inked = refl; named = refl; plain = λ rest. refl; short = omega arith; options = omega arith; operands = omega arith; own = omega arith }
command_facts Mkflash = record { inked = refl; named = refl; plain = λ rest. refl; short = omega arith; options = omega arith; operands = omega arith; own = omega arith }
command_facts Rmflash = record { inked = refl; named = refl; plain = λ rest. refl; short = omega arith; options = omega arith; operands = omega arith; own = omega arith }
command_facts Resyncflash = record { inked = refl; named = refl; plain = λ rest. refl; short = omega arith; options = omega arith; operands = omega arith; own = omega arith }
command_facts Reverseflash = record { inked = refl; named = refl; plain = λ rest. refl; short = omega arith; options = omega arith; operands = omega arith; own = omega arith }
command_facts Commitflash = record { inked = refl; named = refl; plain = λ rest. refl; short = omega arith; options = omega arith; operands = omega arith; own = omega arith }
command_facts Revertflash = record { inked = refl; named = refl; plain = λ rest. refl; short = omega arith; options = omega arith; operands = omega arith; own = omega arith }
command_facts Mksession = record { inked = refl; named = refl; plain = λ rest. refl; short = omega arith; options = omega arith; operands = omega arith; own = omega arith }
command_facts Chsession = record { inked = refl; named = refl; plain = λ rest. refl; short = omega arith; options = omega arith; operands = omega arith; own = omega arith }
command_facts Rmsession = record { inked = refl; named = refl; plain = λ rest. refl; short = omega arith; options = omega arith; operands = omega arith; own = omega arith }
command_facts Lssession = record { inked = refl; named = refl; plain = λ rest. refl; short = omega arith; options = omega arith; operands = omega arith; own = omega arith }
command_facts Showgmir = record { inked = refl; named = refl; plain = λ rest. refl; short = omega arith; options = omega arith; operands = omega arith; own = omega arith }
command_facts Mkgmir = record { inked = refl; named = refl; plain = λ rest. refl; short = omega arith; options = omega arith; operands = omega arith; own = omega arith }
command_facts Resumegmir = record { inked = refl; named = refl; plain = λ rest. refl; short = omega arith; options = omega arith; operands = omega arith; own = omega arith }
command_facts Pausegmir = record { inked = refl; named = refl; plain = λ rest. refl; short = omega arith; options = omega arith; operands = omega arith; own = omega arith }
command_facts Rmgmir = record { inked = refl; named = refl; plain = λ rest. refl; short = omega arith; options = omega arith; operands = omega arith; own = omega arith }

-- the word of a command names it
pub named_by_word : (c : Command) → command_named commands (command_word c) ≡ Some c
named_by_word c = (command_facts c).named

-- what is found in another list of commands is found among all
pub found_first : (cs : List Command) (word : List ℕ) (c : Command) → Some c ≡ command_named cs word → Some c ≡ command_named commands word
found_first cs word c found = sym (ap (command_named commands) (word_is cs word c (sym found)) ∙ named_by_word c)

-- the options of a command are known to it, and each is new when its turn comes
ready : (c : Command) (o : Options) → Ready c (settings c) o no_options
unfolding settings setting_named setting_word has absorb no_options form
ready AtServer o = tt
ready AtVolume o = tt
ready AtLink o = tt
ready AtStop o = tt
ready AtStart o = tt
ready AtExpire o = tt
ready AtIssue o = tt
ready AtWrite o = tt
ready AtApply o = tt
ready AtDrain o = tt
ready AtCopy o = tt
ready AtDestage o = tt
ready AtExchange o = tt
ready AtSend o = tt
ready AtDeliver o = tt
ready AtLose o = tt
ready AtRun o = tt
ready AtAbort o = tt
ready AtRecover o = tt
ready AtShow o = tt
ready AtCompare o = tt
ready AtImage o = tt
ready Mkpprcpath o = (refl, (refl, (refl, (refl, (refl, (refl, (refl, (refl, (refl, (refl, (refl, (refl, (refl, (refl, tt))))))))))))))
ready Rmpprcpath o = (refl, (refl, (refl, (refl, (refl, (refl, (refl, (refl, (refl, (refl, tt))))))))))
ready Mkpprc o = (refl, (refl, (refl, (refl, (refl, (refl, (refl, (refl, (refl, (refl, (refl, (refl, tt))))))))))))
ready Rmpprc o = (refl, (refl, (refl, (refl, (refl, (refl, (refl, (refl, (refl, (refl, tt))))))))))
ready Pausepprc o = (refl, (refl, (refl, (refl, (refl, (refl, tt))))))
ready Resumepprc o = (refl, (refl, (refl, (refl, (refl, (refl, (refl, (refl, tt))))))))
ready Failoverpprc o = (refl, (refl, (refl, (refl, (refl, (refl, (refl, (refl, tt))))))))
ready Failbackpprc o = (refl, (refl, (refl, (refl, (refl, (refl, (refl, (refl, tt))))))))
ready Freezepprc o = (refl, (refl, (refl, (refl, (refl, (refl, tt))))))
ready Unfreezepprc o = (refl, (refl, (refl, (refl, (refl, (refl, tt))))))
ready Lspprc o = (refl, (refl, (refl, (refl, (refl, (refl, tt))))))
ready Lsflash o = (refl, (refl, (refl, (refl, tt))))
ready Unfreezeflash o = (refl, (refl, (refl, (refl, tt))))
ready Mkflash o = (refl, (refl, (refl, (refl, (refl, (refl, (refl, (refl, (refl, (refl, (refl, (refl, (refl, (refl, (refl, (refl, tt))))))))))))))))
ready Rmflash o = (refl, (refl, (refl, (refl, (refl, (refl, tt))))))
ready Resyncflash o = (refl, (refl, (refl, (refl, (refl, (refl, (refl, (refl, (refl, (refl, (refl, (refl, (refl, (refl, tt))))))))))))))
ready Reverseflash o = (refl, (refl, (refl, (refl, (refl, (refl, (refl, (refl, (refl, (refl, tt))))))))))
ready Commitflash o = (refl, (refl, (refl, (refl, (refl, (refl, tt))))))
ready Revertflash o = (refl, (refl, (refl, (refl, (refl, (refl, tt))))))
ready Mksession o = (refl, (refl, (refl, (refl, (refl, (refl, (refl, (refl, tt))))))))
ready Chsession o = (refl, (refl, (refl, (refl, (refl, (refl, (refl, (refl, (refl, (refl, tt))))))))))
ready Rmsession o = (refl, (refl, (refl, (refl, (refl, (refl, tt))))))
ready Lssession o = (refl, (refl, (refl, (refl, tt))))
ready Showgmir o = (refl, (refl, (refl, (refl, tt))))
ready Mkgmir o = (refl, (refl, (refl, (refl, (refl, (refl, (refl, (refl, (refl, (refl, (refl, (refl, (refl, (refl, tt))))))))))))))
ready Resumegmir o = (refl, (refl, (refl, (refl, (refl, (refl, (refl, (refl, (refl, (refl, (refl, (refl, (refl, (refl, tt))))))))))))))
ready Pausegmir o = (refl, (refl, (refl, (refl, (refl, (refl, (refl, (refl, tt))))))))
ready Rmgmir o = (refl, (refl, (refl, (refl, (refl, (refl, (refl, (refl, tt))))))))

-- what was read at the end of a saying
abbrev read_at_end : Saying → Reading
read_at_end said =
    at_operands said.command said.options (filled_by said.command (said_operands said) 0) (absorb_operands (said_operands said) said.operands no_operands)
    (items_by (said_operands said) said.item (all_items (settings said.command) said.options said.item []))

told : (said : Saying) (step : Step) → absorb_all (settings said.command) said.options no_options ≡ said.options → is_ready (at_operands said.command said.options 0 no_operands []).place ≡ true
    → OperandsReady said.command said.options said.operands said.item (said_operands said) 0 no_operands → said_fits said ≡ true → may_end (read_at_end said).place ≡ true → steps_of (read_at_end said) ≡ step ∷ []
    → line_of (said_text said) ≡ Ok (step ∷ [])
told said step same goes stand fit ends makes =
    let c = said.command in
    let f = command_facts c in
    let fits = and_parts (settings_fit (settings c) said.options said.item && operands_fit (said_operands said) said.operands said.item) _ fit in
    let q = and_parts (settings_fit (settings c) said.options said.item) _ fits.0 in
    let opts = settings_words (settings c) said.options said.item in
    let ops = operand_words (said_operands said) said.operands said.item in
    let few_options = f.options in
    let few_operands = f.operands in
    let own = f.own in
    let short = f.short in
    let options = options_run c (settings c) said.options no_options said.item [] ops (ready c said.options) q.0 (omega arith) in
    let count = options.more in
    let taken : length (said_operands said) ≤ 5 = (let z : length (take (said_count c said.operands) (operands c)) ≤ length (operands c) = grind (arith, common_steps) in omega arith) in
    let others = operands_run c said.options said.operands no_operands said.item (said_operands said) 0 (all_items (settings c) said.options said.item []) stand goes q.1 (omega arith) in
    let a = options.few in
    let b = others.few in
    let size : length (command_word c ++ spaced (opts ++ ops)) ≡ length (command_word c) + (length (spaced opts) + length (spaced ops)) =
    ap (λ t. length (command_word c ++ t)) (spaced-append opts ops) ∙ (let z : length (command_word c ++ (spaced opts ++ spaced ops)) ≡ length (command_word c) + (length (spaced opts) + length (spaced ops)) = grind (arith, common_steps) in z) in
    line_read c (command_word c) (opts ++ ops) (read_at_end said) (step ∷ []) f.inked f.named f.plain (inked-append opts ops options.inked others.inked)
    (omega (arith, size, a, b, short, few_options, taken))
    (options.ran ∙ ap (λ x. run (at_operands c x 0 no_operands (all_items (settings c) said.options said.item [])) ops) same ∙ others.ran) ends makes

dash : (s : Setting) → (xs : List ℕ) × (setting_word s ≡ 45 ∷ xs)
unfolding setting_word
dash Quiet = (_, refl)
dash Dev = (_, refl)
dash RemoteDev = (_, refl)
dash RemotePort = (_, refl)
dash SourceLss = (_, refl)
dash TargetLss = (_, refl)
dash ConsistencyGroup = (_, refl)
dash Force = (_, refl)
dash PairType = (_, refl)
dash Mode = (_, refl)
dash Cascade = (_, refl)
dash Unconditional = (_, refl)
dash AtSource = (_, refl)
dash NoCopy = (_, refl)
dash Persist = (_, refl)
dash Recording = (_, refl)
dash Inhibit = (_, refl)
dash FreezeSource = (_, refl)
dash Sequence = (_, refl)
dash Fast = (_, refl)
dash TargetPprc = (_, refl)
dash OfLss = (_, refl)
dash Members = (_, refl)
dash Action = (_, refl)
dash OfSession = (_, refl)
dash Interval = (_, refl)
dash Coordination = (_, refl)
dash DrainTime = (_, refl)

-- a word that begins with no dash is no option
no_setting : (ss : List Setting) (b : ℕ) (bs : List ℕ) → nat_eq b 45 ≡ false → setting_named ss (b ∷ bs) ≡ None
unfolding setting_named
no_setting [] b bs e = refl
no_setting (s ∷ ss) b bs e =
    let d = dash s in
    ap (λ w. cond (bytes_eq (b ∷ bs) w) (Some s) (setting_named ss (b ∷ bs))) d.1
    ∙ ap (λ v. cond (v && bytes_eq bs d.0) (Some s) (setting_named ss (b ∷ bs))) e
    ∙ no_setting ss b bs e

digit_first : (ss : List Setting) (n : ℕ) (bs : List ℕ) → setting_named ss (upper_digit n ∷ bs) ≡ None
digit_first ss n bs = no_setting ss (upper_digit n) bs (upper_not n 45 (omega arith))

hex2_no : (ss : List Setting) (n : ℕ) (rest : List ℕ) → setting_named ss (hex2 n ++ rest) ≡ None
hex2_no ss n rest = digit_first ss (n / 16) (upper_digit (n % 16) ∷ rest)

hex4_no : (ss : List Setting) (n : ℕ) (rest : List ℕ) → setting_named ss (hex4 n ++ rest) ≡ None
hex4_no ss n rest = digit_first ss (n / 256 / 16) (upper_digit (n / 256 % 16) ∷ hex2 (n % 256) ++ rest)

-- what a pair of logical subsystems says is below 256
below : (first second : ℕ) (b t : Bool) → ((b && (operand_fits LssPair no_operands (record { first = first; second = second }) && true)) && t) ≡ true → (lss_in first ≡ first) × (lss_in second ≡ second)
unfolding operand_fits
below first second b t e =
    let p = and_parts (b && (operand_fits LssPair no_operands (record { first = first; second = second }) && true)) t e in
    let q = and_parts b _ p.0 in
    let r = and_parts (operand_fits LssPair no_operands (record { first = first; second = second })) true q.1 in
    let s = and_parts (nat_lt first 256) _ r.0 in
    let x : first < 256 = grind (arith, nat_tests, s.0) in
    let y : second < 256 = grind (arith, nat_tests, s.1) in
    ((omega arith), (omega arith))

below-each : (lss : ℕ) (b t : Bool) → ((b && (operand_fits EachLss no_operands (record { first = lss; second = lss }) && true)) && t) ≡ true → lss_in lss ≡ lss
unfolding operand_fits
below-each lss b t e =
    let p = and_parts (b && (operand_fits EachLss no_operands (record { first = lss; second = lss }) && true)) t e in
    let q = and_parts b _ p.0 in
    let r = and_parts (operand_fits EachLss no_operands (record { first = lss; second = lss })) true q.1 in
    let s = and_parts (nat_lt lss 256) _ r.0 in
    let x : lss < 256 = grind (arith, nat_tests, s.0) in
    omega arith

absent_name : (x : Option Name) → is_none x ≡ true → x ≡ None
absent_name None e = refl
absent_name (Some n) e = absurd (cc)

-- no second server is named where the command takes none
no_remote : (devs : Devs) (b : Bool) → (b && (false || is_none devs.remotedev)) ≡ true → None ≡ devs.remotedev
no_remote devs b e = let p = and_parts b _ e in sym (absent_name devs.remotedev p.1)

-- a pair that makes a cascaded volume is of Global Copy
of-global : (o : Options) (a b : ℕ) → said_fits (for_item Mkpprc o a b) ≡ true → (not o.cascade || nat_eq (or_zero o.kind) 2) ≡ true
unfolding settings has setting_fits form
of-global o a b e =
    let said = for_item Mkpprc o a b in
    let i = said.item in
    let p = and_parts (settings_fit (settings said.command) o i && operands_fit (said_operands said) said.operands i) _ e in
    let q = and_parts (settings_fit (settings said.command) o i) _ p.0 in
    let r = and_parts (not (has Quiet o) || setting_fits Quiet o i) _ q.0 in
    let s = and_parts (not (has Dev o) || setting_fits Dev o i) _ r.1 in
    let t = and_parts (not (has RemoteDev o) || setting_fits RemoteDev o i) _ s.1 in
    let u = and_parts (not (has PairType o) || setting_fits PairType o i) _ t.1 in
    let v = and_parts (not (has Mode o) || setting_fits Mode o i) _ u.1 in
    let w = and_parts (not (has Cascade o) || setting_fits Cascade o i) _ v.1 in
    w.0

cascades-ready : (kind : ℕ) → nat_eq kind 2 ≡ true → not (true && not (nat_eq kind 2)) ≡ true
cascades-ready kind e = ap (λ x. not (true && not x)) e

-- that of a pair says whether all is copied, and whether it makes a cascaded volume
reads-pair : (devs : Devs) (a b kind : ℕ) (full cascade : Bool) → is_written (MakePair devs a b kind (record { full = full; cascade = cascade })) ≡ true
    → line_of (step_text (MakePair devs a b kind (record { full = full; cascade = cascade }))) ≡ Ok (MakePair devs a b kind (record { full = full; cascade = cascade }) ∷ [])
unfolding step_text is_written at_saying pair_saying flash_saying session_saying settings needed operands has absorb absorb_operand no_options no_operands said_count operand_text may_end may_end_with steps_of own_steps step_of setting_named setting_word form
reads-pair devs a b kind true true h =
    let global = cascades-ready kind (of-global (record no_options { devs = devs; kind = Some kind; full = None; cascade = true }) a b h) in
    told (for_item Mkpprc (record no_options { devs = devs; kind = Some kind; full = None; cascade = true }) a b) (MakePair devs a b kind (record { full = true; cascade = true })) refl global (refl, (hex4_no (settings Mkpprc) a (58 ∷ hex4 b), (tt, tt))) h (ap (λ x. x && true) global) refl
reads-pair devs a b kind true false h = told (for_item Mkpprc (record no_options { devs = devs; kind = Some kind; full = None; cascade = false }) a b) (MakePair devs a b kind (record { full = true; cascade = false })) refl refl (refl, (hex4_no (settings Mkpprc) a (58 ∷ hex4 b), (tt, tt))) h refl refl
reads-pair devs a b kind false true h =
    let global = cascades-ready kind (of-global (record no_options { devs = devs; kind = Some kind; full = Some false; cascade = true }) a b h) in
    told (for_item Mkpprc (record no_options { devs = devs; kind = Some kind; full = Some false; cascade = true }) a b) (MakePair devs a b kind (record { full = false; cascade = true })) refl global (refl, (hex4_no (settings Mkpprc) a (58 ∷ hex4 b), (tt, tt))) h (ap (λ x. x && true) global) refl
reads-pair devs a b kind false false h = told (for_item Mkpprc (record no_options { devs = devs; kind = Some kind; full = Some false; cascade = false }) a b) (MakePair devs a b kind (record { full = false; cascade = false })) refl refl (refl, (hex4_no (settings Mkpprc) a (58 ∷ hex4 b), (tt, tt))) h refl refl

-- the line that says a step reads as just that step
pub reads : (step : Step) → is_written step ≡ true → line_of (step_text step) ≡ Ok (step ∷ [])
unfolding step_text is_written at_saying pair_saying flash_saying session_saying settings needed operands has absorb absorb_operand no_options no_operands said_count operand_text may_end may_end_with steps_of own_steps step_of setting_named setting_word form
reads (Server name) h = told (at_sign AtServer (record no_operands { server = name })) (Server name) refl refl (refl, (refl, (tt, tt))) h refl refl
reads (Volume volume server tracks) h = told (record { command = AtVolume; options = no_options; operands = record no_operands { server = server; count = tracks }; item = record { first = volume; second = volume } }) (Volume volume server tracks) refl refl (refl, (refl, (tt, (refl, (refl, (tt, (refl, (refl, (tt, tt))))))))) h refl refl
reads (Link a b up) h = told (at_sign AtLink (record no_operands { server = a; other = b; up = up })) (Link a b up) refl refl (refl, (refl, (tt, (refl, (refl, (tt, (refl, (refl, (tt, tt))))))))) h refl refl
reads (Stop server) h = told (at_sign AtStop (record no_operands { server = server })) (Stop server) refl refl (refl, (refl, (tt, tt))) h refl refl
reads (StopAfter server writes torn) h = told (at_sign AtStop (record no_operands { server = server; after = true; torn = torn; count = writes })) (StopAfter server writes torn) refl refl (refl, (refl, (tt, (refl, (refl, (tt, (refl, (refl, (tt, (refl, (refl, (tt, (refl, (refl, (tt, tt))))))))))))))) h refl refl
reads (Start server) h = told (at_sign AtStart (record no_operands { server = server })) (Start server) refl refl (refl, (refl, (tt, tt))) h refl refl
reads (Expire server) h = told (at_sign AtExpire (record no_operands { server = server })) (Expire server) refl refl (refl, (refl, (tt, tt))) h refl refl
reads (Issue volume track offset len bytes) h = told (at_sign AtIssue (record no_operands { volume = volume; track = track; offset = offset; len = len; bytes = bytes })) (Issue volume track offset len bytes) refl refl (refl, (refl, (tt, (refl, (refl, (tt, (refl, (refl, (tt, (refl, (refl, (refl, tt)))))))))))) h refl refl
reads (Write volume track offset len bytes) h = told (at_sign AtWrite (record no_operands { volume = volume; track = track; offset = offset; len = len; bytes = bytes })) (Write volume track offset len bytes) refl refl (refl, (refl, (tt, (refl, (refl, (tt, (refl, (refl, (tt, (refl, (refl, (refl, tt)))))))))))) h refl refl
reads (Apply w) h = told (at_sign AtApply (record no_operands { count = w })) (Apply w) refl refl (refl, (refl, (tt, tt))) h refl refl
reads (Drain volume most) h = told (at_sign AtDrain (record no_operands { volume = volume; most = most })) (Drain volume most) refl refl (refl, (refl, (tt, (refl, (refl, (tt, tt)))))) h refl refl
reads (Copy volume most) h = told (at_sign AtCopy (record no_operands { volume = volume; most = most })) (Copy volume most) refl refl (refl, (refl, (tt, (refl, (refl, (tt, tt)))))) h refl refl
reads (Destage volume) h = told (at_sign AtDestage (record no_operands { volume = volume })) (Destage volume) refl refl (refl, (refl, (tt, tt))) h refl refl
reads (Exchange session server true) h = told (at_sign AtExchange (record no_operands { server = server; session = session; reply = true })) (Exchange session server true) refl refl (refl, (refl, (tt, (refl, (refl, (tt, tt)))))) h refl refl
reads (Exchange session server false) h = told (at_sign AtExchange (record no_operands { server = server; session = session; reply = false })) (Exchange session server false) refl refl (refl, (refl, (tt, (refl, (refl, (tt, (refl, (refl, (tt, tt))))))))) h refl refl
reads (Send session server) h = told (at_sign AtSend (record no_operands { server = server; session = session })) (Send session server) refl refl (refl, (refl, (tt, (refl, (refl, (tt, tt)))))) h refl refl
reads (Deliver message) h = told (at_sign AtDeliver (record no_operands { count = message })) (Deliver message) refl refl (refl, (refl, (tt, tt))) h refl refl
reads (Lose message) h = told (at_sign AtLose (record no_operands { count = message })) (Lose message) refl refl (refl, (refl, (tt, tt))) h refl refl
reads (Run session groups) h = told (at_sign AtRun (record no_operands { count = groups; session = session })) (Run session groups) refl refl (refl, (refl, (tt, (refl, (refl, (tt, tt)))))) h refl refl
reads (Abort session) h = told (at_sign AtAbort (record no_operands { session = session })) (Abort session) refl refl (refl, (refl, (tt, tt))) h refl refl
reads (Recover session) h = told (at_sign AtRecover (record no_operands { session = session })) (Recover session) refl refl (refl, (refl, (tt, tt))) h refl refl
reads (Show volume track) h = told (at_sign AtShow (record no_operands { volume = volume; track = track })) (Show volume track) refl refl (refl, (refl, (tt, (refl, (refl, (tt, tt)))))) h refl refl
reads (Compare v w) h = told (at_sign AtCompare (record no_operands { volume = v; with = w })) (Compare v w) refl refl (refl, (refl, (tt, (refl, (refl, (tt, tt)))))) h refl refl
reads Image h = told (at_sign AtImage no_operands) Image refl refl tt h refl refl
reads (MakePath devs src tgt group) h = told (for_item Mkpprcpath (record no_options { devs = devs; src = Some src; tgt = Some tgt; group = group }) 0 0) (MakePath devs src tgt group) refl refl (refl, (refl, (tt, tt))) h refl refl
reads (RemovePath devs src tgt force) h =
    let n = below src tgt _ _ h in
    told (for_item Rmpprcpath (record no_options { devs = devs; force = force }) src tgt) (RemovePath devs src tgt force) refl refl (refl, (hex2_no (settings Rmpprcpath) (lss_in src) (58 ∷ hex2 (lss_in tgt)), (tt, tt))) h refl (λ j. RemovePath devs (n.0 j) (n.1 j) force ∷ [])
reads (MakePair devs a b kind choices) h = reads-pair devs a b kind choices.full choices.cascade h
reads (RemovePair devs a b true) h = told (for_item Rmpprc (record no_options { devs = devs; unconditional = true; at_source = true }) a b) (RemovePair devs a b true) refl refl (refl, (hex4_no (settings Rmpprc) a (58 ∷ hex4 b), (tt, tt))) h refl refl
reads (RemovePair devs a b false) h = told (for_item Rmpprc (record no_options { devs = devs; unconditional = false; at_source = false }) a b) (RemovePair devs a b false) refl refl (refl, (hex4_no (settings Rmpprc) a (58 ∷ hex4 b), (tt, tt))) h refl refl
reads (PausePair devs a b) h = told (for_item Pausepprc (given devs) a b) (PausePair devs a b) refl refl (refl, (hex4_no (settings Pausepprc) a (58 ∷ hex4 b), (tt, tt))) h refl refl
reads (ResumePair devs a b kind) h = told (for_item Resumepprc (record no_options { devs = devs; kind = Some kind }) a b) (ResumePair devs a b kind) refl refl (refl, (hex4_no (settings Resumepprc) a (58 ∷ hex4 b), (tt, tt))) h refl refl
reads (Failover devs b a kind) h = told (for_item Failoverpprc (record no_options { devs = devs; kind = Some kind }) b a) (Failover devs b a kind) refl refl (refl, (hex4_no (settings Failoverpprc) b (58 ∷ hex4 a), (tt, tt))) h refl refl
reads (Failback devs x y kind) h = told (for_item Failbackpprc (record no_options { devs = devs; kind = Some kind }) x y) (Failback devs x y kind) refl refl (refl, (hex4_no (settings Failbackpprc) x (58 ∷ hex4 y), (tt, tt))) h refl refl
reads (Freeze devs l m) h =
    let n = below l m _ _ h in
    told (for_item Freezepprc (given devs) l m) (Freeze devs l m) refl refl (refl, (hex2_no (settings Freezepprc) (lss_in l) (58 ∷ hex2 (lss_in m)), (tt, tt))) h refl (λ j. Freeze devs (n.0 j) (n.1 j) ∷ [])
reads (Unfreeze devs l m) h =
    let n = below l m _ _ h in
    told (for_item Unfreezepprc (given devs) l m) (Unfreeze devs l m) refl refl (refl, (hex2_no (settings Unfreezepprc) (lss_in l) (58 ∷ hex2 (lss_in m)), (tt, tt))) h refl (λ j. Unfreeze devs (n.0 j) (n.1 j) ∷ [])
reads (ListPairs devs volume) h = told (for_item Lspprc (given devs) volume volume) (ListPairs devs volume) refl refl (refl, (hex4_no (settings Lspprc) volume [], (tt, tt))) h refl refl
reads (ListFlashes devs volume) h =
    let none = no_remote devs _ h in
    told (for_item Lsflash (given devs) volume volume) (ListFlashes devs volume) (λ j. record no_options { devs = record { dev = devs.dev; remotedev = none j } }) refl (refl, (hex4_no (settings Lsflash) volume [], (tt, tt))) h refl refl
reads (MakeFlash devs s t nocopy persistent recorded inhibited freeze sequence) h =
    let none = no_remote devs _ h in
    told (for_item Mkflash (record no_options { devs = devs; nocopy = nocopy; persistent = persistent; recorded = recorded; inhibited = inhibited; freeze = freeze; sequence = sequence }) s t) (MakeFlash devs s t nocopy persistent recorded inhibited freeze sequence) (λ j. record no_options { devs = record { dev = devs.dev; remotedev = none j }; nocopy = nocopy; persistent = persistent; recorded = recorded; inhibited = inhibited; freeze = freeze; sequence = sequence }) refl (refl, (hex4_no (settings Mkflash) s (58 ∷ hex4 t), (tt, tt))) h refl refl
reads (RemoveFlash devs s t sequence) h =
    let none = no_remote devs _ h in
    told (for_item Rmflash (record no_options { devs = devs; sequence = sequence }) s t) (RemoveFlash devs s t sequence) (λ j. record no_options { devs = record { dev = devs.dev; remotedev = none j }; sequence = sequence }) refl (refl, (hex4_no (settings Rmflash) s (58 ∷ hex4 t), (tt, tt))) h refl refl
reads (ResyncFlash devs s t nocopy persistent recorded inhibited sequence) h =
    let none = no_remote devs _ h in
    told (for_item Resyncflash (record no_options { devs = devs; nocopy = nocopy; persistent = persistent; recorded = recorded; inhibited = inhibited; sequence = sequence }) s t) (ResyncFlash devs s t nocopy persistent recorded inhibited sequence) (λ j. record no_options { devs = record { dev = devs.dev; remotedev = none j }; nocopy = nocopy; persistent = persistent; recorded = recorded; inhibited = inhibited; sequence = sequence }) refl (refl, (hex4_no (settings Resyncflash) s (58 ∷ hex4 t), (tt, tt))) h refl refl
reads (ReverseFlash devs s t tgtpprc sequence) h =
    let none = no_remote devs _ h in
    told (for_item Reverseflash (record no_options { devs = devs; sequence = sequence; fast = true; tgtpprc = tgtpprc }) s t) (ReverseFlash devs s t tgtpprc sequence) (λ j. record no_options { devs = record { dev = devs.dev; remotedev = none j }; sequence = sequence; fast = true; tgtpprc = tgtpprc }) refl (refl, (hex4_no (settings Reverseflash) s (58 ∷ hex4 t), (tt, tt))) h refl refl
reads (CommitFlash devs source sequence) h =
    let none = no_remote devs _ h in
    told (for_item Commitflash (record no_options { devs = devs; sequence = sequence }) source source) (CommitFlash devs source sequence) (λ j. record no_options { devs = record { dev = devs.dev; remotedev = none j }; sequence = sequence }) refl (refl, (hex4_no (settings Commitflash) source [], (tt, tt))) h refl refl
reads (RevertFlash devs source sequence) h =
    let none = no_remote devs _ h in
    told (for_item Revertflash (record no_options { devs = devs; sequence = sequence }) source source) (RevertFlash devs source sequence) (λ j. record no_options { devs = record { dev = devs.dev; remotedev = none j }; sequence = sequence }) refl (refl, (hex4_no (settings Revertflash) source [], (tt, tt))) h refl refl
reads (UnfreezeFlash devs lss) h =
    let none = no_remote devs _ h in
    let n = below-each lss _ _ h in
    told (for_item Unfreezeflash (given devs) lss lss) (UnfreezeFlash devs lss) (λ j. record no_options { devs = record { dev = devs.dev; remotedev = none j } }) refl (refl, (hex2_no (settings Unfreezeflash) (lss_in lss) [], (tt, tt))) h refl (λ j. UnfreezeFlash devs (n j) ∷ [])
reads (MakeSession devs lss session) h =
    let none = no_remote devs _ h in
    told (for_session Mksession (record no_options { devs = devs; lss = Some lss }) session 0) (MakeSession devs lss session) (λ j. record no_options { devs = record { dev = devs.dev; remotedev = none j }; lss = Some lss }) refl (refl, (hex2_no (settings Mksession) session [], (tt, tt))) h refl refl
reads (AddMember devs lss volume session) h =
    let none = no_remote devs _ h in
    told (for_session Chsession (record no_options { devs = devs; lss = Some lss; members = true; adds = Some true }) session volume) (AddMember devs lss volume session) (λ j. record no_options { devs = record { dev = devs.dev; remotedev = none j }; lss = Some lss; members = true; adds = Some true }) refl (refl, (hex2_no (settings Chsession) session [], (tt, tt))) h refl refl
reads (RemoveMember devs lss volume session) h =
    let none = no_remote devs _ h in
    told (for_session Chsession (record no_options { devs = devs; lss = Some lss; members = true; adds = Some false }) session volume) (RemoveMember devs lss volume session) (λ j. record no_options { devs = record { dev = devs.dev; remotedev = none j }; lss = Some lss; members = true; adds = Some false }) refl (refl, (hex2_no (settings Chsession) session [], (tt, tt))) h refl refl
reads (RemoveSession devs lss session) h =
    let none = no_remote devs _ h in
    told (for_session Rmsession (record no_options { devs = devs; lss = Some lss }) session 0) (RemoveSession devs lss session) (λ j. record no_options { devs = record { dev = devs.dev; remotedev = none j }; lss = Some lss }) refl (refl, (hex2_no (settings Rmsession) session [], (tt, tt))) h refl refl
reads (ListSession devs lss) h =
    let none = no_remote devs _ h in
    told (for_lss Lssession (given devs) lss) (ListSession devs lss) (λ j. record no_options { devs = record { dev = devs.dev; remotedev = none j } }) refl (refl, (hex2_no (settings Lssession) lss [], (tt, tt))) h refl refl
reads (ShowMirror devs lss) h =
    let none = no_remote devs _ h in
    told (for_lss Showgmir (given devs) lss) (ShowMirror devs lss) (λ j. record no_options { devs = record { dev = devs.dev; remotedev = none j } }) refl (refl, (hex2_no (settings Showgmir) lss [], (tt, tt))) h refl refl
reads (MakeMirror devs lss session cginterval coordinate drain) h =
    let none = no_remote devs _ h in
    told (for_item Mkgmir (record no_options { devs = devs; lss = Some lss; session = Some session; cginterval = cginterval; coordinate = coordinate; drain = drain }) 0 0) (MakeMirror devs lss session cginterval coordinate drain) (λ j. record no_options { devs = record { dev = devs.dev; remotedev = none j }; lss = Some lss; session = Some session; cginterval = cginterval; coordinate = coordinate; drain = drain }) refl tt h refl refl
reads (ResumeMirror devs lss session cginterval coordinate drain) h =
    let none = no_remote devs _ h in
    told (for_item Resumegmir (record no_options { devs = devs; lss = Some lss; session = Some session; cginterval = cginterval; coordinate = coordinate; drain = drain }) 0 0) (ResumeMirror devs lss session cginterval coordinate drain) (λ j. record no_options { devs = record { dev = devs.dev; remotedev = none j }; lss = Some lss; session = Some session; cginterval = cginterval; coordinate = coordinate; drain = drain }) refl tt h refl refl
reads (PauseMirror devs lss session) h =
    let none = no_remote devs _ h in
    told (for_item Pausegmir (record no_options { devs = devs; lss = Some lss; session = Some session }) 0 0) (PauseMirror devs lss session) (λ j. record no_options { devs = record { dev = devs.dev; remotedev = none j }; lss = Some lss; session = Some session }) refl tt h refl refl
reads (RemoveMirror devs lss session) h =
    let none = no_remote devs _ h in
    told (for_item Rmgmir (record no_options { devs = devs; lss = Some lss; session = Some session }) 0 0) (RemoveMirror devs lss session) (λ j. record no_options { devs = record { dev = devs.dev; remotedev = none j }; lss = Some lss; session = Some session }) refl tt h refl refl
