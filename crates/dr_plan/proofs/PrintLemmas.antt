-- No line feed stands in the line that says a step.
use Rattle.std.proofs.Common.{ℕ, zero, suc, ◌≡◌, ◌+◌, ◌/◌, ◌%◌, List, [], ◌∷◌, ◌++◌, take, length, refl, ap, ◌∙◌, arith, Bool, true, false, not, ◌&&◌, ◌||◌, cond, Option, Some, None, nat_eq, nat_le, nat_lt}
use Rattle.std.specs.Prelude.{◌==◌, codes}
use Rattle.std.specs.Fmt.{decimal, digits, digits_onto, digit_glyph}
use Rattle.std.specs.List.{list_all}
use Rattle.std.specs.Option.{unwrap_or}
use Rattle.std.proofs.lemmas.Bool.{and_parts, and_from}
use Rattle.std.proofs.lemmas.Bool.Decides.{nat_tests}
use Rattle.std.proofs.lemmas.Grind.{common_steps}
use Rattle.std.proofs.lemmas.List.Concat.{flat_map-cons}
use Rattle.std.proofs.lemmas.List.Folds.{list_all-append}
use Rattle.dr_ids.specs.Spelling.{upper_digit, hex2, hex4}
use Rattle.dr_model.specs.declared.step.Name.{Name}
use Rattle.dr_model.specs.declared.step.Step.{Step}
use Rattle.dr_model.specs.declared.step.Step.TheVariants.{StopAfter}
use Rattle.dr_model.specs.declared.step.TornWord.{TornWord}
use Rattle.dr_model.specs.declared.step.TornWord.TheVariants.{Same, Fill, Bytes}
use Rattle.dr_model.specs.declared.grammar.Command.{Command}
use Rattle.dr_model.specs.declared.grammar.Command.TheVariants.{AtServer, AtVolume, AtLink, AtStop, AtStart, AtExpire, AtIssue, AtWrite, AtApply, AtDrain, AtCopy, AtDestage, AtExchange, AtSend, AtDeliver, AtLose, AtRun, AtAbort, AtRecover, AtShow, AtCompare, AtImage, Mkpprcpath, Rmpprcpath, Mkpprc, Rmpprc, Pausepprc, Resumepprc, Failoverpprc, Failbackpprc, Freezepprc, Unfreezepprc, Lspprc, Lsflash, Mkflash, Rmflash, Resyncflash, Reverseflash, Commitflash, Revertflash, Unfreezeflash, Mksession, Chsession, Rmsession, Lssession, Showgmir, Mkgmir, Resumegmir, Pausegmir, Rmgmir}
use Rattle.dr_model.specs.declared.grammar.Setting.{Setting}
use Rattle.dr_model.specs.declared.grammar.Setting.TheVariants.{Quiet, Dev, RemoteDev, RemotePort, SourceLss, TargetLss, ConsistencyGroup, Force, PairType, Mode, Cascade, Unconditional, AtSource, NoCopy, Persist, Recording, Inhibit, FreezeSource, Sequence, Fast, TargetPprc, OfLss, Members, Action, OfSession, Interval, Coordination, DrainTime}
use Rattle.dr_model.specs.declared.grammar.Operand.{Operand}
use Rattle.dr_model.specs.declared.grammar.Operand.TheVariants.{ServerName, OtherName, UpOrDown, AfterWord, TornMark, TornBytes, OneVolume, OtherVolume, Count, TrackNumber, Offset, WriteBytes, CountOrAll, SessionNumber, NoReply, LssNumber, VolumeRange, VolumeList, VolumePair, LssPair, EachLss, Ports, ControlPath}
use Rattle.dr_model.specs.declared.grammar.Options.{Options}
use Rattle.dr_model.specs.declared.grammar.Operands.{Operands}
use Rattle.dr_model.specs.declared.grammar.Item.{Item}
use Rattle.dr_model.specs.declared.grammar.Saying.{Saying}
use Rattle.dr_model.specs.LineTable.{form, command_word, setting_word, settings, operands}
use Rattle.dr_model.specs.LineSteps.{is_flag, has, lss_in, or_zero, no_name, no_options, no_operands}
use Rattle.dr_model.specs.LineWords.{is_name, is_name_byte, begins_with_letter}
use Rattle.dr_model.specs.LineText.{hex8, unpadded, sequence_text, name_text, bytes_text, torn_text, most_text, setting_text, setting_words, settings_words, operand_text, operand_words, said_operands, said_count, at_saying, spaced, said_text, name_fits, most_fits, setting_fits, operand_fits, settings_fit, operands_fit, said_fits, saying, step_text, is_written}
use Rattle.dr_script.proofs.CutLemmas.{spaced-append}
use Rattle.dr_script.proofs.TextLemmas.{upper_not}
use Rattle.dr_plan.specs.declared.points.Torn.{Torn}
use Rattle.dr_plan.specs.Points.{torn_word}
use Rattle.dr_plan.specs.Sweep.{is_unbroken}

pub unbroken-append : (a b : List ℕ) → is_unbroken a ≡ true → is_unbroken b ≡ true → is_unbroken (a ++ b) ≡ true
unbroken-append a b e f = list_all-append (λ x. not (nat_eq x 10)) a b ∙ and_from (is_unbroken a) (is_unbroken b) e f

both : (x : ℕ) (xs : List ℕ) → not (nat_eq x 10) ≡ true → is_unbroken xs ≡ true → is_unbroken (x ∷ xs) ≡ true
both x xs e f = and_from (not (nat_eq x 10)) (is_unbroken xs) e f

digit : (n : ℕ) → not (nat_eq (upper_digit n) 10) ≡ true
digit n = ap not (upper_not n 10 (omega arith))

hex2_unbroken : (n : ℕ) → is_unbroken (hex2 n) ≡ true
hex2_unbroken n = both (upper_digit (n / 16)) (upper_digit (n % 16) ∷ []) (digit (n / 16)) (both (upper_digit (n % 16)) [] (digit (n % 16)) refl)

hex4_unbroken : (n : ℕ) → is_unbroken (hex4 n) ≡ true
hex4_unbroken n = unbroken-append (hex2 (n / 256)) (hex2 (n % 256)) (hex2_unbroken (n / 256)) (hex2_unbroken (n % 256))

bytes_unbroken : (bs : List ℕ) → is_unbroken (bytes_text bs) ≡ true
bytes_unbroken [] = refl
bytes_unbroken (b ∷ bs) = ap is_unbroken (flat_map-cons hex2 b bs) ∙ unbroken-append (hex2 b) (bytes_text bs) (hex2_unbroken b) (bytes_unbroken bs)

-- digits without the zeros at their front
unpadded_unbroken : (ds : List ℕ) → is_unbroken ds ≡ true → is_unbroken (unpadded ds) ≡ true
unpadded_unbroken [] e = e
unpadded_unbroken (d ∷ []) e = e
unpadded_unbroken (d ∷ e ∷ ds) all = by (nat_eq d 48) (unpadded_unbroken (e ∷ ds) (and_parts (not (nat_eq d 10)) (is_unbroken (e ∷ ds)) all).1)
  where
    by : (b : Bool) → is_unbroken (unpadded (e ∷ ds)) ≡ true → is_unbroken (cond b (unpadded (e ∷ ds)) (d ∷ e ∷ ds)) ≡ true
    by true less = less
    by false less = all

sequence_unbroken : (n : ℕ) → is_unbroken (sequence_text n) ≡ true
sequence_unbroken n = unpadded_unbroken (hex8 n) (unbroken-append (hex4 (n / 65536)) (hex4 (n % 65536)) (hex4_unbroken (n / 65536)) (hex4_unbroken (n % 65536)))

-- digits in decimal
glyph : (upper : Bool) (d : ℕ) → not (nat_eq (digit_glyph upper d) 10) ≡ true
glyph upper d = by upper (nat_lt d 10)
  where
    by : (u b : Bool) → not (nat_eq (cond b (48 + d) (cond u (55 + d) (87 + d))) 10) ≡ true
    by u true = grind (arith, nat_tests)
    by true false = grind (arith, nat_tests)
    by false false = grind (arith, nat_tests)

digits_unbroken : (k n : ℕ) (ds : List ℕ) → is_unbroken ds ≡ true → is_unbroken (digits_onto k 10 false n ds) ≡ true
digits_unbroken zero n ds e = e
digits_unbroken (suc k) n ds e = by (n / 10 == 0) (both (digit_glyph false (n % 10)) ds (glyph false (n % 10)) e) (digits_unbroken k (n / 10) (digit_glyph false (n % 10) ∷ ds))
  where
    by : (b : Bool) → is_unbroken (digit_glyph false (n % 10) ∷ ds) ≡ true → (is_unbroken (digit_glyph false (n % 10) ∷ ds) ≡ true → is_unbroken (digits_onto k 10 false (n / 10) (digit_glyph false (n % 10) ∷ ds)) ≡ true)
        → is_unbroken (cond b (digit_glyph false (n % 10) ∷ ds) (digits_onto k 10 false (n / 10) (digit_glyph false (n % 10) ∷ ds))) ≡ true
    by true one more = one
    by false one more = more one

decimal_unbroken : (n : ℕ) → is_unbroken (decimal n) ≡ true
unfolding digits
decimal_unbroken n = digits_unbroken 64 n [] refl

-- names
name_byte : (b : ℕ) → is_name_byte b ≡ true → not (nat_eq b 10) ≡ true
name_byte b is = grind (arith, common_steps, nat_tests)

name_bytes : (bs : List ℕ) → list_all is_name_byte bs ≡ true → is_unbroken bs ≡ true
name_bytes [] is = refl
name_bytes (b ∷ bs) is = let p = and_parts (is_name_byte b) (list_all is_name_byte bs) is in both b bs (name_byte b p.0) (name_bytes bs p.1)

name_unbroken : (name : Name) → name_fits name ≡ true → is_unbroken (name_text name) ≡ true
name_unbroken name fits =
    let t = name_text name in
    let outer = and_parts (is_name t && nat_eq (length t) name.len) _ fits in
    let inner = and_parts (is_name t) _ outer.0 in
    let named = and_parts (nat_le (length t) 24 && begins_with_letter t) _ inner.0 in
    name_bytes t named.1

either_unbroken : (b : Bool) (x y : List ℕ) → is_unbroken x ≡ true → is_unbroken y ≡ true → is_unbroken (cond b x y) ≡ true
either_unbroken true x y e f = e
either_unbroken false x y e f = f

torn_unbroken : (t : TornWord) → is_unbroken (torn_text t) ≡ true
torn_unbroken Same = refl
torn_unbroken (Fill byte) = hex2_unbroken byte
torn_unbroken (Bytes bytes) = bytes_unbroken bytes

most_unbroken : (m : Option ℕ) → most_fits m ≡ true → is_unbroken (most_text m) ≡ true
most_unbroken None e = refl
most_unbroken (Some n) e = decimal_unbroken n

command_unbroken : (c : Command) → is_unbroken (command_word c) ≡ true
unfolding command_word form
command_unbroken AtServer = refl
command_unbroken AtVolume = refl
command_unbroken AtLink = refl
command_unbroken AtStop = refl
command_unbroken AtStart = refl
command_unbroken AtExpire = refl
command_unbroken AtIssue = refl
command_unbroken AtWrite = refl
command_unbroken AtApply = refl
command_unbroken AtDrain = refl
command_unbroken AtCopy = refl
command_unbroken AtDestage = refl
command_unbroken AtExchange = refl
command_unbroken AtSend = refl
command_unbroken AtDeliver = refl
command_unbroken AtLose = refl
command_unbroken AtRun = refl
command_unbroken AtAbort = refl
command_unbroken AtRecover = refl
command_unbroken AtShow = refl
command_unbroken AtCompare = refl
command_unbroken AtImage = refl
command_unbroken Mkpprcpath = refl
command_unbroken Rmpprcpath = refl
command_unbroken Mkpprc = refl
command_unbroken Rmpprc = refl
command_unbroken Pausepprc = refl
command_unbroken Resumepprc = refl
command_unbroken Failoverpprc = refl
command_unbroken Failbackpprc = refl
command_unbroken Freezepprc = refl
command_unbroken Unfreezepprc = refl
command_unbroken Lspprc = refl
command_unbroken Lsflash = refl
command_unbroken Mkflash = refl
command_unbroken Rmflash = refl
command_unbroken Resyncflash = refl
command_unbroken Reverseflash = refl
command_unbroken Commitflash = refl
command_unbroken Revertflash = refl
command_unbroken Unfreezeflash = refl
command_unbroken Mksession = refl
command_unbroken Chsession = refl
command_unbroken Rmsession = refl
command_unbroken Lssession = refl
command_unbroken Showgmir = refl
command_unbroken Mkgmir = refl
command_unbroken Resumegmir = refl
command_unbroken Pausegmir = refl
command_unbroken Rmgmir = refl

option_unbroken : (s : Setting) → is_unbroken (setting_word s) ≡ true
unfolding setting_word
option_unbroken Quiet = refl
option_unbroken Dev = refl
option_unbroken RemoteDev = refl
option_unbroken RemotePort = refl
option_unbroken SourceLss = refl
option_unbroken TargetLss = refl
option_unbroken ConsistencyGroup = refl
option_unbroken Force = refl
option_unbroken PairType = refl
option_unbroken Mode = refl
option_unbroken Cascade = refl
option_unbroken Unconditional = refl
option_unbroken AtSource = refl
option_unbroken NoCopy = refl
option_unbroken Persist = refl
option_unbroken Recording = refl
option_unbroken Inhibit = refl
option_unbroken FreezeSource = refl
option_unbroken Sequence = refl
option_unbroken Fast = refl
option_unbroken TargetPprc = refl
option_unbroken OfLss = refl
option_unbroken Members = refl
option_unbroken Action = refl
option_unbroken OfSession = refl
option_unbroken Interval = refl
option_unbroken Coordination = refl
option_unbroken DrainTime = refl

value_unbroken : (s : Setting) (o : Options) (i : Item) → setting_fits s o i ≡ true → is_unbroken (setting_text s o i) ≡ true
unfolding setting_text setting_fits
value_unbroken Dev o i e = name_unbroken (unwrap_or o.devs.dev no_name) e
value_unbroken RemoteDev o i e = name_unbroken (unwrap_or o.devs.remotedev no_name) e
value_unbroken SourceLss o i e = hex2_unbroken (or_zero o.src)
value_unbroken TargetLss o i e = hex2_unbroken (or_zero o.tgt)
value_unbroken PairType o i e = either_unbroken (nat_eq (or_zero o.kind) 1) (codes "mmir") (codes "gcp") refl refl
value_unbroken Mode o i e = either_unbroken (unwrap_or o.full true) (codes "full") (codes "nocp") refl refl
value_unbroken AtSource o i e = refl
value_unbroken Sequence o i e = sequence_unbroken (or_zero o.sequence)
value_unbroken OfLss o i e = hex2_unbroken (or_zero o.lss)
value_unbroken Members o i e = hex4_unbroken i.first
value_unbroken Action o i e = either_unbroken (unwrap_or o.adds true) (codes "add") (codes "remove") refl refl
value_unbroken OfSession o i e = hex2_unbroken (or_zero o.session)
value_unbroken Interval o i e = decimal_unbroken (or_zero o.cginterval)
value_unbroken Coordination o i e = decimal_unbroken (or_zero o.coordinate)
value_unbroken DrainTime o i e = decimal_unbroken (or_zero o.drain)
value_unbroken Quiet o i e = refl
value_unbroken RemotePort o i e = refl
value_unbroken ConsistencyGroup o i e = refl
value_unbroken Force o i e = refl
value_unbroken Cascade o i e = refl
value_unbroken Unconditional o i e = refl
value_unbroken NoCopy o i e = refl
value_unbroken Persist o i e = refl
value_unbroken Recording o i e = refl
value_unbroken Inhibit o i e = refl
value_unbroken FreezeSource o i e = refl
value_unbroken Fast o i e = refl
value_unbroken TargetPprc o i e = refl

word_unbroken : (op : Operand) (p : Operands) (i : Item) → operand_fits op p i ≡ true → is_unbroken (operand_text op p i) ≡ true
unfolding operand_text operand_fits
word_unbroken ServerName p i e = name_unbroken p.server e
word_unbroken OtherName p i e = name_unbroken p.other e
word_unbroken UpOrDown p i e = either_unbroken p.up (codes "up") (codes "down") refl refl
word_unbroken AfterWord p i e = refl
word_unbroken TornMark p i e = refl
word_unbroken TornBytes p i e = torn_unbroken p.torn
word_unbroken OneVolume p i e = hex4_unbroken p.volume
word_unbroken OtherVolume p i e = hex4_unbroken p.with
word_unbroken Count p i e = decimal_unbroken p.count
word_unbroken TrackNumber p i e = decimal_unbroken p.track
word_unbroken Offset p i e = decimal_unbroken p.offset
word_unbroken WriteBytes p i e = bytes_unbroken (take p.len p.bytes)
word_unbroken CountOrAll p i e = most_unbroken p.most e
word_unbroken SessionNumber p i e = hex2_unbroken p.session
word_unbroken NoReply p i e = refl
word_unbroken LssNumber p i e = hex2_unbroken p.lss
word_unbroken VolumeRange p i e = hex4_unbroken i.first
word_unbroken VolumeList p i e = hex4_unbroken i.first
word_unbroken VolumePair p i e = unbroken-append (hex4 i.first) (58 ∷ hex4 i.second) (hex4_unbroken i.first) (hex4_unbroken i.second)
word_unbroken LssPair p i e = unbroken-append (hex2 (lss_in i.first)) (58 ∷ hex2 (lss_in i.second)) (hex2_unbroken (lss_in i.first)) (hex2_unbroken (lss_in i.second))
word_unbroken EachLss p i e = hex2_unbroken (lss_in i.first)
word_unbroken Ports p i e = refl
word_unbroken ControlPath p i e = refl

-- words behind spaces
spaced_one : (w : List ℕ) (ws : List (List ℕ)) → is_unbroken w ≡ true → is_unbroken (spaced ws) ≡ true → is_unbroken (spaced (w ∷ ws)) ≡ true
spaced_one w ws e f = both 32 (w ++ spaced ws) refl (unbroken-append w (spaced ws) e f)

spaced_both : (vs ws : List (List ℕ)) → is_unbroken (spaced vs) ≡ true → is_unbroken (spaced ws) ≡ true → is_unbroken (spaced (vs ++ ws)) ≡ true
spaced_both vs ws e f = ap is_unbroken (spaced-append vs ws) ∙ unbroken-append (spaced vs) (spaced ws) e f

option_words : (s : Setting) (o : Options) (i : Item) → (not (has s o) || setting_fits s o i) ≡ true → is_unbroken (spaced (setting_words s o i)) ≡ true
option_words s o i e = by (has s o) (is_flag s) e
  where
    by : (h f : Bool) → (not h || setting_fits s o i) ≡ true → is_unbroken (spaced (cond h (setting_word s ∷ cond f [] (setting_text s o i ∷ [])) [])) ≡ true
    by false f e = refl
    by true true e = spaced_one (setting_word s) [] (option_unbroken s) refl
    by true false e = spaced_one (setting_word s) (setting_text s o i ∷ []) (option_unbroken s) (spaced_one (setting_text s o i) [] (value_unbroken s o i e) refl)

options_words : (ss : List Setting) (o : Options) (i : Item) → settings_fit ss o i ≡ true → is_unbroken (spaced (settings_words ss o i)) ≡ true
options_words [] o i e = refl
options_words (s ∷ ss) o i e =
    let p = and_parts (not (has s o) || setting_fits s o i) (settings_fit ss o i) e in
    spaced_both (setting_words s o i) (settings_words ss o i) (option_words s o i p.0) (options_words ss o i p.1)

operands_words : (ops : List Operand) (p : Operands) (i : Item) → operands_fit ops p i ≡ true → is_unbroken (spaced (operand_words ops p i)) ≡ true
operands_words [] p i e = refl
operands_words (op ∷ ops) p i e =
    let q = and_parts (operand_fits op p i) (operands_fit ops p i) e in
    spaced_one (operand_text op p i) (operand_words ops p i) (word_unbroken op p i q.0) (operands_words ops p i q.1)

said_unbroken : (said : Saying) → said_fits said ≡ true → is_unbroken (said_text said) ≡ true
said_unbroken said e =
    let outer = and_parts (settings_fit (settings said.command) said.options said.item && operands_fit (said_operands said) said.operands said.item) _ e in
    let inner = and_parts (settings_fit (settings said.command) said.options said.item) _ outer.0 in
    let vs = settings_words (settings said.command) said.options said.item in
    let ws = operand_words (said_operands said) said.operands said.item in
    unbroken-append (command_word said.command) (spaced (vs ++ ws)) (command_unbroken said.command)
    (spaced_both vs ws (options_words (settings said.command) said.options said.item inner.0) (operands_words (said_operands said) said.operands said.item inner.1))

pub step-unbroken : (step : Step) → is_written step ≡ true → is_unbroken (step_text step) ≡ true
unfolding step_text is_written
step-unbroken step e = said_unbroken (saying step) e

-- the line that arms a fuse, after any number of writes
pub fuse-unbroken : (server : Name) (writes : ℕ) (torn : Torn) → name_fits server ≡ true → is_unbroken (step_text (StopAfter server writes (torn_word torn))) ≡ true
unfolding step_text at_saying settings operands form command_word said_count operand_text no_options no_operands
fuse-unbroken server writes torn fits =
    let torn_bytes = spaced_one (torn_text (torn_word torn)) [] (torn_unbroken (torn_word torn)) refl in
    let marked = spaced_one (codes "torn") (torn_text (torn_word torn) ∷ []) refl torn_bytes in
    let counted = spaced_one (decimal writes) (codes "torn" ∷ torn_text (torn_word torn) ∷ []) (decimal_unbroken writes) marked in
    let after = spaced_one (codes "after") (decimal writes ∷ codes "torn" ∷ torn_text (torn_word torn) ∷ []) refl counted in
    let words = name_text server ∷ codes "after" ∷ decimal writes ∷ codes "torn" ∷ torn_text (torn_word torn) ∷ [] in
    unbroken-append (codes "@stop") (spaced words) refl (spaced_one (name_text server) (codes "after" ∷ decimal writes ∷ codes "torn" ∷ torn_text (torn_word torn) ∷ []) (name_unbroken server fits) after)
