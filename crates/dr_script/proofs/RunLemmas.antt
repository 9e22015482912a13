-- The words of a saying are read one after another.
use Rattle.std.proofs.Common.{ℕ, suc, ◌≡◌, ◌≤◌, ◌+◌, ◌*◌, List, [], ◌∷◌, ◌++◌, length, refl, ap, ◌∙◌, sym, arith, Bool, true, false, not, ◌||◌, cond, if◌then◌else◌, Option, Some, None, append_assoc}
use Rattle.std.proofs.lemmas.Bool.Decides.{nat_tests}
use Rattle.std.proofs.lemmas.Grind.{common_steps}
use Rattle.std.proofs.lemmas.Bool.{and_parts, and_from}
use Rattle.dr_model.specs.declared.grammar.Command.{Command}
use Rattle.dr_model.specs.declared.grammar.Setting.{Setting}
use Rattle.dr_model.specs.declared.grammar.Setting.TheVariants.{Quiet, Dev, RemoteDev, RemotePort, SourceLss, TargetLss, ConsistencyGroup, Force, PairType, Mode, Cascade, Unconditional, AtSource, NoCopy, Persist, Recording, Inhibit, FreezeSource, Sequence, Fast, TargetPprc, OfLss, Members, Action, OfSession, Interval, Coordination, DrainTime}
use Rattle.dr_model.specs.declared.grammar.Operand.{Operand}
use Rattle.dr_model.specs.declared.grammar.Operand.TheVariants.{ServerName, OtherName, UpOrDown, AfterWord, TornMark, TornBytes, OneVolume, OtherVolume, Count, TrackNumber, Offset, WriteBytes, CountOrAll, SessionNumber, NoReply, LssNumber, VolumeRange, VolumeList, VolumePair, LssPair, EachLss, Ports, ControlPath}
use Rattle.dr_model.specs.declared.grammar.Options.{Options}
use Rattle.dr_model.specs.declared.grammar.Operands.{Operands}
use Rattle.dr_model.specs.declared.grammar.Item.{Item}
use Rattle.dr_model.specs.LineWords.{◌>>=◌, onto}
use Rattle.dr_model.specs.LineTable.{setting_word, settings, own_steps}
use Rattle.dr_model.specs.LineSteps.{has, is_flag, flagged, valued, setting_items, operand_value, operand_items, no_options, no_operands}
use Rattle.dr_model.specs.LineText.{setting_text, setting_words, settings_words, setting_fits, settings_fit, operand_text, operand_words, operand_fits, operands_fit, spaced}
use Rattle.dr_model.specs.Grammar.{Reading, read_on, setting_at, setting_named, named_read, next_read, operand_read, next_operand, filled_after, is_ready, is_within, with_items, grown}
use Rattle.dr_script.proofs.CutLemmas.{is_inked, all_inked, inked-append, run, run_on, spaced-append}
use Rattle.dr_script.proofs.OptionLemmas.{absorb, added, absent, flag_reads, value_reads}
use Rattle.dr_script.proofs.OperandLemmas.{absorb_operand, added_by, StandsBehind, operand_reads}

-- the reading of a command's options, and of its operands
abbrev pub at_options : Command → Option Setting → Options → List Item → Reading
at_options c awaited cur items = record { place = record { command = c; awaited = awaited; filled = 0; options = cur; operands = no_operands }; items = items }

abbrev pub at_operands : Command → Options → ℕ → Operands → List Item → Reading
at_operands c o filled cur items = record { place = record { command = c; awaited = None; filled = filled; options = o; operands = cur }; items = items }

named : (c : Command) (s : Setting) (cur : Options) (items : List Item) (flag : Bool) → setting_named (settings c) (setting_word s) ≡ Some s → has s cur ≡ false → is_flag s ≡ flag
    → read_on (at_options c None cur items) (setting_word s) ≡ cond flag (Some (at_options c None (flagged s cur) items)) (Some (at_options c (Some s) cur items))
unfolding read_on
named c s cur items flag known fresh is =
    let r = at_options c None cur items in
    ap (named_read r (setting_word s)) known
    ∙ ap (λ b. with_items items (cond b None (cond (is_flag s) (Some (at_options c None (flagged s cur) items).place) (Some (at_options c (Some s) cur items).place)))) fresh
    ∙ ap (λ b. with_items items (cond b (Some (at_options c None (flagged s cur) items).place) (Some (at_options c (Some s) cur items).place))) is
    ∙ (elim flag as (λ b. with_items items (cond b (Some (at_options c None (flagged s cur) items).place) (Some (at_options c (Some s) cur items).place)) ≡ cond b (Some (at_options c None (flagged s cur) items)) (Some (at_options c (Some s) cur items))) [ true ↦ refl | false ↦ refl ])

value_taken : (c : Command) (s : Setting) (o cur : Options) (items new : List Item) (word : List ℕ) → valued s word cur ≡ Some o → setting_items s word ≡ Some new → is_within c (items ++ new) ≡ true
    → read_on (at_options c (Some s) cur items) word ≡ Some (at_options c None o (items ++ new))
unfolding read_on
value_taken c s o cur items new word reads gives within =
    ap (λ (v : Option Options). v >>= λ x. onto items (setting_items s word) >>= λ all. grown c all >>= λ more. Some (at_options c None x more)) reads
    ∙ ap (λ g. onto items g >>= λ all. grown c all >>= λ more. Some (at_options c None o more)) gives
    ∙ ap (λ b. cond b (Some (items ++ new)) None >>= λ more. Some (at_options c None o more)) within

-- the options of a list are known to the command, and none is given yet when its turn comes
abbrev pub Ready : Command → List Setting → Options → Options → Type 0
Ready c [] o cur = Unit {0}
Ready c (s ∷ ss) o cur = (setting_named (settings c) (setting_word s) ≡ Some s) × ((has s cur ≡ false) × Ready c ss o (absorb s o cur))

abbrev pub absorb_all : List Setting → Options → Options → Options
absorb_all [] o cur = cur
absorb_all (s ∷ ss) o cur = absorb_all ss o (absorb s o cur)

abbrev pub given_items : Setting → Options → Item → List Item
given_items Members o i = if o.members then i ∷ [] else []
given_items _ o i = []

none_absent : (s : Setting) (o : Options) (i : Item) → has s o ≡ false → given_items s o i ≡ []
unfolding has
none_absent Quiet o i e = refl
none_absent Dev o i e = refl
none_absent RemoteDev o i e = refl
none_absent RemotePort o i e = refl
none_absent SourceLss o i e = refl
none_absent TargetLss o i e = refl
none_absent ConsistencyGroup o i e = refl
none_absent Force o i e = refl
none_absent PairType o i e = refl
none_absent Mode o i e = refl
none_absent Cascade o i e = refl
none_absent Unconditional o i e = refl
none_absent AtSource o i e = refl
none_absent NoCopy o i e = refl
none_absent Persist o i e = refl
none_absent Recording o i e = refl
none_absent Inhibit o i e = refl
none_absent FreezeSource o i e = refl
none_absent Sequence o i e = refl
none_absent Fast o i e = refl
none_absent TargetPprc o i e = refl
none_absent OfLss o i e = refl
none_absent Members o i e = ap (λ b. cond b (i ∷ []) []) e
none_absent Action o i e = refl
none_absent OfSession o i e = refl
none_absent Interval o i e = refl
none_absent Coordination o i e = refl
none_absent DrainTime o i e = refl

none_flagged : (s : Setting) (o : Options) (i : Item) → is_flag s ≡ true → given_items s o i ≡ []
none_flagged Quiet o i e = refl
none_flagged Dev o i e = refl
none_flagged RemoteDev o i e = refl
none_flagged RemotePort o i e = refl
none_flagged SourceLss o i e = refl
none_flagged TargetLss o i e = refl
none_flagged ConsistencyGroup o i e = refl
none_flagged Force o i e = refl
none_flagged PairType o i e = refl
none_flagged Mode o i e = refl
none_flagged Cascade o i e = refl
none_flagged Unconditional o i e = refl
none_flagged AtSource o i e = refl
none_flagged NoCopy o i e = refl
none_flagged Persist o i e = refl
none_flagged Recording o i e = refl
none_flagged Inhibit o i e = refl
none_flagged FreezeSource o i e = refl
none_flagged Sequence o i e = refl
none_flagged Fast o i e = refl
none_flagged TargetPprc o i e = refl
none_flagged OfLss o i e = refl
none_flagged Members o i e = absurd (cc)
none_flagged Action o i e = refl
none_flagged OfSession o i e = refl
none_flagged Interval o i e = refl
none_flagged Coordination o i e = refl
none_flagged DrainTime o i e = refl

some_given : (s : Setting) (o : Options) (i : Item) → has s o ≡ true → given_items s o i ≡ added s i
unfolding has
some_given Quiet o i e = refl
some_given Dev o i e = refl
some_given RemoteDev o i e = refl
some_given RemotePort o i e = refl
some_given SourceLss o i e = refl
some_given TargetLss o i e = refl
some_given ConsistencyGroup o i e = refl
some_given Force o i e = refl
some_given PairType o i e = refl
some_given Mode o i e = refl
some_given Cascade o i e = refl
some_given Unconditional o i e = refl
some_given AtSource o i e = refl
some_given NoCopy o i e = refl
some_given Persist o i e = refl
some_given Recording o i e = refl
some_given Inhibit o i e = refl
some_given FreezeSource o i e = refl
some_given Sequence o i e = refl
some_given Fast o i e = refl
some_given TargetPprc o i e = refl
some_given OfLss o i e = refl
some_given Members o i e = ap (λ b. cond b (i ∷ []) []) e
some_given Action o i e = refl
some_given OfSession o i e = refl
some_given Interval o i e = refl
some_given Coordination o i e = refl
some_given DrainTime o i e = refl

abbrev pub all_items : List Setting → Options → Item → List Item → List Item
all_items [] o i items = items
all_items (s ∷ ss) o i items = all_items ss o i (items ++ given_items s o i)

two_words : (w t : List ℕ) → length w ≤ 14 → length t ≤ 24 → length (spaced (w ∷ t ∷ [])) ≤ 40
two_words w t a b =
    let inner : length (t ++ []) ≡ length t = grind (arith, common_steps) in
    let outer : length (w ++ (32 ∷ (t ++ []))) ≡ length w + suc (length (t ++ [])) = grind (arith, common_steps) in
    omega arith

-- how an option's words are read
record OptionRun (c : Command) (s : Setting) (o cur : Options) (i : Item) (items : List Item) (rest : List (List ℕ)) : Type 0 where
  ran : run (at_options c None cur items) (setting_words s o i ++ rest) ≡ run (at_options c None (absorb s o cur) (items ++ given_items s o i)) rest
  inked : all_inked (setting_words s o i) ≡ true
  few : length (spaced (setting_words s o i)) ≤ 40
  more : length (items ++ given_items s o i) ≤ length items + 1

option_inked : (s : Setting) → (is_inked (setting_word s) ≡ true) × (length (setting_word s) ≤ 14)
unfolding setting_word
option_inked Quiet = (refl, omega arith)
option_inked Dev = (refl, omega arith)
option_inked RemoteDev = (refl, omega arith)
option_inked RemotePort = (refl, omega arith)
option_inked SourceLss = (refl, omega arith)
option_inked TargetLss = (refl, omega arith)
option_inked ConsistencyGroup = (refl, omega arith)
option_inked Force = (refl, omega arith)
option_inked PairType = (refl, omega arith)
option_inked Mode = (refl, omega arith)
option_inked Cascade = (refl, omega arith)
option_inked Unconditional = (refl, omega arith)
option_inked AtSource = (refl, omega arith)
option_inked NoCopy = (refl, omega arith)
option_inked Persist = (refl, omega arith)
option_inked Recording = (refl, omega arith)
option_inked Inhibit = (refl, omega arith)
option_inked FreezeSource = (refl, omega arith)
option_inked Sequence = (refl, omega arith)
option_inked Fast = (refl, omega arith)
option_inked TargetPprc = (refl, omega arith)
option_inked OfLss = (refl, omega arith)
option_inked Members = (refl, omega arith)
option_inked Action = (refl, omega arith)
option_inked OfSession = (refl, omega arith)
option_inked Interval = (refl, omega arith)
option_inked Coordination = (refl, omega arith)
option_inked DrainTime = (refl, omega arith)

no_more : (items : List Item) → items ++ [] ≡ items
no_more items = grind (arith, common_steps)

added_few : (s : Setting) (i : Item) → length (added s i) ≤ 1
added_few Quiet i = omega arith
added_few Dev i = omega arith
added_few RemoteDev i = omega arith
added_few RemotePort i = omega arith
added_few SourceLss i = omega arith
added_few TargetLss i = omega arith
added_few ConsistencyGroup i = omega arith
added_few Force i = omega arith
added_few PairType i = omega arith
added_few Mode i = omega arith
added_few Cascade i = omega arith
added_few Unconditional i = omega arith
added_few AtSource i = omega arith
added_few NoCopy i = omega arith
added_few Persist i = omega arith
added_few Recording i = omega arith
added_few Inhibit i = omega arith
added_few FreezeSource i = omega arith
added_few Sequence i = omega arith
added_few Fast i = omega arith
added_few TargetPprc i = omega arith
added_few OfLss i = omega arith
added_few Members i = omega arith
added_few Action i = omega arith
added_few OfSession i = omega arith
added_few Interval i = omega arith
added_few Coordination i = omega arith
added_few DrainTime i = omega arith

within_more : (c : Command) (items new : List Item) → own_steps c + length items + 1 ≤ 1024 → length new ≤ 1 → is_within c (items ++ new) ≡ true
within_more c items new few one =
    let size : length (items ++ new) ≡ length items + length new = grind (arith, common_steps) in
    let z : own_steps c + length (items ++ new) ≤ 1024 = omega arith in
    grind (arith, nat_tests, z)

option_run : (c : Command) (s : Setting) (o cur : Options) (i : Item) (items : List Item) (rest : List (List ℕ)) → setting_named (settings c) (setting_word s) ≡ Some s → has s cur ≡ false
    → (not (has s o) || setting_fits s o i) ≡ true → own_steps c + length items + 1 ≤ 1024 → OptionRun c s o cur i items rest
option_run c s o cur i items rest known fresh fits few =
    let w = option_inked s in
    let short = w.1 in
    elim (has s o) as (λ h. has s o ≡ h → (not h || setting_fits s o i) ≡ true → OptionRun c s o cur i items rest) [
      | false ↦ λ given _.
          let nothing : setting_words s o i ≡ [] = ap (λ b. cond b (setting_word s ∷ cond (is_flag s) [] (setting_text s o i ∷ [])) []) given in
          let none : given_items s o i ≡ [] = none_absent s o i given in
          let same : items ++ given_items s o i ≡ items = ap (λ xs. items ++ xs) none ∙ no_more items in
          record {
            ran = ap (λ ws. run (at_options c None cur items) (ws ++ rest)) nothing ∙ (λ j. run (at_options c None (sym (absent s o cur given fresh) j) (sym same j)) rest);
            inked = ap all_inked nothing;
            few = rw nothing (omega arith);
            more = rw same (omega arith);
          }
      | true ↦ λ given fit.
          elim (is_flag s) as (λ f. is_flag s ≡ f → OptionRun c s o cur i items rest) [
            | true ↦ λ flag.
                let one : setting_words s o i ≡ setting_word s ∷ [] = (λ j. cond (given j) (setting_word s ∷ cond (flag j) [] (setting_text s o i ∷ [])) []) in
                let none : given_items s o i ≡ [] = none_flagged s o i flag in
                let same : items ++ given_items s o i ≡ items = ap (λ xs. items ++ xs) none ∙ no_more items in
                record {
                  ran = ap (λ ws. run (at_options c None cur items) (ws ++ rest)) one
                      ∙ run_on (at_options c None cur items) (at_options c None (flagged s cur) items) (setting_word s) rest (named c s cur items true known fresh flag)
                      ∙ (λ j. run (at_options c None (flag_reads s o cur flag given j) (sym same j)) rest);
                  inked = ap all_inked one ∙ and_from (is_inked (setting_word s)) true w.0 refl;
                  few = rw one (let size : length (setting_word s ++ []) ≡ length (setting_word s) = grind (arith, common_steps) in omega arith);
                  more = rw same (omega arith);
                }
            | false ↦ λ flag.
                let v = value_reads s o cur i flag given fit in
                let two : setting_words s o i ≡ setting_word s ∷ setting_text s o i ∷ [] = (λ j. cond (given j) (setting_word s ∷ cond (flag j) [] (setting_text s o i ∷ [])) []) in
                let some : given_items s o i ≡ added s i = some_given s o i given in
                let single = added_few s i in
                let len = v.few in
                record {
                  ran = ap (λ ws. run (at_options c None cur items) (ws ++ rest)) two
                      ∙ run_on (at_options c None cur items) (at_options c (Some s) cur items) (setting_word s) (setting_text s o i ∷ rest) (named c s cur items false known fresh flag)
                      ∙ run_on (at_options c (Some s) cur items) (at_options c None (absorb s o cur) (items ++ added s i)) (setting_text s o i) rest
                      (value_taken c s (absorb s o cur) cur items (added s i) (setting_text s o i) v.reads v.items (within_more c items (added s i) few single))
                      ∙ ap (λ xs. run (at_options c None (absorb s o cur) (items ++ xs)) rest) (sym some);
                  inked = ap all_inked two ∙ and_from (is_inked (setting_word s)) _ w.0 (and_from (is_inked (setting_text s o i)) true v.inked refl);
                  few = rw two (two_words (setting_word s) (setting_text s o i) short len);
                  more = rw some (let size : length (items ++ added s i) ≡ length items + length (added s i) = grind (arith, common_steps) in omega arith);
                }
          ] refl
    ] refl fits

pub record OptionsRun (c : Command) (ss : List Setting) (o cur : Options) (i : Item) (items : List Item) (rest : List (List ℕ)) : Type 0 where
  pub ran : run (at_options c None cur items) (settings_words ss o i ++ rest) ≡ run (at_options c None (absorb_all ss o cur) (all_items ss o i items)) rest
  pub inked : all_inked (settings_words ss o i) ≡ true
  pub few : length (spaced (settings_words ss o i)) ≤ 40 * length ss
  pub more : length (all_items ss o i items) ≤ length items + length ss

-- the options of a saying are read
pub options_run : (c : Command) (ss : List Setting) (o cur : Options) (i : Item) (items : List Item) (rest : List (List ℕ)) → Ready c ss o cur → settings_fit ss o i ≡ true → own_steps c + length items + length ss ≤ 1024
    → OptionsRun c ss o cur i items rest
options_run c [] o cur i items rest ready fit few = record { ran = refl; inked = refl; few = omega arith; more = omega arith }
options_run c (s ∷ ss) o cur i items rest ready fit few =
    let p = and_parts (not (has s o) || setting_fits s o i) _ fit in
    let first = option_run c s o cur i items (settings_words ss o i ++ rest) ready.0 ready.1.0 p.0 (omega arith) in
    let more = first.more in
    let later = options_run c ss o (absorb s o cur) i (items ++ given_items s o i) rest ready.1.1 p.1 (omega arith) in
    let short = first.few in
    let others = later.few in
    let most = later.more in
    let size : length (spaced (setting_words s o i ++ settings_words ss o i)) ≡ length (spaced (setting_words s o i)) + length (spaced (settings_words ss o i)) =
    ap length (spaced-append (setting_words s o i) (settings_words ss o i)) ∙ (let z : length (spaced (setting_words s o i) ++ spaced (settings_words ss o i)) ≡ length (spaced (setting_words s o i)) + length (spaced (settings_words ss o i)) = grind (arith, common_steps) in z) in
    record {
      ran = ap (run (at_options c None cur items)) (append_assoc (setting_words s o i) (settings_words ss o i) rest) ∙ first.ran ∙ later.ran;
      inked = inked-append (setting_words s o i) (settings_words ss o i) first.inked later.inked;
      few = omega (arith, size, short, others);
      more = omega (arith, more, most);
    }

-- the operands of a list stand next in order, and none is the word of an option
abbrev pub OperandsReady : Command → Options → Operands → Item → List Operand → ℕ → Operands → Type 0
OperandsReady c o p i [] filled cur = Unit {0}
OperandsReady c o p i (op ∷ ops) filled cur =
    (next_operand (at_operands c o filled cur []).place ≡ Some op) × ((setting_at (at_operands c o filled cur []).place (operand_text op p i) ≡ None)
    × (StandsBehind op p cur × OperandsReady c o p i ops (filled_after (at_operands c o filled cur []).place) (absorb_operand op p cur)))

abbrev pub absorb_operands : List Operand → Operands → Operands → Operands
absorb_operands [] p cur = cur
absorb_operands (op ∷ ops) p cur = absorb_operands ops p (absorb_operand op p cur)

abbrev pub filled_by : Command → List Operand → ℕ → ℕ
filled_by c [] filled = filled
filled_by c (op ∷ ops) filled = filled_by c ops (filled_after (at_operands c no_options filled no_operands []).place)

abbrev pub items_by : List Operand → Item → List Item → List Item
items_by [] i items = items
items_by (op ∷ ops) i items = items_by ops i (items ++ added_by op i)

pub record OperandsRun (c : Command) (o : Options) (p cur : Operands) (i : Item) (ops : List Operand) (filled : ℕ) (items : List Item) : Type 0 where
  pub ran : run (at_operands c o filled cur items) (operand_words ops p i) ≡ Some (at_operands c o (filled_by c ops filled) (absorb_operands ops p cur) (items_by ops i items))
  pub inked : all_inked (operand_words ops p i) ≡ true
  pub few : length (spaced (operand_words ops p i)) ≤ 129 * length ops

operand_taken : (c : Command) (o : Options) (cur later : Operands) (filled : ℕ) (items new : List Item) (op : Operand) (word : List ℕ) → setting_at (at_operands c o filled cur []).place word ≡ None
    → next_operand (at_operands c o filled cur []).place ≡ Some op → is_ready (at_operands c o 0 no_operands []).place ≡ true → operand_value op word cur ≡ Some later → operand_items op word ≡ Some new → is_within c (items ++ new) ≡ true
    → read_on (at_operands c o filled cur items) word ≡ Some (at_operands c o (filled_after (at_operands c o filled cur []).place) later (items ++ new))
unfolding read_on
operand_taken c o cur later filled items new op word none next ready reads gives within =
    let r = at_operands c o filled cur items in
    let n = filled_after (at_operands c o filled cur []).place in
    ap (named_read r word) none
    ∙ ap (next_read r word) next
    ∙ ap (λ b. cond b (operand_read r op word) None) ready
    ∙ ap (λ (v : Option Operands). v >>= λ x. onto items (operand_items op word) >>= λ all. grown c all >>= λ more. Some (at_operands c o n x more)) reads
    ∙ ap (λ g. onto items g >>= λ all. grown c all >>= λ more. Some (at_operands c o n later more)) gives
    ∙ ap (λ b. cond b (Some (items ++ new)) None >>= λ more. Some (at_operands c o n later more)) within

added_by_few : (op : Operand) (i : Item) → length (added_by op i) ≤ 1
added_by_few ServerName i = omega arith
added_by_few OtherName i = omega arith
added_by_few UpOrDown i = omega arith
added_by_few AfterWord i = omega arith
added_by_few TornMark i = omega arith
added_by_few TornBytes i = omega arith
added_by_few OneVolume i = omega arith
added_by_few OtherVolume i = omega arith
added_by_few Count i = omega arith
added_by_few TrackNumber i = omega arith
added_by_few Offset i = omega arith
added_by_few WriteBytes i = omega arith
added_by_few CountOrAll i = omega arith
added_by_few SessionNumber i = omega arith
added_by_few NoReply i = omega arith
added_by_few LssNumber i = omega arith
added_by_few VolumeRange i = omega arith
added_by_few VolumeList i = omega arith
added_by_few VolumePair i = omega arith
added_by_few LssPair i = omega arith
added_by_few EachLss i = omega arith
added_by_few Ports i = omega arith
added_by_few ControlPath i = omega arith

-- the operands of a saying are read
pub operands_run : (c : Command) (o : Options) (p cur : Operands) (i : Item) (ops : List Operand) (filled : ℕ) (items : List Item) → OperandsReady c o p i ops filled cur → is_ready (at_operands c o 0 no_operands []).place ≡ true
    → operands_fit ops p i ≡ true → own_steps c + length items + length ops ≤ 1024 → OperandsRun c o p cur i ops filled items
operands_run c o p cur i [] filled items stand ready fit few = record { ran = refl; inked = refl; few = omega arith }
operands_run c o p cur i (op ∷ ops) filled items stand ready fit few =
    let q = and_parts (operand_fits op p i) (operands_fit ops p i) fit in
    let v = operand_reads op p cur i q.0 stand.1.1.0 in
    let one = added_by_few op i in
    let n = filled_after (at_operands c o filled cur []).place in
    let size : length (items ++ added_by op i) ≡ length items + length (added_by op i) = grind (arith, common_steps) in
    let later = operands_run c o p (absorb_operand op p cur) i ops n (items ++ added_by op i) stand.1.1.1 ready q.1 (omega arith) in
    let long = v.few in
    let others = later.few in
    let whole : length (32 ∷ operand_text op p i ++ spaced (operand_words ops p i)) ≡ suc (length (operand_text op p i) + length (spaced (operand_words ops p i))) = grind (arith, common_steps) in
    record {
      ran = run_on (at_operands c o filled cur items) (at_operands c o n (absorb_operand op p cur) (items ++ added_by op i)) (operand_text op p i) (operand_words ops p i)
          (operand_taken c o cur (absorb_operand op p cur) filled items (added_by op i) op (operand_text op p i) stand.1.0 stand.0 ready v.reads v.items (within_more c items (added_by op i) (omega arith) one))
          ∙ later.ran;
      inked = and_from (is_inked (operand_text op p i)) _ v.inked later.inked;
      few = omega (arith, whole, long, others);
    }
