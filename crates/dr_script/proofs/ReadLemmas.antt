-- Words that name a command or an option, and words of a line one after another.
use Rattle.std.proofs.Common.{ℕ, suc, ◌≡◌, ◌<◌, ◌≤◌, ◌+◌, List, [], ◌∷◌, drop, length, ap, ◌∙◌, sym, arith, Bool, true, false, cond, get_or, drop-cons, Option, Some, None, refl}
use Rattle.std.proofs.lemmas.Grind.{common_steps}
use Rattle.std.specs.Str.{bytes_eq}
use Rattle.std.proofs.lemmas.Slice.Eq.{bytes_eq-Decides}
use Rattle.std.specs.Bool.{Decides}
use Rattle.dr_model.specs.declared.grammar.Command.{Command}
use Rattle.dr_model.specs.declared.grammar.Command.TheVariants.{AtServer}
use Rattle.dr_model.specs.declared.grammar.Setting.{Setting}
use Rattle.dr_model.specs.declared.grammar.Setting.TheVariants.{Quiet}
use Rattle.dr_model.specs.LineTable.{command_word, setting_word}
use Rattle.std.specs.Prelude.{Result, Err}
use Rattle.dr_model.specs.LineWords.{Word}
use Rattle.dr_model.specs.declared.step.Step.{Step}
use Rattle.dr_model.specs.Grammar.{Reading, command_named, setting_named, read_on, read_words}

command_step : (cs : List Command) (word : List ℕ) (i : ℕ) (same : Bool) → i < length cs → bytes_eq word (command_word (get_or cs i AtServer)) ≡ same
    → command_named (drop i cs) word ≡ cond same (Some (get_or cs i AtServer)) (command_named (drop (i + 1) cs) word)
unfolding command_named
command_step cs word i same lt e =
    ap (λ rest. command_named rest word) (drop-cons cs i AtServer lt)
    ∙ (λ j. cond (e j) (Some (get_or cs i AtServer)) (command_named (drop ((let n : suc i ≡ i + 1 = omega arith in n) j) cs) word))

-- the word is the name of the command at a place
pub command_found : (cs : List Command) (word name : List ℕ) (i : ℕ) (same : Bool) → i < length cs → name ≡ command_word (get_or cs i AtServer) → same ≡ bytes_eq word name → same ≡ true
    → command_named (drop i cs) word ≡ command_named cs word → Some (get_or cs i AtServer) ≡ command_named cs word
command_found cs word name i same lt is e met so_far =
    sym (sym so_far ∙ command_step cs word i true lt (sym (sym met ∙ e ∙ ap (bytes_eq word) is)))

-- it is not
pub command_passed : (cs : List Command) (word name : List ℕ) (i : ℕ) (same : Bool) → i < length cs → name ≡ command_word (get_or cs i AtServer) → same ≡ bytes_eq word name → same ≡ false
    → command_named (drop i cs) word ≡ command_named cs word → command_named (drop (i + 1) cs) word ≡ command_named cs word
command_passed cs word name i same lt is e differs so_far = sym (command_step cs word i false lt (sym (sym differs ∙ e ∙ ap (bytes_eq word) is))) ∙ so_far

-- it is the name of none
pub command_unknown : (cs : List Command) (word : List ℕ) (i : ℕ) → length cs ≤ i → command_named (drop i cs) word ≡ command_named cs word → None ≡ command_named cs word
unfolding command_named
command_unknown cs word i past so_far =
    sym (sym so_far ∙ ap (λ rest. command_named rest word) (let d : drop i cs ≡ [] = grind (arith, common_steps) in d))

word_of_found : (same : Bool) (word name : List ℕ) (x c : Command) (rest : Option Command) → Decides same (word ≡ name) → name ≡ command_word x → (rest ≡ Some c → word ≡ command_word c) → cond same (Some x) rest ≡ Some c → word ≡ command_word c
word_of_found true word name x c rest d is others found = let w : word ≡ name = d.0 refl in let s : x ≡ c = cc in w ∙ is ∙ ap command_word s
word_of_found false word name x c rest d is others found = others found

-- a word by which a command of a list was found is its name
pub word_is : (cs : List Command) (word : List ℕ) (c : Command) → command_named cs word ≡ Some c → word ≡ command_word c
unfolding command_named
word_is [] word c found = absurd (cc)
word_is (x ∷ xs) word c found = word_of_found (bytes_eq word (command_word x)) word (command_word x) x c (command_named xs word) (bytes_eq-Decides word (command_word x)) refl (word_is xs word c) found

setting_step : (cs : List Setting) (word : List ℕ) (i : ℕ) (same : Bool) → i < length cs → bytes_eq word (setting_word (get_or cs i Quiet)) ≡ same
    → setting_named (drop i cs) word ≡ cond same (Some (get_or cs i Quiet)) (setting_named (drop (i + 1) cs) word)
unfolding setting_named
setting_step cs word i same lt e =
    ap (λ rest. setting_named rest word) (drop-cons cs i Quiet lt)
    ∙ (λ j. cond (e j) (Some (get_or cs i Quiet)) (setting_named (drop ((let n : suc i ≡ i + 1 = omega arith in n) j) cs) word))

-- the word is the name of the setting at a place
pub setting_found : (cs all : List Setting) (word name : List ℕ) (i : ℕ) (same : Bool) → i < length cs → name ≡ setting_word (get_or cs i Quiet) → same ≡ bytes_eq word name → same ≡ true
    → setting_named (drop i cs) word ≡ setting_named cs word → cs ≡ all → Some (get_or cs i Quiet) ≡ setting_named all word
setting_found cs all word name i same lt is e met so_far whole =
    sym (sym so_far ∙ setting_step cs word i true lt (sym (sym met ∙ e ∙ ap (bytes_eq word) is))) ∙ ap (λ xs. setting_named xs word) whole

-- it is not
pub setting_passed : (cs : List Setting) (word name : List ℕ) (i : ℕ) (same : Bool) → i < length cs → name ≡ setting_word (get_or cs i Quiet) → same ≡ bytes_eq word name → same ≡ false
    → setting_named (drop i cs) word ≡ setting_named cs word → setting_named (drop (i + 1) cs) word ≡ setting_named cs word
setting_passed cs word name i same lt is e differs so_far = sym (setting_step cs word i false lt (sym (sym differs ∙ e ∙ ap (bytes_eq word) is))) ∙ so_far

-- it is the name of none
pub setting_unknown : (cs all : List Setting) (word : List ℕ) (i : ℕ) → length cs ≤ i → setting_named (drop i cs) word ≡ setting_named cs word → cs ≡ all → None ≡ setting_named all word
unfolding setting_named
setting_unknown cs all word i past so_far whole =
    sym (sym so_far ∙ ap (λ rest. setting_named rest word) (let d : drop i cs ≡ [] = grind (arith, common_steps) in d)) ∙ ap (λ xs. setting_named xs word) whole

-- a word that can't stand there
pub word_refused : (past : ℕ) (r : Reading) (words behind : List Word) (column : ℕ) (bytes : List ℕ) → words ≡ record { column = column; bytes = bytes } ∷ behind → read_on r bytes ≡ None → read_words past r words ≡ Err column
unfolding read_words
word_refused past r words behind column bytes is refused =
    ap (read_words past r) is ∙ ap (λ o. elim o as (λ _. Result (List Step) ℕ) [ None ↦ Err column | Some next ↦ read_words past next behind ]) refused

-- a word that can
pub word_taken : (past : ℕ) (r next : Reading) (words behind : List Word) (column : ℕ) (bytes : List ℕ) → words ≡ record { column = column; bytes = bytes } ∷ behind → read_on r bytes ≡ Some next → read_words past r words ≡ read_words past next behind
unfolding read_words
word_taken past r next words behind column bytes is taken =
    ap (read_words past r) is ∙ ap (λ o. elim o as (λ _. Result (List Step) ℕ) [ None ↦ Err column | Some later ↦ read_words past later behind ]) taken
