-- What clap makes of words that have a command's form.
use Rattle.std.proofs.Common.{◌≡◌, ◌&&◌, ◌||◌, ◌-◌, ◌^◌, Bool, cond, true, false, not, List, [], ◌∷◌, map, Option, Some, None, codes, refl, sym, subst, option_map}
use Rattle.std.specs.Prelude.{String, string_bytes}
use Rattle.std.specs.Str.{bytes_eq}
use Rattle.std.specs.declared.alloc.Global.{Global}
use Rattle.clap.specs.Words.{Text, is_simple, subcommand_of, takes}
use Rattle.clap.specs.Lexer.{strip_byte}
use Rattle.clap.proofs.OnLiterals.{clap_on_literals}
use Rattle.dr_logic.proofs.Lists.{same_bytes}
use Rattle.dr_logic.proofs.Truth.{false_true}
use Rattle.dr_ids.specs.Spelling.{number_word, session_word}
use Rattle.dr_words.specs.Line.{command_line, has_form, is_option, met_command}
use Rattle.dr_words.specs.Words.{command_of}
use Rattle.dr_words.specs.declared.words.Command.{Command}
use Rattle.dr_words.specs.declared.words.Command.TheVariants.{Run, Recover, Trial}
use Rattle.dr_words.proofs.HyphenLemmas.{hyphen_number, hyphen_session}

pub line_is_simple : is_simple command_line ≡ true
line_is_simple = refl

-- clap takes the words, and its matches say this command.
abbrev pub IsTaken : List Text → Option Command → Type 0
IsTaken words command = (takes command_line words ≡ true) × (met_command (subcommand_of command_line words) ≡ command)

pub no_hyphen : (word : Text) → is_option word ≡ false → strip_byte 45 word ≡ None
no_hyphen [] plain = refl
no_hyphen (first ∷ rest) plain = rw plain refl

pub no_dashes : (word : Text) → is_option word ≡ false → bytes_eq word (45 ∷ 45 ∷ []) ≡ false
no_dashes [] plain = refl
no_dashes (first ∷ rest) plain = rw plain refl

run_taken : IsTaken (codes "run" ∷ []) (Some Run)
unfolding clap_on_literals
run_taken = (refl, refl)

recover_taken : (value : Text) → is_option value ≡ false → IsTaken (codes "recover" ∷ value ∷ []) (option_map (λ session. Recover session) (session_word value))
unfolding clap_on_literals
recover_taken value plain = rw (no_hyphen value plain, no_dashes value plain, no_hyphen value plain) (refl, refl)

trial_taken : (value : Text) → is_option value ≡ false → IsTaken (codes "trial" ∷ value ∷ []) (option_map (λ number. Trial number) (number_word (2 ^ 32 - 1) value))
unfolding clap_on_literals
trial_taken value plain = rw (no_hyphen value plain, no_dashes value plain, no_hyphen value plain) (refl, refl)

-- clap takes words that have a command's form for the command that they name.
pub taken : (words : List (String Global)) → has_form words ≡ true → IsTaken (map string_bytes words) (command_of words)
taken [] form = false_true refl form
taken (name ∷ []) form = rw form (subst (λ w. IsTaken (w ∷ []) (Some Run)) (sym (same_bytes (string_bytes name) (codes "run") form)) run_taken)
taken (name ∷ value ∷ []) form = go (bytes_eq (string_bytes name) (codes "recover")) refl (bytes_eq (string_bytes name) (codes "trial")) refl (is_option (string_bytes value)) refl form
  where
    go : (r : Bool) → bytes_eq (string_bytes name) (codes "recover") ≡ r → (t : Bool) → bytes_eq (string_bytes name) (codes "trial") ≡ t
        → (o : Bool) → is_option (string_bytes value) ≡ o → ((r || t) && not o) ≡ true → IsTaken (map string_bytes (name ∷ value ∷ [])) (command_of (name ∷ value ∷ []))
    go true recover t trial true hyphen form = false_true refl form
    go true recover t trial false plain form =
        rw recover (subst (λ w. IsTaken (w ∷ string_bytes value ∷ []) (option_map (λ session. Recover session) (session_word (string_bytes value)))) (sym (same_bytes (string_bytes name) (codes "recover") recover)) (recover_taken (string_bytes value) plain))
    go false recover true trial true hyphen form = false_true refl form
    go false recover true trial false plain form =
        rw (recover, trial) (subst (λ w. IsTaken (w ∷ string_bytes value ∷ []) (option_map (λ number. Trial number) (number_word (2 ^ 32 - 1) (string_bytes value)))) (sym (same_bytes (string_bytes name) (codes "trial") trial)) (trial_taken (string_bytes value) plain))
    go false recover false trial o is form = false_true refl form
taken (name ∷ value ∷ more ∷ rest) form = false_true refl form

none_anyhow : {A : Type 0} (first second : Bool) → ◌≡◌ {A = Option A} (cond first None (cond second None None)) None
none_anyhow true second = refl
none_anyhow false true = refl
none_anyhow false false = refl

-- Words of another form name no command.
pub formless : (words : List (String Global)) → has_form words ≡ false → command_of words ≡ None
formless [] form = refl
formless (name ∷ []) form = rw form refl
formless (name ∷ value ∷ []) form = go (bytes_eq (string_bytes name) (codes "recover")) refl (bytes_eq (string_bytes name) (codes "trial")) refl (is_option (string_bytes value)) refl form
  where
    go : (r : Bool) → bytes_eq (string_bytes name) (codes "recover") ≡ r → (t : Bool) → bytes_eq (string_bytes name) (codes "trial") ≡ t
        → (o : Bool) → is_option (string_bytes value) ≡ o → ((r || t) && not o) ≡ false → command_of (name ∷ value ∷ []) ≡ None
    go false recover false trial o is form = rw (recover, trial) refl
    go r recover t trial true hyphen form =
        rw (hyphen_session (string_bytes value) hyphen, hyphen_number (string_bytes value) hyphen) (none_anyhow (bytes_eq (string_bytes name) (codes "recover")) (bytes_eq (string_bytes name) (codes "trial")))
    go true recover t trial false plain form = false_true form refl
    go false recover true trial false plain form = false_true form refl
formless (name ∷ value ∷ more ∷ rest) form = refl
