-- What clap makes of words that have the form of a command on sweeps.
use Rattle.std.proofs.Common.{◌≡◌, ◌&&◌, ◌||◌, Bool, true, false, not, List, [], ◌∷◌, length, map, Option, Some, None, nat_le, ◌≤◌, codes, refl, sym, ap, subst, arith}
use Rattle.std.specs.Prelude.{String, string_bytes}
use Rattle.std.specs.Str.{bytes_eq}
use Rattle.std.specs.declared.alloc.Global.{Global}
use Rattle.std.proofs.lemmas.Bool.{and_parts, or_parts}
use Rattle.std.proofs.lemmas.Bool.Decides.{nat_tests}
use Rattle.clap.specs.Words.{Text, is_simple, subcommand_of, takes}
use Rattle.clap.proofs.OnLiterals.{clap_on_literals}
use Rattle.dr_logic.proofs.Lists.{same_bytes}
use Rattle.dr_logic.proofs.Truth.{false_true}
use Rattle.dr_words.specs.Line.{is_option}
use Rattle.dr_words.specs.Sweep.{has_option, point_said, sweep_command_of}
use Rattle.dr_words.specs.SweepLine.{has_form, is_point, met_command, sweep_line}
use Rattle.dr_words.specs.declared.sweep.SweepCommand.{SweepCommand}
use Rattle.dr_words.specs.declared.sweep.SweepCommand.TheVariants.{Report, Rows, Picture, Json}
use Rattle.dr_words.proofs.LineLemmas.{no_dashes, no_hyphen}

pub sweep_is_simple : is_simple sweep_line ≡ true
sweep_is_simple = refl

-- Clap takes the words, and its matches say this command.
abbrev pub IsTakenFor : List Text → Option SweepCommand → Type 0
IsTakenFor words command = (takes sweep_line words ≡ true) × (met_command (subcommand_of sweep_line words) ≡ command)

none_taken : IsTakenFor [] (Some Report)
unfolding clap_on_literals
none_taken = (refl, refl)

rows_taken : IsTakenFor (codes "rows" ∷ []) (Some Rows)
unfolding clap_on_literals
rows_taken = (refl, refl)

picture_taken : IsTakenFor (codes "picture" ∷ []) (Some Picture)
unfolding clap_on_literals
picture_taken = (refl, refl)

json_taken : IsTakenFor (codes "json" ∷ []) (Some Json)
unfolding clap_on_literals
json_taken = (refl, refl)

-- Two to five words of which none begins with a hyphen are values of `script`.
two_taken : (a b : Text) → is_option a ≡ false → is_option b ≡ false → IsTakenFor (codes "script" ∷ a ∷ b ∷ []) (point_said (a ∷ b ∷ []))
unfolding clap_on_literals
two_taken a b pa pb = rw (no_hyphen a pa, no_dashes a pa, no_hyphen a pa, no_hyphen b pb, no_dashes b pb, no_hyphen b pb) (refl, refl)

three_taken : (a b c : Text) → is_option a ≡ false → is_option b ≡ false → is_option c ≡ false → IsTakenFor (codes "script" ∷ a ∷ b ∷ c ∷ []) (point_said (a ∷ b ∷ c ∷ []))
unfolding clap_on_literals
three_taken a b c pa pb pc = rw (no_hyphen a pa, no_dashes a pa, no_hyphen a pa, no_hyphen b pb, no_dashes b pb, no_hyphen b pb, no_hyphen c pc, no_dashes c pc, no_hyphen c pc) (refl, refl)

four_taken : (a b c d : Text) → is_option a ≡ false → is_option b ≡ false → is_option c ≡ false → is_option d ≡ false
    → IsTakenFor (codes "script" ∷ a ∷ b ∷ c ∷ d ∷ []) (point_said (a ∷ b ∷ c ∷ d ∷ []))
unfolding clap_on_literals
four_taken a b c d pa pb pc pd = rw (no_hyphen a pa, no_dashes a pa, no_hyphen a pa, no_hyphen b pb, no_dashes b pb, no_hyphen b pb, no_hyphen c pc, no_dashes c pc, no_hyphen c pc, no_hyphen d pd, no_dashes d pd, no_hyphen d pd) (refl, refl)

five_pass : (a b c d e : Text) → is_option a ≡ false → is_option b ≡ false → is_option c ≡ false → is_option d ≡ false → is_option e ≡ false
    → takes sweep_line (codes "script" ∷ a ∷ b ∷ c ∷ d ∷ e ∷ []) ≡ true
unfolding clap_on_literals
five_pass a b c d e pa pb pc pd pe =
    rw (no_hyphen a pa, no_dashes a pa, no_hyphen a pa, no_hyphen b pb, no_dashes b pb, no_hyphen b pb, no_hyphen c pc, no_dashes c pc, no_hyphen c pc, no_hyphen d pd, no_dashes d pd, no_hyphen d pd, no_hyphen e pe, no_dashes e pe, no_hyphen e pe)
    refl

five_met : (a b c d e : Text) → is_option a ≡ false → is_option b ≡ false → is_option c ≡ false → is_option d ≡ false → is_option e ≡ false
    → met_command (subcommand_of sweep_line (codes "script" ∷ a ∷ b ∷ c ∷ d ∷ e ∷ [])) ≡ point_said (a ∷ b ∷ c ∷ d ∷ e ∷ [])
unfolding clap_on_literals
five_met a b c d e pa pb pc pd pe =
    rw (no_hyphen a pa, no_dashes a pa, no_hyphen a pa, no_hyphen b pb, no_dashes b pb, no_hyphen b pb, no_hyphen c pc, no_dashes c pc, no_hyphen c pc, no_hyphen d pd, no_dashes d pd, no_hyphen d pd, no_hyphen e pe, no_dashes e pe, no_hyphen e pe)
    refl

-- the first word, and those behind it
pub split : (a : String Global) (rest : List (String Global)) → has_option (a ∷ rest) ≡ false → (is_option (string_bytes a) ≡ false) × (has_option rest ≡ false)
split a rest none = or_parts (is_option (string_bytes a)) (has_option rest) none

point_taken : (words : List (String Global)) → has_option words ≡ false → 2 ≤ length words → length words ≤ 5 → IsTakenFor (codes "script" ∷ map string_bytes words) (point_said (map string_bytes words))
point_taken [] none some few = absurd (omega (arith, some))
point_taken (a ∷ []) none some few = absurd (omega (arith, some))
point_taken (a ∷ b ∷ []) none some few =
    let p = split a (b ∷ []) none in let q = split b [] p.1 in
    two_taken (string_bytes a) (string_bytes b) p.0 q.0
point_taken (a ∷ b ∷ c ∷ []) none some few =
    let p = split a (b ∷ c ∷ []) none in let q = split b (c ∷ []) p.1 in let r = split c [] q.1 in
    three_taken (string_bytes a) (string_bytes b) (string_bytes c) p.0 q.0 r.0
point_taken (a ∷ b ∷ c ∷ d ∷ []) none some few =
    let p = split a (b ∷ c ∷ d ∷ []) none in let q = split b (c ∷ d ∷ []) p.1 in let r = split c (d ∷ []) q.1 in let s = split d [] r.1 in
    four_taken (string_bytes a) (string_bytes b) (string_bytes c) (string_bytes d) p.0 q.0 r.0 s.0
point_taken (a ∷ b ∷ c ∷ d ∷ e ∷ []) none some few =
    let p = split a (b ∷ c ∷ d ∷ e ∷ []) none in let q = split b (c ∷ d ∷ e ∷ []) p.1 in let r = split c (d ∷ e ∷ []) q.1 in let s = split d (e ∷ []) r.1 in let t = split e [] s.1 in
    (five_pass (string_bytes a) (string_bytes b) (string_bytes c) (string_bytes d) (string_bytes e) p.0 q.0 r.0 s.0 t.0, five_met (string_bytes a) (string_bytes b) (string_bytes c) (string_bytes d) (string_bytes e) p.0 q.0 r.0 s.0 t.0)
point_taken (a ∷ b ∷ c ∷ d ∷ e ∷ f ∷ rest) none some few = absurd (omega (arith, few))

-- Fewer words than two, or more than five, are those of no point.
no_point : (words : List (String Global)) → (nat_le 2 (length words) && nat_le (length words) 5) ≡ false → point_said (map string_bytes words) ≡ None
no_point [] other = refl
no_point (a ∷ []) other = refl
no_point (a ∷ b ∷ []) other = false_true other refl
no_point (a ∷ b ∷ c ∷ []) other = false_true other refl
no_point (a ∷ b ∷ c ∷ d ∷ []) other = false_true other refl
no_point (a ∷ b ∷ c ∷ d ∷ e ∷ []) other = false_true other refl
no_point (a ∷ b ∷ c ∷ d ∷ e ∷ f ∷ rest) other = refl

-- Clap takes words that have a command's form for the command that they name.
pub taken_for : (words : List (String Global)) → has_form words ≡ true → IsTakenFor (map string_bytes words) (sweep_command_of words)
taken_for [] form = none_taken
taken_for (name ∷ []) form =
    go (bytes_eq (string_bytes name) (codes "rows")) refl (bytes_eq (string_bytes name) (codes "picture")) refl (bytes_eq (string_bytes name) (codes "json")) refl form
  where
    go : (r : Bool) → bytes_eq (string_bytes name) (codes "rows") ≡ r → (p : Bool) → bytes_eq (string_bytes name) (codes "picture") ≡ p
        → (j : Bool) → bytes_eq (string_bytes name) (codes "json") ≡ j → ((r || p) || j) ≡ true → IsTakenFor (map string_bytes (name ∷ [])) (sweep_command_of (name ∷ []))
    go true rows p picture j json form = rw rows (subst (λ w. IsTakenFor (w ∷ []) (Some Rows)) (sym (same_bytes (string_bytes name) (codes "rows") rows)) rows_taken)
    go false rows true picture j json form = rw (rows, picture) (subst (λ w. IsTakenFor (w ∷ []) (Some Picture)) (sym (same_bytes (string_bytes name) (codes "picture") picture)) picture_taken)
    go false rows false picture true json form =
        rw (rows, picture, json) (subst (λ w. IsTakenFor (w ∷ []) (Some Json)) (sym (same_bytes (string_bytes name) (codes "json") json)) json_taken)
    go false rows false picture false json form = false_true refl form
taken_for (name ∷ first ∷ rest) form = go (has_option (first ∷ rest)) refl (and_parts _ _ both.1)
  where
    both : (bytes_eq (string_bytes name) (codes "script") ≡ true) × (is_point (first ∷ rest) ≡ true)
    both = and_parts (bytes_eq (string_bytes name) (codes "script")) (is_point (first ∷ rest)) form

    go : (o : Bool) → has_option (first ∷ rest) ≡ o → ((nat_le 2 (length (first ∷ rest)) && nat_le (length (first ∷ rest)) 5) ≡ true) × (not (has_option (first ∷ rest)) ≡ true)
        → IsTakenFor (map string_bytes (name ∷ first ∷ rest)) (sweep_command_of (name ∷ first ∷ rest))
    go true hyphen counted = false_true (ap not hyphen) counted.1
    go false plain counted =
        let sized = and_parts (nat_le 2 (length (first ∷ rest))) (nat_le (length (first ∷ rest)) 5) counted.0 in
        let some : 2 ≤ length (first ∷ rest) = grind (arith, nat_tests, sized.0) in
        let few : length (first ∷ rest) ≤ 5 = grind (arith, nat_tests, sized.1) in
        rw (both.0, plain)
        (subst (λ w. IsTakenFor (w ∷ map string_bytes (first ∷ rest)) (point_said (map string_bytes (first ∷ rest)))) (sym (same_bytes (string_bytes name) (codes "script") both.0))
        (point_taken (first ∷ rest) plain some few))

-- Words of another form name no command.
pub formless_sweep : (words : List (String Global)) → has_form words ≡ false → sweep_command_of words ≡ None
formless_sweep [] form = false_true form refl
formless_sweep (name ∷ []) form =
    let p = or_parts (bytes_eq (string_bytes name) (codes "rows") || bytes_eq (string_bytes name) (codes "picture")) (bytes_eq (string_bytes name) (codes "json")) form in
    let q = or_parts (bytes_eq (string_bytes name) (codes "rows")) (bytes_eq (string_bytes name) (codes "picture")) p.0 in
    rw (q.0, q.1, p.1) refl
formless_sweep (name ∷ first ∷ rest) form = go (bytes_eq (string_bytes name) (codes "script")) refl (has_option (first ∷ rest)) refl form
  where
    plain_form : (b : Bool) → (b && not false) ≡ false → b ≡ false
    plain_form true h = false_true h refl
    plain_form false h = refl

    go : (s : Bool) → bytes_eq (string_bytes name) (codes "script") ≡ s → (o : Bool) → has_option (first ∷ rest) ≡ o
        → (s && ((nat_le 2 (length (first ∷ rest)) && nat_le (length (first ∷ rest)) 5) && not o)) ≡ false → sweep_command_of (name ∷ first ∷ rest) ≡ None
    go false script o is form = rw script refl
    go true script true hyphen form = rw (script, hyphen) refl
    go true script false plain form = rw (script, plain) (no_point (first ∷ rest) (plain_form _ form))
