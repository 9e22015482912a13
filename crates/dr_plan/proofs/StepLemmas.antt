-- The script of a point, as its lines and steps are read.
use Rattle.std.proofs.Common.{ℕ, suc, ◌≡◌, ◌<◌, ◌≤◌, ◌+◌, ◌^◌, List, [], ◌∷◌, ◌++◌, length, take, drop, map, slice_get, refl, ap, sym, ◌∙◌, arith, append_assoc, Bool, true, false, cond, nat_le, Option, Some, None}
use Rattle.std.specs.Prelude.{All, Ok}
use Rattle.std.specs.Option.{option_map}
use Rattle.std.specs.Str.Lines.{lines}
use Rattle.std.proofs.lemmas.Bool.Decides.{nat_tests}
use Rattle.std.proofs.lemmas.Grind.{common_steps}
use Rattle.std.proofs.lemmas.List.Elements.{All-nil, All-cons, All-append, All-drop, All-take}
use Rattle.std.proofs.lemmas.Option.{slice_get_within, get_or_from_slice_get}
use Rattle.dr_model.specs.declared.step.Name.{Name}
use Rattle.dr_model.specs.declared.step.Step.TheVariants.{Stop, StopAfter}
use Rattle.dr_model.specs.LineText.{name_fits, step_text}
use Rattle.dr_model.specs.LineWords.{◌>>=◌}
use Rattle.dr_model.specs.Lines.{task, tasks, tasks_of, tasks_from, tasks_read}
use Rattle.dr_script.proofs.StepLemmas.{reads}
use Rattle.dr_plan.specs.declared.points.Torn.{Torn}
use Rattle.dr_plan.specs.Parts.{IsSweep}
use Rattle.dr_plan.specs.Points.{count_at, torn_at, torn_word, stop_line, fuses, fuse_lines, others, lines_before, calm_lines, cut_lines, gap_lines, stop_steps, steps_from, cut_steps, gap_steps, text_of}
use Rattle.dr_plan.specs.Sweep.{Sweep, Tried, texts, is_unbroken}
use Rattle.dr_plan.proofs.PrintLemmas.{step-unbroken, fuse-unbroken}
use Rattle.dr_plan.proofs.StopLemmas.{stop-written, fuse-written}
use Rattle.dr_plan.proofs.WholeLemmas.{lines-text}

-- the name and the line at a place
pub name_at : (names : List Name) (i : ℕ) (name : Name) → All (λ name. name_fits name ≡ true) names → slice_get names i ≡ Some name → name_fits name ≡ true
name_at names i name all h = ap name_fits (sym (get_or_from_slice_get names i name name h)) ∙ all i name (slice_get_within names i name h)

pub text_at : (tried : List Tried) (i : ℕ) (t : Tried) → All (λ (t : Tried). is_unbroken t.text ≡ true) tried → slice_get tried i ≡ Some t → is_unbroken t.text ≡ true
text_at tried i t all h = ap (λ (t : Tried). is_unbroken t.text) (sym (get_or_from_slice_get tried i t t h)) ∙ all i t (slice_get_within tried i t h)

-- the lines before a point have no line feeds
texts_whole : (tried : List Tried) → All (λ (t : Tried). is_unbroken t.text ≡ true) tried → All (λ l. is_unbroken l ≡ true) (texts tried)
texts_whole [] all = All-nil (λ l. is_unbroken l ≡ true)
texts_whole (t ∷ tried) all = All-cons (λ l. is_unbroken l ≡ true) t.text (texts tried) (all 0 t (omega arith)) (texts_whole tried (All-drop (λ (t : Tried). is_unbroken t.text ≡ true) 1 (t ∷ tried) all))

pub before_whole : (plan : Sweep) (place : ℕ) → IsSweep plan → All (λ l. is_unbroken l ≡ true) (lines_before plan place)
before_whole plan place are =
    All-append (λ l. is_unbroken l ≡ true) plan.setup (texts (take place plan.tried)) are.setup (texts_whole (take place plan.tried) (All-take (λ (t : Tried). is_unbroken t.text ≡ true) place plan.tried are.tried))

pub others_fit : (server : ℕ) (names : List Name) → All (λ name. name_fits name ≡ true) names → All (λ name. name_fits name ≡ true) (others server names)
others_fit server names fit =
    All-append (λ name. name_fits name ≡ true) (take server names) (drop (server + 1) names) (All-take (λ name. name_fits name ≡ true) server names fit) (All-drop (λ name. name_fits name ≡ true) (server + 1) names fit)

-- the lines that are put in have no line feeds
pub stops_whole : (names : List Name) → All (λ name. name_fits name ≡ true) names → All (λ l. is_unbroken l ≡ true) (map stop_line names)
stops_whole [] fit = All-nil (λ l. is_unbroken l ≡ true)
stops_whole (name ∷ names) fit =
    All-cons (λ l. is_unbroken l ≡ true) (stop_line name) (map stop_line names) (step-unbroken (Stop name) (stop-written name (fit 0 name (omega arith)))) (stops_whole names (All-drop (λ name. name_fits name ≡ true) 1 (name ∷ names) fit))

pub fuses_whole : (names : List Name) (server : ℕ) (torn : Torn) (writes : List ℕ) (place : ℕ) → All (λ name. name_fits name ≡ true) names → All (λ l. is_unbroken l ≡ true) (map step_text (fuses server torn writes place names))
fuses_whole [] server torn writes place fit = All-nil (λ l. is_unbroken l ≡ true)
fuses_whole (name ∷ names) server torn writes place fit =
    All-cons (λ l. is_unbroken l ≡ true) (step_text (StopAfter name (count_at writes place) (torn_word (torn_at server torn place)))) (map step_text (fuses server torn writes (place + 1) names))
    (fuse-unbroken name (count_at writes place) (torn_at server torn place) (fit 0 name (omega arith)))
    (fuses_whole names server torn writes (place + 1) (All-drop (λ name. name_fits name ≡ true) 1 (name ∷ names) fit))

-- the steps of lines in two parts, of which the second begins with line k
tasks_both : (number k : ℕ) (a b : List (List ℕ)) → k ≡ number + length a → tasks_from number (a ++ b) ≡ tasks_from number a ++ tasks_from k b
tasks_both number k [] b e = ap (λ n. tasks_from n b) (let same : number ≡ k = omega arith in same)
tasks_both number k (line ∷ rest) b e =
    ap (λ ts. tasks_of number line ++ ts) (tasks_both (number + 1) k rest b (omega arith)) ∙ sym (append_assoc (tasks_of number line) (tasks_from (number + 1) rest) (tasks_from k b))

stops_read : (number : ℕ) (names : List Name) → All (λ name. name_fits name ≡ true) names → tasks_from number (map stop_line names) ≡ stop_steps number names
stops_read number [] fit = refl
stops_read number (name ∷ names) fit =
    ap (λ ts. ts ++ tasks_from (number + 1) (map stop_line names)) (ap (tasks_read number) (reads (Stop name) (stop-written name (fit 0 name (omega arith)))))
    ∙ ap (λ ts. task number (Ok (Stop name)) ∷ ts) (stops_read (number + 1) names (All-drop (λ name. name_fits name ≡ true) 1 (name ∷ names) fit))

pub fuses-length : (names : List Name) (server : ℕ) (torn : Torn) (writes : List ℕ) (place : ℕ) → length (fuses server torn writes place names) ≡ length names
fuses-length [] server torn writes place = refl
fuses-length (name ∷ names) server torn writes place = ap suc (fuses-length names server torn writes (place + 1))

pub fuses-read : (number : ℕ) (names : List Name) (server : ℕ) (torn : Torn) (writes : List ℕ) (place : ℕ) → All (λ name. name_fits name ≡ true) names → ((i : ℕ) → count_at writes i < 2 ^ 32)
    → tasks_from number (map step_text (fuses server torn writes place names)) ≡ steps_from number (fuses server torn writes place names)
fuses-read number [] server torn writes place fit few = refl
fuses-read number (name ∷ names) server torn writes place fit few =
    let step = StopAfter name (count_at writes place) (torn_word (torn_at server torn place)) in
    ap (λ ts. ts ++ tasks_from (number + 1) (map step_text (fuses server torn writes (place + 1) names)))
    (ap (tasks_read number) (reads step (fuse-written name (count_at writes place) (torn_at server torn place) (fit 0 name (omega arith)) (few place))))
    ∙ ap (λ ts. task number (Ok step) ∷ ts) (fuses-read (number + 1) names server torn writes (place + 1) (All-drop (λ name. name_fits name ≡ true) 1 (name ∷ names) fit) few)

-- fuses, a line and more between what stands before and after
pieces : (front armed stops last : List (List ℕ)) (tried : List ℕ) (m n k j : ℕ) → m ≡ length front + 1 → n ≡ m + length armed → k ≡ n + 1 → j ≡ k + length stops
    → tasks_from 1 (((front ++ armed) ++ tried ∷ stops) ++ last) ≡ (((tasks_from 1 front ++ tasks_from m armed) ++ tasks_of n tried) ++ tasks_from k stops) ++ tasks_from j last
pieces front armed stops last tried m n k j em en ek ej =
    tasks_both 1 j ((front ++ armed) ++ tried ∷ stops) last (let size : length ((front ++ armed) ++ tried ∷ stops) ≡ length front + length armed + 1 + length stops = grind (arith, common_steps) in omega arith)
    ∙ ap (λ ts. ts ++ tasks_from j last)
    (tasks_both 1 n (front ++ armed) (tried ∷ stops) (let size : length (front ++ armed) ≡ length front + length armed = grind (arith, common_steps) in omega arith)
    ∙ (λ i. tasks_both 1 m front armed (let e : m ≡ 1 + length front = omega arith in e) i ++ (tasks_of n tried ++ tasks_from (sym ek i) stops))
    ∙ sym (append_assoc (tasks_from 1 front ++ tasks_from m armed) (tasks_of n tried) (tasks_from k stops)))

front_length : (setup : List (List ℕ)) (tried : List Tried) (place : ℕ) → place ≤ length tried → length (setup ++ texts (take place tried)) ≡ length setup + place
front_length setup tried place within = grind (arith, common_steps)

cut_tasks : (plan : Sweep) (names : List Name) (place server : ℕ) (torn : Torn) (writes : List ℕ) → All (λ name. name_fits name ≡ true) names → ((i : ℕ) → count_at writes i < 2 ^ 32)
    → option_map (tasks_from 1) (cut_lines plan names place server torn writes) ≡ cut_steps plan names place server torn writes
cut_tasks plan names place server torn writes fit few = by (slice_get names server) (slice_get plan.tried place) refl
  where
    by : (n : Option Name) (t : Option Tried) → slice_get plan.tried place ≡ t
        → option_map (tasks_from 1) (n >>= λ name. t >>= λ tried. Some (((lines_before plan place ++ fuse_lines names server torn writes) ++ tried.text ∷ map stop_line (others server names)) ++ plan.recovery))
        ≡ (n >>= λ name. t >>= λ tried. Some ((((tasks_from 1 (lines_before plan place) ++ steps_from (length plan.setup + place + 1) (fuses server torn writes 0 names)) ++ tasks_of (length plan.setup + place + 1 + length names) tried.text)
        ++ stop_steps (length plan.setup + place + 1 + length names + 1) (others server names)) ++ tasks_from (length plan.setup + place + 1 + length names + 1 + length (others server names)) plan.recovery))
    by None t at = refl
    by (Some name) None at = refl
    by (Some name) (Some tried) at =
        let b : ℕ = length plan.setup + place in
        let n : ℕ = b + 1 + length names in
        let o = others server names in
        let front = lines_before plan place in
        let armed = fuse_lines names server torn writes in
        let within = slice_get_within plan.tried place tried at in
        let size : length front ≡ b = front_length plan.setup plan.tried place (omega arith) in
        let count : length (map stop_line o) ≡ length o = grind (arith, common_steps) in
        let armed_count : length armed ≡ length (fuses server torn writes 0 names) = grind (arith, common_steps) in
        let all_armed = fuses-length names server torn writes 0 in
        ap Some
        (pieces front armed (map stop_line o) plan.recovery tried.text (b + 1) n (n + 1) (n + 1 + length o) (omega (arith, size)) (omega (arith, armed_count, all_armed)) (omega arith) (omega (arith, count))
        ∙ (λ i. (((tasks_from 1 front ++ fuses-read (b + 1) names server torn writes 0 fit few i) ++ tasks_of n tried.text) ++ stops_read (n + 1) o (others_fit server names fit) i) ++ tasks_from (n + 1 + length o) plan.recovery))

gap_tasks : (plan : Sweep) (names : List Name) (place : ℕ) → All (λ name. name_fits name ≡ true) names → option_map (tasks_from 1) (gap_lines plan names place) ≡ gap_steps plan names place
gap_tasks plan names place fit = by (nat_le place (length plan.tried)) refl
  where
    by : (b : Bool) → nat_le place (length plan.tried) ≡ b
        → option_map (tasks_from 1) (cond b (Some (lines_before plan place ++ map stop_line names ++ plan.recovery)) None)
        ≡ cond b (Some (tasks_from 1 (lines_before plan place) ++ stop_steps (length plan.setup + place + 1) names ++ tasks_from (length plan.setup + place + 1 + length names) plan.recovery)) None
    by false e = refl
    by true e =
        let b : ℕ = length plan.setup + place in
        let front = lines_before plan place in
        let size : length front ≡ b = front_length plan.setup plan.tried place (grind (arith, nat_tests, e)) in
        let count : length (front ++ map stop_line names) ≡ length front + length names = grind (arith, common_steps) in
        ap Some
        (tasks_both 1 (b + 1 + length names) (front ++ map stop_line names) plan.recovery (omega (arith, size, count))
        ∙ ap (λ ts. ts ++ tasks_from (b + 1 + length names) plan.recovery) (tasks_both 1 (b + 1) front (map stop_line names) (omega (arith, size)) ∙ ap (λ ts. tasks_from 1 front ++ ts) (stops_read (b + 1) names fit)))

-- so are its steps
tasks_lines : (script : Option (List ℕ)) → option_map tasks script ≡ option_map (tasks_from 1) (option_map lines script)
tasks_lines None = refl
tasks_lines (Some text) = refl

pub cut-steps : (plan : Sweep) (names : List Name) (place server : ℕ) (torn : Torn) (writes : List ℕ) (script : Option (List ℕ)) → All (λ name. name_fits name ≡ true) names → ((i : ℕ) → count_at writes i < 2 ^ 32)
    → option_map lines script ≡ cut_lines plan names place server torn writes → option_map tasks script ≡ cut_steps plan names place server torn writes
cut-steps plan names place server torn writes script fit few read = tasks_lines script ∙ ap (option_map (tasks_from 1)) read ∙ cut_tasks plan names place server torn writes fit few

pub gap-steps : (plan : Sweep) (names : List Name) (place : ℕ) (script : Option (List ℕ)) → All (λ name. name_fits name ≡ true) names → option_map lines script ≡ gap_lines plan names place → option_map tasks script ≡ gap_steps plan names place
gap-steps plan names place script fit read = tasks_lines script ∙ ap (option_map (tasks_from 1)) read ∙ gap_tasks plan names place fit

-- the lines of the calm run
pub calm-read : (plan : Sweep) → IsSweep plan → lines (text_of (calm_lines plan)) ≡ calm_lines plan
calm-read plan are = lines-text (calm_lines plan) (All-append (λ l. is_unbroken l ≡ true) plan.setup (texts plan.tried) are.setup (texts_whole plan.tried are.tried))
