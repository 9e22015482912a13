-- The script of a point in pieces.
use Rattle.std.proofs.Common.{ℕ, ◌≡◌, ◌≤◌, List, [], ◌∷◌, ◌++◌, length, map, slice_get, refl, ap, sym, ◌∙◌, subst, arith, append_assoc, Bool, true, false, cond, nat_le, Option, Some, None}
use Rattle.std.specs.Prelude.{All}
use Rattle.std.specs.Option.{option_map, IsSome}
use Rattle.std.specs.Str.Lines.{lines}
use Rattle.std.proofs.lemmas.Bool.Decides.{nat_tests}
use Rattle.std.proofs.lemmas.Grind.{flat_map-append}
use Rattle.std.proofs.lemmas.List.{append-nil}
use Rattle.std.proofs.lemmas.List.Concat.{flat_map-cons}
use Rattle.std.proofs.lemmas.List.Elements.{All-nil, All-cons, All-append}
use Rattle.std.proofs.lemmas.Option.{same_Some, slice_get_within, get_or_from_slice_get}
use Rattle.dr_facts.proofs.Options.{bound}
use Rattle.dr_model.specs.declared.step.Name.{Name}
use Rattle.dr_model.specs.LineWords.{◌>>=◌}
use Rattle.dr_plan.specs.declared.points.Point.{Point}
use Rattle.dr_plan.specs.declared.points.Point.TheVariants.{Cut, Gap}
use Rattle.dr_plan.specs.declared.points.Torn.{Torn}
use Rattle.dr_plan.specs.Parts.{IsSweep}
use Rattle.dr_plan.specs.Pieces.{Pieces, PieceTexts, cut_pieces, gap_pieces, pieces_of, lines_in, IsTextOf, AreTexts, AreCutUp, joined}
use Rattle.dr_plan.specs.Points.{lines_before, cut_lines, gap_lines, lines_at, fuse_lines, stop_line, others, text_of, with_end, script_of}
use Rattle.dr_plan.specs.Sweep.{Sweep, Tried, is_unbroken}
use Rattle.dr_plan.proofs.FitLemmas.{Fit}
use Rattle.dr_plan.proofs.StepLemmas.{text_at, before_whole, others_fit, stops_whole, fuses_whole}
use Rattle.dr_plan.proofs.WholeLemmas.{lines-text}

-- the text of lines one after another
pub text-append : (xs ys : List (List ℕ)) → text_of (xs ++ ys) ≡ text_of xs ++ text_of ys
text-append xs ys = flat_map-append with_end xs ys

-- ---- the pieces of a script are all of it

-- of a stop within a tried step, and of one between two
abbrev cut_made : Sweep → List Name → ℕ → ℕ → Torn → List ℕ → Tried → Pieces
cut_made plan names place server torn writes tried = record { front = lines_before plan place ++ fuse_lines names server torn writes; strike = tried.text ∷ []; stops = map stop_line (others server names) }

abbrev gap_made : Sweep → List Name → ℕ → Pieces
gap_made plan names place = record { front = lines_before plan place; strike = []; stops = map stop_line names }

abbrev cut_script : Sweep → List Name → ℕ → ℕ → Torn → List ℕ → Tried → List (List ℕ)
cut_script plan names place server torn writes tried = ((lines_before plan place ++ fuse_lines names server torn writes) ++ tried.text ∷ map stop_line (others server names)) ++ plan.recovery

cut_lines_in : (plan : Sweep) (names : List Name) (place server : ℕ) (torn : Torn) (writes : List ℕ) → option_map (lines_in plan) (cut_pieces plan names place server torn writes) ≡ cut_lines plan names place server torn writes
cut_lines_in plan names place server torn writes = by (slice_get names server) (slice_get plan.tried place)
  where
    by : (n : Option Name) (t : Option Tried) → option_map (lines_in plan) (n >>= λ name. t >>= λ tried. Some (cut_made plan names place server torn writes tried)) ≡ (n >>= λ name. t >>= λ tried. Some (cut_script plan names place server torn writes tried))
    by None t = refl
    by (Some name) None = refl
    by (Some name) (Some tried) = ap Some (sym (append_assoc (lines_before plan place ++ fuse_lines names server torn writes) (tried.text ∷ map stop_line (others server names)) plan.recovery))

gap_lines_in : (plan : Sweep) (names : List Name) (place : ℕ) → option_map (lines_in plan) (gap_pieces plan names place) ≡ gap_lines plan names place
gap_lines_in plan names place = by (nat_le place (length plan.tried))
  where
    by : (b : Bool) → option_map (lines_in plan) (cond b (Some (gap_made plan names place)) None) ≡ cond b (Some ((lines_before plan place ++ map stop_line names) ++ plan.recovery)) None
    by true = ap Some (sym (append_assoc (lines_before plan place) (map stop_line names) plan.recovery))
    by false = refl

pub pieces-at : (plan : Sweep) (point : Point) → option_map (lines_in plan) (pieces_of plan point) ≡ lines_at plan point
unfolding pieces_of lines_at
pieces-at plan (Cut disaster place server torn writes) = by (slice_get plan.loses disaster)
  where
    by : (lost : Option (List Name)) → option_map (lines_in plan) (lost >>= λ names. cut_pieces plan names place server torn writes) ≡ (lost >>= λ names. cut_lines plan names place server torn writes)
    by None = refl
    by (Some names) = cut_lines_in plan names place server torn writes
pieces-at plan (Gap disaster place) = by (slice_get plan.loses disaster)
  where
    by : (lost : Option (List Name)) → option_map (lines_in plan) (lost >>= λ names. gap_pieces plan names place) ≡ (lost >>= λ names. gap_lines plan names place)
    by None = refl
    by (Some names) = gap_lines_in plan names place

pub pieces-script : (plan : Sweep) (point : Point) (p : Pieces) → pieces_of plan point ≡ Some p → script_of plan point ≡ Some (text_of (lines_in plan p))
pieces-script plan point p h = ap (option_map text_of) (sym (pieces-at plan point) ∙ ap (option_map (lines_in plan)) h)

pub script-pieces : (plan : Sweep) (point : Point) → IsSome (script_of plan point) → (p : Pieces) × (pieces_of plan point ≡ Some p)
script-pieces plan point some = by (pieces_of plan point) refl
  where
    by : (o : Option Pieces) → pieces_of plan point ≡ o → (p : Pieces) × (pieces_of plan point ≡ Some p)
    by None none = absurd (let no : IsSome (option_map text_of (option_map (lines_in plan) None)) = subst (λ o. IsSome (option_map text_of o)) (sym (pieces-at plan point) ∙ ap (option_map (lines_in plan)) none) some in cc)
    by (Some p) is = (p, is)

-- ---- no line feed stands in the lines of pieces

abbrev Whole : List (List ℕ) → Type 0
Whole ls = All (λ l. is_unbroken l ≡ true) ls

pub record AreWhole (p : Pieces) : Type 0 where
  pub front_whole : Whole p.front
  pub strike_whole : Whole p.strike
  pub stops_whole : Whole p.stops

one_whole : (line : List ℕ) → is_unbroken line ≡ true → Whole (line ∷ [])
one_whole line e = All-cons (λ l. is_unbroken l ≡ true) line [] e (All-nil (λ l. is_unbroken l ≡ true))

cut_whole : (plan : Sweep) (names : List Name) (place server : ℕ) (torn : Torn) (writes : List ℕ) (tried : Tried) → IsSweep plan → Fit names → slice_get plan.tried place ≡ Some tried → AreWhole (cut_made plan names place server torn writes tried)
cut_whole plan names place server torn writes tried are fit here = record {
  front_whole = All-append (λ l. is_unbroken l ≡ true) (lines_before plan place) (fuse_lines names server torn writes) (before_whole plan place are) (fuses_whole names server torn writes 0 fit);
  strike_whole = one_whole tried.text (text_at plan.tried place tried are.tried here);
  stops_whole = stops_whole (others server names) (others_fit server names fit);
}

gap_whole : (plan : Sweep) (names : List Name) (place : ℕ) → IsSweep plan → Fit names → AreWhole (gap_made plan names place)
gap_whole plan names place are fit = record {
  front_whole = before_whole plan place are;
  strike_whole = All-nil (λ l. is_unbroken l ≡ true);
  stops_whole = stops_whole names fit;
}

cut_pieces_whole : (plan : Sweep) (names : List Name) (place server : ℕ) (torn : Torn) (writes : List ℕ) → IsSweep plan → Fit names → (p : Pieces) → cut_pieces plan names place server torn writes ≡ Some p → AreWhole p
cut_pieces_whole plan names place server torn writes are fit p h =
    let named = bound (slice_get names server) (λ name. slice_get plan.tried place >>= λ tried. Some (cut_made plan names place server torn writes tried)) p h in
    let here = bound (slice_get plan.tried place) (λ tried. Some (cut_made plan names place server torn writes tried)) p named.2 in
    subst AreWhole (same_Some (cut_made plan names place server torn writes here.0) p here.2) (cut_whole plan names place server torn writes here.0 are fit here.1)

gap_pieces_whole : (plan : Sweep) (names : List Name) (place : ℕ) → IsSweep plan → Fit names → (p : Pieces) → gap_pieces plan names place ≡ Some p → AreWhole p
gap_pieces_whole plan names place are fit p h = by (nat_le place (length plan.tried)) h
  where
    by : (b : Bool) → cond b (Some (gap_made plan names place)) None ≡ Some p → AreWhole p
    by true e = subst AreWhole (same_Some (gap_made plan names place) p e) (gap_whole plan names place are fit)
    by false e = absurd cc

-- the names of a disaster
lost_fit : (plan : Sweep) (disaster : ℕ) (names : List Name) → IsSweep plan → slice_get plan.loses disaster ≡ Some names → Fit names
lost_fit plan disaster names are h = subst Fit (get_or_from_slice_get plan.loses disaster names names h) (are.fit disaster names (slice_get_within plan.loses disaster names h))

pub pieces-whole : (plan : Sweep) → IsSweep plan → (point : Point) (p : Pieces) → pieces_of plan point ≡ Some p → AreWhole p
unfolding pieces_of
pieces-whole plan are (Cut disaster place server torn writes) p h =
    let lost = bound (slice_get plan.loses disaster) (λ names. cut_pieces plan names place server torn writes) p h in
    cut_pieces_whole plan lost.0 place server torn writes are (lost_fit plan disaster lost.0 are lost.1) p lost.2
pieces-whole plan are (Gap disaster place) p h =
    let lost = bound (slice_get plan.loses disaster) (λ names. gap_pieces plan names place) p h in
    gap_pieces_whole plan lost.0 place are (lost_fit plan disaster lost.0 are lost.1) p lost.2

-- so the script reads as its lines
whole_lines : (plan : Sweep) (p : Pieces) → IsSweep plan → AreWhole p → lines (text_of (lines_in plan p)) ≡ lines_in plan p
whole_lines plan p are whole =
    let unbroken = λ (l : List ℕ). is_unbroken l ≡ true in
    lines-text (lines_in plan p)
    (All-append unbroken p.front (p.strike ++ (p.stops ++ plan.recovery)) whole.front_whole
    (All-append unbroken p.strike (p.stops ++ plan.recovery) whole.strike_whole (All-append unbroken p.stops plan.recovery whole.stops_whole are.recovery)))

pub pieces-lines : (plan : Sweep) → IsSweep plan → (point : Point) (p : Pieces) → pieces_of plan point ≡ Some p → lines (text_of (lines_in plan p)) ≡ lines_in plan p
pieces-lines plan are point p h = whole_lines plan p are (pieces-whole plan are point p h)

lines_read : (plan : Sweep) (pieces : Option Pieces) → IsSweep plan → ((p : Pieces) → pieces ≡ Some p → AreWhole p) → option_map lines (option_map text_of (option_map (lines_in plan) pieces)) ≡ option_map (lines_in plan) pieces
lines_read plan None are whole = refl
lines_read plan (Some p) are whole = ap Some (whole_lines plan p are (whole p refl))

-- ---- the texts that are made

text_is : (ls : List (List ℕ)) (text : List ℕ) → Whole ls → text ≡ text_of ls → IsTextOf ls text
text_is ls text whole is = (is, ap lines is ∙ lines-text ls whole)

texts_are : (front strike stops : List ℕ) (p : Pieces) → AreWhole p → front ≡ text_of p.front → strike ≡ text_of p.strike → stops ≡ text_of p.stops → AreTexts front strike stops p
texts_are front strike stops p whole f k s = record { front_is = text_is p.front front whole.front_whole f; strike_is = text_is p.strike strike whole.strike_whole k; stops_are = text_is p.stops stops whole.stops_whole s }

pub cut-made : (plan : Sweep) (names : List Name) (place server : ℕ) (torn : Torn) (writes : List ℕ) (name : Name) (tried : Tried) (before front strike stops : List ℕ) → IsSweep plan → Fit names
    → slice_get names server ≡ Some name → slice_get plan.tried place ≡ Some tried
    → before ≡ text_of (lines_before plan place) → front ≡ before ++ text_of (fuse_lines names server torn writes) → strike ≡ with_end tried.text → stops ≡ text_of (map stop_line (others server names))
    → AreCutUp (cut_pieces plan names place server torn writes) (Some (record { front = front; strike = strike; stops = stops }))
cut-made plan names place server torn writes name tried before front strike stops are fit named here b f k s =
    let p = cut_made plan names place server torn writes tried in
    let armed = fuse_lines names server torn writes in
    let is : cut_pieces plan names place server torn writes ≡ Some p =
    ap (λ o. o >>= λ name. slice_get plan.tried place >>= λ tried. Some (cut_made plan names place server torn writes tried)) named
    ∙ ap (λ o. o >>= λ tried. Some (cut_made plan names place server torn writes tried)) here in
    let front_is : front ≡ text_of (lines_before plan place ++ armed) = f ∙ ap (λ t. t ++ text_of armed) b ∙ sym (text-append (lines_before plan place) armed) in
    (p, is, texts_are front strike stops p (cut_whole plan names place server torn writes tried are fit here) front_is (k ∙ sym (one_text tried.text)) s)
  where
    one_text : (line : List ℕ) → text_of (line ∷ []) ≡ with_end line
    one_text line = flat_map-cons with_end line [] ∙ append-nil (with_end line)

pub gap-made : (plan : Sweep) (names : List Name) (place : ℕ) (front strike stops : List ℕ) → IsSweep plan → Fit names → place ≤ length plan.tried
    → front ≡ text_of (lines_before plan place) → strike ≡ [] → stops ≡ text_of (map stop_line names) → AreCutUp (gap_pieces plan names place) (Some (record { front = front; strike = strike; stops = stops }))
gap-made plan names place front strike stops are fit within f k s =
    let p = gap_made plan names place in
    let test : nat_le place (length plan.tried) ≡ true = grind (arith, nat_tests, within) in
    let is : gap_pieces plan names place ≡ Some p = ap (λ b. cond b (Some p) None) test in
    (p, is, texts_are front strike stops p (gap_whole plan names place are fit) f k s)

-- ---- joined they are the script

joined_text : (last : List (List ℕ)) (x : PieceTexts) (p : Pieces) → AreTexts x.front x.strike x.stops p → joined last x ≡ text_of (p.front ++ (p.strike ++ (p.stops ++ last)))
joined_text last x p are =
    append_assoc (x.front ++ x.strike) x.stops (text_of last)
    ∙ append_assoc x.front x.strike (x.stops ++ text_of last)
    ∙ (λ i. are.front_is.0 i ++ (are.strike_is.0 i ++ (are.stops_are.0 i ++ text_of last)))
    ∙ sym (text-append p.front (p.strike ++ (p.stops ++ last))
    ∙ ap (λ t. text_of p.front ++ t) (text-append p.strike (p.stops ++ last) ∙ ap (λ t. text_of p.strike ++ t) (text-append p.stops last)))

joined_lines : (plan : Sweep) (pieces : Option Pieces) (made : Option PieceTexts) → AreCutUp pieces made → option_map (joined plan.recovery) made ≡ option_map text_of (option_map (lines_in plan) pieces)
joined_lines plan pieces None none = sym (ap (λ o. option_map text_of (option_map (lines_in plan) o)) none)
joined_lines plan pieces (Some x) up = ap Some (joined_text plan.recovery x up.0 up.2) ∙ sym (ap (λ o. option_map text_of (option_map (lines_in plan) o)) up.1)

-- the script is the text of all these lines, and reads as them
pub record IsScript (script : Option (List ℕ)) (all : Option (List (List ℕ))) : Type 0 where
  pub text : script ≡ option_map text_of all
  pub reads : option_map lines script ≡ all

is_script : (plan : Sweep) (pieces : Option Pieces) (made : Option PieceTexts) (all : Option (List (List ℕ))) (script : Option (List ℕ)) (last : List (List ℕ)) → IsSweep plan → ((p : Pieces) → pieces ≡ Some p → AreWhole p)
    → option_map (lines_in plan) pieces ≡ all → last ≡ plan.recovery → AreCutUp pieces made → script ≡ option_map (joined last) made → IsScript script all
is_script plan pieces made all script last are whole these is up e =
    let text : script ≡ option_map text_of (option_map (lines_in plan) pieces) = e ∙ ap (λ ls. option_map (joined ls) made) is ∙ joined_lines plan pieces made up in
    record { text = text ∙ ap (option_map text_of) these; reads = ap (option_map lines) text ∙ lines_read plan pieces are whole ∙ these }

pub cut-joined : (plan : Sweep) (names : List Name) (place server : ℕ) (torn : Torn) (writes : List ℕ) (made : Option PieceTexts) (script : Option (List ℕ)) (last : List (List ℕ)) → IsSweep plan → Fit names
    → last ≡ plan.recovery → AreCutUp (cut_pieces plan names place server torn writes) made → script ≡ option_map (joined last) made → IsScript script (cut_lines plan names place server torn writes)
cut-joined plan names place server torn writes made script last are fit is up e =
    is_script plan (cut_pieces plan names place server torn writes) made (cut_lines plan names place server torn writes) script last are (cut_pieces_whole plan names place server torn writes are fit) (cut_lines_in plan names place server torn writes) is up e

pub gap-joined : (plan : Sweep) (names : List Name) (place : ℕ) (made : Option PieceTexts) (script : Option (List ℕ)) (last : List (List ℕ)) → IsSweep plan → Fit names
    → last ≡ plan.recovery → AreCutUp (gap_pieces plan names place) made → script ≡ option_map (joined last) made → IsScript script (gap_lines plan names place)
gap-joined plan names place made script last are fit is up e =
    is_script plan (gap_pieces plan names place) made (gap_lines plan names place) script last are (gap_pieces_whole plan names place are fit) (gap_lines_in plan names place) is up e
