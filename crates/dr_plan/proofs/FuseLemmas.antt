-- The lines that arm fuses, one after another.
use Rattle.std.proofs.Common.{ℕ, ◌≡◌, ◌<◌, ◌≤◌, ◌+◌, List, [], ◌∷◌, ◌++◌, drop, length, get_or, map, ap, sym, ◌∙◌, append_assoc}
use Rattle.std.proofs.Math.ListN.{drop_of_length-le}
use Rattle.std.proofs.lemmas.List.{append-nil, drop_more}
use Rattle.std.proofs.lemmas.List.Concat.{flat_map-cons}
use Rattle.dr_model.specs.declared.step.Name.{Name}
use Rattle.dr_model.specs.declared.step.Step.TheVariants.{StopAfter}
use Rattle.dr_model.specs.LineText.{step_text}
use Rattle.dr_plan.specs.declared.points.Torn.{Torn}
use Rattle.dr_plan.specs.Points.{count_at, torn_at, torn_word, fuses, text_of, with_end}

-- the text of the fuses from a place on
abbrev pub fuses_from : List Name → ℕ → Torn → List ℕ → ℕ → List ℕ
fuses_from names server torn writes place = text_of (map step_text (fuses server torn writes place (drop place names)))

-- that of the one at a place
abbrev pub fuse_text : Name → ℕ → Torn → List ℕ → ℕ → List ℕ
fuse_text name server torn writes place = with_end (step_text (StopAfter name (count_at writes place) (torn_word (torn_at server torn place))))

first_fuse : (names : List Name) (server : ℕ) (torn : Torn) (writes : List ℕ) (place : ℕ) (d : Name) → place < length names
    → fuses_from names server torn writes place ≡ fuse_text (get_or names place d) server torn writes place ++ fuses_from names server torn writes (place + 1)
first_fuse names server torn writes place d lt =
    ap (λ ns. text_of (map step_text (fuses server torn writes place ns))) (drop_more names place d lt)
    ∙ flat_map-cons with_end (step_text (StopAfter (get_or names place d) (count_at writes place) (torn_word (torn_at server torn place)))) (map step_text (fuses server torn writes (place + 1) (drop (place + 1) names)))

-- one more was added
pub fuse-more : (names : List Name) (server : ℕ) (torn : Torn) (writes : List ℕ) (place : ℕ) (d : Name) (text new all : List ℕ) → place < length names → text ++ fuses_from names server torn writes place ≡ all
    → new ≡ text ++ fuse_text (get_or names place d) server torn writes place → new ++ fuses_from names server torn writes (place + 1) ≡ all
fuse-more names server torn writes place d text new all lt so_far more =
    ap (λ t. t ++ fuses_from names server torn writes (place + 1)) more
    ∙ append_assoc text (fuse_text (get_or names place d) server torn writes place) (fuses_from names server torn writes (place + 1))
    ∙ ap (λ t. text ++ t) (sym (first_fuse names server torn writes place d lt))
    ∙ so_far

-- none is left
pub fuses-done : (names : List Name) (server : ℕ) (torn : Torn) (writes : List ℕ) (place : ℕ) (text all : List ℕ) → length names ≤ place → text ++ fuses_from names server torn writes place ≡ all → text ≡ all
fuses-done names server torn writes place text all past so_far =
    sym (append-nil text) ∙ ap (λ ns. text ++ text_of (map step_text (fuses server torn writes place ns))) (sym (drop_of_length-le names past)) ∙ so_far
