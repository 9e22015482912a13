-- The names of a plan's disasters are names that words say.
use Rattle.std.proofs.Common.{ℕ, ◌≡◌, Bool, true, false, cond, List, [], ◌∷◌, ◌++◌, get_or, map, refl, subst, arith, Option, Some, None}
use Rattle.std.specs.Prelude.{All, codes, filter}
use Rattle.std.specs.Option.{option_map}
use Rattle.std.specs.Str.{bytes_eq}
use Rattle.std.proofs.lemmas.List.Elements.{All-nil, All-cons, All-drop, All-map, All-filter}
use Rattle.std.proofs.lemmas.Option.{same_Some}
use Rattle.dr_facts.proofs.Options.{bound}
use Rattle.dr_model.specs.declared.grammar.Span.{Span}
use Rattle.dr_model.specs.declared.step.Name.{Name}
use Rattle.dr_model.specs.LineText.{name_fits}
use Rattle.dr_model.specs.LineWords.{◌>>=◌, name_word, span_word, decimal_word}
use Rattle.dr_script.proofs.WrittenWordLemmas.{name_said}
use Rattle.dr_plan.specs.declared.marks.Mark.{Mark}
use Rattle.dr_plan.specs.declared.marks.Mark.TheVariants.{Lose, Use, AtMost, Here, Then, Refused}
use Rattle.dr_plan.specs.Marks.{is_mark, mark_of, mark_in, mark_said, lose_said, use_said, bound_said, ranges_said, alone, names_said, words}
use Rattle.dr_plan.specs.Parts.{is_structural, marks_in}

-- each name is one that a word says
abbrev pub Fit : List Name → Type 0
Fit names = All (λ name. name_fits name ≡ true) names

names_fit : (ws : List (List ℕ)) (names : List Name) → names_said ws ≡ Some names → Fit names
unfolding names_said
names_fit [] names h = subst Fit (same_Some [] names h) (All-nil (λ name. name_fits name ≡ true))
names_fit (word ∷ rest) names h =
    let first = bound (name_word word) (λ name. names_said rest >>= λ more. Some (name ∷ more)) names h in
    let others = bound (names_said rest) (λ more. Some (first.0 ∷ more)) names first.2 in
    subst Fit (same_Some (first.0 ∷ others.0) names others.2) (All-cons (λ name. name_fits name ≡ true) first.0 others.0 (name_said word first.0 first.1) (names_fit rest others.0 others.1))

-- what a line of the plan's own says names servers by names
abbrev MarkFits : Option Mark → Type 0
MarkFits (Some (Lose names)) = Fit names
MarkFits _ = Unit {0}

lose_fits : (ws : List (List ℕ)) → MarkFits (lose_said ws)
lose_fits [] = tt
lose_fits (word ∷ rest) = by (names_said (word ∷ rest)) refl
  where
    by : (names : Option (List Name)) → names_said (word ∷ rest) ≡ names → MarkFits (option_map Lose names)
    by None e = tt
    by (Some names) e = names_fit (word ∷ rest) names e

ranges_fit : (name : Option Name) (first between second : List ℕ) → MarkFits (ranges_said name first between second)
ranges_fit name first between second = by (bytes_eq between (codes "for")) (span_word first) (span_word second)
  where
    by : (b : Bool) (x y : Option Span) → MarkFits (cond b (x >>= λ a. y >>= λ b. Some (Use name a b)) None)
    by false x y = tt
    by true None y = tt
    by true (Some a) None = tt
    by true (Some a) (Some b) = tt

named_fit : (name : Option Name) (first between second : List ℕ) → MarkFits (name >>= λ name. ranges_said (Some name) first between second)
named_fit None first between second = tt
named_fit (Some name) first between second = ranges_fit (Some name) first between second

use_fits : (ws : List (List ℕ)) → MarkFits (use_said ws)
use_fits [] = tt
use_fits (a ∷ []) = tt
use_fits (a ∷ b ∷ []) = tt
use_fits (a ∷ b ∷ c ∷ []) = ranges_fit None a b c
use_fits (a ∷ b ∷ c ∷ d ∷ []) = named_fit (name_word a) b c d
use_fits (a ∷ b ∷ c ∷ d ∷ e ∷ more) = tt

bound_fits : (ws : List (List ℕ)) → MarkFits (bound_said ws)
bound_fits [] = tt
bound_fits (a ∷ []) = tt
bound_fits (most ∷ number ∷ []) = by (bytes_eq most (codes "most")) (decimal_word number)
  where
    by : (b : Bool) (n : Option ℕ) → MarkFits (cond b (option_map AtMost n) None)
    by false n = tt
    by true None = tt
    by true (Some n) = tt
bound_fits (a ∷ b ∷ c ∷ more) = tt

alone_fits : (mark : Mark) (ws : List (List ℕ)) → MarkFits (Some mark) → MarkFits (alone mark ws)
alone_fits mark [] fits = fits
alone_fits mark (word ∷ rest) fits = tt

said_fits : (ws : List (List ℕ)) → MarkFits (mark_said ws)
said_fits [] = tt
said_fits (word ∷ rest) = by (bytes_eq word (codes "lose")) (bytes_eq word (codes "use")) (bytes_eq word (codes "at")) (bytes_eq word (codes "here")) (bytes_eq word (codes "then")) (bytes_eq word (codes "refused"))
  where
    by : (a b c d e f : Bool)
        → MarkFits (cond a (lose_said rest) (cond b (use_said rest) (cond c (bound_said rest) (cond d (alone Here rest) (cond e (alone Then rest) (cond f (alone Refused rest) None))))))
    by true b c d e f = lose_fits rest
    by false true c d e f = use_fits rest
    by false false true d e f = bound_fits rest
    by false false false true e f = alone_fits Here rest tt
    by false false false false true f = alone_fits Then rest tt
    by false false false false false true = alone_fits Refused rest tt
    by false false false false false false = tt

words_fit : (ws : List (List ℕ)) → MarkFits (mark_in ws)
words_fit [] = tt
words_fit (word ∷ rest) = by (bytes_eq word (codes "#sweep"))
  where
    by : (b : Bool) → MarkFits (cond b (mark_said rest) None)
    by true = said_fits rest
    by false = tt

mark_fits : (line : List ℕ) → MarkFits (mark_of line)
unfolding mark_of
mark_fits line = words_fit (words line)

marks_fit : (lines : List (List ℕ)) → All MarkFits (marks_in lines)
marks_fit lines =
    let own = filter is_mark lines in
    All-filter is_structural MarkFits (map mark_of own) (All-map MarkFits mark_of own (λ i d lt. mark_fits (get_or own i d)))

-- the disasters that marks begin with
first_fit : (loses : List (List Name)) (more : List Mark) → All MarkFits (map Some (map Lose loses ++ more)) → All Fit loses
first_fit [] more all = All-nil Fit
first_fit (names ∷ loses) more all =
    All-cons Fit names loses (all 0 (Some (Lose names)) (omega arith)) (first_fit loses more (All-drop MarkFits 1 (map Some (map Lose (names ∷ loses) ++ more)) all))

pub loses-fit : (lines : List (List ℕ)) (loses : List (List Name)) (more : List Mark) → marks_in lines ≡ map Some (map Lose loses ++ more) → All Fit loses
loses-fit lines loses more are = first_fit loses more (subst (All MarkFits) are (marks_fit lines))
