-- Names that words say, one after another.
use Rattle.std.proofs.Common.{ℕ, suc, ◌≡◌, ◌<◌, ◌≤◌, ◌+◌, true, Bor, List, [], ◌∷◌, ◌++◌, map, drop, length, get_or, drop-cons, refl, ap, sym, ◌∙◌, arith, append_assoc, Option, Some, None}
use Rattle.std.proofs.Math.ListN.{drop_of_length-le}
use Rattle.std.proofs.lemmas.List.{append-nil}
use Rattle.std.specs.Option.{option_map}
use Rattle.dr_model.specs.declared.step.Name.{Name}
use Rattle.dr_model.specs.LineText.{name_fits}
use Rattle.dr_model.specs.LineWords.{◌>>=◌, name_word}
use Rattle.dr_script.proofs.WrittenWordLemmas.{name_said}
use Rattle.dr_plan.specs.Marks.{names_said}

-- names, and after them those that words say
abbrev pub after : List Name → List (List ℕ) → Option (List Name)
after names words = option_map (λ more. names ++ more) (names_said words)

name_bad : (names : List Name) (word : List ℕ) (rest : List (List ℕ)) → name_word word ≡ None → after names (word ∷ rest) ≡ None
unfolding names_said
name_bad names word rest h = ap (λ o. option_map (λ more. names ++ more) (o >>= λ name. names_said rest >>= λ read. Some (name ∷ read))) h

onto : (names : List Name) (name : Name) (read : Option (List Name)) → option_map (λ more. names ++ more) (read >>= λ read. Some (name ∷ read)) ≡ option_map (λ more. (names ++ name ∷ []) ++ more) read
onto names name None = refl
onto names name (Some read) = ap Some (sym (append_assoc names (name ∷ []) read))

name_more : (names : List Name) (name : Name) (word : List ℕ) (rest : List (List ℕ)) → name_word word ≡ Some name → after names (word ∷ rest) ≡ after (names ++ name ∷ []) rest
unfolding names_said
name_more names name word rest h = ap (λ o. option_map (λ more. names ++ more) (o >>= λ name. names_said rest >>= λ read. Some (name ∷ read))) h ∙ onto names name (names_said rest)

names_done : (names : List Name) → after names [] ≡ Some names
unfolding names_said
names_done names = ap Some (append-nil names)

pub word-next : (words : List (Bor (List ℕ))) (i : ℕ) (d : Bor (List ℕ)) → i < length words → map (λ word. word.now) (drop i words) ≡ (get_or words i d).now ∷ map (λ word. word.now) (drop (i + 1) words)
word-next words i d lt = ap (map (λ word. word.now)) (drop-cons words i d lt) ∙ (let e : suc i ≡ i + 1 = omega arith in ap (λ n. (get_or words i d).now ∷ map (λ word. word.now) (drop n words)) e)

-- the same of a list of words from a place on
pub word-bad : (names : List Name) (words : List (Bor (List ℕ))) (i : ℕ) (d : Bor (List ℕ)) (total : Option (List Name)) → i < length words → name_word (get_or words i d).now ≡ None
    → after names (map (λ word. word.now) (drop i words)) ≡ total → None ≡ total
word-bad names words i d total lt bad so_far = sym (ap (after names) (word-next words i d lt) ∙ name_bad names (get_or words i d).now (map (λ word. word.now) (drop (i + 1) words)) bad) ∙ so_far

pub word-more : (names new : List Name) (words : List (Bor (List ℕ))) (i : ℕ) (d : Bor (List ℕ)) (name : Name) (total : Option (List Name)) → i < length words → name_word (get_or words i d).now ≡ Some name → new ≡ names ++ name ∷ []
    → after names (map (λ word. word.now) (drop i words)) ≡ total → after new (map (λ word. word.now) (drop (i + 1) words)) ≡ total
word-more names new words i d name total lt is more so_far =
    ap (λ ns. after ns (map (λ word. word.now) (drop (i + 1) words))) more
    ∙ sym (ap (after names) (word-next words i d lt) ∙ name_more names name (get_or words i d).now (map (λ word. word.now) (drop (i + 1) words)) is) ∙ so_far

pub words-done : (names : List Name) (words : List (Bor (List ℕ))) (i : ℕ) (total : Option (List Name)) → length words ≤ i → after names (map (λ word. word.now) (drop i words)) ≡ total → Some names ≡ total
words-done names words i total past so_far = sym (ap (λ ws. after names (map (λ word. word.now) ws)) (drop_of_length-le words past) ∙ names_done names) ∙ so_far

pub word-fits : (words : List (Bor (List ℕ))) (i : ℕ) (d : Bor (List ℕ)) (name : Name) → name_word (get_or words i d).now ≡ Some name → name_fits name ≡ true
word-fits words i d name h = name_said (get_or words i d).now name h
