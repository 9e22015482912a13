-- Items that are added one after another.
use Rattle.std.proofs.Common.{ℕ, suc, ◌≡◌, ◌<◌, ◌≤◌, ◌+◌, ◌-◌, List, [], ◌∷◌, ◌++◌, take, drop, length, refl, ap, ◌∙◌, sym, arith, append_assoc, Option, Some, None, Bool, true, false, nat_lt}
use Rattle.std.proofs.lemmas.Grind.{common_steps}
use Rattle.std.proofs.lemmas.Bool.Decides.{nat_tests}
use Rattle.std.proofs.lemmas.List.Splits.{slice_split_first}
use Rattle.std.specs.List.{position_or_len, slice_split}
use Rattle.dr_model.specs.declared.grammar.Item.{Item}
use Rattle.dr_model.specs.declared.grammar.Span.{Span}
use Rattle.dr_model.specs.LineWords.{◌>>=◌, items_from, paired, span_len, range_items, ranges_items, list_items, is_comma, mark_at, onto}
use Rattle.dr_script.specs.Pieces.{kept}
use Rattle.dr_logic.proofs.Choices.{not_chosen, chosen}
use Rattle.dr_logic.proofs.Lists.{uncut}

item : ℕ → ℕ → Item
item x y = record { first = x; second = y }

next_item : (a b k n : ℕ) → k < n → items_from (a + k) (b + k) (n - k) ≡ item (a + k) (b + k) ∷ items_from (a + (k + 1)) (b + (k + 1)) (n - (k + 1))
unfolding item
next_item a b k n lt =
    ap (items_from (a + k) (b + k)) (let e : n - k ≡ suc (n - (k + 1)) = omega arith in e)
    ∙ (λ i. item (a + k) (b + k) ∷ items_from ((let e : a + k + 1 ≡ a + (k + 1) = omega arith in e) i) ((let e : b + k + 1 ≡ b + (k + 1) = omega arith in e) i) (n - (k + 1)))

-- one item more
pub item_more : (items new total : List Item) (a b k n x y : ℕ) → k < n → x ≡ a + k → y ≡ b + k → new ≡ items ++ record { first = x; second = y } ∷ []
    → items ++ items_from (a + k) (b + k) (n - k) ≡ total → new ++ items_from (a + (k + 1)) (b + (k + 1)) (n - (k + 1)) ≡ total
unfolding item
item_more items new total a b k n x y lt ex ey is so_far =
    ap (λ xs. xs ++ items_from (a + (k + 1)) (b + (k + 1)) (n - (k + 1))) (is ∙ (λ i. items ++ item (ex i) (ey i) ∷ []))
    ∙ append_assoc items (item (a + k) (b + k) ∷ []) (items_from (a + (k + 1)) (b + (k + 1)) (n - (k + 1)))
    ∙ ap (λ xs. items ++ xs) (sym (next_item a b k n lt)) ∙ so_far

pub all_items : (items old : List Item) (a b : Span) (k : ℕ) → span_len a ≤ k → items ++ items_from (a.low + k) (b.low + k) (span_len a - k) ≡ old ++ items_from a.low b.low (span_len a) → items ≡ old ++ paired a b
unfolding paired
all_items items old a b k le so_far =
    sym (ap (λ xs. items ++ xs) (ap (items_from (a.low + k) (b.low + k)) (let e : span_len a - k ≡ 0 = omega arith in e)) ∙ (let n : items ++ [] ≡ items = grind (arith, common_steps) in n)) ∙ so_far

-- a list is cut at its first comma
pub list_cut : (word : List ℕ) (i : ℕ) → mark_at 44 word ≡ Some i → list_items word ≡ (range_items (take i word) >>= λ items. list_items (drop (i + 1) word) >>= λ more. Some (items ++ more))
unfolding ranges_items
list_cut word i h =
    let at = chosen (nat_lt (position_or_len is_comma word) (length word)) (position_or_len is_comma word) i h in
    let within = at.0 in
    ap ranges_items (slice_split_first is_comma word 0 (grind (arith, nat_tests, within)) ∙ ap (λ n. take n word ∷ slice_split is_comma (drop (n + 1) word)) at.1)

pub list_uncut : (word : List ℕ) → mark_at 44 word ≡ None → list_items word ≡ (range_items word >>= λ items. Some (items ++ []))
unfolding ranges_items
list_uncut word h =
    let past = not_chosen (nat_lt (position_or_len is_comma word) (length word)) (position_or_len is_comma word) h in
    ap ranges_items (uncut is_comma word (grind (arith, nat_tests, past)))

refused : (old : List Item) (front : Option (List Item)) (rest : Option (List Item)) → onto old front ≡ None → onto old (front >>= λ items. rest >>= λ more. Some (items ++ more)) ≡ None
refused old None rest h = refl
refused old (Some items) rest h = cc

taken : (old new : List Item) (front rest : Option (List Item)) → onto old front ≡ Some new → onto old (front >>= λ items. rest >>= λ more. Some (items ++ more)) ≡ onto new rest
taken old new None rest h = cc
taken old new (Some items) None h = refl
taken old new (Some items) (Some more) h = let e : old ++ items ≡ new = cc in ap Some (sym (append_assoc old items more) ∙ ap (λ xs. xs ++ more) e)

last : (old : List Item) (front : Option (List Item)) → onto old (front >>= λ items. Some (items ++ [])) ≡ onto old front
last old None = refl
last old (Some items) = ap (λ xs. Some (old ++ xs)) (let n : items ++ [] ≡ items = grind (arith, common_steps) in n)

pub list_refused : (old new : List Item) (word : List ℕ) (i : ℕ) → mark_at 44 word ≡ Some i → onto old (range_items (take i word)) ≡ kept false new → onto old (list_items word) ≡ None
list_refused old new word i at front = ap (onto old) (list_cut word i at) ∙ refused old (range_items (take i word)) (list_items (drop (i + 1) word)) front

pub list_goes_on : (old new : List Item) (word : List ℕ) (i : ℕ) → mark_at 44 word ≡ Some i → onto old (range_items (take i word)) ≡ kept true new → onto old (list_items word) ≡ onto new (list_items (drop (i + 1) word))
list_goes_on old new word i at front = ap (onto old) (list_cut word i at) ∙ taken old new (range_items (take i word)) (list_items (drop (i + 1) word)) front

pub list_ends : (old new : List Item) (word : List ℕ) (stands : Bool) → mark_at 44 word ≡ None → onto old (range_items word) ≡ kept stands new → onto old (list_items word) ≡ kept stands new
list_ends old new word stands at front = ap (onto old) (list_uncut word at) ∙ last old (range_items word) ∙ front
