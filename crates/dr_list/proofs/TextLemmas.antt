-- Laws of the printed text.
use Rattle.std.proofs.Common.{ℕ, zero, suc, ◌≡◌, ◌<◌, ◌≤◌, ◌+◌, ◌-◌, List, [], ◌∷◌, ◌++◌, length, get_or, take, refl, ap, ◌∙◌, sym, false, arith, nat_eq, drop, replicate, append_assoc, append-nil}
use Rattle.std.proofs.lemmas.Grind.{common_steps}
use Rattle.std.proofs.lemmas.List.{take_more, take_rest}
use Rattle.std.specs.Prelude.{codes, slice_get, slice_index_or, Option, None}
use Rattle.std.specs.List.{fold}
use Rattle.dr_model.specs.declared.event.Event.{Event}
use Rattle.dr_model.specs.declared.step.Name.{Name}
use Rattle.dr_model.specs.Text.{Heard, heard, text_from, trimmed, before_trimmed}
use Rattle.dr_list.specs.At.{heard_at, line_told}
use Rattle.dr_list.specs.Seen.{name_of, names_of}
use Rattle.dr_facts.proofs.Texts.{trimmed-zero, trimmed-kept}

trimmed-push : (x b : ℕ) (xs : List ℕ) → before_trimmed x (xs ++ b ∷ []) ≡ x ∷ (xs ++ b ∷ [])
trimmed-push x b [] = refl
trimmed-push x b (y ∷ ys) = refl

last_of : (xs : List ℕ) (len : ℕ) → 0 < len → len ≤ length xs → take len xs ≡ take (len - 1) xs ++ get_or xs (len - 1) 0 ∷ []
last_of xs len some within =
    let e : len ≡ (len - 1) + 1 = omega arith in
    ap (λ n. take n xs) e ∙ take_more xs (len - 1) 0 (omega arith)

-- one zero less at the end
pub trimmed-shorter : (xs : List ℕ) (len : ℕ) → 0 < len → len ≤ length xs → get_or xs (len - 1) 0 ≡ 0 → trimmed (take (len - 1) xs) ≡ trimmed (take len xs)
trimmed-shorter xs len some within is =
    sym (ap trimmed (last_of xs len some within) ∙ ap (λ b. trimmed (take (len - 1) xs ++ b ∷ [])) is ∙ trimmed-zero (take (len - 1) xs))

-- no zero at the end
pub trimmed-whole : (xs : List ℕ) (len : ℕ) → 0 < len → len ≤ length xs → nat_eq (get_or xs (len - 1) 0) 0 ≡ false → take len xs ≡ trimmed (take len xs)
trimmed-whole xs len some within is =
    last_of xs len some within ∙ sym (ap trimmed (last_of xs len some within) ∙ trimmed-kept (take (len - 1) xs) (get_or xs (len - 1) 0) is)

-- so many zeros at the end
zeros-trimmed : (xs : List ℕ) (n : ℕ) → trimmed (xs ++ replicate n 0) ≡ trimmed xs
zeros-trimmed xs zero = ap trimmed (append-nil xs)
zeros-trimmed xs (suc n) =
    ap trimmed (sym (append_assoc xs (0 ∷ []) (replicate n 0))) ∙ zeros-trimmed (xs ++ 0 ∷ []) n ∙ trimmed-zero xs

front_shorter : (xs : List ℕ) (len n : ℕ) → len ≤ length xs → take (length (take len xs) - n) (take len xs) ≡ take (len - n) xs
front_shorter xs len n within = grind (arith, common_steps)

-- so many zeros less at the end
pub trimmed-fewer : (xs : List ℕ) (len n : ℕ) → len ≤ length xs → take len xs ≡ take (length (take len xs) - n) (take len xs) ++ replicate n 0
    → trimmed (take (len - n) xs) ≡ trimmed (take len xs)
trimmed-fewer xs len n within is =
    sym (ap trimmed (is ∙ ap (λ front. front ++ replicate n 0) (front_shorter xs len n within)) ∙ zeros-trimmed (take (len - n) xs) n)

-- the rest of the text from an event on
text_next : (es : List Event) (i : ℕ) (told : Heard) → text_from told (drop i es) ≡ line_told told (slice_get es i) ++ text_from (heard_at told (slice_get es i)) (drop (suc i) es)
text_next [] zero told = refl
text_next [] (suc i) told = refl
text_next (e ∷ es) zero told = refl
text_next (e ∷ es) (suc i) told = text_next es i told

pub text-event : (es : List Event) (i : ℕ) (told : Heard) → text_from told (drop i es) ≡ line_told told (slice_get es i) ++ text_from (heard_at told (slice_get es i)) (drop (i + 1) es)
text-event es i told = text_next es i told ∙ ap (λ n. line_told told (slice_get es i) ++ text_from (heard_at told (slice_get es i)) (drop n es)) (let e : suc i ≡ i + 1 = omega arith in e)

-- what so many events tell, from an event on
heard_next : (es : List Event) (i n : ℕ) (told : Heard) → fold heard told (take (suc n) (drop i es)) ≡ fold heard (heard_at told (slice_get es i)) (take n (drop (suc i) es))
heard_next [] zero zero told = refl
heard_next [] zero (suc n) told = refl
heard_next [] (suc i) zero told = refl
heard_next [] (suc i) (suc n) told = refl
heard_next (e ∷ es) zero n told = refl
heard_next (e ∷ es) (suc i) n told = heard_next es i n told

pub heard-event : (es : List Event) (i to : ℕ) (told : Heard) → i < to
    → fold heard told (take (to - i) (drop i es)) ≡ fold heard (heard_at told (slice_get es i)) (take (to - (i + 1)) (drop (i + 1) es))
heard-event es i to told lt =
    ap (λ n. fold heard told (take n (drop i es))) (let e : to - i ≡ suc (to - (i + 1)) = omega arith in e)
    ∙ heard_next es i (to - (i + 1)) told
    ∙ ap (λ n. fold heard (heard_at told (slice_get es i)) (take (to - (i + 1)) (drop n es))) (let e : suc i ≡ i + 1 = omega arith in e)

-- the same of all that are left
pub heard-last : (es : List Event) (i : ℕ) (told : Heard) → i < length es
    → fold heard told (drop i es) ≡ fold heard (heard_at told (slice_get es i)) (drop (i + 1) es)
heard-last es i told lt =
    ap (fold heard told) (sym (take_rest es i)) ∙ heard-event es i (length es) told lt ∙ ap (fold heard (heard_at told (slice_get es i))) (take_rest es (i + 1))

-- a table of no names
same_at : (entry : Option Name) (n s : ℕ) → slice_index_or (replicate n entry) s entry ≡ entry
same_at entry n s = grind (arith, common_steps)

pub none-named : (n s : ℕ) → names_of (replicate n None) s ≡ None
none-named n s = ap name_of (same_at None n s)

flash_parts : (t a b sequence previous word flags own : List ℕ)
    → a ++ codes ":" ++ b ++ (codes " " ++ sequence ++ (codes " " ++ previous ++ (codes " " ++ word ++ codes " " ++ flags ++ codes " " ++ own ++ t)))
    ≡ (a ++ codes ":" ++ b ++ codes " " ++ sequence ++ codes " " ++ previous ++ codes " " ++ word ++ codes " " ++ flags ++ codes " " ++ own) ++ t
flash_parts t a b sequence previous word flags own = simp append_assoc

-- a relationship that is put together from its end
pub flash-written : (t t1 t2 t3 t4 a b sequence previous word flags own : List ℕ) → t1 ≡ codes " " ++ word ++ codes " " ++ flags ++ codes " " ++ own ++ t
    → t2 ≡ codes " " ++ previous ++ t1 → t3 ≡ codes " " ++ sequence ++ t2 → t4 ≡ a ++ codes ":" ++ b ++ t3
    → t4 ≡ (a ++ codes ":" ++ b ++ codes " " ++ sequence ++ codes " " ++ previous ++ codes " " ++ word ++ codes " " ++ flags ++ codes " " ++ own) ++ t
flash-written t t1 t2 t3 t4 a b sequence previous word flags own e1 e2 e3 e4 =
    e4 ∙ ap (λ x. a ++ codes ":" ++ b ++ x) (e3 ∙ ap (λ x. codes " " ++ sequence ++ x) (e2 ∙ ap (λ x. codes " " ++ previous ++ x) e1))
    ∙ flash_parts t a b sequence previous word flags own
