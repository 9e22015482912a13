-- The pieces of an image's text.
use Rattle.std.proofs.Common.{◌≡◌, ◌≢◌, ◌<◌, ◌+◌, ℕ, false, List, [], ◌∷◌, ◌++◌, length, map, take, drop, drop-cons, add-one, get_or, ap, sym, ◌∙◌, arith, append_assoc, nat_eq}
use Rattle.std.specs.Prelude.{codes}
use Rattle.std.specs.List.{flat_map}
use Rattle.std.proofs.lemmas.Bool.Decides.{nat_tests}
use Rattle.std.proofs.lemmas.List.{take_more}
use Rattle.dr_model.specs.LineText.{spaced}
use Rattle.dr_model.specs.PlantImage.{Volume, volume_line, block_lines, ended, image_text}
use Rattle.dr_image.specs.declared.held.Held.{Held}
use Rattle.dr_image.specs.Shown.{shown, all_shown}
use Rattle.dr_model.specs.Text.{trimmed}
use Rattle.dr_facts.proofs.Texts.{trimmed-zero, trimmed-kept, ended-append}

left_to_right : (t command a b c : List ℕ) → (((((((t ++ command) ++ codes " ") ++ a) ++ codes " ") ++ b) ++ codes " ") ++ c) ++ 10 ∷ []
    ≡ t ++ (command ++ (codes " " ++ (a ++ (codes " " ++ (b ++ (codes " " ++ (c ++ 10 ∷ [])))))))
left_to_right t command a b c = simp append_assoc

words_of_line : (a b c tail : List ℕ) → spaced (a ∷ b ∷ c ∷ []) ++ tail ≡ codes " " ++ (a ++ (codes " " ++ (b ++ (codes " " ++ (c ++ tail)))))
words_of_line a b c tail =
    ap (λ r. 32 ∷ r) (append_assoc a (spaced (b ∷ c ∷ [])) tail ∙ ap (λ r. a ++ 32 ∷ r) (append_assoc b (spaced (c ∷ [])) tail ∙ ap (λ r. b ++ 32 ∷ r) (append_assoc c [] tail)))

-- a line that is written word by word
pub line-written : (t t1 t2 t3 t4 t5 command a b c : List ℕ) → t1 ≡ t ++ command → t2 ≡ t1 ++ codes " " ++ a → t3 ≡ t2 ++ codes " " ++ b → t4 ≡ t3 ++ codes " " ++ c → t5 ≡ t4 ++ 10 ∷ []
    → t5 ≡ t ++ ended ((command ++ spaced (a ∷ b ∷ c ∷ [])) ∷ [])
line-written t t1 t2 t3 t4 t5 command a b c e1 e2 e3 e4 e5 =
    e5 ∙ ap (λ x. x ++ 10 ∷ []) (e4 ∙ ap (λ x. x ++ codes " " ++ c) (e3 ∙ ap (λ x. x ++ codes " " ++ b) (e2 ∙ ap (λ x. x ++ codes " " ++ a) e1)))
    ∙ left_to_right t command a b c ∙ ap (λ r. t ++ (command ++ r)) (sym (words_of_line a b c (10 ∷ []))) ∙ ap (λ r. t ++ r) (sym (append_assoc command (spaced (a ∷ b ∷ c ∷ [])) (10 ∷ [])))

pub trim-one : (bs : List ℕ) (n : ℕ) → n < length bs → get_or bs n 0 ≡ 0 → trimmed (take (n + 1) bs) ≡ trimmed (take n bs)
trim-one bs n lt z = ap trimmed (take_more bs n 0 lt ∙ ap (λ b. take n bs ++ b ∷ []) z) ∙ trimmed-zero (take n bs)

pub trim-none : (bs : List ℕ) (n : ℕ) → n < length bs → get_or bs n 0 ≢ 0 → trimmed (take (n + 1) bs) ≡ take (n + 1) bs
trim-none bs n lt ne =
    let last : nat_eq (get_or bs n 0) 0 ≡ false = grind (arith, nat_tests, ne) in
    ap trimmed (take_more bs n 0 lt) ∙ trimmed-kept (take n bs) (get_or bs n 0) last ∙ sym (take_more bs n 0 lt)

-- the blocks of one volume more
pub blocks-turn : (t : List ℕ) (hs : List Held) (i : ℕ) (h : Held) → i < length hs → h ≡ get_or hs i h
    → (t ++ ended (block_lines (shown h))) ++ ended (flat_map block_lines (all_shown (drop (i + 1) hs))) ≡ t ++ ended (flat_map block_lines (all_shown (drop i hs)))
blocks-turn t hs i h lt is =
    let rest : List (List ℕ) = flat_map block_lines (all_shown (drop (i + 1) hs)) in
    append_assoc t (ended (block_lines (shown h))) (ended rest) ∙ ap (λ r. t ++ r) (sym (ended-append (block_lines (shown h)) rest))
    ∙ ap (λ o. t ++ ended (block_lines (shown o) ++ rest)) is
    ∙ ap (λ n. t ++ ended (block_lines (shown (get_or hs i h)) ++ flat_map block_lines (all_shown (drop n hs)))) (add-one i)
    ∙ ap (λ xs. t ++ ended (flat_map block_lines (all_shown xs))) (sym (drop-cons hs i h lt))

-- the parts of an image's text
pub image-parts : (vs : List Volume) → (((codes "image 1" ++ 10 ∷ []) ++ ended (map volume_line vs)) ++ ended (flat_map block_lines vs)) ++ (codes "end" ++ 10 ∷ []) ≡ image_text vs
unfolding image_text
image-parts vs =
    let first : List (List ℕ) = codes "image 1" ∷ map volume_line vs in
    let blocks : List (List ℕ) = flat_map block_lines vs in
    sym (ended-append (first ++ blocks) (codes "end" ∷ []) ∙ ap (λ x. x ++ ended (codes "end" ∷ [])) (ended-append first blocks))
