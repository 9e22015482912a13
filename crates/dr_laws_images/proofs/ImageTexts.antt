-- What the events of an image print. Read `image-printed`: the text of an image's events is the text of the image.
use Rattle.std.proofs.Common.{ℕ, ◌≡◌, List, [], ◌∷◌, ◌++◌, map, refl, ap, ◌∙◌, append_assoc}
use Rattle.std.specs.Prelude.{codes}
use Rattle.std.specs.List.{flat_map}
use Rattle.dr_model.specs.declared.event.Event.{Event}
use Rattle.dr_model.specs.declared.event.Event.TheVariants.{ImageStart, ImageBlock, ImageEnd}
use Rattle.dr_model.specs.PlantImage.{Kept, Volume, volume_line, block_line, block_lines, ended, image_lines, image_text}
use Rattle.dr_model.specs.Runs.{volume_told, blocks_told, image_told}
use Rattle.dr_model.specs.Text.{Heard, heard, line_text, text_from}

-- an event prints this line, whatever was told before
abbrev Prints : Event → List ℕ → Type 0
Prints e line = (told : Heard) → line_text told e ≡ line ++ 10 ∷ []

-- events print these lines, one each
abbrev PrintEach : List Event → List (List ℕ) → Type 0
PrintEach [] [] = Unit {0}
PrintEach (e ∷ es) (line ∷ lines) = Prints e line × PrintEach es lines
PrintEach _ _ = ⊥

print-each : (told : Heard) (es : List Event) (lines : List (List ℕ)) → PrintEach es lines → text_from told es ≡ ended lines
print-each told [] [] each = refl
print-each told [] (line ∷ lines) each = absurd each
print-each told (e ∷ es) [] each = absurd each
print-each told (e ∷ es) (line ∷ lines) each =
    ap (λ t. t ++ text_from (heard told e) es) (each.0 told) ∙ append_assoc line (10 ∷ []) (text_from (heard told e) es)
    ∙ ap (λ t. line ++ 10 ∷ t) (print-each (heard told e) es lines each.1)

print-both : (a b : List Event) (ls ms : List (List ℕ)) → PrintEach a ls → PrintEach b ms → PrintEach (a ++ b) (ls ++ ms)
print-both [] b [] ms each other = other
print-both [] b (l ∷ ls) ms each other = absurd each
print-both (e ∷ a) b [] ms each other = absurd each
print-both (e ∷ a) b (l ∷ ls) ms each other = (each.0, print-both a b ls ms each.1 other)

volume-printed : (v : Volume) → Prints (volume_told v) (volume_line v)
unfolding volume_line
volume-printed v told = refl

block-printed : (n : ℕ) (b : Kept) → Prints (ImageBlock n b.index b.bytes) (block_line n b)
unfolding block_line
block-printed n b told = refl

volumes-printed : (vs : List Volume) → PrintEach (map volume_told vs) (map volume_line vs)
volumes-printed [] = tt
volumes-printed (v ∷ vs) = (volume-printed v, volumes-printed vs)

kept-printed : (n : ℕ) (bs : List Kept) → PrintEach (map (λ b. ImageBlock n b.index b.bytes) bs) (map (block_line n) bs)
kept-printed n [] = tt
kept-printed n (b ∷ bs) = (block-printed n b, kept-printed n bs)

blocks-printed : (vs : List Volume) → PrintEach (flat_map blocks_told vs) (flat_map block_lines vs)
blocks-printed [] = tt
blocks-printed (v ∷ vs) = print-both (blocks_told v) (flat_map blocks_told vs) (block_lines v) (flat_map block_lines vs) (kept-printed v.volume v.blocks) (blocks-printed vs)

lines-printed : (vs : List Volume) → PrintEach (image_told vs) (image_lines vs)
lines-printed vs =
    let front : List Event = ImageStart ∷ map volume_told vs in
    let lines : List (List ℕ) = codes "image 1" ∷ map volume_line vs in
    print-both (front ++ flat_map blocks_told vs) (ImageEnd ∷ []) (lines ++ flat_map block_lines vs) (codes "end" ∷ [])
    (print-both front (flat_map blocks_told vs) lines (flat_map block_lines vs) ((λ told. refl), volumes-printed vs) (blocks-printed vs))
    ((λ told. refl), tt)

-- the text of an image's events is the text of the image, whatever was told before
pub image-printed : (told : Heard) (vs : List Volume) → text_from told (image_told vs) ≡ image_text vs
unfolding image_text
image-printed told vs = print-each told (image_told vs) (image_lines vs) (lines-printed vs)
