use Rattle.std.proofs.Common.{◌≡◌, ◌++◌, ◌∷◌, [], List, ℕ, map, ap, ◌∙◌}
use Rattle.std.specs.Prelude.{codes}
use Rattle.std.specs.List.{flat_map}
use Rattle.dr_model.specs.PlantImage.{Volume, volume_line, block_lines, ended, image_text}
use Rattle.dr_image.specs.declared.held.Held.{Held}
use Rattle.dr_image.specs.Shown.{all_shown}
use Rattle.dr_image.proofs.TextLemmas.{image-parts}
use Rattle.dr_image.proofs.writer.write_whole.Goals as goal

-- the text, call by call
written : (hs seen1 seen2 : List Held) (vs : List Volume) (t0 t1 t2 t3 t4 : List ℕ) → seen1 ≡ hs → seen2 ≡ hs → all_shown hs ≡ vs → t0 ≡ [] → t1 ≡ t0 ++ (codes "image 1" ++ 10 ∷ []) → t2 ≡ t1 ++ ended (map volume_line (all_shown seen1))
    → t3 ≡ t2 ++ ended (flat_map block_lines (all_shown seen2)) → t4 ≡ t3 ++ (codes "end" ++ 10 ∷ []) → t4 ≡ image_text vs
written hs seen1 seen2 vs t0 t1 t2 t3 t4 s1 s2 shows e0 e1 e2 e3 e4 =
    e4 ∙ ap (λ t. t ++ (codes "end" ++ 10 ∷ []))
    (e3 ∙ ap (λ xs. t2 ++ ended (flat_map block_lines (all_shown xs))) s2 ∙ ap (λ ws. t2 ++ ended (flat_map block_lines ws)) shows
    ∙ ap (λ t. t ++ ended (flat_map block_lines vs))
    (e2 ∙ ap (λ xs. t1 ++ ended (map volume_line (all_shown xs))) s1 ∙ ap (λ ws. t1 ++ ended (map volume_line ws)) shows ∙ ap (λ t. t ++ ended (map volume_line vs)) (e1 ∙ ap (λ t. t ++ (codes "image 1" ++ 10 ∷ [])) e0)))
    ∙ image-parts vs

pub returns-clause-text : goal.returns-clause-text
returns-clause-text c =
    written c.i.inside.volumes.items c.as_slice-volumes.result.now c.as_slice-volumes.result.now c.args.i.now _ _ _ _ _ c.as_slice-volumes.ensures.value c.as_slice-volumes.ensures.value c.i.view_is
    c.new-text.ensures c.in_ok-append.ensures.ok c.in_ok-push_volumes.ensures c.in_ok-push_all_blocks.ensures c.in_ok-append-2.ensures.ok
