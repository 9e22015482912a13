-- The sources of relationships.
use Rattle.std.proofs.Common.{◌≡◌, ℕ, not, ◌||◌, List, ap, sym, ◌∙◌, Some}
use Rattle.std.specs.List.{list_any}
use Rattle.dr_model.specs.Layout.{Fields, fields}
use Rattle.dr_model.specs.PlantImage.{Volume, device_blocks, is_source_of, has_source}
use Rattle.dr_image.specs.Sources.{source_seen}
use Rattle.dr_logic.proofs.Choices.{chosen}

-- a relationship whose source is seen
pub has_source-some : (vs : List Volume) (v : Volume) (s : ℕ) → Some s ≡ source_seen v → has_source vs v ≡ list_any (is_source_of v s) vs
unfolding has_source
has_source-some vs v s seen =
    let f : Fields = fields v.tracks (device_blocks v) in
    let is = chosen f.related f.source s (sym seen) in
    ap (λ b. not b || list_any (is_source_of v f.source) vs) is.0 ∙ ap (λ n. list_any (is_source_of v n) vs) is.1
