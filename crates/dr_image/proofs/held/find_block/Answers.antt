use Rattle.std.proofs.Common.{ap, sym, ◌∙◌, option_map}
use Rattle.std.specs.List.{slice_get}
use Rattle.std.proofs.lemmas.Option.{slice_get-map}
use Rattle.dr_image.specs.Shown.{all_kept, bytes_of, kept}
use Rattle.dr_image.proofs.PlaceLemmas.{placed-block}
use Rattle.dr_image.proofs.held.find_block.Goals as goal

pub returns : goal.returns
returns c =
    let k = c.args.index in
    let bs = c.args.blocks.now in
    c.bytes_of.ensures ∙ ap (λ o. bytes_of (option_map kept o) k) (c.kept_at.ensures ∙ ap (slice_get bs) c.place_from.ensures)
    ∙ ap (λ o. bytes_of o k) (sym (slice_get-map kept bs _)) ∙ sym (placed-block k (all_kept bs) c.requires)
