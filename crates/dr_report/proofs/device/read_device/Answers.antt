use Rattle.std.proofs.Common.{List, ℕ, length, map, ap, ◌∙◌}
use Rattle.std.specs.Prelude.{is_some}
use Rattle.std.specs.List.{range_with_len}
use Rattle.std.proofs.lemmas.List.FromFn.{length-map-range_with_len}
use Rattle.dr_logic.specs.Bytes.{zeros}
use Rattle.dr_image.specs.Shown.{block_at}
use Rattle.dr_model.specs.Layout as layout
use Rattle.dr_volume.specs.Record.{listed}
use Rattle.dr_report.proofs.Same.{read-known}
use Rattle.dr_report.proofs.device.read_device.Goals as goal

pub from_blocks-fields-requires-clause-sized : goal.from_blocks-fields-requires-clause-sized
from_blocks-fields-requires-clause-sized c =
    ap length (c.deref.ensures.value ∙ c.in_ok-blocks.ensures) ∙ length-map-range_with_len (block_at c.args.image.now c.args.place) 0 c.blocks_of.result ∙ c.blocks_of.ensures

pub returns : goal.returns
returns c =
    let n = c.args.volume.tracks in
    let of = c.from_blocks-fields.ensures in
    let value = c.deref.ensures.value in
    read-known (block_at c.args.image.now c.args.place) (record { volume = c.args.volume; blocks = c.in_ok-blocks.blocks; fields = c.from_blocks-fields.result }) c.requires (c.in_ok-blocks.ensures ∙ ap (λ k. map (block_at c.args.image.now c.args.place) (range_with_len 0 k)) c.blocks_of.ensures)
    (of.fields ∙ ap (λ (xs : List (List ℕ)). layout.fields n (listed xs)) value)
    (of.staged ∙ ap (λ (xs : List (List ℕ)). layout.staged n (listed xs)) value)
    (of.staged_bytes ∙ ap (λ (xs : List (List ℕ)). layout.only_if (is_some (layout.staged n (listed xs))) (layout.chosen (listed xs) 5) zeros) value)
