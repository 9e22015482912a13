-- Blocks that are the same up to the tracks give the same record.
use Rattle.std.proofs.Common.{◌≡◌, ℕ, ◌+◌, ◌<◌, ◌≤◌, List, map, ap, sym, ◌∙◌, arith, [], get_or}
use Rattle.std.specs.Prelude.{is_some}
use Rattle.std.specs.List.{range_with_len}
use Rattle.std.proofs.lemmas.List.FromFn.{get_or-map-range_with_len}
use Rattle.dr_logic.specs.Bytes.{zeros}
use Rattle.dr_ids.specs.Sizes.{blocks_of, most_tracks, record_blocks}
use Rattle.dr_model.specs.Layout as layout
use Rattle.dr_model.specs.Layout.{Blocks, chosen, only_if}
use Rattle.dr_volume.specs.Plain.{plain, normal}
use Rattle.dr_volume.specs.Record.{listed}
use Rattle.dr_volume.proofs.RecordLaws.{plain-normal, staged-normal, staged_bytes-normal}
use Rattle.dr_volume.proofs.RewriteLaws.{record-low}
use Rattle.dr_report.specs.declared.device.Device.{Device}
use Rattle.dr_report.specs.Known.{known, known_on}

module _ (b c : Blocks) (low : (q : ℕ) → q < record_blocks → c q ≡ b q) (n : ℕ) where
  fields-same : n ≤ most_tracks → layout.fields n c ≡ layout.fields n b
  fields-same few = sym (plain-normal n (chosen c) few) ∙ ap (λ r. plain (normal n r)) (record-low b c low) ∙ plain-normal n (chosen b) few

  staged-same : layout.staged n c ≡ layout.staged n b
  staged-same = sym (staged-normal n (chosen c)) ∙ ap (λ r. (normal n r).staged) (record-low b c low) ∙ staged-normal n (chosen b)

  bytes-same : only_if (is_some (layout.staged n c)) (chosen c 5) zeros ≡ only_if (is_some (layout.staged n b)) (chosen b 5) zeros
  bytes-same = sym (staged_bytes-normal n (chosen c)) ∙ ap (λ r. (normal n r).staged_bytes) (record-low b c low) ∙ staged_bytes-normal n (chosen b)

-- what is read of a device
pub read-known : (b : Blocks) (d : Device) → d.volume.tracks ≤ most_tracks → d.blocks.items ≡ map b (range_with_len 0 (blocks_of d.volume.tracks))
    → plain d.fields ≡ layout.fields d.volume.tracks (listed d.blocks.items)
    → d.fields.staged ≡ layout.staged d.volume.tracks (listed d.blocks.items)
    → d.fields.staged_bytes ≡ only_if (is_some (layout.staged d.volume.tracks (listed d.blocks.items))) (chosen (listed d.blocks.items) 5) zeros
    → known d ≡ known_on d.volume.volume.0 d.volume.tracks b
read-known b d few blocks f s sb =
    let n : ℕ = d.volume.tracks in
    let low : (q : ℕ) → q < record_blocks → listed d.blocks.items q ≡ b q =
    λ q lt. ap (λ (xs : List (List ℕ)). get_or xs q []) blocks ∙ get_or-map-range_with_len b 0 (blocks_of n) q q [] (omega arith) (let z : 0 + q ≡ q = omega arith in z) in
    λ i. record {
      volume = d.volume.volume.0;
      tracks = n;
      blocks = blocks i;
      fields = (f ∙ fields-same b (listed d.blocks.items) low n few) i;
      staged = (s ∙ staged-same b (listed d.blocks.items) low n) i;
      staged_bytes = (sb ∙ bytes-same b (listed d.blocks.items) low n) i;
    }
