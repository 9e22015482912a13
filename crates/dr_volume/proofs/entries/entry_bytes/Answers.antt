use Rattle.std.proofs.Common.{◌∷◌, ◌++◌, sym, ◌∙◌, map}
use Rattle.std.specs.Prelude.{is_some, unwrap_or, replicate}
use Rattle.std.specs.List.{range_with_len}
use Rattle.dr_bits.specs.Tracks.{number_of}
use Rattle.dr_volume.specs.Codes.{flags_byte}
use Rattle.dr_volume.specs.Record.{track_bytes}
use Rattle.dr_volume.proofs.PackedLaws.{free-at}
use Rattle.dr_volume.proofs.entries.entry_bytes.Goals as goal

pub returns-then-are_free : goal.returns-then-are_free
unfolding number_of
returns-then-are_free c =
    let none = free-at c.args.entries.now (sym c.are_free.ensures ∙ c.if-are_free.true) in
    λ i. flags_byte (map (λ k. is_some (sym (none k) i)) (range_with_len 0 8)) ∷ 0
    ∷ track_bytes (λ k. unwrap_or (sym (none k) i) 0)
    ++ replicate 14 0
