use Rattle.std.proofs.Common.{ℕ, List, ◌≡◌, ◌<◌, ◌^◌, take, drop, sym, subst, arith}
use Rattle.std.specs.Simd.Lanes.{digits_l, number_l}
use Rattle.std.proofs.lemmas.List.{take_all}
use Rattle.std.proofs.lemmas.Simd.{Each1-from_get_or}
use Rattle.dr_lanes.specs.Words.{bits_of}
use Rattle.dr_bits.specs.Tracks.{of_bytes}
use Rattle.dr_bits.proofs.WordLaws.{words_of_bytes}
use Rattle.dr_bits.proofs.read.Goals as goal

pub returns : goal.returns
returns c =
    let b = c.args.b.now in
    let whole : take 32 (drop 0 b) ≡ b = take_all 32 (drop 0 b) (omega arith) in
    let is = words_of_bytes b c.requires (Each1-from_get_or (λ x. x < 256) b 0 (λ i _. (c.type_inv.b i).fits)) in
    subst (λ (xs : List ℕ). bits_of (digits_l (2 ^ 64) 4 (number_l 256 xs)) ≡ of_bytes b) (sym whole) is
