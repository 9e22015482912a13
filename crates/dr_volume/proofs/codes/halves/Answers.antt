use Rattle.std.proofs.Common.{ℕ, ◌≡◌, List, ◌++◌, length, drop, sym, ◌∙◌, ap, refl}
use Rattle.std.proofs.Math.Seq.{drop-length}
use Rattle.std.proofs.lemmas.List.{take_at, drop_at, append-nil}
use borrow.Rule.Slice.PartMut.{put_mid}
use Rattle.dr_volume.proofs.codes.halves.Goals as goal

-- a block whose second half is replaced
two_halves : (a b z : List ℕ) → length a ≡ 32 → length z ≡ 32 → put_mid 32 32 (a ++ z) b ≡ a ++ b
two_halves a b z la lz =
    (λ i. take_at a z 32 la i ++ (b ++ drop 32 (drop_at a z 32 la i)))
    ∙ ap (λ rest. a ++ (b ++ rest)) (ap (λ n. drop n z) (sym lz) ∙ drop-length z)
    ∙ ap (λ rest. a ++ rest) (append-nil b)

pub returns : goal.returns
returns c =
    two_halves c.copy_from_slice.new.self c.copy_from_slice-2.new.self _ c.copy_from_slice.auto.self refl
    ∙ (λ i. c.copy_from_slice.ensures.after i ++ c.copy_from_slice-2.ensures.after i)
