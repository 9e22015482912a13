-- Places among blocks that stand in order.
use Rattle.std.proofs.Common.{◌≡◌, ℕ, zero, suc, ◌<◌, ◌≤◌, ◌⊎◌, inl, inr, true, false, List, [], ◌∷◌, length, get_or, refl, ap, sym, ◌∙◌, subst, arith, nat_eq, nat_lt}
use Rattle.std.specs.Prelude.{All, if◌then◌else◌}
use Rattle.std.specs.List.{slice_get}
use Rattle.std.specs.List.Sorted.{IsPartitionedBy, IsPartitionPoint}
use Rattle.std.proofs.lemmas.Bool.{cases_Bool}
use Rattle.std.proofs.lemmas.Bool.Decides.{nat_tests}
use Rattle.std.proofs.lemmas.List.{get_or-map, length-map}
use Rattle.dr_logic.specs.Bytes.{zeros}
use Rattle.dr_model.specs.PlantImage.{Kept, Volume, block_in}
use Rattle.dr_image.specs.declared.held.Held.{Held}
use Rattle.dr_image.specs.declared.held.KeptBlock.{KeptBlock}
use Rattle.dr_image.specs.Shown.{all_kept, all_shown, block_at, bytes_of, kept, place, shown}
use Rattle.dr_image.specs.Sound.{IsSoundImage}
use Rattle.dr_image.proofs.OrderLemmas.{InOrder, order_head, order_tail, place-below, place-first}

-- none comes before the number behind one that doesn't
pub parted : (k : ℕ) (bs : List KeptBlock) → InOrder (all_kept bs) → IsPartitionedBy (λ (b : KeptBlock). nat_lt b.index k) bs
parted k bs o i j d le within low = by (cases_Bool (nat_lt i j))
  where
    by : (nat_lt i j ≡ true) ⊎ (nat_lt i j ≡ false) → nat_lt (get_or bs i d).index k ≡ true
    by (inl e) =
        let lt : i < j = grind (arith, nat_tests, e) in
        let len = length-map bs kept in
        let first : get_or (all_kept bs) i (kept d) ≡ kept (get_or bs i d) = get_or-map kept bs i d (kept d) (omega arith) in
        let second : get_or (all_kept bs) j (kept d) ≡ kept (get_or bs j d) = get_or-map kept bs j d (kept d) within in
        let rises : (get_or bs i d).index < (get_or bs j d).index =
        subst (λ (b : Kept). b.index < (get_or bs j d).index) first (subst (λ (b : Kept). (get_or (all_kept bs) i (kept d)).index < b.index) second (o i j (kept d) lt (omega arith))) in
        grind (arith, nat_tests, low, rises)
    by (inr e) =
        let same : j ≡ i = (let ge = e in grind (arith, nat_tests)) in
        subst (λ n. nat_lt (get_or bs n d).index k ≡ true) same low

-- the place that is found is the first from the number on
pub point-place : (k : ℕ) (bs : List KeptBlock) (i : ℕ) → i ≤ length bs → IsPartitionPoint (λ (b : KeptBlock). nat_lt b.index k ≡ true) (λ (b : KeptBlock). nat_lt b.index k ≡ false) bs i → i ≡ place k (all_kept bs)
point-place k [] i le point = let z : i ≡ 0 = omega arith in z
point-place k (b ∷ bs) zero le point =
    let off : nat_lt b.index k ≡ false = point.1 zero b (omega arith) (omega arith) in
    sym (place-first k (kept b) (all_kept bs) (grind (arith, nat_tests, off)))
point-place k (b ∷ bs) (suc i) le point =
    let on : nat_lt b.index k ≡ true = point.0 zero b (omega arith) (omega arith) in
    ap suc (point-place k bs i (omega arith) (λ j d from to. point.0 (suc j) d (omega arith) (omega arith), λ j d from to. point.1 (suc j) d (omega arith) (omega arith)))
    ∙ sym (place-below k (kept b) (all_kept bs) (grind (arith, nat_tests, on)))

none-above : (k : ℕ) (bs : List Kept) → All (λ b. k < b.index) bs → block_in bs k ≡ zeros
none-above k [] above = refl
none-above k (b ∷ bs) above =
    let lt : k < b.index = above zero b (omega arith) in
    let off : nat_eq b.index k ≡ false = grind (arith, nat_tests, lt) in
    ap (λ v. if v then b.bytes else block_in bs k) off ∙ none-above k bs (λ j d within. above (suc j) d (omega arith))

-- a block of a number, by its place
pub placed-block : (k : ℕ) (bs : List Kept) → InOrder bs → block_in bs k ≡ bytes_of (slice_get bs (place k bs)) k
placed-block k [] o = refl
placed-block k (c ∷ cs) o = by (placed-block k cs (order_tail c cs o)) (cases_Bool (nat_lt c.index k))
  where
    by : block_in cs k ≡ bytes_of (slice_get cs (place k cs)) k → (nat_lt c.index k ≡ true) ⊎ (nat_lt c.index k ≡ false) → block_in (c ∷ cs) k ≡ bytes_of (slice_get (c ∷ cs) (place k (c ∷ cs))) k
    by rest (inl e) =
        let lt : c.index < k = grind (arith, nat_tests, e) in
        let off : nat_eq c.index k ≡ false = grind (arith, nat_tests, lt) in
        ap (λ v. if v then c.bytes else block_in cs k) off ∙ rest ∙ ap (λ n. bytes_of (slice_get (c ∷ cs) n) k) (sym (place-below k c cs lt))
    by rest (inr e) =
        let le : k ≤ c.index = grind (arith, nat_tests, e) in
        let above : All (λ b. k < b.index) cs = (λ i d within. let lt : c.index < (get_or cs i d).index = order_head c cs o i d within in omega arith) in
        ap (λ x. if nat_eq c.index k then c.bytes else x) (none-above k cs above) ∙ ap (λ n. bytes_of (slice_get (c ∷ cs) n) k) (sym (place-first k c cs le))

-- the blocks of a volume stand in order
pub blocks-order : (hs : List Held) (i : ℕ) (d : Held) → IsSoundImage (all_shown hs) → i < length hs → InOrder (all_kept (get_or hs i d).blocks.items)
blocks-order hs i d sound lt =
    let len = length-map hs shown in
    subst (λ (v : Volume). InOrder v.blocks) (get_or-map shown hs i d (shown d) lt) (sound i (shown d) (omega arith)).in_order

-- a block of a volume that is there, and of one that isn't
pub block-there : (hs : List Held) (i k : ℕ) (d : Held) → i < length hs → block_at (all_shown hs) i k ≡ block_in (all_kept (get_or hs i d).blocks.items) k
block-there [] i k d lt = absurd (omega arith)
block-there (h ∷ hs) zero k d lt = refl
block-there (h ∷ hs) (suc i) k d lt = block-there hs i k d (omega arith)

-- there are zeros
pub block-nowhere : (hs : List Held) (i k : ℕ) → length hs ≤ i → block_at (all_shown hs) i k ≡ zeros
block-nowhere [] zero k le = refl
block-nowhere [] (suc i) k le = refl
block-nowhere (h ∷ hs) zero k le = absurd (omega arith)
block-nowhere (h ∷ hs) (suc i) k le = block-nowhere hs i k (omega arith)
