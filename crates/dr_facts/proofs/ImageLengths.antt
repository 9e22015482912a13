-- How many events an image tells.
use Rattle.std.proofs.Common.{ℕ, zero, suc, ◌≡◌, ◌<◌, ◌≤◌, ◌+◌, ◌*◌, length, arith, List, [], ◌∷◌, ◌++◌, map}
use Rattle.std.specs.Prelude.{All, AllPairs}
use Rattle.std.specs.List.{flat_map}
use Rattle.std.proofs.lemmas.List.{length-map, length-append}
use Rattle.dr_ids.specs.Sizes.{blocks_of}
use Rattle.dr_model.specs.declared.event.Event.TheVariants.{ImageBlock, ImageEnd}
use Rattle.dr_model.specs.PlantImage.{Kept, Volume, IsKept, IsVolume}
use Rattle.dr_model.specs.Runs.{volume_told, blocks_told, image_told}

-- blocks that stand in order, from k on and below n, are no more than n - k
in-order-few : (n k : ℕ) (bs : List Kept) → k ≤ n → All (λ b. k ≤ b.index) bs → All (IsKept n) bs → AllPairs (λ b c. b.index < c.index) bs → length bs + k ≤ n
in-order-few n k [] le above kept order = omega arith
in-order-few n k (b ∷ bs) le above kept order =
    let from : k ≤ b.index = above zero b (omega arith) in
    let within : b.index < n = (kept zero b (omega arith)).within in
    let rest : length bs + suc b.index ≤ n = in-order-few n (suc b.index) bs (omega arith) (λ i d w. order zero (suc i) d (omega arith) (omega arith)) (λ i d w. kept (suc i) d (omega arith)) (λ i j d lt w. order (suc i) (suc j) d (omega arith) (omega arith)) in
    omega arith

-- a device has at most as many blocks that aren't all zero as blocks
pub kept-few : (v : Volume) → IsVolume v → length v.blocks ≤ blocks_of v.tracks
kept-few v h = let few : length v.blocks + 0 ≤ blocks_of v.tracks = in-order-few (blocks_of v.tracks) 0 v.blocks (omega arith) (λ i d w. omega arith) h.kept h.in_order in omega arith

-- a volume has a line, and one for each of these blocks: at most 277
blocks-few : (v : Volume) → IsVolume v → length (blocks_told v) ≤ 277
blocks-few v h =
    let each : length (blocks_told v) ≡ length v.blocks = length-map v.blocks (λ b. ImageBlock v.volume b.index b.bytes) in
    let few = kept-few v h in
    let tracks = h.tracks in
    omega arith

all-blocks-few : (vs : List Volume) → All IsVolume vs → length (flat_map blocks_told vs) ≤ length vs * 277
all-blocks-few [] h = omega arith
all-blocks-few (v ∷ vs) h =
    let first : length (blocks_told v) ≤ 277 = blocks-few v (h zero v (omega arith)) in
    let rest : length (flat_map blocks_told vs) ≤ length vs * 277 = all-blocks-few vs (λ i d w. h (suc i) d (omega arith)) in
    let both : length (flat_map blocks_told (v ∷ vs)) ≡ length (blocks_told v) + length (flat_map blocks_told vs) = length-append (blocks_told v) (flat_map blocks_told vs) in
    omega arith

-- 64 volumes, each with its line and those of its blocks, between a first line and a last
pub image-few : (vs : List Volume) → length vs ≤ 64 → All IsVolume vs → length (image_told vs) ≤ 17794
image-few vs few each =
    let blocks = all-blocks-few vs each in
    let lines : length (map volume_told vs) ≡ length vs = length-map vs volume_told in
    let both : length (map volume_told vs ++ flat_map blocks_told vs) ≡ length (map volume_told vs) + length (flat_map blocks_told vs) = length-append (map volume_told vs) (flat_map blocks_told vs) in
    let all : length (map volume_told vs ++ flat_map blocks_told vs ++ ImageEnd ∷ []) ≡ length (map volume_told vs ++ flat_map blocks_told vs) + 1 = length-append (map volume_told vs ++ flat_map blocks_told vs) (ImageEnd ∷ []) in
    omega arith
