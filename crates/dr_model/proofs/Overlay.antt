-- A track whose known bytes lie over the track underneath, and the tracks of a volume one after another.
use Rattle.std.proofs.Common.{ℕ, ◌≡◌, ◌<◌, ◌≤◌, ◌+◌, ◌*◌, List, [], ◌∷◌, ◌++◌, length, get_or, map, take, replicate, refl, ap, ◌∙◌, sym, cond, Bool, false, arith}
use Rattle.std.proofs.lemmas.List.{get_or-replicate, take_all, flat_map_more}
use Rattle.std.proofs.lemmas.Slice.{take-put_mid}
use borrow.Rule.Slice.PartMut.{put_mid}
use Rattle.std.proofs.lemmas.List.FromFn.{get_or-map-range_with_len, length-map-range_with_len, map-range_with_len_more}
use Rattle.std.proofs.lemmas.Grind.{same_number_lists}
use Rattle.std.specs.List.{fold, flat_map, range_with_len}
use Rattle.dr_logic.specs.Bytes.{zeros}
use Rattle.dr_model.specs.Histories.{Write}
use Rattle.dr_model.specs.Contents.{byte_laid, laid, image, with_write}
use Rattle.dr_model.specs.Asked.{byte_over, over}

same_maps : (f g : ℕ → ℕ) (n : ℕ) → ((k : ℕ) → k < n → f k ≡ g k) → map f (range_with_len 0 n) ≡ map g (range_with_len 0 n)
same_maps f g n same =
    same_number_lists (map f (range_with_len 0 n)) (map g (range_with_len 0 n)) (length-map-range_with_len f 0 n ∙ sym (length-map-range_with_len g 0 n))
    (λ k lt.
    let below : k < n = omega (arith, length-map-range_with_len f 0 n) in
    get_or-map-range_with_len f 0 n k k 0 below (omega arith) ∙ same k below ∙ sym (get_or-map-range_with_len g 0 n k k 0 below (omega arith)))

same_list : (f : ℕ → ℕ) (n : ℕ) (xs : List ℕ) → length xs ≡ n → ((k : ℕ) → k < n → get_or xs k 0 ≡ f k) → xs ≡ map f (range_with_len 0 n)
same_list f n xs len same =
    same_number_lists xs (map f (range_with_len 0 n)) (len ∙ sym (length-map-range_with_len f 0 n))
    (λ k lt.
    let below : k < n = omega arith in
    same k below ∙ sym (get_or-map-range_with_len f 0 n k k 0 below (omega arith)))

laid-at : (offset : ℕ) (bytes under : List ℕ) (k : ℕ) → k < 64 → get_or (laid offset bytes under) k 0 ≡ byte_laid offset bytes under k
unfolding laid
laid-at offset bytes under k lt = get_or-map-range_with_len (byte_laid offset bytes under) 0 64 k k 0 lt (omega arith)

-- a write that was laid under the known bytes
pub over-laid : (known : List Bool) (bytes : List ℕ) (more : List Bool) (now : List ℕ) (offset : ℕ) (written : List ℕ)
    → ((q : ℕ) → q < 64 → (under : List ℕ) → byte_over more now under q ≡ cond (get_or known q false) (get_or bytes q 0) (byte_laid offset written under q))
    → (under : List ℕ) → over more now under ≡ over known bytes (laid offset written under)
unfolding over
over-laid known bytes more now offset written same under =
    same_maps (byte_over more now under) (byte_over known bytes (laid offset written under)) 64
    (λ q lt. same q lt under ∙ ap (λ b. cond (get_or known q false) (get_or bytes q 0) b) (sym (laid-at offset written under q lt)))

-- no byte is known
pub over-none : (bytes under : List ℕ) → length under ≡ 64 → over (replicate 64 false) bytes under ≡ under
unfolding over
over-none bytes under len =
    sym (same_list (byte_over (replicate 64 false) bytes under) 64 under len
    (λ q lt. ap (λ b. cond b (get_or bytes q 0) (get_or under q 0)) (sym (get_or-replicate 64 q false false lt))))

zero-at : (k : ℕ) → k < 64 → get_or zeros k 0 ≡ 0
unfolding zeros
zero-at k lt = get_or-replicate 64 k 0 0 lt

-- the unknown bytes are zero
pub over-cleared : (known : List Bool) (bytes now : List ℕ) → length now ≡ 64
    → ((q : ℕ) → q < 64 → get_or now q 0 ≡ cond (get_or known q false) (get_or bytes q 0) 0) → now ≡ over known bytes zeros
unfolding over
over-cleared known bytes now len same =
    same_list (byte_over known bytes zeros) 64 now len
    (λ q lt. same q lt ∙ ap (λ b. cond (get_or known q false) (get_or bytes q 0) b) (sym (zero-at q lt)))

length-laid : (offset : ℕ) (bytes under : List ℕ) → length (laid offset bytes under) ≡ 64
unfolding laid
length-laid offset bytes under = length-map-range_with_len (byte_laid offset bytes under) 0 64

length-fold : (write : ℕ → Write) (bytes : List ℕ) (ws : List ℕ) → length bytes ≡ 64 → length (fold (with_write write) bytes ws) ≡ 64
length-fold write bytes [] len = len
length-fold write bytes (w ∷ ws) len = length-fold write (with_write write bytes w) ws (length-laid (write w).offset (write w).bytes bytes)

length-zeros : length zeros ≡ 64
unfolding zeros
length-zeros = refl

pub length-image : (write : ℕ → Write) (ws : List ℕ) → length (image write ws) ≡ 64
unfolding image
length-image write ws = length-fold write zeros ws length-zeros

map-same : (xs : List ℕ) → map (λ x. x) xs ≡ xs
map-same [] = refl
map-same (x ∷ xs) = ap (λ ys. x ∷ ys) (map-same xs)

range-more : (n : ℕ) → range_with_len 0 (n + 1) ≡ range_with_len 0 n ++ n ∷ []
range-more n =
    sym (map-same (range_with_len 0 (n + 1))) ∙ map-range_with_len_more (λ x. x) 0 n n (omega arith)
    ∙ ap (λ xs. xs ++ n ∷ []) (map-same (range_with_len 0 n))

-- one track more
pub more_tracks : (f : ℕ → List ℕ) (xs ys : List ℕ) (t a k : ℕ) → a ≡ 64 * t → a ≤ length xs → length ys ≡ 64 → ys ≡ f t
    → take (64 * t) xs ≡ flat_map f (range_with_len 0 t) → take (64 * (t + 1)) (put_mid a k xs ys) ≡ flat_map f (range_with_len 0 (t + 1))
more_tracks f xs ys t a k start within len here before =
    take-put_mid a k xs ys (64 * (t + 1)) (omega arith) within
    ∙ ap (λ n. take n xs ++ ys) start ∙ ap (λ zs. zs ++ ys) before ∙ ap (λ zs. flat_map f (range_with_len 0 t) ++ zs) here
    ∙ flat_map_more f [] (range_with_len 0 t) t
    ∙ ap (flat_map f) (sym (range-more t))

-- all of them
pub all_tracks : (f : ℕ → List ℕ) (xs : List ℕ) (t n : ℕ) → t ≡ n → length xs ≡ 64 * n → take (64 * t) xs ≡ flat_map f (range_with_len 0 t) → xs ≡ flat_map f (range_with_len 0 n)
all_tracks f xs t n same len before = sym (take_all (64 * t) xs (omega arith)) ∙ before ∙ ap (λ k. flat_map f (range_with_len 0 k)) same
