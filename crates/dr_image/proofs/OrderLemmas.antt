-- Blocks that stand in order.
use Rattle.std.proofs.Common.{◌≡◌, ℕ, zero, suc, ◌+◌, ◌<◌, ◌≤◌, true, false, not, ◌&&◌, cond, List, [], ◌∷◌, ◌++◌, length, take, drop, refl, ap, sym, ◌∙◌, subst, arith, nat_eq, nat_lt, nat_le, Some, None}
use Rattle.std.specs.Prelude.{All, AllPairs, filter}
use Rattle.std.specs.List.{list_all, slice_get, slice_index_or}
use Rattle.std.proofs.lemmas.Bool.Decides.{nat_tests}
use Rattle.dr_model.specs.PlantImage.{Kept}
use Rattle.dr_image.specs.Shown.{place, if_kept, put, has_number, stands_at}

abbrev pub InOrder : List Kept → Type 0
InOrder bs = AllPairs (λ b c. b.index < c.index) bs

pub pairs_tail : {X : Type 0} (R : X → X → Type 0) (x : X) (xs : List X) → AllPairs R (x ∷ xs) → AllPairs R xs
pairs_tail R x xs h = λ i j d lt within. h (suc i) (suc j) d (omega arith) (omega arith)

pub pairs_head : {X : Type 0} (R : X → X → Type 0) (x : X) (xs : List X) → AllPairs R (x ∷ xs) → All (λ y. R x y) xs
pairs_head R x xs h = λ k d within. h zero (suc k) d (omega arith) (omega arith)

pub order_tail : (b : Kept) (bs : List Kept) → InOrder (b ∷ bs) → InOrder bs
order_tail b bs o = pairs_tail (λ (c : Kept) (d : Kept). c.index < d.index) b bs o

pub order_head : (b : Kept) (bs : List Kept) → InOrder (b ∷ bs) → All (λ c. b.index < c.index) bs
order_head b bs o = pairs_head (λ (c : Kept) (d : Kept). c.index < d.index) b bs o

both_below : (a b n : ℕ) → a < b → (nat_lt a n && nat_lt b n) ≡ nat_lt b n
both_below a b n lt = grind (arith, nat_tests)

below_got : (n i : ℕ) (bs : List Kept) (l : Kept) → All (λ b. n < b.index) bs → slice_get bs i ≡ Some l → n < l.index
below_got n i [] l above e = cc
below_got n zero (b ∷ bs) l above e = let is : b ≡ l = cc in subst (λ (x : Kept). n < x.index) is (above zero b (omega arith))
below_got n (suc i) (b ∷ bs) l above e = below_got n i bs l (λ k d within. above (suc k) d (omega arith)) e

-- what comes behind the last block comes behind all
pub behind_last : (n i : ℕ) (bs : List Kept) (l : Kept) → InOrder bs → suc i ≡ length bs → slice_get bs i ≡ Some l → list_all (λ b. nat_lt b.index n) bs ≡ nat_lt l.index n
behind_last n i [] l o at e = absurd (omega arith)
behind_last n i (b ∷ []) l o at e =
    let first : i ≡ 0 = omega arith in
    let is : b ≡ l = (let f = ap (λ k. slice_get (b ∷ []) k) first in cc) in
    elim (nat_lt b.index n) as (λ v. nat_lt b.index n ≡ v → (v && true) ≡ nat_lt l.index n) [
      | true ↦ λ t. sym t ∙ ap (λ x. nat_lt x.index n) is
      | false ↦ λ t. sym t ∙ ap (λ x. nat_lt x.index n) is
    ] refl
behind_last n i (b ∷ c ∷ cs) l o at e =
    let last : i ≡ suc (length cs) = omega arith in
    let there : slice_get (c ∷ cs) (length cs) ≡ Some l = sym (ap (λ k. slice_get (b ∷ c ∷ cs) k) last) ∙ e in
    let rest = behind_last n (length cs) (c ∷ cs) l (order_tail b (c ∷ cs) o) refl there in
    let before : b.index < l.index = below_got b.index (length cs) (c ∷ cs) l (order_head b (c ∷ cs) o) there in
    ap (λ v. nat_lt b.index n && v) rest ∙ both_below b.index l.index n before

-- the blocks below a number, and those above it
abbrev pub below : ℕ → List Kept → List Kept
below k bs = filter (λ b. nat_lt b.index k) bs

abbrev pub above : ℕ → List Kept → List Kept
above k bs = filter (λ b. nat_lt k b.index) bs

one_more : (n : ℕ) → 1 + n ≡ suc n
one_more n = omega arith

none_below : (k : ℕ) (bs : List Kept) → All (λ b. k ≤ b.index) bs → below k bs ≡ []
none_below k [] h = refl
none_below k (b ∷ bs) h =
    let first = h zero b (omega arith) in
    let not_below : nat_lt b.index k ≡ false = grind (arith, nat_tests, first) in
    ap (λ v. cond v (b ∷ below k bs) (below k bs)) not_below ∙ none_below k bs (λ i d within. h (suc i) d (omega arith))

pub all_above : (k : ℕ) (bs : List Kept) → All (λ b. k < b.index) bs → above k bs ≡ bs
all_above k [] h = refl
all_above k (b ∷ bs) h =
    let first = h zero b (omega arith) in
    let is_above : nat_lt k b.index ≡ true = grind (arith, nat_tests, first) in
    ap (λ v. cond v (b ∷ above k bs) (above k bs)) is_above ∙ ap (λ t. b ∷ t) (all_above k bs (λ i d within. h (suc i) d (omega arith)))

-- a block before the number puts the place one on
pub place-below : (k : ℕ) (b : Kept) (bs : List Kept) → b.index < k → place k (b ∷ bs) ≡ suc (place k bs)
place-below k b bs lt = let no : nat_le k b.index ≡ false = grind (arith, nat_tests) in ap (λ v. cond (not v) (1 + place k bs) 0) no ∙ one_more (place k bs)

-- one that doesn't come before it is the place
pub place-first : (k : ℕ) (b : Kept) (bs : List Kept) → k ≤ b.index → place k (b ∷ bs) ≡ 0
place-first k b bs le = let yes' : nat_le k b.index ≡ true = grind (arith, nat_tests) in ap (λ v. cond (not v) (1 + place k bs) 0) yes'

-- the blocks below a number stand at the front
pub below_is : (k : ℕ) (bs : List Kept) → InOrder bs → take (place k bs) bs ≡ below k bs
below_is k [] o = refl
below_is k (b ∷ bs) o =
    elim (nat_lt b.index k) as (λ v. nat_lt b.index k ≡ v → take (place k (b ∷ bs)) (b ∷ bs) ≡ cond v (b ∷ below k bs) (below k bs)) [
      | true ↦ λ e. let lt : b.index < k = grind (arith, nat_tests, e) in
          ap (λ n. take n (b ∷ bs)) (place-below k b bs lt) ∙ ap (λ t. b ∷ t) (below_is k bs (order_tail b bs o))
      | false ↦ λ e. let le : k ≤ b.index = grind (arith, nat_tests, e) in
          ap (λ n. take n (b ∷ bs)) (place-first k b bs le) ∙ sym (none_below k bs (λ i d within. let lt : b.index < (slice_index_or bs i d).index = order_head b bs o i d within in omega arith))
    ] refl

-- those above it stand behind the block of that number, or there
pub above_is : (k : ℕ) (bs : List Kept) (b : Kept) → InOrder bs → slice_get bs (place k bs) ≡ Some b → (b.index ≡ k → drop (suc (place k bs)) bs ≡ above k bs) × (k < b.index → drop (place k bs) bs ≡ above k bs)
above_is k [] b o e = cc
above_is k (c ∷ cs) b o e =
    elim (nat_lt c.index k) as (λ v. nat_lt c.index k ≡ v → (b.index ≡ k → drop (suc (place k (c ∷ cs))) (c ∷ cs) ≡ above k (c ∷ cs)) × (k < b.index → drop (place k (c ∷ cs)) (c ∷ cs) ≡ above k (c ∷ cs))) [
      | true ↦ λ t.
          let lt : c.index < k = grind (arith, nat_tests, t) in
          let there : slice_get cs (place k cs) ≡ Some b = sym (ap (λ n. slice_get (c ∷ cs) n) (place-below k c cs lt)) ∙ e in
          let rest = above_is k cs b (order_tail c cs o) there in
          let skipped : above k (c ∷ cs) ≡ above k cs = (let no : nat_lt k c.index ≡ false = grind (arith, nat_tests, lt) in ap (λ v. cond v (c ∷ above k cs) (above k cs)) no) in
          (λ same. ap (λ n. drop (suc n) (c ∷ cs)) (place-below k c cs lt) ∙ rest.0 same ∙ sym skipped, λ more. ap (λ n. drop n (c ∷ cs)) (place-below k c cs lt) ∙ rest.1 more ∙ sym skipped)
      | false ↦ λ t.
          let le : k ≤ c.index = grind (arith, nat_tests, t) in
          let first = place-first k c cs le in
          let is : c ≡ b = (let f = ap (λ n. slice_get (c ∷ cs) n) first in cc) in
          let rest : All (λ x. k < x.index) cs = (λ i d within. let lt : c.index < (slice_index_or cs i d).index = order_head c cs o i d within in omega arith) in
          let kept = all_above k cs rest in (
            λ same. let no : nat_lt k c.index ≡ false = (let at = ap (λ (x : Kept). x.index) is in let s = same in grind (arith, nat_tests)) in
                ap (λ n. drop (suc n) (c ∷ cs)) first ∙ sym (ap (λ v. cond v (c ∷ above k cs) (above k cs)) no ∙ kept),
            λ more. let ok : nat_lt k c.index ≡ true = (let at = ap (λ (x : Kept). x.index) is in let m = more in grind (arith, nat_tests)) in
                ap (λ n. drop n (c ∷ cs)) first ∙ sym (ap (λ v. cond v (c ∷ above k cs) (above k cs)) ok ∙ ap (λ t. c ∷ t) kept),
          )
    ] refl

-- nothing is above where the place is the end
pub above_none : (k : ℕ) (bs : List Kept) → slice_get bs (place k bs) ≡ None → above k bs ≡ []
above_none k [] e = refl
above_none k (c ∷ cs) e =
    elim (nat_lt c.index k) as (λ v. nat_lt c.index k ≡ v → above k (c ∷ cs) ≡ []) [
      | true ↦ λ t.
          let lt : c.index < k = grind (arith, nat_tests, t) in
          let no : nat_lt k c.index ≡ false = grind (arith, nat_tests, lt) in
          ap (λ v. cond v (c ∷ above k cs) (above k cs)) no ∙ above_none k cs (sym (ap (λ n. slice_get (c ∷ cs) n) (place-below k c cs lt)) ∙ e)
      | false ↦ λ t.
          let le : k ≤ c.index = grind (arith, nat_tests, t) in
          let f = ap (λ n. slice_get (c ∷ cs) n) (place-first k c cs le) in cc
    ] refl

not_less : (k n : ℕ) → k ≤ n → nat_eq n k ≡ false → k < n
not_less k n le ne = grind (arith, nat_tests)

-- the block at the place isn't below
place_reached : (k : ℕ) (bs : List Kept) (b : Kept) → slice_get bs (place k bs) ≡ Some b → k ≤ b.index
place_reached k [] b e = cc
place_reached k (c ∷ cs) b e =
    elim (nat_lt c.index k) as (λ v. nat_lt c.index k ≡ v → k ≤ b.index) [
      | true ↦ λ t.
          let lt : c.index < k = grind (arith, nat_tests, t) in
          place_reached k cs b (sym (ap (λ n. slice_get (c ∷ cs) n) (place-below k c cs lt)) ∙ e)
      | false ↦ λ t.
          let le : k ≤ c.index = grind (arith, nat_tests, t) in
          let is : c ≡ b = (let f = ap (λ n. slice_get (c ∷ cs) n) (place-first k c cs le) in cc) in
          subst (λ (x : Kept). k ≤ x.index) is le
    ] refl

-- a block is replaced where it stands
pub put-standing : (k : ℕ) (bytes : List ℕ) (bs : List Kept) → InOrder bs → stands_at bs (place k bs) k ≡ true → put k bytes bs ≡ take (place k bs) bs ++ if_kept k bytes ++ drop (suc (place k bs)) bs
unfolding put
put-standing k bytes bs o there =
    let tail : above k bs ≡ drop (suc (place k bs)) bs =
    (elim (slice_get bs (place k bs)) as (λ g. slice_get bs (place k bs) ≡ g → has_number k g ≡ true → above k bs ≡ drop (suc (place k bs)) bs) [
      | None ↦ λ e t. absurd (cc)
      | Some b ↦ λ e t. let same : b.index ≡ k = grind (arith, nat_tests, t) in sym ((above_is k bs b o e).0 same)
    ] refl there) in
    ap (λ f. f ++ if_kept k bytes ++ above k bs) (sym (below_is k bs o)) ∙ ap (λ r. take (place k bs) bs ++ if_kept k bytes ++ r) tail

drop_past : (k : ℕ) (bs : List Kept) → slice_get bs (place k bs) ≡ None → drop (place k bs) bs ≡ []
drop_past k [] e = refl
drop_past k (c ∷ cs) e =
    elim (nat_lt c.index k) as (λ v. nat_lt c.index k ≡ v → drop (place k (c ∷ cs)) (c ∷ cs) ≡ []) [
      | true ↦ λ t.
          let lt : c.index < k = grind (arith, nat_tests, t) in
          ap (λ n. drop n (c ∷ cs)) (place-below k c cs lt) ∙ drop_past k cs (sym (ap (λ n. slice_get (c ∷ cs) n) (place-below k c cs lt)) ∙ e)
      | false ↦ λ t.
          let le : k ≤ c.index = grind (arith, nat_tests, t) in
          let f = ap (λ n. slice_get (c ∷ cs) n) (place-first k c cs le) in cc
    ] refl

-- or put to its place
pub put-fresh : (k : ℕ) (bytes : List ℕ) (bs : List Kept) → InOrder bs → stands_at bs (place k bs) k ≡ false → put k bytes bs ≡ take (place k bs) bs ++ if_kept k bytes ++ drop (place k bs) bs
unfolding put
put-fresh k bytes bs o there =
    let tail : above k bs ≡ drop (place k bs) bs =
    (elim (slice_get bs (place k bs)) as (λ g. slice_get bs (place k bs) ≡ g → has_number k g ≡ false → above k bs ≡ drop (place k bs) bs) [
      | None ↦ λ e t. above_none k bs e ∙ sym (drop_past k bs e)
      | Some b ↦ λ e t. sym ((above_is k bs b o e).1 (not_less k b.index (place_reached k bs b e) t))
    ] refl there) in
    ap (λ f. f ++ if_kept k bytes ++ above k bs) (sym (below_is k bs o)) ∙ ap (λ r. take (place k bs) bs ++ if_kept k bytes ++ r) tail
