-- Images stay sound.
use Rattle.std.proofs.Common.{◌≡◌, ◌<◌, ◌≤◌, ℕ, zero, suc, Bool, true, false, ◌&&◌, cond, List, [], ◌∷◌, ◌++◌, length, get_or, refl, ap, sym, ◌∙◌, subst, arith, nat_eq, nat_lt}
use Rattle.std.specs.Prelude.{All, AllPairs, filter, if◌then◌else◌, Result, Ok, Err, OnOk, OnErr}
use Rattle.std.proofs.lemmas.Bool.Decides.{nat_tests}
use Rattle.std.proofs.lemmas.List.Elements.{All-nil, All-cons, All-head, All-tail, All-append, All-weaker, All-filter, filter_passes, All-from_get_or}
use Rattle.dr_model.specs.PlantImage.{Kept, Volume, IsKept}
use Rattle.dr_model.specs.Text.{trimmed, before_trimmed}
use Rattle.dr_image.specs.Sound.{IsSoundImage, IsSoundVolume}
use Rattle.dr_image.specs.Shown.{is_zero, if_kept, put, put_last}
use Rattle.dr_image.proofs.OrderLemmas.{InOrder, order_head, order_tail, below, above}

pub pairs_cons : {X : Type 0} (R : X → X → Type 0) (x : X) (xs : List X) → All (λ y. R x y) xs → AllPairs R xs → AllPairs R (x ∷ xs)
pairs_cons R x xs first rest zero zero d lt within = absurd (omega arith)
pairs_cons R x xs first rest zero (suc j) d lt within = first j d (omega arith)
pairs_cons R x xs first rest (suc i) zero d lt within = absurd (omega arith)
pairs_cons R x xs first rest (suc i) (suc j) d lt within = rest i j d (omega arith) (omega arith)

pub pairs_nil : {X : Type 0} (R : X → X → Type 0) → AllPairs R []
pairs_nil R = λ i j d lt within. absurd (omega arith)

-- blocks in order with more behind them
pub order_append : (xs ys : List Kept) → InOrder xs → InOrder ys → All (λ x. All (λ y. x.index < y.index) ys) xs → InOrder (xs ++ ys)
order_append [] ys ox oy cross = oy
order_append (x ∷ xs) ys ox oy cross =
    pairs_cons (λ (b : Kept) (c : Kept). b.index < c.index) x (xs ++ ys)
    (All-append (λ (y : Kept). x.index < y.index) xs ys (order_head x xs ox) (All-head (λ (w : Kept). All (λ (y : Kept). w.index < y.index) ys) x xs cross))
    (order_append xs ys (order_tail x xs ox) oy (All-tail (λ (w : Kept). All (λ (y : Kept). w.index < y.index) ys) x xs cross))

pub order_filter : (p : Kept → Bool) (xs : List Kept) → InOrder xs → InOrder (filter p xs)
order_filter p [] o = o
order_filter p (x ∷ xs) o =
    elim (p x) as (λ v. InOrder (cond v (x ∷ filter p xs) (filter p xs))) [
      | true ↦ pairs_cons (λ (b : Kept) (c : Kept). b.index < c.index) x (filter p xs) (All-filter p (λ (y : Kept). x.index < y.index) xs (order_head x xs o)) (order_filter p xs (order_tail x xs o))
      | false ↦ order_filter p xs (order_tail x xs o)
    ]

all_below : (k : ℕ) (bs : List Kept) → All (λ b. b.index < k) (below k bs)
all_below k bs = All-weaker (λ (b : Kept). nat_lt b.index k ≡ true) (λ (b : Kept). b.index < k) (λ b e. grind (arith, nat_tests)) (below k bs) (filter_passes (λ (b : Kept). nat_lt b.index k) bs)

all_above : (k : ℕ) (bs : List Kept) → All (λ b. k < b.index) (above k bs)
all_above k bs = All-weaker (λ (b : Kept). nat_lt k b.index ≡ true) (λ (b : Kept). k < b.index) (λ b e. grind (arith, nat_tests)) (above k bs) (filter_passes (λ (b : Kept). nat_lt k b.index) bs)

one : (b : Kept) → InOrder (b ∷ [])
one b = pairs_cons (λ (c : Kept) (d : Kept). c.index < d.index) b [] (All-nil (λ (c : Kept). b.index < c.index)) (pairs_nil (λ (c : Kept) (d : Kept). c.index < d.index))

if_kept-order : (k : ℕ) (bytes : List ℕ) → InOrder (if_kept k bytes)
if_kept-order k bytes = elim (is_zero bytes) as (λ v. InOrder (if v then [] else (let b : Kept = record { index = k; bytes = bytes } in b ∷ []))) [ true ↦ pairs_nil (λ (c : Kept) (d : Kept). c.index < d.index) | false ↦ one (record { index = k; bytes = bytes }) ]

if_kept-all : (P : Kept → Type 0) (k : ℕ) (bytes : List ℕ) → (is_zero bytes ≡ false → P (record { index = k; bytes = bytes })) → All P (if_kept k bytes)
if_kept-all P k bytes h =
    elim (is_zero bytes) as (λ v. is_zero bytes ≡ v → All P (if v then [] else (let b : Kept = record { index = k; bytes = bytes } in b ∷ []))) [
      | true ↦ λ e. All-nil P
      | false ↦ λ e. All-cons P (record { index = k; bytes = bytes }) [] (h e) (All-nil P)
    ] refl

-- a block that is put to its place keeps the order
pub put-order : (k : ℕ) (bytes : List ℕ) (bs : List Kept) → InOrder bs → InOrder (put k bytes bs)
unfolding put
put-order k bytes bs o =
    let front : List Kept = below k bs in
    let mid : List Kept = if_kept k bytes in
    let back : List Kept = above k bs in
    let is_k : All (λ (b : Kept). b.index ≡ k) mid = if_kept-all (λ (b : Kept). b.index ≡ k) k bytes (λ e. refl) in
    let fm : InOrder (front ++ mid) = order_append front mid (order_filter (λ (b : Kept). nat_lt b.index k) bs o) (if_kept-order k bytes)
    (All-weaker (λ (b : Kept). b.index < k) (λ (b : Kept). All (λ (c : Kept). b.index < c.index) mid) (λ b lt. All-weaker (λ (c : Kept). c.index ≡ k) (λ (c : Kept). b.index < c.index) (λ c e. omega arith) mid is_k) front (all_below k bs)) in
    let upto : All (λ (b : Kept). b.index ≤ k) (front ++ mid) = All-append (λ (b : Kept). b.index ≤ k) front mid (All-weaker (λ (b : Kept). b.index < k) (λ (b : Kept). b.index ≤ k) (λ b lt. omega arith) front (all_below k bs)) (All-weaker (λ (c : Kept). c.index ≡ k) (λ (c : Kept). c.index ≤ k) (λ c e. omega arith) mid is_k) in
    order_append (front ++ mid) back fm (order_filter (λ (b : Kept). nat_lt k b.index) bs o)
    (All-weaker (λ (b : Kept). b.index ≤ k) (λ (b : Kept). All (λ (c : Kept). b.index < c.index) back) (λ b le. All-weaker (λ (c : Kept). k < c.index) (λ (c : Kept). b.index < c.index) (λ c lt. omega arith) back (all_above k bs)) (front ++ mid) upto)

pub put-all : (P : Kept → Type 0) (k : ℕ) (bytes : List ℕ) (bs : List Kept) → All P bs → (is_zero bytes ≡ false → P (record { index = k; bytes = bytes })) → All P (put k bytes bs)
unfolding put
put-all P k bytes bs all h =
    All-append P (below k bs ++ if_kept k bytes) (above k bs)
    (All-append P (below k bs) (if_kept k bytes) (All-filter (λ (b : Kept). nat_lt b.index k) P bs all) (if_kept-all P k bytes h))
    (All-filter (λ (b : Kept). nat_lt k b.index) P bs all)

onto_none : (b : ℕ) (bs : List ℕ) → before_trimmed b bs ≡ [] → (nat_eq b 0 ≡ true) × (bs ≡ [])
onto_none b [] e = elim (nat_eq b 0) as (λ v. (if v then [] else b ∷ []) ≡ [] → (v ≡ true) × (◌≡◌ {A = List ℕ} [] [])) [ true ↦ λ h. (refl, refl) | false ↦ λ h. absurd (cc) ] e
onto_none b (c ∷ cs) e = absurd (cc)

-- where all bytes are trimmed, all are zero
pub zero-trimmed : (bs : List ℕ) → trimmed bs ≡ [] → is_zero bs ≡ true
zero-trimmed [] e = refl
zero-trimmed (b ∷ bs) e = let p = onto_none b (trimmed bs) e in ap (λ v. v && is_zero bs) p.0 ∙ zero-trimmed bs p.1

-- a block that fits and isn't all zero
pub kept-block : (k : ℕ) (bytes : List ℕ) → k < 65536 → length bytes ≡ 64 → ((i : ℕ) → get_or bytes i 0 < 256) → is_zero bytes ≡ false → IsKept 65536 (record { index = k; bytes = bytes })
kept-block k bytes lt whole fits some = record {
  within = lt;
  whole = whole;
  bytes = All-from_get_or (λ x. x < 256) bytes 0 (λ i within. fits i);
  some = λ e. let z = zero-trimmed bytes e in cc;
}

-- a volume with a block put stays sound
put-sound : (k : ℕ) (bytes : List ℕ) (v : Volume) → IsSoundVolume v → (is_zero bytes ≡ false → IsKept 65536 (record { index = k; bytes = bytes })) → IsSoundVolume (record v { blocks = put k bytes v.blocks })
put-sound k bytes v s h = record {
  volume = s.volume;
  server = s.server;
  tracks = s.tracks;
  kept = put-all (IsKept 65536) k bytes v.blocks s.kept h;
  in_order = put-order k bytes v.blocks s.in_order;
}

pub put_last-sound : (k : ℕ) (bytes : List ℕ) (vs : List Volume) → IsSoundImage vs → (is_zero bytes ≡ false → IsKept 65536 (record { index = k; bytes = bytes })) → IsSoundImage (put_last k bytes vs)
unfolding put_last
put_last-sound k bytes [] s h = s
put_last-sound k bytes (v ∷ []) s h = All-cons IsSoundVolume (record v { blocks = put k bytes v.blocks }) [] (put-sound k bytes v (All-head IsSoundVolume v [] s) h) (All-nil IsSoundVolume)
put_last-sound k bytes (v ∷ w ∷ vs) s h = All-cons IsSoundVolume v (put_last k bytes (w ∷ vs)) (All-head IsSoundVolume v (w ∷ vs) s) (put_last-sound k bytes (w ∷ vs) (All-tail IsSoundVolume v (w ∷ vs) s) h)

-- a volume without blocks is sound
pub bare-sound : (v s t : ℕ) → v < 65536 → s < 256 → t < 65536 → IsSoundVolume (record { volume = v; server = s; tracks = t; blocks = [] })
bare-sound v s t a b c = record { volume = a; server = b; tracks = c; kept = All-nil (IsKept 65536); in_order = pairs_nil (λ (x : Kept) (y : Kept). x.index < y.index) }

-- whether a call succeeded or not
pub either_sound : {T E : Type 0} (r : Result T E) (new one other : List Volume) → OnOk r (new ≡ one) → OnErr r (new ≡ other) → IsSoundImage one → IsSoundImage other → IsSoundImage new
either_sound (Ok x) new one other ok err a b = subst IsSoundImage (sym ok) a
either_sound (Err e) new one other ok err a b = subst IsSoundImage (sym err) b
