-- The kept volumes and what they show.
use Rattle.std.proofs.Common.{◌≡◌, ℕ, zero, suc, ◌+◌, ◌<◌, Bool, not, ◌||◌, cond, List, [], ◌∷◌, ◌++◌, length, map, set, take, drop, get_or, true, false, refl, ap, sym, ◌∙◌, arith, append_assoc, append-nil, take-append-drop, Some, None, nat_lt}
use Rattle.std.specs.Prelude.{if◌then◌else◌}
use Rattle.std.specs.List.{list_any, position, position_or_len}
use Rattle.std.proofs.lemmas.List.{length-map, map-append, take-map, drop-map}
use Rattle.dr_model.specs.PlantImage.{Kept, Volume, with_block}
use Rattle.dr_image.specs.declared.held.Held.{Held}
use Rattle.dr_image.specs.declared.held.KeptBlock.{KeptBlock}
use Rattle.dr_image.specs.Shown.{shown, all_shown, kept, all_kept, is_zero, if_kept, put, put_last}

pub list_any-map : {X Y : Type 0} (p : X → Bool) (f : Y → X) (ys : List Y) → list_any p (map f ys) ≡ list_any (λ y. p (f y)) ys
list_any-map p f [] = refl
list_any-map p f (y ∷ ys) = ap (λ b. p (f y) || b) (list_any-map p f ys)

pub position_or_len-map : {X Y : Type 0} (p : X → Bool) (f : Y → X) (ys : List Y) → position_or_len p (map f ys) ≡ position_or_len (λ y. p (f y)) ys
position_or_len-map p f [] = refl
position_or_len-map p f (y ∷ ys) = ap (λ n. cond (not (p (f y))) (1 + n) 0) (position_or_len-map p f ys)

pub position-map : {X Y : Type 0} (p : X → Bool) (f : Y → X) (ys : List Y) → position p (map f ys) ≡ position (λ y. p (f y)) ys
position-map p f ys =
    ap (λ n. cond (nat_lt n (length (map f ys))) (Some n) None) (position_or_len-map p f ys)
    ∙ ap (λ n. cond (nat_lt (position_or_len (λ y. p (f y)) ys) n) (Some (position_or_len (λ y. p (f y)) ys)) None) (length-map ys f)

-- a volume that shows as before
pub shown-same : (hs : List Held) (p : ℕ) (h d : Held) → p < length hs → shown h ≡ shown (get_or hs p d) → all_shown (set hs p h) ≡ all_shown hs
shown-same [] p h d lt e = refl
shown-same (x ∷ hs) zero h d lt e = ap (λ v. v ∷ all_shown hs) e
shown-same (x ∷ hs) (suc p) h d lt e = ap (λ vs. shown x ∷ vs) (shown-same hs p h d (omega arith) e)

-- a volume that shows a block more
pub shown-more : (hs : List Held) (p : ℕ) (h d : Held) (b : Kept) → p < length hs → shown h ≡ (let v : Volume = shown (get_or hs p d) in record v { blocks = v.blocks ++ b ∷ [] }) → all_shown (set hs p h) ≡ with_block (all_shown hs) p b
unfolding with_block
shown-more [] p h d b lt e = refl
shown-more (x ∷ hs) zero h d b lt e = ap (λ v. v ∷ all_shown hs) e
shown-more (x ∷ hs) (suc p) h d b lt e = ap (λ vs. shown x ∷ vs) (shown-more hs p h d b (omega arith) e)

-- an item is set between those before it and those behind it
pub set-parts : {X : Type 0} (xs : List X) (i : ℕ) (x : X) → i < length xs → set xs i x ≡ take i xs ++ x ∷ drop (suc i) xs
set-parts [] i x lt = absurd (omega arith)
set-parts (y ∷ ys) zero x lt = refl
set-parts (y ∷ ys) (suc i) x lt = ap (λ t. y ∷ t) (set-parts ys i x (omega arith))

-- blocks before a place, some more, and blocks from a place on
pub kept-parts : (bs more : List KeptBlock) (i j : ℕ) → all_kept (take i bs ++ more ++ drop j bs) ≡ take i (all_kept bs) ++ all_kept more ++ drop j (all_kept bs)
kept-parts bs more i j =
    map-append kept (take i bs ++ more) (drop j bs) ∙ ap (λ t. t ++ all_kept (drop j bs)) (map-append kept (take i bs) more)
    ∙ ap (λ t. (t ++ all_kept more) ++ all_kept (drop j bs)) (sym (take-map kept i bs)) ∙ ap (λ t. take i (all_kept bs) ++ all_kept more ++ t) (sym (drop-map kept j bs))

pub if_kept-zero : (k : ℕ) (bytes : List ℕ) → is_zero bytes ≡ true → if_kept k bytes ≡ []
if_kept-zero k bytes z = ap (λ v. if v then [] else (let b : Kept = record { index = k; bytes = bytes } in b ∷ [])) z

pub if_kept-some : (k : ℕ) (bytes : List ℕ) → is_zero bytes ≡ false → if_kept k bytes ≡ (let b : Kept = record { index = k; bytes = bytes } in b ∷ [])
if_kept-some k bytes z = ap (λ v. if v then [] else (let b : Kept = record { index = k; bytes = bytes } in b ∷ [])) z

-- a block is put between those before a place and those from another place on
pub put-between : (bs : List KeptBlock) (b : KeptBlock) (i j : ℕ) → is_zero b.bytes ≡ false → all_kept (take i bs ++ (b ∷ []) ++ drop j bs) ≡ take i (all_kept bs) ++ if_kept b.index b.bytes ++ drop j (all_kept bs)
put-between bs b i j some = kept-parts bs (b ∷ []) i j ∙ ap (λ t. take i (all_kept bs) ++ t ++ drop j (all_kept bs)) (sym (if_kept-some b.index b.bytes some))

-- or nothing is
pub none-between : (bs : List KeptBlock) (k : ℕ) (bytes : List ℕ) (i j : ℕ) → is_zero bytes ≡ true → all_kept (take i bs ++ drop j bs) ≡ take i (all_kept bs) ++ if_kept k bytes ++ drop j (all_kept bs)
none-between bs k bytes i j none =
    ap (λ t. all_kept (t ++ drop j bs)) (sym (append-nil (take i bs))) ∙ kept-parts bs [] i j ∙ ap (λ t. take i (all_kept bs) ++ t ++ drop j (all_kept bs)) (sym (if_kept-zero k bytes none))

-- one item more between two lists
pub between : {X : Type 0} (front : List X) (x : X) (back : List X) → front ++ x ∷ back ≡ front ++ (x ∷ []) ++ back
between front x back = sym (append_assoc front (x ∷ []) back)

pub taken-and-dropped : {X : Type 0} (n : ℕ) (xs : List X) → xs ≡ take n xs ++ drop n xs
taken-and-dropped n xs = sym (take-append-drop n xs)

same_but : (h old : Held) (bs : List KeptBlock) → h.volume ≡ old.volume → h.blocks.items ≡ bs → shown h ≡ (let v : Volume = shown old in record v { blocks = all_kept bs })
same_but h old bs v e = λ i. record { volume = (v i).volume.0; server = (v i).server; tracks = (v i).tracks; blocks = all_kept (e i) }

-- a block was pushed to the volume at a place
pub pushed : (hs : List Held) (p : ℕ) (old h : Held) (b : KeptBlock) → p < length hs → old ≡ get_or hs p old → h.volume ≡ old.volume → h.blocks.items ≡ old.blocks.items ++ b ∷ []
    → all_shown (set hs p h) ≡ with_block (all_shown hs) p (kept b)
pushed hs p old h b lt is v e =
    shown-more hs p h old (kept b) lt
    (same_but h old (old.blocks.items ++ b ∷ []) v e ∙ ap (λ bs. let w : Volume = shown old in record w { blocks = bs }) (map-append kept old.blocks.items (b ∷ []))
    ∙ ap (λ o. let w : Volume = shown o in record w { blocks = w.blocks ++ kept b ∷ [] }) is)

-- or none was
pub unpushed : (hs : List Held) (p : ℕ) (old h : Held) → p < length hs → old ≡ get_or hs p old → h.volume ≡ old.volume → h.blocks.items ≡ old.blocks.items → all_shown (set hs p h) ≡ all_shown hs
unpushed hs p old h lt is v e = shown-same hs p h old lt (same_but h old old.blocks.items v e ∙ ap shown is)

-- a block was put to the last volume
pub shown-last : (k : ℕ) (bytes : List ℕ) (hs : List Held) (p : ℕ) (h old : Held) → suc p ≡ length hs → old ≡ get_or hs p old → h.volume ≡ old.volume → all_kept h.blocks.items ≡ put k bytes (all_kept old.blocks.items)
    → all_shown (set hs p h) ≡ put_last k bytes (all_shown hs)
unfolding put_last
shown-last k bytes [] p h old at is v e = absurd (omega arith)
shown-last k bytes (x ∷ []) p h old at is v e =
    let first : p ≡ 0 = omega arith in
    let same : old ≡ x = is ∙ ap (λ n. get_or (x ∷ []) n old) first in
    ap (λ n. all_shown (set (x ∷ []) n h)) first ∙ (λ i. (let w : Volume = record { volume = (v i).volume.0; server = (v i).server; tracks = (v i).tracks; blocks = e i } in w) ∷ [])
    ∙ ap (λ (o : Held). let w : Volume = shown o in record w { blocks = put k bytes w.blocks } ∷ []) same
shown-last k bytes (x ∷ y ∷ hs) zero h old at is v e = absurd (omega arith)
shown-last k bytes (x ∷ y ∷ hs) (suc p) h old at is v e = ap (λ vs. shown x ∷ vs) (shown-last k bytes (y ∷ hs) p h old (omega arith) is v e)

-- a volume whose blocks show as before
pub shown-kept : (hs : List Held) (p : ℕ) (old h : Held) → p < length hs → old ≡ get_or hs p old → h.volume ≡ old.volume → all_kept h.blocks.items ≡ all_kept old.blocks.items → all_shown (set hs p h) ≡ all_shown hs
shown-kept hs p old h lt is v e =
    shown-same hs p h old lt ((λ i. let w : Volume = record { volume = (v i).volume.0; server = (v i).server; tracks = (v i).tracks; blocks = e i } in w) ∙ ap shown is)
