-- A device from its blocks that aren't all zero.
use Rattle.std.proofs.Common.{ℕ, zero, suc, ◌≡◌, ◌≢◌, ◌≤◌, ◌<◌, ◌+◌, Bool, true, false, not, ◌&&◌, cond, arith, List, [], ◌∷◌, ◌++◌, length, replicate, refl, sym, ◌∙◌, ap, subst, nat_eq, inl, inr, append_assoc}
use Rattle.std.specs.Prelude.{All, AllPairs, if◌then◌else◌, ◌==◌}
use Rattle.std.specs.List.{list_all}
use Rattle.std.specs.FinSet.{contains}
use Rattle.std.proofs.lemmas.List.Elements.{All-append, All-get_or, All-cons, All-nil}
use Rattle.std.proofs.lemmas.List.Quantifiers.{all_pairs_push}
use Rattle.std.proofs.lemmas.List.{append-nil, map-append}
use Rattle.dr_logic.specs.Bytes.{zeros}
use Rattle.std.proofs.lemmas.Bool.Decides.{eqb_tells}
use Rattle.dr_ids.specs.Sizes.{blocks_of, record_blocks, track_block}
use Rattle.dr_facts.proofs.Tables.{IsOrNot}
use Rattle.dr_model.specs.declared.event.Event.TheVariants.{ImageBlock}
use Rattle.dr_model.specs.Layout as layout
use Rattle.dr_model.specs.Layout.{Blocks, Fields, slot_chosen, slot_begin, chosen, fields, staged, physical, is_staged}
use Rattle.dr_model.specs.Listed.{kept_if, kept_blocks}
use Rattle.dr_model.specs.PlantImage.{Kept, IsKept, block_in}
use Rattle.dr_model.specs.Text.{trimmed, before_trimmed}
use Rattle.dr_listing.specs.Told.{kept_lines, has_bytes, IsBlock, AreBlocks}

-- ---- one block

-- before others that are kept, by whether it is zero
abbrev before : Bool → ℕ → List ℕ → List ℕ
before z b [] = cond z [] (b ∷ [])
before z b (c ∷ cs) = b ∷ c ∷ cs

-- a block is kept where its bytes aren't all zero
pub none-zero : (bytes : List ℕ) → not (list_all (λ b. b == 0) bytes) ≡ has_bytes (trimmed bytes)
none-zero [] = refl
none-zero (b ∷ bs) = by (nat_eq b 0) (trimmed bs) (none-zero bs)
  where
    by : (z : Bool) (rest : List ℕ) → not (list_all (λ b. b == 0) bs) ≡ has_bytes rest → not (z && list_all (λ b. b == 0) bs) ≡ has_bytes (before z b rest)
    by true [] more = more
    by false [] more = refl
    by true (c ∷ cs) more = more
    by false (c ∷ cs) more = refl

-- its line
pub line-kept : (v k : ℕ) (bytes some : List ℕ) → kept_lines v (kept_if k bytes some) ≡ cond (has_bytes some) (ImageBlock v k bytes ∷ []) []
line-kept v k bytes [] = refl
line-kept v k bytes (b ∷ bs) = refl

-- where none is left, all are zero
trimmed-none : (bytes : List ℕ) → trimmed bytes ≡ [] → bytes ≡ replicate (length bytes) 0
trimmed-none [] none = refl
trimmed-none (b ∷ bs) none = by (trimmed bs) (eqb_tells b 0) none (trimmed-none bs)
  where
    by : (rest : List ℕ) → IsOrNot b 0 → before_trimmed b rest ≡ [] → (rest ≡ [] → bs ≡ replicate (length bs) 0) → b ∷ bs ≡ replicate (length (b ∷ bs)) 0
    by [] (inl is) none more = (λ i. is.1 i ∷ more refl i)
    by [] (inr other) none more = absurd (let e : b ∷ [] ≡ [] = sym (ap (λ z. cond z [] (b ∷ [])) other.0) ∙ none in cc)
    by (c ∷ cs) is none more = absurd cc

pub all-zero : (bytes : List ℕ) → IsBlock bytes → trimmed bytes ≡ [] → zeros ≡ bytes
unfolding zeros
all-zero bytes block none = sym (trimmed-none bytes none ∙ ap (λ n. replicate n 0) block.whole)

-- ---- the blocks of a device

-- the block that comes last is found there
one-kept : (k : ℕ) (bytes some : List ℕ) → (some ≡ [] → zeros ≡ bytes) → block_in (kept_if k bytes some) k ≡ bytes
one-kept k bytes [] none = none refl
one-kept k bytes (b ∷ bs) none = ap (λ t. cond t bytes zeros) (let e : nat_eq k k ≡ true = grind (arith) in e)

-- and no other
none-kept : (k n : ℕ) (bytes some : List ℕ) → nat_eq n k ≡ false → block_in (kept_if n bytes some) k ≡ zeros
none-kept k n bytes [] other = refl
none-kept k n bytes (b ∷ bs) other = ap (λ t. cond t bytes zeros) other

first-kept : (xs ys : List Kept) (k : ℕ) → block_in ys k ≡ zeros → block_in (xs ++ ys) k ≡ block_in xs k
first-kept [] ys k none = none
first-kept (x ∷ xs) ys k none = ap (λ r. cond (nat_eq x.index k) x.bytes r) (first-kept xs ys k none)

-- of blocks up to n none is n's own
above-kept : (n k : ℕ) (blocks : Blocks) (ys : List Kept) → n ≤ k → block_in (kept_blocks n blocks ++ ys) k ≡ block_in ys k
above-kept zero k blocks ys low = refl
above-kept (suc n) k blocks ys low =
    let other : nat_eq n k ≡ false = (let lt : n < k = omega (arith, low) in grind (arith, lt)) in
    ap (λ xs. block_in xs k) (append_assoc (kept_blocks n blocks) (kept_if n (blocks n) (trimmed (blocks n))) ys)
    ∙ above-kept n k blocks (kept_if n (blocks n) (trimmed (blocks n)) ++ ys) (omega (arith, low))
    ∙ skip (trimmed (blocks n)) other
  where
    skip : (some : List ℕ) → nat_eq n k ≡ false → block_in (kept_if n (blocks n) some ++ ys) k ≡ block_in ys k
    skip [] other = refl
    skip (b ∷ bs) other = ap (λ t. cond t (blocks n) (block_in ys k)) other

-- each block of a device is that of its image
pub same-block : (n k : ℕ) (blocks : Blocks) → AreBlocks n blocks → k < n → block_in (kept_blocks n blocks) k ≡ blocks k
same-block zero k blocks all low = absurd (omega (arith, low))
same-block (suc n) k blocks all low = by (eqb_tells n k) (λ l. same-block n k blocks (λ q l. all q (omega (arith, l))) l)
  where
    by : IsOrNot n k → (k < n → block_in (kept_blocks n blocks) k ≡ blocks k) → block_in (kept_blocks n blocks ++ kept_if n (blocks n) (trimmed (blocks n))) k ≡ blocks k
    by (inl is) below =
        subst (λ q. block_in (kept_blocks n blocks ++ kept_if n (blocks n) (trimmed (blocks n))) q ≡ blocks q) is.1
        (above-kept n n blocks (kept_if n (blocks n) (trimmed (blocks n))) (omega arith) ∙ one-kept n (blocks n) (trimmed (blocks n)) (all-zero (blocks n) (all n (omega arith))))
    by (inr other) below =
        first-kept (kept_blocks n blocks) (kept_if n (blocks n) (trimmed (blocks n))) k (none-kept k n (blocks n) (trimmed (blocks n)) other.0)
        ∙ below (let ne = other.1 in omega (arith, low, ne))

-- the lines of one block more
pub kept-next : (v n : ℕ) (blocks : Blocks) → kept_lines v (kept_blocks (n + 1) blocks) ≡ kept_lines v (kept_blocks n blocks) ++ kept_lines v (kept_if n (blocks n) (trimmed (blocks n)))
kept-next v n blocks =
    ap (λ k. kept_lines v (kept_blocks k blocks)) (let e : n + 1 ≡ suc n = omega arith in e)
    ∙ map-append (λ (b : Kept). ImageBlock v b.index b.bytes) (kept_blocks n blocks) (kept_if n (blocks n) (trimmed (blocks n)))

pub blocks-next : (n : ℕ) (blocks : Blocks) → AreBlocks n blocks → IsBlock (blocks n) → AreBlocks (n + 1) blocks
blocks-next n blocks all one k low = by (eqb_tells k n) (λ ne. all k (omega (arith, low, ne)))
  where
    by : IsOrNot k n → (k ≢ n → IsBlock (blocks k)) → IsBlock (blocks k)
    by (inl is) more = subst (λ q. IsBlock (blocks q)) (sym is.1) one
    by (inr other) more = more other.1

-- what is kept is whole
pub kept-whole : (m n : ℕ) (blocks : Blocks) → AreBlocks n blocks → n ≤ m → All (IsKept m) (kept_blocks n blocks)
kept-whole m zero blocks all low = All-nil (IsKept m)
kept-whole m (suc n) blocks all low =
    All-append (IsKept m) (kept_blocks n blocks) (kept_if n (blocks n) (trimmed (blocks n))) (kept-whole m n blocks (λ q l. all q (omega (arith, l))) (omega (arith, low))) (by (trimmed (blocks n)) refl)
  where
    by : (some : List ℕ) → trimmed (blocks n) ≡ some → All (IsKept m) (kept_if n (blocks n) some)
    by [] is = All-nil (IsKept m)
    by (b ∷ bs) is = All-cons (IsKept m) (record { index = n; bytes = blocks n }) [] (record { within = omega (arith, low); whole = (all n (omega arith)).whole; bytes = (all n (omega arith)).small; some = λ none. let e : b ∷ bs ≡ [] = sym is ∙ none in absurd cc }) (All-nil (IsKept m))

below-kept : (n : ℕ) (blocks : Blocks) → All (λ (b : Kept). b.index < n) (kept_blocks n blocks)
below-kept zero blocks = All-nil (λ (b : Kept). b.index < zero)
below-kept (suc n) blocks =
    All-append (λ (b : Kept). b.index < suc n) (kept_blocks n blocks) (kept_if n (blocks n) (trimmed (blocks n))) (λ i d l. let low = below-kept n blocks i d l in omega (arith, low)) (by (trimmed (blocks n)))
  where
    by : (some : List ℕ) → All (λ (b : Kept). b.index < suc n) (kept_if n (blocks n) some)
    by [] = All-nil (λ (b : Kept). b.index < suc n)
    by (b ∷ bs) = All-cons (λ (b : Kept). b.index < suc n) (record { index = n; bytes = blocks n }) [] (omega arith) (All-nil (λ (b : Kept). b.index < suc n))

-- and in order
pub kept-ordered : (n : ℕ) (blocks : Blocks) → AllPairs (λ (b c : Kept). b.index < c.index) (kept_blocks n blocks)
kept-ordered zero blocks = λ i j d a b. absurd (omega (arith, b))
kept-ordered (suc n) blocks = by (trimmed (blocks n)) (kept-ordered n blocks)
  where
    by : (some : List ℕ) → AllPairs (λ (b c : Kept). b.index < c.index) (kept_blocks n blocks) → AllPairs (λ (b c : Kept). b.index < c.index) (kept_blocks n blocks ++ kept_if n (blocks n) some)
    by [] before = subst (AllPairs (λ (b c : Kept). b.index < c.index)) (sym (append-nil (kept_blocks n blocks))) before
    by (b ∷ bs) before = all_pairs_push (λ (b c : Kept). b.index < c.index) (kept_blocks n blocks) (record { index = n; bytes = blocks n }) before (λ k d l. All-get_or (λ (b : Kept). b.index < n) (kept_blocks n blocks) k d l (below-kept n blocks))

-- ---- what a device says, by its first blocks

abbrev pub Agree : ℕ → Blocks → Blocks → Type 0
Agree n x y = (k : ℕ) → k < n → x k ≡ y k

-- the slot and its blocks
pub slot-agrees : (x y : Blocks) → Agree record_blocks x y → slot_chosen x ≡ slot_chosen y
slot-agrees x y same = ap (λ bytes. layout.bit (layout.byte bytes 0) 0) (same 0 (omega arith))

pub chosen-agrees : (x y : Blocks) (k : ℕ) → Agree record_blocks x y → k < 6 → chosen x k ≡ chosen y k
chosen-agrees x y k same low = ap (λ s. x (slot_begin s + k)) (slot-agrees x y same) ∙ by (slot_chosen y)
  where
    by : (s : Bool) → x (slot_begin s + k) ≡ y (slot_begin s + k)
    by true = same (7 + k) (omega (arith, low))
    by false = same (1 + k) (omega (arith, low))

-- five blocks in a row
five : (a b c d e : List ℕ) → Blocks
five a b c d e zero = a
five a b c d e (suc zero) = b
five a b c d e (suc (suc zero)) = c
five a b c d e (suc (suc (suc zero))) = d
five a b c d e (suc (suc (suc (suc k)))) = e

fields-five : (n : ℕ) (x : Blocks) → layout.fields_of n x ≡ layout.fields_of n (five (x 0) (x 1) (x 2) (x 3) (x 4))
unfolding layout.fields_of five
fields-five n x = refl

pub fields-agree : (n : ℕ) (x y : Blocks) → Agree record_blocks x y → fields n x ≡ fields n y
fields-agree n x y same =
    let e : (k : ℕ) → k < 6 → chosen x k ≡ chosen y k = (λ k low. chosen-agrees x y k same low) in
    fields-five n (chosen x)
    ∙ (λ i. layout.fields_of n (five (e 0 (omega arith) i) (e 1 (omega arith) i) (e 2 (omega arith) i) (e 3 (omega arith) i) (e 4 (omega arith) i)))
    ∙ sym (fields-five n (chosen y))

staged-five : (n : ℕ) (x : Blocks) → layout.staged_of n x ≡ layout.staged_of n (λ k. x 0)
unfolding layout.staged_of
staged-five n x = refl

pub staged-agrees : (n : ℕ) (x y : Blocks) → Agree record_blocks x y → staged n x ≡ staged n y
staged-agrees n x y same = staged-five n (chosen x) ∙ ap (λ b. layout.staged_of n (λ k. b)) (chosen-agrees x y 0 same (omega arith)) ∙ sym (staged-five n (chosen y))

-- and what a track contains
pub physical-agrees : (n t : ℕ) (x y : Blocks) → Agree (blocks_of n) x y → t < n → physical n x t ≡ physical n y t
unfolding physical
physical-agrees n t x y same low =
    let head : Agree record_blocks x y = (λ k l. same k (omega (arith, l))) in
    let own : x (track_block t) ≡ y (track_block t) = same (track_block t) (omega (arith, low)) in
    let kept : chosen x 5 ≡ chosen y 5 = chosen-agrees x y 5 head (omega arith) in
    (λ i. if is_staged (staged-agrees n x y head i) t then kept i else if contains (fields-agree n x y head i).blank t then zeros else own i)
