-- The lines so far fit an image, and are few, whatever comes.
use Rattle.std.proofs.Common.{ℕ, zero, suc, ◌≡◌, ◌<◌, ◌≤◌, ◌+◌, ◌*◌, ◌^◌, List, [], ◌∷◌, ◌++◌, length, refl, ap, sym, subst, arith, Bool, true, nat_lt, Some, None, Option, inl, inr, length-append}
use Rattle.std.specs.Prelude.{All}
use Rattle.std.specs.List.{list_all, slice_get}
use Rattle.std.proofs.lemmas.Bool.Decides.{nat_tests}
use Rattle.std.proofs.lemmas.List.Elements.{All-nil, All-cons, All-head, All-tail, All-push, All-weaker}
use Rattle.std.proofs.lemmas.Bool.{and_parts}
use Rattle.dr_model.specs.PlantImage.{Kept, Volume, Stage, Start, Listing, Filling, Ended, Bad, State, IsKept, can_join, can_fill, with_block, after_line, or_bad, step}
use Rattle.dr_image.specs.Sound.{IsSoundImage, IsSoundVolume, IsRead}
use Rattle.dr_image.specs.Reader.{IsState, kept_count, other_lines}
use Rattle.dr_image.proofs.OrderLemmas.{InOrder, order_head, order_tail}
use Rattle.dr_image.proofs.SoundLemmas.{order_append, pairs_cons, pairs_nil}
use Rattle.dr_image.proofs.StateLemmas.{all_got, can_fill-index, can_fill-behind}
use Rattle.dr_image.proofs.WordLaws.{IsBlock}
use Rattle.dr_image.proofs.LineLaws.{IsNew, IsOpen, Came, Begun, Closed, Joined, Filled, came}

pub all_from_test : {X : Type 0} (p : X → Bool) (xs : List X) → list_all p xs ≡ true → All (λ x. p x ≡ true) xs
all_from_test p [] e = All-nil (λ x. p x ≡ true)
all_from_test p (x ∷ xs) e = let h = and_parts (p x) (list_all p xs) e in All-cons (λ y. p y ≡ true) x xs h.0 (all_from_test p xs h.1)

-- the volume that gets a block more
abbrev pub more : Volume → Kept → Volume
more w b = record w { blocks = w.blocks ++ b ∷ [] }

-- what holds of each and of the volume with its block holds afterwards
pub all-with_block : (P : Volume → Type 0) (vs : List Volume) (p : ℕ) (w : Volume) (b : Kept) → slice_get vs p ≡ Some w → P (more w b) → All P vs → All P (with_block vs p b)
unfolding with_block
all-with_block P [] p w b e h all = absurd (cc)
all-with_block P (v ∷ vs) zero w b e h all =
    let is : v ≡ w = cc in
    All-cons P (more v b) vs (subst (λ (x : Volume). P (more x b)) (sym is) h) (All-tail P v vs all)
all-with_block P (v ∷ vs) (suc p) w b e h all = All-cons P v (with_block vs p b) (All-head P v vs all) (all-with_block P vs p w b e h (All-tail P v vs all))

pub length-with_block : (vs : List Volume) (p : ℕ) (b : Kept) → length (with_block vs p b) ≡ length vs
unfolding with_block
length-with_block [] p b = refl
length-with_block (v ∷ vs) zero b = refl
length-with_block (v ∷ vs) (suc p) b = ap suc (length-with_block vs p b)

pub kept_count-with_block : (vs : List Volume) (p : ℕ) (w : Volume) (b : Kept) → slice_get vs p ≡ Some w → kept_count (with_block vs p b) ≡ kept_count vs + 1
unfolding with_block
kept_count-with_block [] p w b e = absurd (cc)
kept_count-with_block (v ∷ vs) zero w b e = let n = length-append v.blocks (b ∷ []) in omega arith
kept_count-with_block (v ∷ vs) (suc p) w b e = let i = kept_count-with_block vs p w b e in omega arith

pub kept_count-push : (vs : List Volume) (v : Volume) → v.blocks ≡ [] → kept_count (vs ++ v ∷ []) ≡ kept_count vs
kept_count-push [] v none = let z : length v.blocks ≡ 0 = ap length none in omega arith
kept_count-push (w ∷ vs) v none = let i = kept_count-push vs v none in omega arith

-- a new volume is sound
pub new-sound : (v : Volume) → IsNew v → IsSoundVolume v
new-sound v n = record {
  volume = n.volume;
  server = (let s = n.server in omega arith);
  tracks = (let t = n.tracks in omega arith);
  kept = subst (λ (bs : List Kept). All (IsKept 65536) bs) (sym n.blocks) (All-nil (IsKept 65536));
  in_order = subst InOrder (sym n.blocks) (pairs_nil (λ (x : Kept) (y : Kept). x.index < y.index));
}

-- blocks in order with one behind them
pub order-push : (bs : List Kept) (b : Kept) → InOrder bs → list_all (λ c. nat_lt c.index b.index) bs ≡ true → InOrder (bs ++ b ∷ [])
order-push bs b o behind =
    order_append bs (b ∷ []) o (pairs_cons (λ (x : Kept) (y : Kept). x.index < y.index) b [] (All-nil (λ (y : Kept). b.index < y.index)) (pairs_nil (λ (x : Kept) (y : Kept). x.index < y.index)))
    (All-weaker (λ (c : Kept). nat_lt c.index b.index ≡ true) (λ (c : Kept). All (λ (y : Kept). c.index < y.index) (b ∷ []))
    (λ c e. All-cons (λ (y : Kept). c.index < y.index) b [] (grind (arith, nat_tests)) (All-nil (λ (y : Kept). c.index < y.index))) bs (all_from_test (λ (c : Kept). nat_lt c.index b.index) bs behind))

-- a volume with a block more is sound
pub more-sound : (from p : ℕ) (w : Volume) (b : Kept) → IsSoundVolume w → w.tracks ≤ 256 → IsBlock b.bytes → can_fill from p w b ≡ true → IsSoundVolume (more w b)
more-sound from p w b s few block fits = record {
  volume = s.volume;
  server = s.server;
  tracks = s.tracks;
  kept = All-push (IsKept 65536) w.blocks b s.kept (record { within = (let i = can_fill-index from p w b fits in omega arith); whole = block.whole; bytes = block.bytes; some = block.some });
  in_order = order-push w.blocks b s.in_order (can_fill-behind from p w b fits);
}

pub other_lines-most : (stage : Stage) → other_lines stage ≤ 3
other_lines-most Start = omega arith
other_lines-most Listing = omega arith
other_lines-most Filling = omega arith
other_lines-most Ended = omega arith
other_lines-most Bad = omega arith

open_lines : (stage : Stage) → IsOpen stage → other_lines stage ≡ 2
open_lines stage (inl e) = ap other_lines e
open_lines stage (inr e) = ap other_lines e

pub read-push : (vs : List Volume) (v : Volume) → IsRead vs → IsNew v → IsRead (vs ++ v ∷ [])
read-push vs v r n = record { sound = All-push IsSoundVolume vs v r.sound (new-sound v n); tracks = All-push (λ (w : Volume). w.tracks ≤ 256) vs v r.tracks n.tracks }

pub read-with_block : (vs : List Volume) (from p : ℕ) (w : Volume) (b : Kept) → IsRead vs → slice_get vs p ≡ Some w → IsBlock b.bytes → can_fill from p w b ≡ true → IsRead (with_block vs p b)
read-with_block vs from p w b r at block fits =
    let few : w.tracks ≤ 256 = all_got (λ (v : Volume). v.tracks ≤ 256) vs p w r.tracks at in
    record {
      sound = all-with_block IsSoundVolume vs p w b at (more-sound from p w b (all_got IsSoundVolume vs p w r.sound at) few block fits) r.sound;
      tracks = all-with_block (λ (v : Volume). v.tracks ≤ 256) vs p w b at few r.tracks;
    }

pub can_join-few : (vs : List Volume) (v : Volume) → can_join vs v ≡ true → length vs < 64
unfolding can_join
can_join-few vs v e = let t = (and_parts (nat_lt (length vs) 64) _ e).0 in grind (arith, nat_tests)

came-state : (s t : State) (line : List ℕ) → IsState s → Came s line t → IsState (record t { line = s.line + 1 })
came-state s t line i (Begun stage is t_is) =
    let o : other_lines s.stage ≡ 1 = ap other_lines stage in
    let l = i.line in
    let P : State → Type 0 = λ u. IsState (record u { line = s.line + 1 }) in
    subst P (sym t_is) (record { read = i.read; few = i.few; line = omega arith })
came-state s t line i (Closed stage is t_is) =
    let o = open_lines s.stage stage in
    let l = i.line in
    let P : State → Type 0 = λ u. IsState (record u { line = s.line + 1 }) in
    subst P (sym t_is) (record { read = i.read; few = i.few; line = omega arith })
came-state s t line i (Joined v stage is new fits t_is) =
    let o : other_lines s.stage ≡ 2 = ap other_lines stage in
    let l = i.line in
    let n = length-append s.volumes (v ∷ []) in
    let k = kept_count-push s.volumes v new.blocks in
    let f = can_join-few s.volumes v fits in
    let P : State → Type 0 = λ u. IsState (record u { line = s.line + 1 }) in
    subst P (sym t_is) (record { read = read-push s.volumes v i.read new; few = omega arith; line = omega arith })
came-state s t line i (Filled said p w stage is block at there fits t_is) =
    let o = open_lines s.stage stage in
    let l = i.line in
    let n = length-with_block s.volumes p said.block in
    let k = kept_count-with_block s.volumes p w said.block there in
    let f = i.few in
    let P : State → Type 0 = λ u. IsState (record u { line = s.line + 1 }) in
    subst P (sym t_is) (record { read = read-with_block s.volumes s.place p w said.block i.read there block fits; few = omega arith; line = omega arith })

bad_line : (s : State) → s.line ≤ other_lines s.stage + length s.volumes + kept_count s.volumes → s.line ≤ 3 + length s.volumes + kept_count s.volumes
bad_line s l = let m = other_lines-most s.stage in omega arith

or_bad-state : (s : State) (line : List ℕ) (o : Option State) → IsState s → after_line s line ≡ o → IsState (or_bad s o)
or_bad-state s line None i e = record { read = i.read; few = i.few; line = bad_line s i.line }
or_bad-state s line (Some t) i e = came-state s t line i (came s t line e)

pub step-state : (s : State) (line : List ℕ) → IsState s → IsState (step s line)
unfolding step
step-state s line i = or_bad-state s line (after_line s line) i refl

-- no more blocks than numbers for them
ascends : (m n : ℕ) (bs : List Kept) → InOrder bs → All (λ b. m ≤ b.index) bs → All (λ b. b.index < n) bs → m ≤ n → length bs + m ≤ n
ascends m n [] o low high le = omega arith
ascends m n (b ∷ bs) o low high le =
    let first : m ≤ b.index = All-head (λ (c : Kept). m ≤ c.index) b bs low in
    let last : b.index < n = All-head (λ (c : Kept). c.index < n) b bs high in
    let rest = ascends (b.index + 1) n bs (order_tail b bs o) (All-weaker (λ (c : Kept). b.index < c.index) (λ (c : Kept). b.index + 1 ≤ c.index) (λ c lt. omega arith) bs (order_head b bs o)) (All-tail (λ (c : Kept). c.index < n) b bs high) (omega arith) in
    omega arith

all_low : (bs : List Kept) → All (λ b. 0 ≤ b.index) bs
all_low bs = λ k d within. omega arith

few_kept : (v : Volume) → IsSoundVolume v → length v.blocks ≤ 65536
few_kept v s =
    let h = ascends 0 65536 v.blocks s.in_order (all_low v.blocks) (All-weaker (IsKept 65536) (λ (b : Kept). b.index < 65536) (λ b k. k.within) v.blocks s.kept) (omega arith) in
    omega arith

kept_count-most : (vs : List Volume) → IsSoundImage vs → kept_count vs ≤ 65536 * length vs
kept_count-most [] s = omega arith
kept_count-most (v ∷ vs) s = let h = few_kept v (All-head IsSoundVolume v vs s) in let i = kept_count-most vs (All-tail IsSoundVolume v vs s) in omega arith

-- so the number of a line is small
pub line-small : (s : State) → IsState s → s.line < 2 ^ 31
line-small s i =
    let m = kept_count-most s.volumes i.read.sound in
    let o = other_lines-most s.stage in
    let f = i.few in
    let l = i.line in
    omega arith
