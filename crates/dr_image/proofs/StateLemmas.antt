-- The lines of a text, one by one.
use Rattle.std.proofs.Common.{◌≡◌, ◌<◌, ◌≤◌, ◌+◌, ℕ, zero, suc, true, false, List, [], ◌∷◌, length, get_or, ap, sym, subst, ◌∙◌, arith, Option, Some, None, nat_lt, nat_le}
use Rattle.std.proofs.lemmas.Bool.Decides.{nat_tests}
use Rattle.std.specs.Prelude.{All}
use Rattle.std.specs.List.{slice_get, list_all}
use Rattle.std.specs.Option.{is_some, option_map}
use Rattle.std.proofs.lemmas.Option.{slice_get-map}
use Rattle.std.proofs.lemmas.Bool.{and_parts}
use Rattle.dr_ids.specs.Sizes.{blocks_of}
use Rattle.dr_model.specs.LineWords.{◌>>=◌}
use Rattle.dr_model.specs.PlantImage.{Kept, Volume, Placed, State, place_of, can_fill, fill, fill_at, or_bad}
use Rattle.dr_image.specs.declared.held.Held.{Held}
use Rattle.dr_image.specs.Shown.{shown, all_shown}
use Rattle.dr_image.specs.Lines.{moved}

-- what holds of each holds of the one at a place
pub all_got : {X : Type 0} (P : X → Type 0) (xs : List X) (i : ℕ) (x : X) → All P xs → slice_get xs i ≡ Some x → P x
all_got P [] i x h e = cc
all_got P (y ∷ ys) zero x h e = let is : y ≡ x = cc in subst P is (h zero y (omega arith))
all_got P (y ∷ ys) (suc i) x h e = all_got P ys i x (λ k d within. h (suc k) d (omega arith)) e

got_item : {X : Type 0} (xs : List X) (i : ℕ) (x : X) → i < length xs → x ≡ get_or xs i x → slice_get xs i ≡ Some x
got_item [] i x lt e = absurd (omega arith)
got_item (y ∷ ys) zero x lt e = ap Some (sym e)
got_item (y ∷ ys) (suc i) x lt e = got_item ys i x (omega arith) e

-- the volume at a place
pub got : (hs : List Held) (p : ℕ) (h : Held) → p < length hs → h ≡ get_or hs p h → slice_get (all_shown hs) p ≡ Some (shown h)
got hs p h lt e = slice_get-map shown hs p ∙ ap (option_map shown) (got_item hs p h lt e)

-- a block is filled in at the place of its volume
pub fill-at : (s : State) (said : Placed) (p : ℕ) (w : Volume) → place_of s.volumes said.volume ≡ Some p → slice_get s.volumes p ≡ Some w → fill s said ≡ fill_at s said.block p w
unfolding fill
fill-at s said p w at is =
    ap (λ o. o >>= λ q. slice_get s.volumes q >>= λ v. fill_at s said.block q v) at ∙ ap (λ o. o >>= λ v. fill_at s said.block p v) is

pub fill-none : (s : State) (said : Placed) → place_of s.volumes said.volume ≡ None → fill s said ≡ None
unfolding fill
fill-none s said none = ap (λ o. o >>= λ q. slice_get s.volumes q >>= λ v. fill_at s said.block q v) none

-- a line that can't stand changes nothing
pub not_taken : (o : Option State) (s : State) → o ≡ None → (false ≡ is_some o) × (s ≡ moved o s)
not_taken o s none = (ap is_some (sym none), ap (λ x. moved x s) (sym none))

pub taken : (o : Option State) (s t : State) → o ≡ Some t → (true ≡ is_some o) × (t ≡ moved o s)
taken o s t some = (ap is_some (sym some), ap (λ x. moved x s) (sym some))

-- a line more
pub stepped : (s new : State) (o : Option State) → true ≡ is_some o → new ≡ moved o s → (let t : State = new in record t { line = s.line + 1 }) ≡ or_bad s o
stepped s new None some is = absurd (cc)
stepped s new (Some t) some is = ap (λ (u : State). record u { line = s.line + 1 }) is

-- a block that can be filled in: its volume's place, its number, and the blocks before it
pub can_fill-place : (from p : ℕ) (w : Volume) (b : Kept) → can_fill from p w b ≡ true → from ≤ p
unfolding can_fill
can_fill-place from p w b e = let le = (and_parts (nat_le from p) _ e).0 in grind (arith, nat_tests, le)

pub can_fill-index : (from p : ℕ) (w : Volume) (b : Kept) → can_fill from p w b ≡ true → b.index < blocks_of w.tracks
unfolding can_fill
can_fill-index from p w b e = let lt = (and_parts (nat_lt b.index (blocks_of w.tracks)) _ (and_parts (nat_le from p) _ e).1).0 in grind (arith, nat_tests, lt)

pub can_fill-behind : (from p : ℕ) (w : Volume) (b : Kept) → can_fill from p w b ≡ true → list_all (λ c. nat_lt c.index b.index) w.blocks ≡ true
unfolding can_fill
can_fill-behind from p w b e = (and_parts (nat_lt b.index (blocks_of w.tracks)) _ (and_parts (nat_le from p) _ e).1).1
