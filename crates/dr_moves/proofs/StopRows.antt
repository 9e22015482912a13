-- A stop tells no more of a move than its end does, so that there is room for it where there is for that and one event more.
use Rattle.std.proofs.Common.{ℕ, ◌≤◌, ◌+◌, arith, length}
use Rattle.std.specs.Prelude.{max}
use Rattle.dr_model.specs.Control.{Volume}
use Rattle.dr_model.specs.Moves.{Move, Land, Overwrite, LandBoth, told}
use Rattle.dr_moves.specs.Made.{room_for}

few : (a b n : ℕ) → a + 1 ≤ n → b ≤ a → max a (b + 1) ≤ n
few a b n h k = grind (arith, h, k)

pub room-few : (m : Move) (x : Volume) (n : ℕ) → length (told m x) + 1 ≤ n → room_for m x ≤ n
room-few (Land w v t) x n h = few 1 0 n h (omega arith)
room-few (Overwrite w v t) x n h = few 1 0 n h (omega arith)
room-few (LandBoth w v t) x n h = few 1 0 n h (omega arith)
room-few m x n h = few (length (told m x)) (length (told m x)) n h (omega arith)
