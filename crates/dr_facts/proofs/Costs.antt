-- How many events the end of a relationship, of a restore or of a hold tells.
use Rattle.std.proofs.Common.{ℕ, ◌≡◌, ◌≤◌, length, arith, filter, ◌+◌, ◌++◌, [], ◌∷◌, Bool, true, false, cond}
use Rattle.std.proofs.lemmas.List.{length-map, length-append}
use Rattle.std.proofs.lemmas.List.FromFn.{length-range_with_len}
use Rattle.std.specs.List.{range_with_len}
use Rattle.std.specs.FinSet.{contains}
use Rattle.dr_model.specs.declared.event.Event.TheVariants.{Blanked, Restored}
use Rattle.dr_model.specs.Layout.{Tracks}
use Rattle.dr_model.specs.Relations.{rest, in_order, is_bare}
use Rattle.dr_model.specs.Moves.{told_blank, told_restored, told_freed}
use Rattle.dr_logic.proofs.Lists.{filter-shorter}

pub in_order-short : (n : ℕ) (s : Tracks) → length (in_order n s) ≤ n
unfolding in_order
in_order-short n s =
    let le : length (filter (contains s) (range_with_len 0 n)) ≤ length (range_with_len 0 n) = filter-shorter (contains s) (range_with_len 0 n) in
    let e : length (range_with_len 0 n) ≡ n = length-range_with_len 0 n in omega arith

pub blanks-few : (v n : ℕ) (own : Tracks) → length (told_blank v n own) ≤ n
blanks-few v n own =
    let e : length (told_blank v n own) ≡ length (in_order n (rest n own)) = length-map (in_order n (rest n own)) (Blanked v) in
    let le : length (in_order n (rest n own)) ≤ n = in_order-short n (rest n own) in omega arith

-- the end of a restore tells of each track at most, and one event more
pub restored-by : (b : Bool) (v s n : ℕ) (own : Tracks) → length (cond b (told_blank v n own ++ Restored s v ∷ []) []) ≤ n + 1
restored-by true v s n own =
    let e : length (told_blank v n own ++ Restored s v ∷ []) ≡ length (told_blank v n own) + 1 = length-append (told_blank v n own) (Restored s v ∷ []) in
    let le : length (told_blank v n own) ≤ n = blanks-few v n own in omega arith
restored-by false v s n own = omega arith

pub restored-few : (v s n : ℕ) (own : Tracks) → length (told_restored v s n own) ≤ n + 1
restored-few v s n own = restored-by (is_bare own) v s n own

-- the end of a volume's holds tells one event at most
pub freed-few : (v : ℕ) (had : Bool) → length (told_freed v had) ≤ 1
freed-few v true = omega arith
freed-few v false = omega arith
