-- What pieces make together: those that a loop gave to a sink, and those that it took from a source.
use Rattle.std.proofs.Common.{◌≡◌, ℕ, ◌+◌, ◌-◌, List, length, arith, ◌++◌, take, drop, append_assoc}
use Rattle.std.proofs.Math.Seq.{take-add}
use Rattle.std.proofs.lemmas.Grind.{common_steps}
use Rattle.std.proofs.lemmas.List.{take-append-drop}

-- The first `at` bytes of a text and the next n, of the slice from `at` on, are its first at + n.
pub pieces_written : (out text : List ℕ) (at n : ℕ) → (out ++ take at text) ++ take n (take (length text - at) (drop at text)) ≡ out ++ take (at + n) text
pieces_written out text at n =
    let all : take (length text - at) (drop at text) ≡ drop at text = grind (arith, common_steps) in
    rw (all, append_assoc, take-add)

-- What was read, the next n bytes and the rest after them are what was read and all the rest.
pub pieces_read : (read into rest : List ℕ) (n : ℕ) → take n into ≡ take n rest → (read ++ take n into) ++ drop n rest ≡ read ++ rest
pieces_read read into rest n same = rw (append_assoc, same, take-append-drop)
