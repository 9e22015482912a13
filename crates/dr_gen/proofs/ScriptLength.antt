-- How long the script of a trial is at most.
use Rattle.std.proofs.Common.{◌≡◌, ℕ, suc, zero, ◌+◌, ◌-◌, ◌*◌, ◌<◌, ◌≤◌, ◌%◌, List, [], ◌∷◌, ◌++◌, length, arith, refl, ap, ◌∙◌, Bool, true, false, cond}
use Rattle.std.specs.Prelude.{nat_eq, nat_lt, codes, ◌^◌}
use Rattle.std.specs.Fmt.{decimal}
use Rattle.dr_ids.specs.Spelling.{hex2}
use Rattle.std.proofs.lemmas.Fmt.{length-decimal-le}
use Rattle.std.proofs.lemmas.List.{length-append}
use Rattle.dr_gen.specs.declared.rounds.Round.{Round}
use Rattle.dr_gen.specs.declared.rounds.Round.TheVariants.{Write, Drain, Exchange, Abort, Restart, Run}
use Rattle.dr_gen.specs.Trial.{ended, head, last, lines_of, rounds, round_at, round_lines, tried_again, writes_of, after_draws, draw, draws_of, volume_word, server_word, script_text}
use Rattle.dr_facts.proofs.Texts.{ended-append}
use Rattle.dr_gen.proofs.RoundLemmas.{one_write}

either_long : (n : ℕ) (b : Bool) (x y : List ℕ) → length x ≡ n → length y ≡ n → length (cond b x y) ≡ n
either_long n true x y first second = first
either_long n false x y first second = second

volume_long : (v : ℕ) → length (volume_word v) ≡ 4
volume_long v = either_long 4 (nat_eq v 0) _ _ refl (either_long 4 (nat_eq v 1) _ _ refl (either_long 4 (nat_eq v 2) _ _ refl refl))

server_long : (s : ℕ) → length (server_word s) ≡ 2
server_long s = either_long 2 (nat_eq s 0) _ _ refl refl

-- the numbers that a round is drawn with: a track of four, and an offset of 64
abbrev IsSmall : Round → Type 0
IsSmall (Write volume track offset byte) = (track < 4) × (offset < 64)
IsSmall _ = Unit {0}

either_small : (b : Bool) (r s : Round) → IsSmall r → IsSmall s → IsSmall (cond b r s)
either_small true r s first second = first
either_small false r s first second = second

below : (n m : ℕ) → 0 < m → n % m < m
below n m some = omega (arith, some)

small_at : (x : ℕ) → IsSmall (round_at x)
unfolding round_at
small_at x =
    either_small (nat_lt (draw x 1 10) 5) _ _ (below _ 4 (omega arith), below _ 64 (omega arith))
    (either_small (nat_eq (draw x 1 10) 5) _ _ tt
    (either_small (nat_lt (draw x 1 10) 8) _ _ tt
    (either_small (nat_eq (draw x 1 10) 8) _ _ tt
    (either_small (nat_eq (draw x 2 8) 0) _ _ tt tt))))

joined : (a b : List (List ℕ)) → length (ended (a ++ b)) ≡ length (ended a) + length (ended b)
joined a b = ap length (ended-append a b) ∙ length-append (ended a) (ended b)

one_line : (line : List ℕ) → length (ended (line ∷ [])) ≡ length line + 1
one_line line = length-append line (10 ∷ [])

digits : (k n : ℕ) → 0 < k → n < 10000 → n < 10 ^ k → length (decimal n) ≤ k
digits k n some few below = length-decimal-le k n some below (omega (arith, few))

spaced : (before word : List ℕ) → length (before ++ codes " " ++ word) ≡ length before + 1 + length word
spaced before word =
    let both = length-append (before ++ codes " ") word in
    let one = length-append before (codes " ") in
    omega (arith, both, one)

write_line_long : (v t o b : List ℕ) → length (ended ((codes "@write " ++ v ++ codes " " ++ t ++ codes " " ++ o ++ codes " " ++ b) ∷ [])) ≡ 11 + length v + length t + length o + length b
write_line_long v t o b =
    let end = one_line (codes "@write " ++ v ++ codes " " ++ t ++ codes " " ++ o ++ codes " " ++ b) in
    let zero = length-append (codes "@write ") v in
    let first = spaced (codes "@write " ++ v) t in
    let second = spaced (codes "@write " ++ v ++ codes " " ++ t) o in
    let third = spaced (codes "@write " ++ v ++ codes " " ++ t ++ codes " " ++ o) b in
    omega (arith, end, zero, first, second, third)

write_long : (volume track offset byte : ℕ) → track < 4 → offset < 64 → length (ended (round_lines (Write volume track offset byte))) ≤ 20
unfolding round_lines
write_long volume track offset byte few near =
    let t = digits 1 track (omega arith) (omega (arith, few)) (omega (arith, few)) in
    let o = digits 2 offset (omega arith) (omega (arith, near)) (omega (arith, near)) in
    let v = volume_long volume in
    let line = write_line_long (volume_word volume) (decimal track) (decimal offset) (hex2 byte) in
    omega (arith, t, o, v, line)

again_long : (j : ℕ) (b : Bool) → j ≤ 2000 → length (ended (cond b ((codes "@apply " ++ decimal (j - 32)) ∷ []) [])) ≤ 12
again_long j true few =
    let end = one_line (codes "@apply " ++ decimal (j - 32)) in
    let a = length-append (codes "@apply ") (decimal (j - 32)) in
    let d = digits 4 (j - 32) (omega arith) (omega (arith, few)) (omega (arith, few)) in
    omega (arith, end, a, d)
again_long j false few = omega arith

-- the lines of a round, with the second try behind its write
round_long : (j : ℕ) (r : Round) → j ≤ 2000 → IsSmall r → length (ended (round_lines r ++ tried_again j r)) ≤ 32
unfolding round_lines
round_long j (Write volume track offset byte) few small =
    let both = joined (round_lines (Write volume track offset byte)) (tried_again j (Write volume track offset byte)) in
    let write = write_long volume track offset byte small.0 small.1 in
    let again = again_long j (nat_lt 32 j) few in
    omega (arith, both, write, again)
round_long j (Drain volume) few small =
    let end = one_line (codes "@drain " ++ volume_word volume ++ codes " all") in
    let a = length-append (codes "@drain " ++ volume_word volume) (codes " all") in
    let b = length-append (codes "@drain ") (volume_word volume) in
    let v = volume_long volume in
    omega (arith, end, a, b, v)
round_long j (Exchange server) few small =
    let end = one_line (codes "@exchange 01 " ++ server_word server) in
    let a = length-append (codes "@exchange 01 ") (server_word server) in
    let s = server_long server in
    omega (arith, end, a, s)
round_long j Abort few small = omega arith
round_long j (Restart server) few small =
    let s = server_long server in
    let both = length-append (codes "@stop " ++ server_word server) (10 ∷ codes "@start " ++ server_word server ++ 10 ∷ []) in
    let a = length-append (codes "@stop ") (server_word server) in
    let b = length-append (codes "@start ") (server_word server ++ 10 ∷ []) in
    let c = length-append (server_word server) (10 ∷ []) in
    omega (arith, s, both, a, b, c)
round_long j Run few small = omega arith

rounds_long : (writes x n : ℕ) → writes + n ≤ 2000 → length (ended (lines_of writes (rounds x n))) ≤ 32 * n
unfolding rounds lines_of
rounds_long writes x zero few = omega arith
rounds_long writes x (suc n) few =
    let round : Round = round_at x in
    let others : List (List ℕ) = lines_of (writes + writes_of round) (rounds (after_draws x (draws_of round)) n) in
    let one = one_write round in
    let first = round_long (writes + 1) round (omega (arith, few)) (small_at x) in
    let rest = rounds_long (writes + writes_of round) (after_draws x (draws_of round)) n (omega (arith, few, one)) in
    let both = joined (round_lines round ++ tried_again (writes + 1) round) others in
    omega (arith, first, rest, both)

-- no script of a trial is longer than 66,000 bytes
pub script-length : (n : ℕ) → length (script_text n) ≤ 66000
unfolding script_text head
script-length n =
    let a = length-append (ended head) (ended (lines_of 0 (rounds n 2000)) ++ ended last) in
    let b = length-append (ended (lines_of 0 (rounds n 2000))) (ended last) in
    let h : length (ended head) ≤ 2000 = omega arith in
    let l : length (ended last) ≤ 100 = omega arith in
    let r = rounds_long 0 n 2000 (omega arith) in
    omega (arith, a, b, h, l, r)
