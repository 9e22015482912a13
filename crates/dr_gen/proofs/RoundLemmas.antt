-- The text of rounds, round by round.
use Rattle.std.proofs.Common.{◌≡◌, ℕ, suc, ◌+◌, List, [], ◌∷◌, ◌++◌, ◌≤◌, arith, refl, ap, sym, ◌∙◌, append_assoc, append-nil}
use Rattle.dr_gen.specs.declared.rounds.Round.{Round}
use Rattle.dr_gen.specs.declared.rounds.Round.TheVariants.{Write}
use Rattle.dr_gen.specs.Trial.{ended, lines_of, rounds, round_at, round_lines, tried_again, writes_of, after_draws, draws_of}
use Rattle.dr_facts.proofs.Texts.{ended-append}

-- what a round adds, and what those behind it add
pub one_round : (t : List ℕ) (writes x n : ℕ) →
    (t ++ ended (round_lines (round_at x) ++ tried_again (writes + 1) (round_at x))) ++ ended (lines_of (writes + writes_of (round_at x)) (rounds (after_draws x (draws_of (round_at x))) n))
    ≡ t ++ ended (lines_of writes (rounds x (suc n)))
unfolding rounds lines_of
one_round t writes x n =
    let first : List (List ℕ) = round_lines (round_at x) in
    let again : List (List ℕ) = tried_again (writes + 1) (round_at x) in
    let others : List (List ℕ) = lines_of (writes + writes_of (round_at x)) (rounds (after_draws x (draws_of (round_at x))) n) in
    append_assoc t (ended (first ++ again)) (ended others) ∙ ap (λ u. t ++ u) (sym (ended-append (first ++ again) others))

-- one round of those that are left was added
pub added : (t t' : List ℕ) (writes writes' x x' left left' : ℕ) (round : Round) → round ≡ round_at x → x' ≡ after_draws x (draws_of round) →
    t' ≡ t ++ ended (round_lines round ++ tried_again (writes + 1) round) → writes' ≡ writes + writes_of round → left ≡ suc left' →
    t' ++ ended (lines_of writes' (rounds x' left')) ≡ t ++ ended (lines_of writes (rounds x left))
added t t' writes writes' x x' left left' round is onward text counted one = let done = one_round t writes x left' in cc

-- no round is left
pub none_left : (t : List ℕ) (writes x left : ℕ) → left ≡ 0 → t ++ ended (lines_of writes (rounds x left)) ≡ t
unfolding rounds lines_of
none_left t writes x left none = ap (λ n. t ++ ended (lines_of writes (rounds x n))) none ∙ append-nil t

-- a round adds at most one write
pub one_write : (round : Round) → writes_of round ≤ 1
one_write (Write volume track offset byte) = omega arith
one_write _ = omega arith
