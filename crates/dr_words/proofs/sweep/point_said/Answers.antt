use Rattle.std.proofs.Common.{ℕ, ◌≡◌, ◌≤◌, List, [], ◌∷◌, length, map, None, Bor, refl, sym, arith}
use Rattle.dr_words.specs.Sweep.{point_said}
use Rattle.dr_words.proofs.sweep.point_said.Goals as goal
use Rattle.dr_words.proofs.sweep.point_said.Goals.{in_default-via-then-words-lt2, in_default-via-else-words-lt2+else-words-lt3+else-words-lt4+else-words-lt5+else-words-lt6}

other : (words : List (Bor (List ℕ))) → (2 ≤ length words → length words ≤ 5 → ⊥) → point_said (map (λ word. word.now) words) ≡ None
other [] never = refl
other (a ∷ []) never = refl
other (a ∷ b ∷ []) never = absurd (never (omega arith) (omega arith))
other (a ∷ b ∷ c ∷ []) never = absurd (never (omega arith) (omega arith))
other (a ∷ b ∷ c ∷ d ∷ []) never = absurd (never (omega arith) (omega arith))
other (a ∷ b ∷ c ∷ d ∷ e ∷ []) never = absurd (never (omega arith) (omega arith))
other (a ∷ b ∷ c ∷ d ∷ e ∷ f ∷ more) never = refl

pub returns-in_default : goal.returns-in_default
returns-in_default c =
    sym
    (other c.args.words.now
    (λ some few. elim c.in_default.branch [ in_default-via-then-words-lt2 w ↦ grind arith | in_default-via-else-words-lt2+else-words-lt3+else-words-lt4+else-words-lt5+else-words-lt6 w ↦ grind arith ]))
