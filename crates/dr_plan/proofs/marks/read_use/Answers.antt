use Rattle.std.proofs.Common.{ℕ, ◌≡◌, List, [], ◌∷◌, length, map, None, Bor, refl, sym, arith}
use Rattle.dr_plan.specs.Marks.{use_said}
use Rattle.dr_plan.proofs.marks.read_use.Goals as goal
use Rattle.dr_plan.proofs.marks.read_use.Goals.{in_default-via-then-words-lt3, in_default-via-else-words-lt3+else-words-lt4+else-words-lt5}

other : (words : List (Bor (List ℕ))) → (length words ≡ 3 → ⊥) → (length words ≡ 4 → ⊥) → use_said (map (λ word. word.now) words) ≡ None
other [] three four = refl
other (a ∷ []) three four = refl
other (a ∷ b ∷ []) three four = refl
other (a ∷ b ∷ c ∷ []) three four = absurd (three refl)
other (a ∷ b ∷ c ∷ d ∷ []) three four = absurd (four refl)
other (a ∷ b ∷ c ∷ d ∷ e ∷ more) three four = refl

pub returns-in_default : goal.returns-in_default
returns-in_default c =
    sym
    (other c.args.words.now (λ three. elim c.in_default.branch [ in_default-via-then-words-lt3 w ↦ grind arith | in_default-via-else-words-lt3+else-words-lt4+else-words-lt5 w ↦ grind arith ])
    (λ four. elim c.in_default.branch [ in_default-via-then-words-lt3 w ↦ grind arith | in_default-via-else-words-lt3+else-words-lt4+else-words-lt5 w ↦ grind arith ]))
