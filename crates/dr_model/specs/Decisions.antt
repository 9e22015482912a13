-- What recovery decides over the members of a session.
use Rattle.std.specs.Prelude.{ℕ, Bool, not, List, [], ◌∷◌, map, filter, Option, Some, None, ◌==◌, if◌then◌else◌}
use Rattle.std.specs.List.{find, zip}
use Rattle.dr_ids.specs.declared.refusal.Decision.{Decision}
use Rattle.dr_ids.specs.declared.refusal.Decision.TheVariants.{NoMember, Nothing, RevertAll, CommitRest, RevertSome, Impossible}

-- what a member shows: the sequence number of its target, and whether that is revertible
pub record Shown : Type 0 where
  pub sequence : ℕ
  pub revertible : Bool

-- the numbers of some members: there are none, they are all one, or the first and the first that differs from it
pub data Numbers : Type 0 where
  NoNumber : Numbers
  Same : (n : ℕ) → Numbers
  Differ : (a b : ℕ) → Numbers

-- a first number, and another that differs from it, if there is one
abbrev pub first_and_other : ℕ → Option ℕ → Numbers
first_and_other a None = Same a
first_and_other a (Some b) = Differ a b

-- what the numbers of a list come to
abbrev pub numbers_in : List ℕ → Numbers
numbers_in [] = NoNumber
numbers_in (a ∷ ns) = first_and_other a (find (λ n. not (n == a)) ns)

-- the numbers of the revertible members
abbrev pub revertibles : List Shown → List ℕ
revertibles xs = map (λ x. x.sequence) (filter (λ x. x.revertible) xs)

-- the numbers of the others
abbrev pub others : List Shown → List ℕ
others xs = map (λ x. x.sequence) (filter (λ x. not x.revertible) xs)

-- the decision by the numbers of the revertible members and those of the others: numbers that differ make it impossible,
-- those of the others first
unfoldable pub decided : Numbers → Numbers → Decision
decided of_revertibles (Differ a b) = Impossible a b
decided (Differ a b) of_others = Impossible a b
decided NoNumber NoNumber = NoMember
decided NoNumber (Same n) = Nothing n
decided (Same n) NoNumber = RevertAll n
decided (Same n) (Same m) = if n == m then CommitRest n else RevertSome m n

-- the decision over a list of members
unfoldable pub decision : List Shown → Decision
decision xs = decided (numbers_in (revertibles xs)) (numbers_in (others xs))

-- the members whose numbers and flags stand in two lists
abbrev pub shown_by : List ℕ → List Bool → List Shown
shown_by numbers flags = map (λ p. record { sequence = p.0; revertible = p.1 }) (zip numbers flags)
