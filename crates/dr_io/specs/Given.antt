-- What a sink was given.
use Rattle.std.specs.Prelude.{◌≡◌, ℕ, ◌≤◌, List, ◌++◌, take, length, Option, Some}
use Rattle.std.specs.Io.KnownBytes.{Appends}

-- where the sink tells what it has, it has these bytes more
abbrev pub Gave : {K : Type 0} → (K → Option (List ℕ)) → K → K → List ℕ → Type 0
Gave written old new bytes = (out : List ℕ) → written old ≡ Some out → written new ≡ Some (out ++ bytes)

-- where the sink tells what it has, it has a front of these bytes more
abbrev pub GavePart : {K : Type 0} → (K → Option (List ℕ)) → K → K → List ℕ → Type 0
GavePart written old new bytes = (n : ℕ) × (n ≤ length bytes) × Gave written old new (take n bytes)

-- where the writer tells what it has, it has a front of these bytes more
abbrev pub AppendsFront : Option (List ℕ) → Option (List ℕ) → List ℕ → Type 0
AppendsFront old new bytes = (n : ℕ) × (n ≤ length bytes) × Appends old new (take n bytes)

-- where the source tells what is left, these bytes were taken from its front
abbrev pub Took : {S : Type 0} → (S → Option (List ℕ)) → S → S → List ℕ → Type 0
Took left old new bytes = (told : List ℕ) → left old ≡ Some told → (rest : List ℕ) × (left new ≡ Some rest) × (told ≡ bytes ++ rest)

-- where the source tells what is left, these bytes were all of it
abbrev pub TookAll : {S : Type 0} → (S → Option (List ℕ)) → S → List ℕ → Type 0
TookAll left old bytes = (told : List ℕ) → left old ≡ Some told → told ≡ bytes
