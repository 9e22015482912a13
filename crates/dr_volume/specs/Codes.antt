-- How parts, states, numbers and flags are written in bytes.
use Rattle.std.specs.Prelude.{ℕ, ◌/◌, ◌%◌, Bool, false, List, [], ◌∷◌}
use Rattle.std.specs.List.{slice_index_or}
use Rattle.dr_bits.specs.Tracks.{number_of}
use Rattle.dr_model.specs.declared.state.Part.{Part}
use Rattle.dr_model.specs.declared.state.Part.TheVariants.{Absent, Metro, Global}
use Rattle.dr_model.specs.declared.state.PairState.{PairState}
use Rattle.dr_model.specs.declared.state.PairState.TheVariants.{CopyPending, FullDuplex, Suspended}

-- the code of a part, and of a state
abbrev pub code_of_part : Part → ℕ
code_of_part Absent = 0
code_of_part Metro = 1
code_of_part Global = 2

-- the code of a state
abbrev pub code_of_state : PairState → ℕ
code_of_state CopyPending = 0
code_of_state FullDuplex = 1
code_of_state Suspended = 2

-- the bytes of a number of two bytes, and of four, the highest byte first
abbrev pub two_bytes : ℕ → List ℕ
two_bytes n = n / 256 ∷ n % 256 ∷ []

-- a number in four bytes, the highest first
abbrev pub four_bytes : ℕ → List ℕ
four_bytes n = n / 16777216 ∷ n / 65536 % 256 ∷ n / 256 % 256 ∷ n % 256 ∷ []

-- the byte whose bits, from the lowest, are these flags
abbrev pub flags_byte : List Bool → ℕ
flags_byte flags = number_of (λ k. slice_index_or flags k false) 0 8
