-- What the reader's small steps speak of.
use Rattle.std.specs.Prelude.{◌≡◌, ℕ, Bool, List, [], ◌∷◌, Option, Some, None, Result, Ok, Err}
use Rattle.std.specs.declared.alloc.AllocError.{AllocError}
use Rattle.std.specs.Option.{is_some}
use Rattle.dr_model.specs.PlantImage.{words}
use Rattle.dr_model.specs.PlantImage.{Placed, Stage, Start, Listing, Filling, Ended, Bad, State}
use Rattle.dr_image.specs.declared.state.Stage.{Stage as Seen}
use Rattle.dr_image.specs.declared.state.Stage.TheVariants.{Start as SeenStart, Listing as SeenListing, Filling as SeenFilling, Ended as SeenEnded, Bad as SeenBad}
use Rattle.dr_image.specs.declared.state.State.{State as Lines}
use Rattle.dr_image.specs.declared.said.Placed.{Placed as Said}
use Rattle.dr_image.specs.Shown.{all_shown}
use denote.Ref.{Bor}

-- the words of what is left: none where nothing is left
abbrev pub words_after : Option (Bor (List ℕ)) → List (List ℕ)
words_after None = []
words_after (Some rest) = words rest.now

-- the word of a list that has one
abbrev pub only : List (List ℕ) → Option (List ℕ)
only (word ∷ []) = Some word
only _ = None

-- the first word of a list, and those behind it; none where the list is empty
abbrev pub IsNextOf : List (List ℕ) → Option (Bor (List ℕ) × Option (Bor (List ℕ))) → Type 0
IsNextOf words None = words ≡ []
IsNextOf words (Some next) = words ≡ next.0.now ∷ words_after next.1

-- a block with the volume that its line names
abbrev pub placed : Said → Placed
placed said = record { volume = said.volume.0; block = record { index = said.index; bytes = said.bytes } }

-- what kind of line came last
abbrev pub stage_of : Seen → Stage
stage_of SeenStart = Start
stage_of SeenListing = Listing
stage_of SeenFilling = Filling
stage_of SeenEnded = Ended
stage_of SeenBad = Bad

-- the lines so far
abbrev pub state_of : Lines → State
state_of s = record { stage = stage_of s.stage; line = s.line; volumes = all_shown s.volumes.items; place = s.place }

-- the state that comes, where a line can stand; else the one that is
abbrev pub moved : Option State → State → State
moved None s = s
moved (Some t) s = t

-- a line that can stand was taken, or nothing has changed
abbrev pub Takes : Option State → State → State → Result Bool AllocError → Type 0
Takes next old new (Ok stands) = (stands ≡ is_some next) × (new ≡ moved next old)
Takes next old new (Err e) = new ≡ old
