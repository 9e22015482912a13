-- Pairs that are made without a copy. Their volumes have to contain the same; whether they hold the same writes isn't asked.
use Rattle.std.specs.Prelude.{◌≡◌, ◌<◌, ℕ, Bool, true, false, not, List, [], ◌∷◌, ◌++◌, None, Result, Ok}
use Rattle.std.specs.List.{list_any}
use Rattle.dr_model.specs.declared.step.Step.{Step}
use Rattle.dr_model.specs.declared.step.Step.TheVariants.{Issue, Write, MakePair}
use Rattle.dr_model.specs.Contents.{image_at}
use Rattle.dr_model.specs.Control.{World}
use Rattle.dr_model.specs.Histories.{lists}
use Rattle.dr_model.specs.PairEntries.{first_differing}
use Rattle.dr_model.specs.Runs.{Task, after_task}

-- Where a step makes a pair without a copy, and the two volumes contain the same, they hold the same writes.
abbrev pub HoldsSame : World → Result Step ℕ → Type 0
HoldsSame w (Ok (MakePair devs a b kind choices)) =
    choices.full ≡ false → first_differing (image_at w.events) (w.control.volume a).tracks a b ≡ None
    → (t : ℕ) → t < (w.control.volume a).tracks → lists w.events a t ≡ lists w.events b t
HoldsSame w asked = Unit {0}

-- so it is in steps in order, each in the world before it
abbrev pub PairsHoldSame : World → List Task → Type 0
PairsHoldSame w [] = Unit {0}
PairsHoldSame w (t ∷ tasks) = HoldsSame w t.asked × PairsHoldSame (after_task w t) tasks

-- ---- where that is plain

-- a step issues a host write
abbrev pub issues : Step → Bool
issues (Issue v t offset len bytes) = true
issues (Write v t offset len bytes) = true
issues step = false

-- a line does; one outside the grammar doesn't
abbrev pub asks_write : Result Step ℕ → Bool
asks_write (Ok step) = issues step
asks_write asked = false

-- a line makes a pair without a copy
abbrev pub copies_none : Result Step ℕ → Bool
copies_none (Ok (MakePair devs a b kind choices)) = not choices.full
copies_none asked = false

-- each pair that is made without a copy is made before the first host write
pub record PairsComeFirst (tasks : List Task) : Type 0 where
  pub early : List Task
  pub late : List Task
  pub cut : tasks ≡ early ++ late
  pub unwritten : list_any (λ (t : Task). asks_write t.asked) early ≡ false
  pub copied : list_any (λ (t : Task). copies_none t.asked) late ≡ false
