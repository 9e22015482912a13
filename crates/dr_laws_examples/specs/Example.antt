-- Examples: a run with a sound freeze window, and one with a sound flash window.
use Rattle.std.specs.Prelude.{◌≡◌, ℕ, true, false, List, [], ◌∷◌, ◌++◌, None}
use Rattle.dr_model.specs.declared.step.Step.TheVariants.{Server, Volume, MakePath, MakePair, MakeFlash, Write, Apply, Freeze, Unfreeze, UnfreezeFlash}
use Rattle.dr_model.specs.Control.{Pending, World}
use Rattle.dr_model.specs.Runs.{Task, run}
use Rattle.dr_laws_freezes.specs.Moments.{moments_from, moments}
use Rattle.dr_laws_freezes.specs.Windows.{LssPairs, last_of}
use Rattle.dr_laws_flashes.specs.Windows.{FlashPairs}
use Rattle.dr_laws_sites.specs.Example.{named, unnamed, uncopied, step}

-- The first of these worlds and the later ones are moments of a run, one after another.
pub record IsStretch (tasks : List Task) (first : World) (later : List World) : Type 0 where
  pub before : List World
  pub after : List World
  pub is : moments tasks ≡ before ++ (first ∷ later ++ after)

-- the host writes this byte on track 0 of this volume
abbrev pub host_writes : ℕ → ℕ → Task
host_writes v b = step (Write v 0 0 1 (b ∷ []))

-- the second host write of a run, which waits on volume 1001, by a hexadecimal number
abbrev pub second_waits : Pending
second_waits = record { w = 2; volume = 4097; track = 0; landed = false }

-- ---- a freeze window

-- Volumes 1000 and 1001 on server A, 2000 and 2001 on server B, with one track each. 2000 is the Metro Mirror secondary of 1000, and 2001 of 1001.
-- Both pairs are made without a copy, so they are Full Duplex. The path between them makes primaries long busy.
abbrev pub two_pairs : List Task
two_pairs =
    step (Server (named 65)) ∷ step (Server (named 66))
    ∷ step (Volume 4096 (named 65) 1) ∷ step (Volume 4097 (named 65) 1) ∷ step (Volume 8192 (named 66) 1) ∷ step (Volume 8193 (named 66) 1)
    ∷ step (MakePath unnamed 16 32 true)
    ∷ step (MakePair unnamed 4096 8192 1 (uncopied false)) ∷ step (MakePair unnamed 4097 8193 1 (uncopied false))
    ∷ []

-- The host writes an a on 1000, which goes to 2000 too. Both pairs are frozen. Then the host writes a b on 1001, which waits.
abbrev pub frozen_steps : List Task
frozen_steps = host_writes 4096 97 ∷ step (Freeze unnamed 16 32) ∷ host_writes 4097 98 ∷ []

-- after these steps the pairs are thawed, and the b is carried out
abbrev pub freeze_run : List Task
freeze_run = two_pairs ++ (frozen_steps ++ step (Unfreeze unnamed 16 32) ∷ step (Apply 2) ∷ [])

-- the pairs of subsystem 10 with subsystem 20
abbrev pub frozen_set : LssPairs
frozen_set = (16, 32) ∷ []

-- The window begins as the pairs have been made. It ends before the thaw.
abbrev pub freeze_begins : World
freeze_begins = run two_pairs

-- its other moments
abbrev pub freeze_window : List World
freeze_window = moments_from freeze_begins frozen_steps

-- the last of them
abbrev pub freeze_ends : World
freeze_ends = last_of freeze_begins freeze_window

-- ---- a flash window

-- volumes 1000 to 1003 on server A, with one track each; the host writes an a on 1000
abbrev pub four_volumes : List Task
four_volumes =
    step (Server (named 65))
    ∷ step (Volume 4096 (named 65) 1) ∷ step (Volume 4097 (named 65) 1) ∷ step (Volume 4098 (named 65) 1) ∷ step (Volume 4099 (named 65) 1)
    ∷ host_writes 4096 97
    ∷ []

-- 1002 becomes the target of 1000, and 1003 that of 1001, each with a flash hold of its source. Then the host writes a b on 1001, which waits.
abbrev pub flash_steps : List Task
flash_steps =
    step (MakeFlash unnamed 4096 4098 true false false false true None)
    ∷ step (MakeFlash unnamed 4097 4099 true false false false true None)
    ∷ host_writes 4097 98
    ∷ []

-- after these steps the sources are let go, and the b is carried out
abbrev pub flash_run : List Task
flash_run = four_volumes ++ (flash_steps ++ step (UnfreezeFlash unnamed 16) ∷ step (Apply 2) ∷ [])

-- the pairs, the source of each first
abbrev pub flash_set : FlashPairs
flash_set = (4096, 4098) ∷ (4097, 4099) ∷ []

-- The window begins after the a. It ends before the sources are let go.
abbrev pub flash_begins : World
flash_begins = run four_volumes

-- its other moments
abbrev pub flash_window : List World
flash_window = moments_from flash_begins flash_steps

-- the last of them
abbrev pub flash_ends : World
flash_ends = last_of flash_begins flash_window
