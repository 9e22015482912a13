-- One table: each volume with its control record, what its tracks contain, and what they are due to show.
use Rattle.std.specs.Prelude.{ℕ, Bool, ◌&&◌, ◌++◌, List, [], ◌∷◌, nat_eq, if◌then◌else◌}
use Rattle.dr_model.specs.Histories.{Histories, histories}
use Rattle.dr_model.specs.Contents.{image}
use Rattle.dr_model.specs.Control.{Volume, Pending, World, is_volume}

-- the writes that landed on a track in a stop, and whose acknowledgement waits for the next start
abbrev pub waiting : List Pending → ℕ → ℕ → List ℕ
waiting [] v t = []
waiting (p ∷ ps) v t =
    if p.landed && (nat_eq p.volume v && nat_eq p.track t) then p.w ∷ waiting ps v t else waiting ps v t

-- what a track is due to show, by the host writes of the journal and those that wait
abbrev pub due_by : Histories → List Pending → ℕ → ℕ → List ℕ
due_by h ps v t = image h.write (h.now v t ++ waiting ps v t)

-- in a world
abbrev pub due : World → ℕ → ℕ → List ℕ
due w = due_by (histories w.events) w.control.pending

-- what a track of a target that is revertible would show if it went back
abbrev pub aside_by : Histories → ℕ → ℕ → List ℕ
aside_by h v t = image h.write (h.aside v t)

-- in a world
abbrev pub aside : World → ℕ → ℕ → List ℕ
aside w = aside_by (histories w.events)

-- a volume: whether it is defined, its record, what its tracks contain, what they are due to show, and what they would show if it
-- went back
pub record Row : Type 0 where
  pub defined : Bool
  pub volume : Volume
  pub bytes : ℕ → List ℕ
  pub due : ℕ → List ℕ
  pub aside : ℕ → List ℕ

-- the rows of all volumes, by number
abbrev pub Table : Type 0
Table = ℕ → Row

-- the table of a world
abbrev pub table : World → Table
table w v = record { defined = is_volume w.control v; volume = w.control.volume v; bytes = w.contents v; due = due w v; aside = aside w v }
