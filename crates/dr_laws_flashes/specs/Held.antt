-- No host write lands on a volume that has a flash hold.
use Rattle.std.specs.Prelude.{◌≡◌, ℕ, true, false, List, ◌∷◌, ◌++◌, All}
use Rattle.dr_model.specs.declared.event.Event.TheVariants.{Ack}
use Rattle.dr_model.specs.Histories.{histories}
use Rattle.dr_model.specs.Control.{Pending, World}
use Rattle.dr_model.specs.Groups.{In}
use Rattle.dr_model.specs.Entries.{fields_at}
use Rattle.dr_model.specs.Runs.{Task}
use Rattle.dr_laws_freezes.specs.Moments.{moments}
use Rattle.dr_laws_freezes.specs.Windows.{last_of}

-- A volume with a flash hold waits for nothing: no write has landed on it in a stop whose acknowledgement would come with the next start of its server.
abbrev pub HeldWaitForNothing : World → Type 0
HeldWaitForNothing w = (p : Pending) → In p w.control.pending → (fields_at w.control p.volume).flash_hold ≡ true → p.landed ≡ false

-- so it is at each moment of a run
abbrev pub NoneWaitsHeld : List Task → Type 0
NoneWaitsHeld tasks = (before after : List World) (w : World) → moments tasks ≡ before ++ (w ∷ after) → HeldWaitForNothing w

-- Over a stretch of moments at each of which v has a flash hold no write on v is acknowledged: each that is so at the last was at the first.
abbrev pub NoneLandsHeld : List Task → Type 0
NoneLandsHeld tasks =
    (before later after : List World) (first : World) (v : ℕ)
    → moments tasks ≡ before ++ (first ∷ later ++ after)
    → All (λ w. (fields_at w.control v).flash_hold ≡ true) (first ∷ later)
    → (n : ℕ) → In (Ack n) (last_of first later).events → ((histories (last_of first later).events).write n).volume ≡ v → In (Ack n) first.events
