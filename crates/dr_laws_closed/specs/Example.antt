-- An example: volumes 1 and 2 are cut for attempt 1 of session 7, and their targets 21 and 22 flashed.
use Rattle.std.specs.Prelude.{List, [], ◌∷◌}
use Rattle.dr_model.specs.declared.event.Event.{Event}
use Rattle.dr_model.specs.declared.event.Event.TheVariants.{Issue, Ack, Begin, Cut, Flashed, Left}

-- no write is acknowledged between the cuts
abbrev pub held : List Event
held = Issue 1 1 0 0 0 [] ∷ Ack 1 ∷ Begin 7 1 ∷ Cut 7 1 1 ∷ Cut 7 1 2 ∷ Issue 2 2 0 0 0 [] ∷ Ack 2 ∷ Flashed 7 1 1 11 21 ∷ Flashed 7 1 2 12 22 ∷ []

-- a write on volume 1 is acknowledged between them, and then one on volume 2 that depends on it
abbrev pub torn : List Event
torn = Begin 7 1 ∷ Cut 7 1 1 ∷ Issue 1 1 0 0 0 [] ∷ Ack 1 ∷ Issue 2 2 0 0 0 [] ∷ Ack 2 ∷ Cut 7 1 2 ∷ Flashed 7 1 1 11 21 ∷ Flashed 7 1 2 12 22 ∷ []

-- the target of volume 1 leaves the session
abbrev pub parted : List Event
parted = Flashed 7 1 1 11 21 ∷ Left 7 1 ∷ []
