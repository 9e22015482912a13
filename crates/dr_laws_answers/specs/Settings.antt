-- What the steps that set a link, stop a server or arm its fuse leave.
use Rattle.std.specs.Prelude.{◌≡◌, ◌≢◌, ◌==◌, ◌&&◌, ◌||◌, ℕ, Bool, false, List, ◌∷◌, ◌++◌, Option, Some, None, Ok, replicate}
use Rattle.dr_model.specs.declared.said.Addition.{Addition}
use Rattle.dr_model.specs.declared.said.Said.TheVariants.{Done}
use Rattle.dr_model.specs.declared.step.Step.{Step}
use Rattle.dr_model.specs.declared.step.Step.TheVariants.{Link, Stop, StopAfter}
use Rattle.dr_model.specs.declared.step.TornWord.{TornWord}
use Rattle.dr_model.specs.declared.step.TornWord.TheVariants.{Same, Fill, Bytes}
use Rattle.dr_model.specs.Control.{Control}
use Rattle.dr_model.specs.Runs.{Task, after_task, run}
use Rattle.dr_laws_sound.specs.Acknowledged.{said_in}
use Rattle.dr_laws_answers.specs.Named.{OfServer}

-- the link between p and q is the one between a and b, in either direction. The law has words of its own for it, by which a wrong row of the machine is seen
abbrev pub is_link : ℕ → ℕ → ℕ → ℕ → Bool
is_link a b p q = (p == a && q == b) || (p == b && q == a)

-- From k to j the link between servers a and b was set, in both directions, and no other changed.
pub record SetsLink (k j : Control) (a b : ℕ) (up : Bool) : Type 0 where
  pub forth : j.link a b ≡ up
  pub back : j.link b a ≡ up
  pub others : (p q : ℕ) → is_link a b p q ≡ false → j.link p q ≡ k.link p q

-- Server s is off, each other is on or off as before, and no fuse changed.
pub record SetsOff (k j : Control) (s : ℕ) : Type 0 where
  pub off : j.on s ≡ false
  pub others : (q : ℕ) → q ≢ s → j.on q ≡ k.on q
  pub fuses : (q : ℕ) → j.fuse q ≡ k.fuse q

-- the bytes that a write which is cut short leaves in its block, or none: then it leaves those that stood there. It is said anew for the same reason
abbrev pub bytes_left : TornWord → Option (List ℕ)
bytes_left Same = None
bytes_left (Fill byte) = Some (replicate 64 byte)
bytes_left (Bytes bytes) = Some bytes

-- The fuse of server s lets n more writes pass; the next one is cut short, and leaves these bytes. Each other fuse is as before, and each server is on or
-- off as before.
pub record SetsFuse (k j : Control) (s n : ℕ) (torn : TornWord) : Type 0 where
  pub armed : j.fuse s ≡ Some (record { after = n; torn = bytes_left torn })
  pub others : (q : ℕ) → q ≢ s → j.fuse q ≡ k.fuse q
  pub on : (q : ℕ) → j.on q ≡ k.on q

-- what a step sets: a link, that a server is off, or its fuse
abbrev pub Sets : Control → Control → Step → Type 0
Sets k j (Link a b up) = OfServer k a (λ x. OfServer k b (λ y. SetsLink k j x y up))
Sets k j (Stop name) = OfServer k name (λ s. SetsOff k j s)
Sets k j (StopAfter name n torn) = OfServer k name (λ s. SetsFuse k j s n torn)
Sets k j step = Unit {0}

-- each step of a run that is answered ok sets it
abbrev pub StepsSet : List Task → Type 0
StepsSet tasks =
    (before behind : List Task) (t : Task) (s : Step) (said : Addition) → tasks ≡ before ++ t ∷ behind → t.asked ≡ Ok s → said_in (run before) t ≡ Done said
    → Sets (run before).control (after_task (run before) t).control s
