-- What a step that ends holds leaves of the holds of each volume.
use Rattle.std.specs.Prelude.{◌≡◌, ◌==◌, ◌&&◌, ℕ, Bool, true, false, List, ◌∷◌, ◌++◌, Ok}
use Rattle.dr_model.specs.declared.said.Addition.{Addition}
use Rattle.dr_model.specs.declared.said.Said.TheVariants.{Done}
use Rattle.dr_model.specs.declared.step.Step.{Step}
use Rattle.dr_model.specs.declared.step.Step.TheVariants.{Unfreeze, UnfreezeFlash, Expire}
use Rattle.dr_model.specs.Control.{Control, is_volume}
use Rattle.dr_model.specs.Entries.{fields_at, subsystem, is_running}
use Rattle.dr_model.specs.Layout.{Fields, is_part}
use Rattle.dr_model.specs.Runs.{Task, after_task, run}
use Rattle.dr_laws_sound.specs.Acknowledged.{said_in}
use Rattle.dr_laws_answers.specs.Named.{OfServer}

-- The holds of a volume: by each of them host writes on it wait. It is long busy since a freeze, or has a flash hold, or coordination holds it for an
-- attempt of its session.
pub record Holds : Type 0 where
  pub long_busy : Bool
  pub flash_hold : Bool
  pub coordination : Bool

-- as its record says
abbrev pub holds_in : Fields → Holds
holds_in f = record { long_busy = f.long_busy; flash_hold = f.flash_hold; coordination = f.coordination }

-- those of volume v
abbrev pub holds : Control → ℕ → Holds
holds k v = holds_in (fields_at k v)

-- the same, but not long busy
abbrev pub not_busy : Holds → Holds
not_busy h = record h { long_busy = false }

-- the same without a flash hold
abbrev pub not_flashed : Holds → Holds
not_flashed h = record h { flash_hold = false }

-- none
abbrev pub no_holds : Holds → Holds
no_holds h = record { long_busy = false; flash_hold = false; coordination = false }

-- v is a primary of logical subsystem l, its server runs, and its secondary lies in m
abbrev pub is_primary_between : Control → ℕ → ℕ → ℕ → Bool
is_primary_between k l m v = subsystem v == l && (is_running v k && (is_part (fields_at k v).primary && subsystem (fields_at k v).primary_partner == m))

-- v lies in logical subsystem l, and its server runs
abbrev pub is_running_in : Control → ℕ → ℕ → Bool
is_running_in k l v = subsystem v == l && is_running v k

-- v is a volume of server s
abbrev pub is_on : Control → ℕ → ℕ → Bool
is_on k s v = (k.volume v).server == s

-- From k to j the holds of each volume that is defined and named so became these, and those of every other volume stayed.
pub record LetsGo (k j : Control) (is_named : ℕ → Bool) (left : Holds → Holds) : Type 0 where
  pub named : (v : ℕ) → is_volume k v ≡ true → is_named v ≡ true → holds j v ≡ left (holds k v)
  pub others : (v : ℕ) → (is_volume k v && is_named v) ≡ false → holds j v ≡ holds k v

-- What a step ends. An `unfreezepprc` of two logical subsystems: no primary between them is long busy. An `unfreezeflash` of one: no volume in it has a
-- flash hold. An `@expire` of a server: no volume of it is held in any way. All other holds stay.
abbrev pub EndsHolds : Control → Control → Step → Type 0
EndsHolds k j (Unfreeze devs l m) = LetsGo k j (is_primary_between k l m) not_busy
EndsHolds k j (UnfreezeFlash devs l) = LetsGo k j (is_running_in k l) not_flashed
EndsHolds k j (Expire name) = OfServer k name (λ s. LetsGo k j (is_on k s) no_holds)
EndsHolds k j step = Unit {0}

-- each step of a run that is answered ok ends them
abbrev pub HoldsEnd : List Task → Type 0
HoldsEnd tasks =
    (before behind : List Task) (t : Task) (s : Step) (said : Addition) → tasks ≡ before ++ t ∷ behind → t.asked ≡ Ok s → said_in (run before) t ≡ Done said
    → EndsHolds (run before).control (after_task (run before) t).control s
