-- Formed is what recovery finds: the groups that answers say are the newest of their session.
use Rattle.std.specs.Prelude.{◌≡◌, ℕ, List, ◌∷◌, ◌++◌, Ok}
use Rattle.dr_ids.specs.declared.refusal.Decision.{Decision}
use Rattle.dr_ids.specs.declared.refusal.PhaseName.TheVariants as phase
use Rattle.dr_ids.specs.declared.refusal.Refusal.TheVariants.{NoGroup}
use Rattle.dr_model.specs.declared.said.Addition.{Addition}
use Rattle.dr_model.specs.declared.said.Addition.TheVariants.{InPhase, InGroup}
use Rattle.dr_model.specs.declared.said.Said.TheVariants.{Done, Refused}
use Rattle.dr_model.specs.declared.step.Step.TheVariants.{Run, Recover}
use Rattle.dr_model.specs.Control.{World}
use Rattle.dr_model.specs.NewestGroup.{NewestGroup}
use Rattle.dr_model.specs.Runs.{Task, after_task, run}
use Rattle.dr_laws_sound.specs.Acknowledged.{said_in}

-- a recovery of session s that begins in w and ends in u found group n: it is the newest before it and after it
pub record FindsNewest (w u : World) (s n : ℕ) : Type 0 where
  pub before : NewestGroup w.events s n
  pub after : NewestGroup u.events s n

-- no group was committed, neither before it nor after it
pub record FindsNone (w u : World) (s : ℕ) : Type 0 where
  pub before : (n : ℕ) → NewestGroup w.events s n → ⊥
  pub after : (n : ℕ) → NewestGroup u.events s n → ⊥

-- The answer says Idle with the number of the session's newest group.
pub record SaysNewest (u : World) (s : ℕ) (said : Addition) : Type 0 where
  pub number : ℕ
  pub is : said ≡ InPhase phase.Idle number
  pub newest : NewestGroup u.events s number

-- A recovery that begins in w and answers `group n` says the newest group of its session, and one that answers that there is none is
-- given where there is none.
pub record RecoveryFinds (w : World) (t : Task) : Type 0 where
  pub group : (s n : ℕ) (d : Decision) → t.asked ≡ Ok (Recover s) → said_in w t ≡ Done (InGroup n d) → FindsNewest w (after_task w t) s n
  pub none : (s : ℕ) (d : Decision) → t.asked ≡ Ok (Recover s) → said_in w t ≡ Refused (NoGroup d) → FindsNone w (after_task w t) s

-- An `@run` that isn't refused leaves its master Idle, and answers so with the number of the session's newest group, however many groups
-- it was asked for: the last attempt that counted in the line is the session's last one.
pub record RunForms (w : World) (t : Task) : Type 0 where
  pub formed : (s n : ℕ) (said : Addition) → t.asked ≡ Ok (Run s n) → said_in w t ≡ Done said → SaysNewest (after_task w t) s said

-- each step of a run does
abbrev pub GroupsAreFound : List Task → Type 0
GroupsAreFound tasks = (before behind : List Task) (t : Task) → tasks ≡ before ++ t ∷ behind → RecoveryFinds (run before) t

-- and so is what each `@run` of a run forms
abbrev pub FormedIsFound : List Task → Type 0
FormedIsFound tasks = (before behind : List Task) (t : Task) → tasks ≡ before ++ t ∷ behind → RunForms (run before) t
