-- What a recovery, and a commit or revert by hand, answer.
use Rattle.std.specs.Prelude.{◌≡◌, ℕ, Bool, true, false, List, Result, Ok, Err}
use Rattle.dr_ids.specs.declared.names.Member.{Member}
use Rattle.dr_ids.specs.declared.refusal.Decision.{Decision}
use Rattle.dr_ids.specs.declared.refusal.Refusal.{Refusal}
use Rattle.dr_model.specs.declared.said.Addition.TheVariants.{Alone}
use Rattle.dr_model.specs.declared.said.Said.{Said}
use Rattle.dr_model.specs.declared.said.Said.TheVariants.{Done, Refused}
use Rattle.dr_model.specs.Control.{Control, World}
use Rattle.dr_model.specs.Entries.{fields_at}
use Rattle.dr_model.specs.Laws.{sizes}
use Rattle.dr_model.specs.PlanParts.{Plan, unless}
use Rattle.dr_model.specs.RecoveryPlans.{secondary_refusal, decided_in, recover_done, says_group, lets_commit, lets_revert}
use Rattle.dr_model.specs.Recovery.{decided_over}
use Rattle.dr_laws_recovery.specs.Recovered.{recovered_in, SameRecovery, HasRecovered}
use Rattle.dr_recover.specs.declared.recovery.Recovered.{Recovered}

-- the plan of a recovery of a session with these members, behind its refusal
abbrev pub recover_behind : Control → ℕ → List Member → Plan
recover_behind k s ms = unless (secondary_refusal ms k) (recover_done s (decided_in s k) ms)

-- the group with what was decided, or why there is none
abbrev pub recovery_said : Result Recovered Refusal → Said
recovery_said (Ok x) = says_group x.decision x.group
recovery_said (Err why) = Refused why

-- what a commit or revert by hand answers
abbrev pub act_said : Result (Unit {0}) Refusal → Said
act_said (Ok x) = Done Alone
act_said (Err why) = Refused why

-- the decisions that let a target be committed, and those that let one be reverted
abbrev pub lets_by : Bool → Decision → Bool
lets_by true d = lets_commit d
lets_by false d = lets_revert d

-- Another recovery makes the same of each session from u on as from w on: the same volumes remain, with the same group, and show the
-- same on each of their tracks.
abbrev pub RecoversAlike : World → World → Type 0
RecoversAlike w u = (z : ℕ) → SameRecovery (sizes w.control) (recovered_in w z) (recovered_in u z)

-- The recovery of session s from w on is done in u, and x says its group, and what is decided over the volumes that counted in w.
pub record IsRecovered (w u : World) (s : ℕ) (x : Recovered) : Type 0 where
  pub done : HasRecovered w u s
  pub group : x.group ≡ (recovered_in w s).group
  pub decision : x.decision ≡ decided_over (fields_at w.control) w.control.volumes s
