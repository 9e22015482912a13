-- How the step of a recovery goes: what refuses it as it begins, or how it ends.
use Rattle.std.proofs.Common.{ℕ, ◌≡◌, ◌⊎◌, inl, inr, refl, ap, ◌∙◌, subst, Bool, true, false, Option, Some, None, Ok}
use Rattle.dr_ids.specs.declared.refusal.Kind.TheVariants.{Session as OfSession}
use Rattle.dr_ids.specs.declared.refusal.Refusal.TheVariants.{JournalFull}
use Rattle.dr_model.specs.declared.said.Said.TheVariants.{Refused}
use Rattle.dr_model.specs.declared.step.Step.TheVariants.{Recover}
use Rattle.dr_model.specs.Refusals.{unknown, server_off, stopped}
use Rattle.dr_model.specs.Control.{World}
use Rattle.dr_model.specs.Sessions.{Session, session_in}
use Rattle.dr_model.specs.RecoveryPlans.{decided_in, secondary_refusal, recover_entries, recover_done, recover_plan, says_group}
use Rattle.dr_model.specs.PlanParts.{Plan, refuses, unless, on_session}
use Rattle.dr_model.specs.Plans.{has_room}
use Rattle.dr_model.specs.Carry.{Outcome, carry}
use Rattle.dr_model.specs.Carried.{begun, answered}
use Rattle.dr_model.specs.Runs.{Task}
use Rattle.dr_model.specs.Laws.{Sound}
use Rattle.dr_laws_sessions.proofs.Changes.{session-found}
use Rattle.dr_laws_sound.specs.Acknowledged.{said_in}
use Rattle.dr_laws_sound.proofs.FitsFlash.{as_begun}
use Rattle.dr_laws_recovery.specs.Recovered.{recovered_in}
use Rattle.dr_laws_recovery.specs.RecoveryAnswers.{secondary_server, FirstOff, Stops, AnswersForCause}
use Rattle.dr_laws_recovery.proofs.RecoveryAnswers.{answers-for-cause}
use Rattle.dr_laws_progress.specs.Recoveries.{decided_for, CanBegin}
use Rattle.dr_laws_progress.proofs.OneStep as step

-- the acts of a recovery of session x
abbrev pub acts : World → ℕ → Session → Outcome
acts w s x = carry (as_begun w) (recover_entries s (decided_in s w.control) x.members)

-- a step that recovers session s, with what it answers
pub data Goes (w : World) (t : Task) (s : ℕ) : Type 0 where
  Full : has_room w.events ≡ false → said_in w t ≡ Refused JournalFull → Goes w t s
  Unknown : has_room w.events ≡ true → session_in w.control.sessions s ≡ None → said_in w t ≡ Refused (unknown OfSession) → Goes w t s
  Off : (x : Session) → has_room w.events ≡ true → session_in w.control.sessions s ≡ Some x → (first : FirstOff w.control x.members) → said_in w t ≡ Refused (server_off (secondary_server w.control first.member)) → Goes w t s
  Halts : (x : Session) → CanBegin w s x → (stop : Stops w (acts w s x).0 x (acts w s x).1) → said_in w t ≡ Refused (stopped (secondary_server w.control stop.member)) → Goes w t s
  Ends : (x : Session) → CanBegin w s x → (acts w s x).1 ≡ None → said_in w t ≡ says_group (decided_for w s) (recovered_in w s).group → Goes w t s

module _ (w : World) (sound : Sound w) (t : Task) (s : ℕ) (asked : t.asked ≡ Ok (Recover s)) where
  module _ (room : has_room w.events ≡ true) (x : Session) (found : session_in w.control.sessions s ≡ Some x) where
    number : x.number ≡ s
    number = (session-found w.control.sessions s x found).1

    -- how a plan ends that nothing refuses as it begins
    abbrev EndsAs : Plan → Type 0
    EndsAs p = let u : World = (carry (begun w p) p.entries).0 in
        Stops w u x (carry (begun w p) p.entries).1 ⊎ (((carry (begun w p) p.entries).1 ≡ None) × (p.says u.control ≡ says_group (decided_for w x.number) (recovered_in w x.number).group))

    by-end : (b : CanBegin w s x) → EndsAs (step.goes w t s asked x b) → Goes w t s
    by-end b (inl stop) = Halts x b stop (step.says w t s asked x b ∙ ap (answered (step.goes w t s asked x b) (acts w s x).0.control) stop.is)
    by-end b (inr well) =
        Ends x b well.0 (step.says w t s asked x b ∙ (ap (answered (step.goes w t s asked x b) (acts w s x).0.control) well.0 ∙ (well.1 ∙ ap (λ s. says_group (decided_for w s) (recovered_in w s).group) number)))

    by-cause : AnswersForCause w x → Goes w t s
    by-cause (inl off) = Off x room found off.first (step.says-by w t s asked (server_off (secondary_server w.control off.first.member)) room
        (subst (λ s. recover_plan w.control s ≡ refuses (server_off (secondary_server w.control off.first.member))) number off.is))
    by-cause (inr runs) =
        let b : CanBegin w s x = record { room = room; found = found; on = runs.on } in
        by-end b (subst EndsAs (ap (recover_plan w.control) number ∙ step.plan-is w t s asked x b) runs.ends)

  by-session : has_room w.events ≡ true → (o : Option Session) → session_in w.control.sessions s ≡ o → Goes w t s
  by-session room None none =
      Unknown room none (step.says-by w t s asked (unknown OfSession) room
      (ap (λ o. on_session o (λ x. unless (secondary_refusal x.members w.control) (recover_done s (decided_in s w.control) x.members))) none))
  by-session room (Some x) found = by-cause room x found (answers-for-cause w x sound (session-found w.control.sessions s x found).0)

  pub goes-so : Goes w t s
  goes-so = by (has_room w.events) refl
    where
      by : (b : Bool) → has_room w.events ≡ b → Goes w t s
      by true room = by-session room (session_in w.control.sessions s) refl
      by false room = Full room (step.says-full w t s asked room)
