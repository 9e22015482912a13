-- The step of an abort: what it answers, by the state, and what it leaves.
use Rattle.std.proofs.Common.{ℕ, ◌≡◌, refl, ap, sym, ◌∙◌, subst, Bool, true, false, cond, List, [], Option, Some, None, Ok, option_map}
use Rattle.std.specs.Option.{option_or}
use Rattle.std.proofs.lemmas.Option.{same_Some}
use Rattle.dr_ids.specs.declared.refusal.Kind.TheVariants.{Session as OfSession}
use Rattle.dr_ids.specs.declared.refusal.PhaseName.{PhaseName}
use Rattle.dr_ids.specs.declared.refusal.PhaseName.TheVariants as phase
use Rattle.dr_ids.specs.declared.refusal.Refusal.TheVariants.{OutOfOrder, JournalFull}
use Rattle.dr_model.specs.declared.said.Addition.TheVariants.{Alone, InPhase}
use Rattle.dr_model.specs.declared.said.Said.TheVariants.{Done, Refused}
use Rattle.dr_model.specs.declared.step.Step.TheVariants.{Abort}
use Rattle.dr_model.specs.Refusals.{unknown, server_off}
use Rattle.dr_model.specs.Phases as phases
use Rattle.dr_model.specs.Control.{Control, World}
use Rattle.dr_model.specs.Sessions.{Session, Mirror, session_in, mirror_in, with_master, abort_refusal}
use Rattle.dr_model.specs.SessionPlans.{aborting, says_phase, session_phase, mirror_phase, master_refusal, abort_plan}
use Rattle.dr_model.specs.PlanParts.{Plan, tables_plan, refuses, unless, on_session}
use Rattle.dr_model.specs.Plans.{plan, has_room}
use Rattle.dr_model.specs.Carry.{carry}
use Rattle.dr_model.specs.Carried.{after_plan}
use Rattle.dr_model.specs.Forming.{Part, master_in}
use Rattle.dr_model.specs.Runs.{Task, course, answered_part, after_task, run}
use Rattle.dr_laws_sessions.proofs.Changes.{changed-found}
use Rattle.dr_laws_sound.specs.Acknowledged.{part_answer, said_in}
use Rattle.dr_laws_sound.proofs.RefusedSteps.{lost-stays}
use Rattle.dr_laws_progress.proofs.OneStep.{refusal-answers}
use Rattle.dr_laws_progress.specs.Aborts.{abort_by_phase, abort_by_master, abort_by_session, abort_says, IsAborted, AbortAnswers, AbortsAnswer}

-- as an attempt is given up each server is owed the order of the phase that begins
owed-all : (q p : PhaseName) (servers : List ℕ) → phases.aborted_phase q ≡ Some p → phases.owed_first p servers ≡ servers
owed-all phase.Coordinating p servers e = ap (λ p. phases.owed_first p servers) (sym (same_Some _ _ e))
owed-all phase.Releasing p servers e = ap (λ p. phases.owed_first p servers) (sym (same_Some _ _ e))
owed-all phase.Draining p servers e = ap (λ p. phases.owed_first p servers) (sym (same_Some _ _ e))
owed-all phase.Flashing p servers e = ap (λ p. phases.owed_first p servers) (sym (same_Some _ _ e))
owed-all phase.Committing p servers e = ap (λ p. phases.owed_first p servers) (sym (same_Some _ _ e))
owed-all q p servers e = absurd cc

module _ (w : World) (t : Task) (s : ℕ) (asked : t.asked ≡ Ok (Abort s)) where
  abbrev k : Control
  k = w.control

  -- a plan of the step
  abbrev part : Plan → Part
  part p = record { world = w; plan = p }

  part-is : (p : Plan) → plan k w.events t.line (Ok (Abort s)) ≡ p → (course w t).last ≡ part p
  part-is p is = ap (λ a. (course w (record { line = t.line; asked = a; listed = t.listed })).last) asked ∙ ap part is

  planned : (b : Bool) → has_room w.events ≡ b → plan k w.events t.line (Ok (Abort s)) ≡ cond b (abort_plan k s) (refuses JournalFull)
  planned b room = ap (λ b. cond b (abort_plan k s) (refuses JournalFull)) room

  -- the attempt is given up
  abbrev gives_up : Option Mirror → Plan
  gives_up o = record (tables_plan (aborting s o) [] (Done Alone)) { says = says_phase s }

  says-given : (o : Option Mirror) → part_answer (part (gives_up o)) ≡ says_phase s (aborting s o k)
  unfolding carry
  says-given o = refl

  -- by what the session and its master are
  abbrev by_master : Option Mirror → Plan
  by_master o = unless (option_or (abort_refusal o) (master_refusal k o)) (gives_up o)

  module _ (x : Session) (found : session_in k.sessions s ≡ Some x) where
    pub given : (o : Option Mirror) → session_in (aborting s o k).sessions s ≡ Some (with_master phases.aborted x)
    given o = changed-found s (with_master phases.aborted) k.sessions x (λ x. refl) found

    answers-phase : (r : Mirror) → x.mirror ≡ Some r → (p : Option PhaseName) → phases.aborted_phase r.master.phase ≡ p → part_answer (part (by_master (Some r))) ≡ abort_by_phase k r p
    answers-phase r has None is = ap (λ o. part_answer (part (unless (option_or (phases.refusal_unless r.master.phase o) (master_refusal k (Some r))) (gives_up (Some r))))) is ∙ refusal-answers w (OutOfOrder r.master.phase)
    answers-phase r has (Some p) is =
        ap (λ o. part_answer (part (unless (option_or (phases.refusal_unless r.master.phase o) (master_refusal k (Some r))) (gives_up (Some r))))) is ∙ by (k.on r.server)
      where
        by : (b : Bool) → part_answer (part (unless (cond b None (Some (server_off r.server))) (gives_up (Some r)))) ≡ cond b (Done (InPhase p r.master.number)) (Refused (server_off r.server))
        by false = refusal-answers w (server_off r.server)
        by true =
            says-given (Some r)
            ∙ (ap session_phase (given (Some r))
            ∙ (ap mirror_phase (ap (option_map (λ (r : Mirror). record r { master = phases.aborted r.master })) has)
            ∙ ap (λ o. Done (InPhase (phases.enters_some o r.master).phase (phases.enters_some o r.master).number)) is))

    answers-master : (o : Option Mirror) → x.mirror ≡ o → part_answer (part (by_master o)) ≡ abort_by_master k o
    answers-master None none = refusal-answers w (OutOfOrder phase.None)
    answers-master (Some r) has = answers-phase r has (phases.aborted_phase r.master.phase) refl

  answers-session : (o : Option Session) → session_in k.sessions s ≡ o → part_answer (part (on_session o (λ x. by_master x.mirror))) ≡ abort_by_session k o
  answers-session None none = refusal-answers w (unknown OfSession)
  answers-session (Some x) found = answers-master x found x.mirror refl

  pub answers : said_in w t ≡ abort_says w s
  answers = by (has_room w.events) refl
    where
      by : (b : Bool) → has_room w.events ≡ b → said_in w t ≡ cond b (abort_by_session k (session_in k.sessions s)) (Refused JournalFull)
      by true room = ap part_answer (part-is _ (planned true room)) ∙ answers-session (session_in k.sessions s) refl
      by false full = ap part_answer (part-is _ (planned false full)) ∙ refusal-answers w JournalFull

  -- ---- what it leaves

  module _ (r : Mirror) (p : PhaseName) (room : has_room w.events ≡ true) (is : phases.aborted_phase r.master.phase ≡ Some p) (on : k.on r.server ≡ true) where
    abbrev pub new : Mirror
    new = record r { master = record r.master { phase = p; owed = r.master.servers; reports = [] } }

    pub aborted-is : record r { master = phases.aborted r.master } ≡ new
    aborted-is = ap (λ o. record r { master = phases.enters_some o r.master }) is
        ∙ ap (λ owed. record r { master = record r.master { phase = p; owed = owed; reports = [] } }) (owed-all r.master.phase p r.master.servers is)

    free : unless (option_or (abort_refusal (Some r)) (master_refusal k (Some r))) (gives_up (Some r)) ≡ gives_up (Some r)
    free = (λ i. unless (option_or (phases.refusal_unless r.master.phase (is i)) (cond (on i) None (Some (server_off r.server)))) (gives_up (Some r)))

    leads : after_task w t ≡ answered_part t.line (part (gives_up (Some r))) → (after_task w t).control ≡ aborting s (Some r) k
    unfolding carry after_plan
    leads e = ap (λ (u : World). u.control) (e ∙ lost-stays w (after_plan w t.line (gives_up (Some r))) refl)

    module _ (x : Session) (found : session_in k.sessions s ≡ Some x) (has : x.mirror ≡ Some r) where
      plan-is : plan k w.events t.line (Ok (Abort s)) ≡ gives_up (Some r)
      plan-is = planned true room ∙ (ap (λ o. on_session o (λ x. by_master x.mirror)) found ∙ (ap by_master has ∙ free))

      pub control-is : (after_task w t).control ≡ aborting s (Some r) k
      control-is = leads (ap (answered_part t.line) (part-is (gives_up (Some r)) plan-is))

      is-aborted : IsAborted w (after_task w t) s r p
      is-aborted =
          let both = subst (λ (j : Control). (master_in j s ≡ Some new) × (j ≡ record k { sessions = j.sessions; flight = j.flight })) (sym control-is)
          (ap mirror_in (given x found (Some r)) ∙ (ap (option_map (λ (r : Mirror). record r { master = phases.aborted r.master })) has ∙ ap Some aborted-is), refl) in
          record { is = both.0; same = both.1 }

  left-by : (r : Mirror) (p : PhaseName) → has_room w.events ≡ true → master_in k s ≡ Some r → phases.aborted_phase r.master.phase ≡ Some p → k.on r.server ≡ true → IsAborted w (after_task w t) s r p
  left-by r p room has is on = by (session_in k.sessions s) refl has
    where
      by : (o : Option Session) → session_in k.sessions s ≡ o → mirror_in o ≡ Some r → IsAborted w (after_task w t) s r p
      by None none e = absurd cc
      by (Some x) found e = is-aborted r p room is on x found e

  abort-answers : AbortAnswers w t s
  abort-answers = record { says = answers; leaves = left-by }

pub aborts-answer : (tasks : List Task) → AbortsAnswer tasks
aborts-answer tasks t s asked = abort-answers (run tasks) t s asked
