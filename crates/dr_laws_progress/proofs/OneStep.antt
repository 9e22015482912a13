-- The step of a recovery: its plan, what it answers, and where it leads.
use Rattle.std.proofs.Common.{ℕ, ◌≡◌, inl, inr, refl, ap, sym, ◌∙◌, subst, true, false, cond, not, List, [], ◌∷◌, Some, None, Ok, option_map}
use Rattle.std.specs.List.{find}
use Rattle.dr_ids.specs.declared.names.Member.{Member}
use Rattle.dr_ids.specs.declared.refusal.Refusal.{Refusal}
use Rattle.dr_ids.specs.declared.refusal.Refusal.TheVariants.{JournalFull, Stopped as StoppedIn}
use Rattle.dr_model.specs.declared.said.Said.TheVariants.{Refused}
use Rattle.dr_model.specs.declared.step.Step.TheVariants.{Recover}
use Rattle.dr_model.specs.Refusals.{server_off}
use Rattle.dr_model.specs.Control.{Control, World}
use Rattle.dr_model.specs.Entries.{is_running}
use Rattle.dr_model.specs.Sessions.{Session}
use Rattle.dr_model.specs.Groups.{In}
use Rattle.dr_model.specs.RecoveryPlans.{decided_in, secondary_refusal, recover_entries, recover_done, recover_plan}
use Rattle.dr_model.specs.PlanParts.{Plan, refuses, unless, on_session}
use Rattle.dr_model.specs.Plans.{plan, has_room}
use Rattle.dr_model.specs.Carry.{Outcome, carry}
use Rattle.dr_model.specs.Carried.{finish, answered, said, masters_lost, after_plan, stop_place}
use Rattle.dr_model.specs.Forming.{Part, refusal_said}
use Rattle.dr_model.specs.Runs.{Task, course, answered_part, after_task}
use Rattle.dr_laws_sound.specs.Acknowledged.{part_answer, said_in}
use Rattle.dr_laws_sound.specs.Stops.{refused_stop}
use Rattle.dr_laws_sound.specs.RefusedSteps.{Leaves, LeavesItsDue}
use Rattle.dr_laws_sound.proofs.RefusedRuns.{refused-step}
use Rattle.dr_laws_sound.proofs.FitsFlash.{as_begun}
use Rattle.dr_laws_recovery.specs.RecoveryAnswers.{secondary_server}
use Rattle.dr_laws_progress.specs.Recoveries.{OnlyAnswers, CanBegin}

-- no secondary's server is off
pub none-off : (k : Control) (ms : List Member) → ((m : Member) → In m ms → k.on (secondary_server k m) ≡ true) → secondary_refusal ms k ≡ None
none-off k [] on = refl
none-off k (m ∷ ms) on =
    ap (λ b. option_map (λ (m : Member). server_off (k.volume m.b.0).server) (cond (not b) (Some m) (find (λ (m : Member). not (is_running m.b.0 k)) ms))) (on m (inl refl))
    ∙ none-off k ms (λ q h. on q (inr h))

-- a plan that is nothing but a refusal answers that
pub refusal-answers : (w : World) (r : Refusal) → part_answer (record { world = w; plan = refuses r }) ≡ Refused r
unfolding carry
refusal-answers w r = refl

-- ---- the step, by its plan

module _ (w : World) (t : Task) (s : ℕ) (asked : t.asked ≡ Ok (Recover s)) where
  -- a plan of it
  abbrev part : Plan → Part
  part p = record { world = w; plan = p }

  part-is : (p : Plan) → plan w.control w.events t.line (Ok (Recover s)) ≡ p → (course w t).last ≡ part p
  part-is p is = ap (λ a. (course w (record { line = t.line; asked = a; listed = t.listed })).last) asked ∙ ap part is

  full : has_room w.events ≡ false → plan w.control w.events t.line (Ok (Recover s)) ≡ refuses JournalFull
  full room = ap (λ b. cond b (recover_plan w.control s) (refuses JournalFull)) room

  planned : has_room w.events ≡ true → plan w.control w.events t.line (Ok (Recover s)) ≡ recover_plan w.control s
  planned room = ap (λ b. cond b (recover_plan w.control s) (refuses JournalFull)) room

  says-refused : (r : Refusal) → plan w.control w.events t.line (Ok (Recover s)) ≡ refuses r → said_in w t ≡ Refused r
  says-refused r is = ap part_answer (part-is (refuses r) is) ∙ refusal-answers w r

  pub says-full : has_room w.events ≡ false → said_in w t ≡ Refused JournalFull
  says-full room = says-refused JournalFull (full room)

  pub says-by : (r : Refusal) → has_room w.events ≡ true → recover_plan w.control s ≡ refuses r → said_in w t ≡ Refused r
  says-by r room is = says-refused r (planned room ∙ is)

  -- and changes nothing
  pub only-answers : (r : Refusal) → said_in w t ≡ Refused r → refused_stop (Some r) ≡ None → ((u : World) → Leaves w (Ok (Recover s)) r u → u ≡ w) → OnlyAnswers w t
  only-answers r is not_stop stays =
      let l : LeavesItsDue w t r = refused-step w t r (ap refusal_said is) not_stop in
      l.after ∙ (ap (λ (u : World). said u t.line (Refused r)) (stays l.left (subst (λ a. Leaves w a r l.left) asked l.leaves)) ∙ ap (said w t.line) (sym is))

  -- ---- one that nothing refuses as it begins

  module _ (x : Session) (b : CanBegin w s x) where
    pub free : secondary_refusal x.members w.control ≡ None
    free = none-off w.control x.members b.on

    abbrev pub goes : Plan
    goes = recover_done s (decided_in s w.control) x.members

    pub plan-is : recover_plan w.control s ≡ goes
    plan-is = ap (λ o. on_session o (λ x. unless (secondary_refusal x.members w.control) (recover_done s (decided_in s w.control) x.members))) b.found ∙ ap (λ o. unless o goes) free

    abbrev pub ends : Outcome
    ends = carry (as_begun w) (recover_entries s (decided_in s w.control) x.members)

    -- nothing follows its end, nor a stop
    finished : (n : ℕ) (o : Outcome) → finish goes n o.0 o.1 ≡ o.0
    finished n (u, None) = refl
    finished n (u, Some (StoppedIn q)) = refl
    finished n (u, Some r) = refl

    here : (course w t).last ≡ part goes
    here = part-is goes (planned b.room ∙ plan-is)

    pub says : said_in w t ≡ answered goes ends.0.control ends.1
    says = ap part_answer here ∙ ap (λ (u : World). answered goes u.control ends.1) (finished (stop_place w goes) ends)

    leads-by : answered_part t.line (part goes) ≡ masters_lost w (said ends.0 t.line (answered goes ends.0.control ends.1))
    unfolding after_plan
    leads-by = ap (λ (u : World). masters_lost w (said u t.line (answered goes u.control ends.1))) (finished (stop_place w goes) ends)

    pub leads : after_task w t ≡ masters_lost w (said ends.0 t.line (answered goes ends.0.control ends.1))
    leads = ap (answered_part t.line) here ∙ leads-by
