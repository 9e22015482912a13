-- Each answer of a recovery has its cause.
use Rattle.std.proofs.Common.{ℕ, ◌≡◌, inl, inr, refl, ap, sym, ◌∙◌, subst, Bool, true, false, cond, not, ◌&&◌, List, [], ◌∷◌, map, filter, Option, Some, None, Ok}
use Rattle.std.proofs.lemmas.Bool.{and_from}
use Rattle.dr_ids.specs.declared.refusal.Decision.TheVariants.{Impossible}
use Rattle.dr_ids.specs.declared.refusal.Refusal.{Refusal}
use Rattle.dr_ids.specs.declared.refusal.Refusal.TheVariants.{JournalFull, NoGroup}
use Rattle.dr_ids.specs.declared.refusal.Kind.TheVariants.{Session as OfSession}
use Rattle.dr_model.specs.declared.said.Addition.TheVariants.{InGroup}
use Rattle.dr_model.specs.declared.said.Said.{Said}
use Rattle.dr_model.specs.declared.said.Said.TheVariants.{Done, Refused}
use Rattle.dr_model.specs.declared.step.Step.TheVariants.{Recover}
use Rattle.dr_model.specs.Refusals.{unknown, server_off, stopped}
use Rattle.dr_model.specs.Layout.{Fields}
use Rattle.dr_model.specs.Decisions.{Shown, Numbers, NoNumber, Same, Differ, numbers_in, revertibles, others, decided, decision}
use Rattle.dr_model.specs.Control.{World}
use Rattle.dr_model.specs.Entries.{fields_at}
use Rattle.dr_model.specs.Sessions.{Session, session_in, members_in}
use Rattle.dr_model.specs.SessionEntries.{counts_in, shown_of, shown_by_members}
use Rattle.dr_model.specs.Groups.{In}
use Rattle.dr_model.specs.RecoveryPlans.{recover_plan, says_group, lets_revert}
use Rattle.dr_model.specs.PlanParts.{Plan}
use Rattle.dr_model.specs.Carry.{carry}
use Rattle.dr_model.specs.Carried.{begun}
use Rattle.dr_model.specs.Recovery.{goes_back, remains_in}
use Rattle.dr_model.specs.Runs.{Task, after_task, run}
use Rattle.dr_model.specs.Laws.{Sound}
use Rattle.dr_facts.proofs.Lists.{from-filter, to-filter, from-map}
use Rattle.dr_laws_attempts.proofs.Tables.{session-possible}
use Rattle.dr_laws_sound.specs.Acknowledged.{said_in}
use Rattle.dr_laws_sound.proofs.Steps.{sound-run}
use Rattle.dr_laws_recovery.specs.Recovered.{recovered_in, HasRecovered}
use Rattle.dr_laws_recovery.specs.RecoveryAnswers.{secondary_server, Stops}
use Rattle.dr_laws_recovery.specs.Formed.{RecoveryFinds}
use Rattle.dr_laws_recovery.proofs.CountedAlong.{Counts, counts-run}
use Rattle.dr_laws_recovery.proofs.GroupsFound.{found-task}
use Rattle.dr_laws_recovery.proofs.Recovers.{decided-is}
use Rattle.dr_laws_recovery.proofs.RecoversEnd.{has-ended}
use Rattle.dr_logic.proofs.Options.{none_some}
use Rattle.dr_laws_progress.specs.Recoveries.{decided_for, can_leave_none, CanBegin, RecoveryAnswers, HasNoRoom, HasNoSession, HasServerOff, HasStopped, HasGroup, HasNone, RecoveriesAnswer}
use Rattle.dr_laws_progress.proofs.OneStep as step
use Rattle.dr_laws_progress.proofs.Course.{acts, Goes, Full, Unknown, Off, Halts, Ends, goes-so}

-- ---- what was decided if no volume remains

-- all are revertible
none-other : (rs : List Shown) → ((r : Shown) → In r rs → r.revertible ≡ true) → others rs ≡ []
none-other [] all = refl
none-other (r ∷ rs) all =
    ap (λ b. map (λ (r : Shown). r.sequence) (cond (not b) (r ∷ filter (λ (r : Shown). not r.revertible) rs) (filter (λ (r : Shown). not r.revertible) rs))) (all r (inl refl)) ∙ none-other rs (λ q h. all q (inr h))

by-possible : (a : Numbers) → ((p q : ℕ) → decided a NoNumber ≡ Impossible p q → ⊥) → can_leave_none (decided a NoNumber) ≡ true
unfolding decided
by-possible NoNumber possible = refl
by-possible (Same n) possible = refl
by-possible (Differ p q) possible = absurd (possible p q refl)

by-others : (a b : Numbers) → b ≡ NoNumber → ((p q : ℕ) → decided a b ≡ Impossible p q → ⊥) → can_leave_none (decided a b) ≡ true
by-others a b none = subst (λ b. ((p q : ℕ) → decided a b ≡ Impossible p q → ⊥) → can_leave_none (decided a b) ≡ true) (sym none) (by-possible a)

all-revertible : (rs : List Shown) → ((r : Shown) → In r rs → r.revertible ≡ true) → ((p q : ℕ) → decision rs ≡ Impossible p q → ⊥) → can_leave_none (decision rs) ≡ true
unfolding decision
all-revertible rs all possible = by-others (numbers_in (revertibles rs)) (numbers_in (others rs)) (ap numbers_in (none-other rs all)) possible

module _ (w : World) (sound : Sound w) (s : ℕ) (x : Session) (found : session_in w.control.sessions s ≡ Some x) where
  possible : (p q : ℕ) → decided_for w s ≡ Impossible p q → ⊥
  possible p q is = session-possible w.control s x p q sound.groups sound.attempts found (sym (ap (λ o. decision (shown_by_members s (members_in o) w.control)) found) ∙ (decided-is w sound s s x found ∙ is))

  -- one that counts and isn't revertible remains
  stays : (v : ℕ) → In v w.control.volumes → counts_in s (fields_at w.control v) ≡ true → (fields_at w.control v).revertible ≡ false → In v (recovered_in w s).remaining
  stays v there counted plain =
      let f : Fields = fields_at w.control v in
      to-filter (λ v. remains_in s (lets_revert (decided_for w s)) (fields_at w.control v)) w.control.volumes v there
      (and_from (counts_in s f) (cond (goes_back (lets_revert (decided_for w s)) f) f.member true) counted (ap (λ b. cond b f.member true) (back (lets_revert (decided_for w s)) f.revertible plain)))
    where
      back : (b r : Bool) → r ≡ false → (b && r) ≡ false
      back true r h = h
      back false r h = refl

  pub none-remains : ((v : ℕ) → In v (recovered_in w s).remaining → ⊥) → can_leave_none (decided_for w s) ≡ true
  none-remains none = all-revertible (map (λ v. shown_of (fields_at w.control v)) (filter (λ v. counts_in s (fields_at w.control v)) w.control.volumes)) all possible
    where
      all : (r : Shown) → In r (map (λ v. shown_of (fields_at w.control v)) (filter (λ v. counts_in s (fields_at w.control v)) w.control.volumes)) → r.revertible ≡ true
      all r h =
          let o = from-map (λ v. shown_of (fields_at w.control v)) (filter (λ v. counts_in s (fields_at w.control v)) w.control.volumes) r h in
          let f = from-filter (λ v. counts_in s (fields_at w.control v)) w.control.volumes o.from o.here in
          ap (λ (r : Shown). r.revertible) o.is ∙ by (fields_at w.control o.from).revertible (λ plain. none o.from (stays o.from f.0 f.1 plain))
        where
          by : (b : Bool) → (b ≡ false → ⊥) → b ≡ true
          by true never = refl
          by false never = absurd (never refl)

-- ---- the answer of a step

module _ (w : World) (sound : Sound w) (counts : Counts w) (t : Task) (s : ℕ) (asked : t.asked ≡ Ok (Recover s)) where
  abbrev Answers : Type 0
  Answers = RecoveryAnswers w t s (said_in w t)

  answer-is : (a : Said) → said_in w t ≡ a → RecoveryAnswers w t s a → Answers
  answer-is a is = subst (RecoveryAnswers w t s) (sym is)

  finds : RecoveryFinds w t
  finds = found-task w t sound counts

  -- a stop
  halts : (x : Session) → CanBegin w s x → (stop : Stops w (acts w s x).0 x (acts w s x).1) → Stops w (after_task w t) x (Some (stopped (secondary_server w.control stop.member)))
  halts x b stop = record {
    member = stop.member;
    here = stop.here;
    was_on = stop.was_on;
    armed = stop.armed;
    off = ap (λ (u : World). u.control.on (secondary_server w.control stop.member)) (step.leads w t s asked x b) ∙ stop.off;
    is = refl;
  }

  -- or an end
  ends : (x : Session) → CanBegin w s x → (acts w s x).1 ≡ None → (g : Option ℕ) → (recovered_in w s).group ≡ g → said_in w t ≡ says_group (decided_for w s) g → Answers
  ends x b well (Some n) group is = answer-is (Done (InGroup n (decided_for w s))) is (HasGroup x b n (finds.group s n (decided_for w s) asked is))
  ends x b well None group is =
      let p : Plan = recover_plan w.control s in
      let well_so : (carry (begun w p) p.entries).1 ≡ None = ap (λ (p : Plan). (carry (begun w p) p.entries).1) (step.plan-is w t s asked x b) ∙ well in
      let h : HasRecovered w (carry (begun w p) p.entries).0 s = has-ended w sound s x b.found (step.free w t s asked x b) well_so in
      answer-is (Refused (NoGroup (decided_for w s))) is (HasNone x b (finds.none s (decided_for w s) asked is) (none-remains w sound s x b.found (λ v here. none_some group (h.numbered v here))))

  by-course : Goes w t s → Answers
  by-course (Full room is) = answer-is (Refused JournalFull) is (HasNoRoom room (step.only-answers w t s asked JournalFull is refl (λ u e. e)))
  by-course (Unknown room none is) = answer-is (Refused (unknown OfSession)) is (HasNoSession room none (step.only-answers w t s asked (unknown OfSession) is refl (λ u e. e)))
  by-course (Off x room found first is) =
      let r : Refusal = server_off (secondary_server w.control first.member) in
      answer-is (Refused r) is (HasServerOff x room found first (step.only-answers w t s asked r is refl (λ u e. e)))
  by-course (Halts x b stop is) = let r : Refusal = stopped (secondary_server w.control stop.member) in answer-is (Refused r) is (HasStopped x b r (halts x b stop))
  by-course (Ends x b well is) = ends x b well (recovered_in w s).group refl is

  pub recovery-answers : RecoveryAnswers w t s (said_in w t)
  recovery-answers = by-course (goes-so w sound t s asked)

pub recoveries-answer : (tasks : List Task) → RecoveriesAnswer tasks
recoveries-answer tasks before after t s is asked = recovery-answers (run before) (sound-run before) (counts-run before) t s asked
