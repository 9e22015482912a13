-- A recovery right after one that came to its end finds what that one left, and does nothing.
use Rattle.std.proofs.Common.{ℕ, ◌≡◌, inl, inr, refl, ap, sym, ◌∙◌, subst, Bool, true, false, cond, List, [], ◌∷◌, ◌++◌, map, Option, Some, None, Ok}
use Rattle.dr_ids.specs.declared.names.Member.{Member}
use Rattle.dr_ids.specs.declared.refusal.Decision.{Decision}
use Rattle.dr_ids.specs.declared.refusal.Decision.TheVariants.{NoMember, Nothing}
use Rattle.dr_ids.specs.declared.refusal.Refusal.TheVariants.{JournalFull, NoGroup}
use Rattle.dr_model.specs.declared.said.Addition.TheVariants.{InGroup}
use Rattle.dr_model.specs.declared.said.Said.{Said}
use Rattle.dr_model.specs.declared.said.Said.TheVariants.{Done, Refused}
use Rattle.dr_model.specs.declared.step.Step.TheVariants.{Recover}
use Rattle.dr_model.specs.Layout.{is_part}
use Rattle.dr_model.specs.Decisions.{decision, decided}
use Rattle.dr_model.specs.Control.{World}
use Rattle.dr_model.specs.Entries.{fields_at}
use Rattle.dr_model.specs.Sessions.{Session, session_in}
use Rattle.dr_model.specs.SessionEntries.{shown_of}
use Rattle.dr_model.specs.Groups.{In}
use Rattle.dr_model.specs.RecoveryPlans.{decided_in, secondary_refusal, take_over_on, settle_on, end_recovery, recover_entries, recover_plan, group_of, group_number, says_group}
use Rattle.dr_model.specs.PlanParts.{Plan}
use Rattle.dr_model.specs.Plans.{has_room}
use Rattle.dr_model.specs.Moves.{TakeOver}
use Rattle.dr_model.specs.Carry.{Make, Pass, Do, Entry, Outcome, act, carry, recovered}
use Rattle.dr_model.specs.Carried.{begun, answered, said, masters_lost}
use Rattle.dr_model.specs.Runs.{Task, after_task, run}
use Rattle.dr_model.specs.Laws.{Sound}
use Rattle.dr_model.proofs.CarryLemmas.{carry-skips}
use Rattle.dr_laws_sound.specs.Acknowledged.{said_in}
use Rattle.dr_laws_sound.proofs.ChecksFirst.{on-stays}
use Rattle.dr_laws_sound.proofs.FitsFlash.{as_begun}
use Rattle.dr_laws_sound.proofs.RefusedSteps.{lost-stays}
use Rattle.dr_laws_sound.proofs.Steps.{sound-run}
use Rattle.dr_laws_recovery.specs.Recovered.{recovered_in, HasRecovered}
use Rattle.dr_laws_recovery.specs.RecoveryAnswers.{secondary_server}
use Rattle.dr_laws_recovery.proofs.Recovers.{decided-is}
use Rattle.dr_laws_recovery.proofs.RecoversEnd.{ended, group-ended, has-ended}
use Rattle.dr_logic.proofs.Options.{none_some}
use Rattle.dr_laws_progress.specs.RecoversTwice.{AnswersIdly, RecoversTwice}
use Rattle.dr_laws_progress.proofs.Taken.{ends-taken, ends-running}
use Rattle.dr_laws_progress.specs.Recoveries.{decided_for, CanBegin}
use Rattle.dr_laws_progress.proofs.OneStep as step
use Rattle.dr_laws_progress.proofs.Course.{acts, Goes, Full, Unknown, Off, Halts, Ends, goes-so}

-- ---- a recovery that finds nothing to do

-- entries that pass
passes : (v : World) (each : Member → Entry) (ms : List Member) (es : List Entry) → ((m : Member) → In m ms → each m v.control ≡ Pass) → carry v (map each ms ++ es) ≡ carry v es
passes v each [] es all = refl
passes v each (m ∷ ms) es all = carry-skips v (each m) (map each ms ++ es) (all m (inl refl)) ∙ passes v each ms es (λ q h. all q (inr h))

-- Session x can be recovered in u, and nothing is left to do with its members.
record HasNothingToDo (u : World) (s : ℕ) (x : Session) : Type 0 where
  found : session_in u.control.sessions s ≡ Some x
  on : (m : Member) → In m x.members → u.control.on (secondary_server u.control m) ≡ true
  taken : (m : Member) → In m x.members → is_part (fields_at u.control m.b.0).secondary ≡ false
  idle : (m : Member) → settle_on s (decided_in s u.control) m u.control ≡ Pass

module _ (u : World) (q : Task) (s : ℕ) (asked : q.asked ≡ Ok (Recover s)) (x : Session) (nothing : HasNothingToDo u s x) where
  abbrev d : Decision
  d = decided_in s u.control

  -- only the journal is told
  abbrev told_end : World
  told_end = recovered (as_begun u) s (group_number (group_of d))

  end-is : carry (as_begun u) (end_recovery s ∷ []) ≡ (told_end, None)
  unfolding carry act
  end-is = refl

  acts-are : acts u s x ≡ (told_end, None)
  acts-are =
      passes (as_begun u) take_over_on x.members _ (λ m here. ap (λ b. cond b (Do (Make (TakeOver m.b.0))) Pass) (nothing.taken m here))
      ∙ (passes (as_begun u) (settle_on s d) x.members _ (λ m here. nothing.idle m) ∙ end-is)

  abbrev a : Said
  a = says_group d (group_of d)

  -- with room, and without
  idle-with : (room : has_room u.events ≡ true) → AnswersIdly u q a
  idle-with room = record { says = says ∙ sym (ap (λ b. cond b a (Refused JournalFull)) room); control = ap (λ (v : World). v.control) leads; contents = ap (λ (v : World). v.contents) leads }
    where
      b : CanBegin u s x
      b = record { room = room; found = nothing.found; on = nothing.on }

      says : said_in u q ≡ a
      says = step.says u q s asked x b ∙ ap (λ (o : Outcome). answered (step.goes u q s asked x b) o.0.control o.1) acts-are

      leads : after_task u q ≡ said told_end q.line a
      leads = step.leads u q s asked x b ∙ (ap (λ (o : Outcome). masters_lost u (said o.0 q.line (answered (step.goes u q s asked x b) o.0.control o.1))) acts-are ∙ lost-stays u (said told_end q.line a) refl)

  idle-without : (room : has_room u.events ≡ false) → AnswersIdly u q a
  idle-without room = record { says = says ∙ sym (ap (λ b. cond b a (Refused JournalFull)) room); control = ap (λ (v : World). v.control) leads; contents = ap (λ (v : World). v.contents) leads }
    where
      says : said_in u q ≡ Refused JournalFull
      says = step.says-full u q s asked room

      leads : after_task u q ≡ said u q.line (said_in u q)
      leads = step.only-answers u q s asked JournalFull says refl (λ v e. e)

  idle-says : AnswersIdly u q a
  idle-says = by (has_room u.events) refl
    where
      by : (b : Bool) → has_room u.events ≡ b → AnswersIdly u q a
      by true room = idle-with room
      by false room = idle-without room

-- ---- a recovery that came to its end

-- it says a group, or that there is none
abbrev IsEnd : Said → Type 0
IsEnd (Done a) = Unit {0}
IsEnd (Refused (NoGroup d)) = Unit {0}
IsEnd _ = ⊥

-- the group that it says
abbrev group_said : Said → Option ℕ
group_said (Done (InGroup n d)) = Some n
group_said _ = None

said-group : (d : Decision) (g : Option ℕ) → group_said (says_group d g) ≡ g
said-group d None = refl
said-group d (Some n) = refl

module _ (w : World) (t : Task) (s : ℕ) where
  record Came : Type 0 where
    session : Session
    begins : CanBegin w s session
    well : (acts w s session).1 ≡ None
    says : said_in w t ≡ says_group (decided_for w s) (recovered_in w s).group

  came : Goes w t s → IsEnd (said_in w t) → Came
  came (Full room is) end = absurd (subst IsEnd is end)
  came (Unknown room none is) end = absurd (subst IsEnd is end)
  came (Off x room found first is) end = absurd (subst IsEnd is end)
  came (Halts x b stop is) end = absurd (subst IsEnd is end)
  came (Ends x b well is) end = record { session = x; begins = b; well = well; says = is }

-- ---- what it leaves

-- the decision that has a group
with-group : (d : Decision) (n : ℕ) → group_of d ≡ Some n → d ≡ Nothing n
with-group (Nothing m) n is = let same : m ≡ n = cc in ap Nothing same
with-group d n is = absurd cc

-- and the one over nobody
empty : (vs : List ℕ) → ((v : ℕ) → In v vs → ⊥) → vs ≡ []
empty [] none = refl
empty (v ∷ vs) none = absurd (none v (inl refl))

nobody : decision [] ≡ NoMember
unfolding decision decided
nobody = refl

module _ (w : World) (sound : Sound w) (t q : Task) (s : ℕ) (asked : t.asked ≡ Ok (Recover s)) (again : q.asked ≡ Ok (Recover s)) (c : Came w t s) where
  abbrev x : Session
  x = c.session

  abbrev o : Outcome
  o = acts w s x

  -- what is known of the world at its end
  record AtEnd (u : World) : Type 0 where
    sound_then : Sound u
    sessions : u.control.sessions ≡ w.control.sessions
    group : group_of (decided_in s u.control) ≡ (recovered_in w s).group
    recovers : HasRecovered w u s

  abbrev EndsSo : Plan → Type 0
  EndsSo p = (carry (begun w p) p.entries).1 ≡ None → AtEnd (carry (begun w p) p.entries).0

  ends-so : EndsSo (recover_plan w.control s)
  ends-so none =
      let free : secondary_refusal x.members w.control ≡ None = step.free w t s asked x c.begins in
      let e = ended w sound s x c.begins.found free none in
      record {
        sound_then = e.0.0;
        sessions = e.0.1.sessions;
        group = group-ended w sound s x c.begins.found free none;
        recovers = has-ended w sound s x c.begins.found free none;
      }

  at_end : AtEnd o.0
  at_end = subst EndsSo (step.plan-is w t s asked x c.begins) ends-so c.well

  found-then : session_in o.0.control.sessions s ≡ Some x
  found-then = ap (λ ss. session_in ss s) at_end.sessions ∙ c.begins.found

  abbrev u : World
  u = said o.0 t.line (answered (step.goes w t s asked x c.begins) o.0.control o.1)

  after-is : after_task w t ≡ u
  after-is = step.leads w t s asked x c.begins ∙ lost-stays w u (on-stays (as_begun w) o.0 (recover_entries s (decided_in s w.control) x.members) (λ i. (o.0, c.well i)))

  -- the next one, by the decision that it finds
  finds : (a : Said) (d : Decision) → decided_in s o.0.control ≡ d → ((m : Member) → settle_on s d m o.0.control ≡ Pass) → says_group d (group_of d) ≡ a → AnswersIdly (after_task w t) q a
  finds a d decides idle is =
      subst (λ v. AnswersIdly v q a) (sym after-is)
      (subst (AnswersIdly u q) (ap (λ d. says_group d (group_of d)) decides ∙ is)
      (idle-says u q s again x (record {
        found = found-then;
        on = ends-running w x.members c.begins.on s (decided_in s w.control) c.well;
        taken = ends-taken w x.members c.begins.on s (decided_in s w.control) c.well;
        idle = λ m. subst (λ d. settle_on s d m o.0.control ≡ Pass) (sym decides) (idle m);
      })))

  group-is : (a : Said) → said_in w t ≡ a → (recovered_in w s).group ≡ group_said a
  group-is a is = sym (said-group (decided_for w s) (recovered_in w s).group) ∙ ap group_said (sym c.says ∙ is)

  finds-group : (n : ℕ) (d : Decision) → said_in w t ≡ Done (InGroup n d) → AnswersIdly (after_task w t) q (Done (InGroup n (Nothing n)))
  finds-group n d is = finds (Done (InGroup n (Nothing n))) (Nothing n) (with-group (decided_in s o.0.control) n (at_end.group ∙ group-is (Done (InGroup n d)) is)) (λ m. refl) refl

  finds-none : (d : Decision) → said_in w t ≡ Refused (NoGroup d) → AnswersIdly (after_task w t) q (Refused (NoGroup NoMember))
  finds-none d is =
      let none : (recovered_in w s).remaining ≡ [] = empty (recovered_in w s).remaining (λ v here. none_some (group-is (Refused (NoGroup d)) is) (at_end.recovers.numbered v here)) in
      finds (Refused (NoGroup NoMember)) NoMember
      (decided-is o.0 at_end.sound_then s s x found-then ∙ (ap (λ vs. decision (map (λ v. shown_of (fields_at o.0.control v)) vs)) (at_end.recovers.counted ∙ none) ∙ nobody))
      (λ m. refl) refl

pub recovers-twice : (tasks : List Task) → RecoversTwice tasks
recovers-twice tasks before after t q s is asked again =
    let w : World = run before in
    let sound : Sound w = sound-run before in
    let goes : Goes w t s = goes-so w sound t s asked in
    record {
      group = λ n d says. finds-group w sound t q s asked again (came w t s goes (subst IsEnd (sym says) tt)) n d says;
      none = λ d says. finds-none w sound t q s asked again (came w t s goes (subst IsEnd (sym says) tt)) d says;
    }
