-- What a recovery answers is the newest group of its session.
use Rattle.std.proofs.Common.{ℕ, ◌≡◌, ◌⊎◌, inl, inr, refl, ap, sym, ◌∙◌, subst, Bool, true, false, cond, List, [], ◌∷◌, map, Option, Some, None, Ok}
use Rattle.std.proofs.lemmas.Bool.{and_parts, eqb-true}
use Rattle.dr_ids.specs.declared.refusal.Decision.{Decision}
use Rattle.dr_ids.specs.declared.refusal.Refusal.{Refusal}
use Rattle.dr_ids.specs.declared.refusal.Refusal.TheVariants.{JournalFull, NoGroup}
use Rattle.dr_ids.specs.declared.refusal.Kind.TheVariants.{Session as OfSession}
use Rattle.dr_model.specs.declared.said.Addition.TheVariants.{InGroup}
use Rattle.dr_model.specs.declared.said.Said.{Said}
use Rattle.dr_model.specs.declared.said.Said.TheVariants.{Done, Refused}
use Rattle.dr_model.specs.declared.step.Step.TheVariants.{Recover}
use Rattle.dr_model.specs.Refusals.{unknown}
use Rattle.dr_model.specs.Decisions.{numbers_in}
use Rattle.dr_model.specs.Control.{Control, World}
use Rattle.dr_model.specs.Entries.{fields_at}
use Rattle.dr_model.specs.SessionEntries.{counts_in}
use Rattle.dr_model.specs.Sessions.{Session, session_in}
use Rattle.dr_model.specs.Groups.{In}
use Rattle.dr_model.specs.Attempts.{roles, IsTarget}
use Rattle.dr_model.specs.NewestGroup.{StandsCommitted, NewestGroup}
use Rattle.dr_model.specs.RecoveryPlans.{recover_plan, recover_done, decided_in, secondary_refusal, says_group}
use Rattle.dr_model.specs.PlanParts.{Plan, same, refuses, unless, on_session}
use Rattle.dr_model.specs.Plans.{has_room, plan}
use Rattle.dr_model.specs.Carry.{Outcome, carry}
use Rattle.dr_model.specs.Carried.{begun, finish, carried_out, answered, after_plan, stop_place}
use Rattle.dr_model.specs.Runs.{Task, after_task, run}
use Rattle.dr_model.specs.Laws.{Sound}
use Rattle.dr_model.specs.Table.{table}
use Rattle.dr_facts.proofs.Lists.{from-filter}
use Rattle.dr_laws_sessions.proofs.Changes.{session-found}
use Rattle.dr_laws_targets.specs.Counted.{MemberHas}
use Rattle.dr_laws_targets.proofs.Places.{committed-stands}
use Rattle.dr_laws_sound.specs.Acknowledged.{said_in}
use Rattle.dr_laws_sound.proofs.Steps.{sound-run, sound-task}
use Rattle.dr_laws_sound.proofs.Riders.{rides-task}
use Rattle.dr_model.specs.Recovery.{decided_over, common}
use Rattle.dr_laws_recovery.specs.Recovered.{recovered_in}
use Rattle.dr_laws_recovery.specs.RecoveryAnswers.{AnswersForCause}
use Rattle.dr_laws_recovery.specs.Formed.{FindsNewest, FindsNone, RecoveryFinds, GroupsAreFound}
use Rattle.dr_laws_recovery.proofs.CountedAlong.{Counts, counts-ride, counts-run}
use Rattle.dr_laws_recovery.proofs.Headline.{only-newest, group-newest}
use Rattle.dr_laws_recovery.proofs.Recovers.{recover-keeps}
use Rattle.dr_laws_recovery.proofs.RecoveryAnswers.{answers-for-cause}
use Rattle.dr_logic.proofs.Options.{none_some}

-- ---- in a world that keeps the laws, the group that recovery makes of a session is its newest one

module _ (w : World) (sound : Sound w) (k : Counts w) where
  -- a session that is listed
  record Listed (s : ℕ) : Type 0 where
    session : Session
    here : In session w.control.sessions
    number : session.number ≡ s

  some-remains : (vs : List ℕ) (f : ℕ → ℕ) (n : ℕ) → common (numbers_in (map f vs)) ≡ Some n → (v : ℕ) × In v vs
  some-remains [] f n e = none_some refl e
  some-remains (v ∷ vs) f n e = (v, inl refl)

  -- one that has a group is
  group-listed : (s n : ℕ) → (recovered_in w s).group ≡ Some n → Listed s
  group-listed s n e =
      let one = some-remains (recovered_in w s).remaining _ n e in
      let v : ℕ = one.0 in
      let there = from-filter _ w.control.volumes v one.1 in
      let counted = and_parts (counts_in s (fields_at w.control v)) _ there.1 in
      let so = and_parts _ _ counted.0 in
      let t : IsTarget w.control.sessions v (fields_at w.control v).session (roles w.control v).source (fields_at w.control v).recorded (fields_at w.control v).inhibited (fields_at w.control v).reversing = (sound.attempts.volumes v).counted so.1 in
      record { session = t.session; here = t.listed; number = t.number ∙ eqb-true (fields_at w.control v).session s so.0 }

  committed-listed : (s n a : ℕ) → StandsCommitted w.events s n a → Listed s
  committed-listed s n a c =
      let h : MemberHas w.control.sessions (table w) s n a = k.1.committed s n a (committed-stands s n a w.events c) in
      record { session = h.session; here = h.listed; number = h.number }

  pub newest-by-group : (s n : ℕ) → (recovered_in w s).group ≡ Some n → NewestGroup w.events s n
  newest-by-group s n e =
      let l : Listed s = group-listed s n e in
      subst (λ s. (recovered_in w s).group ≡ Some n → NewestGroup w.events s n) l.number (only-newest w sound k.0.0.once k.0.1.whole k.0.1.members k.1 l.session l.here n) e

  pub group-by-newest : (s n : ℕ) → NewestGroup w.events s n → (recovered_in w s).group ≡ Some n
  group-by-newest s n g =
      let l : Listed s = committed-listed s n g.primary g.committed in
      subst (λ s. NewestGroup w.events s n → (recovered_in w s).group ≡ Some n) l.number (group-newest w sound k.0.0.once k.0.1.whole k.0.1.members k.1 l.session l.here n) g

  pub none-newest : (s : ℕ) → (recovered_in w s).group ≡ None → (n : ℕ) → NewestGroup w.events s n → ⊥
  none-newest s none n g = none_some none (group-by-newest s n g)

-- ---- what a recovery answers

-- an answer that says no group, nor that there is none
record Else (said : Said) : Type 0 where
  other : (n : ℕ) (d : Decision) → said ≡ Done (InGroup n d) → ⊥
  some : (d : Decision) → said ≡ Refused (NoGroup d) → ⊥

abbrev said_by : World → Plan → Said
said_by w p = answered p (carried_out w p).0.control (carried_out w p).1

refused-says : (w : World) (r : Refusal) → said_by w (refuses r) ≡ Refused r
unfolding carry
refused-says w r = refl

refused-keeps : (w : World) (line s : ℕ) (r : Refusal) → (recovered_in (after_plan w line (refuses r)) s).group ≡ (recovered_in w s).group
unfolding after_plan carry
refused-keeps w line s r = refl

last-same : (k : Control) (s : ℕ) → (recover_plan k s).last ≡ same
last-same k s = by (session_in k.sessions s)
  where
    of : (x : Session) (o : Option Refusal) → (unless o (recover_done s (decided_in s k) x.members)).last ≡ same
    of x None = refl
    of x (Some r) = refl

    by : (o : Option Session) → (on_session o (λ x. unless (secondary_refusal x.members k) (recover_done s (decided_in s k) x.members))).last ≡ same
    by None = refl
    by (Some x) = of x (secondary_refusal x.members k)

-- a plan that isn't refused says what it says, and one that is refused says that
well-says : (w : World) (p : Plan) → p.last ≡ same → (o : Outcome) → o.1 ≡ None → answered p (finish p (stop_place w p) o.0 o.1).control o.1 ≡ p.says o.0.control
well-says w p last (u, None) none = ap (λ (f : Control → Control). p.says (f u.control)) last
well-says w p last (u, Some r) none = absurd cc

ill-says : (w : World) (p : Plan) (r : Refusal) (o : Outcome) → o.1 ≡ Some r → answered p (finish p (stop_place w p) o.0 o.1).control o.1 ≡ Refused r
ill-says w p r (u, None) is = absurd cc
ill-says w p r (u, Some q) is = let same : q ≡ r = cc in ap (λ r. Refused r) same

module _ (w : World) (sound : Sound w) (s : ℕ) where
  abbrev p : Plan
  p = recover_plan w.control s

  else-refused : (r : Refusal) → ((d : Decision) → r ≡ NoGroup d → ⊥) → (said : Said) → said ≡ Refused r → Else said
  else-refused r not said is = record { other = λ n d e. let h : Refused r ≡ Done (InGroup n d) = sym is ∙ e in cc; some = λ d e. not d (by (sym is ∙ e)) }
    where
      by : {q : Refusal} → Refused r ≡ Refused q → r ≡ q
      by h = cc

  says : (x : Session) → In x w.control.sessions → x.number ≡ s → Else (said_by w p) ⊎ ((d : Decision) × (said_by w p ≡ says_group d (recovered_in w s).group))
  says x listed number = subst (λ s. let p : Plan = recover_plan w.control s in Else (said_by w p) ⊎ ((d : Decision) × (said_by w p ≡ says_group d (recovered_in w s).group))) number (by (answers-for-cause w x sound listed))
    where
      q : Plan
      q = recover_plan w.control x.number

      by : AnswersForCause w x → Else (said_by w q) ⊎ ((d : Decision) × (said_by w q ≡ says_group d (recovered_in w x.number).group))
      by (inl refused) = inl (else-refused _ (λ d e. cc) (said_by w q) (ap (said_by w) refused.is ∙ refused-says w _))
      by (inr runs) = elim runs.ends [
        | inl stops ↦ inl (else-refused _ (λ d e. cc) (said_by w q) (ill-says w q _ (carry (begun w q) q.entries) stops.is))
        | inr well ↦ inr (decided_over (fields_at w.control) w.control.volumes x.number, well-says w q (last-same w.control x.number) (carry (begun w q) q.entries) well.0 ∙ well.1)
      ]

  answers : Else (said_by w p) ⊎ ((d : Decision) × (said_by w p ≡ says_group d (recovered_in w s).group))
  answers = by (session_in w.control.sessions s) refl
    where
      by : (o : Option Session) → session_in w.control.sessions s ≡ o → Else (said_by w p) ⊎ ((d : Decision) × (said_by w p ≡ says_group d (recovered_in w s).group))
      by None none = inl (else-refused (unknown OfSession) (λ d e. cc) (said_by w p) (ap (said_by w) (ap (λ o. on_session o (λ x. unless (secondary_refusal x.members w.control) (recover_done s (decided_in s w.control) x.members))) none) ∙ refused-says w (unknown OfSession)))
      by (Some x) found = let there = session-found w.control.sessions s x found in says x there.0 there.1

-- the group that an answer says
said-some : (d e : Decision) (g : Option ℕ) (n : ℕ) → says_group d g ≡ Done (InGroup n e) → g ≡ Some n
said-some d e None n is = cc
said-some d e (Some m) n is = cc

said-none : (d e : Decision) (g : Option ℕ) → says_group d g ≡ Refused (NoGroup e) → g ≡ None
said-none d e None is = refl
said-none d e (Some m) is = cc

module _ (w : World) (sound : Sound w) (k : Counts w) (line s : ℕ) where
  abbrev t : Task
  t = record { line = line; asked = Ok (Recover s); listed = [] }

  abbrev u : World
  u = after_task w t

  here-sound : Sound u
  here-sound = sound-task w t sound

  here-counts : Counts u
  here-counts = rides-task Counts counts-ride w t sound k

  -- where the journal has room it is the plan of a recovery, and else a refusal
  module _ (P : Plan → Type 0) (goes : P (recover_plan w.control s)) (full : P (refuses JournalFull)) where
    either : P (plan w.control w.events line (Ok (Recover s)))
    either = by (has_room w.events)
      where
        by : (b : Bool) → P (cond b (recover_plan w.control s) (refuses JournalFull))
        by true = goes
        by false = full

  -- it keeps the group
  keeps : (recovered_in u s).group ≡ (recovered_in w s).group
  keeps = either (λ (p : Plan). (recovered_in (after_plan w line p) s).group ≡ (recovered_in w s).group) ((recover-keeps w sound s s).after line).group (refused-keeps w line s JournalFull)

  abbrev Answers : Plan → Type 0
  Answers p = Else (said_by w p) ⊎ ((d : Decision) × (said_by w p ≡ says_group d (recovered_in w s).group))

  says-so : Answers (plan w.control w.events line (Ok (Recover s)))
  says-so = either Answers (answers w sound s) (inl (else-refused w sound s JournalFull (λ d e. cc) (said_by w (refuses JournalFull)) (refused-says w JournalFull)))

  finds : (n : ℕ) (d : Decision) → said_in w t ≡ Done (InGroup n d) → FindsNewest w u s n
  finds n d is = by says-so
    where
      by : Answers (plan w.control w.events line (Ok (Recover s))) → FindsNewest w u s n
      by (inl other) = absurd (other.other n d is)
      by (inr a) =
          let g : (recovered_in w s).group ≡ Some n = said-some a.0 d (recovered_in w s).group n (sym a.1 ∙ is) in
          record { before = newest-by-group w sound k s n g; after = newest-by-group u here-sound here-counts s n (keeps ∙ g) }

  none : (d : Decision) → said_in w t ≡ Refused (NoGroup d) → FindsNone w u s
  none d is = by says-so
    where
      by : Answers (plan w.control w.events line (Ok (Recover s))) → FindsNone w u s
      by (inl other) = absurd (other.some d is)
      by (inr a) =
          let g : (recovered_in w s).group ≡ None = said-none a.0 d (recovered_in w s).group (sym a.1 ∙ is) in
          record { before = none-newest w sound k s g; after = none-newest u here-sound here-counts s (keeps ∙ g) }

pub found-task : (w : World) (t : Task) → Sound w → Counts w → RecoveryFinds w t
found-task w t sound k = record {
  group = λ s n d asked said. subst (λ a. said_in w (record { line = t.line; asked = a; listed = t.listed }) ≡ Done (InGroup n d) → FindsNewest w (after_task w (record { line = t.line; asked = a; listed = t.listed })) s n) (sym asked) (finds w sound k t.line s n d) said;
  none = λ s d asked said. subst (λ a. said_in w (record { line = t.line; asked = a; listed = t.listed }) ≡ Refused (NoGroup d) → FindsNone w (after_task w (record { line = t.line; asked = a; listed = t.listed })) s) (sym asked) (none w sound k t.line s d) said;
}

pub found-run : (tasks : List Task) → GroupsAreFound tasks
found-run tasks before behind t is = found-task (run before) t (sound-run before) (counts-run before)
