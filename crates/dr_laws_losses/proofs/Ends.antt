-- How a recovery ends that is answered with a group: what the targets that count say then.
use Rattle.std.proofs.Common.{option_map, not, ℕ, ◌≡◌, refl, ap, sym, ◌∙◌, subst, Bool, true, false, cond, List, [], ◌∷◌, Option, Some, None, Ok}
use Rattle.std.proofs.lemmas.Bool.{and_parts, eqb-true}
use Rattle.std.proofs.lemmas.Option.{same_Some}
use Rattle.dr_ids.specs.declared.names.Member.{Member}
use Rattle.dr_ids.specs.declared.refusal.Decision.{Decision}
use Rattle.dr_ids.specs.declared.refusal.Refusal.{Refusal}
use Rattle.dr_ids.specs.declared.refusal.Refusal.TheVariants.{JournalFull}
use Rattle.dr_ids.specs.declared.refusal.Kind.TheVariants.{Session as OfSession}
use Rattle.dr_model.specs.declared.said.Addition.TheVariants.{InGroup as AnsweredGroup}
use Rattle.dr_model.specs.declared.said.Said.TheVariants.{Done, Refused}
use Rattle.dr_model.specs.declared.step.Step.TheVariants.{Recover}
use Rattle.dr_model.specs.PlantImage.{Volume as ListedVolume}
use Rattle.dr_model.specs.Refusals.{unknown, server_off}
use Rattle.dr_model.specs.Control.{Control, Fuse, Volume, World}
use Rattle.dr_model.specs.Moves.{Move, Hold, target, keeps_staged, moved_keeping}
use Rattle.dr_model.specs.Entries.{fields_at, is_running}
use Rattle.dr_model.specs.SessionEntries.{counts_in}
use Rattle.dr_model.specs.Sessions.{Session, session_in}
use Rattle.dr_model.specs.Groups.{In, MemberStands}
use Rattle.dr_model.specs.Attempts.{roles, IsTarget}
use Rattle.dr_model.specs.RecoveryPlans.{recover_plan, recover_done, decided_in, secondary_refusal, says_group}
use Rattle.dr_model.specs.PlanParts.{Plan, same, refuses, unless, on_session}
use Rattle.dr_model.specs.Plans.{has_room}
use Rattle.dr_model.specs.Carry.{Act, Make, OpenAttempt, Redo, Acknowledge, Drop, EndFreeze, EndThaw, EndRecovery, Next, Pass, Do, End, Entry, Turn, Outcome, act, carry, continue, go}
use Rattle.dr_model.specs.Carried.{begun, finish, carried_out, answered, after_plan, masters_lost, losing, stop_place}
use Rattle.dr_model.specs.Runs.{after_task}
use Rattle.dr_model.specs.Laws.{Sound}
use Rattle.dr_model.specs.Recovery.{decided_over, remains_in}
use Rattle.dr_model.specs.RecoveryPlans.{lets_revert}
use Rattle.dr_facts.proofs.Lists.{from-filter, to-filter, not-found}
use Rattle.dr_facts.proofs.Tables.{at_part}
use Rattle.dr_laws_sessions.proofs.Changes.{session-found, same-session}
use Rattle.dr_laws_sound.specs.Acknowledged.{said_in}
use Rattle.dr_laws_sound.proofs.Turns.{done, next_of, carried_in, after_act, act-cases, Counts}
use Rattle.dr_laws_recovery.specs.Recovered.{recovered_in, HasRecovered}
use Rattle.dr_laws_recovery.proofs.RecoversEnd.{has-ended, answers-group}

-- ---- where no server stopped, all that run go on running, and volumes stay on their servers

record Steady (w u : World) : Type 0 where
  on : u.control.on ≡ w.control.on
  server : (v : ℕ) → (u.control.volume v).server ≡ (w.control.volume v).server

steady-then : (w u v : World) → Steady w u → Steady u v → Steady w v
steady-then w u v a b = record { on = b.on ∙ a.on; server = λ q. b.server q ∙ a.server q }

steady-same : (w : World) → Steady w w
steady-same w = record { on = refl; server = λ q. refl }

abbrev SteadyTurn : World → Turn → Type 0
SteadyTurn w t = t.1 ≡ None → Steady w t.0

done-steady : (w : World) (m : Move) (f : Option Fuse) → Steady w (done w m f)
done-steady w m f = record {
  on = refl;
  server = λ v. at_part (λ (y : Volume). y.server) w.control.volume (target m) (moved_keeping (keeps_staged m) (w.control.volume (target m)) (next_of w m) (carried_in w m)) refl v;
}

after-steady : (w : World) (a : Act) (f : Option Fuse) → Steady w (after_act w a f)
after-steady w (Make m) f = done-steady w m f
after-steady w (OpenAttempt v s n) f = let d : Steady w (done w (Hold v s n true) f) = done-steady w (Hold v s n true) f in record { on = d.on; server = d.server }
after-steady w (Redo v) f = record { on = refl; server = λ q. refl }
after-steady w (Acknowledge n) f = record { on = refl; server = λ q. refl }
after-steady w (Drop n) f = record { on = refl; server = λ q. refl }
after-steady w (EndFreeze l m) f = record { on = refl; server = λ q. refl }
after-steady w (EndThaw l m) f = record { on = refl; server = λ q. refl }
after-steady w (EndRecovery s n) f = record { on = refl; server = λ q. refl }

never-some : (w v : World) (s : ℕ) → SteadyTurn w (v, Some s)
never-some w v s none = absurd cc

counts-steady : (w : World) (a : Act) → Counts w a (SteadyTurn w)
counts-steady w (Make m) = λ f. never-some w _ _
counts-steady w (OpenAttempt v s n) = λ f. never-some w _ _
counts-steady w (Redo v) = tt
counts-steady w (Acknowledge n) = tt
counts-steady w (Drop n) = tt
counts-steady w (EndFreeze l m) = tt
counts-steady w (EndThaw l m) = tt
counts-steady w (EndRecovery s n) = tt

act-steady : (w : World) (a : Act) → SteadyTurn w (act w a)
act-steady w a = act-cases w a (SteadyTurn w) (λ d off none. steady-same w) (λ f none. after-steady w a f) (counts-steady w a) (λ d f. never-some w _ _)

abbrev SteadyOutcome : World → Outcome → Type 0
SteadyOutcome w o = o.1 ≡ None → Steady w o.0

continue-steady : (w u : World) (o : Option ℕ) (next : World → Outcome) → ((v : World) → SteadyOutcome v (next v)) → (o ≡ None → Steady w u) → SteadyOutcome w (continue u o next)
continue-steady w u None next each here none = steady-then w u (next u).0 (here refl) (each u none)
continue-steady w u (Some s) next each here none = absurd cc

go-steady : (w : World) (x : Next) (next : World → Outcome) → ((v : World) → SteadyOutcome v (next v)) → SteadyOutcome w (go w x next)
go-steady w Pass next each none = each w none
go-steady w (End r) next each none = absurd cc
go-steady w (Do a) next each none = continue-steady w (act w a).0 (act w a).1 next each (act-steady w a) none

carry-steady : (w : World) (ds : List Entry) → SteadyOutcome w (carry w ds)
unfolding carry
carry-steady w [] none = steady-same w
carry-steady w (d ∷ ds) none = go-steady w (d w.control) (λ v. carry v ds) (λ v. carry-steady v ds) none

-- ---- an answer with a group

-- the world in which it is answered: each target that counts in the session has that number for good, and its server runs
pub record HasEnded (u : World) (s n : ℕ) : Type 0 where
  pub number : (v : ℕ) → In v u.control.volumes → counts_in s (fields_at u.control v) ≡ true → (fields_at u.control v).sequence ≡ n
  pub on : (v : ℕ) → In v u.control.volumes → counts_in s (fields_at u.control v) ≡ true → u.control.on (u.control.volume v).server ≡ true

-- a plan that says what a refusal doesn't
refused-never : {P : Type 0} (r : Refusal) (n : ℕ) (d : Decision) → Refused r ≡ Done (AnsweredGroup n d) → P
refused-never r n d is = absurd cc

said-group : (d e : Decision) (g : Option ℕ) (n : ℕ) → says_group d g ≡ Done (AnsweredGroup n e) → g ≡ Some n
said-group d e None n is = absurd cc
said-group d e (Some m) n is = cc

ended-control : (q : Plan) → q.last ≡ same → (i : ℕ) (e : Outcome) → e.1 ≡ None → (finish q i e.0 e.1).control ≡ e.0.control
ended-control q last i (v, None) none = ap (λ (f : Control → Control). f v.control) last
ended-control q last i (v, Some r) none = absurd cc

ended-says : (q : Plan) → q.last ≡ same → (i : ℕ) (e : Outcome) → e.1 ≡ None → answered q (finish q i e.0 e.1).control e.1 ≡ q.says e.0.control
ended-says q last i (v, None) none = ap (λ (f : Control → Control). q.says (f v.control)) last
ended-says q last i (v, Some r) none = absurd cc

module _ (w : World) (sound : Sound w) (s n : ℕ) (d : Decision) (x : Session) (found : session_in w.control.sessions s ≡ Some x) (running : secondary_refusal x.members w.control ≡ None) where
  abbrev p : Plan
  p = recover_plan w.control s

  abbrev o : Outcome
  o = carry (begun w p) p.entries

  p-is : p ≡ recover_done s (decided_in s w.control) x.members
  p-is = ap (λ o. on_session o (λ x. unless (secondary_refusal x.members w.control) (recover_done s (decided_in s w.control) x.members))) found ∙ ap (λ r. unless r (recover_done s (decided_in s w.control) x.members)) running

  last-is : p.last ≡ same
  last-is = ap (λ (q : Plan). q.last) p-is

  first-is : p.first ≡ same
  first-is = ap (λ (q : Plan). q.first) p-is

  module _ (none : o.1 ≡ None) (says : answered p (finish p (stop_place w p) o.0 o.1).control o.1 ≡ Done (AnsweredGroup n d)) where
    group : (recovered_in w s).group ≡ Some n
    group = said-group _ d (recovered_in w s).group n (sym (answers-group w sound s x found running none) ∙ (sym (ended-says p last-is (stop_place w p) o none) ∙ says))

    ended : HasRecovered w o.0 s
    ended = has-ended w sound s x found running none

    steady : Steady (begun w p) o.0
    steady = carry-steady (begun w p) p.entries none

    there : (v : ℕ) → In v o.0.control.volumes → counts_in s (fields_at o.0.control v) ≡ true → In v (recovered_in w s).remaining
    there v i c = subst (In v) ended.counted (to-filter (λ v. counts_in s (fields_at o.0.control v)) o.0.control.volumes v i c)

    number-is : (v : ℕ) → In v o.0.control.volumes → counts_in s (fields_at o.0.control v) ≡ true → (fields_at o.0.control v).sequence ≡ n
    number-is v i c = same_Some _ _ (sym (ended.numbered v (there v i c)) ∙ group)

    -- the server of each member's secondary is on
    none-off : (r : Option Member) → option_map (λ (m : Member). server_off (w.control.volume m.b.0).server) r ≡ None → r ≡ None
    none-off None h = refl
    none-off (Some m) h = absurd cc

    secondary-on : (m : Member) → In m x.members → w.control.on (w.control.volume m.b.0).server ≡ true
    secondary-on m here = by (w.control.on (w.control.volume m.b.0).server) (not-found (λ (m : Member). not (is_running m.b.0 w.control)) x.members m (none-off _ running) here)
      where
        by : (b : Bool) → not b ≡ false → b ≡ true
        by true h = refl
        by false h = absurd cc

    target-on : (v : ℕ) → In v (recovered_in w s).remaining → w.control.on (w.control.volume v).server ≡ true
    target-on v h =
        let reverts : Bool = lets_revert (decided_over (fields_at w.control) w.control.volumes s) in
        let i = from-filter (λ v. remains_in s reverts (fields_at w.control v)) w.control.volumes v h in
        let counted = and_parts (counts_in s (fields_at w.control v)) _ i.1 in
        let so = and_parts _ _ counted.0 in
        let t : IsTarget w.control.sessions v (fields_at w.control v).session (roles w.control v).source (fields_at w.control v).recorded
        (fields_at w.control v).inhibited (fields_at w.control v).reversing = (sound.attempts.volumes v).counted so.1 in
        let y = session-found w.control.sessions s x found in
        let same : t.session ≡ x = same-session w.control.sessions t.session x sound.groups.once t.listed y.0 (t.number ∙ (eqb-true (fields_at w.control v).session s so.0 ∙ sym y.1)) in
        let here : In t.member x.members = subst (λ (y : Session). In t.member y.members) same t.here in
        let stands : MemberStands w.control t.member = (sound.groups.each x y.0).stands t.member here in
        subst (λ v. w.control.on (w.control.volume v).server ≡ true) t.is (ap w.control.on stands.target_server ∙ secondary-on t.member here)

    on-is : (v : ℕ) → In v o.0.control.volumes → counts_in s (fields_at o.0.control v) ≡ true → o.0.control.on (o.0.control.volume v).server ≡ true
    on-is v i c =
        (λ j. steady.on j (steady.server v j))
        ∙ (ap (λ (f : Control → Control). (f w.control).on ((f w.control).volume v).server) first-is
        ∙ target-on v (there v i c))

    ended-there : HasEnded o.0 s n
    ended-there = record { number = number-is; on = on-is }

    pub ended-after : (line : ℕ) → HasEnded (masters_lost w (after_plan w line p)) s n
    unfolding after_plan
    ended-after line = subst (λ (k : Control). HasEnded (record (masters_lost w (after_plan w line p)) { control = losing w.control.on k }) s n) (sym (ended-control p last-is (stop_place w p) o none))
        (record { number = number-is; on = on-is })

-- ---- any recovery

module _ (w : World) (sound : Sound w) (s n : ℕ) (d : Decision) where
  abbrev AnsweredSo : Plan → Type 0
  AnsweredSo p = answered p (carried_out w p).0.control (carried_out w p).1 ≡ Done (AnsweredGroup n d)

  refused-so : {P : Type 0} (r : Refusal) → AnsweredSo (refuses r) → P
  unfolding carry
  refused-so r says = refused-never r n d says

  goes : (line : ℕ) → AnsweredSo (recover_plan w.control s) → HasEnded (masters_lost w (after_plan w line (recover_plan w.control s))) s n
  goes line says = of (session_in w.control.sessions s) refl
    where
      run : (x : Session) (found : session_in w.control.sessions s ≡ Some x) (running : secondary_refusal x.members w.control ≡ None) → (r : Option Refusal)
          → (carry (begun w (recover_plan w.control s)) (recover_plan w.control s).entries).1 ≡ r → HasEnded (masters_lost w (after_plan w line (recover_plan w.control s))) s n
      run x found running None none = ended-after w sound s n d x found running none says line
      run x found running (Some r) some = refused-never r n d (ill (carry (begun w (recover_plan w.control s)) (recover_plan w.control s).entries).1 some says)
        where
          ill : (e : Option Refusal) → e ≡ Some r → answered (recover_plan w.control s) (finish (recover_plan w.control s) (stop_place w (recover_plan w.control s))
              (carry (begun w (recover_plan w.control s)) (recover_plan w.control s).entries).0 e).control e ≡ Done (AnsweredGroup n d) → Refused r ≡ Done (AnsweredGroup n d)
          ill e is says = subst (λ e. answered (recover_plan w.control s) (finish (recover_plan w.control s) (stop_place w (recover_plan w.control s))
              (carry (begun w (recover_plan w.control s)) (recover_plan w.control s).entries).0 e).control e ≡ Done (AnsweredGroup n d)) is says

      some : (x : Session) → session_in w.control.sessions s ≡ Some x → (r : Option Refusal) → secondary_refusal x.members w.control ≡ r → HasEnded (masters_lost w (after_plan w line (recover_plan w.control s))) s n
      some x found None running = run x found running _ refl
      some x found (Some r) is = refused-so r (subst AnsweredSo (ap (λ o. on_session o (λ x. unless (secondary_refusal x.members w.control)
          (recover_done s (decided_in s w.control) x.members))) found ∙ ap (λ r. unless r (recover_done s (decided_in s w.control) x.members)) is) says)

      of : (o : Option Session) → session_in w.control.sessions s ≡ o → HasEnded (masters_lost w (after_plan w line (recover_plan w.control s))) s n
      of None none = refused-so (unknown OfSession) (subst AnsweredSo (ap (λ o. on_session o (λ x. unless (secondary_refusal x.members w.control) (recover_done s (decided_in s w.control) x.members))) none) says)
      of (Some x) found = some x found _ refl

  pub recover-ended : (line : ℕ) (listed : List ListedVolume) → said_in w (record { line = line; asked = Ok (Recover s); listed = listed }) ≡ Done (AnsweredGroup n d)
      → HasEnded (after_task w (record { line = line; asked = Ok (Recover s); listed = listed })) s n
  recover-ended line listed says = by (has_room w.events) says
    where
      by : (b : Bool) → AnsweredSo (cond b (recover_plan w.control s) (refuses JournalFull)) → HasEnded (masters_lost w (after_plan w line (cond b (recover_plan w.control s) (refuses JournalFull)))) s n
      by true says = goes line says
      by false says = refused-so JournalFull says
