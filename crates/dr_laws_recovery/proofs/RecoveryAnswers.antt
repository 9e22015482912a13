-- A recovery is refused since the server of a secondary is off, or stopped by one whose fuse was armed; else it comes to its end.
use Rattle.std.proofs.Common.{ℕ, ◌≡◌, ◌⊎◌, inl, inr, refl, ap, sym, ◌∙◌, subst, Bool, true, false, cond, not, List, [], ◌∷◌, Option, Some, None, is_some, option_map}
use Rattle.std.specs.List.{find}
use Rattle.std.proofs.lemmas.Option.{same_Some}
use Rattle.dr_ids.specs.declared.names.Member.{Member}
use Rattle.dr_ids.specs.declared.refusal.Refusal.{Refusal}
use Rattle.dr_ids.specs.declared.refusal.Decision.{Decision}
use Rattle.dr_model.specs.Refusals.{server_off, stopped}
use Rattle.dr_model.specs.Control.{Control, Fuse, Volume, World}
use Rattle.dr_model.specs.Moves.{Move, target, keeps_staged, moved_keeping}
use Rattle.dr_model.specs.Carry.{Act, Make, EndRecovery, act, Turn, Next, Pass, Do, End, Entry, Outcome, carry, continue, go}
use Rattle.dr_model.specs.Carried.{begun}
use Rattle.dr_model.specs.Entries.{fields_at, is_running}
use Rattle.dr_model.specs.RecoveryPlans.{decided_in, secondary_refusal, recover_entries, recover_done, recover_plan, says_group}
use Rattle.dr_model.specs.PlanParts.{Plan, refuses, unless, on_session}
use Rattle.dr_model.specs.Sessions.{Session, session_in}
use Rattle.dr_model.specs.Groups.{In}
use Rattle.dr_model.specs.Laws.{Sound}
use Rattle.dr_facts.proofs.Lists.{not-found}
use Rattle.dr_model.specs.Recovery.{decided_over}
use Rattle.dr_laws_recovery.specs.Recovered.{recovered_in}
use Rattle.dr_laws_recovery.specs.RecoveryAnswers.{secondary_server, FirstOff, Stops, IsCarriedOut, FirstServerIsOff, AnswersForCause}
use Rattle.dr_laws_sound.proofs.Turns.{server_at, next_of, carried_in, done, done_in_stop, not_done, turn-armed}
use Rattle.dr_laws_sound.proofs.FitsFlash.{as_begun}
use Rattle.dr_laws_sound.proofs.Counting.{listed-found}
use Rattle.dr_facts.proofs.Entries.{any_world, AllFine, FineThen}
use Rattle.dr_facts.proofs.SharedEntries.{recover-fine}
use Rattle.dr_laws_recovery.proofs.RecoversEnd.{answers-group}
use Rattle.dr_facts.proofs.Tables.{at_part}
use Rattle.dr_logic.proofs.Tables.{at_same}

-- ---- the first secondary whose server is off

abbrev is_off : Control → Member → Bool
is_off k m = not (is_running m.b.0 k)

first-off : (k : Control) (ms : List Member) (m : Member) → find (is_off k) ms ≡ Some m → (f : FirstOff k ms) × (f.member ≡ m)
first-off k [] m h = absurd cc
first-off k (q ∷ ms) m h = by (is_running q.b.0 k) refl h (first-off k ms m)
  where
    by : (b : Bool) → is_running q.b.0 k ≡ b → cond (not b) (Some q) (find (is_off k) ms) ≡ Some m → (find (is_off k) ms ≡ Some m → (f : FirstOff k ms) × (f.member ≡ m)) → (f : FirstOff k (q ∷ ms)) × (f.member ≡ m)
    by true on h further =
        let r = further h in
        let f = r.0 in (
          record {
            before = q ∷ f.before;
            member = f.member;
            behind = f.behind;
            is = ap (λ ms. q ∷ ms) f.is;
            running = λ n here. run f here;
            off = f.off;
          },
          r.1,
        )
      where
        run : (f : FirstOff k ms) {n : Member} → In n (q ∷ f.before) → k.on (secondary_server k n) ≡ true
        run f (inl same) = ap (λ n. k.on (secondary_server k n)) same ∙ on
        run f {n = n} (inr more) = f.running n more
    by false off h further = (record { before = []; member = q; behind = ms; is = refl; running = λ n never. absurd never; off = off }, (same_Some _ _ h))

all-on : (k : Control) (ms : List Member) → find (is_off k) ms ≡ None → (m : Member) → In m ms → k.on (secondary_server k m) ≡ true
all-on k ms none m here = by (k.on (secondary_server k m)) (not-found (is_off k) ms m none here)
  where
    by : (b : Bool) → not b ≡ false → b ≡ true
    by true h = refl
    by false h = cc

-- ---- along a recovery, as long as none stops

module _ (w : World) (x : Session) (on : (m : Member) → In m x.members → w.control.on (secondary_server w.control m) ≡ true) where
  -- volumes stay on their servers, servers stay on, and fuses stay armed
  record Stays (u : World) : Type 0 where
    servers : (v : ℕ) → server_at u v ≡ server_at w v
    is_on : (q : ℕ) → u.control.on q ≡ w.control.on q
    armed : (q : ℕ) → is_some (u.control.fuse q) ≡ is_some (w.control.fuse q)

  -- a volume is on the server of a member's secondary
  record IsServed (v : ℕ) : Type 0 where
    member : Member
    here : In member x.members
    is : server_at w v ≡ secondary_server w.control member

  -- how its entries end
  abbrev EndsFor : World → Option Refusal → Type 0
  EndsFor u r = Stops w u x r ⊎ (r ≡ None)

  abbrev Fit : Act → Type 0
  Fit (Make m) = IsServed (target m)
  Fit (EndRecovery s n) = Unit {0}
  Fit a = ⊥

  done-stays : (u : World) (m : Move) (f : Option Fuse) → Stays u → is_some f ≡ is_some (u.control.fuse (server_at u (target m))) → Stays (done u m f)
  done-stays u m f s e = record {
    servers = λ v. at_part (λ (y : Volume). y.server) u.control.volume (target m) (moved_keeping (keeps_staged m) (u.control.volume (target m)) (next_of u m) (carried_in u m)) refl v ∙ s.servers v;
    is_on = s.is_on;
    armed = λ q. at_part is_some u.control.fuse (server_at u (target m)) f e q ∙ s.armed q;
  }

  -- its server stopped in a move
  stops : (u v : World) (m : Move) → Stays u → (served : IsServed (target m)) → is_some (u.control.fuse (server_at u (target m))) ≡ true → v.control.on (server_at u (target m)) ≡ false → Stops w v x (Some (stopped (server_at u (target m))))
  stops u v m s served armed off =
      let is : server_at u (target m) ≡ secondary_server w.control served.member = s.servers (target m) ∙ served.is in
      record {
        member = served.member;
        here = served.here;
        was_on = on served.member served.here;
        armed = sym (s.armed (secondary_server w.control served.member)) ∙ (sym (ap (λ q. is_some (u.control.fuse q)) is) ∙ armed);
        off = sym (ap v.control.on is) ∙ off;
        is = ap (λ q. Some (stopped q)) is;
      }

  act-ends : (u : World) (a : Act) (rest : World → Outcome) → Stays u → Fit a → ((v : World) → Stays v → EndsFor (rest v).0 (rest v).1) → let t : Turn = act u a in EndsFor (continue t.0 t.1 rest).0 (continue t.0 t.1 rest).1
  unfolding act
  act-ends u (Make m) rest s fit more =
      let q : ℕ = server_at u (target m) in
      turn-armed u m (λ t. EndsFor (continue t.0 t.1 rest).0 (continue t.0 t.1 rest).1)
      (λ down. more u s)
      (λ f e. more (done u m f) (done-stays u m f s e))
      (λ armed f. inl (stops u (done_in_stop u m f) m s fit armed (at_same u.control.on q false)))
      (λ armed f. inl (stops u (not_done u q f) m s fit armed (at_same u.control.on q false)))
  act-ends u (EndRecovery i n) rest s fit more = more _ (record { servers = s.servers; is_on = s.is_on; armed = s.armed })
  act-ends u a rest s fit more = absurd fit

  -- entries whose acts fit, and that refuse nothing
  abbrev All : List Entry → Type 0
  All = AllFine any_world (λ u. Fit) (λ r. ⊥)

  next-ends : (u : World) (n : Next) (rest : World → Outcome) (more : Type 0) → Stays u → FineThen any_world (λ u. Fit) (λ r. ⊥) u n more → (more → (v : World) → Stays v → EndsFor (rest v).0 (rest v).1) → EndsFor (go u n rest).0 (go u n rest).1
  next-ends u Pass rest more s fit on = on fit u s
  next-ends u (End r) rest more s fit on = absurd fit
  next-ends u (Do a) rest more s fit on = act-ends u a rest s fit.0 (on fit.1)

  ends-for : (u : World) (ds : List Entry) → Stays u → All ds → EndsFor (carry u ds).0 (carry u ds).1
  unfolding carry AllFine
  ends-for u [] s fit = inr refl
  ends-for u (d ∷ ds) s fit = next-ends u (d u.control) (λ v. carry v ds) (All ds) s (fit u tt) (λ rest v s. ends-for v ds s rest)

  -- ---- the entries of a recovery, where targets are on the servers of their secondaries

  recovery-ends : ((m : Member) → In m x.members → server_at w m.c.0 ≡ secondary_server w.control m) → (s : ℕ) (d : Decision) → let e : Outcome = carry (as_begun w) (recover_entries s d x.members) in EndsFor e.0 e.1
  recovery-ends together s d =
      ends-for (as_begun w) (recover_entries s d x.members) (record { servers = λ v. refl; is_on = λ q. refl; armed = λ q. refl })
      (recover-fine any_world (λ u. Fit) (λ r. ⊥) s d x.members (λ m here u any part. record { member = m; here = here; is = refl }) (λ m here no n u any. record { member = m; here = here; is = together m here })
      (λ m here yes n u any. record { member = m; here = here; is = together m here }) (λ n u any. tt))

-- ---- the answer

module _ (w : World) (x : Session) (sound : Sound w) (listed : In x w.control.sessions) where
  abbrev s : ℕ
  s = x.number

  found : session_in w.control.sessions s ≡ Some x
  found = listed-found w.control sound.groups x listed

  abbrev goes : Plan
  goes = recover_done s (decided_in s w.control) x.members

  abbrev p : Plan
  p = recover_plan w.control s

  abbrev refusal : Option Member → Option Refusal
  refusal o = option_map (λ (m : Member). server_off (w.control.volume m.b.0).server) o

  plan-is : (o : Option Member) → find (is_off w.control) x.members ≡ o → p ≡ unless (refusal o) goes
  plan-is o is = ap (λ o. on_session o (λ x. unless (secondary_refusal x.members w.control) (recover_done s (decided_in s w.control) x.members))) found ∙ ap (λ o. unless (refusal o) goes) is

  refused : (m : Member) → find (is_off w.control) x.members ≡ Some m → FirstServerIsOff w x
  refused m is =
      let f = first-off w.control x.members m is in
      record { first = f.0; is = plan-is (Some m) is ∙ ap (λ m. refuses (server_off (secondary_server w.control m))) (sym f.1) }

  together : (m : Member) → In m x.members → server_at w m.c.0 ≡ secondary_server w.control m
  together m here = ((sound.groups.each x listed).stands m here).target_server

  abbrev e : Outcome
  e = carry (begun w p) p.entries

  runs : find (is_off w.control) x.members ≡ None → IsCarriedOut w x
  runs none = record { on = on; ends = by (subst (λ (p : Plan). let e : Outcome = carry (begun w p) p.entries in EndsFor w x on e.0 e.1) (sym (plan-is None none)) (recovery-ends w x on together s (decided_in s w.control))) }
    where
      on : (m : Member) → In m x.members → w.control.on (secondary_server w.control m) ≡ true
      on = all-on w.control x.members none

      by : EndsFor w x on e.0 e.1 → Stops w e.0 x e.1 ⊎ ((e.1 ≡ None) × (p.says e.0.control ≡ says_group (decided_over (fields_at w.control) w.control.volumes s) (recovered_in w s).group))
      by (inl stops) = inl stops
      by (inr well) = inr (well, answers-group w sound s x found (ap refusal none) well)

  by-first : (o : Option Member) → find (is_off w.control) x.members ≡ o → AnswersForCause w x
  by-first None none = inr (runs none)
  by-first (Some m) is = inl (refused m is)

  pub answers-for-cause : AnswersForCause w x
  answers-for-cause = by-first (find (is_off w.control) x.members) refl
