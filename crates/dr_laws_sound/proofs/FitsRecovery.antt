-- The plans of recoveries: all secondaries are taken over, and then each target becomes what was decided.
use Rattle.std.proofs.Common.{ℕ, ◌≡◌, ◌≢◌, inl, inr, refl, ap, sym, ◌∙◌, subst, Bool, true, false, cond, not, ◌||◌, nat_eq, List, [], ◌∷◌, ◌++◌, map, filter, Option, Some, None}
use Rattle.std.specs.Prelude.{option_map}
use Rattle.std.specs.List.{find}
use Rattle.std.proofs.lemmas.Bool.{and_parts, eqb-true, not-false}
use Rattle.dr_ids.specs.declared.names.Member.{Member}
use Rattle.dr_ids.specs.declared.refusal.Refusal.{Refusal}
use Rattle.dr_ids.specs.declared.refusal.Decision.{Decision}
use Rattle.dr_ids.specs.declared.refusal.Decision.TheVariants.{NoMember, Nothing, RevertAll, CommitRest, RevertSome, Impossible}
use Rattle.dr_model.specs.Layout.{Fields, is_part}
use Rattle.dr_model.specs.Refusals.{server_off}
use Rattle.dr_model.specs.Decisions.{Shown, decision}
use Rattle.dr_model.specs.Sessions.{Session, session_in, members_in}
use Rattle.dr_model.specs.Control.{Control, Fuse, Volume, World}
use Rattle.dr_model.specs.Relations.{committed, reverted}
use Rattle.dr_model.specs.Moves.{Move, TakeOver, Commit, Revert}
use Rattle.dr_model.specs.Carry.{Make, EndRecovery, Pass, Do, Entry}
use Rattle.dr_model.specs.Entries.{fields_at, is_running, is_at, pair_state}
use Rattle.dr_model.specs.SessionEntries.{is_flashed, counts_in, shown_of, shown_at, counts_at, shown_by_members}
use Rattle.dr_model.specs.RecoveryPlans.{decided_in, secondary_refusal, untaken_refusal, take_over_on, settle_on, end_recovery, recover_entries}
use Rattle.dr_model.specs.Groups.{In, MemberStands}
use Rattle.dr_model.specs.Attempts.{roles, seen, InAttempt}
use Rattle.dr_model.specs.Table.{table}
use Rattle.dr_model.specs.Laws.{Sound}
use Rattle.dr_model.specs.Allowed.{Runs, MayTurn}
use Rattle.dr_laws_sessions.specs.Frames.{Moves}
use Rattle.dr_facts.proofs.Lists.{not-found, to-map}
use Rattle.dr_laws_sessions.proofs.Changes.{session-found}
use Rattle.dr_laws_attempts.specs.Orders.{TakenBut, RestCommits, RestReverts}
use Rattle.dr_laws_attempts.proofs.Recover.{rest-begins, rest-commits, rest-stays, reverts-begin, rest-reverts, reverts-stay, taken-begins, taken-passes, taken-over}
use Rattle.dr_laws_sound.proofs.KeepsStructure.{revertible-not as other-none}
use Rattle.dr_laws_sound.proofs.Turns.{carried_in, done}
use Rattle.dr_laws_sound.proofs.RowsAfter.{idle}
use Rattle.dr_laws_sound.proofs.KeepsSound.{Along, Then, over, decides}
use Rattle.dr_laws_sound.proofs.FitsFlash.{as_begun, sound-begun}
use Rattle.dr_laws_sound.proofs.FitsPairs.{row, runs-done}
use Rattle.dr_logic.proofs.Tables.{at_other}

-- what a test over all members tells of each
passes-all : (test : Member → Bool) (why : Member → Refusal) (ms : List Member) → option_map why (find test ms) ≡ None → (m : Member) → In m ms → test m ≡ false
passes-all test why ms free m here = not-found test ms m (by (find test ms) free) here
  where
    by : (o : Option Member) → option_map why o ≡ None → o ≡ None
    by None e = refl
    by (Some m) e = absurd cc

-- members whose targets are as they were show what they showed
shown-same : (k j : Control) (s : ℕ) (ms : List Member) → ((m : Member) → In m ms → fields_at j m.c.0 ≡ fields_at k m.c.0) → shown_by_members s ms j ≡ shown_by_members s ms k
shown-same k j s [] same = refl
shown-same k j s (m ∷ ms) same =
    ap (λ (f : Fields). map (shown_at j) (cond (counts_in s f) (m ∷ filter (counts_at s j) ms) (filter (counts_at s j) ms))) (same m (inl refl))
    ∙ by (counts_at s k m) (shown-same k j s ms (λ q h. same q (inr h)))
  where
    by : (b : Bool) → shown_by_members s ms j ≡ shown_by_members s ms k
        → map (shown_at j) (cond b (m ∷ filter (counts_at s j) ms) (filter (counts_at s j) ms)) ≡ map (shown_at k) (cond b (m ∷ filter (counts_at s k) ms) (filter (counts_at s k) ms))
    by true rest = λ i. shown_of (same m (inl refl) i) ∷ rest i
    by false rest = rest

-- a volume that is no secondary is nobody's
unpaired : (k : Control) (m : Member) → is_part (fields_at k m.b.0).secondary ≡ false → (seen (roles k) m).paired ≡ false
unpaired k m none = ap (λ b. is_at (cond b (Some (fields_at k m.b.0).secondary_partner) None) m.a.0) none

-- over the members of a list, one after another
loop : (State : World → List Member → Type 0) (each : Member → Entry) (ds : List Entry)
    → ((v : World) (m : Member) (rest : List Member) (more : World → Type 0) → State v (m ∷ rest) → ((u : World) → State u rest → more u) → Then v (each m v.control) more)
    → (ms : List Member) (v : World) → State v ms → ((u : World) → State u [] → Along u ds) → Along v (map each ms ++ ds)
loop State each ds step [] v st go = go v st
loop State each ds step (m ∷ ms) v st go = decides v (each m) (map each ms ++ ds) _ refl (step v m ms (λ u. Along u (map each ms ++ ds)) st (λ u k. loop State each ds step ms u k go))

module _ (w : World) (s : Sound w) (i : ℕ) (x : Session) (found : session_in w.control.sessions i ≡ Some x) (running : secondary_refusal x.members w.control ≡ None) where
  abbrev shown : Control → List Shown
  shown k = shown_by_members i x.members k

  decided : decided_in i w.control ≡ decision (shown w.control)
  decided = ap (λ o. decision (shown_by_members i (members_in o) w.control)) found

  -- the sessions are as they were, and the secondaries' servers run
  record Stays (v : World) : Type 0 where
    sound : Sound v
    sessions : v.control.sessions ≡ w.control.sessions
    on : (m : Member) → In m x.members → Runs v m.b.0

  stays-begin : Stays (as_begun w)
  stays-begin = record { sound = sound-begun w s; sessions = refl; on = λ m h. not-false (is_running m.b.0 w.control) (passes-all (λ m. not (is_running m.b.0 w.control)) (λ m. server_off (w.control.volume m.b.0).server) x.members running m h) }

  stays-done : (v : World) (a : Move) (f : Option Fuse) → Stays v → Sound (done v a f) → Stays (done v a f)
  stays-done v a f st y = record { sound = y; sessions = st.sessions; on = λ m h. runs-done v a f m.b.0 (st.on m h) }

  found-in : (v : World) → Stays v → session_in v.control.sessions i ≡ Some x
  found-in v st = ap (λ ss. session_in ss i) st.sessions ∙ found

  listed-in : (v : World) → Stays v → In x v.control.sessions
  listed-in v st = (session-found v.control.sessions i x (found-in v st)).0

  -- ---- secondaries are taken over

  record Takes (v : World) (rest : List Member) : Type 0 where
    stays : Stays v
    same : shown v.control ≡ shown w.control
    taken : TakenBut v.control x rest
    left : (m : Member) → In m rest → In m x.members

  -- no target is a secondary
  other : (v : World) → Stays v → (m q : Member) → In m x.members → In q x.members → q.c.0 ≢ m.b.0
  other v st m q here there e =
      let lone = st.sound.groups.lone in
      let listed = listed-in v st in
      let one = lone.one m.b.0 x x q m listed listed there here (inr (inr (sym e))) (inr (inl refl)) in
      (lone.differ x q listed there).b_c (ap (λ (p : Member). p.b.0) one.1 ∙ sym e)

  takes : (v : World) (m : Member) (rest : List Member) (more : World → Type 0) → Takes v (m ∷ rest) → ((u : World) → Takes u rest → more u) → Then v (take_over_on m v.control) more
  takes v m rest more st go = by (is_part (fields_at v.control m.b.0).secondary) refl
    where
      here : In m x.members
      here = st.left m (inl refl)

      by : (b : Bool) → is_part (fields_at v.control m.b.0).secondary ≡ b → Then v (cond b (Do (Make (TakeOver m.b.0))) Pass) more
      by true is =
          let a : Move = TakeOver m.b.0 in
          let on : Runs v m.b.0 = st.stays.on m here in (
            record {
              runs = on;
              allowed = record { second = is; free = other-none _ (st.stays.sound.secondaries x m (listed-in v st.stays) here) is };
              fits = tt;
              group = tt;
              ready = idle v m.b.0 st.stays.sound.queue on;
            },
            λ f y. go _ (record {
              stays = stays-done v a f st.stays y;
              same = shown-same v.control (done v a f).control i x.members (λ q there. ap (λ (z : Volume). z.fields) (at_other v.control.volume m.b.0 (row v a f) q.c.0 (other v st.stays m q here there))) ∙ st.same;
              taken = taken-over v.control (done v a f).control (carried_in v a) x m st.stays.sound.groups (listed-in v st.stays) here rest (record { volumes = refl; keeps = true; volume = refl }) st.taken;
              left = λ q h. st.left q (inr h);
            }),
          )
      by false none = go v (record { stays = st.stays; same = st.same; taken = taken-passes v.control x m rest st.taken (unpaired v.control m none); left = λ q h. st.left q (inr h) })

  -- ---- targets become what was decided

  -- a target that is revertible from attempt n
  record Turns (v : World) (m : Member) (n : ℕ) : Type 0 where
    flag : (fields_at v.control m.c.0).revertible ≡ true
    last : n ≡ x.last
    runs : Runs v m.c.0
    allowed : MayTurn (table v) m.c.0 n

  turns : (v : World) (m : Member) (n : ℕ) → Stays v → In m x.members → is_flashed n (fields_at v.control m.c.0) ≡ true → Turns v m n
  turns v m n st here is =
      let f : Fields = fields_at v.control m.c.0 in
      let both = and_parts f.revertible (nat_eq f.sequence n) is in
      let number : f.sequence ≡ n = eqb-true f.sequence n both.1 in
      let own = st.sound.attempts.sessions x (listed-in v st) in
      let counted = (st.sound.attempts.volumes m.c.0).counted (or-right f.member f.revertible both.0) in
      let stands : MemberStands v.control m = (st.sound.groups.each x (listed-in v st)).stands m here in
      record {
        flag = both.0;
        last = sym number ∙ (own.numbers.each (seen (roles v.control) m) (to-map (seen (roles v.control)) x.members m here)).last both.0;
        runs = ap v.control.on stands.target_server ∙ st.on m here;
        allowed = record { from = counted.member.b.0; related = counted.source; revertible = both.0; number = number };
      }
    where
      or-right : (a b : Bool) → b ≡ true → (a || b) ≡ true
      or-right true b h = refl
      or-right false b h = h

  record Commits (v : World) (rest : List Member) : Type 0 where
    stays : Stays v
    way : RestCommits v.control x
    left : (m : Member) → In m rest → In m x.members

  commits : (n : ℕ) (v : World) (m : Member) (rest : List Member) (more : World → Type 0) → Commits v (m ∷ rest) → ((u : World) → Commits u rest → more u) → Then v (settle_on i (CommitRest n) m v.control) more
  commits n v m rest more st go = by (is_flashed n (fields_at v.control m.c.0)) refl
    where
      here : In m x.members
      here = st.left m (inl refl)

      by : (b : Bool) → is_flashed n (fields_at v.control m.c.0) ≡ b → Then v (cond b (Do (Make (Commit m.c.0 m.a.0 i n))) Pass) more
      by true is =
          let a : Move = Commit m.c.0 m.a.0 i n in
          let t : Turns v m n = turns v m n st.stays here is in
          let sound : Sound v = st.stays.sound in (
            record {
              runs = t.runs;
              allowed = t.allowed;
              fits = tt;
              group = subst (λ q. InAttempt v.control (Commit m.c.0 m.a.0 i q)) (sym t.last) (rest-commits v.control sound.groups sound.attempts i x (found-in v st.stays) m st.way here t.flag);
              ready = idle v m.c.0 sound.queue t.runs;
            },
            λ f y. go _ (record {
              stays = stays-done v a f st.stays y;
              way = rest-stays v.control (done v a f).control (carried_in v a) x m sound.groups (listed-in v st.stays) here sound.attempts t.flag
                  (subst (λ q. Moves v.control (done v a f).control m.c.0 (committed q (fields_at v.control m.c.0)) (carried_in v a)) t.last (record { volumes = refl; keeps = true; volume = refl })) st.way;
              left = λ q h. st.left q (inr h);
            }),
          )
      by false none = go v (record { stays = st.stays; way = st.way; left = λ q h. st.left q (inr h) })

  record Reverts (v : World) (rest : List Member) : Type 0 where
    stays : Stays v
    way : RestReverts v.control x
    left : (m : Member) → In m rest → In m x.members

  reverts : (n : ℕ) (v : World) (m : Member) (rest : List Member) (more : World → Type 0) → Reverts v (m ∷ rest) → ((u : World) → Reverts u rest → more u) → Then v (settle_on i (RevertAll n) m v.control) more
  reverts n v m rest more st go = by (is_flashed n (fields_at v.control m.c.0)) refl
    where
      here : In m x.members
      here = st.left m (inl refl)

      by : (b : Bool) → is_flashed n (fields_at v.control m.c.0) ≡ b → Then v (cond b (Do (Make (Revert m.c.0 m.a.0 i n))) Pass) more
      by true is =
          let a : Move = Revert m.c.0 m.a.0 i n in
          let t : Turns v m n = turns v m n st.stays here is in
          let sound : Sound v = st.stays.sound in (
            record {
              runs = t.runs;
              allowed = t.allowed;
              fits = tt;
              group = subst (λ q. InAttempt v.control (Revert m.c.0 m.a.0 i q)) (sym t.last) (rest-reverts v.control sound.groups sound.attempts i x (found-in v st.stays) m st.way here t.flag);
              ready = idle v m.c.0 sound.queue t.runs;
            },
            λ f y. go _ (record {
              stays = stays-done v a f st.stays y;
              way = reverts-stay v.control (done v a f).control (carried_in v a) x m sound.groups (listed-in v st.stays) here sound.attempts t.flag
                  (subst (λ q. Moves v.control (done v a f).control m.c.0 (reverted q (fields_at v.control m.c.0)) (carried_in v a)) t.last (record { volumes = refl; keeps = true; volume = refl })) st.way;
              left = λ q h. st.left q (inr h);
            }),
          )
      by false none = go v (record { stays = st.stays; way = st.way; left = λ q h. st.left q (inr h) })

  -- by the decision of a state in which all secondaries are taken
  module _ (v : World) (st : Stays v) (taken : TakenBut v.control x []) (ms : List Member) (left : (m : Member) → In m ms → In m x.members) (ds : List Entry) (go : (u : World) → Stays u → Along u ds) where
    committing : (n : ℕ) → decision (shown v.control) ≡ CommitRest n → Along v (map (settle_on i (CommitRest n)) ms ++ ds)
    committing n is = loop Commits (settle_on i (CommitRest n)) ds (commits n) ms v (record { stays = st; way = (rest-begins v.control st.sound.groups st.sound.attempts i x (found-in v st) n is).1; left = left }) (λ u k. go u k.stays)

    reverting : (n : ℕ) → ((q : ℕ) → decision (shown v.control) ≡ CommitRest q → ⊥) → Along v (map (settle_on i (RevertAll n)) ms ++ ds)
    reverting n never = loop Reverts (settle_on i (RevertAll n)) ds (reverts n) ms v (record { stays = st; way = reverts-begin v.control st.sound.groups st.sound.attempts i x (found-in v st) never taken; left = left }) (λ u k. go u k.stays)

    resting : (each : Member → Entry) → ((m : Member) (k : Control) → each m k ≡ Pass) → Along v (map each ms ++ ds)
    resting each none = loop (λ u rest. Stays u) each ds (λ u m rest more k go. subst (λ n. Then u n more) (sym (none m u.control)) (go u k)) ms v st go

    settles : (d : Decision) → decision (shown v.control) ≡ d → Along v (map (settle_on i d) ms ++ ds)
    settles (CommitRest n) is = committing n is
    settles (RevertAll n) is = reverting n (λ q e. let no : RevertAll n ≡ CommitRest q = sym is ∙ e in absurd cc)
    settles (RevertSome o n) is = reverting n (λ q e. let no : RevertSome o n ≡ CommitRest q = sym is ∙ e in absurd cc)
    settles NoMember is = resting (settle_on i NoMember) (λ m k. refl)
    settles (Nothing n) is = resting (settle_on i (Nothing n)) (λ m k. refl)
    settles (Impossible a b) is = resting (settle_on i (Impossible a b)) (λ m k. refl)

  pub along-recover : Along (as_begun w) (recover_entries i (decided_in i w.control) x.members)
  along-recover =
      let d : Decision = decided_in i w.control in
      loop Takes take_over_on (map (settle_on i d) x.members ++ end_recovery i ∷ []) takes x.members (as_begun w) (record { stays = stays-begin; same = refl; taken = taken-begins w.control x; left = λ m h. h })
      (λ u k. settles u k.stays k.taken x.members (λ m h. h) (end_recovery i ∷ []) (λ v st. decides v (end_recovery i) [] (Do (EndRecovery i _)) refl (tt, λ f y. over _ y)) d (ap decision k.same ∙ sym decided))

  -- ---- one target by hand

  pub along-settle : untaken_refusal x.members w.control ≡ None → (m : Member) → In m x.members → Along (as_begun w) (settle_on i (decided_in i w.control) m ∷ [])
  along-settle free m here = settles (as_begun w) stays-begin taken (m ∷ []) only [] (λ u k. over u k.sound) (decided_in i w.control) (sym decided)
    where
      taken : TakenBut w.control x []
      taken q there = inr (unpaired w.control q (passes-all (λ m. is_part (fields_at w.control m.b.0).secondary) (λ m. pair_state w.control m.b.0) x.members free q there))

      only : (q : Member) → In q (m ∷ []) → In q x.members
      only q (inl is) = subst (λ q. In q x.members) (sym is) here
      only q (inr none) = absurd none
