-- The way home is open for the primary and the secondary of a member where its session has nothing to do.
use Rattle.std.proofs.Common.{ℕ, ◌≡◌, inl, inr, refl, ap, sym, ◌∙◌, subst, Bool, true, false, cond, not, ◌&&◌, List, [], ◌∷◌, map, filter, Option, Some, None, ◌==◌}
use Rattle.std.proofs.lemmas.Bool.{and_parts, and_from, eq-eqb, or_left, not_from_false, not_from_true}
use Rattle.std.proofs.lemmas.Option.{same_Some}
use Rattle.std.specs.List.{find}
use Rattle.std.specs.Option.{option_or}
use Rattle.dr_ids.specs.declared.names.Member.{Member}
use Rattle.dr_ids.specs.declared.refusal.Decision.{Decision}
use Rattle.dr_ids.specs.declared.refusal.Decision.TheVariants.{NoMember, Nothing, CommitRest, RevertSome}
use Rattle.dr_model.specs.declared.state.PairState.{PairState}
use Rattle.dr_model.specs.declared.state.PairState.TheVariants.{CopyPending, FullDuplex, Suspended}
use Rattle.dr_model.specs.Layout.{is_part}
use Rattle.dr_model.specs.Decisions.{Shown, Numbers, NoNumber, Same, Differ, numbers_in, first_and_other, revertibles, others, decided, decision}
use Rattle.dr_model.specs.Pairs.{is_pending, is_kind}
use Rattle.dr_model.specs.Control.{Control, World}
use Rattle.dr_model.specs.Entries.{is_running, fields_at, copies_from, targets_of, is_no_secondary, secondary_state}
use Rattle.dr_model.specs.Sessions.{Session, session_in, members_in}
use Rattle.dr_model.specs.SessionEntries.{counts_at, shown_at}
use Rattle.dr_model.specs.RecoveryPlans.{decided_in, secondary_refusal, leaves_all, forbidden_unless}
use Rattle.dr_model.specs.Groups.{In, MemberStands}
use Rattle.dr_model.specs.Plans.{member_from, restores_refusal, yield_refusal, failback_plan}
use Rattle.dr_model.specs.PairEntries.{leads_to, leads_as, belongs_to, is_copying, reach_refusal}
use Rattle.dr_model.specs.Laws.{Sound}
use Rattle.dr_model.specs.Runs.{Task, run}
use Rattle.dr_model.specs.Attempts.{IsTarget}
use Rattle.dr_model.specs.Carry.{carry}
use Rattle.dr_model.specs.declared.step.Step.TheVariants.{Failback}
use Rattle.dr_model.specs.declared.state.Part.TheVariants.{Global}
use Rattle.dr_model.proofs.CarryLemmas.{carry-passed, carry-refused}
use Rattle.dr_laws_sound.proofs.FitsFlash.{as_begun}
use Rattle.dr_facts.proofs.Lists.{found, from-filter, to-filter, to-map}
use Rattle.dr_facts.proofs.Relations.{copies-from}
use Rattle.dr_logic.proofs.Truth.{false_true}
use Rattle.dr_laws_sessions.proofs.Changes.{session-found}
use Rattle.dr_laws_sound.proofs.Steps.{sound-run}
use Rattle.dr_laws_progress.specs.PairWays.{sides, CopiesWith, PairWay, AsAdded, BothLead, TurnedRound}
use Rattle.dr_laws_progress.specs.Home.{LeadEachOther, HomeIsOpen, HomeLines, IsTurnedTo, IsSuspended, IsSuspendedTo, IsDone, MayGoHome, MemberGoesHome, RefusesCascaded, unnamed}
use Rattle.dr_laws_progress.proofs.OneStep.{none-off}
use Rattle.dr_laws_progress.proofs.PairMoves.{copies-part}
use Rattle.dr_laws_progress.proofs.PairRuns.{pair-ways-run}
use Rattle.dr_laws_progress.proofs.HomeRuns.{goes-home, last-is, says-is}
use Rattle.dr_laws_progress.proofs.HomeSteps.{passes-found, skips-refuse}

-- ---- a decision over nobody

no-numbers : (a b : Numbers) → decided a b ≡ NoMember → (a ≡ NoNumber) × (b ≡ NoNumber)
unfolding decided
no-numbers NoNumber NoNumber is = (refl, refl)
no-numbers NoNumber (Same n) is = absurd cc
no-numbers (Same n) NoNumber is = absurd cc
no-numbers (Same n) (Same m) is = absurd (by (n == m) is)
  where
    by : (b : Bool) → cond b (CommitRest n) (RevertSome m n) ≡ NoMember → ⊥
    by true h = cc
    by false h = cc
no-numbers NoNumber (Differ p q) is = absurd cc
no-numbers (Same n) (Differ p q) is = absurd cc
no-numbers (Differ m n) NoNumber is = absurd cc
no-numbers (Differ m n) (Same p) is = absurd cc
no-numbers (Differ m n) (Differ p q) is = absurd cc

none-listed : (ns : List ℕ) → numbers_in ns ≡ NoNumber → (n : ℕ) → In n ns → ⊥
none-listed [] is n here = here
none-listed (a ∷ ns) is n here = by (find (λ n. not (n == a)) ns) is
  where
    by : (o : Option ℕ) → first_and_other a o ≡ NoNumber → ⊥
    by None h = cc
    by (Some b) h = cc

nobody : (xs : List Shown) → decision xs ≡ NoMember → (r : Shown) → In r xs → ⊥
unfolding decision
nobody xs is r here = by r.revertible refl
  where
    none : (numbers_in (revertibles xs) ≡ NoNumber) × (numbers_in (others xs) ≡ NoNumber)
    none = no-numbers _ _ is

    by : (b : Bool) → r.revertible ≡ b → ⊥
    by true so = none-listed (revertibles xs) none.0 r.sequence (to-map (λ (x : Shown). x.sequence) (filter (λ (x : Shown). x.revertible) xs) r (to-filter (λ (x : Shown). x.revertible) xs r here so))
    by false so = none-listed (others xs) none.1 r.sequence (to-map (λ (x : Shown). x.sequence) (filter (λ (x : Shown). not x.revertible) xs) r (to-filter (λ (x : Shown). not x.revertible) xs r here (not_from_false r.revertible so)))

-- ---- targets of members

module _ (w : World) (sound : Sound w) where
  abbrev k : Control
  k = w.control

  -- a target of v that is a member's is that of the member whose secondary v is
  record CountsFrom (v t : ℕ) : Type 0 where
    target : IsTarget k.sessions t (fields_at k t).session (Some v) (fields_at k t).recorded (fields_at k t).inhibited (fields_at k t).reversing
    counted : (fields_at k t).member ≡ true

  counts-from : (v t : ℕ) → member_from v k ≡ Some t → CountsFrom v t
  counts-from v t is =
      let f = found (λ u. (fields_at k u).member) (targets_of k v) t is in
      let from = copies-from v (fields_at k t) (from-filter (λ u. copies_from v (fields_at k u)) k.volumes t f.0).1 in
      record {
        target = subst (λ o. IsTarget k.sessions t (fields_at k t).session o (fields_at k t).recorded (fields_at k t).inhibited (fields_at k t).reversing) from
            ((sound.attempts.volumes t).counted (or_left (fields_at k t).member (fields_at k t).revertible f.1));
        counted = f.1;
      }

  -- a member's primary has none
  pub primary-yields : (x : Session) (m : Member) → In x k.sessions → In m x.members → yield_refusal m.a.0 k ≡ None
  primary-yields x m i here = by (member_from m.a.0 k) refl
    where
      by : (o : Option ℕ) → member_from m.a.0 k ≡ o → restores_refusal o k ≡ None
      by None is = refl
      by (Some t) is =
          let c = (counts-from m.a.0 t is).target in
          let source : m.a.0 ≡ c.member.b.0 = same_Some _ _ c.source in
          let same : m ≡ c.member = (sound.groups.lone.one m.a.0 x c.session m c.member i c.listed here c.here (inl refl) (inr (inl source))).1 in
          absurd ((sound.groups.lone.differ x m i here).a_b (source ∙ ap (λ (q : Member). q.b.0) (sym same)))

  module _ (s : ℕ) (x : Session) (m : Member) (may : MayGoHome k s x m) where
    listed : In x k.sessions × (x.number ≡ s)
    listed = session-found k.sessions s x may.found

    off-none : secondary_refusal (members_in (session_in k.sessions s)) k ≡ None
    off-none = ap (λ o. secondary_refusal (members_in o) k) may.found ∙ none-off k x.members may.secondaries

    -- its target, if it counts
    nothing-done : (fields_at k m.c.0).session ≡ s → (fields_at k m.c.0).member ≡ true → forbidden_unless (leaves_all (decided_in s k)) (decided_in s k) ≡ None
    nothing-done named counted = by (decided_in s k) refl may.decided
      where
        shown : In (shown_at k m) (map (shown_at k) (filter (counts_at s k) (members_in (session_in k.sessions s))))
        shown = to-map (shown_at k) (filter (counts_at s k) (members_in (session_in k.sessions s))) m
            (to-filter (counts_at s k) (members_in (session_in k.sessions s)) m (subst (λ o. In m (members_in o)) (sym may.found) may.here)
            (and_from _ _ (eq-eqb (fields_at k m.c.0).session s named) (or_left (fields_at k m.c.0).member (fields_at k m.c.0).revertible counted)))

        by : (d : Decision) → decided_in s k ≡ d → IsDone d → forbidden_unless (leaves_all d) d ≡ None
        by (Nothing n) is done = refl
        by NoMember is done = absurd (nobody _ is (shown_at k m) shown)
        by d is done = absurd done

    secondary-yields : yield_refusal m.b.0 k ≡ None
    secondary-yields = by (member_from m.b.0 k) refl
      where
        by : (o : Option ℕ) → member_from m.b.0 k ≡ o → restores_refusal o k ≡ None
        by None is = refl
        by (Some t) is =
            let f = counts-from m.b.0 t is in
            let c = f.target in
            let source : m.b.0 ≡ c.member.b.0 = same_Some _ _ c.source in
            let one = sound.groups.lone.one m.b.0 x c.session m c.member listed.0 c.listed may.here c.here (inr (inl refl)) (inr (inl source)) in
            let target : m.c.0 ≡ t = ap (λ (q : Member). q.c.0) one.1 ∙ c.is in
            let named : (fields_at k t).session ≡ s = sym c.number ∙ (sym one.0 ∙ listed.1) in
            (λ i. cond (f.counted i) (option_or (secondary_refusal (members_in (session_in k.sessions (named i))) k) (forbidden_unless (leaves_all (decided_in (named i) k)) (decided_in (named i) k))) None)
            ∙ (ap (λ o. option_or o (forbidden_unless (leaves_all (decided_in s k)) (decided_in s k))) off-none
            ∙ nothing-done (ap (λ j. (fields_at k j).session) target ∙ named) (ap (λ j. (fields_at k j).member) target ∙ f.counted))

    pub is-open : HomeIsOpen k m.a.0 m.b.0
    is-open = record {
      a_on = may.on;
      b_on = may.secondaries m may.here;
      there = may.there;
      back = may.back;
      a_settled = may.a_settled;
      b_settled = may.b_settled;
      a_yields = primary-yields x m listed.0 may.here;
      b_yields = secondary-yields;
    }

-- ---- members

module _ (tasks : List Task) (s : ℕ) (x : Session) (m : Member) (may : MayGoHome (run tasks).control s x m) where
  abbrev u : World
  u = run tasks

  abbrev a : ℕ
  a = m.a.0

  abbrev b : ℕ
  b = m.b.0

  open_now : HomeIsOpen u.control a b
  open_now = is-open u (sound-run tasks) s x m may

  way : PairWay a b (sides (fields_at u.control a)) (sides (fields_at u.control b))
  way = pair-ways-run tasks x m (session-found u.control.sessions s x may.found).0 may.here

  -- a cascaded volume has both parts
  no-second : is_part (fields_at u.control a).primary ≡ true → is_part (fields_at u.control a).secondary ≡ false
  no-second first = by (is_part (fields_at u.control a).primary) (is_part (fields_at u.control a).secondary) first may.uncascaded
    where
      by : (p q : Bool) → p ≡ true → (p && q) ≡ false → q ≡ false
      by true q first none = none
      by false q first none = absurd cc

  lead : leads_to a b u.control ≡ true → leads_to b a u.control ≡ true → LeadEachOther u.control a b
  lead there back = by way
    where
      first : is_part (fields_at u.control b).primary ≡ true
      first = (and_parts (is_part (fields_at u.control b).primary) _ back).0

      by : PairWay a b (sides (fields_at u.control a)) (sides (fields_at u.control b)) → LeadEachOther u.control a b
      by (AsAdded leads follows plain) = false_true plain first
      by (BothLead leads backs none) = record { leads = leads; back = backs; a_second = no-second (copies-part _ _ b leads); b_second = none }
      by (TurnedRound backs follows none plain) = false_true none (and_parts (is_part (fields_at u.control a).primary) _ there).0

  -- the pair is turned round where its primary is a secondary
  record TurnsRound : Type 0 where
    leads : CopiesWith (fields_at u.control b).primary (fields_at u.control b).primary_partner a
    x_second : is_part (fields_at u.control b).secondary ≡ false
    follows : CopiesWith (fields_at u.control a).secondary (fields_at u.control a).secondary_partner b
    y_first : is_part (fields_at u.control a).primary ≡ false

  turns-round : belongs_to b a u.control ≡ true → TurnsRound
  turns-round belongs = by way
    where
      second : is_part (fields_at u.control a).secondary ≡ true
      second = (and_parts (is_part (fields_at u.control a).secondary) _ belongs).0

      by : PairWay a b (sides (fields_at u.control a)) (sides (fields_at u.control b)) → TurnsRound
      by (AsAdded leads follows plain) = false_true (no-second (copies-part _ _ b leads)) second
      by (BothLead leads backs none) = false_true (no-second (copies-part _ _ b leads)) second
      by (TurnedRound backs follows none plain) = record { leads = backs; x_second = plain; follows = follows; y_first = none }

  turned : belongs_to b a u.control ≡ true → is_copying b u.control ≡ true → IsTurnedTo u.control b a
  turned belongs copying = let t = turns-round belongs in record { leads = t.leads; pending = pending _ (and_parts (is_part (fields_at u.control b).primary) _ copying).1; x_second = t.x_second; follows = t.follows; y_first = t.y_first }
    where
      pending : (state : PairState) → is_pending state ≡ true → state ≡ CopyPending
      pending CopyPending is = refl
      pending FullDuplex is = absurd cc
      pending Suspended is = absurd cc

  parted : belongs_to b a u.control ≡ true → IsSuspended u.control b → IsSuspendedTo u.control b a
  parted belongs suspended = let t = turns-round belongs in record { leads = t.leads; suspended = suspended; x_second = t.x_second; follows = t.follows; y_first = t.y_first }

  pub member-goes-home : (l : HomeLines a b) → MemberGoesHome tasks m l
  member-goes-home l = let g = goes-home tasks a b l in record {
    all = λ there back. g.all (lead there back) open_now;
    short_way = λ there back. g.short_way (lead there back) open_now;
    turned = λ belongs copying. g.turned (turned belongs copying) open_now;
    suspended = λ belongs suspended. g.suspended (parted belongs suspended) open_now;
  }

-- ---- a cascaded primary

module _ (tasks : List Task) where
  abbrev v : World
  v = run tasks

  pub refuses-cascaded : RefusesCascaded tasks
  refuses-cascaded x m t i here asked room there back cascaded on reach =
      says-is v t (failback_plan v.control unnamed m.b.0 m.a.0 Global) (last-is v t (Failback unnamed m.b.0 m.a.0 2) refl asked room) (as_begun v, Some (secondary_state v.control m.a.0)) ends
    where
      stands : MemberStands v.control m
      stands = ((sound-run tasks).groups.each x i).stands m here

      parts : (is_part (fields_at v.control m.b.0).primary ≡ true) × (is_part (fields_at v.control m.a.0).primary ≡ true)
      parts = ((and_parts (is_part (fields_at v.control m.b.0).primary) _ back).0, (and_parts (is_part (fields_at v.control m.a.0).primary) _ there).0)

      facts : PairWay m.a.0 m.b.0 (sides (fields_at v.control m.a.0)) (sides (fields_at v.control m.b.0)) → ((fields_at v.control m.b.0).primary ≡ Global) × (is_part (fields_at v.control m.b.0).secondary ≡ false)
      facts (AsAdded leads follows plain) = false_true plain parts.0
      facts (BothLead leads backs none) = (backs.0, none)
      facts (TurnedRound backs follows none plain) = false_true none parts.1

      both : ((fields_at v.control m.b.0).primary ≡ Global) × (is_part (fields_at v.control m.b.0).secondary ≡ false)
      both = facts (pair-ways-run tasks x m i here)

      ends : carry (as_begun v) (failback_plan v.control unnamed m.b.0 m.a.0 Global).entries ≡ (as_begun v, Some (secondary_state v.control m.a.0))
      ends =
          passes-found v m.b.0 m.a.0 stands.b stands.a _
          ∙ carry-passed (as_begun v) (is_running m.b.0) _ _ on ∙ skips-refuse (as_begun v) (reach_refusal m.b.0 m.a.0) _ reach
          ∙ carry-passed (as_begun v) (leads_as m.b.0 m.a.0 Global) _ _ (and_from _ _ back (ap (is_kind Global) both.0)) ∙ carry-passed (as_begun v) (leads_to m.a.0 m.b.0) _ _ there
          ∙ carry-passed (as_begun v) (is_no_secondary m.b.0) _ _ (not_from_false _ both.1)
          ∙ carry-refused (as_begun v) (is_no_secondary m.a.0) _ _ (not_from_true _ (and_parts (is_part (fields_at v.control m.a.0).primary) _ cascaded).1)
