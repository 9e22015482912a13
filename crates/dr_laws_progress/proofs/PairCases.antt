-- The members stand in a way at each moment of each plan, by cases.
use Rattle.std.proofs.Common.{ℕ, ◌≡◌, ◌≢◌, ◌⊎◌, inl, inr, refl, ap, sym, ◌∙◌, subst, Bool, true, false, cond, List, [], ◌∷◌, Option, Some, None, Result, Ok, Err, not, ◌==◌}
use Rattle.std.proofs.lemmas.Bool.{and_parts, eqb-true}
use Rattle.dr_ids.specs.declared.names.Member.{Member}
use Rattle.dr_model.specs.declared.event.Event.{Event}
use Rattle.dr_model.specs.declared.said.Said.{Said}
use Rattle.dr_model.specs.declared.state.Part.TheVariants.{Global}
use Rattle.dr_model.specs.declared.step.Devs.{Devs}
use Rattle.dr_model.specs.declared.step.Step.{Step}
use Rattle.dr_model.specs.declared.step.Step.TheVariants.{MakePair, RemovePair, Failover, Failback, AddMember}
use Rattle.dr_model.specs.Refusals.{server_off}
use Rattle.dr_model.specs.Layout.{is_part}
use Rattle.dr_model.specs.Pairs.{is_kind, secondary_of}
use Rattle.dr_model.specs.Phases as phases
use Rattle.dr_model.specs.Control.{Control, World, is_volume, new_volume}
use Rattle.dr_model.specs.Sessions.{Session, session_in, members_in, changed, begun as attempted, raised, with_member, without_member, with_master}
use Rattle.dr_model.specs.Messages.{Message}
use Rattle.dr_model.specs.MessagePlans.{replying}
use Rattle.dr_model.specs.SessionEntries.{first_number, reply_after, members_on}
use Rattle.dr_model.specs.SessionPlans.{exchanged, member_with, lead_refusal, is_idle}
use Rattle.dr_model.specs.Carry.{Act}
use Rattle.dr_model.specs.Entries.{fields_at, is_running, pair_state}
use Rattle.dr_model.specs.PairEntries.{send_refusal, reach_refusal, belongs_to}
use Rattle.dr_model.specs.Groups.{In}
use Rattle.dr_model.specs.PlanParts.{Plan, same, none_follow}
use Rattle.dr_model.specs.Carried.{begun}
use Rattle.dr_model.specs.Laws.{Sound}
use Rattle.dr_facts.proofs.Lists.{in-joined, from-filter}
use Rattle.dr_facts.proofs.Parts.{global-part}
use Rattle.dr_facts.proofs.Reasons.{NoStop}
use Rattle.dr_facts.proofs.Refusals.{none-both, met, passed}
use Rattle.dr_logic.proofs.Choices.{choose_some}
use Rattle.dr_logic.proofs.Truth.{false_true}
use Rattle.dr_laws_sessions.proofs.Changes.{session-found}
use Rattle.dr_laws_closed.specs.Regroups.{WasIn, AllStay}
use Rattle.dr_laws_closed.proofs.Regroups.{stays-joined, stays-left, stays-mirrored, stays-paused, stays-unmirrored, stays-aborted, stays-taken}
use Rattle.dr_laws_sound.proofs.Cases.{Case, Joins, DefinesVolume, Writes, Applies, Starts, MakesFlash, RemovesFlash, ResyncsFlash, ReversesFlash, Copies, Destages, MakesPair, RemovesPair, PausesPair, ResumesPair, FailsOver, FailsBack, Compares, Drains, Expires, Freezes, Unfreezes, Releases, MakesSession, RemovesSession, MakesMirror, PausesMirror, RemovesMirror, Aborts, AddsMember, RemovesMember, Exchanges, Sends, Delivers, TakesReply, Recovers, Settles, Commits, Reverts, added, is-new}
use Rattle.dr_laws_sound.proofs.Does.{Does, Acts, Late, MakesSecondary, MakesPrimary, DropsPrimary, DropsSecondary, TakesOver, LeavesPrimary, Yields, RecoversSecondary}
use Rattle.dr_laws_sound.proofs.DoesPlans.{Entered, case-does}
use Rattle.dr_laws_sound.proofs.FitsPairs.{its-first}
use Rattle.dr_laws_sound.proofs.Parts.{Ending, OnePlan, Imaged}
use Rattle.dr_laws_progress.specs.PairWays.{AsAdded, BothLead, TurnedRound}
use Rattle.dr_laws_progress.proofs.PairMoves.{is-global, Way, Ways, IsFree, free-owes, changed-ways, AllAmong, Stand, members-changed, among-changed, FairAct}
use Rattle.dr_laws_progress.proofs.PairPlans.{WaysIn, stand-ways, goes-none, from-goes, each-fine, PlanStands, plan-stands}
use Rattle.dr_laws_progress.proofs.PairSteps.{begins-stand, make-goes, remove-goes, failover-goes, failback-goes}

-- steps that make, end or turn a pair
abbrev turns_pair : Result Step ℕ → Bool
turns_pair (Ok (MakePair devs a b n choices)) = true
turns_pair (Ok (RemovePair devs a b source_only)) = true
turns_pair (Ok (Failover devs b a n)) = true
turns_pair (Ok (Failback devs x y n)) = true
turns_pair asked = false

among-same : (ss : List Session) → AllAmong ss ss
among-same ss y q i in_y = record { session = y; listed = i; here = in_y }

among-stay : (ss us : List Session) → AllStay ss us → AllAmong ss us
among-stay ss us stays y q i in_y = (stays y q i in_y).was

-- a member of the session of that number
found-in : (ss : List Session) (s : ℕ) (m : Member) → In m (members_in (session_in ss s)) → WasIn ss m
found-in ss s m here = by (session_in ss s) refl here
  where
    by : (o : Option Session) → session_in ss s ≡ o → In m (members_in o) → WasIn ss m
    by (Some x) is here = record { session = x; listed = (session-found ss s x is).0; here = here }
    by None is here = absurd here

-- the secondary of a member that is one is no primary
second-plain : (ss : List Session) (u : World) → Stand ss u → (m : Member) → WasIn ss m → is_part (fields_at u.control m.b.0).secondary ≡ true → is_part (fields_at u.control m.b.0).primary ≡ false
second-plain ss u s m o second = by (s.ways o.session m o.listed o.here).1
  where
    by : Way u.control.volume m → is_part (fields_at u.control m.b.0).primary ≡ false
    by (AsAdded leads follows plain) = plain
    by (BothLead leads back none) = false_true none second
    by (TurnedRound back follows none plain) = false_true plain second

module _ (k : Control) (ss : List Session) (among : AllAmong ss k.sessions) where
  -- the acts of all other steps come as they may
  fair-does : {asked : Result Step ℕ} → turns_pair asked ≡ false → (u : World) (a : Act) → Does k asked u.control a → Stand ss u → FairAct ss u a
  fair-does none u _ (MakesSecondary a b kind state may) s = absurd cc
  fair-does none u _ (MakesPrimary a b kind state full cascade may) s = absurd cc
  fair-does none u _ (DropsPrimary a) s = absurd cc
  fair-does none u _ (DropsSecondary b) s = absurd cc
  fair-does none u _ (TakesOver b a kind may un) s = absurd cc
  fair-does none u _ (LeavesPrimary b a kind may is) s = absurd cc
  fair-does none u _ (Yields x y kind state back) s = absurd cc
  fair-does none u _ (RecoversSecondary i m here second) s =
      let o : WasIn k.sessions m = found-in k.sessions i m here in
      (second, second-plain ss u s m (among o.session m o.listed o.here) second)
  fair-does none u a d s = tt

module _ (w : World) (sound : Sound w) (ways : WaysIn w) (line : ℕ) where
  abbrev k : Control
  k = w.control

  abbrev ss : List Session
  ss = w.control.sessions

  abbrev Last : List Session → Plan → Type 0
  Last us p = (v : World) → Stand us v → WaysIn (record v { control = p.last v.control })

  acts : (us : List Session) → AllAmong us ss → (asked : Result Step ℕ) (p : Plan) → Case k w.events line asked p → turns_pair asked ≡ false → Stand us (begun w p) → Last us p → PlanStands w p
  acts us among asked p c none begins last =
      let does : Entered w asked p = case-does w line asked p c in
      let fair = λ (u : World) (a : Act) (d : Acts k asked u a) (s : Stand us u). fair-does k us among none u a d s in
      plan-stands us w p begins (from-goes us (Acts k asked) NoStop (Late asked) fair p.entries (begun w p) does.entries begins)
      (λ n. each-fine us (Acts k asked) (Late asked) fair (p.follows n) (does.follows n)) last

  -- a plan without entries
  tables : (first : Control → Control) (told : List Event) (says : Control → Said) → let p : Plan = record { first = first; told = told; entries = []; follows = none_follow; last = same; says = says } in AllAmong ss (first k).sessions → Ways ss (first k).volume → PlanStands w p
  tables first told says among ways =
      let p : Plan = record { first = first; told = told; entries = []; follows = none_follow; last = same; says = says } in
      plan-stands ss w p (record { among = among; ways = ways }) (goes-none ss (begun w p)) (λ n. tt) (λ v s. stand-ways ss v s)

  -- a new volume is no member's
  new-free : (v s tracks : ℕ) → is_volume k v ≡ false → IsFree ss v
  new-free v s tracks undefined x q i in_x =
      let stands = (sound.groups.each x i).stands q in_x in
      (λ is. false_true undefined (ap (is_volume k) (sym is) ∙ stands.a), λ is. false_true undefined (ap (is_volume k) (sym is) ∙ stands.b))

  -- ---- a member more

  module _ (i a c : ℕ) (x : Session) (joins : Joins k i a c x) where
    abbrev b : ℕ
    b = (fields_at k a).primary_partner

    abbrev m : Member
    m = member_with k a c

    -- its session, with it alone
    abbrev us : List Session
    us = record x { members = m ∷ [] } ∷ ss

    checks : (is_kind Global (fields_at k a).primary ≡ true) × ((send_refusal a b k ≡ None) × (lead_refusal b k ≡ None))
    checks =
        let global = passed (is_kind Global (fields_at k a).primary) (pair_state k a) _ (passed (is_running a k) (server_off (k.volume a).server) _ joins.copies).1 in
        (global.0, none-both (send_refusal a b k) _ global.1)

    belongs : belongs_to a b k ≡ true
    belongs = met (belongs_to a b k) _ (none-both (reach_refusal a b k) _ checks.1.0).1

    plain : is_part (fields_at k b).primary ≡ false
    plain = by (is_part (fields_at k b).primary) checks.1.1
      where
        by : (p : Bool) → cond p (Some (pair_state k b)) None ≡ None → p ≡ false
        by true h = absurd cc
        by false h = refl

    to-b : secondary_of (fields_at k a) ≡ Some b
    to-b = choose_some (is_part (fields_at k a).primary) b (global-part (fields_at k a).primary checks.0)

    global : (fields_at k a).primary ≡ Global
    global = is-global (fields_at k a).primary checks.0

    new-apart : a ≢ b
    new-apart is = (sound.rows.parts.secondary a b to-b).apart (ap (λ j. (k.volume j).server) is)

    of-kind : (fields_at k b).secondary ≡ Global
    of-kind = sound.rows.seals.kinds b a (its-first a (fields_at k b) belongs) to-b ∙ global

    from : (fields_at k b).secondary_partner ≡ a
    from = eqb-true (fields_at k b).secondary_partner a (and_parts (is_part (fields_at k b).secondary) _ belongs).1

    new-way : (m.a.0 ≢ m.b.0) × Way k.volume m
    new-way = (new-apart, AsAdded (global, refl) (of-kind, from) plain)

    more-ways : Ways us k.volume
    more-ways y q (inl is) in_y = by (subst (λ (z : Session). In q z.members) is in_y)
      where
        by : In q (m ∷ []) → (q.a.0 ≢ q.b.0) × Way k.volume q
        by (inl e) = subst (λ (r : Member). (r.a.0 ≢ r.b.0) × Way k.volume r) (sym e) new-way
        by (inr none) = absurd none
    more-ways y q (inr i) in_y = ways y q i in_y

    more-among : AllAmong us ss
    more-among y q i in_y = record { session = y; listed = inr i; here = in_y }

    ends-among : (v : World) → Stand us v → AllAmong us (changed i (with_member m) (changed i (raised (first_number k x.last m)) v.control.sessions))
    ends-among v s =
        let old = among-changed us i (raised (first_number k x.last m)) (λ y q h. h) v.control.sessions s.among in
        members-changed (λ q. WasIn us q) i (with_member m) (changed i (raised (first_number k x.last m)) v.control.sessions) old (λ y q j h. by y q (old y q j) (in-joined y.members (m ∷ []) q h))
      where
        by : (y : Session) (q : Member) → (In q y.members → WasIn us q) → In q y.members ⊎ In q (m ∷ []) → WasIn us q
        by y q old (inl h) = old h
        by y q old (inr h) = record { session = record x { members = m ∷ [] }; listed = inl refl; here = h }

    add-stands : (devs : Devs) (l : ℕ) → PlanStands w (added k i x m)
    add-stands devs l = acts us more-among (Ok (AddMember devs l a i)) (added k i x m) (AddsMember i a c x joins) refl (record { among = more-among; ways = more-ways })
        (λ v s. stand-ways us (record v { control = (added k i x m).last v.control }) (record { among = ends-among v s; ways = s.ways }))

  -- ---- other plans that leave other sessions

  replied : (v : World) → Stand ss v → (s server : ℕ) (reply : Bool) (work : phases.Work) (ms : List Member) → WaysIn (record v { control = exchanged s server reply work ms v.control })
  replied v s i server true work ms =
      stand-ways ss (record v { control = exchanged i server true work ms v.control }) (record { among = among-changed ss i (with_master (λ r. phases.taken r server (reply_after i work ms v.control))) (λ x q h. h) v.control.sessions s.among; ways = s.ways })
  replied v s i server false work ms = stand-ways ss (record v { control = exchanged i server false work ms v.control }) (record { among = s.among; ways = s.ways })

  delivered : (v : World) → Stand ss v → (e : Message) (ms : List Member) → WaysIn (record v { control = replying e ms v.control })
  delivered v s e ms = stand-ways ss (record v { control = replying e ms v.control }) (record { among = s.among; ways = s.ways })

  removed : (v : World) → Stand ss v → (i a : ℕ) → WaysIn (record v { control = record v.control { sessions = changed i (without_member a) v.control.sessions } })
  removed v s i a =
      stand-ways ss (record v { control = record v.control { sessions = changed i (without_member a) v.control.sessions } })
      (record { among = among-changed ss i (without_member a) (λ x q h. (from-filter (λ (m : Member). not (m.a.0 == a)) x.members q h).0) v.control.sessions s.among; ways = s.ways })

  sent-among : (begins : Bool) (i : ℕ) → AllAmong ss (cond begins (changed i attempted ss) ss)
  sent-among true i = among-changed ss i attempted (λ x q h. h) ss (among-same ss)
  sent-among false i = among-same ss

  -- ---- each plan

  pub case-stands : (asked : Result Step ℕ) (p : Plan) → Case k w.events line asked p → PlanStands w p
  case-stands asked p c = by asked p c (acts ss (among-same ss) asked p c)
    where
      by : (asked : Result Step ℕ) (p : Plan) → Case k w.events line asked p → (turns_pair asked ≡ false → Stand ss (begun w p) → Last ss p → PlanStands w p) → PlanStands w p
      by _ _ (DefinesVolume v s tracks there free) go = tables _ _ _ (among-same ss) (changed-ways ss k.volume v (new_volume s tracks) (free-owes ss k.volume v (new_volume s tracks).fields (new-free v s tracks (is-new k v s tracks free).undefined)) ways)
      by _ _ (MakesSession l s free) go = tables _ _ _ (among-stay ss _ (stays-joined ss sound.groups.once s l)) ways
      by _ _ (RemovesSession l s x found free) go = tables _ _ _ (among-stay ss _ (stays-left ss sound.groups.once s l)) ways
      by _ _ (MakesMirror owner s x found free l owned) go = tables _ _ _ (among-stay ss _ (stays-mirrored ss sound.groups.once s owner)) ways
      by _ _ (PausesMirror s on) go = tables _ _ _ (among-stay ss _ (stays-paused ss sound.groups.once s on)) ways
      by _ _ (RemovesMirror s x found free) go = tables _ _ _ (among-stay ss _ (stays-unmirrored ss sound.groups.once s)) ways
      by _ _ (Aborts s x found free) go = tables _ _ _ (among-stay ss _ (stays-aborted ss sound.groups.once s)) ways
      by _ _ (TakesReply n m reply x r returns) go = tables _ _ _ (among-stay ss _ (stays-taken ss sound.groups.once m.session m.server reply)) ways
      by _ _ (Sends s server x r o posts) go = tables _ _ _ (sent-among (is_idle r.master.phase) s) ways
      by _ _ (AddsMember {devs} {l} i a c x joins) go = add-stands i a c x joins devs l
      by _ _ (RemovesMember i a x m found is idle on) go = go refl (record { among = among-same ss; ways = ways }) (λ v s. removed v s i m.a.0)
      by _ _ (Exchanges i server reply x r o allowed) go = go refl (record { among = among-same ss; ways = ways }) (λ v s. replied v s i server reply o.work _)
      by _ _ (Writes v t offset len bytes free) go = go refl (record { among = among-same ss; ways = ways }) (λ v s. stand-ways ss v s)
      by _ _ (Applies n p found) go = go refl (record { among = among-same ss; ways = ways }) (λ v s. stand-ways ss v s)
      by _ _ (Starts s off) go = go refl (record { among = among-same ss; ways = ways }) (λ v s. stand-ways ss v s)
      by _ _ (MakesFlash dev v t freeze choices) go = go refl (record { among = among-same ss; ways = ways }) (λ v s. stand-ways ss v s)
      by _ _ (RemovesFlash dev v t) go = go refl (record { among = among-same ss; ways = ways }) (λ v s. stand-ways ss v s)
      by _ _ (ResyncsFlash dev v t sequence) go = go refl (record { among = among-same ss; ways = ways }) (λ v s. stand-ways ss v s)
      by _ _ (ReversesFlash dev v t) go = go refl (record { among = among-same ss; ways = ways }) (λ v s. stand-ways ss v s)
      by _ _ (Copies t most) go = go refl (record { among = among-same ss; ways = ways }) (λ v s. stand-ways ss v s)
      by _ _ (Destages v) go = go refl (record { among = among-same ss; ways = ways }) (λ v s. stand-ways ss v s)
      by _ _ (PausesPair devs a b) go = go refl (record { among = among-same ss; ways = ways }) (λ v s. stand-ways ss v s)
      by _ _ (ResumesPair devs a b kind) go = go refl (record { among = among-same ss; ways = ways }) (λ v s. stand-ways ss v s)
      by _ _ (Drains a most) go = go refl (record { among = among-same ss; ways = ways }) (λ v s. stand-ways ss v s)
      by _ _ (Expires x on) go = go refl (record { among = among-same ss; ways = ways }) (λ v s. stand-ways ss v s)
      by _ _ (Freezes l m) go = go refl (record { among = among-same ss; ways = ways }) (λ v s. stand-ways ss v s)
      by _ _ (Unfreezes l m) go = go refl (record { among = among-same ss; ways = ways }) (λ v s. stand-ways ss v s)
      by _ _ (Releases l) go = go refl (record { among = among-same ss; ways = ways }) (λ v s. stand-ways ss v s)
      by _ _ (Delivers n e starts x r reaches) go = go refl (record { among = among-same ss; ways = ways }) (λ v s. delivered v s e (members_on e.server x.members))
      by _ _ (Recovers i x found on) go = go refl (record { among = among-same ss; ways = ways }) (λ v s. stand-ways ss v s)
      by _ _ (Settles i x m found in_x on free (Commits devs source sequence lets)) go = go refl (record { among = among-same ss; ways = ways }) (λ v s. stand-ways ss v s)
      by _ _ (Settles i x m found in_x on free (Reverts devs source sequence t target own)) go = go refl (record { among = among-same ss; ways = ways }) (λ v s. stand-ways ss v s)
      by _ _ (Compares contents v u) go = acts ss (among-same ss) (Err 0) _ (Compares contents v u) refl (record { among = among-same ss; ways = ways }) (λ v s. stand-ways ss v s)
      by _ _ (MakesPair devs a b kind choices part) go = plan-stands ss w _ (begins-stand w ways) (make-goes w ways devs a b kind choices) (λ n. tt) (λ v s. stand-ways ss v s)
      by _ _ (RemovesPair devs a b source_only) go = plan-stands ss w _ (begins-stand w ways) (remove-goes w ways devs a b source_only) (λ n. tt) (λ v s. stand-ways ss v s)
      by _ _ (FailsOver devs b a kind) go = plan-stands ss w _ (begins-stand w ways) (failover-goes w ways devs b a kind) (λ n. tt) (λ v s. stand-ways ss v s)
      by _ _ (FailsBack devs x y kind) go = plan-stands ss w _ (begins-stand w ways) (failback-goes w ways devs x y kind) (λ n. tt) (λ v s. stand-ways ss v s)
      by _ _ c go = tables _ _ _ (among-same ss) ways

  pub ending-stands : (p : Plan) → Ending k w.events line p → PlanStands w p
  ending-stands _ (OnePlan asked p c) = case-stands asked p c
  ending-stands _ (Imaged vs) = tables _ _ _ (among-same ss) ways
