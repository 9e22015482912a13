-- Each step's entries, and those that follow a stop in it, come to the acts that it does; and they refuse for no reason that names a stop.
use Rattle.std.proofs.Common.{ℕ, ◌≡◌, ◌+◌, ◌&&◌, refl, sym, subst, Bool, true, false, cond, not, List, [], ◌∷◌, ◌++◌, map, Option, Result, Ok, None}
use Rattle.std.proofs.lemmas.Bool.{and_parts}
use Rattle.std.specs.Prelude.{is_some}
use Rattle.dr_model.specs.Contents.{image_at}
use Rattle.dr_model.specs.declared.step.PairChoices.{PairChoices}
use Rattle.dr_model.specs.declared.state.Part.{Part}
use Rattle.dr_ids.specs.declared.names.Member.{Member}
use Rattle.dr_ids.specs.declared.refusal.Refusal.{Refusal}
use Rattle.dr_ids.specs.declared.refusal.Decision.{Decision}
use Rattle.dr_ids.specs.declared.refusal.Decision.TheVariants.{NoMember, Nothing, RevertAll, CommitRest, RevertSome, Impossible}
use Rattle.dr_model.specs.declared.said.Said.{Said}
use Rattle.dr_model.specs.declared.state.PairState.TheVariants.{Suspended as SuspendedState}
use Rattle.dr_model.specs.declared.event.Event.{Event}
use Rattle.dr_model.specs.declared.step.Devs.{Devs}
use Rattle.dr_model.specs.declared.step.Name.{Name}
use Rattle.dr_model.specs.declared.step.Step.{Step}
use Rattle.dr_model.specs.declared.step.Step.TheVariants.{MakeFlash, RemovePair, MakePair, Failover, Drain}
use Rattle.dr_model.specs.Layout.{is_part}
use Rattle.dr_model.specs.Control.{Control, World}
use Rattle.dr_model.specs.Pairs.{held, first_state, is_cascaded, holds_back}
use Rattle.dr_model.specs.Groups.{In}
use Rattle.dr_model.specs.Relations.{Choices}
use Rattle.dr_model.specs.Phases as phases
use Rattle.dr_model.specs.Sessions.{members_in, is_copy}
use Rattle.dr_model.specs.Moves as moves
use Rattle.dr_model.specs.Carry.{Act, Make, Entry, Pass, Do, now, check, entries_in}
use Rattle.dr_model.specs.Carried.{begun}
use Rattle.dr_model.specs.Entries.{check_or_drop, give_back, fetch_next, fields_at, is_running, share_size, is_no_target, is_no_secondary, is_open, is_settled, relation_state, pair_state, share_server, secondary_state}
use Rattle.dr_model.specs.PairEntries.{refuse_if, reach_refusal, two_servers, may_follow, leads_to, belongs_to, let_go, remove_both, may_pause, tell_paused, may_resume, follow_on, resume_on, may_take_over, leads_as, fall_back_on, yield_on, stands_free, differs_at, are_linked, is_copying, sends, tracks_to_send, make_entries, may_lead, first_differing, drain_stretches, feeds, suspend_after, held_refusal}
use Rattle.dr_model.specs.WriteEntries.{partner_of, after_write, landing, land_entries, is_between, freeze_on, end_freeze, thaw_on, end_thaw, is_held_in, flash_free_on, belongs, lift_on}
use Rattle.dr_model.specs.SessionEntries.{members_on, is_on, order_entries, first_number}
use Rattle.dr_model.specs.SessionPlans.{member_with}
use Rattle.dr_model.specs.RecoveryPlans.{decided_in, lets_commit, lets_revert, settle_on}
use Rattle.dr_model.specs.Plans.{Plan, entries_plan, none_follow, is_defined, is_owner, found_pair, found_volumes, differ, is_no_source, has_few_targets, counted_refusal, is_plain_target, is_recorded_target, restore_refusal, is_lone_restore, may_return, left_by, may_copy, may_give_back, at_most, left_to_copy, member_refusal, yield_refusal, hold_first, cascades, cascade_refusal}
use Rattle.dr_facts.proofs.Entries.{any_world, WhyNot, why-wider, AllFine, fine-none, fine-then, fine-now, fine-append, fine-map, fine-times, fine-drop, Fine, FineFrom, from-none, from-check, from-refuse, from-all, EachFine, why-if}
use Rattle.dr_facts.proofs.SharedEntries.{where-fine, after_drain-fine, after_write-fine, hold-fine, destage-fine, start-fine, copied-fine, sends-fine, feeds-fine, lands-fine, order-fine, add-fine, settle-fine, recover-fine}
use Rattle.dr_facts.proofs.Reasons.{NoStop, NoneStops, reach-why, send-why, member-why, hold-why, seal-why, flashed-why, differs-why, void-why, stale-why, flash-why, commit-why, counted-why, restore-why, yield-why, session-why}
use Rattle.dr_laws_sound.proofs.Cases.{Case, Says, DefinesServer, DefinesVolume, SetsLink, Issues, Writes, Applies, Lists, Shows, Stops, Arms, Starts, MakesFlash, RemovesFlash, ResyncsFlash, ReversesFlash, Copies, Destages, MakesPath, RemovesPath, MakesPair, RemovesPair, PausesPair, ResumesPair, FailsOver, FailsBack, Compares, Drains, Expires, Freezes, Unfreezes, Releases, MakesSession, RemovesSession, MakesMirror, PausesMirror, RemovesMirror, Aborts, AddsMember, RemovesMember, Exchanges, Sends, Delivers, TakesReply, Loses, Recovers, Settles, Commits, Reverts, ByHand}
use Rattle.dr_laws_sound.proofs.Does as does
use Rattle.dr_laws_sound.proofs.Does.{IsWrite, Issued, Found, IsSend, Drained, Collided, IsOrder, Exchanged, Delivered, Does, Acts, Late, refuses_late, Fed}
use Rattle.dr_facts.proofs.Lists.{from-filter}
use Rattle.std.specs.List.{find}

-- what lets targets be committed lets none be reverted
decides-one : {P : Type 0} (d : Decision) → lets_commit d ≡ true → lets_revert d ≡ true → P
decides-one NoMember lets back = absurd cc
decides-one (Nothing n) lets back = absurd cc
decides-one (RevertAll n) lets back = absurd cc
decides-one (CommitRest n) lets back = absurd cc
decides-one (RevertSome o n) lets back = absurd cc
decides-one (Impossible a b) lets back = absurd cc

-- that coordination holds back what a volume receives is no stop
held-why : (b : ℕ) (k : Control) → NoneStops (held_refusal b k)
held-why b k = why-if NoStop (holds_back (fields_at k b)) _ None refl tt

-- what a plan that was asked for comes to
pub record Entered (w : World) (asked : Result Step ℕ) (p : Plan) : Type 0 where
  pub entries : FineFrom any_world (Acts w.control asked) NoStop (Late asked) (begun w p) p.entries
  pub follows : (s : ℕ) → EachFine any_world (Acts w.control asked) (Late asked) (p.follows s)

-- `k` is the control state in which the step begins, `u` the world in which its entries begin
module _ (k : Control) (asked : Result Step ℕ) where
  abbrev All : List Entry → Type 0
  All = AllFine any_world (Acts k asked) (Late asked)

  abbrev Each : List Entry → Type 0
  Each = EachFine any_world (Acts k asked) (Late asked)

  none : All []
  none = fine-none any_world (Acts k asked) (Late asked)

  moving : (m : moves.Move) (ds : List Entry) → ((j : Control) → Does k asked j (Make m)) → All ds → All (now m ∷ ds)
  moving m ds does rest = fine-now any_world (Acts k asked) (Late asked) m ds (λ u any. does u.control) rest

  last : (m : moves.Move) → ((j : Control) → Does k asked j (Make m)) → All (now m ∷ [])
  last m does = moving m [] does none

  each : (d : Entry) (ds : List Entry) → ((u : World) → any_world u → Fine any_world (Acts k asked) (Late asked) u (d u.control)) → All ds → All (d ∷ ds)
  each = fine-then any_world (Acts k asked) (Late asked)

  when : (so : Control → Bool) (a : Act) → ((j : Control) → so j ≡ true → Does k asked j a) → (u : World) → any_world u → Fine any_world (Acts k asked) (Late asked) u (cond (so u.control) (Do a) Pass)
  when so a does = where-fine any_world (Acts k asked) (Late asked) so a (λ u any is. does u.control is)

  volumes : (one : ℕ → Entry) (vs : List ℕ) → ((v : ℕ) (u : World) → any_world u → Fine any_world (Acts k asked) (Late asked) u (one v u.control)) → All (map one vs)
  volumes = fine-map any_world (Acts k asked) (Late asked)

  append : (ds es : List Entry) → All ds → All es → All (ds ++ es)
  append = fine-append any_world (Acts k asked) (Late asked)

  late : refuses_late asked ≡ true → (o : Option Refusal) → NoneStops o → WhyNot (Late asked) o
  late so o why = why-wider NoStop (Late asked) (λ r why. record { late = so; why = why }) o why

  -- tracks that are sent
  sending : refuses_late asked ≡ true → (volumes : List ℕ) (a b : ℕ) → IsSend k asked a b → (ts : List ℕ) → All (sends volumes a b ts)
  sending so volumes a b is ts =
      sends-fine any_world (Acts k asked) (Late asked) (λ u t v any. does.Keeps u t) (λ u t v any. does.Notes u t) volumes a b (λ v any. does.Suspends a false) (λ t l v any. does.Stores a b is t l) (λ t l v any. does.Strikes a b is t l)
      (λ j. late so _ (send-why a b j)) (λ j. late so _ (flashed-why b j)) ts

  feeding : refuses_late asked ≡ true → (volumes : List ℕ) (a b c : ℕ) → IsSend k asked a b → IsSend k asked b c → (ts : List ℕ) → All (entries_in (feeds volumes a b c ts))
  feeding so volumes a b c is on ts =
      feeds-fine any_world (Acts k asked) (Late asked) (λ u t v any. does.Keeps u t) (λ u t v any. does.Notes u t) volumes a b c (λ v any. does.Suspends a false) (λ t l v any. does.Stores a b is t l) (λ t l v any. does.Strikes a b is t l)
      (λ v any. does.Suspends b false) (λ t l v any. does.Stores b c on t l) (λ t l v any. does.Strikes b c on t l) (λ j. late so _ (send-why a b j)) (λ j. late so _ (flashed-why b j)) (λ j. late so _ (held-why b j)) ts

  copying : (t : ℕ) (back : Bool) → (back ≡ true → (q : ℕ) (j : Control) → Does k asked j (Make (moves.Restore (fields_at k t).source q t))) → (back ≡ true → (q : ℕ) (j : Control) → Does k asked j (Make (moves.Release t q)))
      → ((q : ℕ) (j : Control) → Does k asked j (Make (moves.Fetch t q))) → All (cond back (give_back k.volumes (fields_at k t).source t) (fetch_next t ∷ []))
  copying t back restores releases fetches =
      copied-fine any_world (Acts k asked) (Late asked) (λ u t v any. does.Keeps u t) (λ u t v any. does.Notes u t) k.volumes (fields_at k t).source t back (λ b q u any. restores b q u.control) (λ b q u any. releases b q u.control) (λ q u any. fetches q u.control)

  -- a host write
  landed : (n v t : ℕ) → IsWrite k asked n v t → All (land_entries k n v t)
  landed n v t is = lands-fine any_world (Acts k asked) (Late asked) (λ u t v any. does.Keeps u t) (λ u t v any. does.Notes u t) k n v t (λ free. record {
    land = λ u any. does.Lands n v t is free;
    over = λ u any. does.Overwrites n v t is free;
    suspend = λ busy u any. does.Suspends v busy;
    unsync = λ over u any. does.Unsyncs n v t is over;
    mirror = λ over u any. does.Mirrors n v t is over;
    both = λ u any. does.LandsBoth n v t is free;
    store = λ met last u any. does.Stores v (partner_of k v) (Collided n v t is met) t last;
    strike = λ met last u any. does.Strikes v (partner_of k v) (Collided n v t is met) t last;
    fed_suspend = λ fed u any. does.Suspends (partner_of k v) false;
    fed_store = λ fed last u any so. does.SendsOn n v t is fed so last;
    fed_strike = λ fed last u any. does.StrikesOn n v t is fed last;
  })

  dropping : (n v t : ℕ) → refuses_late asked ≡ true → IsWrite k asked n v t → (ok : Control → Bool) (r : Refusal) (ds : List Entry) → NoStop r → All ds → All (check_or_drop n ok r ++ ds)
  dropping n v t so is ok r ds why rest = fine-drop any_world (Acts k asked) (Late asked) n ok r ds (λ u any. does.Drops n v t is) (record { late = so; why = why }) rest

  followed : (n v t s : ℕ) → Each (after_write k n v t s)
  followed n v t s = after_write-fine any_world (Acts k asked) (Late asked) k n v t s (λ busy u any. does.Suspends v busy) (λ fed u any. does.Suspends (partner_of k v) false)

  -- an order
  ordering : refuses_late asked ≡ true → (work : phases.Work) (s n : ℕ) (ms : List Member) → ((m : Member) → In m ms → IsOrder k asked s m) → All (order_entries work s n ms)
  ordering so work s n ms is = order-fine any_world (Acts k asked) (Late asked) work s n ms
      (λ m here. let i = is m here in record {
        hold = λ u any. does.OrdersHold s m i n;
        open_attempt = λ u any newer. does.OrdersAttempt s m i n;
        free = λ u any. does.OrdersFree s m i;
        seal = λ u any. does.OrdersSeal s m i n;
        finish = λ u any. does.OrdersFinish s m i n;
        flash = λ u any. does.OrdersFlash s m i n;
        commit = λ u any. does.OrdersCommit s m i n;
        revert = λ u any. does.OrdersRevert s m i n;
        raise = λ u any. does.OrdersFloor s m i n;
      })
      (λ m. record {
        hold = λ j. late so _ (hold-why m.a.0 m.b.0 j);
        stale = λ j. late so _ (stale-why m.a.0 n j);
        void = λ j. late so _ (void-why m.a.0 n j);
        seal = λ j. late so _ (seal-why m.a.0 m.b.0 j);
        send = λ j. late so _ (send-why m.a.0 m.b.0 j);
        flash = λ j. late so _ (flash-why m.b.0 m.c.0 n j);
        commit = λ j. late so _ (commit-why m.c.0 n j);
        reach = λ j. late so _ (reach-why m.a.0 m.b.0 j);
      })

  module _ (u : World) where
    abbrev From : List Entry → Type 0
    From = FineFrom any_world (Acts k asked) NoStop (Late asked) u

    check-that : (ok : Control → Bool) (r : Refusal) (ds : List Entry) → NoStop r → (ok u.control ≡ true → From ds) → From (check ok r ∷ ds)
    check-that = from-check any_world (Acts k asked) NoStop (Late asked) u

    checked : (ok : Control → Bool) (r : Refusal) (ds : List Entry) → NoStop r → From ds → From (check ok r ∷ ds)
    checked ok r ds why rest = check-that ok r ds why (λ h. rest)

    refusing : (why : Control → Option Refusal) (ds : List Entry) → NoneStops (why u.control) → From ds → From (refuse_if why ∷ ds)
    refusing = from-refuse any_world (Acts k asked) NoStop (Late asked) u

    acting : (ds : List Entry) → All ds → From ds
    acting ds all = from-all any_world (Acts k asked) NoStop (Late asked) (λ r why. why.why) u tt ds all

    -- the volumes of a relationship, and of a pair
    related : (dev : Option Name) (s t : ℕ) (ds : List Entry) → From ds → From (found_pair dev s t ++ ds)
    related dev s t ds rest = checked (is_defined s) _ _ refl (checked (is_defined t) _ _ refl (checked (is_owner dev s) _ _ refl rest))

    paired : (devs : Devs) (a b : ℕ) (ds : List Entry) → From ds → From (found_volumes devs a b ++ ds)
    paired devs a b ds rest = related devs.dev a b _ (checked (is_owner devs.remotedev b) _ _ refl rest)

    writing : (n v t : ℕ) → refuses_late asked ≡ true → IsWrite k asked n v t → From (landing k n v t)
    writing n v t so is = checked (is_running v) _ _ refl (acting _
        (dropping n v t so is (is_no_secondary v) _ _ refl (dropping n v t so is (is_open v) _ _ refl (dropping n v t so is (is_settled v) (relation_state k v) _ refl (landed n v t is)))))

module _ (w : World) where
  abbrev c : Control
  c = w.control

  abbrev Of : Result Step ℕ → List Entry → Said → Type 0
  Of asked ds said = FineFrom any_world (Acts c asked) NoStop (Late asked) (begun w (entries_plan ds said)) ds → Entered w asked (entries_plan ds said)

  entered : (asked : Result Step ℕ) (ds : List Entry) (said : Said) → Of asked ds said
  entered asked ds said from = record { entries = from; follows = λ s. tt }

  -- a plan without entries
  tables : (asked : Result Step ℕ) (first last : Control → Control) (told : List Event) (says : Control → Said) → Entered w asked (record { first = first; told = told; entries = []; follows = none_follow; last = last; says = says })
  tables asked first last told says = record { entries = from-none any_world (Acts c asked) NoStop (Late asked) _; follows = λ s. tt }

  acts-only : (asked : Result Step ℕ) (p : Plan) → ((s : ℕ) → p.follows s ≡ []) → All c asked p.entries → Entered w asked p
  acts-only asked p none_follows all = record { entries = acting c asked (begun w p) p.entries all; follows = λ s. subst (Each c asked) (sym (none_follows s)) tt }

  flashing : (devs : Devs) (nocopy persistent recorded inhibited : Bool) (sequence : Option ℕ) (s t : ℕ) (choices : Choices) (freeze : Bool)
      → All c (Ok (MakeFlash devs s t nocopy persistent recorded inhibited freeze sequence)) (hold_first freeze s ++ now (moves.Relate t s choices) ∷ [])
  flashing devs nocopy persistent recorded inhibited sequence s t choices true = hold-fine any_world (Acts c _) (Late _) true s (now (moves.Relate t s choices) ∷ []) (λ h v any. does.Holds s t) (last c _ (moves.Relate t s choices) (λ j. does.Relates s t choices))
  flashing devs nocopy persistent recorded inhibited sequence s t choices false = last c _ (moves.Relate t s choices) (λ j. does.Relates s t choices)

  removing : (devs : Devs) (a b : ℕ) (source_only : Bool) (u : World) → From c (Ok (RemovePair devs a b source_only)) u (cond source_only (now (moves.DropPrimary a) ∷ []) (remove_both c a b))
  removing devs a b true u = acting c _ _ _ (last c _ (moves.DropPrimary a) (λ j. does.DropsPrimary a))
  removing devs a b false u = checked c _ _ (is_running b) _ _ refl (checked c _ _ (are_linked a b) _ _ refl (acting c _ _ _ (moving c _ (moves.DropPrimary a) _ (λ j. does.DropsPrimary a)
      (each c _ (let_go a b) _ (when c _ (belongs_to a b) (Make (moves.DropSecondary b)) (λ j is. does.DropsSecondary b)) (none c _)))))

  abbrev start : World
  start = record w { events = w.events ++ [] }

  -- a pair is made; of a cascaded volume no member's secondary or target is
  making : (n : ℕ) (devs : Devs) (a b : ℕ) (kind : Part) (choices : PairChoices) (difference : Option ℕ) (cascade : Bool) → From c (Ok (MakePair devs a b n choices)) start (make_entries c a b kind cascade choices.full difference)
  making n devs a b kind choices difference cascade = checked c _ _ (is_running a) _ _ refl (refusing c _ _ (reach_refusal a b) _ (reach-why a b c)
      (checked c _ _ (two_servers a b) _ _ refl (checked c _ _ (share_size a b) _ _ refl
      (check-that c _ _ (may_lead cascade a b) (pair_state c a) _ refl (λ leads. check-that c _ _ (may_follow a b) (pair_state c b) _ refl (λ follows.
      checked c _ _ (is_no_target a) (relation_state c a) _ refl (checked c _ _ (is_no_target b) (relation_state c b) _ refl (checked c _ _ (is_settled b) (relation_state c b) _ refl
      (refusing c _ _ (differs_at difference) _ (differs-why difference c) (acting c _ _ _
      (moving c _ (moves.MakeSecondary b a kind (first_state kind choices.full)) _ (λ j. does.MakesSecondary a b kind _ follows) (last c _ (moves.MakePrimary a b kind (first_state kind choices.full) choices.full) (λ j. does.MakesPrimary a b kind _ choices.full cascade leads)))))))))))))

  pairing : (n : ℕ) (devs : Devs) (a b : ℕ) (kind : Part) (choices : PairChoices) (difference : Option ℕ) (cascade : Bool)
      → From c (Ok (MakePair devs a b n choices)) start (cond cascade (refuse_if (cascade_refusal a) ∷ []) [] ++ make_entries c a b kind cascade choices.full difference)
  pairing n devs a b kind choices difference true = refusing c _ _ (cascade_refusal a) _ (session-why (find (is_copy a) c.sessions)) (making n devs a b kind choices difference true)
  pairing n devs a b kind choices difference false = making n devs a b kind choices difference false

  -- a secondary is taken over, or leaves its primary
  taking : (n : ℕ) (devs : Devs) (b a : ℕ) (kind : Part) → may_take_over a b kind c ≡ true → (cascaded : Bool) → is_cascaded (fields_at c b) ≡ cascaded → All c (Ok (Failover devs b a n)) (now (cond cascaded (moves.LeavePrimary b) (moves.TakeOver b)) ∷ [])
  taking n devs b a kind may true is = last c _ (moves.LeavePrimary b) (λ j. does.LeavesPrimary b a kind may is)
  taking n devs b a kind may false is = last c _ (moves.TakeOver b) (λ j. does.TakesOver b a kind may is)

  -- tracks are sent, to a cascaded secondary or to one with no other part
  draining : (a : ℕ) (most : Option ℕ) → is_part (fields_at c a).primary ≡ true → (ts : List ℕ) → All c (Ok (Drain a most)) (entries_in (drain_stretches c a ts))
  draining a most first ts = by (is_cascaded (fields_at c b)) refl
    where
      b : ℕ
      b = partner_of c a

      by : (cascaded : Bool) → is_cascaded (fields_at c b) ≡ cascaded → All c (Ok (Drain a most)) (entries_in (cond cascaded (feeds c.volumes a b (partner_of c b) ts) (record { entries = sends c.volumes a b ts; follows = suspend_after a } ∷ [])))
      by true is = feeding c _ refl c.volumes a b (partner_of c b) (Drained a most first) (Fed a most is) ts
      by false is = sending c _ refl c.volumes a b (Drained a most first) ts

  pub case-does : (line : ℕ) (asked : Result Step ℕ) (p : Plan) → Case w.control w.events line asked p → Entered w asked p
  case-does line _ _ (Says a waits why) = tables _ _ _ _ _
  case-does line _ _ (DefinesServer name free) = tables _ _ _ _ _
  case-does line _ _ (DefinesVolume v s tracks here free) = tables _ _ _ _ _
  case-does line _ _ (SetsLink a b up) = tables _ _ _ _ _
  case-does line _ _ (Issues v t offset len bytes free) = tables _ _ _ _ _
  case-does line _ _ (Writes v t offset len bytes free) = record { entries = writing c _ _ (c.issued + 1) v t refl (Issued v t offset len bytes); follows = followed c _ (c.issued + 1) v t }
  case-does line _ _ (Applies n p found) = record { entries = writing c _ _ p.w p.volume p.track refl (Found n p found); follows = followed c _ p.w p.volume p.track }
  case-does line _ _ (Lists told ls few) = tables _ _ _ _ _
  case-does line _ _ (Shows v t there) = tables _ _ _ _ _
  case-does line _ _ (Stops s on) = tables _ _ _ _ _
  case-does line _ _ (Arms writes torn s) = tables _ _ _ _ _
  case-does line _ _ (Starts s off) = acts-only _ _ (λ q. refl)
      (start-fine any_world (Acts c _) (Late _) s c.volumes (λ v u any. does.Redoes v) (λ v u any. does.Restarts v) (λ n u any is. does.Acknowledges s n is))
  case-does line _ _ (MakesFlash dev s t freeze choices) = entered _ _ _ (related c _ _ dev s t _ (checked c _ _ (is_running s) _ _ refl
      (checked c _ _ (differ s t) _ _ refl (checked c _ _ (share_server s t) _ _ refl (checked c _ _ (share_size s t) _ _ refl
      (checked c _ _ (is_no_target t) (relation_state c t) _ refl (checked c _ _ (is_no_source t) (relation_state c t) _ refl (checked c _ _ (is_no_target s) (relation_state c s) _ refl
      (checked c _ _ (stands_free t) (pair_state c t) _ refl (checked c _ _ (has_few_targets s) _ _ refl (acting c _ _ _ (flashing _ _ _ _ _ _ s t choices freeze))))))))))))
  case-does line _ _ (RemovesFlash dev s t) = entered _ _ _ (related c _ _ dev s t _ (checked c _ _ (is_running s) _ _ refl (refusing c _ _ (counted_refusal t) _ (counted-why t c)
      (checked c _ _ (is_plain_target s t) (relation_state c t) _ refl (acting c _ _ _ (last c _ (moves.Withdraw t) (λ j. does.Withdraws s t)))))))
  case-does line _ _ (ResyncsFlash dev s t sequence) = entered _ _ _ (related c _ _ dev s t _ (checked c _ _ (is_running s) _ _ refl (refusing c _ _ (counted_refusal t) _ (counted-why t c)
      (checked c _ _ (is_recorded_target s t) (relation_state c t) _ refl (acting c _ _ _ (last c _ (moves.Resync t sequence) (λ j. does.Resyncs s t sequence)))))))
  case-does line _ _ (ReversesFlash dev s t) = entered _ _ _ (related c _ _ dev s t _ (checked c _ _ (is_running s) _ _ refl (refusing c _ _ (restore_refusal t) _ (restore-why t c)
      (checked c _ _ (is_recorded_target s t) (relation_state c t) _ refl (checked c _ _ (is_lone_restore s t) (relation_state c s) _ refl (checked c _ _ (may_return s) (secondary_state c s) _ refl
      (acting c _ _ _ (last c _ (moves.Reverse t (left_by c t)) (λ j. does.Reverses s t (left_by c t))))))))))
  case-does line _ _ (Copies t most) = entered _ _ _ (checked c _ _ (is_defined t) _ _ refl (checked c _ _ (is_running t) _ _ refl (checked c _ _ (may_copy t) (relation_state c t) _ refl
      (checked c _ _ (may_give_back t) (pair_state c (fields_at c t).source) _ refl (acting c _ _ _ (fine-times any_world (Acts c _) (Late _) (at_most most (left_to_copy c t)) _
      (copying c _ t (fields_at c t).reversing (λ back q j. does.GivesBack q t back) (λ back q j. does.GivesUp q t back) (λ q j. does.Fetches q t))))))))
  case-does line _ _ (Destages v) = entered _ _ _ (checked c _ _ (is_defined v) _ _ refl (checked c _ _ (is_running v) _ _ refl
      (acting c _ _ _ (destage-fine any_world (Acts c _) (Late _) (c.volume v).staged v (λ u any. does.Destages v) (λ u any. does.Unstages v)))))
  case-does line _ _ (MakesPath src tgt group) = tables _ _ _ _ _
  case-does line _ _ (RemovesPath src tgt) = tables _ _ _ _ _
  case-does line _ _ (MakesPair {n} devs a b kind choices part) = entered _ _ _ (paired c _ _ devs a b _ (pairing n devs a b kind choices (cond choices.full None (first_differing (image_at w.events) (c.volume a).tracks a b)) (cascades kind choices)))
  case-does line _ _ (RemovesPair devs a b source_only) = entered _ _ _ (paired c _ _ devs a b _ (refusing c _ _ (member_refusal a b) _ (member-why a b c) (checked c _ _ (is_running a) _ _ refl
      (checked c _ _ (leads_to a b) (pair_state c a) _ refl (removing devs a b source_only _)))))
  case-does line _ _ (PausesPair devs a b) = entered _ _ _ (paired c _ _ devs a b _ (checked c _ _ (is_running a) _ _ refl (checked c _ _ (may_pause a b) (pair_state c a) _ refl (acting c _ _ _
      (moving c _ (moves.Suspend a false) _ (λ j. does.Suspends a false) (each c _ (tell_paused a b) _ (when c _ (λ j. not (is_some (reach_refusal a b j)) && belongs_to a b j) (Make (moves.Follow b SuspendedState)) (λ j is. does.Pauses b)) (none c _)))))))
  case-does line _ _ (ResumesPair devs a b kind) = entered _ _ _ (paired c _ _ devs a b _ (checked c _ _ (is_running a) _ _ refl (checked c _ _ (may_resume a b kind) (pair_state c a) _ refl
      (refusing c _ _ (reach_refusal a b) _ (reach-why a b c) (checked c _ _ (belongs_to a b) (secondary_state c b) _ refl (acting c _ _ _
      (each c _ (follow_on a b) _ (λ u any. does.Follows b _) (each c _ (resume_on a) _ (λ u any. does.Resumes a) (none c _)))))))))
  case-does line _ _ (FailsOver {n} devs b a kind) = entered _ _ _ (paired c _ _ devs b a _ (checked c _ _ (is_running b) _ _ refl
      (check-that c _ _ (may_take_over a b kind) (secondary_state c b) _ refl (λ may. acting c _ _ _ (taking n devs b a kind may (is_cascaded (fields_at c b)) refl)))))
  case-does line _ _ (FailsBack devs x y kind) = entered _ _ _ (paired c _ _ devs x y _ (checked c _ _ (is_running x) _ _ refl (refusing c _ _ (reach_refusal x y) _ (reach-why x y c)
      (check-that c _ _ (leads_as x y kind) (pair_state c x) _ refl (λ leads. check-that c _ _ (leads_to y x) (pair_state c y) _ refl (λ back.
      checked c _ _ (is_no_secondary x) (secondary_state c x) _ refl (checked c _ _ (is_no_secondary y) (secondary_state c y) _ refl
      (checked c _ _ (is_settled y) (relation_state c y) _ refl (checked c _ _ (is_settled x) (relation_state c x) _ refl (refusing c _ _ (yield_refusal y) _ (yield-why y c) (acting c _ _ _
      (each c _ (fall_back_on x y) _ (λ u any. does.FallsBack x y kind leads) (each c _ (yield_on y x) _ (λ u any. does.Yields x y _ _ back) (none c _))))))))))))))
  case-does line _ _ (Compares contents v u) = entered _ _ _ (checked c _ _ (is_defined v) _ _ refl (checked c _ _ (is_defined u) _ _ refl (checked c _ _ (is_running v) _ _ refl (checked c _ _ (is_running u) _ _ refl
      (checked c _ _ (share_size v u) _ _ refl (refusing c _ _ (differs_at _) _ (differs-why _ c) (acting c _ _ _ (none c _))))))))
  case-does line _ _ (Drains a most) = record {
    entries = checked c _ _ (is_defined a) _ _ refl (checked c _ _ (is_running a) _ _ refl (check-that c _ _ (is_copying a) (pair_state c a) _ refl (λ copying.
        acting c _ _ _ (draining a most (and_parts (is_part (fields_at c a).primary) _ copying).0 (tracks_to_send most (c.volume a).tracks (fields_at c a).out_of_sync)))));
    follows = λ s. after_drain-fine any_world (Acts c _) (Late _) c a (tracks_to_send most (c.volume a).tracks (fields_at c a).out_of_sync) s (λ u any. does.Suspends a false) (λ fed u any. does.Suspends (partner_of c a) false);
  }
  case-does line _ _ (Expires s on) = acts-only _ _ (λ q. refl) (volumes c _ (lift_on s) c.volumes (λ v. when c _ (λ j. belongs j s v && held (fields_at j v)) (Make (moves.Lift v)) (λ j is. does.Lifts s v (on.0, is))))
  case-does line _ _ (Freezes l m) = acts-only _ _ (λ q. refl) (append c _ (map (freeze_on l m) c.volumes) _
      (volumes c _ (freeze_on l m) c.volumes (λ v. when c _ (λ j. is_between j l m v) (Make (moves.Suspend v true)) (λ j is. does.Suspends v true))) (each c _ (end_freeze l m) _ (λ u any. does.EndsFreeze l m) (none c _)))
  case-does line _ _ (Unfreezes l m) = acts-only _ _ (λ q. refl) (append c _ (map (thaw_on l m) c.volumes) _
      (volumes c _ (thaw_on l m) c.volumes (λ v. when c _ (λ j. is_between j l m v && (fields_at j v).long_busy) (Make (moves.Thaw v)) (λ j is. does.Thaws l m v is))) (each c _ (end_thaw l m) _ (λ u any. does.EndsThaw l m) (none c _)))
  case-does line _ _ (Releases l) = acts-only _ _ (λ q. refl) (volumes c _ (flash_free_on l) c.volumes (λ v. when c _ (λ j. is_held_in j l v) (Make (moves.FlashFree v)) (λ j is. does.Frees v)))
  case-does line _ _ (MakesSession l s free) = tables _ _ _ _ _
  case-does line _ _ (RemovesSession l s x found free) = tables _ _ _ _ _
  case-does line _ _ (MakesMirror owner s x found free l owned) = tables _ _ _ _ _
  case-does line _ _ (PausesMirror s on) = tables _ _ _ _ _
  case-does line _ _ (RemovesMirror s x found free) = tables _ _ _ _ _
  case-does line _ _ (Aborts s x found free) = tables _ _ _ _ _
  case-does line _ _ (Loses n) = tables _ _ _ _ _
  case-does line _ _ (Sends s server x r o posts) = tables _ _ _ _ _
  case-does line _ _ (TakesReply n m reply x r returns) = tables _ _ _ _ _
  case-does line _ _ (AddsMember s a d x joins) = acts-only _ _ (λ q. refl) (add-fine any_world (Acts c _) (Late _) (member_with c a d) (first_number c x.last (member_with c a d)) (λ u any. does.RaisesAttempt _ _) (λ u any. does.RaisesFloor _ _))
  case-does line _ _ (RemovesMember s a x m found is idle on) = acts-only _ _ (λ q. refl) (last c _ (moves.Leave m.c.0 m.a.0 s) (λ j. does.Leaves m.c.0 m.a.0 s))
  case-does line _ _ (Exchanges s server reply x r o allowed) = acts-only _ _ (λ q. refl) (ordering c _ refl o.work s o.number (members_on server x.members)
      (λ m here. Exchanged s m (subst (λ o. In m (members_in o)) (sym allowed.found) (from-filter (is_on server) x.members m here).0)))
  case-does line _ _ (Delivers n m starts x r reaches) = acts-only _ _ (λ q. refl) (ordering c _ refl m.order.work m.session m.order.number (members_on m.server x.members)
      (λ q here. Delivered n m q reaches.arrives.there (subst (λ o. In q (members_in o)) (sym reaches.arrives.found) (from-filter (is_on m.server) x.members q here).0)))
  case-does line _ _ (Recovers s x found on) = acts-only _ _ (λ q. refl) (recover-fine any_world (Acts c _) (Late _) s (decided_in s c) x.members (λ m here u any is. does.RecoversSecondary s m (subst (λ o. In m (members_in o)) (sym found) here) is)
      (λ m here no n u any. does.RecoversCommit s m (subst (λ o. In m (members_in o)) (sym found) here) n) (λ m here yes n u any. does.RecoversRevert s m (subst (λ o. In m (members_in o)) (sym found) here) n) (λ n u any. does.EndsRecovery s n))
  case-does line _ _ (Settles s x m found here on free hand) = acts-only _ _ (λ q. refl) (each c _ (settle_on s (decided_in s c) m) _ (settle-fine any_world (Acts c _) (Late _) s (decided_in s c) m (λ no n u any. does.SettlesCommit s m hand n) (λ back n u any. reverting hand back n)) (none c _))
    where
      reverting : {step : Step} {j : Control} → ByHand c s m step → lets_revert (decided_in s c) ≡ true → (n : ℕ) → Does c (Ok step) j (Make (moves.Revert m.c.0 m.a.0 s n))
      reverting (Commits devs source sequence lets) back n = decides-one (decided_in s c) lets back
      reverting (Reverts devs source sequence t target own) back n = does.SettlesRevert s m (Reverts devs source sequence t target own) n
