-- What each step tells: with its answer it is no more than a step has room for.
use Rattle.std.proofs.Common.{ℕ, zero, suc, ◌≡◌, ◌≢◌, ◌≤◌, ◌<◌, ◌+◌, ◌-◌, List, [], ◌∷◌, ◌++◌, length, refl, ap, sym, ◌∙◌, arith, Bool, true, false, cond, Option, Some, None, Result, Ok, map, ◌*◌}
use Rattle.dr_model.specs.declared.step.Step.{Step}
use Rattle.dr_model.specs.declared.step.Step.TheVariants.{Copy, RemoveFlash, ReverseFlash}
use Rattle.dr_ids.specs.declared.names.Member.{Member}
use Rattle.dr_model.specs.Sessions.{Session, session_in}
use Rattle.std.proofs.lemmas.List.{length-append, length-map}
use Rattle.std.proofs.Math.Nat.{min-le_right}
use Rattle.std.specs.Cmp.{nat_cmp_total}
use Rattle.std.specs.FinSet.{contains, remove, empty, len, len-empty, len-remove, same_set, nat_cmp-IsAntisymmetric}
use Rattle.std.specs.Ordering.{nat_cmp}
use Rattle.dr_ids.specs.declared.refusal.Refusal.{Refusal}
use Rattle.dr_ids.specs.declared.refusal.Refusal.TheVariants.{Stopped as StoppedIn}
use Rattle.dr_model.specs.declared.event.Event.{Event}
use Rattle.dr_model.specs.declared.said.Said.{Said}
use Rattle.dr_model.specs.declared.step.Name.{Name}
use Rattle.dr_model.specs.Layout.{Tracks, Fields}
use Rattle.dr_model.specs.Relations.{rest, turned}
use Rattle.dr_model.specs.Limits.{step_events, most_volumes, most_tracks}
use Rattle.dr_model.specs.Control.{Control, World}
use Rattle.dr_model.specs.Moves.{Withdraw, Fetch, Reverse, Suspend, Lift, told, told_left}
use Rattle.dr_model.specs.Carry.{Act, Entry, Outcome, carry, carry_each, now}
use Rattle.dr_model.specs.Entries.{fields_at, is_running, times, lowest_missing, fetch_next, give_back, share_size}
use Rattle.dr_model.specs.PairEntries.{tracks_to_send, is_copying, differs_at, refuse_if, make_entries, first_differing}
use Rattle.dr_model.specs.WriteEntries.{lift_on, flash_free_on, freeze_on, end_freeze, thaw_on, end_thaw}
use Rattle.dr_model.specs.Plans.{none_follow, counted_refusal, restore_refusal, left_by, Plan, entries_plan, named_pair, is_defined, is_owner, is_plain_target, is_recorded_target, is_lone_restore, may_return, may_give_back, may_copy, at_most, left_to_copy, cascades, cascade_refusal}
use Rattle.dr_model.specs.Forming.{after_part}
use Rattle.dr_model.specs.Runs.{begun, finish, stop_place, after_plan}
use Rattle.dr_model.specs.Laws.{Sound}
use Rattle.dr_laws_sound.specs.Limits.{IsWithin}
use Rattle.dr_laws_sound.proofs.Cases.{ByHand, Commits, Reverts, Case, Says, Writes, Applies, Lists, Starts, MakesFlash, RemovesFlash, ReversesFlash, Copies, Destages, RemovesPair, Compares, Drains, Expires, Freezes, Unfreezes, PausesMirror, Exchanges, Sends, Delivers, Recovers, Settles, Releases, MakesPair}
use Rattle.dr_facts.proofs.Sets.{not_removed, rest_low}
use Rattle.dr_laws_sound.proofs.Costs.{tells, Costs, costs-nil, costs-check, costs-last, carry-adds, fine-costs, from-costs}
use Rattle.dr_laws_sound.proofs.CopyCosts.{rounds}
use Rattle.dr_laws_sound.proofs.PairCosts.{suspend-once, costs-refused, drains-costs, sent-few}
use Rattle.dr_model.specs.MessagePlans.{told_begun}
use Rattle.dr_model.specs.SessionPlans.{is_idle}
use Rattle.dr_laws_sessions.proofs.Members.{members-few}
use Rattle.dr_model.specs.RecoveryPlans.{decided_in}
use Rattle.dr_laws_sound.proofs.EntryLengths.{map-length, fetches-length, destage-length, landing-length, after_write-length, after_drain-length, start-length, order-length, recover-length}
use Rattle.dr_laws_sound.proofs.Does.{Does, Acts, Late, Withdraws, Reverses, GivesUp, Suspends, Lifts}
use Rattle.dr_laws_sound.proofs.DoesPlans.{case-does}
use Rattle.dr_facts.proofs.Entries.{any_world, EachFine, any_reason, fine-one, fine-times, fine-found}
use Rattle.dr_facts.proofs.Reasons.{NoStop}
use Rattle.dr_model.proofs.LawfulLemmas.{removed}
use Rattle.dr_facts.proofs.Tracks.{empty_has}
use Rattle.dr_facts.proofs.Costs.{blanks-few, restored-few, freed-few}
use Rattle.dr_logic.proofs.Truth.{false_true}
use Rattle.dr_model.specs.Contents.{image_at}

-- a set of numbers below n has no more than n
pub len-low : (n : ℕ) (s : Tracks) → ((q : ℕ) → contains s q ≡ true → q < n) → len s ≤ n
len-low zero s low =
    let is : s ≡ empty = same_set nat_cmp_total nat_cmp-IsAntisymmetric s empty (λ q. none q _ refl ∙ sym (empty_has q)) in
    let e : len s ≡ 0 = ap len is ∙ len-empty nat_cmp in omega arith
  where
    none : (q : ℕ) (b : Bool) → contains s q ≡ b → contains s q ≡ false
    none q true is = absurd (let lt = low q is in omega arith)
    none q false is = is
len-low (suc n) s low =
    let le : len (remove s n) ≤ n = len-low n (remove s n) below in
    let e : len (remove s n) ≡ cond (contains s n) (len s - 1) (len s) = len-remove nat_cmp_total s n in
    either (contains s n) e le
  where
    below : (q : ℕ) → contains (remove s n) q ≡ true → q < n
    below q h =
        let lt : q < suc n = low q (removed s n q h) in
        let ne : q ≢ n = (λ e. false_true (ap (contains (remove s n)) e ∙ not_removed s n) h) in omega arith

    either : (b : Bool) → len (remove s n) ≡ cond b (len s - 1) (len s) → len (remove s n) ≤ n → len s ≤ suc n
    either true e le = omega arith
    either false e le = omega arith

-- what follows a stop tells six events at most
abbrev FollowAdds : (ℕ → List Entry) → Type 0
FollowAdds follows = (s : ℕ) (v : World) → length (carry_each v (follows s)).events ≤ length v.events + 6

-- what a plan tells
pub record Spends (w : World) (p : Plan) : Type 0 where
  pub spends : ℕ
  pub costs : Costs spends (begun w p) p.entries
  pub follows : FollowAdds p.follows
  pub few : length p.told + spends + 8 ≤ step_events

finish-adds : (p : Plan) (n : ℕ) (w : World) (r : Option Refusal) → FollowAdds p.follows → length (finish p n w r).events ≤ length w.events + 6
finish-adds p n w None few = omega arith
finish-adds p n w (Some (StoppedIn s)) few = few n w
finish-adds p n w (Some r) few = omega arith

-- nothing follows
none-adds : FollowAdds none_follow
none-adds s v = omega arith

pub after_plan-adds : (w : World) (line : ℕ) (p : Plan) → Spends w p → length (after_plan w line p).events ≤ length w.events + step_events
unfolding after_plan
after_plan-adds w line p s =
    let o : Outcome = carry (begun w p) p.entries in
    let n : ℕ = s.spends in
    let a : length o.0.events ≤ length (w.events ++ p.told) + n + 1 = carry-adds n (begun w p) p.entries s.costs in
    let b : length (w.events ++ p.told) ≡ length w.events + length p.told = length-append w.events p.told in
    let c : length (finish p (stop_place w p) o.0 o.1).events ≤ length o.0.events + 6 = finish-adds p (stop_place w p) o.0 o.1 s.follows in
    let d : length (after_plan w line p).events ≡ length (finish p (stop_place w p) o.0 o.1).events + 1 = length-append (finish p (stop_place w p) o.0 o.1).events _ in
    let few : length p.told + n + 8 ≤ step_events = s.few in omega arith

-- without an answer it leaves room for one
pub after_part-adds : (w : World) (p : Plan) → Spends w p → length (after_part w p).events + 1 ≤ length w.events + step_events
unfolding after_plan
after_part-adds w p s =
    let all : length (after_plan w 0 p).events ≤ length w.events + step_events = after_plan-adds w 0 p s in
    let one : length (after_plan w 0 p).events ≡ length (after_part w p).events + 1 = length-append (after_part w p).events _ in
    omega arith

-- ---- what acts tell, but for those of steps that may tell of each track

abbrev tells_tracks : Result Step ℕ → Bool
tells_tracks (Ok (RemoveFlash devs s t sequence)) = true
tells_tracks (Ok (ReverseFlash devs s t tgtpprc sequence)) = true
tells_tracks (Ok (Copy t most)) = true
tells_tracks asked = false

does-tells : (k : Control) (asked : Result Step ℕ) (w : World) (a : Act) → tells_tracks asked ≡ false → Does k asked w.control a → tells w a ≤ 2
does-tells k _ w _ other (Withdraws s t) = absurd cc
does-tells k _ w _ other (Reverses s t left) = absurd cc
does-tells k _ w _ other (GivesUp q t back) = absurd cc
does-tells k asked w _ other (Suspends v busy) = let le : length (told (Suspend v busy) (w.control.volume v)) ≤ 1 = suspend-once v busy (w.control.volume v) in omega arith
does-tells k _ w _ other (Lifts s v is) = let le : length (told (Lift v) (w.control.volume v)) ≤ 1 = freed-few v (w.control.volume v).fields.flash_hold in omega arith
does-tells k asked w _ other d = omega arith

-- the checks of two names cost nothing
named-costs : (n : ℕ) (w : World) (k : Control) (dev : Option Name) (s t : ℕ) (ds : List Entry) → Costs n w ds → Costs n w (named_pair k dev s t ++ ds)
named-costs n w k dev s t ds c = costs-check n w (is_defined s) _ _ (costs-check n w (is_defined t) _ _ (costs-check n w (is_owner dev s) _ _ (costs-check n w (is_running s) _ _ c)))

-- a target that leaves is one event more
one-more : (left : Option ℕ) (s : ℕ) (es : List Event) (n : ℕ) → length es ≤ n → length (told_left left s ++ es) ≤ n + 1
one-more None s es n le = omega arith
one-more (Some u) s es n le = omega arith

-- how many tracks are copied
copied-few : (k : Control) (t n : ℕ) (most : Option ℕ) → left_to_copy k t ≤ n → at_most most (left_to_copy k t) ≤ n
copied-few k t n None le = le
copied-few k t n (Some m) le = let e = min-le_right m (left_to_copy k t) in omega arith

-- an entry that comes only where that is so
one-first : (b : Bool) (d : Entry) (ds : List Entry) → length (cond b (d ∷ []) [] ++ ds) ≤ length ds + 1
one-first true d ds = omega arith
one-first false d ds = omega arith

module _ (w : World) (x : Sound w) (h : IsWithin w.control) where
  left-few : (t : ℕ) → left_to_copy w.control t ≤ most_tracks
  left-few t =
      let f : Fields = fields_at w.control t in
      let n : ℕ = (w.control.volume t).tracks in
      let small : n ≤ most_tracks = h.tracks t in
      let own : len f.own ≤ n = len-low n f.own (x.rows.structure.lawful t).sets.own_low in
      let missing : len (rest n f.own) ≤ n = len-low n (rest n f.own) (rest_low n f.own) in
      by f.reversing (omega arith) (omega arith)
    where
      by : (b : Bool) {m n : ℕ} → m ≤ most_tracks → n ≤ most_tracks → cond b m n ≤ most_tracks
      by true p q = p
      by false p q = q

  copy-costs : (n t : ℕ) → n ≤ most_tracks → (r : Bool) → (fields_at w.control t).reversing ≡ r
      → Costs 3585 (record w { events = w.events ++ [] }) (times n (cond r (give_back w.control.volumes (fields_at w.control t).source t) (fetch_next t ∷ [])))
  copy-costs n t le false is =
      fine-costs (λ v a. tells v a ≤ 2) any_reason any_reason (λ v a le. le) (times n (fetch_next t ∷ [])) 3585 _
      (fine-times any_world (λ v a. tells v a ≤ 2) any_reason n (fetch_next t ∷ []) (fine-one any_world (λ v a. tells v a ≤ 2) any_reason (fetch_next t) (λ v any. fine-found any_world (λ v a. tells v a ≤ 2) any_reason v (lowest_missing t v.control) (λ q. now (Fetch t q)) (λ q. omega arith))))
      (let e : length (times n (fetch_next t ∷ [])) ≡ n = fetches-length n t in omega arith)
  copy-costs n t le true is =
      let s : ℕ = (fields_at w.control t).source in
      rounds w.control.volumes t s n 3585 (record w { events = w.events ++ [] }) (omega arith) (record { reversing = is; small = h.tracks t; few = x.targets.few s })

  entries-spends : (entries : List Entry) (said : Said) (n : ℕ) → Costs n (record w { events = w.events ++ [] }) entries → n + 8 ≤ step_events → Spends w (entries_plan entries said)
  entries-spends entries said n c few = record { spends = n; costs = c; follows = none-adds; few = omega arith }

  tables-spends : (first last : Control → Control) (told : List Event) (says : Control → Said) → length told ≤ 256 → Spends w (record { first = first; told = told; entries = []; follows = none_follow; last = last; says = says })
  tables-spends first last told says le = record { spends = 0; costs = costs-nil 0 _; follows = none-adds; few = omega arith }

  module _ (line : ℕ) (asked : Result Step ℕ) (p : Plan) (case : Case w.control w.events line asked p) (other : tells_tracks asked ≡ false) where
    two : (v : World) (a : Act) → Acts w.control asked v a → tells v a ≤ 2
    two v a d = does-tells w.control asked v a other d

    each-adds : (ds : List Entry) → EachFine any_world (Acts w.control asked) (Late asked) ds → (v : World) → length (carry_each v ds).events ≤ length v.events + length ds * 3
    each-adds [] fine v = omega arith
    each-adds (d ∷ ds) fine v =
        let u : World = (carry v (d ∷ [])).0 in
        let one : length u.events ≤ length v.events + 2 + 1 = carry-adds 2 v (d ∷ []) (fine-costs (Acts w.control asked) NoStop (Late asked) two (d ∷ []) 2 v fine.0 (omega arith)) in
        let rest : length (carry_each u ds).events ≤ length u.events + length ds * 3 = each-adds ds fine.1 u in omega arith

    followed-adds : ((s : ℕ) → length (p.follows s) ≤ 2) → FollowAdds p.follows
    followed-adds few s v =
        let le : length (p.follows s) ≤ 2 = few s in
        let adds : length (carry_each v (p.follows s)).events ≤ length v.events + length (p.follows s) * 3 = each-adds (p.follows s) ((case-does w line asked p case).follows s) v in omega arith

    -- a plan with few entries
    acts-spends : length p.told ≤ 1 → length p.entries ≤ 256 → ((s : ℕ) → length (p.follows s) ≤ 2) → Spends w p
    acts-spends told few one = record {
      spends = 512;
      costs = from-costs (Acts w.control asked) NoStop (Late asked) two p.entries 512 (begun w p) (case-does w line asked p case).entries (omega arith);
      follows = followed-adds one;
      few = omega arith;
    }

  -- no more members take part than there are volumes
  members-low : (s : ℕ) (y : Session) → session_in w.control.sessions s ≡ Some y → length y.members ≤ 64
  members-low s y found = let few : length y.members ≤ length w.control.volumes = members-few w.control s y x.groups found in let room : length w.control.volumes ≤ most_volumes = h.volumes in omega arith

  -- an entry for each volume, and one at the end
  volumes-length : (each : ℕ → Entry) (last : Entry) → length (map each w.control.volumes ++ last ∷ []) ≤ 256
  volumes-length each last = let e : length (map each w.control.volumes ++ last ∷ []) ≡ length w.control.volumes + 1 = map-length each w.control.volumes (last ∷ []) in let le = h.volumes in omega arith

  by-hand : (s : ℕ) (m : Member) (step : Step) → ByHand w.control s m step → tells_tracks (Ok step) ≡ false
  by-hand s m _ (Commits devs source sequence lets) = refl
  by-hand s m _ (Reverts devs source sequence t target own) = refl

  -- a send tells that an attempt begins, at most
  posted : (b : Bool) (s n : ℕ) → length (told_begun b s n) ≤ 1
  posted true s n = omega arith
  posted false s n = omega arith

  pub case-spends : (line : ℕ) (asked : Result Step ℕ) (p : Plan) → Case w.control w.events line asked p → Spends w p
  case-spends line _ _ (Lists told ls few) = tables-spends _ _ told _ (few x.groups h.sessions h.volumes)
  case-spends line _ _ (Sends s server y r o posts) = let le : length (told_begun (is_idle r.master.phase) s o.number) ≤ 1 = posted (is_idle r.master.phase) s o.number in tables-spends _ _ _ _ (omega arith)
  case-spends line _ _ (Says a waits why) = tables-spends _ _ _ _ (omega arith)
  case-spends line _ _ (PausesMirror s on) = tables-spends _ _ _ _ (omega arith)
  case-spends line _ _ (Compares contents v u) = entries-spends _ _ 0 (costs-check 0 _ (is_defined v) _ _ (costs-check 0 _ (is_defined u) _ _ (costs-check 0 _ (is_running v) _ _ (costs-check 0 _ (is_running u) _ _
      (costs-check 0 _ (share_size v u) _ _ (costs-refused 0 _ (differs_at _) [] (costs-nil 0 _))))))) (omega arith)
  case-spends line asked _ (Writes v t offset len bytes free) = acts-spends line asked _ (Writes v t offset len bytes free) refl (omega arith) (let le = landing-length w.control h.volumes (w.control.issued + 1) v t in omega arith) (after_write-length w.control (w.control.issued + 1) v t)
  case-spends line asked _ (Applies n p found) = acts-spends line asked _ (Applies n p found) refl (omega arith) (let le = landing-length w.control h.volumes p.w p.volume p.track in omega arith) (after_write-length w.control p.w p.volume p.track)
  case-spends line asked _ (Starts s off) = acts-spends line asked _ (Starts s off) refl (omega arith) (start-length s w.control.volumes h.volumes) (λ q. omega arith)
  case-spends line asked _ (MakesFlash dev s t true choices) = acts-spends line asked _ (MakesFlash dev s t true choices) refl (omega arith) (omega arith) (λ q. omega arith)
  case-spends line asked _ (MakesFlash dev s t false choices) = acts-spends line asked _ (MakesFlash dev s t false choices) refl (omega arith) (omega arith) (λ q. omega arith)
  case-spends line _ _ (RemovesFlash dev s t) =
      let u = w.control.volume t in
      let small : u.tracks ≤ most_tracks = h.tracks t in
      let le = blanks-few t u.tracks u.fields.own in
      entries-spends _ _ 256 (named-costs 256 _ w.control dev s t _ (costs-refused 256 _ (counted_refusal t) _ (costs-check 256 _ (is_plain_target s t) _ _ (costs-last 256 _ (Withdraw t) (omega arith))))) (omega arith)
  case-spends line _ _ (ReversesFlash dev s t) =
      let u = w.control.volume t in
      let small : u.tracks ≤ most_tracks = h.tracks t in
      let le = restored-few t u.fields.source u.tracks (turned u.fields).own in
      entries-spends _ _ 258 (named-costs 258 _ w.control dev s t _ (costs-refused 258 _ (restore_refusal t) _ (costs-check 258 _ (is_recorded_target s t) _ _ (costs-check 258 _ (is_lone_restore s t) _ _ (costs-check 258 _ (may_return s) _ _ (costs-last 258 _ (Reverse t (left_by w.control t)) (one-more (left_by w.control t) u.fields.session _ 257 (omega arith)))))))) (omega arith)
  case-spends line _ _ (Copies t most) = entries-spends _ _ 3585
      (costs-check 3585 _ (is_defined t) _ _ (costs-check 3585 _ (is_running t) _ _ (costs-check 3585 _ (may_copy t) _ _ (costs-check 3585 _ (may_give_back t) _ _
      (copy-costs (at_most most (left_to_copy w.control t)) t (copied-few w.control t most_tracks most (left-few t)) _ refl))))) (omega arith)
  case-spends line asked _ (Destages v) = acts-spends line asked _ (Destages v) refl (omega arith) (let le = destage-length (w.control.volume v).staged v in omega arith) (λ q. omega arith)
  case-spends line asked _ (MakesPair devs a b kind choices part) =
      let made : List Entry = make_entries w.control a b kind (cascades kind choices) choices.full (cond choices.full None (first_differing (image_at w.events) (w.control.volume a).tracks a b)) in
      let le : length (cond (cascades kind choices) (refuse_if (cascade_refusal a) ∷ []) [] ++ made) ≤ length made + 1 = one-first (cascades kind choices) (refuse_if (cascade_refusal a)) made in
      acts-spends line asked _ (MakesPair devs a b kind choices part) refl (omega arith) (omega arith) (λ q. omega arith)
  case-spends line asked _ (RemovesPair devs a b true) = acts-spends line asked _ (RemovesPair devs a b true) refl (omega arith) (omega arith) (λ q. omega arith)
  case-spends line asked _ (RemovesPair devs a b false) = acts-spends line asked _ (RemovesPair devs a b false) refl (omega arith) (omega arith) (λ q. omega arith)
  case-spends line _ _ (Drains a most) =
      let f : Fields = fields_at w.control a in
      let n : ℕ = (w.control.volume a).tracks in
      let ts : List ℕ = tracks_to_send most n f.out_of_sync in
      let small : n ≤ most_tracks = h.tracks a in
      let le : length ts ≤ n = sent-few most n f.out_of_sync in
      record {
        spends = 7168;
        costs = costs-check 7168 _ (is_defined a) _ _ (costs-check 7168 _ (is_running a) _ _ (costs-check 7168 _ (is_copying a) _ _ (drains-costs w.control a ts 7168 (omega arith) _ x.targets.few)));
        follows = followed-adds line _ _ (Drains a most) refl (after_drain-length w.control a ts);
        few = omega arith;
      }
  case-spends line asked _ (Expires s on) = acts-spends line asked _ (Expires s on) refl (omega arith) (let e = length-map w.control.volumes (lift_on s) in let le = h.volumes in omega arith) (λ q. omega arith)
  case-spends line asked _ (Releases l) = acts-spends line asked _ (Releases l) refl (omega arith) (let e = length-map w.control.volumes (flash_free_on l) in let le = h.volumes in omega arith) (λ q. omega arith)
  case-spends line asked _ (Freezes l m) = acts-spends line asked _ (Freezes l m) refl (omega arith) (volumes-length (freeze_on l m) (end_freeze l m)) (λ q. omega arith)
  case-spends line asked _ (Unfreezes l m) = acts-spends line asked _ (Unfreezes l m) refl (omega arith) (volumes-length (thaw_on l m) (end_thaw l m)) (λ q. omega arith)
  case-spends line asked _ (Exchanges s server reply y r o allowed) = acts-spends line asked _ (Exchanges s server reply y r o allowed) refl (omega arith) (order-length o.work s o.number server y.members (members-low s y allowed.found)) (λ q. omega arith)
  case-spends line _ _ (Delivers n m starts y r reaches) =
      acts-spends line _ _ (Delivers n m starts y r reaches) refl (omega arith) (order-length m.order.work m.session m.order.number m.server y.members (members-low m.session y reaches.arrives.found)) (λ q. omega arith)
  case-spends line asked _ (Recovers s y found on) = acts-spends line asked _ (Recovers s y found on) refl (omega arith) (recover-length s (decided_in s w.control) y.members (members-low s y found)) (λ q. omega arith)
  case-spends line asked _ (Settles s y m found here on free hand) = acts-spends line asked _ (Settles s y m found here on free hand) (by-hand s m _ hand) (omega arith) (omega arith) (λ q. omega arith)
  case-spends line asked p c = acts-spends line asked p c refl (omega arith) (omega arith) (λ q. omega arith)
