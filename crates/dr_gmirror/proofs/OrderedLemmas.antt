-- An order on members, one after the other.
use Rattle.std.proofs.Common.{ℕ, suc, ◌≡◌, ◌≤◌, ◌+◌, Bool, true, false, ◌&&◌, ◌||◌, arith, List, [], ◌∷◌, ◌++◌, length, take, drop, slice_get, refl, sym, ◌∙◌, ap, subst, Some}
use Rattle.std.specs.Prelude.{Result, Ok, Err, IfOk, OnOk, OnErr}
use Rattle.std.proofs.lemmas.List.{append_assoc, length-append, length-take}
use Rattle.std.proofs.lemmas.List.Elements.{filter-append}
use Rattle.std.proofs.lemmas.Grind.{flat_map-append}
use Rattle.std.proofs.Math.Bool.{and-false}
use Rattle.dr_ids.specs.declared.names.Member.{Member}
use Rattle.dr_ids.specs.declared.refusal.Refusal.{Refusal}
use Rattle.dr_laws_sound.proofs.EntryLengths.{few-on}
use Rattle.dr_plant.specs.State.{PlantState}
use Rattle.dr_config.specs.Table.{ConfigTable}
use Rattle.dr_model.specs.Carry.{Entry}
use Rattle.dr_model.specs.Log.{Log}
use Rattle.dr_model.specs.Phases.{Work}
use Rattle.dr_model.specs.Sessions.{Session}
use Rattle.dr_model.specs.SessionEntries.{member_entries, is_on, members_on, order_entries}
use Rattle.dr_volume.specs.View.{Rest}
use Rattle.dr_moves.specs.Checks.{is_stop}
use Rattle.dr_moves.specs.Here.{world_seen, armed_in, refusal_of}
use Rattle.dr_moves.specs.Made.{IsAt, Kept}
use Rattle.dr_moves.specs.Turns.{Leads, Fails}
use Rattle.dr_moves.proofs.ActedLemmas.{nothing-kept}
use Rattle.dr_moves.proofs.KeptLemmas.{kept-more, kept-then, wider-armed}
use Rattle.dr_moves.proofs.LeadLemmas.{then-leads, then-fails, fails-first, fails-wider}
use Rattle.dr_moves.proofs.TurnLemmas.{ok-along, err-along}
use Rattle.dr_gmirror.specs.Orders.{with_sessions, to_begin, MayOrder, is_seal, sync_seen, must_wait, waits_in}
use Rattle.dr_gmirror.specs.Ordered.{done_of, at_once, Ordered}
use Rattle.dr_gmirror.proofs.OrderLemmas.{waits-kept, waits-more, member-split}

-- the members on a server: no more than all, and than all up to a place
pub few-so-far : (x : ℕ) (ms : List Member) (i : ℕ) → length (members_on x (take i ms)) ≤ i
few-so-far x ms i = let few = few-on x (take i ms) in let some = length-take i ms in omega (arith, few, some)

pub members-split : (x : ℕ) (ms : List Member) (i : ℕ) (m : Member) → Some m ≡ slice_get ms i → members_on x ms ≡ (members_on x (take i ms) ++ members_on x (m ∷ [])) ++ members_on x (drop (suc i) ms)
members-split x ms i m at =
    ap (members_on x) (member-split ms i m at) ∙ filter-append (is_on x) (take i ms) (m ∷ [] ++ drop (suc i) ms)
    ∙ ap (λ ys. members_on x (take i ms) ++ ys) (filter-append (is_on x) (m ∷ []) (drop (suc i) ms))
    ∙ sym (append_assoc (members_on x (take i ms)) (members_on x (m ∷ [])) (members_on x (drop (suc i) ms)))

-- on none
pub ordered-none : (s : PlantState) (c : ConfigTable) (old : Log) (ss : List Session) (work : Work) (k n : ℕ) → IsAt s c → MayOrder work ss k n → Ordered s s c old old ss ss work k n [] (Ok false)
ordered-none s c old ss work k n at may = record {
  leads = λ r armed u e ds more. more;
  fails = tt;
  waits = sym (and-false (is_seal work));
  sync = λ is q. refl;
  may = may;
  members = refl;
  kept = nothing-kept s c old (Ok tt) at refl (0 + 0 + (to_begin ss k n + 1)) refl;
  left = omega arith;
}

-- the same order, and the same answer
pub ordered-as : (s u : PlantState) (c : ConfigTable) (old new : Log) (before after : List Session) (work actual : Work) (k n : ℕ) (ms : List Member) (res r : Result Bool Refusal) → actual ≡ work → r ≡ res
    → Ordered s u c old new before after work k n ms res → Ordered s u c old new before after actual k n ms r
ordered-as s u c old new before after work actual k n ms res r is says ordered =
    subst (λ (x : Result Bool Refusal). Ordered s u c old new before after actual k n ms x) (sym says) (subst (λ w. Ordered s u c old new before after w k n ms res) (sym is) ordered)

-- on a member, by a call that leaves the sessions
module _ (s u : PlantState) (c : ConfigTable) (old new : Log) (ss : List Session) (work : Work) (k n : ℕ) (m : Member) (may : MayOrder work ss k n) where
  abbrev es : List Entry
  es = order_entries work k n (m ∷ [])

  pub ordered-by : (few some : ℕ) (res : Result Bool Refusal) → few ≤ 3 → some ≤ 2 → OnOk res ((r : Rest) → Leads (world_seen s c r old.events) es (world_seen u c r new.events)) → OnErr res ((r : Rest) → Fails (armed_in s) (world_seen s c r old.events) es (world_seen u c r new.events) (refusal_of res))
      → IfOk res (λ waits. waits ≡ waits_in work (sync_seen u c) (m ∷ [])) → OnOk res (is_seal work ≡ true → (q : ℕ) → sync_seen u c q ≡ sync_seen s c q) → Kept s u c old new few (is_stop (refusal_of res)) (done_of res)
      → OnOk res (old.spare ≤ new.spare + some) → Ordered s u c old new ss ss work k n (m ∷ []) res
  ordered-by few some res three two leads fails waits sync kept left = record {
    leads = ok-along res leads (λ l r. l (with_sessions ss r));
    fails = err-along res fails fails (λ f _ r. f (with_sessions ss r));
    waits = waits;
    sync = sync;
    may = may;
    members = refl;
    kept = kept-more s u c old new few (1 + 1 + (to_begin ss k n + 1)) (done_of res) (omega (arith, three)) kept;
    left = ok-along res left (λ h. omega (arith, h, two));
  }

  -- one that has to wait for nothing
  pub ordered-apart : (few some : ℕ) (actual : Work) (res : Result (Unit {0}) Refusal) (r : Result Bool Refusal) → few ≤ 3 → some ≤ 2 → actual ≡ work → r ≡ at_once res → is_seal work ≡ false
      → OnOk res ((r : Rest) → Leads (world_seen s c r old.events) es (world_seen u c r new.events)) → OnErr res ((r : Rest) → Fails (armed_in s) (world_seen s c r old.events) es (world_seen u c r new.events) (refusal_of res))
      → Kept s u c old new few (is_stop (refusal_of res)) res → OnOk res (old.spare ≤ new.spare + some) → Ordered s u c old new ss ss actual k n (m ∷ []) r
  ordered-apart few some actual (Ok x) r three two is says free leads fails kept left =
      ordered-as s u c old new ss ss work actual k n (m ∷ []) (Ok false) r is says
      (ordered-by few some (Ok false) three two leads tt (sym (ap (λ b. b && (must_wait (sync_seen u c) m || false)) free)) (λ is. absurd (let no : true ≡ false = sym is ∙ free in cc)) kept left)
  ordered-apart few some actual (Err e) r three two is says free leads fails kept left = ordered-as s u c old new ss ss work actual k n (m ∷ []) (Err e) r is says (ordered-by few some (Err e) three two tt fails tt tt kept tt)

-- and on those behind them
module _ (s m u : PlantState) (c : ConfigTable) (old mid new : Log) (before amid after : List Session) (work : Work) (k n : ℕ) (xs ys : List Member) (a : Bool) (first : Ordered s m c old mid before amid work k n xs (Ok a)) where
  entries-then : order_entries work k n (xs ++ ys) ≡ order_entries work k n xs ++ order_entries work k n ys
  entries-then = flat_map-append (member_entries work k n) xs ys

  room-then : (b : ℕ) → mid.spare ≤ new.spare + (length ys + length ys + (to_begin amid k n + b)) → old.spare ≤ new.spare + (length (xs ++ ys) + length (xs ++ ys) + (to_begin before k n + b))
  room-then b h = let left = first.left in let l = length-append xs ys in omega (arith, left, h, l)

  pub ordered-then : (b : Bool) → Ordered m u c mid new amid after work k n ys (Ok b) → Ordered s u c old new before after work k n (xs ++ ys) (Ok (a || b))
  ordered-then b second = record {
    leads = λ r. subst (λ es. Leads (world_seen s c (with_sessions before r) old.events) es (world_seen u c (with_sessions after r) new.events)) (sym entries-then)
        (then-leads (world_seen s c (with_sessions before r) old.events) (world_seen m c (with_sessions amid r) mid.events) (world_seen u c (with_sessions after r) new.events) (order_entries work k n xs) (order_entries work k n ys) (first.leads r) (second.leads r));
    fails = tt;
    waits =
        (λ i. (first.waits i) || (second.waits i))
        ∙ ap (λ w. w || waits_in work (sync_seen u c) ys) (sym (waits-kept work (sync_seen m c) (sync_seen u c) xs second.sync))
        ∙ sym (waits-more work (sync_seen u c) xs ys);
    sync = λ is q. second.sync is q ∙ first.sync is q;
    may = second.may;
    members = second.members ∙ first.members;
    kept = kept-then s m u c old mid new _ _ _ (Ok tt) first.kept second.kept (room-then 1 second.kept.room);
    left = let x = first.left in let y = second.left in let l = length-append xs ys in omega (arith, x, y, l);
  }

  pub ordered-fails : (zs : List Member) (e : Refusal) → Ordered m u c mid new amid after work k n ys (Err e) → Ordered s u c old new before after work k n ((xs ++ ys) ++ zs) (Err e)
  ordered-fails zs e second = record {
    leads = tt;
    fails = λ r.
        let w = world_seen s c (with_sessions before r) old.events in
        let x = world_seen u c (with_sessions after r) new.events in
        subst (λ es. Fails (armed_in s) w es x (refusal_of {T = Bool} (Err e))) (sym (flat_map-append (member_entries work k n) (xs ++ ys) zs ∙ ap (λ es. es ++ order_entries work k n zs) entries-then))
        (fails-first (armed_in s) w x (refusal_of {T = Bool} (Err e)) (order_entries work k n xs ++ order_entries work k n ys) (order_entries work k n zs)
        (then-fails (armed_in s) w (world_seen m c (with_sessions amid r) mid.events) x (refusal_of {T = Bool} (Err e)) (order_entries work k n xs) (order_entries work k n ys) (first.leads r)
        (fails-wider (armed_in m) (armed_in s) (wider-armed s m first.kept.unarmed) (world_seen m c (with_sessions amid r) mid.events) x (refusal_of {T = Bool} (Err e)) (order_entries work k n ys) (second.fails r))));
    waits = tt;
    sync = tt;
    may = second.may;
    members = second.members ∙ first.members;
    kept = kept-then s m u c old mid new _ _ _ (Err e) first.kept second.kept (let h = room-then 1 second.kept.room in let l = length-append (xs ++ ys) zs in omega (arith, h, l));
    left = tt;
  }
