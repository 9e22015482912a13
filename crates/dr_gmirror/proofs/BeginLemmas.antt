-- A session whose attempt has begun: its members, its last number, and what may begin then.
use Rattle.std.proofs.Common.{ℕ, ◌≡◌, ◌≤◌, ◌+◌, Bool, true, false, cond, ◌==◌, nat_lt, arith, List, [], ◌∷◌, refl, sym, ◌∙◌, ap, subst, Option, None, Some, option_map}
use Rattle.std.specs.Prelude.{unwrap_or, Result, Ok, Err, IfOk, OnOk, OnErr, if◌then◌else◌}
use Rattle.std.proofs.lemmas.Bool.Decides.{nat_tests}
use Rattle.dr_ids.specs.declared.names.Member.{Member}
use Rattle.dr_ids.specs.declared.names.SessionId.{SessionId}
use Rattle.dr_ids.specs.declared.refusal.Refusal.{Refusal}
use Rattle.dr_plant.specs.State.{PlantState}
use Rattle.dr_config.specs.Table.{ConfigTable}
use Rattle.dr_model.specs.Sessions.{Session, session_in, members_in, mirror_in, begin_refusal, changed, begun}
use Rattle.dr_model.specs.Carry.{Entry}
use Rattle.dr_model.specs.Control.{World}
use Rattle.dr_model.specs.Log.{Log}
use Rattle.dr_model.specs.Phases as phases
use Rattle.dr_model.specs.SessionEntries.{last_of, hold_entries}
use Rattle.dr_volume.specs.View.{Rest}
use Rattle.dr_moves.specs.Checks.{is_stop}
use Rattle.dr_moves.specs.Here.{world_seen, armed_in, refusal_of}
use Rattle.dr_moves.specs.Made.{Kept}
use Rattle.dr_moves.specs.Turns.{Leads, Fails}
use Rattle.dr_moves.specs.Beside.{heard}
use Rattle.dr_moves.specs.Heard.{if_counts}
use Rattle.dr_moves.specs.declared.beside.News.{News}
use Rattle.dr_moves.specs.declared.beside.News.TheVariants.{Begun}
use Rattle.dr_gmirror.specs.Orders.{with_sessions, last_in, to_begin, begun_in, MayBegin}
use Rattle.dr_moves.proofs.KeptLemmas.{kept-more}
use Rattle.dr_moves.proofs.TurnLemmas.{ok-along}
use Rattle.dr_gmirror.specs.Ordered.{done_of, at_once, Ordered}

-- the session that was changed
pub session-changed : (s : ℕ) (f : Session → Session) → ((x : Session) → (f x).number ≡ x.number) → (ss : List Session) → session_in (changed s f ss) s ≡ option_map f (session_in ss s)
unfolding changed
session-changed s f same [] = refl
session-changed s f same (x ∷ xs) =
    elim (x.number == s) as (λ b. (x.number == s) ≡ b → session_in (cond b (f x ∷ xs) (x ∷ changed s f xs)) s ≡ option_map f (cond b (Some x) (session_in xs s))) [
      | true ↦ λ is. ap (λ b. cond b (Some (f x)) (session_in xs s)) (ap (λ k. k == s) (same x) ∙ is)
      | false ↦ λ is. ap (λ b. cond b (Some x) (session_in (changed s f xs) s)) is ∙ session-changed s f same xs
    ] refl

begun-number : (x : Session) → (begun x).number ≡ x.number
begun-number x = refl

members-of : (o : Option Session) → members_in (option_map begun o) ≡ members_in o
members-of None = refl
members-of (Some x) = refl

last-of : (o : Option Session) → begin_refusal (mirror_in o) ≡ None → unwrap_or (option_map (λ (x : Session). x.last) (option_map begun o)) 0 ≡ unwrap_or (option_map (λ (x : Session). x.last) o) 0 + 1
last-of None free = absurd cc
last-of (Some x) free = refl

pub members-begun : (b : Bool) (ss : List Session) (s : ℕ) → members_in (session_in (begun_in b ss s) s) ≡ members_in (session_in ss s)
members-begun true ss s = ap members_in (session-changed s begun begun-number ss) ∙ members-of (session_in ss s)
members-begun false ss s = refl

pub last-begun : (ss : List Session) (s : ℕ) → begin_refusal (mirror_in (session_in ss s)) ≡ None → last_in (changed s begun ss) s ≡ last_in ss s + 1
last-begun ss s free = ap (λ o. unwrap_or (option_map (λ (x : Session). x.last) o) 0) (session-changed s begun begun-number ss) ∙ last-of (session_in ss s) free

past-begun : (a b n : ℕ) → b ≡ a + 1 → n ≤ a + 1 → nat_lt b n ≡ false
past-begun a b n is next = grind (arith, nat_tests, is, next)

pub none-begins : (ss : List Session) (s n : ℕ) → MayBegin ss s n → nat_lt (last_in ss s) n ≡ true → nat_lt (last_in (changed s begun ss) s) n ≡ false
none-begins ss s n may low = past-begun (last_in ss s) (last_in (changed s begun ss) s) n (last-begun ss s (may.free low)) may.next

pub may-begun : (b : Bool) (ss : List Session) (s n : ℕ) → MayBegin ss s n → (b ≡ true → nat_lt (last_in ss s) n ≡ true) → MayBegin (begun_in b ss s) s n
may-begun true ss s n may low =
    let is : last_in (changed s begun ss) s ≡ last_in ss s + 1 = last-begun ss s (may.free (low refl)) in
    let next = may.next in
    record {
      free = λ later. absurd (let no : true ≡ false = sym later ∙ none-begins ss s n may (low refl) in cc);
      next = omega (arith, is, next);
    }
may-begun false ss s n may low = may

-- the room that is left
begin-none : (b : Bool) → b ≡ false → ◌≡◌ {A = ℕ} (if b then 1 else 0) 0
begin-none b is = ap {B = ℕ} (λ (c : Bool). if c then 1 else 0) is

begin-one : (b : Bool) → b ≡ true → ◌≡◌ {A = ℕ} (if b then 1 else 0) 1
begin-one b is = ap {B = ℕ} (λ (c : Bool). if c then 1 else 0) is

pub left-begun : (a e : ℕ) (b : Bool) (ss : List Session) (s n : ℕ) → MayBegin ss s n → (b ≡ true → nat_lt (last_in ss s) n ≡ true) → a ≤ e + (if b then 2 else 1) → a + to_begin (begun_in b ss s) s n ≤ e + (1 + 1 + to_begin ss s n)
left-begun a e true ss s n may low h =
    let none : to_begin (changed s begun ss) s n ≡ 0 = begin-none _ (none-begins ss s n may (low refl)) in
    let one : to_begin ss s n ≡ 1 = begin-one _ (low refl) in
    omega (arith, h, none, one)
left-begun a e false ss s n may low h = omega (arith, h)

at-most-one : (b : Bool) → ◌≤◌ (if b then 1 else 0) 1
at-most-one true = omega arith
at-most-one false = omega arith

pub to_begin-one : (ss : List Session) (s n : ℕ) → to_begin ss s n ≤ 1
to_begin-one ss s n = at-most-one (nat_lt (last_in ss s) n)

room-of : (b : Bool) → ◌≡◌ {A = ℕ} (if b then 3 else 2) ((if b then 1 else 0) + 2)
room-of true = refl
room-of false = refl

pub room-first : (ss : List Session) (s n : ℕ) (first : Bool) → first ≡ nat_lt (last_in ss s) n → ◌≡◌ {A = ℕ} (if first then 3 else 2) (to_begin ss s n + 2)
room-first ss s n first is = ap {B = ℕ} (λ (b : Bool). if b then 3 else 2) is ∙ room-of (nat_lt (last_in ss s) n)

-- sessions that have heard of the begin, where there was one
pub begun-heard : {B : Type 0} (k : SessionId) (b : Bool) (x y : B) (after : News → B → B) → y ≡ heard after (if_counts b (Some (Begun k))) x → (of : B → List Session) → ((z : B) → of (after (Begun k) z) ≡ changed k.0 begun (of z)) → of y ≡ begun_in b (of x) k.0
begun-heard k true x y after is of so = ap of is ∙ so x
begun-heard k false x y after is of so = ap of is

-- what no news change
pub same-heard : {A B : Type 0} (x y : B) (o : Option News) (after : News → B → B) → y ≡ heard after o x → (of : B → A) → ((n : News) (z : B) → of (after n z) ≡ of z) → of y ≡ of x
same-heard x y None after is of so = ap of is
same-heard x y (Some n) after is of so = ap of is ∙ so n x

-- the hold of a member, behind which the session's attempt has begun where it did
module _ (s u : PlantState) (t : ConfigTable) (old new : Log) (before after : List Session) (k n : ℕ) (m : Member) (first did : Bool) (may : MayBegin before k n) (is_first : first ≡ nat_lt (last_in before k) n)
    (only : did ≡ true → first ≡ true) (sessions : after ≡ begun_in did before k) where
  abbrev was : Rest → World
  was r = world_seen s t (with_sessions before r) old.events

  abbrev now : Rest → World
  now r = world_seen u t (with_sessions after r) new.events

  abbrev es : List Entry
  es = hold_entries k m.a.0 m.b.0 n

  low : did ≡ true → nat_lt (last_in before k) n ≡ true
  low is = sym is_first ∙ only is

  by : (res : Result Bool Refusal) → OnOk res ((r : Rest) → Leads (was r) es (now r)) → OnErr res ((r : Rest) → Fails (armed_in s) (was r) es (now r) (refusal_of res))
      → IfOk res (λ w. w ≡ false) → Kept s u t old new (if first then 3 else 2) (is_stop (refusal_of res)) (done_of res) → OnOk res (old.spare ≤ new.spare + (if did then 2 else 1)) → Ordered s u t old new before after phases.Hold k n (m ∷ []) res
  by res leads fails waits kept left = record {
    leads = leads;
    fails = fails;
    waits = waits;
    sync = ok-along res left (λ h is. absurd (let no : true ≡ false = sym is in cc));
    may = subst (λ z. MayBegin z k n) (sym sessions) (may-begun did before k n may low);
    members = ap (λ z. members_in (session_in z k)) sessions ∙ members-begun did before k;
    kept = kept-more s u t old new (if first then 3 else 2) (1 + 1 + (to_begin before k n + 1)) (done_of res) (let is = room-first before k n first is_first in omega (arith, is)) kept;
    left = ok-along res left (λ h. subst (λ z. old.spare + to_begin z k n ≤ new.spare + (1 + 1 + to_begin before k n)) (sym sessions) (left-begun old.spare new.spare did before k n may low h));
  }

  pub held-ordered : (res : Result (Unit {0}) Refusal) → OnOk res ((r : Rest) → nat_lt (last_of (was r).control k) n ≡ first → Leads (was r) es (now r))
      → OnErr res ((r : Rest) → nat_lt (last_of (was r).control k) n ≡ first → Fails (armed_in s) (was r) es (now r) (refusal_of res))
      → OnOk res (old.spare ≤ new.spare + (if did then 2 else 1)) → Kept s u t old new (if first then 3 else 2) (is_stop (refusal_of res)) res
      → Ordered s u t old new before after phases.Hold k n (m ∷ []) (at_once res)
  held-ordered (Ok x) leads fails left kept = by (Ok false) (λ r. leads r (sym is_first)) tt refl kept left
  held-ordered (Err e) leads fails left kept = by (Err e) tt (λ r. fails r (sym is_first)) tt kept tt
