-- The order of each phase, over the members of a server: its entries end by the first refusal that the state gives, or a server stops.
use Rattle.std.proofs.Common.{ℕ, ◌≡◌, ◌≢◌, ◌+◌, ◌≤◌, ◌&&◌, arith, inl, inr, refl, ap, sym, ◌∙◌, subst, Bool, true, false, cond, not, ◌||◌, List, [], ◌∷◌, Option, Some, None, is_some, nat_lt, nat_eq, option_map, unwrap_or}
use Rattle.std.specs.Option.{option_or}
use Rattle.dr_logic.specs.Tables.{at}
use Rattle.dr_logic.proofs.Tables.{at_same}
use Rattle.dr_ids.specs.declared.names.Member.{Member}
use Rattle.dr_ids.specs.declared.refusal.PhaseName.{PhaseName}
use Rattle.dr_ids.specs.declared.refusal.PhaseName.TheVariants as phase
use Rattle.dr_ids.specs.declared.refusal.Refusal.{Refusal}
use Rattle.dr_model.specs.Phases as phases
use Rattle.dr_model.specs.Layout.{Fields}
use Rattle.dr_model.specs.Control.{Control, Fuse, Volume, World}
use Rattle.dr_model.specs.Pairs.{records}
use Rattle.dr_model.specs.Moves.{Move, Hold, Free, Seal, Flash, Commit, Finish, Revert, RaiseFloor, target, moved}
use Rattle.dr_model.specs.Carry.{Make, OpenAttempt, Turn, act, Pass, Do, Outcome, carry, continue, go, turn, equal, opened_by, attempt_begun}
use Rattle.dr_model.specs.Entries.{fields_at, copies_from}
use Rattle.dr_model.specs.PairEntries.{reach_refusal, send_refusal, end_if}
use Rattle.dr_model.specs.Sessions.{Session, session_in, changed, begun}
use Rattle.dr_model.specs.SessionEntries.{order_entries, hold_refusal, stale_refusal, void_refusal, seal_refusal, flash_refusal, commit_refusal, last_of, hold_on, free_on, seal_on, flash_on, commit_on, finish_on, revert_on, is_past, is_flashed, is_committed, may_flash}
use Rattle.dr_model.specs.Groups.{In, IsAt}
use Rattle.dr_laws_sound.proofs.Turns.{server_at, next_of, done, turn-armed}
use Rattle.dr_facts.proofs.Turns.{equal-not}
use Rattle.std.proofs.lemmas.Bool.{eqb-true, and_parts, le-ltb}
use Rattle.std.proofs.lemmas.Bool.Decides.{nat_tests}
use Rattle.dr_laws_sessions.proofs.Changes.{changed-found}
use Rattle.dr_ids.specs.declared.refusal.Refusal.TheVariants.{Stale, Unsealed}
use Rattle.dr_model.specs.PairEntries.{refuse_if}
use Rattle.dr_facts.proofs.Refusals.{met, passed}
use Rattle.dr_model.specs.Entries.{relation_state}
use Rattle.dr_laws_progress.specs.Exchanges.{first_refusal}
use Rattle.dr_laws_progress.proofs.Endings.{reach-same, send-same, hold-same, stale-same, void-same, seal-same, commit-same, flash-same, either-first, asks_targets, IsAs, IsUntouched, Untouched, ApartFrom, AllApart, EndsAs, Orders, Holds, Frees, Seals, Flashes, Commits, Finishes, Reverts, Raises, done-as, Keeps, done-untouched, Acts, next-ends}

-- a choice between an act and nothing
module _ (w : World) (p : PhaseName) (m : Member) (ms : List Member) (apart : ApartFrom w p m ms) (u : World) where
  act-or-none : (b : Bool) (mv : Move) → (b ≡ false → Keeps w p m ms apart u mv) → Acts w p m ms apart u (cond b Pass (Do (Make mv)))
  act-or-none true mv keeps = tt
  act-or-none false mv keeps = keeps refl

  none-or-act : (b : Bool) (mv : Move) → (b ≡ true → Keeps w p m ms apart u mv) → Acts w p m ms apart u (cond b (Do (Make mv)) Pass)
  none-or-act true mv keeps = keeps refl
  none-or-act false mv keeps = tt

module _ (w : World) (p : PhaseName) (n : ℕ) where
  -- a check, by what it says in w
  check-ends : (ss : List Session) (why : Control → Option Refusal) (later : Option Refusal) (rest : World → Outcome) (u : World) → why u.control ≡ why w.control
      → (why w.control ≡ None → EndsAs w p ss later (rest u).0 (rest u).1) → EndsAs w p ss (option_or (why w.control) later) (go u (end_if (why u.control)) rest).0 (go u (end_if (why u.control)) rest).1
  check-ends ss why later rest u is goes =
      subst (λ o. EndsAs w p ss (option_or (why w.control) later) (go u (end_if o) rest).0 (go u (end_if o) rest).1) (sym is) (by (why w.control) goes)
    where
      by : (o : Option Refusal) → (o ≡ None → EndsAs w p ss later (rest u).0 (rest u).1) → EndsAs w p ss (option_or o later) (go u (end_if o) rest).0 (go u (end_if o) rest).1
      by None goes = goes refl
      by (Some r) goes = inr (refl, λ none. absurd cc)

  -- two of them
  checks-end : (ss : List Session) (first second : Control → Option Refusal) (later : Option Refusal) (rest : World → Outcome) (u : World) → first u.control ≡ first w.control → second u.control ≡ second w.control
      → (second w.control ≡ None → EndsAs w p ss later (rest u).0 (rest u).1)
      → EndsAs w p ss (option_or (option_or (first w.control) (second w.control)) later)
      (go u (end_if (first u.control)) (λ v. go v (end_if (second v.control)) rest)).0 (go u (end_if (first u.control)) (λ v. go v (end_if (second v.control)) rest)).1
  checks-end ss first second later rest u a b goes =
      subst (λ o. EndsAs w p ss o (go u (end_if (first u.control)) (λ v. go v (end_if (second v.control)) rest)).0 (go u (end_if (first u.control)) (λ v. go v (end_if (second v.control)) rest)).1)
      (either-first (first w.control) (second w.control) later)
      (check-ends ss first (option_or (second w.control) later) (λ v. go v (end_if (second v.control)) rest) u a (λ free. check-ends ss second later rest u b goes))

  module _ (s : ℕ) where
    -- an order over members, with what this phase's refusals are
    abbrev pub EndsOver : phases.Work → List Session → List Member → Type 0
    EndsOver work ss ms = (u : World) → IsAs w p ss u → Untouched w p ms u → EndsAs w p ss (first_refusal p n ms w.control) (carry u (order_entries work s n ms)).0 (carry u (order_entries work s n ms)).1

  -- what is left where no target is asked for
  plain : (m : Member) (ms : List Member) (apart : ApartFrom w p m ms) (u : World) (mv : Move) → asks_targets p ≡ false → Orders w p mv → IsAt (target mv) m → Keeps w p m ms apart u mv
  plain m ms apart u mv un orders place = (orders, (place, λ asks. let never : true ≡ false = sym asks ∙ un in absurd cc))

-- ---- Releasing, Draining, Lost, Reverting, Finishing

module _ (w : World) (n s : ℕ) (ss : List Session) where
  pub releases-end : (ms : List Member) → AllApart w phase.Releasing ms → EndsOver w phase.Releasing n s phases.Release ss ms
  unfolding carry
  releases-end [] apart u same all = inr (refl, λ none. same)
  releases-end (m ∷ ms) apart u same all = let p : PhaseName = phase.Releasing in let e : Option Refusal = first_refusal p n ms w.control in
      check-ends w p n ss (void_refusal m.a.0 n) e (λ v. carry v (free_on m.a.0 ∷ order_entries phases.Release s n ms)) u (void-same w.control u.control m.a.0 ((all m (inl refl)).fields m.a.0 (inl refl)) n)
      (λ free. next-ends w p m ms apart.0 ss e (λ v. carry v (order_entries phases.Release s n ms)) (releases-end ms apart.1) u (free_on m.a.0 u.control)
      (none-or-act w p m ms apart.0 u (fields_at u.control m.a.0).coordination (Free m.a.0) (λ held. plain w p n m ms apart.0 u (Free m.a.0) refl (Frees m.a.0 refl) (inl refl)))
      same (λ q here. all q (inr here)))

  pub seals-end : (ms : List Member) → AllApart w phase.Draining ms → EndsOver w phase.Draining n s phases.Seal ss ms
  unfolding carry
  seals-end [] apart u same all = inr (refl, λ none. same)
  seals-end (m ∷ ms) apart u same all = let p : PhaseName = phase.Draining in let e : Option Refusal = first_refusal p n ms w.control in let is = (all m (inl refl)).fields m.a.0 (inl refl) in
      checks-end w p n ss (void_refusal m.a.0 n) (seal_refusal m.a.0 m.b.0) e (λ v. carry v (seal_on s m.a.0 m.b.0 n ∷ order_entries phases.Seal s n ms)) u
      (void-same w.control u.control m.a.0 is n) (seal-same w.control u.control m.a.0 is m.b.0 same.places)
      (λ free. next-ends w p m ms apart.0 ss e (λ v. carry v (order_entries phases.Seal s n ms)) (seals-end ms apart.1) u (seal_on s m.a.0 m.b.0 n u.control)
      (none-or-act w p m ms apart.0 u _ (Seal m.b.0 m.a.0 s n) (λ drained. plain w p n m ms apart.0 u (Seal m.b.0 m.a.0 s n) refl (Seals m.b.0 m.a.0 s n refl) (inr (inl refl))))
      same (λ q here. all q (inr here)))

  -- a report has no number
  pub reports-end : (ms : List Member) (u : World) → IsAs w phase.Lost ss u → EndsAs w phase.Lost ss (first_refusal phase.Lost n ms w.control) (carry u (order_entries phases.Report s 0 ms)).0 (carry u (order_entries phases.Report s 0 ms)).1
  unfolding carry
  reports-end [] u same = inr (refl, λ none. same)
  reports-end (m ∷ ms) u same = check-ends w phase.Lost n ss (reach_refusal m.a.0 m.b.0) (first_refusal phase.Lost n ms w.control) (λ v. carry v (order_entries phases.Report s 0 ms)) u (reach-same w.control u.control same.places m.a.0 m.b.0)
      (λ free. reports-end ms u same)

  -- reports leave the world
  pub reports-stay : (ms : List Member) (u : World) → ◌≡◌ {A = Outcome} (carry u (order_entries phases.Report s 0 ms)) (u, first_refusal phase.Lost n ms u.control)
  unfolding carry
  reports-stay [] u = refl
  reports-stay (m ∷ ms) u = by (reach_refusal m.a.0 m.b.0 u.control) (reports-stay ms u)
    where
      by : (o : Option Refusal) → ◌≡◌ {A = Outcome} (carry u (order_entries phases.Report s 0 ms)) (u, first_refusal phase.Lost n ms u.control)
          → ◌≡◌ {A = Outcome} (go u (end_if o) (λ v. carry v (order_entries phases.Report s 0 ms))) (u, option_or o (first_refusal phase.Lost n ms u.control))
      by None rest = rest
      by (Some r) rest = refl

  revert-acts : (m : Member) (ms : List Member) (apart : ApartFrom w phase.Reverting m ms) (u : World) (b d : Bool) → Acts w phase.Reverting m ms apart u (cond b (Do (Make (Revert m.c.0 m.a.0 s n))) (cond d (Do (Make (RaiseFloor m.c.0 n))) Pass))
  revert-acts m ms apart u true d = plain w phase.Reverting n m ms apart u (Revert m.c.0 m.a.0 s n) refl (Reverts m.c.0 m.a.0 s n refl) (inr (inr refl))
  revert-acts m ms apart u false true = plain w phase.Reverting n m ms apart u (RaiseFloor m.c.0 n) refl (Raises m.c.0 n refl) (inr (inr refl))
  revert-acts m ms apart u false false = tt

  pub reverts-end : (ms : List Member) → AllApart w phase.Reverting ms → EndsOver w phase.Reverting n s phases.Revert ss ms
  unfolding carry
  reverts-end [] apart u same all = inr (refl, λ none. same)
  reverts-end (m ∷ ms) apart u same all = let p : PhaseName = phase.Reverting in let e : Option Refusal = first_refusal p n ms w.control in
      check-ends w p n ss (send_refusal m.a.0 m.b.0) e (λ v. carry v (revert_on s m.a.0 m.c.0 n ∷ order_entries phases.Revert s n ms)) u (send-same w.control u.control same.places m.a.0 m.b.0)
      (λ free. next-ends w p m ms apart.0 ss e (λ v. carry v (order_entries phases.Revert s n ms)) (reverts-end ms apart.1) u (revert_on s m.a.0 m.c.0 n u.control)
      (revert-acts m ms apart.0 u (is_flashed n (fields_at u.control m.c.0)) (nat_lt (fields_at u.control m.c.0).floor n)) same (λ q here. all q (inr here)))

  pub finishes-end : (ms : List Member) → AllApart w phase.Finishing ms → EndsOver w phase.Finishing n s phases.Finish ss ms
  unfolding carry
  finishes-end [] apart u same all = inr (refl, λ none. same)
  finishes-end (m ∷ ms) apart u same all = let p : PhaseName = phase.Finishing in
      next-ends w p m ms apart.0 ss (first_refusal p n ms w.control) (λ v. carry v (order_entries phases.Finish s n ms)) (finishes-end ms apart.1) u (finish_on m.a.0 n u.control)
      (act-or-none w p m ms apart.0 u (is_past n (fields_at u.control m.a.0)) (Finish m.a.0 n) (λ past. plain w p n m ms apart.0 u (Finish m.a.0 n) refl (Finishes m.a.0 n refl refl) (inl refl)))
      same (λ q here. all q (inr here))

-- ---- Flashing, Committing

-- a target of b copies from no other volume
one-source : (f : Fields) (b v : ℕ) → copies_from b f ≡ true → v ≢ b → copies_from v f ≡ false
one-source f b v copies ne = by (copies_from v f) refl
  where
    source : (v : ℕ) → copies_from v f ≡ true → f.source ≡ v
    source v h = eqb-true f.source v (and_parts f.related (nat_eq f.source v) h).1

    by : (b : Bool) → copies_from v f ≡ b → b ≡ false
    by false is = refl
    by true is = absurd (ne (sym (source v is) ∙ source b copies))

module _ (w : World) (n s : ℕ) (ss : List Session) where
  -- the target of m is that of its secondary, so no other member's target is its source
  apart-targets : (p : PhaseName) (m : Member) (ms : List Member) (apart : ApartFrom w p m ms) (u : World) → copies_from m.b.0 (fields_at u.control m.c.0) ≡ true → (q : Member) → In q ms → copies_from q.c.0 (fields_at u.control m.c.0) ≡ false
  apart-targets p m ms apart u copies q here = one-source (fields_at u.control m.c.0) m.b.0 q.c.0 copies (λ e. apart q here q.c.0 (inr (inl e)) (inr (inr refl)))

  -- one that may be flashed is a target of its member's secondary
  may-copy : (b c : ℕ) (k : Control) → flash_refusal b c n k ≡ None → is_flashed n (fields_at k c) ≡ false → copies_from b (fields_at k c) ≡ true
  may-copy b c k none not-yet =
      let f : Fields = fields_at k c in
      let rest : Option Refusal = cond (not (nat_lt f.floor n)) (Some (Stale n f.floor)) (cond (not (nat_eq (fields_at k b).seal n)) (Some (Unsealed (record { 0 = b }) (fields_at k b).seal)) None) in
      (and_parts (copies_from b f) _ (passed (may_flash b f) (relation_state k c) rest (sym (ap (λ done. cond done None (cond (not (may_flash b f)) (Some (relation_state k c)) rest)) not-yet) ∙ none)).0).0

  pub flashes-end : (ms : List Member) → AllApart w phase.Flashing ms → EndsOver w phase.Flashing n s phases.Flash ss ms
  unfolding carry
  flashes-end [] apart u same all = inr (refl, λ none. same)
  flashes-end (m ∷ ms) apart u same all = let p : PhaseName = phase.Flashing in let e : Option Refusal = first_refusal p n ms w.control in let one : IsUntouched w p u m = all m (inl refl) in
      let is : (flash_refusal m.b.0 m.c.0 n u.control ≡ flash_refusal m.b.0 m.c.0 n w.control) = flash-same w.control u.control m.c.0 (one.fields m.c.0 (inr (inr refl))) m.b.0 n (one.fields m.b.0 (inr (inl refl))) (one.seen refl) in
      checks-end w p n ss (send_refusal m.a.0 m.b.0) (flash_refusal m.b.0 m.c.0 n) e (λ v. carry v (flash_on s m.a.0 m.b.0 m.c.0 n ∷ order_entries phases.Flash s n ms)) u
      (send-same w.control u.control same.places m.a.0 m.b.0) is
      (λ free. next-ends w p m ms apart.0 ss e (λ v. carry v (order_entries phases.Flash s n ms)) (flashes-end ms apart.1) u (flash_on s m.a.0 m.b.0 m.c.0 n u.control)
      (act-or-none w p m ms apart.0 u (is_flashed n (fields_at u.control m.c.0)) (Flash m.c.0 m.b.0 m.a.0 s n)
      (λ not-yet. (Flashes m.c.0 m.b.0 m.a.0 s n, (inr (inr refl), λ asks. apart-targets p m ms apart.0 u (may-copy m.b.0 m.c.0 u.control (is ∙ free) not-yet)))))
      same (λ q here. all q (inr here)))

  -- one that isn't committed, and may be, is revertible
  may-turn : (c : ℕ) (k : Control) → commit_refusal c n k ≡ None → is_committed n (fields_at k c) ≡ false → (fields_at k c).revertible ≡ true
  may-turn c k none not-yet = (and_parts (fields_at k c).revertible (nat_eq (fields_at k c).sequence n) (met (is_flashed n (fields_at k c)) (relation_state k c) (sym (ap (λ b. cond (b || is_flashed n (fields_at k c)) None (Some (relation_state k c))) not-yet) ∙ none))).0

  -- a revertible target is that of its member's secondary
  abbrev pub Turnable : List Member → Type 0
  Turnable ms = (m : Member) → In m ms → (fields_at w.control m.c.0).revertible ≡ true → copies_from m.b.0 (fields_at w.control m.c.0) ≡ true

  pub commits-end : (ms : List Member) → AllApart w phase.Committing ms → Turnable ms → EndsOver w phase.Committing n s phases.Commit ss ms
  unfolding carry
  commits-end [] apart turnable u same all = inr (refl, λ none. same)
  commits-end (m ∷ ms) apart turnable u same all = let p : PhaseName = phase.Committing in let e : Option Refusal = first_refusal p n ms w.control in let one : IsUntouched w p u m = all m (inl refl) in
      let target : (fields_at u.control m.c.0 ≡ fields_at w.control m.c.0) = one.fields m.c.0 (inr (inr refl)) in
      let is : (commit_refusal m.c.0 n u.control ≡ commit_refusal m.c.0 n w.control) = commit-same w.control u.control m.c.0 target n (one.seen refl) in
      checks-end w p n ss (send_refusal m.a.0 m.b.0) (commit_refusal m.c.0 n) e (λ v. carry v (commit_on s m.a.0 m.c.0 n ∷ order_entries phases.Commit s n ms)) u
      (send-same w.control u.control same.places m.a.0 m.b.0) is
      (λ free. next-ends w p m ms apart.0 ss e (λ v. carry v (order_entries phases.Commit s n ms)) (commits-end ms apart.1 (λ q here. turnable q (inr here))) u (commit_on s m.a.0 m.c.0 n u.control)
      (act-or-none w p m ms apart.0 u (is_committed n (fields_at u.control m.c.0)) (Commit m.c.0 m.a.0 s n)
      (λ not-yet. (
        Commits m.c.0 m.a.0 s n,
        (
          inr (inr refl),
          λ asks. apart-targets p m ms apart.0 u
              (ap (copies_from m.b.0) target ∙ turnable m (inl refl) (sym (ap (λ (f : Fields). f.revertible) target) ∙ may-turn m.c.0 u.control (is ∙ free) not-yet)),
        ),
      )))
      same (λ q here. all q (inr here)))

-- ---- Coordinating, and the first orders of the next attempt

-- a hold is no first one, if the session's last attempt is the one for which it holds
later-hold : (a s n : ℕ) (k : Control) → last_of k s ≡ n → hold_on s a n k ≡ cond (records n (fields_at k a)) Pass (Do (Make (Hold a s n false)))
later-hold a s n k last = ap (λ b. cond (records n (fields_at k a)) Pass (Do (cond b (OpenAttempt a s n) (Make (Hold a s n false))))) (ap (λ j. nat_lt j n) last ∙ le-ltb n n (omega arith))

last-in : (ss : List Session) (s : ℕ) (x : Session) → session_in ss s ≡ Some x → unwrap_or (option_map (λ (x : Session). x.last) (session_in ss s)) 0 ≡ x.last
last-in ss s x found = ap (λ o. unwrap_or (option_map (λ (x : Session). x.last) o) 0) found

module _ (w : World) (n s : ℕ) (ss : List Session) where
  last-same : (x : Session) (last : ℕ) → session_in ss s ≡ Some x → x.last ≡ last → (k : Control) → k.sessions ≡ ss → last_of k s ≡ last
  last-same x last found is k same = ap (λ ss. unwrap_or (option_map (λ (x : Session). x.last) (session_in ss s)) 0) same ∙ last-in ss s x found ∙ is

  pub holds-end : (x : Session) → session_in ss s ≡ Some x → x.last ≡ n → (ms : List Member) → AllApart w phase.Coordinating ms → EndsOver w phase.Coordinating n s phases.Hold ss ms
  unfolding carry
  holds-end x found last [] apart u same all = inr (refl, λ none. same)
  holds-end x found last (m ∷ ms) apart u same all = let p : PhaseName = phase.Coordinating in let e : Option Refusal = first_refusal p n ms w.control in
      let is : (fields_at u.control m.a.0 ≡ fields_at w.control m.a.0) = (all m (inl refl)).fields m.a.0 (inl refl) in
      checks-end w p n ss (hold_refusal m.a.0 m.b.0) (stale_refusal m.a.0 n) e (λ v. carry v (hold_on s m.a.0 n ∷ order_entries phases.Hold s n ms)) u
      (hold-same w.control u.control m.a.0 is m.b.0) (stale-same w.control u.control m.a.0 is n)
      (λ free. next-ends w p m ms apart.0 ss e (λ v. carry v (order_entries phases.Hold s n ms)) (holds-end x found last ms apart.1) u (hold_on s m.a.0 n u.control)
      (subst (Acts w p m ms apart.0 u) (sym (later-hold m.a.0 s n u.control (last-same x n found last u.control same.sessions)))
      (act-or-none w p m ms apart.0 u (records n (fields_at u.control m.a.0)) (Hold m.a.0 s n false) (λ new. plain w p n m ms apart.0 u (Hold m.a.0 s n false) refl (Holds m.a.0 s n false refl) (inl refl))))
      same (λ q here. all q (inr here)))

  -- no member's primary has seen the attempt
  abbrev pub Unseen : List Member → Type 0
  Unseen ms = (m : Member) → In m ms → (fields_at w.control m.a.0).attempt ≤ n

-- such a primary doesn't refuse its hold, nor does it record
unseen-holds : (f : Fields) (n : ℕ) → f.attempt ≤ n → (records (n + 1) f ≡ false) × (nat_lt f.attempt (n + 1) ≡ true)
unseen-holds f n below = (by f.recording, grind (arith, nat_tests, below))
  where
    other : nat_eq f.attempt (n + 1) ≡ false
    other = grind (arith, nat_tests, below)

    by : (b : Bool) → (b && nat_eq f.attempt (n + 1)) ≡ false
    by true = other
    by false = refl

unseen-passes : (a n : ℕ) (k : Control) → (fields_at k a).attempt ≤ n → stale_refusal a (n + 1) k ≡ None
unseen-passes a n k below = let h = unseen-holds (fields_at k a) n below in λ i. cond (h.0 i) None (cond (h.1 i) None (Some (Stale (n + 1) (fields_at k a).attempt)))

-- A move that begins an attempt, on a server that is on: it has begun, or the server stops.
open-armed : (u : World) (v s n : ℕ) (P : Turn → Type 0) → u.control.on (server_at u v) ≡ true
    → ((f : Option Fuse) → is_some f ≡ is_some (u.control.fuse (server_at u v)) → P (attempt_begun (done u (Hold v s n true) f) s, None))
    → (is_some (u.control.fuse (server_at u v)) ≡ true → (x : World) → P (x, Some (server_at u v)))
    → P (opened_by u v s (turn u (Hold v s n true)))
open-armed u v s n P on a b =
    let m : Move = Hold v s n true in
    let slot : Bool = (u.control.volume v).slot in
    let new : ((at u.control.volume v (moved (u.control.volume v) (next_of u m) None) v).slot ≡ not slot) = ap (λ (x : Volume). x.slot) (at_same u.control.volume v (moved (u.control.volume v) (next_of u m) None)) in
    let opens : (equal slot (at u.control.volume v (moved (u.control.volume v) (next_of u m) None) v).slot ≡ false) = ap (equal slot) new ∙ equal-not slot in
    turn-armed u m (λ t. P (opened_by u v s t))
    (λ off. let never : true ≡ false = sym on ∙ off in absurd cc)
    (λ f is. subst (λ e. P (cond e (done u m f) (attempt_begun (done u m f) s), None)) (sym opens) (a f is))
    (λ armed f. b armed _)
    (λ armed f. b armed _)

module _ (w : World) (n s : ℕ) (ss : List Session) where
  abbrev p : PhaseName
  p = phase.Idle

  abbrev next : List Session
  next = changed s begun ss

  abbrev Ends : List Session → List Member → World → Type 0
  Ends end ms u = EndsAs w p end (first_refusal p n ms w.control) (carry u (order_entries phases.Hold s (n + 1) ms)).0 (carry u (order_entries phases.Hold s (n + 1) ms)).1

  -- the check of an attempt that no primary has seen passes
  past-stale : (end : List Session) (m : Member) (e : Option Refusal) (rest : World → Outcome) (u : World) → (fields_at u.control m.a.0).attempt ≤ n → EndsAs w p end e (rest u).0 (rest u).1
      → EndsAs w p end e (go u (end_if (stale_refusal m.a.0 (n + 1) u.control)) rest).0 (go u (end_if (stale_refusal m.a.0 (n + 1) u.control)) rest).1
  past-stale end m e rest u below goes = subst (λ o. EndsAs w p end e (go u (end_if o) rest).0 (go u (end_if o) rest).1) (sym (unseen-passes m.a.0 n u.control below)) goes

  -- those after the first
  later-end : (x : Session) → session_in next s ≡ Some x → x.last ≡ n + 1 → (ms : List Member) → AllApart w p ms → Unseen w n s ss ms → (u : World) → IsAs w p next u → Untouched w p ms u → Ends next ms u
  unfolding carry
  later-end x found last [] apart unseen u same all = inr (refl, λ none. same)
  later-end x found last (m ∷ ms) apart unseen u same all = let e : Option Refusal = first_refusal p n ms w.control in
      let is : (fields_at u.control m.a.0 ≡ fields_at w.control m.a.0) = (all m (inl refl)).fields m.a.0 (inl refl) in
      check-ends w p n next (hold_refusal m.a.0 m.b.0) e (λ v. carry v (refuse_if (stale_refusal m.a.0 (n + 1)) ∷ hold_on s m.a.0 (n + 1) ∷ order_entries phases.Hold s (n + 1) ms)) u
      (hold-same w.control u.control m.a.0 is m.b.0)
      (λ free. past-stale next m e (λ v. carry v (hold_on s m.a.0 (n + 1) ∷ order_entries phases.Hold s (n + 1) ms)) u (subst (λ (f : Fields). f.attempt ≤ n) (sym is) (unseen m (inl refl)))
      (next-ends w p m ms apart.0 next e (λ v. carry v (order_entries phases.Hold s (n + 1) ms)) (later-end x found last ms apart.1 (λ q here. unseen q (inr here))) u (hold_on s m.a.0 (n + 1) u.control)
      (subst (Acts w p m ms apart.0 u) (sym (later-hold m.a.0 s (n + 1) u.control (last-same w n s next x (n + 1) found last u.control same.sessions)))
      (act-or-none w p m ms apart.0 u (records (n + 1) (fields_at u.control m.a.0)) (Hold m.a.0 s (n + 1) false) (λ new. plain w p n m ms apart.0 u (Hold m.a.0 s (n + 1) false) refl (Holds m.a.0 s (n + 1) false refl) (inl refl))))
      same (λ q here. all q (inr here))))

  -- the first one begins the attempt
  first-hold : (x : Session) → session_in ss s ≡ Some x → x.last ≡ n → (a : ℕ) (k : Control) → k.sessions ≡ ss → (fields_at k a).attempt ≤ n → hold_on s a (n + 1) k ≡ Do (OpenAttempt a s (n + 1))
  first-hold x found last a k same below =
      ap (λ b. cond b Pass (Do (cond (nat_lt (last_of k s) (n + 1)) (OpenAttempt a s (n + 1)) (Make (Hold a s (n + 1) false))))) (unseen-holds (fields_at k a) n below).0
      ∙ ap (λ b. Do (cond b (OpenAttempt a s (n + 1)) (Make (Hold a s (n + 1) false)))) (ap (λ j. nat_lt j (n + 1)) (last-same w n s ss x n found last k same) ∙ less)
    where
      less : nat_lt n (n + 1) ≡ true
      less = grind (arith, nat_tests)

  open-ends : (m : Member) (ms : List Member) (apart : ApartFrom w p m ms) (e : Option Refusal) (rest : World → Outcome) → ((v : World) → IsAs w p next v → Untouched w p ms v → EndsAs w p next e (rest v).0 (rest v).1)
      → (u : World) → u.control.on (server_at u m.a.0) ≡ true → IsAs w p ss u → Untouched w p ms u → EndsAs w p next e (go u (Do (OpenAttempt m.a.0 s (n + 1))) rest).0 (go u (Do (OpenAttempt m.a.0 s (n + 1))) rest).1
  unfolding act
  open-ends m ms apart e rest goes u on same all = let mv : Move = Hold m.a.0 s (n + 1) true in
      open-armed u m.a.0 s (n + 1) (λ t. EndsAs w p next e (continue t.0 t.1 rest).0 (continue t.0 t.1 rest).1) on
      (λ f is. let d : IsAs w p ss (done u mv f) = done-as w p ss u mv f (Holds m.a.0 s (n + 1) true refl) same is in let t : Untouched w p ms (done u mv f) = done-untouched w p m ms apart u mv f (plain w p n m ms apart u mv refl (Holds m.a.0 s (n + 1) true refl) (inl refl)) all in
      goes (attempt_begun (done u mv f) s)
      (record { places = record { names = d.places.names; on = d.places.on; link = d.places.link; paths = d.places.paths; homes = d.places.homes; secondaries = d.places.secondaries; seen = d.places.seen }; sessions = ap (changed s begun) d.sessions; armed = d.armed; unsent = d.unsent })
      (λ q here. record { fields = (t q here).fields; seen = (t q here).seen }))
      (λ armed x. inl (record { server = server_at u m.a.0; armed = sym (same.armed (server_at u m.a.0)) ∙ armed; is = refl }))

  pub begins-end : (x : Session) → session_in ss s ≡ Some x → x.last ≡ n → (m : Member) (ms : List Member) → w.control.on (server_at w m.a.0) ≡ true → AllApart w p (m ∷ ms) → Unseen w n s ss (m ∷ ms)
      → (u : World) → IsAs w p ss u → Untouched w p (m ∷ ms) u → Ends next (m ∷ ms) u
  unfolding carry
  begins-end x found last m ms on apart unseen u same all = let e : Option Refusal = first_refusal p n ms w.control in
      let is : (fields_at u.control m.a.0 ≡ fields_at w.control m.a.0) = (all m (inl refl)).fields m.a.0 (inl refl) in
      let below = subst (λ (f : Fields). f.attempt ≤ n) (sym is) (unseen m (inl refl)) in
      let more : World → Outcome = λ v. carry v (order_entries phases.Hold s (n + 1) ms) in
      check-ends w p n next (hold_refusal m.a.0 m.b.0) e (λ v. carry v (refuse_if (stale_refusal m.a.0 (n + 1)) ∷ hold_on s m.a.0 (n + 1) ∷ order_entries phases.Hold s (n + 1) ms)) u
      (hold-same w.control u.control m.a.0 is m.b.0)
      (λ free. past-stale next m e (λ v. carry v (hold_on s m.a.0 (n + 1) ∷ order_entries phases.Hold s (n + 1) ms)) u below
      (subst (λ x. EndsAs w p next e (go u x more).0 (go u x more).1) (sym (first-hold x found last m.a.0 u.control same.sessions below))
      (open-ends m ms apart.0 e more
      (later-end (begun x) (changed-found s begun ss x (λ x. refl) found) (ap (λ j. j + 1) last) ms apart.1 (λ q here. unseen q (inr here)))
      u ((λ i. same.places.on i (same.places.homes m.a.0 i)) ∙ on) same (λ q here. all q (inr here)))))
