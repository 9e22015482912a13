-- An order of an older attempt: each of its checks finds another number, or nothing is left to do but to raise an attempt or a floor.
use Rattle.std.proofs.Common.{ℕ, ◌≡◌, ◌≤◌, ◌<◌, inl, refl, ap, sym, ◌∙◌, subst, arith, Bool, true, false, cond, nat_eq, nat_lt, List, [], ◌∷◌, Option, Some, None}
use Rattle.std.proofs.lemmas.Bool.{and_parts, or_parts, eqb-true, ltb-true, ltb-false, false_from_ne_true, true_from_ne_false}
use Rattle.dr_ids.specs.declared.names.Member.{Member}
use Rattle.dr_ids.specs.declared.refusal.PhaseName.TheVariants as phase
use Rattle.dr_ids.specs.declared.refusal.Refusal.{Refusal}
use Rattle.dr_ids.specs.declared.refusal.Refusal.TheVariants.{OutOfOrder, Void}
use Rattle.dr_model.specs.Layout.{Fields}
use Rattle.dr_model.specs.Control.{Control, World}
use Rattle.dr_model.specs.Phases as phases
use Rattle.dr_model.specs.Sessions.{Session, Mirror}
use Rattle.dr_model.specs.Messages.{Message}
use Rattle.dr_model.specs.MessagePlans.{order_refusal, order_done, order_on, deliver_plan}
use Rattle.dr_model.specs.Pairs.{records}
use Rattle.dr_model.specs.Moves.{Commit, Revert, RaiseFloor, Finish}
use Rattle.dr_model.specs.Carry.{Act, Make, Next, Pass, Do, Entry}
use Rattle.dr_model.specs.Entries.{fields_at}
use Rattle.dr_model.specs.PairEntries.{send_refusal, reach_refusal, end_if, refuse_if}
use Rattle.dr_model.specs.SessionEntries.{hold_refusal, stale_refusal, void_refusal, is_flashed, flash_refusal, is_committed, commit_refusal, commit_on, revert_on, is_past, finish_on, member_entries, members_on, order_entries}
use Rattle.dr_model.specs.SessionPlans.{off_refusal}
use Rattle.dr_model.specs.PlanParts.{Plan, unless, on_session}
use Rattle.dr_model.specs.Groups.{In, IsOrder}
use Rattle.dr_model.specs.Attempts.{roles, Seen, seen, seen_in, phase_of, All, AllHeld, AttemptOf}
use Rattle.dr_model.specs.Flights.{FlightOf}
use Rattle.dr_model.specs.Runs.{Task, run}
use Rattle.dr_model.specs.Laws.{Sound}
use Rattle.dr_facts.proofs.Lists.{found, to-map}
use Rattle.dr_facts.proofs.Refusals.{met}
use Rattle.dr_laws_sessions.proofs.Changes.{session-found}
use Rattle.dr_laws_sessions.proofs.Silent.{on-members, member-records}
use Rattle.dr_laws_attempts.proofs.Orders.{newer, flash-passed, commit-passed}
use Rattle.dr_laws_messages.proofs.Losses.{past-less}
use Rattle.dr_laws_sound.proofs.Steps.{sound-run}
use Rattle.dr_laws_sound.proofs.FitsFlash.{as_begun, sound-begun}
use Rattle.dr_laws_sound.proofs.FitsSessions.{Orders}
use Rattle.dr_laws_sound.proofs.FitsMessages.{orders-delivered}
use Rattle.dr_laws_sound.proofs.Cases.{Reaches}
use Rattle.dr_laws_sound.proofs.Rides.{Both}
use Rattle.dr_facts.proofs.Entries.{any_reason, FineThen, AllFine, fine-none, fine-flat}
use Rattle.dr_laws_recovery.proofs.Keeping.{MayFit, keeps-fit, fit-along, Keeping, Goes, refused-goes, goes-unless, goes-moment, goes-ends, goes-after}
use Rattle.dr_logic.proofs.Truth.{false_true}
use Rattle.dr_laws_orders.specs.OlderNumbers.{IsOlder, LeavesVolumes, OlderOrdersLeaveVolumes}
use Rattle.dr_laws_orders.proofs.Arrivals.{order-plan}
use Rattle.dr_laws_orders.proofs.Unchanged.{AreAs, as-begins, as-unchanged, Fit, acts}

module _ (w : World) (sound : Sound w) (i : ℕ) (m : Message) (older : IsOlder w.control i m) where
  abbrev n : ℕ
  n = m.order.number

  abbrev x : Session
  x = older.session

  listed : In x w.control.sessions × (x.number ≡ m.session)
  listed = session-found w.control.sessions m.session x older.found

  low : n < x.last
  low = older.number

  abbrev Law : World → Type 0
  Law = AreAs w sound n

  abbrev I : World → Type 0
  I = Both Sound Law

  abbrev May : World → Act → Type 0
  May = MayFit (Fit w sound n)

  -- ---- what volumes say of a number below the last

  module _ (q : Member) (here : In q x.members) where
    -- it is one of those that its session sees
    view : In (seen (roles w.control) q) (seen_in w.control x)
    view = to-map (seen (roles w.control)) x.members q here

    -- who records, records the session's last attempt
    recorded : (u : World) → Law u → (fields_at u.control q.a.0).recording ≡ true → n < (fields_at u.control q.a.0).attempt
    recorded u h rec =
        let last : (fields_at w.control q.a.0).attempt ≡ x.last = (member-records w.control x q sound.groups listed.0 here (sym (ap (λ (f : Fields). f.recording) (h q.a.0).says) ∙ rec)).last in
        let rises : (fields_at w.control q.a.0).attempt ≤ (fields_at u.control q.a.0).attempt = (h q.a.0).attempt.higher in
        let below : n < x.last = low in omega arith

    -- so none records this one
    never-records : (u : World) → Law u → records n (fields_at u.control q.a.0) ≡ false
    never-records u h = false_from_ne_true _ (λ rec.
        let both = and_parts (fields_at u.control q.a.0).recording (nat_eq (fields_at u.control q.a.0).attempt n) rec in
        let more : n < (fields_at u.control q.a.0).attempt = recorded u h both.0 in
        let same : (fields_at u.control q.a.0).attempt ≡ n = eqb-true _ _ both.1 in
        absurd (omega arith))

    -- a revertible target has its number
    never-flashed : (u : World) → Law u → is_flashed n (fields_at u.control q.c.0) ≡ false
    never-flashed u h = ap (is_flashed n) (h q.c.0).says ∙ false_from_ne_true _ (λ flashed.
        let f : Fields = fields_at w.control q.c.0 in
        let own : AttemptOf (roles w.control) x = sound.attempts.sessions x listed.0 in
        let both = and_parts f.revertible (nat_eq f.sequence n) flashed in
        let last : f.sequence ≡ x.last = (own.numbers.each (seen (roles w.control) q) view).last both.0 in
        let same : f.sequence ≡ n = eqb-true f.sequence n both.1 in
        let below : n < x.last = low in absurd (omega arith))

    -- whether one is committed stays
    same-committed : (u : World) → Law u → is_committed n (fields_at u.control q.c.0) ≡ is_committed n (fields_at w.control q.c.0)
    same-committed u h = ap (is_committed n) (h q.c.0).says

    -- where the check of a Commit passes, nothing is left to commit
    committed-there : (u v : World) → Law u → Law v → commit_refusal q.c.0 n u.control ≡ None → is_committed n (fields_at v.control q.c.0) ≡ true
    committed-there u v h k passes = same-committed v k ∙ sym (same-committed u h) ∙ true_from_ne_false _ (λ none. false_true (never-flashed u h) (commit-passed q.c.0 n u.control passes none))

    -- a primary that isn't past the number doesn't record
    unpast-silent : (u : World) → Law u → is_past n (fields_at u.control q.a.0) ≡ false → (fields_at w.control q.a.0).recording ≡ false
    unpast-silent u h past = false_from_ne_true _ (λ rec.
        let more : n < (fields_at u.control q.a.0).attempt = recorded u h (ap (λ (f : Fields). f.recording) (h q.a.0).says ∙ rec) in
        let under : (fields_at u.control q.a.0).attempt ≤ n = ltb-false n (fields_at u.control q.a.0).attempt (or_parts (nat_lt n (fields_at u.control q.a.0).attempt) _ past).0 in
        absurd (omega arith))

  -- the message is an order of its session, whose messages fit
  order : IsOrder w.control.flight x.number m
  order = record { here = (found (λ (q : Message). nat_eq q.number i) w.control.flight.messages m older.order.there).0; session = sym listed.1; starts = older.order.starts; asks = older.order.asks }

  flight : FlightOf w.control x
  flight = sound.flights.each x listed.0

  -- each attempt has reached it where its hold is in flight, and each floor where its flash is
  was-held : m.order.work ≡ phases.Hold → AllHeld n (seen_in w.control x)
  was-held is = flight.holds n m (record { order = order; works = is; number = refl }) (inl low)

  was-flashed : m.order.work ≡ phases.Flash → All (λ (v : Seen). n ≤ v.floor) (seen_in w.control x)
  was-flashed is = flight.flashes n m (record { order = order; works = is; number = refl }) (past-less (phase_of x.mirror) n x.last low)

  -- ---- the entries of an order

  -- entries whose acts fit wherever they come
  abbrev FitNext : World → Next → Type 0 → Type 0
  FitNext = FineThen Law (Fit w sound n) any_reason

  abbrev AllFit : List Entry → Type 0
  AllFit = AllFine Law (Fit w sound n) any_reason

  fits : (d : Entry) (ds : List Entry) → ((u : World) → Law u → FitNext u (d u.control) (AllFit ds)) → AllFit (d ∷ ds)
  unfolding AllFine
  fits d ds go = go

  none : AllFit []
  none = fine-none Law (Fit w sound n) any_reason

  -- a check: what follows comes only where it passes
  refused : (why : Control → Option Refusal) (ds : List Entry) → ((u : World) → Law u → why u.control ≡ None → AllFit ds) → AllFit (refuse_if why ∷ ds)
  refused why ds go = fits (refuse_if why) ds (λ u h. by u (why u.control) (go u h))
    where
      by : (u : World) (o : Option Refusal) → (o ≡ None → AllFit ds) → FitNext u (end_if o) (AllFit ds)
      by u None go = go refl
      by u (Some r) go = tt

  -- what never passes needs nothing of what follows
  never : (why : Control → Option Refusal) (ds : List Entry) → ((u : World) → Law u → why u.control ≡ None → ⊥) → AllFit (refuse_if why ∷ ds)
  never why ds fails = refused why ds (λ u h is. absurd (fails u h is))

  module _ (q : Member) (here : In q x.members) where
    -- no check of a Release or a Seal passes, nor does one of a Hold or a Flash
    unrecorded : (u : World) → Law u → void_refusal q.a.0 n u.control ≡ None → ⊥
    unrecorded u h passes = false_true (never-records q here u h) (met (records n (fields_at u.control q.a.0)) (Void n) passes)

    unheld : m.order.work ≡ phases.Hold → (u : World) → Law u → stale_refusal q.a.0 n u.control ≡ None → ⊥
    unheld is u h passes =
        let under : (fields_at u.control q.a.0).attempt < n = newer q.a.0 n u.control passes (never-records q here u h) in
        let held : n ≤ (fields_at w.control q.a.0).attempt = was-held is (seen (roles w.control) q) (view q here) in
        let rises : (fields_at w.control q.a.0).attempt ≤ (fields_at u.control q.a.0).attempt = (h q.a.0).attempt.higher in
        omega arith

    unflashed : m.order.work ≡ phases.Flash → (u : World) → Law u → flash_refusal q.b.0 q.c.0 n u.control ≡ None → ⊥
    unflashed is u h passes =
        let under : (fields_at u.control q.c.0).floor < n = (flash-passed q.b.0 q.c.0 n u.control passes (never-flashed q here u h)).low in
        let reached : n ≤ (fields_at w.control q.c.0).floor = was-flashed is (seen (roles w.control) q) (view q here) in
        let rises : (fields_at w.control q.c.0).floor ≤ (fields_at u.control q.c.0).floor = (h q.c.0).floor.higher in
        omega arith

    -- a Revert takes nothing back, and may raise a floor; a Finish lets nothing go, and may raise an attempt
    reverts : (u : World) → Law u → FitNext u (revert_on m.session q.a.0 q.c.0 n u.control) (AllFit [])
    reverts u h =
        subst (λ b. FitNext u (cond b (Do (Make (Revert q.c.0 q.a.0 m.session n))) (cond (nat_lt (fields_at u.control q.c.0).floor n) (Do (Make (RaiseFloor q.c.0 n))) Pass)) (AllFit [])) (sym (never-flashed q here u h))
        (by (nat_lt (fields_at u.control q.c.0).floor n) refl)
      where
        by : (b : Bool) → nat_lt (fields_at u.control q.c.0).floor n ≡ b → FitNext u (cond b (Do (Make (RaiseFloor q.c.0 n))) Pass) (AllFit [])
        by true is = ((refl, (let under : (fields_at u.control q.c.0).floor < n = ltb-true _ _ is in omega arith)), none)
        by false is = none

    finishes : (u : World) → Law u → FitNext u (finish_on q.a.0 n u.control) (AllFit [])
    finishes u h = by (is_past n (fields_at u.control q.a.0)) refl
      where
        by : (b : Bool) → is_past n (fields_at u.control q.a.0) ≡ b → FitNext u (cond b Pass (Do (Make (Finish q.a.0 n)))) (AllFit [])
        by true is = none
        by false is = ((refl, unpast-silent q here u h is), none)

    -- each order of an older number fits
    fit-member : (work : phases.Work) → m.order.work ≡ work → AllFit (member_entries work m.session n q)
    fit-member phases.Hold is = refused (hold_refusal q.a.0 q.b.0) _ (λ u h free. never (stale_refusal q.a.0 n) _ (unheld is))
    fit-member phases.Release is = never (void_refusal q.a.0 n) _ unrecorded
    fit-member phases.Seal is = never (void_refusal q.a.0 n) _ unrecorded
    fit-member phases.Flash is = refused (send_refusal q.a.0 q.b.0) _ (λ u h sends. never (flash_refusal q.b.0 q.c.0 n) _ (unflashed is))
    fit-member phases.Commit is =
        refused (send_refusal q.a.0 q.b.0) _ (λ u h sends.
        refused (commit_refusal q.c.0 n) _ (λ u h passes.
        fits (commit_on m.session q.a.0 q.c.0 n) [] (λ v k. subst (λ b. FitNext v (cond b Pass (Do (Make (Commit q.c.0 q.a.0 m.session n)))) (AllFit [])) (sym (committed-there q here u v h k passes)) none)))
    fit-member phases.Revert is = refused (send_refusal q.a.0 q.b.0) _ (λ u h sends. fits (revert_on m.session q.a.0 q.c.0 n) [] reverts)
    fit-member phases.Finish is = fits (finish_on q.a.0 n) [] finishes
    fit-member phases.Report is = refused (reach_refusal q.a.0 q.b.0) [] (λ u h near. none)

  fit-order : (qs : List Member) → ((q : Member) → In q qs → In q x.members) → AllFit (order_entries m.order.work m.session n qs)
  fit-order qs each = fine-flat Law (Fit w sound n) any_reason (member_entries m.order.work m.session n) qs (λ q here. fit-member q (each q here) m.order.work refl)

  -- ---- the plan

  abbrev keeping : Keeping w Law
  keeping = record {
    law = I;
    may = May;
    keeps = keeps-fit Law (Fit w sound n) (acts w sound n);
    gives = λ v i. i.1;
    told = λ v on es h. h;
    begins = (sound-begun w sound, as-begins w sound n);
  }

  abbrev FlightGoesOn : Plan → Type 0
  FlightGoesOn = Goes w Law keeping

  -- it is carried out, or refused before
  done-goes : (r : Mirror) → Reaches w.control i m older.order.starts x r → FlightGoesOn (order_done m (members_on m.server x.members))
  done-goes r reaches =
      let ms : List Member = members_on m.server x.members in
      let h : Orders w (order_done m ms) = orders-delivered w sound i m older.order.starts x r reaches in
      record {
        begins = keeping.begins;
        entries = fit-along Law (Fit w sound n) any_reason h.ends h.complete (order_entries m.order.work m.session n ms) (fit-order ms (λ q h. (on-members m.server x.members q h).0)) (as_begun w) (as-begins w sound n) h.entries;
        last = λ v h. h;
        follows = λ q. refl;
      }

  order-goes : (o : Option Mirror) → x.mirror ≡ o → off_refusal w.control m.server ≡ None → FlightGoesOn (order_on w.control m older.order.starts x.members o)
  order-goes None is on = refused-goes w Law keeping (OutOfOrder phase.None)
  order-goes (Some r) is on =
      goes-unless w Law keeping (order_refusal w.control r m older.order.starts) (order_done m (members_on m.server x.members))
      (λ free. done-goes r (record { arrives = record { there = older.order.there; says = older.order.asks; found = older.found; mirror = is }; on = on; allowed = free }))

  deliver-goes : FlightGoesOn (deliver_plan w.control i)
  deliver-goes =
      subst FlightGoesOn (sym (order-plan w.control i m older.order ∙ ap (λ y. on_session y (λ x. unless (off_refusal w.control m.server) (order_on w.control m older.order.starts x.members x.mirror))) older.found))
      (goes-unless w Law keeping (off_refusal w.control m.server) (order_on w.control m older.order.starts x.members x.mirror) (λ on. order-goes x.mirror refl on))

  -- wherever it comes to
  pub leaves-volumes : LeavesVolumes n w (deliver_plan w.control i)
  leaves-volumes = record {
    moments = λ j v. as-unchanged w sound n _ (goes-moment w Law keeping (deliver_plan w.control i) deliver-goes j) v;
    reads = λ armed u r e v. as-unchanged w sound n u (goes-ends w Law keeping (deliver_plan w.control i) deliver-goes armed u r e) v;
    after = λ line v. as-unchanged w sound n _ (goes-after w Law keeping (deliver_plan w.control i) deliver-goes line) v;
  }

-- and where a run leads
pub leaves-run : (tasks : List Task) → OlderOrdersLeaveVolumes tasks
leaves-run tasks i m older = leaves-volumes (run tasks) (sound-run tasks) i m older
