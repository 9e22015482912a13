-- What an `@run` comes to in two such worlds.
use Rattle.std.proofs.Common.{ℕ, zero, suc, ◌≡◌, ◌+◌, refl, ap, sym, subst, Bool, true, false, cond, nat_eq, nat_le, List, [], ◌∷◌, Option, Some, None}
use Rattle.dr_ids.specs.declared.names.Member.{Member}
use Rattle.dr_ids.specs.declared.refusal.PhaseName.{PhaseName}
use Rattle.dr_ids.specs.declared.refusal.Refusal.{Refusal}
use Rattle.dr_ids.specs.declared.refusal.Refusal.TheVariants.{OutOfOrder, JournalFull}
use Rattle.dr_model.specs.Limits.{most_events}
use Rattle.dr_model.specs.Control.{Control, World}
use Rattle.dr_model.specs.Phases as phases
use Rattle.dr_model.specs.Sessions.{Session, Mirror, session_in, mirror_in, members_in}
use Rattle.dr_model.specs.SessionEntries.{members_on}
use Rattle.dr_model.specs.SessionPlans.{asking, exchange_on, exchange_done, exchange_refusal, order_of}
use Rattle.dr_model.specs.PairEntries.{is_copying}
use Rattle.dr_model.specs.PlanParts.{Plan, unless}
use Rattle.dr_model.specs.Plans.{drain_plan, has_room, has_room_for}
use Rattle.dr_model.specs.Carried.{carried_out, answered}
use Rattle.dr_model.specs.Forming.{Way, stays, ends, goes_on, and_then, unless_refused, refusal_said, after_part, part_refusal, part, drains, is_draining, ask, next_asked, master_in, phase_in, has_committed, still_left, turn_by, turn_in, turns, most_turns, form_refusal, form_in, formed}
use Rattle.dr_laws_losses.proofs.Alike.{NoIssue, alike-same, alike-length}
use Rattle.dr_laws_losses.proofs.Worlds.{Alike, AlikeOutcome, carried-alike, lost-alike}

module _ (u : ℕ) where
  -- the same room is left
  pub room-same : (n : ℕ) (w g : World) → Alike u w g → has_room_for n g.events ≡ has_room_for n w.events
  room-same n w g a = ap (λ l. nat_le (l + n) most_events) (alike-length u w.events g.events a.events)

  -- a plan that tells no write as it begins
  pub same-plan : (p : Plan) (w g : World) → Alike u w g → NoIssue p.told → AlikeOutcome u (carried_out w p) (carried_out g p)
  same-plan p w g a none = carried-alike u p p.told w g a (alike-same u p.told none)

  pub record AlikeWay (x y : Way) : Type 0 where
    pub world : Alike u x.world y.world
    pub refusal : y.refusal ≡ x.refusal

  stays-alike : (w g : World) → Alike u w g → AlikeWay (stays w) (stays g)
  stays-alike w g a = record { world = a; refusal = refl }

  ends-alike : (w g : World) (r : Refusal) → Alike u w g → AlikeWay (ends w r) (ends g r)
  ends-alike w g r a = record { world = a; refusal = refl }

  then-alike : (x y : Way) (more other : World → Way) → ((w g : World) → Alike u w g → AlikeWay (more w) (other g)) → AlikeWay x y → AlikeWay (and_then x more) (and_then y other)
  then-alike x y more other each a = subst (λ r. AlikeWay (and_then x more) (goes_on y.parts y.world r other)) (sym a.refusal) (by x.refusal)
    where
      by : (r : Option Refusal) → AlikeWay (goes_on x.parts x.world r more) (goes_on y.parts y.world r other)
      by None = let m : AlikeWay (more x.world) (other y.world) = each x.world y.world a.world in record { world = m.world; refusal = m.refusal }
      by (Some r) = record { world = a.world; refusal = refl }

  abbrev part_by : World → Plan → Bool → Way
  part_by w p b = cond b (record { parts = record { world = w; plan = p } ∷ []; world = after_part w p; refusal = part_refusal w p }) (ends w JournalFull)

  part-alike : (p : Plan) (w g : World) → Alike u w g → NoIssue p.told → AlikeWay (part w p) (part g p)
  part-alike p w g a none = subst (λ b. AlikeWay (part w p) (part_by g p b)) (sym (room-same _ w g a)) (of (has_room w.events))
    where
      of : (b : Bool) → AlikeWay (part_by w p b) (part_by g p b)
      of true =
          let o : AlikeOutcome u (carried_out w p) (carried_out g p) = same-plan p w g a none in
          record { world = lost-alike u w g (carried_out w p).0 (carried_out g p).0 a o.world; refusal = λ i. refusal_said (answered p (o.world.control i) (o.refusal i)) }
      of false = ends-alike w g JournalFull a

  abbrev AlikeWays : (World → Way) → Type 0
  AlikeWays f = (w g : World) → Alike u w g → AlikeWay (f w) (f g)

  drains-by : (ms : List Member) (m : Member) → AlikeWays (λ w. drains w ms) → (b : Bool) (k : Control) → AlikeWays (λ w. cond b (and_then (part w (drain_plan k m.a.0 None)) (λ v. drains v ms)) (drains w ms))
  drains-by ms m more true k w g a = then-alike (part w (drain_plan k m.a.0 None)) (part g (drain_plan k m.a.0 None)) (λ v. drains v ms) (λ v. drains v ms) more (part-alike (drain_plan k m.a.0 None) w g a refl)
  drains-by ms m more false k w g a = more w g a

  drains-alike : (ms : List Member) → AlikeWays (λ w. drains w ms)
  unfolding drains
  drains-alike [] w g a = stays-alike w g a
  drains-alike (m ∷ ms) w g a =
      subst (λ (k : Control). AlikeWay (drains w (m ∷ ms)) (cond (is_copying m.a.0 k) (and_then (part g (drain_plan k m.a.0 None)) (λ v. drains v ms)) (drains g ms))) (sym a.control)
      (drains-by ms m (drains-alike ms) (is_copying m.a.0 w.control) w.control w g a)

  -- what a master asks of a server tells no write
  asks-none : (why : Option Refusal) (s server : ℕ) (ms : List Member) (o : Option phases.Order) → NoIssue (unless why (exchange_done s server true ms o)).told
  asks-none None s server ms None = refl
  asks-none None s server ms (Some o) = refl
  asks-none (Some r) s server ms o = refl

  exchange-none : (k : Control) (s server : ℕ) (o : Option Mirror) (ms : List Member) → NoIssue (exchange_on k s o server true ms).told
  exchange-none k s server None ms = refl
  exchange-none k s server (Some r) ms = asks-none (exchange_refusal k r server ms) s server (members_on server ms) (order_of r server)

  asking-alike : (s server : ℕ) → AlikeWays (λ w. part w (asking w.control s server true))
  asking-alike s server w g a =
      let k : Control = w.control in
      subst (λ (k : Control). AlikeWay (part w (asking w.control s server true)) (part g (asking k s server true))) (sym a.control)
      (part-alike (asking k s server true) w g a (exchange-none k s server (mirror_in (session_in k.sessions s)) (members_in (session_in k.sessions s))))

  abbrev first_by : ℕ → List Member → World → Bool → Way
  first_by server ms w b = cond b (drains w (members_on server ms)) (stays w)

  ask-alike : (s : ℕ) (p : PhaseName) (ms : List Member) (server : ℕ) → AlikeWays (λ w. ask w s p ms server)
  ask-alike s p ms server w g a = then-alike (first_by server ms w (is_draining p)) (first_by server ms g (is_draining p)) _ _ (asking-alike s server) (by (is_draining p))
    where
      by : (b : Bool) → AlikeWay (first_by server ms w b) (first_by server ms g b)
      by true = drains-alike (members_on server ms) w g a
      by false = stays-alike w g a

  turn_by-alike : (s : ℕ) (p : PhaseName) (ms : List Member) (o : Option ℕ) (more other : World → Way)
      → ((w g : World) → Alike u w g → AlikeWay (more w) (other g)) → (w g : World) → Alike u w g → AlikeWay (turn_by w s p ms o more) (turn_by g s p ms o other)
  turn_by-alike s p ms None more other each w g a = ends-alike w g (OutOfOrder p) a
  turn_by-alike s p ms (Some server) more other each w g a = then-alike (ask w s p ms server) (ask g s p ms server) more other each (ask-alike s p ms server w g a)

  turn_in-alike : (s : ℕ) (more other : World → Way) → ((w g : World) → Alike u w g → AlikeWay (more w) (other g)) → (w g : World) → Alike u w g → AlikeWay (turn_in w s more) (turn_in g s other)
  turn_in-alike s more other each w g a =
      subst (λ (k : Control). AlikeWay (turn_in w s more) (turn_by g s (phase_in k s) (members_in (session_in k.sessions s)) (next_asked (master_in k s)) other)) (sym a.control)
      (turn_by-alike s (phase_in w.control s) (members_in (session_in w.control.sessions s)) (next_asked (master_in w.control s)) more other each w g a)

  abbrev next_turn : ℕ → ℕ → ℕ → Bool → Control → World → Way
  next_turn bound s left committed k v = turns bound v s (still_left committed (phase_in v.control s) left) (has_committed committed (phase_in k s) (phase_in v.control s))

  turns-alike : (bound s : ℕ) (left : ℕ) (committed : Bool) → AlikeWays (λ w. turns bound w s left committed)
  unfolding turns
  turns-alike zero s left committed w g a = subst (λ (k : Control). AlikeWay (turns zero w s left committed) (cond (nat_eq left 0) (stays g) (ends g (OutOfOrder (phase_in k s))))) (sym a.control) (by (nat_eq left 0))
    where
      by : (b : Bool) → AlikeWay (cond b (stays w) (ends w (OutOfOrder (phase_in w.control s)))) (cond b (stays g) (ends g (OutOfOrder (phase_in w.control s))))
      by true = stays-alike w g a
      by false = ends-alike w g (OutOfOrder (phase_in w.control s)) a
  turns-alike (suc bound) s left committed w g a = by (turns-alike bound s) (nat_eq left 0)
    where
      step : ((left : ℕ) (committed : Bool) → AlikeWays (λ w. turns bound w s left committed)) → (v h : World) → Alike u v h → AlikeWay (next_turn bound s left committed w.control v) (next_turn bound s left committed g.control h)
      step more v h b =
          subst (λ (k : Control). AlikeWay (next_turn bound s left committed w.control v)
          (turns bound h s (still_left committed (phase_in h.control s) left) (has_committed committed (phase_in k s) (phase_in h.control s)))) (sym a.control)
          (subst (λ (j : Control). AlikeWay (next_turn bound s left committed w.control v) (turns bound h s (still_left committed (phase_in j s) left) (has_committed committed (phase_in w.control s) (phase_in j s)))) (sym b.control)
          (more (still_left committed (phase_in v.control s) left) (has_committed committed (phase_in w.control s) (phase_in v.control s)) v h b))

      by : ((left : ℕ) (committed : Bool) → AlikeWays (λ w. turns bound w s left committed)) → (b : Bool)
          → AlikeWay (cond b (stays w) (turn_in w s (next_turn bound s left committed w.control))) (cond b (stays g) (turn_in g s (next_turn bound s left committed g.control)))
      by more true = stays-alike w g a
      by more false = turn_in-alike s (next_turn bound s left committed w.control) (next_turn bound s left committed g.control) (step more) w g a

  form_in-alike : (s n : ℕ) (o : Option Session) → AlikeWays (λ w. form_in w s n o)
  form_in-alike s n None w g a = ends-alike w g _ a
  form_in-alike s n (Some x) w g a = by (form_refusal n x.mirror)
    where
      by : (o : Option Refusal) → AlikeWay (unless_refused o w (turns (most_turns n) w s n false)) (unless_refused o g (turns (most_turns n) g s n false))
      by None = turns-alike (most_turns n) s n false w g a
      by (Some r) = ends-alike w g r a

  pub formed-alike : (s n : ℕ) → AlikeWays (λ w. formed w s n)
  formed-alike s n w g a =
      subst (λ b. AlikeWay (formed w s n) (cond b (form_in g s n (session_in g.control.sessions s)) (ends g JournalFull))) (sym (room-same _ w g a))
      (subst (λ (k : Control). AlikeWay (formed w s n) (cond (has_room w.events) (form_in g s n (session_in k.sessions s)) (ends g JournalFull))) (sym a.control)
      (by (has_room w.events)))
    where
      by : (b : Bool) → AlikeWay (cond b (form_in w s n (session_in w.control.sessions s)) (ends w JournalFull)) (cond b (form_in g s n (session_in w.control.sessions s)) (ends g JournalFull))
      by true = form_in-alike s n (session_in w.control.sessions s) w g a
      by false = ends-alike w g JournalFull a
