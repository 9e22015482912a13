-- The plans of an `@run` take writes from the targets of its members, and from the secondaries that their primaries name.
use Rattle.std.proofs.Common.{ℕ, zero, suc, ◌≡◌, inl, inr, refl, ap, sym, ◌∙◌, subst, Bool, true, false, cond, ◌&&◌, ◌||◌, List, [], ◌∷◌, Option, Some, None, nat_eq, Result, Ok}
use Rattle.std.specs.Prelude.{◌==◌}
use Rattle.std.specs.List.{list_any}
use Rattle.std.proofs.Math.Bool.{or-true}
use Rattle.dr_ids.specs.declared.names.Member.{Member}
use Rattle.dr_ids.specs.declared.refusal.PhaseName.{PhaseName}
use Rattle.dr_ids.specs.declared.refusal.PhaseName.TheVariants as phase
use Rattle.dr_ids.specs.declared.refusal.Refusal.{Refusal}
use Rattle.dr_ids.specs.declared.refusal.Refusal.TheVariants.{OutOfOrder}
use Rattle.dr_model.specs.declared.state.Part.{Part as PairPart}
use Rattle.dr_model.specs.declared.event.Event.{Event}
use Rattle.dr_model.specs.declared.step.Name.{Name}
use Rattle.dr_model.specs.declared.step.Step.{Step}
use Rattle.dr_model.specs.declared.step.Step.TheVariants.{Run, Drain, Exchange}
use Rattle.dr_model.specs.Layout.{Fields, is_part}
use Rattle.dr_model.specs.Control.{Control, Fuse, Volume, World}
use Rattle.dr_model.specs.Groups.{In}
use Rattle.dr_model.specs.Pairs.{is_primary_of}
use Rattle.dr_model.specs.Sessions.{Session, session_in, mirror_in, members_in, changed, paused, begun as attempt_opened, with_mirror, mirror_lost_since, lost_since}
use Rattle.dr_model.specs.Moves.{Move, MakePrimary, DropPrimary, TakeOver, Yield, Hold, target, fields_left, MakeSecondary, DropSecondary, LeavePrimary}
use Rattle.dr_model.specs.Carry.{Act, Make, OpenAttempt, act}
use Rattle.dr_model.specs.Carried.{begun, carried_out}
use Rattle.dr_model.specs.Entries.{fields_at}
use Rattle.dr_model.specs.PairEntries.{is_copying}
use Rattle.dr_model.specs.SessionEntries.{is_on, members_on}
use Rattle.dr_model.specs.SessionPlans.{exchange_on, asking}
use Rattle.dr_model.specs.Plans.{Plan, drain_plan, has_room}
use Rattle.dr_model.specs.Forming.{Part, Way, stays, goes_on, unless_refused, after_part, part, drains, is_draining, ask, next_asked, master_in, phase_in, has_committed, still_left, turn_by, turns, most_turns, form_refusal, form_in, formed}
use Rattle.dr_model.specs.TakenWrites.{takes_from, is_target_in, is_copy_in, is_third}
use Rattle.dr_facts.proofs.Lists.{from-filter, any-some}
use Rattle.dr_laws_sound.proofs.Turns.{done, after_act, Counts, act-cases}
use Rattle.dr_laws_sound.proofs.FitsPairs.{part-same}
use Rattle.dr_facts.proofs.Entries.{any_world, any_reason, plan-from, from-wider, each-wider}
use Rattle.dr_facts.proofs.Reasons.{NoStop}
use Rattle.dr_laws_sound.proofs.Cases.{Case, Says, DefinesVolume, Drains, MakesSession, RemovesSession, MakesMirror, PausesMirror, RemovesMirror, Aborts, AddsMember, RemovesMember, Sends, TakesReply, Exchanges, on-case, refused-not}
use Rattle.dr_laws_sound.proofs.Does.{Does, Acts, Late, MakesPrimary, DropsPrimary, TakesOver, Yields, RecoversSecondary, MakesSecondary, DropsSecondary, LeavesPrimary}
use Rattle.dr_laws_sound.proofs.DoesPlans.{case-does}
use Rattle.dr_laws_recovery.proofs.Takes.{OkBy, Told, told-none, told-on}
use Rattle.dr_laws_recovery.proofs.TakesSteps.{MayTake, case-told}

-- ---- moves that leave each primary with its secondary

abbrev KeepsPartner : Move → Type 0
KeepsPartner (MakePrimary v b kind state full) = ⊥
KeepsPartner (DropPrimary v) = ⊥
KeepsPartner (MakeSecondary v a kind state) = ⊥
KeepsPartner (DropSecondary v) = ⊥
KeepsPartner (LeavePrimary v) = ⊥
KeepsPartner (TakeOver v) = ⊥
KeepsPartner (Yield v a kind state) = ⊥
KeepsPartner m = Unit {0}

-- what names a primary's secondary, and whether it is cascaded
abbrev Names : Type 0
Names = PairPart × (ℕ × PairPart)

abbrev names : Fields → Names
names f = (f.primary, (f.primary_partner, f.secondary))

partner-kept : (m : Move) (u : Volume) → KeepsPartner m → names (fields_left m u) ≡ names u.fields
partner-kept (MakePrimary v b kind state full) u is = absurd is
partner-kept (DropPrimary v) u is = absurd is
partner-kept (MakeSecondary v a kind state) u is = absurd is
partner-kept (DropSecondary v) u is = absurd is
partner-kept (LeavePrimary v) u is = absurd is
partner-kept (TakeOver v) u is = absurd is
partner-kept (Yield v a kind state) u is = absurd is
partner-kept m u is = refl

-- the steps of which an `@run` has plans
abbrev is_in_run : Result Step ℕ → Bool
is_in_run (Ok (Drain a most)) = true
is_in_run (Ok (Exchange s name reply)) = true
is_in_run asked = false

does-keep : (k : Control) (asked : Result Step ℕ) (w : World) (a : Act) → Does k asked w.control a → is_in_run asked ≡ true → OkBy KeepsPartner w a
does-keep k _ w _ (MakesPrimary a b kind state full cascade free) h = absurd cc
does-keep k _ w _ (DropsPrimary a) h = absurd cc
does-keep k _ w _ (MakesSecondary a b kind state free) h = absurd cc
does-keep k _ w _ (DropsSecondary b) h = absurd cc
does-keep k _ w _ (LeavesPrimary b a kind may is) h = absurd cc
does-keep k _ w _ (TakesOver b a kind may is) h = absurd cc
does-keep k _ w _ (Yields x y kind state leads) h = absurd cc
does-keep k _ w _ (RecoversSecondary i m here is) h = absurd cc
does-keep k _ w _ d h = tt

-- ---- tables of sessions that leave each its members

same-members : (i s : ℕ) (f : Session → Session) (ss : List Session) → ((x : Session) → (f x).number ≡ x.number) → ((x : Session) → (f x).members ≡ x.members) → members_in (session_in (changed i f ss) s) ≡ members_in (session_in ss s)
unfolding changed
same-members i s f [] number members = refl
same-members i s f (x ∷ xs) number members = by (x.number == i) (same-members i s f xs number members)
  where
    one : (b : Bool) → members_in (cond b (Some (f x)) (session_in xs s)) ≡ members_in (cond b (Some x) (session_in xs s))
    one true = members x
    one false = refl

    rest : (b : Bool) → members_in (session_in (changed i f xs) s) ≡ members_in (session_in xs s) → members_in (cond b (Some x) (session_in (changed i f xs) s)) ≡ members_in (cond b (Some x) (session_in xs s))
    rest true e = refl
    rest false e = e

    by : (b : Bool) → members_in (session_in (changed i f xs) s) ≡ members_in (session_in xs s) → members_in (session_in (cond b (f x ∷ xs) (x ∷ changed i f xs)) s) ≡ members_in (session_in (x ∷ xs) s)
    by true e = ap (λ n. members_in (cond (n == s) (Some (f x)) (session_in xs s))) (number x) ∙ one (x.number == s)
    by false e = rest (x.number == s) e

lost-members : (s : ℕ) (before after : ℕ → Bool) (ss : List Session) → members_in (session_in (lost_since before after ss) s) ≡ members_in (session_in ss s)
lost-members s before after [] = refl
lost-members s before after (x ∷ xs) = by (x.number == s) (lost-members s before after xs)
  where
    by : (b : Bool) → members_in (session_in (lost_since before after xs) s) ≡ members_in (session_in xs s) → members_in (cond b (Some (with_mirror (mirror_lost_since before after) x)) (session_in (lost_since before after xs) s)) ≡ members_in (cond b (Some x) (session_in xs s))
    by true e = refl
    by false e = e

-- ---- the way of an `@run` of session s, from a world on

module _ (w0 : World) (s n : ℕ) where
  abbrev k0 : Control
  k0 = w0.control

  abbrev Q : ℕ → Type 0
  Q v = takes_from k0 (Ok (Run s n)) v ≡ true

  abbrev members : List Member
  members = members_in (session_in k0.sessions s)

  -- primaries name the secondaries that they named, and the session has the members that it had
  abbrev Stands : Control → Type 0
  Stands k = ((v : ℕ) → names (fields_at k v) ≡ names (fields_at k0 v)) × (members_in (session_in k.sessions s) ≡ members)

  abbrev StandsIn : World → Type 0
  StandsIn w = Stands w.control

  stands-move : (w : World) (m : Move) (f : Option Fuse) → KeepsPartner m → StandsIn w → StandsIn (done w m f)
  stands-move w m f keeps k = (λ v. part-same w m f names (partner-kept m (w.control.volume (target m)) keeps) v ∙ k.0 v, k.1)

  stands-opened : (w : World) (v i n : ℕ) (f : Option Fuse) → StandsIn w → StandsIn (after_act w (OpenAttempt v i n) f)
  stands-opened w v i n f k = ((stands-move w (Hold v i n true) f tt k).0, same-members i s attempt_opened w.control.sessions (λ x. refl) (λ x. refl) ∙ k.1)

  stands-done : (w : World) (a : Act) (f : Option Fuse) → OkBy KeepsPartner w a → StandsIn w → StandsIn (after_act w a f)
  stands-done w (Make m) f ok k = stands-move w m f ok k
  stands-done w (OpenAttempt v i n) f ok k = stands-opened w v i n f k
  stands-done w a f ok k = k

  stands-stop : (w : World) (a : Act) → OkBy KeepsPartner w a → StandsIn w → Counts w a (λ t. StandsIn t.0)
  stands-stop w (Make m) ok k = λ f. stands-move w m f ok k
  stands-stop w (OpenAttempt v i n) ok k = λ f. stands-opened w v i n f k
  stands-stop w a ok k = tt

  stands-act : (w : World) (a : Act) → OkBy KeepsPartner w a → StandsIn w → StandsIn (act w a).0
  stands-act w a ok k = act-cases w a (λ t. StandsIn t.0) (λ d off. k) (λ f. stands-done w a f ok k) (stands-stop w a ok k) (λ d f. k)

  -- the tables of such a plan, as it begins and ends
  record Tables (k : Control) (p : Plan) : Type 0 where
    first : Stands k → Stands (p.first k)
    last : (j : Control) → Stands j → Stands (p.last j)

  tables : (k : Control) (events : List Event) (line : ℕ) (asked : Result Step ℕ) (p : Plan) → Case k events line asked p → is_in_run asked ≡ true → Tables k p
  tables k events line _ _ (DefinesVolume v x tracks here free) h = absurd cc
  tables k events line _ _ (MakesSession l i free) h = absurd cc
  tables k events line _ _ (RemovesSession l i x found free) h = absurd cc
  tables k events line _ _ (MakesMirror owner i x found free l owned) h = absurd cc
  tables k events line _ _ (PausesMirror i on) h = record { first = λ t. (t.0, same-members i s (paused on) k.sessions (λ x. refl) (λ x. refl) ∙ t.1); last = λ j t. t }
  tables k events line _ _ (RemovesMirror i x found free) h = absurd cc
  tables k events line _ _ (Aborts i x found free) h = absurd cc
  tables k events line _ _ (AddsMember i a c x joins) h = absurd cc
  tables k events line _ _ (RemovesMember i a x m found is idle on) h = absurd cc
  tables k events line _ _ (Sends i server x r o posts) h = absurd cc
  tables k events line _ _ (TakesReply n m reply x r returns) h = absurd cc
  tables k events line _ _ (Exchanges i server true x r o allowed) h = record { first = λ t. t; last = λ j t. (t.0, same-members i s _ j.sessions (λ x. refl) (λ x. refl) ∙ t.1) }
  tables k events line _ _ (Exchanges i server false x r o allowed) h = record { first = λ t. t; last = λ j t. t }
  tables k events line _ _ c h = record { first = λ t. t; last = λ j t. t }

  -- beside, such events were told
  pub record Going (w : World) : Type 0 where
    pub told : Told Q w0.events w.events
    pub stands : Stands w.control

  -- a plan before the last one of the step
  part-going : (w : World) (asked : Result Step ℕ) (p : Plan) → Case w.control w.events 0 asked p → is_in_run asked ≡ true → ((v : ℕ) → MayTake w.control asked v → Q v) → Going w → Going (after_part w p)
  part-going w asked p c turn to g =
      let u : World = (carried_out w p).0 in
      let e = case-does w 0 asked p c in
      let t = tables w.control w.events 0 asked p c turn in
      let keeps : (v : World) (a : Act) → any_world v → Acts w.control asked v a → OkBy KeepsPartner v a = λ v a any does. does-keep w.control asked v a does turn in
      let stands : Stands u.control = plan-from any_world (OkBy KeepsPartner) any_reason any_reason StandsIn (λ v k. tt) stands-act w p (t.first g.stands)
      (from-wider any_world any_world (Acts w.control asked) (OkBy KeepsPartner) NoStop any_reason (Late asked) any_reason (λ v any. any) keeps (λ r why. tt) (λ r why. tt) p.entries (begun w p) tt e.entries)
      (λ x. each-wider any_world any_world (Acts w.control asked) (OkBy KeepsPartner) (Late asked) any_reason (λ v any. any) keeps (λ r why. tt) (p.follows x) (e.follows x)) (λ v k. t.last v.control k) in
      record { told = told-on Q w0.events w.events u.events g.told (case-told w Q 0 asked p c to); stands = (stands.0, lost-members s w.control.on u.control.on u.control.sessions ∙ stands.1) }

  -- what a drain of a sends to, by what names secondaries
  sent_by : (ℕ → Names) → ℕ → ℕ → Bool
  sent_by n a v = (is_part (n a).0 && nat_eq (n a).1.0 v) || ((is_part (n (n a).1.0).0 && is_part (n (n a).1.0).1.1) && (is_part (n (n a).1.0).0 && nat_eq (n (n a).1.0).1.0 v))

  -- the secondary that a member's primary names may be taken from, and that of a cascaded one
  copy-may : (w : World) (m : Member) → Going w → In m members → (v : ℕ) → MayTake w.control (Ok (Drain m.a.0 None)) v → Q v
  unfolding sent_by
  copy-may w m g here v is =
      let same : sent_by (λ q. names (fields_at w.control q)) m.a.0 v ≡ sent_by (λ q. names (fields_at k0 q)) m.a.0 v = λ i. sent_by (λ q. g.stands.0 q i) m.a.0 v in
      ap (λ c. is_target_in k0 s v || c) (any-some (λ (q : Member). is_primary_of v (fields_at k0 q.a.0) || is_third k0 q.a.0 v) members m here (sym same ∙ is)) ∙ or-true (is_target_in k0 s v)

  drain-going : (w : World) (m : Member) → In m members → Going w → Going (after_part w (drain_plan w.control m.a.0 None))
  drain-going w m here g = part-going w (Ok (Drain m.a.0 None)) _ (Drains m.a.0 None) refl (copy-may w m g here) g

  -- and so may the targets of the members
  target-may : (w : World) → Going w → (v : ℕ) → is_target_in w.control s v ≡ true → Q v
  target-may w g v is = ap (λ b. b || is_copy_in k0 s v) (ap (list_any (λ (m : Member). nat_eq m.c.0 v)) (sym g.stands.1) ∙ is)

  asks-going : (w : World) (server : ℕ) → Going w → Going (after_part w (asking w.control s server true))
  asks-going w server g = by (session_in w.control.sessions s) refl
    where
      -- no line names the server
      unnamed : Name
      unnamed = record { len = 0; bytes = [] }

      of : (p : Plan) → Case w.control w.events 0 (Ok (Exchange s unnamed true)) p → Going (after_part w p)
      of p c = part-going w (Ok (Exchange s unnamed true)) p c refl (target-may w g) g

      by : (o : Option Session) → session_in w.control.sessions s ≡ o → Going (after_part w (exchange_on w.control s (mirror_in o) server true (members_in o)))
      by None none = of _ (Says _ (refused-not (OutOfOrder phase.None)) (λ one. refl))
      by (Some x) there = of _ (on-case w.control w.events 0 s server true x x.mirror there refl)

  -- the whole way
  then-going : (xs : List Part) (u : World) (r : Option Refusal) (more : World → Way) → Going u → ((v : World) → Going v → Going (more v).world) → Going (goes_on xs u r more).world
  then-going xs u None more g go = go u g
  then-going xs u (Some r) more g go = g

  if-going : (b : Bool) (x y : Way) → Going x.world → Going y.world → Going (cond b x y).world
  if-going true x y p q = p
  if-going false x y p q = q

  way-part : (w : World) (p : Plan) → Going w → Going (after_part w p) → Going (part w p).world
  way-part w p g after = if-going (has_room w.events) _ _ after g

  way-drains : (ms : List Member) → ((m : Member) → In m ms → In m members) → (w : World) → Going w → Going (drains w ms).world
  unfolding drains
  way-drains [] all w g = g
  way-drains (m ∷ ms) all w g =
      let x : Way = part w (drain_plan w.control m.a.0 None) in
      if-going (is_copying m.a.0 w.control) _ _
      (then-going x.parts x.world x.refusal (λ v. drains v ms) (way-part w (drain_plan w.control m.a.0 None) g (drain-going w m (all m (inl refl)) g)) (λ v h. way-drains ms (λ q there. all q (inr there)) v h))
      (way-drains ms (λ q there. all q (inr there)) w g)

  way-ask : (w : World) (p : PhaseName) (ms : List Member) (server : ℕ) → ((m : Member) → In m ms → In m members) → Going w → Going (ask w s p ms server).world
  way-ask w p ms server all g =
      let x : Way = cond (is_draining p) (drains w (members_on server ms)) (stays w) in
      then-going x.parts x.world x.refusal (λ v. part v (asking v.control s server true))
      (if-going (is_draining p) _ _ (way-drains (members_on server ms) (λ m here. all m (from-filter (is_on server) ms m here).0) w g) g)
      (λ v h. way-part v (asking v.control s server true) h (asks-going v server h))

  way-turn : (w : World) (p : PhaseName) (ms : List Member) (o : Option ℕ) (more : World → Way) → ((m : Member) → In m ms → In m members) → Going w → ((v : World) → Going v → Going (more v).world) → Going (turn_by w s p ms o more).world
  way-turn w p ms None more all g go = g
  way-turn w p ms (Some server) more all g go = let y : Way = ask w s p ms server in then-going y.parts y.world y.refusal more (way-ask w p ms server all g) go

  way-turns : (bound left : ℕ) (committed : Bool) (w : World) → Going w → Going (turns bound w s left committed).world
  unfolding turns
  way-turns zero left committed w g = if-going (nat_eq left 0) _ _ g g
  way-turns (suc bound) left committed w g = if-going (nat_eq left 0) _ _ g
      (way-turn w (phase_in w.control s) (members_in (session_in w.control.sessions s)) (next_asked (master_in w.control s)) _ (λ m here. subst (In m) g.stands.1 here) g
      (λ v h. way-turns bound (still_left committed (phase_in v.control s) left) (has_committed committed (phase_in w.control s) (phase_in v.control s)) v h))

  pub way-formed : (w : World) (i : ℕ) → Going w → Going (formed w s i).world
  way-formed w i g = if-going (has_room w.events) _ _ (by (session_in w.control.sessions s)) g
    where
      unrefused : (r : Option Refusal) (x : Way) → Going x.world → Going (unless_refused r w x).world
      unrefused None x h = h
      unrefused (Some r) x h = g

      by : (o : Option Session) → Going (form_in w s i o).world
      by None = g
      by (Some x) = unrefused (form_refusal i x.mirror) _ (way-turns (most_turns i) i false w g)

  -- what it tells
  pub run-told : Told Q w0.events (formed w0 s n).world.events
  run-told = (way-formed w0 n (record { told = told-none Q w0.events; stands = (λ v. refl, refl) })).told
