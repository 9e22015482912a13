-- A step in two worlds that differ in fuses alone.
use Rattle.std.proofs.Common.{ℕ, zero, suc, ◌≡◌, ◌⊎◌, inl, inr, refl, ap, ◌∙◌, sym, subst, Bool, true, false, cond, List, [], ◌∷◌, Option, Some, None, Result, Ok, Err, nat_eq}
use Rattle.dr_ids.specs.declared.names.Member.{Member}
use Rattle.dr_ids.specs.declared.refusal.PhaseName.{PhaseName}
use Rattle.dr_ids.specs.declared.refusal.Refusal.{Refusal}
use Rattle.dr_ids.specs.declared.refusal.Refusal.TheVariants.{JournalFull, OutOfOrder}
use Rattle.dr_ids.specs.declared.refusal.Kind.TheVariants.{Session as OfSession}
use Rattle.dr_model.specs.Refusals.{unknown}
use Rattle.dr_model.specs.Answers.{answer}
use Rattle.dr_model.specs.declared.event.Event.{Event}
use Rattle.dr_model.specs.declared.said.Said.{Said}
use Rattle.dr_model.specs.declared.said.Said.TheVariants.{Done}
use Rattle.dr_model.specs.declared.said.Addition.TheVariants.{Alone}
use Rattle.dr_model.specs.declared.step.Name.{Name}
use Rattle.dr_model.specs.declared.step.Step.{Step}
use Rattle.dr_model.specs.declared.step.Step.TheVariants.{Start, StopAfter}
use Rattle.dr_model.specs.declared.step.TornWord.{TornWord}
use Rattle.dr_model.specs.Control.{Control, Fuse, World}
use Rattle.dr_model.specs.Sessions.{Session, Mirror, session_in, mirror_in, members_in}
use Rattle.dr_model.specs.SessionEntries.{members_on}
use Rattle.dr_model.specs.SessionPlans.{asking, exchange_on}
use Rattle.dr_model.specs.PairEntries.{is_copying}
use Rattle.dr_model.specs.PlanParts.{Plan, only_says, server_named, name_bytes}
use Rattle.dr_model.specs.Plans.{plan, refuses, on_named, has_room, has_room_for, start_on, start_plan, arm_on, armed, fuse_at_start, drain_plan, acknowledge_on}
use Rattle.dr_model.specs.WriteEntries.{start_entries}
use Rattle.dr_model.specs.Carried.{carried_out, answered, after_plan, said, masters_lost}
use Rattle.dr_model.specs.Forming.{Part, Way, stays, ends, goes_on, and_then, unless_refused, after_part, part_refusal, refusal_said, part, drains, is_draining, ask, next_asked, master_in, phase_in, has_committed, still_left, turn_by, turns, most_turns, form_refusal, form_in, formed, form_said}
use Rattle.dr_model.specs.Runs.{Task, OwnCourse, Groups, Volumes, Devices, own_course, course_of, answered_part, after_task, image_plan}
use Rattle.dr_model.specs.PlantImage.{Volume}
use Rattle.dr_model.specs.Limits.{image_events}
use Rattle.dr_logic.specs.Tables.{at}
use Rattle.dr_laws_sound.proofs.Cases.{plan-case}
use Rattle.dr_laws_sound.proofs.Parts.{Comes, Ways, asks_turn, comes-drain, comes-asking, way-part, way-drains, way-ask, way-turns, way-formed, compared-case}
use Rattle.dr_laws_fuses.specs.Fuses.{with_fuses, fuse_changed, changed_fuse}
use Rattle.dr_laws_fuses.proofs.Acts.{Goes, Same, at-fuses}
use Rattle.dr_laws_fuses.proofs.Blind.{fused, Blind, blind-append, blind-start}
use Rattle.dr_laws_fuses.proofs.BlindPlans.{PlanBlind, case-blind}
use Rattle.dr_laws_fuses.proofs.PlanTable.{table-blind}
use Rattle.dr_laws_fuses.proofs.Plans.{GoesOn, goes-same, goes-then, Parted, parted-from, parted-on, plan-on, plan-alike}

-- ---- the journal goes on along the ways of an `@run`

abbrev On : World → Way → Type 0
On w x = GoesOn w.events x.world.events

way-on : Ways On
way-on = record { stands = λ w r. goes-same w.events; one = λ w p comes. plan-on w p; then = on }
  where
    on : (w u : World) (xs : List Part) (r : Option Refusal) (more : World → Way) → GoesOn w.events u.events → ((v : World) → On v (more v)) → On w (goes_on xs u r more)
    on w u xs None more first rest = goes-then _ _ _ first (rest u)
    on w u xs (Some r) more first rest = first

-- and over a plan that is answered
answered-on : (w : World) (p : Plan) (line : ℕ) → GoesOn w.events (answered_part line (record { world = w; plan = p })).events
unfolding after_plan
answered-on w p line = goes-then _ _ _ (plan-on w p) (record { more = answer line (answered p (carried_out w p).0.control (carried_out w p).1) ∷ []; is = refl })

-- a drain and an exchange change no fuse as they begin
pub changes-none : (asked : Result Step ℕ) → asks_turn asked ≡ true → fuse_changed asked ≡ None
changes-none (Ok (Start name)) turn = absurd cc
changes-none (Ok (StopAfter name writes torn)) turn = absurd cc
changes-none asked turn = refl

-- what a master asks looks at no fuse
asking-blind : (k : Control) (g : ℕ → Option Fuse) (s server : ℕ) → asking (fused k g) s server true ≡ asking k s server true
asking-blind k g s server = by (mirror_in (session_in k.sessions s)) (members_in (session_in k.sessions s))
  where
    by : (m : Option Mirror) (ms : List Member) → exchange_on (fused k g) s m server true ms ≡ exchange_on k s m server true ms
    by None ms = refl
    by (Some r) ms = refl

module _ (R : ℕ → Option Fuse → Option Fuse → Type 0) (M : ℕ → Type 0) (goes : (q : ℕ) (f g : Option Fuse) (n : ℕ) → R q f g → Goes R M q f g n) where
  abbrev pub Fuses : World → (ℕ → Option Fuse) → Type 0
  Fuses w g = (q : ℕ) → R q (w.control.fuse q) (g q)

  -- the fuse that a line changes stands to the other's as `R` says, then, too
  abbrev pub ChangesAlike : Control → (ℕ → Option Fuse) → Result Step ℕ → Type 0
  ChangesAlike k g asked = (name : Name) (s : ℕ) → fuse_changed asked ≡ Some name → server_named k (name_bytes name) ≡ Some s → R s (changed_fuse asked (k.fuse s)) (changed_fuse asked (g s))

  -- worlds that differ in fuses alone, or whose journals part
  pub record SameWorld (u v : World) : Type 0 where
    pub fuse : ℕ → Option Fuse
    pub is : v ≡ with_fuses u fuse
    pub fuses : Fuses u fuse

  abbrev pub Alike : World → World → World → Type 0
  Alike w u v = SameWorld u v ⊎ Parted M w.events u.events v.events

  -- ---- the plan of a step

  says-blind : (k : Control) (g : ℕ → Option Fuse) → ((q : ℕ) → R q (k.fuse q) (g q)) → (a : Said) → PlanBlind R k g (only_says a)
  says-blind k g all a = record { first = record { fuse = g; is = refl; fuses = all }; entries = tt; follows = λ s. tt; last = λ j h. refl; says = λ j h. refl }

  module _ (k : Control) (g : ℕ → Option Fuse) (all : (q : ℕ) → R q (k.fuse q) (g q)) (events : List Event) (line : ℕ) where
    room : (b : Bool) (p : Plan) → PlanBlind R k g p → PlanBlind R k g (cond b p (refuses JournalFull))
    room true p blind = blind
    room false p blind = says-blind k g all _

    start-blind : (name : Name) → ChangesAlike k g (Ok (Start name)) → PlanBlind R k g (plan k events line (Ok (Start name)))
    start-blind name alike = room (has_room events) (on_named (server_named k (name_bytes name)) (start_on k)) (named (server_named k (name_bytes name)) (λ s is. alike name s refl is))
      where
        starts : (s : ℕ) → R s (fuse_at_start (k.fuse s)) (fuse_at_start (g s)) → PlanBlind R k g (start_plan k s)
        starts s fuse = record {
          first = record { fuse = at g s (fuse_at_start (g s)); is = refl; fuses = at-fuses R k.fuse g s _ _ all fuse };
          entries = blind-append (start_entries s k.volumes) (acknowledge_on s ∷ []) (blind-start s k.volumes) ((λ j h. refl), tt);
          follows = λ q. tt;
          last = λ j h. refl;
          says = λ j h. refl;
        }

        on : (s : ℕ) (b : Bool) → R s (fuse_at_start (k.fuse s)) (fuse_at_start (g s)) → PlanBlind R k g (cond b (only_says (Done Alone)) (start_plan k s))
        on s true fuse = says-blind k g all _
        on s false fuse = starts s fuse

        named : (o : Option ℕ) → ((s : ℕ) → o ≡ Some s → R s (fuse_at_start (k.fuse s)) (fuse_at_start (g s))) → PlanBlind R k g (on_named o (start_on k))
        named None fuse = says-blind k g all _
        named (Some s) fuse = on s (k.on s) (fuse s refl)

    arm-blind : (name : Name) (writes : ℕ) (torn : TornWord) → ChangesAlike k g (Ok (StopAfter name writes torn)) → PlanBlind R k g (plan k events line (Ok (StopAfter name writes torn)))
    arm-blind name writes torn alike = room (has_room events) (on_named (server_named k (name_bytes name)) (arm_on writes torn)) (named (server_named k (name_bytes name)) (λ s is. alike name s refl is))
      where
        named : (o : Option ℕ) → ((s : ℕ) → o ≡ Some s → R s (Some (armed writes torn)) (Some (armed writes torn))) → PlanBlind R k g (on_named o (arm_on writes torn))
        named None fuse = says-blind k g all _
        named (Some s) fuse = record { first = record { fuse = at g s (Some (armed writes torn)); is = refl; fuses = at-fuses R k.fuse g s _ _ all (fuse s refl) }; entries = tt; follows = λ q. tt; last = λ j h. refl; says = λ j h. refl }

    pub plan-blind : (asked : Result Step ℕ) → ChangesAlike k g asked → PlanBlind R k g (plan k events line asked)
    plan-blind (Ok (Start name)) alike = start-blind name alike
    plan-blind (Ok (StopAfter name writes torn)) alike = arm-blind name writes torn alike
    plan-blind asked alike = case-blind R k g all events line asked _ refl (plan-case k events line asked)

  -- ---- a plan, and the masters that are lost as it ends

  -- the answer of a plan
  answer-blind : (p : Plan) (k : Control) (h : ℕ → Option Fuse) (r : Option Refusal) → Blind p.says → answered p (fused k h) r ≡ answered p k r
  answer-blind p k h None blind = blind k h
  answer-blind p k h (Some r) blind = refl

  module _ (w : World) (g : ℕ → Option Fuse) (p : Plan) (blind : PlanBlind R w.control g p) (all : Fuses w g) where
    abbrev u : World
    u = with_fuses w g

    -- without an answer
    part-alike : Alike w (after_part w p) (after_part u p) × (part_refusal w p ≡ part_refusal u p) ⊎ Parted M w.events (after_part w p).events (after_part u p).events
    part-alike = by (plan-alike R M goes w g p blind all)
      where
        by : Same R (carried_out w p) (carried_out u p) ⊎ Parted M w.events (carried_out w p).0.events (carried_out u p).0.events
            → Alike w (after_part w p) (after_part u p) × (part_refusal w p ≡ part_refusal u p) ⊎ Parted M w.events (after_part w p).events (after_part u p).events
        by (inl same) = inl (
          inl (record { fuse = same.fuse; is = ap (λ (o : World × Option Refusal). masters_lost u o.0) same.is; fuses = same.fuses }),
          sym (ap (λ (o : World × Option Refusal). refusal_said (answered p o.0.control o.1)) same.is ∙ ap refusal_said (answer-blind p (carried_out w p).0.control same.fuse (carried_out w p).1 blind.says)),
        )
        by (inr parted) = inr parted

    -- with one
    answered-alike : (line : ℕ) → Alike w (answered_part line (record { world = w; plan = p })) (answered_part line (record { world = u; plan = p }))
    unfolding after_plan
    answered-alike line = by (plan-alike R M goes w g p blind all)
      where
        one : Said
        one = answered p (carried_out w p).0.control (carried_out w p).1

        other : Said
        other = answered p (carried_out u p).0.control (carried_out u p).1

        by : Same R (carried_out w p) (carried_out u p) ⊎ Parted M w.events (carried_out w p).0.events (carried_out u p).0.events
            → Alike w (masters_lost w (said (carried_out w p).0 line (answered p (carried_out w p).0.control (carried_out w p).1))) (masters_lost u (said (carried_out u p).0 line (answered p (carried_out u p).0.control (carried_out u p).1)))
        by (inl same) = inl (record {
          fuse = same.fuse;
          is = ap (λ (o : World × Option Refusal). masters_lost u (said o.0 line (answered p o.0.control o.1))) same.is
              ∙ ap (λ a. masters_lost u (said (with_fuses (carried_out w p).0 same.fuse) line a)) (answer-blind p (carried_out w p).0.control same.fuse (carried_out w p).1 blind.says);
          fuses = same.fuses;
        })
        by (inr parted) = inr (parted-on M w.events _ _ _ _ parted (record { more = answer line (answered p (carried_out w p).0.control (carried_out w p).1) ∷ []; is = refl })
            (record { more = answer line (answered p (carried_out u p).0.control (carried_out u p).1) ∷ []; is = refl }))

  -- ---- the ways of an `@run`

  record SameWay (x y : Way) : Type 0 where
    world : SameWorld x.world y.world
    refusal : x.refusal ≡ y.refusal

  abbrev WayAlike : World → Way → Way → Type 0
  WayAlike w x y = SameWay x y ⊎ Parted M w.events x.world.events y.world.events

  way-stands : (w : World) (g : ℕ → Option Fuse) (r : Option Refusal) → Fuses w g → WayAlike w (record { parts = []; world = w; refusal = r }) (record { parts = []; world = with_fuses w g; refusal = r })
  way-stands w g r all = inl (record { world = record { fuse = g; is = refl; fuses = all }; refusal = refl })

  way-if : (w : World) (b : Bool) (x y v z : Way) → WayAlike w x v → WayAlike w y z → WayAlike w (cond b x y) (cond b v z)
  way-if w true x y v z a c = a
  way-if w false x y v z a c = c

  way-part-alike : (w : World) (g : ℕ → Option Fuse) (p q : Plan) → (has_room w.events ≡ true → Comes w p) → q ≡ p → Fuses w g → WayAlike w (part w p) (part (with_fuses w g) q)
  way-part-alike w g p q comes is all = subst (λ q. WayAlike w (part w p) (part (with_fuses w g) q)) (sym is) (by (has_room w.events) comes)
    where
      u : World
      u = with_fuses w g

      one : Comes w p → WayAlike w (record { parts = record { world = w; plan = p } ∷ []; world = after_part w p; refusal = part_refusal w p })
          (record { parts = record { world = with_fuses w g; plan = p } ∷ []; world = after_part (with_fuses w g) p; refusal = part_refusal (with_fuses w g) p })
      one c = ways (part-alike w g p (case-blind R w.control g all w.events 0 c.asked p (changes-none c.asked c.asks) (c.case 0)) all)
        where
          ways : Alike w (after_part w p) (after_part (with_fuses w g) p) × (part_refusal w p ≡ part_refusal (with_fuses w g) p) ⊎ Parted M w.events (after_part w p).events (after_part (with_fuses w g) p).events
              → WayAlike w (record { parts = record { world = w; plan = p } ∷ []; world = after_part w p; refusal = part_refusal w p })
              (record { parts = record { world = with_fuses w g; plan = p } ∷ []; world = after_part (with_fuses w g) p; refusal = part_refusal (with_fuses w g) p })
          ways (inl (inl same, refusal)) = inl (record { world = same; refusal = refusal })
          ways (inl (inr parted, refusal)) = inr parted
          ways (inr parted) = inr parted

      by : (b : Bool) → (b ≡ true → Comes w p) → WayAlike w (cond b (record { parts = record { world = w; plan = p } ∷ []; world = after_part w p; refusal = part_refusal w p }) (ends w JournalFull))
          (cond b (record { parts = record { world = with_fuses w g; plan = p } ∷ []; world = after_part (with_fuses w g) p; refusal = part_refusal (with_fuses w g) p }) (ends (with_fuses w g) JournalFull))
      by true comes = one (comes refl)
      by false comes = way-stands w g (Some JournalFull) all

  -- one way, and then another
  way-then : (w : World) (x y : Way) (more : World → Way) → WayAlike w x y → On w x → ((v : World) → On v (more v)) → ((v : World) (h : ℕ → Option Fuse) → Fuses v h → WayAlike v (more v) (more (with_fuses v h)))
      → WayAlike w (and_then x more) (and_then y more)
  way-then w x y more (inr parted) on grows rest = inr (parted-on M w.events _ _ _ _ parted (further x.parts x.world x.refusal) (further y.parts y.world y.refusal))
    where
      further : (xs : List Part) (v : World) (r : Option Refusal) → GoesOn v.events (goes_on xs v r more).world.events
      further xs v None = grows v
      further xs v (Some r) = goes-same v.events
  way-then w x y more (inl same) on grows rest = subst (λ r. WayAlike w (and_then x more) (goes_on y.parts y.world r more)) same.refusal
      (subst (λ v. WayAlike w (and_then x more) (goes_on y.parts v x.refusal more)) (sym same.world.is) (by x.refusal))
    where
      further : WayAlike x.world (more x.world) (more (with_fuses x.world same.world.fuse)) → WayAlike w (goes_on x.parts x.world None more) (goes_on y.parts (with_fuses x.world same.world.fuse) None more)
      further (inl one) = inl (record { world = one.world; refusal = one.refusal })
      further (inr parted) = inr (parted-from M w.events x.world.events _ _ on parted)

      by : (r : Option Refusal) → WayAlike w (goes_on x.parts x.world r more) (goes_on y.parts (with_fuses x.world same.world.fuse) r more)
      by None = further (rest x.world same.world.fuse same.world.fuses)
      by (Some r) = inl (record { world = record { fuse = same.world.fuse; is = refl; fuses = same.world.fuses }; refusal = refl })

  drains-alike : (w : World) (g : ℕ → Option Fuse) (ms : List Member) → Fuses w g → WayAlike w (drains w ms) (drains (with_fuses w g) ms)
  unfolding drains
  drains-alike w g [] all = way-stands w g None all
  drains-alike w g (m ∷ ms) all =
      let u : World = with_fuses w g in
      let p : Plan = drain_plan w.control m.a.0 None in
      way-if w (is_copying m.a.0 w.control) _ _ _ _
      (way-then w (part w p) (part u p) (λ v. drains v ms) (way-part-alike w g p p (comes-drain w m.a.0) refl all) (way-part On way-on w p (comes-drain w m.a.0)) (λ v. way-drains On way-on v ms) (λ v h fuses. drains-alike v h ms fuses))
      (drains-alike w g ms all)

  ask-alike : (w : World) (g : ℕ → Option Fuse) (s : ℕ) (p : PhaseName) (ms : List Member) (server : ℕ) → Fuses w g → WayAlike w (ask w s p ms server) (ask (with_fuses w g) s p ms server)
  ask-alike w g s p ms server all =
      let u : World = with_fuses w g in
      way-then w (first w) (first u) (λ v. part v (asking v.control s server true)) (way-if w (is_draining p) _ _ _ _ (drains-alike w g (members_on server ms) all) (way-stands w g None all)) (drained (is_draining p))
      (λ v. way-part On way-on v (asking v.control s server true) (comes-asking v s server))
      (λ v h fuses. way-part-alike v h (asking v.control s server true) (asking (with_fuses v h).control s server true) (comes-asking v s server) (asking-blind v.control h s server) fuses)
    where
      first : World → Way
      first v = cond (is_draining p) (drains v (members_on server ms)) (stays v)

      drained : (b : Bool) → On w (cond b (drains w (members_on server ms)) (stays w))
      drained true = way-drains On way-on w (members_on server ms)
      drained false = goes-same w.events

  turn-alike : (w : World) (g : ℕ → Option Fuse) (s : ℕ) (p : PhaseName) (ms : List Member) (o : Option ℕ) (more : World → Way) → Fuses w g → ((v : World) → On v (more v))
      → ((v : World) (h : ℕ → Option Fuse) → Fuses v h → WayAlike v (more v) (more (with_fuses v h))) → WayAlike w (turn_by w s p ms o more) (turn_by (with_fuses w g) s p ms o more)
  turn-alike w g s p ms None more all grows rest = way-stands w g (Some (OutOfOrder p)) all
  turn-alike w g s p ms (Some server) more all grows rest = way-then w (ask w s p ms server) (ask (with_fuses w g) s p ms server) more (ask-alike w g s p ms server all) (way-ask On way-on w s p ms server) grows rest

  turns-alike : (bound : ℕ) (w : World) (g : ℕ → Option Fuse) (s left : ℕ) (committed : Bool) → Fuses w g → WayAlike w (turns bound w s left committed) (turns bound (with_fuses w g) s left committed)
  unfolding turns
  turns-alike zero w g s left committed all = way-if w (nat_eq left 0) _ _ _ _ (way-stands w g None all) (way-stands w g (Some (OutOfOrder (phase_in w.control s))) all)
  turns-alike (suc bound) w g s left committed all = way-if w (nat_eq left 0) _ _ _ _ (way-stands w g None all)
      (turn-alike w g s (phase_in w.control s) (members_in (session_in w.control.sessions s)) (next_asked (master_in w.control s))
      (λ v. turns bound v s (still_left committed (phase_in v.control s) left) (has_committed committed (phase_in w.control s) (phase_in v.control s))) all
      (λ v. way-turns On way-on bound v s _ _) (λ v h fuses. turns-alike bound v h s _ _ fuses))

  formed-alike : (w : World) (g : ℕ → Option Fuse) (s n : ℕ) → Fuses w g → WayAlike w (formed w s n) (formed (with_fuses w g) s n)
  formed-alike w g s n all = way-if w (has_room w.events) _ _ _ _ (by (session_in w.control.sessions s)) (way-stands w g (Some JournalFull) all)
    where
      unrefused : (r : Option Refusal) (x y : Way) → WayAlike w x y → WayAlike w (unless_refused r w x) (unless_refused r (with_fuses w g) y)
      unrefused None x y a = a
      unrefused (Some r) x y a = way-stands w g (Some r) all

      by : (o : Option Session) → WayAlike w (form_in w s n o) (form_in (with_fuses w g) s n o)
      by None = way-stands w g (Some (unknown OfSession)) all
      by (Some x) = unrefused (form_refusal n x.mirror) _ _ (turns-alike (most_turns n) w g s n false all)

  -- ---- a step

  module _ (w : World) (g : ℕ → Option Fuse) (all : Fuses w g) (line : ℕ) where
    abbrev other : World
    other = with_fuses w g

    one-alike : (p q : Plan) → PlanBlind R w.control g p → q ≡ p → Alike w (answered_part line (record { world = w; plan = p })) (answered_part line (record { world = other; plan = q }))
    one-alike p q blind is = subst (λ q. Alike w (answered_part line (record { world = w; plan = p })) (answered_part line (record { world = other; plan = q }))) (sym is) (answered-alike w g p blind all line)

    -- an `@run`, which is answered at its end
    run-alike : (s : ℕ) (x y : Way) → On w x → WayAlike w x y
        → Alike w (answered_part line (record { world = x.world; plan = only_says (form_said s x.world.control x.refusal) })) (answered_part line (record { world = y.world; plan = only_says (form_said s y.world.control y.refusal) }))
    run-alike s x y on (inl same) = subst (λ r. Alike w (last x.world x.refusal) (last y.world r)) same.refusal (subst (λ v. Alike w (last x.world x.refusal) (last v x.refusal)) (sym same.world.is) (further (at-end same.world)))
      where
        last : World → Option Refusal → World
        last v r = answered_part line (record { world = v; plan = only_says (form_said s v.control r) })

        at-end : (same : SameWorld x.world y.world) → Alike x.world (last x.world x.refusal) (last (with_fuses x.world same.fuse) x.refusal)
        at-end same = let a : Said = form_said s x.world.control x.refusal in answered-alike x.world same.fuse (only_says a) (says-blind x.world.control same.fuse same.fuses a) same.fuses line

        further : Alike x.world (last x.world x.refusal) (last (with_fuses x.world same.world.fuse) x.refusal) → Alike w (last x.world x.refusal) (last (with_fuses x.world same.world.fuse) x.refusal)
        further (inl one) = inl one
        further (inr parted) = inr (parted-from M w.events x.world.events _ _ on parted)
    run-alike s x y on (inr parted) = inr (parted-on M w.events _ _ _ _ parted (answered-on x.world _ line) (answered-on y.world _ line))

    -- any step
    pub task-alike : (asked : Result Step ℕ) (listed : List Volume) → ChangesAlike w.control g asked
        → (let t : Task = record { line = line; asked = asked; listed = listed } in Alike w (after_task w t) (after_task other t))
    task-alike asked listed alike = by (own_course asked)
      where
        t : Task
        t = record { line = line; asked = asked; listed = listed }

        by : (o : Option OwnCourse) → Alike w (answered_part line (course_of w (record { line = line; asked = asked; listed = listed }) o).last) (answered_part line (course_of other (record { line = line; asked = asked; listed = listed }) o).last)
        by None = one-alike _ _ (plan-blind w.control g all w.events line asked alike) (table-blind w.control g line w.events asked)
        by (Some (Groups s n)) = run-alike s (formed w s n) (formed other s n) (way-formed On way-on w s n) (formed-alike w g s n all)
        by (Some (Volumes v u)) = one-alike _ _ (case-blind R w.control g all w.events line (Err 0) _ refl (compared-case w line (Err 0) v u)) refl
        by (Some Devices) = one-alike _ _ (images (has_room_for image_events w.events)) refl
          where
            images : (b : Bool) → PlanBlind R w.control g (cond b (image_plan listed) (refuses JournalFull))
            images true = record { first = record { fuse = g; is = refl; fuses = all }; entries = tt; follows = λ s. tt; last = λ j h. refl; says = λ j h. refl }
            images false = says-blind w.control g all _
