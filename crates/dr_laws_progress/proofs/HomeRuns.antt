-- The lines of the way home, one after another, each answered ok until a server stops on which a fuse was armed.
use Rattle.std.proofs.Common.{ℕ, ◌≡◌, ◌≢◌, ◌⊎◌, inl, inr, refl, ap, sym, ◌∙◌, subst, Bool, true, false, cond, not, ◌&&◌, List, [], ◌∷◌, ◌++◌, Some, None, Ok}
use Rattle.std.specs.FinSet.{len}
use Rattle.std.proofs.lemmas.Bool.{and_parts, and_from, eqb-true, not-true}
use Rattle.dr_ids.specs.declared.refusal.Refusal.TheVariants.{Stopped, Held, JournalFull}
use Rattle.dr_ids.specs.declared.refusal.Kind.TheVariants.{Path as OfPath, Volume as OfVolume}
use Rattle.dr_model.specs.Refusals.{stopped, server_off, unknown}
use Rattle.dr_model.specs.declared.said.Addition.TheVariants.{Alone, Counted}
use Rattle.dr_model.specs.declared.said.Said.{Said}
use Rattle.dr_model.specs.declared.said.Said.TheVariants.{Done, Refused}
use Rattle.dr_model.specs.declared.state.Part.TheVariants.{Global}
use Rattle.dr_model.specs.declared.state.PairState.TheVariants.{CopyPending}
use Rattle.dr_model.specs.declared.step.Step.{Step}
use Rattle.dr_model.specs.declared.step.Step.TheVariants.{ResumePair, Failback, Failover, Drain}
use Rattle.dr_model.specs.Layout.{Fields, is_part}
use Rattle.dr_model.specs.Relations.{is_bare}
use Rattle.dr_model.specs.Pairs.{is_kind, is_pending, holds_back}
use Rattle.dr_model.specs.Control.{Control, World}
use Rattle.dr_model.specs.Carry.{Entry, Outcome, carry}
use Rattle.dr_model.specs.Entries.{fields_at, is_running, is_settled, stands_in, is_revertible, relation_state, pair_state, secondary_state}
use Rattle.dr_model.specs.PairEntries.{has_path, are_linked, link_down, reach_refusal, is_copying, belongs_to}
use Rattle.dr_model.specs.PlanParts.{Plan, entries_plan, refuses}
use Rattle.dr_model.specs.Plans.{plan, plan_of, has_room, is_defined, failback_plan, failover_plan, resume_pair_plan, drain_plan}
use Rattle.dr_model.specs.Carried.{begun, finish, answered, stop_place, said, masters_lost}
use Rattle.dr_model.specs.Forming.{Part as CoursePart}
use Rattle.dr_model.specs.Runs.{Task, own_course, course_of, course, answered_part, after_task, run}
use Rattle.dr_model.specs.Laws.{Sound}
use Rattle.dr_model.proofs.CarryLemmas.{plan-ends}
use Rattle.dr_laws_sound.specs.Acknowledged.{said_in, part_answer}
use Rattle.dr_laws_sound.proofs.ChecksFirst.{on-stays}
use Rattle.dr_laws_sound.proofs.FitsFlash.{as_begun}
use Rattle.dr_laws_sound.proofs.FitsPairs.{its-first, its-second}
use Rattle.dr_laws_sound.proofs.Journal.{run-more}
use Rattle.dr_laws_sound.proofs.RefusedSteps.{lost-stays}
use Rattle.dr_laws_sound.proofs.Steps.{sound-run}
use Rattle.dr_laws_return.specs.Drains.{Ending, EndsSo, EndsOrStops, drain_ends, stays, sent, parted}
use Rattle.dr_laws_return.proofs.DrainAnswers.{drains-or-stops}
use Rattle.dr_laws_return.proofs.Returned.{Ends, drain-goes}
use Rattle.dr_laws_progress.specs.PairWays.{Sides, sides, CopiesWith}
use Rattle.dr_laws_progress.specs.Home.{LeadEachOther, HomeIsOpen, unnamed, HomeLines, IsSuspendedTo, ResumeLine, IsStopped, AnswersThen, sends_all, InPlace, EndsHome, LeadsOver, LeadsBack, LeadsHome, GoesHome}
use Rattle.dr_laws_progress.proofs.PairMoves.{copies-part}
use Rattle.dr_laws_progress.proofs.HomeKept.{Near, open-stays}
use Rattle.dr_laws_progress.proofs.HomeSteps.{Fused, GoesTo, TurnedIn, primary-of, secondary-of, failback-goes, failover-goes, resume-goes}
use Rattle.dr_laws_progress.proofs.HomeDrains.{plain-unless, Keeps, drain-keeps, drain-fused}

-- a world is like one before it, with the same servers on, and no other fuse armed
record Onward (w u : World) : Type 0 where
  near : Near w u
  on : u.control.on ≡ w.control.on
  fused : Fused w u

-- A step is so stopped; or it answers a, and leads to such a world, of which Q holds.
abbrev LineEnds : World → Task → Said → (World → Type 0) → Type 0
LineEnds w t a Q = let u : World = after_task w t in IsStopped w w t ⊎ ((said_in w t ≡ a) × (Onward w u × Q u))

stays-open : (w u : World) → Onward w u → (a b : ℕ) → HomeIsOpen w.control a b → HomeIsOpen u.control a b
stays-open w u o = open-stays w u o.near o.on

onward-said : (w v : World) (line : ℕ) (a : Said) → Onward w v → Onward w (said v line a)
onward-said w v line a o = let n = o.near in record { near = record { server = n.server; link = n.link; paths = n.paths; volumes = n.volumes; sessions = n.sessions; kin = n.kin }; on = o.on; fused = o.fused }

module _ (w : World) (t : Task) where
  abbrev pub part : Plan → CoursePart
  part p = record { world = w; plan = p }

  -- the plan of a step that has no course of its own, where the journal has room
  pub last-is : (q : Step) → own_course (Ok q) ≡ None → t.asked ≡ Ok q → has_room w.events ≡ true → (course w t).last ≡ part (plan_of w.control w.events t.line q)
  last-is q alone asked room =
      (λ i. (course_of w t (own_course (asked i))).last) ∙ ap (λ o. (course_of w t o).last) alone
      ∙ (ap (λ a. part (plan w.control w.events t.line a)) asked ∙ ap (λ b. part (cond b (plan_of w.control w.events t.line q) (refuses JournalFull))) room)

  module _ (p : Plan) (here : (course w t).last ≡ part p) (o : Outcome) (is : carry (begun w p) p.entries ≡ o) where
    abbrev pub end : World
    end = finish p (stop_place w p) o.0 o.1

    pub says-is : said_in w t ≡ answered p end.control o.1
    says-is = ap part_answer here ∙ ap (λ (o : Outcome). answered p (finish p (stop_place w p) o.0 o.1).control o.1) is

    left-is : after_task w t ≡ masters_lost w (said end t.line (answered p end.control o.1))
    left-is = ap (answered_part t.line) here ∙ ap (masters_lost w) (plan-ends w t.line p o is)

  -- a plan of entries that go so
  line-ends : (ds : List Entry) (Q : World → Type 0) → ((v : World) (a : Said) → Q v → Q (said v t.line a)) → (course w t).last ≡ part (entries_plan ds (Done Alone)) → GoesTo w Q (carry (as_begun w) ds) → LineEnds w t (Done Alone) Q
  line-ends ds Q more here (inl (v, (is, (near, (fused, holds))))) =
      let p : Plan = entries_plan ds (Done Alone) in
      let on : v.control.on ≡ w.control.on = on-stays (as_begun w) v ds is in
      let left : after_task w t ≡ said v t.line (Done Alone) = left-is p here (v, None) is ∙ lost-stays w (said v t.line (Done Alone)) on in
      inr (says-is p here (v, None) is, subst (λ (u : World). Onward w u × Q u) (sym left) (onward-said w v t.line (Done Alone) (record { near = near; on = on; fused = fused }), more v (Done Alone) holds))
  line-ends ds Q more here (inr (v, (q, (is, armed)))) =
      inl (record { server = q; is = says-is (entries_plan ds (Done Alone)) here (v, Some (stopped q)) is; armed = armed })

-- ---- drains

-- the parts of how one can be reached
record Reached (k : Control) (x y : ℕ) : Type 0 where
  path : has_path x y k ≡ true
  runs : is_running y k ≡ true
  linked : are_linked x y k ≡ true

reached-by : (k : Control) (x y : ℕ) → reach_refusal x y k ≡ None → Reached k x y
reached-by k x y none = by (has_path x y k) (is_running y k) (are_linked x y k) refl refl refl none
  where
    by : (p r l : Bool) → has_path x y k ≡ p → is_running y k ≡ r → are_linked x y k ≡ l
        → cond (not p) (Some (unknown OfPath)) (cond (not r) (Some (server_off (k.volume y).server)) (cond (not l) (Some (link_down (k.volume x).server (k.volume y).server)) None)) ≡ None → Reached k x y
    by true true true a b c h = record { path = a; runs = b; linked = c }
    by false r l a b c h = absurd cc
    by true false l a b c h = absurd cc
    by true true false a b c h = absurd cc

module _ (w : World) (s : Sound w) (x y : ℕ) (turned : TurnedIn x y w) (on_x : is_running x w.control ≡ true) (reach : reach_refusal x y w.control ≡ None) (settled : is_settled y w.control ≡ true) where
  abbrev k : Control
  k = w.control

  abbrev f : Fields
  f = fields_at k x

  abbrev q : ℕ
  q = f.primary_partner

  -- what is known of y is known of the partner of x
  of-partner : (P : ℕ → Type 0) → P y → P q
  of-partner P = subst P (sym turned.leads.1)

  reached : Reached k x q
  reached = of-partner (Reached k x) (reached-by k x y reach)

  there : is_defined x k ≡ true
  there = (s.rows.parts.primary y x (its-first x (fields_at k y) (secondary-of x (fields_at k y) turned.follows))).defined

  copying : is_copying x k ≡ true
  copying = and_from _ _ (copies-part f.primary q y turned.leads) (ap is_pending turned.pending)

  follows : belongs_to x q k ≡ true
  follows = of-partner (λ v. belongs_to x v k ≡ true) (secondary-of x (fields_at k y) turned.follows)

  free : stands_in is_revertible k q ≡ false
  free = of-partner (λ v. stands_in is_revertible k v ≡ false) (not-true _ (and_parts (not (stands_in is_revertible k y)) _ settled).0)

  let_in : holds_back (fields_at k q) ≡ false
  let_in = of-partner (λ v. holds_back (fields_at k v) ≡ false) (ap (λ p. (p && is_part (fields_at k y).secondary) && (fields_at k y).coordination) turned.y_first)

  abbrev n : ℕ
  n = len f.out_of_sync

  ends-is : drain_ends k x ≡ cond (is_bare f.out_of_sync) (stays f (Done (Counted 0))) (sent x f.primary n)
  ends-is i =
      cond (not (there i)) (stays f (Refused (unknown OfVolume)))
      (cond (not (on_x i)) (stays f (Refused (server_off (k.volume x).server)))
      (cond (not (copying i)) (stays f (Refused (pair_state k x)))
      (cond (is_bare f.out_of_sync) (stays f (Done (Counted 0)))
      (cond (not (reached.path i)) (parted x (unknown OfPath))
      (cond (not (reached.runs i)) (parted x (server_off (k.volume q).server))
      (cond (not (reached.linked i)) (parted x (link_down (k.volume x).server (k.volume q).server))
      (cond (not (follows i)) (parted x (secondary_state k q))
      (cond (free i) (stays f (Refused (relation_state k q)))
      (cond (let_in i) (stays f (Refused (Held (record { 0 = q })))) (sent x f.primary n))))))))))

  -- so it sends all, and stays in Copy Pending
  record IsSent (e : Ending) : Type 0 where
    answer : e.answer ≡ Done (Counted n)
    state : e.state ≡ CopyPending

  is-sent : IsSent (drain_ends k x)
  is-sent = subst IsSent (sym ends-is) (by (is_bare f.out_of_sync) refl)
    where
      by : (bare : Bool) → is_bare f.out_of_sync ≡ bare → IsSent (cond bare (stays f (Done (Counted 0))) (sent x f.primary n))
      by true bare = record { answer = ap (λ c. Done (Counted c)) (sym (eqb-true n 0 bare)); state = turned.pending }
      by false bare = record { answer = ap (λ p. (sent x p n).answer) turned.leads.0; state = ap (λ p. (sent x p n).state) turned.leads.0 }

  module _ (t : Task) (asked : t.asked ≡ Ok (Drain x None)) (room : has_room w.events ≡ true) where
    abbrev u : World
    u = after_task w t

    drained : said_in w t ≡ Done (Counted n) → (fields_at u.control x).primary_state ≡ CopyPending → LineEnds w t (sends_all w x) (TurnedIn x y)
    drained says pending =
        let ends : Ends w (drain_plan k x None).entries u = drain-goes w t x (Counted n) asked says in
        let on : ends.led.control.on ≡ w.control.on = on-stays (as_begun w) ends.led (drain_plan k x None).entries ends.leads in
        let left = left-is w t (drain_plan k x None) (last-is w t (Drain x None) refl asked room) (ends.led, None) ends.leads ∙ lost-stays w _ on in
        let keeps : Keeps w (plain-unless w s) ends.led = drain-keeps w (plain-unless w s) x ends.led ends.leads in
        let pairs : ((v : ℕ) → sides (fields_at u.control v) ≡ sides (fields_at k v)) = λ v. ap (λ (z : World). sides (fields_at z.control v)) left ∙ keeps.pairs v in
        let onward : Onward w ends.led = record { near = keeps.near; on = on; fused = drain-fused w (plain-unless w s) x ends.led ends.leads } in
        inr (
          says,
          (
            subst (Onward w) (sym left) (onward-said w ends.led t.line (answered (drain_plan k x None) ends.led.control None) onward),
            record {
              leads = (ap (λ (z : Sides). z.primary) (pairs x) ∙ turned.leads.0, ap (λ (z : Sides). z.to) (pairs x) ∙ turned.leads.1);
              pending = pending;
              x_second = ap (λ (z : Sides). is_part z.secondary) (pairs x) ∙ turned.x_second;
              follows = (ap (λ (z : Sides). z.secondary) (pairs y) ∙ turned.follows.0, ap (λ (z : Sides). z.from) (pairs y) ∙ turned.follows.1);
              y_first = ap (λ (z : Sides). is_part z.primary) (pairs y) ∙ turned.y_first;
            },
          ),
        )

    drain-ends : EndsOrStops w (drain_ends k x) u x (said_in w t) → LineEnds w t (sends_all w x) (TurnedIn x y)
    drain-ends e = by (said_in w t) refl e
      where
        well : EndsSo (drain_ends k x) w u x (said_in w t) → LineEnds w t (sends_all w x) (TurnedIn x y)
        well e = drained (e.answer ∙ is-sent.answer) (e.state ∙ is-sent.state)

        by : (a : Said) → said_in w t ≡ a → EndsOrStops w (drain_ends k x) u x a → LineEnds w t (sends_all w x) (TurnedIn x y)
        by (Refused (Stopped server)) is e = inl (record { server = server.0; is = is; armed = e.1 })
        by a is e = well (subst (EndsSo (drain_ends k x) w u x) (sym is) e)

-- ---- the lines one after another

module _ (w : World) (s : Sound w) where
  second-there : (x y : ℕ) → CopiesWith (fields_at w.control x).primary (fields_at w.control x).primary_partner y → is_defined y w.control ≡ true
  second-there x y leads = (s.rows.parts.secondary x y (its-second y (fields_at w.control x) (primary-of y (fields_at w.control x) leads))).defined

  first-there : (x y : ℕ) → CopiesWith (fields_at w.control y).secondary (fields_at w.control y).secondary_partner x → is_defined x w.control ≡ true
  first-there x y follows = (s.rows.parts.primary y x (its-first x (fields_at w.control y) (secondary-of x (fields_at w.control y) follows))).defined

  apart : (x y : ℕ) → CopiesWith (fields_at w.control x).primary (fields_at w.control x).primary_partner y → y ≢ x
  apart x y leads e = (s.rows.parts.secondary x y (its-second y (fields_at w.control x) (primary-of y (fields_at w.control x) leads))).apart (ap (λ v. (w.control.volume v).server) (sym e))

-- a failback from x to y, of two volumes that lead to each other
failback-line : (w : World) → Sound w → (t : Task) (x y : ℕ) → t.asked ≡ Ok (Failback unnamed x y 2) → has_room w.events ≡ true → LeadEachOther w.control x y → HomeIsOpen w.control x y → LineEnds w t (Done Alone) (TurnedIn x y)
failback-line w s t x y asked room lead clear =
    line-ends w t (failback_plan w.control unnamed x y Global).entries (TurnedIn x y) (λ v a q. q) (last-is w t (Failback unnamed x y 2) refl asked room)
    (failback-goes w x y (apart w s x y lead.leads) (second-there w s y x lead.back) (second-there w s x y lead.leads) clear.a_on clear.b_on lead.leads lead.back lead.a_second lead.b_second clear.there clear.a_settled clear.b_settled clear.b_yields)

-- the way home is open from either volume
turned-open : (k : Control) (a b : ℕ) → HomeIsOpen k a b → HomeIsOpen k b a
turned-open k a b o = record { a_on = o.b_on; b_on = o.a_on; there = o.back; back = o.there; a_settled = o.b_settled; b_settled = o.a_settled; a_yields = o.b_yields; b_yields = o.a_yields }

turned-lead : (k : Control) (a b : ℕ) → LeadEachOther k a b → LeadEachOther k b a
turned-lead k a b l = record { leads = l.back; back = l.leads; a_second = l.b_second; b_second = l.a_second }

-- a failover of y, the secondary of x
failover-line : (w : World) → Sound w → (t : Task) (x y : ℕ) → t.asked ≡ Ok (Failover unnamed y x 2) → has_room w.events ≡ true → TurnedIn x y w → HomeIsOpen w.control x y → LineEnds w t (Done Alone) (λ u. LeadEachOther u.control y x)
failover-line w s t x y asked room turned clear =
    line-ends w t (failover_plan w.control unnamed y x Global).entries (λ u. LeadEachOther u.control y x)
    (λ v a q. record { leads = q.leads; back = q.back; a_second = q.a_second; b_second = q.b_second }) (last-is w t (Failover unnamed y x 2) refl asked room)
    (failover-goes w x y (apart w s x y turned.leads) (first-there w s x y turned.follows) (second-there w s x y turned.leads) clear.a_on clear.b_on turned)

-- a Suspended pair goes on
resume-line : (w : World) → Sound w → (t : Task) (x y : ℕ) → t.asked ≡ Ok (ResumePair unnamed x y 2) → has_room w.events ≡ true → IsSuspendedTo w.control x y → HomeIsOpen w.control x y → LineEnds w t (Done Alone) (TurnedIn x y)
resume-line w s t x y asked room parted clear =
    line-ends w t (resume_pair_plan w.control unnamed x y Global).entries (TurnedIn x y) (λ v a q. q) (last-is w t (ResumePair unnamed x y 2) refl asked room)
    (resume-goes w x y (apart w s x y parted.leads) (first-there w s x y parted.follows) (second-there w s x y parted.leads) clear.a_on clear.b_on parted clear.there)

-- a drain of x
drain-line : (ts : List Task) (w : World) → run ts ≡ w → (t : Task) (x y : ℕ) → t.asked ≡ Ok (Drain x None) → has_room w.events ≡ true → TurnedIn x y w → HomeIsOpen w.control x y → LineEnds w t (sends_all w x) (TurnedIn x y)
drain-line ts w is t x y asked room turned clear =
    let e : EndsOrStops w (drain_ends w.control x) (after_task w t) x (said_in w t) =
    subst (λ (z : World). has_room z.events ≡ true → EndsOrStops z (drain_ends z.control x) (after_task z t) x (said_in z t)) is (drains-or-stops ts t x asked) room in
    drain-ends w (subst Sound is (sound-run ts)) x y turned clear.a_on clear.there clear.b_settled t asked room e

next-is : (ts : List Task) (w : World) (t : Task) → run ts ≡ w → run (ts ++ t ∷ []) ≡ after_task w t
next-is ts w t is = run-more ts t ∙ ap (λ z. after_task z t) is

-- one line, and those after it
then-leads : (start w : World) → Fused start w → (t : Task) (a : Said) (Q rest : World → Type 0) → (has_room w.events ≡ true → LineEnds w t a Q)
    → (let u : World = after_task w t in Onward w u → Fused start u → Q u → rest u) → AnswersThen start w t a rest
then-leads start w fused t a Q rest line more room = elim (line room) [
  | inl stop ↦ inl (record { server = stop.server; is = stop.is; armed = fused stop.server stop.armed })
  | inr e ↦ inr (e.0, more e.1.0 (λ q h. fused q (e.1.0.fused q h)) e.1.1)
]

in-place : (u : World) (a b : ℕ) → TurnedIn a b u → InPlace u.control a b
in-place u a b turned = record {
  leads = and_from _ _ (primary-of b (fields_at u.control a) turned.leads) (and_from _ _ (ap (is_kind Global) turned.leads.0) (ap is_pending turned.pending));
  follows = secondary-of a (fields_at u.control b) turned.follows;
}

module _ (start : World) (a b : ℕ) (l : HomeLines a b) where
  -- from two volumes that lead to each other, the last two lines
  ends-home : (ts : List Task) (w : World) → run ts ≡ w → Fused start w → LeadEachOther w.control a b → HomeIsOpen w.control a b → EndsHome start w a b l
  ends-home ts w is fused lead clear =
      let w1 : World = after_task w l.home in
      let is1 : run (ts ++ l.home ∷ []) ≡ w1 = next-is ts w l.home is in
      then-leads start w fused l.home (Done Alone) (TurnedIn a b) (λ u. AnswersThen start u l.last (sends_all u a) (λ v. InPlace v.control a b))
      (λ room. failback-line w (subst Sound is (sound-run ts)) l.home a b l.home_is room lead clear)
      (λ o fused turned. then-leads start w1 fused l.last (sends_all w1 a) (TurnedIn a b) (λ v. InPlace v.control a b)
      (λ room. drain-line (ts ++ l.home ∷ []) w1 is1 l.last a b l.last_is room turned (stays-open w w1 o a b clear)) (λ o fused turned. in-place (after_task w1 l.last) a b turned))

  -- from a pair that is turned round, these and the one before
  leads-over : (ts : List Task) (w : World) → run ts ≡ w → Fused start w → TurnedIn b a w → HomeIsOpen w.control b a → LeadsOver start w a b l
  leads-over ts w is fused turned clear =
      let w1 : World = after_task w l.over in
      then-leads start w fused l.over (Done Alone) (λ u. LeadEachOther u.control a b) (λ u. EndsHome start u a b l)
      (λ room. failover-line w (subst Sound is (sound-run ts)) l.over b a l.over_is room turned clear)
      (λ o fused lead. ends-home (ts ++ l.over ∷ []) w1 (next-is ts w l.over is) fused lead (turned-open w1.control b a (stays-open w w1 o b a clear)))

  leads-back : (ts : List Task) (w : World) → run ts ≡ w → Fused start w → TurnedIn b a w → HomeIsOpen w.control b a → LeadsBack start w a b l
  leads-back ts w is fused turned clear =
      let w1 : World = after_task w l.send in
      then-leads start w fused l.send (sends_all w b) (TurnedIn b a) (λ u. LeadsOver start u a b l)
      (λ room. drain-line ts w is l.send b a l.send_is room turned clear)
      (λ o fused turned. leads-over (ts ++ l.send ∷ []) w1 (next-is ts w l.send is) fused turned (stays-open w w1 o b a clear))

  -- from one that is Suspended
  leads-on : (ts : List Task) (w : World) → run ts ≡ w → Fused start w → IsSuspendedTo w.control b a → HomeIsOpen w.control b a → (r : ResumeLine b a) → AnswersThen start w r.task (Done Alone) (λ u. LeadsBack start u a b l)
  leads-on ts w is fused parted clear r =
      let w1 : World = after_task w r.task in
      then-leads start w fused r.task (Done Alone) (TurnedIn b a) (λ u. LeadsBack start u a b l)
      (λ room. resume-line w (subst Sound is (sound-run ts)) r.task b a r.is room parted clear)
      (λ o fused turned. leads-back (ts ++ r.task ∷ []) w1 (next-is ts w r.task is) fused turned (stays-open w w1 o b a clear))

  -- all five
  leads-home : (ts : List Task) (w : World) → run ts ≡ w → Fused start w → LeadEachOther w.control a b → HomeIsOpen w.control a b → LeadsHome start w a b l
  leads-home ts w is fused lead clear =
      let w1 : World = after_task w l.turn in
      then-leads start w fused l.turn (Done Alone) (TurnedIn b a) (λ u. LeadsBack start u a b l)
      (λ room. failback-line w (subst Sound is (sound-run ts)) l.turn b a l.turn_is room (turned-lead w.control a b lead) (turned-open w.control a b clear))
      (λ o fused turned. leads-back (ts ++ l.turn ∷ []) w1 (next-is ts w l.turn is) fused turned (stays-open w w1 o b a (turned-open w.control a b clear)))

pub goes-home : (tasks : List Task) (a b : ℕ) (l : HomeLines a b) → GoesHome tasks a b l
goes-home tasks a b l = record {
  all = leads-home (run tasks) a b l tasks (run tasks) refl (λ q h. h);
  short_way = ends-home (run tasks) a b l tasks (run tasks) refl (λ q h. h);
  turned = λ turned clear. leads-back (run tasks) a b l tasks (run tasks) refl (λ q h. h) turned (turned-open (run tasks).control a b clear);
  suspended = λ parted clear r. leads-on (run tasks) a b l tasks (run tasks) refl (λ q h. h) parted (turned-open (run tasks).control a b clear) r;
}
