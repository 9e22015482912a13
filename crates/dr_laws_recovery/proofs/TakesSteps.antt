-- Each step of one plan takes writes from those volumes alone from which it may.
use Rattle.std.proofs.Common.{ℕ, ◌≡◌, refl, ap, sym, ◌∙◌, subst, Bool, true, false, not, ◌||◌, List, [], ◌++◌, Option, nat_eq, Result, ◌&&◌}
use Rattle.std.proofs.Math.Bool.{or-true}
use Rattle.std.proofs.lemmas.Bool.{and_from, and_parts, eq-eqb, or_right}
use Rattle.dr_ids.specs.declared.names.Member.{Member}
use Rattle.dr_model.specs.declared.event.Event.{Event}
use Rattle.dr_model.specs.declared.said.Said.{Said}
use Rattle.dr_model.specs.declared.step.Step.{Step}
use Rattle.dr_model.specs.Layout.{Fields, is_part}
use Rattle.dr_model.specs.Control.{Control, Pending, World}
use Rattle.dr_model.specs.Groups.{In}
use Rattle.dr_model.specs.Pairs.{is_primary_of, is_metro, goes_over, collides, is_cascaded}
use Rattle.dr_model.specs.Carry.{Act, carry, act}
use Rattle.dr_model.specs.Carried.{carried_out}
use Rattle.dr_model.specs.Entries.{fields_at, is_at}
use Rattle.dr_model.specs.WriteEntries.{partner_of, is_fed, is_parted}
use Rattle.dr_model.specs.Messages.{Message}
use Rattle.dr_model.specs.MessagePlans.{told_begun}
use Rattle.dr_model.specs.Sessions.{session_in, members_in}
use Rattle.dr_model.specs.SessionPlans.{is_idle}
use Rattle.dr_model.specs.PlanParts.{Plan, same, none_follow}
use Rattle.dr_model.specs.PlantImage.{Volume}
use Rattle.dr_model.specs.Runs.{image_plan, image_told}
use Rattle.dr_model.specs.TakenWrites.{takes_from, sends_write, sends_pending, is_target_in, is_target_for, is_third}
use Rattle.dr_facts.proofs.Entries.{any_world, plan-from}
use Rattle.dr_facts.proofs.Emits.{AllOf}
use Rattle.dr_facts.proofs.Lists.{any-some}
use Rattle.dr_facts.proofs.Parts.{global-part, metro-part}
use Rattle.dr_facts.proofs.Reasons.{NoStop}
use Rattle.dr_laws_sound.proofs.Listed.{AllLines, each-line, all-lines, image-lines}
use Rattle.dr_laws_sound.proofs.Cases.{Case, is-new, Reverts, DefinesServer, DefinesVolume, Issues, Writes, Lists, Shows, Stops, Starts, Sends}
use Rattle.dr_laws_sound.proofs.Does.{Does, Acts, Late, IsWrite, Issued, Found, IsSend, Drained, Collided, IsOrder, Exchanged, Delivered, Relates, Withdraws, Resyncs, Reverses, GivesBack, GivesUp, Stores, Mirrors, OrdersFlash, OrdersRevert, RecoversRevert, SettlesRevert, Fed, SendsOn}
use Rattle.dr_laws_sound.proofs.DoesPlans.{case-does}
use Rattle.dr_laws_recovery.proofs.Takes.{OkBy, TakesFrom, Told, told-more, told-none, Takes, act-told}
use Rattle.dr_laws_recovery.proofs.Collisions.{Stays, stays-hits, is_writing, writing-begun, writing-last, writing-act}

-- the volumes that a step may take from
abbrev pub MayTake : Control → Result Step ℕ → ℕ → Type 0
MayTake k asked v = takes_from k asked v ≡ true

module _ (k : Control) where
  -- a primary names its secondary
  its-own : (a : ℕ) → is_part (fields_at k a).primary ≡ true → is_primary_of (partner_of k a) (fields_at k a) ≡ true
  its-own a part = and_from (is_part (fields_at k a).primary) _ part (eq-eqb (partner_of k a) (partner_of k a) refl)

  -- and its secondary does, which is cascaded
  own-third : (a : ℕ) → is_cascaded (fields_at k (partner_of k a)) ≡ true → is_third k a (partner_of k (partner_of k a)) ≡ true
  own-third a cascaded = let u : ℕ = partner_of k a in and_from (is_cascaded (fields_at k u)) _ cascaded (its-own u (and_parts (is_part (fields_at k u).primary) _ cascaded).0)

  -- a primary's secondary, where a host write goes there
  write-sends : (a t : ℕ) → is_part (fields_at k a).primary ≡ true → (goes_over (fields_at k a) t || collides (fields_at k a) t) ≡ true → sends_write k a t (partner_of k a) ≡ true
  write-sends a t part goes = ap (λ b. b || third_write a t) (and_from (is_primary_of (partner_of k a) (fields_at k a)) _ (its-own a part) goes)
    where
      third_write : ℕ → ℕ → Bool
      third_write a t = is_third k a (partner_of k a) && (goes_over (fields_at k a) t && collides (fields_at k (partner_of k a)) t)

  -- and the third site's
  sends-on : (a t : ℕ) → is_fed k a t ≡ true → collides (fields_at k (partner_of k a)) t ≡ true → sends_write k a t (partner_of k (partner_of k a)) ≡ true
  sends-on a t fed hits =
      let over = and_parts (goes_over (fields_at k a) t) _ fed in
      let cascaded = (and_parts (is_cascaded (fields_at k (partner_of k a))) _ (and_parts (not (is_parted k a)) _ over.1).1).0 in
      or_right (is_primary_of (partner_of k (partner_of k a)) (fields_at k a) && (goes_over (fields_at k a) t || collides (fields_at k a) t)) _
      (and_from (is_third k a (partner_of k (partner_of k a))) _ (own-third a cascaded) (and_from (goes_over (fields_at k a) t) _ over.0 hits))

  over-sends : (a t : ℕ) → goes_over (fields_at k a) t ≡ true → sends_write k a t (partner_of k a) ≡ true
  over-sends a t over = let f : Fields = fields_at k a in write-sends a t (metro-part f.primary (and_parts (is_metro f.primary) _ over).0) (ap (λ b. b || collides f t) over)

  collision-sends : (a t : ℕ) → collides (fields_at k a) t ≡ true → sends_write k a t (partner_of k a) ≡ true
  collision-sends a t met = let f : Fields = fields_at k a in write-sends a t (global-part f.primary (and_parts _ _ met).0) (ap (λ b. goes_over f t || b) met ∙ or-true (goes_over f t))

  -- the targets of a session's members
  pub session-target : (s : ℕ) (m : Member) → In m (members_in (session_in k.sessions s)) → is_target_in k s m.c.0 ≡ true
  session-target s m here = any-some (λ (q : Member). nat_eq q.c.0 m.c.0) (members_in (session_in k.sessions s)) m here (eq-eqb m.c.0 m.c.0 refl)

  write-may : (asked : Result Step ℕ) (n v t b : ℕ) → IsWrite k asked n v t → sends_write k v t b ≡ true → MayTake k asked b
  write-may _ _ _ _ b (Issued v t offset len bytes) sends = sends
  write-may _ _ _ _ b (Found n p found) sends = subst (λ (o : Option Pending). sends_pending k o b ≡ true) (sym found) sends

  write-writing : (asked : Result Step ℕ) (n v t : ℕ) → IsWrite k asked n v t → is_writing asked ≡ true
  write-writing _ _ _ _ (Issued v t offset len bytes) = refl
  write-writing _ _ _ _ (Found n p found) = refl

  send-may : (asked : Result Step ℕ) (a b : ℕ) → IsSend k asked a b → MayTake k asked b
  send-may _ _ _ (Drained a most part) = ap (λ b. b || is_third k a (partner_of k a)) (its-own a part)
  send-may _ _ _ (Fed a most cascaded) = or_right (is_primary_of (partner_of k (partner_of k a)) (fields_at k a)) _ (own-third a cascaded)
  send-may _ _ _ (Collided n v t is met) = write-may _ n v t (partner_of k v) is (collision-sends v t met)

  order-may : (asked : Result Step ℕ) (s : ℕ) (m : Member) → IsOrder k asked s m → MayTake k asked m.c.0
  order-may _ _ _ (Exchanged s m here) = session-target s m here
  order-may _ _ _ (Delivered n e m there here) = subst (λ (o : Option Message). is_target_for k o m.c.0 ≡ true) (sym there) (session-target e.session m here)

  module _ (Q : ℕ → Type 0) where
    -- the acts that a step comes to
    does-takes : (asked : Result Step ℕ) (w : World) (a : Act) → Does k asked w.control a → (is_writing asked ≡ true → Stays k w) → ((v : ℕ) → MayTake k asked v → Q v) → OkBy (Takes Q) w a
    does-takes _ w _ (Relates s t choices) stays to = to t (eq-eqb t t refl)
    does-takes _ w _ (Withdraws s t) stays to = to t (eq-eqb t t refl)
    does-takes _ w _ (Resyncs s t sequence) stays to = to t (eq-eqb t t refl)
    does-takes _ w _ (Reverses s t left) stays to = to t (eq-eqb t t refl)
    does-takes _ w _ (GivesBack q t back) stays to =
        let s : ℕ = (fields_at k t).source in to s (and_from (fields_at k t).reversing _ back (ap (λ b. b || nat_eq t s) (eq-eqb s s refl)))
    does-takes _ w _ (GivesUp q t back) stays to =
        let s : ℕ = (fields_at k t).source in to t (and_from (fields_at k t).reversing _ back (ap (λ b. nat_eq s t || b) (eq-eqb t t refl) ∙ or-true (nat_eq s t)))
    does-takes _ w _ (Stores a b is t last) stays to = to b (send-may _ a b is)
    does-takes _ w _ (Mirrors n v t is over) stays to = to (partner_of k v) (write-may _ n v t (partner_of k v) is (over-sends v t over))
    does-takes _ w _ (SendsOn n v t is fed hits last) stays to = to _ (write-may _ n v t _ is (sends-on v t fed (stays-hits k w (stays (write-writing _ n v t is)) (partner_of k v) t hits)))
    does-takes _ w _ (OrdersFlash s m is n) stays to = to m.c.0 (order-may _ s m is)
    does-takes _ w _ (OrdersRevert s m is n) stays to = to m.c.0 (order-may _ s m is)
    does-takes _ w _ (RecoversRevert s m here n) stays to = to m.c.0 (session-target s m here)
    does-takes _ w _ (SettlesRevert s m (Reverts devs source sequence t own is) n) stays to = to m.c.0 (subst (λ o. is_at o m.c.0 ≡ true) (sym own) (eq-eqb t m.c.0 (sym is)))
    does-takes _ w _ d stays to = tt

    lines-told : (told : List Event) → AllLines told → AllOf (TakesFrom Q) told
    lines-told = all-lines (AllOf (TakesFrom Q)) tt (λ e es l rest. (each-line (TakesFrom Q) (λ line v u state kind k. tt) (λ line s t sequence previous state flags own. tt) (λ line s a b c state. tt) (λ line s server phase n paused. tt) tt (λ v server tracks. tt) (λ v index bytes. tt) tt e l, rest))

    -- and what its plan tells as it begins
    begins-told : (events : List Event) (line : ℕ) (asked : Result Step ℕ) (p : Plan) → Case k events line asked p → ((v : ℕ) → MayTake k asked v → Q v) → AllOf (TakesFrom Q) p.told
    begins-told events line _ _ (DefinesServer name free) to = (tt, tt)
    begins-told events line _ _ (DefinesVolume v s tracks here free) to = (to v (and_from (nat_eq v v) _ (eq-eqb v v refl) (ap not (is-new k v s tracks free).undefined)), tt)
    begins-told events line _ _ (Issues v t offset len bytes free) to = (tt, tt)
    begins-told events line _ _ (Writes v t offset len bytes free) to = (tt, tt)
    begins-told events line _ _ (Lists told ls few) to = lines-told told ls
    begins-told events line _ _ (Shows v t there) to = (tt, tt)
    begins-told events line _ _ (Stops s on) to = (tt, tt)
    begins-told events line _ _ (Starts s off) to = (tt, tt)
    begins-told events line _ _ (Sends s server x r o posts) to = by (is_idle r.master.phase)
      where
        by : (b : Bool) → AllOf (TakesFrom Q) (told_begun b s o.number)
        by true = (tt, tt)
        by false = tt
    begins-told events line _ _ c to = tt

module _ (w : World) (Q : ℕ → Type 0) where
  -- what a plan tells from w on
  abbrev pub Tells : Plan → Type 0
  Tells p = Told Q w.events (carried_out w p).0.events

  begun-told : (told : List Event) → AllOf (TakesFrom Q) told → Told Q w.events (w.events ++ told)
  begun-told told each = told-more Q w.events w.events told (told-none Q w.events) each

  pub case-told : (line : ℕ) (asked : Result Step ℕ) (p : Plan) → Case w.control w.events line asked p → ((v : ℕ) → MayTake w.control asked v → Q v) → Tells p
  case-told line asked p c to =
      let e = case-does w line asked p c in
      (plan-from any_world (Acts w.control asked) NoStop (Late asked) Since (λ u j. tt) takes w p
      (begun-told p.told (begins-told w.control Q w.events line asked p c to), λ is. writing-begun w.control w refl line asked p c is) e.entries e.follows
      (λ v j. (j.0, λ is. writing-last w.control w.events line asked p c is v (j.1 is)))).0
    where
      Since : World → Type 0
      Since u = Told Q w.events u.events × (is_writing asked ≡ true → Stays w.control u)

      takes : (v : World) (a : Act) → Acts w.control asked v a → Since v → Since (act v a).0
      takes v a does j = (act-told Q w.events v a (does-takes w.control Q asked v a does j.1 to) j.0, λ is. writing-act w.control asked is v a does (j.1 is))

  -- a plan that only tells something, as it begins
  abbrev pub telling : List Event → (Control → Said) → Plan
  telling told says = record { first = same; told = told; entries = []; follows = none_follow; last = same; says = says }

  pub telling-told : (told : List Event) (says : Control → Said) → AllOf (TakesFrom Q) told → Tells (telling told says)
  unfolding carry
  telling-told told says each = begun-told told each

  pub image-told : (vs : List Volume) → Tells (image_plan vs)
  image-told vs = telling-told (image_told vs) (image_plan vs).says (lines-told w.control Q (image_told vs) (image-lines vs))
