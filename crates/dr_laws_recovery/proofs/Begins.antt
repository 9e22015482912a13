-- Each cut stands behind the begin of its attempt, along every step, and so along every run.
use Rattle.std.proofs.Common.{ℕ, ◌≡◌, ◌≢◌, ◌⊎◌, ◌+◌, inl, inr, refl, ap, sym, ◌∙◌, subst, append_assoc, true, false, List, [], ◌∷◌, ◌++◌, Option, Some}
use Rattle.dr_ids.specs.declared.names.Member.{Member}
use Rattle.dr_ids.specs.declared.refusal.PhaseName.{PhaseName}
use Rattle.dr_ids.specs.declared.refusal.PhaseName.TheVariants as phase
use Rattle.dr_model.specs.declared.event.Event.{Event}
use Rattle.dr_model.specs.declared.event.Event.TheVariants.{Ack, Issue, Stopped, Frozen, Thawed, Recovered, Begin, Cut, Volume as VolumeDefined}
use Rattle.dr_model.specs.Phases as phases
use Rattle.dr_model.specs.Messages.{Flight, Message, Asks}
use Rattle.dr_model.specs.Sessions.{Session, session_in, changed, begun}
use Rattle.dr_model.specs.Control.{Fuse, Volume, World, nothing}
use Rattle.dr_model.specs.Moves.{Move, Hold, Restart, told, told_in_stop, landed, target}
use Rattle.dr_model.specs.Carry.{Act, Make, OpenAttempt, Redo, Acknowledge, Drop, EndFreeze, EndThaw, EndRecovery}
use Rattle.dr_model.specs.Groups.{In, Due, HoldsMember}
use Rattle.dr_model.specs.Attempts.{phase_of, owed_of, Owes, Waits, roles, seen, seen_in}
use Rattle.dr_model.specs.Laws.{Sound}
use Rattle.dr_model.specs.Allowed.{May, MayOpen}
use Rattle.dr_model.specs.ClosedCuts.{AllBegun}
use Rattle.dr_model.specs.Runs.{Task, run}
use Rattle.dr_facts.proofs.Lists.{in-first, in-second, from-map}
use Rattle.dr_laws_sessions.specs.Frames.{Became}
use Rattle.dr_laws_sessions.proofs.Changes.{session-found, same-session, changed-in}
use Rattle.dr_laws_attempts.proofs.Dues.{hold-owed, owed-works}
use Rattle.dr_laws_cuts.specs.Once.{NoCuts}
use Rattle.dr_laws_cuts.proofs.Told.{told-quiet, stop-quiet}
use Rattle.dr_laws_closed.proofs.Begun.{begun-quiet, begun-cut, begun-opened, none-cut}
use Rattle.dr_laws_closed.specs.Regroups.{Stays, Rests, Regroups}
use Rattle.dr_laws_sound.proofs.Turns.{done, done_in_stop, opened_in_stop, not_done, after_act}
use Rattle.dr_laws_sound.proofs.KeepsSound.{MayDo}
use Rattle.dr_laws_sound.proofs.Starts as starts
use Rattle.dr_laws_sound.proofs.Steps as steps
use Rattle.dr_laws_sound.proofs.Rides.{Rides}
use Rattle.dr_laws_sound.proofs.NewMessages.{IsAskedIn, Adds}
use Rattle.dr_laws_sound.proofs.FitsMessages.{opened}
use Rattle.dr_laws_sound.proofs.Riders.{with_tables, Rider, rides-tasks}

-- ---- what moves tell

-- a hold comes behind its begin
abbrev HoldBegun : List Event → Move → Type 0
HoldBegun es (Hold v s n first) = In (Begin s n) es
HoldBegun es m = Unit {0}

told-begun : (es : List Event) (m : Move) (u : Volume) → HoldBegun es m → AllBegun es → AllBegun (es ++ told m u)
told-begun es (Hold v s n true) u h old = begun-opened es s n v old
told-begun es (Hold v s n false) u h old = begun-cut es s n v h old
told-begun es m u h old = begun-quiet es (told m u) (told-quiet m u refl) old

in_stop-begun : (es : List Event) (m : Move) (u : Volume) → HoldBegun es m → AllBegun es → AllBegun (es ++ told_in_stop m u)
in_stop-begun es (Hold v s n first) u h old = told-begun es (Hold v s n first) u h old
in_stop-begun es m u h old = begun-quiet es (told_in_stop m u) (stop-quiet m u refl) old

stopped-begun : (es : List Event) (m : Move) (u : Volume) (x n : ℕ) → HoldBegun es m → AllBegun es → AllBegun (es ++ (told_in_stop m u ++ Stopped x n ∷ []))
stopped-begun es m u x n h old = subst AllBegun (append_assoc es (told_in_stop m u) (Stopped x n ∷ [])) (begun-quiet (es ++ told_in_stop m u) (Stopped x n ∷ []) (tt, tt) (in_stop-begun es m u h old))

-- ---- worlds

-- Each cut stands behind its begin; and so will those of an attempt whose session coordinates, or of which a hold is in flight.
pub record Begun (w : World) : Type 0 where
  pub cuts : AllBegun w.events
  pub forming : (x : Session) → In x w.control.sessions → phase_of x.mirror ≡ phase.Coordinating → In (Begin x.number x.last) w.events
  pub flying : (m : Message) → In m w.control.flight.messages → (starts : ℕ) → m.body ≡ Asks starts → m.order.work ≡ phases.Hold → In (Begin m.session m.order.number) w.events

-- events that cut nothing, or cuts that are told so, and the same sessions and messages
begun-more : (w u : World) (more : List Event) → u.events ≡ w.events ++ more → u.control.sessions ≡ w.control.sessions → u.control.flight.messages ≡ w.control.flight.messages → AllBegun (w.events ++ more) → Begun w → Begun u
begun-more w u more is sessions messages cuts k = record {
  cuts = subst AllBegun (sym is) cuts;
  forming = λ x here coordinates. subst (In (Begin x.number x.last)) (sym is) (in-first w.events more (Begin x.number x.last) (k.forming x (subst (In x) sessions here) coordinates));
  flying = λ m here starts body holds. subst (In (Begin m.session m.order.number)) (sym is) (in-first w.events more (Begin m.session m.order.number) (k.flying m (subst (In m) messages here) starts body holds));
}

begun-told : (w u : World) (more : List Event) → u.events ≡ w.events ++ more → u.control.sessions ≡ w.control.sessions → u.control.flight.messages ≡ w.control.flight.messages → NoCuts more → Begun w → Begun u
begun-told w u more is sessions messages quiet k = begun-more w u more is sessions messages (begun-quiet w.events more quiet k.cuts) k

begun-not : (w : World) (x : ℕ) (f : Option Fuse) → Begun w → Begun (not_done w x f)
begun-not w x f k = begun-told w (not_done w x f) (Stopped x 0 ∷ []) refl refl refl (tt, tt) k

-- where a hold is due its attempt has begun
due-begun : (w : World) → Begun w → (x : Session) → In x w.control.sessions → (server n : ℕ) → n ≡ x.last → Due w.control.flight x server phases.Hold n → In (Begin x.number n) w.events
due-begun w k x listed server n last (inl owes) = subst (λ i. In (Begin x.number i) w.events) (sym last) (k.forming x listed (hold-owed (phase_of x.mirror) (owed-works x server phases.Hold n owes)))
due-begun w k x listed server n last (inr coming) =
    let o = coming.order in
    subst (λ i. In (Begin i n) w.events) o.order.session (subst (λ i. In (Begin coming.message.session i) w.events) o.number (k.flying coming.message o.order.here o.order.starts o.order.asks o.works))

hold-begun : (w : World) (m : Move) → May w m → Begun w → HoldBegun w.events m
hold-begun w (Hold v s n first) may k =
    let h : HoldsMember w.control v s n = may.group.0 in subst (λ i. In (Begin i n) w.events) h.place.number (due-begun w k h.place.session h.place.listed h.place.member.server.0 n h.last h.due)
hold-begun w m may k = tt

begun-done : (w : World) (m : Move) (f : Option Fuse) → May w m → Begun w → Begun (done w m f)
begun-done w m f may k = let u : Volume = w.control.volume (target m) in begun-more w (done w m f) (told m u) refl refl refl (told-begun w.events m u (hold-begun w m may k) k.cuts) k

begun-stop : (w : World) (m : Move) (f : Option Fuse) → May w m → Begun w → Begun (done_in_stop w m f)
begun-stop w m f may k =
    let u : Volume = w.control.volume (target m) in
    begun-more w (done_in_stop w m f) (told_in_stop m u ++ Stopped u.server (landed m) ∷ []) refl refl refl (stopped-begun w.events m u u.server (landed m) (hold-begun w m may k) k.cuts) k

-- the messages that were in flight
still-flying : (w : World) → Begun w → (es : List Event) (m : Message) → In m w.control.flight.messages → (starts : ℕ) → m.body ≡ Asks starts → m.order.work ≡ phases.Hold → In (Begin m.session m.order.number) (w.events ++ es)
still-flying w k es m here starts body holds = in-first w.events es (Begin m.session m.order.number) (k.flying m here starts body holds)

-- an attempt begins
open-begun : (w : World) (s : Sound w) (i n : ℕ) (es : List Event) (z : Session) → In z w.control.sessions → z.number ≡ i → n ≡ z.last + 1 → Begun w → (x : Session) → In x (changed i begun w.control.sessions) → phase_of x.mirror ≡ phase.Coordinating
    → In (Begin x.number x.last) (w.events ++ Begin i n ∷ es)
open-begun w s i n es z listed at next k x here coordinates = by (changed-in i begun w.control.sessions x s.groups.once here)
  where
    by : (In x w.control.sessions × (x.number ≢ i)) ⊎ Became i begun w.control.sessions x → In (Begin x.number x.last) (w.events ++ Begin i n ∷ es)
    by (inl was) = in-first w.events (Begin i n ∷ es) (Begin x.number x.last) (k.forming x was.0 coordinates)
    by (inr b) =
        let same : b.from ≡ z = same-session w.control.sessions b.from z s.groups.once b.listed listed (b.number ∙ sym at) in
        let number : x.number ≡ i = ap (λ (y : Session). y.number) b.is ∙ b.number in
        let last : x.last ≡ n = ap (λ (y : Session). y.last) b.is ∙ ap (λ (y : Session). y.last + 1) same ∙ sym next in
        in-second w.events (Begin i n ∷ es) (Begin x.number x.last) (inl (ap (λ z. Begin z x.last) number ∙ ap (λ z. Begin i z) last))

begun-opened_done : (w : World) (s : Sound w) (v i n : ℕ) (f : Option Fuse) → MayOpen w v i n → Begun w → Begun (after_act w (OpenAttempt v i n) f)
begun-opened_done w s v i n f may k = let o = may.opens in record {
  cuts = begun-opened w.events i n v k.cuts;
  forming = open-begun w s i n (Cut i n v ∷ []) o.place.session o.place.listed o.place.number o.next k;
  flying = still-flying w k (Begin i n ∷ Cut i n v ∷ []);
}

begun-opened_stop : (w : World) (s : Sound w) (v i n : ℕ) (f : Option Fuse) → MayOpen w v i n → Begun w → Begun (opened_in_stop w v i n f)
begun-opened_stop w s v i n f may k =
    let x : ℕ = (w.control.volume v).server in
    record {
      cuts = subst AllBegun (append_assoc w.events (Begin i n ∷ Cut i n v ∷ []) (Stopped x 0 ∷ [])) (begun-quiet (w.events ++ Begin i n ∷ Cut i n v ∷ []) (Stopped x 0 ∷ []) (tt, tt) (begun-opened w.events i n v k.cuts));
      forming = let o = may.opens in open-begun w s i n (Cut i n v ∷ Stopped x 0 ∷ []) o.place.session o.place.listed o.place.number o.next k;
      flying = still-flying w k (Begin i n ∷ Cut i n v ∷ Stopped x 0 ∷ []);
    }

-- ---- acts

acts : Rides Sound Begun MayDo
acts = record { does = does; counts = λ w m f s k may. begun-stop w m f may k; opens = λ w v i n f s k may. begun-opened_stop w s v i n f may k; fails = λ w a f d s k may. begun-not w _ f k }
  where
    does : (w : World) (a : Act) (f : Option Fuse) → Sound w → Begun w → MayDo w a → Begun (after_act w a f)
    does w (Make m) f s k may = begun-done w m f may k
    does w (OpenAttempt v i n) f s k may = begun-opened_done w s v i n f may k
    does w (Redo v) f s k may = record { cuts = k.cuts; forming = k.forming; flying = k.flying }
    does w (Acknowledge n) f s k may = absurd may
    does w (Drop n) f s k may = record { cuts = k.cuts; forming = k.forming; flying = k.flying }
    does w (EndFreeze l m) f s k may = begun-told w _ (Frozen l m ∷ []) refl refl refl (tt, tt) k
    does w (EndThaw l m) f s k may = begun-told w _ (Thawed l m ∷ []) refl refl refl (tt, tt) k
    does w (EndRecovery i n) f s k may = begun-told w _ (Recovered i n ∷ []) refl refl refl (tt, tt) k

start-acts : (x : ℕ) → Rides (starts.Inner x) Begun (starts.MayStart x)
start-acts x = record { does = does; counts = counts; opens = λ w v i n f j k may. absurd may; fails = λ w a f d j k may. begun-not w _ f k }
  where
    does : (w : World) (a : Act) (f : Option Fuse) → starts.Inner x w → Begun w → starts.MayStart x w a → Begun (after_act w a f)
    does w (Make (Restart v)) f j k may = begun-done w (Restart v) f (starts.may-restart x w v may) k
    does w (Redo v) f j k may = record { cuts = k.cuts; forming = k.forming; flying = k.flying }
    does w (Acknowledge n) f j k may = begun-told w _ (Ack n ∷ []) refl refl refl (tt, tt) k
    does w a f j k may = absurd may

    counts : (w : World) (m : Move) (f : Option Fuse) → starts.Inner x w → Begun w → starts.MayMove x w m → Begun (done_in_stop w m f)
    counts w (Restart v) f j k may = begun-stop w (Restart v) f (starts.may-restart x w v may) k
    counts w m f j k may = absurd may

-- a session that coordinates has a member
has-member : (w : World) → Sound w → (x : Session) → In x w.control.sessions → phase_of x.mirror ≡ phase.Coordinating → (m : Member) × In m x.members
has-member w s x listed coordinates = by (owed_of x.mirror) (subst (λ p. Owes p (owed_of x.mirror) (seen_in w.control x)) coordinates (s.attempts.sessions x listed).owes)
  where
    by : (owed : List ℕ) → Waits owed (seen_in w.control x) → (m : Member) × In m x.members
    by [] waits = absurd (waits.some refl)
    by (q ∷ qs) waits = let any = waits.members q (inl refl) in let o = from-map (seen (roles w.control)) x.members any.one any.here in (o.from, o.here)

-- another table of sessions
open-regrouped : (w : World) (ss : List Session) → Regroups w.control.sessions ss → Begun w → (x : Session) → In x ss → phase_of x.mirror ≡ phase.Coordinating → (m : Member) → In m x.members → In (Begin x.number x.last) w.events
open-regrouped w ss turn k x here coordinates m there = by (turn x m here there)
  where
    by : Stays w.control.sessions x m ⊎ Rests w.control.sessions x m → In (Begin x.number x.last) w.events
    by (inl t) =
        subst (λ z. In (Begin z x.last) w.events) (sym t.number)
        (subst (λ z. In (Begin t.was.session.number z) w.events) (sym t.last) (k.forming t.was.session t.was.listed (t.phase.coordinating coordinates)))
    by (inr r) = absurd (apart (sym r.idle ∙ coordinates))
      where
        apart : ◌≡◌ {A = PhaseName} phase.Idle phase.Coordinating → ⊥
        apart e = cc

-- a message that comes was in flight, or is a reply, or a hold while its session's master coordinates
flying-more : (w : World) (f : Flight) → Adds w.control.sessions w.control.flight f → Begun w → (m : Message) → In m f.messages → (starts : ℕ) → m.body ≡ Asks starts → m.order.work ≡ phases.Hold → In (Begin m.session m.order.number) w.events
flying-more w f adds k m here starts body holds = by (adds m here)
  where
    by : In m w.control.flight.messages ⊎ ((starts : ℕ) → m.body ≡ Asks starts → IsAskedIn w.control.sessions m) → In (Begin m.session m.order.number) w.events
    by (inl old) = k.flying m old starts body holds
    by (inr new) =
        let a = new starts body in
        let other : m.order.work ≢ phases.Report = λ e. (let no : phases.Hold ≡ phases.Report = sym holds ∙ e in cc) in
        subst (λ i. In (Begin i m.order.number) w.events) a.number (subst (λ i. In (Begin a.session.number i) w.events) (sym (a.last other)) (k.forming a.session a.listed (hold-owed (phase_of a.session.mirror) (a.asks ∙ ap Some holds))))

pub begins-ride : Rider Begun
begins-ride = record {
  acts = acts;
  start_acts = start-acts;
  unheard = λ w u more k q none. begun-told w u more q.events q.sessions q.messages q.quiet k;
  issues = λ w s v t offset len bytes defined low k. begun-told w _ (Issue (w.control.issued + 1) v t offset len bytes ∷ []) refl refl refl (tt, tt) k;
  regroups = λ w ss f s t turn adds goes k. record { cuts = k.cuts; forming = λ x here coordinates. (let m = has-member (with_tables w ss f) t x here coordinates in open-regrouped w ss turn k x here coordinates m.0 m.1); flying = flying-more w f adds k };
  opens = λ w i n x r s t found has idle next k. opens w i n x s found next k;
  defines = λ w s v server tracks here undefined k. begun-told w _ (VolumeDefined v server tracks ∷ []) refl refl refl (tt, tt) k;
}
  where
    opens : (w : World) (i n : ℕ) (x : Session) → Sound w → session_in w.control.sessions i ≡ Some x → n ≡ x.last + 1 → Begun w → Begun (opened w i n)
    opens w i n x s found next k = let there = session-found w.control.sessions i x found in record {
      cuts = begun-quiet w.events (Begin i n ∷ []) (tt, tt) k.cuts;
      forming = open-begun w s i n [] x there.0 there.1 next k;
      flying = still-flying w k (Begin i n ∷ []);
    }

none-begun : Begun nothing
none-begun = record { cuts = none-cut; forming = λ x here coordinates. absurd here; flying = λ m here starts body holds. absurd here }

pub begins-run : (tasks : List Task) → Begun (run tasks)
begins-run tasks = rides-tasks Begun begins-ride nothing tasks steps.sound-nothing none-begun
