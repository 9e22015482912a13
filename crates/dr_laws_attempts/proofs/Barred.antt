-- Once a target was reverted while its source was taken, no member of its session can be flashed with that number, until the next
-- attempt begins.
use Rattle.std.proofs.Common.{ℕ, ◌≡◌, ◌≢◌, ◌<◌, ◌≤◌, ◌⊎◌, ◌+◌, inl, inr, refl, ap, sym, ◌∙◌, subst, max, Bool, true, false, cond, not, ◌&&◌, arith, List, [], ◌∷◌, ◌++◌, filter, Option, None, Some, option_map, ◌==◌}
use Rattle.std.proofs.lemmas.Bool.Decides.{eqb_tells}
use Rattle.dr_logic.specs.Tables.{at}
use Rattle.dr_ids.specs.declared.names.Member.{Member}
use Rattle.dr_ids.specs.declared.refusal.PhaseName.{PhaseName}
use Rattle.dr_ids.specs.declared.refusal.PhaseName.TheVariants as phase
use Rattle.dr_ids.specs.declared.refusal.Decision.{Decision}
use Rattle.dr_ids.specs.declared.refusal.Decision.TheVariants.{CommitRest}
use Rattle.dr_model.specs.Decisions.{Shown, decision}
use Rattle.dr_model.specs.Phases as phases
use Rattle.dr_model.specs.Control.{Control}
use Rattle.dr_model.specs.Relations.{reverted}
use Rattle.dr_model.specs.Pairs.{held_for, is_secondary_of}
use Rattle.dr_model.specs.Moves.{Move, Carried, target, next_fields}
use Rattle.dr_model.specs.Entries.{fields_at, is_at}
use Rattle.dr_model.specs.Sessions.{Session, Mirror, with_mirror, with_master, mirror_lost_since, mirrored_by, unmirrored, paused, raised, with_member, without_member, changed, begun, busy}
use Rattle.dr_model.specs.Messages.{Flight, Message, Body, Asks, Replies, with_message, sent, answered}
use Rattle.dr_model.specs.Groups.{In, Groups, IsOrderFor, Due, OpensAttempt}
use Rattle.dr_model.specs.Attempts.{Role, Roles, role_of, roles, Seen, seen, all_seen, seen_in, All, AllHeld, Bars, Barred, NumbersAgree, InPhase, phase_of, owed_of, reports_of, IsAttempt, Attempts, AttemptsIn, FlashesMember, RevertsMember, InAttempt, IsLate, IsOver, OverIn}
use Rattle.dr_model.specs.Flights.{Flights}
use Rattle.dr_laws_sessions.specs.Frames.{Moves}
use Rattle.dr_facts.proofs.Tables.{IsOrNot, at_part}
use Rattle.dr_facts.proofs.Lists.{in-joined, from-filter, from-map, to-map}
use Rattle.dr_laws_sessions.proofs.Changes.{same-session, changed-stays}
use Rattle.dr_laws_sessions.proofs.Sound.{quiet-of}
use Rattle.dr_laws_attempts.proofs.Turns.{HoldComes}
use Rattle.dr_laws_attempts.proofs.Dues.{hold-owed, order-works}
use Rattle.dr_laws_attempts.proofs.TurnsKeep.{InAnyPhase, all-held, kept-barred}
use Rattle.dr_laws_attempts.proofs.Places.{Turning, Stays, One, Steps}
use Rattle.dr_laws_attempts.proofs.Moves.{roles-moved, keeps, is-secondary, flashable}
use Rattle.dr_laws_attempts.proofs.Members.{quiet-raised}
use Rattle.dr_laws_attempts.proofs.Tables.{with-opens, opened-steps, quiet-phase, quiet-unrecorded}
use Rattle.dr_laws_sessions.proofs.Members.{quiet-members}
use Rattle.dr_logic.proofs.Truth.{false_true}

-- ---- a session's members change

-- no hold comes any more to one that wasn't held
late-unheld : (f : Flight) (s : ℕ) (p : PhaseName) (n : ℕ) (vs : List Seen) (v : Seen) → IsOver f s p n vs → In v vs → v.attempt < n → HoldComes f s p n → ⊥
late-unheld f s p n vs v over here low (inl is) = subst IsLate is over.late
late-unheld f s p n vs v over here low (inr flies) = let held : n ≤ v.attempt = over.held flies.one flies.is v here in omega arith

over-turns : (f : Flight) (s : ℕ) (p : PhaseName) (n : ℕ) (owed : List ℕ) (reports : List Shown) (vs us : List Seen) → IsAttempt p n owed reports vs → Turning f s p n owed reports vs us → IsOver f s p n vs → IsOver f s p n us
over-turns f s p n owed reports vs us law (Stays is) over = subst (IsOver f s p n) (sym is) over
over-turns f s p n owed reports vs us law (One v k move may) over = let any : InAnyPhase n vs = record { numbers = law.numbers; follows = law.follows } in record {
  late = over.late;
  positive = over.positive;
  barred = kept-barred f s p n owed reports vs any v us k move may (late-unheld f s p n vs v over move.here) over.positive over.barred;
  held = λ m order. all-held f s p n owed reports vs any v us k move may (over.held m order);
}

over-steps : (f : Flight) (ss : List Session) (T S : Roles) (x : Session) → In x ss → AttemptsIn ss T → Steps f ss T S → OverIn f T x → OverIn f S x
over-steps f ss T S x i law steps over = over-turns f x.number (phase_of x.mirror) x.last (owed_of x.mirror) (reports_of x.mirror) (all_seen T x.members) (all_seen S x.members) (law.sessions x i) (steps.turns x i) over

-- each kind of move
pub over-moved : (k j : Control) (m : Move) (c : Carried) (x : Session) → Moves k j (target m) (next_fields m k.volume) c → InAttempt k m → Groups k → Attempts k → Flights k → In x k.sessions → OverIn k.flight (roles k) x → OverIn k.flight (roles j) x
over-moved k j m c x moves may groups law flights i over =
    subst (λ S. OverIn k.flight S x) (sym (roles-moved k j (target m) (next_fields m k.volume) c moves))
    (over-steps k.flight k.sessions (roles k) (at (roles k) (target m) (role_of (next_fields m k.volume))) x i law (keeps k groups law flights m may) over)

-- the first hold of another session's attempt
pub over-opened : (k j : Control) (v s n : ℕ) (c : Carried) (x : Session) → Moves k j v (held_for n (fields_at k v)) c → OpensAttempt k v s n → Groups k → Attempts k → In x k.sessions → x.number ≢ s → OverIn k.flight (roles k) x → OverIn k.flight (roles j) x
over-opened k j v s n c x moves opens groups law i other over =
    subst (λ S. OverIn k.flight S x) (sym (roles-moved k j v (held_for n (fields_at k v)) c moves))
    (over-steps k.flight (changed s begun k.sessions) (roles k) (at (roles k) v (record (roles k v) { attempt = n; recording = true; held = true })) x (changed-stays s begun k.sessions x i other) (with-opens k groups law v s n opens) (opened-steps k groups law v s n opens) over)

-- messages come and go, but no hold of its last number comes
pub over-flown : (f g : Flight) (T : Roles) (x : Session) → ((m : Message) → IsOrderFor g x.number phases.Hold x.last m → IsOrderFor f x.number phases.Hold x.last m) → OverIn f T x → OverIn g T x
over-flown f g T x old over = record { late = over.late; positive = over.positive; barred = over.barred; held = λ m order. over.held m (old m order) }

-- a message more
over-more : (f : Flight) (s epoch server : ℕ) (o : phases.Order) (body : Body) (T : Roles) (x : Session) → (s ≡ x.number → (starts : ℕ) → body ≡ Asks starts → o.work ≡ phases.Hold → ⊥) → OverIn f T x → OverIn (with_message s epoch server o body f) T x
over-more f s epoch server o body T x never over = over-flown f (with_message s epoch server o body f) T x (λ m order. by m order (in-joined f.messages (new ∷ []) m order.order.here)) over
  where
    new : Message
    new = record { number = f.made + 1; session = s; epoch = epoch; server = server; order = o; body = body }

    by : (m : Message) → IsOrderFor (with_message s epoch server o body f) x.number phases.Hold x.last m → In m f.messages ⊎ In m (new ∷ []) → IsOrderFor f x.number phases.Hold x.last m
    by m order (inl old) = record { order = record { here = old; session = order.order.session; starts = order.order.starts; asks = order.order.asks }; works = order.works; number = order.number }
    by m order (inr (inl is)) = absurd (never
        (ap (λ (m : Message). m.session) (sym is) ∙ order.order.session)
        order.order.starts
        (ap (λ (m : Message). m.body) (sym is) ∙ order.order.asks)
        (ap (λ (m : Message). m.order.work) (sym is) ∙ order.works))
    by m order (inr (inr none)) = absurd none

pub over-sent : (f : Flight) (T : Roles) (x : Session) (r : Mirror) (server : ℕ) (o : phases.Order) → x.mirror ≡ Some r → phases.order_for r.master server ≡ Some o → OverIn f T x → OverIn (sent x.number server o f) T x
over-sent f T x r server o has is over = over-more f x.number (f.epoch x.number) server o (Asks (f.starts server)) T x
    (λ itself starts body holds. subst IsLate (hold-owed r.master.phase (order-works (phases.is_among server r.master.owed) (phases.work_in r.master.phase) r.master.number o is ∙ ap Some holds)) (subst (λ o. IsLate (phase_of o)) has over.late)) over

pub over-apart : (f : Flight) (T : Roles) (x : Session) (s server : ℕ) (o : phases.Order) → s ≢ x.number → OverIn f T x → OverIn (sent s server o f) T x
over-apart f T x s server o other over = over-more f s (f.epoch s) server o (Asks (f.starts server)) T x (λ same starts body holds. other same) over

pub over-answered : (f : Flight) (T : Roles) (x : Session) (m : Message) (reply : phases.Reply) → OverIn f T x → OverIn (answered m reply f) T x
over-answered f T x m reply over = over-more f m.session m.epoch m.server m.order (Replies reply) T x (λ same starts body holds. cc) over

-- ---- it begins

free : (n : ℕ) (u : Seen) → u.paired ≡ false → Bars n u.revertible u.paired u.recording u.seal u.floor
free n u h = record { taken = λ r. h; spent = λ r q. false_true h q }

-- a revertible target of a session that stands: an attempt from its first flash on
late-by : (p : PhaseName) (n : ℕ) (owed : List ℕ) (reports : List Shown) (vs : List Seen) (v : Seen) → In v vs → v.revertible ≡ true → InPhase p n owed reports vs → IsLate p
late-by phase.Coordinating n owed reports vs v here r h = false_true (h.before.unflashed v here) r
late-by phase.Releasing n owed reports vs v here r h = false_true (h.before.unflashed v here) r
late-by phase.Draining n owed reports vs v here r h = false_true (h.before.unflashed v here) r
late-by p n owed reports vs v here r h = tt

-- where a target is reverted whose source isn't its primary's secondary any more, all secondaries of the session are taken
pub over-begins : (k j : Control) (v a s n : ℕ) (c : Carried) (x : Session) → Moves k j v (reverted n (fields_at k v)) c → RevertsMember k v a s n → Groups k → Attempts k → In x k.sessions → x.number ≡ s
    → ((m : Member) → In m x.members → m.a.0 ≡ a → is_secondary_of a (fields_at k m.b.0) ≡ false) → OverIn j.flight (roles j) x
over-begins k j v a s n c x moves p groups law i number taken =
    subst (OverIn j.flight (roles j)) is (record {
      late = late-by (phase_of p.place.session.mirror) p.place.session.last (owed_of p.place.session.mirror) (reports_of p.place.session.mirror) (seen_in k p.place.session) (seen (roles k) p.place.member) here flag (law.sessions p.place.session p.place.listed).phase;
      positive = let low : (seen (roles k) p.place.member).floor < p.place.session.last = ((law.sessions p.place.session p.place.listed).numbers.each (seen (roles k) p.place.member) here).above flag in omega arith;
      barred = λ u h. let o = from-map (seen (roles j)) p.place.session.members u h in subst (λ u. Bars p.place.session.last u.revertible u.paired u.recording u.seal u.floor) (sym o.is) (free p.place.session.last (seen (roles j) o.from) (apart o.from o.here));
      held = λ m order u h. let o = from-map (seen (roles j)) p.place.session.members u h in subst (λ (u : Seen). p.place.session.last ≤ u.attempt) (sym o.is) (subst (λ q. p.place.session.last ≤ q) (sym (attempt o.from.a.0)) (held-all (seen (roles k) o.from) (to-map (seen (roles k)) p.place.session.members o.from o.here)));
    })
  where
    is : p.place.session ≡ x
    is = same-session k.sessions p.place.session x groups.once p.place.listed i (p.place.number ∙ sym number)

    here : In (seen (roles k) p.place.member) (seen_in k p.place.session)
    here = to-map (seen (roles k)) p.place.session.members p.place.member p.place.here

    flag : (seen (roles k) p.place.member).revertible ≡ true
    flag = ap (λ u. (roles k u).revertible) p.target ∙ p.revertible

    all : All (λ u. u.paired ≡ false) (seen_in k p.place.session)
    all = by p.way
      where
        by : (Due k.flight p.place.session p.place.member.server.0 phases.Revert n × (is_secondary_of a (fields_at k p.place.member.b.0) ≡ true)) ⊎ All (λ u. u.paired ≡ false) (seen_in k p.place.session) → All (λ u. u.paired ≡ false) (seen_in k p.place.session)
        by (inl e) = false_true (taken p.place.member (subst (λ (z : Session). In p.place.member z.members) is p.place.here) p.place.is) e.1
        by (inr h) = h

    -- one that is revertible was flashed after all were held
    held-all : AllHeld p.place.session.last (seen_in k p.place.session)
    held-all = (law.sessions p.place.session p.place.listed).follows.turned (seen (roles k) p.place.member) here flag

    attempt : (u : ℕ) → (roles j u).attempt ≡ (roles k u).attempt
    attempt u = ap (λ (S : Roles). (S u).attempt) (roles-moved k j v (reverted n (fields_at k v)) c moves) ∙ at_part (λ (r : Role). r.attempt) (roles k) v (role_of (reverted n (fields_at k v))) refl u

    primary : (u : ℕ) → (roles j u).primary ≡ (roles k u).primary
    primary u = ap (λ (S : Roles). (S u).primary) (roles-moved k j v (reverted n (fields_at k v)) c moves) ∙ at_part (λ (r : Role). r.primary) (roles k) v (role_of (reverted n (fields_at k v))) refl u

    apart : (m : Member) → In m p.place.session.members → (seen (roles j) m).paired ≡ false
    apart m h = ap (λ o. is_at o m.a.0) (primary m.b.0) ∙ all (seen (roles k) m) (to-map (seen (roles k)) p.place.session.members m h)

-- ---- no member can be flashed

pub over-unflashed : (k : Control) (x : Session) (v u a n : ℕ) → Groups k → In x k.sessions → OverIn k.flight (roles k) x → FlashesMember k v u a x.number n → ⊥
over-unflashed k x v u a n groups i over p =
    ((over.barred (seen (roles k) p.place.member) (to-map (seen (roles k)) x.members p.place.member here)).spent
    (ap (λ c. (roles k c).revertible) p.target ∙ (flashable u (fields_at k v) p.free).plain)
    (ap (λ b. is_at (roles k b).primary p.place.member.a.0) p.secondary ∙ (ap (λ a. is_at (roles k u).primary a) p.place.is ∙ (sym (is-secondary a (fields_at k u)) ∙ p.paired)))
    (let low : (fields_at k v).floor < n = p.low in
    let same : (roles k p.place.member.c.0).floor ≡ (fields_at k v).floor = ap (λ c. (roles k c).floor) p.target in
    let last : n ≡ x.last = p.last ∙ ap (λ (z : Session). z.last) is in
    omega arith)).0
    (ap (λ b. (roles k b).seal) p.secondary ∙ (p.sealed ∙ (p.last ∙ ap (λ (z : Session). z.last) is)))
  where
    is : p.place.session ≡ x
    is = same-session k.sessions p.place.session x groups.once p.place.listed i p.place.number

    here : In p.place.member x.members
    here = subst (λ (z : Session). In p.place.member z.members) is p.place.here

-- ---- masters

over-mirror : (f : Flight) (T : Roles) (x : Session) (g : Mirror → Mirror) → ((r : Mirror) → IsLate r.master.phase → IsLate (g r).master.phase) → OverIn f T x → OverIn f T (with_mirror g x)
over-mirror f T x g late over = record { late = by x.mirror over.late; positive = over.positive; barred = over.barred; held = over.held }
  where
    by : (o : Option Mirror) → IsLate (phase_of o) → IsLate (phase_of (option_map g o))
    by None h = tt
    by (Some r) h = late r h

late-next : (p : PhaseName) → IsLate p → IsLate (phases.next_phase p)
late-next phase.Coordinating h = absurd h
late-next phase.Releasing h = absurd h
late-next phase.Draining h = absurd h
late-next p h = tt

late-settled : (d : Decision) → IsLate (phases.phase_by d)
late-settled (CommitRest n) = tt
late-settled d = tt

late-left : (m : phases.Master) (rest : List ℕ) → IsLate m.phase → IsLate (phases.left_with m rest).phase
late-left m [] h = late-next m.phase h
late-left m (s ∷ rest) h = h

late-where : (m : phases.Master) (rest : List ℕ) → IsLate m.phase → IsLate (phases.settled_where rest m).phase
late-where m [] h = late-settled (decision m.reports)
late-where m (s ∷ rest) h = h

late-taken : (m : phases.Master) (server : ℕ) (reply : phases.Reply) → IsLate m.phase → IsLate (phases.taken m server reply).phase
late-taken m server phases.Done h = late-left m (phases.without server m.owed) h
late-taken m server phases.NotYet h = h
late-taken m server (phases.Reported xs) h = late-where (phases.replied m server (phases.Reported xs)) (phases.without server m.owed) h

pub over-taken : (f : Flight) (T : Roles) (x : Session) (server : ℕ) (reply : phases.Reply) → OverIn f T x → OverIn f T (with_master (λ m. phases.taken m server reply) x)
over-taken f T x server reply over = over-mirror f T x (λ r. record r { master = phases.taken r.master server reply }) (λ r h. late-taken r.master server reply h) over

late-aborted : (p : PhaseName) → IsLate p → (m : phases.Master) → m.phase ≡ p → IsLate (phases.enters_some (phases.aborted_phase p) m).phase
late-aborted phase.Coordinating h m is = absurd h
late-aborted phase.Releasing h m is = absurd h
late-aborted phase.Draining h m is = absurd h
late-aborted phase.Flashing h m is = tt
late-aborted phase.Committing h m is = tt
late-aborted phase.None h m is = subst IsLate (sym is) tt
late-aborted phase.Idle h m is = subst IsLate (sym is) tt
late-aborted phase.Reverting h m is = subst IsLate (sym is) tt
late-aborted phase.Finishing h m is = subst IsLate (sym is) tt
late-aborted phase.Lost h m is = subst IsLate (sym is) tt

pub over-aborted : (f : Flight) (T : Roles) (x : Session) → OverIn f T x → OverIn f T (with_master phases.aborted x)
over-aborted f T x over = over-mirror f T x (λ r. record r { master = phases.aborted r.master }) (λ r h. late-aborted r.master.phase h r.master refl) over

late-lost : (servers : List ℕ) → IsLate (phases.phase_lost servers)
late-lost [] = tt
late-lost (s ∷ servers) = tt

pub over-lost : (f : Flight) (T : Roles) (x : Session) (before now : ℕ → Bool) → OverIn f T x → OverIn f T (with_mirror (mirror_lost_since before now) x)
over-lost f T x before now over = over-mirror f T x (mirror_lost_since before now) (λ r h. by r h (before r.server && not (now r.server))) over
  where
    by : (r : Mirror) → IsLate r.master.phase → (b : Bool) → IsLate (cond b (record r { master = phases.lost r.master }) r).master.phase
    by r h true = late-lost r.master.servers
    by r h false = h

pub over-paused : (f : Flight) (T : Roles) (x : Session) (on : Bool) → OverIn f T x → OverIn f T (paused on x)
over-paused f T x on over = over-mirror f T x (λ r. record r { paused = on }) (λ r h. h) over

pub over-mirrored : (f : Flight) (T : Roles) (x : Session) (server : ℕ) → OverIn f T x → OverIn f T (mirrored_by server x)
over-mirrored f T x server over = record { late = tt; positive = over.positive; barred = over.barred; held = over.held }

pub over-unmirrored : (f : Flight) (T : Roles) (x : Session) → OverIn f T x → OverIn f T (unmirrored x)
over-unmirrored f T x over = record { late = tt; positive = over.positive; barred = over.barred; held = over.held }

-- ---- members

-- a later number is none of those for which they are sealed
over-later : (n q : ℕ) (vs : List Seen) → NumbersAgree n vs → All (λ u. u.recording ≡ false) vs → n ≤ q → Barred n vs → Barred q vs
over-later n q vs numbers silent up bar = by (eqb_tells n q)
  where
    by : IsOrNot n q → Barred q vs
    by (inl is) = subst (λ q. Barred q vs) is.1 bar
    by (inr other) = λ u h. record {
      taken = (bar u h).taken;
      spent = λ r p less. (λ z. let same : u.seal ≡ q = z in let seal : u.seal ≤ n = (numbers.each u h).seal in let d : n ≢ q = other.1 in absurd (omega arith), silent u h);
    }

pub over-raised : (k : Control) (x : Session) (n : ℕ) → Groups k → Attempts k → Flights k → In x k.sessions → busy x.mirror ≡ None → OverIn k.flight (roles k) x → OverIn k.flight (roles k) (raised n x)
over-raised k x n groups law flights i idle over = record {
  late = subst IsLate (sym (quiet-phase (raised n x) (quiet-raised n x (quiet-of x idle)))) tt;
  positive = let above : 0 < x.last = over.positive in omega arith;
  barred = over-later x.last (max x.last n) (seen_in k x) (law.sessions x i).numbers (quiet-unrecorded k groups law x i (quiet-of x idle)) (omega arith) over.barred;
  held = λ m order. by m order (eqb_tells x.last (max x.last n));
}
  where
    -- none is in flight with a number past the last one
    by : (m : Message) → IsOrderFor k.flight x.number phases.Hold (max x.last n) m → IsOrNot x.last (max x.last n) → AllHeld (max x.last n) (seen_in k x)
    by m order (inl is) = subst (λ q. AllHeld q (seen_in k x)) is.1 (over.held m (subst (λ q. IsOrderFor k.flight x.number phases.Hold q m) (sym is.1) order))
    by m order (inr other) =
        let low : m.order.number ≤ x.last = ((flights.each x i).known m order.order.here order.order.session).number in
        let at : m.order.number ≡ max x.last n = order.number in
        let apart : x.last ≢ max x.last n = other.1 in
        absurd (omega arith)

-- one that comes was held, has a floor that forbids the last number, and doesn't count
pub over-added : (f : Flight) (T : Roles) (x : Session) (m : Member) → busy x.mirror ≡ None → x.last ≤ (T m.a.0).attempt → x.last ≤ (T m.c.0).floor → (T m.c.0).revertible ≡ false → OverIn f T x → OverIn f T (with_member m x)
over-added f T x m idle was high plain over = record {
  late = subst IsLate (sym (quiet-phase (with_member m x) (quiet-members (x.members ++ m ∷ []) x (quiet-of x idle)))) tt;
  positive = over.positive;
  barred = λ u h. let o = from-map (seen T) (x.members ++ m ∷ []) u h in subst (λ u. Bars x.last u.revertible u.paired u.recording u.seal u.floor) (sym o.is) (by o.from (in-joined x.members (m ∷ []) o.from o.here));
  held = λ q order u h. let o = from-map (seen T) (x.members ++ m ∷ []) u h in subst (λ (u : Seen). x.last ≤ u.attempt) (sym o.is) (held q order o.from (in-joined x.members (m ∷ []) o.from o.here));
}
  where
    new : Bars x.last (seen T m).revertible (seen T m).paired (seen T m).recording (seen T m).seal (seen T m).floor
    new = record { taken = λ r. false_true plain r; spent = λ r p less. absurd (omega arith) }

    by : (q : Member) → In q x.members ⊎ In q (m ∷ []) → Bars x.last (seen T q).revertible (seen T q).paired (seen T q).recording (seen T q).seal (seen T q).floor
    by q (inl here) = over.barred (seen T q) (to-map (seen T) x.members q here)
    by q (inr (inl is)) = subst (λ q. Bars x.last (seen T q).revertible (seen T q).paired (seen T q).recording (seen T q).seal (seen T q).floor) (sym is) new
    by q (inr (inr never)) = absurd never

    held : (q : Message) → IsOrderFor f x.number phases.Hold x.last q → (p : Member) → In p x.members ⊎ In p (m ∷ []) → x.last ≤ (T p.a.0).attempt
    held q order p (inl here) = over.held q order (seen T p) (to-map (seen T) x.members p here)
    held q order p (inr (inl is)) = subst (λ (p : Member). x.last ≤ (T p.a.0).attempt) (sym is) was
    held q order p (inr (inr never)) = absurd never

pub over-removed : (f : Flight) (T : Roles) (x : Session) (a : ℕ) → busy x.mirror ≡ None → OverIn f T x → OverIn f T (without_member a x)
over-removed f T x a idle over = record {
  late = subst IsLate (sym (quiet-phase (without_member a x) (quiet-members (filter (λ (m : Member). not (m.a.0 == a)) x.members) x (quiet-of x idle)))) tt;
  positive = over.positive;
  barred = λ u h. over.barred u (stays u h);
  held = λ m order u h. over.held m order u (stays u h);
}
  where
    stays : (u : Seen) → In u (all_seen T (filter (λ (m : Member). not (m.a.0 == a)) x.members)) → In u (all_seen T x.members)
    stays u h =
        let o = from-map (seen T) (filter (λ (m : Member). not (m.a.0 == a)) x.members) u h in
        subst (λ u. In u (all_seen T x.members)) (sym o.is) (to-map (seen T) x.members o.from (from-filter (λ (m : Member). not (m.a.0 == a)) x.members o.from o.here).0)
