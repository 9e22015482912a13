-- A session whose master is Lost, or whose primary servers have all reported for its epoch: what keeps it so in the table of sessions and in the
-- flight.
use Rattle.std.proofs.Common.{ℕ, ◌≡◌, ◌≢◌, ◌≤◌, ◌+◌, ◌⊎◌, inl, inr, refl, ap, sym, ◌∙◌, subst, arith, Bool, true, false, cond, not, ◌==◌, nat_eq, List, [], ◌∷◌, ◌++◌, map, Option, Some, None, option_map}
use Rattle.std.specs.Option.{option_or}
use Rattle.std.proofs.lemmas.Bool.Decides.{eqb_tells}
use Rattle.std.proofs.lemmas.List.Folds.{find-append}
use Rattle.std.proofs.lemmas.Option.{same_Some}
use Rattle.dr_logic.proofs.Options.{none_some}
use Rattle.dr_logic.proofs.Tables.{at_other}
use Rattle.dr_ids.specs.declared.names.Member.{Member}
use Rattle.dr_ids.specs.declared.refusal.PhaseName.{PhaseName}
use Rattle.dr_ids.specs.declared.refusal.PhaseName.TheVariants as phase
use Rattle.dr_model.specs.Phases as phases
use Rattle.dr_model.specs.Sessions.{Session, Mirror, session_in, changed, without_session, joined, joins, joined_by, new_session, left, leaves, left_by, is_only, has_subsystem, has_member_in, with_master, mirrored_by, paused, not_in_session, in_session, last_refusal, leave_refusal}
use Rattle.dr_model.specs.Messages.{Flight, is_lost}
use Rattle.dr_model.specs.Messages as messages
use Rattle.dr_model.specs.Groups.{In}
use Rattle.dr_laws_sessions.specs.Frames.{Quiet}
use Rattle.dr_laws_sessions.proofs.Changes.{changed-found}

-- the epoch of session s stays, and none of its fences falls
pub record Rises (s : ℕ) (f g : Flight) : Type 0 where
  pub epoch : g.epoch s ≡ f.epoch s
  pub fences : (server : ℕ) → f.fence s server ≤ g.fence s server

-- the server of each of these members has reported for the epoch of session s
abbrev pub Reached : ℕ → Flight → List Member → Type 0
Reached s f ms = (m : Member) → In m ms → f.epoch s ≤ f.fence s m.server.0

-- The session has a master, which is in such a phase, or they all have.
pub record HeardBut (Out : PhaseName → Type 0) (s : ℕ) (f : Flight) (ss : List Session) : Type 0 where
  pub session : Session
  pub found : session_in ss s ≡ Some session
  pub mirror : Mirror
  pub has_master : session.mirror ≡ Some mirror
  pub heard : Out mirror.master.phase ⊎ Reached s f session.members

-- What becomes of a session with these members: they stay, it has a master, and that is in such a phase or they all have reported.
pub record NextBut (Out : PhaseName → Type 0) (s : ℕ) (g : Flight) (ms : List Member) (y : Session) : Type 0 where
  pub members : y.members ≡ ms
  pub mirror : Mirror
  pub has_master : y.mirror ≡ Some mirror
  pub heard : Out mirror.master.phase ⊎ Reached s g ms

-- the phase is Lost; none is
abbrev pub IsLost : PhaseName → Type 0
IsLost p = p ≡ phase.Lost

abbrev pub IsNone : PhaseName → Type 0
IsNone p = ⊥

-- ---- another session changes, or goes

-- a look for a session whose number differs
passed-by : (s : ℕ) (x : Session) (o : Option Session) → nat_eq x.number s ≡ false → cond (x.number == s) (Some x) o ≡ o
passed-by s x o other = ap (λ b. cond b (Some x) o) other

pub changed-else : (s i : ℕ) (h : Session → Session) (ss : List Session) → ((x : Session) → (h x).number ≡ x.number) → nat_eq i s ≡ false → session_in (changed i h ss) s ≡ session_in ss s
unfolding changed
changed-else s i h [] same other = refl
changed-else s i h (x ∷ xs) same other = by (eqb_tells x.number i) (changed-else s i h xs same other)
  where
    by : ((nat_eq x.number i ≡ true) × (x.number ≡ i)) ⊎ ((nat_eq x.number i ≡ false) × (x.number ≢ i)) → session_in (changed i h xs) s ≡ session_in xs s
        → session_in (cond (x.number == i) (h x ∷ xs) (x ∷ changed i h xs)) s ≡ session_in (x ∷ xs) s
    by (inl e) again =
        let off : nat_eq x.number s ≡ false = ap (λ n. nat_eq n s) e.1 ∙ other in
        ap (λ b. session_in (cond b (h x ∷ xs) (x ∷ changed i h xs)) s) e.0
        ∙ (passed-by s (h x) (session_in xs s) (ap (λ n. nat_eq n s) (same x) ∙ off) ∙ sym (passed-by s x (session_in xs s) off))
    by (inr e) again = ap (λ b. session_in (cond b (h x ∷ xs) (x ∷ changed i h xs)) s) e.0 ∙ ap (λ o. cond (x.number == s) (Some x) o) again

without-else : (s i : ℕ) (ss : List Session) → nat_eq i s ≡ false → session_in (without_session i ss) s ≡ session_in ss s
unfolding without_session
without-else s i [] other = refl
without-else s i (x ∷ xs) other = by (eqb_tells x.number i) (without-else s i xs other)
  where
    by : ((nat_eq x.number i ≡ true) × (x.number ≡ i)) ⊎ ((nat_eq x.number i ≡ false) × (x.number ≢ i)) → session_in (without_session i xs) s ≡ session_in xs s
        → session_in (cond (x.number == i) xs (x ∷ without_session i xs)) s ≡ session_in (x ∷ xs) s
    by (inl e) again = ap (λ b. session_in (cond b xs (x ∷ without_session i xs)) s) e.0 ∙ sym (passed-by s x (session_in xs s) (ap (λ n. nat_eq n s) e.1 ∙ other))
    by (inr e) again = ap (λ b. session_in (cond b xs (x ∷ without_session i xs)) s) e.0 ∙ ap (λ o. cond (x.number == s) (Some x) o) again

pub rises-same : (s : ℕ) (f : Flight) → Rises s f f
rises-same s f = record { epoch = refl; fences = λ server. omega arith }

pub reached-on : (s : ℕ) (f g : Flight) (ms : List Member) → Rises s f g → Reached s f ms → Reached s g ms
reached-on s f g ms rises reached m here =
    let old : f.epoch s ≤ f.fence s m.server.0 = reached m here in
    let higher : f.fence s m.server.0 ≤ g.fence s m.server.0 = rises.fences m.server.0 in
    let same : g.epoch s ≡ f.epoch s = rises.epoch in omega arith

-- ---- the flight changes, or one session of the table

module _ (Out : PhaseName → Type 0) (s : ℕ) where
  abbrev HeardIn : Flight → List Session → Type 0
  HeardIn = HeardBut Out s

  -- what was reported stays so
  pub still : (f g : Flight) (ms : List Member) (r : Mirror) → Rises s f g → Out r.master.phase ⊎ Reached s f ms → Out r.master.phase ⊎ Reached s g ms
  still f g ms r rises (inl out) = inl out
  still f g ms r rises (inr reached) = inr (reached-on s f g ms rises reached)

  -- a session that is found in another table
  pub heard-else : (f g : Flight) (ss ts : List Session) → Rises s f g → session_in ts s ≡ session_in ss s → HeardIn f ss → HeardIn g ts
  heard-else f g ss ts rises same h = record { session = h.session; found = same ∙ h.found; mirror = h.mirror; has_master = h.has_master; heard = still f g h.session.members h.mirror rises h.heard }

  pub heard-flight : (f g : Flight) (ss : List Session) → Rises s f g → HeardIn f ss → HeardIn g ss
  heard-flight f g ss rises h = heard-else f g ss ss rises refl h

  own-next : (g : Flight) (ms : List Member) (ts : List Session) (y : Session) → session_in ts s ≡ Some y → NextBut Out s g ms y → HeardIn g ts
  own-next g ms ts y found next = record { session = y; found = found; mirror = next.mirror; has_master = next.has_master; heard = by next.heard }
    where
      by : Out next.mirror.master.phase ⊎ Reached s g ms → Out next.mirror.master.phase ⊎ Reached s g y.members
      by (inl out) = inl out
      by (inr reached) = inr (subst (Reached s g) (sym next.members) reached)

  pub heard-one : (i : ℕ) (f g : Flight) (ss : List Session) (change : Session → Session) → ((x : Session) → (change x).number ≡ x.number) → (i ≢ s → Rises s f g)
      → (h : HeardIn f ss) → (i ≡ s → NextBut Out s g h.session.members (change h.session)) → HeardIn g (changed i change ss)
  heard-one i f g ss change same rises h next = by (eqb_tells i s)
    where
      by : ((nat_eq i s ≡ true) × (i ≡ s)) ⊎ ((nat_eq i s ≡ false) × (i ≢ s)) → HeardIn g (changed i change ss)
      by (inl e) = own-next g h.session.members (changed i change ss) (change h.session) (subst (λ j. session_in (changed j change ss) s ≡ Some (change h.session)) (sym e.1) (changed-found s change ss h.session same h.found)) (next e.1)
      by (inr e) = heard-else f g ss (changed i change ss) (rises e.1) (changed-else s i change ss same e.0) h

  -- all sessions change
  pub heard-all : (f g : Flight) (ss : List Session) (change : Session → Session) → ((x : Session) → (change x).number ≡ x.number) → (h : HeardIn f ss) → NextBut Out s g h.session.members (change h.session) → HeardIn g (map change ss)
  heard-all f g ss change same h next = own-next g h.session.members (map change ss) (change h.session) (mapped ss ∙ ap (option_map change) h.found) next
    where
      mapped : (ss : List Session) → session_in (map change ss) s ≡ option_map change (session_in ss s)
      mapped [] = refl
      mapped (x ∷ xs) = ap (λ n. cond (n == s) (Some (change x)) (session_in (map change xs) s)) (same x) ∙ by (x.number == s) (mapped xs)
        where
          by : (b : Bool) → session_in (map change xs) s ≡ option_map change (session_in xs s) → cond b (Some (change x)) (session_in (map change xs) s) ≡ option_map change (cond b (Some x) (session_in xs s))
          by true again = refl
          by false again = again

  -- the session that is found has that master
  pub is-own : (i : ℕ) (f : Flight) (ss : List Session) (x : Session) → session_in ss i ≡ Some x → (h : HeardIn f ss) → i ≡ s → h.session ≡ x
  is-own i f ss x found h e = same_Some _ _ (sym h.found ∙ (ap (session_in ss) (sym e) ∙ found))

  pub own-mirror : (i : ℕ) (f : Flight) (ss : List Session) (x : Session) → session_in ss i ≡ Some x → (h : HeardIn f ss) → i ≡ s → x.mirror ≡ Some h.mirror
  own-mirror i f ss x found h e = ap (λ (y : Session). y.mirror) (sym (is-own i f ss x found h e)) ∙ h.has_master

-- ---- lines on sessions and masters, while a master may be Lost

module _ (s : ℕ) where
  abbrev Heard : Flight → List Session → Type 0
  Heard = HeardBut IsLost s

  -- its members, its master's phase and the flight stay
  alike : (f : Flight) (ss : List Session) (h : Heard f ss) (y : Session) (q : Mirror) → y.members ≡ h.session.members → y.mirror ≡ Some q → q.master.phase ≡ h.mirror.master.phase → NextBut IsLost s f h.session.members y
  alike f ss h y q members has same = record { members = members; mirror = q; has_master = has; heard = by h.heard }
    where
      by : IsLost h.mirror.master.phase ⊎ Reached s f h.session.members → IsLost q.master.phase ⊎ Reached s f h.session.members
      by (inl lost) = inl (same ∙ lost)
      by (inr reached) = inr reached

  -- a subsystem joins, or leaves
  pub heard-joined : (f : Flight) (i l : ℕ) (ss : List Session) → Heard f ss → Heard f (joined i l ss)
  heard-joined f i l ss h = by (session_in ss i)
    where
      by : (o : Option Session) → Heard f (joins o i l ss)
      by None = heard-else IsLost s f f ss (ss ++ new_session i l ∷ []) (rises-same s f)
          (find-append (λ (x : Session). x.number == s) ss (new_session i l ∷ []) ∙ (ap (λ o. option_or o (session_in (new_session i l ∷ []) s)) h.found ∙ sym h.found)) h
      by (Some x) = heard-one IsLost s i f f ss (joined_by l) (λ x. refl) (λ ne. rises-same s f) h (λ e. alike f ss h (joined_by l h.session) h.mirror refl h.has_master refl)

  -- the last one leaves only if there is no master
  no-master : (i l : ℕ) (x : Session) → leave_refusal (Some x) i l ≡ None → is_only l x ≡ true → x.mirror ≡ None
  no-master i l x free only = by x.mirror (ap (λ b. cond b (last_refusal x.mirror) None) (sym only) ∙ rest (has_subsystem l x) (has_member_in l x) free)
    where
      rest : (a b : Bool) → cond (not a) (not_in_session i) (cond b (in_session (Some x)) (cond (is_only l x) (last_refusal x.mirror) None)) ≡ None → cond (is_only l x) (last_refusal x.mirror) None ≡ None
      rest true false e = e
      rest true true e = absurd cc
      rest false b e = absurd cc

      by : (o : Option Mirror) → last_refusal o ≡ None → o ≡ None
      by None e = refl
      by (Some r) e = absurd cc

  rises-left : (f : Flight) (i l : ℕ) (x : Session) → Rises s f (messages.left i l x f)
  rises-left f i l x = by (is_only l x)
    where
      by : (b : Bool) → Rises s f (cond b (messages.forgotten i f) f)
      by true = record { epoch = refl; fences = λ server. omega arith }
      by false = rises-same s f

  pub heard-left : (f : Flight) (i l : ℕ) (x : Session) (ss : List Session) → session_in ss i ≡ Some x → leave_refusal (Some x) i l ≡ None → Heard f ss → Heard (messages.left i l x f) (left i l ss)
  heard-left f i l x ss found free h = heard-flight IsLost s f (messages.left i l x f) (left i l ss) (rises-left f i l x) (subst (λ o. Heard f (leaves o i l ss)) (sym found) (by (is_only l x) refl))
    where
      gone : is_only l x ≡ true → ((nat_eq i s ≡ true) × (i ≡ s)) ⊎ ((nat_eq i s ≡ false) × (i ≢ s)) → Heard f (without_session i ss)
      gone only (inl e) = none_some (no-master i l x free only) (own-mirror IsLost s i f ss x found h e.1)
      gone only (inr e) = heard-else IsLost s f f ss (without_session i ss) (rises-same s f) (without-else s i ss e.0) h

      by : (b : Bool) → is_only l x ≡ b → Heard f (cond b (without_session i ss) (changed i (left_by l) ss))
      by true only = gone only (eqb_tells i s)
      by false more = heard-one IsLost s i f f ss (left_by l) (λ x. refl) (λ ne. rises-same s f) h (λ e. alike f ss h (left_by l h.session) h.mirror refl h.has_master refl)

  pub heard-paused : (f : Flight) (i : ℕ) (on : Bool) (ss : List Session) → Heard f ss → Heard f (changed i (paused on) ss)
  heard-paused f i on ss h = heard-one IsLost s i f f ss (paused on) (λ x. refl) (λ ne. rises-same s f) h
      (λ e. alike f ss h (paused on h.session) (record h.mirror { paused = on }) refl (ap (option_map (λ (r : Mirror). record r { paused = on })) h.has_master) refl)

  -- an epoch begins for another session
  rises-raised : (f : Flight) (i : ℕ) → i ≢ s → Rises s f (messages.raised i f)
  rises-raised f i ne = record { epoch = at_other f.epoch i (f.epoch i + 1) s (λ e. ne (sym e)); fences = λ server. omega arith }

  rises-aborted : (f : Flight) (i : ℕ) (o : Option Mirror) → i ≢ s → Rises s f (messages.aborted i o f)
  rises-aborted f i None ne = rises-same s f
  rises-aborted f i (Some r) ne = by (is_lost (phases.aborted_phase r.master.phase))
    where
      by : (b : Bool) → Rises s f (cond b (messages.raised i f) f)
      by true = rises-raised f i ne
      by false = rises-same s f

  -- after an abort a master is Lost, or its epoch stays
  aborted-heard : (f : Flight) (ms : List Member) (m : phases.Master) (o : Option PhaseName) → phases.aborted_phase m.phase ≡ o → IsLost m.phase ⊎ Reached s f ms
      → IsLost (phases.enters_some o m).phase ⊎ Reached s (cond (is_lost o) (messages.raised s f) f) ms
  aborted-heard f ms m (Some phase.Lost) is h = inl refl
  aborted-heard f ms m o is (inr reached) = inr reached
  aborted-heard f ms m None is (inl lost) = inl lost
  aborted-heard f ms m (Some p) is (inl lost) = none_some (ap phases.aborted_phase lost) is

  pub heard-aborted : (f : Flight) (i : ℕ) (x : Session) (ss : List Session) → session_in ss i ≡ Some x → Heard f ss → Heard (messages.aborted i x.mirror f) (changed i (with_master phases.aborted) ss)
  heard-aborted f i x ss found h = heard-one IsLost s i f (messages.aborted i x.mirror f) ss (with_master phases.aborted) (λ x. refl) (rises-aborted f i x.mirror) h (λ e. record {
    members = refl;
    mirror = record h.mirror { master = phases.aborted h.mirror.master };
    has_master = ap (option_map (λ (r : Mirror). record r { master = phases.aborted r.master })) h.has_master;
    heard = subst (λ g. IsLost (phases.aborted h.mirror.master).phase ⊎ Reached s g h.session.members)
        (sym ((λ j. messages.aborted (e j) x.mirror f) ∙ ap (λ o. messages.aborted s o f) (own-mirror IsLost s i f ss x found h e)))
        (aborted-heard f h.session.members h.mirror.master (phases.aborted_phase h.mirror.master.phase) refl h.heard);
  })

  -- a master is appointed for another session
  pub heard-mirrored : (f : Flight) (i server : ℕ) (x : Session) (ss : List Session) → session_in ss i ≡ Some x → x.mirror ≡ None → Heard f ss → Heard (messages.raised i f) (changed i (mirrored_by server) ss)
  heard-mirrored f i server x ss found none h = heard-one IsLost s i f (messages.raised i f) ss (mirrored_by server) (λ x. refl) (rises-raised f i) h (λ e. none_some none (own-mirror IsLost s i f ss x found h e))

  -- what asks that a master is Idle is of another session, if this one's isn't
  pub heard-idle : (f : Flight) (i : ℕ) (x : Session) (ss ts : List Session) (change : Session → Session) → ((x : Session) → (change x).number ≡ x.number) → session_in ss i ≡ Some x → Quiet x → (h : Heard f ss) → (h.mirror.master.phase ≡ phase.Idle → ⊥)
      → (g : Flight) → Heard g ts → Heard g (changed i change ts)
  heard-idle f i x ss ts change same found quiet h busy g j = heard-one IsLost s i g g ts change same (λ ne. rises-same s g) j (λ e. absurd (busy (quiet h.mirror (own-mirror IsLost s i f ss x found h e))))
