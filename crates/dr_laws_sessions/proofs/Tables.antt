-- The laws stay where the table of sessions changes.
use Rattle.std.proofs.Common.{ℕ, ◌≡◌, ◌≢◌, ◌⊎◌, inl, inr, refl, ap, sym, ◌∙◌, subst, Bool, true, false, cond, not, List, [], ◌∷◌, ◌++◌, Option, None, Some}
use Rattle.std.proofs.lemmas.Bool.{cases_Bool}
use Rattle.std.proofs.lemmas.Bool.Decides.{eqb_tells}
use Rattle.dr_ids.specs.declared.names.Member.{Member}
use Rattle.dr_ids.specs.declared.refusal.PhaseName.TheVariants as phase
use Rattle.dr_model.specs.Decisions.{Shown}
use Rattle.dr_model.specs.Phases as phases
use Rattle.dr_model.specs.Tables.{Once}
use Rattle.dr_model.specs.Control.{Control, is_volume}
use Rattle.std.specs.List.{list_any}
use Rattle.std.proofs.lemmas.Option.{same_Some}
use Rattle.dr_model.specs.SessionEntries.{is_drained, members_on, reply_after}
use Rattle.dr_model.specs.SessionPlans.{answered_by}
use Rattle.dr_model.specs.Sessions.{Session, Mirror, session_in, servers_of, has_subsystem, has_member_in, is_only, with_mirror, with_master, mirrored_by, unmirrored, paused, mirror_lost_since, lost_since, joined_by, left_by, new_session, changed, without_session, joins, joined, leaves, left, last_refusal, leave_refusal, not_in_session, in_session, drop_refusal}
use Rattle.dr_model.specs.Groups.{In, MasterStands, OwesServers, SessionFits, Groups}
use Rattle.dr_laws_sessions.specs.Frames.{Became, Grows, Quieter, Quiet, ServerSilent, MayReport, OwesReport}
use Rattle.dr_facts.proofs.Lists.{in-first, in-joined, from-map, to-map, once-more}
use Rattle.dr_facts.proofs.Tables.{IsOrNot}
use Rattle.dr_laws_sessions.proofs.Changes.{numbers, session-found, none-numbered, same-session, changed-in, changed-stays, changed-becomes, changed-once, without-in, without-stays, without-once}
use Rattle.dr_laws_sessions.proofs.Frames.{Fit, fit-of, groups-of, Turns, turn-same, turn-quiet, Stem, Goes, fit-turns, Origin, lone-origin}
use Rattle.dr_laws_sessions.proofs.Sound.{sound-mirrored, sound-unmirrored, sound-new, quiet-drop, quiet-none, fits-quiet}
use Rattle.dr_laws_sessions.proofs.Reports.{shown-few}
use Rattle.dr_laws_sessions.proofs.Owed.{owes-idle}
use Rattle.dr_laws_sessions.proofs.Masters.{turn-paused, session-aborted, session-lost, session-done, session-waits, session-reported, session-settled, session-taken}

-- the same volumes
pub grows-same : (k : Control) (ss : List Session) → Grows k (record k { sessions = ss })
grows-same k ss = record { defined = λ v d. d; server = λ v d. refl; tracks = λ v d. refl }

quieter-same : (k : Control) (ss : List Session) → Quieter k (record k { sessions = ss })
quieter-same k ss = record { recorded = λ v h. h; attempt = λ v h. refl; partner = λ v h. refl }

pub with-table : (k : Control) (ss : List Session) → Fit k ss → Groups (record k { sessions = ss })
with-table k ss fit = groups-of k (record k { sessions = ss }) (grows-same k ss) (quieter-same k ss) fit

-- ---- one session changes

pub fit-changed : (k : Control) (s : ℕ) (f : Session → Session) → Groups k → ((x : Session) → (f x).number ≡ x.number) → ((x : Session) → In x k.sessions → x.number ≡ s → Turns k x (f x)) → Fit k (changed s f k.sessions)
fit-changed k s f groups same turns =
    fit-turns k k.sessions (changed s f k.sessions) (fit-of k groups) (changed-once s f k.sessions same groups.once)
    (λ y i. stem y (changed-in s f k.sessions y groups.once i))
    (λ x i. goes x i (eqb_tells x.number s))
  where
    stem : (y : Session) → (In y k.sessions × (y.number ≢ s)) ⊎ Became s f k.sessions y → Stem k k.sessions y
    stem y (inl h) = record { from = y; listed = h.0; turns = turn-same k y (groups.each y h.0) }
    stem y (inr b) = record { from = b.from; listed = b.listed; turns = subst (λ z. Turns k b.from z) (sym b.is) (turns b.from b.listed b.number) }

    goes : (x : Session) → In x k.sessions → IsOrNot x.number s → Goes k (changed s f k.sessions) x
    goes x i (inl is) = record { to = f x; listed = changed-becomes s f k.sessions x groups.once i is.1; turns = turns x i is.1 }
    goes x i (inr other) = record { to = x; listed = changed-stays s f k.sessions x i other.1; turns = turn-same k x (groups.each x i) }

-- what is said of the session that is found is said of each of that number
pub one-turns : (k : Control) (s : ℕ) (f : Session → Session) (x : Session) → Groups k → session_in k.sessions s ≡ Some x → Turns k x (f x) → (y : Session) → In y k.sessions → y.number ≡ s → Turns k y (f y)
one-turns k s f x groups found turns y listed number =
    let there = session-found k.sessions s x found in
    subst (λ z. Turns k z (f z)) (same-session k.sessions x y groups.once there.0 listed (there.1 ∙ sym number)) turns

pub session-fits : (k : Control) (s : ℕ) (x : Session) → Groups k → session_in k.sessions s ≡ Some x → SessionFits k x
session-fits k s x groups found = groups.each x (session-found k.sessions s x found).0

table-one : (k : Control) (s : ℕ) (f : Session → Session) (x : Session) → Groups k → session_in k.sessions s ≡ Some x → ((x : Session) → (f x).number ≡ x.number) → Turns k x (f x) → Groups (record k { sessions = changed s f k.sessions })
table-one k s f x groups found same turns = with-table k (changed s f k.sessions) (fit-changed k s f groups same (one-turns k s f x groups found turns))

pub groups-mirrored : (k : Control) (s server : ℕ) (x : Session) → Groups k → session_in k.sessions s ≡ Some x → x.mirror ≡ None → (v : ℕ) → is_volume k v ≡ true → (k.volume v).server ≡ server
    → Groups (record k { sessions = changed s (mirrored_by server) k.sessions })
groups-mirrored k s server x groups found none v defined at =
    let fits = session-fits k s x groups found in
    table-one k s (mirrored_by server) x groups found (λ x. refl)
    (turn-quiet k x (mirrored_by server x) (quiet-none x none) refl
    (fits-quiet k (mirrored_by server x) (sound-mirrored server x fits.sound) fits.once fits.stands
    (λ r h. subst (MasterStands k) ((same_Some _ _ h)) (record { volume = v; defined = defined; server = at; in_phase = λ e. absurd cc }))
    (λ r h. subst (λ (q : Mirror). OwesServers q.master) ((same_Some _ _ h)) (owes-idle (servers_of x.members) x.last)) (λ r h. ap (λ (q : Mirror). q.master.phase) (sym ((same_Some _ _ h)))))
    (λ m here. here))

pub groups-unmirrored : (k : Control) (s : ℕ) (x : Session) → Groups k → session_in k.sessions s ≡ Some x → drop_refusal x.mirror ≡ None → Groups (record k { sessions = changed s unmirrored k.sessions })
groups-unmirrored k s x groups found idle =
    let fits = session-fits k s x groups found in
    table-one k s unmirrored x groups found (λ x. refl)
    (turn-quiet k x (unmirrored x) (quiet-drop x idle) refl
    (fits-quiet k (unmirrored x) (sound-unmirrored x fits.sound) fits.once fits.stands (λ r h. absurd cc) (λ r h. absurd cc) (quiet-none (unmirrored x) refl))
    (λ m here. here))

-- these hold of whichever session has the number
pub groups-paused : (k : Control) (s : ℕ) (on : Bool) → Groups k → Groups (record k { sessions = changed s (paused on) k.sessions })
groups-paused k s on groups = with-table k (changed s (paused on) k.sessions) (fit-changed k s (paused on) groups (λ x. refl) (λ x i e. turn-paused k x on (groups.each x i)))

pub groups-aborted : (k : Control) (s : ℕ) → Groups k → Groups (record k { sessions = changed s (with_master phases.aborted) k.sessions })
groups-aborted k s groups = with-table k (changed s (with_master phases.aborted) k.sessions) (fit-changed k s (with_master phases.aborted) groups (λ x. refl) (λ x i e. session-aborted k x (groups.each x i)))

pub groups-waits : (k : Control) (s server : ℕ) → Groups k → Groups (record k { sessions = changed s (with_master (λ m. phases.replied m server phases.NotYet)) k.sessions })
groups-waits k s server groups =
    with-table k (changed s (with_master (λ m. phases.replied m server phases.NotYet)) k.sessions)
    (fit-changed k s (with_master (λ m. phases.replied m server phases.NotYet)) groups (λ x. refl) (λ x i e. session-waits k x server (groups.each x i)))

pub groups-done : (k : Control) (s server : ℕ) (x : Session) → Groups k → session_in k.sessions s ≡ Some x → ((r : Mirror) → x.mirror ≡ Some r → r.master.phase ≡ phase.Finishing → ServerSilent k x server)
    → Groups (record k { sessions = changed s (with_master (λ m. phases.replied m server phases.Done)) k.sessions })
groups-done k s server x groups found silent =
    table-one k s (with_master (λ m. phases.replied m server phases.Done)) x groups found (λ x. refl) (session-done k x server (session-fits k s x groups found) silent)

pub groups-reported : (k : Control) (s server : ℕ) (xs : List Shown) (x : Session) → Groups k → session_in k.sessions s ≡ Some x → ((r : Mirror) → x.mirror ≡ Some r → r.master.phase ≡ phase.Lost) → ((r : Mirror) → x.mirror ≡ Some r → MayReport r.master x.members server xs)
    → Groups (record k { sessions = changed s (with_master (λ m. phases.replied m server (phases.Reported xs))) k.sessions })
groups-reported k s server xs x groups found is may =
    table-one k s (with_master (λ m. phases.replied m server (phases.Reported xs))) x groups found (λ x. refl) (session-reported k x server xs (session-fits k s x groups found) is may)

pub groups-settled : (k : Control) (s : ℕ) → Groups k → Groups (record k { sessions = changed s (with_master phases.settled) k.sessions })
groups-settled k s groups = with-table k (changed s (with_master phases.settled) k.sessions) (fit-changed k s (with_master phases.settled) groups (λ x. refl) (λ x i e. session-settled k x (groups.each x i)))

-- a master takes any reply, and that which a server gives when it has done an order
pub groups-taken : (k : Control) (s server : ℕ) (reply : phases.Reply) (x : Session) → Groups k → session_in k.sessions s ≡ Some x → ((r : Mirror) → x.mirror ≡ Some r → r.master.phase ≡ phase.Finishing → ServerSilent k x server)
    → ((r : Mirror) → x.mirror ≡ Some r → OwesReport r.master x.members server reply)
    → Groups (record k { sessions = changed s (with_master (λ m. phases.taken m server reply)) k.sessions })
groups-taken k s server reply x groups found silent may =
    table-one k s (with_master (λ m. phases.taken m server reply)) x groups found (λ x. refl) (session-taken k x server reply (session-fits k s x groups found) silent may)

-- what a server answers to its order: a report is owed where it reports
answers-owed : (k : Control) (s server : ℕ) (work : phases.Work) (x : Session) (m : phases.Master) → (work ≡ phases.Report → phases.is_among server m.owed ≡ true) → OwesReport m x.members server (reply_after s work (members_on server x.members) k)
answers-owed k s server phases.Report x m owes = record { owes = owes refl; few = shown-few s (members_on server x.members) k }
answers-owed k s server phases.Seal x m owes = by (list_any (λ (q : Member). not (is_drained q.a.0 k)) (members_on server x.members))
  where
    by : (b : Bool) → OwesReport m x.members server (cond b phases.NotYet phases.Done)
    by true = tt
    by false = tt
answers-owed k s server work x m owes = tt

pub groups-answered : (k : Control) (s server : ℕ) (work : phases.Work) (x : Session) → Groups k → session_in k.sessions s ≡ Some x → ((r : Mirror) → x.mirror ≡ Some r → r.master.phase ≡ phase.Finishing → ServerSilent k x server)
    → (work ≡ phases.Report → (r : Mirror) → x.mirror ≡ Some r → phases.is_among server r.master.owed ≡ true)
    → Groups (answered_by s server work (members_on server x.members) k)
groups-answered k s server work x groups found silent owes =
    groups-taken k s server (reply_after s work (members_on server x.members) k) x groups found silent (λ r has. answers-owed k s server work x r.master (λ e. owes e r has))

-- ---- masters are lost

lost-numbers : (before now : ℕ → Bool) (ss : List Session) → numbers (lost_since before now ss) ≡ numbers ss
lost-numbers before now [] = refl
lost-numbers before now (x ∷ ss) = ap (λ ns. x.number ∷ ns) (lost-numbers before now ss)

pub groups-lost : (k : Control) (before now : ℕ → Bool) → Groups k → Groups (record k { sessions = lost_since before now k.sessions })
groups-lost k before now groups =
    with-table k (lost_since before now k.sessions)
    (fit-turns k k.sessions (lost_since before now k.sessions) (fit-of k groups) (subst Once (sym (lost-numbers before now k.sessions)) groups.once)
    (λ y i. let o = from-map (with_mirror (mirror_lost_since before now)) k.sessions y i in
    record { from = o.from; listed = o.here; turns = subst (λ z. Turns k o.from z) (sym o.is) (session-lost k o.from before now (groups.each o.from o.here)) })
    (λ x i. record { to = with_mirror (mirror_lost_since before now) x; listed = to-map (with_mirror (mirror_lost_since before now)) k.sessions x i; turns = session-lost k x before now (groups.each x i) }))

-- ---- logical subsystems

turn-subsystems : (k : Control) (x y : Session) → y.number ≡ x.number → y.members ≡ x.members → y.last ≡ x.last → y.mirror ≡ x.mirror → SessionFits k x → SessionFits k y → Turns k x y
turn-subsystems k x y number members last mirror old fits = record {
  number = number;
  fits = fits;
  within = λ m here. subst (In m) members here;
  keeps = λ m r here has busy records. record { mirror = r; has_master = mirror ∙ has; busy = busy; here = subst (In m) (sym members) here; last = sym last };
}

joined-fits : (k : Control) (l : ℕ) (x : Session) → SessionFits k x → SessionFits k (joined_by l x)
joined-fits k l x fits = record { sound = record { low = fits.sound.low; servers = fits.sound.servers; number = fits.sound.number }; once = fits.once; stands = fits.stands; runs = fits.runs; finished = fits.finished; few = fits.few; owes = fits.owes }

left-fits : (k : Control) (l : ℕ) (x : Session) → SessionFits k x → SessionFits k (left_by l x)
left-fits k l x fits = record { sound = record { low = fits.sound.low; servers = fits.sound.servers; number = fits.sound.number }; once = fits.once; stands = fits.stands; runs = fits.runs; finished = fits.finished; few = fits.few; owes = fits.owes }

new-fits : (k : Control) (s l : ℕ) → SessionFits k (new_session s l)
new-fits k s l = record { sound = sound-new s l; once = tt; stands = λ m here. absurd here; runs = λ r has. absurd cc; finished = λ r has ends m here. absurd here; few = λ r has. absurd cc; owes = λ r has. absurd cc }

-- a new session behind the others, which has no member
fit-new : (k : Control) (s l : ℕ) → Groups k → session_in k.sessions s ≡ None → Fit k (k.sessions ++ new_session s l ∷ [])
fit-new k s l groups none = record {
  once = once-more (λ (x : Session). x.number) k.sessions (new_session s l) groups.once (λ x i. none-numbered k.sessions s x none i);
  each = λ x i. each x (in-joined k.sessions (new_session s l ∷ []) x i);
  lone = lone-origin k.sessions (k.sessions ++ new_session s l ∷ []) groups.lone (λ y m i here. origin y m here (in-joined k.sessions (new_session s l ∷ []) y i));
  recorders = λ v h.
      let r = groups.recorders v h in
      record { session = r.session; listed = in-first k.sessions (new_session s l ∷ []) r.session r.listed; mirror = r.mirror; has_master = r.has_master; busy = r.busy; member = r.member; here = r.here; is = r.is; last = r.last; to = r.to };
}
  where
    each : (x : Session) → In x k.sessions ⊎ In x (new_session s l ∷ []) → SessionFits k x
    each x (inl i) = groups.each x i
    each x (inr (inl is)) = subst (SessionFits k) (sym is) (new-fits k s l)
    each x (inr (inr none)) = absurd none

    origin : (y : Session) (m : Member) → In m y.members → In y k.sessions ⊎ In y (new_session s l ∷ []) → Origin k.sessions y m
    origin y m here (inl i) = record { from = y; listed = i; number = refl; here = here }
    origin y m here (inr (inl is)) = absurd (subst (λ (z : Session). In m z.members) is here)
    origin y m here (inr (inr none)) = absurd none

pub groups-joined : (k : Control) (s l : ℕ) → Groups k → Groups (record k { sessions = joined s l k.sessions })
groups-joined k s l groups = by (session_in k.sessions s) refl
  where
    by : (o : Option Session) → session_in k.sessions s ≡ o → Groups (record k { sessions = joins o s l k.sessions })
    by None none = with-table k (k.sessions ++ new_session s l ∷ []) (fit-new k s l groups none)
    by (Some x) found =
        with-table k (changed s (joined_by l) k.sessions)
        (fit-changed k s (joined_by l) groups (λ x. refl) (λ x i e. turn-subsystems k x (joined_by l x) refl refl refl refl (groups.each x i) (joined-fits k l x (groups.each x i))))

-- a session without a master goes
fit-without : (k : Control) (s : ℕ) → Groups k → ((x : Session) → In x k.sessions → x.number ≡ s → Quiet x) → Fit k (without_session s k.sessions)
fit-without k s groups quiet = record {
  once = without-once s k.sessions groups.once;
  each = λ x i. groups.each x (without-in s k.sessions x i);
  lone = lone-origin k.sessions (without_session s k.sessions) groups.lone (λ y m i here. record { from = y; listed = without-in s k.sessions y i; number = refl; here = here });
  recorders = λ v h.
      let r = groups.recorders v h in
      record { session = r.session; listed = without-stays s k.sessions r.session r.listed (λ e. r.busy (quiet r.session r.listed e r.mirror r.has_master)); mirror = r.mirror; has_master = r.has_master; busy = r.busy; member = r.member; here = r.here; is = r.is; last = r.last; to = r.to };
}

no-last : (o : Option Mirror) → last_refusal o ≡ None → o ≡ None
no-last None h = refl
no-last (Some r) h = absurd cc

-- the last logical subsystem leaves only a session without a master
leave-last : (x : Session) (s l : ℕ) → leave_refusal (Some x) s l ≡ None → is_only l x ≡ true → x.mirror ≡ None
leave-last x s l h only = by (has_subsystem l x) (has_member_in l x) (is_only l x) only h
  where
    by : (a b c : Bool) → c ≡ true → cond (not a) (not_in_session s) (cond b (in_session (Some x)) (cond c (last_refusal x.mirror) None)) ≡ None → x.mirror ≡ None
    by false b c e h = absurd cc
    by true true c e h = absurd cc
    by true false true e h = no-last x.mirror h
    by true false false e h = absurd cc

pub groups-left : (k : Control) (s l : ℕ) (x : Session) → Groups k → session_in k.sessions s ≡ Some x → leave_refusal (Some x) s l ≡ None → Groups (record k { sessions = left s l k.sessions })
groups-left k s l x groups found leaves_it = subst (λ o. Groups (record k { sessions = leaves o s l k.sessions })) (sym found) (by (cases_Bool (is_only l x)))
  where
    there : In x k.sessions × (x.number ≡ s)
    there = session-found k.sessions s x found

    by : (is_only l x ≡ true) ⊎ (is_only l x ≡ false) → Groups (record k { sessions = cond (is_only l x) (without_session s k.sessions) (changed s (left_by l) k.sessions) })
    by (inl only) = subst (λ b. Groups (record k { sessions = cond b (without_session s k.sessions) (changed s (left_by l) k.sessions) })) (sym only)
        (with-table k (without_session s k.sessions) (fit-without k s groups (λ y i e.
        subst Quiet (same-session k.sessions x y groups.once there.0 i (there.1 ∙ sym e)) (quiet-none x (leave-last x s l leaves_it only)))))
    by (inr more) = subst (λ b. Groups (record k { sessions = cond b (without_session s k.sessions) (changed s (left_by l) k.sessions) })) (sym more)
        (with-table k (changed s (left_by l) k.sessions)
        (fit-changed k s (left_by l) groups (λ x. refl) (λ x i e. turn-subsystems k x (left_by l x) refl refl refl refl (groups.each x i) (left-fits k l x (groups.each x i)))))
