-- The step table for lines on sessions.
use Rattle.std.specs.Prelude.{ℕ, ◌+◌, Bool, true, false, ◌&&◌, ◌||◌, ◌==◌, not, List, [], ◌∷◌, filter, Option, Some, None, nat_eq, if◌then◌else◌}
use Rattle.std.specs.List.{find, list_any}
use Rattle.std.specs.Option.{option_or}
use Rattle.dr_ids.specs.declared.names.Member.{Member}
use Rattle.dr_ids.specs.declared.refusal.PhaseName.{PhaseName}
use Rattle.dr_ids.specs.declared.refusal.PhaseName.TheVariants as phase
use Rattle.dr_ids.specs.declared.refusal.Refusal.{Refusal}
use Rattle.dr_ids.specs.declared.refusal.Refusal.TheVariants.{Duplicate, OutOfOrder, NumbersSpent}
use Rattle.dr_ids.specs.declared.refusal.Kind.TheVariants.{Server as OfServer, Volume as OfVolume}
use Rattle.dr_model.specs.declared.said.Addition.TheVariants.{Alone, InPhase}
use Rattle.dr_model.specs.declared.said.Said.{Said}
use Rattle.dr_model.specs.declared.said.Said.TheVariants.{Done}
use Rattle.dr_model.specs.declared.step.Name.{Name}
use Rattle.dr_model.specs.declared.state.Part.TheVariants.{Global}
use Rattle.dr_model.specs.Layout.{Fields, is_part}
use Rattle.dr_model.specs.Refusals.{server_off, unknown}
use Rattle.dr_model.specs.Control.{Control}
use Rattle.dr_model.specs.Phases as phases
use Rattle.dr_model.specs.Messages as messages
use Rattle.dr_model.specs.Sessions.{Session, Mirror, session_in, mirror_in, members_in, is_member, has_place_of, has_subsystem, changed, joined, left, raised, with_member, without_member, with_master, mirrored_by, unmirrored, paused, not_in_session, in_session, busy, no_master, join_refusal, leave_refusal, make_refusal, drop_refusal, abort_refusal}
use Rattle.dr_model.specs.Pairs.{is_kind}
use Rattle.dr_model.specs.Entries.{fields_at, is_running, subsystem, targets_of, relation_state, pair_state}
use Rattle.dr_model.specs.PairEntries.{link_down, send_refusal}
use Rattle.dr_model.specs.PlanParts.{Plan, same, none_follow, always, tables_plan, refuses, unless, on_server, on_owner, on_session, owner_of, is_named, is_defined}
use Rattle.dr_model.specs.SessionEntries.{order_entries, members_on, reply_after, first_number, add_entries, expel_entries}

-- what becomes of the table of sessions
abbrev pub with_sessions : (List Session → List Session) → Control → Control
with_sessions f k = record k { sessions = f k.sessions }

-- a step that changes the table alone
abbrev pub table_plan : (List Session → List Session) → Plan
table_plan f = tables_plan (with_sessions f) [] (Done Alone)

-- the server that is named isn't that one
abbrev pub name_refusal : Control → Option Name → ℕ → Option Refusal
name_refusal k dev owner = if is_named dev owner k then None else Some (unknown OfServer)

-- server s is off
abbrev pub off_refusal : Control → ℕ → Option Refusal
off_refusal k s = if k.on s then None else Some (server_off s)

-- what needs the owner of a logical subsystem, and what needs the session, too
abbrev pub on_both : Control → ℕ → ℕ → (ℕ → Session → Plan) → Plan
on_both k l s plan = on_owner (owner_of k l) (λ owner. on_session (session_in k.sessions s) (plan owner))

-- the logical subsystem isn't one of the session's
abbrev pub outside_refusal : Session → ℕ → Option Refusal
outside_refusal x l = if has_subsystem l x then None else not_in_session x.number

-- ---- logical subsystems

-- one joins a session, which is made where it is new
abbrev pub join_plan : Control → Option Name → ℕ → ℕ → Plan
join_plan k dev l s = on_owner (owner_of k l) (λ owner.
    unless (option_or (name_refusal k dev owner) (option_or (off_refusal k owner) (join_refusal (session_in k.sessions s) l k.sessions)))
    (table_plan (joined s l)))

-- one leaves session x of number s: with its last one the session is gone, and its messages
abbrev pub leaving : ℕ → ℕ → Session → Control → Control
leaving s l x k = record k { sessions = left s l k.sessions; flight = messages.left s l x k.flight }

-- one leaves it; with its last one the session is gone
abbrev pub leave_plan : Control → Option Name → ℕ → ℕ → Plan
leave_plan k dev l s = on_both k l s (λ owner x.
    unless (option_or (name_refusal k dev owner) (leave_refusal (Some x) s l)) (tables_plan (leaving s l x) [] (Done Alone)))

-- ---- masters

-- a server appoints the master of session s, with which an epoch begins
abbrev pub appointed : ℕ → ℕ → Control → Control
appointed s server k = record k { sessions = changed s (mirrored_by server) k.sessions; flight = messages.raised s k.flight }

-- the owner of a logical subsystem becomes the session's master
abbrev pub mirror_plan : Control → Option Name → ℕ → ℕ → Plan
mirror_plan k dev l s = on_both k l s (λ owner x.
    unless (option_or (name_refusal k dev owner) (option_or (outside_refusal x l) (option_or (off_refusal k owner) (make_refusal x.mirror))))
    (tables_plan (appointed s owner) [] (Done Alone)))

-- there is no master, or its server is off
abbrev pub master_refusal : Control → Option Mirror → Option Refusal
master_refusal k None = no_master
master_refusal k (Some r) = off_refusal k r.server

-- a master is paused, or runs again
abbrev pub pause_mirror_plan : Control → Option Name → ℕ → ℕ → Bool → Plan
pause_mirror_plan k dev l s on = on_both k l s (λ owner x.
    unless (option_or (name_refusal k dev owner) (option_or (outside_refusal x l) (master_refusal k x.mirror)))
    (table_plan (changed s (paused on))))

-- an Idle master is dismissed
abbrev pub unmirror_plan : Control → Option Name → ℕ → ℕ → Plan
unmirror_plan k dev l s = on_both k l s (λ owner x.
    unless (option_or (name_refusal k dev owner) (option_or (outside_refusal x l) (option_or (master_refusal k x.mirror) (drop_refusal x.mirror))))
    (table_plan (changed s unmirrored)))

-- the phase of a session's master with its number, no phase without one
abbrev pub mirror_phase : Option Mirror → Said
mirror_phase None = Done (InPhase phase.None 0)
mirror_phase (Some r) = Done (InPhase r.master.phase r.master.number)

-- of a session that was looked up
abbrev pub session_phase : Option Session → Said
session_phase None = Done (InPhase phase.None 0)
session_phase (Some x) = mirror_phase x.mirror

-- of session s, as it is when the step ends
abbrev pub says_phase : ℕ → Control → Said
says_phase s k = session_phase (session_in k.sessions s)

-- the attempt of session s is given up; where its master is Lost then, an epoch begins
abbrev pub aborting : ℕ → Option Mirror → Control → Control
aborting s r k = record k { sessions = changed s (with_master phases.aborted) k.sessions; flight = messages.aborted s r k.flight }

-- an attempt is aborted
abbrev pub abort_plan : Control → ℕ → Plan
abort_plan k s = on_session (session_in k.sessions s) (λ x.
    unless (option_or (abort_refusal x.mirror) (master_refusal k x.mirror))
    (record (tables_plan (aborting s x.mirror) [] (Done Alone)) { says = says_phase s }))

-- ---- members

-- the targets of b whose changes are recorded, and on which the host may not write
abbrev pub is_mirrored_target : Fields → Bool
is_mirrored_target f = f.recorded && f.inhibited

-- all of them, in order of definition
abbrev pub mirrored_targets : Control → ℕ → List ℕ
mirrored_targets k b = filter (λ u. is_mirrored_target (fields_at k u)) (targets_of k b)

-- the only one of a list, if it has one
abbrev pub the_only : List ℕ → Option ℕ
the_only [] = None
the_only (c ∷ []) = Some c
the_only (c ∷ d ∷ us) = None

-- that one, where it is neither revertible nor reversing
abbrev pub settled_target : Control → Option ℕ → Option ℕ
settled_target k None = None
settled_target k (Some c) = if (fields_at k c).revertible || (fields_at k c).reversing then None else Some c

-- the target that makes a member of a primary and its secondary b
abbrev pub member_target : Control → ℕ → Option ℕ
member_target k b = settled_target k (the_only (mirrored_targets k b))

-- the member that primary a would be, with its target
abbrev pub member_with : Control → ℕ → ℕ → Member
member_with k a c = record { a = record { 0 = a }; b = record { 0 = (fields_at k a).primary_partner }; c = record { 0 = c }; server = record { 0 = (k.volume a).server } }

-- a isn't in the logical subsystem, or its server isn't the one that is named
abbrev pub place_refusal : Control → Option Name → ℕ → ℕ → ℕ → Option Refusal
place_refusal k dev owner l a = if not (nat_eq (subsystem a) l) then Some (unknown OfVolume) else name_refusal k dev owner

-- the session has a already, or another one has it, or a master isn't Idle
abbrev pub taken_refusal : Control → Session → ℕ → Option Refusal
taken_refusal k x a =
    if is_member a x then Some (Duplicate OfVolume)
    else option_or (in_session (find (is_member a) k.sessions)) (busy x.mirror)

-- the secondary b of a member is no primary
abbrev pub lead_refusal : ℕ → Control → Option Refusal
lead_refusal b k = if is_part (fields_at k b).primary then Some (pair_state k b) else None

-- the server of a is off; it is no Global Copy primary; its secondary can't be reached, or isn't its own, or is cascaded
abbrev pub copy_refusal : Control → ℕ → Option Refusal
copy_refusal k a =
    if not (is_running a k) then Some (server_off (k.volume a).server)
    else if not (is_kind Global (fields_at k a).primary) then Some (pair_state k a)
    else option_or (send_refusal a (fields_at k a).primary_partner k) (lead_refusal (fields_at k a).primary_partner k)

-- the secondary b has no target for a member; one of the three volumes has a place in a member of some session
abbrev pub add_done : Control → ℕ → Session → Member → Plan
add_done k s x m = unless (in_session (find (has_place_of m) k.sessions)) (record {
  first = same;
  told = [];
  entries = add_entries m (first_number k x.last m);
  follows = none_follow;
  last = with_sessions (λ ss. changed s (with_member m) (changed s (raised (first_number k x.last m)) ss));
  says = always (Done Alone);
})

-- primary a becomes a member with the target that was looked up
abbrev pub add_target : Control → ℕ → Session → ℕ → ℕ → Option ℕ → Plan
add_target k s x a b None = refuses (relation_state k b)
add_target k s x a b (Some c) = add_done k s x (member_with k a c)

-- primary a is added to session x: first what refuses it
abbrev pub add_to : Control → ℕ → Session → ℕ → ℕ → Plan
add_to k s x l a =
    unless (option_or (outside_refusal x l) (option_or (taken_refusal k x a) (copy_refusal k a)))
    (add_target k s x a (fields_at k a).primary_partner (member_target k (fields_at k a).primary_partner))

-- what needs a volume that is defined
abbrev pub on_volume : Control → ℕ → Plan → Plan
on_volume k v plan = if is_defined v k then plan else refuses (unknown OfVolume)

-- primary a becomes a member, with its secondary and the target of that
abbrev pub add_plan : Control → Option Name → ℕ → ℕ → ℕ → Plan
add_plan k dev l a s = on_owner (owner_of k l) (λ owner. on_volume k a (on_session (session_in k.sessions s) (λ x.
    unless (place_refusal k dev owner l a) (add_to k s x l a))))

-- it is a member no more: first its target leaves, then the list loses it
abbrev pub expel_done : Control → ℕ → Member → Plan
expel_done k s m = unless (off_refusal k (k.volume m.c.0).server) (record {
  first = same;
  told = [];
  entries = expel_entries s m;
  follows = none_follow;
  last = with_sessions (changed s (without_member m.a.0));
  says = always (Done Alone);
})

-- the member that was looked up is removed
abbrev pub expel_found : Control → ℕ → Session → Option Member → Plan
expel_found k s x None = unless (not_in_session s) (table_plan (λ ss. ss))
expel_found k s x (Some m) = unless (busy x.mirror) (expel_done k s m)

-- `chsession -action remove`
abbrev pub expel_plan : Control → Option Name → ℕ → ℕ → ℕ → Plan
expel_plan k dev l a s = on_owner (owner_of k l) (λ owner. on_volume k a (on_session (session_in k.sessions s) (λ x.
    unless (name_refusal k dev owner) (expel_found k s x (find (λ m. m.a.0 == a) x.members)))))

-- ---- exchanges

-- the phase is Idle
abbrev pub is_idle : PhaseName → Bool
is_idle phase.Idle = true
is_idle p = false

-- In Idle an exchange begins an attempt: a paused master begins none, a server without members has no part in it, and numbers
-- end below 2^32. In any other phase the server must be owed its order.
abbrev pub phase_refusal : Mirror → ℕ → List Member → Option Refusal
phase_refusal r server ms =
    if is_idle r.master.phase then
    (if r.paused || not (list_any (λ m. m.server.0 == server) ms) then Some (OutOfOrder phase.Idle)
    else if r.master.number + 1 == 4294967296 then Some NumbersSpent
    else None)
    else if phases.is_among server r.master.owed then None
    else Some (OutOfOrder r.master.phase)

-- the link between the master's server and that one is down
abbrev pub apart_refusal : Control → ℕ → ℕ → Option Refusal
apart_refusal k s u = if nat_eq s u || k.link s u then None else Some (link_down s u)

-- why an exchange is refused, the first of these
abbrev pub exchange_refusal : Control → Mirror → ℕ → List Member → Option Refusal
exchange_refusal k r server ms =
    option_or (off_refusal k r.server) (option_or (phase_refusal r server ms) (option_or (off_refusal k server) (apart_refusal k r.server server)))

-- the order that is carried out: the one that is owed, and in Idle the first one of the next attempt
abbrev pub order_of : Mirror → ℕ → Option phases.Order
order_of r server = if is_idle r.master.phase then Some (record { work = phases.Hold; number = r.master.number + 1 }) else phases.order_for r.master server

-- the master takes the reply of a server that has done its order
abbrev pub answered_by : ℕ → ℕ → phases.Work → List Member → Control → Control
answered_by s server work ms k = with_sessions (changed s (with_master (λ m. phases.taken m server (reply_after s work ms k)))) k

-- as the order ends, the master takes the reply, unless it isn't to learn of it; a report raises the server's fence to the session's epoch
abbrev pub exchanged : ℕ → ℕ → Bool → phases.Work → List Member → Control → Control
exchanged s server reply work ms k =
    record (if reply then answered_by s server work ms k else k) { flight = messages.heard s server (k.flight.epoch s) work k.flight }

-- the order that is owed, over the members on the server; as it ends, the master takes the reply, unless it isn't to learn of it
abbrev pub exchange_done : ℕ → ℕ → Bool → List Member → Option phases.Order → Plan
exchange_done s server reply ms None = refuses (OutOfOrder phase.None)
exchange_done s server reply ms (Some o) = record {
  first = same;
  told = [];
  entries = order_entries o.work s o.number ms;
  follows = none_follow;
  last = exchanged s server reply o.work ms;
  says = says_phase s;
}

-- by the session's master, refused where there is none
abbrev pub exchange_on : Control → ℕ → Option Mirror → ℕ → Bool → List Member → Plan
exchange_on k s None server reply ms = refuses (OutOfOrder phase.None)
exchange_on k s (Some r) server reply ms =
    unless (exchange_refusal k r server ms) (exchange_done s server reply (members_on server ms) (order_of r server))

-- what the master of session s asks of a server
abbrev pub asking : Control → ℕ → ℕ → Bool → Plan
asking k s server reply = exchange_on k s (mirror_in (session_in k.sessions s)) server reply (members_in (session_in k.sessions s))

-- a server carries out what the master asks of it, and the master may learn of it
abbrev pub exchange_plan : Control → ℕ → Name → Bool → Plan
exchange_plan k s name reply = on_session (session_in k.sessions s) (λ x. on_server k name (λ server. exchange_on k s x.mirror server reply x.members))
