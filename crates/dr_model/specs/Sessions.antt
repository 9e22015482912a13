-- The sessions, in order of definition, and the calls on their table.
use Rattle.std.specs.Prelude.{ℕ, Bool, false, not, max, ◌≡◌, IsTrue, ◌+◌, ◌/◌, ◌==◌, ◌&&◌, ◌||◌, map, nat_le, nat_lt, length, List, [], ◌∷◌, ◌++◌, filter, Option, Some, None, option_map, if◌then◌else◌}
use Rattle.std.specs.List.{find, list_any, list_all}
use Rattle.std.specs.Option.{option_or}
use Rattle.dr_ids.specs.declared.names.Lss.{Lss}
use Rattle.dr_ids.specs.declared.names.Member.{Member}
use Rattle.dr_ids.specs.declared.refusal.PhaseName.{PhaseName}
use Rattle.dr_ids.specs.declared.refusal.PhaseName.TheVariants as phase
use Rattle.dr_ids.specs.declared.refusal.Kind.TheVariants as kind
use Rattle.dr_ids.specs.declared.refusal.Which.TheVariants as limit
use Rattle.dr_ids.specs.declared.refusal.Refusal.{Refusal}
use Rattle.dr_ids.specs.declared.refusal.Refusal.TheVariants.{Duplicate, Limit, InSession, NotInSession, InFormation, OutOfOrder}
use Rattle.dr_model.specs.Phases as master

-- who keeps a session going: the server that runs its master, whether it is paused, and the master
pub record Mirror : Type 0 where
  pub server : ℕ
  pub paused : Bool
  pub master : master.Master

-- a session: its number, its logical subsystems and its members in the order in which they came, the number of its last
-- attempt, and its mirror where it has a master
pub record Session : Type 0 where
  pub number : ℕ
  pub subsystems : List Lss
  pub members : List Member
  pub last : ℕ
  pub mirror : Option Mirror

-- the session of that number
abbrev pub session_in : List Session → ℕ → Option Session
session_in ss s = find (λ x. x.number == s) ss

-- the members of a session, none where it isn't defined
abbrev pub members_in : Option Session → List Member
members_in None = []
members_in (Some x) = x.members

-- the mirror of a session, if it is defined and has a master
abbrev pub mirror_in : Option Session → Option Mirror
mirror_in None = None
mirror_in (Some x) = x.mirror

-- whether there is a master, and it is paused
abbrev pub is_paused : Option Mirror → Bool
is_paused None = false
is_paused (Some r) = r.paused

-- ---- what is asked of a session

-- the servers of the members' primary volumes
abbrev pub servers_of : List Member → List ℕ
servers_of ms = master.servers_where (λ k. list_any (λ m. k == m.server.0) ms)

-- the logical subsystem of a volume: the high byte of its identifier
abbrev pub subsystem_of : ℕ → ℕ
subsystem_of v = v / 256

-- the member whose primary volume is a
abbrev pub is_member : ℕ → Session → Bool
is_member a x = list_any (λ m. m.a.0 == a) x.members

-- a volume is the secondary or the target of a member
abbrev pub is_copy : ℕ → Session → Bool
is_copy v x = list_any (λ m. m.b.0 == v || m.c.0 == v) x.members

-- a member has one of its primary volumes in the logical subsystem
abbrev pub has_member_in : ℕ → Session → Bool
has_member_in l x = list_any (λ m. subsystem_of m.a.0 == l) x.members

-- a volume is the primary, the secondary or the target of a member
abbrev pub has_place : ℕ → Member → Bool
has_place v m = m.a.0 == v || (m.b.0 == v || m.c.0 == v)

-- a volume of m has a place in a member of the session
abbrev pub has_place_of : Member → Session → Bool
has_place_of m x = list_any (λ q. has_place m.a.0 q || (has_place m.b.0 q || has_place m.c.0 q)) x.members

-- the logical subsystem is one of the session's
abbrev pub has_subsystem : ℕ → Session → Bool
has_subsystem l x = list_any (λ k. k.0 == l) x.subsystems

-- each member's server is one of the servers 0 to 7
abbrev pub all_low : List Member → Bool
all_low ms = list_all (λ m. nat_lt m.server.0 8) ms

-- what is true of every session: its members are on servers 0 to 7, and its master has their servers and the session's last
-- number
pub record IsSoundSession (x : Session) : Type 0 where
  pub low : IsTrue (all_low x.members)
  pub servers : (r : Mirror) → x.mirror ≡ Some r → r.master.servers ≡ servers_of x.members
  pub number : (r : Mirror) → x.mirror ≡ Some r → r.master.number ≡ x.last

-- the session is defined, and the logical subsystem is one of its own
abbrev pub has_lss : Option Session → ℕ → Bool
has_lss None l = false
has_lss (Some x) l = has_subsystem l x

-- the logical subsystem is the session's only one
abbrev pub is_only : ℕ → Session → Bool
is_only l x = list_all (λ k. k.0 == l) x.subsystems

-- ---- what becomes of a session

-- with what became of its mirror
abbrev pub with_mirror : (Mirror → Mirror) → Session → Session
with_mirror f x = record x { mirror = option_map f x.mirror }

-- with what became of its master
abbrev pub with_master : (master.Master → master.Master) → Session → Session
with_master f x = with_mirror (λ r. record r { master = f r.master }) x

-- the master has these servers
abbrev pub mirror_with : List ℕ → Mirror → Mirror
mirror_with servers r = record r { master = master.with_servers r.master servers }

-- with other members, whose servers are its master's
abbrev pub with_members : List Member → Session → Session
with_members ms x = with_mirror (mirror_with (servers_of ms)) (record x { members = ms })

-- its last number, and its master's, are at least n
abbrev pub raised : ℕ → Session → Session
raised n x = with_master (λ m. master.raised m n) (record x { last = max x.last n })

-- an attempt begins, whose number is the last one from then on
abbrev pub begun : Session → Session
begun x = with_master master.begun (record x { last = x.last + 1 })

-- a server appoints an Idle master, which isn't paused
abbrev pub mirrored_by : ℕ → Session → Session
mirrored_by server x = record x { mirror = Some (record { server = server; paused = false; master = master.idle (servers_of x.members) x.last }) }

-- without a master
abbrev pub unmirrored : Session → Session
unmirrored x = record x { mirror = None }

-- a master that there is is paused, or runs again
abbrev pub paused : Bool → Session → Session
paused on x = with_mirror (λ r. record r { paused = on }) x

-- the master is lost where the server runs it
abbrev pub mirror_lost : ℕ → Mirror → Mirror
mirror_lost server r = if r.server == server then record r { master = master.lost r.master } else r

-- the server has stopped: a master that it runs is lost
abbrev pub lost_with : ℕ → Session → Session
lost_with server x = with_mirror (mirror_lost server) x

-- the masters whose servers were on, by the first test, and are off now, by the second, are lost
abbrev pub mirror_lost_since : (ℕ → Bool) → (ℕ → Bool) → Mirror → Mirror
mirror_lost_since before now r = if before r.server && not (now r.server) then record r { master = master.lost r.master } else r

-- all sessions as servers went off: a master on one of them is lost
abbrev pub lost_since : (ℕ → Bool) → (ℕ → Bool) → List Session → List Session
lost_since before now ss = map (with_mirror (mirror_lost_since before now)) ss

-- one logical subsystem more, or less
abbrev pub joined_by : ℕ → Session → Session
joined_by l x = record x { subsystems = x.subsystems ++ (record { 0 = l }) ∷ [] }

-- subsystem l is its no more
abbrev pub left_by : ℕ → Session → Session
left_by l x = record x { subsystems = filter (λ k. not (k.0 == l)) x.subsystems }

-- one member more, or less
abbrev pub with_member : Member → Session → Session
with_member m x = with_members (x.members ++ m ∷ []) x

-- the member of primary a is its no more
abbrev pub without_member : ℕ → Session → Session
without_member a x = with_members (filter (λ m. not (m.a.0 == a)) x.members) x

-- a new session with one logical subsystem
abbrev pub new_session : ℕ → ℕ → Session
new_session s l = record { number = s; subsystems = (record { 0 = l }) ∷ []; members = []; last = 0; mirror = None }

-- ---- what becomes of the table

-- the session of that number becomes what f makes of it
unfoldable pub changed : ℕ → (Session → Session) → List Session → List Session
changed s f [] = []
changed s f (x ∷ xs) = if x.number == s then f x ∷ xs else x ∷ changed s f xs

-- the session of that number is gone
unfoldable pub without_session : ℕ → List Session → List Session
without_session s [] = []
without_session s (x ∷ xs) = if x.number == s then xs else x ∷ without_session s xs

-- what joining is, by the session that there is
abbrev pub joins : Option Session → ℕ → ℕ → List Session → List Session
joins None s l ss = ss ++ new_session s l ∷ []
joins (Some x) s l ss = changed s (joined_by l) ss

-- the logical subsystem joins the session, which is made where it is new
abbrev pub joined : ℕ → ℕ → List Session → List Session
joined s l ss = joins (session_in ss s) s l ss

-- what leaving is, by the session that there is
abbrev pub leaves : Option Session → ℕ → ℕ → List Session → List Session
leaves None s l ss = ss
leaves (Some x) s l ss =
    if is_only l x then without_session s ss else changed s (left_by l) ss

-- the logical subsystem leaves the session, which is gone where it was its only one
abbrev pub left : ℕ → ℕ → List Session → List Session
left s l ss = leaves (session_in ss s) s l ss

-- ---- refusals, in order

-- in session: the one that is named, if there is one
abbrev pub in_session : Option Session → Option Refusal
in_session None = None
in_session (Some x) = Some (InSession (record { 0 = x.number }))

-- not in session s
abbrev pub not_in_session : ℕ → Option Refusal
not_in_session s = Some (NotInSession (record { 0 = s }))

-- in formation, with the master's phase and number
abbrev pub formation : Mirror → Option Refusal
formation r = Some (InFormation r.master.phase r.master.number)

-- why, but for Idle
abbrev pub unless_idle : PhaseName → Option Refusal → Option Refusal
unless_idle phase.Idle why = None
unless_idle p why = why

-- in formation, where there is a master that isn't Idle
abbrev pub busy : Option Mirror → Option Refusal
busy None = None
busy (Some r) = unless_idle r.master.phase (formation r)

-- out of order, since there is no master
abbrev pub no_master : Option Refusal
no_master = Some (OutOfOrder phase.None)

-- there are four sessions and this is a new one; the logical subsystem is the session's already
abbrev pub join_refusal : Option Session → ℕ → List Session → Option Refusal
join_refusal None l ss = if nat_le 4 (length ss) then Some (Limit limit.Sessions) else None
join_refusal (Some x) l ss = if has_subsystem l x then Some (Duplicate kind.Session) else None

-- a master, whatever its phase
abbrev pub last_refusal : Option Mirror → Option Refusal
last_refusal None = None
last_refusal (Some r) = formation r

-- the logical subsystem isn't the session's; a member lies in it; it is the last one, and the session has a master
abbrev pub leave_refusal : Option Session → ℕ → ℕ → Option Refusal
leave_refusal None s l = not_in_session s
leave_refusal (Some x) s l =
    if not (has_subsystem l x) then not_in_session s
    else if has_member_in l x then in_session (Some x)
    else if is_only l x then last_refusal x.mirror
    else None

-- the volume is a member already; it is one of another session; a master isn't Idle; one of the three volumes has a place in a
-- member of a session, of which the first is named
abbrev pub add_refusal : Option Session → Member → List Session → Option Refusal
add_refusal None m ss = None
add_refusal (Some x) m ss =
    if is_member m.a.0 x then Some (Duplicate kind.Volume)
    else option_or (in_session (find (is_member m.a.0) ss)) (option_or (busy x.mirror) (in_session (find (has_place_of m) ss)))

-- the volume is no member; a master isn't Idle
abbrev pub remove_refusal : Option Session → ℕ → ℕ → Option Refusal
remove_refusal None s a = not_in_session s
remove_refusal (Some x) s a = if is_member a x then busy x.mirror else not_in_session s

-- there is a master already
abbrev pub make_refusal : Option Mirror → Option Refusal
make_refusal None = None
make_refusal (Some r) = Some (Duplicate kind.Master)

-- there is no master; it isn't Idle
abbrev pub drop_refusal : Option Mirror → Option Refusal
drop_refusal None = no_master
drop_refusal (Some r) = unless_idle r.master.phase (formation r)

-- there is no master
abbrev pub pause_refusal : Option Mirror → Option Refusal
pause_refusal None = no_master
pause_refusal (Some r) = None

-- why an attempt can't begin, or be aborted
abbrev pub begin_refusal : Option Mirror → Option Refusal
begin_refusal None = no_master
begin_refusal (Some r) = master.begin_refusal r.master.phase r.master.number

-- an abort is refused without a master, and by its phase
abbrev pub abort_refusal : Option Mirror → Option Refusal
abort_refusal None = no_master
abort_refusal (Some r) = master.abort_refusal r.master.phase
