-- Entries of plans on pairs: making and ending them, pausing and resuming, and sending tracks.
use Rattle.std.specs.Prelude.{ℕ, Bool, false, ◌&&◌, ◌||◌, not, List, [], ◌∷◌, ◌++◌, map, take, Option, Some, None, is_some, option_map, nat_eq, if◌then◌else◌}
use Rattle.std.specs.List.{find, flat_map, range_with_len}
use Rattle.std.specs.Option.{option_or}
use Rattle.std.specs.Str.{bytes_eq}
use Rattle.std.specs.FinSet.{union}
use Rattle.dr_ids.specs.Paths.{path_in}
use Rattle.dr_ids.specs.declared.refusal.Refusal.{Refusal}
use Rattle.dr_ids.specs.declared.refusal.Refusal.TheVariants.{LinkDown, NotIdentical, Held}
use Rattle.dr_ids.specs.declared.refusal.Kind.TheVariants.{Path as OfPath}
use Rattle.dr_ids.specs.declared.refusal.Which.TheVariants.{Size, Server as OneServer}
use Rattle.dr_model.specs.Refusals.{server_off, unknown, over}
use Rattle.dr_model.specs.declared.state.Part.{Part}
use Rattle.dr_model.specs.declared.state.PairState.TheVariants.{Suspended}
use Rattle.dr_model.specs.Layout.{Tracks, is_part}
use Rattle.dr_model.specs.Control.{Control}
use Rattle.dr_model.specs.Relations.{in_order}
use Rattle.dr_model.specs.Pairs.{is_primary_of, is_secondary_of, is_unpaired, is_cascaded, is_metro, is_kind, is_pending, is_suspended, first_state, next_state, state_with, is_last, collides, holds_back}
use Rattle.dr_model.specs.Moves.{Store, Strike, Suspend, MakeSecondary, MakePrimary, DropPrimary, DropSecondary, Follow, Resume, TakeOver, LeavePrimary, FallBack, Yield}
use Rattle.dr_model.specs.Carry.{Make, Next, Pass, Do, End, Entry, Stretch, now, check}
use Rattle.dr_model.specs.Entries.{fields_at, is_running, running_check, subsystem, share_server, share_size, is_no_target, stands_in, is_revertible, relation_state, pair_state, secondary_state, is_settled, is_no_secondary, copy_first}

-- the link between two servers is down
abbrev pub link_down : ℕ → ℕ → Refusal
link_down s u = LinkDown (record { 0 = s }) (record { 0 = u })

-- the link between the servers of two volumes is up
abbrev pub are_linked : ℕ → ℕ → Control → Bool
are_linked a b k = k.link (k.volume a).server (k.volume b).server

-- a path goes from the logical subsystem of a to that of b
abbrev pub has_path : ℕ → ℕ → Control → Bool
has_path a b k = is_some (path_in k.paths (subsystem a) (subsystem b))

-- Why b can't be reached from a: there is no path from the subsystem of a to that of b, the server of b is off, or the
-- link between their servers is down.
abbrev pub reach_refusal : ℕ → ℕ → Control → Option Refusal
reach_refusal a b k =
    if not (has_path a b k) then Some (unknown OfPath)
    else if not (is_running b k) then Some (server_off (k.volume b).server)
    else if not (are_linked a b k) then Some (link_down (k.volume a).server (k.volume b).server)
    else None

-- where there is a refusal, it ends the plan
abbrev pub end_if : Option Refusal → Next
end_if None = Pass
end_if (Some r) = End r

-- an entry that ends the plan where the state that it finds gives a refusal
abbrev pub refuse_if : (Control → Option Refusal) → Entry
refuse_if why k = end_if (why k)

-- the first track whose contents differ
abbrev pub first_differing : (ℕ → ℕ → List ℕ) → ℕ → ℕ → ℕ → Option ℕ
first_differing contents n a b = find (λ t. not (bytes_eq (contents a t) (contents b t))) (range_with_len 0 n)

-- the refusal that names the first track that differs, if one does
abbrev pub differs_at : Option ℕ → Control → Option Refusal
differs_at difference k = option_map (λ t. NotIdentical t) difference

-- two volumes are on two servers
abbrev pub two_servers : ℕ → ℕ → Control → Bool
two_servers a b k = not (share_server a b k)

-- v has no part in a pair
abbrev pub stands_free : ℕ → Control → Bool
stands_free v k = is_unpaired (fields_at k v)

-- a may become cascaded with secondary b: it is no primary, and the Metro Mirror secondary of another volume
abbrev pub may_cascade : ℕ → ℕ → Control → Bool
may_cascade a b k = not (is_part (fields_at k a).primary) && (is_metro (fields_at k a).secondary && not (nat_eq (fields_at k a).secondary_partner b))

-- a may become the primary of b, as a cascaded volume or as one with no other part
abbrev pub may_lead : Bool → ℕ → ℕ → Control → Bool
may_lead cascade a b k = if cascade then may_cascade a b k else stands_free a k

-- b may become the secondary of a: it is no primary, and the secondary of no other
abbrev pub may_follow : ℕ → ℕ → Control → Bool
may_follow a b k = not (is_part (fields_at k b).primary) && (not (is_part (fields_at k b).secondary) || nat_eq (fields_at k b).secondary_partner a)

-- a pair is made of two volumes that are there, of which this track differs, where none may; a is cascaded from then on, or has no other part
abbrev pub make_entries : Control → ℕ → ℕ → Part → Bool → Bool → Option ℕ → List Entry
make_entries k a b kind cascade full difference =
    running_check k a
    ∷ refuse_if (reach_refusal a b)
    ∷ check (two_servers a b) (over OneServer)
    ∷ check (share_size a b) (over Size)
    ∷ check (may_lead cascade a b) (pair_state k a)
    ∷ check (may_follow a b) (pair_state k b)
    ∷ check (is_no_target a) (relation_state k a)
    ∷ check (is_no_target b) (relation_state k b)
    ∷ check (is_settled b) (relation_state k b)
    ∷ refuse_if (differs_at difference)
    ∷ now (MakeSecondary b a kind (first_state kind full))
    ∷ now (MakePrimary a b kind (first_state kind full) full) ∷ []

-- a is a primary of b
abbrev pub leads_to : ℕ → ℕ → Control → Bool
leads_to a b k = is_primary_of b (fields_at k a)

-- b is a secondary of a
abbrev pub belongs_to : ℕ → ℕ → Control → Bool
belongs_to a b k = is_secondary_of a (fields_at k b)

-- b is a secondary no more, where it is that of a
abbrev pub let_go : ℕ → ℕ → Entry
let_go a b k = if belongs_to a b k then Do (Make (DropSecondary b)) else Pass

-- a pair is ended: of both, or of the primary alone
abbrev pub remove_both : Control → ℕ → ℕ → List Entry
remove_both k a b = running_check k b ∷ check (are_linked a b) (link_down (k.volume a).server (k.volume b).server) ∷ now (DropPrimary a) ∷ let_go a b ∷ []

-- a pair is ended: both parts, or that of the primary alone
abbrev pub remove_entries : Control → ℕ → ℕ → Bool → List Entry
remove_entries k a b source_only =
    running_check k a ∷ check (leads_to a b) (pair_state k a) ∷ (if source_only then now (DropPrimary a) ∷ [] else remove_both k a b)

-- a pair is paused: b is told where it can be
abbrev pub may_pause : ℕ → ℕ → Control → Bool
may_pause a b k = leads_to a b k && not (is_suspended (fields_at k a).primary_state)

-- its secondary is Suspended too, where it can be reached and is its own
abbrev pub tell_paused : ℕ → ℕ → Entry
tell_paused a b k = if not (is_some (reach_refusal a b k)) && belongs_to a b k then Do (Make (Follow b Suspended)) else Pass

-- a pair is suspended, the primary first
abbrev pub pause_entries : Control → ℕ → ℕ → List Entry
pause_entries k a b = running_check k a ∷ check (may_pause a b) (pair_state k a) ∷ now (Suspend a false) ∷ tell_paused a b ∷ []

-- a Suspended pair of that kind goes on
abbrev pub may_resume : ℕ → ℕ → Part → Control → Bool
may_resume a b kind k = leads_to a b k && (is_kind kind (fields_at k a).primary && is_suspended (fields_at k a).primary_state)

-- the secondary takes the state in which the pair goes on
abbrev pub follow_on : ℕ → ℕ → Entry
follow_on a b k = Do (Make (Follow b (next_state (fields_at k a))))

-- and then the primary
abbrev pub resume_on : ℕ → Entry
resume_on a k = Do (Make (Resume a (next_state (fields_at k a))))

-- a Suspended pair of this kind goes on
abbrev pub resume_entries : Control → ℕ → ℕ → Part → List Entry
resume_entries k a b kind =
    running_check k a
    ∷ check (may_resume a b kind) (pair_state k a)
    ∷ refuse_if (reach_refusal a b)
    ∷ check (belongs_to a b) (secondary_state k b)
    ∷ follow_on a b
    ∷ resume_on a ∷ []

-- why primary a can't send to b: b can't be reached, or isn't its secondary
abbrev pub send_refusal : ℕ → ℕ → Control → Option Refusal
send_refusal a b k = option_or (reach_refusal a b k) (if belongs_to a b k then None else Some (secondary_state k b))

-- then the primary is suspended, too
abbrev pub suspend_where : (Control → Option Refusal) → ℕ → Entry
suspend_where why a k = if is_some (why k) then Do (Make (Suspend a false)) else Pass

-- b is the source of a revertible relationship
abbrev pub flashed_refusal : ℕ → Control → Option Refusal
flashed_refusal b k = if stands_in is_revertible k b then Some (relation_state k b) else None

-- b is cascaded, and coordination holds back what it receives
abbrev pub held_refusal : ℕ → Control → Option Refusal
held_refusal b k = if holds_back (fields_at k b) then Some (Held (record { 0 = b })) else None

-- secondary b stores track t of a
abbrev pub store_on : ℕ → ℕ → ℕ → Entry
store_on a b t k = Do (Make (Store b t a (is_last (fields_at k a) t)))

-- primary a strikes track t off
abbrev pub strike_on : ℕ → ℕ → Entry
strike_on a t k = Do (Make (Strike a t (is_last (fields_at k a) t)))

-- track t is sent from primary a to b: the targets of b keep it first, b stores it, a strikes it off
abbrev pub send_entries : List ℕ → ℕ → ℕ → ℕ → List Entry
send_entries volumes a b t =
    suspend_where (send_refusal a b) a
    ∷ refuse_if (send_refusal a b)
    ∷ refuse_if (flashed_refusal b)
    ∷ copy_first volumes b t
    ++ store_on a b t
    ∷ strike_on a t ∷ []

-- Secondary u of v can still be sent what a track of v was before what comes to v, which collides with it; the entries of the send
-- come as long as that is so.
abbrev pub sends_first : ℕ → ℕ → ℕ → Control → Bool
sends_first v u t k = collides (fields_at k v) t && (not (is_some (send_refusal v u k)) && not (is_some (flashed_refusal u k)))

-- an entry that comes only as long as the track can be sent
abbrev pub where_sent : ℕ → ℕ → ℕ → Entry → Entry
where_sent v u t d k = if sends_first v u t k then d k else Pass

-- v, on which the track collides, is suspended where it can't send to u
abbrev pub suspend_unsent : ℕ → ℕ → ℕ → Entry
suspend_unsent v u t k = if collides (fields_at k v) t && is_some (send_refusal v u k) then Do (Make (Suspend v false)) else Pass

-- A track comes to v, from the host or from the primary of v. If it collides, what it was is sent to the secondary u first, as a drain sends it. Where
-- u can't be reached, or isn't the secondary of v, v is suspended, and the track comes; so it does where u is the source of a revertible relationship.
abbrev pub send_first : List ℕ → ℕ → ℕ → ℕ → List Entry
send_first volumes v u t =
    suspend_unsent v u t
    ∷ map (where_sent v u t) (copy_first volumes u t ++ store_on v u t ∷ strike_on v t ∷ [])

-- tracks are sent in this order
abbrev pub sends : List ℕ → ℕ → ℕ → List ℕ → List Entry
sends volumes a b [] = []
sends volumes a b (t ∷ ts) = send_entries volumes a b t ++ sends volumes a b ts

-- what follows the stop of a server: the primary is suspended, where its own server still runs
abbrev pub suspend_running : ℕ → Entry
suspend_running a k = if is_part (fields_at k a).primary && is_running a k then Do (Make (Suspend a false)) else Pass

-- what follows where a server stopped in a send
abbrev pub suspend_after : ℕ → List Entry
suspend_after a = suspend_running a ∷ []

-- and the primary a of b, whose server doesn't run
abbrev pub suspend_unless : ℕ → ℕ → Entry
suspend_unless b a k = if is_running b k then Pass else suspend_running a k

-- Track t is sent from a to its secondary b, which is cascaded and has c as its secondary. Where coordination holds b, the send is refused. What
-- the track was at b is sent on to c first, if it collides there. In that, a stop suspends b, and a only where the server of b is off then.
abbrev pub feed_stretches : List ℕ → ℕ → ℕ → ℕ → ℕ → List Stretch
feed_stretches volumes a b c t =
    record { entries = suspend_where (send_refusal a b) a ∷ refuse_if (send_refusal a b) ∷ refuse_if (flashed_refusal b) ∷ refuse_if (held_refusal b) ∷ []; follows = suspend_after a }
    ∷ record { entries = send_first volumes b c t; follows = suspend_running b ∷ suspend_unless b a ∷ [] }
    ∷ record { entries = copy_first volumes b t ++ store_on a b t ∷ strike_on a t ∷ []; follows = suspend_after a } ∷ []

-- tracks are so sent in this order
abbrev pub feeds : List ℕ → ℕ → ℕ → ℕ → List ℕ → List Stretch
feeds volumes a b c ts = flat_map (feed_stretches volumes a b c) ts

-- what a primary sends, in stretches: to a cascaded secondary, or to one with no other part
abbrev pub drain_stretches : Control → ℕ → List ℕ → List Stretch
drain_stretches k a ts =
    let b : ℕ = (fields_at k a).primary_partner in
    if is_cascaded (fields_at k b) then feeds k.volumes a b (fields_at k b).primary_partner ts
    else record { entries = sends k.volumes a b ts; follows = suspend_after a } ∷ []

-- the tracks of a set in order, at most so many
abbrev pub tracks_to_send : Option ℕ → ℕ → Tracks → List ℕ
tracks_to_send None n s = in_order n s
tracks_to_send (Some most) n s = take most (in_order n s)

-- a primary in Copy Pending
abbrev pub is_copying : ℕ → Control → Bool
is_copying a k = is_part (fields_at k a).primary && is_pending (fields_at k a).primary_state

-- the first primary of a logical subsystem whose secondary is in another, and that isn't Suspended
abbrev pub is_active : Control → ℕ → ℕ → ℕ → Bool
is_active k src tgt v =
    nat_eq (subsystem v) src
    && (is_part (fields_at k v).primary && (nat_eq (subsystem (fields_at k v).primary_partner) tgt && not (is_suspended (fields_at k v).primary_state)))

-- the first such primary, in order of definition
abbrev pub first_active : Control → ℕ → ℕ → Option ℕ
first_active k src tgt = find (is_active k src tgt) k.volumes

-- b is a secondary of a, of that kind
abbrev pub may_take_over : ℕ → ℕ → Part → Control → Bool
may_take_over a b kind k = belongs_to a b k && is_kind kind (fields_at k b).secondary

-- Secondary b of a is taken over; a isn't asked. A cascaded one leaves its primary, and goes on as the primary that it is.
abbrev pub failover_entries : Control → ℕ → ℕ → Part → List Entry
failover_entries k b a kind =
    running_check k b
    ∷ check (may_take_over a b kind) (secondary_state k b)
    ∷ now (if is_cascaded (fields_at k b) then LeavePrimary b else TakeOver b) ∷ []

-- x is a primary of y, of that kind
abbrev pub leads_as : ℕ → ℕ → Part → Control → Bool
leads_as x y kind k = leads_to x y k && is_kind kind (fields_at k x).primary

-- what a primary has out of sync, or has changed since it began to record
abbrev pub unsent_by : ℕ → Control → Tracks
unsent_by y k = union (fields_at k y).out_of_sync (fields_at k y).change_recording

-- What y hasn't sent is out of sync at x too. With nothing out of sync then a Metro Mirror pair is Full Duplex.
abbrev pub fall_back_on : ℕ → ℕ → Entry
fall_back_on x y k = Do (Make (FallBack x (unsent_by y k) (state_with (unsent_by y k) (fields_at k x))))

-- y becomes the secondary of x, with the kind and the state that x has then
abbrev pub yield_on : ℕ → ℕ → Entry
yield_on y x k = Do (Make (Yield y x (fields_at k x).primary (fields_at k x).primary_state))

-- Of two primaries of each other x goes on as the primary and y as its secondary, where this refusal doesn't come.
abbrev pub failback_entries : Control → (Control → Option Refusal) → ℕ → ℕ → Part → List Entry
failback_entries k why x y kind =
    running_check k x
    ∷ refuse_if (reach_refusal x y)
    ∷ check (leads_as x y kind) (pair_state k x)
    ∷ check (leads_to y x) (pair_state k y)
    ∷ check (is_no_secondary x) (secondary_state k x)
    ∷ check (is_no_secondary y) (secondary_state k y)
    ∷ check (is_settled y) (relation_state k y)
    ∷ check (is_settled x) (relation_state k x)
    ∷ refuse_if why
    ∷ fall_back_on x y
    ∷ yield_on y x ∷ []
