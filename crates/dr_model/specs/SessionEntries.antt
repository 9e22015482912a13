-- Entries of plans on sessions: what each order does with a member, and what adding and removing one does.
use Rattle.std.specs.Prelude.{ℕ, max, Bool, false, ◌&&◌, ◌||◌, ◌==◌, not, List, [], ◌∷◌, map, filter, Option, Some, None, option_map, unwrap_or, nat_eq, nat_lt, if◌then◌else◌}
use Rattle.std.specs.List.{flat_map, list_any}
use Rattle.dr_ids.specs.declared.names.Member.{Member}
use Rattle.dr_ids.specs.declared.refusal.Refusal.{Refusal}
use Rattle.dr_ids.specs.declared.refusal.Refusal.TheVariants.{Void, Stale, Unsealed}
use Rattle.dr_model.specs.declared.state.Part.TheVariants.{Global}
use Rattle.dr_model.specs.Layout.{Fields}
use Rattle.dr_model.specs.Control.{Control}
use Rattle.dr_model.specs.Relations.{is_bare}
use Rattle.dr_model.specs.Decisions.{Shown}
use Rattle.dr_model.specs.Pairs.{is_primary_of, is_kind, is_pending, records}
use Rattle.dr_model.specs.Sessions.{session_in}
use Rattle.dr_model.specs.Phases as phases
use Rattle.dr_model.specs.Moves.{Hold, Free, Seal, Finish, RaiseAttempt, RaiseFloor, Leave, Flash, Commit, Revert}
use Rattle.dr_model.specs.Carry.{Make, OpenAttempt, Pass, Do, Entry, now}
use Rattle.dr_model.specs.Entries.{fields_at, copies_from, pair_state, relation_state}
use Rattle.dr_model.specs.PairEntries.{refuse_if, reach_refusal, send_refusal}

-- the number of a session's last attempt, 0 where it isn't defined
abbrev pub last_of : Control → ℕ → ℕ
last_of k s = unwrap_or (option_map (λ x. x.last) (session_in k.sessions s)) 0

-- ---- Hold: a Global Copy primary in Copy Pending is held for an attempt that is newer than all of its own

-- a is a Global Copy primary of b, in Copy Pending
abbrev pub may_hold : ℕ → ℕ → Control → Bool
may_hold a b k = is_primary_of b (fields_at k a) && (is_kind Global (fields_at k a).primary && is_pending (fields_at k a).primary_state)

-- or how its pair is seen
abbrev pub hold_refusal : ℕ → ℕ → Control → Option Refusal
hold_refusal a b k = if may_hold a b k then None else Some (pair_state k a)

-- the attempt isn't newer; one that the primary records already is done
abbrev pub stale_refusal : ℕ → ℕ → Control → Option Refusal
stale_refusal a n k =
    if records n (fields_at k a) then None
    else if nat_lt (fields_at k a).attempt n then None
    else Some (Stale n (fields_at k a).attempt)

-- the first hold of an attempt begins it
abbrev pub hold_on : ℕ → ℕ → ℕ → Entry
hold_on s a n k =
    if records n (fields_at k a) then Pass
    else Do (if nat_lt (last_of k s) n then OpenAttempt a s n else Make (Hold a s n false))

-- Hold, of one member
abbrev pub hold_entries : ℕ → ℕ → ℕ → ℕ → List Entry
hold_entries s a b n = refuse_if (hold_refusal a b) ∷ refuse_if (stale_refusal a n) ∷ hold_on s a n ∷ []

-- ---- Release: a primary that records the attempt is held no more

-- primary a doesn't record attempt n
abbrev pub void_refusal : ℕ → ℕ → Control → Option Refusal
void_refusal a n k = if records n (fields_at k a) then None else Some (Void n)

-- it is let go, where it is held
abbrev pub free_on : ℕ → Entry
free_on a k = if (fields_at k a).coordination then Do (Make (Free a)) else Pass

-- Release, of one member
abbrev pub release_entries : ℕ → ℕ → List Entry
release_entries a n = refuse_if (void_refusal a n) ∷ free_on a ∷ []

-- ---- Seal: where nothing is left to send, the secondary holds what its primary held at the cut

-- where tracks are still out of sync, the member is passed over
abbrev pub is_drained : ℕ → Control → Bool
is_drained a k = is_bare (fields_at k a).out_of_sync

-- where nothing is left to send, the secondary has to be reached
abbrev pub seal_refusal : ℕ → ℕ → Control → Option Refusal
seal_refusal a b k = if is_drained a k then send_refusal a b k else None

-- it is sealed, where it isn't yet; where tracks are left the member is passed over
abbrev pub seal_on : ℕ → ℕ → ℕ → ℕ → Entry
seal_on s a b n k = if is_drained a k && not (nat_eq (fields_at k b).seal n) then Do (Make (Seal b a s n)) else Pass

-- Seal, of one member
abbrev pub seal_entries : ℕ → ℕ → ℕ → ℕ → List Entry
seal_entries s a b n = refuse_if (void_refusal a n) ∷ refuse_if (seal_refusal a b) ∷ seal_on s a b n ∷ []

-- ---- Flash: the target is flashed where its source is sealed for the attempt

-- a target that is revertible from attempt n
abbrev pub is_flashed : ℕ → Fields → Bool
is_flashed n f = f.revertible && nat_eq f.sequence n

-- a target of b whose changes are recorded, and on which the host may not write, and that is neither restored nor revertible
abbrev pub may_flash : ℕ → Fields → Bool
may_flash b f = copies_from b f && (f.recorded && (f.inhibited && (not f.reversing && not f.revertible)))

-- why a target c of b that isn't flashed for attempt n can't be: it is none for it; it has gone on past that number; b is sealed
-- for another one
abbrev pub unflashed_refusal : ℕ → ℕ → ℕ → Control → Option Refusal
unflashed_refusal b c n k =
    if not (may_flash b (fields_at k c)) then Some (relation_state k c)
    else if not (nat_lt (fields_at k c).floor n) then Some (Stale n (fields_at k c).floor)
    else if not (nat_eq (fields_at k b).seal n) then Some (Unsealed (record { 0 = b }) (fields_at k b).seal)
    else None

-- where it isn't flashed for n yet, why it can't be
abbrev pub flash_refusal : ℕ → ℕ → ℕ → Control → Option Refusal
flash_refusal b c n k = if is_flashed n (fields_at k c) then None else unflashed_refusal b c n k

-- it is flashed, where it isn't yet
abbrev pub flash_on : ℕ → ℕ → ℕ → ℕ → ℕ → Entry
flash_on s a b c n k = if is_flashed n (fields_at k c) then Pass else Do (Make (Flash c b a s n))

-- Flash, of one member
abbrev pub flash_entries : ℕ → Member → ℕ → List Entry
flash_entries s m n =
    refuse_if (send_refusal m.a.0 m.b.0) ∷ refuse_if (flash_refusal m.b.0 m.c.0 n) ∷ flash_on s m.a.0 m.b.0 m.c.0 n ∷ []

-- ---- Commit: a target that is revertible from the attempt is a member's

-- a target that is a member's with number n
abbrev pub is_committed : ℕ → Fields → Bool
is_committed n f = f.member && (nat_eq f.sequence n && not f.revertible)

-- it is neither flashed for n nor committed with n
abbrev pub commit_refusal : ℕ → ℕ → Control → Option Refusal
commit_refusal c n k = if is_committed n (fields_at k c) || is_flashed n (fields_at k c) then None else Some (relation_state k c)

-- it is committed, where it isn't yet
abbrev pub commit_on : ℕ → ℕ → ℕ → ℕ → Entry
commit_on s a c n k = if is_committed n (fields_at k c) then Pass else Do (Make (Commit c a s n))

-- Commit, of one member
abbrev pub commit_entries : ℕ → Member → ℕ → List Entry
commit_entries s m n =
    refuse_if (send_refusal m.a.0 m.b.0) ∷ refuse_if (commit_refusal m.c.0 n) ∷ commit_on s m.a.0 m.c.0 n ∷ []

-- ---- Revert: a target that is revertible from the attempt goes back, and no other is flashed for it any more

-- a target that is revertible from n goes back, and another one isn't flashed for n any more
abbrev pub revert_on : ℕ → ℕ → ℕ → ℕ → Entry
revert_on s a c n k =
    if is_flashed n (fields_at k c) then Do (Make (Revert c a s n))
    else if nat_lt (fields_at k c).floor n then Do (Make (RaiseFloor c n))
    else Pass

-- Revert, of one member
abbrev pub revert_entries : ℕ → Member → ℕ → List Entry
revert_entries s m n = refuse_if (send_refusal m.a.0 m.b.0) ∷ revert_on s m.a.0 m.c.0 n ∷ []

-- ---- Report: each member's target is looked at, nothing is done

-- Report, of one member: its secondary has to be reached, and nothing is done
abbrev pub report_entries : Member → List Entry
report_entries m = refuse_if (reach_refusal m.a.0 m.b.0) ∷ []

-- a target counts in session s where it is a member's there, or revertible
abbrev pub counts_in : ℕ → Fields → Bool
counts_in s f = nat_eq f.session s && (f.member || f.revertible)

-- what it shows
abbrev pub shown_of : Fields → Shown
shown_of f = record { sequence = f.sequence; revertible = f.revertible }

-- what those of some members show that count, in order
abbrev pub counts_at : ℕ → Control → Member → Bool
counts_at s k m = counts_in s (fields_at k m.c.0)

-- what the target of a member shows
abbrev pub shown_at : Control → Member → Shown
shown_at k m = shown_of (fields_at k m.c.0)

-- what the targets of members show that count in session s, in order
abbrev pub shown_by_members : ℕ → List Member → Control → List Shown
shown_by_members s ms k = map (shown_at k) (filter (counts_at s k) ms)

-- ---- Finish: the attempt is over for a primary, and each older one

-- attempt n is over for a primary with these fields
abbrev pub is_past : ℕ → Fields → Bool
is_past n f = nat_lt n f.attempt || (nat_eq f.attempt n && not f.recording)

-- Finish, of one member
abbrev pub finish_on : ℕ → ℕ → Entry
finish_on a n k = if is_past n (fields_at k a) then Pass else Do (Make (Finish a n))

-- ---- an order over the members of a server, in order

-- an order, of one member
abbrev pub member_entries : phases.Work → ℕ → ℕ → Member → List Entry
member_entries phases.Hold s n m = hold_entries s m.a.0 m.b.0 n
member_entries phases.Release s n m = release_entries m.a.0 n
member_entries phases.Seal s n m = seal_entries s m.a.0 m.b.0 n
member_entries phases.Finish s n m = finish_on m.a.0 n ∷ []
member_entries phases.Flash s n m = flash_entries s m n
member_entries phases.Commit s n m = commit_entries s m n
member_entries phases.Revert s n m = revert_entries s m n
member_entries phases.Report s n m = report_entries m

-- the primary of a member is on server x
abbrev pub is_on : ℕ → Member → Bool
is_on x m = m.server.0 == x

-- the members on server x, in order
abbrev pub members_on : ℕ → List Member → List Member
members_on x ms = filter (is_on x) ms

-- an order over members, one after another
abbrev pub order_entries : phases.Work → ℕ → ℕ → List Member → List Entry
order_entries work s n ms = flat_map (member_entries work s n) ms

-- what the server replies when it is done: a seal has to wait where a member of its still has tracks to send, and a report says what
-- its members show
abbrev pub reply_after : ℕ → phases.Work → List Member → Control → phases.Reply
reply_after s phases.Seal ms k = if list_any (λ m. not (is_drained m.a.0 k)) ms then phases.NotYet else phases.Done
reply_after s phases.Report ms k = phases.Reported (shown_by_members s ms k)
reply_after s _ ms k = phases.Done

-- ---- a member is added or removed

-- the number from which attempts with the new member count: none of its volumes, and not the session, has seen a greater one
abbrev pub first_number : Control → ℕ → Member → ℕ
first_number k last m =
    max last (max (fields_at k m.a.0).attempt (max (fields_at k m.b.0).seal
    (max (fields_at k m.c.0).floor (if (fields_at k m.c.0).member then (fields_at k m.c.0).sequence else 0))))

-- primary a has an attempt of at least n
abbrev pub raise_attempt_on : ℕ → ℕ → Entry
raise_attempt_on a n k = if nat_lt (fields_at k a).attempt n then Do (Make (RaiseAttempt a n)) else Pass

-- target c has a floor of at least n
abbrev pub raise_floor_on : ℕ → ℕ → Entry
raise_floor_on c n k = if nat_lt (fields_at k c).floor n then Do (Make (RaiseFloor c n)) else Pass

-- what is done as a member is added
abbrev pub add_entries : Member → ℕ → List Entry
add_entries m n = raise_attempt_on m.a.0 n ∷ raise_floor_on m.c.0 n ∷ []

-- and as it is removed: its target leaves the session
abbrev pub expel_entries : ℕ → Member → List Entry
expel_entries s m = now (Leave m.c.0 m.a.0 s) ∷ []
