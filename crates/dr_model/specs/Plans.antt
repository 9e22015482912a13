-- The step table: what each step comes to, from the control state and the journal. No answer looks at a device's bytes.
use Rattle.std.specs.Prelude.{ℕ, ◌+◌, Bool, true, false, ◌&&◌, ◌||◌, not, List, [], ◌∷◌, ◌++◌, length, map, min, replicate, Option, Some, None, is_some, option_map, unwrap_or, Result, Ok, Err, nat_eq, nat_lt, nat_le, if◌then◌else◌}
use Rattle.std.specs.List.{find, list_any}
use Rattle.std.specs.Option.{option_or}
use Rattle.std.specs.FinSet.{len}
use Rattle.dr_logic.specs.Tables.{at}
use Rattle.dr_ids.specs.Links.{joins}
use Rattle.dr_ids.specs.Paths.{path_in, with_path, without_path}
use Rattle.dr_ids.specs.declared.refusal.Refusal.{Refusal}
use Rattle.dr_ids.specs.declared.names.Member.{Member}
use Rattle.dr_ids.specs.declared.refusal.Refusal.TheVariants.{InSession, JournalFull, Syntax}
use Rattle.dr_ids.specs.declared.refusal.Kind.TheVariants.{Server as OfServer, Volume as OfVolume, Lss as OfLss, Path as OfPath, Write as OfWrite, Track as OfTrack}
use Rattle.dr_ids.specs.declared.refusal.Which.TheVariants.{Servers, Volumes, Tracks, Pending as Writes, Targets, Size, Server as OneServer}
use Rattle.dr_model.specs.Limits.{most_servers, most_volumes, most_tracks, most_pending, most_targets, most_events, step_events}
use Rattle.dr_model.specs.Refusals.{server_off, unknown, duplicate, over}
use Rattle.dr_model.specs.Contents.{image_at}
use Rattle.dr_model.specs.Control.{Control, Fuse, Pending, new_volume, is_volume}
use Rattle.dr_model.specs.Relations.{Choices, rest}
use Rattle.dr_model.specs.Moves.{Relate, Withdraw, Resync, Reverse, Unstage, is_write}
use Rattle.dr_model.specs.Messages.{started}
use Rattle.dr_model.specs.Carry.{Entry, Next, Pass, Do, Redo, Acknowledge, redo_writes, now, check, entries_in, follows_at}
use Rattle.dr_model.specs.Entries.{fields_at, is_running, running_check, subsystem, first_of, share_server, share_size, is_no_target, copies_from, targets_of, stands_in, is_any, relation_state, pair_state, secondary_state, is_no_secondary, takes_back, times, fetch_next, give_back}
use Rattle.dr_model.specs.Sessions.{session_in, members_in, is_member, is_copy, in_session}
use Rattle.dr_model.specs.PairEntries.{refuse_if, make_entries, remove_entries, pause_entries, resume_entries, failover_entries, failback_entries, is_copying, tracks_to_send, drain_stretches, suspend_after, link_down, first_active, first_differing, differs_at, stands_free}
use Rattle.dr_model.specs.WriteEntries.{landing, says_written, after_write, belongs, start_entries, lift_on, freeze_entries, thaw_entries, flash_hold_on, flash_free_on}
pub use Rattle.dr_model.specs.PlanParts.{Plan, same, none_follow, always, tables_plan, only_says, refuses, name_bytes, server_named, on_named, on_server, unless, entries_plan, is_owner, is_defined, is_named, owner_of, on_owner, on_session}
pub use Rattle.dr_model.specs.RecoveryPlans.{decided_in, secondary_refusal, leaves_all, forbidden_unless}
use Rattle.dr_model.specs.RecoveryPlans.{member_of_target, lets_commit, lets_revert, recover_plan, settle_plan}
use Rattle.dr_model.specs.SessionPlans.{join_plan, leave_plan, add_plan, expel_plan, mirror_plan, pause_mirror_plan, unmirror_plan, abort_plan, exchange_plan}
use Rattle.dr_model.specs.MessagePlans.{send_plan, deliver_plan, lose_plan}
use Rattle.dr_model.specs.Listings.{list_pairs_plan, list_flashes_plan, list_session_plan, show_mirror_plan}
use Rattle.dr_model.specs.declared.said.Addition.TheVariants.{Alone, Wrote, Acked, Counted, Showed}
use Rattle.dr_model.specs.declared.said.Said.{Said}
use Rattle.dr_model.specs.declared.said.Said.TheVariants.{Done}
use Rattle.dr_model.specs.declared.event.Event.{Event}
use Rattle.dr_model.specs.declared.event.Event.TheVariants.{Server as ServerDefined, Volume as VolumeDefined, Issue, Stopped, Started, Shown}
use Rattle.dr_model.specs.declared.state.Part.{Part}
use Rattle.dr_model.specs.declared.state.Part.TheVariants.{Global}
use Rattle.dr_model.specs.Layout.{kind_of}
use Rattle.dr_model.specs.Pairs.{is_kind}
use Rattle.dr_model.specs.declared.step.Name.{Name}
use Rattle.dr_model.specs.declared.step.Devs.{Devs}
use Rattle.dr_model.specs.declared.step.PairChoices.{PairChoices}
use Rattle.dr_model.specs.declared.step.TornWord.{TornWord}
use Rattle.dr_model.specs.declared.step.TornWord.TheVariants.{Same, Fill, Bytes}
use Rattle.dr_model.specs.declared.step.Step.{Step}
use Rattle.dr_model.specs.declared.step.Step.TheVariants.{Server, Volume, Link, Stop, StopAfter, Start, Issue as IssueWrite, Write, Apply, Show, MakeFlash, RemoveFlash, ResyncFlash, ReverseFlash, Copy, Destage, MakePath, RemovePath, MakePair, RemovePair, PausePair, ResumePair, Failover, Failback, Drain, Expire, Freeze, Unfreeze, MakeSession, RemoveSession, AddMember, RemoveMember, MakeMirror, PauseMirror, ResumeMirror, RemoveMirror, Abort, Exchange, Send, Deliver, Lose, Recover, CommitFlash, RevertFlash, UnfreezeFlash, ListPairs, ListFlashes, ListSession, ShowMirror}

-- a server is defined; it is on
abbrev pub server_done : Control → Name → Plan
server_done k name =
    tables_plan (λ k. record k { servers = k.servers ++ name_bytes name ∷ [] }) (ServerDefined (length k.servers) name.len name.bytes ∷ []) (Done Alone)

-- the name is taken, or there are 8 servers
abbrev pub server_refusal : Control → List ℕ → Option Refusal
server_refusal k name =
    if is_some (server_named k name) then Some (duplicate OfServer) else if nat_le most_servers (length k.servers) then Some (over Servers) else None

-- `@server`
abbrev pub server_plan : Control → Name → Plan
server_plan k name = unless (server_refusal k (name_bytes name)) (server_done k name)

-- a volume is defined, with zero tracks
abbrev pub volume_done : ℕ → ℕ → ℕ → Plan
volume_done v server tracks =
    tables_plan (λ k. record k { volumes = k.volumes ++ v ∷ []; volume = at k.volume v (new_volume server tracks) }) (VolumeDefined v server tracks ∷ []) (Done Alone)

-- the volume, if there is one, is another server's
abbrev pub is_foreign : Control → Option ℕ → ℕ → Bool
is_foreign k None server = false
is_foreign k (Some v) server = not (nat_eq (k.volume v).server server)

-- the identifier is taken, its subsystem is another server's, it has no track or too many, or there are 64 volumes
abbrev pub volume_refusal : Control → ℕ → ℕ → ℕ → Option Refusal
volume_refusal k v server tracks =
    if is_volume k v then Some (duplicate OfVolume)
    else if is_foreign k (first_of k (subsystem v)) server then Some (duplicate OfLss)
    else if nat_eq tracks 0 || nat_lt most_tracks tracks then Some (over Tracks)
    else if nat_le most_volumes (length k.volumes) then Some (over Volumes)
    else None

-- `@volume`
abbrev pub volume_plan : Control → ℕ → Name → ℕ → Plan
volume_plan k v name tracks = on_server k name (λ s. unless (volume_refusal k v s tracks) (volume_done v s tracks))

-- the link between two servers is set, in both directions
abbrev pub link_done : ℕ → ℕ → Bool → Plan
link_done a b up = tables_plan (λ k. record k { link = λ x y. if joins x y a b then up else k.link x y }) [] (Done Alone)

-- a link has two servers
abbrev pub link_between : ℕ → ℕ → Bool → Plan
link_between a b up = if nat_eq a b then refuses (duplicate OfServer) else link_done a b up

-- `@link`: refused where a server is unknown, the first one first, or where both are the same
abbrev pub link_plan : Control → Name → Name → Bool → Plan
link_plan k a b up = on_server k a (λ x. on_server k b (λ y. link_between x y up))

-- the volume or the track isn't there
abbrev pub track_refusal : Control → ℕ → ℕ → Option Refusal
track_refusal k v t =
    if not (is_volume k v) then Some (unknown OfVolume) else if nat_lt t (k.volume v).tracks then None else Some (unknown OfTrack)

-- or 64 writes are pending
abbrev pub issue_refusal : Control → ℕ → ℕ → Option Refusal
issue_refusal k v t = option_or (track_refusal k v t) (if nat_le most_pending (length k.pending) then Some (over Writes) else None)

-- a write is issued, and is pending from then on
abbrev pub with_pending : ℕ → ℕ → Control → Control
with_pending v t k =
    record k { issued = k.issued + 1; pending = k.pending ++ record { w = k.issued + 1; volume = v; track = t; landed = false } ∷ [] }

-- a write is issued
abbrev pub issue_done : Control → ℕ → ℕ → ℕ → ℕ → List ℕ → Plan
issue_done k v t offset len bytes =
    tables_plan (with_pending v t) (Issue (k.issued + 1) v t offset len bytes ∷ []) (Done (Wrote (k.issued + 1)))

-- `@issue`
abbrev pub issue_plan : Control → ℕ → ℕ → ℕ → ℕ → List ℕ → Plan
issue_plan k v t offset len bytes = unless (issue_refusal k v t) (issue_done k v t offset len bytes)

-- a write is issued, and carried out
abbrev pub write_done : Control → ℕ → ℕ → ℕ → ℕ → List ℕ → Plan
write_done k v t offset len bytes = record {
  first = with_pending v t;
  told = Issue (k.issued + 1) v t offset len bytes ∷ [];
  entries = landing k (k.issued + 1) v t;
  follows = after_write k (k.issued + 1) v t;
  last = same;
  says = always (says_written k (k.issued + 1) v t);
}

-- `@write`
abbrev pub write_plan : Control → ℕ → ℕ → ℕ → ℕ → List ℕ → Plan
write_plan k v t offset len bytes = unless (issue_refusal k v t) (write_done k v t offset len bytes)

-- a pending write is carried out
abbrev pub apply_done : Control → Pending → Plan
apply_done k p = record {
  first = same;
  told = [];
  entries = landing k p.w p.volume p.track;
  follows = after_write k p.w p.volume p.track;
  last = same;
  says = always (says_written k p.w p.volume p.track);
}

-- the pending write that was looked up
abbrev pub apply_on : Control → Option Pending → Plan
apply_on k None = refuses (unknown OfWrite)
apply_on k (Some p) = apply_done k p

-- `@apply`
abbrev pub apply_plan : Control → ℕ → Plan
apply_plan k n = apply_on k (find (is_write n) k.pending)

-- a track is shown, as the host writes of the journal say
abbrev pub show_done : List Event → ℕ → ℕ → ℕ → Plan
show_done events line v t = tables_plan same (Shown line v t (image_at events v t) ∷ []) (Done Showed)

-- the volume or the track isn't there, or the volume's server is off
abbrev pub show_refusal : Control → ℕ → ℕ → Option Refusal
show_refusal k v t = option_or (track_refusal k v t) (if is_running v k then None else Some (server_off (k.volume v).server))

-- `@show`
abbrev pub show_plan : Control → List Event → ℕ → ℕ → ℕ → Plan
show_plan k events line v t = unless (show_refusal k v t) (show_done events line v t)

-- a server is stopped; its fuse stays
abbrev pub stop_done : ℕ → Plan
stop_done s = tables_plan (λ k. record k { on = at k.on s false }) (Stopped s 0 ∷ []) (Done Alone)

-- `@stop`: of a server that is off already nothing is changed
abbrev pub stop_on : Control → ℕ → Plan
stop_on k s = if k.on s then stop_done s else only_says (Done Alone)

-- what a write that is cut short leaves in its block: None for what stood there
abbrev pub torn_bytes : TornWord → Option (List ℕ)
torn_bytes Same = None
torn_bytes (Fill b) = Some (replicate 64 b)
torn_bytes (Bytes bytes) = Some bytes

-- a server's fuse is armed, in place of an earlier one, whether the server is on or off
abbrev pub armed : ℕ → TornWord → Fuse
armed writes torn = record { after = writes; torn = torn_bytes torn }

-- `@stop .. after ..`: this fuse takes the place of an earlier one, whether the server is on or off
abbrev pub arm_on : ℕ → TornWord → ℕ → Plan
arm_on writes torn s = tables_plan (λ k. record k { fuse = at k.fuse s (Some (armed writes torn)) }) [] (Done Alone)

-- a server that starts loses a fuse that stands at 0
abbrev pub fuse_at_start : Option Fuse → Option Fuse
fuse_at_start None = None
fuse_at_start (Some f) = if nat_eq f.after 0 then None else Some f

-- the server is on, a fuse that stood at 0 is gone, and it was started once more
abbrev pub starting : ℕ → Control → Control
starting s k = record k { on = at k.on s true; fuse = at k.fuse s (fuse_at_start (k.fuse s)); flight = started s k.flight }

-- the first write that landed on a volume of the server in a stop
abbrev pub has_landed : Control → ℕ → Pending → Bool
has_landed k s p = p.landed && belongs k s p.volume

-- the first pending write that landed on a volume of server s
abbrev pub landed_on : Control → ℕ → Option ℕ
landed_on k s = option_map (λ (p : Pending). p.w) (find (has_landed k s) k.pending)

-- it is acknowledged, where there is one
abbrev pub acknowledge_if : Option ℕ → Next
acknowledge_if None = Pass
acknowledge_if (Some w) = Do (Acknowledge w)

-- by the pending writes when its turn comes
abbrev pub acknowledge_on : ℕ → Entry
acknowledge_on s k = acknowledge_if (landed_on k s)

-- the answer to a start: with its number, where there is one
abbrev pub says_acked : Option ℕ → Said
says_acked None = Done Alone
says_acked (Some w) = Done (Acked w)

-- A server starts: its volumes in order of definition write their staged tracks to their places and go on, and at the end
-- the write that landed is acknowledged. Where it is on, nothing happens.
abbrev pub start_plan : Control → ℕ → Plan
start_plan k s = record {
  first = starting s;
  told = Started s ∷ [];
  entries = start_entries s k.volumes ++ acknowledge_on s ∷ [];
  follows = none_follow;
  last = same;
  says = always (says_acked (landed_on k s));
}

-- `@start`: of a server that is on nothing is changed
abbrev pub start_on : Control → ℕ → Plan
start_on k s = if k.on s then only_says (Done Alone) else start_plan k s

-- no write on a volume of a server waits any more
abbrev pub expire_plan : Control → ℕ → Plan
expire_plan k s = entries_plan (map (lift_on s) k.volumes) (Done Alone)

-- `@expire`
abbrev pub expire_on : Control → ℕ → Plan
expire_on k s = if k.on s then expire_plan k s else refuses (server_off s)

-- the two volumes of a relationship are there, the first on the server that may be named
abbrev pub found_pair : Option Name → ℕ → ℕ → List Entry
found_pair dev s t =
    check (is_defined s) (unknown OfVolume)
    ∷ check (is_defined t) (unknown OfVolume)
    ∷ check (is_owner dev s) (unknown OfServer) ∷ []

-- and that server is on
abbrev pub named_pair : Control → Option Name → ℕ → ℕ → List Entry
named_pair k dev s t = found_pair dev s t ++ running_check k s ∷ []

-- two volumes are not one
abbrev pub differ : ℕ → ℕ → Control → Bool
differ s t k = not (nat_eq s t)

-- v is the source of no relationship
abbrev pub is_no_source : ℕ → Control → Bool
is_no_source v k = not (stands_in is_any k v)

-- source s has room for one more target
abbrev pub has_few_targets : ℕ → Control → Bool
has_few_targets s k = nat_lt (length (targets_of k s)) most_targets

-- the two volumes differ, on one server and of one size
abbrev pub alike_checks : ℕ → ℕ → List Entry
alike_checks s t = check (differ s t) (duplicate OfVolume) ∷ check (share_server s t) (over OneServer) ∷ check (share_size s t) (over Size) ∷ []

-- t stands in no relationship and in no pair, and s may have one target more
abbrev pub free_checks : Control → ℕ → ℕ → List Entry
free_checks k s t =
    check (is_no_target t) (relation_state k t)
    ∷ check (is_no_source t) (relation_state k t)
    ∷ check (is_no_target s) (relation_state k s)
    ∷ check (stands_free t) (pair_state k t)
    ∷ check (has_few_targets s) (over Targets) ∷ []

-- the server of s is on, and s and t, which are there, can become source and target
abbrev pub establish_checks : Control → ℕ → ℕ → List Entry
establish_checks k s t = running_check k s ∷ alike_checks s t ++ free_checks k s t

-- the source of a new relationship gets a flash hold first, where the line asks for that
abbrev pub hold_first : Bool → ℕ → List Entry
hold_first freeze s = if freeze then flash_hold_on s ∷ [] else []

-- A relationship between two volumes that are there is made. With a flash hold of its source, host writes on that wait from before its tracks
-- are taken on. What refuses the relationship comes before both moves.
abbrev pub establish_entries : Control → ℕ → ℕ → Bool → Choices → List Entry
establish_entries k s t freeze choices = establish_checks k s t ++ hold_first freeze s ++ now (Relate t s choices) ∷ []

-- without a flash hold
abbrev pub flash_entries : Control → ℕ → ℕ → Choices → List Entry
flash_entries k s t choices = establish_entries k s t false choices

-- and with one
abbrev pub freeze_flash_entries : Control → ℕ → ℕ → Choices → List Entry
freeze_flash_entries k s t choices = establish_entries k s t true choices

-- `mkflash`
abbrev pub make_flash_plan : Control → Option Name → ℕ → ℕ → Bool → Choices → Plan
make_flash_plan k dev s t freeze choices = entries_plan (found_pair dev s t ++ establish_entries k s t freeze choices) (Done Alone)

-- the server isn't the one that is named, or is off
abbrev pub release_refusal : Control → Option Name → ℕ → Option Refusal
release_refusal k dev s =
    if not (is_named dev s k) then Some (unknown OfServer)
    else if not (k.on s) then Some (server_off s)
    else None

-- each volume of a logical subsystem that has a flash hold loses it, in order of definition
abbrev pub release_done : Control → ℕ → Plan
release_done k l = entries_plan (map (flash_free_on l) k.volumes) (Done Alone)

-- `unfreezeflash`
abbrev pub release_plan : Control → Option Name → ℕ → Plan
release_plan k dev l = on_owner (owner_of k l) (λ s. unless (release_refusal k dev s) (release_done k l))

-- t is a target of s, and neither revertible nor reversing
abbrev pub is_plain_target : ℕ → ℕ → Control → Bool
is_plain_target s t k = copies_from s (fields_at k t) && (not (fields_at k t).revertible && not (fields_at k t).reversing)

-- and its changes are recorded
abbrev pub is_recorded_target : ℕ → ℕ → Control → Bool
is_recorded_target s t k = is_plain_target s t k && (fields_at k t).recorded

-- t is the target of a member, whose session is named
abbrev pub counted_refusal : ℕ → Control → Option Refusal
counted_refusal t k = if (fields_at k t).member then Some (InSession (record { 0 = (fields_at k t).session })) else None

-- a relationship between two volumes that are there is ended
abbrev pub withdraw_entries : Control → ℕ → ℕ → List Entry
withdraw_entries k s t = running_check k s ∷ refuse_if (counted_refusal t) ∷ check (is_plain_target s t) (relation_state k t) ∷ now (Withdraw t) ∷ []

-- `rmflash`
abbrev pub remove_flash_plan : Control → Option Name → ℕ → ℕ → Plan
remove_flash_plan k dev s t = entries_plan (found_pair dev s t ++ withdraw_entries k s t) (Done Alone)

-- a target is made a copy of its source anew
abbrev pub resync_flash_plan : Control → Option Name → ℕ → ℕ → Option ℕ → Plan
resync_flash_plan k dev s t sequence = entries_plan (named_pair k dev s t ++ refuse_if (counted_refusal t) ∷ check (is_recorded_target s t) (relation_state k t) ∷ now (Resync t sequence) ∷ []) (Done Alone)

-- no other relationship of s is revertible or reversing
abbrev pub is_lone_restore : ℕ → ℕ → Control → Bool
is_lone_restore s t k = not (list_any (λ u. not (nat_eq u t) && ((fields_at k u).revertible || (fields_at k u).reversing)) (targets_of k s))

-- s may be restored: it is no secondary, and no primary but a Suspended one
abbrev pub may_return : ℕ → Control → Bool
may_return s k = is_no_secondary s k && takes_back s k

-- A member's target is restored only while each secondary of its session can be looked at, and nothing is to be done with their targets.
abbrev pub settled_refusal : ℕ → ℕ → Control → Option Refusal
settled_refusal t s k =
    if (fields_at k t).member then
    option_or (secondary_refusal (members_in (session_in k.sessions s)) k) (forbidden_unless (leaves_all (decided_in s k)) (decided_in s k))
    else None

-- what the session of target t says of its restore
abbrev pub restore_refusal : ℕ → Control → Option Refusal
restore_refusal t k = settled_refusal t (fields_at k t).session k

-- the member that t is the target of, where it is one's
abbrev pub member_at : Control → ℕ → Option Member
member_at k t = if (fields_at k t).member then member_of_target k t else None

-- and its primary, which tells that the target leaves
abbrev pub left_by : Control → ℕ → Option ℕ
left_by k t = option_map (λ m. m.a.0) (member_at k t)

-- a target is to be restored onto its source
abbrev pub reverse_flash_plan : Control → Option Name → ℕ → ℕ → Plan
reverse_flash_plan k dev s t = entries_plan
    (named_pair k dev s t
    ++ refuse_if (restore_refusal t)
    ∷ check (is_recorded_target s t) (relation_state k t)
    ∷ check (is_lone_restore s t) (relation_state k s)
    ∷ check (may_return s) (secondary_state k s)
    ∷ now (Reverse t (left_by k t)) ∷ [])
    (Done Alone)

-- a target whose tracks may be copied in the background
abbrev pub may_copy : ℕ → Control → Bool
may_copy t k = (fields_at k t).related && (not (fields_at k t).revertible && ((fields_at k t).reversing || not (fields_at k t).nocopy))

-- and, where it is restored, the source may take them back
abbrev pub may_give_back : ℕ → Control → Bool
may_give_back t k = not (fields_at k t).reversing || takes_back (fields_at k t).source k

-- how many tracks are left to copy, or to give back
abbrev pub left_to_copy : Control → ℕ → ℕ
left_to_copy k t = if (fields_at k t).reversing then len (fields_at k t).own else len (rest (k.volume t).tracks (fields_at k t).own)

-- at most so many, where a number is given
abbrev pub at_most : Option ℕ → ℕ → ℕ
at_most None n = n
at_most (Some most) n = min most n

-- what is done for one track
abbrev pub copy_one : Control → ℕ → List Entry
copy_one k t = if (fields_at k t).reversing then give_back k.volumes (fields_at k t).source t else fetch_next t ∷ []

-- `@copy`: the lowest tracks that are left, copied or restored
abbrev pub copy_plan : Control → ℕ → Option ℕ → Plan
copy_plan k t most =
    let count : ℕ = at_most most (left_to_copy k t) in
    entries_plan
    (check (is_defined t) (unknown OfVolume)
    ∷ check (is_running t) (server_off (k.volume t).server)
    ∷ check (may_copy t) (relation_state k t)
    ∷ check (may_give_back t) (pair_state k (fields_at k t).source)
    ∷ times count (copy_one k t))
    (Done (Counted count))

-- a staged track is written to its place
abbrev pub redo_now : ℕ → Entry
redo_now v k = Do (Redo v)

-- and then nothing is staged any more
abbrev pub destage_entries : Option ℕ → ℕ → List Entry
destage_entries None v = []
destage_entries (Some t) v = redo_now v ∷ now (Unstage v) ∷ []

-- `@destage`, which answers how many tracks were staged
abbrev pub destage_plan : Control → ℕ → Plan
destage_plan k v =
    entries_plan
    (check (is_defined v) (unknown OfVolume)
    ∷ running_check k v
    ∷ destage_entries (k.volume v).staged v)
    (Done (Counted (redo_writes (k.volume v).staged)))

-- a path is defined, or gets another flag
abbrev pub make_path_done : ℕ → ℕ → Bool → Plan
make_path_done src tgt group = tables_plan (λ k. record k { paths = with_path k.paths src tgt group }) [] (Done Alone)

-- the servers aren't those that are named, or are one, or one is off, or their link is down
abbrev pub path_refusal : Control → Devs → ℕ → ℕ → Option Refusal
path_refusal k devs s u =
    if not (is_named devs.dev s k && is_named devs.remotedev u k) then Some (unknown OfServer)
    else if nat_eq s u then Some (over OneServer)
    else if not (k.on s) then Some (server_off s)
    else if not (k.on u) then Some (server_off u)
    else if not (k.link s u) then Some (link_down s u)
    else None

-- `mkpprcpath`
abbrev pub path_plan : Control → Devs → ℕ → ℕ → Bool → Plan
path_plan k devs src tgt group = on_owner (owner_of k src) (λ s. on_owner (owner_of k tgt) (λ u. unless (path_refusal k devs s u) (make_path_done src tgt group)))

-- a path is removed
abbrev pub remove_path_done : ℕ → ℕ → Plan
remove_path_done src tgt = tables_plan (λ k. record k { paths = without_path k.paths src tgt }) [] (Done Alone)

-- there is no such path, the servers aren't those that are named, that of the source is off, or a primary still copies over it
abbrev pub unpath_refusal : Control → Devs → ℕ → ℕ → ℕ → ℕ → Bool → Option Refusal
unpath_refusal k devs src tgt s u force =
    if not (is_some (path_in k.paths src tgt)) then Some (unknown OfPath)
    else if not (is_named devs.dev s k && is_named devs.remotedev u k) then Some (unknown OfServer)
    else if not (k.on s) then Some (server_off s)
    else if force then None
    else option_map (pair_state k) (first_active k src tgt)

-- `rmpprcpath`
abbrev pub unpath_plan : Control → Devs → ℕ → ℕ → Bool → Plan
unpath_plan k devs src tgt force =
    on_owner (owner_of k src) (λ s. on_owner (owner_of k tgt) (λ u. unless (unpath_refusal k devs src tgt s u force) (remove_path_done src tgt)))

-- a freeze between two logical subsystems: there is no such path, the servers aren't those that are named, or that of the
-- source is off
abbrev pub freeze_refusal : Control → Devs → ℕ → ℕ → ℕ → ℕ → Option Refusal
freeze_refusal k devs l m s u =
    if not (is_some (path_in k.paths l m)) then Some (unknown OfPath)
    else if not (is_named devs.dev s k && is_named devs.remotedev u k) then Some (unknown OfServer)
    else if not (k.on s) then Some (server_off s)
    else None

-- a freeze, behind what refuses it
abbrev pub freeze_done : Control → ℕ → ℕ → Plan
freeze_done k l m = entries_plan (freeze_entries k.volumes l m) (Done Alone)

-- `freezepprc`
abbrev pub freeze_plan : Control → Devs → ℕ → ℕ → Plan
freeze_plan k devs l m = on_owner (owner_of k l) (λ s. on_owner (owner_of k m) (λ u. unless (freeze_refusal k devs l m s u) (freeze_done k l m)))

-- a thaw, which asks for no path
abbrev pub thaw_refusal : Control → Devs → ℕ → ℕ → Option Refusal
thaw_refusal k devs s u =
    if not (is_named devs.dev s k && is_named devs.remotedev u k) then Some (unknown OfServer)
    else if not (k.on s) then Some (server_off s)
    else None

-- a thaw, behind what refuses it
abbrev pub unfreeze_done : Control → ℕ → ℕ → Plan
unfreeze_done k l m = entries_plan (thaw_entries k.volumes l m) (Done Alone)

-- `unfreezepprc`
abbrev pub thaw_plan : Control → Devs → ℕ → ℕ → Plan
thaw_plan k devs l m = on_owner (owner_of k l) (λ s. on_owner (owner_of k m) (λ u. unless (thaw_refusal k devs s u) (unfreeze_done k l m)))

-- the two volumes of a pair are there, each on the server that may be named
abbrev pub found_volumes : Devs → ℕ → ℕ → List Entry
found_volumes devs a b = found_pair devs.dev a b ++ check (is_owner devs.remotedev b) (unknown OfServer) ∷ []

-- a pair makes a a cascaded volume: `-cascade` stands with Global Copy alone
abbrev pub cascades : Part → PairChoices → Bool
cascades kind choices = is_kind Global kind && choices.cascade

-- the secondary or the target of a member isn't cascaded; its session is named
abbrev pub cascade_refusal : ℕ → Control → Option Refusal
cascade_refusal a k = in_session (find (is_copy a) k.sessions)

-- a pair is made; where nothing is to be copied, the host writes of the journal must have made both volumes the same
abbrev pub make_pair_plan : Control → List Event → Devs → ℕ → ℕ → Part → PairChoices → Plan
make_pair_plan k events devs a b kind choices =
    entries_plan
    (found_volumes devs a b
    ++ (if cascades kind choices then refuse_if (cascade_refusal a) ∷ [] else [])
    ++ make_entries k a b kind (cascades kind choices) choices.full (if choices.full then None else first_differing (image_at events) (k.volume a).tracks a b))
    (Done Alone)

-- one of two volumes is the primary of a member; its session is named
abbrev pub member_refusal : ℕ → ℕ → Control → Option Refusal
member_refusal a b k = option_or (in_session (find (is_member a) k.sessions)) (in_session (find (is_member b) k.sessions))

-- `rmpprc`
abbrev pub remove_pair_plan : Control → Devs → ℕ → ℕ → Bool → Plan
remove_pair_plan k devs a b source_only = entries_plan (found_volumes devs a b ++ refuse_if (member_refusal a b) ∷ remove_entries k a b source_only) (Done Alone)

-- `pausepprc`
abbrev pub pause_pair_plan : Control → Devs → ℕ → ℕ → Plan
pause_pair_plan k devs a b = entries_plan (found_volumes devs a b ++ pause_entries k a b) (Done Alone)

-- `resumepprc`
abbrev pub resume_pair_plan : Control → Devs → ℕ → ℕ → Part → Plan
resume_pair_plan k devs a b kind = entries_plan (found_volumes devs a b ++ resume_entries k a b kind) (Done Alone)

-- `failoverpprc`
abbrev pub failover_plan : Control → Devs → ℕ → ℕ → Part → Plan
failover_plan k devs b a kind = entries_plan (found_volumes devs b a ++ failover_entries k b a kind) (Done Alone)

-- the target of y that is a member's, if one is
abbrev pub member_from : ℕ → Control → Option ℕ
member_from y k = find (λ u. (fields_at k u).member) (targets_of k y)

-- what the session of that target says of its restore
abbrev pub restores_refusal : Option ℕ → Control → Option Refusal
restores_refusal None k = None
restores_refusal (Some t) k = restore_refusal t k

-- What y contains is going to change, also where a member's target may be restored onto it: refused where that restore is.
abbrev pub yield_refusal : ℕ → Control → Option Refusal
yield_refusal y k = restores_refusal (member_from y k) k

-- `failbackpprc`
abbrev pub failback_plan : Control → Devs → ℕ → ℕ → Part → Plan
failback_plan k devs x y kind = entries_plan (found_volumes devs x y ++ failback_entries k (yield_refusal y) x y kind) (Done Alone)

-- Two volumes contain the same. No list says what a target has outside the tracks that it holds, so this plan alone looks at what
-- tracks contain.
abbrev pub compare_entries : Control → (ℕ → ℕ → List ℕ) → ℕ → ℕ → List Entry
compare_entries k contents v u =
    check (is_defined v) (unknown OfVolume)
    ∷ check (is_defined u) (unknown OfVolume)
    ∷ running_check k v
    ∷ running_check k u
    ∷ check (share_size v u) (over Size)
    ∷ refuse_if (differs_at (first_differing contents (k.volume v).tracks v u)) ∷ []

-- `@compare`
abbrev pub compare_plan : Control → (ℕ → ℕ → List ℕ) → ℕ → ℕ → Plan
compare_plan k contents v u = entries_plan (compare_entries k contents v u) (Done Alone)

-- a drain is of a primary in Copy Pending, whose server is on
abbrev pub drain_checks : Control → ℕ → List Entry
drain_checks k a = check (is_defined a) (unknown OfVolume) ∷ running_check k a ∷ check (is_copying a) (pair_state k a) ∷ []

-- Tracks that are out of sync are sent, lowest first. Where the secondary's server stops, the primary is suspended; what follows a stop at the
-- third site stands with its stretches.
abbrev pub drain_plan : Control → ℕ → Option ℕ → Plan
drain_plan k a most =
    let ts : List ℕ = tracks_to_send most (k.volume a).tracks (fields_at k a).out_of_sync in
    record {
      first = same;
      told = [];
      entries = drain_checks k a ++ entries_in (drain_stretches k a ts);
      follows = follows_at (record { entries = drain_checks k a; follows = suspend_after a } ∷ drain_stretches k a ts);
      last = same;
      says = always (Done (Counted (length ts)));
    }

-- What a step comes to, with room in the journal. Steps that have a course of their own (`own_course`) aren't looked up here.
abbrev pub plan_of : Control → List Event → ℕ → Step → Plan
plan_of k events line (Server name) = server_plan k name
plan_of k events line (Volume v name tracks) = volume_plan k v name tracks
plan_of k events line (Link a b up) = link_plan k a b up
plan_of k events line (IssueWrite v t offset len bytes) = issue_plan k v t offset len bytes
plan_of k events line (Write v t offset len bytes) = write_plan k v t offset len bytes
plan_of k events line (Apply n) = apply_plan k n
plan_of k events line (Stop name) = on_server k name (stop_on k)
plan_of k events line (StopAfter name writes torn) = on_server k name (arm_on writes torn)
plan_of k events line (Start name) = on_server k name (start_on k)
plan_of k events line (Show v t) = show_plan k events line v t
plan_of k events line (MakeFlash devs s t nocopy persistent recorded inhibited freeze sequence) =
    make_flash_plan k devs.dev s t freeze (record { nocopy = nocopy; persistent = persistent; recorded = recorded; inhibited = inhibited; sequence = unwrap_or sequence 0 })
plan_of k events line (RemoveFlash devs s t sequence) = remove_flash_plan k devs.dev s t
plan_of k events line (ResyncFlash devs s t nocopy persistent recorded inhibited sequence) = resync_flash_plan k devs.dev s t sequence
plan_of k events line (ReverseFlash devs s t tgtpprc sequence) = reverse_flash_plan k devs.dev s t
plan_of k events line (Copy t most) = copy_plan k t most
plan_of k events line (Destage v) = destage_plan k v
plan_of k events line (MakePath devs src tgt group) = path_plan k devs src tgt group
plan_of k events line (RemovePath devs src tgt force) = unpath_plan k devs src tgt force
plan_of k events line (MakePair devs a b kind choices) = make_pair_plan k events devs a b (kind_of kind) choices
plan_of k events line (RemovePair devs a b source_only) = remove_pair_plan k devs a b source_only
plan_of k events line (PausePair devs a b) = pause_pair_plan k devs a b
plan_of k events line (ResumePair devs a b kind) = resume_pair_plan k devs a b (kind_of kind)
plan_of k events line (Failover devs b a kind) = failover_plan k devs b a (kind_of kind)
plan_of k events line (Failback devs x y kind) = failback_plan k devs x y (kind_of kind)
plan_of k events line (Drain a most) = drain_plan k a most
plan_of k events line (Expire name) = on_server k name (expire_on k)
plan_of k events line (Freeze devs l m) = freeze_plan k devs l m
plan_of k events line (Unfreeze devs l m) = thaw_plan k devs l m
plan_of k events line (MakeSession devs l s) = join_plan k devs.dev l s
plan_of k events line (RemoveSession devs l s) = leave_plan k devs.dev l s
plan_of k events line (AddMember devs l a s) = add_plan k devs.dev l a s
plan_of k events line (RemoveMember devs l a s) = expel_plan k devs.dev l a s
plan_of k events line (MakeMirror devs l s cginterval coordinate drain) = mirror_plan k devs.dev l s
plan_of k events line (PauseMirror devs l s) = pause_mirror_plan k devs.dev l s true
plan_of k events line (ResumeMirror devs l s cginterval coordinate drain) = pause_mirror_plan k devs.dev l s false
plan_of k events line (RemoveMirror devs l s) = unmirror_plan k devs.dev l s
plan_of k events line (Abort s) = abort_plan k s
plan_of k events line (Exchange s name reply) = exchange_plan k s name reply
plan_of k events line (Send s name) = send_plan k s name
plan_of k events line (Deliver n) = deliver_plan k n
plan_of k events line (Lose n) = lose_plan k n
plan_of k events line (Recover s) = recover_plan k s
plan_of k events line (CommitFlash devs source sequence) = settle_plan k devs.dev lets_commit source
plan_of k events line (RevertFlash devs source sequence) = settle_plan k devs.dev lets_revert source
plan_of k events line (UnfreezeFlash devs l) = release_plan k devs.dev l
plan_of k events line (ListPairs devs v) = list_pairs_plan k line devs.dev v
plan_of k events line (ListFlashes devs v) = list_flashes_plan k line devs.dev v
plan_of k events line (ListSession devs l) = list_session_plan k line devs.dev l
plan_of k events line (ShowMirror devs l) = show_mirror_plan k line devs.dev l
plan_of k events line _ = only_says (Done Alone)

-- the journal has room for so many events more
abbrev pub has_room_for : ℕ → List Event → Bool
has_room_for n events = nat_le (length events + n) most_events

-- it has room for what a step may tell
abbrev pub has_room : List Event → Bool
has_room events = has_room_for step_events events

-- a step without room is refused
abbrev pub step_plan : Control → List Event → ℕ → Step → Plan
step_plan k events line step = if has_room events then plan_of k events line step else refuses JournalFull

-- what a step comes to; a line outside the grammar is refused, with the column of its first fault
abbrev pub plan : Control → List Event → ℕ → Result Step ℕ → Plan
plan k events line (Ok step) = step_plan k events line step
plan k events line (Err column) = refuses (Syntax column)
