-- What each step comes to, by cases: an answer, or one of the plans of the step table after its tests.
use Rattle.std.proofs.Common.{ℕ, ◌≡◌, ◌<◌, ◌≤◌, refl, ap, ◌∙◌, Bool, true, false, cond, not, ◌||◌, List, [], ◌∷◌, Option, Some, None, Result, Ok, Err, nat_eq, nat_lt, nat_le, arith}
use Rattle.std.specs.Prelude.{length, is_some, ◌==◌}
use Rattle.std.specs.List.{find, flat_map}
use Rattle.std.specs.Option.{option_or}
use Rattle.std.specs.Str.{bytes_eq}
use Rattle.std.proofs.lemmas.List.Quantifiers.{position-Some}
use Rattle.std.proofs.lemmas.Bool.Decides.{nat_tests}
use Rattle.std.proofs.lemmas.Bool.{or_parts, eqb-true, ltb-true, not-false}
use Rattle.dr_ids.specs.declared.refusal.Refusal.{Refusal}
use Rattle.dr_ids.specs.declared.refusal.Refusal.TheVariants.{JournalFull, Syntax}
use Rattle.dr_ids.specs.declared.refusal.Kind.TheVariants.{Server as OfServer, Volume as OfVolume, Lss as OfLss, Track as OfTrack, Write as OfWrite, Session as OfSession}
use Rattle.dr_ids.specs.declared.refusal.Which.TheVariants.{Servers, Volumes, Tracks, Pending as PendingWrites}
use Rattle.dr_model.specs.declared.event.Event.{Event}
use Rattle.dr_model.specs.declared.said.Addition.TheVariants.{Alone}
use Rattle.dr_model.specs.declared.said.Addition.{Addition}
use Rattle.dr_model.specs.declared.said.Said.{Said}
use Rattle.dr_model.specs.declared.said.Said.TheVariants.{Done, Held, Refused}
use Rattle.dr_model.specs.declared.step.Name.{Name}
use Rattle.dr_model.specs.declared.state.Part.{Part}
use Rattle.dr_model.specs.declared.state.Part.TheVariants.{Metro, Global}
use Rattle.dr_model.specs.declared.step.Devs.{Devs}
use Rattle.dr_model.specs.declared.step.PairChoices.{PairChoices}
use Rattle.dr_model.specs.declared.step.TornWord.{TornWord}
use Rattle.dr_model.specs.declared.step.Step.{Step}
use Rattle.dr_model.specs.declared.step.Step.TheVariants.{Server, Volume, Link, Stop, StopAfter, Start, Issue, Write, Apply, Show, MakeFlash, RemoveFlash, ResyncFlash, ReverseFlash, Copy, Destage, MakePath, RemovePath, MakePair, RemovePair, PausePair, ResumePair, Failover, Failback, Drain, Expire, Freeze, Unfreeze, MakeSession, RemoveSession, AddMember, RemoveMember, MakeMirror, PauseMirror, ResumeMirror, RemoveMirror, Abort, Exchange, Send, Deliver, Lose, Recover, CommitFlash, RevertFlash, ListPairs, ListFlashes, ListSession, ShowMirror, UnfreezeFlash}
use Rattle.dr_model.specs.Runs.{own_course}
use Rattle.dr_facts.proofs.Reasons.{NoStop, NoneStops, names_no_stop, session-why, secondary-why, forbidden-why}
use Rattle.dr_facts.proofs.Entries.{why-or}
use Rattle.dr_laws_sound.proofs.PlanReasons.{name-why, off-why, outside-why, busy-why, master-why, join-why, leave-why, make-why, drop-why, abort-why, issue-why, show-why, server-why, volume-why, copy-why, taken-why, phase-why, apart-why, full-why, old-why, exchange-why, place-why, untaken-why, path-why, unpath-why, thaw-why, release-why, freeze-why, listing-why, not-forbidden}
use Rattle.dr_model.specs.MessagePlans.{full_refusal, is_awaited}
use Rattle.dr_model.specs.Messages.{is_current}
use Rattle.dr_model.specs.SessionPlans.{phase_refusal, apart_refusal}
use Rattle.dr_model.specs.Layout.{is_part, kind_of}
use Rattle.dr_model.specs.Limits.{most_servers, most_volumes, most_tracks, most_pending}
use Rattle.dr_model.specs.Refusals.{server_off, unknown, duplicate, over}
use Rattle.dr_model.specs.Control.{Control, Pending, is_volume}
use Rattle.dr_model.specs.Relations.{Choices}
use Rattle.dr_model.specs.Moves.{is_write}
use Rattle.dr_ids.specs.declared.names.Member.{Member}
use Rattle.dr_model.specs.Phases as phases
use Rattle.dr_model.specs.Sessions.{Session, Mirror, has_subsystem, subsystem_of, session_in, members_in, has_place_of, joined, changed, paused, unmirrored, with_member, without_member, raised, busy, in_session, leave_refusal, join_refusal, make_refusal, drop_refusal, abort_refusal}
use Rattle.dr_model.specs.SessionEntries.{order_entries, members_on, first_number, add_entries, expel_entries}
use Rattle.dr_model.specs.Entries.{fields_at, first_of, subsystem}
use Rattle.dr_model.specs.Messages.{Message, Body, Asks, Replies, message_in, lost}
use Rattle.dr_model.specs.MessagePlans.{with_flight, on_message, send_refusal, send_order, send_on, send_plan, order_refusal, order_done, order_on, reply_refusal, taking, reply_on, deliver_on}
use Rattle.dr_model.specs.SessionPlans.{with_sessions, table_plan, leaving, appointed, aborting, exchanged, says_phase, is_idle, name_refusal, off_refusal, outside_refusal, master_refusal, place_refusal, taken_refusal, copy_refusal, member_target, member_with, add_target, add_to, expel_done, expel_found, exchange_refusal, order_of, exchange_done, exchange_on, on_volume, join_plan, leave_plan, mirror_plan, pause_mirror_plan, unmirror_plan, abort_plan, add_plan, expel_plan, exchange_plan}
use Rattle.dr_ids.specs.declared.refusal.Decision.{Decision}
use Rattle.dr_model.specs.RecoveryPlans.{decided_in, secondary_refusal, untaken_refusal, forbidden_unless, lets_commit, lets_revert, settle_on, recover_done, recover_plan, member_of_target, revertible_target, settle_refusal, settle_member, settle_target, settle_plan}
use Rattle.dr_facts.proofs.Lists.{found}
use Rattle.dr_model.specs.Groups.{In, Groups}
use Rattle.dr_model.specs.Listings.{pair_lines, flash_lines, member_lines, mirror_lines, sessions_of, lists, listing_refusal}
use Rattle.dr_laws_sound.proofs.Listed.{AllLines, pair-lines, flash-lines, session-lines, mirrors-lines, pair-few, flash-few, session-few, mirrors-few}
use Rattle.dr_model.specs.Plans.{Plan, entries_plan, tables_plan, plan, step_plan, plan_of, has_room, same, none_follow, always, on_session, is_defined, only_says, refuses, unless, on_named, on_server, name_bytes, server_named, server_refusal, server_done, volume_refusal, volume_done, link_between, link_done, track_refusal, issue_refusal, issue_done, write_done, apply_on, apply_done, show_refusal, show_done, is_foreign, stop_on, stop_done, arm_on, start_on, start_plan, make_flash_plan, remove_flash_plan, resync_flash_plan, reverse_flash_plan, copy_plan, destage_plan, on_owner, owner_of, path_refusal, make_path_done, unpath_refusal, remove_path_done, make_pair_plan, remove_pair_plan, pause_pair_plan, resume_pair_plan, failover_plan, failback_plan, compare_plan, drain_plan, expire_on, expire_plan, freeze_refusal, freeze_done, thaw_refusal, unfreeze_done, release_refusal, release_done}
use Rattle.dr_facts.proofs.Refusals.{none-both, met}

-- a member is added, and removed; a master is aborted, and an order is carried out
abbrev pub added : Control → ℕ → Session → Member → Plan
added k s x m = record {
  first = same;
  told = [];
  entries = add_entries m (first_number k x.last m);
  follows = none_follow;
  last = with_sessions (λ ss. changed s (with_member m) (changed s (raised (first_number k x.last m)) ss));
  says = always (Done Alone);
}

abbrev pub expelled : ℕ → Member → Plan
expelled s m = record {
  first = same;
  told = [];
  entries = expel_entries s m;
  follows = none_follow;
  last = with_sessions (changed s (without_member m.a.0));
  says = always (Done Alone);
}

abbrev pub aborted : ℕ → Option Mirror → Plan
aborted s r = record (tables_plan (aborting s r) [] (Done Alone)) { says = says_phase s }

abbrev pub ordered : ℕ → ℕ → Bool → List Member → phases.Order → Plan
ordered s server reply ms o = record {
  first = same;
  told = [];
  entries = order_entries o.work s o.number ms;
  follows = none_follow;
  last = exchanged s server reply o.work ms;
  says = says_phase s;
}

-- why a volume may become a member, with c as its target
pub record Joins (k : Control) (s a c : ℕ) (x : Session) : Type 0 where
  pub found : session_in k.sessions s ≡ Some x
  pub there : is_volume k a ≡ true
  pub free : taken_refusal k x a ≡ None
  pub copies : copy_refusal k a ≡ None
  pub target : member_target k (fields_at k a).primary_partner ≡ Some c
  pub places : in_session (find (has_place_of (member_with k a c)) k.sessions) ≡ None
  pub inside : has_subsystem (subsystem_of a) x ≡ true

-- and why a server may be given an order
pub record Ordered (k : Control) (s server : ℕ) (x : Session) (r : Mirror) (o : phases.Order) : Type 0 where
  pub found : session_in k.sessions s ≡ Some x
  pub mirror : x.mirror ≡ Some r
  pub allowed : exchange_refusal k r server x.members ≡ None
  pub order : order_of r server ≡ Some o

-- why a master may send an order to a server
pub record Posts (k : Control) (s server : ℕ) (x : Session) (r : Mirror) (o : phases.Order) : Type 0 where
  pub here : server < length k.servers
  pub found : session_in k.sessions s ≡ Some x
  pub mirror : x.mirror ≡ Some r
  pub allowed : send_refusal k r server x.members ≡ None
  pub order : order_of r server ≡ Some o

-- a message was found, and its session with its master
pub record Arrives (k : Control) (n : ℕ) (m : Message) (body : Body) (x : Session) (r : Mirror) : Type 0 where
  pub there : message_in k.flight n ≡ Some m
  pub says : m.body ≡ body
  pub found : session_in k.sessions m.session ≡ Some x
  pub mirror : x.mirror ≡ Some r

-- why a server may carry out an order that came
pub record Reaches (k : Control) (n : ℕ) (m : Message) (starts : ℕ) (x : Session) (r : Mirror) : Type 0 where
  pub arrives : Arrives k n m (Asks starts) x r
  pub on : off_refusal k m.server ≡ None
  pub allowed : order_refusal k r m starts ≡ None

-- and why a master may take a reply that came
pub record Returns (k : Control) (n : ℕ) (m : Message) (reply : phases.Reply) (x : Session) (r : Mirror) : Type 0 where
  pub arrives : Arrives k n m (Replies reply) x r
  pub allowed : reply_refusal k r m ≡ None

-- a master takes a reply
abbrev pub taken : Message → phases.Reply → Plan
taken m reply = record (tables_plan (taking m reply) [] (Done Alone)) { says = says_phase m.session }

-- an answer that says of no write that it waits
abbrev pub NotHeld : Said → Type 0
NotHeld said = (n : ℕ) → said ≡ Held n → ⊥

pub done-not : (x : Addition) → NotHeld (Done x)
done-not x n e = cc

pub refused-not : (r : Refusal) → NotHeld (Refused r)
refused-not r n e = cc

-- one that is a refusal names no stop, nor does it say that the step isn't built
abbrev pub says_no_stop : Said → Bool
says_no_stop (Refused r) = names_no_stop r
says_no_stop a = true

-- the target of a member of session s is committed, or reverted, by hand
pub data ByHand (k : Control) (s : ℕ) (m : Member) : Step → Type 0 where
  Commits : (devs : Devs) → (source : ℕ) → (sequence : Option ℕ) → lets_commit (decided_in s k) ≡ true → ByHand k s m (CommitFlash devs source sequence)
  Reverts : (devs : Devs) → (source : ℕ) → (sequence : Option ℕ) → (t : ℕ) → revertible_target k source ≡ Some t → m.c.0 ≡ t → ByHand k s m (RevertFlash devs source sequence)

-- what a step comes to, with what was seen before
pub data Case (k : Control) (events : List Event) (line : ℕ) : Result Step ℕ → Plan → Type 0 where
  Says : {asked : Result Step ℕ} → (a : Said) → NotHeld a → (own_course asked ≡ None → says_no_stop a ≡ true) → Case k events line asked (only_says a)
  DefinesServer : (name : Name) → server_refusal k (name_bytes name) ≡ None → Case k events line (Ok (Server name)) (server_done k name)
  DefinesVolume : {name : Name} → (v s tracks : ℕ) → s < length k.servers → volume_refusal k v s tracks ≡ None → Case k events line (Ok (Volume v name tracks)) (volume_done v s tracks)
  SetsLink : {one other : Name} → (a b : ℕ) → (up : Bool) → Case k events line (Ok (Link one other up)) (link_done a b up)
  Issues : (v t offset len : ℕ) → (bytes : List ℕ) → issue_refusal k v t ≡ None → Case k events line (Ok (Issue v t offset len bytes)) (issue_done k v t offset len bytes)
  Writes : (v t offset len : ℕ) → (bytes : List ℕ) → issue_refusal k v t ≡ None → Case k events line (Ok (Write v t offset len bytes)) (write_done k v t offset len bytes)
  Applies : (n : ℕ) → (p : Pending) → find (is_write n) k.pending ≡ Some p → Case k events line (Ok (Apply n)) (apply_done k p)
  Lists : {asked : Result Step ℕ} → (told : List Event) → AllLines told → (Groups k → length k.sessions ≤ 4 → length k.volumes ≤ 64 → length told ≤ 256) → Case k events line asked (lists told)
  Shows : (v t : ℕ) → show_refusal k v t ≡ None → Case k events line (Ok (Show v t)) (show_done events line v t)
  Stops : {name : Name} → (s : ℕ) → k.on s ≡ true → Case k events line (Ok (Stop name)) (stop_done s)
  Arms : {name : Name} → (writes : ℕ) → (torn : TornWord) → (s : ℕ) → Case k events line (Ok (StopAfter name writes torn)) (arm_on writes torn s)
  Starts : {name : Name} → (s : ℕ) → k.on s ≡ false → Case k events line (Ok (Start name)) (start_plan k s)
  MakesFlash : {devs : Devs} → {nocopy persistent recorded inhibited : Bool} → {sequence : Option ℕ} → (dev : Option Name) → (s t : ℕ) → (freeze : Bool) → (choices : Choices) → Case k events line (Ok (MakeFlash devs s t nocopy persistent recorded inhibited freeze sequence)) (make_flash_plan k dev s t freeze choices)
  RemovesFlash : {devs : Devs} → {sequence : Option ℕ} → (dev : Option Name) → (s t : ℕ) → Case k events line (Ok (RemoveFlash devs s t sequence)) (remove_flash_plan k dev s t)
  ResyncsFlash : {devs : Devs} → {nocopy persistent recorded inhibited : Bool} → (dev : Option Name) → (s t : ℕ) → (sequence : Option ℕ) → Case k events line (Ok (ResyncFlash devs s t nocopy persistent recorded inhibited sequence)) (resync_flash_plan k dev s t sequence)
  ReversesFlash : {devs : Devs} → {tgtpprc : Bool} → {sequence : Option ℕ} → (dev : Option Name) → (s t : ℕ) → Case k events line (Ok (ReverseFlash devs s t tgtpprc sequence)) (reverse_flash_plan k dev s t)
  Copies : (t : ℕ) → (most : Option ℕ) → Case k events line (Ok (Copy t most)) (copy_plan k t most)
  Destages : (v : ℕ) → Case k events line (Ok (Destage v)) (destage_plan k v)
  MakesPath : {devs : Devs} → (src tgt : ℕ) → (group : Bool) → Case k events line (Ok (MakePath devs src tgt group)) (make_path_done src tgt group)
  RemovesPath : {devs : Devs} → {force : Bool} → (src tgt : ℕ) → Case k events line (Ok (RemovePath devs src tgt force)) (remove_path_done src tgt)
  MakesPair : {n : ℕ} → (devs : Devs) → (a b : ℕ) → (kind : Part) → (choices : PairChoices) → is_part kind ≡ true → Case k events line (Ok (MakePair devs a b n choices)) (make_pair_plan k events devs a b kind choices)
  RemovesPair : (devs : Devs) → (a b : ℕ) → (source_only : Bool) → Case k events line (Ok (RemovePair devs a b source_only)) (remove_pair_plan k devs a b source_only)
  PausesPair : (devs : Devs) → (a b : ℕ) → Case k events line (Ok (PausePair devs a b)) (pause_pair_plan k devs a b)
  ResumesPair : {n : ℕ} → (devs : Devs) → (a b : ℕ) → (kind : Part) → Case k events line (Ok (ResumePair devs a b n)) (resume_pair_plan k devs a b kind)
  FailsOver : {n : ℕ} → (devs : Devs) → (b a : ℕ) → (kind : Part) → Case k events line (Ok (Failover devs b a n)) (failover_plan k devs b a kind)
  FailsBack : {n : ℕ} → (devs : Devs) → (x y : ℕ) → (kind : Part) → Case k events line (Ok (Failback devs x y n)) (failback_plan k devs x y kind)
  Compares : {asked : Result Step ℕ} → (contents : ℕ → ℕ → List ℕ) → (v u : ℕ) → Case k events line asked (compare_plan k contents v u)
  Drains : (a : ℕ) → (most : Option ℕ) → Case k events line (Ok (Drain a most)) (drain_plan k a most)
  Expires : {name : Name} → (s : ℕ) → (server_named k (name_bytes name) ≡ Some s) × (k.on s ≡ true) → Case k events line (Ok (Expire name)) (expire_plan k s)
  Freezes : {devs : Devs} → (l m : ℕ) → Case k events line (Ok (Freeze devs l m)) (freeze_done k l m)
  Unfreezes : {devs : Devs} → (l m : ℕ) → Case k events line (Ok (Unfreeze devs l m)) (unfreeze_done k l m)
  Releases : {devs : Devs} → (l : ℕ) → Case k events line (Ok (UnfreezeFlash devs l)) (release_done k l)
  MakesSession : {devs : Devs} → (l s : ℕ) → join_refusal (session_in k.sessions s) l k.sessions ≡ None → Case k events line (Ok (MakeSession devs l s)) (table_plan (joined s l))
  RemovesSession : {devs : Devs} → (l s : ℕ) → (x : Session) → session_in k.sessions s ≡ Some x → leave_refusal (Some x) s l ≡ None → Case k events line (Ok (RemoveSession devs l s)) (tables_plan (leaving s l x) [] (Done Alone))
  MakesMirror : {devs : Devs} → {cginterval : Option ℕ} → {coordinate drain : Option ℕ} → (owner s : ℕ) → (x : Session) → session_in k.sessions s ≡ Some x → make_refusal x.mirror ≡ None → (l : ℕ) → owner_of k l ≡ Some owner → Case k events line (Ok (MakeMirror devs l s cginterval coordinate drain)) (tables_plan (appointed s owner) [] (Done Alone))
  PausesMirror : {asked : Result Step ℕ} → (s : ℕ) → (on : Bool) → Case k events line asked (table_plan (changed s (paused on)))
  RemovesMirror : {devs : Devs} → {l : ℕ} → (s : ℕ) → (x : Session) → session_in k.sessions s ≡ Some x → drop_refusal x.mirror ≡ None → Case k events line (Ok (RemoveMirror devs l s)) (table_plan (changed s unmirrored))
  Aborts : (s : ℕ) → (x : Session) → session_in k.sessions s ≡ Some x → abort_refusal x.mirror ≡ None → Case k events line (Ok (Abort s)) (aborted s x.mirror)
  AddsMember : {devs : Devs} → {l : ℕ} → (s a c : ℕ) → (x : Session) → Joins k s a c x → Case k events line (Ok (AddMember devs l a s)) (added k s x (member_with k a c))
  RemovesMember : {devs : Devs} → {l : ℕ} → (s a : ℕ) → (x : Session) → (m : Member) → session_in k.sessions s ≡ Some x → find (λ m. m.a.0 == a) x.members ≡ Some m → busy x.mirror ≡ None → off_refusal k (k.volume m.c.0).server ≡ None → Case k events line (Ok (RemoveMember devs l a s)) (expelled s m)
  Loses : (n : ℕ) → Case k events line (Ok (Lose n)) (tables_plan (with_flight (lost n)) [] (Done Alone))
  Exchanges : {name : Name} → (s server : ℕ) → (reply : Bool) → (x : Session) → (r : Mirror) → (o : phases.Order) → Ordered k s server x r o → Case k events line (Ok (Exchange s name reply)) (ordered s server reply (members_on server x.members) o)
  Sends : {name : Name} → (s server : ℕ) → (x : Session) → (r : Mirror) → (o : phases.Order) → Posts k s server x r o → Case k events line (Ok (Send s name)) (send_order s (is_idle r.master.phase) server (Some o))
  Delivers : (n : ℕ) → (m : Message) → (starts : ℕ) → (x : Session) → (r : Mirror) → Reaches k n m starts x r → Case k events line (Ok (Deliver n)) (order_done m (members_on m.server x.members))
  TakesReply : (n : ℕ) → (m : Message) → (reply : phases.Reply) → (x : Session) → (r : Mirror) → Returns k n m reply x r → Case k events line (Ok (Deliver n)) (taken m reply)
  Recovers : (s : ℕ) → (x : Session) → session_in k.sessions s ≡ Some x → secondary_refusal x.members k ≡ None → Case k events line (Ok (Recover s)) (recover_done s (decided_in s k) x.members)
  Settles : {step : Step} → (s : ℕ) → (x : Session) → (m : Member) → session_in k.sessions s ≡ Some x → In m x.members → secondary_refusal x.members k ≡ None → untaken_refusal x.members k ≡ None → ByHand k s m step → Case k events line (Ok step) (entries_plan (settle_on s (decided_in s k) m ∷ []) (Done Alone))

-- a step names Metro Mirror or Global Copy
is-kind : (n : ℕ) → is_part (kind_of n) ≡ true
is-kind n = by (nat_eq n 1)
  where
    by : (b : Bool) → is_part (cond b Metro Global) ≡ true
    by true = refl
    by false = refl

-- what the tests that passed tell
pub one-passed : (b : Bool) (r : Refusal) (o : Option Refusal) → cond b (Some r) o ≡ None → (b ≡ false) × (o ≡ None)
one-passed true r o h = absurd cc
one-passed false r o h = (refl, h)

module _ (k : Control) (events : List Event) (line : ℕ) where
  abbrev Is : Result Step ℕ → Plan → Type 0
  Is = Case k events line

  refused : {asked : Result Step ℕ} → (r : Refusal) → NoStop r → Is asked (refuses r)
  refused r why = Says (Refused r) (refused-not r) (λ one. why)

  idle : {asked : Result Step ℕ} → Is asked (only_says (Done Alone))
  idle = Says (Done Alone) (done-not Alone) (λ one. refl)

  choice : {asked : Result Step ℕ} → (b : Bool) (p q : Plan) → (b ≡ true → Is asked p) → (b ≡ false → Is asked q) → Is asked (cond b p q)
  choice true p q yea nay = yea refl
  choice false p q yea nay = nay refl

  where-none : {asked : Result Step ℕ} → (r : Option Refusal) → NoneStops r → (p : Plan) → (r ≡ None → Is asked p) → Is asked (unless r p)
  where-none None why p go = go refl
  where-none (Some r) why p go = refused r why

  where-named : {asked : Result Step ℕ} → (o : Option ℕ) (p : ℕ → Plan) → ((s : ℕ) → Is asked (p s)) → Is asked (on_named o p)
  where-named None p go = refused (unknown OfServer) refl
  where-named (Some s) p go = go s

  where-placed : {asked : Result Step ℕ} → (o : Option ℕ) (p : ℕ → Plan) → ((s : ℕ) → o ≡ Some s → Is asked (p s)) → Is asked (on_named o p)
  where-placed None p go = refused (unknown OfServer) refl
  where-placed (Some s) p go = go s refl

  -- a server that a line names is one of those that are defined
  is-defined : (name : Name) (s : ℕ) → server_named k (name_bytes name) ≡ Some s → s < length k.servers
  is-defined name s is = (position-Some (bytes_eq (name_bytes name)) k.servers s [] is).0

  where-owned : {asked : Result Step ℕ} → (o : Option ℕ) (p : ℕ → Plan) → ((s : ℕ) → Is asked (p s)) → Is asked (on_owner o p)
  where-owned None p go = refused (unknown OfLss) refl
  where-owned (Some s) p go = go s

  where-owner : {asked : Result Step ℕ} → (o : Option ℕ) (p : ℕ → Plan) → ((s : ℕ) → o ≡ Some s → Is asked (p s)) → Is asked (on_owner o p)
  where-owner None p go = refused (unknown OfLss) refl
  where-owner (Some s) p go = go s refl

  apply-case : (n : ℕ) (o : Option Pending) → find (is_write n) k.pending ≡ o → Is (Ok (Apply n)) (apply_on k o)
  apply-case n None e = refused (unknown OfWrite) refl
  apply-case n (Some p) e = Applies n p e

  link-case : {one other : Name} → (a b : ℕ) (up : Bool) → Is (Ok (Link one other up)) (link_between a b up)
  link-case a b up = choice (nat_eq a b) (refuses (duplicate OfServer)) (link_done a b up) (λ e. refused _ refl) (λ e. SetsLink a b up)

  stop-case : {name : Name} → (s : ℕ) → Is (Ok (Stop name)) (stop_on k s)
  stop-case s = choice (k.on s) (stop_done s) (only_says (Done Alone)) (Stops s) (λ off. idle)

  start-case : {name : Name} → (s : ℕ) → Is (Ok (Start name)) (start_on k s)
  start-case s = choice (k.on s) (only_says (Done Alone)) (start_plan k s) (λ on. idle) (Starts s)

  expire-case : {name : Name} → (s : ℕ) → server_named k (name_bytes name) ≡ Some s → Is (Ok (Expire name)) (expire_on k s)
  expire-case s named = choice (k.on s) (expire_plan k s) (refuses (server_off s)) (λ on. Expires s (named, on)) (λ off. refused _ refl)

  -- lines on sessions
  where-session : {asked : Result Step ℕ} → (o : Option Session) (p : Session → Plan) → ((x : Session) → o ≡ Some x → Is asked (p x)) → Is asked (on_session o p)
  where-session None p go = refused (unknown OfSession) refl
  where-session (Some x) p go = go x refl

  where-volume : {asked : Result Step ℕ} → (v : ℕ) (p : Plan) → (is_volume k v ≡ true → Is asked p) → Is asked (on_volume k v p)
  where-volume v p go = choice (is_defined v k) p (refuses (unknown OfVolume)) go (λ none. refused _ refl)

  join-case : {devs : Devs} → (dev : Option Name) (l s : ℕ) → Is (Ok (MakeSession devs l s)) (join_plan k dev l s)
  join-case dev l s = where-owned (owner_of k l) _ (λ owner.
      let why : Option Refusal = option_or (name_refusal k dev owner) (option_or (off_refusal k owner) (join_refusal (session_in k.sessions s) l k.sessions)) in
      where-none why (why-or NoStop (name_refusal k dev owner) _ (name-why k dev owner) (why-or NoStop (off_refusal k owner) _ (off-why k owner) (join-why k (session_in k.sessions s) l))) (table_plan (joined s l)) (λ free. MakesSession l s (none-both (off_refusal k owner) _ (none-both (name_refusal k dev owner) _ free).1).1))

  leave-case : {devs : Devs} → (dev : Option Name) (l s : ℕ) → Is (Ok (RemoveSession devs l s)) (leave_plan k dev l s)
  leave-case dev l s = where-owned (owner_of k l) _ (λ owner. where-session (session_in k.sessions s) _ (λ x is.
      where-none (option_or (name_refusal k dev owner) (leave_refusal (Some x) s l)) (why-or NoStop (name_refusal k dev owner) _ (name-why k dev owner) (leave-why k x s l)) (tables_plan (leaving s l x) [] (Done Alone)) (λ free. RemovesSession l s x is (none-both (name_refusal k dev owner) _ free).1)))

  mirror-case : {devs : Devs} → {cginterval coordinate drain : Option ℕ} → (dev : Option Name) (l s : ℕ) → Is (Ok (MakeMirror devs l s cginterval coordinate drain)) (mirror_plan k dev l s)
  mirror-case dev l s = where-owner (owner_of k l) _ (λ owner owned. where-session (session_in k.sessions s) _ (λ x is.
      let why : Option Refusal = option_or (name_refusal k dev owner) (option_or (outside_refusal x l) (option_or (off_refusal k owner) (make_refusal x.mirror))) in
      where-none why (why-or NoStop (name_refusal k dev owner) _ (name-why k dev owner) (why-or NoStop (outside_refusal x l) _ (outside-why k x l) (why-or NoStop (off_refusal k owner) _ (off-why k owner) (make-why k x.mirror)))) (tables_plan (appointed s owner) [] (Done Alone))
      (λ free. MakesMirror owner s x is (none-both (off_refusal k owner) _ (none-both (outside_refusal x l) _ (none-both (name_refusal k dev owner) _ free).1).1).1 l owned)))

  pause-case : {asked : Result Step ℕ} → (dev : Option Name) (l s : ℕ) (on : Bool) → Is asked (pause_mirror_plan k dev l s on)
  pause-case dev l s on = where-owned (owner_of k l) _ (λ owner. where-session (session_in k.sessions s) _ (λ x is.
      where-none (option_or (name_refusal k dev owner) (option_or (outside_refusal x l) (master_refusal k x.mirror))) (why-or NoStop (name_refusal k dev owner) _ (name-why k dev owner) (why-or NoStop (outside_refusal x l) _ (outside-why k x l) (master-why k x.mirror))) (table_plan (changed s (paused on))) (λ free. PausesMirror s on)))

  unmirror-case : {devs : Devs} → (dev : Option Name) (l s : ℕ) → Is (Ok (RemoveMirror devs l s)) (unmirror_plan k dev l s)
  unmirror-case dev l s = where-owned (owner_of k l) _ (λ owner. where-session (session_in k.sessions s) _ (λ x is.
      let why : Option Refusal = option_or (name_refusal k dev owner) (option_or (outside_refusal x l) (option_or (master_refusal k x.mirror) (drop_refusal x.mirror))) in
      where-none why (why-or NoStop (name_refusal k dev owner) _ (name-why k dev owner) (why-or NoStop (outside_refusal x l) _ (outside-why k x l) (why-or NoStop (master_refusal k x.mirror) _ (master-why k x.mirror) (drop-why k x.mirror)))) (table_plan (changed s unmirrored))
      (λ free. RemovesMirror s x is (none-both (master_refusal k x.mirror) _ (none-both (outside_refusal x l) _ (none-both (name_refusal k dev owner) _ free).1).1).1)))

  abort-case : (s : ℕ) → Is (Ok (Abort s)) (abort_plan k s)
  abort-case s = where-session (session_in k.sessions s) _ (λ x is.
      where-none (option_or (abort_refusal x.mirror) (master_refusal k x.mirror)) (why-or NoStop (abort_refusal x.mirror) _ (abort-why k x.mirror) (master-why k x.mirror)) (aborted s x.mirror) (λ free. Aborts s x is (none-both (abort_refusal x.mirror) _ free).0))

  target-case : {devs : Devs} → {l : ℕ} → (s a : ℕ) (x : Session) (o : Option ℕ) → ((c : ℕ) → o ≡ Some c → in_session (find (has_place_of (member_with k a c)) k.sessions) ≡ None → Joins k s a c x) → Is (Ok (AddMember devs l a s)) (add_target k s x a (fields_at k a).primary_partner o)
  target-case s a x None go = refused _ refl
  target-case s a x (Some c) go =
      where-none (in_session (find (has_place_of (member_with k a c)) k.sessions)) (session-why (find (has_place_of (member_with k a c)) k.sessions)) (added k s x (member_with k a c)) (λ free. AddsMember s a c x (go c refl free))

  add-case : {devs : Devs} → (dev : Option Name) (l a s : ℕ) → Is (Ok (AddMember devs l a s)) (add_plan k dev l a s)
  add-case dev l a s = where-owned (owner_of k l) _ (λ owner. where-volume a _ (λ there. where-session (session_in k.sessions s) _ (λ x is.
      where-none (place_refusal k dev owner l a) (place-why k dev owner l a) (add_to k s x l a) (λ named.
      where-none (option_or (outside_refusal x l) (option_or (taken_refusal k x a) (copy_refusal k a))) (why-or NoStop (outside_refusal x l) _ (outside-why k x l) (why-or NoStop (taken_refusal k x a) _ (taken-why k x a) (copy-why k a))) (add_target k s x a (fields_at k a).primary_partner (member_target k (fields_at k a).primary_partner)) (λ free.
      let parts = none-both (outside_refusal x l) _ free in
      let rest = none-both (taken_refusal k x a) _ parts.1 in
      let lies : subsystem a ≡ l = eqb-true (subsystem a) l (not-false (nat_eq (subsystem a) l) (one-passed (not (nat_eq (subsystem a) l)) (unknown OfVolume) _ named).0) in
      target-case s a x (member_target k (fields_at k a).primary_partner) (λ c target places. record { found = is; there = there; free = rest.0; copies = rest.1; target = target; places = places; inside = ap (λ l. has_subsystem l x) lies ∙ met (has_subsystem l x) _ parts.0 }))))))

  found-case : {devs : Devs} → {l : ℕ} → (s a : ℕ) (x : Session) (o : Option Member) → session_in k.sessions s ≡ Some x → find (λ m. m.a.0 == a) x.members ≡ o → Is (Ok (RemoveMember devs l a s)) (expel_found k s x o)
  found-case s a x None is none = refused _ refl
  found-case s a x (Some m) is found =
      where-none (busy x.mirror) (busy-why k x.mirror) (expel_done k s m) (λ idle. where-none (off_refusal k (k.volume m.c.0).server) (off-why k (k.volume m.c.0).server) (expelled s m) (λ on. RemovesMember s a x m is found idle on))

  expel-case : {devs : Devs} → (dev : Option Name) (l a s : ℕ) → Is (Ok (RemoveMember devs l a s)) (expel_plan k dev l a s)
  expel-case dev l a s = where-owned (owner_of k l) _ (λ owner. where-volume a _ (λ there. where-session (session_in k.sessions s) _ (λ x is.
      where-none (name_refusal k dev owner) (name-why k dev owner) (expel_found k s x (find (λ m. m.a.0 == a) x.members)) (λ named. found-case s a x _ is refl))))

  order-case : {name : Name} → (s server : ℕ) (reply : Bool) (x : Session) (r : Mirror) (o : Option phases.Order) → ((p : phases.Order) → o ≡ Some p → Ordered k s server x r p) → Is (Ok (Exchange s name reply)) (exchange_done s server reply (members_on server x.members) o)
  order-case s server reply x r None go = refused _ refl
  order-case s server reply x r (Some o) go = Exchanges s server reply x r o (go o refl)

  pub on-case : {name : Name} → (s server : ℕ) (reply : Bool) (x : Session) (m : Option Mirror) → session_in k.sessions s ≡ Some x → x.mirror ≡ m → Is (Ok (Exchange s name reply)) (exchange_on k s m server reply x.members)
  on-case s server reply x None is none = refused _ refl
  on-case s server reply x (Some r) is mirror =
      where-none (exchange_refusal k r server x.members) (exchange-why k r server x.members) (exchange_done s server reply (members_on server x.members) (order_of r server)) (λ free.
      order-case s server reply x r (order_of r server) (λ o order. record { found = is; mirror = mirror; allowed = free; order = order }))

  exchange-case : (s : ℕ) (name : Name) (reply : Bool) → Is (Ok (Exchange s name reply)) (exchange_plan k s name reply)
  exchange-case s name reply = where-session (session_in k.sessions s) _ (λ x is.
      where-named (server_named k (name_bytes name)) (λ server. exchange_on k s x.mirror server reply x.members) (λ server. on-case s server reply x x.mirror is refl))

  post-case : {name : Name} → (s server : ℕ) (x : Session) (r : Mirror) (o : Option phases.Order) → ((p : phases.Order) → o ≡ Some p → Posts k s server x r p) → Is (Ok (Send s name)) (send_order s (is_idle r.master.phase) server o)
  post-case s server x r None go = refused _ refl
  post-case s server x r (Some o) go = Sends s server x r o (go o refl)

  send-by : {name : Name} → (s server : ℕ) (x : Session) (m : Option Mirror) → server < length k.servers → session_in k.sessions s ≡ Some x → x.mirror ≡ m → Is (Ok (Send s name)) (send_on k s m server x.members)
  send-by s server x None here is none = refused _ refl
  send-by s server x (Some r) here is mirror =
      where-none (send_refusal k r server x.members) (why-or NoStop (off_refusal k r.server) _ (off-why k r.server) (why-or NoStop (phase_refusal r server x.members) _ (phase-why k r server x.members) (full-why k))) (send_order s (is_idle r.master.phase) server (order_of r server)) (λ free.
      post-case s server x r (order_of r server) (λ o order. record { here = here; found = is; mirror = mirror; allowed = free; order = order }))

  send-case : (s : ℕ) (name : Name) → Is (Ok (Send s name)) (send_plan k s name)
  send-case s name = where-session (session_in k.sessions s) _ (λ x is.
      where-placed (server_named k (name_bytes name)) (λ server. send_on k s x.mirror server x.members) (λ server named. send-by s server x x.mirror (is-defined name server named) is refl))

  order-by : (n : ℕ) (m : Message) (starts : ℕ) (x : Session) (o : Option Mirror) → ((r : Mirror) → o ≡ Some r → Arrives k n m (Asks starts) x r) → off_refusal k m.server ≡ None → Is (Ok (Deliver n)) (order_on k m starts x.members o)
  order-by n m starts x None go on = refused _ refl
  order-by n m starts x (Some r) go on =
      where-none (order_refusal k r m starts) (why-or NoStop (apart_refusal k r.server m.server) _ (apart-why k r.server m.server) (why-or NoStop (full_refusal k.flight) _ (full-why k) (old-why k m (is_current k.flight m starts)))) (order_done m (members_on m.server x.members)) (λ free. Delivers n m starts x r (record { arrives = go r refl; on = on; allowed = free }))

  reply-by : (n : ℕ) (m : Message) (reply : phases.Reply) (x : Session) (o : Option Mirror) → ((r : Mirror) → o ≡ Some r → Arrives k n m (Replies reply) x r) → Is (Ok (Deliver n)) (reply_on k m reply o)
  reply-by n m reply x None go = refused _ refl
  reply-by n m reply x (Some r) go = where-none (reply_refusal k r m) (why-or NoStop (off_refusal k r.server) _ (off-why k r.server) (why-or NoStop (apart_refusal k r.server m.server) _ (apart-why k r.server m.server) (old-why k m (is_awaited k.flight r m)))) (taken m reply) (λ free. TakesReply n m reply x r (record { arrives = go r refl; allowed = free }))

  body-case : (n : ℕ) (m : Message) (x : Session) (b : Body) → ((r : Mirror) → x.mirror ≡ Some r → Arrives k n m b x r) → Is (Ok (Deliver n)) (deliver_on k m x b)
  body-case n m x (Asks starts) go = where-none (off_refusal k m.server) (off-why k m.server) (order_on k m starts x.members x.mirror) (λ on. order-by n m starts x x.mirror go on)
  body-case n m x (Replies reply) go = reply-by n m reply x x.mirror go

  deliver-case : (n : ℕ) (o : Option Message) → message_in k.flight n ≡ o → Is (Ok (Deliver n)) (on_message o (λ m. on_session (session_in k.sessions m.session) (λ x. deliver_on k m x m.body)))
  deliver-case n None there = refused _ refl
  deliver-case n (Some m) there = where-session (session_in k.sessions m.session) (λ x. deliver_on k m x m.body) (λ x is. body-case n m x m.body (λ r mirror. record { there = there; says = refl; found = is; mirror = mirror }))

  lose-case : (n : ℕ) (o : Option Message) → Is (Ok (Lose n)) (on_message o (λ m. tables_plan (with_flight (lost n)) [] (Done Alone)))
  lose-case n None = refused _ refl
  lose-case n (Some m) = Loses n

  recover-case : (s : ℕ) → Is (Ok (Recover s)) (recover_plan k s)
  recover-case s = where-session (session_in k.sessions s) _ (λ x is. where-none (secondary_refusal x.members k) (secondary-why x.members k) (recover_done s (decided_in s k) x.members) (λ on. Recovers s x is on))

  -- the member by whose target an attempt may be committed or reverted by hand
  module _ {step : Step} (lets : Decision → Bool) (b : ℕ) (hand : (s t : ℕ) (m : Member) → revertible_target k b ≡ Some t → m.c.0 ≡ t → lets (decided_in s k) ≡ true → ByHand k s m step) where
    settle-in : (s t : ℕ) (m : Member) (o : Option Session) → revertible_target k b ≡ Some t → m.c.0 ≡ t → session_in k.sessions s ≡ o → In m (members_in o) → settle_refusal lets (decided_in s k) (members_in o) k ≡ None
        → Is (Ok step) (entries_plan (settle_on s (decided_in s k) m ∷ []) (Done Alone))
    settle-in s t m None target own is here free = absurd here
    settle-in s t m (Some x) target own is here free =
        let rest = none-both (secondary_refusal x.members k) _ free in
        let last = none-both (untaken_refusal x.members k) (forbidden_unless (lets (decided_in s k)) (decided_in s k)) rest.1 in
        Settles s x m is here rest.0 last.0 (hand s t m target own (not-forbidden (lets (decided_in s k)) (decided_in s k) last.1))

    settle-found : (s t : ℕ) (o : Option Member) → revertible_target k b ≡ Some t → find (λ m. m.c.0 == t) (members_in (session_in k.sessions s)) ≡ o → Is (Ok step) (settle_member k lets b s o)
    settle-found s t None target is = refused _ refl
    settle-found s t (Some m) target is =
        let own = found (λ (m : Member). m.c.0 == t) (members_in (session_in k.sessions s)) m is in
        where-none (settle_refusal lets (decided_in s k) (members_in (session_in k.sessions s)) k) (let ms : List Member = members_in (session_in k.sessions s) in why-or NoStop (secondary_refusal ms k) _ (secondary-why ms k) (why-or NoStop (untaken_refusal ms k) _ (untaken-why k ms) (forbidden-why (lets (decided_in s k)) (decided_in s k)))) (entries_plan (settle_on s (decided_in s k) m ∷ []) (Done Alone))
        (λ free. settle-in s t m (session_in k.sessions s) target (eqb-true m.c.0 t own.1) refl own.0 free)

    settle-by : (o : Option ℕ) → revertible_target k b ≡ o → Is (Ok step) (settle_target k lets b o)
    settle-by None target = refused _ refl
    settle-by (Some t) target = settle-found (fields_at k t).session t (member_of_target k t) target refl

    settle-case : (dev : Option Name) → Is (Ok step) (settle_plan k dev lets b)
    settle-case dev = where-volume b _ (λ there.
        where-none (option_or (name_refusal k dev (k.volume b).server) (off_refusal k (k.volume b).server)) (why-or NoStop (name_refusal k dev (k.volume b).server) _ (name-why k dev (k.volume b).server) (off-why k (k.volume b).server)) (settle_target k lets b (revertible_target k b)) (λ named. settle-by (revertible_target k b) refl))

  pub of-case : (step : Step) → Is (Ok step) (plan_of k events line step)
  of-case (Server name) = where-none (server_refusal k (name_bytes name)) (server-why k (name_bytes name)) (server_done k name) (DefinesServer name)
  of-case (Volume v name tracks) =
      where-placed (server_named k (name_bytes name)) (λ s. unless (volume_refusal k v s tracks) (volume_done v s tracks))
      (λ s is. where-none (volume_refusal k v s tracks) (volume-why k v s tracks) (volume_done v s tracks) (DefinesVolume v s tracks (is-defined name s is)))
  of-case (Link a b up) = where-named (server_named k (name_bytes a)) (λ x. on_server k b (λ y. link_between x y up)) (λ x. where-named (server_named k (name_bytes b)) (λ y. link_between x y up) (λ y. link-case x y up))
  of-case (Issue v t offset len bytes) = where-none (issue_refusal k v t) (issue-why k v t) (issue_done k v t offset len bytes) (Issues v t offset len bytes)
  of-case (Write v t offset len bytes) = where-none (issue_refusal k v t) (issue-why k v t) (write_done k v t offset len bytes) (Writes v t offset len bytes)
  of-case (Apply n) = apply-case n _ refl
  of-case (Stop name) = where-named (server_named k (name_bytes name)) (stop_on k) stop-case
  of-case (StopAfter name writes torn) = where-named (server_named k (name_bytes name)) (arm_on writes torn) (Arms writes torn)
  of-case (Start name) = where-named (server_named k (name_bytes name)) (start_on k) start-case
  of-case (Show v t) = where-none (show_refusal k v t) (show-why k v t) (show_done events line v t) (Shows v t)
  of-case (MakeFlash devs s t nocopy persistent recorded inhibited freeze sequence) = MakesFlash devs.dev s t freeze _
  of-case (RemoveFlash devs s t sequence) = RemovesFlash devs.dev s t
  of-case (ResyncFlash devs s t nocopy persistent recorded inhibited sequence) = ResyncsFlash devs.dev s t sequence
  of-case (ReverseFlash devs s t tgtpprc sequence) = ReversesFlash devs.dev s t
  of-case (Copy t most) = Copies t most
  of-case (Destage v) = Destages v
  of-case (MakePath devs src tgt group) =
      where-owned (owner_of k src) (λ s. on_owner (owner_of k tgt) (λ u. unless (path_refusal k devs s u) (make_path_done src tgt group)))
      (λ s. where-owned (owner_of k tgt) (λ u. unless (path_refusal k devs s u) (make_path_done src tgt group)) (λ u. where-none (path_refusal k devs s u) (path-why k devs s u) (make_path_done src tgt group) (λ free. MakesPath src tgt group)))
  of-case (RemovePath devs src tgt force) =
      where-owned (owner_of k src) (λ s. on_owner (owner_of k tgt) (λ u. unless (unpath_refusal k devs src tgt s u force) (remove_path_done src tgt)))
      (λ s. where-owned (owner_of k tgt) (λ u. unless (unpath_refusal k devs src tgt s u force) (remove_path_done src tgt)) (λ u. where-none (unpath_refusal k devs src tgt s u force) (unpath-why k devs src tgt s u force) (remove_path_done src tgt) (λ free. RemovesPath src tgt)))
  of-case (MakePair devs a b kind choices) = MakesPair devs a b (kind_of kind) choices (is-kind kind)
  of-case (RemovePair devs a b source_only) = RemovesPair devs a b source_only
  of-case (PausePair devs a b) = PausesPair devs a b
  of-case (ResumePair devs a b kind) = ResumesPair devs a b (kind_of kind)
  of-case (Failover devs b a kind) = FailsOver devs b a (kind_of kind)
  of-case (Failback devs x y kind) = FailsBack devs x y (kind_of kind)
  of-case (Drain a most) = Drains a most
  of-case (Expire name) = where-placed (server_named k (name_bytes name)) (expire_on k) expire-case
  of-case (Freeze devs l m) =
      where-owned (owner_of k l) (λ s. on_owner (owner_of k m) (λ u. unless (freeze_refusal k devs l m s u) (freeze_done k l m)))
      (λ s. where-owned (owner_of k m) (λ u. unless (freeze_refusal k devs l m s u) (freeze_done k l m)) (λ u. where-none (freeze_refusal k devs l m s u) (freeze-why k devs l m s u) (freeze_done k l m) (λ free. Freezes l m)))
  of-case (Unfreeze devs l m) =
      where-owned (owner_of k l) (λ s. on_owner (owner_of k m) (λ u. unless (thaw_refusal k devs s u) (unfreeze_done k l m)))
      (λ s. where-owned (owner_of k m) (λ u. unless (thaw_refusal k devs s u) (unfreeze_done k l m)) (λ u. where-none (thaw_refusal k devs s u) (thaw-why k devs s u) (unfreeze_done k l m) (λ free. Unfreezes l m)))
  of-case (UnfreezeFlash devs l) =
      where-owned (owner_of k l) (λ s. unless (release_refusal k devs.dev s) (release_done k l)) (λ s. where-none (release_refusal k devs.dev s) (release-why k devs.dev s) (release_done k l) (λ free. Releases l))
  of-case (MakeSession devs l s) = join-case devs.dev l s
  of-case (RemoveSession devs l s) = leave-case devs.dev l s
  of-case (AddMember devs l a s) = add-case devs.dev l a s
  of-case (RemoveMember devs l a s) = expel-case devs.dev l a s
  of-case (MakeMirror devs l s cginterval coordinate drain) = mirror-case devs.dev l s
  of-case (PauseMirror devs l s) = pause-case devs.dev l s true
  of-case (ResumeMirror devs l s cginterval coordinate drain) = pause-case devs.dev l s false
  of-case (RemoveMirror devs l s) = unmirror-case devs.dev l s
  of-case (Abort s) = abort-case s
  of-case (Exchange s name reply) = exchange-case s name reply
  of-case (Send s name) = send-case s name
  of-case (Deliver n) = deliver-case n (message_in k.flight n) refl
  of-case (Lose n) = lose-case n (message_in k.flight n)
  of-case (Recover s) = recover-case s
  of-case (CommitFlash devs source sequence) = settle-case lets_commit source (λ s t m target own lets. Commits devs source sequence lets) devs.dev
  of-case (RevertFlash devs source sequence) = settle-case lets_revert source (λ s t m target own lets. Reverts devs source sequence t target own) devs.dev
  of-case (ListPairs devs v) = where-none (listing_refusal k devs.dev v) (listing-why k devs.dev v) (lists (pair_lines line v (fields_at k v))) (λ there. Lists (pair_lines line v (fields_at k v)) (pair-lines line v (fields_at k v)) (λ groups sessions volumes. pair-few line v (fields_at k v)))
  of-case (ListFlashes devs v) = where-none (listing_refusal k devs.dev v) (listing-why k devs.dev v) (lists (flash_lines k line v)) (λ there. Lists (flash_lines k line v) (flash-lines k line v) (λ groups sessions volumes. flash-few k line v volumes))
  of-case (ListSession devs l) =
      where-owned (owner_of k l) _ (λ owner. where-none (name_refusal k devs.dev owner) (name-why k devs.dev owner) (lists (flat_map (member_lines k line l) (sessions_of k l)))
      (λ named. Lists (flat_map (member_lines k line l) (sessions_of k l)) (session-lines k line l) (session-few k line l)))
  of-case (ShowMirror devs l) =
      where-owned (owner_of k l) _ (λ owner. where-none (name_refusal k devs.dev owner) (name-why k devs.dev owner) (lists (flat_map (λ x. mirror_lines line x.number x.mirror) (sessions_of k l)))
      (λ named. Lists (flat_map (λ x. mirror_lines line x.number x.mirror) (sessions_of k l)) (mirrors-lines k line l) (λ groups sessions volumes. mirrors-few k line l sessions)))
  of-case _ = idle

  step-case : (step : Step) → Is (Ok step) (step_plan k events line step)
  step-case step = choice (has_room events) (plan_of k events line step) (refuses JournalFull) (λ room. of-case step) (λ full. refused _ refl)

  pub plan-case : (asked : Result Step ℕ) → Is asked (plan k events line asked)
  plan-case (Ok step) = step-case step
  plan-case (Err column) = refused (Syntax column) refl

below : (n m : ℕ) → nat_le m n ≡ false → n < m
below n m h = grind (arith, nat_tests, h)

above : (n m : ℕ) → nat_lt m n ≡ false → n ≤ m
above n m h = grind (arith, nat_tests, h)

pub servers-left : (k : Control) (name : List ℕ) → server_refusal k name ≡ None → length k.servers < most_servers
servers-left k name h = below _ _ (one-passed (nat_le most_servers (length k.servers)) (over Servers) None (one-passed (is_some (server_named k name)) (duplicate OfServer) _ h).1).0

not_over : (tracks : ℕ) → (nat_eq tracks 0 || nat_lt most_tracks tracks) ≡ false → tracks ≤ most_tracks
not_over tracks h = let e : nat_lt most_tracks tracks ≡ false = (or_parts (nat_eq tracks 0) _ h).1 in above tracks most_tracks e

-- a volume that is new and not too large, and there is room for it
pub record IsNew (k : Control) (v tracks : ℕ) : Type 0 where
  pub undefined : is_volume k v ≡ false
  pub left : length k.volumes < most_volumes
  pub small : tracks ≤ most_tracks

pub is-new : (k : Control) (v s tracks : ℕ) → volume_refusal k v s tracks ≡ None → IsNew k v tracks
is-new k v s tracks h =
    let a = one-passed (is_volume k v) (duplicate OfVolume) _ h in
    let b = one-passed (is_foreign k (first_of k (subsystem v)) s) (duplicate OfLss) _ a.1 in
    let c = one-passed (nat_eq tracks 0 || nat_lt most_tracks tracks) (over Tracks) _ b.1 in
    record { undefined = a.0; left = below _ _ (one-passed (nat_le most_volumes (length k.volumes)) (over Volumes) None c.1).0; small = not_over tracks c.0 }

-- a track that is there
pub record IsTrack (k : Control) (v t : ℕ) : Type 0 where
  pub defined : is_volume k v ≡ true
  pub low : t < (k.volume v).tracks

is-track : (k : Control) (v t : ℕ) → track_refusal k v t ≡ None → IsTrack k v t
is-track k v t h =
    let a = one-passed (not (is_volume k v)) (unknown OfVolume) _ h in
    record { defined = not-false (is_volume k v) a.0; low = ltb-true _ _ (met (nat_lt t (k.volume v).tracks) (unknown OfTrack) a.1) }

-- and room for one write more
pub may-issue : (k : Control) (v t : ℕ) → issue_refusal k v t ≡ None → IsTrack k v t × (length k.pending < most_pending)
may-issue k v t h =
    let both = none-both (track_refusal k v t) _ h in
    (is-track k v t both.0, below _ _ (one-passed (nat_le most_pending (length k.pending)) (over PendingWrites) None both.1).0)
