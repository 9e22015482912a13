-- Why the plans of steps refuse before their entries: for no reason that names a stop, or says that a step isn't built.
use Rattle.std.proofs.Common.{ℕ, ◌≡◌, refl, Bool, true, false, cond, not, ◌&&◌, ◌||◌, nat_eq, nat_lt, nat_le, List, Option, Some, None}
use Rattle.std.specs.Prelude.{length, is_some, option_map, ◌+◌, ◌==◌}
use Rattle.std.specs.List.{find, list_any}
use Rattle.dr_ids.specs.Paths.{path_in}
use Rattle.dr_ids.specs.declared.names.Member.{Member}
use Rattle.dr_ids.specs.declared.refusal.Decision.{Decision}
use Rattle.dr_ids.specs.declared.refusal.PhaseName.{PhaseName}
use Rattle.dr_ids.specs.declared.refusal.PhaseName.TheVariants as phase
use Rattle.dr_ids.specs.declared.refusal.Refusal.{Refusal}
use Rattle.dr_ids.specs.declared.refusal.Refusal.TheVariants.{OutOfOrder, OldMessage}
use Rattle.dr_facts.proofs.Reasons.{NoStop, NoneStops, session-why, send-why}
use Rattle.dr_facts.proofs.Entries.{why-if, why-or}
use Rattle.dr_model.specs.declared.state.Part.TheVariants.{Global}
use Rattle.dr_model.specs.declared.step.Name.{Name}
use Rattle.dr_model.specs.declared.step.Devs.{Devs}
use Rattle.dr_model.specs.Layout.{is_part}
use Rattle.dr_model.specs.Limits.{most_servers, most_volumes, most_tracks, most_pending}
use Rattle.dr_model.specs.Refusals.{server_off, unknown}
use Rattle.dr_ids.specs.declared.refusal.Kind.TheVariants.{Server as OfServer}
use Rattle.dr_model.specs.Control.{Control, is_volume}
use Rattle.dr_model.specs.Entries.{first_of, subsystem, fields_at, is_running, pair_state}
use Rattle.dr_model.specs.PairEntries.{link_down, first_active, send_refusal}
use Rattle.dr_model.specs.Pairs.{is_kind}
use Rattle.dr_model.specs.Phases as phases
use Rattle.dr_model.specs.Sessions.{Session, Mirror, in_session, is_member, has_subsystem, has_member_in, is_only, formation, unless_idle, busy, join_refusal, leave_refusal, last_refusal, make_refusal, drop_refusal, abort_refusal}
use Rattle.dr_model.specs.Messages.{Message, is_full}
use Rattle.dr_model.specs.MessagePlans.{full_refusal, old_refusal}
use Rattle.dr_model.specs.SessionPlans.{name_refusal, off_refusal, outside_refusal, master_refusal, place_refusal, taken_refusal, copy_refusal, exchange_refusal, phase_refusal, apart_refusal, is_idle}
use Rattle.dr_model.specs.RecoveryPlans.{untaken_refusal, forbidden_unless}
use Rattle.dr_model.specs.Listings.{listing_refusal}
use Rattle.dr_model.specs.Plans.{server_named, server_refusal, volume_refusal, is_foreign, track_refusal, issue_refusal, show_refusal, path_refusal, unpath_refusal, freeze_refusal, thaw_refusal, is_named, is_owner, release_refusal}

module _ (k : Control) where
  pub name-why : (dev : Option Name) (owner : ℕ) → NoneStops (name_refusal k dev owner)
  name-why dev owner = why-if NoStop (is_named dev owner k) None _ tt refl

  pub off-why : (s : ℕ) → NoneStops (off_refusal k s)
  off-why s = why-if NoStop (k.on s) None (Some (server_off s)) tt refl

  pub outside-why : (x : Session) (l : ℕ) → NoneStops (outside_refusal x l)
  outside-why x l = why-if NoStop (has_subsystem l x) None _ tt refl

  pub idle-why : (p : PhaseName) (reason : Option Refusal) → NoneStops reason → NoneStops (unless_idle p reason)
  idle-why phase.Idle reason why = tt
  idle-why p reason why = why

  pub busy-why : (m : Option Mirror) → NoneStops (busy m)
  busy-why None = tt
  busy-why (Some r) = idle-why r.master.phase (formation r) refl

  pub master-why : (m : Option Mirror) → NoneStops (master_refusal k m)
  master-why None = refl
  master-why (Some r) = off-why r.server

  pub join-why : (o : Option Session) (l : ℕ) → NoneStops (join_refusal o l k.sessions)
  join-why None l = why-if NoStop (nat_le 4 (length k.sessions)) _ None refl tt
  join-why (Some x) l = why-if NoStop (has_subsystem l x) _ None refl tt

  pub last-why : (m : Option Mirror) → NoneStops (last_refusal m)
  last-why None = tt
  last-why (Some r) = refl

  pub leave-why : (x : Session) (s l : ℕ) → NoneStops (leave_refusal (Some x) s l)
  leave-why x s l = why-if NoStop (not (has_subsystem l x)) _ _ refl (why-if NoStop (has_member_in l x) _ _ (session-why (Some x)) (why-if NoStop (is_only l x) _ None (last-why x.mirror) tt))

  pub make-why : (m : Option Mirror) → NoneStops (make_refusal m)
  make-why None = tt
  make-why (Some r) = refl

  pub drop-why : (m : Option Mirror) → NoneStops (drop_refusal m)
  drop-why None = refl
  drop-why (Some r) = idle-why r.master.phase (formation r) refl

  pub abort-why : (m : Option Mirror) → NoneStops (abort_refusal m)
  abort-why None = refl
  abort-why (Some r) = by r.master.phase (phases.aborted_phase r.master.phase)
    where
      by : (p : PhaseName) (o : Option PhaseName) → NoneStops (phases.refusal_unless p o)
      by p None = refl
      by p (Some q) = tt

  pub track-why : (v t : ℕ) → NoneStops (track_refusal k v t)
  track-why v t = why-if NoStop (not (is_volume k v)) _ _ refl (why-if NoStop (nat_lt t (k.volume v).tracks) None _ tt refl)

  pub issue-why : (v t : ℕ) → NoneStops (issue_refusal k v t)
  issue-why v t = why-or NoStop (track_refusal k v t) _ (track-why v t) (why-if NoStop (nat_le most_pending (length k.pending)) _ None refl tt)

  pub show-why : (v t : ℕ) → NoneStops (show_refusal k v t)
  show-why v t = why-or NoStop (track_refusal k v t) _ (track-why v t) (why-if NoStop (is_running v k) None (Some (server_off (k.volume v).server)) tt refl)

  pub server-why : (name : List ℕ) → NoneStops (server_refusal k name)
  server-why name = why-if NoStop (is_some (server_named k name)) _ _ refl (why-if NoStop (nat_le most_servers (length k.servers)) _ None refl tt)

  pub volume-why : (v s tracks : ℕ) → NoneStops (volume_refusal k v s tracks)
  volume-why v s tracks =
      why-if NoStop (is_volume k v) _ _ refl (why-if NoStop (is_foreign k (first_of k (subsystem v)) s) _ _ refl (why-if NoStop (nat_eq tracks 0 || nat_lt most_tracks tracks) _ _ refl (why-if NoStop (nat_le most_volumes (length k.volumes)) _ None refl tt)))

  pub copy-why : (a : ℕ) → NoneStops (copy_refusal k a)
  copy-why a =
      why-if NoStop (not (is_running a k)) (Some (server_off (k.volume a).server)) _ refl (why-if NoStop (not (is_kind Global (fields_at k a).primary)) (Some (pair_state k a)) _ refl (why-or NoStop (send_refusal a (fields_at k a).primary_partner k) _ (send-why a (fields_at k a).primary_partner k)
      (why-if NoStop (is_part (fields_at k (fields_at k a).primary_partner).primary) _ None refl tt)))

  pub taken-why : (x : Session) (a : ℕ) → NoneStops (taken_refusal k x a)
  taken-why x a = why-if NoStop (is_member a x) _ _ refl (why-or NoStop (in_session (find (is_member a) k.sessions)) _ (session-why (find (is_member a) k.sessions)) (busy-why x.mirror))

  pub phase-why : (r : Mirror) (server : ℕ) (ms : List Member) → NoneStops (phase_refusal r server ms)
  phase-why r server ms = why-if NoStop (is_idle r.master.phase) _ _
      (why-if NoStop (r.paused || not (list_any (λ m. m.server.0 == server) ms)) _ _ refl (why-if NoStop (r.master.number + 1 == 4294967296) _ None refl tt))
      (why-if NoStop (phases.is_among server r.master.owed) None (Some (OutOfOrder r.master.phase)) tt refl)

  pub apart-why : (s u : ℕ) → NoneStops (apart_refusal k s u)
  apart-why s u = why-if NoStop (nat_eq s u || k.link s u) None (Some (link_down s u)) tt refl

  pub full-why : NoneStops (full_refusal k.flight)
  full-why = why-if NoStop (is_full k.flight) _ None refl tt

  pub old-why : (m : Message) (current : Bool) → NoneStops (old_refusal m current)
  old-why m current = why-if NoStop current None (Some (OldMessage m.number)) tt refl

  pub exchange-why : (r : Mirror) (server : ℕ) (ms : List Member) → NoneStops (exchange_refusal k r server ms)
  exchange-why r server ms =
      why-or NoStop (off_refusal k r.server) _ (off-why r.server) (why-or NoStop (phase_refusal r server ms) _ (phase-why r server ms) (why-or NoStop (off_refusal k server) _ (off-why server) (apart-why r.server server)))

  pub place-why : (dev : Option Name) (owner l a : ℕ) → NoneStops (place_refusal k dev owner l a)
  place-why dev owner l a = why-if NoStop (not (nat_eq (subsystem a) l)) _ _ refl (name-why dev owner)

  pub untaken-why : (ms : List Member) → NoneStops (untaken_refusal ms k)
  untaken-why ms = by (find (λ m. is_part (fields_at k m.b.0).secondary) ms)
    where
      by : (o : Option Member) → NoneStops (option_map (λ m. pair_state k m.b.0) o)
      by None = tt
      by (Some m) = refl

  pub named-why : (devs : Devs) (s u : ℕ) (o : Option Refusal) → NoneStops o → NoneStops (cond (not (is_named devs.dev s k && is_named devs.remotedev u k)) (Some (unknown OfServer)) o)
  named-why devs s u o rest = why-if NoStop (not (is_named devs.dev s k && is_named devs.remotedev u k)) _ o refl rest

  pub path-why : (devs : Devs) (s u : ℕ) → NoneStops (path_refusal k devs s u)
  path-why devs s u = named-why devs s u _ (why-if NoStop (nat_eq s u) _ _ refl (why-if NoStop (not (k.on s)) (Some (server_off s)) _ refl (why-if NoStop (not (k.on u)) (Some (server_off u)) _ refl (why-if NoStop (not (k.link s u)) (Some (link_down s u)) None refl tt))))

  pub unpath-why : (devs : Devs) (src tgt s u : ℕ) (force : Bool) → NoneStops (unpath_refusal k devs src tgt s u force)
  unpath-why devs src tgt s u force =
      why-if NoStop (not (is_some (path_in k.paths src tgt))) _ _ refl (named-why devs s u _ (why-if NoStop (not (k.on s)) (Some (server_off s)) _ refl (why-if NoStop force None _ tt (by (first_active k src tgt)))))
    where
      by : (o : Option ℕ) → NoneStops (option_map (pair_state k) o)
      by None = tt
      by (Some v) = refl

  pub thaw-why : (devs : Devs) (s u : ℕ) → NoneStops (thaw_refusal k devs s u)
  thaw-why devs s u = named-why devs s u _ (why-if NoStop (not (k.on s)) (Some (server_off s)) None refl tt)

  pub release-why : (dev : Option Name) (s : ℕ) → NoneStops (release_refusal k dev s)
  release-why dev s = why-if NoStop (not (is_named dev s k)) _ _ refl (why-if NoStop (not (k.on s)) (Some (server_off s)) None refl tt)

  pub freeze-why : (devs : Devs) (l m s u : ℕ) → NoneStops (freeze_refusal k devs l m s u)
  freeze-why devs l m s u = why-if NoStop (not (is_some (path_in k.paths l m))) _ _ refl (thaw-why devs s u)

  pub listing-why : (dev : Option Name) (v : ℕ) → NoneStops (listing_refusal k dev v)
  listing-why dev v = why-if NoStop (not (is_volume k v)) _ _ refl (why-if NoStop (is_owner dev v k) None _ tt refl)

-- what a decision lets be done
pub not-forbidden : (b : Bool) (d : Decision) → forbidden_unless b d ≡ None → b ≡ true
not-forbidden true d h = refl
not-forbidden false d h = absurd cc
