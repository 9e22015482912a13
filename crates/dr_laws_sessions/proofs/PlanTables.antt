-- What plans of lines on sessions make of the tables keeps the laws of sessions.
use Rattle.std.proofs.Common.{ℕ, ◌≡◌, refl, ap, ◌∙◌, Bool, nat_eq, option_map, true, false, cond, nat_lt, [], Option, None, Some}
use Rattle.std.specs.List.{find}
use Rattle.std.specs.Option.{option_or}
use Rattle.dr_ids.specs.declared.names.Member.{Member}
use Rattle.dr_ids.specs.declared.refusal.PhaseName.TheVariants as phase
use Rattle.dr_ids.specs.declared.refusal.Refusal.{Refusal}
use Rattle.dr_ids.specs.declared.refusal.Refusal.TheVariants.{Duplicate}
use Rattle.dr_ids.specs.declared.refusal.Kind.TheVariants.{Volume as OfVolume}
use Rattle.dr_model.specs.declared.step.Name.{Name}
use Rattle.dr_model.specs.Phases as phases
use Rattle.dr_model.specs.Control.{Control, is_volume}
use Rattle.dr_model.specs.declared.said.Said.TheVariants.{Done}
use Rattle.dr_model.specs.declared.said.Addition.TheVariants.{Alone}
use Rattle.dr_model.specs.PlanParts.{Plan, tables_plan, unless, on_owner, on_session, owner_of}
use Rattle.dr_model.specs.SessionEntries.{first_number, members_on}
use Rattle.dr_model.specs.Sessions.{Session, Mirror, session_in, is_member, has_place_of, changed, in_session, busy, leave_refusal, make_refusal, drop_refusal, abort_refusal, join_refusal, joined, left, mirrored_by, paused, with_master}
use Rattle.dr_model.specs.SessionPlans.{table_plan, says_phase, name_refusal, off_refusal, outside_refusal, master_refusal, join_plan, leave_plan, mirror_plan, pause_mirror_plan, unmirror_plan, abort_plan, aborting, answered_by, taken_refusal, add_done, expel_done, exchange_done}
use Rattle.dr_model.specs.Groups.{MemberStands, PlacesDiffer, Groups}
use Rattle.dr_model.specs.Entries.{subsystem, first_of}
use Rattle.dr_laws_sessions.specs.Frames.{ServerSilent}
use Rattle.std.proofs.lemmas.Bool.{eq-eqb}
use Rattle.std.proofs.lemmas.Option.{same_Some}
use Rattle.dr_facts.proofs.Lists.{found, any-some}
use Rattle.dr_laws_sessions.proofs.Frames.{groups-flight}
use Rattle.dr_laws_sessions.proofs.Tables.{groups-joined, groups-left, groups-mirrored, groups-paused, groups-unmirrored, groups-aborted, groups-answered}
use Rattle.dr_laws_sessions.proofs.Members.{groups-added, groups-removed}
use Rattle.dr_facts.proofs.Refusals.{none-both}
use Rattle.dr_facts.proofs.Sessions.{in-none}

pub no-maker : (o : Option Mirror) → make_refusal o ≡ None → o ≡ None
no-maker None h = refl
no-maker (Some r) h = absurd cc

unless-first : (k : Control) (o : Option Refusal) (p : Plan) → Groups k → (o ≡ None → Groups (p.first k)) → Groups ((unless o p).first k)
unless-first k None p groups go = go refl
unless-first k (Some r) p groups go = groups

owner-first : (k : Control) (o : Option ℕ) (plan : ℕ → Plan) → Groups k → ((s : ℕ) → Groups ((plan s).first k)) → Groups ((on_owner o plan).first k)
owner-first k None plan groups go = groups
owner-first k (Some s) plan groups go = go s

owner-found : (k : Control) (o : Option ℕ) (plan : ℕ → Plan) → Groups k → ((s : ℕ) → o ≡ Some s → Groups ((plan s).first k)) → Groups ((on_owner o plan).first k)
owner-found k None plan groups go = groups
owner-found k (Some s) plan groups go = go s refl

-- the server of a logical subsystem has a volume
pub record OwnedVolume (k : Control) (owner : ℕ) : Type 0 where
  pub volume : ℕ
  pub defined : is_volume k volume ≡ true
  pub server : (k.volume volume).server ≡ owner

pub owned-volume : (k : Control) (l owner : ℕ) → owner_of k l ≡ Some owner → OwnedVolume k owner
owned-volume k l owner is = by (first_of k l) refl is
  where
    by : (o : Option ℕ) → first_of k l ≡ o → option_map (λ v. (k.volume v).server) o ≡ Some owner → OwnedVolume k owner
    by None none e = absurd cc
    by (Some v) some e = record { volume = v; defined = any-some (nat_eq v) k.volumes v (found (λ v. nat_eq (subsystem v) l) k.volumes v some).0 (eq-eqb v v refl); server = (same_Some _ _ e) }

session-first : (k : Control) (o : Option Session) (plan : Session → Plan) → Groups k → ((x : Session) → o ≡ Some x → Groups ((plan x).first k)) → Groups ((on_session o plan).first k)
session-first k None plan groups go = groups
session-first k (Some x) plan groups go = go x refl

pub joins-first : (k : Control) (dev : Option Name) (l s : ℕ) → Groups k → Groups ((join_plan k dev l s).first k)
joins-first k dev l s groups = owner-first k (owner_of k l) _ groups (λ owner.
    unless-first k (option_or (name_refusal k dev owner) (option_or (off_refusal k owner) (join_refusal (session_in k.sessions s) l k.sessions))) (table_plan (joined s l)) groups (λ none. groups-joined k s l groups))

pub leaves-first : (k : Control) (dev : Option Name) (l s : ℕ) → Groups k → Groups ((leave_plan k dev l s).first k)
leaves-first k dev l s groups = owner-first k (owner_of k l) _ groups (λ owner. session-first k (session_in k.sessions s) _ groups (λ x found. unless-first k _ _ groups (λ none.
    groups-flight (record k { sessions = left s l k.sessions }) _ (groups-left k s l x groups found (none-both (name_refusal k dev owner) (leave_refusal (Some x) s l) none).1))))

pub mirrors-first : (k : Control) (dev : Option Name) (l s : ℕ) → Groups k → Groups ((mirror_plan k dev l s).first k)
mirrors-first k dev l s groups = owner-found k (owner_of k l) _ groups (λ owner owned. session-first k (session_in k.sessions s) _ groups (λ x found. unless-first k _ _ groups (λ none.
    let at = owned-volume k l owner owned in
    groups-flight (record k { sessions = changed s (mirrored_by owner) k.sessions }) _ (groups-mirrored k s owner x groups found (no-maker x.mirror
    (none-both (off_refusal k owner) (make_refusal x.mirror) (none-both (outside_refusal x l) _ (none-both (name_refusal k dev owner) _ none).1).1).1) at.volume at.defined at.server))))

pub pauses-first : (k : Control) (dev : Option Name) (l s : ℕ) (on : Bool) → Groups k → Groups ((pause_mirror_plan k dev l s on).first k)
pauses-first k dev l s on groups = owner-first k (owner_of k l) _ groups (λ owner. session-first k (session_in k.sessions s) _ groups (λ x found.
    unless-first k (option_or (name_refusal k dev owner) (option_or (outside_refusal x l) (master_refusal k x.mirror))) (table_plan (changed s (paused on))) groups (λ none. groups-paused k s on groups)))

pub unmirrors-first : (k : Control) (dev : Option Name) (l s : ℕ) → Groups k → Groups ((unmirror_plan k dev l s).first k)
unmirrors-first k dev l s groups = owner-found k (owner_of k l) _ groups (λ owner owned. session-first k (session_in k.sessions s) _ groups (λ x found. unless-first k _ _ groups (λ none.
    groups-unmirrored k s x groups found
    (none-both (master_refusal k x.mirror) (drop_refusal x.mirror) (none-both (outside_refusal x l) _ (none-both (name_refusal k dev owner) _ none).1).1).1)))

pub aborts-first : (k : Control) (s : ℕ) → Groups k → Groups ((abort_plan k s).first k)
aborts-first k s groups = session-first k (session_in k.sessions s) _ groups (λ x found.
    unless-first k (option_or (abort_refusal x.mirror) (master_refusal k x.mirror)) (record (tables_plan (aborting s x.mirror) [] (Done Alone)) { says = says_phase s }) groups (λ none.
    groups-flight (record k { sessions = changed s (with_master phases.aborted) k.sessions }) _ (groups-aborted k s groups)))

-- ---- as a step ends, whose acts left the sessions

unless-last : (j : Control) (o : Option Refusal) (p : Plan) → Groups j → (o ≡ None → Groups (p.last j)) → Groups ((unless o p).last j)
unless-last j None p groups go = go refl
unless-last j (Some r) p groups go = groups

-- a member may be added only to a session without an attempt
pub taken-quiet : (k : Control) (x : Session) (a : ℕ) → taken_refusal k x a ≡ None → busy x.mirror ≡ None
taken-quiet k x a h = by (is_member a x) h
  where
    by : (b : Bool) → cond b (Some (Duplicate OfVolume)) (option_or (in_session (find (is_member a) k.sessions)) (busy x.mirror)) ≡ None → busy x.mirror ≡ None
    by true h = absurd cc
    by false h = (none-both (in_session (find (is_member a) k.sessions)) (busy x.mirror) h).1

pub adds-last : (k j : Control) (s : ℕ) (x : Session) (m : Member) → j.sessions ≡ k.sessions → session_in k.sessions s ≡ Some x → busy x.mirror ≡ None → nat_lt m.server.0 8 ≡ true → MemberStands j m → PlacesDiffer m → Groups j → Groups ((add_done k s x m).last j)
adds-last k j s x m same found idle low stands differ groups = unless-last j (in_session (find (has_place_of m) k.sessions)) _ groups (λ none.
    groups-added j s (first_number k x.last m) x m groups (ap (λ ss. session_in ss s) same ∙ found) idle low stands differ (ap (λ ss. find (has_place_of m) ss) same ∙ in-none (find (has_place_of m) k.sessions) none))

pub expels-last : (k j : Control) (s : ℕ) (x : Session) (m : Member) → j.sessions ≡ k.sessions → session_in k.sessions s ≡ Some x → busy x.mirror ≡ None → Groups j → Groups ((expel_done k s m).last j)
expels-last k j s x m same found idle groups = unless-last j (off_refusal k (k.volume m.c.0).server) _ groups (λ none. groups-removed j s m.a.0 x groups (ap (λ ss. session_in ss s) same ∙ found) idle)

pub exchanges-last : (j : Control) (s server : ℕ) (reply : Bool) (o : Option phases.Order) (x : Session) → session_in j.sessions s ≡ Some x → ((r : Mirror) → x.mirror ≡ Some r → r.master.phase ≡ phase.Finishing → ServerSilent j x server)
    → ((q : phases.Order) → o ≡ Some q → q.work ≡ phases.Report → (r : Mirror) → x.mirror ≡ Some r → phases.is_among server r.master.owed ≡ true)
    → Groups j → Groups ((exchange_done s server reply (members_on server x.members) o).last j)
exchanges-last j s server reply None x found silent owes groups = groups
exchanges-last j s server true (Some o) x found silent owes groups = groups-flight (answered_by s server o.work (members_on server x.members) j) _ (groups-answered j s server o.work x groups found silent (owes o refl))
exchanges-last j s server false (Some o) x found silent owes groups = groups-flight j _ groups
