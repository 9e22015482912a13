-- What plans of lines on sessions make of the tables keeps the laws of attempts.
use Rattle.std.proofs.Common.{ℕ, max, ◌≡◌, ◌≢◌, ◌≤◌, ap, ◌∙◌, refl, Bool, true, false, [], Option, None, Some}
use Rattle.std.specs.List.{find}
use Rattle.std.specs.Option.{option_or}
use Rattle.dr_ids.specs.declared.names.Member.{Member}
use Rattle.dr_ids.specs.declared.refusal.PhaseName.TheVariants as phase
use Rattle.dr_ids.specs.declared.refusal.Refusal.{Refusal}
use Rattle.dr_model.specs.declared.step.Name.{Name}
use Rattle.dr_model.specs.Phases as phases
use Rattle.dr_model.specs.Control.{Control}
use Rattle.dr_model.specs.declared.said.Said.TheVariants.{Done}
use Rattle.dr_model.specs.declared.said.Addition.TheVariants.{Alone}
use Rattle.dr_model.specs.PlanParts.{Plan, tables_plan, unless, on_owner, on_session, owner_of}
use Rattle.dr_model.specs.Entries.{fields_at}
use Rattle.dr_model.specs.SessionEntries.{first_number, members_on}
use Rattle.dr_model.specs.Sessions.{Session, Mirror, session_in, has_place_of, has_subsystem, subsystem_of, changed, in_session, busy, leave_refusal, make_refusal, drop_refusal, abort_refusal, join_refusal, joined, paused}
use Rattle.dr_model.specs.SessionPlans.{table_plan, says_phase, name_refusal, off_refusal, outside_refusal, master_refusal, join_plan, leave_plan, mirror_plan, pause_mirror_plan, unmirror_plan, abort_plan, aborting, add_done, expel_done, exchange_done}
use Rattle.dr_model.specs.Groups.{In, Groups}
use Rattle.dr_model.specs.Attempts.{Attempts, ServerDone}
use Rattle.dr_laws_sessions.proofs.PlanTables.{no-maker}
use Rattle.dr_laws_attempts.proofs.Tables.{with-joined, with-left, with-mirrored, with-paused, with-unmirrored, with-aborted, with-answered}
use Rattle.dr_laws_attempts.proofs.Members.{raised-low, attempts-added, attempts-removed}
use Rattle.dr_facts.proofs.Refusals.{none-both}
use Rattle.dr_facts.proofs.Sessions.{in-none}

-- ---- as a step begins

unless-first : (k : Control) (o : Option Refusal) (p : Plan) → Attempts k → (o ≡ None → Attempts (p.first k)) → Attempts ((unless o p).first k)
unless-first k None p law go = go refl
unless-first k (Some r) p law go = law

owner-first : (k : Control) (o : Option ℕ) (plan : ℕ → Plan) → Attempts k → ((s : ℕ) → Attempts ((plan s).first k)) → Attempts ((on_owner o plan).first k)
owner-first k None plan law go = law
owner-first k (Some s) plan law go = go s

session-first : (k : Control) (o : Option Session) (plan : Session → Plan) → Attempts k → ((x : Session) → o ≡ Some x → Attempts ((plan x).first k)) → Attempts ((on_session o plan).first k)
session-first k None plan law go = law
session-first k (Some x) plan law go = go x refl

module _ (k : Control) (groups : Groups k) (law : Attempts k) where
  pub joins-first : (dev : Option Name) (l s : ℕ) → Attempts ((join_plan k dev l s).first k)
  joins-first dev l s = owner-first k (owner_of k l) _ law (λ owner.
      unless-first k (option_or (name_refusal k dev owner) (option_or (off_refusal k owner) (join_refusal (session_in k.sessions s) l k.sessions))) (table_plan (joined s l)) law (λ none. with-joined k groups law s l))

  pub leaves-first : (dev : Option Name) (l s : ℕ) → Attempts ((leave_plan k dev l s).first k)
  leaves-first dev l s = owner-first k (owner_of k l) _ law (λ owner. session-first k (session_in k.sessions s) _ law (λ x found. unless-first k _ _ law (λ none.
      with-left k groups law s l x found (none-both (name_refusal k dev owner) (leave_refusal (Some x) s l) none).1)))

  pub mirrors-first : (dev : Option Name) (l s : ℕ) → Attempts ((mirror_plan k dev l s).first k)
  mirrors-first dev l s = owner-first k (owner_of k l) _ law (λ owner. session-first k (session_in k.sessions s) _ law (λ x found. unless-first k _ _ law (λ none.
      with-mirrored k groups law s owner x found (no-maker x.mirror
      (none-both (off_refusal k owner) (make_refusal x.mirror) (none-both (outside_refusal x l) _ (none-both (name_refusal k dev owner) _ none).1).1).1))))

  pub pauses-first : (dev : Option Name) (l s : ℕ) (on : Bool) → Attempts ((pause_mirror_plan k dev l s on).first k)
  pauses-first dev l s on = owner-first k (owner_of k l) _ law (λ owner. session-first k (session_in k.sessions s) _ law (λ x found.
      unless-first k (option_or (name_refusal k dev owner) (option_or (outside_refusal x l) (master_refusal k x.mirror))) (table_plan (changed s (paused on))) law (λ none. with-paused k groups law s on)))

  pub unmirrors-first : (dev : Option Name) (l s : ℕ) → Attempts ((unmirror_plan k dev l s).first k)
  unmirrors-first dev l s = owner-first k (owner_of k l) _ law (λ owner. session-first k (session_in k.sessions s) _ law (λ x found. unless-first k _ _ law (λ none.
      with-unmirrored k groups law s x found
      (none-both (master_refusal k x.mirror) (drop_refusal x.mirror) (none-both (outside_refusal x l) _ (none-both (name_refusal k dev owner) _ none).1).1).1)))

  pub aborts-first : (s : ℕ) → Attempts ((abort_plan k s).first k)
  aborts-first s = session-first k (session_in k.sessions s) _ law (λ x found.
      unless-first k (option_or (abort_refusal x.mirror) (master_refusal k x.mirror)) (record (tables_plan (aborting s x.mirror) [] (Done Alone)) { says = says_phase s }) law (λ none. with-aborted k groups law s))

-- ---- as it ends

unless-last : (j : Control) (o : Option Refusal) (p : Plan) → Attempts j → (o ≡ None → Attempts (p.last j)) → Attempts ((unless o p).last j)
unless-last j None p law go = go refl
unless-last j (Some r) p law go = law

pub adds-last : (k j : Control) (s : ℕ) (x : Session) (m : Member) → j.sessions ≡ k.sessions → session_in k.sessions s ≡ Some x → busy x.mirror ≡ None → has_subsystem (subsystem_of m.a.0) x ≡ true
    → (fields_at j m.a.0).attempt ≤ first_number k x.last m → (fields_at j m.b.0).seal ≤ first_number k x.last m → (fields_at j m.c.0).floor ≤ first_number k x.last m → first_number k x.last m ≤ (fields_at j m.a.0).attempt → first_number k x.last m ≤ (fields_at j m.c.0).floor → Groups j → Attempts j → Attempts ((add_done k s x m).last j)
adds-last k j s x m same found idle lies attempt seal floor held past groups law = unless-last j (in_session (find (has_place_of m) k.sessions)) _ law (λ none.
    attempts-added j s (first_number k x.last m) x m groups law (ap (λ ss. session_in ss s) same ∙ found) idle (ap (λ ss. find (has_place_of m) ss) same ∙ in-none (find (has_place_of m) k.sessions) none) lies attempt seal floor (above (fields_at j m.a.0).attempt held) (above (fields_at j m.c.0).floor past))
  where
    -- the last number isn't above the first one of the new member
    above : (q : ℕ) → first_number k x.last m ≤ q → max x.last (first_number k x.last m) ≤ q
    above q low = raised-low x.last _ q low

pub expels-last : (k j : Control) (s : ℕ) (x : Session) (m : Member) → j.sessions ≡ k.sessions → session_in k.sessions s ≡ Some x → busy x.mirror ≡ None → ((q : Member) → In q x.members → q.a.0 ≡ m.a.0 → (fields_at j q.c.0).member ≡ false) → Groups j → Attempts j → Attempts ((expel_done k s m).last j)
expels-last k j s x m same found idle gone groups law = unless-last j (off_refusal k (k.volume m.c.0).server) _ law (λ none. attempts-removed j s m.a.0 x groups law (ap (λ ss. session_in ss s) same ∙ found) idle gone)

pub exchanges-last : (j : Control) (s server : ℕ) (reply : Bool) (o : Option phases.Order) (x : Session) → session_in j.sessions s ≡ Some x
    → ((w : phases.Order) → o ≡ Some w → w.work ≡ phases.Report → (r : Mirror) → x.mirror ≡ Some r → r.master.phase ≡ phase.Lost) → ((w : phases.Order) → o ≡ Some w → w.work ≢ phases.Report → ServerDone j x server)
    → Groups j → Attempts j → Attempts ((exchange_done s server reply (members_on server x.members) o).last j)
exchanges-last j s server reply None x found lost done groups law = law
exchanges-last j s server true (Some o) x found lost done groups law = with-answered j s server o.work x groups law found (lost o refl) (done o refl)
exchanges-last j s server false (Some o) x found lost done groups law = law
