-- If groups can be formed, nothing but what the attempt asks refuses an exchange; and an example of that.
use Rattle.std.proofs.Common.{ℕ, ◌≡◌, inl, inr, refl, ap, sym, ◌∙◌, subst, Bool, true, false, cond, List, [], ◌∷◌, Option, Some, None}
use Rattle.std.specs.Option.{option_or}
use Rattle.dr_logic.specs.Bytes.{zeros}
use Rattle.dr_ids.specs.declared.names.Member.{Member}
use Rattle.dr_ids.specs.declared.refusal.PhaseName.{PhaseName}
use Rattle.dr_ids.specs.declared.refusal.PhaseName.TheVariants as phase
use Rattle.dr_ids.specs.declared.refusal.Refusal.{Refusal}
use Rattle.dr_model.specs.Refusals.{server_off}
use Rattle.dr_model.specs.Contents.{image}
use Rattle.dr_model.specs.Histories.{histories}
use Rattle.dr_model.specs.Control.{Control}
use Rattle.dr_model.specs.Sessions.{changed}
use Rattle.dr_model.specs.Phases.{servers_where}
use Rattle.dr_model.specs.Carry.{act, carry, turn, update_keeping, stopped_at}
use Rattle.dr_model.specs.Entries.{pair_state, secondary_state}
use Rattle.dr_model.specs.PairEntries.{send_refusal}
use Rattle.dr_model.specs.SessionEntries.{hold_refusal, void_refusal, seal_refusal, is_drained, is_on, members_on}
use Rattle.dr_model.specs.SessionPlans.{apart_refusal, exchange_refusal}
use Rattle.dr_model.specs.Groups.{In}
use Rattle.dr_model.specs.Runs.{Task, after_plan, after_tasks, run}
use Rattle.dr_facts.proofs.Lists.{from-filter}
use Rattle.dr_laws_sessions.proofs.Changes.{session-found}
use Rattle.dr_laws_sound.proofs.Steps.{sound-run}
use Rattle.dr_laws_progress.specs.Exchanges.{member_refusal, first_refusal, asking_refusal}
use Rattle.dr_laws_progress.specs.CanForm.{MemberForms, CanForm, attempt_refusal, first_in_attempt, RefusedByAttempt}
use Rattle.dr_laws_progress.specs.HomeExample.{its_member}
use Rattle.dr_laws_progress.specs.CanFormExample.{held_once, its_mirror, begun_session}

-- ---- a member

module _ (k : Control) (m : Member) (forms : MemberForms k m) where
  held : hold_refusal m.a.0 m.b.0 k ≡ None
  held = ap (λ b. cond b None (Some (pair_state k m.a.0))) forms.place.leads

  sends : send_refusal m.a.0 m.b.0 k ≡ None
  sends = λ i. option_or (forms.reached.there i) (cond (forms.place.follows i) None (Some (secondary_state k m.b.0)))

  seals : seal_refusal m.a.0 m.b.0 k ≡ None
  seals = by (is_drained m.a.0 k)
    where
      by : (b : Bool) → cond b (send_refusal m.a.0 m.b.0 k) None ≡ None
      by true = sends
      by false = refl

  with-none : (o : Option Refusal) → option_or o None ≡ o
  with-none None = refl
  with-none (Some r) = refl

  by-attempt : (p : PhaseName) (n : ℕ) → member_refusal p n m k ≡ attempt_refusal p n m k
  by-attempt phase.Idle n = held
  by-attempt phase.Coordinating n = ap (λ o. option_or o (attempt_refusal phase.Coordinating n m k)) held
  by-attempt phase.Releasing n = refl
  by-attempt phase.Draining n = ap (option_or (void_refusal m.a.0 n k)) seals ∙ with-none (void_refusal m.a.0 n k)
  by-attempt phase.Flashing n = ap (λ o. option_or o (attempt_refusal phase.Flashing n m k)) sends
  by-attempt phase.Committing n = ap (λ o. option_or o (attempt_refusal phase.Committing n m k)) sends
  by-attempt phase.Lost n = forms.reached.there
  by-attempt phase.Reverting n = sends
  by-attempt phase.Finishing n = refl
  by-attempt phase.None n = refl

first-by-attempt : (k : Control) (p : PhaseName) (n : ℕ) (ms : List Member) → ((m : Member) → In m ms → MemberForms k m) → first_refusal p n ms k ≡ first_in_attempt p n ms k
first-by-attempt k p n [] forms = refl
first-by-attempt k p n (m ∷ ms) forms = λ i. option_or (by-attempt k m (forms m (inl refl)) p n i) (first-by-attempt k p n ms (λ q here. forms q (inr here)) i)

-- ---- an exchange

pub refused-by-attempt : (tasks : List Task) → RefusedByAttempt tasks
refused-by-attempt tasks s c m here may = λ i. option_or (free i) (first-by-attempt k c.mirror.master.phase c.mirror.master.number (members_on m.server.0 c.session.members) (λ q h. c.members q (from-filter (is_on m.server.0) c.session.members q h).0) i)
  where
    k : Control
    k = (run tasks).control

    -- the member's server is that of its primary
    on : k.on m.server.0 ≡ true
    on = ap k.on (((sound-run tasks).groups.each c.session (session-found k.sessions s c.session c.found).0).stands m here).server ∙ (c.members m here).reached.primary

    free : exchange_refusal k c.mirror m.server.0 c.session.members ≡ None
    free = λ i. option_or (cond (c.master_on i) None (Some (server_off c.mirror.server))) (option_or (may i) (option_or (cond (on i) None (Some (server_off m.server.0))) (c.linked m here i)))

-- ---- the example

pub forms : CanForm (run held_once).control 1
unfolding after_tasks after_plan carry act turn update_keeping stopped_at image histories zeros changed servers_where
forms = record {
  session = begun_session;
  found = refl;
  mirror = its_mirror;
  has_master = refl;
  some = λ none. cc;
  master_on = refl;
  linked = near;
  members = one;
}
  where
    near : (m : Member) → In m (its_member ∷ []) → apart_refusal (run held_once).control 0 m.server.0 ≡ None
    near m (inl is) = ap (λ (m : Member). apart_refusal (run held_once).control 0 m.server.0) is
    near m (inr none) = absurd none

    own : MemberForms (run held_once).control its_member
    own = record {
      reached = record { primary = refl; secondary = refl; target = refl; there = refl };
      place = record { leads = refl; follows = refl };
      target = record { copies = refl; recorded = refl; inhibited = refl; forward = refl };
    }

    one : (m : Member) → In m (its_member ∷ []) → MemberForms (run held_once).control m
    one m (inl is) = subst (MemberForms (run held_once).control) (sym is) own
    one m (inr none) = absurd none

pub free : asking_refusal (run held_once).control begun_session its_mirror 0 ≡ None
unfolding after_tasks after_plan carry act turn update_keeping stopped_at image histories zeros changed servers_where
free = refl
