-- The examples of attempts that come to Idle, carried out.
use Rattle.std.proofs.Common.{◌≡◌, inl, inr, refl, ap, sym, ◌∙◌, subst, true, [], ◌∷◌, Some, None}
use Rattle.std.proofs.lemmas.Option.{same_Some}
use Rattle.dr_logic.specs.Bytes.{zeros}
use Rattle.dr_ids.specs.declared.names.Member.{Member}
use Rattle.dr_ids.specs.declared.refusal.PhaseName.TheVariants as phase
use Rattle.dr_model.specs.Contents.{image}
use Rattle.dr_model.specs.Decisions.{decided, decision}
use Rattle.dr_model.specs.Histories.{histories}
use Rattle.dr_model.specs.Sessions.{Mirror, changed, mirror_in}
use Rattle.dr_model.specs.Phases.{servers_where, aborted_phase}
use Rattle.dr_model.specs.Plans.{has_room}
use Rattle.dr_model.specs.Carry.{act, carry, redo, turn, update_keeping, stopped_at}
use Rattle.dr_model.specs.Forming.{phase_in}
use Rattle.dr_model.specs.Runs.{after_plan, after_tasks, run}
use Rattle.dr_model.specs.Groups.{In}
use Rattle.dr_model.specs.PairEntries.{send_refusal}
use Rattle.dr_model.specs.SessionPlans.{apart_refusal}
use Rattle.dr_laws_sites.specs.Example.{named}
use Rattle.dr_laws_progress.specs.ToIdle.{is_ending, CanEnd, AllAskOwed, LeadsOn, GivesUp}
use Rattle.dr_laws_progress.proofs.ToIdle.{leads-to-idle}
use Rattle.dr_laws_progress.proofs.GivenUp.{aborts-lead-on}
use Rattle.dr_laws_examples.specs.Orders.{loses, asks, the_member, settled_session}
use Rattle.dr_laws_examples.specs.ToIdle.{three, begins, gives_up, master_in_phase}

-- ---- a lost master

near : (m : Member) → In m (the_member ∷ []) → ((run loses).control.on m.server.0 ≡ true) × (apart_refusal (run loses).control 1 m.server.0 ≡ None)
unfolding decided decision zeros after_tasks after_plan carry act redo turn update_keeping stopped_at image histories changed servers_where
near m (inl is) = subst (λ (m : Member). ((run loses).control.on m.server.0 ≡ true) × (apart_refusal (run loses).control 1 m.server.0 ≡ None)) (sym is) (refl, refl)
near m (inr none) = absurd none

sends : (m : Member) → In m (the_member ∷ []) → send_refusal m.a.0 m.b.0 (run loses).control ≡ None
unfolding decided decision zeros after_tasks after_plan carry act redo turn update_keeping stopped_at image histories changed servers_where
sends m (inl is) = subst (λ (m : Member). send_refusal m.a.0 m.b.0 (run loses).control ≡ None) (sym is) refl
sends m (inr none) = absurd none

pub ends : CanEnd (run loses).control 1
unfolding decided decision zeros after_tasks after_plan carry act redo turn update_keeping stopped_at image histories changed servers_where
ends = record {
  session = record settled_session { mirror = Some (master_in_phase phase.Lost) };
  found = refl;
  mirror = master_in_phase phase.Lost;
  has_master = refl;
  master_on = refl;
  servers = near;
  secondaries = λ asks. sends;
}

pub asked : AllAskOwed (run loses) three 1
unfolding decided decision zeros after_tasks after_plan carry act redo turn update_keeping stopped_at image histories changed servers_where
asked = (
  record { name = named 65; asked = refl; server = 0; named = refl; mirror = master_in_phase phase.Lost; has_master = refl; ending = refl; owed = refl; room = refl; kept = λ q e. cc },
  (record { name = named 65; asked = refl; server = 0; named = refl; mirror = master_in_phase phase.Reverting; has_master = refl; ending = refl; owed = refl; room = refl; kept = λ q e. cc }, (record { name = named 65; asked = refl; server = 0; named = refl; mirror = master_in_phase phase.Finishing; has_master = refl; ending = refl; owed = refl; room = refl; kept = λ q e. cc }, tt)),
)

master-is : (c : CanEnd (run loses).control 1) → c.mirror ≡ master_in_phase phase.Lost
unfolding decided decision zeros after_tasks after_plan carry act redo turn update_keeping stopped_at image histories changed servers_where
master-is c = same_Some _ _ (sym (ap mirror_in c.found ∙ c.has_master))

pub leads : LeadsOn (run loses) three 1 (master_in_phase phase.Lost).master
leads = subst (λ (r : Mirror). LeadsOn (run loses) three 1 r.master) (master-is ends) (leads-to-idle loses 1 three ends (ap (λ (r : Mirror). is_ending r.master.phase) (master-is ends)) asked)

pub idle : phase_in (after_tasks (run loses) three).control 1 ≡ phase.Idle
unfolding decided decision zeros after_tasks after_plan carry act redo turn update_keeping stopped_at image histories changed servers_where
idle = refl

-- ---- an attempt that is given up

near-begun : (m : Member) → In m (the_member ∷ []) → ((run begins).control.on m.server.0 ≡ true) × (apart_refusal (run begins).control 1 m.server.0 ≡ None)
unfolding decided decision zeros after_tasks after_plan carry act redo turn update_keeping stopped_at image histories changed servers_where
near-begun m (inl is) = subst (λ (m : Member). ((run begins).control.on m.server.0 ≡ true) × (apart_refusal (run begins).control 1 m.server.0 ≡ None)) (sym is) (refl, refl)
near-begun m (inr none) = absurd none

pub can_give_up : CanEnd (run begins).control 1
unfolding decided decision zeros after_tasks after_plan carry act redo turn update_keeping stopped_at image histories changed servers_where
can_give_up = record {
  session = record settled_session { mirror = Some (master_in_phase phase.Releasing) };
  found = refl;
  mirror = master_in_phase phase.Releasing;
  has_master = refl;
  master_on = refl;
  servers = near-begun;
  secondaries = λ asks. absurd cc;
}

room : has_room (run begins).events ≡ true
unfolding decided decision zeros after_tasks after_plan carry act redo turn update_keeping stopped_at image histories changed servers_where
room = refl

begun-is : (c : CanEnd (run begins).control 1) → c.mirror ≡ master_in_phase phase.Releasing
unfolding decided decision zeros after_tasks after_plan carry act redo turn update_keeping stopped_at image histories changed servers_where
begun-is c = same_Some _ _ (sym (ap mirror_in c.found ∙ c.has_master))

pub given_up : (c : CanEnd (run begins).control 1) → GivesUp (run begins) gives_up 1 c phase.Finishing
given_up c = aborts-lead-on begins gives_up 1 phase.Finishing refl room c (ap (λ (r : Mirror). aborted_phase r.master.phase) (begun-is c))

pub idle_again : phase_in (after_tasks (run begins) (gives_up ∷ asks ∷ [])).control 1 ≡ phase.Idle
unfolding decided decision zeros after_tasks after_plan carry act redo turn update_keeping stopped_at image histories changed servers_where
idle_again = refl
