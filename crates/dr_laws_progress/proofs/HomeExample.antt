-- The example of the way home, carried out up to its first line.
use Rattle.std.proofs.Common.{◌≡◌, inl, inr, refl, ap, true, [], ◌∷◌, None}
use Rattle.dr_ids.specs.declared.names.Member.{Member}
use Rattle.dr_ids.specs.declared.refusal.PairSeen.TheVariants.{TargetFullDuplex}
use Rattle.dr_ids.specs.declared.refusal.Refusal.TheVariants.{PairState}
use Rattle.dr_model.specs.declared.said.Addition.TheVariants.{Alone}
use Rattle.dr_model.specs.declared.said.Said.TheVariants.{Done, Refused}
use Rattle.dr_model.specs.Contents.{image}
use Rattle.dr_model.specs.Histories.{histories}
use Rattle.dr_model.specs.Decisions.{decision, decided}
use Rattle.dr_logic.specs.Bytes.{zeros}
use Rattle.dr_model.specs.Sessions.{changed}
use Rattle.dr_model.specs.Phases.{servers_where}
use Rattle.dr_model.specs.Carry.{act, carry, turn, update_keeping, stopped_at}
use Rattle.dr_model.specs.Entries.{is_running}
use Rattle.dr_model.specs.Groups.{In}
use Rattle.dr_model.specs.PairEntries.{leads_to, belongs_to, is_copying}
use Rattle.dr_model.specs.Runs.{after_plan, after_tasks, run}
use Rattle.dr_laws_sound.specs.Acknowledged.{said_in}
use Rattle.dr_laws_progress.specs.Home.{MayGoHome, AnswersThen, LeadsBack, LeadsHome, IsSuspended}
use Rattle.dr_laws_progress.specs.HomeExample.{two_sites, after_recovery, after_turn, after_pause, resume, three_sites, turn_cascaded, lines_home, its_member, its_session}
use Rattle.dr_laws_progress.proofs.HomeMembers.{member-goes-home}

pub added-leads : leads_to 4096 8192 (run two_sites).control ≡ true
unfolding after_tasks after_plan carry act turn update_keeping stopped_at image histories zeros changed servers_where
added-leads = refl

pub added-follows : belongs_to 4096 8192 (run two_sites).control ≡ true
unfolding after_tasks after_plan carry act turn update_keeping stopped_at image histories zeros changed servers_where
added-follows = refl

pub taken-leads : leads_to 4096 8192 (run after_recovery).control ≡ true
unfolding after_tasks after_plan carry act turn update_keeping stopped_at image histories zeros changed servers_where decision decided
taken-leads = refl

pub taken-back : leads_to 8192 4096 (run after_recovery).control ≡ true
unfolding after_tasks after_plan carry act turn update_keeping stopped_at image histories zeros changed servers_where decision decided
taken-back = refl

pub may : MayGoHome (run after_recovery).control 1 its_session its_member
unfolding after_tasks after_plan carry act turn update_keeping stopped_at image histories zeros changed servers_where decision decided
may = record {
  found = refl;
  here = inl refl;
  on = refl;
  secondaries = one;
  there = refl;
  back = refl;
  a_settled = refl;
  b_settled = refl;
  decided = tt;
  uncascaded = refl;
}
  where
    one : (q : Member) → In q (its_member ∷ []) → is_running q.b.0 (run after_recovery).control ≡ true
    one q (inl is) = ap (λ (r : Member). is_running r.b.0 (run after_recovery).control) is
    one q (inr none) = absurd none

pub first-says : said_in (run after_recovery) lines_home.turn ≡ Done Alone
unfolding after_tasks after_plan carry act turn update_keeping stopped_at image histories zeros changed servers_where decision decided
first-says = refl

pub turned-leads : leads_to 8192 4096 (run after_turn).control ≡ true
unfolding after_tasks after_plan carry act turn update_keeping stopped_at image histories zeros changed servers_where decision decided
turned-leads = refl

pub turned-follows : belongs_to 8192 4096 (run after_turn).control ≡ true
unfolding after_tasks after_plan carry act turn update_keeping stopped_at image histories zeros changed servers_where decision decided
turned-follows = refl

pub goes : LeadsHome (run after_recovery) (run after_recovery) 4096 8192 lines_home
goes = (member-goes-home after_recovery 1 its_session its_member may lines_home).all taken-leads taken-back

-- no fuse is armed on either server
pub unarmed : ((run after_recovery).control.fuse 0 ≡ None) × ((run after_recovery).control.fuse 1 ≡ None)
unfolding after_tasks after_plan carry act turn update_keeping stopped_at image histories zeros changed servers_where decision decided
unarmed = (refl, refl)

-- ---- the pair that is turned round, and as it is Suspended

pub may-turned : MayGoHome (run after_turn).control 1 its_session its_member
unfolding after_tasks after_plan carry act turn update_keeping stopped_at image histories zeros changed servers_where decision decided
may-turned = record {
  found = refl;
  here = inl refl;
  on = refl;
  secondaries = one;
  there = refl;
  back = refl;
  a_settled = refl;
  b_settled = refl;
  decided = tt;
  uncascaded = refl;
}
  where
    one : (q : Member) → In q (its_member ∷ []) → is_running q.b.0 (run after_turn).control ≡ true
    one q (inl is) = ap (λ (r : Member). is_running r.b.0 (run after_turn).control) is
    one q (inr none) = absurd none

pub turned-copies : is_copying 8192 (run after_turn).control ≡ true
unfolding after_tasks after_plan carry act turn update_keeping stopped_at image histories zeros changed servers_where decision decided
turned-copies = refl

pub goes-back : LeadsBack (run after_turn) (run after_turn) 4096 8192 lines_home
goes-back = (member-goes-home after_turn 1 its_session its_member may-turned lines_home).turned turned-follows turned-copies

pub may-paused : MayGoHome (run after_pause).control 1 its_session its_member
unfolding after_tasks after_plan carry act turn update_keeping stopped_at image histories zeros changed servers_where decision decided
may-paused = record {
  found = refl;
  here = inl refl;
  on = refl;
  secondaries = one;
  there = refl;
  back = refl;
  a_settled = refl;
  b_settled = refl;
  decided = tt;
  uncascaded = refl;
}
  where
    one : (q : Member) → In q (its_member ∷ []) → is_running q.b.0 (run after_pause).control ≡ true
    one q (inl is) = ap (λ (r : Member). is_running r.b.0 (run after_pause).control) is
    one q (inr none) = absurd none

paused-follows : belongs_to 8192 4096 (run after_pause).control ≡ true
unfolding after_tasks after_plan carry act turn update_keeping stopped_at image histories zeros changed servers_where decision decided
paused-follows = refl

pub paused : IsSuspended (run after_pause).control 8192
unfolding after_tasks after_plan carry act turn update_keeping stopped_at image histories zeros changed servers_where decision decided
paused = refl

pub goes-on : AnswersThen (run after_pause) (run after_pause) resume.task (Done Alone) (λ u. LeadsBack (run after_pause) u 4096 8192 lines_home)
goes-on = (member-goes-home after_pause 1 its_session its_member may-paused lines_home).suspended paused-follows paused resume

-- ---- a cascaded primary

pub cascaded-says : said_in (run three_sites) turn_cascaded ≡ Refused (PairState (record { 0 = 8192 }) TargetFullDuplex)
unfolding after_tasks after_plan carry act turn update_keeping stopped_at image histories zeros changed servers_where decision decided
cascaded-says = refl
