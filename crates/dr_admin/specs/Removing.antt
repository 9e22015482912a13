-- Removing a member, as the step table says it, by cases.
use Rattle.std.specs.Prelude.{◌≡◌, ℕ, ◌==◌, true, List, [], Option, Some, None, is_some}
use Rattle.std.specs.List.{find}
use Rattle.std.specs.Option.{option_or}
use Rattle.dr_ids.specs.declared.names.Member.{Member}
use Rattle.dr_ids.specs.declared.refusal.Refusal.{Refusal}
use Rattle.dr_config.specs.Table.{ConfigTable, place_of}
use Rattle.dr_model.specs.declared.said.Addition.TheVariants.{Alone}
use Rattle.dr_model.specs.declared.said.Said.TheVariants.{Done}
use Rattle.dr_model.specs.Control.{Control}
use Rattle.dr_model.specs.Sessions.{Session, members_in, mirror_in, changed, without_member, not_in_session, busy}
use Rattle.dr_model.specs.Carry.{Entry}
use Rattle.dr_model.specs.SessionEntries.{expel_entries}
use Rattle.dr_model.specs.PlanParts.{Plan, same, none_follow, always, unless}
use Rattle.dr_model.specs.SessionPlans.{off_refusal, with_sessions, expel_found}

-- the member of a session whose primary is a
abbrev pub member_in : ℕ → Option Session → Option Member
member_in a x = find (λ (m : Member). m.a.0 == a) (members_in x)

-- its target is in the configuration
abbrev pub TargetDefined : ConfigTable → Option Member → Type 0
TargetDefined t None = Unit {0}
TargetDefined t (Some m) = is_some (place_of t m.c.0) ≡ true

-- Why that member of session s isn't removed: there is none, a master isn't Idle, or the server of its target is off.
abbrev pub expel_refusal : Control → ℕ → Option Session → Option Member → Option Refusal
expel_refusal k s x None = not_in_session s
expel_refusal k s x (Some m) = option_or (busy (mirror_in x)) (off_refusal k (k.volume m.c.0).server)

-- what is done where it isn't refused, and the sessions then
abbrev pub entries_without : ℕ → Option Member → List Entry
entries_without s None = []
entries_without s (Some m) = expel_entries s m

-- what becomes of the sessions: the member is gone
abbrev pub sessions_without : ℕ → Option Member → List Session → List Session
sessions_without s None ss = ss
sessions_without s (Some m) ss = changed s (without_member m.a.0) ss

-- the plan then
abbrev pub plan_without : ℕ → Option Member → Plan
plan_without s m = record {
  first = same;
  told = [];
  entries = entries_without s m;
  follows = none_follow;
  last = with_sessions (sessions_without s m);
  says = always (Done Alone);
}

-- The plan that the step table has, once the name was looked at, is refused for that, and else is that one.
abbrev pub ExpelsSo : Control → ℕ → Option Session → ℕ → Type 0
ExpelsSo k s None a = Unit {0}
ExpelsSo k s (Some x) a =
    expel_found k s x (member_in a (Some x)) ≡ unless (expel_refusal k s (Some x) (member_in a (Some x))) (plan_without s (member_in a (Some x)))
