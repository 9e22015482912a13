-- Adding a member, as the step table says it, by cases: why it is refused, what it does, and what becomes of the sessions.
use Rattle.std.specs.Prelude.{◌≡◌, ℕ, List, [], Option, Some, None, option_map, if◌then◌else◌}
use Rattle.std.specs.List.{find}
use Rattle.std.specs.Option.{option_or}
use Rattle.dr_ids.specs.declared.names.Member.{Member}
use Rattle.dr_ids.specs.declared.refusal.Refusal.{Refusal}
use Rattle.dr_ids.specs.declared.refusal.Refusal.TheVariants.{Duplicate, Stopped}
use Rattle.dr_ids.specs.declared.refusal.Kind.TheVariants.{Volume as OfVolume}
use Rattle.dr_model.specs.declared.said.Addition.TheVariants.{Alone}
use Rattle.dr_model.specs.declared.said.Said.TheVariants.{Done}
use Rattle.dr_model.specs.Control.{Control}
use Rattle.dr_model.specs.Sessions.{Session, is_member, has_place_of, changed, raised, with_member, in_session, busy}
use Rattle.dr_model.specs.Carry.{Entry}
use Rattle.dr_model.specs.Entries.{fields_at, relation_state}
use Rattle.dr_model.specs.PlanParts.{Plan, same, none_follow, always, unless}
use Rattle.dr_model.specs.SessionEntries.{first_number, add_entries}
use Rattle.dr_model.specs.SessionPlans.{outside_refusal, copy_refusal, member_target, member_with, with_sessions, add_to}

-- the logical subsystem isn't one of the session's
abbrev pub outside_of : Option Session → ℕ → Option Refusal
outside_of None l = None
outside_of (Some x) l = outside_refusal x l

-- the session has a already, or one of these has it, or a master isn't Idle
abbrev pub taken_in : List Session → Option Session → ℕ → Option Refusal
taken_in ss None a = None
taken_in ss (Some x) a = if is_member a x then Some (Duplicate OfVolume) else option_or (in_session (find (is_member a) ss)) (busy x.mirror)

-- the member that primary a would be, where its secondary has a target for one
abbrev pub member_planned : Control → ℕ → Option Member
member_planned k a = option_map (member_with k a) (member_target k (fields_at k a).primary_partner)

-- the secondary has none
abbrev pub lone_refusal : Control → ℕ → Option Member → Option Refusal
lone_refusal k a None = Some (relation_state k (fields_at k a).primary_partner)
lone_refusal k a (Some m) = None

-- what the pair and its targets say: no member can be made of them
abbrev pub pair_refusal : Control → ℕ → Option Refusal
pair_refusal k a = option_or (copy_refusal k a) (lone_refusal k a (member_planned k a))

-- one of the three volumes has a place in a member of one of these sessions
abbrev pub placed_in : List Session → Option Member → Option Refusal
placed_in ss None = None
placed_in ss (Some m) = in_session (find (has_place_of m) ss)

-- Why a becomes no member of session x, from the point where both are there: the session hasn't the logical subsystem; a is a
-- member already, of the session or of another one; a master isn't Idle; no member can be made of the pair and its targets; one
-- of the three volumes has a place.
abbrev pub enrol_refusal : Control → Option Session → ℕ → ℕ → Option Refusal
enrol_refusal k x l a =
    option_or (outside_of x l) (option_or (taken_in k.sessions x a) (option_or (pair_refusal k a) (placed_in k.sessions (member_planned k a))))

-- what is done where it isn't refused, and the sessions then
abbrev pub entries_planned : Control → Option Session → Option Member → List Entry
entries_planned k (Some x) (Some m) = add_entries m (first_number k x.last m)
entries_planned k x m = []

-- what becomes of the sessions: the last number is raised, and the member joins
abbrev pub sessions_planned : Control → ℕ → Option Session → Option Member → List Session → List Session
sessions_planned k s (Some x) (Some m) ss = changed s (with_member m) (changed s (raised (first_number k x.last m)) ss)
sessions_planned k s x m ss = ss

-- the plan then
abbrev pub plan_of : Control → ℕ → Option Session → Option Member → Plan
plan_of k s x m = record {
  first = same;
  told = [];
  entries = entries_planned k x m;
  follows = none_follow;
  last = with_sessions (sessions_planned k s x m);
  says = always (Done Alone);
}

-- The plan that the step table has, from the same point on, is refused for that, and else is that one.
abbrev pub AddsSo : Control → ℕ → Option Session → ℕ → ℕ → Type 0
AddsSo k s None l a = Unit {0}
AddsSo k s (Some x) l a = add_to k s x l a ≡ unless (enrol_refusal k (Some x) l a) (plan_of k s (Some x) (member_planned k a))

-- a refusal but for the stop of a server
abbrev pub unless_stop : Option Refusal → Option Refusal
unless_stop None = None
unless_stop (Some (Stopped server)) = None
unless_stop (Some why) = Some why
