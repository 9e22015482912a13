-- The step table for recoveries: all secondaries of a session are taken over, and then its targets are committed or reverted.
use Rattle.std.specs.Prelude.{ℕ, Bool, true, false, not, List, [], ◌∷◌, ◌++◌, map, Option, Some, None, option_map, ◌==◌, if◌then◌else◌}
use Rattle.std.specs.List.{find}
use Rattle.std.specs.Option.{option_or}
use Rattle.dr_ids.specs.declared.names.Member.{Member}
use Rattle.dr_ids.specs.declared.refusal.Decision.{Decision}
use Rattle.dr_ids.specs.declared.refusal.Decision.TheVariants.{Nothing, RevertAll, CommitRest, RevertSome}
use Rattle.dr_ids.specs.declared.refusal.Refusal.{Refusal}
use Rattle.dr_ids.specs.declared.refusal.Refusal.TheVariants.{Forbidden, NoGroup}
use Rattle.dr_model.specs.declared.said.Addition.TheVariants.{Alone, InGroup}
use Rattle.dr_model.specs.declared.said.Said.{Said}
use Rattle.dr_model.specs.declared.said.Said.TheVariants.{Done, Refused}
use Rattle.dr_model.specs.declared.step.Name.{Name}
use Rattle.dr_model.specs.Layout.{is_part}
use Rattle.dr_model.specs.Refusals.{server_off}
use Rattle.dr_model.specs.Control.{Control}
use Rattle.dr_model.specs.Decisions.{decision}
use Rattle.dr_model.specs.Sessions.{session_in, members_in}
use Rattle.dr_model.specs.Moves.{TakeOver, Commit, Revert}
use Rattle.dr_model.specs.Carry.{Make, EndRecovery, Pass, Do, Entry}
use Rattle.dr_model.specs.Entries.{fields_at, is_running, is_revertible, targets_of, relation_state, pair_state}
use Rattle.dr_model.specs.SessionEntries.{is_flashed, shown_by_members}
use Rattle.dr_model.specs.SessionPlans.{name_refusal, off_refusal, on_volume}
use Rattle.dr_model.specs.PlanParts.{Plan, same, none_follow, refuses, unless, entries_plan, on_session}

-- what is decided over the members of session s
abbrev pub decided_in : ℕ → Control → Decision
decided_in s k = decision (shown_by_members s (members_in (session_in k.sessions s)) k)

-- the first secondary of some members whose server is off
abbrev pub secondary_refusal : List Member → Control → Option Refusal
secondary_refusal ms k = option_map (λ m. server_off (k.volume m.b.0).server) (find (λ m. not (is_running m.b.0 k)) ms)

-- a decision that lets nothing be done
abbrev pub leaves_all : Decision → Bool
leaves_all (Nothing n) = true
leaves_all d = false

-- one that lets revertible targets be committed, and one that lets them be reverted
abbrev pub lets_commit : Decision → Bool
lets_commit (CommitRest n) = true
lets_commit d = false

-- one that lets revertible targets be reverted
abbrev pub lets_revert : Decision → Bool
lets_revert (RevertAll n) = true
lets_revert (RevertSome m n) = true
lets_revert d = false

-- the refusal that names a decision, where it doesn't let something be done
abbrev pub forbidden_unless : Bool → Decision → Option Refusal
forbidden_unless true d = None
forbidden_unless false d = Some (Forbidden d)

-- ---- what is done with one member

-- a secondary is taken over
abbrev pub take_over_on : Member → Entry
take_over_on m k = if is_part (fields_at k m.b.0).secondary then Do (Make (TakeOver m.b.0)) else Pass

-- a target that is revertible from attempt n is committed, or reverted
abbrev pub commit_flashed : ℕ → Member → ℕ → Entry
commit_flashed s m n k = if is_flashed n (fields_at k m.c.0) then Do (Make (Commit m.c.0 m.a.0 s n)) else Pass

-- it is reverted
abbrev pub revert_flashed : ℕ → Member → ℕ → Entry
revert_flashed s m n k = if is_flashed n (fields_at k m.c.0) then Do (Make (Revert m.c.0 m.a.0 s n)) else Pass

-- nothing is done with it
abbrev pub pass_on : Entry
pass_on k = Pass

-- as was decided
abbrev pub settle_on : ℕ → Decision → Member → Entry
settle_on s (CommitRest n) m = commit_flashed s m n
settle_on s (RevertAll n) m = revert_flashed s m n
settle_on s (RevertSome o n) m = revert_flashed s m n
settle_on s d m = pass_on

-- ---- the recovery of a session

-- the number that all show that count now, none where none counts
abbrev pub group_of : Decision → Option ℕ
group_of (Nothing n) = Some n
group_of d = None

-- the group as the journal is told it: 0 for none
abbrev pub group_number : Option ℕ → ℕ
group_number None = 0
group_number (Some n) = n

-- it ends, which the journal is told
abbrev pub end_recovery : ℕ → Entry
end_recovery s k = Do (EndRecovery s (group_number (group_of (decided_in s k))))

-- the group that is left, with what was decided
abbrev pub says_group : Decision → Option ℕ → Said
says_group d None = Refused (NoGroup d)
says_group d (Some n) = Done (InGroup n d)

-- what is said as the recovery of session s ends, with what was decided as it began
abbrev pub says_recovered : ℕ → Decision → Control → Said
says_recovered s d k = says_group d (group_of (decided_in s k))

-- Member by member, first all secondaries are taken over; then each target becomes what was decided. Taking over changes no target,
-- so the decision is that of the state in which the step begins.
abbrev pub recover_entries : ℕ → Decision → List Member → List Entry
recover_entries s d ms = map take_over_on ms ++ (map (settle_on s d) ms ++ end_recovery s ∷ [])

-- a recovery, behind what refuses it
abbrev pub recover_done : ℕ → Decision → List Member → Plan
recover_done s d ms = record {
  first = same;
  told = [];
  entries = recover_entries s d ms;
  follows = none_follow;
  last = same;
  says = says_recovered s d;
}

-- `@recover`
abbrev pub recover_plan : Control → ℕ → Plan
recover_plan k s = on_session (session_in k.sessions s) (λ x. unless (secondary_refusal x.members k) (recover_done s (decided_in s k) x.members))

-- ---- one target is committed or reverted by hand

-- the member of its session that t is the target of
abbrev pub member_of_target : Control → ℕ → Option Member
member_of_target k t = find (λ m. m.c.0 == t) (members_in (session_in k.sessions (fields_at k t).session))

-- the first secondary of some members that isn't taken over
abbrev pub untaken_refusal : List Member → Control → Option Refusal
untaken_refusal ms k = option_map (λ m. pair_state k m.b.0) (find (λ m. is_part (fields_at k m.b.0).secondary) ms)

-- the revertible target of source b, if it has one
abbrev pub revertible_target : Control → ℕ → Option ℕ
revertible_target k b = find (λ u. is_revertible (fields_at k u)) (targets_of k b)

-- Only with all secondaries of the session taken over, and where this may be done by what is decided now.
abbrev pub settle_refusal : (Decision → Bool) → Decision → List Member → Control → Option Refusal
settle_refusal lets d ms k = option_or (secondary_refusal ms k) (option_or (untaken_refusal ms k) (forbidden_unless (lets d) d))

-- a target by hand: what was decided is done with it, where it is a member's and that lets it be done
abbrev pub settle_member : Control → (Decision → Bool) → ℕ → ℕ → Option Member → Plan
settle_member k lets b s None = refuses (relation_state k b)
settle_member k lets b s (Some m) =
    unless (settle_refusal lets (decided_in s k) (members_in (session_in k.sessions s)) k) (entries_plan (settle_on s (decided_in s k) m ∷ []) (Done Alone))

-- the revertible target that was looked up
abbrev pub settle_target : Control → (Decision → Bool) → ℕ → Option ℕ → Plan
settle_target k lets b None = refuses (relation_state k b)
settle_target k lets b (Some t) = settle_member k lets b (fields_at k t).session (member_of_target k t)

-- `commitflash` and `revertflash`, by the decisions that let a target be committed, or reverted
abbrev pub settle_plan : Control → Option Name → (Decision → Bool) → ℕ → Plan
settle_plan k dev lets b = on_volume k b (unless (option_or (name_refusal k dev (k.volume b).server) (off_refusal k (k.volume b).server)) (settle_target k lets b (revertible_target k b)))
