-- An order that a call carried out on members of a session, and what stays over it.
use Rattle.std.specs.Prelude.{◌≡◌, ℕ, ◌≤◌, ◌+◌, Bool, true, false, List, length, Result, Ok, Err, IfOk, OnOk, OnErr}
use Rattle.dr_ids.specs.declared.names.Member.{Member}
use Rattle.dr_ids.specs.declared.refusal.Refusal.{Refusal}
use Rattle.dr_plant.specs.State.{PlantState}
use Rattle.dr_config.specs.Table.{ConfigTable}
use Rattle.dr_model.specs.Log.{Log}
use Rattle.dr_model.specs.Phases.{Work}
use Rattle.dr_model.specs.Sessions.{Session, session_in, members_in}
use Rattle.dr_model.specs.SessionEntries.{order_entries}
use Rattle.dr_volume.specs.View.{Rest}
use Rattle.dr_moves.specs.Checks.{is_stop}
use Rattle.dr_moves.specs.Here.{world_seen, armed_in, refusal_of}
use Rattle.dr_moves.specs.Made.{Kept}
use Rattle.dr_moves.specs.Turns.{Leads, Fails}
use Rattle.dr_gmirror.specs.Orders.{with_sessions, to_begin, MayOrder, is_seal, sync_seen, waits_in}

-- a call that says whether something has to wait, as one that says nothing
abbrev pub done_of : {T : Type 0} → Result T Refusal → Result (Unit {0}) Refusal
done_of (Ok x) = Ok tt
done_of (Err e) = Err e

-- one that says nothing: nothing has to wait
abbrev pub at_once : Result (Unit {0}) Refusal → Result Bool Refusal
at_once (Ok x) = Ok false
at_once (Err e) = Err e

-- From s to u the order was carried out on these members of session k, or an entry of it ended all, and the sessions came to be so.
-- The answer says whether a seal has to wait. What a primary has to send stays where the order is a seal. The order may go on, on
-- the same members, and the journal had room for two events of each member, the begin of the attempt, and a stop.
pub record Ordered (s u : PlantState) (c : ConfigTable) (old new : Log) (before after : List Session) (work : Work) (k n : ℕ) (ms : List Member) (result : Result Bool Refusal) : Type 0 where
  pub leads : OnOk result ((r : Rest) → Leads (world_seen s c (with_sessions before r) old.events) (order_entries work k n ms) (world_seen u c (with_sessions after r) new.events))
  pub fails : OnErr result ((r : Rest) → Fails (armed_in s) (world_seen s c (with_sessions before r) old.events) (order_entries work k n ms) (world_seen u c (with_sessions after r) new.events) (refusal_of result))
  pub waits : IfOk result (λ waits. waits ≡ waits_in work (sync_seen u c) ms)
  pub sync : OnOk result (is_seal work ≡ true → (q : ℕ) → sync_seen u c q ≡ sync_seen s c q)
  pub may : MayOrder work after k n
  pub members : members_in (session_in after k) ≡ members_in (session_in before k)
  pub kept : Kept s u c old new (length ms + length ms + (to_begin before k n + 1)) (is_stop (refusal_of result)) (done_of result)
  pub left : OnOk result (old.spare + to_begin after k n ≤ new.spare + (length ms + length ms + to_begin before k n))
