-- Orders as they arrive at their servers: what is looked at before their age, and that one isn't carried out.
use Rattle.std.specs.Prelude.{◌≡◌, ◌<◌, ℕ, true, false, Some, None}
use Rattle.dr_ids.specs.declared.refusal.Refusal.{Refusal}
use Rattle.dr_model.specs.Control.{Control}
use Rattle.dr_model.specs.Sessions.{Session, Mirror, session_in}
use Rattle.dr_model.specs.Messages.{Flight, Message, Asks, message_in, is_full}
use Rattle.dr_model.specs.MessagePlans.{deliver_plan}
use Rattle.dr_model.specs.PlanParts.{Plan, refuses}
use Rattle.dr_model.specs.SessionPlans.{apart_refusal}

-- the message of number n is in flight, and it is an order
pub record IsOrderAt (k : Control) (n : ℕ) (m : Message) : Type 0 where
  pub there : message_in k.flight n ≡ Some m
  pub starts : ℕ
  pub asks : m.body ≡ Asks starts

-- its epoch is below the fence of its server: that has reported for a later one
abbrev pub IsBelowFence : Flight → Message → Type 0
IsBelowFence f m = m.epoch < f.fence m.session m.server

-- A plan is nothing but a refusal: it has no entries, changes no table, and tells its answer alone.
pub record IsRefused (p : Plan) : Type 0 where
  pub refusal : Refusal
  pub is : p ≡ refuses refusal

-- each order that is in flight below its server's fence is refused as it arrives
abbrev pub FencesHold : Control → Type 0
FencesHold k = (n : ℕ) (m : Message) → IsOrderAt k n m → IsBelowFence k.flight m → IsRefused (deliver_plan k n)

-- What is looked at before the age of an order that arrives is as it should be: its session is defined and has a master, its server is on
-- and can be reached from the master's, and there is room for the reply.
pub record MayArrive (k : Control) (m : Message) : Type 0 where
  pub session : Session
  pub found : session_in k.sessions m.session ≡ Some session
  pub on : k.on m.server ≡ true
  pub mirror : Mirror
  pub has_master : session.mirror ≡ Some mirror
  pub near : apart_refusal k mirror.server m.server ≡ None
  pub room : is_full k.flight ≡ false
