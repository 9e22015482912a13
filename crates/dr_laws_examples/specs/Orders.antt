-- An example: a run in which a master is lost while an order is in flight, and orders of the attempt arrive after it.
use Rattle.std.specs.Prelude.{ℕ, true, false, List, [], ◌∷◌, ◌++◌, Some, None}
use Rattle.dr_ids.specs.declared.names.Member.{Member}
use Rattle.dr_ids.specs.declared.refusal.PhaseName.TheVariants.{Releasing, Reverting}
use Rattle.dr_model.specs.declared.step.Step.TheVariants.{Server, Volume, Stop, Start, MakePath, MakePair, MakeFlash, MakeSession, AddMember, MakeMirror, Exchange, Send, Deliver}
use Rattle.dr_model.specs.Phases as phases
use Rattle.dr_model.specs.Messages.{Message, Asks}
use Rattle.dr_model.specs.Sessions.{Session}
use Rattle.dr_model.specs.Runs.{Task}
use Rattle.dr_laws_sites.specs.Example.{named, unnamed, uncopied, step}
use Rattle.dr_laws_examples.specs.Example.{host_writes}

-- Volume 1000 on server A, 2000 and 2001 on server B, by hexadecimal numbers, with one track each. 2000 is the Global Copy secondary of 1000,
-- and 2001 the FlashCopy target of 2000. The host writes an a on 1000. Session 1 has 1000 as its member, and B appoints its master.
abbrev pub with_session : List Task
with_session =
    step (Server (named 65)) ∷ step (Server (named 66))
    ∷ step (Volume 4096 (named 65) 1) ∷ step (Volume 8192 (named 66) 1) ∷ step (Volume 8193 (named 66) 1)
    ∷ step (MakePath unnamed 16 32 false)
    ∷ step (MakePair unnamed 4096 8192 2 (uncopied false)) ∷ host_writes 4096 97
    ∷ step (MakeFlash unnamed 8192 8193 true true true true false None)
    ∷ step (MakeSession unnamed 16 1) ∷ step (MakeSession unnamed 32 1) ∷ step (AddMember unnamed 16 4096 1) ∷ step (MakeMirror unnamed 32 1 None None None)
    ∷ []

-- the master sends server A the order that it is owed
abbrev pub sends : Task
sends = step (Send 1 (named 65))

-- A carries out the order that it is owed, and the master learns of it
abbrev pub asks : Task
asks = step (Exchange 1 (named 65) true)

-- The master begins attempt 1 by an order to hold, which stays in flight. Its server is stopped and started, so that the master is Lost.
abbrev pub loses : List Task
loses = with_session ++ sends ∷ step (Stop (named 66)) ∷ step (Start (named 66)) ∷ []

-- A then reports, and since nothing was flashed the master reverts.
abbrev pub settles : List Task
settles = loses ++ asks ∷ []

-- The order to revert is sent, and an exchange reverts: the master finishes.
abbrev pub reverts : List Task
reverts = sends ∷ asks ∷ []

-- Then the order to revert is sent, and stays in flight. The exchanges after it revert, end the attempt, and begin attempt 2, for which 1000 is
-- held.
abbrev pub goes_on : List Task
goes_on = sends ∷ asks ∷ asks ∷ asks ∷ []

-- all of these steps
abbrev pub old_orders : List Task
old_orders = settles ++ goes_on

-- a message arrives, as a step of its own
abbrev pub arrives : ℕ → Task
arrives n = step (Deliver n)

-- the session's member
abbrev pub the_member : Member
the_member = record { a = record { 0 = 4096 }; b = record { 0 = 8192 }; c = record { 0 = 8193 }; server = record { 0 = 0 } }

-- the session as the master reverts
abbrev pub settled_session : Session
settled_session = record {
  number = 1;
  subsystems = (record { 0 = 16 }) ∷ (record { 0 = 32 }) ∷ [];
  members = the_member ∷ [];
  last = 1;
  mirror = Some (record { server = 1; paused = false; master = record { phase = Reverting; number = 1; servers = 0 ∷ []; owed = 0 ∷ []; reports = [] } });
}

-- and as attempt 2 has begun
abbrev pub next_session : Session
next_session = record settled_session {
  last = 2;
  mirror = Some (record { server = 1; paused = false; master = record { phase = Releasing; number = 2; servers = 0 ∷ []; owed = 0 ∷ []; reports = [] } });
}

-- the order to hold, which was sent before the loss
abbrev pub hold_order : Message
hold_order = record { number = 1; session = 1; epoch = 1; server = 0; order = record { work = phases.Hold; number = 1 }; body = Asks 0 }

-- the order to revert, which was sent after it
abbrev pub revert_order : Message
revert_order = record { number = 2; session = 1; epoch = 2; server = 0; order = record { work = phases.Revert; number = 1 }; body = Asks 0 }
