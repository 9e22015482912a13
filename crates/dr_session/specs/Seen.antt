-- What the fields of a session and of the table are to contracts.
use Rattle.std.specs.Prelude.{ℕ, Bool, false, Option, Some, None, vec_len, nat_lt, option_map}
use Rattle.dr_master.specs.Seen.{is_expected}
use Rattle.dr_master.specs.declared.reports.Reply.{Reply}
use Rattle.std.specs.Vec.{vec_capacity}
use Rattle.dr_session.specs.declared.session.Mirror.{Mirror}
use Rattle.dr_session.specs.declared.session.Session.TheInside as session
use Rattle.dr_model.specs.Sessions as model
use Rattle.dr_session.specs.Kept.{KeptSession}

-- a session's master, with its server
abbrev pub mirror_of : Mirror → model.Mirror
mirror_of r = record { server = r.server.0; paused = r.paused; master = r.master }

-- a session
abbrev pub session_of : session.Inside → model.Session
session_of x = record {
  number = x.number.0;
  subsystems = x.subsystems.items;
  members = x.members.items;
  last = x.last;
  mirror = option_map mirror_of x.mirror;
}

-- with whether one more member takes no memory
abbrev pub kept_of : session.Inside → KeptSession
kept_of x = record { session = session_of x; room = nat_lt (vec_len x.members) (vec_capacity x.members) }

-- whether there is a master, and it awaits this reply
abbrev pub expects : Option model.Mirror → ℕ → Reply → Bool
expects None s r = false
expects (Some m) s r = is_expected m.master s r
