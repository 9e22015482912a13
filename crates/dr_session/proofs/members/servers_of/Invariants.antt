use Rattle.std.proofs.Common.{◌≡◌, take}
use Rattle.dr_master.specs.Seen.{servers_in}
use Rattle.dr_model.specs.Sessions as model
use Rattle.dr_session.proofs.members.servers_of.Given as goal

abbrev pub invariant-loop-m : goal.invariant-loop-m
invariant-loop-m l = servers_in l.servers.0 ≡ model.servers_of (take l.m-index l.members)
