use Rattle.std.proofs.Common.{take, ap, sym, ◌∙◌}
use Rattle.std.proofs.lemmas.List.{take_more}
use Rattle.dr_model.specs.Sessions.{servers_of}
use Rattle.dr_session.proofs.MemberLemmas.{servers_of-push}
use Rattle.dr_session.proofs.members.servers_of.Goals as goal

pub loop-m-preserved : goal.loop-m-preserved
loop-m-preserved c =
    servers_of-push (take c.loop-m.m-index c.args.members.now) _ _ _ c.loop-m.invariant c.with-servers.ensures
    ∙ ap servers_of (sym (take_more c.args.members.now c.loop-m.m-index _ c.loop-m-test.true))
